-- Each edge of a graph is the edge into the entry, or leaves one of the blocks.
use Rattle.std.proofs.Common.{◌≡◌, ℕ, zero, suc, ◌+◌, ◌<◌, ◌≤◌, Bool, true, false, Option, get_or, ◌⊎◌, inl, inr, List, [], ◌∷◌, ◌++◌, length, Some, slice_get, refl, sym, ap, subst, ◌∙◌, arith}
use Rattle.std.specs.Prelude.{max}
use Rattle.std.proofs.lemmas.List.{length-append}
use Rattle.std.proofs.lemmas.Option.{none-some, same_Some, slice_get-get_or}
use Rattle.ir_tree.specs.Reach.{row}
use Rattle.ir_tree.specs.Edges.{marked_from}
use Rattle.ir_tree.specs.Edges.{branch_edge, exit_edge, row_edges, block_edges, edges_out_of}
use Rattle.ir_tree.specs.declared.edge.Edge.{Edge}
use Rattle.cfg_edges.proofs.Listed.{is_listed}

in_append : (xs ys : List Edge) (k : ℕ) (e : Edge) → slice_get (xs ++ ys) k ≡ Some e → (slice_get xs k ≡ Some e) ⊎ ((j : ℕ) × (slice_get ys j ≡ Some e))
in_append [] ys k e h = inr (k, h)
in_append (x ∷ xs) ys zero e h = inl h
in_append (x ∷ xs) ys (suc k) e h = in_append xs ys k e h

-- an edge leaves one of the blocks
pub in_blocks : (nodes : List ℕ) (rs : List (List ℕ)) (blocks : List ℕ) (k : ℕ) (e : Edge) → slice_get (edges_out_of nodes rs blocks) k ≡ Some e → (i b j : ℕ) × (slice_get blocks i ≡ Some b) × (slice_get (block_edges nodes b (row rs b)) j ≡ Some e)
in_blocks nodes rs [] k e h = absurd (none-some e h)
in_blocks nodes rs (b ∷ bs) k e h = elim (in_append (block_edges nodes b (row rs b)) (edges_out_of nodes rs bs) k e h) [
  | inl here ↦ (0, b, k, refl, here)
  | inr q ↦ (let r = in_blocks nodes rs bs q.0 e q.1 in (suc r.0, r.1, r.2, r.3, r.4))
]

pub in_row : (nodes : List ℕ) (b p : ℕ) (r : List ℕ) (j : ℕ) (e : Edge) → slice_get (row_edges nodes b p r) j ≡ Some e → (t : ℕ) × (slice_get r j ≡ Some t) × (e ≡ branch_edge nodes b (p + j) t)
in_row nodes b p [] j e h = absurd (none-some e h)
in_row nodes b p (t ∷ ts) zero e h = (t, refl, sym (same_Some (branch_edge nodes b p t) e h) ∙ ap (λ (m : ℕ). branch_edge nodes b m t) (let q : p ≡ p + 0 = omega arith in q))
in_row nodes b p (t ∷ ts) (suc j) e h =
    let r = in_row nodes b (p + 1) ts j e h in
    (r.0, r.1, r.2 ∙ ap (λ (m : ℕ). branch_edge nodes b m r.0) (let q : p + 1 + j ≡ p + suc j = omega arith in q))

-- an edge out of a block is its exit, or goes to a successor
pub in_block : (nodes : List ℕ) (b : ℕ) (r : List ℕ) (j : ℕ) (e : Edge) → slice_get (block_edges nodes b r) j ≡ Some e → ((r ≡ []) × (e ≡ exit_edge nodes b)) ⊎ ((t p : ℕ) × (slice_get r p ≡ Some t) × (e ≡ branch_edge nodes b p t))
in_block nodes b [] zero e h = inl (refl, sym (same_Some (exit_edge nodes b) e h))
in_block nodes b [] (suc j) e h = absurd (none-some e h)
in_block nodes b (t ∷ ts) j e h =
    let r = in_row nodes b 0 (t ∷ ts) j e h in
    inr (r.0, j, r.1, r.2 ∙ ap (λ (m : ℕ). branch_edge nodes b m r.0) (let q : 0 + j ≡ j = omega arith in q))

row_size : (nodes : List ℕ) (b p : ℕ) (r : List ℕ) → length (row_edges nodes b p r) ≡ length r
row_size nodes b p [] = refl
row_size nodes b p (t ∷ ts) = ap (λ (m : ℕ). suc m) (row_size nodes b (p + 1) ts)

pub block_size : (nodes : List ℕ) (b : ℕ) (r : List ℕ) → length (block_edges nodes b r) ≡ max 1 (length r)
block_size nodes b [] = refl
block_size nodes b (t ∷ ts) = omega (arith, row_size nodes b 0 (t ∷ ts))

-- each block has an edge out
pub enough_edges : (nodes : List ℕ) (rs : List (List ℕ)) (blocks : List ℕ) → length blocks ≤ length (edges_out_of nodes rs blocks)
enough_edges nodes rs [] = omega arith
enough_edges nodes rs (b ∷ bs) =
    omega (arith, enough_edges nodes rs bs, block_size nodes b (row rs b), length-append (block_edges nodes b (row rs b)) (edges_out_of nodes rs bs))

-- ---- each successor has an edge

pub at_front : (xs ys : List Edge) (k : ℕ) (e : Edge) → slice_get xs k ≡ Some e → slice_get (xs ++ ys) k ≡ Some e
at_front [] ys k e h = absurd (none-some e h)
at_front (x ∷ xs) ys zero e h = h
at_front (x ∷ xs) ys (suc k) e h = at_front xs ys k e h

behind : (xs ys : List Edge) (k : ℕ) (e : Edge) → slice_get ys k ≡ Some e → (m : ℕ) × (slice_get (xs ++ ys) m ≡ Some e)
behind [] ys k e h = (k, h)
behind (x ∷ xs) ys k e h = let r = behind xs ys k e h in (suc r.0, r.1)

at_row : (nodes : List ℕ) (b q : ℕ) (r : List ℕ) (p t : ℕ) → slice_get r p ≡ Some t → slice_get (row_edges nodes b q r) p ≡ Some (branch_edge nodes b (q + p) t)
at_row nodes b q [] p t h = absurd (none-some t h)
at_row nodes b q (u ∷ us) zero t h = ap (λ (x : ℕ). Some (branch_edge nodes b q x)) (same_Some u t h) ∙ ap (λ (m : ℕ). Some (branch_edge nodes b m t)) (let e : q ≡ q + 0 = omega arith in e)
at_row nodes b q (u ∷ us) (suc p) t h = at_row nodes b (q + 1) us p t h ∙ ap (λ (m : ℕ). Some (branch_edge nodes b m t)) (let e : q + 1 + p ≡ q + suc p = omega arith in e)

at_block : (nodes : List ℕ) (b : ℕ) (r : List ℕ) (p t : ℕ) → slice_get r p ≡ Some t → slice_get (block_edges nodes b r) p ≡ Some (branch_edge nodes b p t)
at_block nodes b [] p t h = absurd (none-some t h)
at_block nodes b (u ∷ us) p t h = at_row nodes b 0 (u ∷ us) p t h ∙ ap (λ (m : ℕ). Some (branch_edge nodes b m t)) (let e : 0 + p ≡ p = omega arith in e)

at_blocks : (nodes : List ℕ) (rs : List (List ℕ)) (blocks : List ℕ) (i b j : ℕ) (e : Edge) → slice_get blocks i ≡ Some b → slice_get (block_edges nodes b (row rs b)) j ≡ Some e → (k : ℕ) × (slice_get (edges_out_of nodes rs blocks) k ≡ Some e)
at_blocks nodes rs [] i b j e is h = absurd (none-some b is)
at_blocks nodes rs (c ∷ cs) zero b j e is h = (j, at_front (block_edges nodes c (row rs c)) (edges_out_of nodes rs cs) j e (subst (λ (x : ℕ). slice_get (block_edges nodes x (row rs x)) j ≡ Some e) (sym (same_Some c b is)) h))
at_blocks nodes rs (c ∷ cs) (suc i) b j e is h = let r = at_blocks nodes rs cs i b j e is h in behind (block_edges nodes c (row rs c)) (edges_out_of nodes rs cs) r.0 e r.1

pub has_edge : (nodes : List ℕ) (rs : List (List ℕ)) (blocks : List ℕ) (i b p t : ℕ) → slice_get blocks i ≡ Some b → slice_get (row rs b) p ≡ Some t → (k : ℕ) × (slice_get (edges_out_of nodes rs blocks) k ≡ Some (branch_edge nodes b p t))
has_edge nodes rs blocks i b p t is h = at_blocks nodes rs blocks i b p (branch_edge nodes b p t) is (at_block nodes b (row rs b) p t h)

-- ---- one edge for a block and a position

split : (xs ys : List Edge) (k : ℕ) (e : Edge) → slice_get (xs ++ ys) k ≡ Some e → (slice_get xs k ≡ Some e) ⊎ ((j : ℕ) × (k ≡ length xs + j) × (slice_get ys j ≡ Some e))
split [] ys k e h = inr (k, omega arith, h)
split (x ∷ xs) ys zero e h = inl h
split (x ∷ xs) ys (suc k) e h = elim (split xs ys k e h) [ inl here ↦ inl here | inr q ↦ inr (q.0, omega (arith, q.1), q.2) ]

-- the edge of a block at a place is that of the successor at this position
pub edge_at : (nodes : List ℕ) (b : ℕ) (r : List ℕ) (j : ℕ) (e : Edge) → slice_get (block_edges nodes b r) j ≡ Some e → (e.block ≡ Some b) × (e.position ≡ j)
edge_at nodes b [] zero e h = let is = same_Some (exit_edge nodes b) e h in (sym (ap (λ (x : Edge). x.block) is), sym (ap (λ (x : Edge). x.position) is))
edge_at nodes b [] (suc j) e h = absurd (none-some e h)
edge_at nodes b (t ∷ ts) j e h =
    let r = in_row nodes b 0 (t ∷ ts) j e h in
    (ap (λ (x : Edge). x.block) r.2, ap (λ (x : Edge). x.position) r.2 ∙ (let q : 0 + j ≡ j = omega arith in q))

-- an edge out of blocks from k on leaves one of them
from_on : (nodes : List ℕ) (rs : List (List ℕ)) (k : ℕ) (ms : List Bool) (i : ℕ) (e : Edge) → slice_get (edges_out_of nodes rs (marked_from k ms)) i ≡ Some e → (c : ℕ) × (e.block ≡ Some c) × (k ≤ c)
from_on nodes rs k ms i e h =
    let q = in_blocks nodes rs (marked_from k ms) i e h in
    let r = is_listed 0 k ms q.0 q.1 q.3 in
    (q.1, (edge_at nodes q.1 (row rs q.1) q.2 e q.4).0, omega (arith, r.1))

clash : (k c : ℕ) (o p : Option ℕ) → o ≡ Some k → p ≡ Some c → o ≡ p → k + 1 ≤ c → ⊥
clash k c o p a b e h = let same : k ≡ c = same_Some k c (sym a ∙ e ∙ b) in omega (arith, same, h)

-- the edges of block k, then those of the later blocks
module _ (nodes : List ℕ) (rs : List (List ℕ)) (k : ℕ) (ms : List Bool) (i j : ℕ) (d e : Edge) (b : d.block ≡ e.block) (p : d.position ≡ e.position)
    (more : (i j : ℕ) (d e : Edge) → slice_get (edges_out_of nodes rs (marked_from (k + 1) ms)) i ≡ Some d → slice_get (edges_out_of nodes rs (marked_from (k + 1) ms)) j ≡ Some e → d.block ≡ e.block → d.position ≡ e.position → i ≡ j) where
  apart_at : (slice_get (block_edges nodes k (row rs k)) i ≡ Some d) ⊎ ((m : ℕ) × (i ≡ length (block_edges nodes k (row rs k)) + m) × (slice_get (edges_out_of nodes rs (marked_from (k + 1) ms)) m ≡ Some d))
      → (slice_get (block_edges nodes k (row rs k)) j ≡ Some e) ⊎ ((m : ℕ) × (j ≡ length (block_edges nodes k (row rs k)) + m) × (slice_get (edges_out_of nodes rs (marked_from (k + 1) ms)) m ≡ Some e)) → i ≡ j
  apart_at (inl x) (inl y) = sym (edge_at nodes k (row rs k) i d x).1 ∙ p ∙ (edge_at nodes k (row rs k) j e y).1
  apart_at (inl x) (inr y) =
      let r = from_on nodes rs (k + 1) ms y.0 e y.2 in
      absurd (clash k r.0 d.block e.block (edge_at nodes k (row rs k) i d x).0 r.1 b r.2)
  apart_at (inr x) (inl y) =
      let r = from_on nodes rs (k + 1) ms x.0 d x.2 in
      absurd (clash k r.0 e.block d.block (edge_at nodes k (row rs k) j e y).0 r.1 (sym b) r.2)
  apart_at (inr x) (inr y) = let same : x.0 ≡ y.0 = more x.0 y.0 d e x.2 y.2 b p in omega (arith, same, x.1, y.1)

pub apart_from : (nodes : List ℕ) (rs : List (List ℕ)) (k : ℕ) (ms : List Bool) (i j : ℕ) (d e : Edge) → slice_get (edges_out_of nodes rs (marked_from k ms)) i ≡ Some d → slice_get (edges_out_of nodes rs (marked_from k ms)) j ≡ Some e → d.block ≡ e.block → d.position ≡ e.position → i ≡ j
apart_from nodes rs k [] i j d e hd he b p = absurd (none-some d hd)
apart_from nodes rs k (false ∷ ms) i j d e hd he b p = apart_from nodes rs (k + 1) ms i j d e hd he b p
apart_from nodes rs k (true ∷ ms) i j d e hd he b p =
    apart_at nodes rs k ms i j d e b p (apart_from nodes rs (k + 1) ms) (split (block_edges nodes k (row rs k)) (edges_out_of nodes rs (marked_from (k + 1) ms)) i d hd) (split (block_edges nodes k (row rs k)) (edges_out_of nodes rs (marked_from (k + 1) ms)) j e he)

-- ---- each way out of a block has an edge

pub out_at : (nodes : List ℕ) (b : ℕ) (r : List ℕ) (p : ℕ) → p < max 1 (length r) → (e : Edge) × (slice_get (block_edges nodes b r) p ≡ Some e)
out_at nodes b [] zero h = (exit_edge nodes b, refl)
out_at nodes b [] (suc p) h = absurd (omega (arith, h))
out_at nodes b (t ∷ ts) p h =
    let u : ℕ = get_or (t ∷ ts) p 0 in
    (branch_edge nodes b p u, at_block nodes b (t ∷ ts) p u (slice_get-get_or (t ∷ ts) p 0 (omega (arith, h))))

pub behind_at : (xs ys : List Edge) (n k : ℕ) → length xs ≡ n → slice_get (xs ++ ys) (n + k) ≡ slice_get ys k
behind_at [] ys n k size = ap (λ (j : ℕ). slice_get ys j) (let e : n + k ≡ k = omega (arith, size) in e)
behind_at (x ∷ xs) ys zero k size = absurd (omega (arith, size))
behind_at (x ∷ xs) ys (suc n) k size = ap (λ (j : ℕ). slice_get (x ∷ xs ++ ys) j) (let e : suc n + k ≡ suc (n + k) = omega arith in e) ∙ behind_at xs ys n k (omega (arith, size))
