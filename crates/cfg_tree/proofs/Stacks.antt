-- The depth-first walk on a stack.
use Rattle.std.proofs.Common.{◌≡◌, ℕ, zero, suc, ◌+◌, ◌-◌, ◌<◌, ◌≤◌, Bool, true, false, List, [], ◌∷◌, ◌++◌, length, Some, slice_get, slice_index, set, replicate, sum_by, refl, sym, ap, subst, ◌∙◌, arith, length-set, get_or-set_other}
use Rattle.std.specs.List.{All}
use Rattle.std.proofs.lemmas.List.{get_or-replicate, length_push, length-replicate}
use Rattle.std.proofs.lemmas.List.Elements.{All-cons, All-nil, All-pop, All-push}
use Rattle.std.proofs.lemmas.List.Sums.{sum_by-cons, sum_by-set, sum_by_push}
use Rattle.ir_tree.specs.declared.edge.Edge.{Edge}
use Rattle.ir_tree.specs.Reach.{is_marked}
use Rattle.spanning_order.specs.Spanning.{edge_at}
use Rattle.cfg_tree.specs.Incident.{edges_out}
use Rattle.cfg_tree.specs.Chains.{AreChains, EndsAreBelow, IsPlace, Leads, from_place}
use Rattle.cfg_tree.specs.Walk.{Seen, enters, finishes, goes_back, looks, looks_at, unseen, visits, walked}
use Rattle.cfg_tree.specs.Walking.{IsFrame, Walking, after_look, done, frame, one_unless, state, unentered}
use Rattle.cfg_tree.specs.declared.chains.End.TheVariants.{Head, Tail}
use Rattle.cfg_tree.proofs.Chained.{is_edge as edge_within, edge_is as edge_stands, row as row_at, is_place as next_place}

abbrev pub unless : Bool → ℕ → ℕ
unless true n = 0
unless false n = n

-- a number for each node without a mark, the first of these nodes being v
abbrev pub waiting : (ℕ → ℕ) → ℕ → List Bool → ℕ
waiting f v [] = 0
waiting f v (m ∷ ms) = unless m (f v) + waiting f (v + 1) ms

pub waiting_set : (f : ℕ → ℕ) (v : ℕ) (marks : List Bool) (t : ℕ) → t < length marks → is_marked marks t ≡ false → waiting f v (set marks t true) + f (v + t) ≡ waiting f v marks
waiting_set f v [] t lt bare = absurd (omega arith)
waiting_set f v (m ∷ ms) zero lt bare =
    let here : f (v + 0) ≡ f v = ap f (let e : v + 0 ≡ v = omega arith in e) in
    let was : unless m (f v) ≡ f v = ap (λ (b : Bool). unless b (f v)) bare in
    omega arith
waiting_set f v (m ∷ ms) (suc t) lt bare =
    let more = waiting_set f (v + 1) ms t (omega arith) bare in
    let there : f (v + suc t) ≡ f (v + 1 + t) = ap f (let e : v + suc t ≡ v + 1 + t = omega arith in e) in
    omega arith

-- the looks that are left at the nodes of the stack, and at those that are not entered
abbrev pub looks_at_frame : List Edge → ℕ × ℕ → ℕ
looks_at_frame edges f = length (from_place Tail edges f.0 f.1) + 1

abbrev pub looks_left : List Edge → List Bool → List (ℕ × ℕ) → ℕ
looks_left edges entered stack = waiting (λ v. length (edges_out edges v) + 1) 0 entered + sum_by (looks_at_frame edges) stack

one_less : (n : ℕ) → 0 < n → (m : ℕ) × (n ≡ suc m)
one_less zero h = absurd (omega arith)
one_less (suc n) h = (n, refl)

-- a node on top of a stack is done before the others
done_push : (edges : List Edge) (n : ℕ) (xs : List (ℕ × ℕ)) (f : ℕ × ℕ) (s : Seen) (m : ℕ) → n ≡ length xs + suc m
    → done n edges (xs ++ f ∷ []) s ≡ done n edges xs (finishes f.0 (looks_at (visits m edges) edges (from_place Tail edges f.0 f.1) s))
done_push edges zero xs f s m e = absurd (omega arith)
done_push edges (suc n) [] f s m e = ap (λ (k : ℕ). finishes f.0 (looks_at (visits k edges) edges (from_place Tail edges f.0 f.1) s)) (let q : n ≡ m = omega arith in q)
done_push edges (suc n) (x ∷ xs) f s m e = ap (λ (t : Seen). finishes x.0 (looks_at (visits n edges) edges (from_place Tail edges x.0 x.1) t)) (done_push edges n xs f s m (omega arith))

visited : (edges : List Edge) (m : ℕ) (t : ℕ) (s : Seen) → visits (suc m) edges t s ≡ finishes t (looks_at (visits m edges) edges (edges_out edges t) (enters t s))
unfolding visits
visited edges m t s = refl

pub some_unentered : (marks : List Bool) (t : ℕ) → t < length marks → is_marked marks t ≡ false → 0 < unentered marks
some_unentered marks t lt bare = (let e = sum_by-set one_unless marks t true false lt in let one : one_unless (is_marked marks t) ≡ 1 = ap one_unless bare in omega (arith, e, one))

pub less_unentered : (marks : List Bool) (t : ℕ) → t < length marks → is_marked marks t ≡ false → unentered (set marks t true) + 1 ≡ unentered marks
less_unentered marks t lt bare = (let e = sum_by-set one_unless marks t true false lt in let one : one_unless (is_marked marks t) ≡ 1 = ap one_unless bare in omega (arith, e, one))

module _ (edges : List Edge) (nodes : ℕ) (s : Seen) (items xs : List (ℕ × ℕ)) (v place : ℕ) (w : Walking edges nodes s items) (popped : items ≡ xs ++ frame v place ∷ []) where
  -- the frame was taken off the stack
  height : unentered s.entered + (length xs + 1) ≤ nodes
  height = let e : length items ≡ length xs + 1 = ap length popped ∙ length_push xs (frame v place) in let d = w.deep in omega (arith, e, d)

  parts : All (IsFrame edges nodes) xs × IsFrame edges nodes (frame v place)
  parts = All-pop (IsFrame edges nodes) items xs (Some (frame v place)) popped w.frames

  pub is_node : v < nodes
  is_node = parts.1.0

  pub is_place : IsPlace Tail edges v place
  is_place = parts.1.1

  depth : ℕ
  depth = nodes - (length xs + 1)

  is_depth : nodes ≡ length xs + suc depth
  unfolding depth
  is_depth = let h = height in omega (arith, h)

  comes : done nodes edges (xs ++ frame v place ∷ []) s ≡ walked nodes edges
  comes = subst (λ (fs : List (ℕ × ℕ)). done nodes edges fs s ≡ walked nodes edges) popped w.comes_to

  frame_done : done nodes edges xs (finishes v (looks_at (visits depth edges) edges (from_place Tail edges v place) s)) ≡ walked nodes edges
  frame_done = sym (done_push edges nodes xs (frame v place) s depth is_depth) ∙ comes

  pub finished_with : place ≡ 0 → Walking edges nodes (finishes v s) xs
  finished_with none = record {
    entered = w.entered;
    finished = length-set s.finished v true ∙ w.finished;
    back = w.back;
    frames = parts.0;
    deep = let h = height in omega (arith, h);
    comes_to = subst (λ (p : ℕ). done nodes edges xs (finishes v (looks_at (visits depth edges) edges (from_place Tail edges v p) s)) ≡ walked nodes edges) none frame_done;
  }

  pub finished_less : place ≡ 0 → looks_left edges s.entered xs < looks_left edges s.entered items
  finished_less none =
      let e : sum_by (looks_at_frame edges) items ≡ sum_by (looks_at_frame edges) xs + looks_at_frame edges (frame v place) = ap (λ (fs : List (ℕ × ℕ)). sum_by (looks_at_frame edges) fs) popped ∙ sum_by_push (looks_at_frame edges) xs (frame v place) in
      omega (arith, e)

  module _ (k : ℕ) (at : place ≡ suc k) (first next : List ℕ) (chains : AreChains Tail edges nodes first next) (heads : EndsAreBelow Head edges nodes) where
    pub is_edge : k < length edges
    is_edge = edge_within Tail edges nodes first next chains v k place at is_place

    edge_is : slice_get edges k ≡ Some (edge_at edges k)
    edge_is = edge_stands Tail edges nodes first next chains v k place at is_place

    row : from_place Tail edges v place ≡ k ∷ from_place Tail edges v (slice_index next k)
    row = row_at Tail edges nodes first next chains v k place at is_place

    waits : All (IsFrame edges nodes) (xs ++ frame v (slice_index next k) ∷ [])
    waits = All-push (IsFrame edges nodes) xs (frame v (slice_index next k)) parts.0 (is_node, next_place Tail edges nodes first next chains v k place at is_place)

    sum_before : sum_by (looks_at_frame edges) items ≡ sum_by (looks_at_frame edges) xs + (length (from_place Tail edges v (slice_index next k)) + 1 + 1)
    sum_before =
        let e : sum_by (looks_at_frame edges) items ≡ sum_by (looks_at_frame edges) xs + looks_at_frame edges (frame v place) = ap (λ (fs : List (ℕ × ℕ)). sum_by (looks_at_frame edges) fs) popped ∙ sum_by_push (looks_at_frame edges) xs (frame v place) in
        let r : length (from_place Tail edges v place) ≡ suc (length (from_place Tail edges v (slice_index next k))) = ap (λ (ks : List ℕ). length ks) row in
        omega (arith, e, r)

    sum_then : sum_by (looks_at_frame edges) (xs ++ frame v (slice_index next k) ∷ []) ≡ sum_by (looks_at_frame edges) xs + (length (from_place Tail edges v (slice_index next k)) + 1)
    sum_then = sum_by_push (looks_at_frame edges) xs (frame v (slice_index next k))

    -- what is left when edge k was looked at
    looked : done nodes edges xs (finishes v (looks_at (visits depth edges) edges (from_place Tail edges v (slice_index next k)) (looks (visits depth edges) k (edge_at edges k).to (is_marked s.entered (edge_at edges k).to) (is_marked s.finished (edge_at edges k).to) s))) ≡ walked nodes edges
    looked = subst (λ (ks : List ℕ). done nodes edges xs (finishes v (looks_at (visits depth edges) edges ks s)) ≡ walked nodes edges) row frame_done

    height_then : (n : ℕ) → n ≡ length (xs ++ frame v (slice_index next k) ∷ []) → unentered s.entered + n ≤ nodes
    height_then n is = let h = height in let e = length_push xs (frame v (slice_index next k)) in omega (arith, h, e, is)

    in_marks : (edge_at edges k).to < length s.entered
    in_marks = subst (λ (n : ℕ). (edge_at edges k).to < n) (sym w.entered) (heads k (edge_at edges k) edge_is)

    deep_enough : is_marked s.entered (edge_at edges k).to ≡ false → 0 < depth
    unfolding depth
    deep_enough p = let h = height in let o = some_unentered s.entered (edge_at edges k).to in_marks p in omega (arith, h, o)

    by : (b c : Bool) → is_marked s.entered (edge_at edges k).to ≡ b → is_marked s.finished (edge_at edges k).to ≡ c
        → Walking edges nodes (after_look k (edge_at edges k).to b c (slice_index first (edge_at edges k).to) s (xs ++ frame v (slice_index next k) ∷ [])).0 (after_look k (edge_at edges k).to b c (slice_index first (edge_at edges k).to) s (xs ++ frame v (slice_index next k) ∷ [])).1
    by true true p q = record {
      entered = w.entered;
      finished = w.finished;
      back = w.back;
      frames = waits;
      deep = height_then _ refl;
      comes_to = done_push edges nodes xs (frame v (slice_index next k)) s depth is_depth
          ∙ subst (λ (b : Bool). done nodes edges xs (finishes v (looks_at (visits depth edges) edges (from_place Tail edges v (slice_index next k)) (looks (visits depth edges) k (edge_at edges k).to true b s))) ≡ walked nodes edges) q
          (subst (λ (b : Bool). done nodes edges xs (finishes v (looks_at (visits depth edges) edges (from_place Tail edges v (slice_index next k)) (looks (visits depth edges) k (edge_at edges k).to b (is_marked s.finished (edge_at edges k).to) s))) ≡ walked nodes edges) p looked);
    }
    by true false p q = record {
      entered = w.entered;
      finished = w.finished;
      back = length-set s.back k true ∙ w.back;
      frames = waits;
      deep = height_then _ refl;
      comes_to = done_push edges nodes xs (frame v (slice_index next k)) (goes_back k s) depth is_depth
          ∙ subst (λ (b : Bool). done nodes edges xs (finishes v (looks_at (visits depth edges) edges (from_place Tail edges v (slice_index next k)) (looks (visits depth edges) k (edge_at edges k).to true b s))) ≡ walked nodes edges) q
          (subst (λ (b : Bool). done nodes edges xs (finishes v (looks_at (visits depth edges) edges (from_place Tail edges v (slice_index next k)) (looks (visits depth edges) k (edge_at edges k).to b (is_marked s.finished (edge_at edges k).to) s))) ≡ walked nodes edges) p looked);
    }
    by false c p q = record {
      entered = length-set s.entered (edge_at edges k).to true ∙ w.entered;
      finished = w.finished;
      back = w.back;
      frames = All-push (IsFrame edges nodes) (xs ++ frame v (slice_index next k) ∷ []) (frame (edge_at edges k).to (slice_index first (edge_at edges k).to)) waits (heads k (edge_at edges k) edge_is, firsts.is_place);
      deep = let h = height_then _ refl in let e = length_push (xs ++ frame v (slice_index next k) ∷ []) (frame (edge_at edges k).to (slice_index first (edge_at edges k).to)) in let l = less_unentered s.entered (edge_at edges k).to in_marks p in omega (arith, h, e, l);
      comes_to = done_push edges nodes (xs ++ frame v (slice_index next k) ∷ []) (frame (edge_at edges k).to (slice_index first (edge_at edges k).to)) (enters (edge_at edges k).to s) m (let e = length_push xs (frame v (slice_index next k)) in let d = is_depth in let o = deeper in omega (arith, e, d, o))
          ∙ ap (λ (ks : List ℕ). done nodes edges (xs ++ frame v (slice_index next k) ∷ []) (finishes (edge_at edges k).to (looks_at (visits m edges) edges ks (enters (edge_at edges k).to s)))) (sym firsts.rest)
          ∙ ap (λ (t : Seen). done nodes edges (xs ++ frame v (slice_index next k) ∷ []) t) (sym (visited edges m (edge_at edges k).to s))
          ∙ done_push edges nodes xs (frame v (slice_index next k)) (visits (suc m) edges (edge_at edges k).to s) depth is_depth
          ∙ ap (λ (n : ℕ). done nodes edges xs (finishes v (looks_at (visits depth edges) edges (from_place Tail edges v (slice_index next k)) (visits n edges (edge_at edges k).to s)))) (sym deeper)
          ∙ subst (λ (b : Bool). done nodes edges xs (finishes v (looks_at (visits depth edges) edges (from_place Tail edges v (slice_index next k)) (looks (visits depth edges) k (edge_at edges k).to b (is_marked s.finished (edge_at edges k).to) s))) ≡ walked nodes edges) p looked;
    }
      where
        firsts : Leads Tail edges (edge_at edges k).to 0 (slice_index first (edge_at edges k).to)
        firsts = chains.firsts (edge_at edges k).to (heads k (edge_at edges k) edge_is)

        m : ℕ
        m = (one_less depth (deep_enough p)).0

        deeper : depth ≡ suc m
        deeper = (one_less depth (deep_enough p)).1

    shorter : (b c : Bool) → is_marked s.entered (edge_at edges k).to ≡ b
        → looks_left edges (after_look k (edge_at edges k).to b c (slice_index first (edge_at edges k).to) s (xs ++ frame v (slice_index next k) ∷ [])).0.entered (after_look k (edge_at edges k).to b c (slice_index first (edge_at edges k).to) s (xs ++ frame v (slice_index next k) ∷ [])).1
        < looks_left edges s.entered items
    shorter true true p = let e = sum_before in let l = sum_then in omega (arith, e, l)
    shorter true false p = let e = sum_before in let l = sum_then in omega (arith, e, l)
    shorter false c p =
        let e = sum_before in
        let l = sum_then in
        let t = sum_by_push (looks_at_frame edges) (xs ++ frame v (slice_index next k) ∷ []) (frame (edge_at edges k).to (slice_index first (edge_at edges k).to)) in
        let r : length (edges_out edges (edge_at edges k).to) ≡ length (from_place Tail edges (edge_at edges k).to (slice_index first (edge_at edges k).to)) = ap (λ (ks : List ℕ). length ks) (chains.firsts (edge_at edges k).to (heads k (edge_at edges k) edge_is)).rest in
        let wait = waiting_set (λ (u : ℕ). length (edges_out edges u) + 1) 0 s.entered (edge_at edges k).to in_marks p in
        let zero_more : length (edges_out edges (0 + (edge_at edges k).to)) ≡ length (edges_out edges (edge_at edges k).to) = ap (λ (u : ℕ). length (edges_out edges u)) (let z : 0 + (edge_at edges k).to ≡ (edge_at edges k).to = omega arith in z) in
        omega (arith, e, l, t, r, wait, zero_more)

    pub turn : (t : Seen) (fs : List (ℕ × ℕ)) → state t fs ≡ after_look k (edge_at edges k).to (is_marked s.entered (edge_at edges k).to) (is_marked s.finished (edge_at edges k).to) (slice_index first (edge_at edges k).to) s (xs ++ frame v (slice_index next k) ∷ [])
        → Walking edges nodes t fs × (looks_left edges t.entered fs < looks_left edges s.entered items)
    turn t fs e = subst (λ (p : Seen × List (ℕ × ℕ)). Walking edges nodes p.0 p.1 × (looks_left edges p.0.entered p.1 < looks_left edges s.entered items)) (sym e)
        (by (is_marked s.entered (edge_at edges k).to) (is_marked s.finished (edge_at edges k).to) refl refl, shorter (is_marked s.entered (edge_at edges k).to) (is_marked s.finished (edge_at edges k).to) refl)

pub all_unentered : (n : ℕ) → unentered (replicate n false) ≡ n
all_unentered zero = refl
all_unentered (suc n) = let e = all_unentered n in let c = sum_by-cons one_unless false (replicate n false) in omega (arith, e, c)

-- the walk begins with node 1 on the stack
module _ (edges : List Edge) (nodes : ℕ) (first next : List ℕ) (chains : AreChains Tail edges nodes first next) (some : 1 < nodes) where
  abbrev base : Seen
  base = finishes 0 (enters 0 (unseen nodes (length edges)))

  m : (m : ℕ) × (nodes ≡ suc m)
  m = one_less nodes (omega arith)

  long : length (replicate nodes false) ≡ nodes
  long = length-replicate nodes false

  bare : is_marked (replicate nodes false) 0 ≡ false
  bare = get_or-replicate nodes 0 false false (omega arith)

  pub starts : Walking edges nodes (enters 1 base) (frame 1 (slice_index first 1) ∷ [])
  starts = record {
    entered = length-set (set (replicate nodes false) 0 true) 1 true ∙ length-set (replicate nodes false) 0 true ∙ length-replicate nodes false;
    finished = length-set (replicate nodes false) 0 true ∙ length-replicate nodes false;
    back = length-replicate (length edges) false;
    frames = All-cons (IsFrame edges nodes) (frame 1 (slice_index first 1)) [] (some, (chains.firsts 1 some).is_place) (All-nil (IsFrame edges nodes));
    deep = let a = less_unentered (replicate nodes false) 0 (omega (arith, long)) bare in let b = less_unentered (set (replicate nodes false) 0 true) 1 (omega (arith, long, length-set (replicate nodes false) 0 true)) (get_or-set_other (replicate nodes false) 0 1 true false (λ e. absurd (omega (arith, e))) ∙ get_or-replicate nodes 1 false false some) in let all = all_unentered nodes in omega (arith, a, b, all);
    comes_to = done_push edges nodes [] (frame 1 (slice_index first 1)) (enters 1 base) m.0 (let e = m.1 in omega (arith, e))
        ∙ ap (λ (ks : List ℕ). finishes 1 (looks_at (visits m.0 edges) edges ks (enters 1 base))) (sym (chains.firsts 1 some).rest)
        ∙ sym (visited edges m.0 1 base) ∙ ap (λ (n : ℕ). visits n edges 1 base) (sym m.1);
  }

  pub starts_at : (s : Seen) (stack : List (ℕ × ℕ)) → s ≡ enters 1 base → stack ≡ frame 1 (slice_index first 1) ∷ [] → Walking edges (length s.entered) s stack
  starts_at s stack is on =
      subst (λ (fs : List (ℕ × ℕ)). Walking edges (length s.entered) s fs) (sym on)
      (subst (λ (t : Seen). Walking edges (length t.entered) t (frame 1 (slice_index first 1) ∷ [])) (sym is)
      (subst (λ (n : ℕ). Walking edges n (enters 1 base) (frame 1 (slice_index first 1) ∷ [])) (sym starts.entered) starts))
