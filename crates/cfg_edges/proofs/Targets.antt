-- The successors of the blocks of a function by number.
use Rattle.std.proofs.Common.{◌≡◌, ℕ, zero, suc, ◌+◌, ◌<◌, ◌≤◌, Bool, true, false, ◌&&◌, List, [], ◌∷◌, ◌++◌, length, map, drop, get_or, position, Option, None, Some, is_some, slice_get, sum_by, refl, sym, ap, subst, ◌∙◌, append_assoc, add-one, drop-cons, arith}
use Rattle.std.specs.Prelude.{unwrap_or}
use Rattle.std.specs.List.{list_all}
use Rattle.std.specs.Option.{option_map}
use Rattle.std.proofs.lemmas.List.{length-map, get_or_read}
use Rattle.std.proofs.lemmas.List.Sums.{sum_by-cons}
use Rattle.std.proofs.lemmas.List.Quantifiers.{position-Some}
use Rattle.std.proofs.lemmas.Option.{none-some, same_Some, slice_get-map, slice_get-get_or}
use Rattle.ir_tree.specs.Reach.{row, AreRows}
use Rattle.ir_tree.specs.Names.{same, Indexes}
use Rattle.ir_tree.specs.declared.index.Index.{Index}
use Rattle.ir_tree.specs.declared.types.Block.{Block}
use Rattle.ir_tree.specs.declared.types.Function.{Function}
use Rattle.ir_tree.specs.Edges.{labels, block_place, row_of, rows}
use Rattle.cfg_edges.specs.Blocks.{HasFewPlaces}
use Rattle.ir_tree.specs.Edges.{block_edges, edges_out_of}
use Rattle.ir_tree.specs.declared.edge.Edge.{Edge}
use Rattle.ir_tree.specs.Graphs.{ways_out, has_targets, HasGraph}
use Rattle.cfg_edges.specs.Graph.{successors_of}

-- the block that a label names, the entry where no block has it
abbrev pub place : List Block → List ℕ → ℕ
place blocks to = unwrap_or (block_place blocks to) 0

-- ---- by the index of the labels

pub few_places : (index : Index) (blocks : List Block) → Indexes index (labels blocks) → length blocks < 4294967296 → HasFewPlaces index
few_places index blocks made few name b at =
    let place : position (same name) (labels blocks) ≡ Some b = sym (made name) ∙ at in
    let within : b < length (labels blocks) = (position-Some (same name) (labels blocks) b [] place).0 in
    omega (arith, within, few, length-map blocks (λ block. block.label))

-- ---- one row

row_in : (all blocks : List Block) (b : ℕ) → row (map (row_of all) blocks) b ≡ map (place all) (successors_of blocks b)
row_in all [] b = refl
row_in all (block ∷ blocks) zero = refl
row_in all (block ∷ blocks) (suc b) = row_in all blocks b

pub row_at : (blocks : List Block) (b : ℕ) → row (rows blocks) b ≡ map (place blocks) (successors_of blocks b)
row_at blocks b = row_in blocks blocks b

pub rows_size : (blocks : List Block) → length (rows blocks) ≡ length blocks
rows_size blocks = length-map blocks (row_of blocks)

at_map : {X : Type 0} (v : X → ℕ) (o : Option X) (t : ℕ) → option_map v o ≡ Some t → (x : X) × (o ≡ Some x) × (t ≡ v x)
at_map v None t h = absurd (none-some t h)
at_map v (Some x) t h = (x, refl, sym (same_Some (v x) t h))

-- what a successor by number is named
pub named_at : (blocks : List Block) (b p t : ℕ) → slice_get (row (rows blocks) b) p ≡ Some t → (to : List ℕ) × (slice_get (successors_of blocks b) p ≡ Some to) × (t ≡ place blocks to)
named_at blocks b p t h =
    at_map (place blocks) (slice_get (successors_of blocks b) p) t (sym (slice_get-map (place blocks) (successors_of blocks b) p) ∙ sym (ap (λ (r : List ℕ). slice_get r p) (row_at blocks b)) ∙ h)

-- ---- each label is a block's

both_true : (x y : Bool) → x && y ≡ true → (x ≡ true) × (y ≡ true)
both_true true y h = (refl, h)
both_true false y h = absurd (grind arith)

pub all_at : {X : Type 0} (q : X → Bool) (xs : List X) → list_all q xs ≡ true → (i : ℕ) (x : X) → slice_get xs i ≡ Some x → q x ≡ true
all_at q [] all i x h = absurd (none-some x h)
all_at q (y ∷ ys) all zero x h = subst (λ z. q z ≡ true) (same_Some y x h) (both_true (q y) (list_all q ys) all).0
all_at q (y ∷ ys) all (suc i) x h = all_at q ys (both_true (q y) (list_all q ys) all).1 i x h

targets_in : (all blocks : List Block) → list_all (has_targets all) blocks ≡ true → (b : ℕ) → list_all (λ to. is_some (block_place all to)) (successors_of blocks b) ≡ true
targets_in all [] h b = refl
targets_in all (block ∷ blocks) h zero = (both_true (has_targets all block) (list_all (has_targets all) blocks) h).0
targets_in all (block ∷ blocks) h (suc b) = targets_in all blocks (both_true (has_targets all block) (list_all (has_targets all) blocks) h).1 b

some_place : (o : Option ℕ) → is_some o ≡ true → o ≡ Some (unwrap_or o 0)
some_place None h = absurd (grind arith)
some_place (Some b) h = refl

pub named_place : (blocks : List Block) → list_all (has_targets blocks) blocks ≡ true → (b p : ℕ) (to : List ℕ) → slice_get (successors_of blocks b) p ≡ Some to → block_place blocks to ≡ Some (place blocks to)
named_place blocks h b p to at = some_place (block_place blocks to) (all_at (λ name. is_some (block_place blocks name)) (successors_of blocks b) (targets_in blocks blocks h b) p to at)

module _ (f : Function) (graph : HasGraph f) where
  pub target_within : (b p t : ℕ) → slice_get (row (rows f.blocks) b) p ≡ Some t → t < length (rows f.blocks)
  target_within b p t h =
      let n = named_at f.blocks b p t h in
      let at : block_place f.blocks n.0 ≡ Some (place f.blocks n.0) = named_place f.blocks graph.targets b p n.0 n.1 in
      let within : place f.blocks n.0 < length (labels f.blocks) = (position-Some (same n.0) (labels f.blocks) (place f.blocks n.0) [] at).0 in
      omega (arith, n.2, within, length-map f.blocks (λ block. block.label), rows_size f.blocks)

  pub are_rows : AreRows (rows f.blocks)
  are_rows = record { entry = (let some : 0 < length f.blocks = graph.entry in omega (arith, some, rows_size f.blocks)); targets = target_within }

-- ---- so few

pub blocks_below : (blocks : List Block) → length blocks ≤ sum_by ways_out blocks
blocks_below [] = omega arith
blocks_below (block ∷ blocks) = omega (arith, blocks_below blocks, sum_by-cons ways_out block blocks)

pub successors_below : (blocks : List Block) (b : ℕ) → length (successors_of blocks b) ≤ sum_by ways_out blocks
successors_below [] b = omega arith
successors_below (block ∷ blocks) zero = omega (arith, sum_by-cons ways_out block blocks)
successors_below (block ∷ blocks) (suc b) = omega (arith, successors_below blocks b, sum_by-cons ways_out block blocks)

pub row_below : (blocks : List Block) (b : ℕ) → length (row (rows blocks) b) ≤ sum_by ways_out blocks
row_below blocks b =
    omega (arith, successors_below blocks b, ap (λ (r : List ℕ). length r) (row_at blocks b), length-map (successors_of blocks b) (place blocks))

-- ---- the loop over blocks

pub edges_on : (nodes : List ℕ) (rs : List (List ℕ)) (blocks : List ℕ) (i b : ℕ) (r : List ℕ) (now next all : List Edge) → i < length blocks → b ≡ get_or blocks i 0 → r ≡ row rs b → next ≡ now ++ block_edges nodes b r → now ++ edges_out_of nodes rs (drop i blocks) ≡ all → next ++ edges_out_of nodes rs (drop (i + 1) blocks) ≡ all
edges_on nodes rs blocks i b r now next all h is at put was =
    let first : drop i blocks ≡ get_or blocks i 0 ∷ drop (i + 1) blocks = drop-cons blocks i 0 h ∙ ap (λ (m : ℕ). get_or blocks i 0 ∷ drop m blocks) (sym (add-one i)) in
    let here : block_edges nodes b r ≡ block_edges nodes (get_or blocks i 0) (row rs (get_or blocks i 0)) = ap (λ (x : List ℕ). block_edges nodes b x) at ∙ ap (λ (m : ℕ). block_edges nodes m (row rs m)) is in
    ap (λ (es : List Edge). es ++ edges_out_of nodes rs (drop (i + 1) blocks)) (put ∙ ap (λ (es : List Edge). now ++ es) here)
    ∙ append_assoc now (block_edges nodes (get_or blocks i 0) (row rs (get_or blocks i 0))) (edges_out_of nodes rs (drop (i + 1) blocks))
    ∙ ap (λ (bs : List ℕ). now ++ edges_out_of nodes rs bs) (sym first) ∙ was

-- what the loop reads is the row of the block
pub row_read : (rs : List (List ℕ)) (blocks : List ℕ) (i : ℕ) (x r : List ℕ) → ((k b : ℕ) → slice_get blocks k ≡ Some b → b < length rs) → i < length blocks → x ≡ get_or rs (get_or blocks i 0) x → r ≡ x → r ≡ row rs (get_or blocks i 0)
row_read rs blocks i x r within h is at = at ∙ get_or_read rs (get_or blocks i 0) x (within i (get_or blocks i 0) (slice_get-get_or blocks i 0 h)) is []

pub row_targets : (rs : List (List ℕ)) (n b : ℕ) (r : List ℕ) → ((b p t : ℕ) → slice_get (row rs b) p ≡ Some t → t < length rs) → n ≡ length rs → r ≡ row rs b → (p t : ℕ) → slice_get r p ≡ Some t → t < n
row_targets rs n b r within size is p t h = subst (λ (m : ℕ). t < m) (sym size) (within b p t (subst (λ (x : List ℕ). slice_get x p ≡ Some t) is h))
