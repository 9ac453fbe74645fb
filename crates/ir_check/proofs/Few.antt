-- A module within the limits has few functions, each with few blocks.
use Rattle.std.proofs.Common.{◌≡◌, ℕ, zero, suc, ◌+◌, ◌<◌, ◌≤◌, ◌⊎◌, inl, inr, Bool, true, false, cond, ◌==◌, List, [], ◌∷◌, length, sum_by, Some, slice_get, refl, sym, ap, subst, ◌∙◌, arith}
use Rattle.std.proofs.lemmas.Bool.{cases_lt, lt-ltb}
use Rattle.std.proofs.lemmas.Grind.{common_steps}
use Rattle.std.proofs.lemmas.List.Sums.{sum_by-cons}
use Rattle.std.proofs.lemmas.Option.{none-some, same_Some}
use Rattle.ir_check.proofs.Kept.{nil_left, nil_right}
use Rattle.ir_rules.specs.Kinds.{kind_of}
use Rattle.ir_rules.specs.Limits.{above, each_above, most, passed, passed_by, reported}
use Rattle.ir_rules.specs.declared.place.Kind.{Kind}
use Rattle.ir_rules.specs.declared.place.Kind.TheVariants.{Plain, Counted, Lowered}
use Rattle.ir_rules.specs.declared.place.LimitKind.{LimitKind}
use Rattle.ir_rules.specs.declared.place.LimitKind.TheVariants.{Functions, Globals, Edges}
use Rattle.ir_tree.specs.Edges.{edges_in}
use Rattle.ir_tree.specs.Successors.{ways_out}
use Rattle.ir_tree.specs.declared.types.Block.{Block}
use Rattle.ir_tree.specs.declared.types.Function.{Function}
use Rattle.ir_tree.specs.declared.types.Module.{Module}

above_none : (which : LimitKind) (bound found : ℕ) → above which bound found ≡ [] → found ≤ bound
above_none which bound found e = by (cases_lt bound found)
  where
    by : (bound < found) ⊎ (found ≤ bound) → found ≤ bound
    by (inl h) = absurd (cc (ap (λ (b : Bool). cond {A = List (LimitKind × ℕ)} b ((which, reported found) ∷ []) []) (sym (lt-ltb bound found h)) ∙ e))
    by (inr h) = h

each_none : {X : Type 0} (which : LimitKind) (bound : ℕ) (quantity : X → ℕ) (xs : List X) → each_above which bound quantity xs ≡ [] → (i : ℕ) (x : X) → slice_get xs i ≡ Some x → quantity x ≤ bound
each_none which bound quantity [] e i x at = absurd (none-some x at)
each_none which bound quantity (y ∷ ys) e zero x at =
    let here : quantity y ≤ bound = above_none which bound (quantity y) (nil_left (above which bound (quantity y)) (each_above which bound quantity ys) e) in
    subst (λ (z : _). quantity z ≤ bound) (same_Some y x at) here
each_none which bound quantity (y ∷ ys) e (suc i) x at = each_none which bound quantity ys (nil_right (above which bound (quantity y)) (each_above which bound quantity ys) e) i x at

most_functions : (kind : Kind) → most kind Functions ≤ 65540
most_functions Plain = omega arith
most_functions Counted = omega arith
most_functions Lowered = omega arith

most_edges : (kind : Kind) → most kind Edges ≤ 2097152
most_edges Plain = omega arith
most_edges Counted = omega arith
most_edges Lowered = omega arith

blocks_le : (blocks : List Block) → length blocks ≤ sum_by ways_out blocks
blocks_le [] = omega arith
blocks_le (b ∷ blocks) =
    let one : 1 ≤ ways_out b = omega arith in
    let rest : length blocks ≤ sum_by ways_out blocks = blocks_le blocks in
    let all : sum_by ways_out (b ∷ blocks) ≡ ways_out b + sum_by ways_out blocks = sum_by-cons ways_out b blocks in
    omega (arith, one, rest, all)

blocks_within : (f : Function) → edges_in f ≤ 2097152 → length f.blocks ≤ 2097152
blocks_within f = by (length f.blocks == 0) refl
  where
    by : (b : Bool) → (length f.blocks == 0) ≡ b → cond b 0 (1 + sum_by ways_out f.blocks) ≤ 2097152 → length f.blocks ≤ 2097152
    by true e h = grind (arith, common_steps)
    by false e h = let most : length f.blocks ≤ sum_by ways_out f.blocks = blocks_le f.blocks in omega arith

module _ (m : Module) (none : passed m ≡ []) where
  abbrev kind : Kind
  kind = kind_of m.functions

  by_kind : passed_by (kind_of m.functions) m ≡ []
  unfolding passed
  by_kind = none

  pub few_functions : length m.functions ≤ 65540
  few_functions =
      let most_here : length m.functions ≤ most kind Functions = above_none Functions (most kind Functions) (length m.functions) (nil_left (above Functions (most kind Functions) (length m.functions)) _ by_kind) in
      omega (arith, most_here, most_functions kind)

  pub few_blocks : (k : ℕ) (f : Function) → slice_get m.functions k ≡ Some f → length f.blocks ≤ 2097152
  few_blocks k f at =
      let behind = nil_right (above Globals (most kind Globals) (length m.globals)) _ (nil_right (above Functions (most kind Functions) (length m.functions)) _ by_kind) in
      let edges : edges_in f ≤ most kind Edges = each_none Edges (most kind Edges) edges_in m.functions (nil_left (each_above Edges (most kind Edges) edges_in m.functions) _ behind) k f at in
      blocks_within f (omega (arith, edges, most_edges kind))
