-- A function without a plan stays as it is.
use Rattle.std.proofs.Common.{◌≡◌, ℕ, zero, suc, ◌+◌, Bool, true, false, List, [], ◌∷◌, ◌++◌, Some, None, slice_get, slice_set, slice_index_or, refl, ◌∙◌, ap, add-one}
use Rattle.std.proofs.lemmas.Option.{none-some, same_Some}
use Rattle.spec_lists.specs.Each.{each}
use Rattle.ir_tree.specs.Names.{same}
use Rattle.ir_tree.specs.Successors.{successors}
use Rattle.ir_tree.specs.declared.types.Block.{Block}
use Rattle.ir_tree.specs.declared.types.Function.{Function}
use Rattle.count_plan.specs.Counted.{counted_blocks, counted_function, counted_functions, counted_pieces, no_function_plan}
use Rattle.count_plan.specs.Ways.{block_plan, new_at, no_block_plan, renaming, renamings_from}
use Rattle.count_plan.specs.declared.plan.FunctionPlan.{FunctionPlan}
use Rattle.count_plan.specs.Stays.{BlocksStay, PutsNothing, Stays}
use Rattle.edge_split.specs.Split.{at_place}

none_made : {X Y : Type 0} (make : ℕ → X → List Y) → ((n : ℕ) (x : X) → make n x ≡ []) → (n : ℕ) (xs : List X) → each make n xs ≡ []
none_made make h n [] = refl
none_made make h n (x ∷ xs) = (λ i. h n x i ++ each make (n + 1) xs) ∙ none_made make h (n + 1) xs

one_made : {X : Type 0} (make : ℕ → X → List X) → ((n : ℕ) (x : X) → make n x ≡ x ∷ []) → (n : ℕ) (xs : List X) → each make n xs ≡ xs
one_made make h n [] = refl
one_made make h n (x ∷ xs) = (λ i. h n x i ++ each make (n + 1) xs) ∙ ap (λ l. x ∷ l) (one_made make h (n + 1) xs)

no_renaming : (s : Bool) (tail : List ℕ) → renaming s tail None ≡ []
no_renaming true tail = refl
no_renaming false tail = refl

no_plan : PutsNothing no_block_plan
no_plan = record { head = refl; tail = refl; watches = λ i. refl; edges = λ p. refl }

module _ (stays : BlocksStay) where
  -- a block without a plan
  block_stays : (bs : List Block) (b : Block) → Stays no_function_plan bs no_block_plan b
  block_stays bs b =
      stays no_function_plan bs no_block_plan b no_plan
      (none_made (λ j c. renamings_from b.label (block_plan [] j) c) (λ j c. none_made (λ p to. renaming (same b.label to) c.label (new_at (block_plan [] j) p)) (λ p to. no_renaming (same b.label to) c.label) 0 (successors c.term)) 0 bs)

  pub function_stays : (f : Function) → counted_function no_function_plan f ≡ f
  function_stays f =
      let pieces : counted_blocks no_function_plan f.blocks ≡ f.blocks =
      one_made (counted_pieces no_function_plan f.blocks) (λ n b. (λ i. (block_stays f.blocks b).block i ∷ (block_stays f.blocks b).alone i)) 0 f.blocks in
      ap (λ bs. record f { blocks = bs }) pieces

  -- ---- the functions of a module, of which one has a plan

  functions_stay : (n : ℕ) (fs : List Function) → each (λ j f. counted_function no_function_plan f ∷ []) n fs ≡ fs
  functions_stay n fs = one_made (λ j f. counted_function no_function_plan f ∷ []) (λ j f. ap (λ g. g ∷ []) (function_stays f)) n fs

  -- the plans from one further on
  shifted : (p : FunctionPlan) (ps : List FunctionPlan) (n : ℕ) (fs : List Function) → each (λ j f. counted_function (slice_index_or (p ∷ ps) j no_function_plan) f ∷ []) (n + 1) fs ≡ each (λ j f. counted_function (slice_index_or ps j no_function_plan) f ∷ []) n fs
  shifted p ps n [] = refl
  shifted p ps n (f ∷ fs) =
      ap (λ (k : ℕ). counted_function (slice_index_or (p ∷ ps) k no_function_plan) f ∷ each (λ j f. counted_function (slice_index_or (p ∷ ps) j no_function_plan) f ∷ []) (n + 1 + 1) fs) (add-one n)
      ∙ ap (λ l. counted_function (slice_index_or ps n no_function_plan) f ∷ l) (shifted p ps (n + 1) fs)

  pub one_planned : (unit : FunctionPlan) (j : ℕ) (fs : List Function) (f : Function) → slice_get fs j ≡ Some f → counted_functions (at_place no_function_plan j unit) fs ≡ slice_set fs j (counted_function unit f)
  one_planned unit j [] f e = absurd (none-some f e)
  one_planned unit zero (g ∷ gs) f e =
      (λ i. counted_function unit (same_Some g f e i) ∷ each (λ j f. counted_function (slice_index_or (unit ∷ []) j no_function_plan) f ∷ []) (0 + 1) gs)
      ∙ ap (λ l. counted_function unit f ∷ l) (shifted unit [] 0 gs ∙ functions_stay 0 gs)
  one_planned unit (suc j) (g ∷ gs) f e =
      ap (λ h. h ∷ each (λ i f. counted_function (slice_index_or (no_function_plan ∷ at_place no_function_plan j unit) i no_function_plan) f ∷ []) (0 + 1) gs) (function_stays g)
      ∙ ap (λ l. g ∷ l) (shifted no_function_plan (at_place no_function_plan j unit) 0 gs ∙ one_planned unit j gs f e)
