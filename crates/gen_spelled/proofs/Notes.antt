-- The module that counts has the notes of the module, in the same order.
use Rattle.std.proofs.Common.{◌≡◌, ℕ, ◌+◌, Bool, true, false, cond, List, [], ◌∷◌, ◌++◌, map, Option, Some, None, refl, sym, ap, ◌∙◌}
use Rattle.std.specs.List.{fold, list_any}
use Rattle.std.proofs.lemmas.List.{take-append-drop}
use Rattle.canonical_text.specs.Notes.{instr_note, nodes_of, term_note, with_block, with_body, with_function, with_instr, with_noted}
use Rattle.count_plan.specs.Calls.{condition_of, condition_watched, increment_name, increments, step_name, target_of, target_watched, value_name, watched}
use Rattle.count_plan.specs.Counted.{counted_block, counted_blocks, counted_from, counted_function, counted_functions, counted_instrs, counted_pieces, function_plan, new_blocks, put_on, watch_at}
use Rattle.count_plan.specs.Ways.{block_plan, led, new_at, renamed_phi, renamings}
use Rattle.count_plan.specs.declared.plan.BlockPlan.{BlockPlan}
use Rattle.count_plan.specs.declared.plan.FunctionPlan.{FunctionPlan}
use Rattle.count_plan.specs.declared.plan.NewBlock.{NewBlock}
use Rattle.count_plan.specs.declared.plan.Watch.{Watch}
use Rattle.count_plan.specs.declared.plan.Watch.TheVariants.{Nothing, Condition, Target}
use Rattle.gen_plan.specs.Gen.{counted, declaration, declarations, gen_plan, has_select}
use Rattle.gen_spelled.proofs.Lists.{Name, each_made, fold_append, fold_mapped, fold_quiet}
use Rattle.ir_tree.specs.Phis.{behind_phis, leading_phis, phi_count}
use Rattle.ir_tree.specs.Successors.{successors}
use Rattle.ir_tree.specs.declared.types.Block.{Block}
use Rattle.ir_tree.specs.declared.types.Function.{Function}
use Rattle.ir_tree.specs.declared.types.Instr.{Instr}
use Rattle.ir_tree.specs.declared.types.Instr.TheVariants.{Binary, Compare, Convert, Freeze, Select, Phi, Alloca, Load, Store, Gep, Call, Count}
use Rattle.ir_tree.specs.declared.types.Module.{Module}
use Rattle.ir_tree.specs.declared.types.Operand.{Operand}
use Rattle.ir_tree.specs.declared.types.Prof.{Prof}
use Rattle.ir_tree.specs.declared.types.Term.{Term}
use Rattle.ir_tree.specs.declared.types.Term.TheVariants.{Br, CondBr, Switch, Ret, Unreachable}
use Rattle.ir_tree.specs.declared.types.Ty.{Ty}
use Rattle.ir_tree.specs.declared.types.Ty.TheVariants.{I32, I64, Ptr}
use Rattle.spec_lists.specs.Each.{each}
use Rattle.spellable.specs.Values.{Each}

abbrev Notes : Type 0
Notes = List Prof

-- ---- instructions

phi_note : (rs : List (Name × Name)) (x : Instr) → instr_note (renamed_phi rs x) ≡ instr_note x
phi_note rs (Binary dest op flags ty left right) = refl
phi_note rs (Compare dest pred ty left right) = refl
phi_note rs (Convert dest op flags from value to) = refl
phi_note rs (Freeze dest ty value) = refl
phi_note rs (Select dest c ty first second prof) = refl
phi_note rs (Phi dest ty entries) = refl
phi_note rs (Alloca dest mem) = refl
phi_note rs (Load dest ty address) = refl
phi_note rs (Store ty value address) = refl
phi_note rs (Gep dest inbounds mem address indices) = refl
phi_note rs (Call dest ret callee args prof) = refl
phi_note rs (Count symbol size index step) = refl

-- the instructions add no note to these
abbrev AddNone : Notes → List Instr → Type 0
AddNone notes xs = Each (λ x. with_instr notes x ≡ notes) xs

module _ (unit : FunctionPlan) where
  increments_add_none : (notes : Notes) (o : Option ℕ) → AddNone notes (increments unit o)
  unfolding with_noted
  increments_add_none notes None = tt
  increments_add_none notes (Some c) = (refl, tt)

  condition_adds_none : (notes : Notes) (r : Name) (c : ℕ) (o : Option Operand) → AddNone notes (condition_watched unit r c o)
  unfolding with_noted
  condition_adds_none notes r c None = tt
  condition_adds_none notes r c (Some q) = (refl, (refl, tt))

  target_adds_none : (notes : Notes) (r : Name) (s : ℕ) (o : Option Operand) → AddNone notes (target_watched unit r s o)
  unfolding with_noted
  target_adds_none notes r s None = tt
  target_adds_none notes r s (Some q) = (refl, (refl, tt))

  watch_adds_none : (notes : Notes) (w : Watch) (x : Instr) → AddNone notes (watched unit w x)
  watch_adds_none notes Nothing x = tt
  watch_adds_none notes (Condition r c) x = condition_adds_none notes r c (condition_of x)
  watch_adds_none notes (Target r s) x = target_adds_none notes r s (target_of x)

  from_same : (plan : BlockPlan) (notes : Notes) (i : ℕ) (xs : List Instr) → fold with_instr notes (counted_from unit plan i xs) ≡ fold with_instr notes xs
  from_same plan notes i [] = fold_quiet with_instr notes (increments unit plan.tail) (increments_add_none notes plan.tail)
  from_same plan notes i (x ∷ xs) =
      fold_append with_instr notes (watched unit (watch_at plan i) x) (x ∷ counted_from unit plan (i + 1) xs)
      ∙ ap (λ (ns : Notes). fold with_instr ns (x ∷ counted_from unit plan (i + 1) xs)) (fold_quiet with_instr notes (watched unit (watch_at plan i) x) (watch_adds_none notes (watch_at plan i) x))
      ∙ from_same plan (with_instr notes x) (i + 1) xs

  instrs_same : (plan : BlockPlan) (rs : List (Name × Name)) (notes : Notes) (xs : List Instr) → fold with_instr notes (counted_instrs unit plan rs xs) ≡ fold with_instr notes xs
  instrs_same plan rs notes xs =
      let rest : List Instr = counted_from unit plan 0 (behind_phis xs) in
      let phis : Notes = fold with_instr notes (leading_phis xs) in
      fold_append with_instr notes (map (renamed_phi rs) (leading_phis xs)) (increments unit plan.head ++ rest)
      ∙ ap (λ (ns : Notes). fold with_instr ns (increments unit plan.head ++ rest)) (fold_mapped with_instr (renamed_phi rs) (λ ns x. ap (with_noted ns) (phi_note rs x)) notes (leading_phis xs))
      ∙ fold_append with_instr phis (increments unit plan.head) rest
      ∙ ap (λ (ns : Notes). fold with_instr ns rest) (fold_quiet with_instr phis (increments unit plan.head) (increments_add_none phis plan.head))
      ∙ from_same plan phis 0 (behind_phis xs)
      ∙ sym (fold_append with_instr notes (leading_phis xs) (behind_phis xs))
      ∙ ap (λ (zs : List Instr). fold with_instr notes zs) (take-append-drop (phi_count xs) xs)

  -- ---- blocks

  led_note : (plan : BlockPlan) (t : Term) → term_note (led plan t) ≡ term_note t
  led_note plan (Br to) = refl
  led_note plan (CondBr c first second prof) = refl
  led_note plan (Switch ty v default cases prof) = refl
  led_note plan (Ret v) = refl
  led_note plan Unreachable = refl

  block_same : (bs : List Block) (plan : BlockPlan) (b : Block) (notes : Notes) → with_block notes (counted_block unit bs plan b) ≡ with_block notes b
  unfolding with_block
  block_same bs plan b notes =
      let rs : List (Name × Name) = renamings unit.blocks bs b.label in
      ap (λ (ns : Notes). with_noted ns (term_note (led plan b.term))) (instrs_same plan rs notes b.instrs)
      ∙ ap (λ (o : Option Prof). with_noted (fold with_instr notes b.instrs) o) (led_note plan b.term)

  put_adds_none : (notes : Notes) (to : Name) (o : Option NewBlock) → Each (λ b. with_block notes b ≡ notes) (put_on unit to o)
  unfolding with_block with_noted
  put_adds_none notes to None = tt
  put_adds_none notes to (Some new) = (fold_quiet with_instr notes (increments unit new.counter) (increments_add_none notes new.counter), tt)

  blocks_same : (all : List Block) (j : ℕ) (bs : List Block) (notes : Notes) → fold with_block notes (each (counted_pieces unit all) j bs) ≡ fold with_block notes bs
  blocks_same all j [] notes = refl
  blocks_same all j (b ∷ bs) notes =
      let plan : BlockPlan = block_plan unit.blocks j in
      let news : List Block = new_blocks unit plan b in
      let later : List Block = each (counted_pieces unit all) (j + 1) bs in
      let one : Notes = with_block notes (counted_block unit all plan b) in
      fold_append with_block one news later
      ∙ ap (λ (ns : Notes). fold with_block ns later) (fold_quiet with_block one news (each_made (λ p to. put_on unit to (new_at plan p)) (λ c. with_block one c ≡ one) (successors b.term) (λ p to at. put_adds_none one to (new_at plan p))) ∙ block_same all plan b notes)
      ∙ blocks_same all (j + 1) bs (with_block notes b)

  -- ---- functions

  body_same : (prof : Option Prof) (bs : List Block) (notes : Notes) → with_body notes prof (counted_blocks unit bs) ≡ with_body notes prof bs
  body_same prof [] notes = refl
  body_same prof (b ∷ bs) notes = blocks_same (b ∷ bs) 0 (b ∷ bs) (with_noted notes prof)

  function_same : (f : Function) (notes : Notes) → with_function notes (counted_function unit f) ≡ with_function notes f
  unfolding with_function
  function_same f notes = body_same f.prof f.blocks notes

functions_same : (plans : List FunctionPlan) (j : ℕ) (fs : List Function) (notes : Notes) → fold with_function notes (each (λ j f. counted_function (function_plan plans j) f ∷ []) j fs) ≡ fold with_function notes fs
functions_same plans j [] notes = refl
functions_same plans j (f ∷ fs) notes =
    ap (λ (ns : Notes). fold with_function ns (each (λ j f. counted_function (function_plan plans j) f ∷ []) (j + 1) fs)) (function_same (function_plan plans j) f notes)
    ∙ functions_same plans (j + 1) fs (with_function notes f)

declared_none : (name : Name) (params : List Ty) (notes : Notes) → with_function notes (declaration name params) ≡ notes
unfolding with_function
declared_none name params notes = refl

declarations_add_none : (fs : List Function) (notes : Notes) → Each (λ f. with_function notes f ≡ notes) (declarations fs)
declarations_add_none fs notes = (declared_none increment_name (Ptr ∷ I64 ∷ I32 ∷ I32 ∷ []) notes, (declared_none value_name (Ptr ∷ I64 ∷ I64 ∷ I32 ∷ I32 ∷ []) notes, by (list_any has_select fs)))
  where
    by : (b : Bool) → Each (λ f. with_function notes f ≡ notes) (cond b (declaration step_name (Ptr ∷ I64 ∷ I32 ∷ I32 ∷ I64 ∷ []) ∷ []) [])
    by true = (declared_none step_name (Ptr ∷ I64 ∷ I32 ∷ I32 ∷ I64 ∷ []) notes, tt)
    by false = tt

-- the module that counts has the nodes of the module
pub nodes_same : (entry_first : Bool) (m : Module) → nodes_of (counted entry_first m) ≡ nodes_of m
unfolding nodes_of
nodes_same entry_first m =
    fold_append with_function [] (counted_functions (gen_plan entry_first m).functions m.functions) (declarations m.functions)
    ∙ fold_quiet with_function (fold with_function [] (counted_functions (gen_plan entry_first m).functions m.functions)) (declarations m.functions) (declarations_add_none m.functions (fold with_function [] (counted_functions (gen_plan entry_first m).functions m.functions)))
    ∙ functions_same (gen_plan entry_first m).functions 0 m.functions []
