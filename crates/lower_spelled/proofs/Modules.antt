-- The parts of the lowered module are spellable where those of the module are.
use Rattle.std.proofs.Common.{◌≡◌, ℕ, ◌<◌, ◌≤◌, ◌^◌, inl, inr, true, not, nat_le, List, [], ◌∷◌, map, filter, Option, Some, unwrap_or, refl, arith}
use Rattle.std.specs.List.{filter_map}
use Rattle.std.proofs.lemmas.Bool.{and_parts, leb-true}
use Rattle.ir_grammar.specs.Types.{depth_most, memory_of}
use Rattle.ir_rules.specs.Intrinsics.{is_counter_total}
use Rattle.ir_rules.specs.Lists.{Among}
use Rattle.ir_rules.specs.Reserved.{is_of_intrinsics}
use Rattle.ir_tree.specs.declared.types.Block.{Block}
use Rattle.ir_tree.specs.declared.types.Function.{Function}
use Rattle.ir_tree.specs.declared.types.Global1.{Global1}
use Rattle.ir_tree.specs.declared.types.Init.TheVariants as init
use Rattle.ir_tree.specs.declared.types.Instr.{Instr}
use Rattle.ir_tree.specs.declared.types.MemTy.TheBlock.{shape-the_row-MemTy-0, hidden-the_row-MemTy-0}
use Rattle.ir_tree.specs.declared.types.Module.{Module}
use Rattle.ir_tree.specs.declared.types.Prof.{Prof}
use Rattle.ir_tree.specs.declared.types.Ty.{Ty}
use Rattle.ir_tree.specs.declared.types.Ty.TheVariants.{I64}
use Rattle.lower_spelled.proofs.Asks.{counters_named, data_named, lowered_is, runtime_named, wide_literal}
use Rattle.lower_spelled.proofs.HashSmall.{hash_small}
use Rattle.lower_spelled.proofs.Lists.{Name, among_each, among_filter, among_flat, among_listed, each_among, each_append, each_flat, each_mapped}
use Rattle.lower_spelled.proofs.Notes.{nodes_no_more}
use Rattle.lowered_rules.specs.Kept.{IsTold}
use Rattle.lowered_rules.specs.Small.{IsSmallAsk}
use Rattle.lowering.specs.Asked.{Asked, all_asked, asked, asked_in}
use Rattle.lowering.specs.Lowered.{lowered, lowered_block, lowered_function, lowered_instr, runtime_declaration}
use Rattle.lowering.specs.Units.{counters_global, counters_told, data_global, hash_told, name_held, names_used, new_globals, sites_told, unit_globals}
use Rattle.spellable.specs.Instructions.{IsInstr, IsNote}
use Rattle.spellable.specs.Modules.{IsBlock, IsBody, IsFunction, IsSpellable, IsVariable}
use Rattle.spellable.specs.Values.{Each, IsGlobal, IsLiteral}
use Rattle.pgo_base.specs.Hash.{hash8}
use denote.Hole.Carrier

-- ---- the globals of a unit

counters_memory : (symbol : Name) (counters : ℕ) → (counters_global symbol counters).mem ≡ memory_of (counters ∷ []) I64
unfolding shape-the_row-MemTy-0 hidden-the_row-MemTy-0 Carrier.hidden
counters_memory symbol counters = refl

data_memory : (symbol : Name) (name_hash hash counters sites : ℕ) → (data_global symbol name_hash hash counters sites).mem ≡ memory_of (4 ∷ []) I64
unfolding shape-the_row-MemTy-0 hidden-the_row-MemTy-0 Carrier.hidden
data_memory symbol name_hash hash counters sites = refl

one_deep : 1 ≤ depth_most
one_deep = omega arith

counters_is : (symbol : Name) (counters : ℕ) → IsGlobal symbol → counters < 2 ^ 64 → IsVariable (counters_global symbol counters)
counters_is symbol counters named few = record {
  name = counters_named symbol named;
  init = (counters ∷ [], I64, counters_memory symbol counters, (one_deep, (few, tt)), inr (inl (inr (inl refl))));
}

data_is : (symbol : Name) (name_hash hash counters sites : ℕ) → IsGlobal symbol → IsLiteral I64 name_hash → IsLiteral I64 hash → IsLiteral I64 counters → IsLiteral I64 sites → IsVariable (data_global symbol name_hash hash counters sites)
data_is symbol name_hash hash counters sites named a b c d = record {
  name = data_named symbol named;
  init = (4 ∷ [], I64, data_memory symbol name_hash hash counters sites, (one_deep, ((let few : 4 < 2 ^ 64 = omega arith in few), tt)), inr (inr (init.Int name_hash ∷ init.Int hash ∷ init.Int counters ∷ init.Int sites ∷ [], refl, (inr (name_hash, refl, a), (inr (hash, refl, b), (inr (counters, refl, c), (inr (sites, refl, d), tt)))))));
}

total_small : (n : ℕ) → is_counter_total n ≡ true → n < 2 ^ 64
unfolding is_counter_total
total_small n h = (let most = leb-true n 1048576 (and_parts (nat_le 1 n) (nat_le n 1048576) h).1 in omega (arith, most))

-- ---- functions

runtime_is : IsFunction IsNote runtime_declaration
runtime_is = (runtime_named, ((refl, (refl, (refl, tt))), refl))

body_is : (params : List (Ty × Name)) (prof : Option Prof) (bs : List Block) → ((b : Block) → Among b bs → IsBlock IsNote b → IsBlock IsNote (lowered_block b)) → IsBody IsNote params prof bs → IsBody IsNote params prof (map lowered_block bs)
body_is params prof [] keeps h = h
body_is params prof (b ∷ bs) keeps h = (h.0, h.1, each_mapped (IsBlock IsNote) (IsBlock IsNote) lowered_block (b ∷ bs) keeps h.2)

-- ---- the module

module _ (m : Module) (small : (a : Asked) → Among a (all_asked m) → IsSmallAsk a) (told : (g : Global1) → Among g m.globals → names_used (all_asked m) g ≡ true → IsTold m g) (h : IsSpellable m) where
  asked_there : (f : Function) (b : Block) (x : Instr) (a : Asked) → Among f m.functions → Among b f.blocks → Among x b.instrs → asked x ≡ Some a → Among a (all_asked m)
  asked_there f b x a at here there e =
      among_flat (λ (g : Function). asked_in g.blocks) m.functions f a at (among_flat (λ (c : Block). filter_map asked c.instrs) f.blocks b a here (among_listed asked b.instrs x a there e))

  block_is : (f : Function) (b : Block) → Among f m.functions → Among b f.blocks → IsBlock IsNote b → IsBlock IsNote (lowered_block b)
  block_is f b at here k = record {
    label = k.label;
    instrs = each_mapped (IsInstr IsNote) (IsInstr IsNote) lowered_instr b.instrs (λ x there i. lowered_is IsNote x i (λ a e. small a (asked_there f b x a at here there e))) k.instrs;
    term = k.term;
  }

  function_is : (f : Function) → Among f m.functions → IsFunction IsNote f → IsFunction IsNote (lowered_function f)
  function_is f at k = (k.0, body_is f.params f.prof f.blocks (λ b here. block_is f b at here) k.1)

  kept : List Function
  kept = filter (λ f. not (is_of_intrinsics f.name)) m.functions

  kept_are : Each (IsFunction IsNote) kept
  unfolding kept
  kept_are = each_among (IsFunction IsNote) kept (λ f at. among_each (IsFunction IsNote) m.functions f h.functions (among_filter (λ (g : Function). not (is_of_intrinsics g.name)) m.functions f at).0)

  functions_are : Each (IsFunction IsNote) (lowered m).functions
  unfolding kept
  functions_are =
      each_append (IsFunction IsNote) (map lowered_function kept) (runtime_declaration ∷ [])
      (each_mapped (IsFunction IsNote) (IsFunction IsNote) lowered_function kept (λ f at. function_is f (among_filter (λ (g : Function). not (is_of_intrinsics g.name)) m.functions f at).0) kept_are)
      (runtime_is, tt)

  unit_is : (g : Global1) → Among g (filter (names_used (all_asked m)) m.globals) → Each IsVariable (unit_globals (all_asked m) g)
  unit_is g at =
      let there = among_filter (names_used (all_asked m)) m.globals g at in
      let named : IsGlobal g.name = (among_each IsVariable m.globals g h.variables there.0).name in
      let t : IsTold m g = told g there.0 there.1 in
      let counters : ℕ = unwrap_or (counters_told g.name (all_asked m)) 0 in
      let few : counters < 2 ^ 64 = total_small counters t.counters in
      let sites : ℕ = sites_told g.name (all_asked m) in
      let most : sites ≤ 65536 = t.sites in
      (counters_is g.name counters named few, (data_is g.name (hash8 (name_held g)) (unwrap_or (hash_told g.name (all_asked m)) 0) counters sites named (wide_literal (hash8 (name_held g)) (hash_small (name_held g))) t.hash (wide_literal counters few) (wide_literal sites (omega (arith, most))), tt))

  pub lowered_spellable : IsSpellable (lowered m)
  lowered_spellable = record {
    variables = each_append IsVariable m.globals (new_globals (all_asked m) m.globals) h.variables (each_flat IsVariable (unit_globals (all_asked m)) (filter (names_used (all_asked m)) m.globals) unit_is);
    functions = functions_are;
    notes = (let fewer = nodes_no_more m in let few = h.notes in omega (arith, fewer, few));
  }
