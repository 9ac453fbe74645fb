-- A lowered function is well formed in the lowered module, and so is the runtime's.
use Rattle.std.proofs.Common.{◌≡◌, ℕ, ◌≤◌, ◌==◌, Bool, true, false, ◌&&◌, if◌then◌else◌, List, map, refl, sym, ap, subst, ◌∙◌}
use Rattle.std.specs.List.{list_all}
use Rattle.std.proofs.lemmas.List.{length-map}
use Rattle.ir_rules.specs.Declarations.{has_profile_types, has_provided_types, is_increment, is_increment_step, is_target_note, is_value_note, same_ty}
use Rattle.ir_rules.specs.Lists.{Among, times}
use Rattle.ir_rules.specs.Naming.{is_param_name}
use Rattle.ir_rules.specs.Reserved.{is_of_intrinsics, is_reserved_function}
use Rattle.ir_rules.specs.Scopes.{param_names}
use Rattle.ir_rules.specs.Walks.{AtHead}
use Rattle.ir_rules.specs.Weighing.{has_entries}
use Rattle.ir_rules.specs.WellFormed.{BlockFormed, FunctionFormed, InstrFormed, TermFormed}
use Rattle.ir_rules.specs.declared.place.Kind.{Kind}
use Rattle.ir_tree.specs.Functions.{is_declared, is_profile_name}
use Rattle.ir_tree.specs.Phis.{entries_of}
use Rattle.ir_tree.specs.Spelling.{is_global_name, is_local_name, is_quotable}
use Rattle.ir_tree.specs.declared.types.Block.{Block}
use Rattle.ir_tree.specs.declared.types.Function.{Function}
use Rattle.ir_tree.specs.declared.types.Instr.{Instr}
use Rattle.ir_tree.specs.declared.types.Module.{Module}
use Rattle.ir_tree.specs.declared.types.Term.{Term}
use Rattle.lowered_rules.proofs.Blocks.{ResultsStay, first_same, head_stays, joined_stays, lead_same, matched_same, names_same, ready_stays, same_entries, targets_same}
use Rattle.lowered_rules.proofs.Instrs.{fits_kept, instr_formed, turn_reads, turn_result}
use Rattle.lowered_rules.proofs.Listed.{Name, map_among}
use Rattle.lowered_rules.proofs.Symbols.{kind_is}
use Rattle.lowered_rules.proofs.Turned.{turn}
use Rattle.lowered_rules.specs.Kept.{IsLowerable}
use Rattle.lowering.specs.Lowered.{lowered, lowered_block, lowered_function, lowered_instr, runtime_declaration, runtime_name}

module _ (m : Module) (low : IsLowerable m) (f : Function) (at : Among f m.functions) where
  abbrev n2 : Module
  n2 = lowered m

  abbrev g : Function
  g = lowered_function f

  was : FunctionFormed m f
  was = low.formed.function f at

  stay : (b : Block) → Among b f.blocks → ResultsStay b.instrs
  stay b there x here = turn_result m low f x (turn m low.formed low.counted f x ((was.block b there).item x here))

  term_formed : (t : Term) → TermFormed m f t → TermFormed n2 g t
  term_formed t h = record {
    targets = λ to there. subst (λ (ls : List Name). Among to ls) (sym (targets_same f.blocks)) (h.targets to there);
    apart = h.apart;
    fit = λ u there. fits_kept m low f at stay false refl u.0 u.1 (h.fit u there);
    typed = h.typed;
    returns = h.returns;
    weighed = h.weighed;
  }

  module _ (b : Block) (there : Among b f.blocks) where
    before : BlockFormed m f b
    before = was.block b there

    item_formed : (y : Instr) → Among y (map lowered_instr b.instrs) → InstrFormed n2 g y
    item_formed y here = (let x = map_among lowered_instr b.instrs y here in subst (λ (z : Instr). InstrFormed n2 g z) (sym x.2) (instr_formed m low f at stay b there x.0 x.1 (before.item x.0 x.1)))

    block_formed : BlockFormed n2 g (lowered_block b)
    block_formed = record {
      named = before.named;
      lead = lead_same b.instrs ∙ before.lead;
      item = item_formed;
      exit = term_formed b.term before.exit;
      matched = λ y es here e. (let x = map_among lowered_instr b.instrs y here in matched_same f.blocks b.label es (before.matched x.0 es x.1 (sym (ap entries_of x.2 ∙ same_entries x.0) ∙ e)));
      ready = ready_stays f stay (AtHead f b.label) (AtHead g b.label) (head_stays f stay b.label) b.instrs (stay b there) (λ x here. turn_reads m low f x (turn m low.formed low.counted f x (before.item x here))) b.term before.ready;
      joined = λ y es here e. (let x = map_among lowered_instr b.instrs y here in joined_stays f stay es (before.joined x.0 es x.1 (sym (ap entries_of x.2 ∙ same_entries x.0) ∙ e)));
    }

  same_declared : is_declared g ≡ is_declared f
  same_declared = ap (λ (k : ℕ). k == 0) (length-map f.blocks lowered_block)

  abbrev well_where : Bool → Bool
  well_where declared = if is_profile_name f.name then declared && has_profile_types f else (if declared then has_provided_types f else true)

  pub function_formed : is_of_intrinsics f.name ≡ false → FunctionFormed n2 g
  function_formed off = record {
    named = was.named;
    params = ap (λ (d : Bool). list_all (is_param_name d) (param_names f)) same_declared ∙ was.params;
    free = ap (λ (kind : Kind). is_reserved_function kind f.name) (kind_is m) ∙ off;
    provided = ap well_where same_declared ∙ was.provided;
    noted = ap (λ (d : Bool). has_entries d f.prof) same_declared ∙ was.noted;
    distinct = λ d n. subst (λ (ns : List Name). times n ns ≤ 1) (sym (names_same f stay)) (was.distinct (sym same_declared ∙ d) n);
    first = first_same f.blocks ∙ was.first;
    block = λ q here. (let b = map_among lowered_block f.blocks q here in subst (λ (x : Block). BlockFormed n2 g x) (sym b.2) (block_formed b.0 b.1));
  }

-- ---- the runtime's function

pub runtime_formed : (m : Module) → FunctionFormed (lowered m) runtime_declaration
unfolding runtime_name is_global_name is_local_name is_quotable is_of_intrinsics is_profile_name is_increment is_increment_step is_value_note is_target_note same_ty
runtime_formed m = record {
  named = refl;
  params = refl;
  free = ap (λ (kind : Kind). is_reserved_function kind runtime_name) (kind_is m);
  provided = refl;
  noted = refl;
  distinct = λ d n. absurd (cc d);
  first = refl;
  block = λ q h. absurd h;
}
