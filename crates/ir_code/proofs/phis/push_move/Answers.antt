use Rattle.std.proofs.Common.{◌≡◌, ℕ, List, [], ◌∷◌, ◌++◌, Option, Some, None, ap, sym, ◌∙◌, refl}
use Rattle.std.specs.Option.{option_map}
use Rattle.std.proofs.lemmas.List.{append-nil}
use Rattle.ir_tree.specs.Operands.{listed, result_of}
use Rattle.ir_tree.specs.Phis.{entries_of}
use Rattle.ir_tree.specs.declared.types.Instr.{Instr}
use Rattle.ir_tree.specs.declared.types.Ty.{Ty}
use Rattle.ir_model.specs.Step.{typed}
use Rattle.ir_code.specs.Found.{symbol_in, counters_of, sites_of, phi_input_in}
use Rattle.ir_code.specs.Names.{number_in}
use Rattle.ir_code.specs.Resolved.{target_of}
use Rattle.ir_code.specs.declared.code.Input.{Input}
use Rattle.ir_code.specs.declared.code.Move.{Move}
use Rattle.ir_code.specs.declared.code.Target.{Target}
use Rattle.ir_code.proofs.phis.push_move.Goals as goal

abbrev move : Target → Input → Move
move into source = record { into = into; source = source }

some_listed : (target : List ℕ × Ty → Target) (o : Option (List ℕ × Ty)) (into : Target) (source there : Input) → Some into ≡ option_map target o → source ≡ there → move into source ∷ [] ≡ listed (option_map (λ x. move (target x) there) o)
some_listed target None into source there e s = cc
some_listed target (Some x) into source there e s =
    let is : into ≡ target x = cc in
    λ i. move (is i) (s i) ∷ []

none_listed : (target : List ℕ × Ty → Target) (o : Option (List ℕ × Ty)) (there : Input) → None ≡ option_map target o → [] ≡ listed (option_map (λ x. move (target x) there) o)
none_listed target None there e = refl
none_listed target (Some x) there e = cc

pub returns-in_ok-push-in-Some : goal.returns-in_ok-push-in-Some
returns-in_ok-push-in-Some c =
    let s = c.args.symbols.now in
    let target : List ℕ × Ty → Target = target_of (symbol_in s) (counters_of s) (sites_of s) (number_in c.args.registers.now) in
    let phi : c.phi.inside.phi.now ≡ c.args.phi.now = c.phi.view_is in
    let into = c.in-Some.ensures (symbol_in s) (counters_of s) (sites_of s) ∙ ap (λ (i : Instr). option_map target (typed (result_of i))) phi in
    c.in_ok-push-in-Some.ensures.items
    ∙ ap (λ (ms : List Move). c.args.moves.now.items ++ ms) (some_listed target (typed (result_of c.args.phi.now)) c.in-Some.into c.in_ok-source-in-Some.source (phi_input_in s c.args.registers.now c.args.label.now (entries_of c.args.phi.now)) into c.in_ok-source-in-Some.ensures)

pub returns-in-None : goal.returns-in-None
returns-in-None c =
    let s = c.args.symbols.now in
    let target : List ℕ × Ty → Target = target_of (symbol_in s) (counters_of s) (sites_of s) (number_in c.args.registers.now) in
    let phi : c.phi.inside.phi.now ≡ c.args.phi.now = c.phi.view_is in
    let into = c.in-None.ensures (symbol_in s) (counters_of s) (sites_of s) ∙ ap (λ (i : Instr). option_map target (typed (result_of i))) phi in
    sym (append-nil c.args.moves.now.items)
    ∙ ap (λ (ms : List Move). c.args.moves.now.items ++ ms) (none_listed target (typed (result_of c.args.phi.now)) (phi_input_in s c.args.registers.now c.args.label.now (entries_of c.args.phi.now)) into)
