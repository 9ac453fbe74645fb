use Rattle.std.proofs.Common.{◌∙◌, ap, sym, List, ℕ, Option, is_some}
use Rattle.check_operands.proofs.Values.{local_exists, local_fits}
use Rattle.check_operands.specs.Found.{gives_found}
use Rattle.ir_rules.specs.Existing.{exists}
use Rattle.ir_rules.specs.Finding.{ret_found}
use Rattle.ir_rules.specs.Scopes.{values}
use Rattle.ir_rules.specs.Typing.{fits_at}
use Rattle.ir_tree.specs.FunctionNames.{indexed}
use Rattle.ir_tree.specs.declared.locals.Local.{Local}
use Rattle.ir_tree.specs.declared.types.Operand.{Operand}
use Rattle.check_operands.proofs.operands.see_at.Goals as goal

pub returns-in-Local-clause-exist : goal.returns-in-Local-clause-exist
returns-in-Local-clause-exist c =
    let s = c.args.scope.now in
    let n = c.in-Local.name in
    c.see_local.ensures.exist ∙ (ap (λ (o : Option Local). is_some (ret_found o)) c.find.ensures ∙ (ap (λ (a : List ℕ). is_some (ret_found (indexed s.known.now a))) c.bytes.ensures ∙ (local_exists s.function.now n (ret_found (indexed s.known.now n)) (c.requires.knows.value n) ∙ sym (ap (λ (o : Operand). exists s.module.now s.function.now c.args.allowed o) c.in-Local.is))))

pub returns-in-Local-clause-fit : goal.returns-in-Local-clause-fit
returns-in-Local-clause-fit c =
    let s = c.args.scope.now in
    let n = c.in-Local.name in
    c.see_local.ensures.fit ∙ (ap (λ (o : Option Local). gives_found c.args.ty (ret_found o)) c.find.ensures ∙ (ap (λ (a : List ℕ). gives_found c.args.ty (ret_found (indexed s.known.now a))) c.bytes.ensures ∙ (local_fits s.function.now c.args.ty n (ret_found (indexed s.known.now n)) (c.requires.knows.value n) ∙ sym (ap (λ (o : Operand). fits_at (values s.function.now) c.args.ty o) c.in-Local.is))))
