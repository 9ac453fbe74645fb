use Rattle.std.proofs.Common.{◌≡◌, ◌∙◌, ap, sym, Option, position}
use Rattle.check_operands.proofs.Symbols.{called_at}
use Rattle.check_operands.specs.Found.{has_types, symbol_place}
use Rattle.ir_rules.specs.Calling.{arg_types, is_callee}
use Rattle.ir_rules.specs.Scopes.{symbols}
use Rattle.ir_tree.specs.Names.{same}
use Rattle.ir_tree.specs.declared.types.Function.{Function}
use Rattle.ir_tree.specs.declared.types.Operand.{Operand}
use Rattle.check_operands.proofs.calls.is_callee.Goals as goal

pub returns-in-Global : goal.returns-in-Global
returns-in-Global c =
    let m = c.args.scope.now.module.now in
    let n = c.in-Global.field-0 in
    let ts = arg_types c.args.args.now in
    let told : c.args.place ≡ position (same n) (symbols m) = c.requires.place ∙ (ap (λ (o : Operand). symbol_place c.args.scope.now.symbols.now o) c.in-Global.is ∙ c.requires.knows.placed n) in
    c.has_types.ensures ∙ (ap (λ (o : Option Function). has_types c.args.ret ts o) c.called.ensures ∙ (called_at m n (c.requires.knows.once n) c.args.place c.args.ret ts told ∙ sym (ap (λ (o : Operand). is_callee m c.args.ret ts o) c.in-Global.is)))
