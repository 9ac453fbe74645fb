use Rattle.std.proofs.Common.{◌∙◌, length}
use Rattle.check_operands.proofs.Symbols.{absent, allowed_stands, stands_unless}
use Rattle.check_operands.specs.Found.{is_profile_at}
use Rattle.check_operands.proofs.operands.may_stand.Goals as goal

pub returns-then-allowed : goal.returns-then-allowed
returns-then-allowed c =
    let n = c.args.name.now in
    let knows = c.requires.knows in
    allowed_stands c.args.scope.now.module.now n (knows.once n) c.args.place c.in-Some.p c.args.allowed (c.requires.place ∙ knows.placed n) c.in-Some.is c.if-allowed.true

pub returns-else-allowed : goal.returns-else-allowed
returns-else-allowed c =
    let n = c.args.name.now in
    let knows = c.requires.knows in
    stands_unless c.args.scope.now.module.now n (knows.once n) c.args.place c.in-Some.p c.args.allowed c.is_profile_at.result (c.requires.place ∙ knows.placed n) c.in-Some.is c.if-allowed.false (c.is_profile_at.ensures ∙ (λ j. is_profile_at (knows.kinded j) (length (c.as_slice.ensures j)) n c.in-Some.p))

pub returns-in-None : goal.returns-in-None
returns-in-None c =
    let n = c.args.name.now in
    let knows = c.requires.knows in
    absent c.args.scope.now.module.now n (knows.once n) c.args.allowed c.args.place (c.requires.place ∙ knows.placed n) c.in-None.is
