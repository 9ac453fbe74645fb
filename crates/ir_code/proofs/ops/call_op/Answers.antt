use Rattle.std.proofs.Common.{◌≡◌, ℕ, List, Option, ◌∙◌, subst}
use Rattle.ir_code.specs.Found.{symbol_in, counters_of, sites_of, call_op_in}
use Rattle.ir_code.specs.declared.code.Op.{Op}
use Rattle.ir_code.specs.declared.code.Op.TheVariants.{Call}
use Rattle.ir_code.proofs.ops.call_op.Goals as goal

pub returns-in_ok-args-in-None : goal.returns-in_ok-args-in-None
returns-in_ok-args-in-None c =
    let s = c.args.symbols.now in
    let into = c.target.ensures (symbol_in s) (counters_of s) (sites_of s) in
    let args = c.of.ensures ∙ c.in_ok-args-in-None.ensures in
    let P : Option (List ℕ) → Type 0 = λ o. ◌≡◌ {A = Op} (Call c.target.result c.args.ret c.in_ok-callee-in-None.callee c.of.result) (call_op_in s c.args.registers.now c.args.dest.now c.args.ret c.args.callee.now c.args.args.now o) in
    subst P c.in-None.ensures (λ i. Call (into i) c.args.ret (c.in_ok-callee-in-None.ensures i) (args i))
