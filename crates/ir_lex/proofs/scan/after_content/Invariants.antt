use Rattle.std.proofs.Common.{◌≡◌, drop}
use Rattle.ir_lex.specs.Scan.{content_rest}
use Rattle.ir_lex.proofs.scan.after_content.Given as goal

abbrev pub invariant-loop-i : goal.invariant-loop-i
invariant-loop-i l = content_rest 0 l.text ≡ content_rest l.owed (drop l.i l.text)
