use Rattle.std.proofs.Common.{◌≡◌, drop, false}
use Rattle.ir_lex.specs.Spelling.{after_gap}
use Rattle.ir_lex.proofs.tokens.gap_len.Given as goal

abbrev pub invariant-loop-i : goal.invariant-loop-i
invariant-loop-i l = after_gap false l.text ≡ after_gap l.comment (drop l.i l.text)
