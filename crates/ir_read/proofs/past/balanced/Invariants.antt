use Rattle.std.proofs.Common.{◌≡◌, ◌+◌, ◌≤◌, length, [], ◌∷◌}
use Rattle.ir_grammar.specs.Brackets.{closing_read}
use Rattle.ir_grammar.specs.Past.{bracket_of}
use Rattle.ir_read.specs.Nests.{nest_of}
use Rattle.ir_read.proofs.past.balanced.Given as goal

abbrev pub invariant-loop-turn : goal.invariant-loop-turn
invariant-loop-turn l = record {
  reads : closing_read bracket_of (l.fn.outer ∷ []) l.fn.toks.tokens ≡ closing_read bracket_of (nest_of l.fn.outer l.inside.items) l.toks.tokens;
  whole : l.toks.whole ≡ l.fn.toks.whole;
  fewer : length l.toks.tokens + l._turn ≤ length l.fn.toks.tokens;
}
