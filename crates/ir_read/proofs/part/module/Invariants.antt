use Rattle.std.proofs.Common.{◌≡◌, suc, ◌-◌}
use Rattle.ir_read.specs.Parts.{with_part}
use Rattle.ir_read.proofs.Folds.{fold_from}
use Rattle.ir_grammar.specs.Words.{any_left}
use Rattle.ir_grammar.specs.Grammar.{part, «module»}
use Rattle.ir_read.proofs.part.«module».Given as goal

abbrev pub invariant-loop-turn : goal.invariant-loop-turn
invariant-loop-turn l = record {
  reads : («module» l.fn.nodes).read l.fn.toks.tokens ≡ fold_from any_left (part l.fn.nodes) with_part (suc l._turn-end - l._turn) (record { globals = l.globals.items; functions = l.functions.items }) l.toks.tokens;
  whole : l.toks.whole ≡ l.fn.toks.whole;
  same : l.nodes ≡ l.fn.nodes;
}
