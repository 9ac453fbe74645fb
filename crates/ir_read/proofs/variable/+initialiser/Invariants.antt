use Rattle.std.proofs.Common.{◌≡◌, suc, ◌-◌, ◌+◌, ◌*◌, length}
use Rattle.ir_grammar.specs.Rules.{many_from}
use Rattle.ir_grammar.specs.Words.{first_is, is_sign, comma_item}
use Rattle.ir_grammar.specs.Variables.{element}
use Rattle.ir_read.proofs.variable.+initialiser.Given as goal

-- each turn of the cycle leaves one dimension
abbrev pub decreases-init : goal.decreases-init
decreases-init l = 8 * length l.ns.now

abbrev pub decreases-element : goal.decreases-element
decreases-element l = 8 * length l.ns.now + 1

abbrev pub decreases-next_element : goal.decreases-next_element
decreases-next_element l = 8 * length l.ns.now + 2

abbrev pub decreases-more_elements : goal.decreases-more_elements
decreases-more_elements l = 8 * length l.ns.now + 3

abbrev pub decreases-some_elements : goal.decreases-some_elements
decreases-some_elements l = 8 * length l.ns.now + 4

abbrev pub decreases-maybe_elements : goal.decreases-maybe_elements
decreases-maybe_elements l = 8 * length l.ns.now + 5

abbrev pub decreases-elements : goal.decreases-elements
decreases-elements l = 8 * length l.ns.now + 6

abbrev pub decreases-array : goal.decreases-array
decreases-array l = 8 * length l.ns.now + 7

abbrev pub invariant-more_elements-loop-turn : goal.invariant-more_elements-loop-turn
invariant-more_elements-loop-turn l = record {
  reads : many_from (first_is (is_sign 44)) (comma_item (element l.fn.ns l.fn.ty)) (suc (length l.fn.toks.tokens)) l.fn.found.items l.fn.toks.tokens ≡ many_from (first_is (is_sign 44)) (comma_item (element l.fn.ns l.fn.ty)) (suc l._turn-end - l._turn) l.found.items l.toks.tokens;
  whole : l.toks.whole ≡ l.fn.toks.whole;
}
