-- A number within limits is a number of the text, tested.
use Rattle.std.proofs.Common.{◌≡◌, ℕ, ◌≤◌, true, false, ◌&&◌, [], ◌∷◌, Option, Some, None, refl, ap, ◌∙◌, arith}
use Rattle.std.specs.Prelude.{nat_le}
use Rattle.std.specs.Option.{option_and_then}
use Rattle.std.proofs.lemmas.Bool.Decides.{nat_tests}
use Rattle.ir_grammar.specs.Rules.{with_rest}
use Rattle.ir_grammar.specs.Words.{when}
use Rattle.prof_view.specs.Grammar.{number_line, number_line_within}
use Rattle.prof_view.specs.Lines.{Lines}
use Rattle.prof_view.specs.Words.{number_within, numeral}

-- the number, where it is within the limits, and the lines behind it
abbrev tested : ℕ → ℕ → Option (ℕ × Lines) → Option (ℕ × Lines)
tested least most None = None
tested least most (Some p) = with_rest (when (nat_le least p.0 && nat_le p.0 most) p.0) p.1

within_is : (least most : ℕ) (lines : Lines) → (number_line_within least most).read lines ≡ tested least most (number_line.read lines)
unfolding number_line number_line_within number_within
within_is least most [] = refl
within_is least most (line ∷ lines) = first (numeral 10 line)
  where
    first : (o : Option ℕ) → with_rest (option_and_then (λ n. when (nat_le least n && nat_le n most) n) o) lines ≡ tested least most (with_rest o lines)
    first None = refl
    first (Some n) = refl

pub within_none : (least most : ℕ) (lines : Lines) → number_line.read lines ≡ None → (number_line_within least most).read lines ≡ None
within_none least most lines e = within_is least most lines ∙ ap (tested least most) e

is_within : (least n most : ℕ) → least ≤ n → n ≤ most → (nat_le least n && nat_le n most) ≡ true
is_within least n most low high = grind (arith, nat_tests)

not_within : (least n most : ℕ) → ((least ≤ n) × (n ≤ most) → ⊥) → (nat_le least n && nat_le n most) ≡ false
not_within least n most out = grind (arith, nat_tests)

pub within_some : (least most n : ℕ) (lines rest : Lines) → number_line.read lines ≡ Some (n, rest) → least ≤ n → n ≤ most → (number_line_within least most).read lines ≡ Some (n, rest)
within_some least most n lines rest e low high =
    within_is least most lines ∙ (ap (tested least most) e ∙ ap (λ t. with_rest (when t n) rest) (is_within least n most low high))

pub within_outside : (least most n : ℕ) (lines rest : Lines) → number_line.read lines ≡ Some (n, rest) → ((least ≤ n) × (n ≤ most) → ⊥) → (number_line_within least most).read lines ≡ None
within_outside least most n lines rest e out =
    within_is least most lines ∙ (ap (tested least most) e ∙ ap (λ t. with_rest (when t n) rest) (not_within least n most out))
