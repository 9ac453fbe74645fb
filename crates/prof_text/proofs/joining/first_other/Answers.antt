use Rattle.std.proofs.Common.{◌≡◌, ℕ, Option, Some, None, find, is_some, true, false, sym, ap, ◌∙◌, refl, rules, arith}
use Rattle.prof_text.specs.Mismatch.{differs_from}
use Rattle.prof_text.proofs.FindLemmas.{find_front, find_back, find_head}
use Rattle.prof_text.proofs.joining.first_other.Goals as goal

none_of : (o : Option ℕ) → is_some o ≡ false → o ≡ None
none_of None h = refl
none_of (Some n) h = cc

pub returns-then-is_some-clause-found : goal.returns-then-is_some-clause-found
returns-then-is_some-clause-found c ns ms own begins theirs =
    let hit : is_some (find (differs_from c.args.first) ns) ≡ true = ap is_some (sym own) ∙ (sym c.is_some.ensures ∙ c.if-is_some.true) in
    own ∙ sym (find_front (differs_from c.args.first) ns ms hit)

pub returns-then-next-first-clause-found : goal.returns-then-next-first-clause-found
returns-then-next-first-clause-found c ns ms own begins theirs =
    let none : find (differs_from c.args.first) ns ≡ None = sym own ∙ none_of c.args.other (sym c.is_some.ensures ∙ c.if-is_some.false) in
    let differs : differs_from c.args.first c.args.next ≡ true = search rules in
    sym (find_back (differs_from c.args.first) ns ms none ∙ find_head (differs_from c.args.first) ms c.args.next begins differs)

pub returns-clause-found : goal.returns-clause-found
returns-clause-found c ns ms own begins theirs =
    let none : find (differs_from c.args.first) ns ≡ None = sym own ∙ none_of c.args.other (sym c.is_some.ensures ∙ c.if-is_some.false) in
    let same : c.args.next ≡ c.args.first = omega arith in
    theirs ∙ (ap (λ (n : ℕ). find (differs_from n) ms) same ∙ sym (find_back (differs_from c.args.first) ns ms none))
