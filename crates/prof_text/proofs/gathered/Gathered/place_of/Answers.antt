use Rattle.std.proofs.Common.{◌≡◌, true, sym, ◌∙◌}
use Rattle.std.proofs.lemmas.Map.Made.{lookup_key_passes}
use Rattle.prof_text.proofs.GatherLemmas.{borrowed_key_eq, equal_key, get_key_is}
use Rattle.prof_text.proofs.gathered.Gathered.place_of.Goals as goal

pub returns-then-eq-clause-found : goal.returns-then-eq-clause-found
returns-then-eq-clause-found c = (c.in-Some.next.now, c.in-Some.field-0-1.now, sym c.in-Some.ensures.entry, equal_key c.in-Some.next.now c.args.key (sym c.eq.ensures ∙ c.if-eq.true))

pub returns-in-Some-get_full-clause-found : goal.returns-in-Some-get_full-clause-found
returns-in-Some-get_full-clause-found c =
    let k = c.in-Some-get_full.field-0-1.now in
    let passes : borrowed_key_eq c.args.key k ≡ true = lookup_key_passes (borrowed_key_eq c.args.key) c.args.self.now.tallies.entries k (sym c.in-Some-get_full.ensures.key) in
    (k, c.in-Some-get_full.field-0-2.now, c.in-Some-get_full.ensures.entry, sym (equal_key c.args.key k passes))

pub returns-in-None-clause-none : goal.returns-in-None-clause-none
returns-in-None-clause-none c = sym (get_key_is c.args.self.now.tallies c.args.key) ∙ sym c.in-None.ensures.value
