use Rattle.std.proofs.Common.{◌≡◌, ℕ, List, [], ◌∷◌, ap, sym, ◌∙◌}
use Rattle.std.proofs.lemmas.Result.{on_ok_weaker}
use Rattle.std.specs.Borrow.{Bor}
use Rattle.prof_text.specs.Merged.{Key}
use Rattle.prof_text.specs.Site.{sites_of}
use Rattle.prof_text.specs.Gathered.{plain_key}
use Rattle.prof_text.specs.declared.tally.Tally.{Tally}
use Rattle.prof_text.proofs.GatherLemmas.{one_entry, put_place, tally_at}
use Rattle.prof_text.proofs.gathered.Gathered.add.Goals as goal

pub returns-in-Some : goal.returns-in-Some
returns-in-Some c f r counters sites gathers =
    let (k, t, at, same) = c.in-Some.ensures.found in
    let m = c.args.self.now.tallies in
    let key : Key = (c.args.name.now, c.args.hash) in
    let here : Bor (List ℕ) × ℕ = c.pair_mut-sum.result.0.now in
    let sum : Tally = c.pair_mut-sum.result.1.now in
    let is : plain_key here ≡ key = one_entry k here t sum at c.pair_mut-sum.ensures.value ∙ same in
    let unique = c.pair_mut-sum.ensures.unique in
    let was = tally_at m f c.in-Some.place here sum key unique c.pair_mut-sum.ensures.value is gathers in
    on_ok_weaker c.add.result (λ now. put_place m f c.in-Some.place here sum key unique c.pair_mut-sum.ensures.value is gathers (r ∷ []) c.add.new.self now)
    (c.add.ensures (f key) r counters (sites ∙ ap sites_of (sym c.as_slice.ensures.value)) was)
