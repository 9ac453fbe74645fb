use Rattle.std.proofs.Common.{◌≡◌, List, [], ◌++◌, sym, subst}
use Rattle.indexmap.specs.IndexMap.{get_by}
use Rattle.prof_view.specs.Profile.{ProfileRecord}
use Rattle.prof_text.specs.Tally.{Tallies}
use Rattle.prof_text.specs.Gathered.{is_key, plain_key}
use Rattle.prof_text.proofs.GatherLemmas.{none_at, put_at}
use Rattle.prof_text.proofs.gathered.Gathered.put_first.Goals as goal

pub returns : goal.returns
returns c f rs gathers tallies =
    let key = plain_key c.args.key in
    let none : f key ≡ [] = none_at (get_by (is_key key) c.args.self.now.tallies) (f key) (sym c.requires) (gathers key) in
    let now : Tallies c.args.tally (f key ++ rs) = subst (λ (fs : List ProfileRecord). Tallies c.args.tally (fs ++ rs)) (sym none) tallies in
    put_at c.args.self.now.tallies c.insert.new.self f c.args.key rs c.args.tally gathers c.in_ok-insert.ensures.updates.0 now
