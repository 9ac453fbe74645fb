use Rattle.std.proofs.Common.{◌≡◌, sym, rules}
use Rattle.prof_text.specs.Record.{value_of}
use Rattle.prof_text.specs.Site.{sites_of}
use Rattle.prof_text.proofs.profile.tally_of.Goals as goal

pub returns : goal.returns
returns c =
    let counters : c.in_ok-counters.counters.items ≡ c.args.owned.now.counters = search rules in
    let sites : sites_of c.in_ok-sites.sites.items ≡ c.args.owned.now.sites = search rules in
    c.of.ensures (value_of c.args.owned.now) (sym counters) (sym sites)
