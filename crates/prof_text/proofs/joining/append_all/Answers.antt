use Rattle.std.proofs.Common.{◌≡◌, ◌<◌, length, ◌++◌, arith, rules}
use Rattle.prof_text.proofs.AppendLemmas.{append_step}
use Rattle.prof_text.proofs.joining.append_all.Goals as goal

pub loop-s-preserved : goal.loop-s-preserved
loop-s-preserved c =
    let in_sites : c.loop-s.s < length c.loop-s.sites = omega arith in
    let in_more : c.loop-s.s < length c.args.more.now = omega arith in
    let items : c.extend_from_slice.new.self.items ≡ c.index-sites-s.result.items ++ c.index-more-s.result.items = search rules in
    append_step c.args.sites.now c.loop-s.sites c.args.more.now c.loop-s.s c.index-sites-s.result c.index-more-s.result c.extend_from_slice.new.self
    in_sites in_more c.index-sites-s.is c.index-more-s.is items c.loop-s.invariant
