use Rattle.std.proofs.Common.{slice_index, refl, arith}
use Rattle.gen_code.proofs.Degrees.{among_at, rank_more}
use Rattle.gen_code.specs.Tables.{at}
use Rattle.gen_code.proofs.tables.put_ranks.Goals as goal

pub put_first-requires : goal.put_first-requires
put_first-requires c =
    let h = c.requires.within (slice_index c.args.counted.now c.loop-rank.rank) (among_at c.args.counted.now c.loop-rank.rank c.loop-rank-test.true) in
    let e = c.loop-rank.auto.ranks in
    omega (arith, h, e)

pub loop-rank-preserved : goal.loop-rank-preserved
loop-rank-preserved c k =
    rank_more c.args.counted.now c.loop-rank.rank k (slice_index c.args.counted.now c.loop-rank.rank) (at c.loop-rank.ranks k) (at c.put_first.new.table k) c.loop-rank-test.true refl (c.loop-rank.invariant k) (c.put_first.ensures.put k)
