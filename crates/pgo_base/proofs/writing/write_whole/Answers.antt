-- A part is appended to the front that is done.
use Rattle.std.proofs.Common.{arith, length-drop}
use Rattle.std.proofs.lemmas.List.{take_rest}
use Rattle.pgo_base.proofs.WriteLemmas.{more_appended}
use Rattle.pgo_base.proofs.writing.write_whole.Goals as goal

pub writes-preserved : goal.writes-preserved
writes-preserved g c =
    let fits = rw (take_rest c.args.piece.now c.writes.done) at c.in-Some.ensures.within in
    let part = rw (take_rest c.args.piece.now c.writes.done) at c.in-Some.ensures.some in
    record {
      within = omega (arith, fits, length-drop c.writes.done c.args.piece.now, c.writes.invariant.within);
      written = more_appended (g.W.Write.contents c.args.writer.now) (g.W.Write.contents c.writes.writer) (g.W.Write.contents c.write_some.new.writer)
          c.args.piece.now c.writes.done c.in-Some.count c.writes.invariant.written part;
    }
