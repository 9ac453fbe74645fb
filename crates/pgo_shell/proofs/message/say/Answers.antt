-- Each exit leaves a front of the line.
use Rattle.std.proofs.Common.{[], ◌∷◌, ◌++◌, append_assoc, codes}
use Rattle.pgo_shell.proofs.LineLemmas.{front_part, joined, put_whole}
use Rattle.pgo_shell.proofs.message.say.Goals as goal

pub returns-then-not-put_piece-2-clause-line : goal.returns-then-not-put_piece-2-clause-line
returns-then-not-put_piece-2-clause-line g c told =
    let told_1 = c.put_piece.ensures.tells told in
    let first = put_whole _ _ c.if-not-put_piece.false (c.put_piece.ensures.whole told) in
    let part = c.put_piece-2.ensures.front told_1 in
    rw (append_assoc c.args.start.now c.args.end.now (10 ∷ [])) (front_part (codes "pgo: ") c.args.start.now (c.args.end.now ++ 10 ∷ []) (g.E.Sink.bytes c.args.err.now)
    (g.E.Sink.bytes c.put_piece.new.err) (g.E.Sink.bytes c.put_piece-2.new.err) part.0 part.1 first part.2)

pub returns-then-not-put_piece-3-clause-line : goal.returns-then-not-put_piece-3-clause-line
returns-then-not-put_piece-3-clause-line g c told =
    let told_1 = c.put_piece.ensures.tells told in
    let told_2 = c.put_piece-2.ensures.tells told_1 in
    let first = put_whole _ _ c.if-not-put_piece.false (c.put_piece.ensures.whole told) in
    let second = put_whole _ _ c.if-not-put_piece-2.false (c.put_piece-2.ensures.whole told_1) in
    let done = joined (g.E.Sink.bytes c.args.err.now) (g.E.Sink.bytes c.put_piece.new.err) (g.E.Sink.bytes c.put_piece-2.new.err) (codes "pgo: ") c.args.start.now first second in
    let part = c.put_piece-3.ensures.front told_2 in
    rw (append_assoc c.args.start.now c.args.end.now (10 ∷ [])) (front_part (codes "pgo: " ++ c.args.start.now) c.args.end.now (10 ∷ []) (g.E.Sink.bytes c.args.err.now)
    (g.E.Sink.bytes c.put_piece-2.new.err) (g.E.Sink.bytes c.put_piece-3.new.err) part.0 part.1 done part.2)

pub returns-clause-line : goal.returns-clause-line
returns-clause-line g c told =
    let told_1 = c.put_piece.ensures.tells told in
    let told_2 = c.put_piece-2.ensures.tells told_1 in
    let told_3 = c.put_piece-3.ensures.tells told_2 in
    let first = put_whole _ _ c.if-not-put_piece.false (c.put_piece.ensures.whole told) in
    let second = put_whole _ _ c.if-not-put_piece-2.false (c.put_piece-2.ensures.whole told_1) in
    let third = put_whole _ _ c.if-not-put_piece-3.false (c.put_piece-3.ensures.whole told_2) in
    let done_2 = joined (g.E.Sink.bytes c.args.err.now) (g.E.Sink.bytes c.put_piece.new.err) (g.E.Sink.bytes c.put_piece-2.new.err) (codes "pgo: ") c.args.start.now first second in
    let done_3 = joined (g.E.Sink.bytes c.args.err.now) (g.E.Sink.bytes c.put_piece-2.new.err) (g.E.Sink.bytes c.put_piece-3.new.err) (codes "pgo: " ++ c.args.start.now) c.args.end.now done_2 third in
    let part = c.put_piece-4.ensures.front told_3 in
    front_part (codes "pgo: " ++ (c.args.start.now ++ c.args.end.now)) (10 ∷ []) [] (g.E.Sink.bytes c.args.err.now)
    (g.E.Sink.bytes c.put_piece-3.new.err) (g.E.Sink.bytes c.put_piece-4.new.err) part.0 part.1 done_3 part.2
