use Rattle.std.proofs.Common.{◌∙◌, ◌+◌, ◌*◌, ◌/◌, ◌≤◌, length, arith}
use Rattle.definite_assignment.proofs.Opened.{all_chunks, next_chunk, quotient, small_rest, start_none}
use Rattle.definite_assignment.proofs.exposed.first_open.Goals as goal

pub loop-c-init : goal.loop-c-init
loop-c-init c = start_none c.args.rows.now c.args.tagged.now

pub loop-c-preserved : goal.loop-c-preserved
loop-c-preserved c = c.earlier-found.ensures ∙ next_chunk c.args.rows.now c.loop-c.c c.args.tagged.now c.loop-c.found c.in_ok-here.here c.loop-c.invariant c.in_ok-here.ensures

pub returns : goal.returns
returns c =
    let end : length c.args.givers.now / 64 + 1 ≤ c.loop-c.c = omega arith in
    let many : length c.args.givers.now ≤ 64 * c.loop-c.c = omega (arith, end, quotient (length c.args.givers.now), small_rest (length c.args.givers.now)) in
    all_chunks c.args.rows.now c.args.givers.now c.loop-c.c many c.args.tagged.now c.loop-c.found c.requires.tagged c.loop-c.invariant
