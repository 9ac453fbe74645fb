use Rattle.ir_memory.proofs.ObjectLemmas.{place_cut}
use Rattle.ir_memory.proofs.live_object.count_below.Goals as goal

pub returns-then-is_place : goal.returns-then-is_place
returns-then-is_place c =
    place_cut c.args.objects.now c.args.number c.place_from_end-from_end.result c.requires (c.is_place.ensures c.if-is_place.true)
