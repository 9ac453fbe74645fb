use Rattle.std.proofs.Common.{rules, Ok, Err}
use Rattle.std.proofs.lemmas.List.Sorted.{answers_always}
use Rattle.ir_memory.specs.declared.live_object.LiveObject.{LiveObject}
use Rattle.ir_memory.proofs.ObjectLemmas.{searched}
use Rattle.ir_memory.proofs.live_object.searched.Goals as goal

pub returns-in-Ok : goal.returns-in-Ok
returns-in-Ok c =
    let by_key = c.in-Ok.ensures.position (λ (o : LiveObject). o.number) (answers_always _ _ _ (λ f a r g called. search rules)) in
    (searched c.args.objects.now c.args.number c.requires (Ok c.in-Ok.at) c.in-Ok.ensures.bound by_key).here

pub returns-in-Err : goal.returns-in-Err
returns-in-Err c =
    let by_key = c.in-Err.ensures.position (λ (o : LiveObject). o.number) (answers_always _ _ _ (λ f a r g called. search rules)) in
    (searched c.args.objects.now c.args.number c.requires (Err c.in-Err.field-0) c.in-Err.ensures.bound by_key).none
