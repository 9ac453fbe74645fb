use Rattle.std.proofs.Common.{◌≡◌, Option, Some, sym, ap, ◌∙◌}
use Rattle.std.specs.Option.{option_map}
use Rattle.instr_lower.proofs.Small.{refusal_small}
use Rattle.lower_units.specs.Shown as shown
use Rattle.lower_units.specs.declared.refusal.Refusal.{Refusal}
use Rattle.lowering.specs.Refusals.{refusal}
use Rattle.instr_lower.proofs.whole.lowered.Goals as goal

pub refused_for-requires : goal.refused_for-requires
refused_for-requires c =
    let m = c.args.original.now in
    let told : refusal m ≡ Some (shown.refusal c.in-Some.refusal) =
    sym (c.in_ok-refusal.ensures ∙ ap refusal c.in_ok-units.ensures) ∙ ap (λ (o : Option Refusal). option_map shown.refusal o) c.in-Some.is in
    refusal_small m (c.asks_are_small.ensures m c.requires.accepted.formed c.requires.counted) (shown.refusal c.in-Some.refusal) told
