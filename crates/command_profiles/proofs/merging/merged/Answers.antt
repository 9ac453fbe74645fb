use Rattle.std.proofs.lemmas.List.Sorted.{IsPermutation-refl}
use Rattle.command_profiles.proofs.MergeLemmas.{no_mismatch}
use Rattle.command_profiles.proofs.merging.merged.Goals as goal

pub returns-in-Ok-clause-found : goal.returns-in-Ok-clause-found
returns-in-Ok-clause-found g c =
    let inputs = c.args.inputs.now in
    record {
      is = c.in-Ok.ensures.merged;
      only = λ q other. c.any_inputs.ensures.one_merge inputs inputs q c.in-Ok.profile (IsPermutation-refl inputs) c.requires.some other c.in-Ok.ensures.merged;
      fit = no_mismatch c.any_order.ensures.merged_or_not c.any_inputs.ensures.modes_differ inputs c.in-Ok.profile c.in-Ok.ensures.merged;
    }
