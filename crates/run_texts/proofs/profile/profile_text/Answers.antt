use Rattle.std.proofs.Common.{rules, ◌≡◌, ap, ◌∙◌}
use Rattle.prof_text.specs.Record.{values_of}
use Rattle.prof_text.specs.declared.error.MergeError.TheVariants as errors
use Rattle.run_texts.proofs.Apart.{no_mismatch}
use Rattle.run_texts.proofs.profile.profile_text.Goals as goal

-- no two records have one key
pub unreachable-requires : goal.unreachable-requires
unreachable-requires c =
    let memory : c.in-Err.error ≡ errors.NoMemory =
    no_mismatch c.args.functions.now c.args.tallies.now c.args.counters.now c.args.rows.now (values_of c.in_ok-records.records.items) c.in-Err.error c.requires.apart
    c.in_ok-records.ensures.values c.in-Err.ensures.refused in
    search rules
