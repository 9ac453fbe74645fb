use Rattle.std.proofs.Common.{◌<◌, Option, length, map, sym, subst, arith}
use Rattle.std.proofs.lemmas.List.{length-map}
use Rattle.ir_tree.specs.Names.{Indexes}
use Rattle.ir_tree.specs.Operands.{Entries}
use Rattle.ir_code.specs.Resolved.{entry_labels}
use Rattle.ir_code.specs.declared.TheConstants.{SCANNED_MOST}
use Rattle.ir_code.proofs.phis.IndexedPhi.value.Goals as goal

pub find_value-requires : goal.find_value-requires
find_value-requires c =
    let P : Option Entries → Type 0 = λ o. SCANNED_MOST < length (entry_labels o) → Indexes c.self.inside.labels (entry_labels o) in
    let many : SCANNED_MOST < length (map (λ e. e.1) c.in-Some.entries.now) = omega (arith, length-map c.in-Some.entries.now (λ e. e.1)) in
    subst P (sym c.in-Some.ensures) c.self.invariant many
