-- A function that keeps the rules on names, operands and entries is resolved by look-ups.
use Rattle.std.proofs.Common.{◌≡◌, ℕ, ◌≤◌, ◌<◌, Bool, true, false, ◌||◌, List, [], length, map, Option, Some, slice_get, refl, sym, ap, ◌∙◌, arith}
use Rattle.ir_rules.proofs.Counts.{Name}
use Rattle.ir_rules.proofs.Formed.{matched_entries}
use Rattle.ir_rules.proofs.Labelled.{stands_often}
use Rattle.ir_rules.proofs.Members.{among_at, among_is, among_map, each_of}
use Rattle.ir_rules.proofs.NamesTied.{names_once}
use Rattle.ir_rules.proofs.Phis.{no_positions}
use Rattle.ir_rules.specs.Distinct.{distinct}
use Rattle.ir_rules.specs.Existing.{calls_profile, existing, exists, value_names}
use Rattle.ir_rules.specs.Lists.{Among, are_new, is_among, times}
use Rattle.ir_rules.specs.Parts.{FunctionKeeps}
use Rattle.ir_rules.specs.PhiEntries.{phi_entries, positions, tails}
use Rattle.ir_rules.specs.Resolved.{IsResolved}
use Rattle.ir_rules.specs.Scopes.{names, param_names, term_reads}
use Rattle.ir_rules.specs.WellFormed.{Matched}
use Rattle.ir_tree.specs.Blocks.{labels}
use Rattle.ir_tree.specs.Functions.{is_declared}
use Rattle.ir_tree.specs.Operands.{Entries, Use, operands}
use Rattle.ir_tree.specs.Phis.{entries_of}
use Rattle.ir_tree.specs.declared.types.Block.{Block}
use Rattle.ir_tree.specs.declared.types.Function.{Function}
use Rattle.ir_tree.specs.declared.types.Instr.{Instr}
use Rattle.ir_tree.specs.declared.types.Module.{Module}
use Rattle.ir_tree.specs.declared.types.Operand.{Operand}
use Rattle.ir_tree.specs.declared.types.Operand.TheVariants.{Local}

module _ (m : Module) (f : Function) where
  local_exists : (allowed : Bool) (o : Operand) (r : Name) → exists m f allowed o ≡ true → o ≡ Local r → Among r (value_names f)
  local_exists allowed o r h e = among_is r (value_names f) (sym (ap (λ (p : Operand). exists m f allowed p) e) ∙ h)

  -- a label that an entry names is one of a block
  tail_is_label : (l : Name) (es : Entries) → Matched f.blocks l es → (v : Operand) (n : Name) → Among (v, n) es → Among n (labels f.blocks)
  tail_is_label l es matched v n among = by (is_among n (labels f.blocks)) refl
    where
      named : 1 ≤ times n (tails es)
      named =
          let there = among_at (tails es) n (among_map (λ (e : Operand × Name). e.1) es (v, n) among) in
          stands_often n (tails es) there.0 there.1

      by : (t : Bool) → is_among n (labels f.blocks) ≡ t → Among n (labels f.blocks)
      by true e = among_is n (labels f.blocks) e
      by false e =
          let equal : times n (tails es) ≡ positions n l f.blocks = matched.count n in
          let none : positions n l f.blocks ≡ 0 = no_positions n l f.blocks e in
          absurd (omega (arith, named, equal, none))

  module _ (k : ℕ) (apart : FunctionKeeps distinct k f) (known : FunctionKeeps (existing m) k f) (matched : FunctionKeeps phi_entries k f) (defined : is_declared f ≡ false) where
    once : (n : Name) → times n (names f) ≤ 1
    once =
        let params : are_new [] (param_names f) ≡ true = ap (λ (b : Bool). b || are_new [] (param_names f)) (sym defined) ∙ apart.head in
        names_once f params (λ b block at. (apart.block b block at).label) (λ b block at i x here. (apart.block b block at).item i x here)

    pub kept_resolved : length f.blocks < 4294967296 → IsResolved f
    kept_resolved few = record {
      named = record { defined = defined; once = once };
      few = few;
      reads = λ b i block x u r at here among e. local_exists (calls_profile x) u.1 r (each_of (λ (w : Use). exists m f (calls_profile x) w.1) (operands x) ((known.block b block at).item i x here) u among) e;
      exits = λ b block u r at among e. local_exists false u.1 r (each_of (λ (w : Use). exists m f false w.1) (term_reads block.term) ((known.block b block at).exit) u among) e;
      entries = λ b i block x es v n at here e among. tail_is_label block.label es (matched_entries f.blocks block.label (entries_of x) es e ((matched.block b block at).item i x here)) v n among;
    }
