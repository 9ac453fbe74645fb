-- Rule 15. The note of a branch or switch has as many weights as it has successors, that of a select two. The note of a call tells
-- its targets, that of a definition its count of entries.
use Rattle.std.specs.Prelude.{ℕ, Bool, true, false, ◌==◌, ◌+◌, not, List, length, Option, None, Some}
use Rattle.ir_rules.specs.Parts.{Rule, places, silent}
use Rattle.ir_rules.specs.declared.place.Place.{Place}
use Rattle.ir_tree.specs.Functions.{is_declared}
use Rattle.ir_tree.specs.declared.types.Instr.{Instr}
use Rattle.ir_tree.specs.declared.types.Instr.TheVariants.{Binary, Compare, Convert, Freeze, Select, Phi, Alloca, Load, Store, Gep, Call, Count}
use Rattle.ir_tree.specs.declared.types.Module.{Module}
use Rattle.ir_tree.specs.declared.types.Prof.{Prof}
use Rattle.ir_tree.specs.declared.types.Prof.TheVariants.{Entry, Weights, Targets}
use Rattle.ir_tree.specs.declared.types.Term.{Term}
use Rattle.ir_tree.specs.declared.types.Term.TheVariants as term

-- no note, or so many weights
abbrev pub has_weights : ℕ → Option Prof → Bool
has_weights n None = true
has_weights n (Some (Entry count)) = false
has_weights n (Some (Weights weights)) = length weights == n
has_weights n (Some (Targets total list)) = false

abbrev pub has_targets : Option Prof → Bool
has_targets None = true
has_targets (Some (Entry count)) = false
has_targets (Some (Weights weights)) = false
has_targets (Some (Targets total list)) = true

abbrev pub has_entries : Bool → Option Prof → Bool
has_entries declared None = true
has_entries declared (Some (Entry count)) = not declared
has_entries declared (Some (Weights weights)) = false
has_entries declared (Some (Targets total list)) = false

abbrev pub is_weighed : Instr → Bool
is_weighed (Binary dest op flags ty left right) = true
is_weighed (Compare dest pred ty left right) = true
is_weighed (Convert dest op flags from value to) = true
is_weighed (Freeze dest ty value) = true
is_weighed (Select dest cond ty first second prof) = has_weights 2 prof
is_weighed (Phi dest ty entries) = true
is_weighed (Alloca dest mem) = true
is_weighed (Load dest ty address) = true
is_weighed (Store ty value address) = true
is_weighed (Gep dest inbounds mem address indices) = true
is_weighed (Call dest ret callee args prof) = has_targets prof
is_weighed (Count symbol size index step) = true

abbrev pub is_weighed_term : Term → Bool
is_weighed_term (term.Br to) = true
is_weighed_term (term.CondBr cond first second prof) = has_weights 2 prof
is_weighed_term (term.Switch ty value default cases prof) = has_weights (length cases + 1) prof
is_weighed_term (term.Ret value) = true
is_weighed_term term.Unreachable = true

abbrev pub weighing : Rule
weighing = record silent {
  head = λ k f. has_entries (is_declared f) f.prof;
  item = λ f b block i x. is_weighed x;
  exit = λ f b block. is_weighed_term block.term;
}

abbrev pub breaks_15 : Module → List Place
breaks_15 m = places weighing m
