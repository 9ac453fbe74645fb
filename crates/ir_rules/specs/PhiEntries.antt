-- Rule 10. A phi has an entry for each successor position that names its block, reachable or not, under the label of the block
-- to which the position belongs, and no other entry. Entries for one block have equal values.
use Rattle.std.specs.Prelude.{ℕ, Bool, true, false, ◌&&◌, ◌==◌, cond, List, map, sum_by, Option, None, Some}
use Rattle.std.specs.List.{list_all}
use Rattle.ir_rules.specs.Lists.{times}
use Rattle.ir_rules.specs.Parts.{Rule, places, silent}
use Rattle.ir_rules.specs.declared.place.Place.{Place}
use Rattle.ir_tree.specs.Names.{same}
use Rattle.ir_tree.specs.Operands.{Entries, same_operand}
use Rattle.ir_tree.specs.Phis.{entries_of, entry_for}
use Rattle.ir_tree.specs.Successors.{successors}
use Rattle.ir_tree.specs.declared.types.Block.{Block}
use Rattle.ir_tree.specs.declared.types.Module.{Module}
use Rattle.ir_tree.specs.declared.types.Operand.{Operand}

-- the labels that entries name
abbrev pub tails : Entries → List (List ℕ)
tails es = map (λ e. e.1) es

-- how many successor positions of the blocks labelled n name the block labelled l
abbrev pub positions : List ℕ → List ℕ → List Block → ℕ
positions n l blocks = sum_by (λ b. cond {A = ℕ} (same n b.label) (times l (successors b.term)) 0) blocks

-- as many entries name n as there are positions of n
abbrev pub are_as_many : List Block → List ℕ → Entries → List ℕ → Bool
are_as_many blocks l es n = times n (tails es) == positions n l blocks

abbrev pub has_value : Operand → Option (Operand × List ℕ) → Bool
has_value value None = false
has_value value (Some e) = same_operand value e.0

-- each entry has the value of the first that names its block
abbrev pub have_one_value : Entries → Bool
have_one_value es = list_all (λ e. has_value e.0 (entry_for e.1 es)) es

abbrev pub are_matched : List Block → List ℕ → Entries → Bool
are_matched blocks l es = list_all (are_as_many blocks l es) (tails es) && (list_all (λ b. are_as_many blocks l es b.label) blocks && have_one_value es)

abbrev pub are_matched_if_any : List Block → List ℕ → Option Entries → Bool
are_matched_if_any blocks l None = true
are_matched_if_any blocks l (Some es) = are_matched blocks l es

abbrev pub phi_entries : Rule
phi_entries = record silent { item = λ f b block i x. are_matched_if_any f.blocks block.label (entries_of x) }

abbrev pub breaks_10 : Module → List Place
breaks_10 m = places phi_entries m
