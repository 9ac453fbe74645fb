-- The blocks from which a block is entered, and those that the entries of a phi name, by number.
use Rattle.std.specs.Prelude.{◌≡◌, ℕ, ◌<◌, Bool, false, not, ◌&&◌, ◌==◌, List, [], ◌++◌, length, map, flat_map, Option, None, Some, unwrap_or, vec_len}
use Rattle.std.specs.Global.{Vec}
use Rattle.std.specs.List.{list_all, slice_index_or}
use Rattle.check_flow.specs.LookUps.{LabelOf}
use Rattle.ir_rules.specs.Parts.{place, unless}
use Rattle.ir_rules.specs.PhiEntries.{are_as_many, are_matched_if_any, tails}
use Rattle.ir_rules.specs.declared.place.Place.{Place}
use Rattle.ir_tree.specs.Operands.{Entries}
use Rattle.ir_tree.specs.Phis.{entries_of, is_phi}
use Rattle.ir_tree.specs.Successors.{successors}
use Rattle.ir_tree.specs.declared.types.Block.{Block}
use Rattle.spec_lists.specs.Each.{each, only_if}

abbrev pub is_at : ℕ → Option ℕ → Bool
is_at b None = false
is_at b (Some to) = to == b

-- the number of a block, once for each of these labels that names block b
abbrev pub each_arrival : LabelOf → ℕ → ℕ → List (List ℕ) → List ℕ
each_arrival known b p labels = flat_map (λ to. only_if (is_at b (known to)) p) labels

-- the numbers of the blocks whose successor positions name block b, one for each position, rising
abbrev pub arrivals : LabelOf → ℕ → List Block → List ℕ
arrivals known b blocks = each (λ p block. each_arrival known b p (successors block.term)) 0 blocks

-- the number of the block that each entry names; of an entry that names none, the number of blocks
abbrev pub numbers_of : LabelOf → ℕ → Entries → List ℕ
numbers_of known count es = map (λ e. unwrap_or (known e.1) count) es

-- ---- a list for each block

abbrev pub Lists : Type 0
Lists = Vec (Vec ℕ)

-- the list with number b
abbrev pub listed : Lists → ℕ → List ℕ
listed lists b = slice_index_or (map (λ v. v.items) lists.items) b []

-- each list gains these numbers at its end, and no list comes or goes
pub record Gains (old new : Lists) (more : ℕ → List ℕ) : Type 0 where
  pub count : vec_len new ≡ vec_len old
  pub each : (b : ℕ) → b < vec_len old → listed new b ≡ listed old b ++ more b

-- there is a list for each block, with the numbers of the blocks from which it is entered
pub record EntersAll (known : LabelOf) (blocks : List Block) (lists : Lists) : Type 0 where
  pub count : vec_len lists ≡ length blocks
  pub each : (b : ℕ) → b < length blocks → listed lists b ≡ arrivals known b blocks

-- ---- phis that break the rule

abbrev pub are_without_phis : List Block → Bool
are_without_phis blocks = list_all (λ block. list_all (λ x. not (is_phi x)) block.instrs) blocks

-- each label of an entry, and each block, is named by as many entries as it has successor positions that name l
abbrev pub are_as_many_all : List Block → List ℕ → Entries → Bool
are_as_many_all blocks l es = list_all (are_as_many blocks l es) (tails es) && list_all (λ b. are_as_many blocks l es b.label) blocks

abbrev pub unmatched_places : List Block → ℕ → ℕ → Block → List Place
unmatched_places blocks k b block = each (λ i x. unless (are_matched_if_any blocks block.label (entries_of x)) (place k b i)) 0 block.instrs
