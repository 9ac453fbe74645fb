-- The reads of a function that only its walks decide, in text order, by what the look-up of each register finds.
use Rattle.std.specs.Prelude.{◌≡◌, ℕ, ◌<◌, Bool, ◌&&◌, ◌==◌, not, nat_lt, List, [], ◌∷◌, ◌++◌, flat_map, length, Option, None, Some}
use Rattle.ir_assigned.specs.declared.reads.Read.{Read}
use Rattle.ir_rules.specs.Scopes.{term_reads}
use Rattle.ir_tree.specs.Operands.{Entries, Use, operands}
use Rattle.ir_tree.specs.Phis.{entries_of}
use Rattle.ir_tree.specs.declared.locals.Local.{Local}
use Rattle.ir_tree.specs.declared.locals.LocalKind.{LocalKind}
use Rattle.ir_tree.specs.declared.locals.LocalKind.TheVariants.{Param, Result, Label}
use Rattle.ir_tree.specs.declared.types.Block.{Block}
use Rattle.ir_tree.specs.declared.types.Instr.{Instr}
use Rattle.ir_tree.specs.declared.types.Operand.{Operand}
use Rattle.ir_tree.specs.declared.types.Operand.TheVariants.{Int, Null, Local as Named, Global}
use Rattle.spec_lists.specs.Each.{each, only_if}

abbrev pub LocalOf : Type 0
LocalOf = List ℕ → Option Local

abbrev pub HasFewBlocks : LocalOf → Type 0
HasFewBlocks known = (n : List ℕ) (l : Local) → known n ≡ Some l → l.block < 4294967296

-- ---- a register read in block b by item i

abbrev pub read : ℕ → ℕ → ℕ → ℕ → Read
read giver at b i = record { giver = giver; at = at; block = b; item = i }

abbrev pub kind_read : LocalKind → ℕ → ℕ → Local → List Read
kind_read (Param t) b i l = []
kind_read (Result r) b i l = only_if (not (l.block == b && nat_lt l.item i)) (read l.block b b i)
kind_read Label b i l = []

abbrev pub local_read : ℕ → ℕ → Option Local → List Read
local_read b i None = []
local_read b i (Some l) = kind_read l.kind b i l

abbrev pub operand_read : LocalOf → ℕ → ℕ → Operand → List Read
operand_read known b i (Int value) = []
operand_read known b i Null = []
operand_read known b i (Named name) = local_read b i (known name)
operand_read known b i (Global name) = []

abbrev pub uses_reads : LocalOf → ℕ → ℕ → List Use → List Read
uses_reads known b i uses = flat_map (λ (u : Use). operand_read known b i u.1) uses

abbrev pub operand_reads : LocalOf → ℕ → ℕ → Instr → List Read
operand_reads known b i x = uses_reads known b i (operands x)

-- ---- a value of a phi, read at the end of the block of its entry

abbrev pub kind_value : LocalKind → ℕ → ℕ → Local → Local → List Read
kind_value (Param t) b i from l = []
kind_value (Result r) b i from l = only_if (not (l.block == from.block)) (read l.block from.block b i)
kind_value Label b i from l = []

abbrev pub value_read : ℕ → ℕ → Option Local → Option Local → List Read
value_read b i None found = []
value_read b i (Some from) None = []
value_read b i (Some from) (Some l) = kind_value l.kind b i from l

abbrev pub entry_value : LocalOf → ℕ → ℕ → List ℕ → Operand → List Read
entry_value known b i label (Int value) = []
entry_value known b i label Null = []
entry_value known b i label (Named name) = value_read b i (known label) (known name)
entry_value known b i label (Global name) = []

abbrev pub entry_read : LocalOf → ℕ → ℕ → Operand × List ℕ → List Read
entry_read known b i e = entry_value known b i e.1 e.0

abbrev pub entries_reads : LocalOf → ℕ → ℕ → Entries → List Read
entries_reads known b i es = flat_map (entry_read known b i) es

-- ---- items, blocks, functions

abbrev pub reads_if_any : LocalOf → ℕ → ℕ → Instr → Option Entries → List Read
reads_if_any known b i x None = operand_reads known b i x
reads_if_any known b i x (Some es) = entries_reads known b i es

abbrev pub instr_reads : LocalOf → ℕ → ℕ → Instr → List Read
instr_reads known b i x = reads_if_any known b i x (entries_of x)

abbrev pub instrs_reads : LocalOf → ℕ → List Instr → List Read
instrs_reads known b xs = each (instr_reads known b) 0 xs

abbrev pub block_reads : LocalOf → ℕ → Block → List Read
block_reads known b block = instrs_reads known b block.instrs ++ uses_reads known b (length block.instrs) (term_reads block.term)

abbrev pub all_reads : LocalOf → List Block → List Read
all_reads known blocks = each (block_reads known) 0 blocks
