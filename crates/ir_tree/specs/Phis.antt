-- The phis at the head of a block (LLVM Language Reference, "'phi' Instruction").
use Rattle.std.specs.Prelude.{ℕ, Bool, cond, not, List, [], ◌∷◌, take, drop, find, Option, Some, None, is_some}
use Rattle.std.specs.List.{prefix_len}
use Rattle.std.specs.Option.{option_map}
use Rattle.ir_tree.specs.Names.{same}
use Rattle.ir_tree.specs.Operands.{Use, Entries, operands}
use Rattle.ir_tree.specs.declared.types.Instr.{Instr}
use Rattle.ir_tree.specs.declared.types.Instr.TheVariants.{Binary, Compare, Convert, Freeze, Select, Phi, Alloca, Load, Store, Gep, Call, Count}
use Rattle.ir_tree.specs.declared.types.Operand.{Operand}

-- the entries of a phi, none of another instruction
abbrev pub entries_of : Instr → Option Entries
entries_of (Binary dest op flags ty left right) = None
entries_of (Compare dest pred ty left right) = None
entries_of (Convert dest op flags from value to) = None
entries_of (Freeze dest ty value) = None
entries_of (Select dest c ty first second prof) = None
entries_of (Phi dest ty entries) = Some entries
entries_of (Alloca dest mem) = None
entries_of (Load dest ty address) = None
entries_of (Store ty value address) = None
entries_of (Gep dest inbounds mem address indices) = None
entries_of (Call dest ret callee args prof) = None
entries_of (Count symbol size index step) = None

abbrev pub is_phi : Instr → Bool
is_phi i = is_some (entries_of i)

-- how many phis stand in front of a list of instructions, which they are, and what stands behind them
abbrev pub phi_count : List Instr → ℕ
phi_count is = prefix_len is_phi is

abbrev pub leading_phis : List Instr → List Instr
leading_phis is = take (phi_count is) is

abbrev pub behind_phis : List Instr → List Instr
behind_phis is = drop (phi_count is) is

-- the operands that are read where the instruction stands; a phi reads its values on the edges into its block
abbrev pub reads : Instr → List Use
reads i = cond (is_phi i) [] (operands i)

-- ---- entries

-- the first entry for a label, and its value
abbrev pub entry_for : List ℕ → Entries → Option (Operand × List ℕ)
entry_for label entries = find (λ e. same label e.1) entries

abbrev pub value_for : List ℕ → Entries → Option Operand
value_for label entries = option_map (λ e. e.0) (entry_for label entries)

-- the entries, of which the first for a label names another one
abbrev pub rename_first : List ℕ → List ℕ → Entries → Entries
rename_first label other [] = []
rename_first label other (e ∷ es) = cond (same label e.1) ((e.0, other) ∷ es) (e ∷ rename_first label other es)
