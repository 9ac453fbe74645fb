-- Which instructions and terminators some text spells, where it says which notes are.
use Rattle.std.specs.Prelude.{◌≡◌, ℕ, ◌<◌, ◌^◌, Bool, true, false, List, Some}
use Rattle.ir_tree.specs.declared.types.Ty.{Ty}
use Rattle.ir_tree.specs.declared.types.Ty.TheVariants.{I1, I64, Ptr}
use Rattle.ir_tree.specs.declared.types.BinOp.{BinOp}
use Rattle.ir_tree.specs.declared.types.ConvOp.{ConvOp}
use Rattle.ir_tree.specs.declared.types.ConvOp.TheVariants as conversions
use Rattle.ir_tree.specs.declared.types.Flags.{Flags}
use Rattle.ir_tree.specs.declared.types.Operand.{Operand}
use Rattle.ir_tree.specs.declared.types.Prof.{Prof}
use Rattle.ir_tree.specs.declared.types.Prof.TheVariants.{Entry, Weights, Targets}
use Rattle.ir_tree.specs.declared.types.Instr.{Instr}
use Rattle.ir_tree.specs.declared.types.Instr.TheVariants.{Binary, Compare, Convert, Freeze, Select, Phi, Alloca, Load, Store, Gep, Call, Count}
use Rattle.ir_tree.specs.declared.types.Term.{Term}
use Rattle.ir_tree.specs.declared.types.Term.TheVariants as terms
use Rattle.ir_grammar.specs.declared.words.NoteKind.{NoteKind}
use Rattle.ir_grammar.specs.declared.words.NoteKind.TheVariants as kinds
use Rattle.ir_grammar.specs.Notes.{in_place}
use Rattle.ir_grammar.specs.Instructions.{may_wrap, may_be_exact, is_trunc}
use Rattle.spellable.specs.Values.{Each, IsSome, IsLocal, IsGlobal, IsCount, IsLiteral, IsOperand, IsTyped, IsCallee, IsMemory, IsMaybe}

-- # Notes

abbrev pub IsPair : ℕ × ℕ → Type 0
IsPair p = IsCount p.0 × IsCount p.1

-- a note whose node some text spells
abbrev pub IsNote : Prof → Type 0
IsNote (Entry n) = IsCount n
IsNote (Weights list) = IsSome list × Each (λ w. w < 2 ^ 32) list
IsNote (Targets total list) = IsCount total × Each IsPair list

-- a note of a kind that may stand at a place; P says which notes are
abbrev pub MayStand : (Prof → Type 0) → NoteKind → Prof → Type 0
MayStand P kind note = (in_place kind note ≡ Some note) × P note

-- # Flags

-- a flag that is set is one that may be
abbrev pub IsAllowed : Bool → Bool → Type 0
IsAllowed true may = may ≡ true
IsAllowed false may = Unit {0}

pub record AreFlags (op : BinOp) (flags : Flags) : Type 0 where
  pub nuw : IsAllowed flags.nuw (may_wrap op)
  pub nsw : IsAllowed flags.nsw (may_wrap op)
  pub exact : IsAllowed flags.exact (may_be_exact op)

pub record AreConversionFlags (op : ConvOp) (flags : Flags) : Type 0 where
  pub nuw : IsAllowed flags.nuw (is_trunc op)
  pub nsw : IsAllowed flags.nsw (is_trunc op)
  pub exact : flags.exact ≡ false

-- ptrtoint converts from `ptr`
abbrev pub IsSource : ConvOp → Ty → Type 0
IsSource conversions.Trunc from = Unit {0}
IsSource conversions.ZExt from = Unit {0}
IsSource conversions.SExt from = Unit {0}
IsSource conversions.PtrToInt from = from ≡ Ptr

-- # Instructions

abbrev pub IsEntry : Ty → Operand × List ℕ → Type 0
IsEntry ty e = IsOperand ty e.0 × IsLocal e.1

abbrev pub IsInstr : (Prof → Type 0) → Instr → Type 0
IsInstr P (Binary dest op flags ty left right) = IsLocal dest × AreFlags op flags × IsOperand ty left × IsOperand ty right
IsInstr P (Compare dest pred ty left right) = IsLocal dest × IsOperand ty left × IsOperand ty right
IsInstr P (Convert dest op flags from value to) = IsLocal dest × AreConversionFlags op flags × IsSource op from × IsOperand from value
IsInstr P (Freeze dest ty value) = IsLocal dest × IsOperand ty value
IsInstr P (Select dest condition ty first second prof) = IsLocal dest × IsOperand I1 condition × IsOperand ty first × IsOperand ty second × IsMaybe (MayStand P kinds.Weights) prof
IsInstr P (Phi dest ty entries) = IsLocal dest × IsSome entries × Each (IsEntry ty) entries
IsInstr P (Alloca dest mem) = IsLocal dest × IsMemory mem
IsInstr P (Load dest ty address) = IsLocal dest × IsOperand Ptr address
IsInstr P (Store ty value address) = IsOperand ty value × IsOperand Ptr address
IsInstr P (Gep dest inbounds mem address indices) = IsLocal dest × IsMemory mem × IsOperand Ptr address × IsSome indices × Each IsTyped indices
IsInstr P (Call dest ret callee args prof) = IsMaybe IsLocal dest × IsCallee callee × Each IsTyped args × IsMaybe (MayStand P kinds.Targets) prof
IsInstr P (Count symbol size index step) = IsGlobal symbol × IsCount size × IsLiteral I64 index × IsOperand I64 step

-- # Terminators

abbrev pub IsCase : Ty → ℕ × List ℕ → Type 0
IsCase ty c = IsLiteral ty c.0 × IsLocal c.1

abbrev pub IsTerm : (Prof → Type 0) → Term → Type 0
IsTerm P (terms.Br to) = IsLocal to
IsTerm P (terms.CondBr condition first second prof) = IsOperand I1 condition × IsLocal first × IsLocal second × IsMaybe (MayStand P kinds.Weights) prof
IsTerm P (terms.Switch ty value default cases prof) = IsOperand ty value × IsLocal default × Each (IsCase ty) cases × IsMaybe (MayStand P kinds.Weights) prof
IsTerm P (terms.Ret value) = IsMaybe IsTyped value
IsTerm P terms.Unreachable = Unit {0}
