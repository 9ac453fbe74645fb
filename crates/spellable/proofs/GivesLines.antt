-- What is known of instructions and terminators that some tokens spell.
use Rattle.std.proofs.Common.{◌≡◌, ℕ, List, [], ◌∷◌, refl, sym, subst}
use Rattle.std.specs.Prelude.{codes, Option, Some, None, fold}
use Rattle.std.specs.Option.{option_map, option_and_then}
use Rattle.ir_lex.specs.Tokens.{Token, Word, Number, Global, Local, Label, Str, Bytes, Group, Mark, Sign}
use Rattle.ir_tree.specs.declared.types.Ty.{Ty}
use Rattle.ir_tree.specs.declared.types.Ty.TheVariants.{I1, I64, Ptr}
use Rattle.ir_tree.specs.declared.types.Ret.{Ret}
use Rattle.ir_tree.specs.declared.types.Ret.TheVariants.{Void, Value}
use Rattle.ir_tree.specs.declared.types.BinOp.{BinOp}
use Rattle.ir_tree.specs.declared.types.ConvOp.{ConvOp}
use Rattle.ir_tree.specs.declared.types.ConvOp.TheVariants as conversions
use Rattle.ir_tree.specs.declared.types.Operand.{Operand}
use Rattle.ir_tree.specs.declared.types.Prof.{Prof}
use Rattle.ir_tree.specs.declared.types.Prof.TheVariants.{Entry, Weights, Targets}
use Rattle.ir_grammar.specs.Notes.{Nodes, note_of, in_place, first_note, note_part, noted, this_literal}
use Rattle.ir_grammar.specs.Instructions.{may_wrap, may_be_exact, is_or, is_trunc, is_zext, operator_flags, two_operands, binary, predicate, compare, conversion_flags, pointer_type, source_type, convert, freeze, select, entry, entries, phi, alloca, address, load, store, one_marked, marked, indices, gep, callee_meaning, callee, argument, arguments, call, tail_call, counters_type, counter_index, counter, counter_add, operation, opcode, assigned, effect, Lead, Named, Does, lead_of, instr_behind, instr, instrs}
use Rattle.ir_grammar.specs.Terminators.{target, Jumps, Chooses, Branching, jump, branch, br_behind, br, case, cases, switch, no_value, one_value, returned, ret, unreachable, ending, terminator}
use Rattle.ir_grammar.specs.Tables.{by_word, effect_words}
use Rattle.ir_grammar.specs.declared.words.Opcode.{Opcode}
use Rattle.ir_grammar.specs.declared.words.Opcode.TheVariants as opcodes
use Rattle.ir_grammar.specs.declared.words.Effect.{Effect}
use Rattle.ir_grammar.specs.declared.words.Effect.TheVariants as effects
use Rattle.ir_grammar.specs.declared.words.Ending.{Ending}
use Rattle.ir_grammar.specs.declared.words.Ending.TheVariants as endings
use Rattle.ir_grammar.specs.declared.words.Place.TheVariants as places
use Rattle.ir_grammar.specs.declared.words.Tail.TheVariants as tails
use Rattle.ir_grammar.specs.declared.words.Marks.{Marks}
use Rattle.ir_grammar.specs.declared.words.Marks.TheVariants as marks
use Rattle.ir_grammar.specs.declared.words.NoteKind.{NoteKind}
use Rattle.ir_grammar.specs.declared.words.NoteKind.TheVariants as kinds
use Rattle.spellable.specs.Values.{Each, IsSome, IsLocal, IsGlobal, IsCount, IsLiteral, IsOperand, IsTyped, IsCallee, IsMaybe}
use Rattle.spellable.specs.Instructions.{MayStand, AreFlags, AreConversionFlags, IsSource, IsEntry, IsInstr, IsCase, IsTerm}
use Rattle.spellable.specs.Lines.{IsRead}
use Rattle.spellable.specs.Parts.{IsTable}
use Rattle.spellable.proofs.Gives.{Gives, Nothing, some_same, none_some, done, one_gives, any_gives, ◌>>=◌, ◌>>◌, many_gives, word_gives, sign_gives, mark_gives, flag_gives, flag_where_gives, local_gives, global_gives, count_gives, some_gives, listed_gives}
use Rattle.spellable.proofs.GivesValues.{literal_gives, operand_gives, value_type_gives, this_type_gives, return_type_gives, typed_gives, memory_gives, attachment_gives, past_parts_gives, tail_gives}

-- # Flags

operator_flags_give : (op : BinOp) → Gives (operator_flags op) (AreFlags op)
unfolding operator_flags
operator_flags_give op =
    flag_where_gives (may_wrap op) (codes "nuw") >>= λ nuw nuw-is. (
    flag_where_gives (may_wrap op) (codes "nsw") >>= λ nsw nsw-is. (
    flag_where_gives (may_be_exact op) (codes "exact") >>= λ exact exact-is. (
    flag_where_gives (is_or op) (codes "disjoint") >>= λ disjoint disjoint-is. (
    done (record { nuw = nuw-is; nsw = nsw-is; exact = exact-is })))))

conversion_flags_give : (op : ConvOp) → Gives (conversion_flags op) (AreConversionFlags op)
unfolding conversion_flags
conversion_flags_give op =
    flag_where_gives (is_trunc op) (codes "nuw") >>= λ nuw nuw-is. (
    flag_where_gives (is_trunc op) (codes "nsw") >>= λ nsw nsw-is. (
    flag_where_gives (is_zext op) (codes "nneg") >>= λ nneg nneg-is. (
    done (record { nuw = nuw-is; nsw = nsw-is; exact = refl }))))

-- # Parts of lines

two_give : Gives two_operands (λ t. IsOperand t.0 t.1 × IsOperand t.0 t.2)
unfolding two_operands
two_give =
    value_type_gives >>= λ ty ty-is. (operand_gives ty >>= λ left left-is. (sign_gives 44 >> (
    operand_gives ty >>= λ right right-is. (done (left-is, right-is)))))

address_gives : Gives address (IsOperand Ptr)
unfolding address
address_gives = this_type_gives Ptr >> operand_gives Ptr

pub marked_gives : (which : Marks) → Gives (marked which) Nothing
unfolding marked one_marked
marked_gives which = many_gives _ (any_gives _) >>= λ list list-is. done tt

source_gives : (op : ConvOp) → Gives (source_type op) (IsSource op)
unfolding pointer_type
source_gives conversions.Trunc = value_type_gives
source_gives conversions.ZExt = value_type_gives
source_gives conversions.SExt = value_type_gives
source_gives conversions.PtrToInt = this_type_gives Ptr >> done refl

entry_gives : (ty : Ty) → Gives (entry ty) (IsEntry ty)
unfolding entry
entry_gives ty =
    sign_gives 91 >> (operand_gives ty >>= λ value value-is. (sign_gives 44 >> (local_gives >>= λ from from-is. (
    sign_gives 93 >> (done (value-is, from-is))))))

entries_give : (ty : Ty) → Gives (entries ty) (λ list. IsSome list × Each (IsEntry ty) list)
unfolding entries
entries_give ty = some_gives (entry_gives ty)

indices_give : Gives indices (λ list. IsSome list × Each IsTyped list)
unfolding indices
indices_give = some_gives typed_gives

callee_read : (t : Token) (v : Operand) → IsRead t → callee_meaning t ≡ Some v → IsCallee v
callee_read (Word text) v h e = none_some e
callee_read (Number minus n) v h e = none_some e
callee_read (Global name) v h e = subst IsCallee (some_same e) h
callee_read (Local name) v h e = subst IsCallee (some_same e) h
callee_read (Label name) v h e = none_some e
callee_read (Str text) v h e = none_some e
callee_read (Bytes bytes) v h e = none_some e
callee_read (Group digits) v h e = none_some e
callee_read Mark v h e = none_some e
callee_read (Sign b) v h e = none_some e

callee_gives : Gives callee IsCallee
unfolding callee
callee_gives = one_gives _ callee_read

argument_gives : Gives argument IsTyped
unfolding argument
argument_gives =
    value_type_gives >>= λ ty ty-is. (past_parts_gives places.Value >> (operand_gives ty >>= λ value value-is. (
    done value-is)))

arguments_give : Gives arguments (Each IsTyped)
unfolding arguments
arguments_give = sign_gives 40 >> listed_gives 41 argument_gives

this_literal_gives : (ty : Ty) (n : ℕ) → Gives (this_literal ty n) Nothing
unfolding this_literal
this_literal_gives ty n = any_gives _

counters_give : Gives counters_type IsCount
unfolding counters_type
counters_give =
    sign_gives 91 >> (count_gives >>= λ size size-is. (word_gives (codes "x") >> (this_type_gives I64 >> (
    sign_gives 93 >> (done size-is)))))

counter_index_gives : Gives counter_index (IsLiteral I64)
unfolding counter_index
counter_index_gives =
    sign_gives 44 >> (this_type_gives I64 >> (this_literal_gives I64 0 >> (sign_gives 44 >> (this_type_gives I64 >> (
    literal_gives I64)))))

counter_gives : Gives counter (λ t. IsGlobal t.0 × IsCount t.1 × IsLiteral I64 t.2)
unfolding counter
counter_gives =
    this_type_gives Ptr >> (word_gives (codes "getelementptr") >> (word_gives (codes "inbounds") >> (
    sign_gives 40 >> (counters_give >>= λ size size-is. (sign_gives 44 >> (this_type_gives Ptr >> (
    global_gives >>= λ name name-is. (counter_index_gives >>= λ index index-is. (sign_gives 41 >> (
    done (name-is, size-is, index-is)))))))))))

-- # Notes

in_place_same : (kind : NoteKind) (note out : Prof) → in_place kind note ≡ Some out → out ≡ note
in_place_same kinds.Entry (Entry n) out e = sym (some_same e)
in_place_same kinds.Entry (Weights list) out e = none_some e
in_place_same kinds.Entry (Targets total list) out e = none_some e
in_place_same kinds.Weights (Entry n) out e = none_some e
in_place_same kinds.Weights (Weights list) out e = sym (some_same e)
in_place_same kinds.Weights (Targets total list) out e = none_some e
in_place_same kinds.Targets (Entry n) out e = none_some e
in_place_same kinds.Targets (Weights list) out e = none_some e
in_place_same kinds.Targets (Targets total list) out e = sym (some_same e)

module _ (nodes : Nodes) (P : Prof → Type 0) (table : IsTable nodes P) where
  placed : (kind : NoteKind) (note : Prof) (o : Option Prof) → in_place kind note ≡ o → P note → IsMaybe (MayStand P kind) o
  placed kind note None e h = tt
  placed kind note (Some out) e h =
      let same = in_place_same kind note out e in (subst (λ x. in_place kind x ≡ Some out) (sym same) e, subst P (sym same) h)

  kept_gives : (kind : NoteKind) (n : ℕ) (o : Option Prof) → IsCount n → note_of nodes n ≡ o → IsMaybe (MayStand P kind) (option_and_then (in_place kind) o)
  kept_gives kind n None h e = tt
  kept_gives kind n (Some note) h e = placed kind note (in_place kind note) refl (table n note h e)

  first_gives : (kind : NoteKind) (kept : Option Prof) (number : Option ℕ) → IsMaybe (MayStand P kind) kept → IsMaybe IsCount number → IsMaybe (MayStand P kind) (first_note nodes kind kept number)
  first_gives kind (Some note) number h k = h
  first_gives kind None None h k = tt
  first_gives kind None (Some n) h k = kept_gives kind n (note_of nodes n) k refl

  pub fold_gives : (kind : NoteKind) (list : List (Option ℕ)) (kept : Option Prof) → Each (IsMaybe IsCount) list → IsMaybe (MayStand P kind) kept → IsMaybe (MayStand P kind) (fold (first_note nodes kind) kept list)
  fold_gives kind [] kept hs h = h
  fold_gives kind (number ∷ list) kept hs h = fold_gives kind list (first_note nodes kind kept number) hs.1 (first_gives kind kept number h hs.0)

  noted_gives : (kind : NoteKind) → Gives (noted nodes kind) (IsMaybe (MayStand P kind))
  unfolding noted note_part
  noted_gives kind = many_gives _ (sign_gives 44 >> (mark_gives >> attachment_gives)) >>= λ list list-is. done (fold_gives kind list None list-is tt)

  -- # Instructions

  call_gives : (dest : Option (List ℕ)) → IsMaybe IsLocal dest → Gives (call nodes dest) (IsInstr P)
  unfolding call
  call_gives dest d =
      past_parts_gives places.Return >> (return_type_gives >>= λ gives gives-is. (callee_gives >>= λ whom whom-is. (
      arguments_give >>= λ args args-is. (past_parts_gives places.Function >> (
      noted_gives kinds.Targets >>= λ prof prof-is. (done (d, whom-is, args-is, prof-is)))))))

  tail_call_gives : (dest : Option (List ℕ)) → IsMaybe IsLocal dest → Gives (tail_call nodes dest) (IsInstr P)
  unfolding tail_call
  tail_call_gives dest d = word_gives (codes "call") >> call_gives dest d

  operation_gives : (dest : List ℕ) (op : Opcode) → IsLocal dest → Gives (operation nodes dest op) (IsInstr P)
  unfolding binary predicate compare convert freeze select phi alloca load gep
  operation_gives dest (opcodes.Binary op) d =
      operator_flags_give op >>= λ flags flags-is. (two_give >>= λ t t-is. (tail_gives tails.Plain >> (
      done (d, flags-is, t-is.0, t-is.1))))
  operation_gives dest opcodes.Compare d =
      flag_gives (codes "samesign") >>= λ samesign samesign-is. (any_gives _ >>= λ pred pred-is. (
      two_give >>= λ t t-is. (tail_gives tails.Plain >> (done (d, t-is.0, t-is.1)))))
  operation_gives dest (opcodes.Convert op) d =
      conversion_flags_give op >>= λ flags flags-is. (source_gives op >>= λ from from-is. (
      operand_gives from >>= λ value value-is. (word_gives (codes "to") >> (value_type_gives >>= λ to to-is. (
      tail_gives tails.Plain >> (done (d, flags-is, from-is, value-is)))))))
  operation_gives dest opcodes.Freeze d =
      typed_gives >>= λ t t-is. (tail_gives tails.Plain >> (done (d, t-is)))
  operation_gives dest opcodes.Select d =
      this_type_gives I1 >> (operand_gives I1 >>= λ condition condition-is. (sign_gives 44 >> (
      typed_gives >>= λ t t-is. (sign_gives 44 >> (this_type_gives t.0 >> (operand_gives t.0 >>= λ second second-is. (
      noted_gives kinds.Weights >>= λ prof prof-is. (done (d, condition-is, t-is, second-is, prof-is)))))))))
  operation_gives dest opcodes.Phi d =
      value_type_gives >>= λ ty ty-is. (entries_give ty >>= λ list list-is. (tail_gives tails.Plain >> (
      done (d, list-is.0, list-is.1))))
  operation_gives dest opcodes.Alloca d =
      memory_gives >>= λ mem mem-is. (tail_gives tails.Aligned >> (done (d, mem-is)))
  operation_gives dest opcodes.Load d =
      value_type_gives >>= λ ty ty-is. (sign_gives 44 >> (address_gives >>= λ from from-is. (
      tail_gives tails.Aligned >> (done (d, from-is)))))
  operation_gives dest opcodes.Gep d =
      marked_gives marks.Inbounds >>= λ inbounds inbounds-is. (memory_gives >>= λ mem mem-is. (sign_gives 44 >> (
      address_gives >>= λ from from-is. (sign_gives 44 >> (indices_give >>= λ list list-is. (
      tail_gives tails.Plain >> (done (d, mem-is, from-is, list-is.0, list-is.1))))))))
  operation_gives dest opcodes.Call d = call_gives (Some dest) d
  operation_gives dest opcodes.Tail d = tail_call_gives (Some dest) d

  effect_gives : (what : Effect) → Gives (effect nodes what) (IsInstr P)
  unfolding store counter_add
  effect_gives effects.Store =
      typed_gives >>= λ t t-is. (sign_gives 44 >> (address_gives >>= λ to to-is. (tail_gives tails.Aligned >> (
      done (t-is, to-is)))))
  effect_gives effects.Call = call_gives None tt
  effect_gives effects.Tail = tail_call_gives None tt
  effect_gives effects.Count =
      word_gives (codes "add") >> (counter_gives >>= λ t t-is. (sign_gives 44 >> (this_type_gives I64 >> (
      operand_gives I64 >>= λ step step-is. (word_gives (codes "monotonic") >> (tail_gives tails.Aligned >> (
      done (t-is.0, t-is.1, t-is.2, step-is))))))))

  IsLead : Lead → Type 0
  IsLead (Named dest) = IsLocal dest
  IsLead (Does what) = Unit {0}

  does_read : (o : Option Effect) (lead : Lead) → option_map Does o ≡ Some lead → IsLead lead
  unfolding IsLead
  does_read None lead e = none_some e
  does_read (Some what) lead e = subst IsLead (some_same e) tt

  lead_read : (t : Token) (lead : Lead) → IsRead t → lead_of t ≡ Some lead → IsLead lead
  unfolding IsLead
  lead_read (Word text) lead h e = does_read (by_word effect_words text) lead e
  lead_read (Number minus n) lead h e = none_some e
  lead_read (Global name) lead h e = none_some e
  lead_read (Local name) lead h e = subst IsLead (some_same e) h
  lead_read (Label name) lead h e = none_some e
  lead_read (Str text) lead h e = none_some e
  lead_read (Bytes bytes) lead h e = none_some e
  lead_read (Group digits) lead h e = none_some e
  lead_read Mark lead h e = none_some e
  lead_read (Sign b) lead h e = none_some e

  behind_gives : (lead : Lead) → IsLead lead → Gives (instr_behind nodes lead) (IsInstr P)
  unfolding assigned opcode IsLead
  behind_gives (Named dest) h = sign_gives 61 >> (any_gives _ >>= λ op op-is. operation_gives dest op h)
  behind_gives (Does what) h = effect_gives what

  pub instr_gives : Gives (instr nodes) (IsInstr P)
  unfolding instr
  instr_gives = one_gives _ lead_read >>= λ lead lead-is. behind_gives lead lead-is

  pub instrs_give : Gives (instrs nodes) (Each (IsInstr P))
  unfolding instrs
  instrs_give = many_gives _ instr_gives

  -- # Terminators

  target_gives : Gives target IsLocal
  unfolding target
  target_gives = word_gives (codes "label") >> local_gives

  case_gives : (ty : Ty) → Gives (case ty) (IsCase ty)
  unfolding case
  case_gives ty =
      this_type_gives ty >> (literal_gives ty >>= λ n n-is. (sign_gives 44 >> (target_gives >>= λ to to-is. (
      done (n-is, to-is)))))

  branch_gives : (b : Branching) → Gives (br_behind nodes b) (IsTerm P)
  unfolding jump branch
  branch_gives Jumps =
      local_gives >>= λ to to-is. (tail_gives tails.Plain >> (done to-is))
  branch_gives Chooses =
      operand_gives I1 >>= λ condition condition-is. (sign_gives 44 >> (target_gives >>= λ first first-is. (
      sign_gives 44 >> (target_gives >>= λ second second-is. (noted_gives kinds.Weights >>= λ prof prof-is. (
      done (condition-is, first-is, second-is, prof-is)))))))

  returned_gives : (gives : Ret) → Gives (returned gives) (IsTerm P)
  unfolding no_value one_value
  returned_gives Void = tail_gives tails.Plain >> done tt
  returned_gives (Value ty) =
      operand_gives ty >>= λ value value-is. (tail_gives tails.Plain >> (done value-is))

  ending_gives : (end : Ending) → Gives (ending nodes end) (IsTerm P)
  unfolding br switch cases ret unreachable
  ending_gives endings.Br = any_gives _ >>= λ b b-is. branch_gives b
  ending_gives endings.Switch =
      typed_gives >>= λ t t-is. (sign_gives 44 >> (target_gives >>= λ default default-is. (sign_gives 91 >> (
      many_gives _ (case_gives t.0) >>= λ list list-is. (sign_gives 93 >> (
      noted_gives kinds.Weights >>= λ prof prof-is. (done (t-is, default-is, list-is, prof-is))))))))
  ending_gives endings.Ret = return_type_gives >>= λ gives gives-is. returned_gives gives
  ending_gives endings.Unreachable = tail_gives tails.Plain >> done tt

  pub terminator_gives : Gives (terminator nodes) (IsTerm P)
  unfolding terminator
  terminator_gives = any_gives _ >>= λ end end-is. ending_gives end
