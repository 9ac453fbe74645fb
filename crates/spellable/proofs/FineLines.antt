-- The line of an instruction or terminator can be written, and closes the brackets that it opens.
use Rattle.std.proofs.Common.{ℕ, suc, List, [], ◌∷◌, refl}
use Rattle.std.specs.Prelude.{codes, Option, Some, None}
use Rattle.std.specs.List.{flat_map}
use Rattle.ir_tree.specs.Spelling.{is_word_first, is_name_first, is_name_byte}
use Rattle.ir_tree.specs.declared.types.Ty.{Ty}
use Rattle.ir_tree.specs.declared.types.Ty.TheVariants.{I1, I64, Ptr}
use Rattle.ir_tree.specs.declared.types.Ret.{Ret}
use Rattle.ir_tree.specs.declared.types.Operand.{Operand}
use Rattle.ir_tree.specs.declared.types.Prof.{Prof}
use Rattle.ir_tree.specs.declared.types.Instr.{Instr}
use Rattle.ir_tree.specs.declared.types.Instr.TheVariants.{Binary, Compare, Convert, Freeze, Select, Phi, Alloca, Load, Store, Gep, Call, Count}
use Rattle.ir_tree.specs.declared.types.Term.{Term}
use Rattle.ir_tree.specs.declared.types.Term.TheVariants as terms
use Rattle.ir_grammar.specs.Instructions.{entry, argument}
use Rattle.ir_grammar.specs.Types.{typed_operand}
use Rattle.ir_grammar.specs.Notes.{Nodes}
use Rattle.ir_grammar.specs.declared.words.NoteKind.TheVariants as kinds
use Rattle.text_pieces.specs.declared.stop.Stop.TheVariants as stops
use Rattle.text_pieces.specs.Pieces.{Piece, Alone}
use Rattle.text_pieces.specs.Lists.{parted}
use Rattle.canonical_text.specs.Values.{typed_pieces, memory_pieces}
use Rattle.canonical_text.specs.Notes.{line_stop, line_note}
use Rattle.canonical_text.specs.Instructions.{two_pieces, conversion_pieces, entry_pieces, address_pieces, gep_pieces, call_pieces, instr_pieces, case_pieces, indented, returned_pieces, term_pieces}
use Rattle.spellable.specs.Values.{Each, IsOperand, IsTyped, IsCallee, IsMaybe}
use Rattle.spellable.specs.Instructions.{MayStand, IsEntry, IsInstr, IsCase, IsTerm}
use Rattle.spellable.specs.Lines.{IsKept}
use Rattle.spellable.proofs.Pieces.{Fine, fine_append}
use Rattle.spellable.proofs.Literals.{count_writes, literal_writes, type_writes, return_writes}
use Rattle.spellable.proofs.Names.{local_writes, global_writes}
use Rattle.spellable.proofs.Words.{operator_writes, conversion_writes, predicate_writes}
use Rattle.spellable.proofs.Lists.{list_fine}
use Rattle.spellable.proofs.Memory.{memory_fine}
use Rattle.spellable.proofs.Flags.{flag_fine, flags_fine}
use Rattle.spellable.proofs.Notes.{noted_fine}
use Rattle.spellable.proofs.Items.{operand_writes, callee_writes, typed_item, argument_item, entry_item}

two_fine : (ty : Ty) (left right : Operand) (d : ℕ) → IsOperand ty left → IsOperand ty right → Fine d (two_pieces ty left right) d
two_fine ty left right d h k = (type_writes ty, (operand_writes ty left h, (operand_writes ty right k, refl)))

call_fine : (nodes : Nodes) (list : List Prof) (d : ℕ) (ret : Ret) (whom : Operand) (args : List (Ty × Operand)) (prof : Option Prof) → IsCallee whom → Each IsTyped args → IsMaybe (MayStand (IsKept nodes list) kinds.Targets) prof → Fine (suc d) (call_pieces list ret whom args prof) (suc d)
unfolding is_word_first is_name_first is_name_byte
call_fine nodes list d ret whom args prof h hs note = (
  refl,
  (
    return_writes ret,
    (
      callee_writes Ptr whom h,
      fine_append (suc (suc d)) (parted typed_pieces stops.CloseParen args) (suc d) (Alone (line_stop prof) ∷ line_note list prof) (suc d)
          (list_fine argument typed_pieces IsTyped argument_item stops.CloseParen (suc d) args hs) (noted_fine nodes list kinds.Targets prof d note),
    ),
  ),
)

pub instr_fine : (nodes : Nodes) (list : List Prof) (i : Instr) (d : ℕ) → IsInstr (IsKept nodes list) i → Fine (suc d) (instr_pieces list i) (suc d)
unfolding is_word_first is_name_first is_name_byte
instr_fine nodes list (Binary dest op flags ty left right) d h = (local_writes dest h.0, (operator_writes op, flags_fine flags (two_pieces ty left right) (suc d) (suc d) (two_fine ty left right (suc d) h.2 h.3)))
instr_fine nodes list (Compare dest pred ty left right) d h = (local_writes dest h.0, (refl, (predicate_writes pred, two_fine ty left right (suc d) h.1 h.2)))
instr_fine nodes list (Convert dest op flags from value to) d h = (local_writes dest h.0, (conversion_writes op, flags_fine flags (conversion_pieces from value to) (suc d) (suc d) (type_writes from, (operand_writes from value h.3, (refl, (type_writes to, refl))))))
instr_fine nodes list (Freeze dest ty value) d h = (local_writes dest h.0, (refl, (type_writes ty, (operand_writes ty value h.1, refl))))
instr_fine nodes list (Select dest condition ty first second prof) d h = (local_writes dest h.0, (refl, (type_writes I1, (operand_writes I1 condition h.1, (type_writes ty, (operand_writes ty first h.2, (type_writes ty, (operand_writes ty second h.3, noted_fine nodes list kinds.Weights prof d h.4))))))))
instr_fine nodes list (Phi dest ty entries) d h = (local_writes dest h.0, (refl, (type_writes ty, list_fine (entry ty) (entry_pieces ty) (IsEntry ty) (entry_item ty) stops.Line d entries h.2)))
instr_fine nodes list (Alloca dest mem) d h = (local_writes dest h.0, (refl, memory_fine mem stops.Line (suc d) h.1))
instr_fine nodes list (Load dest ty from) d h = (local_writes dest h.0, (refl, (type_writes ty, (type_writes Ptr, (operand_writes Ptr from h.1, refl)))))
instr_fine nodes list (Store ty value to) d h = (refl, (type_writes ty, (operand_writes ty value h.0, (type_writes Ptr, (operand_writes Ptr to h.1, refl)))))
instr_fine nodes list (Gep dest inbounds mem from indices) d h = (
  local_writes dest h.0,
  (
    refl,
    flag_fine inbounds (codes "inbounds") (gep_pieces mem from indices) (suc d) (suc d) refl
        (fine_append (suc d) (memory_pieces mem stops.Comma) (suc d) (address_pieces from indices) (suc d) (memory_fine mem stops.Comma (suc d) h.1)
        (type_writes Ptr, (operand_writes Ptr from h.2, list_fine typed_operand typed_pieces IsTyped typed_item stops.Line d indices h.4))),
  ),
)
instr_fine nodes list (Call None ret whom args prof) d h = call_fine nodes list d ret whom args prof h.1 h.2 h.3
instr_fine nodes list (Call (Some dest) ret whom args prof) d h = (local_writes dest h.0, call_fine nodes list d ret whom args prof h.1 h.2 h.3)
instr_fine nodes list (Count symbol size index step) d h = (
  refl,
  (
    refl,
    (
      refl,
      (
        refl,
        (
          refl,
          (
            count_writes size h.1,
            (
              refl,
              (
                refl,
                (
                  refl,
                  (
                    global_writes symbol h.0,
                    (
                      refl,
                      (
                        refl,
                        (
                          refl,
                          (
                            literal_writes I64 index h.2,
                            (type_writes I64, (operand_writes I64 step h.3, (refl, refl))),
                          ),
                        ),
                      ),
                    ),
                  ),
                ),
              ),
            ),
          ),
        ),
      ),
    ),
  ),
)

-- # Terminators

pub flat_fine : {A : Type 0} (pieces : A → List Piece) (Good : A → Type 0) → ((x : A) (d : ℕ) → Good x → Fine (suc d) (pieces x) (suc d)) → (xs : List A) (d : ℕ) → Each Good xs → Fine (suc d) (flat_map pieces xs) (suc d)
flat_fine pieces Good fine [] d h = refl
flat_fine pieces Good fine (x ∷ xs) d h = fine_append (suc d) (pieces x) (suc d) (flat_map pieces xs) (suc d) (fine x d h.0) (flat_fine pieces Good fine xs d h.1)

case_fine : (ty : Ty) (c : ℕ × List ℕ) (d : ℕ) → IsCase ty c → Fine (suc d) (case_pieces ty c) (suc d)
unfolding is_word_first is_name_first is_name_byte
case_fine ty c d h = (type_writes ty, (literal_writes ty c.0 h.0, (refl, (local_writes c.1 h.1, refl))))

returned_fine : (value : Option (Ty × Operand)) (d : ℕ) → IsMaybe IsTyped value → Fine (suc d) (returned_pieces value) (suc d)
unfolding is_word_first is_name_first is_name_byte
returned_fine None d h = (refl, refl)
returned_fine (Some p) d h = (type_writes p.0, (operand_writes p.0 p.1 h, refl))

pub term_fine : (nodes : Nodes) (list : List Prof) (t : Term) (d : ℕ) → IsTerm (IsKept nodes list) t → Fine (suc d) (term_pieces list t) (suc d)
unfolding is_word_first is_name_first is_name_byte
term_fine nodes list (terms.Br to) d h = (refl, (refl, (local_writes to h, refl)))
term_fine nodes list (terms.CondBr condition first second prof) d h =
    (refl, (type_writes I1, (operand_writes I1 condition h.0, (refl, (local_writes first h.1, (refl, (local_writes second h.2, noted_fine nodes list kinds.Weights prof d h.3)))))))
term_fine nodes list (terms.Switch ty value default cases prof) d h = (
  refl,
  (
    type_writes ty,
    (
      operand_writes ty value h.0,
      (
        refl,
        (
          local_writes default h.1,
          fine_append (suc (suc d)) (flat_map (case_pieces ty) cases) (suc (suc d)) (indented (Alone stops.CloseBracket ∷ Alone (line_stop prof) ∷ line_note list prof)) (suc d)
              (flat_fine (case_pieces ty) (IsCase ty) (case_fine ty) cases (suc d) h.2) (noted_fine nodes list kinds.Weights prof d h.3),
        ),
      ),
    ),
  ),
)
term_fine nodes list (terms.Ret value) d h = (refl, returned_fine value d h)
term_fine nodes list terms.Unreachable d h = (refl, refl)
