-- The line of an instruction spells the instruction.
use Rattle.std.proofs.Common.{◌≡◌, ℕ, Bool, true, false, ◌&&◌, List, [], ◌∷◌, ◌++◌, refl, sym, ap, subst}
use Rattle.std.specs.Prelude.{codes, Option, Some, None, is_some}
use Rattle.std.specs.Option.{option_map}
use Rattle.ir_lex.specs.Tokens.{Word, Number, Global, Local, Sign}
use Rattle.ir_tree.specs.declared.types.Ty.{Ty}
use Rattle.ir_tree.specs.declared.types.Ty.TheVariants.{I1, I8, I16, I32, I64, Ptr}
use Rattle.ir_tree.specs.declared.types.BinOp.{BinOp}
use Rattle.ir_tree.specs.declared.types.ConvOp.{ConvOp}
use Rattle.ir_tree.specs.declared.types.ConvOp.TheVariants as conversions
use Rattle.ir_tree.specs.declared.types.Pred.{Pred}
use Rattle.ir_tree.specs.declared.types.Flags.{Flags}
use Rattle.ir_tree.specs.declared.types.MemTy.{MemTy}
use Rattle.ir_tree.specs.declared.types.Ret.{Ret}
use Rattle.ir_tree.specs.declared.types.Ret.TheVariants.{Void, Value}
use Rattle.ir_tree.specs.declared.types.Operand.{Operand}
use Rattle.ir_tree.specs.declared.types.Prof.{Prof}
use Rattle.ir_tree.specs.declared.types.Instr.{Instr}
use Rattle.ir_tree.specs.declared.types.Instr.TheVariants.{Binary, Compare, Convert, Freeze, Select, Phi, Alloca, Load, Store, Gep, Call, Count}
use Rattle.ir_grammar.specs.Tables.{by_word, effect_words}
use Rattle.ir_grammar.specs.Words.{Tokens, is_sign, first_is, behind_comma, word, sign, count, global, listed}
use Rattle.ir_grammar.specs.Types.{value_type, this_type, return_type, memory_type, operand, typed_operand, literal}
use Rattle.ir_grammar.specs.Past.{past_meaning}
use Rattle.ir_grammar.specs.Notes.{Nodes, this_literal}
use Rattle.ir_grammar.specs.Instructions.{two_operands, binary, predicate, compare, pointer_type, source_type, convert, freeze, select, entry, entries, phi, alloca, address, load, store, mark_meaning, one_marked, marked, is_type_word, indices, gep, callee, argument, arguments, call, counters_type, counter_index, counter, counter_add, operation, opcode_meaning, opcode, assigned, effect, Named, Does, instr}
use Rattle.ir_grammar.specs.declared.words.Opcode.{Opcode}
use Rattle.ir_grammar.specs.declared.words.Opcode.TheVariants as opcodes
use Rattle.ir_grammar.specs.declared.words.Effect.{Effect}
use Rattle.ir_grammar.specs.declared.words.Effect.TheVariants as effects
use Rattle.ir_grammar.specs.declared.words.Place.TheVariants as places
use Rattle.ir_grammar.specs.declared.words.Tail.TheVariants as tails
use Rattle.ir_grammar.specs.declared.words.Marks.{Marks}
use Rattle.ir_grammar.specs.declared.words.Marks.TheVariants as marks
use Rattle.ir_grammar.specs.declared.words.NoteKind.TheVariants as kinds
use Rattle.text_pieces.specs.declared.stop.Stop.TheVariants as stops
use Rattle.text_pieces.specs.Pieces.{Piece, Closed, Alone, stop_before, tokens_before}
use Rattle.text_pieces.specs.Lists.{parted}
use Rattle.canonical_text.specs.Words.{type_word, return_word, operator_word, predicate_word, conversion_word}
use Rattle.canonical_text.specs.Values.{literal_token, operand_token, typed, typed_pieces, memory_pieces}
use Rattle.canonical_text.specs.Notes.{line_stop, line_note}
use Rattle.canonical_text.specs.Instructions.{flagged, all_flags, two_pieces, conversion_pieces, choice_pieces, entry_pieces, address_pieces, gep_pieces, counter_pieces, instr_pieces}
use Rattle.spellable.specs.Values.{Each, IsSome, IsCount, IsLiteral, IsOperand, IsTyped, IsCallee, IsMemory, IsMaybe}
use Rattle.spellable.specs.Instructions.{MayStand, AreFlags, AreConversionFlags, IsSource, IsEntry, IsInstr}
use Rattle.spellable.specs.Appends.{tokens_append}
use Rattle.spellable.proofs.Literals.{literal_fact, operand_fact, callee_fact, type_fact, this_type_fact, return_fact, count_fact}
use Rattle.spellable.proofs.Words.{operator_fact, conversion_fact, predicate_fact, no_samesign}
use Rattle.spellable.proofs.Lists.{some_spell, list_spell}
use Rattle.spellable.proofs.Memory.{memory_first, memory_spells}
use Rattle.spellable.proofs.Flags.{type_no_flag, absent_flag, operator_flags_spell, conversion_flags_spell}
use Rattle.spellable.specs.Lines.{NoComma, Follows, IsKept}
use Rattle.spellable.proofs.Notes.{nothing_behind, noted_spells}
use Rattle.spellable.proofs.Items.{no_parts, typed_item, argument_item, entry_item}

-- # Parts of lines

pub typed_spells : (ty : Ty) (v : Operand) (ts : Tokens) → IsOperand ty v → typed_operand.Spells (Word (type_word ty) ∷ operand_token ty v ∷ ts) (ty, v) ts
unfolding typed_operand value_type operand
typed_spells ty v ts h = (ty, operand_token ty v ∷ ts, (Word (type_word ty), refl, type_fact ty), (v, ts, (operand_token ty v, refl, operand_fact ty v h), (refl, refl)))

two_spell : (ty : Ty) (left right : Operand) (others : Tokens) → IsOperand ty left → IsOperand ty right → two_operands.Spells (tokens_before (two_pieces ty left right) others) (ty, left, right) others
unfolding two_operands value_type operand sign
two_spell ty left right others h k = (
  ty,
  _,
  (Word (type_word ty), refl, type_fact ty),
  (
    left,
    _,
    (operand_token ty left, refl, operand_fact ty left h),
    (
      tt,
      _,
      (Sign 44, refl, refl),
      (right, others, (operand_token ty right, refl, operand_fact ty right k), (refl, refl)),
    ),
  ),
)

address_spells : (v : Operand) (ts : Tokens) → IsOperand Ptr v → address.Spells (Word (type_word Ptr) ∷ operand_token Ptr v ∷ ts) v ts
unfolding address this_type operand
address_spells v ts h = (tt, operand_token Ptr v ∷ ts, (Word (type_word Ptr), refl, refl), (operand_token Ptr v, refl, operand_fact Ptr v h))

no_mark : (ty : Ty) → is_some (mark_meaning marks.Inbounds (Word (type_word ty))) ≡ false
no_mark I1 = refl
no_mark I8 = refl
no_mark I16 = refl
no_mark I32 = refl
no_mark I64 = refl
no_mark Ptr = refl

-- a word that is marked, where it is written
pub marked_spells : (which : Marks) (text : List ℕ) (set : Bool) (ps : List Piece) (others : Tokens) → mark_meaning which (Word text) ≡ Some true → first_is (λ t. is_some (mark_meaning which t)) (tokens_before ps others) ≡ false → (marked which).Spells (tokens_before (flagged set text ps) others) set (tokens_before ps others)
unfolding marked one_marked
marked_spells which text true ps others e none =
    (true ∷ [], tokens_before ps others, (ap is_some e, tokens_before ps others, (Word text, refl, e), (none, refl)), (refl, refl))
marked_spells which text false ps others e none = ([], tokens_before ps others, (none, refl), (refl, refl))

-- # Operations

module _ (dest : List ℕ) (others : Tokens) (ends : NoComma others) where
  binary_spells : (op : BinOp) (flags : Flags) (ty : Ty) (left right : Operand) → AreFlags op flags → IsOperand ty left → IsOperand ty right → (binary dest op).Spells (tokens_before (all_flags flags (two_pieces ty left right)) others) (Binary dest op flags ty left right) others
  unfolding binary
  binary_spells op flags ty left right are h k = (
    flags,
    tokens_before (two_pieces ty left right) others,
    operator_flags_spell op flags (two_pieces ty left right) others are (type_no_flag ty _),
    ((ty, left, right), others, two_spell ty left right others h k, (tt, others, nothing_behind tails.Plain others ends, (refl, refl))),
  )

  compare_spells : (pred : Pred) (ty : Ty) (left right : Operand) → IsOperand ty left → IsOperand ty right → (compare dest).Spells (Word (predicate_word pred) ∷ tokens_before (two_pieces ty left right) others) (Compare dest pred ty left right) others
  unfolding compare predicate
  compare_spells pred ty left right h k = (
    false,
    Word (predicate_word pred) ∷ tokens_before (two_pieces ty left right) others,
    absent_flag true (codes "samesign") (Word (predicate_word pred) ∷ tokens_before (two_pieces ty left right) others) (no_samesign pred),
    (
      pred,
      tokens_before (two_pieces ty left right) others,
      (Word (predicate_word pred), refl, predicate_fact pred),
      ((ty, left, right), others, two_spell ty left right others h k, (tt, others, nothing_behind tails.Plain others ends, (refl, refl))),
    ),
  )

  source_spells : (op : ConvOp) (from : Ty) (ts : Tokens) → IsSource op from → (source_type op).Spells (Word (type_word from) ∷ ts) from ts
  unfolding value_type pointer_type this_type
  source_spells conversions.Trunc from ts h = (Word (type_word from), refl, type_fact from)
  source_spells conversions.ZExt from ts h = (Word (type_word from), refl, type_fact from)
  source_spells conversions.SExt from ts h = (Word (type_word from), refl, type_fact from)
  source_spells conversions.PtrToInt from ts h =
      subst (λ t. (source_type conversions.PtrToInt).Spells (Word (type_word t) ∷ ts) t ts) (sym h) (tt, ts, (Word (type_word Ptr), refl, refl), (refl, refl))

  convert_spells : (op : ConvOp) (flags : Flags) (from : Ty) (value : Operand) (to : Ty) → AreConversionFlags op flags → IsSource op from → IsOperand from value → (convert dest op).Spells (tokens_before (all_flags flags (conversion_pieces from value to)) others) (Convert dest op flags from value to) others
  unfolding convert operand word value_type
  convert_spells op flags from value to are source h = (
    flags,
    tokens_before (conversion_pieces from value to) others,
    conversion_flags_spell op flags (conversion_pieces from value to) others are (type_no_flag from _),
    (
      from,
      _,
      source_spells op from _ source,
      (
        value,
        _,
        (operand_token from value, refl, operand_fact from value h),
        (
          tt,
          _,
          (Word (codes "to"), refl, refl),
          (to, others, (Word (type_word to), refl, type_fact to), (tt, others, nothing_behind tails.Plain others ends, (refl, refl))),
        ),
      ),
    ),
  )

  freeze_spells : (ty : Ty) (value : Operand) → IsOperand ty value → (freeze dest).Spells (tokens_before (typed ty value stops.Line []) others) (Freeze dest ty value) others
  unfolding freeze
  freeze_spells ty value h = ((ty, value), others, typed_spells ty value others h, (tt, others, nothing_behind tails.Plain others ends, (refl, refl)))

  select_spells : (nodes : Nodes) (list : List Prof) (condition : Operand) (ty : Ty) (first second : Operand) (prof : Option Prof) → IsOperand I1 condition → IsOperand ty first → IsOperand ty second → IsMaybe (MayStand (IsKept nodes list) kinds.Weights) prof → (select nodes dest).Spells (tokens_before (typed I1 condition stops.Comma (choice_pieces list ty first second prof)) others) (Select dest condition ty first second prof) others
  unfolding select this_type operand sign
  select_spells nodes list condition ty first second prof c h k note = (
    tt,
    _,
    (Word (type_word I1), refl, refl),
    (
      condition,
      _,
      (operand_token I1 condition, refl, operand_fact I1 condition c),
      (
        tt,
        _,
        (Sign 44, refl, refl),
        (
          (ty, first),
          _,
          typed_spells ty first _ h,
          (
            tt,
            _,
            (Sign 44, refl, refl),
            (
              tt,
              _,
              (Word (type_word ty), refl, this_type_fact ty),
              (second, _, (operand_token ty second, refl, operand_fact ty second k), (prof, others, noted_spells nodes list kinds.Weights prof others note ends, (refl, refl))),
            ),
          ),
        ),
      ),
    ),
  )

  phi_spells : (ty : Ty) (list : List (Operand × List ℕ)) → IsSome list → Each (IsEntry ty) list → (phi dest).Spells (Word (type_word ty) ∷ tokens_before (parted (entry_pieces ty) stops.Line list) others) (Phi dest ty list) others
  unfolding phi entries value_type behind_comma
  phi_spells ty [] some h = absurd some
  phi_spells ty (e ∷ es) some h = (
    ty,
    tokens_before (parted (entry_pieces ty) stops.Line (e ∷ es)) others,
    (Word (type_word ty), refl, type_fact ty),
    (
      e ∷ es,
      others,
      some_spell (entry ty) (entry_pieces ty) (IsEntry ty) (entry_item ty) (behind_comma (is_sign 91)) (λ x stop ps more k. refl) stops.Line others (no_entry others ends) e es h.0 h.1,
      (tt, others, nothing_behind tails.Plain others ends, (refl, refl)),
    ),
  )
    where
      no_entry : (ts : Tokens) → NoComma ts → behind_comma (is_sign 91) ts ≡ false
      no_entry [] e = refl
      no_entry (t ∷ ts) e = ap (λ b. b && first_is (is_sign 91) ts) e

  alloca_spells : (mem : MemTy) → IsMemory mem → (alloca dest).Spells (tokens_before (memory_pieces mem stops.Line) others) (Alloca dest mem) others
  unfolding alloca
  alloca_spells mem h = (mem, others, memory_spells mem stops.Line others h, (tt, others, nothing_behind tails.Aligned others ends, (refl, refl)))

  load_spells : (ty : Ty) (from : Operand) → IsOperand Ptr from → (load dest).Spells (Word (type_word ty) ∷ Sign 44 ∷ tokens_before (typed Ptr from stops.Line []) others) (Load dest ty from) others
  unfolding load value_type sign
  load_spells ty from h =
      (ty, _, (Word (type_word ty), refl, type_fact ty), (tt, _, (Sign 44, refl, refl), (from, others, address_spells from others h, (tt, others, nothing_behind tails.Aligned others ends, (refl, refl)))))

  store_spells : (ty : Ty) (value to : Operand) → IsOperand ty value → IsOperand Ptr to → store.Spells (tokens_before (typed ty value stops.Comma (typed Ptr to stops.Line [])) others) (Store ty value to) others
  unfolding store sign
  store_spells ty value to h k =
      ((ty, value), _, typed_spells ty value _ h, (tt, _, (Sign 44, refl, refl), (to, others, address_spells to others k, (tt, others, nothing_behind tails.Aligned others ends, (refl, refl)))))

  -- # Addresses

  indices_spell : (list : List (Ty × Operand)) → IsSome list → Each IsTyped list → indices.Spells (tokens_before (parted typed_pieces stops.Line list) others) list others
  unfolding indices behind_comma
  indices_spell [] some h = absurd some
  indices_spell (p ∷ ps) some h =
      some_spell typed_operand typed_pieces IsTyped typed_item (behind_comma is_type_word) (λ x stop more rest k. index_type x.0) stops.Line others (no_index others ends) p ps h.0 h.1
    where
      index_type : (ty : Ty) → is_type_word (Word (type_word ty)) ≡ true
      index_type I1 = refl
      index_type I8 = refl
      index_type I16 = refl
      index_type I32 = refl
      index_type I64 = refl
      index_type Ptr = refl

      no_index : (ts : Tokens) → NoComma ts → behind_comma is_type_word ts ≡ false
      no_index [] e = refl
      no_index (t ∷ ts) e = ap (λ b. b && first_is is_type_word ts) e

  gep_spells : (inbounds : Bool) (mem : MemTy) (from : Operand) (list : List (Ty × Operand)) → IsMemory mem → IsOperand Ptr from → IsSome list → Each IsTyped list → (gep dest).Spells (tokens_before (flagged inbounds (codes "inbounds") (gep_pieces mem from list)) others) (Gep dest inbounds mem from list) others
  unfolding gep sign
  gep_spells inbounds mem from list m h some hs =
      let behind = tokens_before (address_pieces from list) others in (
        inbounds,
        tokens_before (gep_pieces mem from list) others,
        marked_spells marks.Inbounds (codes "inbounds") inbounds (gep_pieces mem from list) others refl
            (subst (λ ts. first_is (λ t. is_some (mark_meaning marks.Inbounds t)) ts ≡ false) (sym (tokens_append (memory_pieces mem stops.Comma) (address_pieces from list) others))
            (memory_first mem stops.Comma behind (λ t. is_some (mark_meaning marks.Inbounds t)) m refl no_mark)),
        (
          mem,
          Sign 44 ∷ behind,
          subst (λ ts. memory_type.Spells ts mem (Sign 44 ∷ behind)) (sym (tokens_append (memory_pieces mem stops.Comma) (address_pieces from list) others)) (memory_spells mem stops.Comma behind m),
          (
            tt,
            behind,
            (Sign 44, refl, refl),
            (
              from,
              Sign 44 ∷ tokens_before (parted typed_pieces stops.Line list) others,
              address_spells from (Sign 44 ∷ tokens_before (parted typed_pieces stops.Line list) others) h,
              (tt, _, (Sign 44, refl, refl), (list, others, indices_spell list some hs, (tt, others, nothing_behind tails.Plain others ends, (refl, refl)))),
            ),
          ),
        ),
      )

-- # Calls

pub return_begins : (ret : Ret) → is_some (past_meaning places.Return (Word (return_word ret))) ≡ false
return_begins Void = refl
return_begins (Value I1) = refl
return_begins (Value I8) = refl
return_begins (Value I16) = refl
return_begins (Value I32) = refl
return_begins (Value I64) = refl
return_begins (Value Ptr) = refl

-- behind the arguments, before a note or what follows the line
no_function_part : (list : List Prof) (prof : Option Prof) (others : Tokens) → Follows others → first_is (λ t. is_some (past_meaning places.Function t)) (stop_before (line_stop prof) (tokens_before (line_note list prof) others)) ≡ false
no_function_part list None others f = f.past
no_function_part list (Some note) others f = refl

module _ (nodes : Nodes) (list : List Prof) (others : Tokens) (f : Follows others) where
  call_spells : (dest : Option (List ℕ)) (ret : Ret) (whom : Operand) (args : List (Ty × Operand)) (prof : Option Prof) → IsCallee whom → Each IsTyped args → IsMaybe (MayStand (IsKept nodes list) kinds.Targets) prof → (call nodes dest).Spells (Word (return_word ret) ∷ operand_token Ptr whom ∷ Sign 40 ∷ tokens_before (parted typed_pieces stops.CloseParen args ++ Alone (line_stop prof) ∷ line_note list prof) others) (Call dest ret whom args prof) others
  unfolding call return_type callee arguments sign
  call_spells dest ret whom args prof h hs note =
      let behind = stop_before (line_stop prof) (tokens_before (line_note list prof) others) in
      let inside = tokens_before (parted typed_pieces stops.CloseParen args ++ Alone (line_stop prof) ∷ line_note list prof) others in (
        tt,
        Word (return_word ret) ∷ operand_token Ptr whom ∷ Sign 40 ∷ inside,
        no_parts places.Return (Word (return_word ret) ∷ operand_token Ptr whom ∷ Sign 40 ∷ inside) (return_begins ret),
        (
          ret,
          operand_token Ptr whom ∷ Sign 40 ∷ inside,
          (Word (return_word ret), refl, return_fact ret),
          (
            whom,
            Sign 40 ∷ inside,
            (operand_token Ptr whom, refl, callee_fact whom h),
            (
              args,
              behind,
              (
                tt,
                inside,
                (Sign 40, refl, refl),
                subst (λ ts. (listed 41 argument).Spells ts args behind) (sym (tokens_append (parted typed_pieces stops.CloseParen args) (Alone (line_stop prof) ∷ line_note list prof) others))
                    (list_spell argument typed_pieces IsTyped argument_item 41 stops.CloseParen refl refl (λ ts. refl) (λ x stop ps more k. refl) args behind hs),
              ),
              (
                tt,
                behind,
                no_parts places.Function behind (no_function_part list prof others f),
                (prof, others, noted_spells nodes list kinds.Targets prof others note f.comma, (refl, refl)),
              ),
            ),
          ),
        ),
      )

-- # Counters

counter_spells : (symbol : List ℕ) (size index : ℕ) (ts : Tokens) → IsCount size → IsLiteral I64 index → counter.Spells (tokens_before (counter_pieces symbol size index []) ts) (symbol, size, index) (Sign 44 ∷ ts)
unfolding counter counters_type counter_index this_type word sign count global this_literal literal
counter_spells symbol size index ts h k = (
  tt,
  _,
  (Word (codes "ptr"), refl, refl),
  (
    tt,
    _,
    (Word (codes "getelementptr"), refl, refl),
    (
      tt,
      _,
      (Word (codes "inbounds"), refl, refl),
      (
        tt,
        _,
        (Sign 40, refl, refl),
        (
          size,
          _,
          (tt, _, (Sign 91, refl, refl), (size, _, (Number false size, refl, count_fact size h), (tt, _, (Word (codes "x"), refl, refl), (tt, _, (Word (codes "i64"), refl, refl), (tt, _, (Sign 93, refl, refl), (refl, refl)))))),
          (
            tt,
            _,
            (Sign 44, refl, refl),
            (
              tt,
              _,
              (Word (codes "ptr"), refl, refl),
              (
                symbol,
                _,
                (Global symbol, refl, refl),
                (
                  index,
                  Sign 41 ∷ Sign 44 ∷ ts,
                  (
                    tt,
                    _,
                    (Sign 44, refl, refl),
                    (
                      tt,
                      _,
                      (Word (codes "i64"), refl, refl),
                      (
                        tt,
                        _,
                        (Number false 0, refl, refl),
                        (
                          tt,
                          _,
                          (Sign 44, refl, refl),
                          (
                            tt,
                            _,
                            (Word (codes "i64"), refl, refl),
                            (literal_token I64 index, refl, literal_fact I64 index k),
                          ),
                        ),
                      ),
                    ),
                  ),
                  (tt, Sign 44 ∷ ts, (Sign 41, refl, refl), (refl, refl)),
                ),
              ),
            ),
          ),
        ),
      ),
    ),
  ),
)

count_spells : (symbol : List ℕ) (size index : ℕ) (step : Operand) (others : Tokens) → NoComma others → IsCount size → IsLiteral I64 index → IsOperand I64 step → counter_add.Spells (Word (codes "add") ∷ tokens_before (counter_pieces symbol size index (typed I64 step stops.Space (Closed (Word (codes "monotonic")) stops.Line ∷ []))) others) (Count symbol size index step) others
unfolding counter_add this_type word sign operand
count_spells symbol size index step others ends h k s =
    let behind = Word (codes "i64") ∷ operand_token I64 step ∷ Word (codes "monotonic") ∷ others in (
      tt,
      _,
      (Word (codes "add"), refl, refl),
      (
        (symbol, size, index),
        Sign 44 ∷ behind,
        counter_spells symbol size index behind h k,
        (
          tt,
          behind,
          (Sign 44, refl, refl),
          (
            tt,
            _,
            (Word (codes "i64"), refl, refl),
            (
              step,
              _,
              (operand_token I64 step, refl, operand_fact I64 step s),
              (
                tt,
                others,
                (Word (codes "monotonic"), refl, refl),
                (tt, others, nothing_behind tails.Aligned others ends, (refl, refl)),
              ),
            ),
          ),
        ),
      ),
    )

-- # Any instruction

module _ (nodes : Nodes) where
  named_spells : (dest : List ℕ) (op : Opcode) (text : List ℕ) (ts : Tokens) (i : Instr) (others : Tokens) → opcode_meaning (Word text) ≡ Some op → (operation nodes dest op).Spells ts i others → (instr nodes).Spells (Local dest ∷ Sign 61 ∷ Word text ∷ ts) i others
  unfolding instr assigned sign opcode
  named_spells dest op text ts i others e h =
      (Named dest, Sign 61 ∷ Word text ∷ ts, (Local dest, refl, refl), (tt, Word text ∷ ts, (Sign 61, refl, refl), (op, ts, (Word text, refl, e), h)))

  effect_spells : (what : Effect) (text : List ℕ) (ts : Tokens) (i : Instr) (others : Tokens) → by_word effect_words text ≡ Some what → (effect nodes what).Spells ts i others → (instr nodes).Spells (Word text ∷ ts) i others
  unfolding instr
  effect_spells what text ts i others e h = (Does what, ts, (Word text, refl, ap (option_map Does) e), h)

  pub instr_spells : (list : List Prof) (i : Instr) (others : Tokens) → IsInstr (IsKept nodes list) i → Follows others → (instr nodes).Spells (tokens_before (instr_pieces list i) others) i others
  instr_spells list (Binary dest op flags ty left right) others h f = named_spells dest (opcodes.Binary op) (operator_word op) _ _ others (operator_fact op) (binary_spells dest others f.comma op flags ty left right h.1 h.2 h.3)
  instr_spells list (Compare dest pred ty left right) others h f = named_spells dest opcodes.Compare (codes "icmp") _ _ others refl (compare_spells dest others f.comma pred ty left right h.1 h.2)
  instr_spells list (Convert dest op flags from value to) others h f = named_spells dest (opcodes.Convert op) (conversion_word op) _ _ others (conversion_fact op) (convert_spells dest others f.comma op flags from value to h.1 h.2 h.3)
  instr_spells list (Freeze dest ty value) others h f = named_spells dest opcodes.Freeze (codes "freeze") _ _ others refl (freeze_spells dest others f.comma ty value h.1)
  instr_spells list (Select dest condition ty first second prof) others h f = named_spells dest opcodes.Select (codes "select") _ _ others refl (select_spells dest others f.comma nodes list condition ty first second prof h.1 h.2 h.3 h.4)
  instr_spells list (Phi dest ty values) others h f = named_spells dest opcodes.Phi (codes "phi") _ _ others refl (phi_spells dest others f.comma ty values h.1 h.2)
  instr_spells list (Alloca dest mem) others h f = named_spells dest opcodes.Alloca (codes "alloca") _ _ others refl (alloca_spells dest others f.comma mem h.1)
  instr_spells list (Load dest ty from) others h f = named_spells dest opcodes.Load (codes "load") _ _ others refl (load_spells dest others f.comma ty from h.1)
  instr_spells list (Store ty value to) others h f = effect_spells effects.Store (codes "store") _ _ others refl (store_spells [] others f.comma ty value to h.0 h.1)
  instr_spells list (Gep dest inbounds mem from steps) others h f = named_spells dest opcodes.Gep (codes "getelementptr") _ _ others refl (gep_spells dest others f.comma inbounds mem from steps h.1 h.2 h.3 h.4)
  instr_spells list (Call None ret whom args prof) others h f = effect_spells effects.Call (codes "call") _ _ others refl (call_spells nodes list others f None ret whom args prof h.1 h.2 h.3)
  instr_spells list (Call (Some dest) ret whom args prof) others h f = named_spells dest opcodes.Call (codes "call") _ _ others refl (call_spells nodes list others f (Some dest) ret whom args prof h.1 h.2 h.3)
  instr_spells list (Count symbol size index step) others h f = effect_spells effects.Count (codes "atomicrmw") _ _ others refl (count_spells symbol size index step others f.comma h.1 h.2 h.3)
