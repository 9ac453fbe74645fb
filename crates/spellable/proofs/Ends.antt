-- The line of a terminator spells the terminator.
use Rattle.std.proofs.Common.{◌≡◌, ℕ, Bool, true, false, List, [], ◌∷◌, refl, sym, subst}
use Rattle.std.specs.Prelude.{codes, Some, None}
use Rattle.std.specs.List.{flat_map}
use Rattle.ir_lex.specs.Tokens.{Token, Word, Local, Sign}
use Rattle.ir_tree.specs.declared.types.Ty.{Ty}
use Rattle.ir_tree.specs.declared.types.Ty.TheVariants.{I1, I8, I16, I32, I64, Ptr}
use Rattle.ir_tree.specs.declared.types.Ret.TheVariants.{Void, Value}
use Rattle.ir_tree.specs.declared.types.Prof.{Prof}
use Rattle.ir_tree.specs.declared.types.Instr.{Instr}
use Rattle.ir_tree.specs.declared.types.Instr.TheVariants.{Binary, Compare, Convert, Freeze, Select, Phi, Alloca, Load, Store, Gep, Call, Count}
use Rattle.ir_tree.specs.declared.types.Term.{Term}
use Rattle.ir_tree.specs.declared.types.Term.TheVariants as terms
use Rattle.ir_grammar.specs.Rules.{Rule, AreMany}
use Rattle.ir_grammar.specs.Words.{Tokens, first_is, word, sign, local}
use Rattle.ir_grammar.specs.Types.{is_type, this_type, return_type, literal, operand}
use Rattle.ir_grammar.specs.Notes.{Nodes}
use Rattle.ir_grammar.specs.Instructions.{starts_instr}
use Rattle.ir_grammar.specs.Terminators.{target, Jumps, Chooses, jump, branch, br, case, cases, switch, no_value, one_value, ret, unreachable, terminator}
use Rattle.ir_grammar.specs.declared.words.Ending.TheVariants as endings
use Rattle.ir_grammar.specs.declared.words.Tail.TheVariants as tails
use Rattle.ir_grammar.specs.declared.words.NoteKind.TheVariants as kinds
use Rattle.text_pieces.specs.declared.stop.Stop.TheVariants as stops
use Rattle.text_pieces.specs.Pieces.{Piece, Alone, stop_before, tokens_before}
use Rattle.canonical_text.specs.Words.{type_word}
use Rattle.canonical_text.specs.Values.{literal_token, operand_token}
use Rattle.canonical_text.specs.Notes.{line_stop, line_note}
use Rattle.canonical_text.specs.Instructions.{indented, instr_pieces, case_pieces, cases_pieces, term_pieces}
use Rattle.spellable.specs.Values.{Each}
use Rattle.spellable.specs.Instructions.{IsCase, IsTerm}
use Rattle.spellable.specs.Lines.{NoComma, Follows, IsKept}
use Rattle.spellable.specs.Appends.{tokens_append}
use Rattle.spellable.proofs.Literals.{literal_fact, operand_fact, this_type_fact, return_fact}
use Rattle.spellable.proofs.Notes.{nothing_behind, noted_spells}
use Rattle.spellable.proofs.Lines.{typed_spells}

-- # Pieces one behind the other

-- each of a list is spelled by its pieces, where these may stand behind the pieces before
pub each_spell : {A : Type 0} (r : Rule Token A) (begins : Tokens → Bool) (pieces : A → List Piece) (Good : A → Type 0) (After : Tokens → Type 0) → ((x : A) (others : Tokens) → Good x → After others → r.Spells (tokens_before (pieces x) others) x others) → ((x : A) (others : Tokens) → begins (tokens_before (pieces x) others) ≡ true) → ((x : A) (others : Tokens) → After (tokens_before (pieces x) others)) → (xs : List A) (others : Tokens) → Each Good xs → begins others ≡ false → After others → AreMany begins r (tokens_before (flat_map pieces xs) others) xs others
each_spell r begins pieces Good After spells starts follows [] others h none after = (none, refl)
each_spell {A} r begins pieces Good After spells starts follows (x ∷ xs) others h none after =
    let behind = tokens_before (flat_map pieces xs) others in
    subst (λ ts. AreMany begins r ts (x ∷ xs) others) (sym (tokens_append (pieces x) (flat_map pieces xs) others))
    (starts x behind, behind, spells x behind h.0 (behind_follows xs), each_spell r begins pieces Good After spells starts follows xs others h.1 none after)
  where
    behind_follows : (ys : List A) → After (tokens_before (flat_map pieces ys) others)
    behind_follows [] = after
    behind_follows (y ∷ ys) = subst After (sym (tokens_append (pieces y) (flat_map pieces ys) others)) (follows y (tokens_before (flat_map pieces ys) others))

-- # Parts of terminators

target_spells : (name : List ℕ) (ts : Tokens) → target.Spells (Word (codes "label") ∷ Local name ∷ ts) name ts
unfolding target word local
target_spells name ts = (tt, Local name ∷ ts, (Word (codes "label"), refl, refl), (Local name, refl, refl))

same_type : (ty : Ty) → is_type ty (Word (type_word ty)) ≡ true
same_type I1 = refl
same_type I8 = refl
same_type I16 = refl
same_type I32 = refl
same_type I64 = refl
same_type Ptr = refl

case_spells : (ty : Ty) (c : ℕ × List ℕ) (others : Tokens) → IsCase ty c → (case ty).Spells (tokens_before (case_pieces ty c) others) c others
unfolding case this_type literal sign
case_spells ty c others h =
    (tt, _, (Word (type_word ty), refl, this_type_fact ty), (c.0, _, (literal_token ty c.0, refl, literal_fact ty c.0 h.0), (tt, _, (Sign 44, refl, refl), (c.1, others, target_spells c.1 others, (refl, refl)))))

cases_spell : (ty : Ty) (list : List (ℕ × List ℕ)) (others : Tokens) → Each (IsCase ty) list → first_is (is_type ty) others ≡ false → (cases ty).Spells (tokens_before (flat_map (case_pieces ty) list) others) list others
unfolding cases
cases_spell ty list others h none =
    each_spell (case ty) (first_is (is_type ty)) (case_pieces ty) (IsCase ty) (λ _. Unit {0}) (λ c more k after. case_spells ty c more k) (λ c more. same_type ty) (λ c more. tt) list others h none tt

module _ (nodes : Nodes) (list : List Prof) (others : Tokens) (ends : NoComma others) where
  term_at : (t : Term) → IsTerm (IsKept nodes list) t → (terminator nodes).Spells (tokens_before (term_pieces list t) others) t others
  unfolding terminator br jump branch switch ret no_value one_value unreachable local sign operand return_type
  term_at (terms.Br to) h =
      (endings.Br, _, (Word (codes "br"), refl, refl), (Jumps, Local to ∷ others, (Word (codes "label"), refl, refl), (to, others, (Local to, refl, refl), (tt, others, nothing_behind tails.Plain others ends, (refl, refl)))))
  term_at (terms.CondBr condition first second prof) h = (
    endings.Br,
    _,
    (Word (codes "br"), refl, refl),
    (
      Chooses,
      _,
      (Word (codes "i1"), refl, refl),
      (
        condition,
        _,
        (operand_token I1 condition, refl, operand_fact I1 condition h.0),
        (
          tt,
          _,
          (Sign 44, refl, refl),
          (
            first,
            _,
            target_spells first _,
            (
              tt,
              _,
              (Sign 44, refl, refl),
              (
                second,
                _,
                target_spells second _,
                (prof, others, noted_spells nodes list kinds.Weights prof others h.3 ends, (refl, refl)),
              ),
            ),
          ),
        ),
      ),
    ),
  )
  term_at (terms.Switch ty value default list_of prof) h =
      let behind = stop_before (line_stop prof) (tokens_before (line_note list prof) others) in
      let inside = tokens_before (cases_pieces list ty list_of prof) others in (
        endings.Switch,
        _,
        (Word (codes "switch"), refl, refl),
        (
          (ty, value),
          Sign 44 ∷ Word (codes "label") ∷ Local default ∷ Sign 91 ∷ inside,
          typed_spells ty value (Sign 44 ∷ Word (codes "label") ∷ Local default ∷ Sign 91 ∷ inside) h.0,
          (
            tt,
            _,
            (Sign 44, refl, refl),
            (
              default,
              _,
              target_spells default _,
              (
                tt,
                inside,
                (Sign 91, refl, refl),
                (
                  list_of,
                  Sign 93 ∷ behind,
                  subst (λ ts. (cases ty).Spells ts list_of (Sign 93 ∷ behind)) (sym (tokens_append (flat_map (case_pieces ty) list_of) (indented (Alone stops.CloseBracket ∷ Alone (line_stop prof) ∷ line_note list prof)) others)) (cases_spell ty list_of (Sign 93 ∷ behind) h.2 refl),
                  (tt, behind, (Sign 93, refl, refl), (prof, others, noted_spells nodes list kinds.Weights prof others h.3 ends, (refl, refl))),
                ),
              ),
            ),
          ),
        ),
      )
  term_at (terms.Ret None) h =
      (endings.Ret, _, (Word (codes "ret"), refl, refl), (Void, others, (Word (codes "void"), refl, refl), (tt, others, nothing_behind tails.Plain others ends, (refl, refl))))
  term_at (terms.Ret (Some p)) h = (
    endings.Ret,
    _,
    (Word (codes "ret"), refl, refl),
    (
      Value p.0,
      operand_token p.0 p.1 ∷ others,
      (Word (type_word p.0), refl, return_fact (Value p.0)),
      (p.1, others, (operand_token p.0 p.1, refl, operand_fact p.0 p.1 h), (tt, others, nothing_behind tails.Plain others ends, (refl, refl))),
    ),
  )
  term_at terms.Unreachable h = (endings.Unreachable, others, (Word (codes "unreachable"), refl, refl), (tt, others, nothing_behind tails.Plain others ends, (refl, refl)))

pub term_spells : (nodes : Nodes) (list : List Prof) (t : Term) (others : Tokens) → IsTerm (IsKept nodes list) t → NoComma others → (terminator nodes).Spells (tokens_before (term_pieces list t) others) t others
term_spells nodes list t others h ends = term_at nodes list others ends t h

-- # What begins a line

pub instr_starts : (list : List Prof) (i : Instr) (others : Tokens) → first_is starts_instr (tokens_before (instr_pieces list i) others) ≡ true
instr_starts list (Binary dest op flags ty left right) others = refl
instr_starts list (Compare dest pred ty left right) others = refl
instr_starts list (Convert dest op flags from value to) others = refl
instr_starts list (Freeze dest ty value) others = refl
instr_starts list (Select dest condition ty first second prof) others = refl
instr_starts list (Phi dest ty entries) others = refl
instr_starts list (Alloca dest mem) others = refl
instr_starts list (Load dest ty from) others = refl
instr_starts list (Store ty value to) others = refl
instr_starts list (Gep dest inbounds mem from indices) others = refl
instr_starts list (Call None gives whom args prof) others = refl
instr_starts list (Call (Some dest) gives whom args prof) others = refl
instr_starts list (Count symbol size index step) others = refl

pub instr_follows : (list : List Prof) (i : Instr) (others : Tokens) → Follows (tokens_before (instr_pieces list i) others)
instr_follows list (Binary dest op flags ty left right) others = record { comma = refl; past = refl }
instr_follows list (Compare dest pred ty left right) others = record { comma = refl; past = refl }
instr_follows list (Convert dest op flags from value to) others = record { comma = refl; past = refl }
instr_follows list (Freeze dest ty value) others = record { comma = refl; past = refl }
instr_follows list (Select dest condition ty first second prof) others = record { comma = refl; past = refl }
instr_follows list (Phi dest ty entries) others = record { comma = refl; past = refl }
instr_follows list (Alloca dest mem) others = record { comma = refl; past = refl }
instr_follows list (Load dest ty from) others = record { comma = refl; past = refl }
instr_follows list (Store ty value to) others = record { comma = refl; past = refl }
instr_follows list (Gep dest inbounds mem from indices) others = record { comma = refl; past = refl }
instr_follows list (Call None gives whom args prof) others = record { comma = refl; past = refl }
instr_follows list (Call (Some dest) gives whom args prof) others = record { comma = refl; past = refl }
instr_follows list (Count symbol size index step) others = record { comma = refl; past = refl }

pub term_starts : (list : List Prof) (t : Term) (others : Tokens) → first_is starts_instr (tokens_before (term_pieces list t) others) ≡ false
term_starts list (terms.Br to) others = refl
term_starts list (terms.CondBr condition first second prof) others = refl
term_starts list (terms.Switch ty value default more prof) others = refl
term_starts list (terms.Ret None) others = refl
term_starts list (terms.Ret (Some p)) others = refl
term_starts list terms.Unreachable others = refl

pub term_follows : (list : List Prof) (t : Term) (others : Tokens) → Follows (tokens_before (term_pieces list t) others)
term_follows list (terms.Br to) others = record { comma = refl; past = refl }
term_follows list (terms.CondBr condition first second prof) others = record { comma = refl; past = refl }
term_follows list (terms.Switch ty value default more prof) others = record { comma = refl; past = refl }
term_follows list (terms.Ret None) others = record { comma = refl; past = refl }
term_follows list (terms.Ret (Some p)) others = record { comma = refl; past = refl }
term_follows list terms.Unreachable others = record { comma = refl; past = refl }
