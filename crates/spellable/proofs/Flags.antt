-- Flags that are written are read as they are.
use Rattle.std.proofs.Common.{◌≡◌, ℕ, Bool, true, false, List, ◌∷◌, refl, sym, ap, subst, inl, inr}
use Rattle.std.specs.Prelude.{codes}
use Rattle.std.proofs.lemmas.Bool.{false≢true}
use Rattle.ir_lex.specs.Tokens.{Token, Word}
use Rattle.ir_tree.specs.Names.{same}
use Rattle.ir_tree.specs.Types.{when}
use Rattle.ir_tree.specs.Spelling.{is_word_first, is_name_first, is_name_byte}
use Rattle.ir_tree.specs.declared.types.Ty.{Ty}
use Rattle.ir_tree.specs.declared.types.Ty.TheVariants.{I1, I8, I16, I32, I64, Ptr}
use Rattle.ir_tree.specs.declared.types.BinOp.{BinOp}
use Rattle.ir_tree.specs.declared.types.ConvOp.{ConvOp}
use Rattle.ir_tree.specs.declared.types.Flags.{Flags}
use Rattle.ir_grammar.specs.Words.{Tokens, is_word, first_is, word, flag, flag_where}
use Rattle.ir_grammar.specs.Instructions.{may_wrap, may_be_exact, is_or, is_trunc, is_zext, operator_flags, conversion_flags}
use Rattle.text_pieces.specs.Pieces.{Piece, tokens_before}
use Rattle.text_cuts.specs.Cut.{can_write}
use Rattle.canonical_text.specs.Words.{type_word}
use Rattle.canonical_text.specs.Instructions.{flagged, all_flags}
use Rattle.spellable.specs.Instructions.{IsAllowed, AreFlags, AreConversionFlags}
use Rattle.spellable.proofs.Pieces.{Fine}

-- a flag that is not written is not read
pub absent_flag : (may : Bool) (text : List ℕ) (ts : Tokens) → first_is (is_word text) ts ≡ false → (flag_where may text).Spells ts false ts
unfolding flag
absent_flag true text ts h = inr (h, (refl, refl))
absent_flag false text ts h = (refl, refl)

present_flag : (may : Bool) (text : List ℕ) (ts : Tokens) → may ≡ true → same text text ≡ true → (flag_where may text).Spells (Word text ∷ ts) true ts
unfolding flag word
present_flag true text ts e h = inl (h, (tt, ts, (Word text, refl, ap (λ b. when b tt) h), (refl, refl)))
present_flag false text ts e h = absurd (false≢true e)

pub flag_spells : (set may : Bool) (text : List ℕ) (ps : List Piece) (others : Tokens) → IsAllowed set may → same text text ≡ true → first_is (is_word text) (tokens_before ps others) ≡ false → (flag_where may text).Spells (tokens_before (flagged set text ps) others) set (tokens_before ps others)
flag_spells true may text ps others allowed h none = present_flag may text (tokens_before ps others) allowed h
flag_spells false may text ps others allowed h none = absent_flag may text (tokens_before ps others) none

-- another word, or what stands behind it
pub behind_flag : (set : Bool) (text : List ℕ) (ps : List Piece) (others : Tokens) (test : Token → Bool) → test (Word text) ≡ false → first_is test (tokens_before ps others) ≡ false → first_is test (tokens_before (flagged set text ps) others) ≡ false
behind_flag true text ps others test here none = here
behind_flag false text ps others test here none = none

-- a type is no flag
pub record IsNoFlag (ts : Tokens) : Type 0 where
  pub nuw : first_is (is_word (codes "nuw")) ts ≡ false
  pub nsw : first_is (is_word (codes "nsw")) ts ≡ false
  pub exact : first_is (is_word (codes "exact")) ts ≡ false
  pub disjoint : first_is (is_word (codes "disjoint")) ts ≡ false
  pub nneg : first_is (is_word (codes "nneg")) ts ≡ false

pub type_no_flag : (ty : Ty) (ts : Tokens) → IsNoFlag (Word (type_word ty) ∷ ts)
type_no_flag I1 ts = record { nuw = refl; nsw = refl; exact = refl; disjoint = refl; nneg = refl }
type_no_flag I8 ts = record { nuw = refl; nsw = refl; exact = refl; disjoint = refl; nneg = refl }
type_no_flag I16 ts = record { nuw = refl; nsw = refl; exact = refl; disjoint = refl; nneg = refl }
type_no_flag I32 ts = record { nuw = refl; nsw = refl; exact = refl; disjoint = refl; nneg = refl }
type_no_flag I64 ts = record { nuw = refl; nsw = refl; exact = refl; disjoint = refl; nneg = refl }
type_no_flag Ptr ts = record { nuw = refl; nsw = refl; exact = refl; disjoint = refl; nneg = refl }

pub operator_flags_spell : (op : BinOp) (flags : Flags) (ps : List Piece) (others : Tokens) → AreFlags op flags → IsNoFlag (tokens_before ps others) → (operator_flags op).Spells (tokens_before (all_flags flags ps) others) flags (tokens_before ps others)
unfolding operator_flags all_flags
operator_flags_spell op flags ps others are none =
    let exact = flagged flags.exact (codes "exact") ps in
    let nsw = flagged flags.nsw (codes "nsw") exact in
    let before_exact = behind_flag flags.exact (codes "exact") ps others in (
      flags.nuw,
      tokens_before nsw others,
      flag_spells flags.nuw (may_wrap op) (codes "nuw") nsw others are.nuw refl (behind_flag flags.nsw (codes "nsw") exact others (is_word (codes "nuw")) refl (before_exact (is_word (codes "nuw")) refl none.nuw)),
      (
        flags.nsw,
        tokens_before exact others,
        flag_spells flags.nsw (may_wrap op) (codes "nsw") exact others are.nsw refl (before_exact (is_word (codes "nsw")) refl none.nsw),
        (
          flags.exact,
          tokens_before ps others,
          flag_spells flags.exact (may_be_exact op) (codes "exact") ps others are.exact refl none.exact,
          (
            false,
            tokens_before ps others,
            absent_flag (is_or op) (codes "disjoint") (tokens_before ps others) none.disjoint,
            (refl, refl),
          ),
        ),
      ),
    )

no_exact : (b : Bool) (ps : List Piece) → b ≡ false → flagged b (codes "exact") ps ≡ ps
no_exact b ps e = ap (λ c. flagged c (codes "exact") ps) e

flags_same : (flags : Flags) → flags.exact ≡ false → flags ≡ record { nuw = flags.nuw; nsw = flags.nsw; exact = false }
flags_same flags e = ap (λ b. flags_with flags b) e
  where
    flags_with : Flags → Bool → Flags
    flags_with f b = record { nuw = f.nuw; nsw = f.nsw; exact = b }

conversion_flags_alike : (op : ConvOp) (flags : Flags) (ps : List Piece) (others : Tokens) → AreConversionFlags op flags → IsNoFlag (tokens_before ps others) → (conversion_flags op).Spells (tokens_before (flagged flags.nuw (codes "nuw") (flagged flags.nsw (codes "nsw") ps)) others) flags (tokens_before ps others)
unfolding conversion_flags
conversion_flags_alike op flags ps others are none =
    let nsw = flagged flags.nsw (codes "nsw") ps in (
      flags.nuw,
      tokens_before nsw others,
      flag_spells flags.nuw (is_trunc op) (codes "nuw") nsw others are.nuw refl (behind_flag flags.nsw (codes "nsw") ps others (is_word (codes "nuw")) refl none.nuw),
      (
        flags.nsw,
        tokens_before ps others,
        flag_spells flags.nsw (is_trunc op) (codes "nsw") ps others are.nsw refl none.nsw,
        (
          false,
          tokens_before ps others,
          absent_flag (is_zext op) (codes "nneg") (tokens_before ps others) none.nneg,
          (flags_same flags are.exact, refl),
        ),
      ),
    )

pub conversion_flags_spell : (op : ConvOp) (flags : Flags) (ps : List Piece) (others : Tokens) → AreConversionFlags op flags → IsNoFlag (tokens_before ps others) → (conversion_flags op).Spells (tokens_before (all_flags flags ps) others) flags (tokens_before ps others)
unfolding all_flags
conversion_flags_spell op flags ps others are none =
    subst (λ qs. (conversion_flags op).Spells (tokens_before (flagged flags.nuw (codes "nuw") (flagged flags.nsw (codes "nsw") qs)) others) flags (tokens_before ps others))
    (sym (no_exact flags.exact ps are.exact)) (conversion_flags_alike op flags ps others are none)

pub flag_fine : (set : Bool) (text : List ℕ) (ps : List Piece) (d e : ℕ) → can_write (Word text) ≡ true → Fine d ps e → Fine d (flagged set text ps) e
flag_fine true text ps d e w h = (w, h)
flag_fine false text ps d e w h = h

pub flags_fine : (flags : Flags) (ps : List Piece) (d e : ℕ) → Fine d ps e → Fine d (all_flags flags ps) e
unfolding all_flags is_word_first is_name_first is_name_byte
flags_fine flags ps d e h =
    let exact = flagged flags.exact (codes "exact") ps in
    flag_fine flags.nuw (codes "nuw") (flagged flags.nsw (codes "nsw") exact) d e refl
    (flag_fine flags.nsw (codes "nsw") exact d e refl (flag_fine flags.exact (codes "exact") ps d e refl h))
