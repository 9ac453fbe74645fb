-- Types of memory are spelled by their dimensions.
use Rattle.std.proofs.Common.{◌≡◌, ℕ, suc, Bool, true, false, List, [], ◌∷◌, length, refl, sym, ap, ◌∙◌, subst, arith}
use Rattle.std.specs.Prelude.{codes, nat_eq, Option, Some}
use Rattle.std.proofs.lemmas.Bool.{le-leb}
use Rattle.std.proofs.lemmas.Bool.Decides.{nat_tests}
use Rattle.ir_lex.specs.Tokens.{Token, Word, Number, Sign}
use Rattle.ir_tree.specs.Types.{when}
use Rattle.ir_tree.specs.Spelling.{is_word_first, is_name_first, is_name_byte}
use Rattle.ir_tree.specs.declared.types.Ty.{Ty}
use Rattle.ir_tree.specs.declared.types.MemTy.{MemTy}
use Rattle.ir_grammar.specs.Words.{Tokens, first_is, word, sign, count, count_meaning, option_is, this_count}
use Rattle.ir_grammar.specs.Types.{value_type, this_type, dimension, dimensions, closings, shape, memory_of, memory_type, this_memory, depth_most}
use Rattle.text_pieces.specs.declared.stop.Stop.{Stop}
use Rattle.text_pieces.specs.declared.stop.Stop.TheVariants as stops
use Rattle.text_pieces.specs.Pieces.{Alone, stop_before, tokens_before}
use Rattle.canonical_text.specs.Words.{type_word}
use Rattle.canonical_text.specs.Values.{memory_pieces}
use Rattle.canonical_text.specs.Rows.{array_pieces}
use Rattle.spellable.specs.Values.{Each, IsCount, AreDimensions, IsMemory}
use Rattle.spellable.specs.Appends.{tokens_append}
use Rattle.spellable.proofs.Pieces.{Fine, fine_append, stop_depth}
use Rattle.spellable.proofs.Literals.{count_fact, count_writes, type_fact, this_type_fact, type_writes}

-- # Tokens

-- the tokens of a type by its dimensions, in front of others
abbrev pub shape_tokens : List ℕ → Ty → Tokens → Tokens
shape_tokens [] ty ts = Word (type_word ty) ∷ ts
shape_tokens (n ∷ ns) ty ts = Sign 91 ∷ Number false n ∷ Word (codes "x") ∷ shape_tokens ns ty (Sign 93 ∷ ts)

pub memory_tokens : (ns : List ℕ) (ty : Ty) (stop : Stop) (others : Tokens) → tokens_before (memory_pieces (memory_of ns ty) stop) others ≡ shape_tokens ns ty (stop_before stop others)
memory_tokens [] ty stop others = refl
memory_tokens (n ∷ ns) ty stop others =
    ap (λ ps. tokens_before ps others) (array_pieces n (memory_of ns ty) stop)
    ∙ ap (λ ts. Sign 91 ∷ Number false n ∷ Word (codes "x") ∷ ts)
    (tokens_append (memory_pieces (memory_of ns ty) stops.CloseBracket) (Alone stop ∷ []) others
    ∙ memory_tokens ns ty stops.CloseBracket (stop_before stop others))

-- as many closing brackets, in front of others
abbrev closers : List ℕ → Tokens → Tokens
closers [] ts = ts
closers (n ∷ ns) ts = Sign 93 ∷ closers ns ts

closers_more : (ns : List ℕ) (ts : Tokens) → closers ns (Sign 93 ∷ ts) ≡ Sign 93 ∷ closers ns ts
closers_more [] ts = refl
closers_more (n ∷ ns) ts = ap (λ us. Sign 93 ∷ us) (closers_more ns ts)

-- # Rules

dimension_spells : (n : ℕ) (ts : Tokens) → IsCount n → dimension.Spells (Sign 91 ∷ Number false n ∷ Word (codes "x") ∷ ts) n ts
unfolding dimension sign count word
dimension_spells n ts h = (tt, _, (_, refl, refl), (n, _, (_, refl, count_fact n h), (tt, _, (_, refl, refl), (refl, refl))))

dimensions_spell : (ns : List ℕ) (ty : Ty) (ts : Tokens) → Each IsCount ns → dimensions.Spells (shape_tokens ns ty ts) ns (Word (type_word ty) ∷ closers ns ts)
unfolding dimensions
dimensions_spell [] ty ts h = (refl, refl)
dimensions_spell (n ∷ ns) ty ts h = (
  refl,
  shape_tokens ns ty (Sign 93 ∷ ts),
  dimension_spells n (shape_tokens ns ty (Sign 93 ∷ ts)) h.0,
  subst (λ us. dimensions.Spells (shape_tokens ns ty (Sign 93 ∷ ts)) ns (Word (type_word ty) ∷ us)) (closers_more ns ts) (dimensions_spell ns ty (Sign 93 ∷ ts) h.1),
)

closings_spell : (ns : List ℕ) (ts : Tokens) → (closings ns).Spells (closers ns ts) tt ts
unfolding sign
closings_spell [] ts = (refl, refl)
closings_spell (n ∷ ns) ts = (tt, closers ns ts, (Sign 93, refl, refl), closings_spell ns ts)

pub shape_spells : (ns : List ℕ) (ty : Ty) (ts : Tokens) → AreDimensions ns → shape.Spells (shape_tokens ns ty ts) (ns, ty) ts
unfolding shape value_type
shape_spells ns ty ts h = (
  ns,
  _,
  dimensions_spell ns ty ts h.1,
  (
    ns,
    _,
    (ap (λ b. when b ns) (le-leb (length ns) depth_most h.0), refl),
    (
      ty,
      closers ns ts,
      (Word (type_word ty), refl, type_fact ty),
      (tt, ts, closings_spell ns ts, (refl, refl)),
    ),
  ),
)

-- the pieces of a type that is written
pub memory_spells : (m : MemTy) (stop : Stop) (others : Tokens) → IsMemory m → memory_type.Spells (tokens_before (memory_pieces m stop) others) m (stop_before stop others)
unfolding memory_type
memory_spells m stop others (ns, ty, same, h) =
    subst (λ e. memory_type.Spells (tokens_before (memory_pieces e stop) others) e (stop_before stop others)) (sym same) (
      (ns, ty),
      stop_before stop others,
      subst (λ ts. shape.Spells ts (ns, ty) (stop_before stop others)) (sym (memory_tokens ns ty stop others)) (shape_spells ns ty (stop_before stop others) h),
      (refl, refl),
    )

-- a type begins with a bracket or a word
pub shape_first : (ns : List ℕ) (ty : Ty) (ts : Tokens) (test : Token → Bool) → test (Sign 91) ≡ false → test (Word (type_word ty)) ≡ false → first_is test (shape_tokens ns ty ts) ≡ false
shape_first [] ty ts test sign word = word
shape_first (n ∷ ns) ty ts test sign word = sign

pub memory_first : (m : MemTy) (stop : Stop) (others : Tokens) (test : Token → Bool) → IsMemory m → test (Sign 91) ≡ false → ((ty : Ty) → test (Word (type_word ty)) ≡ false) → first_is test (tokens_before (memory_pieces m stop) others) ≡ false
memory_first m stop others test (ns, ty, same, h) sign word =
    subst (λ e. first_is test (tokens_before (memory_pieces e stop) others) ≡ false) (sym same)
    (subst (λ ts. first_is test ts ≡ false) (sym (memory_tokens ns ty stop others)) (shape_first ns ty (stop_before stop others) test sign (word ty)))

same_count : (n : ℕ) → nat_eq n n ≡ true
same_count n = grind (arith, nat_tests)

this_count_fact : (n : ℕ) → IsCount n → ◌≡◌ {A = Option (Unit {0})} (when (option_is (nat_eq n) (count_meaning (Number false n))) tt) (Some tt)
this_count_fact n h = ap (λ o. when (option_is (nat_eq n) o) tt) (count_fact n h) ∙ ap (λ b. when b tt) (same_count n)

-- a type that is given
pub this_spells : (ns : List ℕ) (ty : Ty) (ts : Tokens) → Each IsCount ns → (this_memory ns ty).Spells (shape_tokens ns ty ts) tt ts
unfolding sign word this_count this_type
this_spells [] ty ts h = (Word (type_word ty), refl, this_type_fact ty)
this_spells (n ∷ ns) ty ts h = (
  tt,
  _,
  (Sign 91, refl, refl),
  (
    tt,
    _,
    (Number false n, refl, this_count_fact n h.0),
    (
      tt,
      _,
      (Word (codes "x"), refl, refl),
      (tt, Sign 93 ∷ ts, this_spells ns ty (Sign 93 ∷ ts) h.1, (Sign 93, refl, refl)),
    ),
  ),
)

-- # Pieces

pub dimensions_fine : (ns : List ℕ) (ty : Ty) (stop : Stop) (d : ℕ) → Each IsCount ns → Fine d (memory_pieces (memory_of ns ty) stop) (stop_depth stop d)
unfolding is_word_first is_name_first is_name_byte
dimensions_fine [] ty stop d h = (type_writes ty, refl)
dimensions_fine (n ∷ ns) ty stop d h =
    subst (λ ps. Fine d ps (stop_depth stop d)) (sym (array_pieces n (memory_of ns ty) stop)) (
      count_writes n h.0,
      (
        refl,
        fine_append (suc d) (memory_pieces (memory_of ns ty) stops.CloseBracket) d (Alone stop ∷ []) (stop_depth stop d) (dimensions_fine ns ty stops.CloseBracket (suc d) h.1) refl,
      ),
    )

pub memory_fine : (m : MemTy) (stop : Stop) (d : ℕ) → IsMemory m → Fine d (memory_pieces m stop) (stop_depth stop d)
memory_fine m stop d (ns, ty, same, h) = subst (λ e. Fine d (memory_pieces e stop) (stop_depth stop d)) (sym same) (dimensions_fine ns ty stop d h.1)
