-- What a word is, to clap's lexer and to the parts.
use Rattle.std.proofs.Common.{◌≡◌, ℕ, ◌==◌, ◌&&◌, ◌<◌, Bool, cond, true, false, zero, suc, List, [], ◌∷◌, Option, Some, None, refl, sym, ap, ◌∙◌, eqb-true, length, drop, get_or, arith, true≢false}
use Rattle.std.specs.Prelude.{slice_get}
use Rattle.std.specs.Str.{IsUtf8, bytes_eq, chars}
use Rattle.std.proofs.lemmas.Str.{IsUtf8-drop, IsCharBoundary-after_ascii, encodes-chars}
use lib.Utf8.{encodes}
use Rattle.clap.specs.Lexer.{long_of, name_and_value, short_of, strip_byte}
use Rattle.pgo_words.specs.Parts.{Text, behind_dashes, is_dashed, name_in, value_in}

abbrev pub dashes : Text
dashes = 45 ∷ 45 ∷ []

pub data View (word : Text) : Type 0 where
  FileWord : is_dashed word ≡ false → bytes_eq word dashes ≡ false → long_of word ≡ None → short_of word ≡ None → View word
  EndWord : is_dashed word ≡ true → bytes_eq word dashes ≡ true → View word
  ShortWord : (first : ℕ) (c : ℕ) (rest : Text) → is_dashed word ≡ true → bytes_eq word dashes ≡ false → long_of word ≡ None → short_of word ≡ Some (c ∷ rest)
      → slice_get (chars (c ∷ rest)) 0 ≡ Some first → behind_dashes word ≡ None → View word
  LongWord : (rest : Text) → is_dashed word ≡ true → bytes_eq word dashes ≡ false → long_of word ≡ Some (name_in rest, value_in rest)
      → behind_dashes word ≡ Some rest → View word

first_char : (c : ℕ) (rest : Text) → IsUtf8 (c ∷ rest) → (first : ℕ) × (slice_get (chars (c ∷ rest)) 0 ≡ Some first)
first_char c rest text = go (chars (c ∷ rest)) (encodes-chars (c ∷ rest) text)
  where
    go : (cs : List ℕ) → encodes cs ≡ c ∷ rest → (first : ℕ) × (slice_get cs 0 ≡ Some first)
    go [] e = absurd (nil_cons c rest e)
      where
        nil_cons : (c : ℕ) (rest : Text) → [] ≡ c ∷ rest → ⊥
        nil_cons c rest e = cc
    go (x ∷ xs) e = (x, refl)

behind_hyphen : (c : ℕ) (rest : Text) → IsUtf8 (45 ∷ c ∷ rest) → IsUtf8 (c ∷ rest)
behind_hyphen c rest text =
    IsUtf8-drop (45 ∷ c ∷ rest) 1 text (IsCharBoundary-after_ascii (45 ∷ c ∷ rest) 0 text (omega arith) (omega arith))

pub view : (word : Text) → IsUtf8 word → View word
view [] text = FileWord refl refl refl refl
view (b ∷ []) text = go (b == 45) refl
  where
    go : (t : Bool) → (b == 45) ≡ t → View (b ∷ [])
    go true is = FileWord refl (rw is refl) (rw is refl) (rw is refl)
    go false is = FileWord refl (rw is refl) (rw is refl) (rw is refl)
view (b ∷ c ∷ rest) text = first (b == 45) refl
  where
    long : (rest : Text) → (b == 45) ≡ true → (c == 45) ≡ true → View (b ∷ c ∷ rest)
    long [] is also = EndWord is (rw (is, also) refl)
    long (x ∷ xs) is also = LongWord (x ∷ xs) is (rw (is, also) refl) (rw (is, also) refl) (rw (is, also) refl)

    short : (b == 45) ≡ true → (c == 45) ≡ false → View (b ∷ c ∷ rest)
    short is other =
        let begins : b ≡ 45 = eqb-true b 45 is in
        let one = first_char c rest (behind_hyphen c rest (rw begins at text)) in
        ShortWord one.0 c rest is (rw (is, other) refl) (rw (is, other) refl) (rw (is, other) refl) one.1 (rw (is, other) refl)

    second : (t : Bool) → (b == 45) ≡ true → (c == 45) ≡ t → View (b ∷ c ∷ rest)
    second true is also = long rest is also
    second false is other = short is other

    first : (t : Bool) → (b == 45) ≡ t → View (b ∷ c ∷ rest)
    first true is = second (c == 45) is refl
    first false is = FileWord is (rw is refl) (rw is refl) (rw is refl)
