-- Names can be written.
use Rattle.std.proofs.Common.{◌≡◌, ℕ, ◌<◌, ◌≤◌, Bool, true, false, ◌&&◌, ◌||◌, not, cond, eqb, ltb, leb, List, [], ◌∷◌, ◌++◌, refl, sym, ap, ◌∙◌, inl, inr, arith, append_assoc}
use Rattle.std.specs.Prelude.{slice_index, ◌/◌, ◌%◌}
use Rattle.std.specs.Char.{is_ascii_digit, is_ascii_hexdigit}
use Rattle.std.specs.List.{list_all, flat_map}
use Rattle.std.proofs.lemmas.Bool.{false≢true, and_parts, or_parts, agree_below, agree_below_at, cases_lt, lt-leb, ne_eqb, le-ltb}
use Rattle.ir_tree.specs.Spelling.{is_word_first, is_name_first, is_name_byte, is_quotable, is_empty, is_plain, is_digits, is_local_name, is_global_name, quoted, global_text, local_text}
use Rattle.ir_lex.specs.Classes.{is_string_byte}
use Rattle.ir_lex.specs.Spelling as lex
use Rattle.ir_lex.specs.Spelling.{ends, one, byte, many, either, is_byte_content, spells}
use Rattle.ir_lex.specs.declared.token.TokenKind.TheVariants as kinds
use Rattle.ir_lex.specs.Tokens.{Global, Local, Label, Bytes}
use Rattle.text_pieces.specs.Written.{is_escaped, hex_digit, escaped, byte_text}
use Rattle.text_cuts.specs.Cut.{can_write}
use Rattle.spellable.specs.Values.{IsLocal, IsGlobal}

or_left : (a b : Bool) → a ≡ true → (a || b) ≡ true
or_left a b e = ap (λ x. x || b) e

or_right : (a b : Bool) → b ≡ true → (a || b) ≡ true
or_right true b e = refl
or_right false b e = e

both : (a b : Bool) → a ≡ true → b ≡ true → (a && b) ≡ true
both a b e f = ap (λ x. x && b) e ∙ f

-- all bytes of a class, and then what stands behind them
many_over : (class : ℕ → Bool) (rest : List ℕ → Bool) (bs tail : List ℕ) → list_all class bs ≡ true → many class rest tail ≡ rest tail → many class rest (bs ++ tail) ≡ rest tail
many_over class rest [] tail h stop = stop
many_over class rest (b ∷ bs) tail h stop =
    let parts = and_parts (class b) (list_all class bs) h in
    ap (λ x. cond x (many class rest (bs ++ tail)) (rest (b ∷ bs ++ tail))) parts.0 ∙ many_over class rest bs tail parts.1 stop

many_all : (class : ℕ → Bool) (bs : List ℕ) → list_all class bs ≡ true → many class ends bs ≡ true
many_all class [] h = refl
many_all class (b ∷ bs) h =
    let parts = and_parts (class b) (list_all class bs) h in
    ap (λ x. cond x (many class ends bs) false) parts.0 ∙ many_all class bs parts.1

-- # Plain names and digits

plain_parts : (name : List ℕ) → is_plain name ≡ true → (is_name_first (slice_index name 0) ≡ true) × (list_all is_name_byte name ≡ true)
unfolding is_plain
plain_parts name h =
    let outer = and_parts (not (is_empty name) && is_name_first (slice_index name 0)) (list_all is_name_byte name) h in
    ((and_parts (not (is_empty name)) (is_name_first (slice_index name 0)) outer.0).1, outer.1)

plain_name : (name : List ℕ) → is_plain name ≡ true → lex.is_plain_name name ≡ true
unfolding is_plain
plain_name [] h = absurd (false≢true h)
plain_name (b ∷ bs) h =
    let parts = plain_parts (b ∷ bs) h in
    both (is_name_first b) (many is_name_byte ends bs) parts.0 (many_all is_name_byte bs (and_parts (is_name_byte b) (list_all is_name_byte bs) parts.1).1)

plain_label : (name : List ℕ) → is_plain name ≡ true → lex.is_plain_label (name ++ 58 ∷ []) ≡ true
unfolding is_plain is_name_byte is_name_first is_word_first
plain_label [] h = absurd (false≢true h)
plain_label (b ∷ bs) h =
    let parts = plain_parts (b ∷ bs) h in
    both (is_name_first b) (many is_name_byte (byte 58 ends) (bs ++ 58 ∷ [])) parts.0
    (many_over is_name_byte (byte 58 ends) bs (58 ∷ []) (and_parts (is_name_byte b) (list_all is_name_byte bs) parts.1).1 refl)

digit_parts : (name : List ℕ) → is_digits name ≡ true → list_all is_ascii_digit name ≡ true
unfolding is_digits
digit_parts name h = (and_parts (not (is_empty name)) (list_all is_ascii_digit name) h).1

digit_name : (name : List ℕ) → is_digits name ≡ true → lex.is_digits name ≡ true
unfolding is_digits
digit_name [] h = absurd (false≢true h)
digit_name (b ∷ bs) h =
    let parts = and_parts (is_ascii_digit b) (list_all is_ascii_digit bs) (digit_parts (b ∷ bs) h) in
    both (is_ascii_digit b) (many is_ascii_digit ends bs) parts.0 (many_all is_ascii_digit bs parts.1)

digit_label : (name : List ℕ) → is_digits name ≡ true → lex.is_digit_label (name ++ 58 ∷ []) ≡ true
unfolding is_digits
digit_label [] h = absurd (false≢true h)
digit_label (b ∷ bs) h =
    let parts = and_parts (is_ascii_digit b) (list_all is_ascii_digit bs) (digit_parts (b ∷ bs) h) in
    both (is_ascii_digit b) (many is_ascii_digit (byte 58 ends) (bs ++ 58 ∷ [])) parts.0 (many_over is_ascii_digit (byte 58 ends) bs (58 ∷ []) parts.1 refl)

-- # Quoted names

local_parts : (name : List ℕ) → is_local_name name ≡ true → list_all is_quotable name ≡ true
unfolding is_local_name
local_parts name h = (and_parts (not (is_empty name)) (list_all is_quotable name) h).1

-- the content of quotes, up to the closing one and what stands behind it
content_over : (tail : List ℕ → Bool) (more name : List ℕ) → is_local_name name ≡ true → tail more ≡ true → one is_quotable (many is_quotable (byte 34 tail)) (name ++ 34 ∷ more) ≡ true
unfolding is_local_name is_quotable
content_over tail more [] h e = absurd (false≢true h)
content_over tail more (b ∷ bs) h e =
    let parts = and_parts (is_quotable b) (list_all is_quotable bs) (local_parts (b ∷ bs) h) in
    both (is_quotable b) (many is_quotable (byte 34 tail) (bs ++ 34 ∷ more)) parts.0
    (many_over is_quotable (byte 34 tail) bs (34 ∷ more) parts.1 refl ∙ e)

-- behind digits, of which there may be none, a byte that is no digit
symbol_over : (name : List ℕ) → list_all is_quotable name ≡ true → list_all is_ascii_digit name ≡ false → many is_ascii_digit (one is_quotable (many is_quotable (byte 34 ends))) (name ++ 34 ∷ []) ≡ true
unfolding is_quotable
symbol_over [] h k = absurd (false≢true (sym k))
symbol_over (b ∷ bs) h k = go (symbol_over bs) (and_parts (is_quotable b) (list_all is_quotable bs) h) (is_ascii_digit b) refl
  where
    rest : Bool
    rest = many is_ascii_digit (one is_quotable (many is_quotable (byte 34 ends))) (bs ++ 34 ∷ [])

    here : Bool
    here = one is_quotable (many is_quotable (byte 34 ends)) (b ∷ bs ++ 34 ∷ [])

    go : (list_all is_quotable bs ≡ true → list_all is_ascii_digit bs ≡ false → rest ≡ true) → (is_quotable b ≡ true) × (list_all is_quotable bs ≡ true) → (x : Bool) → is_ascii_digit b ≡ x → cond (is_ascii_digit b) rest here ≡ true
    go later parts true e = ap (λ x. cond x rest here) e ∙ later parts.1 (sym (ap (λ x. x && list_all is_ascii_digit bs) e) ∙ k)
    go later parts false e = ap (λ x. cond x rest here) e ∙ both (is_quotable b) (many is_quotable (byte 34 ends) (bs ++ 34 ∷ [])) parts.0 (many_over is_quotable (byte 34 ends) bs (34 ∷ []) parts.1 refl)

-- # Tokens

pub local_writes : (name : List ℕ) → IsLocal name → can_write (Local name) ≡ true
unfolding local_text
local_writes name h = go (is_plain name) (is_digits name) refl refl
  where
    go : (x y : Bool) → is_plain name ≡ x → is_digits name ≡ y → spells kinds.Local (37 ∷ cond (x || y) name (quoted name)) ≡ true
    go true y e f = or_left (lex.is_plain_name name) (either lex.is_digits lex.is_quoted_name name) (plain_name name e)
    go false true e f = or_right (lex.is_plain_name name) (either lex.is_digits lex.is_quoted_name name) (or_left (lex.is_digits name) (lex.is_quoted_name name) (digit_name name f))
    go false false e f =
        or_right (lex.is_plain_name (quoted name)) (either lex.is_digits lex.is_quoted_name (quoted name))
        (or_right (lex.is_digits (quoted name)) (lex.is_quoted_name (quoted name)) (content_over ends [] name h refl))

pub label_writes : (name : List ℕ) → IsLocal name → can_write (Label name) ≡ true
unfolding local_text
label_writes name h = go (is_plain name) (is_digits name) refl refl
  where
    go : (x y : Bool) → is_plain name ≡ x → is_digits name ≡ y → spells kinds.Label (cond (x || y) name (quoted name) ++ 58 ∷ []) ≡ true
    go true y e f = or_left (lex.is_plain_label (name ++ 58 ∷ [])) (either lex.is_digit_label lex.is_quoted_label (name ++ 58 ∷ [])) (plain_label name e)
    go false true e f = or_right (lex.is_plain_label (name ++ 58 ∷ [])) (either lex.is_digit_label lex.is_quoted_label (name ++ 58 ∷ [])) (or_left (lex.is_digit_label (name ++ 58 ∷ [])) (lex.is_quoted_label (name ++ 58 ∷ [])) (digit_label name f))
    go false false e f =
        or_right (lex.is_plain_label (quoted name ++ 58 ∷ [])) (either lex.is_digit_label lex.is_quoted_label (quoted name ++ 58 ∷ []))
        (or_right (lex.is_digit_label (quoted name ++ 58 ∷ [])) (lex.is_quoted_label (quoted name ++ 58 ∷ []))
        (ap (one is_quotable (many is_quotable (byte 34 (byte 58 ends)))) (append_assoc name (34 ∷ []) (58 ∷ [])) ∙ content_over (byte 58 ends) (58 ∷ []) name h refl))

pub global_writes : (name : List ℕ) → IsGlobal name → can_write (Global name) ≡ true
unfolding global_text is_global_name
global_writes name h = go (is_plain name) refl (and_parts (is_local_name name) (not (list_all is_ascii_digit name)) h)
  where
    no_digits : (x : Bool) → not x ≡ true → x ≡ false
    no_digits true e = absurd (false≢true e)
    no_digits false e = refl

    go : (x : Bool) → is_plain name ≡ x → (is_local_name name ≡ true) × (not (list_all is_ascii_digit name) ≡ true) → spells kinds.Global (64 ∷ cond x name (quoted name)) ≡ true
    go true e parts = or_left (lex.is_plain_name name) (lex.is_quoted_symbol name) (plain_name name e)
    go false e parts = or_right (lex.is_plain_name (quoted name)) (lex.is_quoted_symbol (quoted name)) (symbol_over name (local_parts name parts.0) (no_digits (list_all is_ascii_digit name) parts.1))

-- # Byte strings

hex_table : agree_below (λ b. is_ascii_hexdigit (hex_digit (b / 16)) && is_ascii_hexdigit (hex_digit (b % 16))) (λ _. true) 256 ≡ true
hex_table = refl

escape_past : (b : ℕ) → 256 ≤ b → is_escaped b ≡ false
escape_past b h =
    let quote = ne_eqb b 34 (λ e. let same : b ≡ 34 = e in omega arith) in
    let slash = ne_eqb b 92 (λ e. let same : b ≡ 92 = e in omega arith) in
    none (ltb b 32) (eqb b 34) (eqb b 92) (leb 127 b) (leb b 255) (le-ltb b 32 (omega arith)) quote slash (lt-leb b 255 (omega arith))
  where
    none : (p q r s t : Bool) → p ≡ false → q ≡ false → r ≡ false → t ≡ false → (p || (q || (r || (s && t)))) ≡ false
    none true q r s t e f g h = e
    none false true r s t e f g h = f
    none false false true s t e f g h = g
    none false false false true t e f g h = h
    none false false false false t e f g h = refl

escape_below : (b : ℕ) → is_escaped b ≡ true → b < 256
escape_below b h = elim (cases_lt b 256) [ inl lt ↦ lt | inr ge ↦ absurd (false≢true (sym (escape_past b ge) ∙ h)) ]

shown_parts : (b : ℕ) → is_escaped b ≡ false → (eqb b 34 ≡ false) × (eqb b 92 ≡ false) × (is_string_byte b ≡ true)
unfolding is_string_byte
shown_parts b h =
    let low = or_parts (ltb b 32) (eqb b 34 || (eqb b 92 || (leb 127 b && leb b 255))) h in
    let quote = or_parts (eqb b 34) (eqb b 92 || (leb 127 b && leb b 255)) low.1 in
    let slash = or_parts (eqb b 92) (leb 127 b && leb b 255) quote.1 in
    let line : eqb b 10 ≡ false = ne_eqb b 10 (λ e. false≢true (sym low.0 ∙ ap (λ c. ltb c 32) e)) in
    (quote.0, slash.0, ap (λ x. not (x || eqb b 10)) quote.0 ∙ ap not line)

byte_over : (b : ℕ) (rest : List ℕ) → is_byte_content 0 (byte_text b ++ rest) ≡ is_byte_content 0 rest
unfolding byte_text escaped
byte_over b rest = go (is_escaped b) refl
  where
    digits : is_escaped b ≡ true → is_byte_content 2 (hex_digit (b / 16) ∷ hex_digit (b % 16) ∷ rest) ≡ is_byte_content 0 rest
    digits e =
        let parts = and_parts (is_ascii_hexdigit (hex_digit (b / 16))) (is_ascii_hexdigit (hex_digit (b % 16))) (agree_below_at (λ c. is_ascii_hexdigit (hex_digit (c / 16)) && is_ascii_hexdigit (hex_digit (c % 16))) (λ _. true) 256 b hex_table (escape_below b e)) in
        ap (λ x. x && (is_ascii_hexdigit (hex_digit (b % 16)) && is_byte_content 0 rest)) parts.0 ∙ ap (λ x. x && is_byte_content 0 rest) parts.1

    shown : is_escaped b ≡ false → is_byte_content 0 (b ∷ rest) ≡ is_byte_content 0 rest
    shown e =
        let parts = shown_parts b e in
        ap (λ x. cond x (ends rest) (cond (eqb b 92) (is_byte_content 2 rest) (is_string_byte b && is_byte_content 0 rest))) parts.0
        ∙ ap (λ x. cond x (is_byte_content 2 rest) (is_string_byte b && is_byte_content 0 rest)) parts.1
        ∙ ap (λ x. x && is_byte_content 0 rest) parts.2

    go : (x : Bool) → is_escaped b ≡ x → is_byte_content 0 (cond x (92 ∷ hex_digit (b / 16) ∷ hex_digit (b % 16) ∷ []) (b ∷ []) ++ rest) ≡ is_byte_content 0 rest
    go true e = digits e
    go false e = shown e

content_writes : (bytes : List ℕ) → is_byte_content 0 (flat_map byte_text bytes ++ 34 ∷ []) ≡ true
content_writes [] = refl
content_writes (b ∷ bs) =
    ap (is_byte_content 0) (append_assoc (byte_text b) (flat_map byte_text bs) (34 ∷ [])) ∙ byte_over b (flat_map byte_text bs ++ 34 ∷ []) ∙ content_writes bs

pub bytes_write : (bytes : List ℕ) → can_write (Bytes bytes) ≡ true
bytes_write bytes = content_writes bytes
