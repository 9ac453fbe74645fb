-- The names of the tokens of a text are such as are spelled.
use Rattle.std.proofs.Common.{◌≡◌, ℕ, ◌-◌, ◌<◌, ◌≤◌, Bool, true, false, ◌&&◌, ◌||◌, not, cond, eqb, leb, List, [], ◌∷◌, ◌++◌, length, take, drop, refl, sym, ap, ◌∙◌, subst, inl, inr, arith, append_assoc, length-append}
use Rattle.std.specs.Char.{is_ascii_digit, is_ascii_alphabetic}
use Rattle.std.specs.Int.{is_in_range}
use Rattle.std.specs.List.{list_all}
use Rattle.std.proofs.Math.Seq.{take-append_seam}
use Rattle.std.proofs.lemmas.Bool.{false≢true, and_parts, agree_below, agree_below_at, cases_lt, lt-leb, ne_eqb, eqb-true}
use Rattle.std.proofs.lemmas.Bool.Decides.{nat_tests}
use Rattle.ir_tree.specs.Spelling.{is_word_first, is_name_first, is_name_byte, is_quotable, is_empty, is_local_name, is_global_name}
use Rattle.ir_lex.specs.Spelling as lex
use Rattle.ir_lex.specs.Spelling.{ends, one, byte, many, either, spells, after_gap}
use Rattle.ir_lex.specs.declared.token.TokenKind.{TokenKind}
use Rattle.ir_lex.specs.declared.token.TokenKind.TheVariants as kinds
use Rattle.ir_lex.specs.Tokens.{Token}
use Rattle.ir_lex.specs.Meaning.{between, unquoted, meaning, Lexes}
use Rattle.spellable.specs.Values.{IsLocal, IsGlobal}
use Rattle.spellable.specs.Lines.{IsRead, AllRead}

or_cases : {A : Type 0} (a b : Bool) → (a || b) ≡ true → (a ≡ true → A) → (b ≡ true → A) → A
or_cases true b h first second = first refl
or_cases false b h first second = second h

both : (a b : Bool) → a ≡ true → b ≡ true → (a && b) ≡ true
both a b e f = ap (λ x. x && b) e ∙ f

-- # Classes of bytes

or_none : (a b : Bool) → a ≡ false → b ≡ false → (a || b) ≡ false
or_none a b e f = ap (λ x. x || b) e ∙ f

range_past : (low high b : ℕ) → high < b → is_in_range low high b ≡ false
range_past low high b h = go (leb low b) (lt-leb b high h)
  where
    go : (x : Bool) → leb b high ≡ false → (x && leb b high) ≡ false
    go true e = e
    go false e = refl

equal_past : (b c : ℕ) → c < b → eqb b c ≡ false
equal_past b c h = ne_eqb b c (λ e. let same : b ≡ c = e in omega arith)

name_past : (b : ℕ) → 128 ≤ b → is_name_byte b ≡ false
unfolding is_name_byte is_name_first is_word_first
name_past b h =
    let letter = or_none (is_in_range 65 90 b) (is_in_range 97 122 b) (range_past 65 90 b (omega arith)) (range_past 97 122 b (omega arith)) in
    let mark = or_none (eqb b 36) (eqb b 46 || eqb b 95) (equal_past b 36 (omega arith)) (or_none (eqb b 46) (eqb b 95) (equal_past b 46 (omega arith)) (equal_past b 95 (omega arith))) in
    let word = or_none (is_ascii_alphabetic b) (eqb b 36 || (eqb b 46 || eqb b 95)) letter mark in
    let first = or_none (is_word_first b) (eqb b 45) word (equal_past b 45 (omega arith)) in
    or_none (is_name_first b) (is_ascii_digit b) first (range_past 48 57 b (omega arith))

name_below : (b : ℕ) → is_name_byte b ≡ true → b < 128
name_below b h = elim (cases_lt b 128) [ inl lt ↦ lt | inr ge ↦ absurd (false≢true (sym (name_past b ge) ∙ h)) ]

first_in_name : (b : ℕ) → is_name_first b ≡ true → is_name_byte b ≡ true
unfolding is_name_byte
first_in_name b h = ap (λ x. x || is_ascii_digit b) h

digit_in_name : (b : ℕ) → is_ascii_digit b ≡ true → is_name_byte b ≡ true
unfolding is_name_byte
digit_in_name b h = go (is_name_first b)
  where
    go : (x : Bool) → (x || is_ascii_digit b) ≡ true
    go true = refl
    go false = h

imply : (a b : Bool) → a ≡ true → (not a || b) ≡ true → b ≡ true
imply true b e h = h
imply false b e h = absurd (false≢true e)

quotable_table : agree_below (λ b. not (is_name_byte b) || is_quotable b) (λ _. true) 128 ≡ true
unfolding is_name_byte is_name_first is_word_first is_quotable
quotable_table = refl

name_quotable : (b : ℕ) → is_name_byte b ≡ true → is_quotable b ≡ true
name_quotable b h = imply (is_name_byte b) (is_quotable b) h (agree_below_at (λ c. not (is_name_byte c) || is_quotable c) (λ _. true) 128 b quotable_table (name_below b h))

no_quote_table : agree_below (λ b. not (is_name_byte b) || not (eqb b 34)) (λ _. true) 128 ≡ true
unfolding is_name_byte is_name_first is_word_first
no_quote_table = refl

not_true : (x : Bool) → not x ≡ true → x ≡ false
not_true true e = absurd (false≢true e)
not_true false e = refl

name_no_quote : (b : ℕ) → is_name_byte b ≡ true → eqb b 34 ≡ false
name_no_quote b h = not_true (eqb b 34) (imply (is_name_byte b) (not (eqb b 34)) h (agree_below_at (λ c. not (is_name_byte c) || not (eqb c 34)) (λ _. true) 128 b no_quote_table (name_below b h)))

first_digit_table : agree_below (λ b. not (is_name_first b) || not (is_ascii_digit b)) (λ _. true) 128 ≡ true
unfolding is_name_first is_word_first
first_digit_table = refl

first_no_digit : (b : ℕ) → is_name_first b ≡ true → is_ascii_digit b ≡ false
first_no_digit b h = not_true (is_ascii_digit b) (imply (is_name_first b) (not (is_ascii_digit b)) h (agree_below_at (λ c. not (is_name_first c) || not (is_ascii_digit c)) (λ _. true) 128 b first_digit_table (name_below b (first_in_name b h))))

-- # Runs of bytes

-- a run of a class up to a byte and what stands behind it
record IsRun (class : ℕ → Bool) (c : ℕ) (rest : List ℕ → Bool) (bs : List ℕ) : Type 0 where
  content : List ℕ
  behind : List ℕ
  same : bs ≡ content ++ c ∷ behind
  all : list_all class content ≡ true
  rests : rest behind ≡ true

run_parts : (class : ℕ → Bool) (c : ℕ) (rest : List ℕ → Bool) (bs : List ℕ) → many class (byte c rest) bs ≡ true → IsRun class c rest bs
run_parts class c rest [] h = absurd (false≢true h)
run_parts class c rest (b ∷ bs) h = go (run_parts class c rest bs) (class b) refl h
  where
    go : (many class (byte c rest) bs ≡ true → IsRun class c rest bs) → (x : Bool) → class b ≡ x → cond x (many class (byte c rest) bs) (eqb b c && rest bs) ≡ true → IsRun class c rest (b ∷ bs)
    go later true e k = let r = later k in record { content = b ∷ r.content; behind = r.behind; same = ap (λ cs. b ∷ cs) r.same; all = both (class b) (list_all class r.content) e r.all; rests = r.rests }
    go later false e k =
        let parts = and_parts (eqb b c) (rest bs) k in
        record { content = []; behind = bs; same = ap (λ d. d ∷ bs) (eqb-true b c parts.0); all = refl; rests = parts.1 }

run_all : (class : ℕ → Bool) (bs : List ℕ) → many class ends bs ≡ true → list_all class bs ≡ true
run_all class [] h = refl
run_all class (b ∷ bs) h = go (run_all class bs) (class b) refl h
  where
    go : (many class ends bs ≡ true → list_all class bs ≡ true) → (x : Bool) → class b ≡ x → cond x (many class ends bs) false ≡ true → (class b && list_all class bs) ≡ true
    go later true e k = both (class b) (list_all class bs) e (later k)
    go later false e k = absurd (false≢true k)

all_wider : (narrow wide : ℕ → Bool) → ((b : ℕ) → narrow b ≡ true → wide b ≡ true) → (bs : List ℕ) → list_all narrow bs ≡ true → list_all wide bs ≡ true
all_wider narrow wide sub [] h = refl
all_wider narrow wide sub (b ∷ bs) h =
    let parts = and_parts (narrow b) (list_all narrow bs) h in both (wide b) (list_all wide bs) (sub b parts.0) (all_wider narrow wide sub bs parts.1)

ended : (bs : List ℕ) → ends bs ≡ true → bs ≡ []
ended [] h = refl
ended (b ∷ bs) h = absurd (false≢true h)

-- # Names

cons_some : (b : ℕ) (bs : List ℕ) → is_empty (b ∷ bs) ≡ false
cons_some b bs = grind (arith, nat_tests)

quotable_local : (b : ℕ) (bs : List ℕ) → list_all is_quotable (b ∷ bs) ≡ true → IsLocal (b ∷ bs)
unfolding is_local_name
quotable_local b bs h = ap (λ x. not x && list_all is_quotable (b ∷ bs)) (cons_some b bs) ∙ h

-- a name without quotes
bare : (b : ℕ) (bs : List ℕ) → is_name_byte b ≡ true → list_all is_name_byte bs ≡ true → IsLocal (b ∷ bs)
bare b bs first rest = quotable_local b bs (both (is_quotable b) (list_all is_quotable bs) (name_quotable b first) (all_wider is_name_byte is_quotable name_quotable bs rest))

bare_same : (b : ℕ) (bs : List ℕ) → is_name_byte b ≡ true → unquoted (b ∷ bs) ≡ b ∷ bs
bare_same b bs h = ap (λ x. cond x (between (b ∷ bs)) (b ∷ bs)) (name_no_quote b h)

quoted_same : (s : List ℕ) → unquoted (34 ∷ (s ++ 34 ∷ [])) ≡ s
quoted_same s =
    let l = length-append s (34 ∷ []) in
    let e : length (34 ∷ (s ++ 34 ∷ [])) - 2 ≡ length s = omega arith in
    ap (λ n. take n (s ++ 34 ∷ [])) e ∙ take-append_seam s (34 ∷ [])

-- the content of quotes
quoted_local : (q : List ℕ) (rest : List ℕ → Bool) → one is_quotable (many is_quotable (byte 34 rest)) q ≡ true → (content : List ℕ) × (behind : List ℕ) × (q ≡ content ++ 34 ∷ behind) × IsLocal content × (rest behind ≡ true)
quoted_local [] rest h = absurd (false≢true h)
quoted_local (b ∷ bs) rest h =
    let parts = and_parts (is_quotable b) (many is_quotable (byte 34 rest) bs) h in
    let run = run_parts is_quotable 34 rest bs parts.1 in
    (b ∷ run.content, run.behind, ap (λ cs. b ∷ cs) run.same, quotable_local b run.content (both (is_quotable b) (list_all is_quotable run.content) parts.0 run.all), run.rests)

-- # Behind a percent sign

plain_local : (rest : List ℕ) → lex.is_plain_name rest ≡ true → IsLocal (unquoted rest)
plain_local [] h = absurd (false≢true h)
plain_local (b ∷ bs) h =
    let parts = and_parts (is_name_first b) (many is_name_byte ends bs) h in
    subst IsLocal (sym (bare_same b bs (first_in_name b parts.0))) (bare b bs (first_in_name b parts.0) (run_all is_name_byte bs parts.1))

digits_local : (rest : List ℕ) → lex.is_digits rest ≡ true → IsLocal (unquoted rest)
digits_local [] h = absurd (false≢true h)
digits_local (b ∷ bs) h =
    let parts = and_parts (is_ascii_digit b) (many is_ascii_digit ends bs) h in
    subst IsLocal (sym (bare_same b bs (digit_in_name b parts.0))) (bare b bs (digit_in_name b parts.0) (all_wider is_ascii_digit is_name_byte digit_in_name bs (run_all is_ascii_digit bs parts.1)))

quotes_local : (rest : List ℕ) → lex.is_quoted_name rest ≡ true → IsLocal (unquoted rest)
quotes_local [] h = absurd (false≢true h)
quotes_local (b ∷ q) h =
    let parts = and_parts (eqb b 34) (one is_quotable (many is_quotable (byte 34 ends)) q) h in
    let (content, behind, same, is, end) = quoted_local q ends parts.1 in
    subst IsLocal (sym (ap (λ c. unquoted (c ∷ q)) (eqb-true b 34 parts.0) ∙ ap (λ cs. unquoted (34 ∷ cs)) (same ∙ ap (λ cs. content ++ 34 ∷ cs) (ended behind end)) ∙ quoted_same content)) is

local_read : (bs : List ℕ) → spells kinds.Local bs ≡ true → IsLocal (unquoted (drop 1 bs))
local_read [] h = absurd (false≢true h)
local_read (b ∷ rest) h =
    let parts = and_parts (eqb b 37) (either lex.is_plain_name (either lex.is_digits lex.is_quoted_name) rest) h in
    or_cases (lex.is_plain_name rest) (either lex.is_digits lex.is_quoted_name rest) parts.1 (plain_local rest)
    (λ k. or_cases (lex.is_digits rest) (lex.is_quoted_name rest) k (digits_local rest) (quotes_local rest))

-- # Before a colon

without_last : (s : List ℕ) (c : ℕ) → take (length (s ++ c ∷ []) - 1) (s ++ c ∷ []) ≡ s
without_last s c =
    let l = length-append s (c ∷ []) in
    let e : length (s ++ c ∷ []) - 1 ≡ length s = omega arith in
    ap (λ n. take n (s ++ c ∷ [])) e ∙ take-append_seam s (c ∷ [])

label_is : (bs s : List ℕ) → bs ≡ s ++ 58 ∷ [] → IsLocal (unquoted s) → IsLocal (unquoted (take (length bs - 1) bs))
label_is bs s same is = subst (λ name. IsLocal (unquoted name)) (sym (ap (λ cs. take (length cs - 1) cs) same ∙ without_last s 58)) is

plain_label : (bs : List ℕ) → lex.is_plain_label bs ≡ true → IsLocal (unquoted (take (length bs - 1) bs))
plain_label [] h = absurd (false≢true h)
plain_label (b ∷ bs) h =
    let parts = and_parts (is_name_first b) (many is_name_byte (byte 58 ends) bs) h in
    let run = run_parts is_name_byte 58 ends bs parts.1 in
    label_is (b ∷ bs) (b ∷ run.content) (ap (λ cs. b ∷ cs) (run.same ∙ ap (λ cs. run.content ++ 58 ∷ cs) (ended run.behind run.rests)))
    (subst IsLocal (sym (bare_same b run.content (first_in_name b parts.0))) (bare b run.content (first_in_name b parts.0) run.all))

digit_label : (bs : List ℕ) → lex.is_digit_label bs ≡ true → IsLocal (unquoted (take (length bs - 1) bs))
digit_label [] h = absurd (false≢true h)
digit_label (b ∷ bs) h =
    let parts = and_parts (is_ascii_digit b) (many is_ascii_digit (byte 58 ends) bs) h in
    let run = run_parts is_ascii_digit 58 ends bs parts.1 in
    label_is (b ∷ bs) (b ∷ run.content) (ap (λ cs. b ∷ cs) (run.same ∙ ap (λ cs. run.content ++ 58 ∷ cs) (ended run.behind run.rests)))
    (subst IsLocal (sym (bare_same b run.content (digit_in_name b parts.0))) (bare b run.content (digit_in_name b parts.0) (all_wider is_ascii_digit is_name_byte digit_in_name run.content run.all)))

colon_ends : (bs : List ℕ) → byte 58 ends bs ≡ true → bs ≡ 58 ∷ []
colon_ends [] h = absurd (false≢true h)
colon_ends (b ∷ bs) h = let parts = and_parts (eqb b 58) (ends bs) h in ap (λ c. c ∷ bs) (eqb-true b 58 parts.0) ∙ ap (λ cs. 58 ∷ cs) (ended bs parts.1)

quoted_label : (bs : List ℕ) → lex.is_quoted_label bs ≡ true → IsLocal (unquoted (take (length bs - 1) bs))
quoted_label [] h = absurd (false≢true h)
quoted_label (b ∷ q) h =
    let parts = and_parts (eqb b 34) (one is_quotable (many is_quotable (byte 34 (byte 58 ends))) q) h in
    let (content, behind, same, is, end) = quoted_local q (byte 58 ends) parts.1 in
    label_is (b ∷ q) (34 ∷ (content ++ 34 ∷ []))
    (ap (λ c. c ∷ q) (eqb-true b 34 parts.0) ∙ ap (λ cs. 34 ∷ cs) (same ∙ ap (λ cs. content ++ 34 ∷ cs) (colon_ends behind end) ∙ sym (append_assoc content (34 ∷ []) (58 ∷ []))))
    (subst IsLocal (sym (quoted_same content)) is)

label_read : (bs : List ℕ) → spells kinds.Label bs ≡ true → IsLocal (unquoted (take (length bs - 1) bs))
label_read bs h =
    or_cases (lex.is_plain_label bs) (either lex.is_digit_label lex.is_quoted_label bs) h (plain_label bs)
    (λ k. or_cases (lex.is_digit_label bs) (lex.is_quoted_label bs) k (digit_label bs) (quoted_label bs))

-- # Behind an at sign

global_of : (name : List ℕ) → IsLocal name → list_all is_ascii_digit name ≡ false → IsGlobal name
unfolding is_global_name
global_of name h k = both (is_local_name name) (not (list_all is_ascii_digit name)) h (ap not k)

plain_global : (rest : List ℕ) → lex.is_plain_name rest ≡ true → IsGlobal (unquoted rest)
plain_global [] h = absurd (false≢true h)
plain_global (b ∷ bs) h =
    let parts = and_parts (is_name_first b) (many is_name_byte ends bs) h in
    subst IsGlobal (sym (bare_same b bs (first_in_name b parts.0)))
    (global_of (b ∷ bs) (bare b bs (first_in_name b parts.0) (run_all is_name_byte bs parts.1)) (ap (λ x. x && list_all is_ascii_digit bs) (first_no_digit b parts.0)))

digit_quotable : (b : ℕ) → is_ascii_digit b ≡ true → is_quotable b ≡ true
digit_quotable b h = name_quotable b (digit_in_name b h)

-- digits, and then a byte that is none
record IsSymbol (q : List ℕ) : Type 0 where
  content : List ℕ
  same : q ≡ content ++ 34 ∷ []
  some : is_empty content ≡ false
  all : list_all is_quotable content ≡ true
  not_digits : list_all is_ascii_digit content ≡ false

symbol_parts : (q : List ℕ) → many is_ascii_digit (one is_quotable (many is_quotable (byte 34 ends))) q ≡ true → IsSymbol q
symbol_parts [] h = absurd (false≢true h)
symbol_parts (b ∷ bs) h = go (symbol_parts bs) (is_ascii_digit b) refl h
  where
    go : (many is_ascii_digit (one is_quotable (many is_quotable (byte 34 ends))) bs ≡ true → IsSymbol bs) → (x : Bool) → is_ascii_digit b ≡ x → cond x (many is_ascii_digit (one is_quotable (many is_quotable (byte 34 ends))) bs) (is_quotable b && many is_quotable (byte 34 ends) bs) ≡ true → IsSymbol (b ∷ bs)
    go later true e k =
        let r = later k in
        record { content = b ∷ r.content; same = ap (λ cs. b ∷ cs) r.same; some = cons_some b r.content; all = both (is_quotable b) (list_all is_quotable r.content) (digit_quotable b e) r.all; not_digits = ap (λ x. x && list_all is_ascii_digit r.content) e ∙ r.not_digits }
    go later false e k =
        let parts = and_parts (is_quotable b) (many is_quotable (byte 34 ends) bs) k in
        let run = run_parts is_quotable 34 ends bs parts.1 in
        record { content = b ∷ run.content; same = ap (λ cs. b ∷ cs) (run.same ∙ ap (λ cs. run.content ++ 34 ∷ cs) (ended run.behind run.rests)); some = cons_some b run.content; all = both (is_quotable b) (list_all is_quotable run.content) parts.0 run.all; not_digits = ap (λ x. x && list_all is_ascii_digit run.content) e }

symbol_local : (q : List ℕ) (s : IsSymbol q) → IsLocal s.content
unfolding is_local_name
symbol_local q s = ap (λ x. not x && list_all is_quotable s.content) s.some ∙ s.all

symbol_global : (rest : List ℕ) → lex.is_quoted_symbol rest ≡ true → IsGlobal (unquoted rest)
symbol_global [] h = absurd (false≢true h)
symbol_global (b ∷ q) h =
    let parts = and_parts (eqb b 34) (many is_ascii_digit (one is_quotable (many is_quotable (byte 34 ends))) q) h in
    let s = symbol_parts q parts.1 in
    subst IsGlobal (sym (ap (λ c. unquoted (c ∷ q)) (eqb-true b 34 parts.0) ∙ ap (λ cs. unquoted (34 ∷ cs)) s.same ∙ quoted_same s.content))
    (global_of s.content (symbol_local q s) s.not_digits)

global_read : (bs : List ℕ) → spells kinds.Global bs ≡ true → IsGlobal (unquoted (drop 1 bs))
global_read [] h = absurd (false≢true h)
global_read (b ∷ rest) h =
    let parts = and_parts (eqb b 64) (either lex.is_plain_name lex.is_quoted_symbol rest) h in
    or_cases (lex.is_plain_name rest) (lex.is_quoted_symbol rest) parts.1 (plain_global rest) (symbol_global rest)

-- # Tokens

means_read : (kind : TokenKind) (bs : List ℕ) → spells kind bs ≡ true → IsRead (meaning kind bs)
means_read kinds.Word bs h = tt
means_read kinds.Number bs h = tt
means_read kinds.Global bs h = global_read bs h
means_read kinds.Local bs h = local_read bs h
means_read kinds.Label bs h = label_read bs h
means_read kinds.Str bs h = tt
means_read kinds.Bytes bs h = tt
means_read kinds.Group bs h = tt
means_read kinds.Mark bs h = tt
means_read kinds.Sign bs h = tt

pub lexes_read : (text : List ℕ) (ts : List Token) → Lexes text ts → AllRead ts
lexes_read text [] h = tt
lexes_read text (t ∷ ts) (kind, (n, (longest, same, more))) =
    (subst IsRead (sym same) (means_read kind (take n (after_gap false text)) longest.spelled), lexes_read (drop n (after_gap false text)) ts more)
