-- What is spelled is what is read by looking ahead: a line that begins with a colon is no name, and digits alone are none.
use Rattle.std.proofs.Common.{◌≡◌, ℕ, Bool, true, false, cond, not, nat_eq, ◌&&◌, List, [], ◌∷◌, map, Option, Some, None, refl, sym, ◌∙◌, ap, subst, inl, inr, arith}
use Rattle.std.proofs.lemmas.Bool.Decides.{nat_tests}
use Rattle.std.specs.Prelude.{codes, nat_le}
use Rattle.std.specs.List.{list_all}
use Rattle.std.specs.Char.{to_ascii_lowercase}
use Rattle.std.specs.Option.{option_and_then}
use Rattle.std.specs.Str.Parse.{digits_value}
use Rattle.ir_grammar.specs.Rules.{AreMany}
use Rattle.ir_grammar.specs.Words.{when, same}
use Rattle.prof_view.specs.Profile.{ProfileRecord, ProfileInput}
use Rattle.prof_view.specs.Lines.{Line, Lines, content}
use Rattle.prof_view.specs.Words.{all_digits, fits, numeral, number_within, begins_colon, is_name_byte, name_of, header_of}
use Rattle.prof_view.specs.Grammar.{next_is, any_line, header_line, name_line, number_line_within, head, kinds_most, value_data, values_ahead, record_ahead, header_ahead, mode_ahead, records_ahead, profile_ahead}
use Rattle.prof_view.specs.Spelled.{InTurn, SpellsSites, SpellsRecord, SpellsLines, Spells}

-- # Lines

when_true : {A : Type 0} (t : Bool) (x y : A) → when t x ≡ Some y → t ≡ true
when_true true x y e = refl
when_true false x y e = absurd (cc)

and_left : (a b : Bool) → (a && b) ≡ true → a ≡ true
and_left true b e = refl
and_left false b e = absurd (cc)

and_right : (a b : Bool) → (a && b) ≡ true → b ≡ true
and_right true b e = e
and_right false b e = absurd (cc)

not_is : (a : Bool) → not a ≡ true → a ≡ false
not_is true e = absurd (cc)
not_is false e = refl

name_tests : (line : Line) (name : List ℕ) → name_of line ≡ Some name → (all_digits 10 line ≡ false) × (begins_colon line ≡ false)
unfolding name_of
name_tests line name e =
    let tests = when_true (list_all is_name_byte line && not (all_digits 10 line) && not (begins_colon line)) line name e in
    (not_is _ (and_right (list_all is_name_byte line) _ (and_left _ (not (begins_colon line)) tests)), not_is _ (and_right _ _ tests))

number_digits : (line : Line) (n : ℕ) → numeral 10 line ≡ Some n → all_digits 10 line ≡ true
unfolding numeral
number_digits [] n e = absurd (cc)
number_digits (b ∷ bs) n e = and_left (all_digits 10 (b ∷ bs)) (fits (digits_value 10 (b ∷ bs))) (when_true _ (digits_value 10 (b ∷ bs)) n e)

within_digits : (least most : ℕ) (line : Line) (n : ℕ) → number_within least most line ≡ Some n → all_digits 10 line ≡ true
unfolding number_within
within_digits least most line n e = go (numeral 10 line) refl e
  where
    go : (o : Option ℕ) → numeral 10 line ≡ o → option_and_then (λ k. when (nat_le least k && nat_le k most) k) o ≡ Some n → all_digits 10 line ≡ true
    go None h k = absurd (cc)
    go (Some m) h k = number_digits line m h

lower_colon : (b : ℕ) → nat_eq (to_ascii_lowercase b) 58 ≡ true → nat_eq b 58 ≡ true
lower_colon b e = grind (arith, nat_tests)

same_colon : (line rest : List ℕ) → same (map to_ascii_lowercase line) (58 ∷ rest) ≡ true → begins_colon line ≡ true
same_colon [] rest e = absurd (cc)
same_colon (b ∷ bs) rest e = lower_colon b (and_left (nat_eq (to_ascii_lowercase b) 58) _ e)

header_colon : (line : Line) (flag : Bool) → header_of line ≡ Some flag → begins_colon line ≡ true
unfolding header_of
header_colon line flag e = first (same (map to_ascii_lowercase line) (codes ":ir")) refl e
  where
    first : (t : Bool) → same (map to_ascii_lowercase line) (codes ":ir") ≡ t → cond t (Some false) (when (same (map to_ascii_lowercase line) (codes ":entry_first")) true) ≡ Some flag → begins_colon line ≡ true
    first true h k = same_colon line _ h
    first false h k = same_colon line _ (when_true _ true flag k)

-- # The first line of a part

header_begins : (lines : Lines) (flag : Bool) (rest : Lines) → header_line.Spells lines flag rest → next_is begins_colon lines ≡ true
unfolding header_line
header_begins lines flag rest (t, e, f) = ap (next_is begins_colon) e ∙ header_colon t flag f

data_begins : (lines : Lines) (sites : List (List (List ℕ × ℕ))) (rest : Lines) → value_data.Spells lines sites rest → next_is (all_digits 10) lines ≡ true
unfolding value_data number_line_within
data_begins lines sites rest (n, middle, (t, e, f), more) = ap (next_is (all_digits 10)) e ∙ within_digits 1 kinds_most t n f

-- no record begins with a colon, or is digits alone in its first line
abbrev IsPlain : Lines → Type 0
IsPlain lines = (next_is begins_colon lines ≡ false) × (next_is (all_digits 10) lines ≡ false)

head_begins : (lines : Lines) (h : List ℕ × ℕ × List ℕ) (rest : Lines) → head.Spells lines h rest → (any_line lines ≡ true) × IsPlain lines
unfolding head name_line
head_begins lines h rest (name, middle, (t, e, f), more) =
    let (digits, colon) = name_tests t name f in
    (ap any_line e, (ap (next_is begins_colon) e ∙ colon, ap (next_is (all_digits 10)) e ∙ digits))

records_begin : (lines : Lines) (list : List ProfileRecord) → InTurn SpellsRecord lines list [] → IsPlain lines
records_begin lines [] h = subst IsPlain h (refl, refl)
records_begin lines (r ∷ rs) (middle, (more, first, sites), others) = (head_begins lines (r.name, r.hash, r.counters) more first).1

-- # What is spelled is read

values_read : (lines : Lines) (sites : List (List (List ℕ × ℕ))) (rest : Lines) → SpellsSites lines sites rest → IsPlain rest → values_ahead.Spells lines sites rest
unfolding values_ahead
values_read lines sites rest (inl h) plain = inl (data_begins lines sites rest h, h)
values_read lines sites rest (inr h) plain = inr (subst (λ ls. next_is (all_digits 10) ls ≡ false) h.1 plain.1, h)

record_read : (lines : Lines) (r : ProfileRecord) (rest : Lines) → SpellsRecord lines r rest → IsPlain rest → record_ahead.Spells lines r rest
unfolding record_ahead
record_read lines r rest (middle, first, sites) plain = ((r.name, r.hash, r.counters), middle, first, (r.sites, rest, values_read middle r.sites rest sites plain, (refl, refl)))

records_read : (lines : Lines) (list : List ProfileRecord) → InTurn SpellsRecord lines list [] → AreMany any_line record_ahead lines list []
records_read lines [] h = (ap any_line (sym h), h)
records_read lines (r ∷ rs) (middle, first, others) =
    ((head_begins lines (r.name, r.hash, r.counters) first.0 first.1).0, middle, record_read lines r middle first (records_begin middle rs others), records_read middle rs others)

header_read : (lines : Lines) (flags : List Bool) (rest : Lines) → InTurn header_line.Spells lines flags rest → next_is begins_colon rest ≡ false → AreMany (next_is begins_colon) header_line lines flags rest
header_read lines [] rest h plain = (subst (λ ls. next_is begins_colon ls ≡ false) h plain, h)
header_read lines (f ∷ fs) rest (middle, first, others) plain = (header_begins lines f middle first, middle, first, header_read middle fs rest others plain)

pub spelled_read : (lines : Lines) (p : ProfileInput) → SpellsLines lines p → profile_ahead.Spells lines p []
unfolding profile_ahead mode_ahead header_ahead records_ahead
spelled_read lines p h =
    let plain = (records_begin h.behind p.records h.records).0 in
    (p.entry_first, h.behind, (h.flags, h.behind, header_read lines h.flags h.behind h.header plain, (h.mode, refl)), (p.records, [], records_read h.behind p.records h.records, (refl, refl)))

-- # What is read is spelled

values_spelled : (lines : Lines) (sites : List (List (List ℕ × ℕ))) (rest : Lines) → values_ahead.Spells lines sites rest → SpellsSites lines sites rest
unfolding values_ahead
values_spelled lines sites rest (inl h) = inl h.1
values_spelled lines sites rest (inr h) = inr h.1

record_spelled : (lines : Lines) (r : ProfileRecord) (rest : Lines) → record_ahead.Spells lines r rest → SpellsRecord lines r rest
unfolding record_ahead
record_spelled lines r rest (h, middle, first, (sites, more, values, (e, f))) =
    let made : ProfileRecord = record { name = h.0; hash = h.1; counters = h.2; sites = sites } in
    let here : SpellsRecord lines made rest = (middle, first, subst (λ ls. SpellsSites middle sites ls) (sym f) (values_spelled middle sites more values)) in
    subst (λ q. SpellsRecord lines q rest) (sym e) here

no_line : (lines : Lines) → any_line lines ≡ false → lines ≡ []
no_line [] b = refl
no_line (line ∷ lines) b = absurd (cc)

records_spelled : (lines : Lines) (list : List ProfileRecord) (rest : Lines) → AreMany any_line record_ahead lines list rest → InTurn SpellsRecord lines list []
records_spelled lines [] rest h = sym (no_line lines h.0)
records_spelled lines (r ∷ rs) rest (b, middle, first, others) = (middle, record_spelled lines r middle first, records_spelled middle rs rest others)

header_spelled : (lines : Lines) (flags : List Bool) (rest : Lines) → AreMany (next_is begins_colon) header_line lines flags rest → InTurn header_line.Spells lines flags rest
header_spelled lines [] rest h = h.1
header_spelled lines (f ∷ fs) rest (b, middle, first, others) = (middle, first, header_spelled middle fs rest others)

pub read_spelled : (lines : Lines) (p : ProfileInput) (rest : Lines) → profile_ahead.Spells lines p rest → SpellsLines lines p
unfolding profile_ahead mode_ahead header_ahead records_ahead
read_spelled lines p rest (mode, behind, (flags, middle, header, (e, f)), (list, more, records, (g, k))) =
    let made : ProfileInput = record { entry_first = mode; records = list } in
    let here : SpellsLines lines made = record {
      flags = flags;
      behind = middle;
      header = header_spelled lines flags middle header;
      mode = e;
      records = subst (λ ls. InTurn SpellsRecord ls list []) f (records_spelled behind list more records);
    } in
    subst (SpellsLines lines) (sym g) here

-- # A text

pub text_read : (text : List ℕ) (p : ProfileInput) → Spells text p → profile_ahead.read (content text) ≡ Some (p, [])
text_read text p h = profile_ahead.complete (content text) p [] (spelled_read (content text) p h)

pub text_spelled : (text : List ℕ) (p : ProfileInput) → profile_ahead.read (content text) ≡ Some (p, []) → Spells text p
text_spelled text p e = read_spelled (content text) p [] (profile_ahead.sound (content text) p [] e)

pub nothing_spelled : (text : List ℕ) → profile_ahead.read (content text) ≡ None → (p : ProfileInput) → Spells text p → ⊥
nothing_spelled text e p h = let f = sym e ∙ text_read text p h in cc
