-- One more word of clap's walk, by what the word is and what waits.
use Rattle.std.proofs.Common.{◌≡◌, ℕ, ◌==◌, ◌&&◌, Bool, cond, true, false, zero, suc, List, [], ◌∷◌, ◌++◌, Option, Some, None, refl, sym, ap, ◌∙◌}
use Rattle.std.specs.List.{fold}
use Rattle.std.specs.Option.{option_map}
use Rattle.std.specs.Prelude.{if◌then◌else◌, slice_get}
use Rattle.std.specs.Str.{bytes_eq, chars}
use Rattle.clap.specs.Lexer.{long_of, short_of}
use Rattle.clap.specs.Walk.{Held, Row, Rule, Waiting, Walk, arg_by_id, arg_by_long, idle, option, positional, positional_held, settled_rows, walked}
use Rattle.clap.specs.Simple.{Shape}
use Rattle.clap.specs.Faults.{flags_fault, positional_fault, settle_fault, turn_fault, walk_fault}
use Rattle.clap.specs.Kinds.{Kinds, or_else}
use Rattle.pgo_words.specs.Parts.{Part, Text, file_key}
use Rattle.pgo_words.proofs.Rules.{Known, Wanted, add, bytes_same, file_built, file_by_index, known_option, none_by_short, option_built, rules, with_rules}
use Rattle.pgo_words.proofs.Views.{dashes}

abbrev pub line : Shape
line = with_rules rules

-- ---- where the walk stands

abbrev pub pend : Option Part → Option (Text × List Text)
pend None = None
pend (Some part) = Some (part.0, part.1 ∷ [])

abbrev pub held_at : List Row → Option Part → Held
held_at rows p = record { rows = rows; pending = pend p; skip = 0 }

abbrev pub free : Bool → Waiting
free true = positional
free false = idle

-- no option waits; the last part is yet to be added
abbrev pub at : List Row → Option Part → Bool → Bool → Walk
at rows p files trailing = record { held = held_at rows p; waiting = free files; position = 1; is_trailing = trailing; stopped = None }

-- an option waits for its value
abbrev pub held_for : List Row → Text → Held
held_for rows name = record { rows = rows; pending = Some (name, []); skip = 0 }

abbrev pub wait : List Row → Text → Bool → Walk
wait rows name trailing = record { held = held_for rows name; waiting = option name; position = 1; is_trailing = trailing; stopped = None }

-- the last part is added
abbrev pub after : Option Part → List Row → List Row
after None rows = rows
after (Some part) rows = add part.0 part.1 rows

abbrev pub IsKnown : Option Part → Type 0
IsKnown None = Unit {0}
IsKnown (Some part) = Known part.0

pub settles : (rows : List Row) (p : Option Part) → IsKnown p → settled_rows rules (pend p) rows ≡ after p rows
settles rows None known = refl
settles rows (Some part) known = rw known.found (known.uses part.1 rows)

pub settles_well : (rows : List Row) (p : Option Part) → IsKnown p → settle_fault rules false (held_at rows p) ≡ []
settles_well rows None known = refl
settles_well rows (Some part) known = rw known.found (known.passes part.1 rows)

-- some fault
abbrev pub IsRefusal : Kinds → Type 0
IsRefusal [] = ⊥
IsRefusal (k ∷ ks) = Unit {0}

pub lacks_value : (rows : List Row) (name : Text) → Wanted name → IsRefusal (settle_fault rules false (held_for rows name))
lacks_value rows name wanted = rw wanted.found tt

-- ---- a file

no_several : {X : Type 0} (b : Bool) (x y : X) → cond (b && false) x y ≡ y
no_several true x y = refl
no_several false x y = refl

goes_to_files : (rows : List Row) (p : Option Part) (word : Text) → IsKnown p → positional_held rules file_built word (held_at rows p) ≡ held_at (after p rows) (Some (file_key, word))
goes_to_files rows None word known = refl
goes_to_files rows (Some part) word known = rw (no_several, known.found, known.uses part.1 rows) refl

files_pass : (rows : List Row) (p : Option Part) → IsKnown p → positional_fault rules false file_built (held_at rows p) ≡ []
files_pass rows None known = refl
files_pass rows (Some part) known = rw no_several (settles_well rows (Some part) known)

-- the step of a walk: the fault of the word, and where the walk stands after it
abbrev pub Step : Walk → Text → Walk → Type 0
Step w word w' = (turn_fault line [] w word ≡ []) × (walked rules [] w word ≡ w')

abbrev pub Refusal : Walk → Text → Type 0
Refusal w word = IsRefusal (turn_fault line [] w word)

pub trailing_step : (rows : List Row) (p : Option Part) (files : Bool) (word : Text) → IsKnown p → Step (at rows p files true) word (at (after p rows) (Some (file_key, word)) true true)
unfolding walked
trailing_step rows p files word known =
    (rw file_by_index (files_pass rows p known), rw (file_by_index, goes_to_files rows p word known) refl)

pub file_step : (rows : List Row) (p : Option Part) (files : Bool) (word : Text) → IsKnown p → bytes_eq word dashes ≡ false → long_of word ≡ None → short_of word ≡ None →
    Step (at rows p files false) word (at (after p rows) (Some (file_key, word)) true false)
unfolding walked
file_step rows p true word known e1 e2 e3 =
    (rw (e1, e2, e3, file_by_index) (files_pass rows p known), rw (e1, e2, e3, file_by_index, goes_to_files rows p word known) refl)
file_step rows p false word known e1 e2 e3 =
    (rw (e1, e2, e3, file_by_index) (files_pass rows p known), rw (e1, e2, e3, file_by_index, goes_to_files rows p word known) refl)

-- ---- `--`

pub end_step : (rows : List Row) (p : Option Part) (files : Bool) (word : Text) → bytes_eq word dashes ≡ true → Step (at rows p files false) word (at rows p files true)
unfolding walked
end_step rows p true word e = (rw e refl, rw e refl)
end_step rows p false word e = (rw e refl, rw e refl)

pub end_wait_step : (rows : List Row) (name word : Text) → bytes_eq word dashes ≡ true → Step (wait rows name false) word (wait rows name true)
unfolding walked
end_wait_step rows name word e = (rw e refl, rw e refl)

-- ---- an option with its value in the word

pub gives_step : (rows : List Row) (p : Option Part) (files : Bool) (word name form value : Text) → IsKnown p → bytes_eq word dashes ≡ false → long_of word ≡ Some (name, Some value) →
    arg_by_long rules name ≡ Some (option_built form true) → Step (at rows p files false) word (at (add form value (after p rows)) None false false)
unfolding walked
gives_step rows p true word name form value known e1 e2 e3 =
    (rw (e1, e2, e3, settles_well rows p known) refl, rw (e1, e2, e3, settles rows p known) refl)
gives_step rows p false word name form value known e1 e2 e3 =
    (rw (e1, e2, e3, settles_well rows p known) refl, rw (e1, e2, e3, settles rows p known) refl)

pub flag_step : (rows : List Row) (p : Option Part) (files : Bool) (word name form : Text) → IsKnown p → bytes_eq word dashes ≡ false → long_of word ≡ Some (name, None) →
    arg_by_long rules name ≡ Some (option_built form false) → Step (at rows p files false) word (at (add form [] (after p rows)) None false false)
unfolding walked
flag_step rows p true word name form known e1 e2 e3 =
    (rw (e1, e2, e3, settles_well rows p known) refl, rw (e1, e2, e3, settles rows p known) refl)
flag_step rows p false word name form known e1 e2 e3 =
    (rw (e1, e2, e3, settles_well rows p known) refl, rw (e1, e2, e3, settles rows p known) refl)

-- ---- an option whose value is the next word

pub wants_step : (rows : List Row) (p : Option Part) (files : Bool) (word name form : Text) → IsKnown p → bytes_eq word dashes ≡ false → long_of word ≡ Some (name, None) →
    arg_by_long rules name ≡ Some (option_built form true) → Step (at rows p files false) word (wait (after p rows) form false)
unfolding walked
wants_step rows p true word name form known e1 e2 e3 =
    (rw (e1, e2, e3, settles_well rows p known) refl, rw (e1, e2, e3, settles rows p known) refl)
wants_step rows p false word name form known e1 e2 e3 =
    (rw (e1, e2, e3, settles_well rows p known) refl, rw (e1, e2, e3, settles rows p known) refl)

pub value_step : (rows : List Row) (name word : Text) → Wanted name → bytes_eq word dashes ≡ false → long_of word ≡ None → short_of word ≡ None →
    Step (wait rows name false) word (at rows (Some (name, word)) false false)
unfolding walked
value_step rows name word wanted e1 e2 e3 = (rw (e1, e2, e3) refl, rw (e1, e2, e3, wanted.found, bytes_same name) refl)

-- ---- what is refused

pub no_value_trailing : (rows : List Row) (name word : Text) → Wanted name → Refusal (wait rows name true) word
no_value_trailing rows name word wanted = rw (file_by_index, no_several, wanted.found) tt

pub unknown_refused : (rows : List Row) (p : Option Part) (files : Bool) (word name : Text) (value : Option Text) → bytes_eq word dashes ≡ false →
    long_of word ≡ Some (name, value) → arg_by_long rules name ≡ None → Refusal (at rows p files false) word
unknown_refused rows p true word name value e1 e2 e3 = rw (e1, e2, e3) tt
unknown_refused rows p false word name value e1 e2 e3 = rw (e1, e2, e3) tt

pub flag_value_refused : (rows : List Row) (p : Option Part) (files : Bool) (word name form value : Text) → bytes_eq word dashes ≡ false →
    long_of word ≡ Some (name, Some value) → arg_by_long rules name ≡ Some (option_built form false) → Refusal (at rows p files false) word
flag_value_refused rows p true word name form value e1 e2 e3 = rw (e1, e2, e3) tt
flag_value_refused rows p false word name form value e1 e2 e3 = rw (e1, e2, e3) tt

pub short_refused : (rows : List Row) (p : Option Part) (files : Bool) (word : Text) (first c : ℕ) (rest : Text) → bytes_eq word dashes ≡ false →
    long_of word ≡ None → short_of word ≡ Some (c ∷ rest) → slice_get (chars (c ∷ rest)) 0 ≡ Some first → Refusal (at rows p files false) word
unfolding flags_fault
short_refused rows p true word first c rest e1 e2 e3 e4 = rw (e1, e2, e3, e4, none_by_short first) tt
short_refused rows p false word first c rest e1 e2 e3 e4 = rw (e1, e2, e3, e4, none_by_short first) tt

pub short_wait_refused : (rows : List Row) (name word : Text) (first c : ℕ) (rest : Text) → bytes_eq word dashes ≡ false →
    long_of word ≡ None → short_of word ≡ Some (c ∷ rest) → slice_get (chars (c ∷ rest)) 0 ≡ Some first → Refusal (wait rows name false) word
unfolding flags_fault
short_wait_refused rows name word first c rest e1 e2 e3 e4 = rw (e1, e2, e3, e4, none_by_short first) tt

-- any other option where one waits for its value
pub long_wait_refused : (rows : List Row) (waits : Text) (word name : Text) (value : Option Text) (found : Option (Text × Bool)) → Wanted waits → bytes_eq word dashes ≡ false →
    long_of word ≡ Some (name, value) → arg_by_long rules name ≡ option_map (λ (f : Text × Bool). option_built f.0 f.1) found → Refusal (wait rows waits false) word
long_wait_refused rows waits word name value None wanted e1 e2 e3 = rw (e1, e2, e3) tt
long_wait_refused rows waits word name (Some v) (Some (form, true)) wanted e1 e2 e3 = rw (e1, e2, e3, wanted.found) tt
long_wait_refused rows waits word name None (Some (form, true)) wanted e1 e2 e3 = rw (e1, e2, e3, wanted.found) tt
long_wait_refused rows waits word name (Some v) (Some (form, false)) wanted e1 e2 e3 = rw (e1, e2, e3) tt
long_wait_refused rows waits word name None (Some (form, false)) wanted e1 e2 e3 = rw (e1, e2, e3, wanted.found) tt
