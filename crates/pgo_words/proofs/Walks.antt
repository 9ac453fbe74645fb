-- Clap's walk over all the words gives their parts, and refuses exactly where there are none.
use Rattle.std.proofs.Common.{◌≡◌, ◌||◌, ℕ, Bool, cond, true, false, List, [], ◌∷◌, ◌++◌, map, Option, Some, None, refl, sym, ap, ap₂, ◌∙◌}
use Rattle.std.specs.List.{fold}
use Rattle.std.specs.Option.{is_some, option_map}
use Rattle.std.specs.Str.{IsUtf8, bytes_eq}
use Rattle.clap.specs.Lexer.{long_of}
use Rattle.clap.specs.Walk.{Held, Row, Rule, Walk, arg_by_long, has_row, nothing_held, rows_after, settled_rows, walked, with_default}
use Rattle.clap.specs.Simple.{App, entered, matches_of, names_of}
use Rattle.clap.specs.Faults.{built_fault, check_fault, default_fault, defaults_fault, entered_fault, fault_of, level_fault, settle_fault, turn_fault, walk_fault}
use Rattle.clap.specs.Kinds.{Kinds, or_else}
use Rattle.clap.specs.declared.error.kind.ErrorKind.{ErrorKind}
use Rattle.pgo_words.specs.CommandLine.{words_app}
use Rattle.pgo_words.specs.Parts.{Form, Part, Text, behind_dashes, file_key, file_part, form_named, forms, is_dashed, meaning_of, name_in, parts_of, parts_waiting, value_in, with_part}
use Rattle.pgo_words.proofs.Rules.{Known, Wanted, add, built_is, file_built, form_built, form_by_long, known_file, known_option, option_built, rules, wanted_form}
use Rattle.pgo_words.proofs.Rows.{adds}
use Rattle.pgo_words.proofs.Views.{View, FileWord, EndWord, ShortWord, LongWord, dashes, view}
use Rattle.pgo_words.proofs.Steps.{IsKnown, IsRefusal, Refusal, Step, after, at, end_step, end_wait_step, file_step, flag_step, flag_value_refused, gives_step, lacks_value, line, long_wait_refused, no_value_trailing, settles, settles_well, short_refused, short_wait_refused, trailing_step, unknown_refused, value_step, wait, wants_step}

-- ---- what a walk comes to

abbrev walk_on : Walk → List Text → Walk
walk_on w words = fold (walked rules []) w words

abbrev pub end_fault : Walk → List Text → Kinds
end_fault w words = or_else (walk_fault line [] w words) (settle_fault rules false (walk_on w words).held)

abbrev pub decide : Kinds → List Row → Option (List Row)
decide [] rows = Some rows
decide (k ∷ ks) rows = None

-- the rows at the end, where nothing was refused
abbrev pub outcome : Walk → List Text → Option (List Row)
outcome w words = decide (end_fault w words) (settled_rows rules (walk_on w words).held.pending (walk_on w words).held.rows)

step_on : (w w' : Walk) (word : Text) (words : List Text) → Step w word w' → outcome w (word ∷ words) ≡ outcome w' words
unfolding walk_fault
step_on w w' word words step =
    let from : Kinds → Walk → Option (List Row) = λ faults x. decide (or_else (or_else faults (walk_fault line [] x words)) (settle_fault rules false (walk_on x words).held))
    (settled_rows rules (walk_on x words).held.pending (walk_on x words).held.rows) in
    ap₂ from step.0 step.1

refused : (faults later last : Kinds) (rows : List Row) → IsRefusal faults → decide (or_else (or_else faults later) last) rows ≡ None
refused [] later last rows is = absurd is
refused (k ∷ ks) later last rows is = refl

refused_last : (faults : Kinds) (rows : List Row) → IsRefusal faults → decide faults rows ≡ None
refused_last [] rows is = absurd is
refused_last (k ∷ ks) rows is = refl

step_refused : (w : Walk) (word : Text) (words : List Text) → Refusal w word → outcome w (word ∷ words) ≡ None
unfolding walk_fault
step_refused w word words refusal = refused (turn_fault line [] w word) _ _ _ refusal

-- ---- the parts so far and those behind

abbrev adds_on : List Row → List Part → List Row
adds_on rows parts = adds parts rows

more_parts : (part : Part) (rows : List Row) (rest : Option (List Part)) → option_map (adds_on rows) (with_part part rest) ≡ option_map (adds_on (add part.0 part.1 rows)) rest
more_parts part rows None = refl
more_parts part rows (Some parts) = refl

-- ---- behind `--`

all_files : (words : List Text) (rows : List Row) (p : Option Part) (files : Bool) → IsKnown p →
    outcome (at rows p files true) words ≡ Some (adds (map file_part words) (after p rows))
unfolding walk_fault
all_files [] rows p files known = rw (settles_well rows p known, settles rows p known) refl
all_files (word ∷ words) rows p files known =
    step_on (at rows p files true) (at (after p rows) (Some (file_key, word)) true true) word words (trailing_step rows p files word known)
    ∙ all_files words (after p rows) (Some (file_key, word)) true known_file

no_value : (words : List Text) (rows : List Row) (name : Text) → Wanted name → outcome (wait rows name true) words ≡ None
unfolding walk_fault
no_value [] rows name wanted = refused_last _ _ (lacks_value rows name wanted)
no_value (word ∷ words) rows name wanted = step_refused (wait rows name true) word words (no_value_trailing rows name word wanted)

-- ---- the law

abbrev pub FreeLaw : List Text → Type 0
FreeLaw words = (rows : List Row) (p : Option Part) (files : Bool) → IsKnown p →
    outcome (at rows p files false) words ≡ option_map (adds_on (after p rows)) (parts_waiting None words)

abbrev pub WaitLaw : List Text → Type 0
WaitLaw words = (rows : List Row) (name : Text) → Wanted name →
    outcome (wait rows name false) words ≡ option_map (adds_on rows) (parts_waiting (Some name) words)

-- what `--NAME` or `--NAME=VALUE` is, by the option of its name and by its value
module _ (word rest : Text) (words : List Text) (dashed : is_dashed word ≡ true) (no_end : bytes_eq word dashes ≡ false)
    (long : long_of word ≡ Some (name_in rest, value_in rest)) (behind : behind_dashes word ≡ Some rest) where
  by_takes : (form : Form) (value : Option Text) (takes : Bool) → form_named (name_in rest) ≡ Some form → value_in rest ≡ value → form.takes_value ≡ takes →
      FreeLaw words → WaitLaw words → (rows : List Row) (p : Option Part) (files : Bool) → IsKnown p →
      outcome (at rows p files false) (word ∷ words) ≡ option_map (adds_on (after p rows)) (parts_waiting None (word ∷ words))
  by_takes form (Some value) true named has takes free waits rows p files known =
      let wanted : Wanted form.name = wanted_form form (name_in rest) named takes in
      let found : arg_by_long rules (name_in rest) ≡ Some (option_built form.name true) = rw takes at (form_by_long (name_in rest) ∙ ap (option_map form_built) named) in
      step_on (at rows p files false) (at (add form.name value (after p rows)) None false false) word words
      (gives_step rows p files word (name_in rest) form.name value known no_end (rw has at long) found)
      ∙ free (add form.name value (after p rows)) None false tt
      ∙ sym (rw (dashed, no_end, behind, named, takes, has) (more_parts (form.name, value) (after p rows) (parts_waiting None words)))
  by_takes form None true named has takes free waits rows p files known =
      let wanted : Wanted form.name = wanted_form form (name_in rest) named takes in
      let found : arg_by_long rules (name_in rest) ≡ Some (option_built form.name true) = rw takes at (form_by_long (name_in rest) ∙ ap (option_map form_built) named) in
      step_on (at rows p files false) (wait (after p rows) form.name false) word words
      (wants_step rows p files word (name_in rest) form.name known no_end (rw has at long) found)
      ∙ waits (after p rows) form.name wanted
      ∙ sym (rw (dashed, no_end, behind, named, takes, has) refl)
  by_takes form (Some value) false named has takes free waits rows p files known =
      let found : arg_by_long rules (name_in rest) ≡ Some (option_built form.name false) = rw takes at (form_by_long (name_in rest) ∙ ap (option_map form_built) named) in
      step_refused (at rows p files false) word words (flag_value_refused rows p files word (name_in rest) form.name value no_end (rw has at long) found)
      ∙ sym (rw (dashed, no_end, behind, named, takes, has) refl)
  by_takes form None false named has takes free waits rows p files known =
      let found : arg_by_long rules (name_in rest) ≡ Some (option_built form.name false) = rw takes at (form_by_long (name_in rest) ∙ ap (option_map form_built) named) in
      step_on (at rows p files false) (at (add form.name [] (after p rows)) None false false) word words
      (flag_step rows p files word (name_in rest) form.name known no_end (rw has at long) found)
      ∙ free (add form.name [] (after p rows)) None false tt
      ∙ sym (rw (dashed, no_end, behind, named, takes, has) (more_parts (form.name, []) (after p rows) (parts_waiting None words)))

  by_name : (form : Option Form) → form_named (name_in rest) ≡ form → FreeLaw words → WaitLaw words → (rows : List Row) (p : Option Part) (files : Bool) → IsKnown p →
      outcome (at rows p files false) (word ∷ words) ≡ option_map (adds_on (after p rows)) (parts_waiting None (word ∷ words))
  by_name (Some form) named free waits rows p files known = by_takes form (value_in rest) form.takes_value named refl refl free waits rows p files known
  by_name None named free waits rows p files known =
      step_refused (at rows p files false) word words
      (unknown_refused rows p files word (name_in rest) (value_in rest) no_end long (form_by_long (name_in rest) ∙ ap (option_map form_built) named))
      ∙ sym (rw (dashed, no_end, behind, named) refl)

free_step : (word : Text) (words : List Text) → View word → FreeLaw words → WaitLaw words → FreeLaw (word ∷ words)
free_step word words (FileWord plain e1 e2 e3) free waits rows p files known =
    step_on (at rows p files false) (at (after p rows) (Some (file_key, word)) true false) word words (file_step rows p files word known e1 e2 e3)
    ∙ free (after p rows) (Some (file_key, word)) true known_file
    ∙ sym (rw plain (more_parts (file_part word) (after p rows) (parts_waiting None words)))
free_step word words (EndWord dashed ends) free waits rows p files known =
    step_on (at rows p files false) (at rows p files true) word words (end_step rows p files word ends)
    ∙ all_files words rows p files known
    ∙ sym (rw (dashed, ends) refl)
free_step word words (ShortWord first c rest dashed e1 e2 e3 e4 behind) free waits rows p files known =
    step_refused (at rows p files false) word words (short_refused rows p files word first c rest e1 e2 e3 e4)
    ∙ sym (rw (dashed, e1, behind) refl)
free_step word words (LongWord rest dashed e1 e2 behind) free waits rows p files known =
    by_name word rest words dashed e1 e2 behind (form_named (name_in rest)) refl free waits rows p files known

wait_step : (word : Text) (words : List Text) → View word → FreeLaw words → WaitLaw (word ∷ words)
wait_step word words (FileWord plain e1 e2 e3) free rows name wanted =
    step_on (wait rows name false) (at rows (Some (name, word)) false false) word words (value_step rows name word wanted e1 e2 e3)
    ∙ free rows (Some (name, word)) false (known_option name wanted)
    ∙ sym (rw plain (more_parts (name, word) rows (parts_waiting None words)))
wait_step word words (EndWord dashed ends) free rows name wanted =
    step_on (wait rows name false) (wait rows name true) word words (end_wait_step rows name word ends)
    ∙ no_value words rows name wanted
    ∙ sym (rw dashed refl)
wait_step word words (ShortWord first c rest dashed e1 e2 e3 e4 behind) free rows name wanted =
    step_refused (wait rows name false) word words (short_wait_refused rows name word first c rest e1 e2 e3 e4)
    ∙ sym (rw dashed refl)
wait_step word words (LongWord rest dashed e1 e2 behind) free rows name wanted =
    step_refused (wait rows name false) word words
    (long_wait_refused rows name word (name_in rest) (value_in rest) (option_map (λ (f : Form). (f.name, f.takes_value)) (form_named (name_in rest))) wanted e1 e2
    (form_by_long (name_in rest) ∙ as_pair (form_named (name_in rest))))
    ∙ sym (rw dashed refl)
  where
    as_pair : (form : Option Form) → option_map form_built form ≡ option_map (λ (f : Text × Bool). option_built f.0 f.1) (option_map (λ (f : Form). (f.name, f.takes_value)) form)
    as_pair None = refl
    as_pair (Some form) = refl

-- each word is text
abbrev pub AreTexts : List Text → Type 0
AreTexts [] = Unit {0}
AreTexts (word ∷ words) = IsUtf8 word × AreTexts words

laws : (words : List Text) → AreTexts words → FreeLaw words × WaitLaw words
unfolding walk_fault
laws [] texts = (
  λ rows p files known. rw (settles_well rows p known, settles rows p known) refl,
  λ rows name wanted. refused_last _ _ (lacks_value rows name wanted),
)
laws (word ∷ words) texts =
    let later = laws words texts.1 in
    (free_step word words (view word texts.0) later.0 later.1, wait_step word words (view word texts.0) later.0)

-- ---- from clap's whole parse

abbrev start : Walk
start = at [] None false false

or_else_nil : (faults : Kinds) → or_else faults [] ≡ faults
or_else_nil [] = refl
or_else_nil (k ∷ ks) = refl

same_either : {X : Type 0} (b : Bool) (x : X) → cond b x x ≡ x
same_either true x = refl
same_either false x = refl

true_either : {X : Type 0} (b : Bool) (x y : X) → cond (b || true) x y ≡ x
true_either true x y = refl
true_either false x y = refl

file_default : (rows : List Row) → with_default rows file_built ≡ rows
file_default rows = same_either (has_row file_key rows) rows

form_default : (f : Form) (rows : List Row) → with_default rows (form_built f) ≡ rows
form_default f rows = same_either (has_row f.name rows) rows

forms_default : (fs : List Form) (rows : List Row) → fold with_default rows (map form_built fs) ≡ rows
forms_default [] rows = refl
forms_default (f ∷ fs) rows = ap (λ rs. fold with_default rs (map form_built fs)) (form_default f rows) ∙ forms_default fs rows

defaults_rows : (rows : List Row) → fold with_default rows rules ≡ rows
unfolding rules
defaults_rows rows = ap (λ rs. fold with_default rs (map form_built forms)) (file_default rows) ∙ forms_default forms rows

file_no_default : (rows : List Row) → default_fault rows file_built ≡ []
file_no_default rows = true_either (has_row file_key rows) _ _

form_no_default : (f : Form) (rows : List Row) → default_fault rows (form_built f) ≡ []
form_no_default f rows = true_either (has_row f.name rows) _ _

forms_no_default : (fs : List Form) (rows : List Row) → defaults_fault rows (map form_built fs) ≡ []
unfolding defaults_fault
forms_no_default [] rows = refl
forms_no_default (f ∷ fs) rows =
    ap₂ (λ ks rs. or_else ks (defaults_fault rs (map form_built fs))) (form_no_default f rows) (form_default f rows) ∙ forms_no_default fs rows

defaults_pass : (rows : List Row) → defaults_fault rows rules ≡ []
unfolding rules defaults_fault
defaults_pass rows =
    ap₂ (λ ks rs. or_else ks (defaults_fault rs (map form_built forms))) (file_no_default rows) (file_default rows) ∙ forms_no_default forms rows

checks_pass : (rows : List Row) → check_fault line rows false ≡ []
unfolding rules
checks_pass rows = refl

abbrev alone : App
alone = record { top = line; subs = [] }

none_entered : (stop : Option (Text × List Text)) → (entered alone stop ≡ None) × (entered_fault alone stop ≡ [])
none_entered None = (refl, refl)
none_entered (Some p) = (refl, refl)

pub full_fault : (words : List Text) → fault_of words_app words ≡ end_fault start words
full_fault words =
    let end : Held = (walk_on start words).held in
    let none = none_entered (walk_on start words).stopped in
    ap (λ (b : App). built_fault b nothing_held words) built_is
    ∙ ap₂ (λ o below. level_fault line [] nothing_held words (is_some o) below) none.0 none.1
    ∙ ap₂ (λ a b. or_else (walk_fault line [] start words) (or_else (settle_fault rules false end) (or_else a b)))
    (defaults_pass (settled_rows rules end.pending end.rows)) (checks_pass (fold with_default (settled_rows rules end.pending end.rows) rules))
    ∙ ap (or_else (walk_fault line [] start words)) (or_else_nil (settle_fault rules false end))

pub full_rows : (words : List Text) → matches_of words_app words ≡ settled_rows rules (walk_on start words).held.pending (walk_on start words).held.rows
full_rows words =
    ap (λ (b : App). rows_after b.top.rules (names_of b) words) built_is
    ∙ defaults_rows (settled_rows rules (walk_on start words).held.pending (walk_on start words).held.rows)

-- clap refuses exactly the words that have no parts, and its rows are those of the parts
pub parts_law : (words : List Text) → AreTexts words → decide (fault_of words_app words) (matches_of words_app words) ≡ option_map (adds_on []) (parts_of words)
parts_law words texts = ap₂ decide (full_fault words) (full_rows words) ∙ (laws words texts).0 [] None false tt

module _ (words : List Text) (texts : AreTexts words) where
  go_taken : (rows : List Row) (o : Option (List Part)) → Some rows ≡ option_map (adds_on []) o → (parts : List Part) × (o ≡ Some parts) × (rows ≡ adds parts [])
  go_taken rows None e = absurd (some_none rows e)
    where
      some_none : (rows : List Row) → Some rows ≡ None → ⊥
      some_none rows e = cc
  go_taken rows (Some parts) e = (parts, refl, some_inj rows (adds parts []) e)
    where
      some_inj : (a b : List Row) → Some a ≡ Some b → a ≡ b
      some_inj a b e = cc

  -- clap takes the words: they have parts
  pub words_taken : fault_of words_app words ≡ [] → (parts : List Part) × (parts_of words ≡ Some parts) × (matches_of words_app words ≡ adds parts [])
  words_taken none = go_taken (matches_of words_app words) (parts_of words) (ap (λ ks. decide ks (matches_of words_app words)) (sym none) ∙ parts_law words texts)

  go_refused : (faults : Kinds) (rows : List Row) (o : Option (List Part)) → IsRefusal faults → decide faults rows ≡ option_map (adds_on []) o → o ≡ None
  go_refused [] rows o is e = absurd is
  go_refused (k ∷ ks) rows None is e = refl
  go_refused (k ∷ ks) rows (Some parts) is e = absurd (none_some (adds parts []) e)
    where
      none_some : (rows : List Row) → None ≡ Some rows → ⊥
      none_some rows e = cc

  -- clap refuses them: they have none
  pub words_refused : IsRefusal (fault_of words_app words) → parts_of words ≡ None
  words_refused is = go_refused (fault_of words_app words) (matches_of words_app words) (parts_of words) is (parts_law words texts)
