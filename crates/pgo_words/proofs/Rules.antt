-- The rules of the command line as clap builds them, and what it finds among them.
use Rattle.std.proofs.Common.{◌≡◌, ℕ, ◌==◌, ◌&&◌, ◌||◌, Bool, cond, true, false, not, nat_eq, List, [], ◌∷◌, map, Option, Some, None, refl, sym, ap, ◌∙◌, codes, true≢false}
use Rattle.std.specs.List.{find, list_all, list_any}
use Rattle.std.specs.Option.{is_some, option_map}
use Rattle.std.specs.Prelude.{if◌then◌else◌}
use Rattle.std.specs.Str.{bytes_eq}
use Rattle.std.specs.Cmp.Lexicographic.{bytes_decides}
use Rattle.clap.specs.Walk.{Row, Rule, Text, arg_by_id, arg_by_index, arg_by_long, arg_by_short, has_long, with_values, used}
use Rattle.clap.specs.Simple.{App, Shape, built, filled}
use Rattle.clap.specs.Faults.{use_fault}
use Rattle.clap.proofs.WalkLemmas.{find-map}
use Rattle.clap.specs.declared.builder.value_parser.Reading.TheVariants.{AsWritten}
use Rattle.clap.specs.declared.parser.matches.ValueSource.TheVariants.{CommandLine}
use Rattle.pgo_words.specs.Parts.{Form, file_key, form_named, forms}
use Rattle.pgo_words.specs.CommandLine.{file_rule, option_rule, words_app}

-- ---- the built rules

abbrev pub file_built : Rule
file_built = record (filled file_rule) { index = Some 1 }

abbrev pub option_built : List ℕ → Bool → Rule
option_built name takes = filled (option_rule name (cond takes 1 0))

abbrev pub form_built : Form → Rule
form_built form = option_built form.name form.takes_value

unfoldable pub rules : List Rule
rules = file_built ∷ map form_built forms

-- the built command line, but for its rules
abbrev pub with_rules : List Rule → Shape
with_rules xs = record (built words_app).top { rules = xs }

pub built_is : built words_app ≡ record { top = with_rules rules; subs = [] }
unfolding rules
built_is = refl

-- ---- searches

find_same : {X : Type 0} (p q : X → Bool) (xs : List X) → ((x : X) → p x ≡ q x) → find p xs ≡ find q xs
find_same p q [] same = refl
find_same p q (x ∷ xs) same = rw (same x) (ap (λ rest. cond (q x) (Some x) rest) (find_same p q xs same))

pub find_passes : {X : Type 0} (p : X → Bool) (xs : List X) (x : X) → find p xs ≡ Some x → p x ≡ true
find_passes p [] x e = absurd (none_some x e)
  where
    none_some : {X : Type 0} (x : X) → None ≡ Some x → ⊥
    none_some x e = cc
find_passes p (y ∷ ys) x e = go (p y) refl e (find_passes p ys x)
  where
    go : (b : Bool) → p y ≡ b → cond b (Some y) (find p ys) ≡ Some x → (find p ys ≡ Some x → p x ≡ true) → p x ≡ true
    go true is e later = let same : y ≡ x = cc in rw (sym same) is
    go false is e later = later e

pub find_among : {X : Type 0} (q p : X → Bool) (xs : List X) (x : X) → list_all q xs ≡ true → find p xs ≡ Some x → q x ≡ true
find_among q p [] x all e = absurd (none_some x e)
  where
    none_some : {X : Type 0} (x : X) → None ≡ Some x → ⊥
    none_some x e = cc
find_among q p (y ∷ ys) x all e = go (q y) (p y) refl all e (find_among q p ys x)
  where
    go : (a b : Bool) → q y ≡ a → a && list_all q ys ≡ true → cond b (Some y) (find p ys) ≡ Some x
        → (list_all q ys ≡ true → find p ys ≡ Some x → q x ≡ true) → q x ≡ true
    go true true is all e later = let same : y ≡ x = cc in rw (sym same) is
    go true false is all e later = later all e
    go false b is all e later = absurd (true≢false (sym all))

-- ---- what clap finds

pub file_by_index : arg_by_index rules 1 ≡ Some file_built
unfolding rules
file_by_index = refl

pub none_by_short : (x : ℕ) → arg_by_short rules x ≡ None
unfolding rules
none_by_short x = refl

pub file_by_id : arg_by_id rules file_key ≡ Some file_built
unfolding rules
file_by_id = refl

or_false : (b : Bool) → b || false ≡ b
or_false true = refl
or_false false = refl

pub form_by_long : (name : Text) → arg_by_long rules name ≡ option_map form_built (form_named name)
unfolding rules
form_by_long name =
    sym (find-map (λ (a : Rule). not (is_some a.index) && has_long a name) form_built forms)
    ∙ ap (option_map form_built) (find_same (λ (form : Form). bytes_eq form.name name || false) (λ (form : Form). bytes_eq form.name name) forms (λ form. or_false (bytes_eq form.name name)))

pub bytes_same : (a : Text) → bytes_eq a a ≡ true
bytes_same a = (bytes_decides a a).1 refl

pub no_file_form : (form : Form) (name : Text) → form_named name ≡ Some form → bytes_eq file_key form.name ≡ false
no_file_form form name e = flip (bytes_eq file_key form.name) (find_among (λ (f : Form). not (bytes_eq file_key f.name)) (λ (f : Form). bytes_eq f.name name) forms form refl e)
  where
    flip : (b : Bool) → not b ≡ true → b ≡ false
    flip true is = absurd (true≢false (sym is))
    flip false is = refl

pub form_is_named : (form : Form) (name : Text) → form_named name ≡ Some form → form.name ≡ name
form_is_named form name e = (bytes_decides form.name name).0 (find_passes (λ (f : Form). bytes_eq f.name name) forms form e)

pub form_by_id : (form : Form) (name : Text) → form_named name ≡ Some form → arg_by_id rules form.name ≡ Some (form_built form)
unfolding rules
form_by_id form name e =
    let named : form.name ≡ name = form_is_named form name e in
    let again : form_named form.name ≡ Some form = ap form_named named ∙ e in
    rw (no_file_form form name e) (sym (find-map (λ (a : Rule). bytes_eq a.id form.name) form_built forms) ∙ ap (option_map form_built) again)

-- ---- one use

-- a value is added to those of its key
abbrev pub add : Text → Text → List Row → List Row
add key value rows = with_values key AsWritten CommandLine (value ∷ []) rows

-- clap knows the key: a use with a value adds the value, and passes
pub record Known (key : Text) : Type 0 where
  pub rule : Rule
  pub found : arg_by_id rules key ≡ Some rule
  pub uses : (value : Text) (rows : List Row) → used rule (value ∷ []) rows ≡ add key value rows
  pub passes : (value : Text) (rows : List Row) → use_fault false rule (value ∷ []) rows ≡ []

pub known_file : Known file_key
known_file = record { rule = file_built; found = file_by_id; uses = λ value rows. refl; passes = λ value rows. refl }

-- an option that takes a value
pub record Wanted (name : Text) : Type 0 where
  pub found : arg_by_id rules name ≡ Some (option_built name true)

pub known_option : (name : Text) → Wanted name → Known name
known_option name wanted = record { rule = option_built name true; found = wanted.found; uses = λ value rows. refl; passes = λ value rows. refl }

pub wanted_form : (form : Form) (name : Text) → form_named name ≡ Some form → form.takes_value ≡ true → Wanted form.name
wanted_form form name e takes = record { found = rw takes at (form_by_id form name e) }
