-- The command line by which clap parts the words: files, and each option of the program, all of them as often as they come.
use Rattle.std.specs.Prelude.{ℕ, true, false, List, [], ◌∷◌, map, codes, Some, if◌then◌else◌}
use Rattle.clap.specs.Words.{App, Rule, Shape, new_app, new_rule, with_rule}
use Rattle.clap.specs.Simple.{on_top}
use Rattle.clap.specs.declared.builder.action.ArgAction.TheVariants.{Append}
use Rattle.clap.specs.declared.builder.range.ValueRange.{ValueRange}
use Rattle.pgo_words.specs.Parts.{Form, Text, file_key, forms}

-- it has no word of its own in front, and no help or version
abbrev pub bare_app : App
bare_app = on_top (λ (s : Shape). record s { no_binary_name = true; disable_help_flag = true; disable_version_flag = true }) (new_app (codes "pgo"))

abbrev pub file_rule : Rule
file_rule = record (new_rule file_key) { action = Some Append }

-- an option with so many values, and the empty value where it has none
abbrev pub option_rule : Text → ℕ → Rule
option_rule name values = record (new_rule name) {
  long = Some name;
  action = Some Append;
  range = Some (record { start_inclusive = values; end_inclusive = values });
  missing = [] ∷ [];
}

abbrev pub with_forms : App → List Form → App
with_forms app [] = app
with_forms app (form ∷ rest) = with_forms (with_rule app (option_rule form.name (if form.takes_value then 1 else 0))) rest

abbrev pub words_app : App
words_app = with_forms (with_rule bare_app file_rule) forms
