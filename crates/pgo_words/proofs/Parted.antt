-- What clap answers, as the parts of the words.
use Rattle.std.proofs.Common.{◌≡◌, ◌⊎◌, ℕ, true, List, [], ◌∷◌, Some, None, refl, sym, ap, ◌∙◌, inl, inr, String}
use Rattle.std.specs.Option.{option_map, unwrap_or}
use Rattle.std.specs.declared.alloc.Global.{Global}
use Rattle.std.proofs.lemmas.Str.{IsUtf8-had}
use Rattle.clap.specs.Words.{App, HasKind, IsAmong, Kinds, fault_of, is_simple, is_simple_and_free, kind_of, matches_of, rows_of}
use Rattle.clap.proofs.WalkLemmas.{raw_values-rows}
use Rattle.clap.specs.declared.error.Error.{Error}
use Rattle.clap.specs.declared.error.kind.ErrorKind.{ErrorKind}
use Rattle.clap.specs.declared.error.kind.ErrorKind.TheVariants as kind
use Rattle.clap.specs.declared.parser.matches.Found.{Found}
use Rattle.pgo_words.specs.CommandLine.{words_app}
use Rattle.pgo_words.specs.Parts.{Text, parts_of}
use Rattle.pgo_words.specs.Plan.{words_of}
use Rattle.pgo_words.specs.Values.{HasParts}
use Rattle.pgo_words.proofs.Rows.{texts_adds, texts_at}
use Rattle.pgo_words.proofs.Steps.{IsRefusal}
use Rattle.pgo_words.proofs.Walks.{AreTexts, words_refused, words_taken}

pub are_texts : (words : List (String Global)) → AreTexts (words_of words)
are_texts [] = tt
are_texts (word ∷ words) = (IsUtf8-had _ word.ok, are_texts words)

pub line_is_simple : is_simple words_app ≡ true
line_is_simple = refl

pub line_is_free : is_simple_and_free words_app ≡ true
line_is_free = refl

pub has_parts : (words : List Text) (found : Found) (app : App) → AreTexts words → app ≡ words_app →
    rows_of found ≡ matches_of app words → fault_of app words ≡ [] → HasParts words found
has_parts words found app texts is rows none =
    let taken = words_taken words texts (ap (λ a. fault_of a words) (sym is) ∙ none) in
    record {
      parts = taken.0;
      parted = taken.1;
      texts = λ key. ap (λ o. unwrap_or o []) (raw_values-rows found key)
          ∙ ap (texts_at key) (rows ∙ ap (λ a. matches_of a words) is ∙ taken.2)
          ∙ texts_adds key taken.0 [];
    }

some_kind : (k : ErrorKind) (ks : Kinds) → IsAmong k ks → IsRefusal ks
some_kind k [] is = absurd is
some_kind k (x ∷ xs) is = tt

pub has_no_parts : (words : List Text) (e : Error) (app : App) → AreTexts words → app ≡ words_app →
    HasKind (fault_of app words) e → (kind_of e ≡ kind.OutOfMemory → ⊥) → parts_of words ≡ None
has_no_parts words e app texts is fails memory =
    elim fails [
      | inl out ↦ absurd (memory out)
      | inr among ↦ words_refused words texts (rw is at (some_kind (kind_of e) (fault_of app words) among))
    ]
