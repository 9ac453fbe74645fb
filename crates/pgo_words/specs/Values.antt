-- What the code's views of the words stand for.
use Rattle.std.specs.Prelude.{◌≡◌, ℕ, List, [], Some, map, codes, Option, option_map, unwrap_or}
use Rattle.std.specs.Borrow.{Bor}
use Rattle.clap.specs.Words.{matched_of, raw_values}
use Rattle.clap.specs.declared.parser.matches.Found.{Found}
use Rattle.pgo_words.specs.Parts.{Part, Text, file_key, parts_of, texts_under}
use Rattle.pgo_words.specs.Table.{Given, Settings}
use Rattle.pgo_words.specs.declared.given.Given.{Given as CodeGiven}
use Rattle.pgo_words.specs.declared.settings.Settings.{Settings as CodeSettings}

abbrev pub now_of : Bor Text → Text
now_of text = text.now

abbrev pub texts_of : List (Bor Text) → List Text
texts_of texts = map now_of texts

abbrev pub given_value : CodeGiven → Given
given_value given = record {
  files = texts_of given.files.items;
  steps = texts_of given.steps.items;
  workers = texts_of given.workers.items;
  profile = texts_of given.profile.items;
  entry_first = texts_of given.entry_first.items;
  places = texts_of given.places.items;
  room = texts_of given.room.items;
  peel = texts_of given.peel.items;
}

abbrev pub settings_value : CodeSettings → Settings
settings_value settings = record {
  steps = settings.steps;
  workers = settings.workers;
  profile = option_map now_of settings.profile;
  entry_first = settings.entry_first;
  places = settings.places;
  room = settings.room;
  peel = settings.peel;
}

-- the texts that clap found for an id
abbrev pub found_under : Found → Text → List Text
found_under found id = unwrap_or (option_map raw_values (matched_of found id)) []

abbrev pub given_in : Found → Given
given_in found = record {
  files = found_under found file_key;
  steps = found_under found (codes "steps");
  workers = found_under found (codes "workers");
  profile = found_under found (codes "profile");
  entry_first = found_under found (codes "entry-first");
  places = found_under found (codes "places");
  room = found_under found (codes "room");
  peel = found_under found (codes "peel");
}

-- several files as one value
abbrev pub pair_of : Text → List Text → Text × List Text
pair_of out inputs = (out, inputs)

abbrev pub two_of : Text → Text → Text × Text
two_of a b = (a, b)

abbrev pub three_of : Text → Text → Text → Text × Text × Text
three_of a b c = (a, b, c)

abbrev pub four_of : Text → Text → Text → Text → Text × Text × Text × Text
four_of a b c d = (a, b, c, d)

-- the words part, and clap found the texts of each key
pub record HasParts (words : List Text) (found : Found) : Type 0 where
  pub parts : List Part
  pub parted : parts_of words ≡ Some parts
  pub texts : (key : Text) → found_under found key ≡ texts_under key parts
