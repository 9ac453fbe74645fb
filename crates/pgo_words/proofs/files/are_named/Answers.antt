-- The texts of the files, or the files themselves.
use Rattle.std.proofs.Common.{◌≡◌, ℕ, ◌&&◌, List, [], ◌∷◌, refl, ap, ◌∙◌}
use Rattle.std.specs.Borrow.{Bor}
use Rattle.std.specs.List.{list_all}
use Rattle.pgo_words.specs.Table.{is_named}
use Rattle.pgo_words.specs.Values.{texts_of}
use Rattle.pgo_words.proofs.files.are_named.Goals as goal

all_texts : (files : List (Bor (List ℕ))) → list_all (λ (file : Bor (List ℕ)). is_named file.now) files ≡ list_all is_named (texts_of files)
all_texts [] = refl
all_texts (file ∷ files) = ap (λ b. is_named file.now && b) (all_texts files)

pub returns : goal.returns
returns c = c.has_names.ensures ∙ all_texts c.args.files.now
