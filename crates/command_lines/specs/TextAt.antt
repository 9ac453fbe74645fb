-- The texts of a command by their places.
use Rattle.std.specs.Prelude.{◌≡◌, ◌<◌, ℕ, List, [], Some, Vec, length, slice_get, unwrap_or}
use Rattle.std.specs.Option.{option_map}
use Rattle.std.specs.declared.alloc.Global.{Global}
use Rattle.std.proofs.Common.{get_or, sym, ap, ◌∙◌}
use Rattle.std.proofs.lemmas.Option.{slice_get-get_or, slice_get-map}
use Rattle.pgo_shell.specs.Product.{bytes_of, bytes_of_all}

-- the text at a place, or none
abbrev pub text_at : List (List ℕ) → ℕ → List ℕ
text_at texts place = unwrap_or (slice_get texts place) []

-- the text that the code reads at a place
pub text_is : (texts : List (Vec ℕ Global)) (place : ℕ) (text : Vec ℕ Global) → place < length texts → text ≡ get_or texts place text →
    text_at (bytes_of_all texts) place ≡ text.items
text_is texts place text within is =
    ap (λ o. unwrap_or o [])
    (slice_get-map bytes_of texts place ∙ ap (option_map bytes_of) (slice_get-get_or texts place text within ∙ ap Some (sym is)))
