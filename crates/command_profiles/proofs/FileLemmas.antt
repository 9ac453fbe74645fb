-- Files with their texts, by their places.
use Rattle.std.proofs.Common.{◌≡◌, ℕ, suc, ◌+◌, ◌<◌, ◌≤◌, List, [], ◌∷◌, length, map, drop, get_or, sym, ap, ap₂, ◌∙◌, arith}
use Rattle.std.specs.Prelude.{String, Vec, zip}
use Rattle.std.specs.String.{string_bytes}
use Rattle.std.specs.declared.alloc.Global.{Global}
use Rattle.std.proofs.Math.ListN.{drop_of_length-le}
use Rattle.std.proofs.Math.Seq.{drop-cons}
use Rattle.std.proofs.lemmas.List.{get_or-map, length-map}
use Rattle.std.proofs.lemmas.Slice.Zip.{get_or-zip, length-zip}
use Rattle.pgo_shell.specs.Product.{bytes_of, bytes_of_all}

module _ (names : List (String Global)) (texts : List (Vec ℕ Global)) (same : length texts ≡ length names) where
  abbrev pub files : List (List ℕ × List ℕ)
  files = zip (map string_bytes names) (bytes_of_all texts)

  files_length : length files ≡ length names
  files_length = omega (arith, length-zip (map string_bytes names) (bytes_of_all texts), length-map names string_bytes, length-map texts bytes_of, same)

  item : (i : ℕ) (name : String Global) (text : Vec ℕ Global) → i < length names → name ≡ get_or names i name → text ≡ get_or texts i text → get_or files i (string_bytes name, text.items) ≡ (string_bytes name, text.items)
  item i name text low name_is text_is =
      let in_names : i < length (map string_bytes names) = omega (arith, length-map names string_bytes) in
      let in_texts : i < length (bytes_of_all texts) = omega (arith, length-map texts bytes_of, same) in
      let here : i < length texts = omega (arith, same) in
      get_or-zip (map string_bytes names) (bytes_of_all texts) i (string_bytes name, text.items) in_names in_texts
      ∙ ap₂ (λ (a b : List ℕ). (a, b)) (get_or-map string_bytes names i name (string_bytes name) low ∙ ap string_bytes (sym name_is)) (get_or-map bytes_of texts i text text.items here ∙ ap bytes_of (sym text_is))

  -- the file at a place, and those behind it
  pub file_at : (i : ℕ) (name : String Global) (text : Vec ℕ Global) → i < length names → name ≡ get_or names i name → text ≡ get_or texts i text → drop i files ≡ (string_bytes name, text.items) ∷ drop (i + 1) files
  file_at i name text low name_is text_is =
      let within : i < length files = omega (arith, files_length) in
      drop-cons files i (string_bytes name, text.items) within
      ∙ (ap (λ (a : List ℕ × List ℕ). a ∷ drop (suc i) files) (item i name text low name_is text_is) ∙ ap (λ (n : ℕ). (string_bytes name, text.items) ∷ drop n files) (one_more i))
    where
      one_more : (n : ℕ) → suc n ≡ n + 1
      one_more n = omega arith

  -- none stands behind the last
  pub no_file : (i : ℕ) → length names ≤ i → drop i files ≡ []
  no_file i past = let over : length files ≤ i = omega (arith, files_length) in drop_of_length-le files over
