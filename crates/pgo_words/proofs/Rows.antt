-- The texts of a key in clap's rows, as values are added.
use Rattle.std.proofs.Common.{◌≡◌, ℕ, Bool, cond, true, false, List, [], ◌∷◌, ◌++◌, map, Option, Some, None, refl, sym, ap, ◌∙◌, append_assoc, append-nil, true≢false}
use Rattle.std.specs.List.{filter, find}
use Rattle.std.specs.Option.{option_map, unwrap_or}
use Rattle.std.specs.Str.{bytes_eq}
use Rattle.std.specs.Cmp.Lexicographic.{bytes_decides}
use Rattle.clap.specs.Walk.{Row, Text, all_of}
use Rattle.clap.specs.declared.builder.value_parser.Reading.TheVariants.{AsWritten}
use Rattle.clap.specs.declared.parser.matches.ValueSource.TheVariants.{CommandLine}
use Rattle.pgo_words.specs.Parts.{Part, texts_under}
use Rattle.pgo_words.proofs.Rules.{add}

-- the parts are added in order
abbrev pub adds : List Part → List Row → List Row
adds [] rows = rows
adds (part ∷ parts) rows = adds parts (add part.0 part.1 rows)

abbrev pub texts_at : Text → List Row → List Text
texts_at key rows = unwrap_or (all_of key rows) []

-- one value under its key, if it is this one
abbrev one_under : Bool → Text → List Text
one_under b value = cond b (value ∷ []) []

same_test : (a b key : Text) → bytes_eq a b ≡ true → bytes_eq a key ≡ bytes_eq b key
same_test a b key is = ap (λ x. bytes_eq x key) ((bytes_decides a b).0 is)

other_test : (a b key : Text) → bytes_eq a b ≡ false → bytes_eq a key ≡ true → bytes_eq b key ≡ false
other_test a b key differ is = go (bytes_eq b key) refl
  where
    go : (t : Bool) → bytes_eq b key ≡ t → t ≡ false
    go true same = absurd (true≢false (sym ((bytes_decides a b).1 ((bytes_decides a key).0 is ∙ sym ((bytes_decides b key).0 same))) ∙ differ))
    go false same = refl

pub texts_add : (key name value : Text) (rows : List Row) → texts_at key (add name value rows) ≡ texts_at key rows ++ one_under (bytes_eq name key) value
texts_add key name value [] = go (bytes_eq name key)
  where
    go : (b : Bool) → unwrap_or (option_map (λ (r : Row). r.values) (cond b (Some (record { id = name; values = value ∷ []; count = None; source = Some CommandLine; reading = AsWritten })) None)) [] ≡ [] ++ one_under b value
    go true = refl
    go false = refl
texts_add key name value (r ∷ rs) = go (bytes_eq r.id name) (bytes_eq r.id key) refl refl (texts_add key name value rs)
  where
    go : (a b : Bool) → bytes_eq r.id name ≡ a → bytes_eq r.id key ≡ b
        → texts_at key (add name value rs) ≡ texts_at key rs ++ one_under (bytes_eq name key) value
        → texts_at key (add name value (r ∷ rs)) ≡ texts_at key (r ∷ rs) ++ one_under (bytes_eq name key) value
    go true true is here later = rw (is, here, sym (same_test r.id name key is), here) refl
    go true false is here later = rw (is, here, sym (same_test r.id name key is), here) (sym (append-nil _))
    go false true is here later = rw (is, here, other_test r.id name key is here) (sym (append-nil _))
    go false false is here later = rw (is, here) later

pub texts_adds : (key : Text) (parts : List Part) (rows : List Row) → texts_at key (adds parts rows) ≡ texts_at key rows ++ texts_under key parts
texts_adds key [] rows = sym (append-nil (texts_at key rows))
texts_adds key (part ∷ parts) rows =
    texts_adds key parts (add part.0 part.1 rows)
    ∙ ap (λ xs. xs ++ texts_under key parts) (texts_add key part.0 part.1 rows)
    ∙ append_assoc (texts_at key rows) (one_under (bytes_eq part.0 key) part.1) (texts_under key parts)
    ∙ ap (λ xs. texts_at key rows ++ xs) (go (bytes_eq part.0 key) refl)
  where
    go : (b : Bool) → bytes_eq part.0 key ≡ b → one_under (bytes_eq part.0 key) part.1 ++ texts_under key parts ≡ texts_under key (part ∷ parts)
    go true is = rw is refl
    go false is = rw is refl
