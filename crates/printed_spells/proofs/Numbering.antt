-- The nodes that are written have the notes of the module, each under its number.
use Rattle.std.proofs.Common.{◌≡◌, ℕ, suc, ◌+◌, ◌^◌, ◌<◌, ◌≤◌, Bool, true, false, ◌||◌, not, cond, List, [], ◌∷◌, length, map, refl, sym, ap, ◌∙◌, subst, arith}
use Rattle.std.specs.Prelude.{Some, None, is_some, nat_eq, nat_lt, filter, unwrap_or}
use Rattle.std.specs.List.{list_any, position_or_len}
use Rattle.std.specs.Cmp.Lexicographic.{same_text}
use Rattle.std.proofs.lemmas.Bool.{false≢true, ltb-true, lt-ltb, ne_eqb, eq-eqb}
use Rattle.std.proofs.lemmas.Bool.Decides.{nat_tests}
use Rattle.ir_tree.specs.Names.{same}
use Rattle.ir_tree.specs.declared.types.Prof.{Prof}
use Rattle.ir_grammar.specs.Notes.{Nodes, only, note_of}
use Rattle.canonical_text.specs.Notes.{note_text, place_of, number_of}
use Rattle.spellable.specs.Values.{Each}
use Rattle.spellable.specs.Instructions.{IsNote}
use Rattle.spellable.specs.Lines.{IsKept}

-- the nodes of these notes, from this number on
abbrev pub table : ℕ → List Prof → Nodes
table k [] = []
table k (p ∷ ps) = (k, Some p) ∷ table (suc k) ps

-- a note with this text is among these
abbrev pub is_among : List Prof → Prof → Bool
is_among list note = list_any (same (note_text note)) (map note_text list)

abbrev pub Has : List Prof → Prof → Type 0
Has list note = is_among list note ≡ true

-- # Places

abbrev place : (List ℕ → Bool) → List (List ℕ) → ℕ
place t xs = position_or_len t xs

none_below : (n : ℕ) → nat_lt 0 (suc n) ≡ true
none_below n = lt-ltb 0 (suc n) (omega arith)

one_more : (a b : ℕ) → nat_lt (1 + a) (suc b) ≡ nat_lt a b
one_more a b = grind (arith, nat_tests)

any_place : (t : List ℕ → Bool) (xs : List (List ℕ)) → nat_lt (place t xs) (length xs) ≡ list_any t xs
any_place t [] = refl
any_place t (x ∷ xs) = go (t x) (any_place t xs)
  where
    go : (b : Bool) → nat_lt (place t xs) (length xs) ≡ list_any t xs → nat_lt (cond (not b) (1 + place t xs) 0) (suc (length xs)) ≡ (b || list_any t xs)
    go true later = none_below (length xs)
    go false later = one_more (place t xs) (length xs) ∙ later

pub place_among : (list : List Prof) (note : Prof) → is_some (place_of list note) ≡ is_among list note
place_among list note = go (nat_lt (place t xs) (length xs)) ∙ any_place t xs
  where
    t : List ℕ → Bool
    t = same (note_text note)

    xs : List (List ℕ)
    xs = map note_text list

    go : (b : Bool) → is_some (cond b (Some (place t xs)) None) ≡ b
    go true = refl
    go false = refl

number_place : (list : List Prof) (note : Prof) → Has list note → number_of list note ≡ place (same (note_text note)) (map note_text list)
unfolding number_of
number_place list note h =
    ap (λ b. unwrap_or (cond b (Some (place (same (note_text note)) (map note_text list))) None) (length list)) (any_place (same (note_text note)) (map note_text list) ∙ h)

length_map : (list : List Prof) → length (map note_text list) ≡ length list
length_map [] = refl
length_map (p ∷ ps) = ap suc (length_map ps)

number_below : (list : List Prof) (note : Prof) → Has list note → number_of list note < length list
number_below list note h =
    let place_is = ltb-true (place (same (note_text note)) (map note_text list)) (length (map note_text list)) (any_place (same (note_text note)) (map note_text list) ∙ h) in
    subst (λ k. k < length list) (sym (number_place list note h)) (subst (λ n. place (same (note_text note)) (map note_text list) < n) (length_map list) place_is)

-- # Notes under numbers

none_before : (k n : ℕ) (list : List Prof) → n < k → filter (λ d. nat_eq d.0 n) (table k list) ≡ []
none_before k n [] h = refl
none_before k n (p ∷ ps) h =
    ap (λ b. cond b ((k, Some p) ∷ filter (λ d. nat_eq d.0 n) (table (suc k) ps)) (filter (λ d. nat_eq d.0 n) (table (suc k) ps))) (ne_eqb k n (λ e. let same_is : k ≡ n = e in omega arith))
    ∙ none_before (suc k) n ps (omega arith)

here : (k n : ℕ) (p : Prof) (ps : List Prof) → k ≡ n → note_of (table k (p ∷ ps)) n ≡ Some p
here k n p ps e =
    ap (λ b. only (map (λ d. d.1) (cond b ((k, Some p) ∷ filter (λ d. nat_eq d.0 n) (table (suc k) ps)) (filter (λ d. nat_eq d.0 n) (table (suc k) ps))))) (eq-eqb k n e)
    ∙ ap (λ ds. only (map (λ d. d.1) ((k, Some p) ∷ ds))) (none_before (suc k) n ps (omega arith))

later : (k n : ℕ) (p : Prof) (ps : List Prof) → k < n → note_of (table k (p ∷ ps)) n ≡ note_of (table (suc k) ps) n
later k n p ps h =
    ap (λ b. only (map (λ d. d.1) (cond b ((k, Some p) ∷ filter (λ d. nat_eq d.0 n) (table (suc k) ps)) (filter (λ d. nat_eq d.0 n) (table (suc k) ps))))) (ne_eqb k n (λ e. let same_is : k ≡ n = e in omega arith))

module _ (inject : (p q : Prof) → IsNote p → IsNote q → note_text p ≡ note_text q → p ≡ q) where
  note_under : (k : ℕ) (list : List Prof) (note : Prof) → Each IsNote list → IsNote note → Has list note → note_of (table k list) (k + place (same (note_text note)) (map note_text list)) ≡ Some note
  note_under k [] note hs h has = absurd (false≢true has)
  note_under k (p ∷ ps) note hs h has = go (same (note_text note) (note_text p)) refl has (note_under (suc k) ps note hs.1 h)
    where
      t : List ℕ → Bool
      t = same (note_text note)

      go : (b : Bool) → same (note_text note) (note_text p) ≡ b → (b || is_among ps note) ≡ true → (Has ps note → note_of (table (suc k) ps) (suc k + place (same (note_text note)) (map note_text ps)) ≡ Some note) → note_of (table k (p ∷ ps)) (k + cond (not b) (1 + place (same (note_text note)) (map note_text ps)) 0) ≡ Some note
      go true e k-is more = here k (k + 0) p ps (omega arith) ∙ ap Some (sym (inject note p h hs.0 (same_text (note_text note) (note_text p) (sym e))))
      go false e k-is more =
          later k (k + (1 + place (same (note_text note)) (map note_text ps))) p ps (omega arith)
          ∙ ap (λ n. note_of (table (suc k) ps) n) (omega arith)
          ∙ more k-is

  pub kept : (list : List Prof) (note : Prof) → Each IsNote list → length list ≤ 2 ^ 64 → IsNote note → Has list note → IsKept (table 0 list) list note
  kept list note hs few h has =
      let below = number_below list note has in
      record {
        number = let it : number_of list note < 2 ^ 64 = omega arith in it;
        node = ap (λ n. note_of (table 0 list) n) (number_place list note has ∙ let e : place (same (note_text note)) (map note_text list) ≡ 0 + place (same (note_text note)) (map note_text list) = omega arith in e) ∙ note_under 0 list note hs h has;
      }
