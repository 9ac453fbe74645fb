-- Names that are numbered one after another, and what a loop makes of a list, one item further.
use Rattle.std.proofs.Common.{◌≡◌, ℕ, ◌+◌, ◌<◌, ◌≤◌, Bool, cond, List, [], ◌∷◌, ◌++◌, length, map, take, get_or, Option, Some, None, refl, sym, ◌∙◌, ap, subst, zero, suc, true, false, arith}
use Rattle.std.specs.Prelude.{slice_get, flat_map, filter_map, unwrap_or}
use Rattle.std.specs.Option.{option_map}
use Rattle.std.specs.List.{cons_option}
use Rattle.std.proofs.lemmas.Grind.{flat_map-append}
use Rattle.std.proofs.lemmas.List.{append-nil, take_more, map-append}
use Rattle.std.proofs.lemmas.Option.{get_or_from_slice_get, slice_get_within}
use Rattle.std.proofs.lemmas.List.Elements.{filter_map-append}
use Rattle.ir_tree.specs.Names.{same, first_place, Indexes}
use Rattle.ir_tree.specs.Operands.{Entries, listed}
use Rattle.ir_tree.specs.Phis.{entry_for, value_for}
use Rattle.ir_tree.specs.declared.index.Index.{Index}
use Rattle.ir_tree.specs.declared.types.Operand.{Operand}
use Rattle.ir_code.specs.Names.{number_of, AreNumbered}
use Rattle.ir_code.specs.declared.names.Numbers.{Numbers}
use Rattle.ir_code.proofs.Places.{place_of, placed}

one_listed : {Y : Type 0} (o : Option Y) → cons_option o [] ≡ listed o
one_listed None = refl
one_listed (Some y) = refl

module _ {X : Type 0} (xs : List X) (i : ℕ) (x : X) (h : i < length xs) (is : x ≡ get_or xs i x) where
  pub next : take (i + 1) xs ≡ take i xs ++ x ∷ []
  next = take_more xs i x h ∙ ap (λ (y : X). take i xs ++ y ∷ []) (sym is)

  pub map_more : {Y : Type 0} (f : X → Y) → map f (take (i + 1) xs) ≡ map f (take i xs) ++ f x ∷ []
  map_more f = ap (λ (ys : List X). map f ys) next ∙ map-append f (take i xs) (x ∷ [])

  pub filter_more : {Y : Type 0} (f : X → Option Y) → filter_map f (take (i + 1) xs) ≡ filter_map f (take i xs) ++ listed (f x)
  filter_more {Y} f =
      ap (λ (ys : List X). filter_map f ys) next ∙ filter_map-append f (take i xs) (x ∷ []) ∙ ap (λ (ys : List Y). filter_map f (take i xs) ++ ys) (one_listed (f x))

  pub flat_more : {Y : Type 0} (f : X → List Y) → flat_map f (take (i + 1) xs) ≡ flat_map f (take i xs) ++ f x
  flat_more {Y} f =
      ap (λ (ys : List X). flat_map f ys) next ∙ flat_map-append f (take i xs) (x ∷ []) ∙ ap (λ (ys : List Y). flat_map f (take i xs) ++ ys) (append-nil (f x))

-- numbered names, under an equal list
pub numbered_as : (numbers : Numbers) (names others : List (List ℕ)) → names ≡ others → AreNumbered numbers names → AreNumbered numbers others
numbered_as numbers names others e h = subst (λ (ns : List (List ℕ)). AreNumbered numbers ns) e h

entry_if : (label : List ℕ) (e : Operand × List ℕ) (es : Entries) (b : Bool) → slice_get es (place_of (map (λ e. e.1) es) label) ≡ entry_for label es → slice_get (e ∷ es) (cond b 0 (suc (place_of (map (λ e. e.1) es) label))) ≡ cond b (Some e) (entry_for label es)
entry_if label e es true rec = refl
entry_if label e es false rec = rec

-- the entry that stands at the place of a label is the first for it
entry_at : (label : List ℕ) (es : Entries) → slice_get es (place_of (map (λ e. e.1) es) label) ≡ entry_for label es
entry_at label [] = refl
entry_at label (e ∷ es) = entry_if label e es (same label e.1) (entry_at label es)

-- what an index of the labels finds is the value of the first entry
pub value_found : (index : Index) (es : Entries) (label bytes : List ℕ) (found : Option ℕ) (count place : ℕ) (o : Option (Operand × List ℕ)) → Indexes index (map (λ e. e.1) es) → bytes ≡ label → found ≡ first_place index bytes → count ≡ length (map (λ (e : Operand × List ℕ). e.1) es) → place ≡ unwrap_or found count → o ≡ slice_get es place → option_map (λ e. e.0) o ≡ value_for label es
value_found index es label bytes found count place o has same_label found_is count_is place_is o_is =
    let labels : List (List ℕ) = map (λ e. e.1) es in
    let at : place ≡ place_of labels label =
    place_is ∙ (λ i. unwrap_or ((found_is ∙ has bytes) i) (count_is i)) ∙ ap (λ (x : List ℕ). number_of labels x) same_label ∙ (λ i. placed labels i label) in
    ap (λ (e : Option (Operand × List ℕ)). option_map (λ e. e.0) e) (o_is ∙ ap (λ (p : ℕ). slice_get es p) at ∙ entry_at label es)

-- the item at a place is made, too
pub made_more : {X Y : Type 0} (f : X → Y) (xs : List X) (i : ℕ) (x : X) (old new : List Y) (v : Y) → slice_get xs i ≡ Some x → old ≡ map f (take i xs) → v ≡ f x → new ≡ old ++ v ∷ [] → new ≡ map f (take (i + 1) xs)
made_more {X} {Y} f xs i x old new v there was made pushed =
    let at : x ≡ get_or xs i x = sym (get_or_from_slice_get xs i x x there) in
    pushed ∙ (λ j. was j ++ made j ∷ []) ∙ sym (map_more xs i x (slice_get_within xs i x there) at f)

-- no place below the length is empty
pub not_past : {X : Type 0} (xs : List X) (i : ℕ) → i < length xs → slice_get xs i ≡ None → ⊥
not_past [] i h e = omega arith
not_past (x ∷ xs) zero h e = cc
not_past (x ∷ xs) (suc i) h e = not_past xs i (omega arith) e

-- past the length there is no item
pub past_end : {X : Type 0} (xs : List X) (i : ℕ) → length xs ≤ i → None ≡ slice_get xs i
past_end [] i h = refl
past_end (x ∷ xs) zero h = absurd (omega arith)
past_end (x ∷ xs) (suc i) h = past_end xs i (omega arith)
