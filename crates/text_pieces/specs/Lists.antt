-- Items parted by commas, as pieces.
use Rattle.std.specs.Prelude.{◌≡◌, ℕ, suc, true, ◌+◌, ◌-◌, ◌<◌, ◌≤◌, cond, nat_lt, List, [], ◌∷◌, ◌++◌, length, drop}
use Rattle.std.proofs.Common.{refl, sym, ◌∙◌, ap, append_assoc, append-nil, get_or, arith, length-drop}
use Rattle.std.proofs.lemmas.Bool.{lt-ltb}
use Rattle.std.proofs.lemmas.List.{drop_more, drop_all}
use Rattle.text_pieces.specs.declared.stop.Stop.{Stop}
use Rattle.text_pieces.specs.declared.stop.Stop.TheVariants as stops
use Rattle.text_pieces.specs.Written.{stop_text}
use Rattle.text_pieces.specs.Pieces.{Piece, Alone, text_of, text_append}

-- what stands behind an item: a comma where more follow
abbrev pub stop_behind : {A : Type 0} → Stop → List A → Stop
stop_behind close [] = close
stop_behind close (x ∷ xs) = stops.Comma

-- each item with what stands behind it
abbrev pub items : {A : Type 0} → (A → Stop → List Piece) → Stop → List A → List Piece
items item close [] = []
items item close (x ∷ xs) = item x (stop_behind close xs) ++ items item close xs

-- the items of a list, of which there may be none, and what closes it
abbrev pub parted : {A : Type 0} → (A → Stop → List Piece) → Stop → List A → List Piece
parted item close [] = Alone close ∷ []
parted item close (x ∷ xs) = items item close (x ∷ xs)

-- what stands behind the item at a place
abbrev pub stop_at : ℕ → ℕ → Stop → Stop
stop_at place count close = cond (nat_lt (place + 1) count) stops.Comma close

-- # A loop over the items

more_than_none : (n : ℕ) → nat_lt 0 (suc n) ≡ true
more_than_none n = lt-ltb 0 (suc n) (omega arith)

behind_left : {A : Type 0} (close : Stop) (xs : List A) → stop_behind close xs ≡ cond (nat_lt 0 (length xs)) stops.Comma close
behind_left close [] = refl
behind_left close (x ∷ xs) = sym (ap (λ b. cond b stops.Comma close) (more_than_none (length xs)))

left_after : (place count left : ℕ) → left ≡ count - (place + 1) → nat_lt 0 left ≡ nat_lt (place + 1) count
left_after place count left e = grind (arith, e)

stop_left : {A : Type 0} (close : Stop) (xs : List A) (i : ℕ) → stop_at i (length xs) close ≡ stop_behind close (drop (i + 1) xs)
stop_left close xs i =
    sym (behind_left close (drop (i + 1) xs)
    ∙ ap (λ b. cond b stops.Comma close) (left_after i (length xs) (length (drop (i + 1) xs)) (length-drop (i + 1) xs)))

-- the item at a place is put behind a text, before those that are left
pub item_pushed : {A : Type 0} (item : A → Stop → List Piece) (close : Stop) (xs : List A) (i : ℕ) (x d : A) (stop : Stop) (old new all : List ℕ) → i < length xs → x ≡ get_or xs i d → stop ≡ stop_at i (length xs) close → new ≡ old ++ text_of (item x stop) → old ++ text_of (items item close (drop i xs)) ≡ all → new ++ text_of (items item close (drop (i + 1) xs)) ≡ all
item_pushed item close xs i x d stop old new all below at behind pushed e =
    let left = drop (i + 1) xs in
    let parts : drop i xs ≡ x ∷ left = drop_more xs i d below ∙ ap (λ y. y ∷ left) (sym at) in
    let put : text_of (items item close (drop i xs)) ≡ text_of (item x stop) ++ text_of (items item close left) =
    ap (λ ys. text_of (items item close ys)) parts
    ∙ text_append (item x (stop_behind close left)) (items item close left)
    ∙ ap (λ s. text_of (item x s) ++ text_of (items item close left)) (sym (behind ∙ stop_left close xs i)) in
    ap (λ us. us ++ text_of (items item close left)) pushed
    ∙ append_assoc old (text_of (item x stop)) (text_of (items item close left))
    ∙ ap (λ us. old ++ us) (sym put) ∙ e

-- behind the last item
pub items_pushed : {A : Type 0} (item : A → Stop → List Piece) (close : Stop) (xs : List A) (i : ℕ) (old all : List ℕ) → length xs ≤ i → old ++ text_of (items item close (drop i xs)) ≡ all → old ≡ all
items_pushed item close xs i old all past e =
    sym (append-nil old) ∙ ap (λ ys. old ++ text_of (items item close ys)) (sym (drop_all i xs past)) ∙ e
