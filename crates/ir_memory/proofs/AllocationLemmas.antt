-- Lists of allocations by rising number.
use Rattle.std.proofs.Common.{◌≡◌, ◌≢◌, ℕ, zero, suc, ◌+◌, ◌<◌, ◌≤◌, Bool, true, false, List, [], ◌∷◌, ◌++◌, length, get_or, set, take, filter, Some, None, refl, sym, ap, ◌∙◌, arith, eq-eqb, inl, inr, subst}
use Rattle.std.specs.Prelude.{nat_lt, ◌==◌, if◌then◌else◌}
use Rattle.std.specs.List.{AllWithin}
use Rattle.std.proofs.lemmas.Bool.{ne_eqb, false≢true, cases_eq, cases_lt}
use Rattle.std.proofs.lemmas.Bool.Decides.{nat_tests}
use Rattle.std.proofs.lemmas.Option.{same_Some}
use Rattle.ir_memory.specs.Cell.{Cell}
use Rattle.ir_memory.specs.Memory.{Allocation, found, with_cells}
use Rattle.ir_memory.specs.Sound.{Rises}

pub if_true : {X : Type 0} (b : Bool) (x y : X) → b ≡ true → (if b then x else y) ≡ x
if_true true x y e = refl
if_true false x y e = absurd (false≢true e)

pub if_false : {X : Type 0} (b : Bool) (x y : X) → b ≡ false → (if b then x else y) ≡ y
if_false true x y e = absurd (false≢true (sym e))
if_false false x y e = refl

lt-ltb : (a b : ℕ) → a < b → nat_lt a b ≡ true
lt-ltb a b h = grind (arith, nat_tests)

le-nltb : (a b : ℕ) → b ≤ a → nat_lt a b ≡ false
le-nltb a b h = grind (arith, nat_tests)

-- what is at or above `low`
pub number_above : (low : ℕ) (live : List Allocation) (next : ℕ) → Rises low live next
    → (i : ℕ) (d : Allocation) → i < length live → low ≤ (get_or live i d).number
number_above low [] next r i d h = absurd (omega arith)
number_above low (a ∷ live) next r zero d h = r.0
number_above low (a ∷ live) next r (suc i) d h =
    let t = number_above (suc a.number) live next r.1 i d (omega arith) in omega (arith, r.0, t)

pub Rises_low : (low : ℕ) (live : List Allocation) (next : ℕ) → Rises low live next → low ≤ next
Rises_low low [] next r = r
Rises_low low (a ∷ live) next r = let t = Rises_low (suc a.number) live next r.1 in omega (arith, r.0, t)

pub Rises-push : (low : ℕ) (live : List Allocation) (next : ℕ) (a : Allocation) → Rises low live next → a.number ≡ next
    → Rises low (live ++ a ∷ []) (next + 1)
Rises-push low [] next a r e = (omega arith, omega arith)
Rises-push low (b ∷ live) next a r e = (r.0, Rises-push (suc b.number) live next a r.1 e)

pub Rises-take : (low : ℕ) (live : List Allocation) (next : ℕ) (k : ℕ) → Rises low live next → Rises low (take k live) next
Rises-take low live next zero r = Rises_low low live next r
Rises-take low [] next (suc k) r = r
Rises-take low (a ∷ live) next (suc k) r = (r.0, Rises-take (suc a.number) live next k r.1)

pub Rises-set : (low : ℕ) (live : List Allocation) (next : ℕ) → Rises low live next
    → (i : ℕ) (a d : Allocation) → i < length live → a.number ≡ (get_or live i d).number → Rises low (set live i a) next
Rises-set low [] next r i a d h e = absurd (omega arith)
Rises-set low (b ∷ live) next r zero a d h e =
    let P : ℕ → Type 0 = λ n. (low ≤ n) × Rises (suc n) live next in subst P (sym e) r
Rises-set low (b ∷ live) next r (suc i) a d h e = (r.0, Rises-set (suc b.number) live next r.1 i a d (omega arith) e)

-- each allocation is found by its number
pub found_here : (low : ℕ) (live : List Allocation) (next : ℕ) → Rises low live next
    → (i : ℕ) (d : Allocation) → i < length live → found live (get_or live i d).number ≡ Some (get_or live i d)
found_here low [] next r i d h = absurd (omega arith)
found_here low (a ∷ live) next r zero d h = if_true (a.number == a.number) _ _ (eq-eqb a.number a.number refl)
found_here low (a ∷ live) next r (suc i) d h =
    let b = get_or live i d in
    let t : suc a.number ≤ b.number = number_above (suc a.number) live next r.1 i d (omega arith) in
    if_false (a.number == b.number) _ _ (ne_eqb a.number b.number (λ e. omega (arith, e, t)))
    ∙ found_here (suc a.number) live next r.1 i d (omega arith)

-- what is found has the number
pub found_number : (live : List Allocation) (number : ℕ) (a : Allocation) → found live number ≡ Some a → a.number ≡ number
found_number [] number a e = cc
found_number (b ∷ live) number a e = elim (cases_eq b.number number) [
  | inl p ↦ let q = if_true (b.number == number) (Some b) (found live number) (eq-eqb b.number number p) in
      let s : b ≡ a = same_Some b a (sym q ∙ e) in ap (λ (x : Allocation). x.number) (sym s) ∙ p
  | inr n ↦ let q = if_false (b.number == number) (Some b) (found live number) (ne_eqb b.number number n) in
      found_number live number a (sym q ∙ e)
]

-- to replace the cells of a number is to write its allocation
pub with_cells_here : (low : ℕ) (live : List Allocation) (next : ℕ) → Rises low live next
    → (i : ℕ) (d : Allocation) (cells : List Cell) → i < length live
    → with_cells live (get_or live i d).number cells ≡ set live i (record (get_or live i d) { cells = cells })
with_cells_here low [] next r i d cells h = absurd (omega arith)
with_cells_here low (a ∷ live) next r zero d cells h = if_true (a.number == a.number) _ _ (eq-eqb a.number a.number refl)
with_cells_here low (a ∷ live) next r (suc i) d cells h =
    let b = get_or live i d in
    let t : suc a.number ≤ b.number = number_above (suc a.number) live next r.1 i d (omega arith) in
    if_false (a.number == b.number) _ _ (ne_eqb a.number b.number (λ e. omega (arith, e, t)))
    ∙ ap (λ l. a ∷ l) (with_cells_here (suc a.number) live next r.1 i d cells (omega arith))

-- the number is then found with these cells, and any other as before
pub found-with_cells_same : (live : List Allocation) (number : ℕ) (cells : List Cell) (a : Allocation) → found live number ≡ Some a
    → found (with_cells live number cells) number ≡ Some (record a { cells = cells })
found-with_cells_same [] number cells a e = cc
found-with_cells_same (b ∷ live) number cells a e = elim (cases_eq b.number number) [
  | inl p ↦
      let t = eq-eqb b.number number p in
      let q = if_true (b.number == number) (Some b) (found live number) t in
      let s : b ≡ a = same_Some b a (sym q ∙ e) in
      let c : Allocation = record b { cells = cells } in
      ap (λ l. found l number) (if_true (b.number == number) (c ∷ live) (b ∷ with_cells live number cells) t)
      ∙ if_true (b.number == number) (Some c) (found live number) t
      ∙ ap (λ (x : Allocation). Some (record x { cells = cells })) s
  | inr n ↦
      let t = ne_eqb b.number number n in
      let q = if_false (b.number == number) (Some b) (found live number) t in
      let c : Allocation = record b { cells = cells } in
      ap (λ l. found l number) (if_false (b.number == number) (c ∷ live) (b ∷ with_cells live number cells) t)
      ∙ if_false (b.number == number) (Some b) (found (with_cells live number cells) number) t
      ∙ found-with_cells_same live number cells a (sym q ∙ e)
]

pub found-with_cells_other : (live : List Allocation) (number : ℕ) (cells : List Cell) (i : ℕ) → i ≢ number
    → found (with_cells live number cells) i ≡ found live i
found-with_cells_other [] number cells i ne = refl
found-with_cells_other (b ∷ live) number cells i ne = elim (cases_eq b.number number) [
  | inl p ↦
      let t = eq-eqb b.number number p in
      let u : (b.number == i) ≡ false = ne_eqb b.number i (λ e. ne (sym e ∙ p)) in
      let c : Allocation = record b { cells = cells } in
      ap (λ l. found l i) (if_true (b.number == number) (c ∷ live) (b ∷ with_cells live number cells) t)
      ∙ if_false (b.number == i) (Some c) (found live i) u ∙ sym (if_false (b.number == i) (Some b) (found live i) u)
  | inr n ↦
      let t = ne_eqb b.number number n in
      let c : Allocation = record b { cells = cells } in
      ap (λ l. found l i) (if_false (b.number == number) (c ∷ live) (b ∷ with_cells live number cells) t)
      ∙ ap (λ o. if b.number == i then Some b else o) (found-with_cells_other live number cells i ne)
]

-- a filter that passes the first k elements and no other takes them
pub filter_front : {X : Type 0} (p : X → Bool) (xs : List X) (k : ℕ) → AllWithin (λ x. p x ≡ true) xs 0 k
    → AllWithin (λ x. p x ≡ false) xs k (length xs) → filter p xs ≡ take k xs
filter_front p [] zero yes_ no_ = refl
filter_front p [] (suc k) yes_ no_ = refl
filter_front p (x ∷ xs) zero yes_ no_ =
    if_false (p x) _ _ (no_ 0 x (omega arith) (omega arith))
    ∙ filter_front p xs zero (λ i d h k. absurd (omega arith)) (λ i d h k. no_ (suc i) d (omega arith) (omega arith))
filter_front p (x ∷ xs) (suc k) yes_ no_ =
    if_true (p x) _ _ (yes_ 0 x (omega arith) (omega arith))
    ∙ ap (λ l. x ∷ l) (filter_front p xs k (λ i d h j. yes_ (suc i) d (omega arith) (omega arith)) (λ i d h j. no_ (suc i) d (omega arith) (omega arith)))

-- no live allocation has the next number
pub next_not_found : (low : ℕ) (live : List Allocation) (next : ℕ) → Rises low live next → found live next ≡ None
next_not_found low [] next r = refl
next_not_found low (a ∷ live) next r =
    let t = Rises_low (suc a.number) live next r.1 in
    if_false (a.number == next) _ _ (ne_eqb a.number next (λ e. omega (arith, e, t))) ∙ next_not_found (suc a.number) live next r.1

-- what is found among the allocations below a number
pub found-filter_above : (live : List Allocation) (number i : ℕ) → number ≤ i → found (filter (λ (a : Allocation). nat_lt a.number number) live) i ≡ None
found-filter_above [] number i h = refl
found-filter_above (a ∷ live) number i h = elim (cases_lt a.number number) [
  | inl p ↦
      let t = lt-ltb a.number number p in
      ap (λ l. found l i) (if_true (nat_lt a.number number) (a ∷ filter (λ (a : Allocation). nat_lt a.number number) live) _ t)
      ∙ if_false (a.number == i) _ _ (ne_eqb a.number i (λ e. omega (arith, e)))
      ∙ found-filter_above live number i h
  | inr p ↦
      let t = le-nltb a.number number p in
      ap (λ l. found l i) (if_false (nat_lt a.number number) (a ∷ filter (λ (a : Allocation). nat_lt a.number number) live) _ t)
      ∙ found-filter_above live number i h
]

pub found-filter_below : (live : List Allocation) (number i : ℕ) → i < number
    → found (filter (λ (a : Allocation). nat_lt a.number number) live) i ≡ found live i
found-filter_below [] number i h = refl
found-filter_below (a ∷ live) number i h = elim (cases_lt a.number number) [
  | inl p ↦
      let t = lt-ltb a.number number p in
      ap (λ l. found l i) (if_true (nat_lt a.number number) (a ∷ filter (λ (a : Allocation). nat_lt a.number number) live) _ t)
      ∙ ap (λ o. if a.number == i then Some a else o) (found-filter_below live number i h)
  | inr p ↦
      let t = le-nltb a.number number p in
      ap (λ l. found l i) (if_false (nat_lt a.number number) (a ∷ filter (λ (a : Allocation). nat_lt a.number number) live) _ t)
      ∙ found-filter_below live number i h
      ∙ sym (if_false (a.number == i) (Some a) (found live i) (ne_eqb a.number i (λ e. omega (arith, e))))
]
