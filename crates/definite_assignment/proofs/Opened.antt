-- Walks that avoid a bit are walks in the graph without the ways out of the block that gives it.
use Rattle.std.proofs.Common.{◌≡◌, ℕ, suc, ◌+◌, ◌*◌, ◌/◌, ◌%◌, ◌<◌, ◌≤◌, Bool, true, false, cond, not, ◌&&◌, ◌||◌, ◌==◌, nat_lt, ◌⊎◌, inl, inr, List, [], ◌∷◌, length, map, position, Option, None, Some, slice_get, refl, sym, ap, subst, ◌∙◌, arith, length-set, get_or-set_same, get_or-set_other}
use Rattle.std.specs.Prelude.{slice_index}
use Rattle.std.specs.Int.{bit_at}
use Rattle.std.specs.List.{position_or_len}
use Rattle.std.specs.Option.{option_map}
use Rattle.std.proofs.lemmas.Bool.{both_ways, cases_lt, eq-eqb, eqb-true, le-ltb, lt-ltb, ne_eqb}
use Rattle.std.proofs.lemmas.Nat.Bits.{bit_at-lt}
use Rattle.std.proofs.lemmas.Option.{none-some, same_Some, slice_get_within}
use Rattle.definite_assignment.proofs.Narrows.{eq_or_not}
use Rattle.definite_assignment.specs.Assigned.{AreAssigned, Avoids}
use Rattle.definite_assignment.specs.Chunks.{AreBlocks, Gives, earlier, is_open_below, is_open_in, is_open_tag}
use Rattle.definite_assignment.specs.Uses.{AreTagged, is_open, lacks, rows_without}
use Rattle.definite_assignment.specs.declared.givers.Tagged.{Tagged}
use Rattle.ir_tree.specs.Reach.{AreMarks, AreRows, Leads, is_marked, reached, row}

abbrev pub MarksStand : Type 0
MarksStand = (rows : List (List ℕ)) → AreRows rows → AreMarks rows (reached rows)

module _ (rows : List (List ℕ)) (d : ℕ) (graph : AreRows rows) (inside : d < length rows) where
  row_there : row (rows_without rows d) d ≡ []
  row_there = get_or-set_same rows d [] [] inside

  row_other : (a : ℕ) → (a ≡ d → ⊥) → row (rows_without rows d) a ≡ row rows a
  row_other a ne = get_or-set_other rows d a [] [] ne

  -- a successor without the block is one with it, and of another block
  still_row : (a p t : ℕ) → slice_get (row (rows_without rows d) a) p ≡ Some t → (a ≡ d → ⊥) × (slice_get (row rows a) p ≡ Some t)
  still_row a p t h = by (eq_or_not a d)
    where
      by : (a ≡ d) ⊎ (a ≡ d → ⊥) → (a ≡ d → ⊥) × (slice_get (row rows a) p ≡ Some t)
      by (inl e) = absurd (none-some t (ap (λ (ts : List ℕ). slice_get ts p) (sym (ap (λ (x : ℕ). row (rows_without rows d) x) e ∙ row_there)) ∙ h))
      by (inr ne) = (ne, ap (λ (ts : List ℕ). slice_get ts p) (sym (row_other a ne)) ∙ h)

  rows_still : AreRows (rows_without rows d)
  rows_still = record {
    entry = subst (λ (n : ℕ). 0 < n) (sym (length-set rows d [])) graph.entry;
    targets = λ b p t h. subst (λ (n : ℕ). t < n) (sym (length-set rows d [])) (graph.targets b p t (still_row b p t h).1);
  }

  module _ (gives : List ℕ) (i : ℕ) (given : bit_at (slice_index gives d) i ≡ 1) (alone : (a : ℕ) → bit_at (slice_index gives a) i ≡ 1 → a ≡ d) where
    avoids_leads : (walk : List ℕ) (a b : ℕ) → Avoids rows gives i walk a b → Leads (rows_without rows d) walk a b
    avoids_leads [] a b e = e
    avoids_leads (p ∷ ps) a b w =
        let ne : a ≡ d → ⊥ = λ e. let one : bit_at (slice_index gives a) i ≡ 1 = ap (λ (x : ℕ). bit_at (slice_index gives x) i) e ∙ given in let none : bit_at (slice_index gives a) i ≡ 0 = w.1 in absurd (omega (arith, one, none)) in
        (w.0, ap (λ (ts : List ℕ). slice_get ts p) (row_other a ne) ∙ w.2, avoids_leads ps w.0 b w.3)

    leads_avoids : (walk : List ℕ) (a b : ℕ) → Leads (rows_without rows d) walk a b → Avoids rows gives i walk a b
    leads_avoids [] a b e = e
    leads_avoids (p ∷ ps) a b w =
        let still = still_row a p w.0 w.1 in
        let small : bit_at (slice_index gives a) i < 2 = bit_at-lt (slice_index gives a) i in
        let no_one : bit_at (slice_index gives a) i ≡ 1 → ⊥ = λ e. still.0 (alone a e) in
        (w.0, is_zero (bit_at (slice_index gives a) i) small no_one, still.1, leads_avoids ps w.0 b w.2)
      where
        is_zero : (n : ℕ) → n < 2 → (n ≡ 1 → ⊥) → n ≡ 0
        is_zero n h k = grind arith

    pub bit_is_open : MarksStand → (words : List ℕ) → AreAssigned rows gives words → (b : ℕ) → b < length rows → i < 64 → (bit_at (slice_index words b) i == 0) ≡ is_open rows d b
    unfolding is_open
    bit_is_open stand words w b h k = by (is_marked (reached (rows_without rows d)) b) refl
      where
        marks : AreMarks (rows_without rows d) (reached (rows_without rows d))
        marks = stand (rows_without rows d) rows_still

        by : (t : Bool) → is_marked (reached (rows_without rows d)) b ≡ t → (bit_at (slice_index words b) i == 0) ≡ t
        by true e = let walk = marks.sound b e in eq-eqb (bit_at (slice_index words b) i) 0 (w.avoids b i (walk.0, leads_avoids walk.0 0 b walk.1))
        by false e = ne_eqb (bit_at (slice_index words b) i) 0 (λ z. let walk = w.avoided b i h k z in both_ways (is_marked (reached (rows_without rows d)) b) e (marks.complete b (walk.0, avoids_leads walk.0 0 b walk.1)))

-- ---- a use of a chunk

pub quotient : (s : ℕ) → 64 * (s / 64) + s % 64 ≡ s
quotient s = omega arith

pub small_rest : (s : ℕ) → s % 64 < 64
small_rest s = omega arith

module _ (stand : MarksStand) (rows : List (List ℕ)) (graph : AreRows rows) (givers : List ℕ) (c : ℕ) (gives words : List ℕ)
    (bits : Gives (length givers) givers c gives) (w : AreAssigned rows gives words) where
  lacks_open : (t : Tagged) → slice_get givers t.slot ≡ Some t.giver → t.giver < length rows → t.at < length rows → lacks words c t ≡ is_open_in rows c t
  lacks_open t at inside h = by (t.slot / 64 == c) refl
    where
      same_bit : t.slot / 64 ≡ c → (bit_at (slice_index words t.at) (t.slot % 64) == 0) ≡ is_open_tag rows t
      same_bit e =
          let place : 64 * c + t.slot % 64 ≡ t.slot = ap (λ (n : ℕ). 64 * n + t.slot % 64) (sym e) ∙ quotient t.slot in
          let there : slice_get givers (64 * c + t.slot % 64) ≡ Some t.giver = ap (λ (n : ℕ). slice_get givers n) place ∙ at in
          let within : 64 * c + t.slot % 64 < length givers = slice_get_within givers (64 * c + t.slot % 64) t.giver there in
          let given : bit_at (slice_index gives t.giver) (t.slot % 64) ≡ 1 = (bits t.giver (t.slot % 64) (small_rest t.slot)).1 (within, there) in
          let alone : (a : ℕ) → bit_at (slice_index gives a) (t.slot % 64) ≡ 1 → a ≡ t.giver = λ a one. same_Some a t.giver (sym ((bits a (t.slot % 64) (small_rest t.slot)).0 one).1 ∙ there) in
          bit_is_open rows t.giver graph inside gives (t.slot % 64) given alone stand words w t.at h (small_rest t.slot)

      by : (b : Bool) → (t.slot / 64 == c) ≡ b → (b && (bit_at (slice_index words t.at) (t.slot % 64) == 0)) ≡ (b && is_open_tag rows t)
      by true e = same_bit (eqb-true (t.slot / 64) c e)
      by false e = refl

-- ---- the first place of a list

later : (n len : ℕ) → cond {A = Option ℕ} (nat_lt (1 + n) (suc len)) (Some (1 + n)) None ≡ option_map suc (cond {A = Option ℕ} (nat_lt n len) (Some n) None)
later n len = by (cases_lt n len)
  where
    by : (n < len) ⊎ (len ≤ n) → cond {A = Option ℕ} (nat_lt (1 + n) (suc len)) (Some (1 + n)) None ≡ option_map suc (cond {A = Option ℕ} (nat_lt n len) (Some n) None)
    by (inl h) =
        let next : 1 + n ≡ suc n = omega arith in
        ap (λ (b : Bool). cond {A = Option ℕ} b (Some (1 + n)) None) (lt-ltb (1 + n) (suc len) (omega (arith, h))) ∙ (ap (λ (k : ℕ). Some k) next ∙ ap (λ (b : Bool). option_map suc (cond {A = Option ℕ} b (Some n) None)) (sym (lt-ltb n len h)))
    by (inr h) = ap (λ (b : Bool). cond {A = Option ℕ} b (Some (1 + n)) None) (le-ltb (1 + n) (suc len) (omega (arith, h))) ∙ ap (λ (b : Bool). option_map suc (cond {A = Option ℕ} b (Some n) None)) (sym (le-ltb n len h))

-- the first place, by the first test and the first place behind
first_by : {X : Type 0} (p : X → Bool) (x : X) (xs : List X) → (b : Bool) → p x ≡ b → position p (x ∷ xs) ≡ cond b (Some 0) (option_map suc (position p xs))
first_by p x xs true h =
    let none_before : position_or_len p (x ∷ xs) ≡ 0 = ap (λ (b : Bool). cond {A = ℕ} (not b) (1 + position_or_len p xs) 0) h in
    let first : nat_lt 0 (length (x ∷ xs)) ≡ true = lt-ltb 0 (length (x ∷ xs)) (omega arith) in
    ap (λ (k : ℕ). cond {A = Option ℕ} (nat_lt k (length (x ∷ xs))) (Some k) None) none_before ∙ ap (λ (b : Bool). cond {A = Option ℕ} b (Some 0) None) first
first_by p x xs false h =
    let further : position_or_len p (x ∷ xs) ≡ 1 + position_or_len p xs = ap (λ (b : Bool). cond {A = ℕ} (not b) (1 + position_or_len p xs) 0) h in
    ap (λ (k : ℕ). cond {A = Option ℕ} (nat_lt k (length (x ∷ xs))) (Some k) None) further ∙ later (position_or_len p xs) (length xs)

pub first_cons : {X : Type 0} (p : X → Bool) (x : X) (xs : List X) → position p (x ∷ xs) ≡ cond (p x) (Some 0) (option_map suc (position p xs))
first_cons p x xs = first_by p x xs (p x) refl

pub first_map : {X Y : Type 0} (p : Y → Bool) (g : X → Y) (xs : List X) → position p (map g xs) ≡ position (λ x. p (g x)) xs
first_map p g [] = refl
first_map p g (x ∷ xs) = first_cons p (g x) (map g xs) ∙ (ap (λ (o : Option ℕ). cond (p (g x)) (Some 0) (option_map suc o)) (first_map p g xs) ∙ sym (first_cons (λ y. p (g y)) x xs))

earlier_shifted : (a b : Option ℕ) → earlier (option_map suc a) (option_map suc b) ≡ option_map suc (earlier a b)
earlier_shifted None b = refl
earlier_shifted (Some i) None = refl
earlier_shifted (Some i) (Some j) = by (cases_lt j i)
  where
    by : (j < i) ⊎ (i ≤ j) → cond {A = Option ℕ} (nat_lt (suc j) (suc i)) (Some (suc j)) (Some (suc i)) ≡ option_map suc (cond {A = Option ℕ} (nat_lt j i) (Some j) (Some i))
    by (inl h) = ap (λ (b : Bool). cond {A = Option ℕ} b (Some (suc j)) (Some (suc i))) (lt-ltb (suc j) (suc i) (omega (arith, h))) ∙ ap (λ (b : Bool). option_map suc (cond {A = Option ℕ} b (Some j) (Some i))) (sym (lt-ltb j i h))
    by (inr h) = ap (λ (b : Bool). cond {A = Option ℕ} b (Some (suc j)) (Some (suc i))) (le-ltb (suc j) (suc i) (omega (arith, h))) ∙ ap (λ (b : Bool). option_map suc (cond {A = Option ℕ} b (Some j) (Some i))) (sym (le-ltb j i h))

zero_first : (b : Option ℕ) → earlier (Some 0) b ≡ Some 0
zero_first None = refl
zero_first (Some j) = ap (λ (b : Bool). cond {A = Option ℕ} b (Some j) (Some 0)) (le-ltb j 0 (omega arith))

first_zero : (a : Option ℕ) → earlier (option_map suc a) (Some 0) ≡ Some 0
first_zero None = refl
first_zero (Some i) = ap (λ (b : Bool). cond {A = Option ℕ} b (Some 0) (Some (suc i))) (lt-ltb 0 (suc i) (omega arith))

-- of two tests the first place of either is the earlier of their first places
pub first_either : {X : Type 0} (p q : X → Bool) (xs : List X) → earlier (position p xs) (position q xs) ≡ position (λ x. p x || q x) xs
first_either p q [] = refl
first_either p q (x ∷ xs) =
    (λ i. earlier (first_cons p x xs i) (first_cons q x xs i)) ∙ (by (p x) (q x) (first_either p q xs) ∙ sym (first_cons (λ y. p y || q y) x xs))
  where
    by : (a b : Bool) → earlier (position p xs) (position q xs) ≡ position (λ y. p y || q y) xs → earlier (cond a (Some 0) (option_map suc (position p xs))) (cond b (Some 0) (option_map suc (position q xs))) ≡ cond (a || b) (Some 0) (option_map suc (position (λ y. p y || q y) xs))
    by true true rest = zero_first (Some 0)
    by true false rest = zero_first (option_map suc (position q xs))
    by false true rest = first_zero (position p xs)
    by false false rest = earlier_shifted (position p xs) (position q xs) ∙ ap (λ (o : Option ℕ). option_map suc o) rest

-- tests that agree on the members
abbrev pub Agree : {X : Type 0} → (X → Bool) → (X → Bool) → List X → Type 0
Agree p q [] = Unit {0}
Agree p q (x ∷ xs) = (p x ≡ q x) × Agree p q xs

pub first_agrees : {X : Type 0} (p q : X → Bool) (xs : List X) → Agree p q xs → position p xs ≡ position q xs
first_agrees p q [] h = refl
first_agrees p q (x ∷ xs) h = first_cons p x xs ∙ ((λ i. cond (h.0 i) (Some 0) (option_map suc (first_agrees p q xs h.1 i))) ∙ sym (first_cons q x xs))

-- ---- the chunks one after the other

module _ (rows : List (List ℕ)) where
  none_below : (ts : List Tagged) → position (is_open_below rows 0) ts ≡ None
  none_below [] = refl
  none_below (t ∷ ts) = first_by (is_open_below rows 0) t ts false (ap (λ (b : Bool). b && is_open_tag rows t) (le-ltb t.slot (64 * 0) (omega arith))) ∙ ap (λ (o : Option ℕ). option_map suc o) (none_below ts)

  pub start_none : (ts : List Tagged) → None ≡ position (is_open_below rows 0) ts
  start_none ts = sym (none_below ts)

  one_more : (c : ℕ) (t : Tagged) → (is_open_below rows c t || is_open_in rows c t) ≡ is_open_below rows (c + 1) t
  one_more c t = by (is_open_tag rows t)
    where
      slots : (nat_lt t.slot (64 * c) || (t.slot / 64 == c)) ≡ nat_lt t.slot (64 * (c + 1))
      slots = in_order (cases_lt t.slot (64 * c)) (cases_lt t.slot (64 * (c + 1)))
        where
          in_order : (t.slot < 64 * c) ⊎ (64 * c ≤ t.slot) → (t.slot < 64 * (c + 1)) ⊎ (64 * (c + 1) ≤ t.slot) → (nat_lt t.slot (64 * c) || (t.slot / 64 == c)) ≡ nat_lt t.slot (64 * (c + 1))
          in_order (inl h) k = ap (λ (b : Bool). b || (t.slot / 64 == c)) (lt-ltb t.slot (64 * c) h) ∙ sym (lt-ltb t.slot (64 * (c + 1)) (omega (arith, h)))
          in_order (inr h) (inl k) = ap (λ (b : Bool). b || (t.slot / 64 == c)) (le-ltb t.slot (64 * c) h) ∙ (eq-eqb (t.slot / 64) c (omega (arith, h, k, quotient t.slot, small_rest t.slot)) ∙ sym (lt-ltb t.slot (64 * (c + 1)) k))
          in_order (inr h) (inr k) = ap (λ (b : Bool). b || (t.slot / 64 == c)) (le-ltb t.slot (64 * c) h) ∙ (ne_eqb (t.slot / 64) c (λ e. absurd (omega (arith, h, k, e, quotient t.slot, small_rest t.slot))) ∙ sym (le-ltb t.slot (64 * (c + 1)) k))

      by : (o : Bool) → ((nat_lt t.slot (64 * c) && o) || ((t.slot / 64 == c) && o)) ≡ (nat_lt t.slot (64 * (c + 1)) && o)
      by true = (λ i. and_true (nat_lt t.slot (64 * c)) i || and_true (t.slot / 64 == c) i) ∙ (slots ∙ sym (and_true (nat_lt t.slot (64 * (c + 1)))))
        where
          and_true : (b : Bool) → (b && true) ≡ b
          and_true true = refl
          and_true false = refl
      by false = (λ i. and_false (nat_lt t.slot (64 * c)) i || and_false (t.slot / 64 == c) i) ∙ sym (and_false (nat_lt t.slot (64 * (c + 1))))
        where
          and_false : (b : Bool) → (b && false) ≡ false
          and_false true = refl
          and_false false = refl

  pub next_chunk : (c : ℕ) (ts : List Tagged) (found here : Option ℕ) → found ≡ position (is_open_below rows c) ts → here ≡ position (is_open_in rows c) ts → earlier found here ≡ position (is_open_below rows (c + 1)) ts
  next_chunk c ts found here e k = (λ i. earlier (e i) (k i)) ∙ (first_either (is_open_below rows c) (is_open_in rows c) ts ∙ (λ i. position (λ (t : Tagged). one_more c t i) ts))

  module _ (givers : List ℕ) (n : ℕ) (many : length givers ≤ 64 * n) where
    all_below : (ts : List Tagged) → AreTagged givers ts → Agree (is_open_below rows n) (is_open_tag rows) ts
    all_below [] h = tt
    all_below (t ∷ ts) h =
        let within : t.slot < length givers = slice_get_within givers t.slot t.giver h.0 in
        (ap (λ (b : Bool). b && is_open_tag rows t) (lt-ltb t.slot (64 * n) (omega (arith, within, many))), all_below ts h.1)

    pub all_chunks : (ts : List Tagged) (found : Option ℕ) → AreTagged givers ts → found ≡ position (is_open_below rows n) ts → found ≡ position (is_open_tag rows) ts
    all_chunks ts found h e = e ∙ first_agrees (is_open_below rows n) (is_open_tag rows) ts (all_below ts h)

module _ (stand : MarksStand) (rows : List (List ℕ)) (graph : AreRows rows) (givers : List ℕ) (c : ℕ) (gives words : List ℕ)
    (bits : Gives (length givers) givers c gives) (w : AreAssigned rows gives words) (small : (s g : ℕ) → slice_get givers s ≡ Some g → g < length rows) where
  all_lack : (ts : List Tagged) → AreTagged givers ts → AreBlocks (length rows) ts → Agree (lacks words c) (is_open_in rows c) ts
  all_lack [] h k = tt
  all_lack (t ∷ ts) h k = (lacks_open stand rows graph givers c gives words bits w t h.0 (small t.slot t.giver h.0) k.0, all_lack ts h.1 k.1)

  pub first_lacks : (ts : List Tagged) (found : Option ℕ) → AreTagged givers ts → AreBlocks (length rows) ts → found ≡ position (lacks words c) ts → found ≡ position (is_open_in rows c) ts
  first_lacks ts found h k e = e ∙ first_agrees (lacks words c) (is_open_in rows c) ts (all_lack ts h k)
