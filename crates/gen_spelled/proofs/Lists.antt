-- Lists whose items all keep a condition, and lists that are made item by item.
use Rattle.std.proofs.Common.{◌≡◌, ℕ, zero, suc, ◌+◌, ◌<◌, length, inl, inr, Bool, true, false, cond, List, [], ◌∷◌, ◌++◌, map, filter, take, drop, Option, Some, None, slice_get, slice_index_or, refl, sym, ap, subst, ◌∙◌, arith, zero-add}
use Rattle.std.specs.List.{cons_option, filter_map, fold}
use Rattle.std.proofs.lemmas.Option.{none-some, same_Some}
use Rattle.ir_rules.specs.Lists.{Among}
use Rattle.spec_lists.specs.Each.{each}
use Rattle.spellable.specs.Values.{Each}

abbrev pub Name : Type 0
Name = List ℕ

-- ---- all items

module _ {X : Type 0} (P : X → Type 0) where
  pub each_append : (xs ys : List X) → Each P xs → Each P ys → Each P (xs ++ ys)
  each_append [] ys h k = k
  each_append (x ∷ xs) ys h k = (h.0, each_append xs ys h.1 k)

  pub each_taken : (n : ℕ) (xs : List X) → Each P xs → Each P (take n xs)
  each_taken zero xs h = tt
  each_taken (suc n) [] h = tt
  each_taken (suc n) (x ∷ xs) h = (h.0, each_taken n xs h.1)

  pub each_dropped : (n : ℕ) (xs : List X) → Each P xs → Each P (drop n xs)
  each_dropped zero xs h = h
  each_dropped (suc n) [] h = tt
  each_dropped (suc n) (x ∷ xs) h = each_dropped n xs h.1

  pub each_get : (xs : List X) (i : ℕ) (x : X) → Each P xs → slice_get xs i ≡ Some x → P x
  each_get [] i x h at = absurd (none-some x at)
  each_get (y ∷ ys) zero x h at = subst P (same_Some y x at) h.0
  each_get (y ∷ ys) (suc i) x h at = each_get ys i x h.1 at

  -- some of the items
  pub each_filtered : (test : X → Bool) (xs : List X) → Each P xs → Each P (filter test xs)
  each_filtered test [] h = tt
  each_filtered test (x ∷ xs) h = by (test x) (each_filtered test xs h.1)
    where
      by : (b : Bool) → Each P (filter test xs) → Each P (cond b (x ∷ filter test xs) (filter test xs))
      by true rest = (h.0, rest)
      by false rest = rest

pub each_among : {X : Type 0} (P : X → Type 0) (xs : List X) → ((x : X) → Among x xs → P x) → Each P xs
each_among P [] h = tt
each_among P (x ∷ xs) h = (h x (inl refl), each_among P xs (λ y at. h y (inr at)))

pub among_each : {X : Type 0} (P : X → Type 0) (xs : List X) (x : X) → Each P xs → Among x xs → P x
among_each P [] x h at = absurd at
among_each P (y ∷ ys) x h (inl e) = subst P (sym e) h.0
among_each P (y ∷ ys) x h (inr at) = among_each P ys x h.1 at

pub each_mapped : {X Y : Type 0} (P : X → Type 0) (Q : Y → Type 0) (g : X → Y) (xs : List X) → ((x : X) → P x → Q (g x)) → Each P xs → Each Q (map g xs)
each_mapped P Q g [] keeps h = tt
each_mapped P Q g (x ∷ xs) keeps h = (keeps x h.0, each_mapped P Q g xs keeps h.1)

-- ---- membership

pub at_among : {X : Type 0} (xs : List X) (i : ℕ) (x : X) → slice_get xs i ≡ Some x → Among x xs
at_among [] i x at = absurd (none-some x at)
at_among (y ∷ ys) zero x at = inl (sym (same_Some y x at))
at_among (y ∷ ys) (suc i) x at = inr (at_among ys i x at)

pub among_left : {X : Type 0} (xs ys : List X) (x : X) → Among x xs → Among x (xs ++ ys)
among_left [] ys x at = absurd at
among_left (z ∷ zs) ys x (inl e) = inl e
among_left (z ∷ zs) ys x (inr at) = inr (among_left zs ys x at)

pub among_right : {X : Type 0} (xs ys : List X) (x : X) → Among x ys → Among x (xs ++ ys)
among_right [] ys x at = at
among_right (z ∷ zs) ys x at = inr (among_right zs ys x at)

pub among_map : {X Y : Type 0} (g : X → Y) (xs : List X) (x : X) → Among x xs → Among (g x) (map g xs)
among_map g [] x at = absurd at
among_map g (y ∷ ys) x (inl e) = inl (ap g e)
among_map g (y ∷ ys) x (inr at) = inr (among_map g ys x at)

pub among_filter : {X : Type 0} (test : X → Bool) (xs : List X) (x : X) → Among x (filter test xs) → Among x xs × (test x ≡ true)
among_filter test [] x at = absurd at
among_filter {X} test (y ∷ ys) x at = by (test y) refl at (λ h. among_filter test ys x h)
  where
    by : (b : Bool) → test y ≡ b → Among x (cond b (y ∷ filter test ys) (filter test ys)) → (Among x (filter test ys) → Among x ys × (test x ≡ true)) → Among x (y ∷ ys) × (test x ≡ true)
    by true t (inl e) rest = (inl e, ap (λ (z : X). test z) e ∙ t)
    by true t (inr at) rest = (let r = rest at in (inr r.0, r.1))
    by false t at rest = (let r = rest at in (inr r.0, r.1))

-- what is listed of one item
pub among_listed : {X Y : Type 0} (g : X → Option Y) (xs : List X) (x : X) (y : Y) → Among x xs → g x ≡ Some y → Among y (filter_map g xs)
among_listed g [] x y at e = absurd at
among_listed {X} {Y} g (z ∷ zs) x y (inl same) e = subst (λ (o : Option Y). Among y (cons_option o (filter_map g zs))) (sym (ap (λ (w : X). g w) (sym same) ∙ e)) (inl refl)
among_listed g (z ∷ zs) x y (inr at) e = by (g z) (among_listed g zs x y at e)
  where
    by : (o : Option _) → Among y (filter_map g zs) → Among y (cons_option o (filter_map g zs))
    by None h = h
    by (Some w) h = inr h

-- ---- what is made item by item

module _ {X Y : Type 0} (make : ℕ → X → List Y) where
  pub made_each : (P : Y → Type 0) (n : ℕ) (xs : List X) → ((i : ℕ) (x : X) → slice_get xs i ≡ Some x → Each P (make (n + i) x)) → Each P (each make n xs)
  made_each P n [] h = tt
  made_each P n (x ∷ xs) h =
      each_append P (make n x) (each make (n + 1) xs) (subst (λ (k : ℕ). Each P (make k x)) (let e : n + 0 ≡ n = omega arith in e) (h 0 x refl))
      (made_each P (n + 1) xs (λ i y at. subst (λ (k : ℕ). Each P (make k y)) (let e : n + suc i ≡ n + 1 + i = omega arith in e) (h (suc i) y at)))

  -- the same, counted from 0
  pub each_made : (P : Y → Type 0) (xs : List X) → ((i : ℕ) (x : X) → slice_get xs i ≡ Some x → Each P (make i x)) → Each P (each make 0 xs)
  each_made P xs h = made_each P 0 xs (λ i x at. subst (λ (k : ℕ). Each P (make k x)) (sym (zero-add i)) (h i x at))

  made_among : (n : ℕ) (xs : List X) (i : ℕ) (x : X) (y : Y) → slice_get xs i ≡ Some x → Among y (make (n + i) x) → Among y (each make n xs)
  made_among n [] i x y at h = absurd (none-some x at)
  made_among n (z ∷ xs) zero x y at h =
      among_left (make n z) (each make (n + 1) xs) y (subst (λ (w : X). Among y (make n w)) (sym (same_Some z x at)) (subst (λ (k : ℕ). Among y (make k x)) (let e : n + 0 ≡ n = omega arith in e) h))
  made_among n (z ∷ xs) (suc i) x y at h =
      among_right (make n z) (each make (n + 1) xs) y (made_among (n + 1) xs i x y at (subst (λ (k : ℕ). Among y (make k x)) (let e : n + suc i ≡ n + 1 + i = omega arith in e) h))

  pub among_made : (xs : List X) (i : ℕ) (x : X) (y : Y) → slice_get xs i ≡ Some x → Among y (make i x) → Among y (each make 0 xs)
  among_made xs i x y at h = made_among 0 xs i x y at (subst (λ (k : ℕ). Among y (make k x)) (sym (zero-add i)) h)

-- ---- places and folds

pub mapped_at : {X Y : Type 0} (g : X → Y) (xs : List X) (i : ℕ) (x : X) (d : Y) → slice_get xs i ≡ Some x → slice_index_or (map g xs) i d ≡ g x
mapped_at g [] i x d at = absurd (none-some x at)
mapped_at g (y ∷ ys) zero x d at = ap g (same_Some y x at)
mapped_at g (y ∷ ys) (suc i) x d at = mapped_at g ys i x d at

module _ {A B : Type 0} (step : B → A → B) where
  pub fold_append : (b : B) (xs ys : List A) → fold step b (xs ++ ys) ≡ fold step (fold step b xs) ys
  fold_append b [] ys = refl
  fold_append b (x ∷ xs) ys = fold_append (step b x) xs ys

  -- items of which each leaves the state as it is
  pub fold_quiet : (b : B) (xs : List A) → Each (λ x. step b x ≡ b) xs → fold step b xs ≡ b
  fold_quiet b [] h = refl
  fold_quiet b (x ∷ xs) h = ap (λ (c : B). fold step c xs) h.0 ∙ fold_quiet b xs h.1

  -- items in the place of others, each of which does what that one does
  pub fold_mapped : (g : A → A) → ((b : B) (x : A) → step b (g x) ≡ step b x) → (b : B) (xs : List A) → fold step b (map g xs) ≡ fold step b xs
  fold_mapped g same b [] = refl
  fold_mapped g same b (x ∷ xs) = ap (λ (c : B). fold step c (map g xs)) (same b x) ∙ fold_mapped g same (step b x) xs

-- the place of an item
pub place : {X : Type 0} (xs : List X) (x : X) → Among x xs → (i : ℕ) × (slice_get xs i ≡ Some x) × (i < length xs)
place [] x at = absurd at
place (y ∷ ys) x (inl e) = (0, ap Some (sym e), omega arith)
place (y ∷ ys) x (inr at) = (let r = place ys x at in let here = r.2 in (suc r.0, r.1, omega (arith, here)))
