-- Lists whose items all keep a condition, membership, and counts of names.
use Rattle.std.proofs.Common.{◌≡◌, ℕ, suc, ◌+◌, ◌≤◌, inl, inr, Bool, true, false, cond, List, [], ◌∷◌, ◌++◌, length, map, filter, Option, Some, None, refl, sym, ap, subst, ◌∙◌, arith}
use Rattle.std.specs.List.{cons_option, filter_map, flat_map}
use Rattle.std.specs.Cmp.Lexicographic.{bytes_decides}
use Rattle.std.proofs.lemmas.List.{length-append}
use Rattle.std.proofs.lemmas.List.Sums.{sum_by-append, sum_by-cons}
use Rattle.ir_rules.specs.Lists.{Among, times}
use Rattle.ir_tree.specs.Names.{same}
use Rattle.spellable.specs.Values.{Each}

abbrev pub Name : Type 0
Name = List ℕ

-- ---- all items

module _ {X : Type 0} (P : X → Type 0) where
  pub each_append : (xs ys : List X) → Each P xs → Each P ys → Each P (xs ++ ys)
  each_append [] ys h k = k
  each_append (x ∷ xs) ys h k = (h.0, each_append xs ys h.1 k)

  pub each_among : (xs : List X) → ((x : X) → Among x xs → P x) → Each P xs
  each_among [] h = tt
  each_among (x ∷ xs) h = (h x (inl refl), each_among xs (λ y at. h y (inr at)))

  pub among_each : (xs : List X) (x : X) → Each P xs → Among x xs → P x
  among_each [] x h at = absurd at
  among_each (y ∷ ys) x h (inl e) = subst P (sym e) h.0
  among_each (y ∷ ys) x h (inr at) = among_each ys x h.1 at

pub each_mapped : {X Y : Type 0} (P : X → Type 0) (Q : Y → Type 0) (g : X → Y) (xs : List X) → ((x : X) → Among x xs → P x → Q (g x)) → Each P xs → Each Q (map g xs)
each_mapped P Q g [] keeps h = tt
each_mapped P Q g (x ∷ xs) keeps h = (keeps x (inl refl) h.0, each_mapped P Q g xs (λ y at. keeps y (inr at)) h.1)

pub each_flat : {X Y : Type 0} (Q : Y → Type 0) (g : X → List Y) (xs : List X) → ((x : X) → Among x xs → Each Q (g x)) → Each Q (flat_map g xs)
each_flat Q g [] h = tt
each_flat Q g (x ∷ xs) h = each_append Q (g x) (flat_map g xs) (h x (inl refl)) (each_flat Q g xs (λ y at. h y (inr at)))

-- ---- membership

pub among_left : {X : Type 0} (xs ys : List X) (x : X) → Among x xs → Among x (xs ++ ys)
among_left [] ys x at = absurd at
among_left (z ∷ zs) ys x (inl e) = inl e
among_left (z ∷ zs) ys x (inr at) = inr (among_left zs ys x at)

pub among_right : {X : Type 0} (xs ys : List X) (x : X) → Among x ys → Among x (xs ++ ys)
among_right [] ys x at = at
among_right (z ∷ zs) ys x at = inr (among_right zs ys x at)

pub among_flat : {X Y : Type 0} (g : X → List Y) (xs : List X) (x : X) (y : Y) → Among x xs → Among y (g x) → Among y (flat_map g xs)
among_flat g [] x y at h = absurd at
among_flat {X} {Y} g (z ∷ zs) x y (inl e) h = among_left (g z) (flat_map g zs) y (subst (λ (w : X). Among y (g w)) e h)
among_flat g (z ∷ zs) x y (inr at) h = among_right (g z) (flat_map g zs) y (among_flat g zs x y at h)

pub among_filter : {X : Type 0} (test : X → Bool) (xs : List X) (x : X) → Among x (filter test xs) → Among x xs × (test x ≡ true)
among_filter test [] x at = absurd at
among_filter {X} test (y ∷ ys) x at = by (test y) refl at (λ h. among_filter test ys x h)
  where
    by : (b : Bool) → test y ≡ b → Among x (cond b (y ∷ filter test ys) (filter test ys)) → (Among x (filter test ys) → Among x ys × (test x ≡ true)) → Among x (y ∷ ys) × (test x ≡ true)
    by true t (inl e) rest = (inl e, ap (λ (z : X). test z) e ∙ t)
    by true t (inr at) rest = (let r = rest at in (inr r.0, r.1))
    by false t at rest = (let r = rest at in (inr r.0, r.1))

pub among_listed : {X Y : Type 0} (g : X → Option Y) (xs : List X) (x : X) (y : Y) → Among x xs → g x ≡ Some y → Among y (filter_map g xs)
among_listed g [] x y at e = absurd at
among_listed {X} {Y} g (z ∷ zs) x y (inl same) e = subst (λ (o : Option Y). Among y (cons_option o (filter_map g zs))) (sym (ap (λ (w : X). g w) (sym same) ∙ e)) (inl refl)
among_listed g (z ∷ zs) x y (inr at) e = by (g z) (among_listed g zs x y at e)
  where
    by : (o : Option _) → Among y (filter_map g zs) → Among y (cons_option o (filter_map g zs))
    by None h = h
    by (Some w) h = inr h

-- ---- counts of names

abbrev pub one : Name → Name → ℕ
one n x = cond {A = ℕ} (same n x) 1 0

one_self : (n : Name) → one n n ≡ 1
one_self n = ap (λ (b : Bool). cond {A = ℕ} b 1 0) ((bytes_decides n n).1 refl)

times_cons : (n x : Name) (xs : List Name) → times n (x ∷ xs) ≡ one n x + times n xs
times_cons n x xs = sum_by-cons (one n) x xs

pub times_append : (n : Name) (xs ys : List Name) → times n (xs ++ ys) ≡ times n xs + times n ys
times_append n xs ys = sum_by-append (one n) xs ys

pub times_last : (n x : Name) (xs : List Name) → times n (xs ++ x ∷ []) ≡ times n xs + one n x
times_last n x xs = (let a = times_append n xs (x ∷ []) in let b = times_cons n x [] in let none : times n [] ≡ 0 = refl in omega (arith, a, b, none))

pub one_own : (n x : Name) → same n x ≡ true → n ≡ x
one_own n x h = (bytes_decides n x).0 h

-- a name that stands in a list, with what stands before and behind it
abbrev Split : Name → List Name → Type 0
Split n ys = (front : List Name) × (back : List Name) × (ys ≡ front ++ n ∷ back)

split : (n : Name) (ys : List Name) → 1 ≤ times n ys → Split n ys
split n [] h = absurd (omega (arith, h))
split n (y ∷ ys) h = by (same n y) refl (λ k. split n ys k)
  where
    by : (b : Bool) → same n y ≡ b → (1 ≤ times n ys → Split n ys) → Split n (y ∷ ys)
    by true e rest = ([], ys, ap (λ (x : Name). x ∷ ys) (sym (one_own n y e)))
    by false e rest =
        let none : one n y ≡ 0 = ap (λ (b : Bool). cond {A = ℕ} b 1 0) e in
        let all = times_cons n y ys in
        let r = rest (omega (arith, h, none, all)) in
        (y ∷ r.0, r.1, ap (λ (zs : List Name). y ∷ zs) r.2)

-- a list in which no name stands more often than in another is no longer than that
pub no_longer : (xs ys : List Name) → ((n : Name) → times n xs ≤ times n ys) → length xs ≤ length ys
no_longer [] ys h = omega arith
no_longer (x ∷ xs) ys h =
    let here = h x in
    let first = times_cons x x xs in
    let self = one_self x in
    let s : Split x ys = split x ys (omega (arith, here, first, self)) in
    let front : List Name = s.0 in
    let back : List Name = s.1 in
    let fewer : length xs ≤ length (front ++ back) = no_longer xs (front ++ back) (λ n.
    let all = subst (λ (zs : List Name). times n (x ∷ xs) ≤ times n zs) s.2 (h n) in
    let a = times_cons n x xs in
    let b = times_append n front (x ∷ back) in
    let c = times_cons n x back in
    let d = times_append n front back in
    omega (arith, all, a, b, c, d)) in
    let whole : length ys ≡ length (front ++ x ∷ back) = ap (λ (zs : List Name). length zs) s.2 in
    let parts = length-append front (x ∷ back) in
    let shorter = length-append front back in
    let behind : length (x ∷ back) ≡ suc (length back) = refl in
    let grown : length (x ∷ xs) ≡ suc (length xs) = refl in
    omega (arith, fewer, whole, parts, shorter, behind, grown)
