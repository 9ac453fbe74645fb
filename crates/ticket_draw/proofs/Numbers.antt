-- Numbers below a bound, each once, by what they weigh.
use Rattle.std.proofs.Common.{◌≡◌, ℕ, zero, suc, ◌+◌, ◌<◌, ◌≤◌, Bool, true, false, ◌||◌, ◌==◌, if◌then◌else◌, List, [], ◌∷◌, length, map, set, drop, get_or, sum_by, count_by, refl, sym, ap, subst, ◌∙◌, arith, eq-eqb, ne_eqb}
use Rattle.std.proofs.lemmas.List.Sums.{sum_by-cons, sum_by_push, sum_by-set}
use Rattle.std.proofs.lemmas.List.{get_or-drop, length-drop}
use mathlib.Core.Logic.{dite}
use native.Mathlib.Decide.{ℕ_discrete}
use mathlib.Core.Option.{some}
use lib.ListN.{get_elem?}
use Rattle.atomic_table.proofs.Lists.{drop_at}
use Rattle.count_core.specs.CoreView.{one_if}
use Rattle.count_core.specs.CoreState.{below}
use Rattle.ticket_draw.specs.Tickets.{DrewEachOnce}

-- a sum over views of which one changed
pub sum_set : {X : Type 0} (f : X → ℕ) (xs : List X) (i : ℕ) (v w : X) → get_elem? xs i ≡ some v → sum_by f (set xs i w) + f v ≡ sum_by f xs + f w
sum_set {X} f xs i v w at =
    let rest : drop i xs ≡ v ∷ drop (suc i) xs = drop_at xs i v at in
    let long : i < length xs = omega (arith, ap length rest, length-drop i xs) in
    let z : i ≡ i + 0 = omega arith in
    let is : get_or xs i v ≡ v = ap (λ k. get_or xs k v) z ∙ sym (get_or-drop i xs 0 v) ∙ ap (λ (l : List X). get_or l 0 v) rest in
    subst (λ (y : X). sum_by f (set xs i w) + f y ≡ sum_by f xs + f w) is (sum_by-set f xs i w v long)

pub none_below : (n x : ℕ) → n ≤ x → count_by (λ y. y == x) (below n) ≡ 0
none_below zero x le = refl
none_below (suc n) x le =
    let p : count_by (λ y. y == x) (below (suc n)) ≡ count_by (λ y. y == x) (below n) + one_if (n == x) = sum_by_push (λ y. one_if (y == x)) (below n) n in
    let e : one_if (n == x) ≡ 0 = ap one_if (ne_eqb n x (λ z. omega arith)) in
    let h = none_below n x (omega arith) in
    omega arith

pub one_below : (n x : ℕ) → x < n → count_by (λ y. y == x) (below n) ≡ 1
one_below zero x lt = absurd (omega arith)
one_below (suc n) x lt =
    let p : count_by (λ y. y == x) (below (suc n)) ≡ count_by (λ y. y == x) (below n) + one_if (n == x) = sum_by_push (λ y. one_if (y == x)) (below n) n in
    dite (ℕ_discrete n x)
    (λ e. let o : one_if (n == x) ≡ 1 = ap one_if (eq-eqb n x e) in let h = none_below n x (omega arith) in omega arith)
    (λ ne. let o : one_if (n == x) ≡ 0 = ap one_if (ne_eqb n x ne) in let h = one_below n x (omega arith) in omega arith)

pub each_once : (n : ℕ) (xs : List ℕ) → ((h : ℕ → ℕ) → sum_by h xs ≡ sum_by h (below n)) → DrewEachOnce n xs
each_once n xs weighed = record {
  once = λ x lt. weighed (λ y. one_if (y == x)) ∙ one_below n x lt;
  no_other = λ x le. weighed (λ y. one_if (y == x)) ∙ none_below n x le;
  weighed = weighed;
}

pub length_weighs : (xs : List ℕ) → sum_by (λ _. 1) xs ≡ length xs
length_weighs [] = refl
length_weighs (x ∷ xs) = let h = length_weighs xs in let p = sum_by-cons (λ (_ : ℕ). 1) x xs in omega arith

pub below_weighs : (n : ℕ) → sum_by (λ _. 1) (below n) ≡ n
below_weighs zero = refl
below_weighs (suc n) = let h = below_weighs n in let p = sum_by_push (λ (_ : ℕ). 1) (below n) n in omega arith

pub sum_by-map : {X Y : Type 0} (f : Y → ℕ) (g : X → Y) (xs : List X) → sum_by f (map g xs) ≡ sum_by (λ x. f (g x)) xs
sum_by-map f g [] = refl
sum_by-map {X} f g (x ∷ xs) = let h = sum_by-map f g xs in let l = sum_by-cons f (g x) (map g xs) in let r = sum_by-cons (λ (x : X). f (g x)) x xs in omega arith

pub joined_shares : (a b : Bool) (x y : ℕ) → (if a then x else 0) + (if b then y else 0) ≤ (if a || b then x + y else 0)
joined_shares true true x y = omega arith
joined_shares true false x y = omega arith
joined_shares false true x y = omega arith
joined_shares false false x y = omega arith
