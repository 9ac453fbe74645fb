-- The first size above the limit, of lists put together.
use Rattle.std.proofs.Common.{◌≡◌, ℕ, ◌+◌, ◌<◌, List, [], ◌∷◌, ◌++◌, drop, length, get_or, Option, None, Some, cond, nat_lt, Bool, refl, sym, ap, ◌∙◌, append_assoc}
use Rattle.std.specs.List.{flat_map}
use Rattle.std.specs.Option.{option_map}
use Rattle.ir_limits.proofs.Firsts.{flat_dropped, found_plain, over_plain}
use Rattle.ir_limits.specs.Objects.{over}
use Rattle.ir_rules.specs.Limits.{above}
use Rattle.ir_rules.specs.declared.place.LimitKind.{LimitKind}
use Rattle.ir_rules.specs.declared.place.LimitKind.TheVariants.{Object}
use Rattle.spec_lists.specs.Each.{first_of}

over_append : (xs ys : List ℕ) → over (xs ++ ys) ≡ over xs ++ over ys
over_append [] ys = refl
over_append (x ∷ xs) ys = ap (λ (zs : List (LimitKind × ℕ)). above Object 1048576 x ++ zs) (over_append xs ys) ∙ sym (append_assoc (above Object 1048576 x) (over xs) (over ys))

pub over_found : (xs ys : List ℕ) (n : ℕ) → option_map (λ (found : ℕ). (Object, found)) (Some n) ≡ first_of (over xs) → option_map (λ (found : ℕ). (Object, found)) (Some n) ≡ first_of (over (xs ++ ys))
over_found xs ys n e = sym (found_plain (over xs) (over ys) (Object, n) (sym e)) ∙ ap (λ (zs : List (LimitKind × ℕ)). first_of zs) (sym (over_append xs ys))

pub over_past : (xs ys : List ℕ) → option_map (λ (found : ℕ). (Object, found)) None ≡ first_of (over xs) → first_of (over (xs ++ ys)) ≡ first_of (over ys)
over_past xs ys e = ap (λ (zs : List (LimitKind × ℕ)). first_of zs) (over_append xs ys) ∙ over_plain (over xs) (over ys) (sym e)

-- the rest of a list from one item on
pub flat_found : {X : Type 0} (make : X → List ℕ) (xs : List X) (i : ℕ) (d : X) (n : ℕ) → i < length xs → option_map (λ (found : ℕ). (Object, found)) (Some n) ≡ first_of (over (make (get_or xs i d))) → option_map (λ (found : ℕ). (Object, found)) (Some n) ≡ first_of (over (flat_map make (drop i xs)))
flat_found make xs i d n h e = over_found (make (get_or xs i d)) (flat_map make (drop (i + 1) xs)) n e ∙ ap (λ (ys : List ℕ). first_of (over ys)) (sym (flat_dropped make xs i d h))

pub flat_past : {X : Type 0} (make : X → List ℕ) (xs : List X) (i : ℕ) (d : X) → i < length xs → option_map (λ (found : ℕ). (Object, found)) None ≡ first_of (over (make (get_or xs i d))) → first_of (over (flat_map make (drop i xs))) ≡ first_of (over (flat_map make (drop (i + 1) xs)))
flat_past make xs i d h e = ap (λ (ys : List ℕ). first_of (over ys)) (flat_dropped make xs i d h) ∙ over_past (make (get_or xs i d)) (flat_map make (drop (i + 1) xs)) e
