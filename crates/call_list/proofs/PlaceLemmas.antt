-- A function that is found by its name has a small number.
use Rattle.std.proofs.Common.{◌≡◌, ℕ, ◌<◌, ◌≤◌, Bool, true, false, cond, nat_lt, not, List, map, length, Option, Some, None, refl, arith}
use Rattle.std.proofs.lemmas.Bool.Decides.{nat_tests}
use Rattle.std.proofs.lemmas.List.{length-map}
use Rattle.std.proofs.lemmas.List.Filters.{length-filter_both}
use Rattle.std.specs.Prelude.{position}
use Rattle.std.specs.List.{position_or_len}
use Rattle.ir_tree.specs.Functions.{is_profile_name, numbered}
use Rattle.ir_tree.specs.Names.{same}
use Rattle.ir_tree.specs.declared.types.Function.{Function}

some_below : (test : Bool) (n k : ℕ) → cond test (Some n) None ≡ Some k → (test ≡ true) × (n ≡ k)
some_below true n k e = (refl, cc)
some_below false n k e = absurd (cc)

below : (n most : ℕ) → nat_lt n most ≡ true → n < most
below n most h = grind (arith, nat_tests)

pub number-below : (fs : List Function) (name : List ℕ) (k : ℕ) → position (same name) (map (λ (f : Function). f.name) fs) ≡ Some k → k < length fs
number-below fs name k e =
    let names = map (λ (f : Function). f.name) fs in
    let (test, is) = some_below (nat_lt (position_or_len (same name) names) (length names)) (position_or_len (same name) names) k e in
    let small = below (position_or_len (same name) names) (length names) test in
    let long = length-map fs (λ (f : Function). f.name) in
    omega (arith, small, long, is)

pub numbered-le : (fs : List Function) → length (numbered fs) ≤ length fs
numbered-le fs =
    let both = length-filter_both (λ (f : Function). not (is_profile_name f.name)) (λ (f : Function). not (not (is_profile_name f.name))) (λ f. refl) fs in
    omega arith
