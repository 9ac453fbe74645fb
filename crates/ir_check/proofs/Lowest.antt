-- The first fault of a module, function by function.
use Rattle.std.proofs.Common.{◌≡◌, ℕ, ◌+◌, ◌<◌, ◌≤◌, Bool, true, false, cond, nat_lt, List, [], ◌∷◌, ◌++◌, map, take, length, get_or, Option, None, Some, refl, sym, ap, ◌∙◌, arith}
use Rattle.std.proofs.lemmas.Bool.Decides.{nat_tests}
use Rattle.std.proofs.lemmas.Option.{none-some, same_Some}
use Rattle.ir_check.specs.Faults.{faults, function_rules, lowest, numbered}
use Rattle.ir_rules.specs.Parts.{Rule, function_places}
use Rattle.ir_rules.specs.declared.place.Place.{Place}
use Rattle.ir_tree.specs.declared.types.Function.{Function}
use Rattle.ir_tree.specs.declared.types.Module.{Module}
use Rattle.rule_groups.specs.Groups.{broken_in}
use Rattle.spec_lists.specs.Each.{each, first_of}
use Rattle.spec_lists.proofs.Each.{each_taken}

abbrev Fault : Type 0
Fault = ℕ × Place

-- the first fault has no number below n
module _ (given : Rule → List Place) where
  mutual_high : (n : ℕ) (r : Rule) (rs : List Rule) → ((a : Fault) → first_of (numbered given (n + 1) rs) ≡ Some a → n + 1 ≤ a.0) → (ps : List Place) (a : Fault) → first_of (map (λ p. (n, p)) ps ++ numbered given (n + 1) rs) ≡ Some a → n ≤ a.0
  mutual_high n r rs rest [] a e = let k : n + 1 ≤ a.0 = rest a e in omega (arith, k)
  mutual_high n r rs rest (p ∷ ps) a e =
      let same : (n, p) ≡ a = same_Some (n, p) a e in
      let k : n ≡ a.0 = ap (λ (b : Fault). b.0) same in
      omega (arith, k)

  high : (n : ℕ) (rs : List Rule) → (a : Fault) → first_of (numbered given n rs) ≡ Some a → n ≤ a.0
  high n [] a e = absurd (none-some a e)
  high n (r ∷ rs) a e = mutual_high n r rs (λ b d. high (n + 1) rs b d) (given r) a e

later : (n : ℕ) (p : Place) (o : Option Fault) → ((a : Fault) → o ≡ Some a → n + 1 ≤ a.0) → ◌≡◌ {A = Option Fault} (Some (n, p)) (lowest o (Some (n, p)))
later n p None h = refl
later n p (Some a) h =
    let k : n + 1 ≤ a.0 = h a refl in
    let less : nat_lt n a.0 ≡ true = grind (arith, nat_tests) in
    ap (λ (t : Bool). cond {A = Option Fault} t (Some (n, p)) (Some a)) (sym less)

earlier : (n : ℕ) (p : Place) (o : Option Fault) → ((a : Fault) → o ≡ Some a → n + 1 ≤ a.0) → ◌≡◌ {A = Option Fault} (Some (n, p)) (lowest (Some (n, p)) o)
earlier n p None h = refl
earlier n p (Some a) h =
    let k : n + 1 ≤ a.0 = h a refl in
    let more : nat_lt a.0 n ≡ false = grind (arith, nat_tests) in
    ap (λ (t : Bool). cond {A = Option Fault} t (Some a) (Some (n, p))) (sym more)

of_one_rule : (n : ℕ) (p q : Place) → ◌≡◌ {A = Option Fault} (Some (n, p)) (lowest (Some (n, p)) (Some (n, q)))
of_one_rule n p q =
    let no : nat_lt n n ≡ false = grind (arith, nat_tests) in
    ap (λ (t : Bool). cond {A = Option Fault} t (Some (n, q)) (Some (n, p))) (sym no)

-- where each rule's places are two lists put together
module _ (old new : Rule → List Place) where
  merged : (n : ℕ) (rs : List Rule) → first_of (numbered (λ r. old r ++ new r) n rs) ≡ lowest (first_of (numbered old n rs)) (first_of (numbered new n rs))
  merged n [] = refl
  merged n (r ∷ rs) = by (old r) (new r) (merged (n + 1) rs)
    where
      by : (os ns : List Place) → first_of (numbered (λ q. old q ++ new q) (n + 1) rs) ≡ lowest (first_of (numbered old (n + 1) rs)) (first_of (numbered new (n + 1) rs)) → first_of (map (λ p. (n, p)) (os ++ ns) ++ numbered (λ q. old q ++ new q) (n + 1) rs) ≡ lowest (first_of (map (λ p. (n, p)) os ++ numbered old (n + 1) rs)) (first_of (map (λ p. (n, p)) ns ++ numbered new (n + 1) rs))
      by [] [] rest = rest
      by [] (p ∷ ns) rest = later n p (first_of (numbered old (n + 1) rs)) (high old (n + 1) rs)
      by (p ∷ os) [] rest = earlier n p (first_of (numbered new (n + 1) rs)) (high new (n + 1) rs)
      by (p ∷ os) (q ∷ ns) rest = of_one_rule n p q

pub none_yet : (m : Module) → first_of (faults m []) ≡ None
unfolding faults
none_yet m = refl

-- one function further
pub further : (m : Module) (fs : List Function) (k : ℕ) (f : Function) (before here : Option Fault) → k < length fs → f ≡ get_or fs k f → before ≡ first_of (faults m (take k fs)) → here ≡ first_of (broken_in k f 7 (function_rules m)) → lowest before here ≡ first_of (faults m (take (k + 1) fs))
unfolding faults broken_in
further m fs k f before here within is so_far found =
    let old : Rule → List Place = λ r. each (function_places r) 0 (take k fs) in
    let new : Rule → List Place = λ r. function_places r k f in
    let step : (r : Rule) → each (function_places r) 0 (take (k + 1) fs) ≡ old r ++ new r = λ r. each_taken (function_places r) fs k f within ∙ ap (λ (g : Function). old r ++ function_places r k g) (sym is) in
    let all : first_of (numbered (λ r. each (function_places r) 0 (take (k + 1) fs)) 7 (function_rules m)) ≡ first_of (numbered (λ r. old r ++ new r) 7 (function_rules m)) = λ i. first_of (numbered (λ r. step r i) 7 (function_rules m)) in
    (λ i. lowest (so_far i) (found i)) ∙ sym (merged old new 7 (function_rules m)) ∙ sym all
