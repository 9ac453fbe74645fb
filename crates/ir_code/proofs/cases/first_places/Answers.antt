use Rattle.std.proofs.Common.{◌≡◌, ◌==◌, ◌+◌, ℕ, Bool, true, false, cond, is_some, position, List, [], ◌∷◌, ◌++◌, Option, Some, None, ◌<◌, length, take, get_or, refl, sym, ap, ◌∙◌, arith}
use Rattle.std.proofs.lemmas.List.{take_more, length-take-le}
use Rattle.std.specs.BTreeMap as tree
use Rattle.std.specs.Ordering.{nat_cmp}
use Rattle.ir_tree.proofs.Places.{position-push-kept, position-push-passed, position-push-found}
use Rattle.ir_code.proofs.cases.first_places.Goals as goal

none_from : {X : Type 0} (o : Option X) → is_some o ≡ false → o ≡ None
none_from None h = refl
none_from (Some x) h = cc

position_push : {X : Type 0} (p : X → Bool) (xs : List X) (y : X) → position p (xs ++ y ∷ []) ≡ cond (is_some (position p xs)) (position p xs) (cond (p y) (Some (length xs)) None)
position_push {X} p xs y = by (is_some (position p xs)) (p y) refl refl
  where
    by : (b c : Bool) → is_some (position p xs) ≡ b → p y ≡ c → position p (xs ++ y ∷ []) ≡ cond b (position p xs) (cond c (Some (length xs)) None)
    by true c h k = position-push-kept p xs y h
    by false true h k = position-push-found p xs y k h
    by false false h k = position-push-passed p xs y k ∙ none_from (position p xs) h

-- one more value has its place, unless it has one
place_more : (vs : List ℕ) (i n : ℕ) (before after : Option ℕ) → i < length vs → before ≡ position (λ v. v == n) (take i vs) → after ≡ cond (is_some before) before (cond (get_or vs i 0 == n) (Some i) None) → after ≡ position (λ v. v == n) (take (i + 1) vs)
place_more vs i n before after h was is =
    let size : i ≡ length (take i vs) = omega (arith, length-take-le i vs) in
    is
    ∙ (λ j. cond (is_some (was j)) (was j) (cond (get_or vs i 0 == n) (Some (size j)) None))
    ∙ sym (position_push (λ v. v == n) (take i vs) (get_or vs i 0))
    ∙ sym (ap (λ (xs : List ℕ). position (λ v. v == n) xs) (take_more vs i 0 h))

pub loop-i-preserved : goal.loop-i-preserved
loop-i-preserved c n =
    place_more c.args.values.now c.loop-i.i n (tree.get nat_cmp c.loop-i.places n) (tree.get nat_cmp c.add_place.new.places n) (omega (arith, c.loop-i-test.true)) (c.loop-i.invariant n) (c.in_ok-add_place.ensures n)
