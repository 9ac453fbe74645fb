-- What is refused of an accepted module has numbers of 32 bits.
use Rattle.std.proofs.Common.{◌≡◌, ℕ, ◌<◌, ◌⊎◌, inl, inr, ◌==◌, nat_lt, Bool, true, false, cond, List, [], ◌∷◌, ◌++◌, filter, filter_map, Option, None, Some, refl, sym, subst, arith}
use Rattle.std.proofs.lemmas.Option.{none-some, same_Some}
use Rattle.std.specs.List.{cons_option}
use Rattle.instr_lower.specs.Made.{IsSmall}
use Rattle.ir_rules.specs.Lists.{Among}
use Rattle.ir_tree.specs.declared.types.Global1.{Global1}
use Rattle.ir_tree.specs.declared.types.Module.{Module}
use Rattle.lowered_rules.specs.Small.{IsSmallAsk}
use Rattle.lowering.specs.Asked.{Asked, Rise, Note, all_asked, symbol_asked}
use Rattle.lowering.specs.Refusals.{CountDiffers, HashDiffers, IndexPast, NoIncrement, Refusal, differs, failed, failed_by, name_of_unit, noted_alone, refusal, without_counters}
use Rattle.lowering.specs.Units.{asked_of, counters_asked, counters_told, hash_told, is_asked_of, name_held, names_used}
use Rattle.spec_lists.specs.Each.{first_of}

-- ---- lists

first_among : {X : Type 0} (xs : List X) (x : X) → first_of xs ≡ Some x → Among x xs
first_among [] x e = absurd (none-some x e)
first_among (y ∷ ys) x e = inl (sym (same_Some y x e))

among_parts : {X : Type 0} (xs ys : List X) (x : X) → Among x (xs ++ ys) → Among x xs ⊎ Among x ys
among_parts [] ys x at = inr at
among_parts (z ∷ zs) ys x (inl e) = inl (inl e)
among_parts (z ∷ zs) ys x (inr at) = by (among_parts zs ys x at)
  where
    by : Among x zs ⊎ Among x ys → Among x (z ∷ zs) ⊎ Among x ys
    by (inl h) = inl (inr h)
    by (inr h) = inr h

among_made : {X Y : Type 0} (h : X → Option Y) (xs : List X) (y : Y) → Among y (filter_map h xs) → (x : X) × Among x xs × (h x ≡ Some y)
among_made h [] y at = absurd at
among_made {X} {Y} h (x ∷ xs) y at = by (h x) refl at (among_made h xs y)
  where
    by : (o : Option Y) → h x ≡ o → Among y (cons_option o (filter_map h xs)) → (Among y (filter_map h xs) → (z : X) × Among z xs × (h z ≡ Some y)) → (z : X) × Among z (x ∷ xs) × (h z ≡ Some y)
    by None e at rest = (let r = rest at in (r.0, inr r.1, r.2))
    by (Some w) e (inl same) rest = (x, inl refl, subst (λ (v : Y). h x ≡ Some v) (sym same) e)
    by (Some w) e (inr at) rest = (let r = rest at in (r.0, inr r.1, r.2))

among_filter : {X : Type 0} (p : X → Bool) (xs : List X) (x : X) → Among x (filter p xs) → Among x xs
among_filter p [] x at = at
among_filter p (y ∷ ys) x at = by (p y) at (among_filter p ys x)
  where
    by : (b : Bool) → Among x (cond b (y ∷ filter p ys) (filter p ys)) → (Among x (filter p ys) → Among x ys) → Among x (y ∷ ys)
    by true (inl e) rest = inl e
    by true (inr at) rest = inr (rest at)
    by false at rest = inr (rest at)

-- ---- a call

module _ (name : List ℕ) where
  hash_small : (o : Option ℕ) (h : ℕ) (r : Refusal) → Among r (differs (HashDiffers name) o h) → IsSmall r
  hash_small None h r at = absurd at
  hash_small (Some first) h r at = by (first == h) at
    where
      by : (b : Bool) → Among r (cond b [] (HashDiffers name first h ∷ [])) → IsSmall r
      by true at = absurd at
      by false (inl e) = subst (λ (k : Refusal). IsSmall k) (sym e) tt
      by false (inr at) = absurd at

  count_small : (p : Option ℕ) (n : ℕ) (r : Refusal) → ((k : ℕ) → p ≡ Some k → k < 4294967296) → n < 4294967296 → Among r (differs (CountDiffers name) p n) → IsSmall r
  count_small None n r few less at = absurd at
  count_small (Some first) n r few less at = by (first == n) at
    where
      by : (b : Bool) → Among r (cond b [] (CountDiffers name first n ∷ [])) → IsSmall r
      by true at = absurd at
      by false (inl e) = subst (λ (k : Refusal). IsSmall k) (sym e) (few first refl, less)
      by false (inr at) = absurd at

  index_small : (b : Bool) (n c : ℕ) (r : Refusal) → n < 4294967296 → c < 4294967296 → Among r (cond b [] (IndexPast name c n ∷ [])) → IsSmall r
  index_small true n c r few less at = absurd at
  index_small false n c r few less (inl e) = subst (λ (k : Refusal). IsSmall k) (sym e) (less, few)
  index_small false n c r few less (inr at) = absurd at

module _ (asks : List Asked) (small : (a : Asked) → Among a asks → IsSmallAsk a) where
  counts_small : (a : Asked) (k : ℕ) → IsSmallAsk a → counters_asked a ≡ Some k → k < 4294967296
  counts_small (Rise symbol hash counters counter amount) k h e = (let few = h.0 in let same = same_Some counters k e in omega (arith, few, same))
  counts_small (Note symbol hash target site) k h e = absurd (none-some k e)

  told_small : (symbol : List ℕ) (k : ℕ) → counters_told symbol asks ≡ Some k → k < 4294967296
  told_small symbol k e =
      let a = among_made counters_asked (asked_of symbol asks) k (first_among (filter_map counters_asked (asked_of symbol asks)) k e) in
      counts_small a.0 k (small a.0 (among_filter (is_asked_of symbol) asks a.0 a.1)) a.2

  by_small : (name : List ℕ) (a : Asked) (r : Refusal) → IsSmallAsk a → Among r (failed_by asks name a) → IsSmall r
  by_small name (Rise s h n c amount) r few at = by (among_parts (differs (HashDiffers name) (hash_told s asks) h) (differs (CountDiffers name) (counters_told s asks) n ++ past) r at)
    where
      past : List Refusal
      past = cond (nat_lt c n) [] (IndexPast name c n ∷ [])

      less : n < 4294967296
      less = (let h = few.0 in omega (arith, h))

      by_later : Among r (differs (CountDiffers name) (counters_told s asks) n) ⊎ Among r past → IsSmall r
      by_later (inl at) = count_small name (counters_told s asks) n r (told_small s) less at
      by_later (inr at) = index_small name (nat_lt c n) n c r less few.1 at

      by : Among r (differs (HashDiffers name) (hash_told s asks) h) ⊎ Among r (differs (CountDiffers name) (counters_told s asks) n ++ past) → IsSmall r
      by (inl at) = hash_small name (hash_told s asks) h r at
      by (inr at) = by_later (among_parts (differs (CountDiffers name) (counters_told s asks) n) past r at)
  by_small name (Note s h target j) r few at = by (among_parts (differs (HashDiffers name) (hash_told s asks) h) [] r at)
    where
      by : Among r (differs (HashDiffers name) (hash_told s asks) h) ⊎ Among r [] → IsSmall r
      by (inl at) = hash_small name (hash_told s asks) h r at
      by (inr at) = absurd at

  alone_small : (g : Global1) (r : Refusal) → noted_alone asks g ≡ Some r → IsSmall r
  alone_small g r e = by (counters_told g.name asks) e
    where
      by : (o : Option ℕ) → without_counters g o ≡ Some r → IsSmall r
      by None e = subst (λ (k : Refusal). IsSmall k) (same_Some (NoIncrement (name_held g)) r e) tt
      by (Some n) e = absurd (none-some r e)

pub refusal_small : (m : Module) → ((a : Asked) → Among a (all_asked m) → IsSmallAsk a) → (r : Refusal) → refusal m ≡ Some r → IsSmall r
refusal_small m small r e =
    by (among_parts calls units r (first_among (calls ++ units) r e))
  where
    calls : List Refusal
    calls = filter_map (failed (all_asked m) m.globals) (all_asked m)

    units : List Refusal
    units = filter_map (noted_alone (all_asked m)) (filter (names_used (all_asked m)) m.globals)

    by : Among r calls ⊎ Among r units → IsSmall r
    by (inl at) =
        let a = among_made (failed (all_asked m) m.globals) (all_asked m) r at in
        let name = name_of_unit m.globals (symbol_asked a.0) in
        by_small (all_asked m) small name a.0 r (small a.0 a.1) (first_among (failed_by (all_asked m) name a.0) r a.2)
    by (inr at) =
        let g = among_made (noted_alone (all_asked m)) (filter (names_used (all_asked m)) m.globals) r at in
        alone_small (all_asked m) small g.0 r g.2
