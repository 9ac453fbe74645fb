-- The numbers that a phi's entries name, in rising order, are those of the blocks from which its block is entered exactly
-- where each label is named as often as it has positions.
use Rattle.std.proofs.Common.{◌≡◌, ◌≢◌, ℕ, zero, suc, ◌+◌, ◌<◌, ◌≤◌, Bool, true, false, cond, ◌==◌, ◌&&◌, nat_eq, List, [], ◌∷◌, get_or, length, Option, None, Some, unwrap_or, slice_get, refl, sym, ap, subst, ◌∙◌, inl, inr, ◌⊎◌, ◌↔◌, arith}
use Rattle.std.specs.Cmp.{both_ways}
use Rattle.std.specs.Cmp.Lexicographic.{pointwise, bytes_decides}
use Rattle.std.specs.List.{count_by, list_all}
use Rattle.std.specs.List.Sorted.{IsPermutation, IsSorted}
use Rattle.std.specs.Ordering.{nat_cmp}
use Rattle.std.proofs.lemmas.Bool.{and_from, eq-eqb, eqb-true, false≢true}
use Rattle.std.proofs.lemmas.List.Sorted.{IsNonDecreasingBy-from_sort, sum_by-IsPermutation}
use Rattle.std.proofs.lemmas.List.Sums.{sum_by-cons, sum_by-append}
use Rattle.std.proofs.lemmas.Option.{none-some, same_Some, slice_get_cases, slice_get_within}
use Rattle.check_flow.proofs.Apart.{and_left, and_right, once_from}
use Rattle.check_flow.proofs.Counts.{Rises, count, count_again, count_none, lower, one, one_other, one_same, rises_again, rises_from_order, unique}
use Rattle.check_flow.proofs.Inner.{HasLabel, is_same, same_is}
use Rattle.check_flow.specs.LookUps.{LabelOf}
use Rattle.check_flow.specs.Rising.{rises}
use Rattle.check_flow.specs.Phis.{are_as_many_all, arrivals, each_arrival, is_at, numbers_of}
use Rattle.ir_rules.specs.Lists.{Among, times}
use Rattle.ir_rules.specs.PhiEntries.{are_as_many, are_matched, has_value, have_one_value, positions, tails}
use Rattle.ir_tree.specs.Names.{same}
use Rattle.ir_tree.specs.Operands.{Entries, same_operand}
use Rattle.ir_tree.specs.Phis.{entry_for}
use Rattle.ir_tree.specs.Successors.{successors}
use Rattle.ir_tree.specs.declared.types.Block.{Block}
use Rattle.ir_tree.specs.declared.types.Operand.{Operand}
use Rattle.ir_tree.specs.declared.types.Operand.TheVariants as operand
use Rattle.spec_lists.specs.Each.{each}

abbrev Name : Type 0
Name = List ℕ

-- ---- tests of all members

module _ {X : Type 0} (test : X → Bool) where
  all_true : (xs : List X) → ((x : X) → Among x xs → test x ≡ true) → list_all test xs ≡ true
  all_true [] h = refl
  all_true (x ∷ xs) h = and_from (test x) (list_all test xs) (h x (inl refl)) (all_true xs (λ y at. h y (inr at)))

  all_at : (xs : List X) → list_all test xs ≡ true → (x : X) → Among x xs → test x ≡ true
  all_at [] h x at = absurd at
  all_at (y ∷ ys) h x (inl e) = ap test e ∙ and_left (test y) (list_all test ys) h
  all_at (y ∷ ys) h x (inr at) = all_at ys (and_right (test y) (list_all test ys) h) x at

among_at : {X : Type 0} (xs : List X) (x : X) → Among x xs → (i : ℕ) × (slice_get xs i ≡ Some x)
among_at [] x at = absurd at
among_at (y ∷ ys) x (inl e) = (0, ap Some (sym e))
among_at (y ∷ ys) x (inr at) = let rest = among_at ys x at in (suc rest.0, rest.1)

at_among : {X : Type 0} (xs : List X) (i : ℕ) (x : X) → slice_get xs i ≡ Some x → Among x xs
at_among [] i x at = absurd (none-some x at)
at_among (y ∷ ys) zero x at = inl (sym (same_Some y x at))
at_among (y ∷ ys) (suc i) x at = inr (at_among ys i x at)

same_item : {X : Type 0} (xs : List X) (i : ℕ) (x y : X) → slice_get xs i ≡ Some x → slice_get xs i ≡ Some y → x ≡ y
same_item xs i x y at there = same_Some x y (sym at ∙ there)

past : {X : Type 0} (xs : List X) (i : ℕ) → slice_get xs i ≡ None → length xs ≤ i
past {X} xs i none = by (slice_get_cases xs i).1
  where
    by : ((x : X) × (i < length xs) × (slice_get xs i ≡ Some x) × (get_or xs i x ≡ x)) ⊎ ((length xs ≤ i) × (slice_get xs i ≡ None)) → length xs ≤ i
    by (inl q) = absurd (none-some q.0 (sym none ∙ q.2))
    by (inr q) = q.0

times_cons : (n m : Name) (ns : List Name) → times n (m ∷ ns) ≡ cond (same n m) 1 0 + times n ns
times_cons n m ns = sum_by-cons (λ k. cond (same n k) 1 0) m ns

stands : (n : Name) (ns : List Name) → Among n ns → 1 ≤ times n ns
stands n [] at = absurd at
stands n (m ∷ ns) (inl e) = let here : ◌≡◌ {A = ℕ} (cond {A = ℕ} (same n m) 1 0) 1 = ap (λ (t : Bool). cond {A = ℕ} t 1 0) (is_same n m e) in omega (arith, here, times_cons n m ns)
stands n (m ∷ ns) (inr at) = omega (arith, stands n ns at, times_cons n m ns)

-- ---- look-ups that find the blocks with each label

module _ (bs : List Block) (known : LabelOf) (tells : (n : Name) (v : ℕ) → HasLabel bs n v ↔ (known n ≡ Some v)) where
  abbrev numbers : Entries → List ℕ
  numbers es = numbers_of known (length bs) es

  within : (n : Name) (v : ℕ) → known n ≡ Some v → v < length bs
  within n v e = let has = (tells n v).1 e in slice_get_within bs v has.0 has.1

  unlike : (v : ℕ) (w : Block) → slice_get bs v ≡ Some w → (n : Name) → same w.label n ≡ false → known n ≢ Some v
  unlike v w here n s e =
      let has = (tells n v).1 e in
      let label : w.label ≡ n = ap (λ (x : Block). x.label) (same_item bs v w has.0 here has.1) ∙ has.2 in
      false≢true (sym s ∙ is_same w.label n label)

  -- a label is found at its block alone
  found_at : (v : ℕ) (w : Block) → slice_get bs v ≡ Some w → (n : Name) → is_at v (known n) ≡ same w.label n
  found_at v w here n = by (same w.label n) refl
    where
      other : (o : Option ℕ) → o ≢ Some v → is_at v o ≡ false
      other None h = refl
      other (Some u) h = at (u == v) refl
        where
          at : (t : Bool) → (u == v) ≡ t → (u == v) ≡ false
          at true e = absurd (h (ap Some (eqb-true u v e)))
          at false e = e

      by : (t : Bool) → same w.label n ≡ t → is_at v (known n) ≡ t
      by true s = ap (λ (o : Option ℕ). is_at v o) ((tells n v).0 (w, here, same_is w.label n s)) ∙ eq-eqb v v refl
      by false s = other (known n) (unlike v w here n s)

  -- ---- entries

  -- a number that stands for an entry's label
  entry_counted : (v : ℕ) → v < length bs → (o : Option ℕ) → one v (unwrap_or o (length bs)) ≡ cond (is_at v o) 1 0
  entry_counted v low None = one_other v (length bs) (λ (e : length bs ≡ v). absurd (omega arith))
  entry_counted v low (Some u) = refl

  numbers_counted : (v : ℕ) (w : Block) → slice_get bs v ≡ Some w → (es : Entries) → count v (numbers es) ≡ times w.label (tails es)
  numbers_counted v w here [] = refl
  numbers_counted v w here (e ∷ es) =
      let first : one v (unwrap_or (known e.1) (length bs)) ≡ cond (same w.label e.1) 1 0 = entry_counted v (slice_get_within bs v w here) (known e.1) ∙ ap (λ (t : Bool). cond {A = ℕ} t 1 0) (found_at v w here e.1) in
      let all : count v (numbers (e ∷ es)) ≡ one v (unwrap_or (known e.1) (length bs)) + count v (numbers es) = sum_by-cons (one v) (unwrap_or (known e.1) (length bs)) (numbers es) in
      omega (arith, first, all, times_cons w.label e.1 (tails es), numbers_counted v w here es)

  -- an entry that names no block is counted behind the blocks
  unknown_counted : (n : Name) (es : Entries) → known n ≡ None → Among n (tails es) → 1 ≤ count (length bs) (numbers es)
  unknown_counted n [] e at = absurd at
  unknown_counted n (d ∷ es) e at = by at (λ k. unknown_counted n es e k)
    where
      all : count (length bs) (numbers (d ∷ es)) ≡ one (length bs) (unwrap_or (known d.1) (length bs)) + count (length bs) (numbers es)
      all = sum_by-cons (one (length bs)) (unwrap_or (known d.1) (length bs)) (numbers es)

      by : (n ≡ d.1) ⊎ Among n (tails es) → (Among n (tails es) → 1 ≤ count (length bs) (numbers es)) → 1 ≤ count (length bs) (numbers (d ∷ es))
      by (inl q) rest =
          let here : one (length bs) (unwrap_or (known d.1) (length bs)) ≡ 1 = ap (λ (o : Option ℕ). one (length bs) (unwrap_or o (length bs))) (ap known (sym q) ∙ e) ∙ one_same (length bs) in
          omega (arith, here, all)
      by (inr k) rest = omega (arith, rest k, all)

  -- where all entries name blocks none is counted behind them
  none_far : (es : Entries) → ((n : Name) → Among n (tails es) → (u : ℕ) × (known n ≡ Some u)) → (v : ℕ) → length bs ≤ v → count v (numbers es) ≡ 0
  none_far [] h v far = refl
  none_far (e ∷ es) h v far =
      let named = h e.1 (inl refl) in
      let low : named.0 < length bs = within e.1 named.0 named.1 in
      let here : one v (unwrap_or (known e.1) (length bs)) ≡ 0 = ap (λ (o : Option ℕ). one v (unwrap_or o (length bs))) named.1 ∙ one_other v named.0 (λ (q : named.0 ≡ v). absurd (omega arith)) in
      let all : count v (numbers (e ∷ es)) ≡ one v (unwrap_or (known e.1) (length bs)) + count v (numbers es) = sum_by-cons (one v) (unwrap_or (known e.1) (length bs)) (numbers es) in
      omega (arith, here, all, none_far es (λ n at. h n (inr at)) v far)

  positions_none : (n l : Name) → known n ≡ None → positions n l bs ≡ 0
  positions_none n l e = from bs (λ i x at. no i x at)
    where
      no : (i : ℕ) (x : Block) → slice_get bs i ≡ Some x → same n x.label ≡ false
      no i x at = by (same n x.label) refl
        where
          by : (t : Bool) → same n x.label ≡ t → same n x.label ≡ false
          by true s = absurd (none-some i (sym e ∙ (tells n i).0 (x, at, sym (same_is n x.label s))))
          by false s = s

      from : (xs : List Block) → ((i : ℕ) (x : Block) → slice_get xs i ≡ Some x → same n x.label ≡ false) → positions n l xs ≡ 0
      from [] h = refl
      from (x ∷ xs) h =
          let here : ◌≡◌ {A = ℕ} (cond {A = ℕ} (same n x.label) (times l (successors x.term)) 0) 0 = ap (λ (t : Bool). cond {A = ℕ} t (times l (successors x.term)) 0) (h 0 x refl) in
          omega (arith, here, sum_by-cons (λ (y : Block). cond {A = ℕ} (same n y.label) (times l (successors y.term)) 0) x xs, from xs (λ i y at. h (suc i) y at))

  -- ---- a block, and the blocks from which it is entered

  module _ (b : ℕ) (block : Block) (at : slice_get bs b ≡ Some block) where
    abbrev names_it : Name → Bool
    names_it to = is_at b (known to)

    abbrev from : ℕ → List Block → List ℕ
    from n xs = each (λ p x. each_arrival known b p (successors x.term)) n xs

    rises_each : (n : ℕ) (xs : List Block) → Rises n (from n xs)
    rises_each n [] = tt
    rises_each n (x ∷ xs) = rises_again names_it n n (successors x.term) (from (n + 1) xs) (omega arith) (lower (n + 1) n (from (n + 1) xs) (omega arith) (rises_each (n + 1) xs))

    from_cons : (v n : ℕ) (x : Block) (xs : List Block) → count v (from n (x ∷ xs)) ≡ count v (each_arrival known b n (successors x.term)) + count v (from (n + 1) xs)
    from_cons v n x xs = sum_by-append (one v) (each_arrival known b n (successors x.term)) (from (n + 1) xs)

    none_behind : (v n : ℕ) (xs : List Block) → n + length xs ≤ v → count v (from n xs) ≡ 0
    none_behind v n [] h = refl
    none_behind v n (x ∷ xs) h =
        let other : n ≢ v = λ (e : n ≡ v). absurd (omega arith) in
        omega (arith, from_cons v n x xs, count_none names_it n v (successors x.term) other, none_behind v (n + 1) xs (omega arith))

    arrival_counted : (n v : ℕ) (tos : List Name) → count v (each_arrival known b n tos) ≡ cond (n == v) (times block.label tos) 0
    arrival_counted n v tos = by (n == v) refl
      where
        by : (t : Bool) → (n == v) ≡ t → count v (each_arrival known b n tos) ≡ cond t (times block.label tos) 0
        by true e = subst (λ (u : ℕ). count u (each_arrival known b n tos) ≡ times block.label tos) (eqb-true n v e) (count_again names_it n tos ∙ (λ i. count_by (λ to. found_at b block at to i) tos))
        by false e = count_none names_it n v tos (λ (q : n ≡ v). false≢true (sym e ∙ eq-eqb n v q))

    positions_counted : (v : ℕ) (w : Block) → slice_get bs v ≡ Some w → positions w.label block.label bs ≡ count v (arrivals known b bs)
    positions_counted v w here = run 0 bs (λ i x there. numbered i x there)
      where
        numbered : (i : ℕ) (x : Block) → slice_get bs i ≡ Some x → same w.label x.label ≡ (0 + i == v)
        numbered i x there = by (same w.label x.label) refl (0 + i == v) refl
          where
            by : (s : Bool) → same w.label x.label ≡ s → (t : Bool) → (0 + i == v) ≡ t → s ≡ t
            by true e true d = refl
            by false e false d = refl
            by true e false d =
                let is : i ≡ v = same_Some i v (sym ((tells x.label i).0 (x, there, refl)) ∙ (tells x.label v).0 (w, here, same_is w.label x.label e)) in
                absurd (false≢true (sym d ∙ eq-eqb (0 + i) v (let q : 0 + i ≡ v = omega arith in q)))
            by false e true d =
                let sum : 0 + i ≡ v = eqb-true (0 + i) v d in
                let is : i ≡ v = omega arith in
                let one_block : x ≡ w = same_item bs v x w (subst (λ (j : ℕ). slice_get bs j ≡ Some x) is there) here in
                absurd (false≢true (sym e ∙ is_same w.label x.label (ap (λ (y : Block). y.label) (sym one_block))))

        run : (n : ℕ) (xs : List Block) → ((i : ℕ) (x : Block) → slice_get xs i ≡ Some x → same w.label x.label ≡ (n + i == v)) → positions w.label block.label xs ≡ count v (from n xs)
        run n [] h = refl
        run n (x ∷ xs) h =
            let number : (n + 0 == v) ≡ (n == v) = ap (λ (m : ℕ). m == v) (let q : n + 0 ≡ n = omega arith in q) in
            let here : cond {A = ℕ} (same w.label x.label) (times block.label (successors x.term)) 0 ≡ count v (each_arrival known b n (successors x.term)) = ap (λ (t : Bool). cond {A = ℕ} t (times block.label (successors x.term)) 0) (h 0 x refl ∙ number) ∙ sym (arrival_counted n v (successors x.term)) in
            omega (arith, here, sum_by-cons (λ (y : Block). cond {A = ℕ} (same w.label y.label) (times block.label (successors y.term)) 0) x xs, from_cons v n x xs, run (n + 1) xs (λ i y there. h (suc i) y there ∙ ap (λ (m : ℕ). m == v) (let q : n + suc i ≡ n + 1 + i = omega arith in q)))

    -- ---- as many entries as positions

    module _ (es : Entries) where
      Agree : Type 0
      Agree = (v : ℕ) → count v (numbers es) ≡ count v (arrivals known b bs)

      as_many_at : Agree → (v : ℕ) (w : Block) → slice_get bs v ≡ Some w → are_as_many bs block.label es w.label ≡ true
      unfolding Agree
      as_many_at h v w here = eq-eqb (times w.label (tails es)) (positions w.label block.label bs) (sym (numbers_counted v w here es) ∙ h v ∙ sym (positions_counted v w here))

      when_agree : Agree → are_as_many_all bs block.label es ≡ true
      unfolding Agree
      when_agree h = and_from (list_all (are_as_many bs block.label es) (tails es)) (list_all (λ x. are_as_many bs block.label es x.label) bs) (all_true (are_as_many bs block.label es) (tails es) named) (all_true (λ x. are_as_many bs block.label es x.label) bs (λ x there. let place = among_at bs x there in as_many_at h place.0 x place.1))
        where
          named : (n : Name) → Among n (tails es) → are_as_many bs block.label es n ≡ true
          named n there = by (known n) refl
            where
              by : (o : Option ℕ) → known n ≡ o → are_as_many bs block.label es n ≡ true
              by None e = absurd (omega (arith, unknown_counted n es e there, h (length bs), none_behind (length bs) 0 bs (omega arith)))
              by (Some v) e = let has = (tells n v).1 e in subst (λ (m : Name). are_as_many bs block.label es m ≡ true) has.2 (as_many_at h v has.0 has.1)

      agree : are_as_many_all bs block.label es ≡ true → Agree
      unfolding Agree
      agree many v = by (slice_get bs v) refl
        where
          of_names : list_all (are_as_many bs block.label es) (tails es) ≡ true
          of_names = and_left (list_all (are_as_many bs block.label es) (tails es)) (list_all (λ x. are_as_many bs block.label es x.label) bs) many

          of_blocks : list_all (λ x. are_as_many bs block.label es x.label) bs ≡ true
          of_blocks = and_right (list_all (are_as_many bs block.label es) (tails es)) (list_all (λ x. are_as_many bs block.label es x.label) bs) many

          named : (n : Name) → Among n (tails es) → (u : ℕ) × (known n ≡ Some u)
          named n there = from_known (known n) refl
            where
              from_known : (o : Option ℕ) → known n ≡ o → (u : ℕ) × (known n ≡ Some u)
              from_known None e = absurd (omega (arith, stands n (tails es) there, eqb-true (times n (tails es)) (positions n block.label bs) (all_at (are_as_many bs block.label es) (tails es) of_names n there), positions_none n block.label e))
              from_known (Some u) e = (u, e)

          by : (o : Option Block) → slice_get bs v ≡ o → count v (numbers es) ≡ count v (arrivals known b bs)
          by None e =
              let far : length bs ≤ v = past bs v e in
              none_far es named v far ∙ sym (none_behind v 0 bs (omega arith))
          by (Some w) e = numbers_counted v w e es ∙ eqb-true (times w.label (tails es)) (positions w.label block.label bs) (all_at (λ x. are_as_many bs block.label es x.label) bs of_blocks w (at_among bs v w e)) ∙ positions_counted v w e

      -- what the comparison of the sorted numbers tells
      pub compared : (given sorted enters : List ℕ) → given ≡ numbers es → IsPermutation given sorted → IsSorted nat_cmp sorted → enters ≡ arrivals known b bs → pointwise nat_eq sorted enters ≡ are_as_many_all bs block.label es
      unfolding Agree
      compared given sorted enters is moved up into = both_ways (pointwise nat_eq sorted enters) (are_as_many_all bs block.label es) there back
        where
          counted : (v : ℕ) → count v sorted ≡ count v (numbers es)
          counted v = sum_by-IsPermutation (one v) given sorted moved ∙ ap (λ (ns : List ℕ). count v ns) is

          there : pointwise nat_eq sorted enters ≡ true → are_as_many_all bs block.label es ≡ true
          there e = when_agree (λ v. sym (counted v) ∙ ap (λ (ns : List ℕ). count v ns) ((bytes_decides sorted enters).0 e ∙ into))

          back : are_as_many_all bs block.label es ≡ true → pointwise nat_eq sorted enters ≡ true
          back many = (bytes_decides sorted enters).1 (unique 0 sorted (arrivals known b bs) (rises_from_order sorted (IsNonDecreasingBy-from_sort (λ n. n) sorted up)) (rises_each 0 bs) (λ v. counted v ∙ agree many v) ∙ sym into)

-- ---- the rule by its parts

pub matched_not : (bs : List Block) (l : Name) (es : Entries) → are_as_many_all bs l es ≡ false → are_matched bs l es ≡ false
matched_not bs l es h = by (list_all (are_as_many bs l es) (tails es)) (list_all (λ b. are_as_many bs l es b.label) bs) h
  where
    by : (s t : Bool) → (s && t) ≡ false → (s && (t && have_one_value es)) ≡ false
    by true true e = absurd (cc)
    by true false e = refl
    by false t e = refl

pub matched_if : (bs : List Block) (l : Name) (es : Entries) → are_as_many_all bs l es ≡ true → are_matched bs l es ≡ have_one_value es
matched_if bs l es h = by (list_all (are_as_many bs l es) (tails es)) (list_all (λ b. are_as_many bs l es b.label) bs) h
  where
    by : (s t : Bool) → (s && t) ≡ true → (s && (t && have_one_value es)) ≡ have_one_value es
    by true true e = refl
    by true false e = absurd (cc)
    by false t e = absurd (cc)

-- ---- blocks that are named once each

same_self : (o : Operand) → same_operand o o ≡ true
same_self (operand.Int x) = eq-eqb x x refl
same_self operand.Null = refl
same_self (operand.Local n) = is_same n n refl
same_self (operand.Global n) = is_same n n refl

among_tail : (es : Entries) (d : Operand × Name) → Among d es → Among d.1 (tails es)
among_tail [] d at = absurd at
among_tail (e ∷ es) d (inl q) = inl (ap (λ (c : Operand × Name). c.1) q)
among_tail (e ∷ es) d (inr at) = inr (among_tail es d at)

first_entry : (es : Entries) (d : Operand × Name) → Among d es → times d.1 (tails es) ≤ 1 → entry_for d.1 es ≡ Some d
first_entry [] d at few = absurd at
first_entry (e ∷ es) d (inl q) few = ap (λ (t : Bool). cond {A = Option (Operand × Name)} t (Some e) (entry_for d.1 es)) (is_same d.1 e.1 (ap (λ (c : Operand × Name). c.1) q)) ∙ ap Some (sym q)
first_entry (e ∷ es) d (inr at) few = by (same d.1 e.1) refl (first_entry es d at)
  where
    all : times d.1 (tails (e ∷ es)) ≡ cond (same d.1 e.1) 1 0 + times d.1 (tails es)
    all = times_cons d.1 e.1 (tails es)

    by : (t : Bool) → same d.1 e.1 ≡ t → (times d.1 (tails es) ≤ 1 → entry_for d.1 es ≡ Some d) → cond {A = Option (Operand × Name)} t (Some e) (entry_for d.1 es) ≡ Some d
    by true s rest =
        let here : ◌≡◌ {A = ℕ} (cond {A = ℕ} (same d.1 e.1) 1 0) 1 = ap (λ (t : Bool). cond {A = ℕ} t 1 0) s in
        absurd (omega (arith, few, all, here, stands d.1 (tails es) (among_tail es d at)))
    by false s rest = rest (omega (arith, few, all))

once_one_value : (es : Entries) → ((n : Name) → Among n (tails es) → times n (tails es) ≤ 1) → have_one_value es ≡ true
once_one_value es few = all_true (λ e. has_value e.0 (entry_for e.1 es)) es (λ d at. ap (λ (o : Option (Operand × Name)). has_value d.0 o) (first_entry es d at (few d.1 (among_tail es d at))) ∙ same_self d.0)

-- where the block is entered once from each other one, values need not be compared
pub matched_rising : (bs : List Block) (known : LabelOf) → ((n : Name) (v : ℕ) → HasLabel bs n v ↔ (known n ≡ Some v)) → (b : ℕ) (block : Block) → slice_get bs b ≡ Some block → (es : Entries) (enters : List ℕ) → enters ≡ arrivals known b bs → rises None enters ≡ true → are_as_many_all bs block.label es ≡ true → are_matched bs block.label es ≡ true
matched_rising bs known tells b block at es enters into up many = matched_if bs block.label es many ∙ once_one_value es few
  where
    of_names : list_all (are_as_many bs block.label es) (tails es) ≡ true
    of_names = and_left (list_all (are_as_many bs block.label es) (tails es)) (list_all (λ x. are_as_many bs block.label es x.label) bs) many

    once : (v : ℕ) → count v (arrivals known b bs) ≤ 1
    once v = subst (λ (ns : List ℕ). count v ns ≤ 1) into (once_from None enters up v)

    few : (n : Name) → Among n (tails es) → times n (tails es) ≤ 1
    few n there = by (known n) refl
      where
        as_many : times n (tails es) ≡ positions n block.label bs
        as_many = eqb-true (times n (tails es)) (positions n block.label bs) (all_at (are_as_many bs block.label es) (tails es) of_names n there)

        by : (o : Option ℕ) → known n ≡ o → times n (tails es) ≤ 1
        by None e = omega (arith, as_many, positions_none bs known tells n block.label e)
        by (Some v) e =
            let has = (tells n v).1 e in
            let placed : positions n block.label bs ≡ count v (arrivals known b bs) = ap (λ (m : Name). positions m block.label bs) (sym has.2) ∙ positions_counted bs known tells b block at v has.0 has.1 in
            omega (arith, as_many, placed, once v)
