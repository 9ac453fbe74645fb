-- Fresh names are free; those for different hints differ, and they are names.
use Rattle.std.proofs.Common.{◌≡◌, ℕ, zero, suc, ◌+◌, ◌==◌, ◌≤◌, ◌<◌, ◌^◌, ◌%◌, append_assoc, Bool, true, false, not, cond, List, [], ◌∷◌, ◌++◌, length, count_by, decimal, codes, Some, is_some, slice_index, refl, sym, ◌∙◌, ap, arith, inl, inr, ◌⊎◌, zero-add, add-zero}
use Rattle.std.specs.Cmp.Lexicographic.{bytes_decides}
use Rattle.std.specs.List.{list_all}
use Rattle.std.specs.Map.{lookup}
use Rattle.std.proofs.lemmas.Bool.{and_from, and_parts, ne_eqb}
use Rattle.std.proofs.lemmas.Fmt.{decimal_by_steps, decimal_injective}
use Rattle.std.proofs.lemmas.List.{append_cancel_left, length-append}
use Rattle.gen_plan.specs.Fresh.{edge_hint, free_from, fresh, is_taken, select_hint, target_hint}
use Rattle.ir_tree.specs.FunctionNames.{candidate}
use Rattle.ir_tree.specs.Locals.{Entry, locals}
use Rattle.ir_tree.specs.Names.{same}
use Rattle.ir_tree.specs.Spelling.{is_local_name, is_quotable}
use Rattle.ir_tree.specs.declared.types.Function.{Function}
use Rattle.spec_items.proofs.Items.{count_cons}

same_self : (n : List ℕ) → same n n ≡ true
same_self n = (bytes_decides n n).1 refl

-- ---- the names that are tried

-- where the search stops: all names before were taken, and this one is free or the last
record Stops (taken : List ℕ → Bool) (hint : List ℕ) (k n : ℕ) : Type 0 where
  at : ℕ
  within : at ≤ n
  name : free_from taken hint k n ≡ candidate hint (k + at)
  before : (j : ℕ) → j < at → taken (candidate hint (k + j)) ≡ true
  free : (taken (candidate hint (k + at)) ≡ false) ⊎ (at ≡ n)

stops : (taken : List ℕ → Bool) (hint : List ℕ) (k n : ℕ) → Stops taken hint k n
stops taken hint k zero = record {
  at = 0;
  within = omega arith;
  name = ap (candidate hint) (sym (add-zero k));
  before = λ j h. absurd (omega (arith, h));
  free = inr refl;
}
stops taken hint k (suc n) = by (taken (candidate hint k)) refl (stops taken hint (k + 1) n)
  where
    by : (b : Bool) → taken (candidate hint k) ≡ b → Stops taken hint (k + 1) n → Stops taken hint k (suc n)
    by false t later = record {
      at = 0;
      within = omega arith;
      name = ap (λ b. cond b (free_from taken hint (k + 1) n) (candidate hint k)) t ∙ ap (candidate hint) (sym (add-zero k));
      before = λ j h. absurd (omega (arith, h));
      free = inl (ap (λ j. taken (candidate hint j)) (add-zero k) ∙ t);
    }
    by true t later = record {
      at = suc later.at;
      within = (let h = later.within in omega (arith, h));
      name = ap (λ b. cond b (free_from taken hint (k + 1) n) (candidate hint k)) t ∙ later.name ∙ ap (candidate hint) (further later.at);
      before = λ j h. earlier j h;
      free = last later.free;
    }
      where
        further : (j : ℕ) → k + 1 + j ≡ k + suc j
        further j = omega arith

        earlier : (j : ℕ) → j < suc later.at → taken (candidate hint (k + j)) ≡ true
        earlier zero h = ap (λ j. taken (candidate hint j)) (add-zero k) ∙ t
        earlier (suc j) h = ap (λ i. taken (candidate hint i)) (sym (further j)) ∙ later.before j (omega (arith, h))

        last : (taken (candidate hint (k + 1 + later.at)) ≡ false) ⊎ (later.at ≡ n) → (taken (candidate hint (k + suc later.at)) ≡ false) ⊎ (suc later.at ≡ suc n)
        last (inl f) = inl (ap (λ i. taken (candidate hint i)) (sym (further later.at)) ∙ f)
        last (inr e) = inr (ap (λ i. suc i) e)

-- ---- candidates differ

longer : (hint rest : List ℕ) (b : ℕ) → hint ≡ hint ++ b ∷ rest → ⊥
longer hint rest b e =
    let l : length hint ≡ length (hint ++ b ∷ rest) = ap length e in
    let m = length-append hint (b ∷ rest) in
    let n : length (b ∷ rest) ≡ suc (length rest) = refl in
    absurd (omega (arith, l, m, n))

same_rest : (a b : ℕ) (x y : List ℕ) → ◌≡◌ {A = List ℕ} (a ∷ x) (b ∷ y) → x ≡ y
same_rest a b x y e = cc

pub candidates_differ : (hint : List ℕ) (i j : ℕ) → i < 2 ^ 64 → j < 2 ^ 64 → candidate hint i ≡ candidate hint j → i ≡ j
candidates_differ hint zero zero small few e = refl
candidates_differ hint zero (suc j) small few e = absurd (longer hint (decimal (suc j)) 46 e)
candidates_differ hint (suc i) zero small few e = absurd (longer hint (decimal (suc i)) 46 (sym e))
candidates_differ hint (suc i) (suc j) small few e =
    decimal_injective (suc i) (suc j) small few (same_rest 46 46 (decimal (suc i)) (decimal (suc j)) (append_cancel_left hint (46 ∷ decimal (suc i)) (46 ∷ decimal (suc j)) e))

-- ---- more names than places

abbrev upto : (ℕ → ℕ) → ℕ → ℕ
upto w zero = 0
upto w (suc c) = upto w c + w c

upto_sum : (u v : ℕ → ℕ) (c : ℕ) → upto (λ j. u j + v j) c ≡ upto u c + upto v c
upto_sum u v zero = refl
upto_sum u v (suc c) = (let h = upto_sum u v c in omega (arith, h))

upto_same : (u v : ℕ → ℕ) (c : ℕ) → ((j : ℕ) → j < c → u j ≡ v j) → upto u c ≡ upto v c
upto_same u v zero h = refl
upto_same u v (suc c) h = (let here = h c (omega arith) in let later = upto_same u v c (λ j l. h j (omega (arith, l))) in omega (arith, here, later))

upto_least : (w : ℕ → ℕ) (c : ℕ) → ((j : ℕ) → j < c → 1 ≤ w j) → c ≤ upto w c
upto_least w zero h = omega arith
upto_least w (suc c) h = (let here = h c (omega arith) in let later = upto_least w c (λ j l. h j (omega (arith, l))) in omega (arith, here, later))

abbrev one_if : Bool → ℕ
one_if b = cond b 1 0

module _ {X : Type 0} (test : ℕ → X → Bool) (c : ℕ) (apart : (i j : ℕ) (x : X) → i < c → j < c → test i x ≡ true → test j x ≡ true → i ≡ j) where
  zeros : (n : ℕ) → upto (λ j. 0) n ≡ 0
  zeros zero = refl
  zeros (suc n) = (let e = zeros n in omega (arith, e))

  none_before : (x : X) (n : ℕ) → suc n ≤ c → test n x ≡ true → (j : ℕ) → j < n → one_if (test j x) ≡ 0
  none_before x n h t j l = by (test j x) refl
    where
      by : (b : Bool) → test j x ≡ b → one_if (test j x) ≡ 0
      by true u = absurd (let e = apart j n x (omega (arith, l, h)) (omega (arith, h)) u t in omega (arith, e, l))
      by false u = ap one_if u

  one_each : (x : X) (n : ℕ) → n ≤ c → upto (λ j. one_if (test j x)) n ≤ 1
  one_each x zero h = omega arith
  one_each x (suc n) h = by (test n x) refl (one_each x n (omega (arith, h)))
    where
      by : (b : Bool) → test n x ≡ b → upto (λ j. one_if (test j x)) n ≤ 1 → upto (λ j. one_if (test j x)) n + one_if (test n x) ≤ 1
      by true t later =
          let none = upto_same (λ j. one_if (test j x)) (λ j. 0) n (none_before x n h t) in
          let z = zeros n in
          let one : one_if (test n x) ≡ 1 = ap one_if t in
          omega (arith, none, z, one)
      by false t later = (let none : one_if (test n x) ≡ 0 = ap one_if t in omega (arith, none, later))

  -- each item is counted once at most
  counts_fit : (xs : List X) → upto (λ j. count_by (test j) xs) c ≤ length xs
  counts_fit [] =
      let e = upto_same (λ j. count_by (test j) []) (λ j. 0) c (λ j l. refl) in
      let z = zeros c in
      omega (arith, e, z)
  counts_fit (x ∷ xs) =
      let s = upto_same (λ j. count_by (test j) (x ∷ xs)) (λ j. one_if (test j x) + count_by (test j) xs) c (λ j l. count_cons (test j) x xs) in
      let p = upto_sum (λ j. one_if (test j x)) (λ j. count_by (test j) xs) c in
      let one = one_each x c (omega arith) in
      let later = counts_fit xs in
      let n : length (x ∷ xs) ≡ suc (length xs) = refl in
      omega (arith, s, p, one, later, n)

-- ---- look-ups

lookup_counted : (test : List ℕ → Bool) (es : List Entry) → is_some (lookup test es) ≡ true → 1 ≤ count_by (λ (e : Entry). test e.0) es
lookup_counted test [] h = absurd (cc)
lookup_counted test (e ∷ es) h = by (test e.0) refl (λ more. lookup_counted test es more) h
  where
    by : (b : Bool) → test e.0 ≡ b → (is_some (lookup test es) ≡ true → 1 ≤ count_by (λ (e : Entry). test e.0) es) → is_some (cond b (Some e.1) (lookup test es)) ≡ true → 1 ≤ count_by (λ (e : Entry). test e.0) (e ∷ es)
    by true t later g =
        let c = count_cons (λ (e : Entry). test e.0) e es in
        let one : one_if (test e.0) ≡ 1 = ap one_if t in
        omega (arith, c, one)
    by false t later g =
        let c = count_cons (λ (e : Entry). test e.0) e es in
        let more = later g in
        omega (arith, c, more)

-- ---- fresh names

module _ (f : Function) (few : suc (length (locals f)) < 2 ^ 64) where
  -- the names up to one more than the locals are not all taken
  not_all_taken : (hint : List ℕ) → ((j : ℕ) → j < suc (length (locals f)) → is_taken f (candidate hint j) ≡ true) → ⊥
  not_all_taken hint all =
      let fits = counts_fit (λ j (e : Entry). same (candidate hint j) e.0) (suc (length (locals f)))
      (λ i j e l k t u. candidates_differ hint i j (omega (arith, l, few)) (omega (arith, k, few)) ((bytes_decides (candidate hint i) e.0).0 t ∙ sym ((bytes_decides (candidate hint j) e.0).0 u))) (locals f) in
      let least = upto_least (λ j. count_by (λ (e : Entry). same (candidate hint j) e.0) (locals f)) (suc (length (locals f))) (λ j l. lookup_counted (same (candidate hint j)) (locals f) (all j l)) in
      absurd (omega (arith, fits, least))

  pub fresh_is_free : (hint : List ℕ) → is_taken f (fresh f hint) ≡ false
  fresh_is_free hint = by (stops (is_taken f) hint 0 (length (locals f)))
    where
      by : Stops (is_taken f) hint 0 (length (locals f)) → is_taken f (fresh f hint) ≡ false
      by s = free (is_taken f (candidate hint (0 + s.at))) refl s.free
        where
          free : (b : Bool) → is_taken f (candidate hint (0 + s.at)) ≡ b → (is_taken f (candidate hint (0 + s.at)) ≡ false) ⊎ (s.at ≡ length (locals f)) → is_taken f (fresh f hint) ≡ false
          free false t h = ap (is_taken f) s.name ∙ t
          free true t (inl h) = ap (is_taken f) s.name ∙ h
          free true t (inr last) = absurd (not_all_taken hint (λ j l. taken j (lt_or j s.at (omega (arith, l, last)))))
            where
              lt_or : (j n : ℕ) → j ≤ n → (j < n) ⊎ (j ≡ n)
              lt_or j n l = grind arith

              taken : (j : ℕ) → (j < s.at) ⊎ (j ≡ s.at) → is_taken f (candidate hint j) ≡ true
              taken j (inl l) = ap (λ i. is_taken f (candidate hint i)) (sym (zero-add j)) ∙ s.before j l
              taken j (inr e) = ap (λ i. is_taken f (candidate hint i)) (e ∙ sym (zero-add s.at)) ∙ t

  -- a fresh name is some candidate of its hint
  pub fresh_is_candidate : (hint : List ℕ) → (t : ℕ) × (t < 2 ^ 64) × (fresh f hint ≡ candidate hint t)
  fresh_is_candidate hint =
      let s = stops (is_taken f) hint 0 (length (locals f)) in
      let w = s.within in
      (s.at, omega (arith, w, few), s.name ∙ ap (candidate hint) (zero-add s.at))

-- ---- hints with two numbers

-- the bytes before the first dot
abbrev before_dot : List ℕ → List ℕ
before_dot [] = []
before_dot (b ∷ bs) = cond (b == 46) [] (b ∷ before_dot bs)

abbrev NoDot : List ℕ → Type 0
NoDot [] = Unit {0}
NoDot (b ∷ bs) = ((b == 46) ≡ false) × NoDot bs

no_dot-append : (xs ys : List ℕ) → NoDot xs → NoDot ys → NoDot (xs ++ ys)
no_dot-append [] ys a b = b
no_dot-append (x ∷ xs) ys a b = (a.0, no_dot-append xs ys a.1 b)

decimal_no_dot : (n : ℕ) → n < 2 ^ 64 → NoDot (decimal n)
decimal_no_dot n small =
    decimal_by_steps (λ n ds. NoDot ds) (λ n h. (digit n h, tt)) (λ n ds h more. no_dot-append ds ((48 + n % 10) ∷ []) more (digit (n % 10) (omega arith), tt)) n small
  where
    digit : (d : ℕ) → d < 10 → (48 + d == 46) ≡ false
    digit d h = ne_eqb (48 + d) 46 (omega arith)

before_end : (ds : List ℕ) → NoDot ds → before_dot ds ≡ ds
before_end [] none = refl
before_end (d ∷ ds) none = ap (λ b. cond b [] (d ∷ before_dot ds)) none.0 ∙ ap (λ l. d ∷ l) (before_end ds none.1)

before_more : (ds rest : List ℕ) → NoDot ds → before_dot (ds ++ 46 ∷ rest) ≡ ds
before_more [] rest none = refl
before_more (d ∷ ds) rest none = ap (λ b. cond b [] (d ∷ before_dot (ds ++ 46 ∷ rest))) none.0 ∙ ap (λ l. d ∷ l) (before_more ds rest none.1)

-- what stands before the dot of a candidate, behind the word of its hint
pub word_candidate : (word : List ℕ) (e t : ℕ) → e < 2 ^ 64 → (rest : List ℕ) × (candidate (word ++ decimal e) t ≡ word ++ rest) × (before_dot rest ≡ decimal e)
word_candidate word e zero small = (decimal e, refl, before_end (decimal e) (decimal_no_dot e small))
word_candidate word e (suc t) small = (decimal e ++ 46 ∷ decimal (suc t), append_assoc word (decimal e) (46 ∷ decimal (suc t)), before_more (decimal e) (decimal (suc t)) (decimal_no_dot e small))

-- ---- names for hints

abbrev pub Name : Type 0
Name = List ℕ

module _ (f : Function) (few : suc (length (locals f)) < 2 ^ 64) where
  -- names for one word and two numbers differ
  pub numbers_differ : (word : Name) (d e : ℕ) → d < 2 ^ 64 → e < 2 ^ 64 → fresh f (word ++ decimal d) ≡ fresh f (word ++ decimal e) → d ≡ e
  numbers_differ word d e small less is =
      let x = fresh_is_candidate f few (word ++ decimal d) in
      let y = fresh_is_candidate f few (word ++ decimal e) in
      let u = word_candidate word d x.0 small in
      let v = word_candidate word e y.0 less in
      let rests : u.0 ≡ v.0 = append_cancel_left word u.0 v.0 (sym u.1 ∙ sym x.2 ∙ is ∙ y.2 ∙ v.1) in
      decimal_injective d e small less (sym u.2 ∙ ap before_dot rests ∙ v.2)

  -- the byte at which the words differ
  fifth : (word : Name) (d : ℕ) → d < 2 ^ 64 → (rest : Name) × (fresh f (word ++ decimal d) ≡ word ++ rest)
  fifth word d small =
      let x = fresh_is_candidate f few (word ++ decimal d) in
      let u = word_candidate word d x.0 small in
      (u.0, x.2 ∙ u.1)

  pub edge_no_select : (d e : ℕ) → d < 2 ^ 64 → e < 2 ^ 64 → fresh f (edge_hint d) ≡ fresh f (select_hint e) → ⊥
  edge_no_select d e small less is =
      let x = fifth (codes "pgo.edge.") d small in
      let y = fifth (codes "pgo.select.") e less in
      let s : 101 ≡ 115 = ap (λ (xs : Name). slice_index xs 4) (sym x.1 ∙ is ∙ y.1) in
      absurd (omega (arith, s))

  pub edge_no_target : (d e : ℕ) → d < 2 ^ 64 → e < 2 ^ 64 → fresh f (edge_hint d) ≡ fresh f (target_hint e) → ⊥
  edge_no_target d e small less is =
      let x = fifth (codes "pgo.edge.") d small in
      let y = fifth (codes "pgo.target.") e less in
      let s : 101 ≡ 116 = ap (λ (xs : Name). slice_index xs 4) (sym x.1 ∙ is ∙ y.1) in
      absurd (omega (arith, s))

  pub select_no_target : (d e : ℕ) → d < 2 ^ 64 → e < 2 ^ 64 → fresh f (select_hint d) ≡ fresh f (target_hint e) → ⊥
  select_no_target d e small less is =
      let x = fifth (codes "pgo.select.") d small in
      let y = fifth (codes "pgo.target.") e less in
      let s : 115 ≡ 116 = ap (λ (xs : Name). slice_index xs 4) (sym x.1 ∙ is ∙ y.1) in
      absurd (omega (arith, s))

-- ---- they are names

all_append : (test : ℕ → Bool) (xs ys : List ℕ) → list_all test xs ≡ true → list_all test ys ≡ true → list_all test (xs ++ ys) ≡ true
all_append test [] ys h k = k
all_append test (x ∷ xs) ys h k = (let p = and_parts (test x) (list_all test xs) h in and_from (test x) (list_all test (xs ++ ys)) p.0 (all_append test xs ys p.1 k))

digit_quotable : (d : ℕ) → d < 10 → is_quotable (48 + d) ≡ true
unfolding is_quotable
digit_quotable zero h = refl
digit_quotable (suc zero) h = refl
digit_quotable (suc (suc zero)) h = refl
digit_quotable (suc (suc (suc zero))) h = refl
digit_quotable (suc (suc (suc (suc zero)))) h = refl
digit_quotable (suc (suc (suc (suc (suc zero))))) h = refl
digit_quotable (suc (suc (suc (suc (suc (suc zero)))))) h = refl
digit_quotable (suc (suc (suc (suc (suc (suc (suc zero))))))) h = refl
digit_quotable (suc (suc (suc (suc (suc (suc (suc (suc zero)))))))) h = refl
digit_quotable (suc (suc (suc (suc (suc (suc (suc (suc (suc zero))))))))) h = refl
digit_quotable (suc (suc (suc (suc (suc (suc (suc (suc (suc (suc d)))))))))) h = absurd (omega (arith, h))

decimal_quotable : (n : ℕ) → n < 2 ^ 64 → list_all is_quotable (decimal n) ≡ true
decimal_quotable n small =
    decimal_by_steps (λ k ds. list_all is_quotable ds ≡ true) (λ k h. and_from (is_quotable (48 + k)) true (digit_quotable k h) refl) (λ k ds h more. all_append is_quotable ds ((48 + k % 10) ∷ []) more (and_from (is_quotable (48 + k % 10)) true (digit_quotable (k % 10) (omega arith)) refl)) n small

dot_quotable : is_quotable 46 ≡ true
unfolding is_quotable
dot_quotable = refl

candidate_quotable : (hint : Name) (t : ℕ) → t < 2 ^ 64 → list_all is_quotable hint ≡ true → list_all is_quotable (candidate hint t) ≡ true
candidate_quotable hint zero small h = h
candidate_quotable hint (suc t) small h = all_append is_quotable hint (46 ∷ decimal (suc t)) h (and_from (is_quotable 46) (list_all is_quotable (decimal (suc t))) dot_quotable (decimal_quotable (suc t) small))

-- a first byte stays
candidate_first : (b : ℕ) (rest : Name) (t : ℕ) → (tail : Name) × (candidate (b ∷ rest) t ≡ b ∷ tail)
candidate_first b rest zero = (rest, refl)
candidate_first b rest (suc t) = (rest ++ 46 ∷ decimal (suc t), refl)

named_by : (b : ℕ) (tail n : Name) → n ≡ b ∷ tail → list_all is_quotable n ≡ true → is_local_name n ≡ true
unfolding is_local_name
named_by b tail n e h = and_from (not (length n == 0)) (list_all is_quotable n) (ap (λ (xs : Name). not (length xs == 0)) e ∙ ap not (ne_eqb (length (b ∷ tail)) 0 (omega arith))) h

words_quotable : (list_all is_quotable (codes "pgo.edge.") ≡ true) × (list_all is_quotable (codes "pgo.select.") ≡ true) × (list_all is_quotable (codes "pgo.target.") ≡ true)
unfolding is_quotable
words_quotable = (refl, refl, refl)

module _ (f : Function) (few : suc (length (locals f)) < 2 ^ 64) where
  hint_named : (b : ℕ) (word : Name) (d : ℕ) → d < 2 ^ 64 → list_all is_quotable (b ∷ word) ≡ true → is_local_name (fresh f ((b ∷ word) ++ decimal d)) ≡ true
  hint_named b word d small h =
      let x = fresh_is_candidate f few ((b ∷ word) ++ decimal d) in
      let first = candidate_first b (word ++ decimal d) x.0 in
      named_by b first.0 (fresh f ((b ∷ word) ++ decimal d)) (x.2 ∙ first.1) (ap (λ (n : Name). list_all is_quotable n) x.2 ∙ candidate_quotable ((b ∷ word) ++ decimal d) x.0 x.1 (all_append is_quotable (b ∷ word) (decimal d) h (decimal_quotable d small)))

  pub edge_named : (d : ℕ) → d < 2 ^ 64 → is_local_name (fresh f (edge_hint d)) ≡ true
  edge_named d small = hint_named 112 (codes "go.edge.") d small words_quotable.0

  pub select_named : (d : ℕ) → d < 2 ^ 64 → is_local_name (fresh f (select_hint d)) ≡ true
  select_named d small = hint_named 112 (codes "go.select.") d small words_quotable.1

  pub target_named : (d : ℕ) → d < 2 ^ 64 → is_local_name (fresh f (target_hint d)) ≡ true
  target_named d small = hint_named 112 (codes "go.target.") d small words_quotable.2
