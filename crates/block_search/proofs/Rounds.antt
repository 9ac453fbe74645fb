-- The marks that are computed in rounds are on the blocks to which walks lead.
use Rattle.std.proofs.Common.{◌≡◌, ℕ, zero, suc, ◌<◌, ◌≤◌, Bool, true, false, ◌⊎◌, inl, inr, List, [], ◌∷◌, length, replicate, Some, slice_get, set, refl, sym, ap, subst, ◌∙◌, arith, length-set}
use Rattle.std.proofs.lemmas.List.{ext_get_or, length-replicate}
use Rattle.std.proofs.lemmas.List.Sums.{sum_by-cons}
use Rattle.std.proofs.lemmas.Option.{none-some, same_Some}
use Rattle.ir_tree.specs.Reach.{row, is_marked, IsReachable, AreRows, AreMarks, marked_also, marked_after, rounds, reached}
use Rattle.block_search.proofs.Spreads.{one_unless, unmarked, at_or_other, marked_there}
use Rattle.block_search.proofs.Turns.{reached_on, stays_marked}

-- ---- one row

also_size : (r : List ℕ) (marks : List Bool) → length (marked_also r marks) ≡ length marks
also_size [] marks = refl
also_size (t ∷ ts) marks = also_size ts (set marks t true) ∙ length-set marks t true

set_keeps : (marks : List Bool) (t b : ℕ) → t < length marks → is_marked marks b ≡ true → is_marked (set marks t true) b ≡ true
set_keeps marks t b within m = elim (at_or_other marks t within b) [
  | inl e ↦ subst (λ (u : ℕ). is_marked (set marks t true) u ≡ true) (sym e) (marked_there marks t within)
  | inr e ↦ e ∙ m
]

-- the successors are blocks
abbrev AreIn : List ℕ → ℕ → Type 0
AreIn r n = (p t : ℕ) → slice_get r p ≡ Some t → t < n

in_after : (t : ℕ) (ts : List ℕ) (marks : List Bool) → AreIn (t ∷ ts) (length marks) → AreIn ts (length (set marks t true))
in_after t ts marks within p u h = subst (λ (n : ℕ). u < n) (sym (length-set marks t true)) (within (suc p) u h)

also_keeps : (r : List ℕ) (marks : List Bool) (b : ℕ) → AreIn r (length marks) → is_marked marks b ≡ true → is_marked (marked_also r marks) b ≡ true
also_keeps [] marks b within m = m
also_keeps (t ∷ ts) marks b within m = also_keeps ts (set marks t true) b (in_after t ts marks within) (set_keeps marks t b (within zero t refl) m)

also_marks : (r : List ℕ) (marks : List Bool) (p b : ℕ) → AreIn r (length marks) → slice_get r p ≡ Some b → is_marked (marked_also r marks) b ≡ true
also_marks [] marks p b within h = absurd (none-some b h)
also_marks (t ∷ ts) marks zero b within h =
    also_keeps ts (set marks t true) b (in_after t ts marks within) (subst (λ (u : ℕ). is_marked (set marks t true) u ≡ true) (same_Some t b h) (marked_there marks t (within zero t refl)))
also_marks (t ∷ ts) marks (suc p) b within h = also_marks ts (set marks t true) p b (in_after t ts marks within) h

also_from : (r : List ℕ) (marks : List Bool) (b : ℕ) → AreIn r (length marks) → is_marked (marked_also r marks) b ≡ true → (is_marked marks b ≡ true) ⊎ ((p : ℕ) × (slice_get r p ≡ Some b))
also_from [] marks b within m = inl m
also_from (t ∷ ts) marks b within m = elim (also_from ts (set marks t true) b (in_after t ts marks within) m) [
  | inl old ↦ elim (at_or_other marks t (within zero t refl) b) [
    | inl e ↦ inr (zero, ap (λ (u : ℕ). Some u) (sym e))
    | inr e ↦ inl (sym e ∙ old)
  ]
  | inr q ↦ inr (suc q.0, q.1)
]

-- ---- one round

abbrev AllIn : List (List ℕ) → ℕ → Type 0
AllIn rs n = (a p t : ℕ) → slice_get (row rs a) p ≡ Some t → t < n

pub record Round (rs : List (List ℕ)) (old marks after : List Bool) : Type 0 where
  pub size : length after ≡ length marks
  pub keeps : (b : ℕ) → is_marked marks b ≡ true → is_marked after b ≡ true
  pub spreads : (a p b : ℕ) → is_marked old a ≡ true → slice_get (row rs a) p ≡ Some b → is_marked after b ≡ true
  pub stems : (b : ℕ) → is_marked after b ≡ true → (is_marked marks b ≡ true) ⊎ ((a p : ℕ) × (is_marked old a ≡ true) × (slice_get (row rs a) p ≡ Some b))

round : (rs : List (List ℕ)) (old marks : List Bool) → length old ≡ length rs → AllIn rs (length marks) → Round rs old marks (marked_after rs old marks)
round [] old marks size within = record {
  size = refl;
  keeps = λ b m. m;
  spreads = λ a p b m h. absurd (none-some b h);
  stems = λ b m. inl m;
}
round (r ∷ rs) [] marks size within = absurd (omega (arith, size))
round (r ∷ rs) (false ∷ ms) marks size within =
    let rest = round rs ms marks (omega (arith, size)) (λ a p t h. within (suc a) p t h) in
    record {
      size = rest.size;
      keeps = rest.keeps;
      spreads = other rest.spreads;
      stems = λ b m. elim (rest.stems b m) [ inl old ↦ inl old | inr q ↦ inr (suc q.0, q.1, q.2, q.3) ];
    }
  where
    other : ((a p b : ℕ) → is_marked ms a ≡ true → slice_get (row rs a) p ≡ Some b → is_marked (marked_after rs ms marks) b ≡ true) → (a p b : ℕ) → is_marked (false ∷ ms) a ≡ true → slice_get (row (r ∷ rs) a) p ≡ Some b → is_marked (marked_after rs ms marks) b ≡ true
    other more zero p b m h = absurd (cc)
    other more (suc a) p b m h = more a p b m h
round (r ∷ rs) (true ∷ ms) marks size within =
    let here : AreIn r (length marks) = λ p t h. within zero p t h in
    let after : AllIn rs (length (marked_also r marks)) = λ a p t h. subst (λ (n : ℕ). t < n) (sym (also_size r marks)) (within (suc a) p t h) in
    let rest = round rs ms (marked_also r marks) (omega (arith, size)) after in
    record {
      size = rest.size ∙ also_size r marks;
      keeps = λ b m. rest.keeps b (also_keeps r marks b here m);
      spreads = first here rest.keeps rest.spreads;
      stems = λ b m. elim (rest.stems b m) [
        | inl old ↦ elim (also_from r marks b here old) [ inl was ↦ inl was | inr q ↦ inr (zero, q.0, refl, q.1) ]
        | inr q ↦ inr (suc q.0, q.1, q.2, q.3)
      ];
    }
  where
    first : AreIn r (length marks) → ((b : ℕ) → is_marked (marked_also r marks) b ≡ true → is_marked (marked_after rs ms (marked_also r marks)) b ≡ true)
        → ((a p b : ℕ) → is_marked ms a ≡ true → slice_get (row rs a) p ≡ Some b → is_marked (marked_after rs ms (marked_also r marks)) b ≡ true)
        → (a p b : ℕ) → is_marked (true ∷ ms) a ≡ true → slice_get (row (r ∷ rs) a) p ≡ Some b → is_marked (marked_after rs ms (marked_also r marks)) b ≡ true
    first here keeps more zero p b m h = keeps b (also_marks r marks p b here h)
    first here keeps more (suc a) p b m h = more a p b m h

-- ---- as many rounds as there are blocks

-- marks that only gain marks lack fewer
fewer : (xs ys : List Bool) → length ys ≡ length xs → ((b : ℕ) → is_marked xs b ≡ true → is_marked ys b ≡ true) → unmarked ys ≤ unmarked xs
fewer [] [] size more = omega arith
fewer [] (y ∷ ys) size more = absurd (omega (arith, size))
fewer (x ∷ xs) [] size more = absurd (omega (arith, size))
fewer (x ∷ xs) (y ∷ ys) size more =
    let rest : unmarked ys ≤ unmarked xs = fewer xs ys (omega (arith, size)) (λ b m. more (suc b) m) in
    omega (arith, rest, sum_by-cons one_unless x xs, sum_by-cons one_unless y ys, here x y (more zero))
  where
    here : (x y : Bool) → (x ≡ true → y ≡ true) → one_unless y ≤ one_unless x
    here true true h = omega arith
    here true false h = absurd (cc (h refl))
    here false true h = omega arith
    here false false h = omega arith

same_heads : (x y : Bool) (xs ys : List Bool) → (x ≡ true → y ≡ true) → unmarked (x ∷ xs) ≤ unmarked (y ∷ ys) → unmarked ys ≤ unmarked xs → (unmarked xs ≤ unmarked ys → ys ≡ xs) → ◌≡◌ {A = List Bool} (y ∷ ys) (x ∷ xs)
same_heads true true xs ys h least rest tail = ap (λ (zs : List Bool). true ∷ zs) (tail (omega (arith, least, sum_by-cons one_unless true xs, sum_by-cons one_unless true ys)))
same_heads true false xs ys h least rest tail = absurd (cc (h refl))
same_heads false true xs ys h least rest tail = absurd (omega (arith, least, rest, sum_by-cons one_unless false xs, sum_by-cons one_unless true ys))
same_heads false false xs ys h least rest tail = ap (λ (zs : List Bool). false ∷ zs) (tail (omega (arith, least, sum_by-cons one_unless false xs, sum_by-cons one_unless false ys)))

-- marks that only gain marks, and do not gain one, are the same
same_marks : (xs ys : List Bool) → length ys ≡ length xs → ((b : ℕ) → is_marked xs b ≡ true → is_marked ys b ≡ true) → unmarked xs ≤ unmarked ys → ys ≡ xs
same_marks [] [] size more none = refl
same_marks [] (y ∷ ys) size more none = absurd (omega (arith, size))
same_marks (x ∷ xs) [] size more none = absurd (omega (arith, size))
same_marks (x ∷ xs) (y ∷ ys) size more none =
    same_heads x y xs ys (more zero) none (fewer xs ys (omega (arith, size)) (λ b m. more (suc b) m)) (λ least. same_marks xs ys (omega (arith, size)) (λ b m. more (suc b) m) least)

all_marked : (marks : List Bool) → unmarked marks ≤ 0 → (b : ℕ) → b < length marks → is_marked marks b ≡ true
all_marked [] none b within = absurd (omega (arith, within))
all_marked (true ∷ ms) none zero within = refl
all_marked (false ∷ ms) none zero within = absurd (omega (arith, none, sum_by-cons one_unless false ms))
all_marked (m ∷ ms) none (suc b) within = all_marked ms (omega (arith, none, sum_by-cons one_unless m ms)) b (omega (arith, within))

most_unmarked : (marks : List Bool) → unmarked marks ≤ length marks
most_unmarked [] = omega arith
most_unmarked (true ∷ ms) = omega (arith, most_unmarked ms, sum_by-cons one_unless true ms)
most_unmarked (false ∷ ms) = omega (arith, most_unmarked ms, sum_by-cons one_unless false ms)

module _ (rows : List (List ℕ)) (graph : AreRows rows) where
  abbrev Fits : List Bool → Type 0
  Fits marks = length marks ≡ length rows

  next : (marks : List Bool) → Fits marks → Round rows marks marks (marked_after rows marks marks)
  next marks fits = round rows marks marks fits (λ a p t h. subst (λ (n : ℕ). t < n) (sym fits) (graph.targets a p t h))

  next_fits : (marks : List Bool) → Fits marks → Fits (marked_after rows marks marks)
  next_fits marks fits = (next marks fits).size ∙ fits

  rounds_fit : (n : ℕ) (marks : List Bool) → Fits marks → Fits (rounds n rows marks)
  rounds_fit zero marks fits = fits
  rounds_fit (suc n) marks fits = rounds_fit n (marked_after rows marks marks) (next_fits marks fits)

  rounds_keep : (n : ℕ) (marks : List Bool) (b : ℕ) → Fits marks → is_marked marks b ≡ true → is_marked (rounds n rows marks) b ≡ true
  rounds_keep zero marks b fits m = m
  rounds_keep (suc n) marks b fits m = rounds_keep n (marked_after rows marks marks) b (next_fits marks fits) ((next marks fits).keeps b m)

  abbrev Sound : List Bool → Type 0
  Sound marks = (b : ℕ) → is_marked marks b ≡ true → IsReachable rows b

  next_sound : (marks : List Bool) → Fits marks → Sound marks → Sound (marked_after rows marks marks)
  next_sound marks fits sound b m = elim ((next marks fits).stems b m) [
    | inl old ↦ sound b old
    | inr q ↦ reached_on rows q.0 q.1 b (sound q.0 q.2) q.3
  ]

  rounds_sound : (n : ℕ) (marks : List Bool) → Fits marks → Sound marks → Sound (rounds n rows marks)
  rounds_sound zero marks fits sound = sound
  rounds_sound (suc n) marks fits sound = rounds_sound n (marked_after rows marks marks) (next_fits marks fits) (next_sound marks fits sound)

  abbrev Closed : List Bool → Type 0
  Closed marks = (b p t : ℕ) → is_marked marks b ≡ true → slice_get (row rows b) p ≡ Some t → is_marked marks t ≡ true

  -- a round that changes nothing is the last
  rests : (n : ℕ) (marks : List Bool) → marked_after rows marks marks ≡ marks → rounds n rows marks ≡ marks
  rests zero marks same = refl
  rests (suc n) marks same = ap (λ (ms : List Bool). rounds n rows ms) same ∙ rests n marks same

  closed_then : (marks : List Bool) → Fits marks → marked_after rows marks marks ≡ marks → Closed marks
  closed_then marks fits same b p t m h = subst (λ (ms : List Bool). is_marked ms t ≡ true) same ((next marks fits).spreads b p t m h)

  either : (m n : ℕ) → (m < n) ⊎ (n ≤ m)
  either m n = grind arith

  -- where no block gains a mark nothing changes any more
  settled : (n : ℕ) (marks : List Bool) → Fits marks → unmarked marks ≤ unmarked (marked_after rows marks marks) → Closed (rounds n rows (marked_after rows marks marks))
  settled n marks fits none =
      let same : marked_after rows marks marks ≡ marks = same_marks marks (marked_after rows marks marks) (next marks fits).size (next marks fits).keeps none in
      let still : rounds n rows (marked_after rows marks marks) ≡ marks = ap (λ (ms : List Bool). rounds n rows ms) same ∙ rests n marks same in
      subst (λ (ms : List Bool). Closed ms) (sym still) (closed_then marks fits same)

  rounds_close : (n : ℕ) (marks : List Bool) → Fits marks → unmarked marks ≤ n → Closed (rounds n rows marks)
  rounds_close zero marks fits few = λ b p t m h. all_marked marks few t (subst (λ (k : ℕ). t < k) (sym fits) (graph.targets b p t h))
  rounds_close (suc n) marks fits few =
      elim (either (unmarked (marked_after rows marks marks)) (unmarked marks)) [
        | inl less ↦ rounds_close n (marked_after rows marks marks) (next_fits marks fits) (omega (arith, less, few))
        | inr none ↦ settled n marks fits none
      ]

  abbrev start : List Bool
  start = set (replicate (length rows) false) 0 true

  start_fits : Fits start
  start_fits = length-set (replicate (length rows) false) 0 true ∙ length-replicate (length rows) false

  none_marked : (n b : ℕ) → is_marked (replicate n false) b ≡ true → ⊥
  none_marked zero b m = cc
  none_marked (suc n) zero m = cc
  none_marked (suc n) (suc b) m = none_marked n b m

  blocks : 0 < length (replicate (length rows) false)
  blocks = subst (λ (n : ℕ). 0 < n) (sym (length-replicate (length rows) false)) graph.entry

  start_marked : is_marked start 0 ≡ true
  start_marked = marked_there (replicate (length rows) false) 0 blocks

  start_sound : Sound start
  start_sound b m = elim (at_or_other (replicate (length rows) false) 0 blocks b) [
    | inl e ↦ ([], sym e)
    | inr e ↦ absurd (none_marked (length rows) b (sym e ∙ m))
  ]

  pub reached_marks : AreMarks rows (reached rows)
  unfolding reached
  reached_marks =
      let closed : Closed (rounds (length rows) rows start) = rounds_close (length rows) start start_fits (omega (arith, most_unmarked start, start_fits)) in
      record {
        size = rounds_fit (length rows) start start_fits;
        sound = rounds_sound (length rows) start start_fits start_sound;
        complete = λ b r. stays_marked rows (rounds (length rows) rows start) closed r.0 0 b (rounds_keep (length rows) start 0 start_fits start_marked) r.1;
      }

-- ---- marks are unique

either_way : (x y : Bool) → (x ≡ true → y ≡ true) → (y ≡ true → x ≡ true) → x ≡ y
either_way true y h k = sym (h refl)
either_way false true h k = k refl
either_way false false h k = refl

pub one_marks : (rows : List (List ℕ)) (xs ys : List Bool) → AreMarks rows xs → AreMarks rows ys → xs ≡ ys
one_marks rows xs ys one two =
    ext_get_or false xs ys (one.size ∙ sym two.size) (λ b within. either_way (is_marked xs b) (is_marked ys b) (λ m. two.complete b (one.sound b m)) (λ m. one.complete b (two.sound b m)))

pub are_reached : (rows : List (List ℕ)) (marks : List Bool) → AreRows rows → AreMarks rows marks → marks ≡ reached rows
are_reached rows marks graph one = one_marks rows marks (reached rows) one (reached_marks rows graph)
