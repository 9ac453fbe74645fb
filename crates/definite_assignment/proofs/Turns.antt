-- The search, one block further; its start and its end.
use Rattle.std.proofs.Common.{◌≡◌, ℕ, ◌+◌, ◌*◌, ◌-◌, ◌^◌, ◌<◌, ◌≤◌, max, ◌⊎◌, inl, inr, List, [], ◌∷◌, ◌++◌, length, replicate, Some, slice_get, set, refl, sym, ap, subst, ◌∙◌, arith, length-set, get_or-set_same, get_or-set_other}
use Rattle.std.specs.Prelude.{bit_or}
use Rattle.std.specs.Int.{bit_at}
use Rattle.std.proofs.lemmas.List.{get_or-replicate, get_or_past, length-replicate, length_push}
use Rattle.std.proofs.lemmas.Nat.Bits.{bit_at-zero, bit_at_ones, bit_at_or}
use Rattle.std.proofs.lemmas.Option.{none-some}
use Rattle.block_search.specs.Search.{Among}
use Rattle.definite_assignment.proofs.Narrows.{Narrows, among_front, among_last, among_split, eq_or_not, narrows, total, word}
use Rattle.definite_assignment.specs.Assigned.{AreAssigned, Avoids, IsAvoidable}
use Rattle.definite_assignment.specs.Narrowing.{Narrowing, narrow, state}
use Rattle.ir_tree.specs.Reach.{AreRows, row}

module _ (rows : List (List ℕ)) (gives : List ℕ) where
  avoids_on : (walk : List ℕ) (a b p t i : ℕ) → Avoids rows gives i walk a b → bit_at (word gives b) i ≡ 0 → slice_get (row rows b) p ≡ Some t → Avoids rows gives i (walk ++ p ∷ []) a t
  avoids_on [] a b p t i e g h = (t, subst (λ (x : ℕ). bit_at (word gives x) i ≡ 0) (sym e) g, subst (λ (x : ℕ). slice_get (row rows x) p ≡ Some t) (sym e) h, refl)
  avoids_on (q ∷ qs) a b p t i w g h = (w.0, w.1, w.2, avoids_on qs w.0 b p t i w.3 g h)

  pub avoided_on : (b p t i : ℕ) → IsAvoidable rows gives i b → bit_at (word gives b) i ≡ 0 → slice_get (row rows b) p ≡ Some t → IsAvoidable rows gives i t
  avoided_on b p t i r g h = (r.0 ++ p ∷ [], avoids_on r.0 0 b p t i r.1 g h)

  module _ (words : List ℕ) (closed : (b p t : ℕ) → slice_get (row rows b) p ≡ Some t → (i : ℕ) → bit_at (word words t) i ≤ max (bit_at (word words b) i) (bit_at (word gives b) i)) where
    -- along a walk that avoids a bit it stays 0
    stays_zero : (walk : List ℕ) (a b i : ℕ) → bit_at (word words a) i ≡ 0 → Avoids rows gives i walk a b → bit_at (word words b) i ≡ 0
    stays_zero [] a b i z e = subst (λ (x : ℕ). bit_at (word words x) i ≡ 0) e z
    stays_zero (p ∷ ps) a b i z w =
        let most : bit_at (word words w.0) i ≤ max (bit_at (word words a) i) (bit_at (word gives a) i) = closed a p w.0 w.2 i in
        let given : bit_at (word gives a) i ≡ 0 = w.1 in
        stays_zero ps w.0 b i (omega (arith, most, z, given)) w.3

  -- no block waits
  pub finished : (words work : List ℕ) → work ≡ [] → Narrowing rows gives words work → AreAssigned rows gives words
  finished words work none s =
      let closed : (b p t : ℕ) → slice_get (row rows b) p ≡ Some t → (i : ℕ) → bit_at (word words t) i ≤ max (bit_at (word words b) i) (bit_at (word gives b) i) = λ b p t h i. quiet b t (s.closed b p t h) i in
      record {
        size = s.size;
        avoided = s.sound;
        avoids = λ b i r. stays_zero words closed r.0 0 b i (ap (λ (w : ℕ). bit_at w i) s.entry ∙ bit_at-zero i) r.1;
      }
    where
      quiet : (b t : ℕ) → Among b work ⊎ ((i : ℕ) → bit_at (word words t) i ≤ max (bit_at (word words b) i) (bit_at (word gives b) i)) → (i : ℕ) → bit_at (word words t) i ≤ max (bit_at (word words b) i) (bit_at (word gives b) i)
      quiet b t (inl a) i = absurd (subst (λ (ws : List ℕ). Among b ws) none a)
      quiet b t (inr h) i = h i

module _ (rows : List (List ℕ)) (gives words work : List ℕ) (v : ℕ) (after : List ℕ × List ℕ)
    (found : Narrowing rows gives words (work ++ v ∷ [])) (s : Narrows (row rows v) (bit_or (word words v) (word gives v)) words work after) where
  is_block : v < length rows
  is_block = found.waiting v (among_last v work)

  handed : (i : ℕ) → bit_at (bit_or (word words v) (word gives v)) i ≡ max (bit_at (word words v) i) (bit_at (word gives v) i)
  handed i = bit_at_or (word words v) (word gives v) i

  sound_after : (b i : ℕ) → b < length rows → i < 64 → bit_at (word after.0 b) i ≡ 0 → IsAvoidable rows gives i b
  sound_after b i h k z = by (s.fresh b i z)
    where
      none_of : (m n : ℕ) → max m n ≡ 0 → (m ≡ 0) × (n ≡ 0)
      none_of m n e = (omega (arith, e), omega (arith, e))

      by : (bit_at (word words b) i ≡ 0) ⊎ ((p : ℕ) × (slice_get (row rows v) p ≡ Some b) × (bit_at (bit_or (word words v) (word gives v)) i ≡ 0)) → IsAvoidable rows gives i b
      by (inl old) = found.sound b i h k old
      by (inr q) =
          let both = none_of (bit_at (word words v) i) (bit_at (word gives v) i) (sym (handed i) ∙ q.2) in
          avoided_on rows gives v q.0 b i (found.sound v i is_block k both.0) both.1 q.1

  closed_after : (b p t : ℕ) → slice_get (row rows b) p ≡ Some t → Among b after.1 ⊎ ((i : ℕ) → bit_at (word after.0 t) i ≤ max (bit_at (word after.0 b) i) (bit_at (word gives b) i))
  closed_after b p t h = by (s.changed b) (found.closed b p t h)
    where
      moved : word after.0 b ≡ word words b → Among b (work ++ v ∷ []) → Among b work ⊎ (b ≡ v) → Among b after.1 ⊎ ((i : ℕ) → bit_at (word after.0 t) i ≤ max (bit_at (word after.0 b) i) (bit_at (word gives b) i))
      moved same a (inl w) = inl (s.waits b w)
      moved same a (inr e) = inr (λ i. let most : bit_at (word after.0 t) i ≤ bit_at (bit_or (word words v) (word gives v)) i = s.done p t (subst (λ (x : ℕ). slice_get (row rows x) p ≡ Some t) e h) i in let of_b : bit_at (word after.0 b) i ≡ bit_at (word words v) i = ap (λ (w : ℕ). bit_at w i) same ∙ ap (λ (x : ℕ). bit_at (word words x) i) e in let of_g : bit_at (word gives b) i ≡ bit_at (word gives v) i = ap (λ (x : ℕ). bit_at (word gives x) i) e in omega (arith, most, handed i, of_b, of_g))

      by : (word after.0 b ≡ word words b) ⊎ Among b after.1 → Among b (work ++ v ∷ []) ⊎ ((i : ℕ) → bit_at (word words t) i ≤ max (bit_at (word words b) i) (bit_at (word gives b) i)) → Among b after.1 ⊎ ((i : ℕ) → bit_at (word after.0 t) i ≤ max (bit_at (word after.0 b) i) (bit_at (word gives b) i))
      by (inr a) old = inl a
      by (inl same) (inl a) = moved same a (among_split b v work a)
      by (inl same) (inr old) = inr (λ i. let fewer : bit_at (word after.0 t) i ≤ bit_at (word words t) i = s.less t i in let most : bit_at (word words t) i ≤ max (bit_at (word words b) i) (bit_at (word gives b) i) = old i in let of_b : bit_at (word after.0 b) i ≡ bit_at (word words b) i = ap (λ (w : ℕ). bit_at w i) same in omega (arith, fewer, most, of_b))

  turn : Narrowing rows gives after.0 after.1
  turn = record {
    size = s.size ∙ found.size;
    entry = let below : word after.0 0 ≤ word words 0 = s.le 0 in let none : word words 0 ≡ 0 = found.entry in omega (arith, below, none);
    sound = sound_after;
    waiting = λ b a. elim (s.stems b a) [ inl w ↦ found.waiting b (among_front b work (v ∷ []) w) | inr h ↦ subst (λ (n : ℕ). b < n) found.size h ];
    closed = closed_after;
  }

-- ---- the same with the variables as the code has them

module _ (rows : List (List ℕ)) (gives words items work : List ℕ) (v : ℕ) (r : List ℕ)
    (graph : AreRows rows) (found : Narrowing rows gives words items) (popped : items ≡ work ++ v ∷ []) where
  found_then : Narrowing rows gives words (work ++ v ∷ [])
  found_then = subst (λ (ws : List ℕ). Narrowing rows gives words ws) popped found

  pub popped_block : v < length rows
  popped_block = found_then.waiting v (among_last v work)

  pub targets_in : r ≡ row rows v → (p t : ℕ) → slice_get r p ≡ Some t → t < length words
  targets_in is p t h = subst (λ (n : ℕ). t < n) (sym found.size) (graph.targets v p t (subst (λ (x : List ℕ). slice_get x p ≡ Some t) is h))

  module _ (out : ℕ) (made : out ≡ bit_or (word words v) (word gives v)) where
    narrowed : (is : r ≡ row rows v) → Narrows (row rows v) (bit_or (word words v) (word gives v)) words work (narrow r out words work)
    narrowed is = subst (λ (o : ℕ). Narrows (row rows v) o words work (narrow r out words work)) made (subst (λ (x : List ℕ). Narrows x out words work (narrow r out words work)) is (narrows r out words work (targets_in is)))

    pub found_after : (words' work' : List ℕ) → r ≡ row rows v → state words' work' ≡ narrow r out words work → Narrowing rows gives words' work'
    found_after words' work' is put = subst (λ (s : List ℕ × List ℕ). Narrowing rows gives s.0 s.1) (sym put) (turn rows gives words work v _ found_then (narrowed is))

    pub less_after : (words' work' : List ℕ) → r ≡ row rows v → state words' work' ≡ narrow r out words work → 2 * total words' + length work' < 2 * total words + length items
    less_after words' work' is put =
        let most : 2 * total words' + length work' ≤ 2 * total words + length work = subst (λ (s : List ℕ × List ℕ). 2 * total s.0 + length s.1 ≤ 2 * total words + length work) (sym put) (narrowed is).measure in
        let long : length items ≡ length (work ++ v ∷ []) = ap (λ (xs : List ℕ). length xs) popped in
        omega (arith, most, long, length_push work v)

-- ---- the start: the entry has no bit and waits, every other block has all

module _ (rows : List (List ℕ)) (gives : List ℕ) (graph : AreRows rows) where
  abbrev ones : ℕ
  ones = 2 ^ 64 - 1

  abbrev start : List ℕ
  start = set (replicate (length rows) ones) 0 0

  start_size : length start ≡ length rows
  start_size = length-set (replicate (length rows) ones) 0 0 ∙ length-replicate (length rows) ones

  start_entry : word start 0 ≡ 0
  start_entry = let some : 0 < length rows = graph.entry in let long : length (replicate (length rows) ones) ≡ length rows = length-replicate (length rows) ones in get_or-set_same (replicate (length rows) ones) 0 0 0 (omega (arith, some, long))

  start_other : (b : ℕ) → (b ≡ 0 → ⊥) → b < length rows → word start b ≡ ones
  start_other b ne h = get_or-set_other (replicate (length rows) ones) 0 b 0 0 ne ∙ get_or-replicate (length rows) b ones 0 h

  start_past : (b : ℕ) → length rows ≤ b → word start b ≡ 0
  start_past b h = get_or_past start b 0 (let size : length start ≡ length rows = start_size in omega (arith, h, size))

  ones_zero : (i : ℕ) → i < 64 → bit_at ones i ≡ 0 → ⊥
  ones_zero i h z = let one : bit_at ones i ≡ 1 = bit_at_ones 64 i h in absurd (omega (arith, one, z))

  bit_small : (b i : ℕ) → bit_at (word start b) i ≤ bit_at ones i
  bit_small b i = by (eq_or_not b 0) (within_or_past b)
    where
      within_or_past : (b : ℕ) → (b < length rows) ⊎ (length rows ≤ b)
      within_or_past b = grind arith

      zero_bit : word start b ≡ 0 → bit_at (word start b) i ≤ bit_at ones i
      zero_bit e = let none : bit_at (word start b) i ≡ 0 = ap (λ (w : ℕ). bit_at w i) e ∙ bit_at-zero i in omega (arith, none)

      by : (b ≡ 0) ⊎ (b ≡ 0 → ⊥) → (b < length rows) ⊎ (length rows ≤ b) → bit_at (word start b) i ≤ bit_at ones i
      by (inl e) k = zero_bit (ap (λ (x : ℕ). word start x) e ∙ start_entry)
      by (inr ne) (inl h) = let same : bit_at (word start b) i ≡ bit_at ones i = ap (λ (w : ℕ). bit_at w i) (start_other b ne h) in omega (arith, same)
      by (inr ne) (inr h) = zero_bit (start_past b h)

  pub started : Narrowing rows gives start (0 ∷ [])
  started = record {
    size = start_size;
    entry = start_entry;
    sound = sound;
    waiting = waiting;
    closed = closed;
  }
    where
      sound : (b i : ℕ) → b < length rows → i < 64 → bit_at (word start b) i ≡ 0 → IsAvoidable rows gives i b
      sound b i h k z = by (eq_or_not b 0)
        where
          by : (b ≡ 0) ⊎ (b ≡ 0 → ⊥) → IsAvoidable rows gives i b
          by (inl e) = ([], sym e)
          by (inr ne) = absurd (ones_zero i k (ap (λ (w : ℕ). bit_at w i) (sym (start_other b ne h)) ∙ z))

      waiting : (b : ℕ) → Among b (0 ∷ []) → b < length rows
      waiting b (inl e) = subst (λ (x : ℕ). x < length rows) (sym e) graph.entry
      waiting b (inr a) = absurd a

      closed : (b p t : ℕ) → slice_get (row rows b) p ≡ Some t → Among b (0 ∷ []) ⊎ ((i : ℕ) → bit_at (word start t) i ≤ max (bit_at (word start b) i) (bit_at (word gives b) i))
      closed b p t h = by (eq_or_not b 0) (within_or_past b)
        where
          within_or_past : (b : ℕ) → (b < length rows) ⊎ (length rows ≤ b)
          within_or_past b = grind arith

          by : (b ≡ 0) ⊎ (b ≡ 0 → ⊥) → (b < length rows) ⊎ (length rows ≤ b) → Among b (0 ∷ []) ⊎ ((i : ℕ) → bit_at (word start t) i ≤ max (bit_at (word start b) i) (bit_at (word gives b) i))
          by (inl e) k = inl (inl e)
          by (inr ne) (inl k) = inr (λ i. let most : bit_at (word start t) i ≤ bit_at ones i = bit_small t i in let full : bit_at (word start b) i ≡ bit_at ones i = ap (λ (w : ℕ). bit_at w i) (start_other b ne k) in omega (arith, most, full))
          by (inr ne) (inr k) = absurd (none-some t (ap (λ (ts : List ℕ). slice_get ts p) (sym (get_or_past rows b [] k)) ∙ h))

  pub started_as : (words work : List ℕ) → words ≡ start → work ≡ 0 ∷ [] → Narrowing rows gives words work
  started_as words work e k = subst (λ (ws : List ℕ). Narrowing rows gives ws work) (sym e) (subst (λ (bs : List ℕ). Narrowing rows gives start bs) (sym k) started)
