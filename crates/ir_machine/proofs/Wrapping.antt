-- Sums and products of signed numbers modulo n, as those of their rests.
use Rattle.std.proofs.Common.{◌≡◌, ℕ, zero, suc, ◌+◌, ◌-◌, ◌*◌, ◌/◌, ◌%◌, ◌<◌, ◌≤◌, refl, sym, ap, ◌∙◌, arith, ℤ, pos, negsuc}
use Rattle.std.specs.Prelude.{◌+ℤ◌, ◌*ℤ◌, neg_ℤ, unsigned_abs}
use Rattle.std.specs.Int.{int_rem_euclid}
use Rattle.std.proofs.Math.Nat.{add-mul, add-mul-mod_self_right, mod-mod}
use Rattle.std.proofs.lemmas.Nat.{div-add-mod', mul-mod}
use Rattle.std.proofs.lemmas.Int.{ints, int_rem_euclid_is}

difference : (x y w : ℕ) → y ≡ w + x → neg_ℤ (pos x) +ℤ pos y ≡ pos w
difference x y w e = omega (arith, ints, e)

-- a number that a multiple lifts above zero, times another number
scaled : (z : ℤ) (t n s m : ℕ) → z +ℤ pos (t * n) ≡ pos m → z *ℤ pos s +ℤ pos (t * s * n) ≡ pos (m * s)
scaled (pos a) t n s m e =
    let sum : m ≡ a + t * n = omega (arith, ints, e) in
    let whole : m * s ≡ a * s + t * s * n = ap (λ x. x * s) sum ∙ omega arith in
    omega (arith, ints, whole)
scaled (negsuc a) t n s m e =
    let sum : t * n ≡ m + suc a = omega (arith, ints, e) in
    let turned : t * s * n ≡ t * n * s = omega arith in
    let whole : t * s * n ≡ m * s + suc a * s = turned ∙ ap (λ x. x * s) sum ∙ add-mul m (suc a) s in
    difference (suc a * s) (t * s * n) (m * s) whole

module _ (n : ℕ) (some : 0 < n) where
  abbrev pub rest : ℤ → ℕ
  rest z = unsigned_abs (int_rem_euclid z (pos n))

  rest_is : (z : ℤ) (k m : ℕ) → z +ℤ pos (k * n) ≡ pos m → rest z ≡ m % n
  rest_is z k m e = ap unsigned_abs (int_rem_euclid_is z (pos n) n k m some refl e)

  pub rest_pos : (a : ℕ) → rest (pos a) ≡ a % n
  rest_pos a = rest_is (pos a) 0 a (omega (arith, ints))

  grows : (a : ℕ) → a ≤ a * n
  grows zero = omega arith
  grows (suc a) = let rec = grows a in omega arith

  -- a signed number plus a multiple of n is a number
  pub record Lifted (z : ℤ) : Type 0 where
    pub times : ℕ
    pub number : ℕ
    pub is : z +ℤ pos (times * n) ≡ pos number

  lifted : (z : ℤ) → Lifted z
  lifted (pos a) = record { times = 0; number = a; is = omega (arith, ints) }
  lifted (negsuc a) =
      let more = grows (suc a) in
      record { times = suc a; number = suc a * n - suc a; is = omega (arith, ints, more) }

  shifted : (z : ℤ) (j : ℕ) → rest (z +ℤ pos (j * n)) ≡ rest z
  shifted z j =
      let l = lifted z in
      let e = l.is in
      rest_is (z +ℤ pos (j * n)) l.times (l.number + j * n) (omega (arith, ints, e)) ∙ add-mul-mod_self_right l.number j n ∙ sym (rest_is z l.times l.number l.is)

  -- the rest of a sum is that of the rest of one of its numbers and the other
  pub rest_sum : (z d : ℤ) → rest (pos (rest z) +ℤ d) ≡ rest (z +ℤ d)
  rest_sum z d =
      let l = lifted z in
      let e = l.is in
      let split = div-add-mod' l.number n in
      let one : rest z ≡ l.number % n = rest_is z l.times l.number l.is in
      let same : pos (l.number % n) +ℤ d +ℤ pos (l.number / n * n) ≡ z +ℤ d +ℤ pos (l.times * n) = omega (arith, ints, e, split) in
      ap (λ r. rest (pos r +ℤ d)) one
      ∙ sym (shifted (pos (l.number % n) +ℤ d) (l.number / n))
      ∙ ap rest same
      ∙ shifted (z +ℤ d) l.times

  low_product : (a b : ℕ) → (a % n * b) % n ≡ (a * b) % n
  low_product a b =
      mul-mod (a % n) b n ∙ ap (λ x. (x * (b % n)) % n) (mod-mod a n) ∙ sym (mul-mod a b n)

  -- the rest of a product is that of the rest of one of its numbers and the other
  pub rest_product : (z : ℤ) (s : ℕ) → (rest z * s) % n ≡ rest (z *ℤ pos s)
  rest_product z s =
      let l = lifted z in
      let one : rest z ≡ l.number % n = rest_is z l.times l.number l.is in
      let whole : z *ℤ pos s +ℤ pos (l.times * s * n) ≡ pos (l.number * s) = scaled z l.times n s l.number l.is in
      ap (λ r. (r * s) % n) one
      ∙ low_product l.number s
      ∙ sym (rest_is (z *ℤ pos s) (l.times * s) (l.number * s) whole)

  -- a step of a pointer
  pub rest_step : (o i s : ℕ) (z d : ℤ) → i ≡ rest z → rest (pos ((o + (i * s) % n) % n) +ℤ d) ≡ rest (pos o +ℤ (z *ℤ pos s +ℤ d))
  rest_step o i s z d e =
      let product : (i * s) % n ≡ rest (z *ℤ pos s) = ap (λ x. (x * s) % n) e ∙ rest_product z s in
      let turned : pos (o + rest (z *ℤ pos s)) ≡ pos (rest (z *ℤ pos s)) +ℤ pos o = omega (arith, ints) in
      let moved : (o + (i * s) % n) % n ≡ rest (z *ℤ pos s +ℤ pos o) =
      ap (λ x. (o + x) % n) product ∙ sym (rest_pos (o + rest (z *ℤ pos s))) ∙ ap rest turned ∙ rest_sum (z *ℤ pos s) (pos o) in
      let sum : z *ℤ pos s +ℤ pos o +ℤ d ≡ pos o +ℤ (z *ℤ pos s +ℤ d) = omega (arith, ints) in
      ap (λ x. rest (pos x +ℤ d)) moved ∙ rest_sum (z *ℤ pos s +ℤ pos o) d ∙ ap rest sum
