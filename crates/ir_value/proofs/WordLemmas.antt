-- Integers of w bits in a word of 64, for every w.
use Rattle.std.proofs.Common.{◌≡◌, ℕ, suc, ◌+◌, ◌-◌, ◌*◌, ◌/◌, ◌%◌, ◌^◌, ◌<◌, ◌≤◌, refl, sym, ap, ◌∙◌, subst, arith, ℤ, pos, negsuc, ◌-ℤ◌, w64, FitsSigned, to_z, of_z, inl, inr}
use lib.Signed.{shr_z}
use Rattle.std.proofs.lemmas.Nat.{pow_pos, pow-add, pow_below, mod_low, shr_high, shl_whole, shl-shr, shr_split, mod_below, div_below}
use Rattle.std.proofs.lemmas.Nat.Bits.{ones_shr}
use Rattle.std.proofs.lemmas.Int.{ints, to_z_pos, to_z-of_z, of_z-to_z}
use Rattle.std.proofs.lemmas.Bool.{cases_lt, cond_below, cond_above}
use Rattle.std.proofs.Math.Pow.{mod-mod-pow}
use Rattle.std.proofs.Math.Nat.{mul-lt-mul_of_pos_right, mul-le-mul_right, add-mul-mod_self_right, mod-eq_of_lt}
use Rattle.ir_value.specs.Integer.{wrapped, signed_of}

-- a power of two is the product of two whose exponents add up to its own
power_split : (a b n : ℕ) → a + b ≡ n → 2 ^ n ≡ 2 ^ a * 2 ^ b
power_split a b n e = ap (λ k. 2 ^ k) (sym e) ∙ pow-add 2 a b

-- the lowest w bits of the lowest t bits
low_of_low : (n t w : ℕ) → w ≤ t → n % 2 ^ t % 2 ^ w ≡ n % 2 ^ w
low_of_low n t w h = let e : t ≡ (t - w) + w = omega arith in ap (λ k. n % 2 ^ k % 2 ^ w) e ∙ mod-mod-pow n (t - w) w

pub low_of_word : (n w : ℕ) → w ≤ 64 → n % 2 ^ 64 % 2 ^ w ≡ n % 2 ^ w
low_of_word n w h = low_of_low n 64 w h

pub mask_is : (w : ℕ) → w ≤ 64 → (2 ^ 64 - 1) / 2 ^ (64 - w) ≡ 2 ^ w - 1
mask_is w h =
    let e : 64 - (64 - w) ≡ w = omega arith in
    ones_shr 64 (64 - w) (omega arith) ∙ ap (λ k. 2 ^ k - 1) e

-- the signed reading below one half, and from there on
pub signed_low : (w n : ℕ) → n < 2 ^ (w - 1) → signed_of w n ≡ pos n
signed_low w n h = sym (cond_below n (2 ^ (w - 1)) (pos n) (pos n -ℤ pos (2 ^ w)) h)

below_zero : (n m : ℕ) → n < m → pos n -ℤ pos m ≡ negsuc (m - suc n)
below_zero n m h = omega (arith, ints)

pub signed_high : (w n : ℕ) → 2 ^ (w - 1) ≤ n → n < 2 ^ w → signed_of w n ≡ negsuc (2 ^ w - suc n)
signed_high w n h k = sym (cond_above n (2 ^ (w - 1)) (pos n) (pos n -ℤ pos (2 ^ w)) (negsuc (2 ^ w - suc n)) h (sym (below_zero n (2 ^ w) k)))

-- one half of 2 ^ w
pub half : (w : ℕ) → 0 < w → 2 ^ w ≡ 2 ^ (w - 1) + 2 ^ (w - 1)
half w h = let e : 2 ^ w ≡ 2 ^ (w - 1) * 2 ^ 1 = power_split (w - 1) 1 w (omega arith) in omega arith

-- a power of two at a width up to another's
pub power_up : (v w : ℕ) → v ≤ w → 2 ^ v ≤ 2 ^ w
power_up v w h = elim (cases_lt v w) [
  | inl p ↦ let q = pow_below v w p in omega arith
  | inr p ↦ let e : v ≡ w = omega arith in rw e (omega arith)
]

in_word : (w : ℕ) → w ≤ 64 → 2 ^ w ≤ 2 ^ 64
in_word w h = power_up w 64 h

half_in_word : (w : ℕ) → 0 < w → w ≤ 64 → 2 ^ (w - 1) ≤ 2 ^ 63
half_in_word w h k = power_up (w - 1) 63 (omega arith)

pub signed_fits : (w n : ℕ) → 0 < w → w ≤ 64 → n < 2 ^ w → FitsSigned w64 (signed_of w n)
signed_fits w n h k b =
    let P : ℤ → Type 0 = λ z. FitsSigned w64 z in
    let m = half_in_word w h k in
    let e = half w h in
    elim (cases_lt n (2 ^ (w - 1))) [
      | inl p ↦ subst P (sym (signed_low w n p)) (record { sfits = omega arith })
      | inr p ↦ subst P (sym (signed_high w n p b)) (record { sfits = omega arith })
    ]

shr_pos : (a m : ℕ) (z : ℤ) → z ≡ pos a → shr_z z m ≡ pos (a / m)
shr_pos a m z e = ap (λ y. shr_z y m) e

shr_neg : (a m : ℕ) (z : ℤ) → z ≡ negsuc a → shr_z z m ≡ negsuc (a / m)
shr_neg a m z e = ap (λ y. shr_z y m) e

to_z_neg : (n : ℕ) → 2 ^ 63 ≤ n → to_z w64 n ≡ negsuc (2 ^ 64 - suc n)
to_z_neg n h = sym (cond_above n (2 ^ 63) (pos n) (negsuc (2 ^ 64 - suc n)) (negsuc (2 ^ 64 - suc n)) h refl)

gap_of : (n d k : ℕ) → suc k * (suc n + d) - suc (n * suc k) ≡ d * suc k + k
gap_of n d k = omega arith

-- what is left of t above n rows of k, where t is p rows
gap : (n d k p r t : ℕ) → t ≡ r * p → p ≡ suc n + d → r ≡ suc k → t - suc (n * r) ≡ d * r + k
gap n d k p r t e f g = rw (e, f, g) (gap_of n d k)

-- the word whose highest bits are those of n, shifted back with copies of the highest
pub shift_back : (w n : ℕ) → 0 < w → w ≤ 64 → n < 2 ^ w → (z : ℤ) → z ≡ to_z w64 (n * 2 ^ (64 - w) % 2 ^ 64)
    → shr_z z (2 ^ (64 - w)) ≡ signed_of w n
shift_back w n h k b z e =
    let m : 2 ^ 64 ≡ 2 ^ (64 - w) * 2 ^ w = power_split (64 - w) w 64 (omega arith) in
    let g : 2 ^ 63 ≡ 2 ^ (w - 1) * 2 ^ (64 - w) = power_split (w - 1) (64 - w) 63 (omega arith) in
    let whole : n * 2 ^ (64 - w) % 2 ^ 64 ≡ n * 2 ^ (64 - w) = shl_whole n w (64 - w) 64 b (omega arith) in
    let i : z ≡ to_z w64 (n * 2 ^ (64 - w)) = e ∙ ap (to_z w64) whole in
    let r : 0 < 2 ^ (64 - w) = pow_pos (64 - w) in
    elim (cases_lt n (2 ^ (w - 1))) [
      | inl p ↦
          let f : n * 2 ^ (64 - w) < 2 ^ (w - 1) * 2 ^ (64 - w) = mul-lt-mul_of_pos_right p r in
          let q : n * 2 ^ (64 - w) < 2 ^ 63 = omega arith in
          shr_pos (n * 2 ^ (64 - w)) (2 ^ (64 - w)) z (i ∙ to_z_pos w64 (n * 2 ^ (64 - w)) q) ∙ ap pos (shl-shr n (64 - w)) ∙ sym (signed_low w n p)
      | inr p ↦
          let f : 2 ^ (w - 1) * 2 ^ (64 - w) ≤ n * 2 ^ (64 - w) = mul-le-mul_right (2 ^ (64 - w)) p in
          let q : 2 ^ 63 ≤ n * 2 ^ (64 - w) = omega arith in
          let low : 2 ^ (64 - w) - 1 < 2 ^ (64 - w) = omega arith in
          let s = gap n (2 ^ w - suc n) (2 ^ (64 - w) - 1) (2 ^ w) (2 ^ (64 - w)) (2 ^ 64) m (omega arith) (omega arith) in
          shr_neg (2 ^ 64 - suc (n * 2 ^ (64 - w))) (2 ^ (64 - w)) z (i ∙ to_z_neg (n * 2 ^ (64 - w)) q) ∙ ap (λ a. negsuc (a / 2 ^ (64 - w))) s
          ∙ ap negsuc (shr_high (2 ^ w - suc n) (64 - w) (2 ^ (64 - w) - 1) low) ∙ sym (signed_high w n p b)
    ]

-- what a shift with copies of the sign leaves
pub signed_word : (w n : ℕ) → 0 < w → w ≤ 64 → n < 2 ^ w → (z : ℤ) → z ≡ to_z w64 (n * 2 ^ (64 - w) % 2 ^ 64)
    → to_z w64 (of_z w64 (shr_z (to_z w64 (of_z w64 z)) (2 ^ (64 - w)))) ≡ signed_of w n
signed_word w n h k b z e =
    let y : ℤ = to_z w64 (of_z w64 z) in
    let m : n * 2 ^ (64 - w) % 2 ^ 64 < 2 ^ 64 = mod_below (n * 2 ^ (64 - w)) (2 ^ 64) (pow_pos 64) in
    let j : y ≡ to_z w64 (n * 2 ^ (64 - w) % 2 ^ 64) = ap (λ x. to_z w64 (of_z w64 x)) e ∙ ap (to_z w64) (of_z-to_z w64 _ m) in
    let s = shift_back w n h k b y j in
    ap (λ x. to_z w64 (of_z w64 x)) s ∙ to_z-of_z w64 (signed_of w n) (signed_fits w n h k b)

rest_of : (d c q r : ℕ) → (suc q + d) * (suc r + c) - suc (q * (suc r + c) + r) ≡ d * (suc r + c) + c
rest_of d c q r = omega arith

-- what is left of t above n, where t is m rows of p, and n is q of them and r more
rest : (d c m p q r t n : ℕ) → t ≡ m * p → n ≡ q * p + r → m ≡ suc q + d → p ≡ suc r + c → t - suc n ≡ d * p + c
rest d c m p q r t n e f g h = rw (e, f, g, h) (rest_of d c q r)

-- the lowest w bits of -(n + 1) at t bits
wrapped_rest : (t w n : ℕ) → w ≤ t → n < 2 ^ t → (2 ^ t - suc n) % 2 ^ w ≡ 2 ^ w - 1 - n % 2 ^ w
wrapped_rest t w n h b =
    let m : 2 ^ t ≡ 2 ^ (t - w) * 2 ^ w = power_split (t - w) w t (omega arith) in
    let s : n ≡ n / 2 ^ w * 2 ^ w + n % 2 ^ w = sym (shr_split n w) in
    let r : n % 2 ^ w < 2 ^ w = mod_below n (2 ^ w) (pow_pos w) in
    let q : n / 2 ^ w < 2 ^ (t - w) = div_below n (2 ^ w) (2 ^ (t - w)) (pow_pos w) (omega arith) in
    ap (λ x. x % 2 ^ w) (rest (2 ^ (t - w) - suc (n / 2 ^ w)) (2 ^ w - suc (n % 2 ^ w)) (2 ^ (t - w)) (2 ^ w) (n / 2 ^ w) (n % 2 ^ w) (2 ^ t) n m s (omega arith) (omega arith))
    ∙ mod_low (2 ^ (t - w) - suc (n / 2 ^ w)) w (2 ^ w - suc (n % 2 ^ w)) (omega arith) ∙ omega arith

-- the low bits of the word that holds z
pub wrapped_word : (w : ℕ) (z : ℤ) → w ≤ 64 → FitsSigned w64 z → of_z w64 z % 2 ^ w ≡ wrapped w z
wrapped_word w (pos n) h f = refl
wrapped_word w (negsuc n) h f = let g = f.sfits in wrapped_rest 64 w n h (omega arith)

-- a difference of words is a difference modulo 2 ^ w
difference_of : (w l r : ℕ) → w ≤ 64 → l < 2 ^ 64 → r < 2 ^ 64 → (l + (2 ^ 64 - r)) % 2 ^ 64 % 2 ^ w ≡ wrapped w (pos l -ℤ pos r)
difference_of w l r h f g = elim (cases_lt l r) [
  | inl p ↦
      let e : l + (2 ^ 64 - r) ≡ 2 ^ 64 - suc (r - suc l) = omega arith in
      low_of_word (l + (2 ^ 64 - r)) w h ∙ ap (λ x. x % 2 ^ w) e ∙ wrapped_rest 64 w (r - suc l) h (omega arith)
      ∙ ap (wrapped w) (sym (below_zero l r p))
  | inr p ↦
      let e : l + (2 ^ 64 - r) ≡ (l - r) + 1 * 2 ^ 64 = omega arith in
      let d : pos (l - r) ≡ pos l -ℤ pos r = omega (arith, ints) in
      ap (λ x. x % 2 ^ 64 % 2 ^ w) e ∙ ap (λ x. x % 2 ^ w) (add-mul-mod_self_right (l - r) 1 (2 ^ 64))
      ∙ low_of_word (l - r) w h ∙ ap (wrapped w) d
]

pub difference_word : (w l r n : ℕ) → w ≤ 64 → l < 2 ^ w → r < 2 ^ w → n ≡ (l + (2 ^ 64 - r)) % 2 ^ 64 % 2 ^ w → n ≡ wrapped w (pos l -ℤ pos r)
difference_word w l r n h f g e = let m = in_word w h in e ∙ difference_of w l r h (omega arith) (omega arith)

-- what is congruent at a width is so at a narrower one
pub narrowed : (t w : ℕ) (z : ℤ) → w ≤ t → wrapped t z % 2 ^ w ≡ wrapped w z
narrowed t w (pos n) h = low_of_low n t w h
narrowed t w (negsuc n) h =
    let b : n % 2 ^ t < 2 ^ t = mod_below n (2 ^ t) (pow_pos t) in
    let e : 2 ^ t - 1 - n % 2 ^ t ≡ 2 ^ t - suc (n % 2 ^ t) = omega arith in
    ap (λ x. x % 2 ^ w) e ∙ wrapped_rest t w (n % 2 ^ t) h b ∙ ap (λ x. 2 ^ w - 1 - x) (low_of_low n t w h)

-- an integer is congruent to its signed reading
pub signed_back : (w n : ℕ) → n < 2 ^ w → wrapped w (signed_of w n) ≡ n
signed_back w n b = elim (cases_lt n (2 ^ (w - 1))) [
  | inl p ↦ ap (wrapped w) (signed_low w n p) ∙ mod-eq_of_lt b
  | inr p ↦
      let m : (2 ^ w - suc n) % 2 ^ w ≡ 2 ^ w - suc n = mod-eq_of_lt (omega arith) in
      ap (wrapped w) (signed_high w n p b) ∙ omega arith
]
