-- Numbers as bytes, the lowest first.
use Rattle.std.proofs.Common.{◌≡◌, ℕ, zero, suc, ◌+◌, ◌-◌, ◌*◌, ◌/◌, ◌%◌, ◌^◌, ◌<◌, ◌≤◌, List, [], ◌∷◌, length, get_or, take, drop, refl, sym, ap, ◌∙◌, arith, subst}
use Rattle.std.proofs.lemmas.Nat.{shr-shr, div_below}
use Rattle.std.proofs.Math.Nat.{div-one, pow-suc, pow-le-pow_right}
use Rattle.std.proofs.lemmas.List.{at_drop_more}
use Rattle.ir_memory.specs.Bytes.{low_bytes, number_of}
use Rattle.std.specs.Int.{w64, to_le_bytes}

-- `count` bytes of n from byte i upward, each by a shift
abbrev pub shifted_bytes : ℕ → ℕ → ℕ → List ℕ
shifted_bytes i zero n = []
shifted_bytes i (suc count) n = n / 2 ^ (8 * i) % 256 ∷ shifted_bytes (suc i) count n

low_bytes-shifted : (i count n : ℕ) → low_bytes count (n / 2 ^ (8 * i)) ≡ shifted_bytes i count n
low_bytes-shifted i zero n = refl
low_bytes-shifted i (suc count) n =
    let e : 8 * i + 8 ≡ 8 * suc i = omega arith in
    let s : n / 2 ^ (8 * i) / 256 ≡ n / 2 ^ (8 * suc i) = shr-shr n (8 * i) 8 ∙ ap (λ k. n / 2 ^ k) e in
    ap (λ bs. n / 2 ^ (8 * i) % 256 ∷ bs) (ap (low_bytes count) s ∙ low_bytes-shifted (suc i) count n)

-- a word's bytes
pub le_bytes-shifted : (n : ℕ) → to_le_bytes w64 n ≡ shifted_bytes 0 8 n
le_bytes-shifted n = ap (λ b. b % 256 ∷ shifted_bytes 1 7 n) (sym (div-one n))

pub le_bytes-low : (n : ℕ) → to_le_bytes w64 n ≡ low_bytes 8 n
le_bytes-low n = le_bytes-shifted n ∙ sym (low_bytes-shifted 0 8 n) ∙ ap (low_bytes 8) (div-one n)

-- fewer bytes are the first of them
pub take-low_bytes : (w count n : ℕ) → w ≤ count → take w (low_bytes count n) ≡ low_bytes w n
take-low_bytes zero count n h = refl
take-low_bytes (suc w) zero n h = absurd (omega arith)
take-low_bytes (suc w) (suc count) n h = ap (λ bs. n % 256 ∷ bs) (take-low_bytes w count (n / 256) (omega arith))

pub length-low_bytes : (w n : ℕ) → length (low_bytes w n) ≡ w
length-low_bytes zero n = refl
length-low_bytes (suc w) n = ap suc (length-low_bytes w (n / 256))

-- the bytes of a number that has no more of them give it back
pub number_of-low_bytes : (w n : ℕ) → n < 256 ^ w → number_of (low_bytes w n) ≡ n
number_of-low_bytes zero n h = omega arith
number_of-low_bytes (suc w) n h =
    let p : 256 ^ suc w ≡ 256 ^ w * 256 = pow-suc 256 w in
    let q : n / 256 < 256 ^ w = div_below n 256 (256 ^ w) (omega arith) (omega arith) in
    let i = number_of-low_bytes w (n / 256) q in
    omega arith

-- the number of the bytes from the k-th on
number_step : (bs : List ℕ) (k d : ℕ) → k < length bs → number_of (drop k bs) ≡ get_or bs k d + 256 * number_of (drop (k + 1) bs)
number_step bs k d h = at_drop_more number_of bs k d h

-- one byte more
pub number_fits : (n b e : ℕ) → n < 256 ^ e → b < 256 → b + 256 * n < 256 ^ suc e
number_fits n b e h k = let p : 256 ^ suc e ≡ 256 ^ e * 256 = pow-suc 256 e in omega arith

pub seven_bytes : (n e : ℕ) → e ≤ 7 → n < 256 ^ e → n < 256 ^ 7
seven_bytes n e h k = let p : 256 ^ e ≤ 256 ^ 7 = pow-le-pow_right (omega arith) h in omega arith

-- one byte more, from the back
pub number_back : (bs : List ℕ) (k n b d : ℕ) → 0 < k → k ≤ length bs → n ≡ number_of (drop k bs) → b ≡ get_or bs (k - 1) d
    → b + 256 * n ≡ number_of (drop (k - 1) bs)
number_back bs k n b d h l e f =
    let g : k - 1 + 1 ≡ k = omega arith in
    let s = number_step bs (k - 1) d (omega arith) in
    let t = ap (λ i. number_of (drop i bs)) g in
    omega (arith, e, f, s, t)

pub back_fits : (len k n b : ℕ) → 0 < k → k ≤ len → n < 256 ^ (len - k) → b < 256 → b + 256 * n < 256 ^ (len - (k - 1))
back_fits len k n b p h f g =
    let e : suc (len - k) ≡ len - (k - 1) = omega arith in
    let P : ℕ → Type 0 = λ i. b + 256 * n < 256 ^ i in
    subst P e (number_fits n b (len - k) f g)

-- so a number of at most eight bytes fits a word
pub word_fits : (len k n b : ℕ) → 0 < k → k ≤ len → len ≤ 8 → n < 256 ^ (len - k) → b < 256 → b + 256 * n < 2 ^ 64
word_fits len k n b p h m f g = let t = seven_bytes n (len - k) (omega arith) f in omega arith
