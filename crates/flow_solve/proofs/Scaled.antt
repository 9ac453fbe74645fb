-- A count over the scale is a weight of 32 bits.
use Rattle.std.proofs.Common.{◌≡◌, ℕ, zero, suc, ◌+◌, ◌*◌, ◌/◌, ◌<◌, ◌≤◌, Bool, true, false, cond, ltb, List, [], ◌∷◌, max, fold, slice_index, arith, subst, sym, refl}
use Rattle.std.proofs.Math.Nat.{lt-div-mul-add, lt_of_mul-lt-mul_left, mul-div-le}
use Rattle.std.proofs.lemmas.Bool.{ltb-true}
use Rattle.flow_solve.specs.Weights.{greatest, scale_of}

start_below : (m : ℕ) (counts : List ℕ) → m ≤ fold max m counts
start_below m [] = omega arith
start_below m (c ∷ cs) = let a = start_below (max m c) cs in omega (arith, a)

count_below : (m : ℕ) (counts : List ℕ) (k : ℕ) → slice_index counts k ≤ fold max m counts
count_below m [] k = omega arith
count_below m (c ∷ cs) zero = let a = start_below (max m c) cs in omega (arith, a)
count_below m (c ∷ cs) (suc k) = count_below (max m c) cs k

quotient : (n s : ℕ) → 0 < s → n < 4294967296 * s → n / s < 4294967296
quotient n s some lt = let le : s * (n / s) ≤ n = mul-div-le n s in let less : s * (n / s) < s * 4294967296 = omega (arith, le) in lt_of_mul-lt-mul_left s less

by_scale : (b : Bool) (n m : ℕ) → ltb m 4294967295 ≡ b → n ≤ m → n / cond b 1 (m / 4294967295 + 1) < 4294967296
by_scale true n m t le = let lt = ltb-true m 4294967295 t in quotient n 1 (omega arith) (omega (arith, lt))
by_scale false n m t le =
    let up : m < m / 4294967295 * 4294967295 + 4294967295 = lt-div-mul-add (omega arith) in
    quotient n (m / 4294967295 + 1) (omega arith) (omega (arith, up))

pub is_weight : (counts : List ℕ) (k scale : ℕ) → scale ≡ scale_of counts → slice_index counts k / scale < 4294967296
is_weight counts k scale is = subst (λ (s : ℕ). slice_index counts k / s < 4294967296) (sym is) (by_scale (ltb (greatest counts) 4294967295) (slice_index counts k) (greatest counts) refl (count_below 0 counts k))
