-- A signed division of integers of w bits: its quotient fits a word, unless it overflows.
use Rattle.std.proofs.Common.{◌≡◌, ◌≢◌, ℕ, zero, suc, ◌-◌, ◌/◌, ◌^◌, ◌<◌, ◌≤◌, Bool, true, false, refl, sym, ap, ◌∙◌, arith, inl, inr, ℤ, pos, negsuc, neg_ℤ, w64, FitsSigned, to_z, of_z, eq-eqb, ne_eqb, Result, Ok, Err}
use Rattle.std.specs.Prelude.{int_div, if◌then◌else◌}
use Rattle.std.proofs.lemmas.Nat.{div_below}
use Rattle.std.proofs.lemmas.Int.{quot_is}
use Rattle.std.proofs.lemmas.Bool.{cases_lt}
use Rattle.std.proofs.Math.Nat.{div-le_self}
use Rattle.ir_value.specs.Integer.{wrapped, signed_of, least_signed, minus_one}
use Rattle.ir_value.specs.Operators.{overflows, divided_signed}
use Rattle.ir_value.specs.declared.operators.DivTrap.{DivTrap}
use Rattle.ir_value.specs.declared.operators.DivTrap.TheVariants.{DivZero, DivOverflow}
use Rattle.ir_value.proofs.WordLemmas.{signed_low, signed_high, signed_fits, half, power_up}

neg_fits : (r a : ℕ) → r ≤ suc a → a < 2 ^ 63 → FitsSigned w64 (neg_ℤ (pos r))
neg_fits zero a h k = record { sfits = omega arith }
neg_fits (suc r) a h k = record { sfits = omega arith }

-- only the least number of a word over -1 has no quotient
pub quotient_fits : (a d : ℤ) → FitsSigned w64 a → (a ≡ negsuc (2 ^ 63 - 1) → d ≡ negsuc 0 → ⊥) → FitsSigned w64 (int_div a d)
quotient_fits (pos a) (pos b) f n = let g = f.sfits in let h = div-le_self a b in record { sfits = omega arith }
quotient_fits (pos a) (negsuc b) f n = let g = f.sfits in let h = div-le_self a (suc b) in neg_fits (a / suc b) a (omega arith) g
quotient_fits (negsuc a) (pos b) f n = let g = f.sfits in let h = div-le_self (suc a) b in neg_fits (suc a / b) a h g
quotient_fits (negsuc a) (negsuc zero) f n =
    let g = f.sfits in
    let h = div-le_self (suc a) 1 in
    let ne : a ≢ 2 ^ 63 - 1 = λ e. n (ap negsuc e) refl in
    record { sfits = omega arith }
quotient_fits (negsuc a) (negsuc (suc b)) f n =
    let g = f.sfits in
    let h : suc a / suc (suc b) < 2 ^ 63 = div_below (suc a) (suc (suc b)) (2 ^ 63) (omega arith) (omega arith) in
    record { sfits = h }

is_least : (w l : ℕ) → 0 < w → w ≤ 64 → l < 2 ^ w → signed_of w l ≡ negsuc (2 ^ 63 - 1) → l ≡ least_signed w
is_least w l h k b e = elim (cases_lt l (2 ^ (w - 1))) [
  | inl p ↦ let i : pos l ≡ negsuc (2 ^ 63 - 1) = sym (signed_low w l p) ∙ e in cc
  | inr p ↦
      let i : negsuc (2 ^ w - suc l) ≡ negsuc (2 ^ 63 - 1) = sym (signed_high w l p b) ∙ e in
      let j : 2 ^ w - suc l ≡ 2 ^ 63 - 1 = cc in
      let g = half w h in
      let m = power_up (w - 1) 63 (omega arith) in
      omega arith
]

is_minus_one : (w r : ℕ) → r < 2 ^ w → signed_of w r ≡ negsuc 0 → r ≡ minus_one w
is_minus_one w r b e = elim (cases_lt r (2 ^ (w - 1))) [
  | inl p ↦ let i : pos r ≡ negsuc 0 = sym (signed_low w r p) ∙ e in cc
  | inr p ↦
      let i : negsuc (2 ^ w - suc r) ≡ negsuc 0 = sym (signed_high w r p b) ∙ e in
      let j : 2 ^ w - suc r ≡ 0 = cc in
      omega arith
]

overflow_seen : (w l r : ℕ) → l ≡ least_signed w → r ≡ minus_one w → overflows w l r ≡ true
overflow_seen w l r e f = let i = eq-eqb l (least_signed w) e in let j = eq-eqb r (minus_one w) f in rw (i, j) refl

-- what the machine's division gives is the quotient
pub quotient_is : (w l r : ℕ) → 0 < w → w ≤ 64 → l < 2 ^ w → r < 2 ^ w → false ≡ overflows w l r
    → let q = int_div (to_z w64 (of_z w64 (signed_of w l))) (to_z w64 (of_z w64 (signed_of w r))) in
    to_z w64 (of_z w64 q) ≡ int_div (signed_of w l) (signed_of w r)
quotient_is w l r h k b c o =
    let f = signed_fits w l h k b in
    let g = signed_fits w r h k c in
    let fits = quotient_fits (signed_of w l) (signed_of w r) f
    (λ x y. let t = overflow_seen w l r (is_least w l h k b x) (is_minus_one w r c y) in cc) in
    quot_is w64 (signed_of w l) (signed_of w r) f g fits

pub divided_is : (w l r n : ℕ) (z : ℤ) → 0 < r → false ≡ overflows w l r → n ≡ wrapped w z → Ok n ≡ divided_signed w l r z
divided_is w l r n z h o e =
    let ok : ℕ → Result ℕ DivTrap = λ n. Ok n in
    let unless : Bool → Result ℕ DivTrap = λ b. if b then Err DivOverflow else Ok (wrapped w z) in
    let ne : r ≢ 0 = omega arith in
    let outer : Bool → Result ℕ DivTrap = λ b. if b then Err DivZero else unless (overflows w l r) in
    ap ok e ∙ ap unless o ∙ ap outer (sym (ne_eqb r 0 ne))
