-- The nets stay within a limit: a counter adds to it at both ends, and a net that is handed on moves its share along.
use Rattle.std.proofs.Common.{rules, ◌≡◌, ◌≢◌, ℕ, zero, suc, ◌+◌, ◌^◌, ◌<◌, ◌≤◌, ◌⊎◌, inl, inr, List, ◌∷◌, length, slice_index, set, sum, ℤ, pos, ◌+ℤ◌, ◌-ℤ◌, replicate, refl, sym, subst, ◌∙◌, arith, length-set, get_or-set_same, get_or-set_other}
use Rattle.std.specs.Int.{w128}
use Rattle.std.specs.Int.RustNames.{FitsSigned}
use Rattle.std.proofs.lemmas.Bool.{cases_eq}
use Rattle.std.proofs.lemmas.Int.{ints}
use Rattle.std.proofs.lemmas.List.{get_or_past, length-replicate}
use Rattle.std.proofs.lemmas.List.Sums.{sum_by-cons, sum_by-set, get_or-le-sum_by}
use Rattle.ir_tree.specs.declared.edge.Edge.{Edge}
use Rattle.spanning_order.specs.Lists.{Among}
use Rattle.flow_solve.specs.Nets.{at, paid, IsBounded, AreWithin}

-- the same for those nodes that still count
pub record HoldWithin (limit : ℕ) (live : ℕ → Type 0) (nets : List ℤ) : Type 0 where
  pub bounds : List ℕ
  pub size : length bounds ≡ length nets
  pub total : sum bounds ≤ limit
  pub each : (v : ℕ) → live v → IsBounded (slice_index bounds v) (at nets v)

pub widened : (limit more : ℕ) (nets : List ℤ) → limit ≤ more → AreWithin limit nets → AreWithin more nets
widened limit more nets le w = record { bounds = w.bounds; size = w.size; total = omega (arith, w.total); each = w.each }

pub all_live : (limit : ℕ) (nets : List ℤ) (live : ℕ → Type 0) → AreWithin limit nets → HoldWithin limit live nets
all_live limit nets live w = record { bounds = w.bounds; size = w.size; total = w.total; each = λ v h. w.each v }

wider : (b c : ℕ) (z : ℤ) → b ≤ c → IsBounded b z → IsBounded c z
wider b c z le h = (omega (arith, ints), omega (arith, ints))

below_sum : (bs : List ℕ) (v : ℕ) → slice_index bs v ≤ sum bs
below_sum bs v = elim (lt_or_ge v (length bs)) [ inl lt ↦ get_or-le-sum_by (λ x. x) bs v 0 lt | inr ge ↦ let e : slice_index bs v ≡ 0 = get_or_past bs v 0 ge in omega (arith, e) ]
  where
    lt_or_ge : (a b : ℕ) → (a < b) ⊎ (b ≤ a)
    lt_or_ge a b = grind arith

pub one_within : (limit : ℕ) (live : ℕ → Type 0) (nets : List ℤ) (v : ℕ) → HoldWithin limit live nets → live v → IsBounded limit (at nets v)
one_within limit live nets v w h = wider (slice_index w.bounds v) limit (at nets v) (let b = below_sum w.bounds v in omega (arith, b, w.total)) (w.each v h)

module _ (limit more : ℕ) (nets : List ℤ) (v : ℕ) (z : ℤ) (w : AreWithin limit nets) (within : v < length nets) (grown : (b : ℕ) → IsBounded b (at nets v) → IsBounded (b + more) z) where
  in_bounds : v < length w.bounds
  in_bounds = subst (λ (n : ℕ). v < n) (sym w.size) within

  pub raised : AreWithin (limit + more) (set nets v z)
  raised = record {
    bounds = set w.bounds v (slice_index w.bounds v + more);
    size = length-set w.bounds v (slice_index w.bounds v + more) ∙ w.size ∙ sym (length-set nets v z);
    total = (let e = sum_by-set (λ x. x) w.bounds v (slice_index w.bounds v + more) 0 in_bounds in omega (arith, e, w.total));
    each = λ u. elim (cases_eq u v) [
      | inl e ↦ subst (λ (x : ℕ). IsBounded (slice_index (set w.bounds v (slice_index w.bounds v + more)) x) (at (set nets v z) x)) (sym e)
          (subst (λ (b : ℕ). IsBounded b (at (set nets v z) v)) (sym (get_or-set_same w.bounds v (slice_index w.bounds v + more) 0 in_bounds))
          (subst (λ (y : ℤ). IsBounded (slice_index w.bounds v + more) y) (sym (get_or-set_same nets v z (pos 0) within)) (grown (slice_index w.bounds v) (w.each v))))
      | inr ne ↦ subst (λ (b : ℕ). IsBounded b (at (set nets v z) u)) (sym (get_or-set_other w.bounds v u (slice_index w.bounds v + more) 0 ne))
          (subst (λ (y : ℤ). IsBounded (slice_index w.bounds u) y) (sym (get_or-set_other nets v u z (pos 0) ne)) (w.each u))
    ];
  }

less_bounded : (b count : ℕ) (z : ℤ) → count < 2 ^ 64 → IsBounded b z → IsBounded (b + 2 ^ 64) (z -ℤ pos count)
less_bounded b count z fits h = (omega (arith, ints), omega (arith, ints))

more_bounded : (b count : ℕ) (z : ℤ) → count < 2 ^ 64 → IsBounded b z → IsBounded (b + 2 ^ 64) (z +ℤ pos count)
more_bounded b count z fits h = (omega (arith, ints), omega (arith, ints))

pub paid_within : (limit count : ℕ) (e : Edge) (nets : List ℤ) → AreWithin limit nets → e.from < length nets → e.to < length nets → count < 2 ^ 64 → AreWithin (limit + 2 ^ 65) (paid e count nets)
paid_within limit count e nets w from to fits =
    let left : List ℤ = set nets e.from (at nets e.from -ℤ pos count) in
    let first : AreWithin (limit + 2 ^ 64) left = raised limit (2 ^ 64) nets e.from (at nets e.from -ℤ pos count) w from (λ b h. less_bounded b count (at nets e.from) fits h) in
    let to_left : e.to < length left = subst (λ (n : ℕ). e.to < n) (sym (length-set nets e.from (at nets e.from -ℤ pos count))) to in
    let both : AreWithin ((limit + 2 ^ 64) + 2 ^ 64) (paid e count nets) = raised (limit + 2 ^ 64) (2 ^ 64) left e.to (at left e.to +ℤ pos count) first to_left (λ b h. more_bounded b count (at left e.to) fits h) in
    subst (λ (n : ℕ). AreWithin n (paid e count nets)) (let s : (limit + 2 ^ 64) + 2 ^ 64 ≡ limit + 2 ^ 65 = omega arith in s) both

pub zeros_within : (n : ℕ) → AreWithin 0 (replicate n (pos 0))
zeros_within n = record {
  bounds = replicate n 0;
  size = length-replicate n 0 ∙ sym (length-replicate n (pos 0));
  total = sum_zeros n;
  each = λ v. subst (λ (b : ℕ). IsBounded b (at (replicate n (pos 0)) v)) (sym (zero_number n v)) (subst (λ (z : ℤ). IsBounded 0 z) (sym (zero_value n v)) (omega (arith, ints), omega (arith, ints)));
}
  where
    sum_zeros : (n : ℕ) → sum (replicate n 0) ≤ 0
    sum_zeros zero = omega arith
    sum_zeros (suc n) = let more = sum_by-cons (λ x. x) 0 (replicate n 0) in let rest = sum_zeros n in omega (arith, more, rest)

    zero_number : (n k : ℕ) → slice_index (replicate n 0) k ≡ 0
    zero_number zero k = refl
    zero_number (suc n) zero = refl
    zero_number (suc n) (suc k) = zero_number n k

    zero_value : (n k : ℕ) → at (replicate n (pos 0)) k ≡ pos 0
    zero_value zero k = refl
    zero_value (suc n) zero = refl
    zero_value (suc n) (suc k) = zero_value n k

sum_bounded : (a b : ℕ) (x y : ℤ) → IsBounded a x → IsBounded b y → IsBounded (a + b) (x +ℤ y)
sum_bounded a b x y h k = (omega (arith, ints), omega (arith, ints))

-- a node hands its net on to a reached one, and counts no more
module _ (limit : ℕ) (reached : List ℕ) (nets : List ℤ) (old new : ℕ) (w : HoldWithin limit (λ v. Among v (new ∷ reached)) nets)
    (is_reached : Among old reached) (is_new : Among new reached → ⊥) (old_in : old < length nets) (new_in : new < length nets) where
  old_bounds : old < length w.bounds
  old_bounds = subst (λ (n : ℕ). old < n) (sym w.size) old_in

  new_bounds : new < length w.bounds
  new_bounds = subst (λ (n : ℕ). new < n) (sym w.size) new_in

  ne_old : new ≢ old
  ne_old e = is_new (subst (λ (x : ℕ). Among x reached) (sym e) is_reached)

  pub moved : HoldWithin limit (λ v. Among v reached) (set nets old (at nets old +ℤ at nets new))
  moved =
      let y : ℕ = slice_index w.bounds old + slice_index w.bounds new in
      let z : ℤ = at nets old +ℤ at nets new in
      let one : List ℕ = set w.bounds old y in
      let two : List ℕ = set one new 0 in
      let new_in_one : new < length one = subst (λ (n : ℕ). new < n) (sym (length-set w.bounds old y)) new_bounds in
      let first = sum_by-set (λ x. x) w.bounds old y 0 old_bounds in
      let second = sum_by-set (λ x. x) one new 0 0 new_in_one in
      let kept : slice_index one new ≡ slice_index w.bounds new = get_or-set_other w.bounds old new y 0 ne_old in
      record {
        bounds = two;
        size = length-set one new 0 ∙ length-set w.bounds old y ∙ w.size ∙ sym (length-set nets old z);
        total = omega (arith, first, second, kept, w.total);
        each = λ v a. (
            let away : v ≢ new = λ e. is_new (subst (λ (x : ℕ). Among x reached) e a) in
            let there : slice_index two v ≡ slice_index one v = get_or-set_other one new v 0 0 away in
            subst (λ (b : ℕ). IsBounded b (at (set nets old z) v)) (sym there) (elim (cases_eq v old) [
              | inl e ↦ subst (λ (x : ℕ). IsBounded (slice_index one x) (at (set nets old z) x)) (sym e)
                  (subst (λ (b : ℕ). IsBounded b (at (set nets old z) old)) (sym (get_or-set_same w.bounds old y 0 old_bounds))
                  (subst (λ (u : ℤ). IsBounded y u) (sym (get_or-set_same nets old z (pos 0) old_in)) (sum_bounded (slice_index w.bounds old) (slice_index w.bounds new) (at nets old) (at nets new) (w.each old (inr is_reached)) (w.each new (inl refl)))))
              | inr ne ↦ subst (λ (b : ℕ). IsBounded b (at (set nets old z) v)) (sym (get_or-set_other w.bounds old v y 0 ne))
                  (subst (λ (u : ℤ). IsBounded (slice_index w.bounds v) u) (sym (get_or-set_other nets old v z (pos 0) ne)) (w.each v (inr a)))
            ]));
      }

  -- and the sum is a number of 128 bits
  pub sum_fits : limit ≤ 2 ^ 100 → FitsSigned w128 (at nets old +ℤ at nets new)
  sum_fits few =
      let a = one_within limit (λ v. Among v (new ∷ reached)) nets old w (inr is_reached) in
      let b = one_within limit (λ v. Among v (new ∷ reached)) nets new w (inl refl) in
      fits_from limit (at nets old) (at nets new) few a b
    where
      fits_from : (limit : ℕ) (x y : ℤ) → limit ≤ 2 ^ 100 → IsBounded limit x → IsBounded limit y → FitsSigned w128 (x +ℤ y)
      fits_from limit x y few h k = search rules
