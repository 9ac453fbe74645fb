-- Counters along the counted edges outside the order, one edge further.
use Rattle.std.proofs.Common.{◌≡◌, ℕ, zero, suc, ◌+◌, ◌*◌, ◌^◌, ◌<◌, ◌≤◌, ◌==◌, cond, true, false, List, [], ◌∷◌, length, slice_index, drop, AllPairs, ℤ, pos, replicate, sym, ap, subst, ◌∙◌, arith}
use Rattle.std.proofs.lemmas.List.{drop_more}
use Rattle.ir_tree.specs.declared.edge.Edge.{Edge}
use Rattle.spanning_order.specs.Lists.{Among}
use Rattle.spanning_order.specs.Spanning.{EndsAreNodes}
use Rattle.flow_solve.specs.Ends.{edge_at}
use Rattle.flow_solve.specs.Nets.{paid, paid_outside, pay_all, AreWithin}
use Rattle.flow_solve.proofs.Listed.{among_at, get_there}
use Rattle.flow_solve.proofs.Within.{paid_within, widened, zeros_within}

pub place-le : (xs : List ℕ) (i : ℕ) → AllPairs (λ j k. j < k) xs → i < length xs → i ≤ slice_index xs i
place-le xs zero rising within = omega arith
place-le xs (suc i) rising within =
    let before : i ≤ slice_index xs i = place-le xs i rising (omega arith) in
    let less : slice_index xs i < slice_index xs (suc i) = rising i (suc i) 0 (omega arith) within in
    omega arith

pub length-le : (xs : List ℕ) (n : ℕ) → AllPairs (λ j k. j < k) xs → ((k : ℕ) → Among k xs → k < n) → length xs ≤ n
length-le [] n rising below = omega arith
length-le (x ∷ xs) n rising below =
    let last : length xs < length (x ∷ xs) = omega arith in
    let le : length xs ≤ slice_index (x ∷ xs) (length xs) = place-le (x ∷ xs) (length xs) rising last in
    let lt : slice_index (x ∷ xs) (length xs) < n = below _ (among_at (x ∷ xs) (length xs) last) in
    omega (arith, le, lt)

module _ (edges : List Edge) (counted counters ends : List ℕ) (nets now : List ℤ) (i : ℕ) (nodes : EndsAreNodes edges (length nets)) (rising : AllPairs (λ j k. j < k) counted)
    (numbers : (k : ℕ) → Among k counted → k < length edges) (few : length edges < 4294967296) (sizes : length counters ≡ length counted) (within : i < length counted) where
  pub is_edge : slice_index counted i < length edges
  is_edge = numbers (slice_index counted i) (among_at counted i within)

  pub ends_in : (n : ℕ) → n ≡ length nets → ((edge_at edges (slice_index counted i)).from < n) × ((edge_at edges (slice_index counted i)).to < n)
  ends_in n e = subst (λ (m : ℕ). ((edge_at edges (slice_index counted i)).from < m) × ((edge_at edges (slice_index counted i)).to < m)) (sym e)
      (nodes (slice_index counted i) _ (get_there edges (slice_index counted i) _ is_edge))

  place_is_small : i < 4294967296
  place_is_small = let le = place-le counted i rising within in omega (arith, le, is_edge, few)

  pub room : AreWithin (2 ^ 65 * i) now → AreWithin (2 ^ 100) now
  room w = let s = place_is_small in widened (2 ^ 65 * i) (2 ^ 100) now (omega arith) w

  pays_within : (count : ℕ) → count < 2 ^ 64 → length now ≡ length nets → AreWithin (2 ^ 65 * i) now → AreWithin (2 ^ 65 * (i + 1)) (paid (edge_at edges (slice_index counted i)) count now)
  pays_within count fits same w =
      let e = ends_in (length now) same in
      let s : 2 ^ 65 * i + 2 ^ 65 ≡ 2 ^ 65 * (i + 1) = omega arith in
      subst (λ (n : ℕ). AreWithin n (paid (edge_at edges (slice_index counted i)) count now)) s (paid_within (2 ^ 65 * i) count (edge_at edges (slice_index counted i)) now w e.0 e.1 fits)

  pub stays_within : (end count : ℕ) → count < 2 ^ 64 → length now ≡ length nets → AreWithin (2 ^ 65 * i) now → AreWithin (2 ^ 65 * (i + 1)) (paid_outside (edge_at edges (slice_index counted i)) end count now)
  stays_within end count fits same w = elim (end == 0) as (λ b. AreWithin (2 ^ 65 * (i + 1)) (cond b (paid (edge_at edges (slice_index counted i)) count now) now)) [
    | true ↦ pays_within count fits same w
    | false ↦ widened (2 ^ 65 * i) (2 ^ 65 * (i + 1)) now (omega arith) w
  ]

  counters_within : i < length counters
  counters_within = omega arith

  -- what is left, one edge further
  pub one_further : pay_all edges ends (drop i counted) (drop i counters) now
      ≡ pay_all edges ends (drop (i + 1) counted) (drop (i + 1) counters) (paid_outside (edge_at edges (slice_index counted i)) (slice_index ends (slice_index counted i)) (slice_index counters i) now)
  one_further = ap (λ (ks : List ℕ). pay_all edges ends ks (drop i counters) now) (drop_more counted i 0 within) ∙ ap (λ (cs : List ℕ). pay_all edges ends (slice_index counted i ∷ drop (i + 1) counted) cs now) (drop_more counters i 0 counters_within)

pub starts_within : (nets : List ℤ) → nets ≡ replicate (length nets) (pos 0) → AreWithin 0 nets
starts_within nets none = subst (λ (xs : List ℤ). AreWithin 0 xs) (sym none) (zeros_within (length nets))

pub ends_within_limit : (counted : List ℕ) (n i : ℕ) (nets : List ℤ) → AllPairs (λ j k. j < k) counted → ((k : ℕ) → Among k counted → k < n) → n < 4294967296 → i ≤ length counted → AreWithin (2 ^ 65 * i) nets → AreWithin (2 ^ 98) nets
ends_within_limit counted n i nets rising numbers few le w = let l = length-le counted n rising numbers in widened (2 ^ 65 * i) (2 ^ 98) nets (omega arith) w
