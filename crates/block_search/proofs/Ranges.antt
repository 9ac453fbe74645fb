-- The rows that ends cut out of a list.
use Rattle.std.proofs.Common.{◌≡◌, ℕ, zero, suc, ◌<◌, ◌≤◌, List, [], ◌∷◌, length, get_or, refl, arith}
use Rattle.std.specs.Prelude.{slice_range}
use Rattle.ir_tree.specs.Reach.{row}
use Rattle.block_search.specs.Rows.{cut, begins, AreEnds}

pub cut_size : (start : ℕ) (ends targets : List ℕ) → length (cut start ends targets) ≡ length ends
cut_size start [] targets = refl
cut_size start (e ∷ es) targets = omega (arith, cut_size e es targets)

last_end : (start : ℕ) (ends : List ℕ) (size : ℕ) → AreEnds start ends size → start ≤ size
last_end start [] size e = omega (arith, e)
last_end start (x ∷ xs) size h = omega (arith, h.0, last_end x xs size h.1)

pub ends_rise : (start : ℕ) (ends : List ℕ) (size b : ℕ) → AreEnds start ends size → b < length ends → (begins start ends b ≤ get_or ends b 0) × (get_or ends b 0 ≤ size)
ends_rise start [] size b h within = absurd (omega (arith, within))
ends_rise start (e ∷ es) size zero h within = (h.0, last_end e es size h.1)
ends_rise start (e ∷ es) size (suc b) h within = by b (ends_rise e es size b h.1 (omega (arith, within)))
  where
    by : (b : ℕ) → (begins e es b ≤ get_or es b 0) × (get_or es b 0 ≤ size) → (get_or (e ∷ es) b 0 ≤ get_or es b 0) × (get_or es b 0 ≤ size)
    by zero r = r
    by (suc b) r = r

pub row_is : (start : ℕ) (ends targets : List ℕ) (b : ℕ) → b < length ends → row (cut start ends targets) b ≡ slice_range targets (begins start ends b) (get_or ends b 0)
row_is start [] targets b within = absurd (omega (arith, within))
row_is start (e ∷ es) targets zero within = refl
row_is start (e ∷ es) targets (suc b) within = by b (row_is e es targets b (omega (arith, within)))
  where
    by : (b : ℕ) → row (cut e es targets) b ≡ slice_range targets (begins e es b) (get_or es b 0) → row (cut e es targets) b ≡ slice_range targets (get_or (e ∷ es) b 0) (get_or es b 0)
    by zero r = r
    by (suc b) r = r
