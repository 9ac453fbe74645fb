-- Marked blocks and their nodes.
use Rattle.std.proofs.Common.{◌≡◌, ℕ, zero, suc, ◌+◌, ◌≤◌, Bool, true, false, List, [], ◌∷◌, length, get_or, Some, slice_get, refl, sym, ap, ◌∙◌, arith}
use Rattle.std.proofs.lemmas.Option.{none-some, same_Some}
use Rattle.ir_tree.specs.Reach.{is_marked}
use Rattle.ir_tree.specs.Edges.{marked_from, numbers}

pub numbers_size : (n : ℕ) (ms : List Bool) → length (numbers n ms) ≡ length ms
numbers_size n [] = refl
numbers_size n (true ∷ ms) = ap (λ (m : ℕ). suc m) (numbers_size (n + 1) ms)
numbers_size n (false ∷ ms) = ap (λ (m : ℕ). suc m) (numbers_size n ms)

pub marked_size : (k : ℕ) (ms : List Bool) → length (marked_from k ms) ≤ length ms
marked_size k [] = omega arith
marked_size k (true ∷ ms) = omega (arith, marked_size (k + 1) ms)
marked_size k (false ∷ ms) = omega (arith, marked_size (k + 1) ms)

-- a marked block is the block of its node
pub listed : (n k : ℕ) (ms : List Bool) (b : ℕ) → is_marked ms b ≡ true → (i : ℕ) × (get_or (numbers n ms) b 0 ≡ n + i) × (slice_get (marked_from k ms) i ≡ Some (k + b))
listed n k [] b h = absurd (grind arith)
listed n k (true ∷ ms) zero h = (0, omega arith, ap (λ (m : ℕ). Some m) (let e : k ≡ k + 0 = omega arith in e))
listed n k (true ∷ ms) (suc b) h =
    let r = listed (n + 1) (k + 1) ms b h in
    (suc r.0, omega (arith, r.1), r.2 ∙ ap (λ (m : ℕ). Some m) (let e : k + 1 + b ≡ k + suc b = omega arith in e))
listed n k (false ∷ ms) zero h = absurd (grind arith)
listed n k (false ∷ ms) (suc b) h =
    let r = listed n (k + 1) ms b h in
    (r.0, r.1, r.2 ∙ ap (λ (m : ℕ). Some m) (let e : k + 1 + b ≡ k + suc b = omega arith in e))

-- the block of a node is marked
pub is_listed : (n k : ℕ) (ms : List Bool) (i c : ℕ) → slice_get (marked_from k ms) i ≡ Some c → (b : ℕ) × (c ≡ k + b) × (is_marked ms b ≡ true) × (get_or (numbers n ms) b 0 ≡ n + i)
is_listed n k [] i c h = absurd (none-some c h)
is_listed n k (true ∷ ms) zero c h = (0, sym (same_Some k c h) ∙ (let e : k ≡ k + 0 = omega arith in e), refl, omega arith)
is_listed n k (true ∷ ms) (suc i) c h = let r = is_listed (n + 1) (k + 1) ms i c h in (suc r.0, omega (arith, r.1), r.2, omega (arith, r.3))
is_listed n k (false ∷ ms) i c h = let r = is_listed n (k + 1) ms i c h in (suc r.0, omega (arith, r.1), r.2, r.3)

-- the first block is the block of the first node
pub first_node : (n : ℕ) (ms : List Bool) → is_marked ms 0 ≡ true → get_or (numbers n ms) 0 0 ≡ n
first_node n [] h = absurd (grind arith)
first_node n (m ∷ ms) h = refl
