-- What a view says, as numbers that add up over all views.
use Rattle.std.specs.Prelude.{ℕ, zero, suc, ◌+◌, Bool, false, ◌&&◌, ◌||◌, not, ◌==◌, if◌then◌else◌, List, [], ◌∷◌, ◌++◌, slice_index, replicate, length, ◌-◌, sum_by, count_by, Option, Some, None}
use Rattle.count_core.specs.declared.state.CoreView.{CoreView}
use Rattle.count_core.specs.declared.state.Walk.{Walk}

-- a view that has done nothing
abbrev pub fresh : ℕ → CoreView
fresh shares = record { shares = shares; added = []; asked = []; drawn = []; walking = None }

-- a view without shares
abbrev pub spent : CoreView
spent = fresh 0

-- the sums, with k more at i. They are lengthened by zeros until i is inside
abbrev pub raised : List ℕ → ℕ → ℕ → List ℕ
raised [] zero k = k ∷ []
raised (x ∷ xs) zero k = (x + k) ∷ xs
raised [] (suc i) k = 0 ∷ raised [] i k
raised (x ∷ xs) (suc i) k = x ∷ raised xs i k

-- the sums, with zeros behind them until there are n
abbrev pub lengthened : List ℕ → ℕ → List ℕ
lengthened xs n = xs ++ (let z : ℕ = 0 in replicate (n - length xs) z)

-- the sums of two views, one by one. The shorter list is lengthened by zeros
abbrev pub joined : List ℕ → List ℕ → List ℕ
joined [] ys = ys
joined (x ∷ xs) [] = x ∷ xs
joined (x ∷ xs) (y ∷ ys) = (x + y) ∷ joined xs ys

-- the first view with what the second has done
abbrev pub merged : CoreView → CoreView → CoreView
merged v u = record { shares = v.shares + u.shares; added = joined v.added u.added; asked = v.asked ++ u.asked; drawn = v.drawn ++ u.drawn; walking = v.walking }

abbrev pub shares_of : CoreView → ℕ
shares_of v = v.shares

-- what the view added to the counter c
abbrev pub added_to : ℕ → CoreView → ℕ
added_to c v = slice_index v.added c

-- the sum of h over the numbers that the view drew
abbrev pub weight_of : (ℕ → ℕ) → CoreView → ℕ
weight_of h v = sum_by h v.drawn

abbrev pub is_at : ℕ → ℕ → ℕ × ℕ → Bool
is_at site key e = (e.0 == site) && (e.1 == key)

-- how often the view asked for the key at the site
abbrev pub asks : ℕ → ℕ → CoreView → ℕ
asks site key v = count_by (is_at site key) v.asked

abbrev pub one_if : Bool → ℕ
one_if b = if b then 1 else 0

-- 1 where the walk is at the site and has the key
abbrev pub walk_with : ℕ → ℕ → Option Walk → ℕ
walk_with site key None = 0
walk_with site key (Some w) = one_if (is_at site key (w.site, w.key))

-- how often the view asked for the key, or walks with it
abbrev pub wants : ℕ → ℕ → CoreView → ℕ
wants site key v = asks site key v + walk_with site key v.walking

-- whether the key is one of the first n that `row` gives. 0 is no key
abbrev pub is_kept : (ℕ → ℕ) → ℕ → ℕ → Bool
is_kept row zero key = false
is_kept row (suc n) key = is_kept row n key || ((row n == key) && not (key == 0))

abbrev pub is_missed : (ℕ → Bool) → ℕ → ℕ × ℕ → Bool
is_missed kept site e = (e.0 == site) && not (kept e.1)

-- how often the view asked at the site for a key that is not kept
abbrev pub misses : (ℕ → Bool) → ℕ → CoreView → ℕ
misses kept site v = count_by (is_missed kept site) v.asked
