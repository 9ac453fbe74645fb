-- Targets whose names are borrowed, and the targets of a merged site as a map from names.
use Rattle.std.specs.Prelude.{ℕ, List, [], ◌∷◌, Option, Some, None, map, sum_by}
use Rattle.std.specs.declared.cmp.Ordering.{Ordering}
use Rattle.std.specs.Borrow.{Bor}
use Rattle.std.specs.Global.{Vec}
use Rattle.prof_text.specs.Merged.{Target, name_cmp, capped}

-- targets whose names are borrowed, as plain targets
abbrev pub target_of : Bor (List ℕ) × ℕ → Target
target_of t = (t.0.now, t.1)

abbrev pub targets_of : List (Bor (List ℕ) × ℕ) → List Target
targets_of ts = map target_of ts

abbrev pub sites_of : List (Vec (Bor (List ℕ) × ℕ)) → List (List Target)
sites_of sites = map (λ (site : Vec (Bor (List ℕ) × ℕ)). targets_of site.items) sites

-- the capped sum of the counts of one name's targets, where there is one
abbrev pub total_of : List Target → Option ℕ
total_of [] = None
total_of (t ∷ ts) = Some (capped (sum_by (λ (u : Target). u.1) (t ∷ ts)))

-- a borrowed name against another
abbrev pub borrowed_cmp : Bor (List ℕ) → Bor (List ℕ) → Ordering
borrowed_cmp x y = name_cmp x.now y.now

abbrev pub against : List ℕ → Bor (List ℕ) → Ordering
against name k = name_cmp name k.now
