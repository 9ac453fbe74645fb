-- Fresh names: a hint, or the hint followed by `.1`, `.2` and so on, the first that no parameter, label or result of the function has.
use Rattle.std.specs.Prelude.{ℕ, zero, suc, ◌+◌, Bool, cond, List, ◌++◌, codes, decimal, length, is_some}
use Rattle.ir_tree.specs.FunctionNames.{candidate}
use Rattle.ir_tree.specs.Locals.{first_local, locals}
use Rattle.ir_tree.specs.declared.types.Function.{Function}

-- a parameter, label or result of the function has the name
abbrev pub is_taken : Function → List ℕ → Bool
is_taken f name = is_some (first_local f name)

-- the first name for the hint from number k on that is not taken, after at most so many that are
abbrev pub free_from : (List ℕ → Bool) → List ℕ → ℕ → ℕ → List ℕ
free_from taken hint k zero = candidate hint k
free_from taken hint k (suc n) = cond (taken (candidate hint k)) (free_from taken hint (k + 1) n) (candidate hint k)

-- one of the names up to the number of locals is free
abbrev pub fresh : Function → List ℕ → List ℕ
fresh f hint = free_from (is_taken f) hint 0 (length (locals f))

-- the hints: of the new block on edge e, of the condition of select k, and of the target at site j
abbrev pub edge_hint : ℕ → List ℕ
edge_hint e = codes "pgo.edge." ++ decimal e

abbrev pub select_hint : ℕ → List ℕ
select_hint k = codes "pgo.select." ++ decimal k

abbrev pub target_hint : ℕ → List ℕ
target_hint j = codes "pgo.target." ++ decimal j
