-- The index of a function's names, and the names that are free in it.
use Rattle.std.specs.Prelude.{◌≡◌, ℕ, zero, suc, ◌<◌, Bool, true, false, List, ◌++◌, ◌∷◌, [], decimal, Option, is_some}
use Rattle.std.specs.Map.{lookup}
use Rattle.indexmap.specs.IndexMap.{get_by}
use Rattle.ir_tree.specs.Names.{same}
use Rattle.ir_tree.specs.Locals.{Entry, first_local}
use Rattle.ir_tree.specs.declared.function_index.FunctionIndex.{FunctionIndex}
use Rattle.ir_tree.specs.declared.locals.Local.{Local}
use Rattle.ir_tree.specs.declared.types.Function.{Function}

-- what the index has for a name
abbrev pub indexed : FunctionIndex → List ℕ → Option Local
indexed index name = get_by (same name) index.locals

-- the index has for each name the first entry of the list
abbrev pub IndexesEntries : FunctionIndex → List Entry → Type 0
IndexesEntries index es = (name : List ℕ) → indexed index name ≡ lookup (same name) es

-- the index has for each name the first local of the function
abbrev pub IsIndexOf : FunctionIndex → Function → Type 0
IsIndexOf index f = (name : List ℕ) → indexed index name ≡ first_local f name

-- the names that are tried for a hint: the hint, then the hint with `.1`, `.2` and so on
abbrev pub candidate : List ℕ → ℕ → List ℕ
candidate hint zero = hint
candidate hint (suc k) = hint ++ 46 ∷ decimal (suc k)

-- the first candidate that no local of the index has
pub record IsFresh (index : FunctionIndex) (hint name : List ℕ) : Type 0 where
  pub tries : ℕ
  pub named : name ≡ candidate hint tries
  pub free : is_some (indexed index name) ≡ false
  pub first : (k : ℕ) → k < tries → is_some (indexed index (candidate hint k)) ≡ true
