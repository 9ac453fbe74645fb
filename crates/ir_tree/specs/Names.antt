-- Names as bytes, and the index that finds the first place of a name in a list.
use Rattle.std.specs.Prelude.{◌≡◌, ℕ, Bool, List, Option, nat_eq, position}
use Rattle.std.specs.Cmp.Lexicographic.{pointwise}
use Rattle.indexmap.specs.IndexMap.{get_by}
use Rattle.ir_tree.specs.declared.index.Index.{Index}

-- two names are one where their bytes are
abbrev pub same : List ℕ → List ℕ → Bool
same = pointwise nat_eq

-- the place that the index has for a name, none where it doesn't have the name
abbrev pub first_place : Index → List ℕ → Option ℕ
first_place index name = get_by (same name) index.places

-- the index has the first place of each name of the list, and no other name
abbrev pub Indexes : Index → List (List ℕ) → Type 0
Indexes index names = (name : List ℕ) → first_place index name ≡ position (same name) names
