-- The units of a counted module: the globals with their names, and what the calls that name one tell of it.
use Rattle.std.specs.Prelude.{ℕ, suc, ◌==◌, ◌&&◌, Bool, true, false, not, cond, List, [], ◌∷◌, ◌++◌, codes, filter, filter_map, flat_map, map, max, Option, None, Some, unwrap_or}
use Rattle.std.specs.List.{list_any}
use Rattle.spec_lists.specs.Each.{first_of}
use Rattle.ir_rules.specs.Kinds.{is_unit_name, unit_of}
use Rattle.ir_rules.specs.Units.{text_of}
use Rattle.ir_tree.specs.Names.{same}
use Rattle.ir_tree.specs.declared.types.Global1.{Global1}
use Rattle.ir_tree.specs.declared.types.Init.TheVariants as init
use Rattle.ir_tree.specs.declared.types.MemTy.{Array', end_of-MemTy, more_of-MemTy}
use Rattle.ir_tree.specs.declared.types.MemTy.TheVariants.{Scalar}
use Rattle.ir_tree.specs.declared.types.Ty.TheVariants.{I64}
use Rattle.lowering.specs.Asked.{Asked, Rise, Note, hash_asked, symbol_asked}
use Rattle.pgo_base.specs.Hash.{hash8}

-- ---- what is asked of a unit

abbrev pub is_asked_of : List ℕ → Asked → Bool
is_asked_of symbol a = same symbol (symbol_asked a)

abbrev pub asked_of : List ℕ → List Asked → List Asked
asked_of symbol asks = filter (is_asked_of symbol) asks

abbrev pub counters_asked : Asked → Option ℕ
counters_asked (Rise symbol hash counters counter amount) = Some counters
counters_asked (Note symbol hash target site) = None

-- so many sites a unit has that has this one
abbrev pub sites_asked : Asked → ℕ
sites_asked (Rise symbol hash counters counter amount) = 0
sites_asked (Note symbol hash target site) = suc site

abbrev pub most : List ℕ → ℕ
most [] = 0
most (n ∷ ns) = max n (most ns)

-- The hash of the first call and the number of counters of the first increment that name the unit, and one more than the greatest
-- site
abbrev pub hash_told : List ℕ → List Asked → Option ℕ
hash_told symbol asks = first_of (map hash_asked (asked_of symbol asks))

abbrev pub counters_told : List ℕ → List Asked → Option ℕ
counters_told symbol asks = first_of (filter_map counters_asked (asked_of symbol asks))

abbrev pub sites_told : List ℕ → List Asked → ℕ
sites_told symbol asks = most (map sites_asked (asked_of symbol asks))

-- ---- the globals of a unit

-- the global that names a unit that some call names
abbrev pub names_used : List Asked → Global1 → Bool
names_used asks g = is_unit_name g.name && list_any (is_asked_of g.name) asks

-- the name that the global holds
abbrev pub name_held : Global1 → List ℕ
name_held g = unwrap_or (text_of g) []

abbrev pub counters_symbol : List ℕ → List ℕ
counters_symbol symbol = codes "__profc_" ++ unit_of symbol

abbrev pub data_symbol : List ℕ → List ℕ
data_symbol symbol = codes "__profd_" ++ unit_of symbol

-- `@__profc_X = global [N x i64] zeroinitializer`
abbrev pub counters_global : List ℕ → ℕ → Global1
counters_global symbol counters = record {
  name = counters_symbol symbol;
  constant = false;
  mem = Array' counters _ (more_of-MemTy (Scalar I64) end_of-MemTy);
  init = init.Zero;
}

-- `@__profd_X = global [4 x i64] [i64 A, i64 B, i64 N, i64 S]`: the hash of the unit's name, that of its function, and the numbers of its
-- counters and of its sites
abbrev pub data_global : List ℕ → ℕ → ℕ → ℕ → ℕ → Global1
data_global symbol name_hash hash counters sites = record {
  name = data_symbol symbol;
  constant = false;
  mem = Array' 4 _ (more_of-MemTy (Scalar I64) end_of-MemTy);
  init = init.List (init.Int name_hash ∷ init.Int hash ∷ init.Int counters ∷ init.Int sites ∷ []);
}

abbrev pub unit_globals : List Asked → Global1 → List Global1
unit_globals asks g =
    let counters = unwrap_or (counters_told g.name asks) 0 in
    counters_global g.name counters
    ∷ data_global g.name (hash8 (name_held g)) (unwrap_or (hash_told g.name asks) 0) counters (sites_told g.name asks)
    ∷ []

abbrev pub new_globals : List Asked → List Global1 → List Global1
new_globals asks globals = flat_map (unit_globals asks) (filter (names_used asks) globals)
