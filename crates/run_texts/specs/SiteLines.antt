-- The lines that tell what was kept of the call targets of each site.
use Rattle.std.specs.Prelude.{ℕ, ◌+◌, List, [], ◌∷◌, ◌++◌, length, take, drop, codes, decimal}
use Rattle.std.specs.List.{flat_map}
use Rattle.ir_model.specs.declared.probe.Tally.{Tally}
use Rattle.value_rows.specs.declared.row.Row.{Row}

-- so many items, from a place on
abbrev pub part : {A : Type 0} → ℕ → ℕ → List A → List A
part first count items = take count (drop first items)

-- the rows of the sites of a tally
abbrev pub rows_of : List Row → Tally → List Row
rows_of rows t = part t.first_site t.sites rows

-- site j of a unit: how many keys its row keeps, and how often another one was asked for
unfoldable pub site_line : List ℕ → ℕ → Row → List ℕ
site_line name j row =
    codes "site " ++ name ++ codes " " ++ decimal j ++ codes " kept " ++ decimal (length row.kept) ++ codes " dropped " ++ decimal row.dropped ++ codes "\n"

-- a line for each row, numbered from j
abbrev pub lines_from : List ℕ → ℕ → List Row → List ℕ
lines_from name j [] = []
lines_from name j (row ∷ rows) = site_line name j row ++ lines_from name (j + 1) rows

abbrev pub tally_lines : List Row → Tally → List ℕ
tally_lines rows t = lines_from t.name 0 (rows_of rows t)

-- the lines of all sites, by tally and site
abbrev pub site_lines : List Tally → List Row → List ℕ
site_lines tallies rows = flat_map (tally_lines rows) tallies
