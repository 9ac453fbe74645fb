-- The text that a profile is written as, after LLVM's text profiles (`llvm-profdata merge --text`).
use Rattle.std.specs.Prelude.{ℕ, Bool, true, false, cond, nat_eq, List, [], ◌++◌, length, codes, decimal}
use Rattle.std.specs.List.{flat_map}
use Rattle.prof_view.specs.Profile.{ProfileRecord, ProfileInput}
use Rattle.prof_text.specs.Merged.{Target}

unfoldable pub number_line : ℕ → List ℕ
number_line n = decimal n ++ codes "\n"

unfoldable pub target_line : Target → List ℕ
target_line t = t.0 ++ codes ":" ++ decimal t.1 ++ codes "\n"

-- a site: the number of its targets, and a line for each
unfoldable pub site_text : List Target → List ℕ
site_text site = number_line (length site) ++ flat_map target_line site

-- the sites of a record, where it has any, are its one kind of values: targets of indirect calls
unfoldable pub sites_text : List (List Target) → List ℕ
sites_text sites =
    cond (nat_eq (length sites) 0) []
    (codes "# Num Value Kinds:\n1\n# ValueKind = IPVK_IndirectCallTarget:\n0\n# NumValueSites:\n"
    ++ number_line (length sites) ++ flat_map site_text sites)

unfoldable pub function_text : List ℕ → ℕ → List ℕ
function_text name hash = name ++ codes "\n# Func Hash:\n" ++ number_line hash

unfoldable pub counters_text : List ℕ → List ℕ
counters_text counters =
    codes "# Num Counters:\n" ++ number_line (length counters)
    ++ codes "# Counter Values:\n" ++ flat_map number_line counters

-- a record ends in an empty line
unfoldable pub record_text : ProfileRecord → List ℕ
record_text r = function_text r.name r.hash ++ counters_text r.counters ++ sites_text r.sites ++ codes "\n"

abbrev pub header_text : Bool → List ℕ
header_text false = codes ":ir\n"
header_text true = codes ":ir\n:entry_first\n"

unfoldable pub profile_text : ProfileInput → List ℕ
profile_text p = header_text p.entry_first ++ flat_map record_text p.records
