-- The text that shows a profile's totals.
use Rattle.std.specs.Prelude.{ℕ, List, ◌++◌, length, fold, max, sum, sum_by, codes, decimal}
use Rattle.std.specs.List.{flat_map}
use Rattle.prof_view.specs.Profile.{ProfileRecord, ProfileInput}
use Rattle.prof_text.specs.Merged.{Target, capped}

abbrev pub all_counters : List ProfileRecord → List ℕ
all_counters records = flat_map (λ (r : ProfileRecord). r.counters) records

abbrev pub counter_count : ProfileRecord → ℕ
counter_count r = length r.counters

abbrev pub site_count : ProfileRecord → ℕ
site_count r = length r.sites

abbrev pub target_count : ProfileRecord → ℕ
target_count r = sum_by (λ (site : List Target). length site) r.sites

-- the greatest of the numbers, 0 where there is none
abbrev pub greatest_of : List ℕ → ℕ
greatest_of numbers = fold (λ a n. max a n) 0 numbers

abbrev pub total : (ProfileRecord → ℕ) → List ProfileRecord → ℕ
total count records = capped (sum_by count records)

unfoldable pub show_line : List ℕ → ℕ → List ℕ
show_line word n = word ++ decimal n ++ codes "\n"

-- the counters: how many records and counters there are, their sum and the greatest
unfoldable pub counters_text : ProfileInput → List ℕ
counters_text p =
    show_line (codes "records ") (length p.records)
    ++ show_line (codes "counters ") (total counter_count p.records)
    ++ show_line (codes "sum ") (capped (sum (all_counters p.records)))
    ++ show_line (codes "greatest ") (greatest_of (all_counters p.records))

-- and then the sites and their targets
unfoldable pub show_text : ProfileInput → List ℕ
show_text p =
    counters_text p
    ++ show_line (codes "sites ") (total site_count p.records)
    ++ show_line (codes "targets ") (total target_count p.records)
