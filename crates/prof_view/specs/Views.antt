-- What the parts of a profile text mean that a view points at: so many counters, sites or targets from a place in the
-- text on.
use Rattle.std.specs.Prelude.{ℕ, List}
use Rattle.prof_view.specs.Lines.{content}
use Rattle.prof_view.specs.Grammar.{number_line, site, target_line}
use Rattle.prof_view.specs.Times.{first_values}

unfoldable pub counters_at : ℕ → List ℕ → List ℕ
counters_at n text = first_values number_line n (content text)

unfoldable pub targets_at : ℕ → List ℕ → List (List ℕ × ℕ)
targets_at n text = first_values target_line n (content text)

unfoldable pub sites_at : ℕ → List ℕ → List (List (List ℕ × ℕ))
sites_at n text = first_values site n (content text)
