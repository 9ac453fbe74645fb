-- Where each word of a table stands: the counters, then for each site its keys, its counts and its dropped word, then the ticket word.
use Rattle.std.specs.Prelude.{ℕ, ◌+◌, ◌*◌}
use Rattle.count_core.specs.declared.state.Layout.{Layout}

-- a site has a key and a count for each place, and a dropped word
abbrev pub site_at : Layout → ℕ → ℕ
site_at l site = l.counters + site * (2 * l.places + 1)

abbrev pub key_at : Layout → ℕ → ℕ → ℕ
key_at l site place = site_at l site + place

abbrev pub count_at : Layout → ℕ → ℕ → ℕ
count_at l site place = site_at l site + (l.places + place)

abbrev pub dropped_at : Layout → ℕ → ℕ
dropped_at l site = site_at l site + 2 * l.places

abbrev pub ticket_at : Layout → ℕ
ticket_at l = site_at l l.sites

abbrev pub word_count : Layout → ℕ
word_count l = ticket_at l + 1
