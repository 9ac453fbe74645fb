-- Counts scaled down to branch weights of 32 bits.
use Rattle.std.specs.Prelude.{ℕ, ◌+◌, ◌/◌, nat_lt, if◌then◌else◌, List, map, max, fold}

abbrev pub greatest : List ℕ → ℕ
greatest counts = fold max 0 counts

-- one scale for all counts, by which even the greatest comes below 2^32
abbrev pub scale_of : List ℕ → ℕ
scale_of counts = if nat_lt (greatest counts) 4294967295 then 1 else greatest counts / 4294967295 + 1

abbrev pub weights_of : List ℕ → List ℕ
weights_of counts = map (λ count. count / scale_of counts) counts
