-- A profile as plain values: what a profile text spells, and what the crates above merge and write.
use Rattle.std.specs.Prelude.{ℕ, Bool, List}

-- What a profile has of one function: its name, the hash of its edges, its counters, and for each site of an indirect
-- call the names of its targets with their counts
pub record ProfileRecord : Type 0 where
  pub name : List ℕ
  pub hash : ℕ
  pub counters : List ℕ
  pub sites : List (List (List ℕ × ℕ))

-- The records of a text in the order of the text, where several may have one name and hash, and whether counter 0 of a
-- function counts its entries
pub record ProfileInput : Type 0 where
  pub entry_first : Bool
  pub records : List ProfileRecord
