-- The hash of names and of edge graphs.
use Rattle.std.specs.Prelude.{ℕ, List, take}
use Rattle.std.specs.Int.{from_le_bytes, w64}
use Rattle.md5.specs.Md5.{md5}

-- the first 8 bytes of the MD5, read as a little-endian number
abbrev pub hash8 : List ℕ → ℕ
hash8 bytes = from_le_bytes w64 (take 8 (md5 bytes))
