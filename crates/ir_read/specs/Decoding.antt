-- The content of a byte string, decoded up to a place.
use Rattle.std.specs.Prelude.{ℕ, List, ◌++◌}
use Rattle.ir_lex.specs.Meaning.{decoded}
use Rattle.ir_read.specs.declared.decode.Decoder.{Decoder}

-- all bytes that are decoded where this is left of the content
abbrev pub decoded_with : Decoder → List ℕ → List ℕ
decoded_with decoder rest = decoder.bytes.items ++ decoded decoder.owed decoder.value rest
