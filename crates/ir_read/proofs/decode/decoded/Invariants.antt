use Rattle.std.proofs.Common.{◌≡◌, drop}
use Rattle.ir_lex.specs.Meaning.{decoded}
use Rattle.ir_read.specs.Decoding.{decoded_with}
use Rattle.ir_read.proofs.decode.decoded.Given as goal

abbrev pub invariant-loop-b : goal.invariant-loop-b
invariant-loop-b l = decoded 0 0 l.content ≡ decoded_with l.decoder (drop l.b-index l.content)
