use Rattle.std.proofs.Common.{◌≡◌, ℕ}
use Rattle.std.specs.Prelude.{None}
use Rattle.ir_lex.specs.Cut.{tokens_of}
use Rattle.ir_grammar.specs.Notes.{nodes_from, nodes_of}
use Rattle.ir_read.specs.Table.{notes_at, joined, known_at}
use Rattle.ir_read.proofs.nodes.table_of.Given as goal

abbrev pub invariant-loop-turn : goal.invariant-loop-turn
invariant-loop-turn l = (n : ℕ) → joined (known_at l.table n) (notes_at n (nodes_from l.depth l.toks.tokens)) ≡ joined None (notes_at n (nodes_of (tokens_of l.fn.text)))
