-- The text that is hashed, of the worked function with selects in two blocks of which one is reachable.
use Rattle.std.proofs.Common.{◌≡◌, true, false, refl, lit<}
use Rattle.std.specs.Prelude.{codes}
use Rattle.std.proofs.lemmas.Fmt.{decimal_digit}
use Rattle.ir_tree.specs.Graphs.{graph_of}
use Rattle.ir_tree.specs.Reach.{reached}
use Rattle.cfg_edges.specs.Examples.{calling, choosing, function, selecting}
use Rattle.cfg_edges.specs.Hash.{hash_text}

pub selecting_text : hash_text (graph_of (function selecting)) 2 false ≡ codes "2 2 0 1 1 0 2 0 1"
unfolding selecting choosing calling reached graph_of hash_text
selecting_text = rw (decimal_digit 2 (lit< tt), decimal_digit 0 (lit< tt), decimal_digit 1 (lit< tt)) refl

-- where the entry is counted first
pub selecting_text_entry_first : hash_text (graph_of (function selecting)) 2 true ≡ codes "2 2 0 1 1 0 2 0 1 1"
unfolding selecting choosing calling reached graph_of hash_text
selecting_text_entry_first = rw (decimal_digit 2 (lit< tt), decimal_digit 0 (lit< tt), decimal_digit 1 (lit< tt)) refl
