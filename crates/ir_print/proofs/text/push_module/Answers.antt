use Rattle.std.proofs.Common.{◌≡◌, ℕ, List, ◌++◌, ap, ◌∙◌}
use Rattle.std.proofs.lemmas.Result.{on_ok_weaker}
use Rattle.ir_tree.specs.declared.types.Prof.{Prof}
use Rattle.text_pieces.specs.Pieces.{text_of}
use Rattle.canonical_text.specs.Canonical.{nodes_pieces}
use Rattle.ir_print.proofs.Pushed.{module_pushed}
use Rattle.ir_print.proofs.text.push_module.Goals as goal

of_nodes : (given nodes : List Prof) (b z : List ℕ) → given ≡ nodes → z ≡ b ++ text_of (nodes_pieces given) → z ≡ b ++ text_of (nodes_pieces nodes)
of_nodes given nodes b z same e = e ∙ ap (λ ns. b ++ text_of (nodes_pieces ns)) same

pub returns : goal.returns
returns c =
    on_ok_weaker c.push_nodes.result
    (λ e. module_pushed c.args.nodes.now c.args.«module».now c.as_slice-globals.result.now c.as_slice.result.now c.is_preceded.result c.args.out.now.items _ _ _ c.as_slice-globals.ensures c.as_slice.ensures c.is_preceded.ensures c.in_ok-push_variables.ensures c.in_ok-push_functions.ensures (of_nodes c.notes.result.now c.args.nodes.now _ _ c.notes.ensures e))
    c.push_nodes.ensures
