-- Nothing is left behind a module.
use Rattle.std.proofs.Common.{◌≡◌, false, List, [], ◌∷◌, refl, ◌∙◌}
use Rattle.ir_tree.specs.declared.types.Module.{Module}
use Rattle.ir_grammar.specs.declared.parts.Part.{Part}
use Rattle.ir_grammar.specs.Rules.{AreMany}
use Rattle.ir_grammar.specs.Words.{Tokens, any_left}
use Rattle.ir_grammar.specs.Notes.{Nodes}
use Rattle.ir_grammar.specs.Grammar.{part, «module»}

none_left : (ts : Tokens) → any_left ts ≡ false → ts ≡ []
none_left [] e = refl
none_left (t ∷ ts) e = absurd (cc)

parts_end : (nodes : Nodes) (ts : Tokens) (list : List Part) (rest : Tokens) → AreMany any_left (part nodes) ts list rest → rest ≡ []
parts_end nodes ts [] rest (e, f) = f ∙ none_left ts e
parts_end nodes ts (x ∷ xs) rest (e, middle, first, others) = parts_end nodes middle xs rest others

pub module_ends : (nodes : Nodes) (ts : Tokens) (m : Module) (rest : Tokens) → («module» nodes).Spells ts m rest → rest ≡ []
unfolding «module»
module_ends nodes ts m rest (list, middle, h, end) = end.1 ∙ parts_end nodes ts list middle h
