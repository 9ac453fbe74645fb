-- The laws of whole texts.
use Rattle.std.proofs.Common.{◌≡◌, ℕ, List, sym, subst}
use Rattle.ir_lex.specs.Laws.{TokensAreUnique}
use Rattle.ir_tree.specs.declared.types.Module.{Module}
use Rattle.ir_grammar.specs.Notes.{nodes_of}
use Rattle.ir_grammar.specs.Grammar.{Spells}
use Rattle.ir_grammar.specs.Laws.{OneModule}
use Rattle.spellable.specs.Modules.{IsSpellable}
use Rattle.spellable.specs.Laws.{SpelledParts}
use Rattle.printed_spells.specs.Laws.{SpellsText}
use Rattle.printed_spells.proofs.ReadNames.{lexes_read}
use Rattle.printed_spells.proofs.Counting.{few_notes}

pub spelled_is_spellable : SpelledParts → (text : List ℕ) (m : Module) → SpellsText text m → IsSpellable m
spelled_is_spellable laws text m (ts, (lexes, spells)) =
    let all = lexes_read text ts lexes in
    record {
      variables = laws.variables ts m all spells;
      functions = laws.functions ts m all spells;
      notes = few_notes (nodes_of ts) m (laws.nodes ts m all spells);
    }

pub text_once : TokensAreUnique → OneModule → (text : List ℕ) (m n : Module) → SpellsText text m → SpellsText text n → m ≡ n
text_once unique one text m n (ts, (lexes, spells)) (us, (others, also)) =
    one ts m n spells (subst (λ vs. Spells vs n) (sym (unique text ts us lexes others)) also)
