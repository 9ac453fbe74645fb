use Rattle.std.proofs.Common.{◌≡◌, ℕ, true, false, List, [], Option, None, Some, sym, ap, ◌∙◌, subst}
use Rattle.std.proofs.lemmas.Bool.{false≢true}
use Rattle.ir_lex.specs.Tokens.{Token}
use Rattle.ir_lex.specs.Cut.{tokens_of, is_whole}
use Rattle.ir_lex.specs.Laws.{TokensAreUnique, CutIsSpelled}
use Rattle.ir_tree.specs.declared.types.Module.{Module}
use Rattle.ir_grammar.specs.Laws.{ModuleEnds}
use Rattle.ir_grammar.specs.Laws as grammar
use Rattle.ir_grammar.specs.Notes.{Nodes, nodes_of}
use Rattle.ir_grammar.specs.Grammar.{«module», Spells}
use Rattle.ir_read.specs.Ahead.{Ahead}
use Rattle.ir_read.specs.Spelled.{SpellsText, OneModule}

-- a text spells one module at most
pub text_once : TokensAreUnique → grammar.OneModule → OneModule
text_once unique once text m n p q =
    let same = unique text q.0 p.0 q.1.0 p.1.0 in
    once p.0 m n p.1.1 (subst (λ ts. Spells ts n) same q.1.1)

-- what is read of the tokens ahead by the nodes of a text is read of its tokens
read_of : (text : List ℕ) (nodes : Nodes) (ts : List Token) (o : Option (Module × List Token)) → nodes ≡ nodes_of (tokens_of text) → ts ≡ tokens_of text → («module» nodes).read ts ≡ o → («module» (nodes_of (tokens_of text))).read (tokens_of text) ≡ o
read_of text nodes ts o its tokens e =
    subst (λ ns. («module» ns).read (tokens_of text) ≡ o) its (sym (ap («module» nodes).read tokens) ∙ e)

-- a module was read, and then no token is left
module _ (cuts : CutIsSpelled) (ends : ModuleEnds) (text : List ℕ) (nodes : Nodes) (old new : Ahead) (m : Module) (its : nodes ≡ nodes_of (tokens_of text)) (tokens : old.tokens ≡ tokens_of text) (whole : old.whole ≡ is_whole text) (found : («module» nodes).read old.tokens ≡ Some (m, new.tokens)) (same : new.whole ≡ old.whole) where
  spelled : («module» (nodes_of (tokens_of text))).Spells (tokens_of text) m new.tokens
  spelled =
      («module» (nodes_of (tokens_of text))).sound (tokens_of text) m new.tokens (read_of text nodes old.tokens _ its tokens found)

  pub none_left : new.tokens ≡ []
  none_left = ends (nodes_of (tokens_of text)) (tokens_of text) m new.tokens spelled

  pub found_spelled : (new.tokens ≡ [] → true ≡ new.whole) → SpellsText text m
  found_spelled up_to_end =
      let lexes = cuts.spelled text (sym whole ∙ sym same ∙ sym (up_to_end none_left)) in
      (tokens_of text, (lexes, subst (λ rest. («module» (nodes_of (tokens_of text))).Spells (tokens_of text) m rest) none_left spelled))

  pub broken_spells_none : (new.tokens ≡ [] → false ≡ new.whole) → (n : Module) → SpellsText text n → ⊥
  broken_spells_none broken n p =
      false≢true (broken none_left ∙ same ∙ whole ∙ cuts.whole text p.0 p.1.0)

-- nothing was read
pub none_spells_none : CutIsSpelled → (text : List ℕ) (nodes : Nodes) (old : Ahead) → nodes ≡ nodes_of (tokens_of text) → old.tokens ≡ tokens_of text → («module» nodes).read old.tokens ≡ None → (n : Module) → SpellsText text n → ⊥
none_spells_none cuts text nodes old its tokens none n p =
    let read = («module» (nodes_of p.0)).complete p.0 n [] p.1.1 in
    let same = subst (λ ts. («module» (nodes_of ts)).read ts ≡ Some (n, [])) (sym (cuts.cut text p.0 p.1.0)) read in
    absurd_read (sym (read_of text nodes old.tokens None its tokens none) ∙ same)
  where
    absurd_read : ◌≡◌ {A = Option (Module × List Token)} None (Some (n, [])) → ⊥
    absurd_read e = cc
