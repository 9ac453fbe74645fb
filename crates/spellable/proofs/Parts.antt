-- The text of each part of a module spells the part.
use Rattle.std.proofs.Common.{◌≡◌, ℕ, ◌^◌, true, false, ◌&&◌, List, [], ◌∷◌, ◌++◌, refl, sym, ap, ◌∙◌, subst, inr}
use Rattle.std.specs.Prelude.{codes, Option, Some, None, is_some}
use Rattle.std.proofs.lemmas.Bool.{lt-ltb}
use Rattle.ir_lex.specs.Tokens.{Word, Number, Global, Mark, Sign}
use Rattle.ir_tree.specs.Spelling.{is_word_first, is_name_first, is_name_byte}
use Rattle.ir_tree.specs.declared.types.Ty.{Ty}
use Rattle.ir_tree.specs.declared.types.Ret.{Ret}
use Rattle.ir_tree.specs.declared.types.Prof.{Prof}
use Rattle.ir_tree.specs.declared.types.Block.{Block}
use Rattle.ir_tree.specs.declared.types.Function.{Function}
use Rattle.ir_tree.specs.declared.types.Global1.{Global1}
use Rattle.ir_grammar.specs.Words.{Tokens, first_is, mark, count, sign}
use Rattle.ir_grammar.specs.Past.{past_meaning}
use Rattle.ir_grammar.specs.Notes.{Nodes, node_head, node_at, nodes_from}
use Rattle.ir_grammar.specs.Functions.{parameter}
use Rattle.ir_grammar.specs.Grammar.{declared, defined, keyword, word_part, variable_part, part, OfVariable, OfWord}
use Rattle.ir_grammar.specs.declared.words.Keyword.TheVariants as keywords
use Rattle.ir_grammar.specs.declared.words.Place.TheVariants as places
use Rattle.ir_grammar.specs.declared.words.NoteKind.TheVariants as kinds
use Rattle.ir_grammar.specs.declared.parts.Part.TheVariants as parts
use Rattle.text_pieces.specs.declared.stop.Stop.TheVariants as stops
use Rattle.text_pieces.specs.Pieces.{Piece, Alone, tokens_before}
use Rattle.text_pieces.specs.Lists.{parted}
use Rattle.text_cuts.specs.Cut.{can_write_all}
use Rattle.canonical_text.specs.Notes.{number_of}
use Rattle.canonical_text.specs.Canonical.{variable_pieces, type_pieces, param_pieces, braced_pieces, body_pieces, head_pieces, declaration_pieces, function_pieces}
use Rattle.spellable.specs.Values.{Each, IsCount, IsGlobal, IsMaybe}
use Rattle.spellable.specs.Instructions.{MayStand}
use Rattle.spellable.specs.Modules.{IsParameter, IsBlock, IsBody, IsFunction, IsVariable}
use Rattle.spellable.specs.Lines.{NoComma, IsKept}
use Rattle.spellable.specs.Laws.{IsQuiet}
use Rattle.spellable.specs.Appends.{tokens_append, writes_append}
use Rattle.spellable.proofs.Pieces.{Fine, fine_append, fine_writes, fine_quiet, quiet_at, no_node}
use Rattle.spellable.proofs.Literals.{count_writes, return_writes}
use Rattle.spellable.proofs.Names.{global_writes}
use Rattle.spellable.proofs.Lists.{list_fine}
use Rattle.spellable.proofs.Functions.{braced_fine, parameter_item, types_fine, definition_spells, declaration_spells}
use Rattle.spellable.proofs.Variables.{variable_spells, variable_fine}

quiet_append : (ps qs : List Piece) → IsQuiet ps → IsQuiet qs → IsQuiet (ps ++ qs)
quiet_append ps qs h k others = ap (nodes_from 0) (tokens_append ps qs others) ∙ h (tokens_before qs others) ∙ k others

-- # Heads with notes

no_head : (n : ℕ) (ts : Tokens) → IsCount n → node_at (Mark ∷ Number false n ∷ Sign 123 ∷ ts) ≡ []
unfolding node_head mark count sign
no_head n ts c = rw (lt-ltb n (2 ^ 64) c) refl

word_behind : (ts : Tokens) → node_at (Mark ∷ Word (codes "prof") ∷ ts) ≡ []
unfolding node_head mark count sign
word_behind ts = refl

module _ (nodes : Nodes) (list : List Prof) where
  head_writes : (prof : Option Prof) (bs : List Block) → IsMaybe (MayStand (IsKept nodes list) kinds.Entry) prof → Each (IsBlock (IsKept nodes list)) bs → can_write_all (body_pieces list prof bs) ≡ true
  unfolding is_word_first is_name_first is_name_byte
  head_writes None bs note h = fine_writes 0 (braced_pieces list bs) 0 (braced_fine nodes list bs 0 h)
  head_writes (Some note) bs kept h = ap (λ b. b && can_write_all (braced_pieces list bs)) (count_writes (number_of list note) kept.1.number) ∙ fine_writes 0 (braced_pieces list bs) 0 (braced_fine nodes list bs 0 h)

  head_quiet : (prof : Option Prof) (bs : List Block) → IsMaybe (MayStand (IsKept nodes list) kinds.Entry) prof → Each (IsBlock (IsKept nodes list)) bs → IsQuiet (body_pieces list prof bs)
  unfolding is_word_first is_name_first is_name_byte
  head_quiet None bs note h others = fine_quiet 0 (braced_pieces list bs) 0 others (braced_fine nodes list bs 0 h)
  head_quiet (Some note) bs kept h others =
      let n = number_of list note in
      let braced = tokens_before (braced_pieces list bs) others in
      quiet_at 0 Mark (Word (codes "prof") ∷ Mark ∷ Number false n ∷ braced) (word_behind (Mark ∷ Number false n ∷ braced))
      ∙ quiet_at 0 (Word (codes "prof")) (Mark ∷ Number false n ∷ braced) (no_node (Word (codes "prof")) (Mark ∷ Number false n ∷ braced) refl)
      ∙ quiet_at 0 Mark (Number false n ∷ braced) (no_head n _ kept.1.number)
      ∙ quiet_at 0 (Number false n) braced (no_node (Number false n) braced (count_writes n kept.1.number))
      ∙ fine_quiet 0 (braced_pieces list bs) 0 others (braced_fine nodes list bs 0 h)

  -- # Functions

  front_fine : (f : Function) → IsGlobal f.name → Each IsParameter f.params → Fine 0 (head_pieces f) 0
  unfolding is_word_first is_name_first is_name_byte
  front_fine f name params = (refl, (return_writes f.ret, (global_writes f.name name, list_fine parameter param_pieces IsParameter parameter_item stops.CloseParen 0 f.params params)))

  declared_fine : (f : Function) → IsGlobal f.name → Fine 0 (declaration_pieces f) 0
  unfolding is_word_first is_name_first is_name_byte
  declared_fine f name =
      (refl, (return_writes f.ret, (global_writes f.name name, fine_append 1 (parted type_pieces stops.CloseParen f.params) 0 (Alone stops.Line ∷ []) 0 (types_fine f.params 0) refl)))

  module _ (name : List ℕ) (gives : Ret) (params : List (Ty × List ℕ)) (prof : Option Prof) where
    with_blocks : List Block → Function
    with_blocks blocks = record { name = name; ret = gives; params = params; blocks = blocks; prof = prof }

    function_at : (blocks : List Block) (others : Tokens) → IsBody (IsKept nodes list) params prof blocks → first_is (λ t. is_some (past_meaning places.Function t)) others ≡ false → (part nodes).Spells (tokens_before (function_pieces list (with_blocks blocks)) others) (parts.Function (with_blocks blocks)) others
    unfolding part word_part keyword declared defined with_blocks
    function_at [] others h none =
        subst (λ p. (part nodes).Spells (tokens_before (declaration_pieces (record { name = name; ret = gives; params = params; blocks = []; prof = p })) others) (parts.Function (record { name = name; ret = gives; params = params; blocks = []; prof = p })) others) (sym h.1) (
          OfWord (codes "declare"),
          _,
          (Word (codes "declare"), refl, refl),
          inr (
            refl,
            (
              keywords.Declare,
              _,
              (refl, refl),
              (record { name = name; ret = gives; params = params; blocks = []; prof = None }, others, declaration_spells name gives params others h.0 none, (refl, refl)),
            ),
          ),
        )
    function_at (b ∷ bs) others h none = (
      OfWord (codes "define"),
      _,
      (Word (codes "define"), refl, refl),
      inr (
        refl,
        (
          keywords.Define,
          _,
          (refl, refl),
          (record { name = name; ret = gives; params = params; blocks = b ∷ bs; prof = prof }, others, definition_spells nodes list name gives params b bs prof others h.0 h.1 h.2, (refl, refl)),
        ),
      ),
    )

    writes_at : (blocks : List Block) → IsGlobal name → IsBody (IsKept nodes list) params prof blocks → can_write_all (function_pieces list (with_blocks blocks)) ≡ true
    unfolding with_blocks
    writes_at [] n h = fine_writes 0 (declaration_pieces (with_blocks [])) 0 (declared_fine (with_blocks []) n)
    writes_at (b ∷ bs) n h =
        writes_append (head_pieces (with_blocks (b ∷ bs))) (body_pieces list prof (b ∷ bs)) (fine_writes 0 (head_pieces (with_blocks (b ∷ bs))) 0 (front_fine (with_blocks (b ∷ bs)) n h.0)) (head_writes prof (b ∷ bs) h.1 h.2)

    quiet_blocks : (blocks : List Block) → IsGlobal name → IsBody (IsKept nodes list) params prof blocks → IsQuiet (function_pieces list (with_blocks blocks))
    unfolding with_blocks
    quiet_blocks [] n h = λ others. fine_quiet 0 (declaration_pieces (with_blocks [])) 0 others (declared_fine (with_blocks []) n)
    quiet_blocks (b ∷ bs) n h =
        quiet_append (head_pieces (with_blocks (b ∷ bs))) (body_pieces list prof (b ∷ bs))
        (λ others. fine_quiet 0 (head_pieces (with_blocks (b ∷ bs))) 0 others (front_fine (with_blocks (b ∷ bs)) n h.0)) (head_quiet prof (b ∷ bs) h.1 h.2)

  pub function_spells : (f : Function) (others : Tokens) → IsFunction (IsKept nodes list) f → first_is (λ t. is_some (past_meaning places.Function t)) others ≡ false → (part nodes).Spells (tokens_before (function_pieces list f) others) (parts.Function f) others
  unfolding with_blocks
  function_spells f others h none = function_at f.name f.ret f.params f.prof f.blocks others h.1 none

  pub function_writes : (f : Function) → IsFunction (IsKept nodes list) f → can_write_all (function_pieces list f) ≡ true
  unfolding with_blocks
  function_writes f h = writes_at f.name f.ret f.params f.prof f.blocks h.0 h.1

  pub function_quiet : (f : Function) → IsFunction (IsKept nodes list) f → IsQuiet (function_pieces list f)
  unfolding with_blocks
  function_quiet f h = quiet_blocks f.name f.ret f.params f.prof f.blocks h.0 h.1

-- # Variables

pub variable_part_spells : (nodes : Nodes) (g : Global1) (others : Tokens) → IsVariable g → NoComma others → (part nodes).Spells (tokens_before (variable_pieces g) others) (parts.Variable g) others
unfolding part variable_part
variable_part_spells nodes g others h ends = (OfVariable g.name, _, (Global g.name, refl, refl), (g, others, variable_spells g others h ends, (refl, refl)))

pub variable_writes : (g : Global1) → IsVariable g → can_write_all (variable_pieces g) ≡ true
variable_writes g h = fine_writes 0 (variable_pieces g) 0 (variable_fine g 0 h)

pub variable_quiet : (g : Global1) → IsVariable g → IsQuiet (variable_pieces g)
variable_quiet g h others = fine_quiet 0 (variable_pieces g) 0 others (variable_fine g 0 h)
