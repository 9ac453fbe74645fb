-- The line of a global variable spells the variable.
use Rattle.std.proofs.Common.{◌≡◌, ◌⊎◌, ℕ, Bool, true, false, List, [], ◌∷◌, refl, sym, ap, ◌∙◌, subst, inl, inr}
use Rattle.std.specs.Prelude.{codes, Some, is_some}
use Rattle.ir_lex.specs.Tokens.{Word, Sign}
use Rattle.ir_tree.specs.Spelling.{is_word_first, is_name_first, is_name_byte}
use Rattle.ir_tree.specs.declared.types.Ty.{Ty}
use Rattle.ir_tree.specs.declared.types.Init.{Init}
use Rattle.ir_tree.specs.declared.types.Init.TheVariants as inits
use Rattle.ir_tree.specs.declared.types.Global1.{Global1}
use Rattle.ir_grammar.specs.Words.{Tokens, sign}
use Rattle.ir_grammar.specs.Types.{shape, memory_of}
use Rattle.ir_grammar.specs.Instructions.{mark_meaning, marked}
use Rattle.ir_grammar.specs.Variables.{init, initial, variable_meaning, variable_word, variable}
use Rattle.ir_grammar.specs.declared.words.Marks.TheVariants as marks
use Rattle.ir_grammar.specs.declared.words.Tail.TheVariants as tails
use Rattle.text_pieces.specs.declared.stop.Stop.TheVariants as stops
use Rattle.text_pieces.specs.Pieces.{Piece, tokens_before}
use Rattle.text_cuts.specs.Cut.{can_write}
use Rattle.canonical_text.specs.Words as words
use Rattle.canonical_text.specs.Values.{memory_pieces, init_pieces, is_external}
use Rattle.canonical_text.specs.Instructions.{flagged}
use Rattle.canonical_text.specs.Canonical.{initial_pieces, variable_head, variable_pieces}
use Rattle.spellable.specs.Values.{Each, IsCount, AreDimensions}
use Rattle.spellable.specs.Modules.{IsWhole, IsInit, IsVariable}
use Rattle.spellable.specs.Lines.{NoComma}
use Rattle.spellable.specs.Appends.{tokens_append}
use Rattle.spellable.proofs.Pieces.{Fine, fine_append}
use Rattle.spellable.proofs.Names.{global_writes}
use Rattle.spellable.proofs.Memory.{shape_tokens, memory_tokens, shape_spells, dimensions_fine}
use Rattle.spellable.proofs.Notes.{nothing_behind}
use Rattle.spellable.proofs.Lines.{marked_spells}
use Rattle.spellable.proofs.Inits.{init_spells, init_fine}

-- # Whether it is external

whole_inside : (x : Init) → IsWhole x → is_external x ≡ false
whole_inside x (inl e) = ap is_external e
whole_inside x (inr (inl e)) = ap is_external e
whole_inside x (inr (inr (inl (name, e, h)))) = ap is_external e
whole_inside x (inr (inr (inr (bytes, e)))) = ap is_external e

init_inside : (ns : List ℕ) (ty : Ty) (x : Init) → IsInit ns ty x → is_external x ≡ false
init_inside [] ty x (inl h) = whole_inside x h
init_inside [] ty x (inr (value, e, h)) = ap is_external e
init_inside (n ∷ ns) ty x (inl h) = whole_inside x h
init_inside (n ∷ ns) ty x (inr (list, e, h)) = ap is_external e

-- # The parts of the line

no_external : (constant : Bool) → is_some (mark_meaning marks.External (Word (words.variable_word constant))) ≡ false
no_external true = refl
no_external false = refl

variable_fact : (constant : Bool) → variable_meaning (Word (words.variable_word constant)) ≡ Some constant
variable_fact true = refl
variable_fact false = refl

variable_writes : (constant : Bool) → can_write (Word (words.variable_word constant)) ≡ true
unfolding is_word_first is_name_first is_name_byte
variable_writes true = refl
variable_writes false = refl

-- the head of a line is a word that may be missing, and another
head_flagged : (external constant : Bool) (ps : List Piece) → variable_head external constant ps ≡ flagged external (codes "external") (variable_head false constant ps)
head_flagged true constant ps = refl
head_flagged false constant ps = refl

-- the type and the initialiser, where they are known
initial_spells : (external : Bool) (ns : List ℕ) (ty : Ty) (x : Init) (others : Tokens) → Each IsCount ns → ((x ≡ inits.External) × (external ≡ true)) ⊎ (IsInit ns ty x × (external ≡ false)) → (middle : Tokens) × (tokens_before (initial_pieces external (memory_of ns ty) x) others ≡ shape_tokens ns ty middle) × (initial external ns ty).Spells middle x others
initial_spells external ns ty x others counts (inl (e, f)) =
    subst (λ b. (middle : Tokens) × (tokens_before (initial_pieces b (memory_of ns ty) x) others ≡ shape_tokens ns ty middle) × (initial b ns ty).Spells middle x others) (sym f)
    (others, memory_tokens ns ty stops.Line others, (e, refl))
initial_spells external ns ty x others counts (inr (h, f)) =
    let behind = tokens_before (init_pieces (memory_of ns ty) x stops.Line) others in
    subst (λ b. (middle : Tokens) × (tokens_before (initial_pieces b (memory_of ns ty) x) others ≡ shape_tokens ns ty middle) × (initial b ns ty).Spells middle x others) (sym f)
    (behind, tokens_append (memory_pieces (memory_of ns ty) stops.Space) (init_pieces (memory_of ns ty) x stops.Line) others ∙ memory_tokens ns ty stops.Space behind, init_spells ns ty counts x stops.Line others h)

initial_fine : (external : Bool) (ns : List ℕ) (ty : Ty) (x : Init) (d : ℕ) → Each IsCount ns → ((x ≡ inits.External) × (external ≡ true)) ⊎ (IsInit ns ty x × (external ≡ false)) → Fine d (initial_pieces external (memory_of ns ty) x) d
initial_fine external ns ty x d counts (inl (e, f)) = subst (λ b. Fine d (initial_pieces b (memory_of ns ty) x) d) (sym f) (dimensions_fine ns ty stops.Line d counts)
initial_fine external ns ty x d counts (inr (h, f)) =
    subst (λ b. Fine d (initial_pieces b (memory_of ns ty) x) d) (sym f)
    (fine_append d (memory_pieces (memory_of ns ty) stops.Space) d (init_pieces (memory_of ns ty) x stops.Line) d (dimensions_fine ns ty stops.Space d counts) (init_fine ns ty counts x stops.Line d h))

-- which of both it is
either_initial : (ns : List ℕ) (ty : Ty) (x : Init) → (x ≡ inits.External) ⊎ IsInit ns ty x → ((x ≡ inits.External) × (is_external x ≡ true)) ⊎ (IsInit ns ty x × (is_external x ≡ false))
either_initial ns ty x (inl e) = inl (e, ap is_external e)
either_initial ns ty x (inr h) = inr (h, init_inside ns ty x h)

-- # The line

module _ (name : List ℕ) (constant : Bool) (ns : List ℕ) (ty : Ty) (x : Init) (dims : AreDimensions ns) (init : (x ≡ inits.External) ⊎ IsInit ns ty x) where
  variable_at : (others : Tokens) → NoComma others → (variable name).Spells (Sign 61 ∷ tokens_before (variable_head (is_external x) constant (initial_pieces (is_external x) (memory_of ns ty) x)) others) (record { name = name; constant = constant; mem = memory_of ns ty; init = x }) others
  unfolding variable sign variable_word
  variable_at others ends =
      let value = initial_pieces (is_external x) (memory_of ns ty) x in
      let (middle, same, spelled) = initial_spells (is_external x) ns ty x others dims.1 (either_initial ns ty x init) in (
        tt,
        tokens_before (variable_head (is_external x) constant value) others,
        (Sign 61, refl, refl),
        (
          is_external x,
          Word (words.variable_word constant) ∷ tokens_before value others,
          subst (λ ps. (marked marks.External).Spells (tokens_before ps others) (is_external x) (Word (words.variable_word constant) ∷ tokens_before value others)) (sym (head_flagged (is_external x) constant value))
              (marked_spells marks.External (codes "external") (is_external x) (variable_head false constant value) others refl (no_external constant)),
          (
            constant,
            tokens_before value others,
            (Word (words.variable_word constant), refl, variable_fact constant),
            (
              (ns, ty),
              middle,
              subst (λ ts. shape.Spells ts (ns, ty) middle) (sym same) (shape_spells ns ty middle dims),
              (x, others, spelled, (tt, others, nothing_behind tails.Global others ends, (refl, refl))),
            ),
          ),
        ),
      )

  head_fine : (external : Bool) (ps : List Piece) (d : ℕ) → Fine d ps d → Fine d (variable_head external constant ps) d
  unfolding is_word_first is_name_first is_name_byte
  head_fine true ps d h = (refl, (variable_writes constant, h))
  head_fine false ps d h = (variable_writes constant, h)

  value_fine : (d : ℕ) → Fine d (variable_head (is_external x) constant (initial_pieces (is_external x) (memory_of ns ty) x)) d
  value_fine d = head_fine (is_external x) (initial_pieces (is_external x) (memory_of ns ty) x) d (initial_fine (is_external x) ns ty x d dims.1 (either_initial ns ty x init))

-- what stands behind the name
pub variable_spells : (g : Global1) (others : Tokens) → IsVariable g → NoComma others → (variable g.name).Spells (Sign 61 ∷ tokens_before (variable_head (is_external g.init) g.constant (initial_pieces (is_external g.init) g.mem g.init)) others) g others
variable_spells g others h ends =
    let (ns, ty, same, dims, init) = h.init in
    subst (λ m. (variable g.name).Spells (Sign 61 ∷ tokens_before (variable_head (is_external g.init) g.constant (initial_pieces (is_external g.init) m g.init)) others) (record { name = g.name; constant = g.constant; mem = m; init = g.init }) others) (sym same)
    (variable_at g.name g.constant ns ty g.init dims init others ends)

pub variable_fine : (g : Global1) (d : ℕ) → IsVariable g → Fine d (variable_pieces g) d
variable_fine g d h =
    let (ns, ty, same, dims, init) = h.init in (
      global_writes g.name h.name,
      subst (λ m. Fine d (variable_head (is_external g.init) g.constant (initial_pieces (is_external g.init) m g.init)) d) (sym same) (value_fine g.name g.constant ns ty g.init dims init d),
    )
