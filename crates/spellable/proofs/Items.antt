-- The items of lists: operands with their types, entries of phis, arguments.
use Rattle.std.proofs.Common.{◌≡◌, ℕ, suc, Bool, true, false, ◌&&◌, not, List, [], ◌∷◌, refl}
use Rattle.std.specs.Prelude.{is_some}
use Rattle.ir_lex.specs.Tokens.{Word, Local, Sign}
use Rattle.ir_tree.specs.Spelling.{is_word_first, is_name_first, is_name_byte}
use Rattle.ir_tree.specs.declared.types.Ty.{Ty}
use Rattle.ir_tree.specs.declared.types.Operand.{Operand}
use Rattle.ir_tree.specs.declared.types.Operand.TheVariants as operands
use Rattle.ir_grammar.specs.Words.{Tokens, first_is, sign, local}
use Rattle.ir_grammar.specs.Types.{value_type, operand, typed_operand}
use Rattle.ir_grammar.specs.Past.{value_meaning, past_meaning, names_comdat, past_begins, past_parts}
use Rattle.ir_grammar.specs.Instructions.{entry, argument}
use Rattle.ir_grammar.specs.declared.words.Place.{Place}
use Rattle.ir_grammar.specs.declared.words.Place.TheVariants as places
use Rattle.text_pieces.specs.declared.stop.Stop.{Stop}
use Rattle.text_pieces.specs.Pieces.{stop_before, tokens_before}
use Rattle.text_cuts.specs.Cut.{can_write}
use Rattle.canonical_text.specs.Words.{type_word}
use Rattle.canonical_text.specs.Values.{operand_token, typed_pieces}
use Rattle.canonical_text.specs.Instructions.{entry_pieces}
use Rattle.spellable.specs.Values.{IsOperand, IsTyped, IsCallee}
use Rattle.spellable.specs.Instructions.{IsEntry}
use Rattle.spellable.proofs.Pieces.{Fine, stop_depth}
use Rattle.spellable.proofs.Literals.{literal_is, operand_fact, literal_writes, type_fact, type_writes}
use Rattle.spellable.proofs.Names.{local_writes, global_writes}
use Rattle.spellable.proofs.Lists.{IsItem}

pub operand_writes : (ty : Ty) (v : Operand) → IsOperand ty v → can_write (operand_token ty v) ≡ true
unfolding operand_token is_word_first is_name_first is_name_byte
operand_writes ty (operands.Int n) h = literal_writes ty n h
operand_writes ty operands.Null h = refl
operand_writes ty (operands.Local name) h = local_writes name h
operand_writes ty (operands.Global name) h = global_writes name h

pub callee_writes : (ty : Ty) (v : Operand) → IsCallee v → can_write (operand_token ty v) ≡ true
unfolding operand_token
callee_writes ty (operands.Int n) h = absurd h
callee_writes ty operands.Null h = absurd h
callee_writes ty (operands.Local name) h = local_writes name h
callee_writes ty (operands.Global name) h = global_writes name h

-- # Operands with their types

typed_at : (p : Ty × Operand) (stop : Stop) (others : Tokens) → IsTyped p → typed_operand.Spells (tokens_before (typed_pieces p stop) others) p (stop_before stop others)
unfolding typed_operand value_type operand
typed_at p stop others h = (
  p.0,
  operand_token p.0 p.1 ∷ stop_before stop others,
  (Word (type_word p.0), refl, type_fact p.0),
  (p.1, stop_before stop others, (operand_token p.0 p.1, refl, operand_fact p.0 p.1 h), (refl, refl)),
)

typed_fine : (p : Ty × Operand) (stop : Stop) (d : ℕ) → IsTyped p → Fine (suc d) (typed_pieces p stop) (stop_depth stop (suc d))
typed_fine p stop d h = (type_writes p.0, (operand_writes p.0 p.1 h, refl))

pub typed_item : IsItem typed_operand typed_pieces IsTyped
typed_item = record { spells = typed_at; fine = typed_fine }

-- # Arguments

-- an operand is no word that is read past
no_attribute : (ty : Ty) (v : Operand) → IsOperand ty v → is_some (value_meaning (operand_token ty v)) ≡ false
unfolding operand_token
no_attribute ty (operands.Int n) h =
    literal_is ty n (λ t. is_some (value_meaning t) ≡ false) h (λ minus magnitude below e. refl) (λ e f. refl) (λ e f. refl)
no_attribute ty operands.Null h = refl
no_attribute ty (operands.Local name) h = refl
no_attribute ty (operands.Global name) h = refl

pub no_parts : (place : Place) (ts : Tokens) → first_is (λ t. is_some (past_meaning place t)) ts ≡ false → (past_parts place).Spells ts tt ts
unfolding past_parts past_begins
no_parts place ts h = ([], ts, (go (not (names_comdat ts)) (first_is (λ t. is_some (past_meaning place t)) ts) h, refl), (refl, refl))
  where
    go : (a b : Bool) → b ≡ false → (a && b) ≡ false
    go true b e = e
    go false b e = refl

argument_at : (p : Ty × Operand) (stop : Stop) (others : Tokens) → IsTyped p → argument.Spells (tokens_before (typed_pieces p stop) others) p (stop_before stop others)
unfolding argument value_type operand
argument_at p stop others h = (
  p.0,
  operand_token p.0 p.1 ∷ stop_before stop others,
  (Word (type_word p.0), refl, type_fact p.0),
  (
    tt,
    operand_token p.0 p.1 ∷ stop_before stop others,
    no_parts places.Value (operand_token p.0 p.1 ∷ stop_before stop others) (no_attribute p.0 p.1 h),
    (p.1, stop_before stop others, (operand_token p.0 p.1, refl, operand_fact p.0 p.1 h), (refl, refl)),
  ),
)

pub argument_item : IsItem argument typed_pieces IsTyped
argument_item = record { spells = argument_at; fine = typed_fine }

-- # Entries

module _ (ty : Ty) where
  entry_at : (e : Operand × List ℕ) (stop : Stop) (others : Tokens) → IsEntry ty e → (entry ty).Spells (tokens_before (entry_pieces ty e stop) others) e (stop_before stop others)
  unfolding entry sign operand local
  entry_at e stop others h = (
    tt,
    _,
    (Sign 91, refl, refl),
    (
      e.0,
      _,
      (operand_token ty e.0, refl, operand_fact ty e.0 h.0),
      (
        tt,
        _,
        (Sign 44, refl, refl),
        (e.1, _, (Local e.1, refl, refl), (tt, stop_before stop others, (Sign 93, refl, refl), (refl, refl))),
      ),
    ),
  )

  entry_fine : (e : Operand × List ℕ) (stop : Stop) (d : ℕ) → IsEntry ty e → Fine (suc d) (entry_pieces ty e stop) (stop_depth stop (suc d))
  entry_fine e stop d h = (operand_writes ty e.0 h.0, (local_writes e.1 h.1, refl))

  pub entry_item : IsItem (entry ty) (entry_pieces ty) (IsEntry ty)
  entry_item = record { spells = entry_at; fine = entry_fine }
