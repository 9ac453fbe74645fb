-- What stands behind a line: attachments of notes, or nothing.
use Rattle.std.proofs.Common.{◌≡◌, ℕ, suc, ◌^◌, true, false, List, [], ◌∷◌, refl, sym, ap, ◌∙◌}
use Rattle.std.specs.Prelude.{codes, Option, Some, None}
use Rattle.std.specs.Option.{option_and_then}
use Rattle.ir_lex.specs.Tokens.{Word, Number, Mark, Sign}
use Rattle.ir_tree.specs.Spelling.{is_word_first, is_name_first, is_name_byte}
use Rattle.ir_tree.specs.declared.types.Prof.{Prof}
use Rattle.ir_grammar.specs.Words.{Tokens, word_is, sign, mark}
use Rattle.ir_grammar.specs.Past.{tail, node_number, attachment}
use Rattle.ir_grammar.specs.Notes.{Nodes, in_place, note_of, note_part, noted}
use Rattle.ir_grammar.specs.declared.words.NoteKind.{NoteKind}
use Rattle.ir_grammar.specs.declared.words.Tail.{Tail}
use Rattle.text_pieces.specs.Pieces.{stop_before, tokens_before}
use Rattle.canonical_text.specs.Notes.{number_of, line_stop, line_note}
use Rattle.spellable.specs.Values.{IsCount, IsMaybe}
use Rattle.spellable.specs.Instructions.{MayStand}
use Rattle.spellable.specs.Lines.{NoComma, IsKept}
use Rattle.spellable.proofs.Pieces.{Fine, stop_depth}
use Rattle.spellable.proofs.Literals.{below_when, count_writes}

pub nothing_behind : (place : Tail) (others : Tokens) → NoComma others → (tail place).Spells others tt others
unfolding tail
nothing_behind place others e = ([], others, (e, refl), (refl, refl))

-- `!prof !N`, from behind the first mark
pub attachment_spells : (n : ℕ) (others : Tokens) → IsCount n → attachment.Spells (Word (codes "prof") ∷ Mark ∷ Number false n ∷ others) (Some n) others
unfolding attachment word_is mark node_number
attachment_spells n others h = (
  true,
  Mark ∷ Number false n ∷ others,
  (Word (codes "prof"), refl, refl),
  (
    tt,
    Number false n ∷ others,
    (Mark, refl, refl),
    (Some n, others, (Number false n, refl, ap Some (below_when n (2 ^ 64) n h)), (refl, refl)),
  ),
)

module _ (nodes : Nodes) (list : List Prof) (kind : NoteKind) where
  pub kept_at : (note : Prof) → MayStand (IsKept nodes list) kind note → ◌≡◌ {A = Option Prof} (option_and_then (in_place kind) (note_of nodes (number_of list note))) (Some note)
  kept_at note (place, kept) = ap (option_and_then (in_place kind)) kept.node ∙ place

  pub noted_spells : (prof : Option Prof) (others : Tokens) → IsMaybe (MayStand (IsKept nodes list) kind) prof → NoComma others → (noted nodes kind).Spells (stop_before (line_stop prof) (tokens_before (line_note list prof) others)) prof others
  unfolding noted note_part sign mark
  noted_spells None others h e = ([], others, (e, refl), (refl, refl))
  noted_spells (Some note) others h e = (
    Some (number_of list note) ∷ [],
    others,
    (
      refl,
      others,
      (tt, _, (Sign 44, refl, refl), (tt, _, (Mark, refl, refl), attachment_spells (number_of list note) others h.1.number)),
      (e, refl),
    ),
    (sym (kept_at note h), refl),
  )

  pub noted_fine : (prof : Option Prof) (d : ℕ) → IsMaybe (MayStand (IsKept nodes list) kind) prof → Fine (stop_depth (line_stop prof) (suc d)) (line_note list prof) (suc d)
  unfolding is_word_first is_name_first is_name_byte
  noted_fine None d h = refl
  noted_fine (Some note) d h = (tt, (refl, (tt, (count_writes (number_of list note) h.1.number, refl))))
