-- Profile notes (LLVM Language Reference, "'prof' Metadata"): nodes of three shapes, and the attachments that name them.
use Rattle.std.specs.Prelude.{ℕ, zero, suc, ◌-◌, Bool, true, false, cond, List, [], ◌∷◌, ◌++◌, map, filter, fold, Option, Some, None, is_some, codes, nat_eq}
use Rattle.std.specs.Option.{option_or, option_and_then}
use Rattle.ir_lex.specs.Tokens.{Token, Str, Mark}
use Rattle.ir_tree.specs.declared.types.Ty.{Ty}
use Rattle.ir_tree.specs.declared.types.Ty.TheVariants.{I32, I64}
use Rattle.ir_tree.specs.declared.types.Prof.{Prof}
use Rattle.ir_tree.specs.declared.types.Prof.TheVariants.{Entry, Weights, Targets}
use Rattle.ir_grammar.specs.Rules.{Rule, pure, one, many, TakesToken, one_takes, then_takes, ◌>>=◌, ◌>>◌}
use Rattle.ir_grammar.specs.declared.words.Bracket.{Bracket}
use Rattle.ir_grammar.specs.declared.words.Bracket.TheVariants.{Opens, Closes, Neither}
use Rattle.ir_grammar.specs.Tables.{by_word, note_names}
use Rattle.ir_grammar.specs.Words.{Tokens, when, option_is, is_sign, first_is, sign, mark, count, sign_takes, some_of, more_of}
use Rattle.ir_grammar.specs.Types.{this_type, literal_meaning, literal}
use Rattle.ir_grammar.specs.Past.{bracket_of, attachment, function_meaning, past_behind}
use Rattle.ir_grammar.specs.declared.words.NoteKind.{NoteKind}
use Rattle.ir_grammar.specs.declared.words.NoteKind.TheVariants as kinds
use Rattle.ir_grammar.specs.declared.words.Past.{Past}
use Rattle.ir_grammar.specs.declared.words.Past.TheVariants as past

-- # The shapes of nodes

-- this literal of the type
unfoldable pub this_literal : Ty → ℕ → Rule Token (Unit {0})
this_literal ty n = one (λ t. when (option_is (nat_eq n) (literal_meaning ty t)) tt)

-- `i32 w`
unfoldable pub weight : Rule Token ℕ
weight = this_type I32 >> literal I32

-- `i64 n`
unfoldable pub wide : Rule Token ℕ
wide = this_type I64 >> literal I64

abbrev pub note_kind : Token → Option NoteKind
note_kind (Str text) = by_word note_names text
note_kind _ = None

-- the name of a note, in a string
unfoldable pub named_note : Rule Token NoteKind
named_note = one note_kind

-- `, i64 n`
unfoldable pub entry_note : Rule Token Prof
entry_note = do
  sign 44
  n ← wide
  pure (Entry n)

-- `, i32 w, ..`, one or more
unfoldable pub weights_note : Rule Token Prof
weights_note = do
  sign 44
  list ← some_of weight
  pure (Weights list)

-- `i64 target, i64 count`
unfoldable pub target_count : Rule Token (ℕ × ℕ)
target_count = do
  to ← wide
  sign 44
  n ← wide
  pure (to, n)

-- `, i32 0, i64 total`, and any number of targets with their counts
unfoldable pub targets_note : Rule Token Prof
targets_note = do
  sign 44
  this_type I32
  this_literal I32 0
  sign 44
  total ← wide
  list ← more_of target_count []
  pure (Targets total list)

abbrev pub note_behind : NoteKind → Rule Token Prof
note_behind kinds.Entry = entry_note
note_behind kinds.Weights = weights_note
note_behind kinds.Targets = targets_note

-- `!{!"name", ..}`
unfoldable pub note : Rule Token Prof
note = do
  mark
  sign 123
  mark
  kind ← named_note
  found ← note_behind kind
  sign 125
  pure found

-- # The nodes of a text

-- the nodes that a text defines, in order, each with its number and the note whose shape it has
abbrev pub Nodes : Type 0
Nodes = List (ℕ × Option Prof)

-- the note at the front of the tokens
abbrev pub note_of_read : Option (Prof × Tokens) → Option Prof
note_of_read None = None
note_of_read (Some p) = Some p.0

abbrev pub note_at : Tokens → Option Prof
note_at ts = note_of_read (note.read ts)

-- `!N =`
unfoldable pub node_head : Rule Token ℕ
node_head = do
  mark
  n ← count
  sign 61
  pure n

abbrev pub node_of_head : Option (ℕ × Tokens) → Nodes
node_of_head None = []
node_of_head (Some p) = (p.0, note_at p.1) ∷ []

-- the node whose definition begins at the front of the tokens, if one does
abbrev pub node_at : Tokens → Nodes
node_at ts = node_of_head (node_head.read ts)

-- how many brackets are open behind a token
abbrev pub depth_after : Bracket → ℕ → ℕ
depth_after (Opens kind) depth = suc depth
depth_after (Closes kind) depth = depth - 1
depth_after Neither depth = depth

-- the nodes that are defined outside of all brackets, where so many are open at the front
abbrev pub nodes_from : ℕ → Tokens → Nodes
nodes_from depth [] = []
nodes_from depth (t ∷ ts) = cond (nat_eq depth 0) (node_at (t ∷ ts)) [] ++ nodes_from (depth_after (bracket_of t) depth) ts

abbrev pub nodes_of : Tokens → Nodes
nodes_of ts = nodes_from 0 ts

-- # Attachments

-- the one item of a list, none where there are none or several
abbrev pub only : List (Option Prof) → Option Prof
only [] = None
only (x ∷ []) = x
only (x ∷ y ∷ more) = None

-- the note of a node that is defined once
abbrev pub note_of : Nodes → ℕ → Option Prof
note_of nodes n = only (map (λ d. d.1) (filter (λ d. nat_eq d.0 n) nodes))

-- a note stands only where its kind may
abbrev pub in_place : NoteKind → Prof → Option Prof
in_place kinds.Entry (Entry n) = Some (Entry n)
in_place kinds.Entry (Weights list) = None
in_place kinds.Entry (Targets total list) = None
in_place kinds.Weights (Entry n) = None
in_place kinds.Weights (Weights list) = Some (Weights list)
in_place kinds.Weights (Targets total list) = None
in_place kinds.Targets (Entry n) = None
in_place kinds.Targets (Weights list) = None
in_place kinds.Targets (Targets total list) = Some (Targets total list)

-- the note that an attachment keeps at a place; the node is that of a `!prof`
abbrev pub kept_note : Nodes → NoteKind → Option ℕ → Option Prof
kept_note nodes kind None = None
kept_note nodes kind (Some n) = option_and_then (in_place kind) (note_of nodes n)

-- of several notes at one place the first is kept
abbrev pub first_note : Nodes → NoteKind → Option Prof → Option ℕ → Option Prof
first_note nodes kind kept node = option_or kept (kept_note nodes kind node)

-- `, !word !N`
unfoldable pub note_part : Rule Token (Option ℕ)
note_part = do
  sign 44
  mark
  attachment

pub note_part_takes : TakesToken note_part
unfolding note_part
note_part_takes = then_takes _ (sign_takes 44)

-- the attachments behind an instruction or terminator that may have a note of this kind
unfoldable pub noted : Nodes → NoteKind → Rule Token (Option Prof)
noted nodes kind = many (first_is (is_sign 44)) note_part note_part_takes >>= λ list. pure (fold (first_note nodes kind) None list)

-- # The head of a definition

abbrev pub head_meaning : Token → Option Past
head_meaning Mark = Some past.Attachment
head_meaning t = function_meaning t

abbrev pub head_behind : Past → Rule Token (Option ℕ)
head_behind past.Alone = past_behind past.Alone >> pure None
head_behind past.Number = past_behind past.Number >> pure None
head_behind past.Text = past_behind past.Text >> pure None
head_behind past.Parens = past_behind past.Parens >> pure None
head_behind past.Assigned = past_behind past.Assigned >> pure None
head_behind past.Attachment = attachment

unfoldable pub head_part : Rule Token (Option ℕ)
head_part = one head_meaning >>= head_behind

pub head_part_takes : TakesToken head_part
unfolding head_part
head_part_takes = then_takes _ (one_takes head_meaning)

-- a part begins with a mark, or with an attribute of a function
unfoldable pub head_begins : Tokens → Bool
head_begins ts = first_is (λ t. is_some (head_meaning t)) ts

-- the attributes and attachments behind the parameters of a definition
unfoldable pub head_note : Nodes → Rule Token (Option Prof)
head_note nodes = many head_begins head_part head_part_takes >>= λ list. pure (fold (first_note nodes kinds.Entry) None list)
