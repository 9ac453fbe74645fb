-- What is known of the parts of a module, and of its nodes.
use Rattle.std.proofs.Common.{◌≡◌, ℕ, ◌<◌, ◌^◌, Bool, true, false, cond, List, [], ◌∷◌, ◌++◌, refl, subst}
use Rattle.std.specs.Prelude.{codes, Option, Some, None, nat_eq, map, filter, filter_map}
use Rattle.std.proofs.lemmas.Bool.{ltb-true}
use Rattle.ir_lex.specs.Tokens.{Token, Word, Number, Global, Local, Label, Str, Bytes, Group, Mark, Sign}
use Rattle.ir_tree.specs.declared.types.Ty.TheVariants.{I32, I64}
use Rattle.ir_tree.specs.declared.types.Prof.{Prof}
use Rattle.ir_grammar.specs.Words.{Tokens}
use Rattle.ir_grammar.specs.Past.{bracket_of}
use Rattle.ir_grammar.specs.Notes.{Nodes, this_literal, weight, wide, named_note, entry_note, weights_note, target_count, targets_note, note_behind, note, note_at, note_of_read, node_head, node_of_head, node_at, depth_after, nodes_from, nodes_of, only}
use Rattle.ir_grammar.specs.Grammar.{Assignment, SourceName, Comdat, comdat, assignment_behind, assigned, assignment, target_text, group, attribute_group, Content, Tuple, Special, tuple, special, content_behind, content, named_metadata, node, Metadata, OfName, OfNumber, metadata_behind, metadata, declared, defined, keyword_behind, keyword, word_part, variable_part, Beginning, OfVariable, OfMark, OfWord, part_meaning, part_behind, part, variable_of, function_of, «module»}
use Rattle.ir_grammar.specs.declared.words.Keyword.{Keyword}
use Rattle.ir_grammar.specs.declared.words.Keyword.TheVariants as keywords
use Rattle.ir_grammar.specs.declared.words.NoteKind.{NoteKind}
use Rattle.ir_grammar.specs.declared.words.NoteKind.TheVariants as kinds
use Rattle.ir_grammar.specs.declared.parts.Part.{Part}
use Rattle.ir_grammar.specs.declared.parts.Part.TheVariants as parts
use Rattle.spellable.specs.Values.{Each, IsGlobal, IsCount}
use Rattle.spellable.specs.Instructions.{IsPair, IsNote}
use Rattle.spellable.specs.Modules.{IsFunction, IsVariable}
use Rattle.spellable.specs.Lines.{IsRead, AllRead}
use Rattle.spellable.specs.Parts.{IsPart, IsTable, HasNode}
use Rattle.spellable.proofs.Gives.{Gives, some_same, none_some, done, one_gives, any_gives, provided_gives, ◌>>=◌, ◌>>◌, either_gives, many_gives, after_none_gives, weaker, mark_gives, sign_gives, any_word_gives, string_gives, flag_gives, count_gives, comma_gives, some_gives}
use Rattle.spellable.proofs.GivesValues.{literal_gives, this_type_gives, balanced_gives}
use Rattle.spellable.proofs.GivesParts.{definition_gives, declaration_gives, variable_gives}

-- # Notes

weight_gives : Gives weight (λ w. w < 2 ^ 32)
unfolding weight
weight_gives = this_type_gives I32 >> weaker (λ w h. ltb-true w (2 ^ 32) h) (literal_gives I32)

wide_gives : Gives wide IsCount
unfolding wide
wide_gives = this_type_gives I64 >> weaker (λ n h. ltb-true n (2 ^ 64) h) (literal_gives I64)

pair_gives : Gives target_count IsPair
unfolding target_count
pair_gives = wide_gives >>= λ to to-is. (sign_gives 44 >> (wide_gives >>= λ n n-is. done (to-is, n-is)))

behind_gives : (kind : NoteKind) → Gives (note_behind kind) IsNote
unfolding entry_note weights_note targets_note this_literal
behind_gives kinds.Entry = sign_gives 44 >> (wide_gives >>= λ n n-is. done n-is)
behind_gives kinds.Weights = sign_gives 44 >> (some_gives weight_gives >>= λ list list-is. done list-is)
behind_gives kinds.Targets =
    sign_gives 44 >> (this_type_gives I32 >> (any_gives _ >> (sign_gives 44 >> (wide_gives >>= λ total total-is. (
    after_none_gives _ (comma_gives pair_gives) >>= λ list list-is. done (total-is, list-is))))))

note_gives : Gives note IsNote
unfolding note named_note
note_gives = mark_gives >> (sign_gives 123 >> (mark_gives >> (any_gives _ >>= λ kind kind-is. (behind_gives kind >>= λ p p-is. (sign_gives 125 >> done p-is)))))

-- # Nodes

head_gives : Gives node_head IsCount
unfolding node_head
head_gives = mark_gives >> (count_gives >>= λ n n-is. (sign_gives 61 >> done n-is))

-- a node with such a note, if it has one
IsNoted : Option Prof → Type 0
IsNoted o = (p : Prof) → o ≡ Some p → IsNote p

at_is : (ts : Tokens) → AllRead ts → IsNoted (note_at ts)
unfolding IsNoted
at_is ts all p e = go (note.read ts) refl e
  where
    go : (o : Option (Prof × Tokens)) → note.read ts ≡ o → note_of_read o ≡ Some p → IsNote p
    go None f g = none_some g
    go (Some q) f g = subst IsNote (some_same g) (note_gives.at ts q.0 q.1 all (note.sound ts q.0 q.1 f)).0

node_is : (ts : Tokens) → AllRead ts → Each (λ d. IsNoted d.1) (node_at ts)
node_is ts all = go (node_head.read ts) refl
  where
    go : (o : Option (ℕ × Tokens)) → node_head.read ts ≡ o → Each (λ d. IsNoted d.1) (node_of_head o)
    go None f = tt
    go (Some q) f = (at_is q.1 (head_gives.at ts q.0 q.1 all (node_head.sound ts q.0 q.1 f)).1, tt)

each_append : {A : Type 0} (P : A → Type 0) (xs ys : List A) → Each P xs → Each P ys → Each P (xs ++ ys)
each_append P [] ys h k = k
each_append P (x ∷ xs) ys h k = (h.0, each_append P xs ys h.1 k)

nodes_are : (depth : ℕ) (ts : Tokens) → AllRead ts → Each (λ d. IsNoted d.1) (nodes_from depth ts)
nodes_are depth [] all = tt
nodes_are depth (t ∷ ts) all =
    each_append (λ d. IsNoted d.1) (cond (nat_eq depth 0) (node_at (t ∷ ts)) []) (nodes_from (depth_after (bracket_of t) depth) ts) (go (nat_eq depth 0)) (nodes_are (depth_after (bracket_of t) depth) ts all.1)
  where
    go : (b : Bool) → Each (λ d. IsNoted d.1) (cond b (node_at (t ∷ ts)) [])
    go true = node_is (t ∷ ts) all
    go false = tt

filtered : (n : ℕ) (nodes : Nodes) → Each (λ d. IsNoted d.1) nodes → Each IsNoted (map (λ d. d.1) (filter (λ d. nat_eq d.0 n) nodes))
filtered n [] h = tt
filtered n (d ∷ ds) h = go (nat_eq d.0 n) h.0 (filtered n ds h.1)
  where
    go : (b : Bool) → IsNoted d.1 → Each IsNoted (map (λ e. e.1) (filter (λ e. nat_eq e.0 n) ds)) → Each IsNoted (map (λ e. e.1) (cond b (d ∷ filter (λ e. nat_eq e.0 n) ds) (filter (λ e. nat_eq e.0 n) ds)))
    go true first rest = (first, rest)
    go false first rest = rest

only_is : (list : List (Option Prof)) → Each IsNoted list → IsNoted (only list)
unfolding IsNoted
only_is [] h p e = none_some e
only_is (x ∷ []) h p e = h.0 p e
only_is (x ∷ y ∷ more) h p e = none_some e

pub table_is : (ts : Tokens) → AllRead ts → IsTable (nodes_of ts) IsNote
unfolding IsNoted
table_is ts all n p c e = only_is (map (λ d. d.1) (filter (λ d. nat_eq d.0 n) (nodes_of ts))) (filtered n (nodes_of ts) (nodes_are 0 ts all)) p e

-- # Parts that are read past

nothing_part : {P : Part → Type 0} → P parts.Nothing → Gives tuple P
unfolding tuple
nothing_part h = balanced_gives 123 >> done h

assignment_gives : (P : Part → Type 0) (a : Assignment) → P parts.Nothing → Gives (assignment_behind a) P
unfolding comdat
assignment_gives P SourceName h = done h
assignment_gives P Comdat h = any_word_gives >> done h

content_gives : (P : Part → Type 0) (c : Content) → P parts.Nothing → Gives (content_behind c) P
unfolding special
content_gives P Tuple h = nothing_part h
content_gives P Special h = sign_gives 40 >> (balanced_gives 40 >> done h)

metadata_gives : (P : Part → Type 0) (m : Metadata) → P parts.Nothing → Gives (metadata_behind m) P
unfolding named_metadata node content
metadata_gives P OfName h = sign_gives 61 >> (mark_gives >> (sign_gives 123 >> nothing_part h))
metadata_gives P OfNumber h = sign_gives 61 >> (flag_gives (codes "distinct") >>= λ d d-is. (mark_gives >> (any_gives _ >>= λ c c-is. content_gives P c h)))

-- # Parts

module _ (nodes : Nodes) (P : Prof → Type 0) (table : IsTable nodes P) where
  keyword_gives : (k : Keyword) → Gives (keyword_behind nodes k) (IsPart P)
  unfolding target_text attribute_group group declared defined
  keyword_gives keywords.Target = any_word_gives >> (sign_gives 61 >> (string_gives >> done tt))
  keyword_gives keywords.Attributes = any_gives _ >> (sign_gives 61 >> (sign_gives 123 >> (balanced_gives 123 >> done tt)))
  keyword_gives keywords.Declare = declaration_gives P >>= λ f f-is. done f-is
  keyword_gives keywords.Define = definition_gives nodes P table >>= λ f f-is. done f-is

  word_gives : (text : List ℕ) → Gives (word_part nodes text) (IsPart P)
  unfolding word_part assignment assigned keyword
  word_gives text =
      either_gives (sign_gives 61 >> (any_gives _ >>= λ a a-is. assignment_gives (IsPart P) a tt))
      (provided_gives {P = λ k. Unit {0}} _ (λ k e. tt) >>= λ k k-is. keyword_gives k)

  IsBeginning : Beginning → Type 0
  IsBeginning (OfVariable name) = IsGlobal name
  IsBeginning OfMark = Unit {0}
  IsBeginning (OfWord text) = Unit {0}

  beginning_read : (t : Token) (b : Beginning) → IsRead t → part_meaning t ≡ Some b → IsBeginning b
  unfolding IsBeginning
  beginning_read (Word text) b h e = subst IsBeginning (some_same e) tt
  beginning_read (Number minus n) b h e = none_some e
  beginning_read (Global name) b h e = subst IsBeginning (some_same e) h
  beginning_read (Local name) b h e = none_some e
  beginning_read (Label name) b h e = none_some e
  beginning_read (Str text) b h e = none_some e
  beginning_read (Bytes bytes) b h e = none_some e
  beginning_read (Group digits) b h e = none_some e
  beginning_read Mark b h e = subst IsBeginning (some_same e) tt
  beginning_read (Sign byte) b h e = none_some e

  part_behind_gives : (b : Beginning) → IsBeginning b → Gives (part_behind nodes b) (IsPart P)
  unfolding IsBeginning variable_part metadata
  part_behind_gives (OfVariable name) h = variable_gives name h >>= λ g g-is. done g-is
  part_behind_gives OfMark h = any_gives _ >>= λ m m-is. metadata_gives (IsPart P) m tt
  part_behind_gives (OfWord text) h = word_gives text

  part_gives : Gives (part nodes) (IsPart P)
  unfolding part
  part_gives = one_gives _ beginning_read >>= λ b b-is. part_behind_gives b b-is

  variables_are : (list : List Part) → Each (IsPart P) list → Each IsVariable (filter_map variable_of list)
  variables_are [] h = tt
  variables_are (parts.Variable g ∷ list) h = (h.0, variables_are list h.1)
  variables_are (parts.Function f ∷ list) h = variables_are list h.1
  variables_are (parts.Nothing ∷ list) h = variables_are list h.1

  functions_are : (list : List Part) → Each (IsPart P) list → Each (IsFunction P) (filter_map function_of list)
  functions_are [] h = tt
  functions_are (parts.Variable g ∷ list) h = functions_are list h.1
  functions_are (parts.Function f ∷ list) h = (h.0, functions_are list h.1)
  functions_are (parts.Nothing ∷ list) h = functions_are list h.1

  pub module_gives : Gives («module» nodes) (λ m. Each IsVariable m.globals × Each (IsFunction P) m.functions)
  unfolding «module»
  module_gives = many_gives _ part_gives >>= λ list list-is. done (variables_are list list-is, functions_are list list-is)

pub own_table : (nodes : Nodes) → IsTable nodes (HasNode nodes)
own_table nodes n p c e = (n, c, e)
