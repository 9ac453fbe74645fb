-- The table of the nodes of a text, as it grows.
use Rattle.std.proofs.Common.{◌≡◌, ℕ, Bool, true, false, cond, List, [], ◌∷◌, ◌++◌, map, Option, Some, None, refl, sym, ap, ◌∙◌, nat_eq}
use Rattle.std.specs.Prelude.{filter}
use Rattle.std.specs.Option.{option_and_then}
use Rattle.ir_tree.specs.declared.types.Prof.{Prof}
use Rattle.ir_lex.specs.Tokens.{Token}
use Rattle.ir_grammar.specs.Words.{first_is, is_mark, mark}
use Rattle.ir_grammar.specs.Past.{bracket_of}
use Rattle.ir_grammar.specs.Notes.{Nodes, node_at, node_head, nodes_from, depth_after, only, in_place, kept_note}
use Rattle.ir_grammar.specs.declared.words.NoteKind.{NoteKind}
use Rattle.ir_read.specs.Table.{notes_at, joined, note_known}

-- the notes of a number, in front and behind
notes_append : (n : ℕ) (xs ys : Nodes) → notes_at n (xs ++ ys) ≡ notes_at n xs ++ notes_at n ys
notes_append n [] ys = refl
notes_append n (d ∷ ds) ys = choose (notes_append n ds ys) (nat_eq d.0 n)
  where
    choose : notes_at n (ds ++ ys) ≡ notes_at n ds ++ notes_at n ys → (b : Bool) → map (λ e. e.1) (cond b (d ∷ filter (λ e. nat_eq e.0 n) (ds ++ ys)) (filter (λ e. nat_eq e.0 n) (ds ++ ys))) ≡ map (λ e. e.1) (cond b (d ∷ filter (λ e. nat_eq e.0 n) ds) (filter (λ e. nat_eq e.0 n) ds)) ++ notes_at n ys
    choose later true = ap (λ xs. d.1 ∷ xs) later
    choose later false = later

joined_append : (known : Option (Option Prof)) (xs ys : List (Option Prof)) → joined known (xs ++ ys) ≡ joined (joined known xs) ys
joined_append known [] ys = refl
joined_append None (x ∷ xs) ys = joined_append (Some x) xs ys
joined_append (Some known) (x ∷ xs) ys = joined_append (Some None) xs ys

-- one token more
pub table_step : (n depth : ℕ) (old new : Option (Option Prof)) (t : Token) (tokens ts : List Token) → tokens ≡ t ∷ ts → new ≡ joined old (notes_at n (cond (nat_eq depth 0) (node_at tokens) [])) → joined old (notes_at n (nodes_from depth tokens)) ≡ joined new (notes_at n (nodes_from (depth_after (bracket_of t) depth) ts))
table_step n depth old new t tokens ts e f =
    ap (λ us. joined old (notes_at n (nodes_from depth us))) e
    ∙ ap (joined old) (notes_append n (cond (nat_eq depth 0) (node_at (t ∷ ts)) []) (nodes_from (depth_after (bracket_of t) depth) ts))
    ∙ joined_append old (notes_at n (cond (nat_eq depth 0) (node_at (t ∷ ts)) [])) (notes_at n (nodes_from (depth_after (bracket_of t) depth) ts))
    ∙ ap (λ known. joined known (notes_at n (nodes_from (depth_after (bracket_of t) depth) ts))) (sym (f ∙ ap (λ us. joined old (notes_at n (cond (nat_eq depth 0) (node_at us) []))) e))

-- no node is defined where no mark stands
pub no_node : (tokens : List Token) → first_is is_mark tokens ≡ false → node_at tokens ≡ []
unfolding node_head mark
no_node [] e = refl
no_node (t ∷ ts) e = rw e refl

-- no token is left
pub table_last : (n depth : ℕ) (old new : Option (Option Prof)) (tokens : List Token) → tokens ≡ [] → new ≡ joined old (notes_at n (cond (nat_eq depth 0) (node_at tokens) [])) → joined old (notes_at n (nodes_from depth tokens)) ≡ new
table_last n depth old new tokens e f =
    ap (λ us. joined old (notes_at n (nodes_from depth us))) e
    ∙ sym (f ∙ ap (λ us. joined old (notes_at n (cond (nat_eq depth 0) us []))) (ap node_at e ∙ no_node [] refl) ∙ none (nat_eq depth 0))
  where
    none : (b : Bool) → joined old (notes_at n (cond b [] [])) ≡ old
    none true = refl
    none false = refl

often : (xs : List (Option Prof)) → note_known (joined (Some None) xs) ≡ None
often [] = refl
often (x ∷ xs) = often xs

-- what is known of all definitions of a number is the note of the only one
known_only : (xs : List (Option Prof)) → note_known (joined None xs) ≡ only xs
known_only [] = refl
known_only (x ∷ []) = refl
known_only (x ∷ y ∷ more) = often more

pub table_note : (nodes : Nodes) (kind : NoteKind) (n : ℕ) (known : Option (Option Prof)) → known ≡ joined None (notes_at n nodes) → option_and_then (in_place kind) (note_known known) ≡ kept_note nodes kind (Some n)
table_note nodes kind n known e =
    ap (λ k. option_and_then (in_place kind) (note_known k)) e ∙ ap (option_and_then (in_place kind)) (known_only (notes_at n nodes))
