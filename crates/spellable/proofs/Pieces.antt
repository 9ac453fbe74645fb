-- Pieces whose tokens can be written, and how deep in brackets they go: no mark among them stands outside of all brackets.
use Rattle.std.proofs.Common.{◌≡◌, ℕ, zero, suc, ◌-◌, Bool, true, false, ◌&&◌, cond, List, [], ◌∷◌, ◌++◌, refl, sym, ap, ◌∙◌, subst, arith}
use Rattle.std.specs.Prelude.{nat_eq}
use Rattle.std.proofs.lemmas.Bool.{false≢true}
use Rattle.ir_lex.specs.Tokens.{Token, Word, Number, Global, Local, Label, Str, Bytes, Group, Mark, Sign}
use Rattle.ir_grammar.specs.Notes.{node_head, nodes_from, node_at, depth_after}
use Rattle.ir_grammar.specs.Words.{Tokens, mark, count, sign}
use Rattle.ir_grammar.specs.Past.{bracket_of}
use Rattle.text_pieces.specs.declared.stop.Stop.{Stop}
use Rattle.text_pieces.specs.declared.stop.Stop.TheVariants as stops
use Rattle.text_pieces.specs.Pieces.{Piece, Closed, Alone, Bang, stop_before, tokens_before}
use Rattle.text_cuts.specs.Cut.{can_write, can_write_all}

-- # Depth

abbrev pub less_one : ℕ → ℕ
less_one zero = zero
less_one (suc d) = d

abbrev pub stop_depth : Stop → ℕ → ℕ
stop_depth stops.Space d = d
stop_depth stops.Line d = d
stop_depth stops.Comma d = d
stop_depth stops.Equals d = d
stop_depth stops.OpenParen d = suc d
stop_depth stops.CloseParen d = less_one d
stop_depth stops.OpenBracket d = suc d
stop_depth stops.CloseBracket d = less_one d
stop_depth stops.OpenBrace d = suc d
stop_depth stops.CloseBrace d = less_one d

abbrev pub IsInside : ℕ → Type 0
IsInside zero = ⊥
IsInside (suc d) = Unit {0}

-- the tokens can be written, marks stand in brackets, and the pieces lead from one depth to another
abbrev pub Fine : ℕ → List Piece → ℕ → Type 0
Fine d [] e = d ≡ e
Fine d (Closed t stop ∷ ps) e = (can_write t ≡ true) × Fine (stop_depth stop d) ps e
Fine d (Alone stop ∷ ps) e = Fine (stop_depth stop d) ps e
Fine d (Bang ∷ ps) e = IsInside d × Fine d ps e

pub fine_append : (d : ℕ) (ps : List Piece) (e : ℕ) (qs : List Piece) (f : ℕ) → Fine d ps e → Fine e qs f → Fine d (ps ++ qs) f
fine_append d [] e qs f h k = subst (λ x. Fine x qs f) (sym h) k
fine_append d (Closed t stop ∷ ps) e qs f h k = (h.0, fine_append (stop_depth stop d) ps e qs f h.1 k)
fine_append d (Alone stop ∷ ps) e qs f h k = fine_append (stop_depth stop d) ps e qs f h k
fine_append d (Bang ∷ ps) e qs f h k = (h.0, fine_append d ps e qs f h.1 k)

pub fine_writes : (d : ℕ) (ps : List Piece) (e : ℕ) → Fine d ps e → can_write_all ps ≡ true
fine_writes d [] e h = refl
fine_writes d (Closed t stop ∷ ps) e h = ap (λ b. b && can_write_all ps) h.0 ∙ fine_writes (stop_depth stop d) ps e h.1
fine_writes d (Alone stop ∷ ps) e h = fine_writes (stop_depth stop d) ps e h
fine_writes d (Bang ∷ ps) e h = fine_writes d ps e h.1

-- # Nodes

less_is : (d : ℕ) → d - 1 ≡ less_one d
less_is zero = refl
less_is (suc d) = omega arith

-- outside of brackets a node begins with a mark
pub no_node : (t : Token) (ts : Tokens) → can_write t ≡ true → node_at (t ∷ ts) ≡ []
unfolding node_head mark count sign
no_node (Word text) ts h = refl
no_node (Number minus n) ts h = refl
no_node (Global name) ts h = refl
no_node (Local name) ts h = refl
no_node (Label name) ts h = refl
no_node (Str text) ts h = refl
no_node (Bytes bytes) ts h = refl
no_node (Group digits) ts h = absurd (false≢true h)
no_node Mark ts h = absurd (false≢true h)
no_node (Sign b) ts h = absurd (false≢true h)

pub same_depth : (t : Token) (d : ℕ) → can_write t ≡ true → depth_after (bracket_of t) d ≡ d
same_depth (Word text) d h = refl
same_depth (Number minus n) d h = refl
same_depth (Global name) d h = refl
same_depth (Local name) d h = refl
same_depth (Label name) d h = refl
same_depth (Str text) d h = refl
same_depth (Bytes bytes) d h = refl
same_depth (Group digits) d h = absurd (false≢true h)
same_depth Mark d h = absurd (false≢true h)
same_depth (Sign b) d h = absurd (false≢true h)

-- what is found at a token that begins no node
pub quiet_at : (d : ℕ) (t : Token) (ts : Tokens) → node_at (t ∷ ts) ≡ [] → nodes_from d (t ∷ ts) ≡ nodes_from (depth_after (bracket_of t) d) ts
quiet_at d t ts h = ap (λ found. cond (nat_eq d 0) found [] ++ nodes_from (depth_after (bracket_of t) d) ts) h ∙ go (nat_eq d 0)
  where
    go : (b : Bool) → cond b [] [] ++ nodes_from (depth_after (bracket_of t) d) ts ≡ nodes_from (depth_after (bracket_of t) d) ts
    go true = refl
    go false = refl

sign_node : (b : ℕ) (ts : Tokens) → node_at (Sign b ∷ ts) ≡ []
unfolding node_head mark count sign
sign_node b ts = refl

pub quiet_stop : (stop : Stop) (d : ℕ) (ts : Tokens) → nodes_from d (stop_before stop ts) ≡ nodes_from (stop_depth stop d) ts
quiet_stop stops.Space d ts = refl
quiet_stop stops.Line d ts = refl
quiet_stop stops.Comma d ts = quiet_at d (Sign 44) ts (sign_node 44 ts)
quiet_stop stops.Equals d ts = quiet_at d (Sign 61) ts (sign_node 61 ts)
quiet_stop stops.OpenParen d ts = quiet_at d (Sign 40) ts (sign_node 40 ts)
quiet_stop stops.CloseParen d ts = quiet_at d (Sign 41) ts (sign_node 41 ts) ∙ ap (λ e. nodes_from e ts) (less_is d)
quiet_stop stops.OpenBracket d ts = quiet_at d (Sign 91) ts (sign_node 91 ts)
quiet_stop stops.CloseBracket d ts = quiet_at d (Sign 93) ts (sign_node 93 ts) ∙ ap (λ e. nodes_from e ts) (less_is d)
quiet_stop stops.OpenBrace d ts = quiet_at d (Sign 123) ts (sign_node 123 ts)
quiet_stop stops.CloseBrace d ts = quiet_at d (Sign 125) ts (sign_node 125 ts) ∙ ap (λ e. nodes_from e ts) (less_is d)

inside_eq : (d : ℕ) → nat_eq (suc d) 0 ≡ false
inside_eq d = grind (arith)

quiet_mark : (d : ℕ) (ts : Tokens) → IsInside d → nodes_from d (Mark ∷ ts) ≡ nodes_from d ts
quiet_mark zero ts h = absurd h
quiet_mark (suc d) ts h = ap (λ b. cond b (node_at (Mark ∷ ts)) [] ++ nodes_from (suc d) ts) (inside_eq d)

-- fine pieces define no nodes
pub fine_quiet : (d : ℕ) (ps : List Piece) (e : ℕ) (others : Tokens) → Fine d ps e → nodes_from d (tokens_before ps others) ≡ nodes_from e others
fine_quiet d [] e others h = ap (λ x. nodes_from x others) h
fine_quiet d (Closed t stop ∷ ps) e others h =
    quiet_at d t (stop_before stop (tokens_before ps others)) (no_node t (stop_before stop (tokens_before ps others)) h.0)
    ∙ ap (λ x. nodes_from x (stop_before stop (tokens_before ps others))) (same_depth t d h.0)
    ∙ quiet_stop stop d (tokens_before ps others)
    ∙ fine_quiet (stop_depth stop d) ps e others h.1
fine_quiet d (Alone stop ∷ ps) e others h = quiet_stop stop d (tokens_before ps others) ∙ fine_quiet (stop_depth stop d) ps e others h
fine_quiet d (Bang ∷ ps) e others h = quiet_mark d (tokens_before ps others) h.0 ∙ fine_quiet d ps e others h.1
