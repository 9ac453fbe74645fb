-- The nodes of notes: each spells its note, and is a part of a module that is read past.
use Rattle.std.proofs.Common.{◌≡◌, ℕ, suc, ◌^◌, ◌<◌, true, false, ◌&&◌, List, [], ◌∷◌, ◌++◌, refl, sym, ap, ◌∙◌, subst, inr}
use Rattle.std.specs.Prelude.{codes, Some}
use Rattle.std.proofs.lemmas.Bool.{false≢true, lt-ltb}
use Rattle.ir_lex.specs.Tokens.{Token, Word, Number, Global, Local, Label, Str, Bytes, Group, Mark, Sign}
use Rattle.ir_tree.specs.Spelling.{is_word_first, is_name_first, is_name_byte, is_quotable}
use Rattle.ir_tree.specs.declared.types.Ty.{Ty}
use Rattle.ir_tree.specs.declared.types.Ty.TheVariants.{I32, I64}
use Rattle.ir_tree.specs.declared.types.Prof.{Prof}
use Rattle.ir_tree.specs.declared.types.Prof.TheVariants.{Entry, Weights, Targets}
use Rattle.ir_grammar.specs.Words.{Tokens, is_sign, first_is, mark, sign, count, flag}
use Rattle.ir_grammar.specs.Types.{this_type, literal}
use Rattle.ir_grammar.specs.Past.{bracket_of, balanced}
use Rattle.ir_grammar.specs.Brackets.{nest_after, AreClosing}
use Rattle.ir_grammar.specs.declared.words.Bracket.TheVariants.{Neither}
use Rattle.ir_grammar.specs.Notes.{Nodes, this_literal, weight, wide, named_note, entry_note, weights_note, target_count, targets_note, note, note_at, note_of_read, node_head, node_of_head, node_at, nodes_from}
use Rattle.ir_grammar.specs.Grammar.{tuple, content, node, metadata, part, OfMark, OfNumber, Tuple}
use Rattle.ir_grammar.specs.declared.parts.Part.TheVariants as parts
use Rattle.ir_grammar.specs.declared.words.NoteKind.TheVariants as kinds
use Rattle.text_pieces.specs.declared.stop.Stop.{Stop}
use Rattle.text_pieces.specs.declared.stop.Stop.TheVariants as stops
use Rattle.text_pieces.specs.Pieces.{Piece, Alone, Bang, stop_before, tokens_before}
use Rattle.text_pieces.specs.Lists.{stop_behind, items, parted}
use Rattle.text_cuts.specs.Cut.{can_write, can_write_all}
use Rattle.canonical_text.specs.Values.{literal_token}
use Rattle.canonical_text.specs.Notes.{weight_pieces, pair_pieces, note_pieces}
use Rattle.canonical_text.specs.Canonical.{node_pieces}
use Rattle.spellable.specs.Values.{Each, IsCount, IsLiteral}
use Rattle.spellable.specs.Instructions.{IsPair, IsNote}
use Rattle.spellable.specs.Appends.{tokens_append}
use Rattle.spellable.proofs.Pieces.{Fine, fine_append, fine_writes, fine_quiet, quiet_stop, quiet_at, no_node, stop_depth}
use Rattle.spellable.proofs.Literals.{count_fact, count_writes, literal_fact, literal_writes}
use Rattle.spellable.proofs.Lists.{IsItem, more_spell, some_spell, items_fine}

-- # Numbers of notes

weight_literal : (w : ℕ) → w < 2 ^ 32 → IsLiteral I32 w
weight_literal w h = lt-ltb w (2 ^ 32) h

wide_literal : (n : ℕ) → IsCount n → IsLiteral I64 n
wide_literal n h = lt-ltb n (2 ^ 64) h

weight_at : (w : ℕ) (stop : Stop) (others : Tokens) → w < 2 ^ 32 → weight.Spells (tokens_before (weight_pieces w stop) others) w (stop_before stop others)
unfolding weight this_type literal
weight_at w stop others h = (tt, _, (Word (codes "i32"), refl, refl), (literal_token I32 w, refl, literal_fact I32 w (weight_literal w h)))

weight_fine : (w : ℕ) (stop : Stop) (d : ℕ) → w < 2 ^ 32 → Fine (suc d) (weight_pieces w stop) (stop_depth stop (suc d))
unfolding is_word_first is_name_first is_name_byte
weight_fine w stop d h = (refl, (literal_writes I32 w (weight_literal w h), refl))

weight_item : IsItem weight weight_pieces (λ w. w < 2 ^ 32)
weight_item = record { spells = weight_at; fine = weight_fine }

wide_spells : (n : ℕ) (ts : Tokens) → IsCount n → wide.Spells (Word (codes "i64") ∷ literal_token I64 n ∷ ts) n ts
unfolding wide this_type literal
wide_spells n ts h = (tt, _, (Word (codes "i64"), refl, refl), (literal_token I64 n, refl, literal_fact I64 n (wide_literal n h)))

pair_at : (p : ℕ × ℕ) (stop : Stop) (others : Tokens) → IsPair p → target_count.Spells (tokens_before (pair_pieces p stop) others) p (stop_before stop others)
unfolding target_count sign
pair_at p stop others h =
    (p.0, _, wide_spells p.0 _ h.0, (tt, _, (Sign 44, refl, refl), (p.1, stop_before stop others, wide_spells p.1 (stop_before stop others) h.1, (refl, refl))))

pair_fine : (p : ℕ × ℕ) (stop : Stop) (d : ℕ) → IsPair p → Fine (suc d) (pair_pieces p stop) (stop_depth stop (suc d))
unfolding is_word_first is_name_first is_name_byte
pair_fine p stop d h = (refl, (literal_writes I64 p.0 (wide_literal p.0 h.0), (refl, (literal_writes I64 p.1 (wide_literal p.1 h.1), refl))))

pair_item : IsItem target_count pair_pieces IsPair
pair_item = record { spells = pair_at; fine = pair_fine }

-- # Notes

pub note_spells : (p : Prof) (others : Tokens) → IsNote p → note.Spells (tokens_before (note_pieces p) others) p others
unfolding note mark sign named_note entry_note weights_note targets_note this_type this_literal
note_spells (Entry n) others h = (
  tt,
  _,
  (Mark, refl, refl),
  (
    tt,
    _,
    (Sign 123, refl, refl),
    (
      tt,
      _,
      (Mark, refl, refl),
      (
        kinds.Entry,
        _,
        (Str (codes "function_entry_count"), refl, refl),
        (
          Entry n,
          Sign 125 ∷ others,
          (tt, _, (Sign 44, refl, refl), (n, Sign 125 ∷ others, wide_spells n (Sign 125 ∷ others) h, (refl, refl))),
          (tt, others, (Sign 125, refl, refl), (refl, refl)),
        ),
      ),
    ),
  ),
)
note_spells (Weights []) others h = absurd h.0
note_spells (Weights (w ∷ ws)) others h = (
  tt,
  _,
  (Mark, refl, refl),
  (
    tt,
    _,
    (Sign 123, refl, refl),
    (
      tt,
      _,
      (Mark, refl, refl),
      (
        kinds.Weights,
        _,
        (Str (codes "branch_weights"), refl, refl),
        (
          Weights (w ∷ ws),
          Sign 125 ∷ others,
          (tt, _, (Sign 44, refl, refl), (w ∷ ws, Sign 125 ∷ others, some_spell weight weight_pieces (λ x. x < 2 ^ 32) weight_item (first_is (is_sign 44)) (λ x stop ps more k. refl) stops.CloseBrace others refl w ws h.1.0 h.1.1, (refl, refl))),
          (tt, others, (Sign 125, refl, refl), (refl, refl)),
        ),
      ),
    ),
  ),
)
note_spells (Targets total list) others h =
    let behind = stop_before (stop_behind stops.CloseBrace list) (tokens_before (items pair_pieces stops.CloseBrace list) others) in (
      tt,
      _,
      (Mark, refl, refl),
      (
        tt,
        _,
        (Sign 123, refl, refl),
        (
          tt,
          _,
          (Mark, refl, refl),
          (
            kinds.Targets,
            _,
            (Str (codes "VP"), refl, refl),
            (
              Targets total list,
              Sign 125 ∷ others,
              (
                tt,
                _,
                (Sign 44, refl, refl),
                (
                  tt,
                  _,
                  (Word (codes "i32"), refl, refl),
                  (
                    tt,
                    _,
                    (Number false 0, refl, refl),
                    (
                      tt,
                      _,
                      (Sign 44, refl, refl),
                      (
                        total,
                        behind,
                        wide_spells total behind h.0,
                        (list, Sign 125 ∷ others, (list, refl, more_spell target_count pair_pieces IsPair pair_item (first_is (is_sign 44)) (λ x stop ps more k. refl) stops.CloseBrace others refl list h.1), (refl, refl)),
                      ),
                    ),
                  ),
                ),
              ),
              (tt, others, (Sign 125, refl, refl), (refl, refl)),
            ),
          ),
        ),
      ),
    )

-- behind the first mark, up to the brace that closes the node
pub note_fine : (p : Prof) → IsNote p → (ps : List Piece) × (note_pieces p ≡ Bang ∷ Alone stops.OpenBrace ∷ ps) × Fine 1 ps 0
unfolding is_word_first is_name_first is_name_byte is_quotable
note_fine (Entry n) h = (_, refl, (tt, (refl, (refl, (literal_writes I64 n (wide_literal n h), refl)))))
note_fine (Weights []) h = absurd h.0
note_fine (Weights (w ∷ ws)) h = (_, refl, (tt, (refl, items_fine weight weight_pieces (λ x. x < 2 ^ 32) weight_item stops.CloseBrace 0 w ws h.1.0 h.1.1)))
note_fine (Targets total []) h = (_, refl, (tt, (refl, (refl, (refl, (refl, (literal_writes I64 total (wide_literal total h.0), refl)))))))
note_fine (Targets total (p ∷ ps)) h =
    (_, refl, (tt, (refl, (refl, (refl, (refl, (literal_writes I64 total (wide_literal total h.0), items_fine target_count pair_pieces IsPair pair_item stops.CloseBrace 0 p ps h.1.0 h.1.1)))))))

-- # Nodes

-- what follows is read past up to the brace that closes the node
abbrev Closes : Tokens → Tokens → Type 0
Closes ts others = AreClosing bracket_of (123 ∷ []) ts others

past_token : (t : Token) (ts others : Tokens) → bracket_of t ≡ Neither → Closes ts others → Closes (t ∷ ts) others
past_token t ts others e h = (123 ∷ [], ap (λ b. nest_after b (123 ∷ [])) e, h)

no_bracket : (t : Token) → can_write t ≡ true → bracket_of t ≡ Neither
no_bracket (Word text) h = refl
no_bracket (Number minus n) h = refl
no_bracket (Global name) h = refl
no_bracket (Local name) h = refl
no_bracket (Label name) h = refl
no_bracket (Str text) h = refl
no_bracket (Bytes bytes) h = refl
no_bracket (Group digits) h = absurd (false≢true h)
no_bracket Mark h = absurd (false≢true h)
no_bracket (Sign b) h = absurd (false≢true h)

past_literal : (ty : Ty) (n : ℕ) (ts others : Tokens) → IsLiteral ty n → Closes ts others → Closes (literal_token ty n ∷ ts) others
past_literal ty n ts others h k = past_token (literal_token ty n) ts others (no_bracket (literal_token ty n) (literal_writes ty n h)) k

last_brace : (others : Tokens) → Closes (Sign 125 ∷ others) others
last_brace others = ([], refl, refl)

-- behind the first of a list, up to the brace
more_close : {A : Type 0} (item : A → Stop → List Piece) (Good : A → Type 0) → ((x : A) (stop : Stop) (ps : List Piece) (others rest : Tokens) → Good x → Closes (stop_before stop (tokens_before ps others)) rest → Closes (tokens_before (item x stop ++ ps) others) rest) → (xs : List A) (others : Tokens) → Each Good xs → Closes (stop_before (stop_behind stops.CloseBrace xs) (tokens_before (items item stops.CloseBrace xs) others)) others
more_close item Good past [] others h = last_brace others
more_close item Good past (x ∷ xs) others h =
    past_token (Sign 44) (tokens_before (items item stops.CloseBrace (x ∷ xs)) others) others refl
    (past x (stop_behind stops.CloseBrace xs) (items item stops.CloseBrace xs) others others h.0 (more_close item Good past xs others h.1))

weight_past : (w : ℕ) (stop : Stop) (ps : List Piece) (others rest : Tokens) → w < 2 ^ 32 → Closes (stop_before stop (tokens_before ps others)) rest → Closes (tokens_before (weight_pieces w stop ++ ps) others) rest
weight_past w stop ps others rest h k =
    past_token (Word (codes "i32")) (literal_token I32 w ∷ stop_before stop (tokens_before ps others)) rest refl (past_literal I32 w (stop_before stop (tokens_before ps others)) rest (weight_literal w h) k)

pair_past : (p : ℕ × ℕ) (stop : Stop) (ps : List Piece) (others rest : Tokens) → IsPair p → Closes (stop_before stop (tokens_before ps others)) rest → Closes (tokens_before (pair_pieces p stop ++ ps) others) rest
pair_past p stop ps others rest h k =
    let last = stop_before stop (tokens_before ps others) in
    past_token (Word (codes "i64")) (literal_token I64 p.0 ∷ Sign 44 ∷ Word (codes "i64") ∷ literal_token I64 p.1 ∷ last) rest refl
    (past_literal I64 p.0 (Sign 44 ∷ Word (codes "i64") ∷ literal_token I64 p.1 ∷ last) rest (wide_literal p.0 h.0)
    (past_token (Sign 44) (Word (codes "i64") ∷ literal_token I64 p.1 ∷ last) rest refl
    (past_token (Word (codes "i64")) (literal_token I64 p.1 ∷ last) rest refl (past_literal I64 p.1 last rest (wide_literal p.1 h.1) k))))

-- the tokens behind the brace that opens the node
abbrev inside_node : Prof → Tokens → Tokens
inside_node (Entry n) others = Mark ∷ Str (codes "function_entry_count") ∷ Sign 44 ∷ Word (codes "i64") ∷ literal_token I64 n ∷ Sign 125 ∷ others
inside_node (Weights list) others = Mark ∷ Str (codes "branch_weights") ∷ Sign 44 ∷ tokens_before (parted weight_pieces stops.CloseBrace list) others
inside_node (Targets total list) others = Mark ∷ Str (codes "VP") ∷ Sign 44 ∷ Word (codes "i32") ∷ Number false 0 ∷ Sign 44 ∷ Word (codes "i64") ∷ literal_token I64 total ∷ stop_before (stop_behind stops.CloseBrace list) (tokens_before (items pair_pieces stops.CloseBrace list) others)

node_tokens : (p : Prof) (others : Tokens) → tokens_before (note_pieces p) others ≡ Mark ∷ Sign 123 ∷ inside_node p others
node_tokens (Entry n) others = refl
node_tokens (Weights list) others = refl
node_tokens (Targets total list) others = refl

note_closes : (p : Prof) (others : Tokens) → IsNote p → Closes (inside_node p others) others
note_closes (Entry n) others h =
    past_token Mark _ others refl (past_token (Str (codes "function_entry_count")) _ others refl (past_token (Sign 44) _ others refl (past_token (Word (codes "i64")) _ others refl
    (past_literal I64 n (Sign 125 ∷ others) others (wide_literal n h) (last_brace others)))))
note_closes (Weights []) others h = absurd h.0
note_closes (Weights (w ∷ ws)) others h =
    past_token Mark _ others refl (past_token (Str (codes "branch_weights")) _ others refl (past_token (Sign 44) _ others refl
    (weight_past w (stop_behind stops.CloseBrace ws) (items weight_pieces stops.CloseBrace ws) others others h.1.0 (more_close weight_pieces (λ x. x < 2 ^ 32) weight_past ws others h.1.1))))
note_closes (Targets total list) others h =
    past_token Mark _ others refl (past_token (Str (codes "VP")) _ others refl (past_token (Sign 44) _ others refl (past_token (Word (codes "i32")) _ others refl
    (past_token (Number false 0) _ others refl (past_token (Sign 44) _ others refl (past_token (Word (codes "i64")) _ others refl
    (past_literal I64 total (stop_before (stop_behind stops.CloseBrace list) (tokens_before (items pair_pieces stops.CloseBrace list) others)) others (wide_literal total h.0) (more_close pair_pieces IsPair pair_past list others h.1))))))))

-- the tokens of a whole node
node_line : (k : ℕ) (p : Prof) (others : Tokens) → tokens_before (node_pieces k p) others ≡ Mark ∷ Number false k ∷ Sign 61 ∷ Mark ∷ Sign 123 ∷ inside_node p others
node_line k p others = ap (λ ts. Mark ∷ Number false k ∷ Sign 61 ∷ ts) (tokens_append (note_pieces p) (Alone stops.Line ∷ []) others ∙ node_tokens p others)

pub node_spells : (nodes : Nodes) (k : ℕ) (p : Prof) (others : Tokens) → IsCount k → IsNote p → (part nodes).Spells (tokens_before (node_pieces k p) others) parts.Nothing others
unfolding part metadata node flag sign mark content tuple balanced
node_spells nodes k p others c h =
    subst (λ ts. (part nodes).Spells ts parts.Nothing others) (sym (node_line k p others)) (
      OfMark,
      _,
      (Mark, refl, refl),
      (
        OfNumber,
        _,
        (Number false k, refl, refl),
        (
          tt,
          _,
          (Sign 61, refl, refl),
          (
            false,
            Mark ∷ Sign 123 ∷ inside_node p others,
            inr (refl, (refl, refl)),
            (
              tt,
              _,
              (Mark, refl, refl),
              (
                Tuple,
                inside_node p others,
                (Sign 123, refl, refl),
                (tt, others, note_closes p others h, (refl, refl)),
              ),
            ),
          ),
        ),
      ),
    )

pub node_fine : (k : ℕ) (p : Prof) → IsCount k → IsNote p → can_write_all (node_pieces k p) ≡ true
node_fine k p c h =
    let (ps, same, fine) = note_fine p h in
    ap (λ b. b && can_write_all (note_pieces p ++ Alone stops.Line ∷ [])) (count_writes k c)
    ∙ ap (λ qs. can_write_all (qs ++ Alone stops.Line ∷ [])) same
    ∙ fine_writes 1 (ps ++ Alone stops.Line ∷ []) 0 (fine_append 1 ps 0 (Alone stops.Line ∷ []) 0 fine refl)

note_read : (p : Prof) (others : Tokens) → IsNote p → note_at (tokens_before (note_pieces p) others) ≡ Some p
note_read p others h = ap note_of_read (note.complete (tokens_before (note_pieces p) others) p others (note_spells p others h))

-- a mark, a number and an equals sign begin a node
head_read : (k : ℕ) (ts : Tokens) → IsCount k → node_at (Mark ∷ Number false k ∷ Sign 61 ∷ ts) ≡ (k, note_at ts) ∷ []
unfolding node_head mark count sign
head_read k ts c = ap node_of_head (node_head.complete (Mark ∷ Number false k ∷ Sign 61 ∷ ts) k ts (tt, _, (Mark, refl, refl), (k, _, (Number false k, refl, count_fact k c), (tt, ts, (Sign 61, refl, refl), (refl, refl)))))

second_mark : (ts : Tokens) → node_at (Mark ∷ Sign 123 ∷ ts) ≡ []
unfolding node_head mark count sign
second_mark ts = refl

-- a node is found with its note, and what stands behind it is looked at next
pub node_found : (k : ℕ) (p : Prof) (others : Tokens) → IsCount k → IsNote p → nodes_from 0 (tokens_before (node_pieces k p) others) ≡ (k, Some p) ∷ nodes_from 0 others
node_found k p others c h =
    let (ps, same, fine) = note_fine p h in
    let inside = tokens_before ps others in
    let text : tokens_before (note_pieces p) others ≡ Mark ∷ Sign 123 ∷ inside = ap (λ qs. tokens_before qs others) same in
    let found : node_at (Mark ∷ Number false k ∷ Sign 61 ∷ Mark ∷ Sign 123 ∷ inside) ≡ (k, Some p) ∷ [] =
    head_read k (Mark ∷ Sign 123 ∷ inside) c ∙ ap (λ o. (k, o) ∷ []) (ap note_at (sym text) ∙ note_read p others h) in
    ap (nodes_from 0) (ap (λ ts. Mark ∷ Number false k ∷ Sign 61 ∷ ts) (tokens_append (note_pieces p) (Alone stops.Line ∷ []) others ∙ text))
    ∙ ap (λ ns. ns ++ nodes_from 0 (Number false k ∷ Sign 61 ∷ Mark ∷ Sign 123 ∷ inside)) found
    ∙ ap (λ ns. (k, Some p) ∷ ns)
    (quiet_at 0 (Number false k) (Sign 61 ∷ Mark ∷ Sign 123 ∷ inside) (no_node (Number false k) (Sign 61 ∷ Mark ∷ Sign 123 ∷ inside) (count_writes k c))
    ∙ quiet_stop stops.Equals 0 (Mark ∷ Sign 123 ∷ inside)
    ∙ quiet_at 0 Mark (Sign 123 ∷ inside) (second_mark inside)
    ∙ quiet_stop stops.OpenBrace 0 inside
    ∙ fine_quiet 1 ps 0 others fine)

pub note_writes : (p : Prof) → IsNote p → can_write_all (note_pieces p) ≡ true
note_writes p h =
    let (ps, same, fine) = note_fine p h in
    ap can_write_all same ∙ fine_writes 1 ps 0 fine
