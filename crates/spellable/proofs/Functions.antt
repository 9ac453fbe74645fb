-- The text of a function spells the function.
use Rattle.std.proofs.Common.{◌≡◌, ℕ, suc, false, cond, List, [], ◌∷◌, ◌++◌, refl, sym, ap, ◌∙◌, subst, inl, inr, arith}
use Rattle.std.specs.Prelude.{codes, decimal, Option, Some, None, is_some}
use Rattle.std.specs.List.{flat_map}
use Rattle.std.proofs.lemmas.Bool.{false≢true}
use Rattle.std.proofs.lemmas.Bool.Decides.{nat_tests}
use Rattle.ir_lex.specs.Tokens.{Word, Number, Global, Local, Label, Mark, Sign}
use Rattle.ir_tree.specs.Spelling.{is_empty, is_local_name}
use Rattle.ir_tree.specs.declared.types.Ty.{Ty}
use Rattle.ir_tree.specs.declared.types.Ret.{Ret}
use Rattle.ir_tree.specs.declared.types.Prof.{Prof}
use Rattle.ir_tree.specs.declared.types.Block.{Block}
use Rattle.ir_grammar.specs.Rules.{AreMany}
use Rattle.ir_grammar.specs.Words.{Tokens, is_sign, is_label, first_is, mark, sign, global, local, label, comma_item, listed}
use Rattle.ir_grammar.specs.Types.{value_type, return_type}
use Rattle.ir_grammar.specs.Past.{past_meaning}
use Rattle.ir_grammar.specs.Notes.{Nodes, head_begins, head_part, head_note}
use Rattle.ir_grammar.specs.Instructions.{starts_instr, instr, instrs}
use Rattle.ir_grammar.specs.Functions.{block_behind, block, entry_label, entry_block, blocks, parameter_name, parameter, named, numbered, is_numbered, declared_parameter, parameters, declared_parameters, body, definition, declaration}
use Rattle.ir_grammar.specs.declared.words.Past.TheVariants as past
use Rattle.ir_grammar.specs.declared.words.Place.TheVariants as places
use Rattle.ir_grammar.specs.declared.words.NoteKind.TheVariants as kinds
use Rattle.text_pieces.specs.declared.stop.Stop.{Stop}
use Rattle.text_pieces.specs.declared.stop.Stop.TheVariants as stops
use Rattle.text_pieces.specs.Pieces.{Alone, stop_before, tokens_before}
use Rattle.text_pieces.specs.Lists.{stop_behind, items, parted}
use Rattle.canonical_text.specs.Words.{type_word, return_word}
use Rattle.canonical_text.specs.Notes.{number_of}
use Rattle.canonical_text.specs.Instructions.{instr_pieces, term_pieces}
use Rattle.canonical_text.specs.Canonical.{block_pieces, type_pieces, param_pieces, braced_pieces, body_pieces}
use Rattle.canonical_text.specs.Canonical as canon
use Rattle.spellable.specs.Values.{Each, IsLocal, IsMaybe}
use Rattle.spellable.specs.Instructions.{MayStand, IsInstr}
use Rattle.spellable.specs.Modules.{IsBlock, IsParameter, HasNoName}
use Rattle.spellable.specs.Lines.{NoComma, Follows, IsKept}
use Rattle.spellable.specs.Appends.{tokens_append}
use Rattle.spellable.proofs.Pieces.{Fine, fine_append, stop_depth}
use Rattle.spellable.proofs.Literals.{type_fact, return_fact, type_writes}
use Rattle.spellable.proofs.Names.{local_writes, label_writes}
use Rattle.spellable.proofs.Lists.{IsItem, list_spell}
use Rattle.spellable.proofs.Notes.{kept_at, attachment_spells}
use Rattle.spellable.proofs.Items.{no_parts}
use Rattle.spellable.proofs.Lines.{return_begins, instr_spells}
use Rattle.spellable.proofs.FineLines.{instr_fine, flat_fine, term_fine}
use Rattle.spellable.proofs.Ends.{each_spell, term_spells, instr_starts, instr_follows, term_starts, term_follows}

-- # Blocks

module _ (nodes : Nodes) (list : List Prof) where
  abbrev Good : Block → Type 0
  Good = IsBlock (IsKept nodes list)

  behind_label : (b : Block) (others : Tokens) → Good b → NoComma others → (block_behind nodes b.label).Spells (tokens_before (flat_map (instr_pieces list) b.instrs ++ term_pieces list b.term) others) b others
  unfolding block_behind instrs
  behind_label b others h ends =
      let last = tokens_before (term_pieces list b.term) others in
      subst (λ ts. (block_behind nodes b.label).Spells ts b others) (sym (tokens_append (flat_map (instr_pieces list) b.instrs) (term_pieces list b.term) others)) (
        b.instrs,
        last,
        each_spell (instr nodes) (first_is starts_instr) (instr_pieces list) (IsInstr (IsKept nodes list)) Follows (λ i more k after. instr_spells nodes list i more k after) (instr_starts list) (instr_follows list) b.instrs last h.instrs (term_starts list b.term others) (term_follows list b.term others),
        (b.term, others, term_spells nodes list b.term others h.term ends, (refl, refl)),
      )

  pub block_spells : (b : Block) (others : Tokens) → Good b → NoComma others → (block nodes).Spells (tokens_before (block_pieces list b) others) b others
  unfolding block label
  block_spells b others h ends =
      (b.label, tokens_before (flat_map (instr_pieces list) b.instrs ++ term_pieces list b.term) others, (Label b.label, refl, refl), behind_label b others h ends)

  entry_spells : (n : ℕ) (b : Block) (others : Tokens) → Good b → NoComma others → (entry_block nodes n).Spells (tokens_before (block_pieces list b) others) b others
  unfolding entry_block entry_label label
  entry_spells n b others h ends =
      (b.label, tokens_before (flat_map (instr_pieces list) b.instrs ++ term_pieces list b.term) others, inl (refl, (Label b.label, refl, refl)), behind_label b others h ends)

  more_blocks : (bs : List Block) (others : Tokens) → NoComma others → NoComma (tokens_before (flat_map (block_pieces list) bs) others)
  more_blocks [] others ends = ends
  more_blocks (b ∷ bs) others ends = refl

  blocks_spell : (n : ℕ) (b : Block) (bs : List Block) (others : Tokens) → Good b → Each Good bs → first_is is_label others ≡ false → NoComma others → (blocks nodes n).Spells (tokens_before (flat_map (block_pieces list) (b ∷ bs)) others) (b ∷ bs) others
  unfolding blocks
  blocks_spell n b bs others h hs none ends =
      subst (λ ts. (blocks nodes n).Spells ts (b ∷ bs) others) (sym (tokens_append (block_pieces list b) (flat_map (block_pieces list) bs) others)) (
        b,
        tokens_before (flat_map (block_pieces list) bs) others,
        entry_spells n b (tokens_before (flat_map (block_pieces list) bs) others) h (more_blocks bs others ends),
        (bs, refl, each_spell (block nodes) (first_is is_label) (block_pieces list) Good NoComma (λ c more k after. block_spells c more k after) (λ c more. refl) (λ c more. refl) bs others hs none ends),
      )

  block_fine : (b : Block) (d : ℕ) → Good b → Fine (suc d) (block_pieces list b) (suc d)
  block_fine b d h = (
    label_writes b.label h.label,
    fine_append (suc d) (flat_map (instr_pieces list) b.instrs) (suc d) (term_pieces list b.term) (suc d)
        (flat_fine (instr_pieces list) (IsInstr (IsKept nodes list)) (λ i e k. instr_fine nodes list i e k) b.instrs d h.instrs) (term_fine nodes list b.term d h.term),
  )

  -- `{`, the blocks, and `}`
  body_spells : (n : ℕ) (b : Block) (bs : List Block) (others : Tokens) → Each Good (b ∷ bs) → (body nodes n).Spells (tokens_before (braced_pieces list (b ∷ bs)) others) (b ∷ bs) others
  unfolding body sign
  body_spells n b bs others h = (
    tt,
    tokens_before (flat_map (block_pieces list) (b ∷ bs) ++ Alone stops.CloseBrace ∷ Alone stops.Line ∷ []) others,
    (Sign 123, refl, refl),
    (
      b ∷ bs,
      Sign 125 ∷ others,
      subst (λ ts. (blocks nodes n).Spells ts (b ∷ bs) (Sign 125 ∷ others)) (sym (tokens_append (flat_map (block_pieces list) (b ∷ bs)) (Alone stops.CloseBrace ∷ Alone stops.Line ∷ []) others))
          (blocks_spell n b bs (Sign 125 ∷ others) h.0 h.1 refl refl),
      (tt, others, (Sign 125, refl, refl), (refl, refl)),
    ),
  )

  pub braced_fine : (bs : List Block) (d : ℕ) → Each Good bs → Fine d (braced_pieces list bs) d
  braced_fine bs d h =
      fine_append (suc d) (flat_map (block_pieces list) bs) (suc d) (Alone stops.CloseBrace ∷ Alone stops.Line ∷ []) d (flat_fine (block_pieces list) Good block_fine bs d h) refl

-- # Parameters

not_empty : (name : List ℕ) → IsLocal name → is_empty name ≡ false
unfolding is_local_name
not_empty [] h = absurd (false≢true h)
not_empty (b ∷ bs) h = grind (arith, nat_tests)

named_same : (k : ℕ) (ps : List (Ty × List ℕ)) → Each IsParameter ps → named k ps ≡ ps
named_same k [] h = refl
named_same k (p ∷ ps) h =
    let rest = named (cond (is_numbered p.1) (suc k) k) ps in
    ap (λ b. (p.0, cond b (decimal k) p.1) ∷ rest) (not_empty p.1 h.0) ∙ ap (λ qs. p ∷ qs) (named_same (cond (is_numbered p.1) (suc k) k) ps h.1)

parameter_at : (p : Ty × List ℕ) (stop : Stop) (others : Tokens) → IsParameter p → parameter.Spells (tokens_before (param_pieces p stop) others) p (stop_before stop others)
unfolding parameter value_type parameter_name local
parameter_at p stop others h = (
  p.0,
  Local p.1 ∷ stop_before stop others,
  (Word (type_word p.0), refl, type_fact p.0),
  (
    tt,
    Local p.1 ∷ stop_before stop others,
    no_parts places.Value (Local p.1 ∷ stop_before stop others) refl,
    (p.1, stop_before stop others, inl (refl, (Local p.1, refl, refl)), (refl, refl)),
  ),
)

parameter_fine : (p : Ty × List ℕ) (stop : Stop) (d : ℕ) → IsParameter p → Fine (suc d) (param_pieces p stop) (stop_depth stop (suc d))
parameter_fine p stop d h = (type_writes p.0, (local_writes p.1 h, refl))

pub parameter_item : IsItem parameter param_pieces IsParameter
parameter_item = record { spells = parameter_at; fine = parameter_fine }

declared_at : (p : Ty × List ℕ) (rest : Tokens) → first_is (λ t. is_some (past_meaning places.Value t)) rest ≡ false → HasNoName p → declared_parameter.Spells (Word (type_word p.0) ∷ rest) p rest
unfolding declared_parameter value_type
declared_at p rest none h = (
  p.0,
  rest,
  (Word (type_word p.0), refl, type_fact p.0),
  (
    tt,
    rest,
    no_parts places.Value rest none,
    (ap (λ name. (p.0, name)) h, refl),
  ),
)

-- the tokens behind a type, and that no attribute is among them
behind_type : List (Ty × List ℕ) → Tokens → Tokens
behind_type ps others = stop_before (stop_behind stops.CloseParen ps) (tokens_before (items type_pieces stops.CloseParen ps) others)

sign_behind : (ps : List (Ty × List ℕ)) (others : Tokens) → first_is (λ t. is_some (past_meaning places.Value t)) (behind_type ps others) ≡ false
unfolding behind_type
sign_behind [] others = refl
sign_behind (p ∷ ps) others = refl

more_types : (ps : List (Ty × List ℕ)) (others : Tokens) → Each HasNoName ps → AreMany (first_is (is_sign 44)) (comma_item declared_parameter) (behind_type ps others) ps (Sign 41 ∷ others)
unfolding behind_type sign
more_types [] others h = (refl, refl)
more_types (p ∷ ps) others h =
    (refl, behind_type ps others, (tt, Word (type_word p.0) ∷ behind_type ps others, (Sign 44, refl, refl), declared_at p (behind_type ps others) (sign_behind ps others) h.0), more_types ps others h.1)

types_spell : (ps : List (Ty × List ℕ)) (others : Tokens) → Each HasNoName ps → (listed 41 declared_parameter).Spells (tokens_before (parted type_pieces stops.CloseParen ps) others) ps others
unfolding behind_type sign
types_spell [] others h = ([], Sign 41 ∷ others, inl (refl, (refl, refl)), (tt, others, (Sign 41, refl, refl), (refl, refl)))
types_spell (p ∷ ps) others h = (
  p ∷ ps,
  Sign 41 ∷ others,
  inr (refl, (p, behind_type ps others, declared_at p (behind_type ps others) (sign_behind ps others) h.0, (ps, refl, more_types ps others h.1))),
  (tt, others, (Sign 41, refl, refl), (refl, refl)),
)

types_fine_at : (p : Ty × List ℕ) (ps : List (Ty × List ℕ)) (d : ℕ) → Fine (suc d) (items type_pieces stops.CloseParen (p ∷ ps)) d
types_fine_at p [] d = (type_writes p.0, refl)
types_fine_at p (q ∷ qs) d = (type_writes p.0, types_fine_at q qs d)

pub types_fine : (ps : List (Ty × List ℕ)) (d : ℕ) → Fine (suc d) (parted type_pieces stops.CloseParen ps) d
types_fine [] d = refl
types_fine (p ∷ ps) d = types_fine_at p ps d

-- # Definitions

module _ (nodes : Nodes) (list : List Prof) where
  -- the note of the head, where there is one
  head_spells : (prof : Option Prof) (blocks : List Block) (others : Tokens) → IsMaybe (MayStand (IsKept nodes list) kinds.Entry) prof → (head_note nodes).Spells (tokens_before (canon.head_note list prof (braced_pieces list blocks)) others) prof (tokens_before (braced_pieces list blocks) others)
  unfolding head_note head_begins head_part mark
  head_spells None blocks others h = ([], tokens_before (braced_pieces list blocks) others, (refl, refl), (refl, refl))
  head_spells (Some note) blocks others h =
      let behind = tokens_before (braced_pieces list blocks) others in (
        Some (number_of list note) ∷ [],
        behind,
        (refl, behind, (past.Attachment, Word (codes "prof") ∷ Mark ∷ Number false (number_of list note) ∷ behind, (Mark, refl, refl), attachment_spells (number_of list note) behind h.1.number), (refl, refl)),
        (sym (kept_at nodes list kinds.Entry note h), refl),
      )

  pub definition_spells : (name : List ℕ) (gives : Ret) (params : List (Ty × List ℕ)) (b : Block) (bs : List Block) (prof : Option Prof) (others : Tokens) → Each IsParameter params → IsMaybe (MayStand (IsKept nodes list) kinds.Entry) prof → Each (IsBlock (IsKept nodes list)) (b ∷ bs) → (definition nodes).Spells (Word (return_word gives) ∷ Global name ∷ Sign 40 ∷ tokens_before (parted param_pieces stops.CloseParen params ++ body_pieces list prof (b ∷ bs)) others) (record { name = name; ret = gives; params = params; blocks = b ∷ bs; prof = prof }) others
  unfolding definition return_type global parameters sign
  definition_spells name gives params b bs prof others hp note hb =
      let inside = tokens_before (parted param_pieces stops.CloseParen params ++ body_pieces list prof (b ∷ bs)) others in
      let head = tokens_before (body_pieces list prof (b ∷ bs)) others in
      let braced = tokens_before (braced_pieces list (b ∷ bs)) others in (
        tt,
        Word (return_word gives) ∷ Global name ∷ Sign 40 ∷ inside,
        no_parts places.Return (Word (return_word gives) ∷ Global name ∷ Sign 40 ∷ inside) (return_begins gives),
        (
          gives,
          Global name ∷ Sign 40 ∷ inside,
          (Word (return_word gives), refl, return_fact gives),
          (
            name,
            Sign 40 ∷ inside,
            (Global name, refl, refl),
            (
              params,
              head,
              (
                tt,
                inside,
                (Sign 40, refl, refl),
                subst (λ ts. (listed 41 parameter).Spells ts params head) (sym (tokens_append (parted param_pieces stops.CloseParen params) (body_pieces list prof (b ∷ bs)) others))
                    (list_spell parameter param_pieces IsParameter parameter_item 41 stops.CloseParen refl refl (λ ts. refl) (λ x stop ps more k. refl) params head hp),
              ),
              (
                prof,
                braced,
                head_spells prof (b ∷ bs) others note,
                (
                  b ∷ bs,
                  others,
                  body_spells nodes list (numbered params) b bs others hb,
                  (ap (λ ps. record { name = name; ret = gives; params = ps; blocks = b ∷ bs; prof = prof }) (sym (named_same 0 params hp)), refl),
                ),
              ),
            ),
          ),
        ),
      )

pub declaration_spells : (name : List ℕ) (gives : Ret) (params : List (Ty × List ℕ)) (others : Tokens) → Each HasNoName params → first_is (λ t. is_some (past_meaning places.Function t)) others ≡ false → declaration.Spells (Word (return_word gives) ∷ Global name ∷ Sign 40 ∷ tokens_before (parted type_pieces stops.CloseParen params ++ Alone stops.Line ∷ []) others) (record { name = name; ret = gives; params = params; blocks = []; prof = None }) others
unfolding declaration return_type global declared_parameters sign
declaration_spells name gives params others hp none =
    let inside = tokens_before (parted type_pieces stops.CloseParen params ++ Alone stops.Line ∷ []) others in (
      tt,
      Word (return_word gives) ∷ Global name ∷ Sign 40 ∷ inside,
      no_parts places.Return (Word (return_word gives) ∷ Global name ∷ Sign 40 ∷ inside) (return_begins gives),
      (
        gives,
        Global name ∷ Sign 40 ∷ inside,
        (Word (return_word gives), refl, return_fact gives),
        (
          name,
          Sign 40 ∷ inside,
          (Global name, refl, refl),
          (
            params,
            others,
            (
              tt,
              inside,
              (Sign 40, refl, refl),
              subst (λ ts. (listed 41 declared_parameter).Spells ts params others) (sym (tokens_append (parted type_pieces stops.CloseParen params) (Alone stops.Line ∷ []) others)) (types_spell params others hp),
            ),
            (tt, others, no_parts places.Function others none, (refl, refl)),
          ),
        ),
      ),
    )
