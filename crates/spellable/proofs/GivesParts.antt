-- What is known of functions and global variables that some tokens spell.
use Rattle.std.proofs.Common.{◌≡◌, ◌⊎◌, ℕ, zero, suc, ◌/◌, ◌%◌, Bool, true, false, ◌&&◌, not, cond, eqb, List, [], ◌∷◌, refl, sym, ap, ◌∙◌, subst, inl, inr, arith}
use Rattle.std.specs.Prelude.{decimal, Option, None}
use Rattle.std.specs.List.{list_all}
use Rattle.std.specs.Fmt.{digit_glyph, digits_onto, digits}
use Rattle.std.proofs.lemmas.Bool.{agree_below, agree_below_at}
use Rattle.std.proofs.lemmas.Bool.Decides.{nat_tests}
use Rattle.ir_tree.specs.Spelling.{is_quotable, is_empty, is_local_name}
use Rattle.ir_tree.specs.declared.types.Ty.{Ty}
use Rattle.ir_tree.specs.declared.types.Ret.{Ret}
use Rattle.ir_tree.specs.declared.types.Prof.{Prof}
use Rattle.ir_tree.specs.declared.types.Init.TheVariants as inits
use Rattle.ir_tree.specs.declared.types.Block.{Block}
use Rattle.ir_grammar.specs.Notes.{Nodes, head_behind, head_part, head_note}
use Rattle.ir_grammar.specs.Functions.{block_behind, block, entry_label, entry_block, blocks, parameter_name, parameter, is_numbered, name_of, named, numbered, declared_parameter, parameters, declared_parameters, body, definition, declaration}
use Rattle.ir_grammar.specs.Variables.{initial, variable_word, variable}
use Rattle.ir_grammar.specs.declared.words.Past.{Past}
use Rattle.ir_grammar.specs.declared.words.Past.TheVariants as past
use Rattle.ir_grammar.specs.declared.words.Place.TheVariants as places
use Rattle.ir_grammar.specs.declared.words.Tail.TheVariants as tails
use Rattle.ir_grammar.specs.declared.words.Marks.TheVariants as marks
use Rattle.ir_grammar.specs.declared.words.NoteKind.TheVariants as kinds
use Rattle.spellable.specs.Values.{Each, IsSome, IsLocal, IsGlobal, IsCount, IsMaybe}
use Rattle.spellable.specs.Instructions.{MayStand}
use Rattle.spellable.specs.Modules.{IsBlock, IsParameter, HasNoName, IsFunction, IsInit, IsVariable}
use Rattle.spellable.specs.Parts.{IsTable}
use Rattle.spellable.proofs.Gives.{Gives, done, any_gives, ◌>>=◌, ◌>>◌, either_gives, many_gives, after_gives, weaker, sign_gives, local_gives, label_gives, global_gives, listed_gives}
use Rattle.spellable.proofs.GivesValues.{value_type_gives, return_type_gives, shape_gives, attachment_gives, past_behind_gives, past_parts_gives, tail_gives, init_gives}
use Rattle.spellable.proofs.GivesLines.{fold_gives, marked_gives, instrs_give, terminator_gives}

-- # Numbers as names

glyphs : agree_below (λ d. is_quotable (digit_glyph false d)) (λ _. true) 10 ≡ true
unfolding is_quotable
glyphs = refl

glyph_quotable : (n : ℕ) → is_quotable (digit_glyph false (n % 10)) ≡ true
glyph_quotable n = agree_below_at (λ d. is_quotable (digit_glyph false d)) (λ _. true) 10 (n % 10) glyphs (omega arith)

digits_quotable : (k n : ℕ) (acc : List ℕ) → list_all is_quotable acc ≡ true → list_all is_quotable (digits_onto k 10 false n acc) ≡ true
digits_quotable zero n acc h = h
digits_quotable (suc k) n acc h =
    let more : list_all is_quotable (digit_glyph false (n % 10) ∷ acc) ≡ true = ap (λ b. b && list_all is_quotable acc) (glyph_quotable n) ∙ h in
    go (eqb (n / 10) 0) more (digits_quotable k (n / 10) (digit_glyph false (n % 10) ∷ acc) more)
  where
    go : (b : Bool) → list_all is_quotable (digit_glyph false (n % 10) ∷ acc) ≡ true → list_all is_quotable (digits_onto k 10 false (n / 10) (digit_glyph false (n % 10) ∷ acc)) ≡ true → list_all is_quotable (cond b (digit_glyph false (n % 10) ∷ acc) (digits_onto k 10 false (n / 10) (digit_glyph false (n % 10) ∷ acc))) ≡ true
    go true here later = here
    go false here later = later

cons_some : (b : ℕ) (bs : List ℕ) → is_empty (b ∷ bs) ≡ false
cons_some b bs = grind (arith, nat_tests)

digits_some : (k n b : ℕ) (bs : List ℕ) → is_empty (digits_onto k 10 false n (b ∷ bs)) ≡ false
digits_some zero n b bs = cons_some b bs
digits_some (suc k) n b bs = go (eqb (n / 10) 0) (digits_some k (n / 10) (digit_glyph false (n % 10)) (b ∷ bs))
  where
    go : (x : Bool) → is_empty (digits_onto k 10 false (n / 10) (digit_glyph false (n % 10) ∷ b ∷ bs)) ≡ false → is_empty (cond x (digit_glyph false (n % 10) ∷ b ∷ bs) (digits_onto k 10 false (n / 10) (digit_glyph false (n % 10) ∷ b ∷ bs))) ≡ false
    go true later = cons_some (digit_glyph false (n % 10)) (b ∷ bs)
    go false later = later

decimal_some : (k n : ℕ) → is_empty (digits_onto (suc k) 10 false n []) ≡ false
decimal_some k n = go (eqb (n / 10) 0)
  where
    go : (x : Bool) → is_empty (cond x (digit_glyph false (n % 10) ∷ []) (digits_onto k 10 false (n / 10) (digit_glyph false (n % 10) ∷ []))) ≡ false
    go true = cons_some (digit_glyph false (n % 10)) []
    go false = digits_some k (n / 10) (digit_glyph false (n % 10)) []

-- a number names a parameter or a block
pub decimal_local : (n : ℕ) → IsLocal (decimal n)
unfolding is_local_name digits
decimal_local n = ap (λ b. not b && list_all is_quotable (decimal n)) (decimal_some 63 n) ∙ digits_quotable 64 n [] refl

-- # Parameters

abbrev IsRead1 : Ty × List ℕ → Type 0
IsRead1 p = (p.1 ≡ []) ⊎ IsLocal p.1

name_local : (k : ℕ) (name : List ℕ) → (name ≡ []) ⊎ IsLocal name → IsLocal (name_of k name)
name_local k name (inl e) = subst (λ n. IsLocal (name_of k n)) (sym e) (decimal_local k)
name_local k [] (inr h) = decimal_local k
name_local k (b ∷ bs) (inr h) = subst IsLocal (sym (ap (λ x. cond x (decimal k) (b ∷ bs)) (cons_some b bs))) h

named_local : (k : ℕ) (ps : List (Ty × List ℕ)) → Each IsRead1 ps → Each IsParameter (named k ps)
named_local k [] h = tt
named_local k (p ∷ ps) h = (name_local k p.1 h.0, named_local (cond (is_numbered p.1) (suc k) k) ps h.1)

parameter_gives : Gives parameter IsRead1
unfolding parameter parameter_name
parameter_gives =
    value_type_gives >>= λ ty ty-is. (past_parts_gives places.Value >> (
    either_gives {P = λ name. (name ≡ []) ⊎ IsLocal name} (weaker (λ name h. inr h) local_gives) (done (inl refl)) >>= λ name name-is. (
    done name-is)))

declared_gives : Gives declared_parameter HasNoName
unfolding declared_parameter
declared_gives =
    value_type_gives >>= λ ty ty-is. (past_parts_gives places.Value >> (done refl))

parameters_give : Gives parameters (Each IsRead1)
unfolding parameters
parameters_give = sign_gives 40 >> listed_gives 41 parameter_gives

declared_parameters_give : Gives declared_parameters (Each HasNoName)
unfolding declared_parameters
declared_parameters_give = sign_gives 40 >> listed_gives 41 declared_gives

-- # Functions

module _ (nodes : Nodes) (P : Prof → Type 0) (table : IsTable nodes P) where
  behind_gives : (name : List ℕ) → IsLocal name → Gives (block_behind nodes name) (IsBlock P)
  unfolding block_behind
  behind_gives name h =
      instrs_give nodes P table >>= λ list list-is. (terminator_gives nodes P table >>= λ end end-is. (
      done (record { label = h; instrs = list-is; term = end-is })))

  pub block_gives : Gives (block nodes) (IsBlock P)
  unfolding block
  block_gives = label_gives >>= λ name name-is. behind_gives name name-is

  entry_gives : (n : ℕ) → Gives (entry_block nodes n) (IsBlock P)
  unfolding entry_block entry_label
  entry_gives n = either_gives label_gives (done (decimal_local n)) >>= λ name name-is. behind_gives name name-is

  blocks_give : (n : ℕ) → Gives (blocks nodes n) (λ bs. IsSome bs × Each (IsBlock P) bs)
  unfolding blocks
  blocks_give n =
      entry_gives n >>= λ first first-is. (after_gives _ first-is block_gives)

  body_gives : (n : ℕ) → Gives (body nodes n) (λ bs. IsSome bs × Each (IsBlock P) bs)
  unfolding body
  body_gives n =
      sign_gives 123 >> (blocks_give n >>= λ list list-is. (sign_gives 125 >> (done list-is)))

  head_behind_gives : (p : Past) → Gives (head_behind p) (IsMaybe IsCount)
  head_behind_gives past.Alone = past_behind_gives past.Alone >> done tt
  head_behind_gives past.Number = past_behind_gives past.Number >> done tt
  head_behind_gives past.Text = past_behind_gives past.Text >> done tt
  head_behind_gives past.Parens = past_behind_gives past.Parens >> done tt
  head_behind_gives past.Assigned = past_behind_gives past.Assigned >> done tt
  head_behind_gives past.Attachment = attachment_gives

  head_gives : Gives (head_note nodes) (IsMaybe (MayStand P kinds.Entry))
  unfolding head_note head_part
  head_gives = many_gives _ (any_gives _ >>= λ p p-is. head_behind_gives p) >>= λ list list-is. done (fold_gives nodes P table kinds.Entry list None list-is tt)

  with_body : (bs : List Block) (name : List ℕ) (gives : Ret) (ps : List (Ty × List ℕ)) (prof : Option Prof) → IsSome bs × Each (IsBlock P) bs → IsGlobal name → Each IsParameter ps → IsMaybe (MayStand P kinds.Entry) prof → IsFunction P (record { name = name; ret = gives; params = ps; blocks = bs; prof = prof })
  with_body [] name gives ps prof hb hn hp note = absurd hb.0
  with_body (b ∷ bs) name gives ps prof hb hn hp note = (hn, (hp, note, hb.1))

  pub definition_gives : Gives (definition nodes) (IsFunction P)
  unfolding definition
  definition_gives =
      past_parts_gives places.Return >> (return_type_gives >>= λ gives gives-is. (global_gives >>= λ name name-is. (
      parameters_give >>= λ list list-is. (head_gives >>= λ prof prof-is. (
      body_gives (numbered list) >>= λ inside inside-is. (
      done (with_body inside name gives (named 0 list) prof inside-is name-is (named_local 0 list list-is) prof-is)))))))

pub declaration_gives : (P : Prof → Type 0) → Gives declaration (IsFunction P)
unfolding declaration
declaration_gives P =
    past_parts_gives places.Return >> (return_type_gives >>= λ gives gives-is. (global_gives >>= λ name name-is. (
    declared_parameters_give >>= λ list list-is. (past_parts_gives places.Function >> (
    done (name-is, (list-is, refl)))))))

-- # Variables

initial_gives : (external : Bool) (ns : List ℕ) (ty : Ty) → Gives (initial external ns ty) (λ x. (x ≡ inits.External) ⊎ IsInit ns ty x)
initial_gives true ns ty = done (inl refl)
initial_gives false ns ty = weaker (λ x h. inr h) (init_gives ns ty)

pub variable_gives : (name : List ℕ) → IsGlobal name → Gives (variable name) IsVariable
unfolding variable variable_word
variable_gives name h =
    sign_gives 61 >> (marked_gives marks.External >>= λ external external-is. (
    any_gives _ >>= λ constant constant-is. (shape_gives >>= λ s s-is. (
    initial_gives external s.0 s.1 >>= λ value value-is. (tail_gives tails.Global >> (
    done (record { name = h; init = (s.0, s.1, refl, s-is, value-is) })))))))
