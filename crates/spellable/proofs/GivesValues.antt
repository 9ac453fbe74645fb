-- What is known of literals, operands, types and initialisers that some tokens spell, and of what is read past.
use Rattle.std.proofs.Common.{◌≡◌, ℕ, ◌-◌, ◌%◌, ◌^◌, ◌<◌, Bool, true, false, cond, List, [], ◌∷◌, length, refl, sym, ◌∙◌, subst, inl, inr, arith}
use Rattle.std.specs.Prelude.{codes, Option, Some, None, nat_lt, nat_le, nat_eq}
use Rattle.std.specs.Option.{option_map, option_or}
use Rattle.std.proofs.lemmas.Bool.{lt-ltb, leb-true, ltb-true}
use Rattle.ir_lex.specs.Tokens.{Token, Word, Number, Global, Local, Label, Str, Bytes, Group, Mark, Sign}
use Rattle.ir_tree.specs.Names.{same}
use Rattle.ir_tree.specs.Types.{when, literal_of, literal_of_width}
use Rattle.ir_tree.specs.declared.types.Ty.{Ty}
use Rattle.ir_tree.specs.declared.types.Ty.TheVariants.{I1, I8, I16, I32, I64, Ptr}
use Rattle.ir_tree.specs.declared.types.Operand.{Operand}
use Rattle.ir_tree.specs.declared.types.Operand.TheVariants as operands
use Rattle.ir_tree.specs.declared.types.Init.{Init}
use Rattle.ir_tree.specs.declared.types.Init.TheVariants as inits
use Rattle.ir_grammar.specs.Rules as rule
use Rattle.ir_grammar.specs.Tables.{by_word}
use Rattle.ir_grammar.specs.Words.{Tokens, this_count}
use Rattle.ir_grammar.specs.Types.{value_type, this_type, return_type, dimension, dimensions, closings, shape, memory_type, this_memory, truth_words, literal_word, literal_meaning, literal, operand_meaning, operand, typed_operand, depth_most}
use Rattle.ir_grammar.specs.Past.{balanced, node_meaning, node_number, attachment, assigned_string, parens, any_attachment, past_behind, past_part, past_parts, after_comma, tail_part, tail, bracket_of}
use Rattle.ir_grammar.specs.Words as words
use Rattle.ir_grammar.specs.Variables.{init_words, scalar_init, ArrayInit, Whole, Lists, array_init, array_behind, scalar, init}
use Rattle.ir_grammar.specs.declared.words.Past.{Past}
use Rattle.ir_grammar.specs.declared.words.Past.TheVariants as past
use Rattle.ir_grammar.specs.declared.words.Place.{Place}
use Rattle.ir_grammar.specs.declared.words.Tail.{Tail}
use Rattle.spellable.specs.Values.{Each, IsGlobal, IsCount, IsLiteral, IsOperand, IsTyped, AreDimensions, IsMemory, IsMaybe}
use Rattle.spellable.specs.Modules.{IsWhole, IsInit}
use Rattle.spellable.specs.Lines.{IsRead}
use Rattle.spellable.proofs.Gives.{Gives, Nothing, some_same, none_some, when_some, done, one_gives, any_gives, provided_gives, ◌>>=◌, ◌>>◌, either_gives, many_gives, closing_gives, word_gives, sign_gives, mark_gives, number_gives, string_gives, count_gives, listed_gives}

-- # Literals

below_width : (w n : ℕ) (minus : Bool) (magnitude : ℕ) → 0 < 2 ^ w → ((x : ℕ) → x % 2 ^ w < 2 ^ w) → literal_of_width minus magnitude w ≡ Some n → nat_lt n (2 ^ w) ≡ true
below_width w n true magnitude some below e =
    let parts = when_some (nat_le magnitude (2 ^ (w - 1))) ((2 ^ w - magnitude) % 2 ^ w) n e in
    lt-ltb n (2 ^ w) (subst (λ k. k < 2 ^ w) parts.1 (below (2 ^ w - magnitude)))
below_width w n false magnitude some below e =
    let parts = when_some (nat_lt magnitude (2 ^ w)) magnitude n e in
    subst (λ k. nat_lt k (2 ^ w) ≡ true) parts.1 parts.0

pub literal_in : (ty : Ty) (minus : Bool) (magnitude n : ℕ) → literal_of ty minus magnitude ≡ Some n → IsLiteral ty n
literal_in I1 minus magnitude n e = below_width 1 n minus magnitude (omega arith) (λ x. omega arith) e
literal_in I8 minus magnitude n e = below_width 8 n minus magnitude (omega arith) (λ x. omega arith) e
literal_in I16 minus magnitude n e = below_width 16 n minus magnitude (omega arith) (λ x. omega arith) e
literal_in I32 minus magnitude n e = below_width 32 n minus magnitude (omega arith) (λ x. omega arith) e
literal_in I64 minus magnitude n e = below_width 64 n minus magnitude (omega arith) (λ x. omega arith) e
literal_in Ptr minus magnitude n e = none_some e

truth_in : (text : List ℕ) (n : ℕ) → by_word truth_words text ≡ Some n → nat_lt n 2 ≡ true
truth_in text n e = go (same text (codes "true")) (same text (codes "false")) e
  where
    go : (a b : Bool) → cond a (Some 1) (cond b (Some 0) None) ≡ Some n → nat_lt n 2 ≡ true
    go true b f = subst (λ k. nat_lt k 2 ≡ true) (some_same f) refl
    go false true f = subst (λ k. nat_lt k 2 ≡ true) (some_same f) refl
    go false false f = none_some f

word_in : (ty : Ty) (text : List ℕ) (n : ℕ) → literal_word ty text ≡ Some n → IsLiteral ty n
word_in I1 text n e = truth_in text n e
word_in I8 text n e = none_some e
word_in I16 text n e = none_some e
word_in I32 text n e = none_some e
word_in I64 text n e = none_some e
word_in Ptr text n e = none_some e

literal_read : (ty : Ty) (t : Token) (n : ℕ) → IsRead t → literal_meaning ty t ≡ Some n → IsLiteral ty n
literal_read ty (Word text) n h e = word_in ty text n e
literal_read ty (Number minus magnitude) n h e = literal_in ty minus magnitude n e
literal_read ty (Global name) n h e = none_some e
literal_read ty (Local name) n h e = none_some e
literal_read ty (Label name) n h e = none_some e
literal_read ty (Str text) n h e = none_some e
literal_read ty (Bytes bytes) n h e = none_some e
literal_read ty (Group digits) n h e = none_some e
literal_read ty Mark n h e = none_some e
literal_read ty (Sign b) n h e = none_some e

pub literal_gives : (ty : Ty) → Gives (literal ty) (IsLiteral ty)
unfolding literal
literal_gives ty = one_gives _ (literal_read ty)

-- a literal under a constructor
mapped : {A : Type 0} (make : ℕ → A) (P : A → Type 0) (o : Option ℕ) (x : A) → ((n : ℕ) → o ≡ Some n → P (make n)) → option_map make o ≡ Some x → P x
mapped make P None x each e = none_some e
mapped make P (Some n) x each e = subst P (some_same e) (each n refl)

operand_read : (ty : Ty) (t : Token) (v : Operand) → IsRead t → operand_meaning ty t ≡ Some v → IsOperand ty v
operand_read ty (Word text) v h e = go (same text (codes "null")) e
  where
    go : (b : Bool) → cond b (Some operands.Null) (option_map operands.Int (literal_word ty text)) ≡ Some v → IsOperand ty v
    go true f = subst (IsOperand ty) (some_same f) tt
    go false f = mapped operands.Int (IsOperand ty) (literal_word ty text) v (λ n k. word_in ty text n k) f
operand_read ty (Number minus magnitude) v h e = mapped operands.Int (IsOperand ty) (literal_of ty minus magnitude) v (λ n k. literal_in ty minus magnitude n k) e
operand_read ty (Global name) v h e = subst (IsOperand ty) (some_same e) h
operand_read ty (Local name) v h e = subst (IsOperand ty) (some_same e) h
operand_read ty (Label name) v h e = none_some e
operand_read ty (Str text) v h e = none_some e
operand_read ty (Bytes bytes) v h e = none_some e
operand_read ty (Group digits) v h e = none_some e
operand_read ty Mark v h e = none_some e
operand_read ty (Sign b) v h e = none_some e

pub operand_gives : (ty : Ty) → Gives (operand ty) (IsOperand ty)
unfolding operand
operand_gives ty = one_gives _ (operand_read ty)

-- # Types

pub value_type_gives : Gives value_type Nothing
unfolding value_type
value_type_gives = any_gives _

pub this_type_gives : (ty : Ty) → Gives (this_type ty) Nothing
unfolding this_type
this_type_gives ty = any_gives _

pub return_type_gives : Gives return_type Nothing
unfolding return_type
return_type_gives = any_gives _

this_count_gives : (n : ℕ) → Gives (this_count n) Nothing
unfolding this_count
this_count_gives n = any_gives _

pub typed_gives : Gives typed_operand IsTyped
unfolding typed_operand
typed_gives =
    value_type_gives >>= λ ty ty-is. (operand_gives ty >>= λ value value-is. (done value-is))

dimension_gives : Gives dimension IsCount
unfolding dimension
dimension_gives =
    sign_gives 91 >> (count_gives >>= λ n n-is. (word_gives (codes "x") >> (done n-is)))

dimensions_gives : Gives dimensions (Each IsCount)
unfolding dimensions
dimensions_gives = many_gives _ dimension_gives

closings_gives : (ns : List ℕ) → Gives (closings ns) Nothing
closings_gives [] = done tt
closings_gives (n ∷ ns) = sign_gives 93 >> closings_gives ns

not_deeper : (list ns : List ℕ) → when (nat_le (length list) depth_most) list ≡ Some ns → Each IsCount list → AreDimensions ns
not_deeper list ns e h =
    let parts = when_some (nat_le (length list) depth_most) list ns e in
    subst AreDimensions parts.1 (leb-true (length list) depth_most parts.0, h)

pub shape_gives : Gives shape (λ s. AreDimensions s.0)
unfolding shape
shape_gives =
    dimensions_gives >>= λ list list-is. (provided_gives _ (λ ns e. not_deeper list ns e list-is) >>= λ ns ns-is. (
    value_type_gives >>= λ ty ty-is. closings_gives ns >> done ns-is))

pub memory_gives : Gives memory_type IsMemory
unfolding memory_type
memory_gives =
    shape_gives >>= λ s s-is. (done (s.0, s.1, refl, s-is))

pub this_memory_gives : (ns : List ℕ) (ty : Ty) → Gives (this_memory ns ty) Nothing
this_memory_gives [] ty = this_type_gives ty
this_memory_gives (n ∷ ns) ty =
    sign_gives 91 >> (this_count_gives n >> (word_gives (codes "x") >> (this_memory_gives ns ty >> (sign_gives 93))))

-- # What is read past

pub balanced_gives : (kind : ℕ) → Gives (balanced kind) Nothing
unfolding balanced
balanced_gives kind = closing_gives bracket_of kind

word_is_gives : (text : List ℕ) → Gives (words.word_is text) Nothing
unfolding words.word_is
word_is_gives text = any_gives _

node_read : (t : Token) (k : Option ℕ) → IsRead t → node_meaning t ≡ Some k → IsMaybe IsCount k
node_read (Word text) k h e = none_some e
node_read (Number true magnitude) k h e = none_some e
node_read (Number false magnitude) k h e = subst (IsMaybe IsCount) (some_same e) (counted (nat_lt magnitude (2 ^ 64)) refl)
  where
    counted : (b : Bool) → nat_lt magnitude (2 ^ 64) ≡ b → IsMaybe IsCount (when b magnitude)
    counted true f = ltb-true magnitude (2 ^ 64) f
    counted false f = tt
node_read (Global name) k h e = none_some e
node_read (Local name) k h e = none_some e
node_read (Label name) k h e = none_some e
node_read (Str text) k h e = none_some e
node_read (Bytes bytes) k h e = none_some e
node_read (Group digits) k h e = none_some e
node_read Mark k h e = none_some e
node_read (Sign b) k h e = none_some e

chosen : (is_prof : Bool) (k : Option ℕ) → IsMaybe IsCount k → IsMaybe IsCount (cond is_prof k None)
chosen true k h = h
chosen false k h = tt

-- the node of an attachment has a number below 2^64
pub attachment_gives : Gives attachment (IsMaybe IsCount)
unfolding attachment node_number
attachment_gives =
    word_is_gives (codes "prof") >>= λ is_prof is_prof-is. (mark_gives >> (one_gives _ node_read >>= λ node node-is. (
    done (chosen is_prof node node-is))))

pub past_behind_gives : (p : Past) → Gives (past_behind p) Nothing
unfolding parens assigned_string any_attachment
past_behind_gives past.Alone = done tt
past_behind_gives past.Number = number_gives
past_behind_gives past.Text = string_gives
past_behind_gives past.Parens = sign_gives 40 >> balanced_gives 40
past_behind_gives past.Assigned = either_gives (sign_gives 61 >> string_gives) (done tt)
past_behind_gives past.Attachment = attachment_gives >>= λ p p-is. done tt

pub past_parts_gives : (place : Place) → Gives (past_parts place) Nothing
unfolding past_parts past_part
past_parts_gives place = many_gives _ (any_gives _ >>= λ p p-is. past_behind_gives p) >>= λ list list-is. done tt

pub tail_gives : (place : Tail) → Gives (tail place) Nothing
unfolding tail tail_part after_comma
tail_gives place = many_gives _ (sign_gives 44 >> (any_gives _ >>= λ p p-is. past_behind_gives p)) >>= λ list list-is. done tt

-- # Initialisers

init_word_in : (text : List ℕ) (x : Init) → by_word init_words text ≡ Some x → IsWhole x
init_word_in text x e = go (same text (codes "null")) (same text (codes "zeroinitializer")) e
  where
    go : (a b : Bool) → cond a (Some inits.Null) (cond b (Some inits.Zero) None) ≡ Some x → IsWhole x
    go true b f = inl (sym (some_same f))
    go false true f = inr (inl (sym (some_same f)))
    go false false f = none_some f

symbol_in : (name : List ℕ) (x : Init) → IsGlobal name → inits.Symbol name ≡ x → IsWhole x
symbol_in name x h e = inr (inr (inl (name, sym e, h)))

scalar_read : (ty : Ty) (t : Token) (x : Init) → IsRead t → scalar_init ty t ≡ Some x → IsInit [] ty x
scalar_read ty (Word text) x h e = go (by_word init_words text) refl e
  where
    go : (o : Option Init) → by_word init_words text ≡ o → option_or o (option_map inits.Int (literal_word ty text)) ≡ Some x → IsInit [] ty x
    go (Some y) g f = inl (init_word_in text x (g ∙ f))
    go None g f = mapped inits.Int (IsInit [] ty) (literal_word ty text) x (λ n k. inr (n, refl, word_in ty text n k)) f
scalar_read ty (Number minus magnitude) x h e = mapped inits.Int (IsInit [] ty) (literal_of ty minus magnitude) x (λ n k. inr (n, refl, literal_in ty minus magnitude n k)) e
scalar_read ty (Global name) x h e = inl (symbol_in name x h (some_same e))
scalar_read ty (Local name) x h e = none_some e
scalar_read ty (Label name) x h e = none_some e
scalar_read ty (Str text) x h e = none_some e
scalar_read ty (Bytes bytes) x h e = inl (inr (inr (inr (bytes, sym (some_same e)))))
scalar_read ty (Group digits) x h e = none_some e
scalar_read ty Mark x h e = none_some e
scalar_read ty (Sign b) x h e = none_some e

-- what the first token of an array's initialiser means
IsBegun : ArrayInit → Type 0
IsBegun (Whole x) = IsWhole x
IsBegun Lists = Unit {0}

whole_in : (o : Option Init) (a : ArrayInit) → ((x : Init) → o ≡ Some x → IsWhole x) → option_map Whole o ≡ Some a → IsBegun a
unfolding IsBegun
whole_in None a each e = none_some e
whole_in (Some x) a each e = subst IsBegun (some_same e) (each x refl)

array_read : (t : Token) (a : ArrayInit) → IsRead t → array_init t ≡ Some a → IsBegun a
unfolding IsBegun
array_read (Word text) a h e = whole_in (by_word init_words text) a (init_word_in text) e
array_read (Number minus n) a h e = none_some e
array_read (Global name) a h e = subst IsBegun (some_same e) (symbol_in name (inits.Symbol name) h refl)
array_read (Local name) a h e = none_some e
array_read (Label name) a h e = none_some e
array_read (Str text) a h e = none_some e
array_read (Bytes bytes) a h e = subst IsBegun (some_same e) (inr (inr (inr (bytes, refl))))
array_read (Group digits) a h e = none_some e
array_read Mark a h e = none_some e
array_read (Sign b) a h e = subst IsBegun (when_some (nat_eq b 91) Lists a e).1 tt

pub init_gives : (ns : List ℕ) (ty : Ty) → Gives (init ns ty) (IsInit ns ty)
unfolding scalar IsBegun
init_gives [] ty = one_gives _ (scalar_read ty)
init_gives (n ∷ ns) ty = one_gives _ array_read >>= λ a a-is. behind (init_gives ns ty) a a-is
  where
    behind : Gives (init ns ty) (IsInit ns ty) → (a : ArrayInit) → IsBegun a → Gives (array_behind (rule.◌>>◌ (this_memory ns ty) (init ns ty)) a) (IsInit (n ∷ ns) ty)
    behind inside (Whole x) h = done (inl h)
    behind inside Lists h = listed_gives 93 (this_memory_gives ns ty >> inside) >>= λ list list-is. done (inr (list, refl, list-is))
