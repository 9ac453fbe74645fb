-- What is written of literals, operands and types means them, and can be written.
use Rattle.std.proofs.Common.{◌≡◌, ℕ, zero, suc, ◌+◌, ◌-◌, ◌%◌, ◌^◌, ◌<◌, ◌≤◌, Bool, true, false, cond, refl, sym, ap, ◌∙◌, subst, arith}
use Rattle.std.specs.Prelude.{codes, nat_lt, nat_le, Option, Some}
use Rattle.std.specs.Option.{option_map}
use Rattle.std.proofs.lemmas.Bool.{false≢true, ltb-true, lt-ltb, le-leb, ltb-false}
use Rattle.ir_lex.specs.Tokens.{Token, Word, Number}
use Rattle.ir_tree.specs.Types.{when, literal_of, literal_of_width}
use Rattle.ir_tree.specs.Spelling.{is_word_first, is_name_first, is_name_byte}
use Rattle.ir_tree.specs.declared.types.Ty.{Ty}
use Rattle.ir_tree.specs.declared.types.Ty.TheVariants.{I1, I8, I16, I32, I64, Ptr}
use Rattle.ir_tree.specs.declared.types.Ret.{Ret}
use Rattle.ir_tree.specs.declared.types.Ret.TheVariants.{Void, Value}
use Rattle.ir_tree.specs.declared.types.Operand.{Operand}
use Rattle.ir_tree.specs.declared.types.Operand.TheVariants as operands
use Rattle.ir_grammar.specs.Words.{count_meaning}
use Rattle.ir_grammar.specs.Types.{type_meaning, return_meaning, is_type, literal_meaning, operand_meaning}
use Rattle.ir_grammar.specs.Instructions.{callee_meaning}
use Rattle.text_cuts.specs.Cut.{can_write}
use Rattle.canonical_text.specs.Words.{type_word, return_word}
use Rattle.canonical_text.specs.Values.{signed_token, literal_token, operand_token}
use Rattle.spellable.specs.Values.{IsCount, IsLiteral, IsOperand, IsCallee}

-- # Numbers

pub below_when : {A : Type 0} (n most : ℕ) (x : A) → n < most → when (nat_lt n most) x ≡ Some x
below_when n most x h = ap (λ b. when b x) (lt-ltb n most h)

pub count_fact : (n : ℕ) → IsCount n → count_meaning (Number false n) ≡ Some n
count_fact n h = below_when n (2 ^ 64) n h

pub count_writes : (n : ℕ) → IsCount n → can_write (Number false n) ≡ true
count_writes n h = lt-ltb n (2 ^ 64) h

small_mod : (n w : ℕ) → n < w → n % w ≡ n
small_mod n w h = grind (arith)

taken_back : (n w : ℕ) → n < w → (w - (w - n)) % w ≡ n
taken_back n w h = let e : w - (w - n) ≡ n = omega arith in ap (λ k. k % w) e ∙ small_mod n w h

-- the magnitude of a number from the upper half
upper : (w half n : ℕ) → w ≡ half + half → half ≤ n → n < w → when (nat_le (w - n) half) ((w - (w - n)) % w) ≡ Some n
upper w half n e low high =
    ap (λ b. when b ((w - (w - n)) % w)) (le-leb (w - n) half (omega arith)) ∙ ap Some (taken_back n w high)

-- A literal in signed decimal: what holds of each number that means it holds of it.
pub signed_is : (bits w half n : ℕ) (P : Token → Type 0) → 2 ^ bits ≡ w → 2 ^ (bits - 1) ≡ half → w ≡ half + half → w ≤ 2 ^ 64 → n < w → ((minus : Bool) (magnitude : ℕ) → magnitude < 2 ^ 64 → literal_of_width minus magnitude bits ≡ Some n → P (Number minus magnitude)) → P (signed_token bits n)
signed_is bits w half n P whole halved e most below each = go (nat_lt n (2 ^ (bits - 1))) refl
  where
    whole_is : n < 2 ^ bits
    whole_is = subst (λ k. n < k) (sym whole) below

    go : (b : Bool) → nat_lt n (2 ^ (bits - 1)) ≡ b → P (cond b (Number false n) (Number true (2 ^ bits - n)))
    go true f = each false n (omega arith) (below_when n (2 ^ bits) n whole_is)
    go false f =
        let low : half ≤ n = subst (λ k. k ≤ n) halved (ltb-false n (2 ^ (bits - 1)) f) in
        let upper_is : when (nat_le (2 ^ bits - n) (2 ^ (bits - 1))) ((2 ^ bits - (2 ^ bits - n)) % 2 ^ bits) ≡ Some n =
        subst (λ k. when (nat_le (2 ^ bits - n) k) ((2 ^ bits - (2 ^ bits - n)) % 2 ^ bits) ≡ Some n) (sym halved)
        (subst (λ k. when (nat_le (k - n) half) ((k - (k - n)) % k) ≡ Some n) (sym whole) (upper w half n e low below)) in
        let fits : 2 ^ bits - n < 2 ^ 64 = subst (λ k. k - n < 2 ^ 64) (sym whole) (omega arith) in
        each true (2 ^ bits - n) fits upper_is

-- What holds of each token that means a literal holds of the one that is written: of the words of `i1`, and of numbers.
pub literal_is : (ty : Ty) (n : ℕ) (P : Token → Type 0) → IsLiteral ty n → ((minus : Bool) (magnitude : ℕ) → magnitude < 2 ^ 64 → literal_of ty minus magnitude ≡ Some n → P (Number minus magnitude)) → (ty ≡ I1 → n ≡ 0 → P (Word (codes "false"))) → (ty ≡ I1 → n ≡ 1 → P (Word (codes "true"))) → P (literal_token ty n)
unfolding literal_token
literal_is I1 zero P h each none one = none refl refl
literal_is I1 (suc zero) P h each none one = one refl refl
literal_is I1 (suc (suc n)) P h each none one = let low : suc (suc n) < 2 = ltb-true (suc (suc n)) 2 h in absurd (omega arith)
literal_is I8 n P h each none one = signed_is 8 256 128 n P refl refl refl (omega arith) (ltb-true n 256 h) each
literal_is I16 n P h each none one = signed_is 16 65536 32768 n P refl refl refl (omega arith) (ltb-true n 65536 h) each
literal_is I32 n P h each none one = signed_is 32 4294967296 2147483648 n P refl refl refl (omega arith) (ltb-true n 4294967296 h) each
literal_is I64 n P h each none one = signed_is 64 18446744073709551616 9223372036854775808 n P refl refl refl (omega arith) (ltb-true n 18446744073709551616 h) each
literal_is Ptr n P h each none one = absurd (false≢true h)

pub literal_fact : (ty : Ty) (n : ℕ) → IsLiteral ty n → literal_meaning ty (literal_token ty n) ≡ Some n
literal_fact ty n h =
    literal_is ty n (λ t. literal_meaning ty t ≡ Some n) h (λ minus magnitude below e. e)
    (λ e f. subst (λ k. literal_meaning ty (Word (codes "false")) ≡ Some k) (sym f) (subst (λ u. literal_meaning u (Word (codes "false")) ≡ Some 0) (sym e) refl))
    (λ e f. subst (λ k. literal_meaning ty (Word (codes "true")) ≡ Some k) (sym f) (subst (λ u. literal_meaning u (Word (codes "true")) ≡ Some 1) (sym e) refl))

pub literal_writes : (ty : Ty) (n : ℕ) → IsLiteral ty n → can_write (literal_token ty n) ≡ true
unfolding is_word_first is_name_first is_name_byte
literal_writes ty n h =
    literal_is ty n (λ t. can_write t ≡ true) h (λ minus magnitude below e. lt-ltb magnitude (2 ^ 64) below) (λ e f. refl) (λ e f. refl)

-- # Operands

literal_operand : (ty : Ty) (n : ℕ) → IsLiteral ty n → operand_meaning ty (literal_token ty n) ≡ Some (operands.Int n)
literal_operand ty n h =
    literal_is ty n (λ t. operand_meaning ty t ≡ Some (operands.Int n)) h (λ minus magnitude below e. ap (option_map operands.Int) e)
    (λ e f. subst (λ k. operand_meaning ty (Word (codes "false")) ≡ Some (operands.Int k)) (sym f) (subst (λ u. operand_meaning u (Word (codes "false")) ≡ Some (operands.Int 0)) (sym e) refl))
    (λ e f. subst (λ k. operand_meaning ty (Word (codes "true")) ≡ Some (operands.Int k)) (sym f) (subst (λ u. operand_meaning u (Word (codes "true")) ≡ Some (operands.Int 1)) (sym e) refl))

pub operand_fact : (ty : Ty) (v : Operand) → IsOperand ty v → operand_meaning ty (operand_token ty v) ≡ Some v
unfolding operand_token
operand_fact ty (operands.Int n) h = literal_operand ty n h
operand_fact ty operands.Null h = refl
operand_fact ty (operands.Local name) h = refl
operand_fact ty (operands.Global name) h = refl

pub callee_fact : (v : Operand) → IsCallee v → callee_meaning (operand_token Ptr v) ≡ Some v
unfolding operand_token
callee_fact (operands.Int n) h = absurd h
callee_fact operands.Null h = absurd h
callee_fact (operands.Local name) h = refl
callee_fact (operands.Global name) h = refl

-- # Types

pub type_fact : (ty : Ty) → type_meaning (Word (type_word ty)) ≡ Some ty
type_fact I1 = refl
type_fact I8 = refl
type_fact I16 = refl
type_fact I32 = refl
type_fact I64 = refl
type_fact Ptr = refl

pub this_type_fact : (ty : Ty) → ◌≡◌ {A = Option (Unit {0})} (when (is_type ty (Word (type_word ty))) tt) (Some tt)
this_type_fact I1 = refl
this_type_fact I8 = refl
this_type_fact I16 = refl
this_type_fact I32 = refl
this_type_fact I64 = refl
this_type_fact Ptr = refl

pub return_fact : (ret : Ret) → return_meaning (Word (return_word ret)) ≡ Some ret
return_fact Void = refl
return_fact (Value I1) = refl
return_fact (Value I8) = refl
return_fact (Value I16) = refl
return_fact (Value I32) = refl
return_fact (Value I64) = refl
return_fact (Value Ptr) = refl

pub type_writes : (ty : Ty) → can_write (Word (type_word ty)) ≡ true
unfolding is_word_first is_name_first is_name_byte
type_writes I1 = refl
type_writes I8 = refl
type_writes I16 = refl
type_writes I32 = refl
type_writes I64 = refl
type_writes Ptr = refl

pub return_writes : (ret : Ret) → can_write (Word (return_word ret)) ≡ true
unfolding is_word_first is_name_first is_name_byte
return_writes Void = refl
return_writes (Value ty) = type_writes ty
