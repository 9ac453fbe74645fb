-- What a spellable call asks for is spelled, and so is what stands in its place.
use Rattle.std.proofs.Common.{◌≡◌, ℕ, zero, suc, ◌≤◌, ◌<◌, ◌^◌, Bool, true, false, ◌&&◌, not, nat_lt, cond, List, [], ◌∷◌, drop, length, Option, Some, None, refl, ap, arith}
use Rattle.std.specs.Char.{is_ascii_digit}
use Rattle.std.specs.List.{list_all}
use Rattle.std.specs.Option.{option_and_then, option_map}
use Rattle.std.proofs.lemmas.Bool.{and_from, and_parts, lt-ltb, ltb-true, ne_eqb}
use Rattle.count_plan.specs.Calls.{increment_name, step_name, value_name}
use Rattle.ir_tree.specs.Names.{same}
use Rattle.ir_tree.specs.Operands.{Use, symbol_of}
use Rattle.ir_tree.specs.Spelling.{is_empty, is_global_name, is_local_name, is_quotable}
use Rattle.ir_tree.specs.declared.types.Instr.{Instr}
use Rattle.ir_tree.specs.declared.types.Instr.TheVariants.{Binary, Compare, Convert, Freeze, Select, Phi, Alloca, Load, Store, Gep, Call, Count}
use Rattle.ir_tree.specs.declared.types.Operand.{Operand}
use Rattle.ir_tree.specs.declared.types.Operand.TheVariants.{Int, Null, Local, Global}
use Rattle.ir_tree.specs.declared.types.Prof.{Prof}
use Rattle.ir_tree.specs.declared.types.Ty.{Ty}
use Rattle.ir_tree.specs.declared.types.Ty.TheVariants.{I1, I8, I16, I32, I64, Ptr}
use Rattle.lower_spelled.proofs.Lists.{Name}
use Rattle.lowered_rules.specs.Small.{IsSmallAsk}
use Rattle.lowering.specs.Asked.{Asked, Rise, Note, asked, asked_by, literal, note, rise}
use Rattle.lowering.specs.Lowered.{doing, lowered_instr, runtime_name}
use Rattle.lowering.specs.Units.{counters_symbol, data_symbol}
use Rattle.spellable.specs.Instructions.{IsInstr}
use Rattle.spellable.specs.Values.{Each, IsCount, IsGlobal, IsLiteral, IsMaybe, IsOperand, IsTyped}

-- ---- names

pub runtime_named : IsGlobal runtime_name
unfolding runtime_name is_global_name is_local_name is_quotable
runtime_named = refl

global_bytes : (n : Name) → IsGlobal n → list_all is_quotable n ≡ true
unfolding is_global_name is_local_name
global_bytes n h = (and_parts (not (is_empty n)) (list_all is_quotable n) (and_parts (not (is_empty n) && list_all is_quotable n) (not (list_all is_ascii_digit n)) h).0).1

behind_quotable : (k : ℕ) (n : Name) → list_all is_quotable n ≡ true → list_all is_quotable (drop k n) ≡ true
behind_quotable zero n h = h
behind_quotable (suc k) [] h = h
behind_quotable (suc k) (b ∷ n) h = behind_quotable k n (and_parts (is_quotable b) (list_all is_quotable n) h).1

counters_quotable : (n : Name) → list_all is_quotable n ≡ true → list_all is_quotable (counters_symbol n) ≡ true
unfolding is_quotable
counters_quotable n h = behind_quotable 8 n h

data_quotable : (n : Name) → list_all is_quotable n ≡ true → list_all is_quotable (data_symbol n) ≡ true
unfolding is_quotable
data_quotable n h = behind_quotable 8 n h

pub counters_named : (n : Name) → IsGlobal n → IsGlobal (counters_symbol n)
unfolding is_global_name is_local_name
counters_named n h =
    and_from (not (is_empty (counters_symbol n)) && list_all is_quotable (counters_symbol n)) (not (list_all is_ascii_digit (counters_symbol n)))
    (and_from (not (is_empty (counters_symbol n))) (list_all is_quotable (counters_symbol n)) (ap not (ne_eqb (length (counters_symbol n)) 0 (omega arith))) (counters_quotable n (global_bytes n h))) refl

pub data_named : (n : Name) → IsGlobal n → IsGlobal (data_symbol n)
unfolding is_global_name is_local_name
data_named n h =
    and_from (not (is_empty (data_symbol n)) && list_all is_quotable (data_symbol n)) (not (list_all is_ascii_digit (data_symbol n)))
    (and_from (not (is_empty (data_symbol n))) (list_all is_quotable (data_symbol n)) (ap not (ne_eqb (length (data_symbol n)) 0 (omega arith))) (data_quotable n (global_bytes n h))) refl

-- ---- numbers

below : (n w most : ℕ) → nat_lt n w ≡ true → w ≤ most → n < most
below n w most h le = (let few = ltb-true n w h in omega (arith, few, le))

literal_small : (ty : Ty) (n : ℕ) → IsLiteral ty n → IsCount n
literal_small I1 n h = below n (2 ^ 1) (2 ^ 64) h (omega arith)
literal_small I8 n h = below n (2 ^ 8) (2 ^ 64) h (omega arith)
literal_small I16 n h = below n (2 ^ 16) (2 ^ 64) h (omega arith)
literal_small I32 n h = below n (2 ^ 32) (2 ^ 64) h (omega arith)
literal_small I64 n h = below n (2 ^ 64) (2 ^ 64) h (omega arith)
literal_small Ptr n h = absurd (cc)

pub wide_literal : (n : ℕ) → n < 2 ^ 64 → IsLiteral I64 n
wide_literal n h = lt-ltb n (2 ^ 64) h

-- an operand that is spelled somewhere is spelled where an integer of 64 bits stands
wide_operand : (ty : Ty) (o : Operand) → IsOperand ty o → IsOperand I64 o
wide_operand ty (Int n) h = wide_literal n (literal_small ty n h)
wide_operand ty Null h = h
wide_operand ty (Local name) h = h
wide_operand ty (Global name) h = h

-- ---- what is asked for

abbrev pub IsSpelledAsk : Asked → Type 0
IsSpelledAsk (Rise symbol hash counters counter amount) = IsGlobal symbol × IsCount counters × IsCount counter × IsOperand I64 amount
IsSpelledAsk (Note symbol hash target site) = IsGlobal symbol × IsOperand I64 target

then_is : {A B : Type 0} (P : A → Type 0) (Q : B → Type 0) (f : A → Option B) (o : Option A) → IsMaybe P o → ((x : A) → P x → IsMaybe Q (f x)) → IsMaybe Q (option_and_then f o)
then_is P Q f None h k = tt
then_is P Q f (Some x) h k = k x h

map_is : {A B : Type 0} (P : A → Type 0) (Q : B → Type 0) (f : A → B) (o : Option A) → IsMaybe P o → ((x : A) → P x → Q (f x)) → IsMaybe Q (option_map f o)
map_is P Q f None h k = tt
map_is P Q f (Some x) h k = k x h

symbol_is : (ty : Ty) (o : Operand) → IsOperand ty o → IsMaybe IsGlobal (symbol_of o)
symbol_is ty (Int n) h = tt
symbol_is ty Null h = tt
symbol_is ty (Local name) h = tt
symbol_is ty (Global name) h = h

literal_is : (ty : Ty) (o : Operand) → IsOperand ty o → IsMaybe IsCount (literal o)
literal_is ty (Int n) h = literal_small ty n h
literal_is ty Null h = tt
literal_is ty (Local name) h = tt
literal_is ty (Global name) h = tt

rise_is : (unit hash counters counter : Use) (amount : Operand) → IsTyped unit → IsTyped hash → IsTyped counters → IsTyped counter → IsOperand I64 amount → IsMaybe IsSpelledAsk (rise unit.1 hash.1 counters.1 counter.1 amount)
rise_is unit hash counters counter amount a b c d e =
    then_is IsGlobal IsSpelledAsk _ (symbol_of unit.1) (symbol_is unit.0 unit.1 a) (λ s hs.
    then_is IsCount IsSpelledAsk _ (literal hash.1) (literal_is hash.0 hash.1 b) (λ h hh.
    then_is IsCount IsSpelledAsk _ (literal counters.1) (literal_is counters.0 counters.1 c) (λ n hn.
    map_is IsCount IsSpelledAsk (λ k. Rise s h n k amount) (literal counter.1) (literal_is counter.0 counter.1 d) (λ k hk. (hs, hn, hk, e)))))

note_is : (unit hash target site : Use) → IsTyped unit → IsTyped hash → IsTyped target → IsTyped site → IsMaybe IsSpelledAsk (note unit.1 hash.1 target.1 site.1)
note_is unit hash target site a b c d =
    then_is IsGlobal IsSpelledAsk _ (symbol_of unit.1) (symbol_is unit.0 unit.1 a) (λ s hs.
    then_is IsCount IsSpelledAsk _ (literal hash.1) (literal_is hash.0 hash.1 b) (λ h hh.
    map_is IsCount IsSpelledAsk (λ j. Note s h target.1 j) (literal site.1) (literal_is site.0 site.1 d) (λ j hj. (hs, wide_operand target.0 target.1 c))))

if_is : (b : Bool) (o p : Option Asked) → IsMaybe IsSpelledAsk o → IsMaybe IsSpelledAsk p → IsMaybe IsSpelledAsk (cond b o p)
if_is true o p h k = h
if_is false o p h k = k

by_is : (name : Name) (args : List Use) → Each IsTyped args → IsMaybe IsSpelledAsk (asked_by name args)
by_is name [] h = tt
by_is name (a ∷ []) h = tt
by_is name (a ∷ b ∷ []) h = tt
by_is name (a ∷ b ∷ c ∷ []) h = tt
by_is name (unit ∷ hash ∷ counters ∷ counter ∷ []) h =
    if_is (same increment_name name) (rise unit.1 hash.1 counters.1 counter.1 (Int 1)) None (rise_is unit hash counters counter (Int 1) h.0 h.1.0 h.1.1.0 h.1.1.1.0 refl) tt
by_is name (unit ∷ second ∷ third ∷ fourth ∷ fifth ∷ []) h =
    if_is (same step_name name) (rise unit.1 second.1 third.1 fourth.1 fifth.1) (cond (same value_name name) (note unit.1 second.1 third.1 fifth.1) None)
    (rise_is unit second third fourth fifth.1 h.0 h.1.0 h.1.1.0 h.1.1.1.0 (wide_operand fifth.0 fifth.1 h.1.1.1.1.0))
    (if_is (same value_name name) (note unit.1 second.1 third.1 fifth.1) None (note_is unit second third fifth h.0 h.1.0 h.1.1.0 h.1.1.1.1.0) tt)
by_is name (a ∷ b ∷ c ∷ d ∷ e ∷ f ∷ more) h = tt

module _ (P : Prof → Type 0) where
  asked_is : (x : Instr) → IsInstr P x → IsMaybe IsSpelledAsk (asked x)
  asked_is (Binary dest op flags ty left right) h = tt
  asked_is (Compare dest pred ty left right) h = tt
  asked_is (Convert dest op flags from value to) h = tt
  asked_is (Freeze dest ty value) h = tt
  asked_is (Select dest c ty first second prof) h = tt
  asked_is (Phi dest ty entries) h = tt
  asked_is (Alloca dest mem) h = tt
  asked_is (Load dest ty address) h = tt
  asked_is (Store ty value address) h = tt
  asked_is (Gep dest inbounds mem address indices) h = tt
  asked_is (Call dest ret (Int value) args prof) h = tt
  asked_is (Call dest ret Null args prof) h = tt
  asked_is (Call dest ret (Local name) args prof) h = tt
  asked_is (Call dest ret (Global name) args prof) h = by_is name args h.2
  asked_is (Count symbol size index step) h = tt

  -- ---- what does it

  doing_is : (x : Instr) (o : Option Asked) → IsInstr P x → IsMaybe IsSpelledAsk o → ((a : Asked) → o ≡ Some a → IsSmallAsk a) → IsInstr P (doing x o)
  doing_is x None h k small = h
  doing_is x (Some (Rise symbol hash counters counter amount)) h k small = (counters_named symbol k.0, k.1, wide_literal counter k.2, k.3)
  doing_is x (Some (Note symbol hash target site)) h k small =
      let few : site < 65536 = small (Note symbol hash target site) refl in
      let number : IsLiteral I32 site = lt-ltb site (2 ^ 32) (omega (arith, few)) in
      (tt, runtime_named, (k.1, (data_named symbol k.0, (number, tt))), tt)

  pub lowered_is : (x : Instr) → IsInstr P x → ((a : Asked) → asked x ≡ Some a → IsSmallAsk a) → IsInstr P (lowered_instr x)
  lowered_is x h small = doing_is x (asked x) h (asked_is x h) small
