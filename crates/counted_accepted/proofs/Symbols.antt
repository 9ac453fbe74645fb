-- The symbols of the module that counts: those of the plain module, the records' names, and the intrinsics.
use Rattle.std.proofs.Common.{◌≡◌, ℕ, zero, suc, ◌+◌, ◌==◌, ◌≤◌, inl, inr, Bool, true, false, ◌&&◌, ◌||◌, not, cond, nat_le, List, [], ◌∷◌, ◌++◌, length, map, refl, sym, ap, ◌∙◌, arith, codes}
use Rattle.std.specs.Char.{is_ascii_digit, is_ascii_graphic}
use Rattle.std.specs.Cmp.Lexicographic.{bytes_decides}
use Rattle.std.specs.List.{list_all}
use Rattle.std.proofs.lemmas.Bool.{and_from, and_parts, leb-true, le-leb, ne_eqb, or_from, or_parts}
use Rattle.counted_accepted.proofs.GenNames.{standing}
use Rattle.counted_rules.specs.PlainNames.{IsPlainName}
use Rattle.count_plan.specs.Calls.{increment_name, step_name, value_name}
use Rattle.gen_plan.specs.Gen.{record_name}
use Rattle.ir_rules.specs.Initialisers.{ends_blank, is_record_byte, is_record_name}
use Rattle.ir_rules.specs.Kinds.{is_unit_counters, is_unit_data, is_unit_name, is_unit_part}
use Rattle.ir_rules.specs.Lists.{Among, times}
use Rattle.ir_rules.specs.Reserved.{is_of_intrinsics, is_of_runtime, is_reserved_function, is_reserved_variable, is_version}
use Rattle.ir_rules.specs.declared.place.Kind.TheVariants.{Counted}
use Rattle.ir_tree.specs.Names.{same}
use Rattle.ir_tree.specs.Spelling.{is_empty, is_global_name, is_local_name, is_quotable}
use Rattle.spec_items.proofs.Items.{count_cons}

abbrev pub Name : Type 0
Name = List ℕ

same_self : (n : Name) → same n n ≡ true
same_self n = (bytes_decides n n).1 refl

same_is : (n x : Name) → same n x ≡ true → n ≡ x
same_is n x h = (bytes_decides n x).0 h

pub not_both : (b : Bool) → b ≡ true → b ≡ false → ⊥
not_both b e f = absurd (cc (sym e ∙ f))

pub not_true : (b : Bool) → (b ≡ true → ⊥) → b ≡ false
not_true true h = absurd (h refl)
not_true false h = refl

-- ---- names of a plain module

pub no_unit_part : (n : Name) → IsPlainName n → is_unit_part n ≡ false
no_unit_part n h = or_from (is_unit_name n) (is_unit_counters n || is_unit_data n) h.unit_name (or_from (is_unit_counters n) (is_unit_data n) h.unit_counters h.unit_data)

pub free_function : (n : Name) → IsPlainName n → is_reserved_function Counted n ≡ false
free_function n h = or_from (is_unit_counters n) (is_unit_data n || is_of_runtime n) h.unit_counters (or_from (is_unit_data n) (is_of_runtime n) h.unit_data h.runtime)

pub free_variable : (n : Name) → IsPlainName n → is_reserved_variable Counted n ≡ false
free_variable n h =
    or_from (is_unit_counters n) (is_unit_data n || ((is_of_runtime n && not (is_version n)) || is_of_intrinsics n)) h.unit_counters (
    or_from (is_unit_data n) ((is_of_runtime n && not (is_version n)) || is_of_intrinsics n) h.unit_data (
    or_from (is_of_runtime n && not (is_version n)) (is_of_intrinsics n) (ap (λ (b : Bool). b && not (is_version n)) h.runtime) h.intrinsics))

-- ---- names of records

pub record_unit : (n : Name) → is_unit_name (record_name n) ≡ true
unfolding is_unit_name
record_unit n = refl

pub record_free : (n : Name) → is_reserved_variable Counted (record_name n) ≡ false
unfolding is_unit_counters is_unit_data is_of_runtime is_of_intrinsics
record_free n = refl

all_more : (test : ℕ → Bool) (xs ys : Name) → list_all test xs ≡ true → list_all test ys ≡ true → list_all test (xs ++ ys) ≡ true
all_more test [] ys h k = k
all_more test (x ∷ xs) ys h k = (let p = and_parts (test x) (list_all test xs) h in and_from (test x) (list_all test (xs ++ ys)) p.0 (all_more test xs ys p.1 k))

front_quotable : list_all is_quotable (codes "__profn_") ≡ true
unfolding is_quotable
front_quotable = refl

global_parts : (n : Name) → is_global_name n ≡ true → (list_all is_quotable n ≡ true) × (not (is_empty n) ≡ true) × (not (list_all is_ascii_digit n) ≡ true)
unfolding is_global_name is_local_name
global_parts n h =
    let a = and_parts (not (is_empty n) && list_all is_quotable n) (not (list_all is_ascii_digit n)) h in
    let b = and_parts (not (is_empty n)) (list_all is_quotable n) a.0 in
    (b.1, b.0, a.1)

pub record_named : (n : Name) → is_global_name n ≡ true → is_global_name (record_name n) ≡ true
unfolding is_global_name is_local_name
record_named n h = and_from (not (is_empty (record_name n)) && list_all is_quotable (record_name n)) (not (list_all is_ascii_digit (record_name n))) (and_from (not (is_empty (record_name n))) (list_all is_quotable (record_name n)) (ap not (ne_eqb (length (record_name n)) 0 (omega arith))) (all_more is_quotable (codes "__profn_") n front_quotable (global_parts n h).0)) refl

-- the name of a function is a record's
record Graphic (b : ℕ) : Type 0 where
  low : 33 ≤ b
  high : b ≤ 126
  colon : (b == 58) ≡ false
  hash : (b == 35) ≡ false

graphic : (b : ℕ) → is_quotable b ≡ true → Graphic b
unfolding is_quotable
graphic b h =
    let a = and_parts (is_ascii_graphic b) (not (b == 34 || (b == 35 || (b == 58 || b == 92)))) h in
    let r = and_parts (nat_le 33 b) (nat_le b 126) a.0 in
    let o = or_parts (b == 34) (b == 35 || (b == 58 || b == 92)) (off _ a.1) in
    let p = or_parts (b == 35) (b == 58 || b == 92) o.1 in
    let q = or_parts (b == 58) (b == 92) p.1 in
    record { low = leb-true 33 b r.0; high = leb-true b 126 r.1; colon = q.0; hash = p.0 }
  where
    off : (t : Bool) → not t ≡ true → t ≡ false
    off true e = absurd (cc)
    off false e = refl

not_blank : (b : ℕ) → Graphic b → (b == 32) ≡ false
not_blank b g = ne_eqb b 32 (λ e. (let l = g.low in absurd (omega (arith, e, l))))

record_bytes : (xs : Name) → list_all is_quotable xs ≡ true → list_all is_record_byte xs ≡ true
record_bytes [] h = refl
record_bytes (x ∷ xs) h =
    let p = and_parts (is_quotable x) (list_all is_quotable xs) h in
    let g = graphic x p.0 in
    and_from (is_record_byte x) (list_all is_record_byte xs) (and_from (nat_le 32 x) (nat_le x 126) (le-leb 32 x (let l = g.low in omega (arith, l))) (le-leb x 126 g.high)) (record_bytes xs p.1)

no_blank_end : (xs : Name) → list_all is_quotable xs ≡ true → ends_blank xs ≡ false
no_blank_end [] h = refl
no_blank_end (x ∷ []) h = not_blank x (graphic x (and_parts (is_quotable x) true h).0)
no_blank_end (x ∷ y ∷ more) h = no_blank_end (y ∷ more) (and_parts (is_quotable x) (list_all is_quotable (y ∷ more)) h).1

pub record_text : (n : Name) → is_global_name n ≡ true → is_record_name n ≡ true
unfolding is_record_name
record_text [] h = absurd (let g = (global_parts [] h).1 in cc g)
record_text (b ∷ more) h =
    let parts = global_parts (b ∷ more) h in
    let g = graphic b (and_parts (is_quotable b) (list_all is_quotable more) parts.0).0 in
    let start : (b == 32 || (b == 58 || b == 35)) ≡ false = or_from (b == 32) (b == 58 || b == 35) (not_blank b g) (or_from (b == 58) (b == 35) g.colon g.hash) in
    and_from (list_all is_record_byte (b ∷ more)) (not (b == 32 || (b == 58 || b == 35)) && (not (ends_blank (b ∷ more)) && not (list_all is_ascii_digit (b ∷ more)))) (record_bytes (b ∷ more) parts.0) (
    and_from (not (b == 32 || (b == 58 || b == 35))) (not (ends_blank (b ∷ more)) && not (list_all is_ascii_digit (b ∷ more))) (ap not start) (
    and_from (not (ends_blank (b ∷ more))) (not (list_all is_ascii_digit (b ∷ more))) (ap not (no_blank_end (b ∷ more) parts.0)) parts.2))

-- ---- names of the intrinsics

abbrev pub intrinsic_names : Bool → List Name
intrinsic_names steps = increment_name ∷ value_name ∷ cond steps (step_name ∷ []) []

pub intrinsic_kinds : (steps : Bool) (n : Name) → Among n (intrinsic_names steps) → (is_of_intrinsics n ≡ true) × (is_unit_name n ≡ false)
unfolding is_of_intrinsics is_unit_name increment_name value_name step_name
intrinsic_kinds true n (inl e) = (ap is_of_intrinsics e, ap is_unit_name e)
intrinsic_kinds true n (inr (inl e)) = (ap is_of_intrinsics e, ap is_unit_name e)
intrinsic_kinds true n (inr (inr (inl e))) = (ap is_of_intrinsics e, ap is_unit_name e)
intrinsic_kinds true n (inr (inr (inr h))) = absurd h
intrinsic_kinds false n (inl e) = (ap is_of_intrinsics e, ap is_unit_name e)
intrinsic_kinds false n (inr (inl e)) = (ap is_of_intrinsics e, ap is_unit_name e)
intrinsic_kinds false n (inr (inr h)) = absurd h

same_value : (same increment_name value_name ≡ false) × (same increment_name step_name ≡ false) × (same value_name step_name ≡ false)
unfolding increment_name value_name step_name
same_value = (refl, refl, refl)

-- two names that differ are not both n
apart_two : (n a b : Name) → same a b ≡ false → same n a ≡ true → same n b ≡ true → ⊥
apart_two n a b off h k = not_both (same a b) ((bytes_decides a b).1 (sym (same_is n a h) ∙ same_is n b k)) off

intrinsic_once : (steps : Bool) (n : Name) → times n (intrinsic_names steps) ≤ 1
intrinsic_once steps n = by (same n increment_name) refl (same n value_name) refl (same n step_name) refl steps
  where
    one : Bool → ℕ
    one b = cond {A = ℕ} b 1 0

    rest : (t : Bool) → (s : Bool) → same n step_name ≡ s → times n (cond t (step_name ∷ []) []) ≤ cond {A = ℕ} s 1 0
    rest true s e = (let c = count_cons (same n) step_name [] in let z : cond {A = ℕ} (same n step_name) 1 0 ≡ cond {A = ℕ} s 1 0 = ap (λ (b : Bool). cond {A = ℕ} b 1 0) e in let none : times n [] ≡ 0 = refl in omega (arith, c, z, none))
    rest false s e = omega arith

    by : (a : Bool) → same n increment_name ≡ a → (b : Bool) → same n value_name ≡ b → (s : Bool) → same n step_name ≡ s → (t : Bool) → times n (intrinsic_names t) ≤ 1
    by true e true d s q t = absurd (apart_two n increment_name value_name same_value.0 e d)
    by true e b d true q t = absurd (apart_two n increment_name step_name same_value.1 e q)
    by a e true d true q t = absurd (apart_two n value_name step_name same_value.2 d q)
    by true e false d false q t = count e d q t
      where
        count : same n increment_name ≡ true → same n value_name ≡ false → same n step_name ≡ false → (t : Bool) → times n (intrinsic_names t) ≤ 1
        count e d q t =
            let c = count_cons (same n) increment_name (value_name ∷ cond t (step_name ∷ []) []) in
            let k = count_cons (same n) value_name (cond t (step_name ∷ []) []) in
            let x : cond {A = ℕ} (same n increment_name) 1 0 ≡ 1 = ap (λ (b : Bool). cond {A = ℕ} b 1 0) e in
            let y : cond {A = ℕ} (same n value_name) 1 0 ≡ 0 = ap (λ (b : Bool). cond {A = ℕ} b 1 0) d in
            let z : times n (cond t (step_name ∷ []) []) ≤ 0 = rest t false q in
            omega (arith, c, k, x, y, z)
    by false e true d false q t = (
        let c = count_cons (same n) increment_name (value_name ∷ cond t (step_name ∷ []) []) in
        let k = count_cons (same n) value_name (cond t (step_name ∷ []) []) in
        let x : cond {A = ℕ} (same n increment_name) 1 0 ≡ 0 = ap (λ (b : Bool). cond {A = ℕ} b 1 0) e in
        let y : cond {A = ℕ} (same n value_name) 1 0 ≡ 1 = ap (λ (b : Bool). cond {A = ℕ} b 1 0) d in
        let z : times n (cond t (step_name ∷ []) []) ≤ 0 = rest t false q in
        omega (arith, c, k, x, y, z))
    by false e false d s q t = (
        let c = count_cons (same n) increment_name (value_name ∷ cond t (step_name ∷ []) []) in
        let k = count_cons (same n) value_name (cond t (step_name ∷ []) []) in
        let x : cond {A = ℕ} (same n increment_name) 1 0 ≡ 0 = ap (λ (b : Bool). cond {A = ℕ} b 1 0) e in
        let y : cond {A = ℕ} (same n value_name) 1 0 ≡ 0 = ap (λ (b : Bool). cond {A = ℕ} b 1 0) d in
        let z : times n (cond t (step_name ∷ []) []) ≤ cond {A = ℕ} s 1 0 = rest t s q in
        let w = few s in
        omega (arith, c, k, x, y, z, w))
      where
        few : (b : Bool) → cond {A = ℕ} b 1 0 ≤ 1
        few true = omega arith
        few false = omega arith

-- ---- all symbols

record_times : (x : Name) (xs : List Name) → times (record_name x) (map record_name xs) ≡ times x xs
record_times x [] = refl
record_times x (y ∷ ys) =
    let c = count_cons (same (record_name x)) (record_name y) (map record_name ys) in
    let d = count_cons (same x) y ys in
    let e : cond {A = ℕ} (same (record_name x) (record_name y)) 1 0 ≡ cond {A = ℕ} (same x y) 1 0 = refl in
    let rest = record_times x ys in
    omega (arith, c, d, e, rest)

record_from : (n : Name) (xs : List Name) → Among n (map record_name xs) → (x : Name) × Among x xs × (n ≡ record_name x)
record_from n [] at = absurd at
record_from n (x ∷ xs) (inl e) = (x, inl refl, e)
record_from n (x ∷ xs) (inr at) = (let r = record_from n xs at in (r.0, inr r.1, r.2))

records_once : (xs : List Name) → ((x : Name) → times x xs ≤ 1) → (n : Name) → times n (map record_name xs) ≤ 1
records_once xs once n = by (times n (map record_name xs)) refl
  where
    by : (k : ℕ) → times n (map record_name xs) ≡ k → times n (map record_name xs) ≤ 1
    by zero e = omega (arith, e)
    by (suc k) e =
        let r = record_from n xs (standing n (map record_name xs) (omega (arith, e))) in
        let is : times n (map record_name xs) ≡ times r.0 xs = ap (λ (m : Name). times m (map record_name xs)) r.2 ∙ record_times r.0 xs in
        let o = once r.0 in
        omega (arith, is, o)

-- three rows of names: of the plain module, of records and of intrinsics
pub symbols_once : (old records : List Name) (steps : Bool) → ((n : Name) → Among n old → IsPlainName n) → ((n : Name) → times n old ≤ 1) → ((n : Name) → times n records ≤ 1) → (n : Name) → times n old + times n (map record_name records) + times n (intrinsic_names steps) ≤ 1
symbols_once old records steps plain once few n = by (times n old) refl (times n (map record_name records)) refl (times n (intrinsic_names steps)) refl
  where
    unit_of_record : Among n (map record_name records) → is_unit_name n ≡ true
    unit_of_record at = (let r = record_from n records at in ap is_unit_name r.2 ∙ record_unit r.0)

    by : (a : ℕ) → times n old ≡ a → (b : ℕ) → times n (map record_name records) ≡ b → (c : ℕ) → times n (intrinsic_names steps) ≡ c → times n old + times n (map record_name records) + times n (intrinsic_names steps) ≤ 1
    by zero e zero d c q = (let o = intrinsic_once steps n in omega (arith, e, d, o))
    by zero e (suc b) d zero q = (let o = records_once records few n in omega (arith, e, q, o))
    by zero e (suc b) d (suc c) q =
        let r = unit_of_record (standing n (map record_name records) (omega (arith, d))) in
        let s = (intrinsic_kinds steps n (standing n (intrinsic_names steps) (omega (arith, q)))).1 in
        absurd (not_both (is_unit_name n) r s)
    by (suc a) e zero d zero q = (let o = once n in omega (arith, d, q, o))
    by (suc a) e (suc b) d c q =
        let p = plain n (standing n old (omega (arith, e))) in
        let r = unit_of_record (standing n (map record_name records) (omega (arith, d))) in
        absurd (not_both (is_unit_name n) r p.unit_name)
    by (suc a) e zero d (suc c) q =
        let p = plain n (standing n old (omega (arith, e))) in
        let s = (intrinsic_kinds steps n (standing n (intrinsic_names steps) (omega (arith, q)))).0 in
        absurd (not_both (is_of_intrinsics n) s p.intrinsics)
