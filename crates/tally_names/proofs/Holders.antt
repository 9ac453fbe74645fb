-- Globals that hold the name of a unit.
use Rattle.std.proofs.Common.{◌≡◌, ℕ, ◌+◌, ◌≤◌, ◌==◌, ◌⊎◌, inl, inr, Bool, true, false, cond, List, [], ◌∷◌, length, filter, find, map, Option, Some, None, refl, sym, ap, ◌∙◌, subst, arith}
use Rattle.std.specs.List.{cons_option, list_any}
use Rattle.std.proofs.lemmas.Bool.{or_cases}
use Rattle.ir_code.specs.Units.{bytes_of}
use Rattle.ir_rules.specs.Initialisers.{unit_text, unit_texts}
use Rattle.ir_rules.specs.Units.{bytes_in, is_i8, length_of, of_length, text_of}
use Rattle.ir_rules.specs.Lists.{Among, times}
use Rattle.ir_rules.specs.WellFormed.{is_record_text}
use Rattle.ir_tree.specs.Types.{when}
use Rattle.ir_tree.specs.declared.types.Global1.{Global1}
use Rattle.ir_tree.specs.declared.types.Init.{Init, List', Row_of-Init}
use Rattle.ir_tree.specs.declared.types.Init.TheVariants as init
use Rattle.tally_names.proofs.Listed.{Name, made_among, one, one_self, stands, times_cons}

-- a text that names a record is what the initialiser holds
held : (c : Bool) (l : Option ℕ) (i : Init) → is_record_text (cond c (of_length l (bytes_in i)) None) ≡ true → cond c (of_length l (bytes_in i)) None ≡ Some (bytes_of i)
held false l i h = cc
held true None i h = cc
held true (Some n) (init.Int value) h = cc
held true (Some n) init.Null h = cc
held true (Some n) (init.Symbol name) h = cc
held true (Some n) init.Zero h = cc
held true (Some n) (List' shape inits) h = cc
held true (Some n) init.External h = cc
held true (Some n) (init.Bytes bytes) h = by (length bytes == n) h
  where
    by : (b : Bool) → is_record_text (when b bytes) ≡ true → when b bytes ≡ Some bytes
    by true k = refl
    by false k = cc

pub text_held : (p : Global1) → is_record_text (text_of p) ≡ true → text_of p ≡ Some (bytes_of p.init)
text_held p h = held p.constant (length_of is_i8 p.mem) p.init h

-- the texts of some are no more than those of more
fewer_texts : (t : Name) (x : Global1) (xs : List Global1) → times t (unit_texts (x ∷ xs)) ≤ 1 → times t (unit_texts xs) ≤ 1
fewer_texts t x xs h = by (unit_text x) h
  where
    by : (o : Option Name) → times t (cons_option o (unit_texts xs)) ≤ 1 → times t (unit_texts xs) ≤ 1
    by None k = k
    by (Some w) k = omega (arith, k, times_cons t w (unit_texts xs))

no_second : (t : Name) (x q : Global1) (xs : List Global1) → unit_text x ≡ Some t → Among q xs → unit_text q ≡ Some t → times t (unit_texts (x ∷ xs)) ≤ 1 → ⊥
no_second t x q xs e at f h =
    let first : times t (t ∷ unit_texts xs) ≤ 1 = subst (λ (o : Option Name). times t (cons_option o (unit_texts xs)) ≤ 1) e h in
    let more = stands t (unit_texts xs) (made_among unit_text xs q t at f) in
    omega (arith, first, more, one_self t, times_cons t t (unit_texts xs))

-- one global alone holds a text
pub one_holder : (t : Name) (xs : List Global1) (p q : Global1) → Among p xs → Among q xs → unit_text p ≡ Some t → unit_text q ≡ Some t → times t (unit_texts xs) ≤ 1 → p.name ≡ q.name
one_holder t [] p q at also e f h = absurd at
one_holder t (x ∷ xs) p q (inl a) (inl b) e f h = ap (λ (g : Global1). g.name) (a ∙ sym b)
one_holder t (x ∷ xs) p q (inl a) (inr at) e f h = absurd (no_second t x q xs (ap unit_text (sym a) ∙ e) at f h)
one_holder t (x ∷ xs) p q (inr at) (inl b) e f h = absurd (no_second t x p xs (ap unit_text (sym b) ∙ f) at e h)
one_holder t (x ∷ xs) p q (inr at) (inr also) e f h = one_holder t xs p q at also e f (fewer_texts t x xs h)

-- the first that passes a test
pub found_first : {X : Type 0} (test : X → Bool) (xs : List X) → list_any test xs ≡ true → (x : X) × (find test xs ≡ Some x) × Among x xs × (test x ≡ true)
found_first test [] h = absurd (cc)
found_first {X} test (y ∷ ys) h = by (test y) refl (or_cases (test y) (list_any test ys) h) (λ k. found_first test ys k)
  where
    by : (b : Bool) → test y ≡ b → (test y ≡ true) ⊎ (list_any test ys ≡ true) → (list_any test ys ≡ true → (x : X) × (find test ys ≡ Some x) × Among x ys × (test x ≡ true)) →
        (x : X) × (find test (y ∷ ys) ≡ Some x) × Among x (y ∷ ys) × (test x ≡ true)
    by true e h rest = (y, ap (λ (c : Bool). cond c (Some y) (find test ys)) e, inl refl, e)
    by false e (inl k) rest = absurd (cc (sym k ∙ e))
    by false e (inr k) rest = let r = rest k in (r.0, ap (λ (c : Bool). cond c (Some y) (find test ys)) e ∙ r.1, inr r.2, r.3)

-- the names of some globals are no more than those of all
pub fewer_names : (n : Name) (test : Global1 → Bool) (xs : List Global1) → times n (map (λ (g : Global1). g.name) (filter test xs)) ≤ times n (map (λ (g : Global1). g.name) xs)
fewer_names n test [] = omega arith
fewer_names n test (x ∷ xs) = by (test x) (fewer_names n test xs)
  where
    by : (b : Bool) → times n (map (λ (g : Global1). g.name) (filter test xs)) ≤ times n (map (λ (g : Global1). g.name) xs) →
        times n (map (λ (g : Global1). g.name) (cond b (x ∷ filter test xs) (filter test xs))) ≤ times n (map (λ (g : Global1). g.name) (x ∷ xs))
    by true more = omega (arith, more, times_cons n x.name (map (λ (g : Global1). g.name) (filter test xs)), times_cons n x.name (map (λ (g : Global1). g.name) xs))
    by false more = omega (arith, more, times_cons n x.name (map (λ (g : Global1). g.name) xs))
