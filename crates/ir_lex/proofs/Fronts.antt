use Rattle.std.proofs.Common.{◌≡◌, ℕ, zero, suc, ◌+◌, ◌-◌, ◌<◌, ◌≤◌, Bool, true, false, ◌&&◌, ◌||◌, cond, eqb, ltb, List, [], ◌∷◌, length, take, drop, Option, None, Some, refl, ap, ◌∙◌, subst, arith, length-drop}
use Rattle.std.specs.List.{prefix_len}
use Rattle.std.specs.Option.{option_and_then}
use Rattle.std.specs.Char.{is_ascii_hexdigit}
use Rattle.std.proofs.Math.Numerals.{one-add}
use Rattle.ir_lex.specs.Classes.{is_string_byte}
use Rattle.ir_lex.specs.Spelling.{ends, one, many, either, is_byte_content}
use Rattle.ir_lex.specs.Scan.{one_rest, many_rest, shorter, either_rest, content_rest, taken}

-- no front longer than n passes
abbrev pub NonePast : (List ℕ → Bool) → List ℕ → ℕ → Type 0
NonePast test text n = (m : ℕ) → n < m → m ≤ length text → test (take m text) ≡ false

-- the longest front that passes leaves this
pub record Leaves (test : List ℕ → Bool) (text rest : List ℕ) : Type 0 where
  pub n : ℕ
  pub within : n ≤ length text
  pub left : rest ≡ drop n text
  pub passes : test (take n text) ≡ true
  pub none_longer : NonePast test text n

-- what is left behind the longest front that passes, or that none passes
abbrev pub IsFront : (List ℕ → Bool) → List ℕ → Option (List ℕ) → Type 0
IsFront test text None = (m : ℕ) → m ≤ length text → test (take m text) ≡ false
IsFront test text (Some rest) = Leaves test text rest

abbrev and_false_left : (a b : Bool) → a ≡ false → (a && b) ≡ false
and_false_left a b e = ap (λ x. x && b) e

and_false_right : (a b : Bool) → b ≡ false → (a && b) ≡ false
and_false_right true b e = e
and_false_right false b e = refl

and_true : (a b : Bool) → a ≡ true → b ≡ true → (a && b) ≡ true
and_true a b e f = ap (λ x. x && b) e ∙ f

or_true_left : (a b : Bool) → a ≡ true → (a || b) ≡ true
or_true_left a b e = ap (λ x. x || b) e

or_true_right : (a b : Bool) → b ≡ true → (a || b) ≡ true
or_true_right true b e = refl
or_true_right false b e = e

or_false : (a b : Bool) → a ≡ false → b ≡ false → (a || b) ≡ false
or_false a b e f = ap (λ x. x || b) e ∙ f

-- ---- a front one byte longer, and tests that agree

-- u asks of the bytes behind the first what t asks
step_front : (t u : List ℕ → Bool) (b : ℕ) (bs : List ℕ) (r : Option (List ℕ)) → (t [] ≡ false → u [] ≡ false) → ((m : ℕ) → u (b ∷ take m bs) ≡ t (take m bs)) → IsFront t bs r → IsFront u (b ∷ bs) r
step_front t u b bs None nil same f = below
  where
    below : (m : ℕ) → m ≤ length (b ∷ bs) → u (take m (b ∷ bs)) ≡ false
    below zero h = nil (f 0 (omega arith))
    below (suc m) h = same m ∙ f m (omega arith)
step_front t u b bs (Some rest) nil same f = record {
  n = suc f.n;
  within = omega (arith, f.within);
  left = f.left;
  passes = same f.n ∙ f.passes;
  none_longer = longer;
}
  where
    longer : NonePast u (b ∷ bs) (suc f.n)
    longer zero h k = absurd (omega arith)
    longer (suc m) h k = same m ∙ f.none_longer m (omega arith) (omega arith)

-- no front passes where the empty one does not, and none that begins with this byte
none_front : (u : List ℕ → Bool) (b : ℕ) (bs : List ℕ) → u [] ≡ false → ((m : ℕ) → u (b ∷ take m bs) ≡ false) → IsFront u (b ∷ bs) None
none_front u b bs nil more zero h = nil
none_front u b bs nil more (suc m) h = more m

same_front : (t u : List ℕ → Bool) (s : List ℕ) (r : Option (List ℕ)) → ((m : ℕ) → u (take m s) ≡ t (take m s)) → IsFront t s r → IsFront u s r
same_front t u s None same f = λ m h. same m ∙ f m h
same_front t u s (Some rest) same f = record {
  n = f.n;
  within = f.within;
  left = f.left;
  passes = same f.n ∙ f.passes;
  none_longer = λ m h k. same m ∙ f.none_longer m h k;
}

-- ---- the words of a spelling

ends_longer : (s : List ℕ) (m : ℕ) → 0 < m → m ≤ length s → ends (take m s) ≡ false
ends_longer s zero h k = absurd (omega arith)
ends_longer [] (suc m) h k = absurd (omega arith)
ends_longer (b ∷ bs) (suc m) h k = refl

pub ends_front : (s : List ℕ) → IsFront ends s (Some s)
ends_front s =
    record { n = 0; within = omega arith; left = refl; passes = refl; none_longer = ends_longer s }

module _ (class : ℕ → Bool) (test : List ℕ → Bool) (rest : List ℕ → Option (List ℕ)) where
  one_at : (b : ℕ) (bs : List ℕ) (h : Bool) → class b ≡ h → IsFront test bs (rest bs) → IsFront (one class test) (b ∷ bs) (option_and_then rest (cond h (Some bs) None))
  one_at b bs true e f =
      step_front test (one class test) b bs (rest bs) (λ _. refl) (λ m. ap (λ x. x && test (take m bs)) e) f
  one_at b bs false e f =
      none_front (one class test) b bs refl (λ m. and_false_left (class b) (test (take m bs)) e)

  one_nil : IsFront (one class test) [] None
  one_nil zero h = refl
  one_nil (suc m) h = refl

  pub one_front : ((s : List ℕ) → IsFront test s (rest s)) → (s : List ℕ) → IsFront (one class test) s (one_rest class rest s)
  one_front f [] = one_nil
  one_front f (b ∷ bs) = one_at b bs (class b) refl (f bs)

  many_at : (b : ℕ) (bs : List ℕ) (h : Bool) → class b ≡ h → IsFront test (b ∷ bs) (rest (b ∷ bs)) → IsFront (many class test) bs (many_rest class rest bs) → IsFront (many class test) (b ∷ bs) (rest (drop (cond h (1 + prefix_len class bs) 0) (b ∷ bs)))
  many_at b bs true e now after =
      rw one-add (step_front (many class test) (many class test) b bs (many_rest class rest bs) (λ x. x) (λ m. ap (λ x. cond x (many class test (take m bs)) (test (b ∷ take m bs))) e) after)
  many_at b bs false e now after =
      same_front test (many class test) (b ∷ bs) (rest (b ∷ bs)) same now
    where
      same : (m : ℕ) → many class test (take m (b ∷ bs)) ≡ test (take m (b ∷ bs))
      same zero = refl
      same (suc m) = ap (λ x. cond x (many class test (take m bs)) (test (b ∷ take m bs))) e

  many_nil : (m : ℕ) → many class test (take m []) ≡ test (take m [])
  many_nil zero = refl
  many_nil (suc m) = refl

  pub many_front : ((s : List ℕ) → IsFront test s (rest s)) → (s : List ℕ) → IsFront (many class test) s (many_rest class rest s)
  many_front f [] = same_front test (many class test) [] (rest []) many_nil (f [])
  many_front f (b ∷ bs) = many_at b bs (class b) refl (f (b ∷ bs)) (many_front f bs)

module _ (first second : List ℕ → Bool) (s : List ℕ) where
  both_front : (p q : List ℕ) (h : Bool) → ltb (length q) (length p) ≡ h → Leaves first s p → Leaves second s q → IsFront (either first second) s (cond h (Some q) (Some p))
  both_front p q true e f g =
      let lp = ap length f.left ∙ length-drop f.n s in
      let lq = ap length g.left ∙ length-drop g.n s in
      let less : f.n < g.n = grind arith in
      record {
        n = g.n;
        within = g.within;
        left = g.left;
        passes = or_true_right (first (take g.n s)) (second (take g.n s)) g.passes;
        none_longer = λ m h k. or_false _ _ (f.none_longer m (omega arith) k) (g.none_longer m h k);
      }
  both_front p q false e f g =
      let lp = ap length f.left ∙ length-drop f.n s in
      let lq = ap length g.left ∙ length-drop g.n s in
      let fw = f.within in
      let gw = g.within in
      let less : g.n ≤ f.n = grind arith in
      record {
        n = f.n;
        within = f.within;
        left = f.left;
        passes = or_true_left (first (take f.n s)) (second (take f.n s)) f.passes;
        none_longer = λ m h k. or_false _ _ (f.none_longer m h k) (g.none_longer m (omega arith) k);
      }

  pub either_at : (p q : Option (List ℕ)) → IsFront first s p → IsFront second s q → IsFront (either first second) s (shorter p q)
  either_at None None f g = λ m h. or_false _ _ (f m h) (g m h)
  either_at None (Some q) f g = record {
    n = g.n;
    within = g.within;
    left = g.left;
    passes = or_true_right (first (take g.n s)) (second (take g.n s)) g.passes;
    none_longer = λ m h k. or_false _ _ (f m k) (g.none_longer m h k);
  }
  either_at (Some p) None f g = record {
    n = f.n;
    within = f.within;
    left = f.left;
    passes = or_true_left (first (take f.n s)) (second (take f.n s)) f.passes;
    none_longer = λ m h k. or_false _ _ (f.none_longer m h k) (g m k);
  }
  either_at (Some p) (Some q) f g = both_front p q (ltb (length q) (length p)) refl f g

pub either_front : (first second : List ℕ → Bool) (p q : List ℕ → Option (List ℕ)) → ((s : List ℕ) → IsFront first s (p s)) → ((s : List ℕ) → IsFront second s (q s)) → (s : List ℕ) → IsFront (either first second) s (either_rest p q s)
either_front first second p q f g s = either_at first second s (p s) (q s) (f s) (g s)

-- ---- the content of a byte string

module _ (b : ℕ) (bs : List ℕ) where
  hex_at : (owed : ℕ) (h : Bool) → is_ascii_hexdigit b ≡ h → IsFront (is_byte_content owed) bs (content_rest owed bs) → IsFront (is_byte_content (suc owed)) (b ∷ bs) (cond h (content_rest owed bs) None)
  hex_at owed true e f =
      step_front (is_byte_content owed) (is_byte_content (suc owed)) b bs (content_rest owed bs) (λ _. refl) (λ m. ap (λ x. x && is_byte_content owed (take m bs)) e) f
  hex_at owed false e f =
      none_front (is_byte_content (suc owed)) b bs refl (λ m. and_false_left (is_ascii_hexdigit b) (is_byte_content owed (take m bs)) e)

  inner : ℕ → Bool
  inner m =
      cond (eqb b 92) (is_byte_content 2 (take m bs)) (is_string_byte b && is_byte_content 0 (take m bs))

  plain_at : (m : ℕ) (h92 : Bool) → eqb b 92 ≡ h92 → inner m ≡ cond h92 (is_byte_content 2 (take m bs)) (is_string_byte b && is_byte_content 0 (take m bs))
  unfolding inner
  plain_at m h92 e = ap (λ x. cond x (is_byte_content 2 (take m bs)) (is_string_byte b && is_byte_content 0 (take m bs))) e

  open_at : (m : ℕ) → eqb b 34 ≡ false → is_byte_content 0 (b ∷ take m bs) ≡ inner m
  unfolding inner
  open_at m e = ap (λ x. cond x (ends (take m bs)) (cond (eqb b 92) (is_byte_content 2 (take m bs)) (is_string_byte b && is_byte_content 0 (take m bs)))) e

  content_at : (h34 h92 hs : Bool) → eqb b 34 ≡ h34 → eqb b 92 ≡ h92 → is_string_byte b ≡ hs → IsFront (is_byte_content 2) bs (content_rest 2 bs) → IsFront (is_byte_content 0) bs (content_rest 0 bs) → IsFront (is_byte_content 0) (b ∷ bs) (cond h34 (Some bs) (cond h92 (content_rest 2 bs) (cond hs (content_rest 0 bs) None)))
  content_at true h92 hs e34 e92 es two none =
      step_front ends (is_byte_content 0) b bs (Some bs) (λ _. refl) (λ m. ap (λ x. cond x (ends (take m bs)) (cond (eqb b 92) (is_byte_content 2 (take m bs)) (is_string_byte b && is_byte_content 0 (take m bs)))) e34) (ends_front bs)
  content_at false true hs e34 e92 es two none =
      step_front (is_byte_content 2) (is_byte_content 0) b bs (content_rest 2 bs) (λ _. refl) (λ m. open_at m e34 ∙ plain_at m true e92) two
  content_at false false true e34 e92 es two none =
      step_front (is_byte_content 0) (is_byte_content 0) b bs (content_rest 0 bs) (λ _. refl) (λ m. open_at m e34 ∙ plain_at m false e92 ∙ ap (λ x. x && is_byte_content 0 (take m bs)) es) none
  content_at false false false e34 e92 es two none =
      none_front (is_byte_content 0) b bs refl (λ m. open_at m e34 ∙ plain_at m false e92 ∙ and_false_left (is_string_byte b) (is_byte_content 0 (take m bs)) es)

content_nil : (owed : ℕ) → IsFront (is_byte_content owed) [] None
content_nil owed zero h = refl
content_nil owed (suc m) h = refl

pub content_front : (owed : ℕ) (s : List ℕ) → IsFront (is_byte_content owed) s (content_rest owed s)
content_front owed [] = content_nil owed
content_front zero (b ∷ bs) =
    content_at b bs (eqb b 34) (eqb b 92) (is_string_byte b) refl refl refl (content_front 2 bs) (content_front 0 bs)
content_front (suc owed) (b ∷ bs) =
    hex_at b bs owed (is_ascii_hexdigit b) refl (content_front owed bs)

-- ---- lengths

-- the longest front that passes has n bytes; no byte where none passes
pub record IsMost (test : List ℕ → Bool) (text : List ℕ) (n : ℕ) : Type 0 where
  pub within : n ≤ length text
  pub passes : 0 < n → test (take n text) ≡ true
  pub none_longer : NonePast test text n

most_of_left : (test : List ℕ → Bool) (s rest : List ℕ) (n : ℕ) → n ≡ length s - length rest → Leaves test s rest → IsMost test s n
most_of_left test s rest n e f =
    let l = ap length f.left ∙ length-drop f.n s in
    let w = f.within in
    let same : f.n ≡ n = omega arith in
    subst (IsMost test s) same (record { within = f.within; passes = λ _. f.passes; none_longer = f.none_longer })

pub taken_is_most : (test : List ℕ → Bool) (s : List ℕ) (r : Option (List ℕ)) → IsFront test s r → IsMost test s (taken s r)
taken_is_most test s None f =
    record { within = omega arith; passes = λ h. absurd (omega arith); none_longer = λ m h k. f m k }
taken_is_most test s (Some rest) f = most_of_left test s rest (length s - length rest) refl f
