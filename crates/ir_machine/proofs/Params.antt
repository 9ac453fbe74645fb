-- Parameters and arguments are gone through one after another.
use Rattle.std.proofs.Common.{◌≡◌, ℕ, zero, suc, ◌+◌, ◌<◌, ◌≤◌, Bool, true, false, List, [], ◌∷◌, ◌++◌, length, drop, map, get_or, refl, sym, ◌∙◌, ap, arith, append_assoc, length-append}
use Rattle.std.proofs.Math.Seq.{drop-cons}
use Rattle.std.proofs.lemmas.List.{append-nil}
use Rattle.std.specs.Prelude.{replicate, slice_get, slice_set, take, Some, ◌-◌, ◌&&◌}
use Rattle.ir_tree.specs.declared.types.Ty.{Ty}
use Rattle.ir_memory.specs.declared.value.Value.{Value}
use Rattle.ir_memory.specs.declared.value.Value.TheVariants.{Int}
use Rattle.ir_model.specs.Step.{same_type}
use Rattle.ir_model.specs.Values.{at_type}
use Rattle.ir_code.specs.declared.code.Input.{Input}
use Rattle.ir_code.specs.declared.code.FunctionCode.{FunctionCode}
use Rattle.ir_machine.specs.Steps.{arguments, filled, first_registers, fits_params, valued}

-- what is left of a list begins with the item at the place
here : {A : Type 0} (xs : List A) (i : ℕ) (x d : A) → i < length xs → x ≡ get_or xs i d → drop i xs ≡ x ∷ drop (i + 1) xs
here xs i x d h is =
    let next : suc i ≡ i + 1 = omega arith in
    drop-cons xs i d h ∙ (λ j. sym is j ∷ drop (next j) xs)

past_end : {A : Type 0} (xs : List A) (i : ℕ) → length xs ≤ i → drop i xs ≡ []
past_end [] zero h = refl
past_end [] (suc i) h = refl
past_end (x ∷ xs) zero h = absurd (omega arith)
past_end (x ∷ xs) (suc i) h = past_end xs i (omega arith)

first_left : (vs : List Value) (i : ℕ) (v : Value) → slice_get vs i ≡ Some v → drop i vs ≡ v ∷ drop (i + 1) vs
first_left [] i v e = cc
first_left (x ∷ vs) zero v e = let q : x ≡ v = cc in ap (λ y. y ∷ vs) q
first_left (x ∷ vs) (suc i) v e =
    let next : suc i + 1 ≡ suc (i + 1) = omega arith in
    first_left vs i v e ∙ (λ j. v ∷ drop (sym next j) (x ∷ vs))

module _ (ps : List Ty) (i : ℕ) (p d : Ty) (h : i < length ps) (is : p ≡ get_or ps i d) (vs : List Value) where
  -- a parameter takes its argument
  pub argument_more : (regs new : List Value) (v : Value) → slice_get vs i ≡ Some v → new ≡ regs ++ at_type p v ∷ [] → new ++ arguments (drop (i + 1) ps) (drop (i + 1) vs) ≡ regs ++ arguments (drop i ps) (drop i vs)
  argument_more regs new v found more =
      ap (λ l. l ++ arguments (drop (i + 1) ps) (drop (i + 1) vs)) more
      ∙ append_assoc regs (at_type p v ∷ []) (arguments (drop (i + 1) ps) (drop (i + 1) vs))
      ∙ (λ j. regs ++ arguments (sym (here ps i p d h is) j) (sym (first_left vs i v found) j))

  -- there is no argument for it
  pub argument_none : (regs : List Value) → length vs ≤ i → regs ++ arguments (drop (i + 1) ps) (drop (i + 1) vs) ≡ regs ++ arguments (drop i ps) (drop i vs)
  argument_none regs none =
      let later : drop (i + 1) vs ≡ [] = past_end vs (i + 1) (omega arith) in
      ap (λ l. regs ++ arguments (drop (i + 1) ps) l) later
      ∙ ap (λ l. regs ++ l) (no_arguments (drop (i + 1) ps))
      ∙ (λ j. regs ++ arguments (sym (here ps i p d h is) j) (sym (past_end vs i none) j))
    where
      no_arguments : (ts : List Ty) → arguments ts [] ≡ []
      no_arguments [] = refl
      no_arguments (t ∷ ts) = refl

-- all parameters have taken theirs
pub registers_are : (f : FunctionCode) (vs regs out : List Value) (i : ℕ) → length f.params ≤ i → regs ++ arguments (drop i f.params) (drop i vs) ≡ arguments f.params vs → out ≡ filled f.registers regs → out ≡ first_registers f vs
registers_are f vs regs out i h all made =
    let none : arguments (drop i f.params) (drop i vs) ≡ [] = ap (λ l. arguments l (drop i vs)) (past_end f.params i h) in
    let whole : regs ≡ arguments f.params vs = sym (append-nil regs) ∙ ap (λ l. regs ++ l) (sym none) ∙ all in
    made ∙ ap (filled f.registers) whole

module _ (regs : List Value) where
  -- one pair of types more decides
  pub fits_more : (ps : List Ty) (us : List (Ty × Input)) (i : ℕ) (p d : Ty) (a b : Ty × Input) → i < length ps → i < length us → p ≡ get_or ps i d → a ≡ get_or us i b → fits_params (drop i ps) (map (valued regs) (drop i us)) ≡ (same_type p a.0 && fits_params (drop (i + 1) ps) (map (valued regs) (drop (i + 1) us)))
  fits_more ps us i p d a b h g p_is a_is =
      λ j. fits_params (here ps i p d h p_is j) (map (valued regs) (here us i a b g a_is j))

  -- lists of two lengths do not fit
  pub fits_count : (ps : List Ty) (us : List (Ty × Input)) → (length ps ≡ length us → ⊥) → false ≡ fits_params ps (map (valued regs) us)
  fits_count [] [] h = absurd (h refl)
  fits_count [] (a ∷ us) h = refl
  fits_count (p ∷ ps) [] h = refl
  fits_count (p ∷ ps) (a ∷ us) h =
      ends (same_type p a.0) (fits_params ps (map (valued regs) us)) (fits_count ps us (λ e. h (ap suc e)))
    where
      ends : (b c : Bool) → false ≡ c → false ≡ (b && c)
      ends true c e = e
      ends false c e = refl

filled_cons : (n : ℕ) (u : Value) (us : List Value) → filled (suc n) (u ∷ us) ≡ u ∷ filled n us
filled_cons n u us =
    let left : suc n - suc (length us) ≡ n - length us = omega arith in
    ap (λ k. u ∷ take n us ++ replicate k (Int 0)) left

pub filled_zero : (us : List Value) → filled zero us ≡ []
filled_zero us =
    let none : zero - length us ≡ zero = omega arith in
    ap (λ k. take zero us ++ replicate k (Int 0)) none

-- no register is filled yet
pub none_filled : (n : ℕ) → replicate n (Int 0) ≡ filled n []
none_filled zero = refl
none_filled (suc n) = let e : suc n ≡ suc n - 0 = omega arith in ap (λ k. replicate k (Int 0)) e

-- one more register is filled, if there is one
pub set_filled : (n : ℕ) (us : List Value) (v : Value) → slice_set (filled n us) (length us) v ≡ filled n (us ++ v ∷ [])
set_filled zero us v =
    ap (λ l. slice_set l (length us) v) (filled_zero us) ∙ none (length us) ∙ sym (filled_zero (us ++ v ∷ []))
  where
    none : (i : ℕ) → slice_set [] i v ≡ []
    none zero = refl
    none (suc i) = refl
set_filled (suc n) [] v =
    ap (λ l. slice_set l 0 v) (sym (none_filled (suc n))) ∙ ap (λ l. v ∷ l) (none_filled n) ∙ sym (filled_cons n v [])
set_filled (suc n) (u ∷ us) v =
    ap (λ l. slice_set l (suc (length us)) v) (filled_cons n u us)
    ∙ ap (λ l. u ∷ l) (set_filled n us v)
    ∙ sym (filled_cons n u (us ++ v ∷ []))

-- the value of an argument
pub argument_value : {A : Type 0} (f : A → Value) (xs : List A) (i : ℕ) (x : A) → slice_get xs i ≡ Some x → slice_get (map f xs) i ≡ Some (f x)
argument_value f [] i x e = cc
argument_value f (y ∷ xs) zero x e = let q : y ≡ x = cc in ap (λ z. Some (f z)) q
argument_value f (y ∷ xs) (suc i) x e = argument_value f xs i x e

pub values_count : {A : Type 0} (f : A → Value) (xs : List A) → length (map f xs) ≡ length xs
values_count f [] = refl
values_count f (x ∷ xs) = ap suc (values_count f xs)

inside : (vs : List Value) (i : ℕ) (v : Value) → slice_get vs i ≡ Some v → i < length vs
inside [] i v e = cc
inside (x ∷ vs) zero v e = omega arith
inside (x ∷ vs) (suc i) v e = let before : i < length vs = inside vs i v e in omega arith

-- so many parameters have taken these values
abbrev pub Filled : FunctionCode → List Value → ℕ → List Value → Type 0
Filled f vs i regs =
    (us : List Value)
    × (regs ≡ filled f.registers us)
    × (us ++ arguments (drop i f.params) (drop i vs) ≡ arguments f.params vs)
    × (i ≤ length vs → length us ≡ i)

pub filled_first : (f : FunctionCode) (vs regs : List Value) → regs ≡ replicate f.registers (Int 0) → Filled f vs 0 regs
filled_first f vs regs e = ([], e ∙ none_filled f.registers, refl, λ _. refl)

module _ (f : FunctionCode) (vs : List Value) (i : ℕ) (regs : List Value) (so_far : Filled f vs i regs) where
  -- a parameter takes its value
  pub filled_more : (p d : Ty) → i < length f.params → p ≡ get_or f.params i d → (v : Value) → slice_get vs i ≡ Some v → (new : List Value) → new ≡ slice_set regs i (at_type p v) → Filled f vs (i + 1) new
  filled_more p d h is v found new written =
      let there : i < length vs = inside vs i v found in
      let count : length so_far.0 ≡ i = so_far.3 (omega arith) in (
        so_far.0 ++ at_type p v ∷ [],
        written ∙ (λ j. slice_set (so_far.1 j) (sym count j) (at_type p v)) ∙ set_filled f.registers so_far.0 (at_type p v),
        argument_more f.params i p d h is vs so_far.0 (so_far.0 ++ at_type p v ∷ []) v found refl ∙ so_far.2,
        λ _. length-append so_far.0 (at_type p v ∷ []) ∙ ap (λ k. k + 1) count,
      )

  -- there is no value for it
  pub filled_same : (p d : Ty) → i < length f.params → p ≡ get_or f.params i d → length vs ≤ i → Filled f vs (i + 1) regs
  filled_same p d h is past = (
    so_far.0,
    so_far.1,
    argument_none f.params i p d h is vs so_far.0 past ∙ so_far.2,
    λ (g : i + 1 ≤ length vs). absurd (omega arith),
  )

  pub filled_all : length f.params ≤ i → regs ≡ first_registers f vs
  filled_all past = registers_are f vs so_far.0 regs i past so_far.2 so_far.1
