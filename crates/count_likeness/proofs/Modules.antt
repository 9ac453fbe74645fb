-- The functions of the module that counts by their numbers, and what its names stand for: as in the original.
use Rattle.std.proofs.Common.{◌≡◌, ℕ, zero, suc, ◌+◌, ◌==◌, Bool, true, false, cond, not, List, [], ◌∷◌, length, map, take, filter, count_by, position, Some, None, slice_get, refl, sym, ◌∙◌, ap, subst, arith, inl, inr, ◌⊎◌}
use Rattle.std.specs.Option.{option_map}
use Rattle.std.proofs.lemmas.Bool.{ne_eqb}
use Rattle.spec_lists.specs.Each.{each}
use Rattle.ir_model.specs.Initial.{global_objects, initial_memory}
use Rattle.ir_model.specs.Values.{functions_of, is_profile_global, objects, symbol_pointer, symbol_value}
use Rattle.ir_tree.specs.Functions.{function_at, is_profile_name, numbered}
use Rattle.ir_tree.specs.Names.{same}
use Rattle.ir_tree.specs.declared.types.Block.{Block}
use Rattle.ir_tree.specs.declared.types.Function.{Function}
use Rattle.ir_tree.specs.declared.types.Global1.{Global1}
use Rattle.ir_tree.specs.declared.types.Module.{Module}
use Rattle.ir_likeness.specs.Like.{signature_at, signature_of}
use Rattle.count_plan.specs.Counted.{counted_blocks, counted_function, counted_functions, counted_module, function_plan}
use Rattle.count_plan.specs.declared.plan.FunctionPlan.{FunctionPlan}
use Rattle.count_likeness.proofs.Setting.{Setting}
use Rattle.count_likeness.specs.Fits.{FunctionFits}
use Rattle.spec_items.proofs.Items.{count_cons, filter_first}

abbrev has_number : Function → Bool
has_number f = not (is_profile_name f.name)

module _ (plans : List FunctionPlan) where
  abbrev made : ℕ → Function → List Function
  made j f = counted_function (function_plan plans j) f ∷ []

  -- the function of number k among these, the first of which is at place n of the module
  record IsAt (n k : ℕ) (fs : List Function) : Type 0 where
    place : ℕ
    function : Function
    at : slice_get fs place ≡ Some function
    has : has_number function ≡ true
    number : count_by has_number (take place fs) ≡ k
    original : slice_get (filter has_number fs) k ≡ Some function
    counts : slice_get (filter has_number (each made n fs)) k ≡ Some (counted_function (function_plan plans (n + place)) function)

  abbrev NoneAt : ℕ → ℕ → List Function → Type 0
  NoneAt n k fs = (slice_get (filter has_number fs) k ≡ None) × (slice_get (filter has_number (each made n fs)) k ≡ None)

  abbrev OneAt : ℕ → ℕ → List Function → Type 0
  OneAt n k fs = NoneAt n k fs ⊎ IsAt n k fs

  module _ (n : ℕ) (f : Function) (fs : List Function) where
    behind_none : has_number f ≡ false → (k : ℕ) → OneAt (n + 1) k fs → OneAt n k (f ∷ fs)
    behind_none e k (inl (a, b)) = inl (ap (λ t. slice_get (cond t (f ∷ filter has_number fs) (filter has_number fs)) k) e ∙ a, ap (λ t. slice_get (cond t (counted_function (function_plan plans n) f ∷ filter has_number (each made (n + 1) fs)) (filter has_number (each made (n + 1) fs))) k) e ∙ b)
    behind_none e k (inr at) = inr (record {
      place = suc at.place;
      function = at.function;
      at = at.at;
      has = at.has;
      number = (let c = count_cons has_number f (take at.place fs) in let z : cond {A = ℕ} (has_number f) 1 0 ≡ 0 = ap (λ t. cond {A = ℕ} t 1 0) e in let h = at.number in omega (arith, c, z, h));
      original = ap (λ t. slice_get (cond t (f ∷ filter has_number fs) (filter has_number fs)) k) e ∙ at.original;
      counts = ap (λ t. slice_get (cond t (counted_function (function_plan plans n) f ∷ filter has_number (each made (n + 1) fs)) (filter has_number (each made (n + 1) fs))) k) e ∙ at.counts
          ∙ ap (λ j. Some (counted_function (function_plan plans j) at.function)) (let p = at.place in let q : n + 1 + p ≡ n + suc p = omega arith in q);
    })

    is_first : has_number f ≡ true → OneAt n 0 (f ∷ fs)
    is_first e = inr (record {
      place = 0;
      function = f;
      at = refl;
      has = e;
      number = refl;
      original = ap (λ t. slice_get (cond t (f ∷ filter has_number fs) (filter has_number fs)) 0) e;
      counts = ap (λ t. slice_get (cond t (counted_function (function_plan plans n) f ∷ filter has_number (each made (n + 1) fs)) (filter has_number (each made (n + 1) fs))) 0) e
          ∙ ap (λ j. Some (counted_function (function_plan plans j) f)) (let q : n ≡ n + 0 = omega arith in q);
    })

    behind_one : has_number f ≡ true → (k : ℕ) → OneAt (n + 1) k fs → OneAt n (suc k) (f ∷ fs)
    behind_one e k (inl (a, b)) = inl (ap (λ t. slice_get (cond t (f ∷ filter has_number fs) (filter has_number fs)) (suc k)) e ∙ a, ap (λ t. slice_get (cond t (counted_function (function_plan plans n) f ∷ filter has_number (each made (n + 1) fs)) (filter has_number (each made (n + 1) fs))) (suc k)) e ∙ b)
    behind_one e k (inr at) = inr (record {
      place = suc at.place;
      function = at.function;
      at = at.at;
      has = at.has;
      number = (let c = count_cons has_number f (take at.place fs) in let z : cond {A = ℕ} (has_number f) 1 0 ≡ 1 = ap (λ t. cond {A = ℕ} t 1 0) e in let h = at.number in omega (arith, c, z, h));
      original = ap (λ t. slice_get (cond t (f ∷ filter has_number fs) (filter has_number fs)) (suc k)) e ∙ at.original;
      counts = ap (λ t. slice_get (cond t (counted_function (function_plan plans n) f ∷ filter has_number (each made (n + 1) fs)) (filter has_number (each made (n + 1) fs))) (suc k)) e ∙ at.counts
          ∙ ap (λ j. Some (counted_function (function_plan plans j) at.function)) (let p = at.place in let q : n + 1 + p ≡ n + suc p = omega arith in q);
    })

  one_at : (n k : ℕ) (fs : List Function) → OneAt n k fs
  one_at n k [] = inl (refl, refl)
  one_at n k (f ∷ fs) = by (has_number f) refl k (λ j. one_at (n + 1) j fs)
    where
      by : (t : Bool) → has_number f ≡ t → (k : ℕ) → ((j : ℕ) → OneAt (n + 1) j fs) → OneAt n k (f ∷ fs)
      by true e zero later = is_first n f fs e
      by true e (suc k) later = behind_one n f fs e k (later k)
      by false e k later = behind_none n f fs e k (later k)

  -- the names of those that have a number
  names_stay : (n : ℕ) (fs : List Function) → map (λ (f : Function). f.name) (filter has_number (each made n fs)) ≡ map (λ (f : Function). f.name) (filter has_number fs)
  names_stay n [] = refl
  names_stay n (f ∷ fs) = by (has_number f) (names_stay (n + 1) fs)
    where
      by : (t : Bool) → map (λ (f : Function). f.name) (filter has_number (each made (n + 1) fs)) ≡ map (λ (f : Function). f.name) (filter has_number fs) →
          map (λ (f : Function). f.name) (cond t (counted_function (function_plan plans n) f ∷ filter has_number (each made (n + 1) fs)) (filter has_number (each made (n + 1) fs))) ≡ map (λ (f : Function). f.name) (cond t (f ∷ filter has_number fs) (filter has_number fs))
      by true e = ap (λ l. f.name ∷ l) e
      by false e = e

length_names : (fs : List Function) → length (map (λ (f : Function). f.name) fs) ≡ length fs
length_names [] = refl
length_names (f ∷ fs) = ap (λ k. suc k) (length_names fs)

-- the same blocks or none
declared_stays : (unit : FunctionPlan) (bs : List Block) → (length (counted_blocks unit bs) == 0) ≡ (length bs == 0)
declared_stays unit [] = refl
declared_stays unit (b ∷ bs) = ne_eqb (length (counted_blocks unit (b ∷ bs))) 0 (omega arith) ∙ sym (ne_eqb (length (b ∷ bs)) 0 (omega arith))

not_true : (t : Bool) → not t ≡ true → t ≡ false
not_true true e = absurd (cc)
not_true false e = refl

not_false : (t : Bool) → t ≡ true → not t ≡ false
not_false true e = refl
not_false false e = absurd (cc)

module _ (setting : Setting) where
  open setting use {plan, image, most, late, m, fit}

  abbrev pub counted : Module
  counted = counted_module plan m

  numbered_is : numbered counted.functions ≡ filter has_number (each (made plan.functions) 0 m.functions)
  numbered_is = filter_first has_number (counted_functions plan.functions m.functions) plan.declarations (λ i f e. not_false (is_profile_name f.name) (fit.declarations i f e))

  -- a function by its number, with its plan
  pub record Home (k : ℕ) : Type 0 where
    pub unit : FunctionPlan
    pub function : Function
    pub original : function_at m k ≡ Some function
    pub made_of : function_at counted k ≡ Some (counted_function unit function)
    pub fits : FunctionFits (functions_of m) k unit image most late function

  pub home : (k : ℕ) → ((function_at m k ≡ None) × (function_at counted k ≡ None)) ⊎ Home k
  home k = by (one_at plan.functions 0 k m.functions)
    where
      by : OneAt plan.functions 0 k m.functions → ((function_at m k ≡ None) × (function_at counted k ≡ None)) ⊎ Home k
      by (inl (a, b)) = inl (a, ap (λ fs. slice_get fs k) numbered_is ∙ b)
      by (inr at) = inr (record {
        unit = function_plan plan.functions at.place;
        function = at.function;
        original = at.original;
        made_of = ap (λ fs. slice_get fs k) numbered_is ∙ at.counts ∙ ap (λ j. Some (counted_function (function_plan plan.functions j) at.function)) (let p = at.place in let q : 0 + p ≡ p = omega arith in q);
        fits = subst (λ j. FunctionFits (functions_of m) j (function_plan plan.functions at.place) image most late at.function) at.number
            (fit.function at.place at.function at.at (not_true (is_profile_name at.function.name) at.has));
      })

  -- ---- what names stand for

  names_same : map (λ (f : Function). f.name) (numbered counted.functions) ≡ map (λ (f : Function). f.name) (numbered m.functions)
  names_same = ap (λ fs. map (λ (f : Function). f.name) fs) numbered_is ∙ names_stay plan.functions 0 m.functions

  pub as_many : functions_of counted ≡ functions_of m
  as_many = sym (length_names (numbered counted.functions)) ∙ ap length names_same ∙ length_names (numbered m.functions)

  objects_same : objects counted.globals ≡ objects m.globals
  objects_same = filter_first (λ (g : Global1). not (is_profile_global g.name)) m.globals plan.globals (λ i g e. not_false (is_profile_global g.name) (fit.globals i g e))

  pub symbols_same : (x : List ℕ) → symbol_value m x ≡ symbol_value counted x
  symbols_same x = λ i. symbol_pointer (position (same x) (sym names_same i)) (position (same x) (map (λ (g : Global1). g.name) (sym objects_same i)))

  pub memory_same : initial_memory counted ≡ initial_memory m
  memory_same = λ i. record { next = length (objects_same i); live = global_objects (λ x. sym (symbols_same x) i) 0 (objects_same i) }

  pub signatures_same : (k : ℕ) → signature_at counted k ≡ signature_at m k
  signatures_same k = by (home k)
    where
      by : ((function_at m k ≡ None) × (function_at counted k ≡ None)) ⊎ Home k → signature_at counted k ≡ signature_at m k
      by (inl (a, b)) = ap (option_map signature_of) (b ∙ sym a)
      by (inr h) = ap (option_map signature_of) h.made_of
          ∙ (λ i. Some (record { name = h.function.name; ret = h.function.ret; params = map (λ p. p.0) h.function.params; declared = declared_stays h.unit h.function.blocks i }))
          ∙ sym (ap (option_map signature_of) h.original)
