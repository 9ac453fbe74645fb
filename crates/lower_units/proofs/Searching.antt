-- The first call that fails a test, of some instructions, blocks or functions and of the rest.
use Rattle.std.proofs.Common.{◌≡◌, ℕ, ◌+◌, ◌<◌, List, [], ◌∷◌, ◌++◌, length, drop, get_or, filter_map, flat_map, Option, None, Some, refl, sym, ap, ◌∙◌, add-one, drop-cons}
use Rattle.std.proofs.lemmas.List.Elements.{filter_map-append}
use Rattle.std.specs.List.{cons_option}
use Rattle.ir_tree.specs.declared.types.Instr.{Instr}
use Rattle.lower_units.specs.Faults.{fault_by, fault_of, first_fault}
use Rattle.lower_units.specs.declared.faults.Test.{Test}
use Rattle.lower_units.specs.declared.told.Told.{Told}
use Rattle.lowering.specs.Asked.{Asked, asked}
use Rattle.spec_lists.specs.Each.{first_of}

pub first_found : {Y : Type 0} (ys zs : List Y) (y : Y) → Some y ≡ first_of ys → Some y ≡ first_of (ys ++ zs)
first_found [] zs y found = absurd (cc)
first_found (x ∷ ys) zs y found = found

pub first_past : {Y : Type 0} (ys zs : List Y) → None ≡ first_of ys → first_of (ys ++ zs) ≡ first_of zs
first_past [] zs none = refl
first_past (x ∷ ys) zs none = absurd (cc)

next_dropped : {X : Type 0} (xs : List X) (i : ℕ) (x : X) → i < length xs → x ≡ get_or xs i x → drop i xs ≡ x ∷ drop (i + 1) xs
next_dropped {X} xs i x h is = drop-cons xs i x h ∙ (λ k. sym is k ∷ drop (sym (add-one i) k) xs)

module _ (told : List ℕ → Option Told) where
  faults_append : (xs ys : List Asked) → filter_map (fault_of told) (xs ++ ys) ≡ filter_map (fault_of told) xs ++ filter_map (fault_of told) ys
  faults_append xs ys = filter_map-append (fault_of told) xs ys

  found : (whole part rest : List Asked) (y : List ℕ × Test) → whole ≡ part ++ rest → Some y ≡ first_fault told part → Some y ≡ first_fault told whole
  found whole part rest y is e =
      first_found (filter_map (fault_of told) part) (filter_map (fault_of told) rest) y e ∙ sym (ap (λ (zs : List (List ℕ × Test)). first_of zs) (faults_append part rest)) ∙ ap (λ (zs : List Asked). first_fault told zs) (sym is)

  past : (whole part rest : List Asked) → whole ≡ part ++ rest → None ≡ first_fault told part → first_fault told rest ≡ first_fault told whole
  past whole part rest is e =
      sym (ap (λ (zs : List Asked). first_fault told zs) is ∙ ap (λ (zs : List (List ℕ × Test)). first_of zs) (faults_append part rest) ∙ first_past (filter_map (fault_of told) part) (filter_map (fault_of told) rest) e)

  -- one instruction
  first_is : (o : Option (List ℕ × Test)) → o ≡ first_of (cons_option o [])
  first_is None = refl
  first_is (Some y) = refl

  one_is : (o : Option Asked) → fault_by told o ≡ first_fault told (cons_option o [])
  one_is None = refl
  one_is (Some a) = first_is (fault_of told a)

  instrs_dropped : (xs : List Instr) (i : ℕ) (x : Instr) → i < length xs → x ≡ get_or xs i x → filter_map asked (drop i xs) ≡ filter_map asked (x ∷ []) ++ filter_map asked (drop (i + 1) xs)
  instrs_dropped xs i x h is = ap (filter_map asked) (next_dropped xs i x h is) ∙ filter_map-append asked (x ∷ []) (drop (i + 1) xs)

  pub instr_found : (xs : List Instr) (i : ℕ) (x : Instr) (y : List ℕ × Test) → i < length xs → x ≡ get_or xs i x → Some y ≡ fault_by told (asked x) → Some y ≡ first_fault told (filter_map asked (drop i xs))
  instr_found xs i x y h is e = found (filter_map asked (drop i xs)) (filter_map asked (x ∷ [])) (filter_map asked (drop (i + 1) xs)) y (instrs_dropped xs i x h is) (e ∙ one_is (asked x))

  pub instr_past : (xs : List Instr) (i : ℕ) (x : Instr) → i < length xs → x ≡ get_or xs i x → None ≡ fault_by told (asked x) → first_fault told (filter_map asked (drop (i + 1) xs)) ≡ first_fault told (filter_map asked (drop i xs))
  instr_past xs i x h is e = past (filter_map asked (drop i xs)) (filter_map asked (x ∷ [])) (filter_map asked (drop (i + 1) xs)) (instrs_dropped xs i x h is) (e ∙ one_is (asked x))

  -- one block, or one function
  module _ {X : Type 0} (make : X → List Asked) where
    pub part_found : (xs : List X) (i : ℕ) (x : X) (y : List ℕ × Test) → i < length xs → x ≡ get_or xs i x → Some y ≡ first_fault told (make x) → Some y ≡ first_fault told (flat_map make (drop i xs))
    part_found xs i x y h is e = found (flat_map make (drop i xs)) (make x) (flat_map make (drop (i + 1) xs)) y (ap (flat_map make) (next_dropped xs i x h is)) e

    pub part_past : (xs : List X) (i : ℕ) (x : X) → i < length xs → x ≡ get_or xs i x → None ≡ first_fault told (make x) → first_fault told (flat_map make (drop (i + 1) xs)) ≡ first_fault told (flat_map make (drop i xs))
    part_past xs i x h is e = past (flat_map make (drop i xs)) (make x) (flat_map make (drop (i + 1) xs)) (ap (flat_map make) (next_dropped xs i x h is)) e
