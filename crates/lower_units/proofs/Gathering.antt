-- What calls tell, of some instructions, blocks or functions and of one more.
use Rattle.std.proofs.Common.{◌≡◌, ℕ, ◌+◌, ◌<◌, List, [], ◌∷◌, ◌++◌, length, take, get_or, filter_map, flat_map, Option, None, Some, refl, sym, ap, ◌∙◌}
use Rattle.std.proofs.lemmas.List.{append-nil, take_more}
use Rattle.std.proofs.lemmas.List.Concat.{flat_map-append}
use Rattle.std.proofs.lemmas.List.Elements.{filter_map-append}
use Rattle.std.specs.List.{cons_option}
use Rattle.ir_tree.specs.declared.types.Instr.{Instr}
use Rattle.lower_units.specs.Told.{some_told, told_after, told_by}
use Rattle.lower_units.specs.declared.told.Told.{Told}
use Rattle.lowering.specs.Asked.{Asked, asked}

pub after_append : (q : List ℕ) (t : Option Told) (xs ys : List Asked) → told_after q t (xs ++ ys) ≡ told_after q (told_after q t xs) ys
after_append q t [] ys = refl
after_append q t (x ∷ xs) ys = after_append q (told_by q t x) xs ys

module _ (q : List ℕ) (start now next : Option Told) where
  further : (asks more part : List Asked) → now ≡ told_after q start asks → next ≡ told_after q now part → more ≡ asks ++ part → next ≡ told_after q start more
  further asks more part was told is =
      told ∙ ap (λ (t : Option Told). told_after q t part) was ∙ sym (after_append q start asks part) ∙ ap (λ (zs : List Asked). told_after q start zs) (sym is)

  some_is : (o : Option Asked) → some_told q now o ≡ told_after q now (cons_option o [])
  some_is None = refl
  some_is (Some a) = refl

  pub instrs_further : (xs : List Instr) (i : ℕ) (x : Instr) → i < length xs → x ≡ get_or xs i x → now ≡ told_after q start (filter_map asked (take i xs)) → next ≡ some_told q now (asked x) → next ≡ told_after q start (filter_map asked (take (i + 1) xs))
  instrs_further xs i x h is was told =
      let more : filter_map asked (take (i + 1) xs) ≡ filter_map asked (take i xs) ++ filter_map asked (x ∷ []) =
      ap (filter_map asked) (take_more xs i x h) ∙ filter_map-append asked (take i xs) (get_or xs i x ∷ []) ∙ ap (λ (y : Instr). filter_map asked (take i xs) ++ filter_map asked (y ∷ [])) (sym is) in
      further (filter_map asked (take i xs)) (filter_map asked (take (i + 1) xs)) (filter_map asked (x ∷ [])) was (told ∙ some_is (asked x)) more

  pub flat_further : {X : Type 0} (make : X → List Asked) (xs : List X) (i : ℕ) (x : X) → i < length xs → x ≡ get_or xs i x → now ≡ told_after q start (flat_map make (take i xs)) → next ≡ told_after q now (make x) → next ≡ told_after q start (flat_map make (take (i + 1) xs))
  flat_further {X} make xs i x h is was told =
      let more : flat_map make (take (i + 1) xs) ≡ flat_map make (take i xs) ++ make x =
      ap (flat_map make) (take_more xs i x h) ∙ flat_map-append make (take i xs) (get_or xs i x ∷ []) ∙ ap (λ (y : X). flat_map make (take i xs) ++ (make y ++ [])) (sym is) ∙ ap (λ (zs : List Asked). flat_map make (take i xs) ++ zs) (append-nil (make x)) in
      further (flat_map make (take i xs)) (flat_map make (take (i + 1) xs)) (make x) was told more
