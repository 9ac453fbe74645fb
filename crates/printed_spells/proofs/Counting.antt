-- A module that some text spells has no more notes than nodes have numbers.
use Rattle.std.proofs.Common.{◌≡◌, ℕ, suc, ◌^◌, ◌<◌, ◌≤◌, Bool, true, false, ◌||◌, eqb, List, [], ◌∷◌, length, refl, sym, ap, ◌∙◌, subst}
use Rattle.std.specs.Prelude.{Option, Some, None}
use Rattle.std.specs.List.{AllByRecursion, IsDistinct, list_any}
use Rattle.std.proofs.lemmas.Bool.{false≢true, eqb-true}
use Rattle.std.proofs.lemmas.Cmp.{nat_list_eq_equiv}
use Rattle.std.proofs.lemmas.Map.Steps.{length-le_from_distinct_below}
use Rattle.ir_tree.specs.Names.{same}
use Rattle.ir_tree.specs.declared.types.Prof.{Prof}
use Rattle.ir_tree.specs.declared.types.Module.{Module}
use Rattle.ir_grammar.specs.Notes.{Nodes, note_of}
use Rattle.canonical_text.specs.Notes.{note_text, nodes_of}
use Rattle.spellable.specs.Values.{Each}
use Rattle.spellable.specs.Modules.{IsFunction}
use Rattle.spellable.specs.Parts.{HasNode}
use Rattle.printed_spells.proofs.Collected.{IsApart, Distinct, module_notes, module_distinct}

module _ (nodes : Nodes) where
  -- the numbers of the nodes of these notes
  abbrev numbers : (list : List Prof) → Each (HasNode nodes) list → List ℕ
  numbers [] h = []
  numbers (p ∷ ps) h = h.0.0 ∷ numbers ps h.1

  same_length : (list : List Prof) (h : Each (HasNode nodes) list) → length (numbers list h) ≡ length list
  same_length [] h = refl
  same_length (p ∷ ps) h = ap suc (same_length ps h.1)

  one_of : {x y : Prof} → ◌≡◌ {A = Option Prof} (Some x) (Some y) → x ≡ y
  one_of {x} e = ap (or_else x) e
    where
      or_else : Prof → Option Prof → Prof
      or_else d None = d
      or_else d (Some z) = z

  -- notes with two texts have two numbers
  apart : (p q : Prof) (h : HasNode nodes p) (k : HasNode nodes q) → IsApart p q → eqb h.0 k.0 ≡ false
  apart p q h k e = go (eqb h.0 k.0) refl
    where
      go : (b : Bool) → eqb h.0 k.0 ≡ b → b ≡ false
      go false f = refl
      go true f =
          let one : p ≡ q = one_of (sym h.2 ∙ ap (note_of nodes) (eqb-true h.0 k.0 f) ∙ k.2) in
          absurd (false≢true (sym e ∙ ap (λ x. same (note_text p) (note_text x)) (sym one) ∙ nat_list_eq_equiv.refl (note_text p)))

  all_apart : (p : Prof) (h : HasNode nodes p) (list : List Prof) (hs : Each (HasNode nodes) list) → Each (IsApart p) list → AllByRecursion (λ n. eqb h.0 n ≡ false) (numbers list hs)
  all_apart p h [] hs e = tt
  all_apart p h (q ∷ qs) hs e = (apart p q h hs.0 e.0, all_apart p h qs hs.1 e.1)

  numbers_distinct : (list : List Prof) (h : Each (HasNode nodes) list) → Distinct list → IsDistinct eqb (numbers list h)
  unfolding IsDistinct
  numbers_distinct [] h d = tt
  numbers_distinct (p ∷ ps) h d = (all_apart p h.0 ps h.1 d.0, numbers_distinct ps h.1 d.1)

  numbers_below : (list : List Prof) (h : Each (HasNode nodes) list) (n : ℕ) → list_any (eqb n) (numbers list h) ≡ true → n < 2 ^ 64
  numbers_below [] h n e = absurd (false≢true e)
  numbers_below (p ∷ ps) h n e = go (eqb n h.0.0) refl e (numbers_below ps h.1 n)
    where
      go : (b : Bool) → eqb n h.0.0 ≡ b → (b || list_any (eqb n) (numbers ps h.1)) ≡ true → (list_any (eqb n) (numbers ps h.1) ≡ true → n < 2 ^ 64) → n < 2 ^ 64
      go true f k later = subst (λ m. m < 2 ^ 64) (sym (eqb-true n h.0.0 f)) h.0.1
      go false f k later = later k

  pub few_notes : (m : Module) → Each (IsFunction (HasNode nodes)) m.functions → length (nodes_of m) ≤ 2 ^ 64
  few_notes m h =
      let notes = module_notes (HasNode nodes) m h in
      subst (λ n. n ≤ 2 ^ 64) (same_length (nodes_of m) notes)
      (length-le_from_distinct_below (numbers (nodes_of m) notes) (2 ^ 64) (numbers_distinct (nodes_of m) notes (module_distinct m)) (numbers_below (nodes_of m) notes))
