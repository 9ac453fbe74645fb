-- The unready items of a function are the places that break rule 16 in it.
use Rattle.std.proofs.Common.{◌≡◌, ℕ, ◌+◌, Bool, true, false, not, List, [], ◌∷◌, ◌++◌, length, map, refl, ap, ◌∙◌}
use Rattle.std.proofs.lemmas.List.{map-append}
use Rattle.ir_assigned.specs.Unready.{unready, unready_in}
use Rattle.ir_rules.specs.Assigned.{assigned, is_ready, is_ready_term}
use Rattle.ir_rules.specs.Parts.{block_places, function_places, place}
use Rattle.ir_rules.specs.declared.place.Place.{Place}
use Rattle.ir_tree.specs.declared.types.Block.{Block}
use Rattle.ir_tree.specs.declared.types.Function.{Function}
use Rattle.ir_tree.specs.declared.types.Instr.{Instr}
use Rattle.spec_lists.specs.Each.{each, only_if}

map_each : {X Y Z : Type 0} (g : Y → Z) (make : ℕ → X → List Y) (made : ℕ → X → List Z) (n : ℕ) (xs : List X) → ((i : ℕ) (x : X) → map g (make i x) ≡ made i x) → map g (each make n xs) ≡ each made n xs
map_each g make made n [] alike = refl
map_each g make made n (x ∷ xs) alike = map-append g (make n x) (each make (n + 1) xs) ∙ (λ i. alike n x i ++ map_each g make made (n + 1) xs alike i)

map_only : {Y Z : Type 0} (g : Y → Z) (test : Bool) (y : Y) → map g (only_if test y) ≡ only_if test (g y)
map_only g true y = refl
map_only g false y = refl

module _ (k : ℕ) (f : Function) where
  abbrev at_place : ℕ × ℕ → Place
  at_place at = place k at.0 at.1

  block_alike : (b : ℕ) (block : Block) → map at_place (unready_in f b block) ≡ block_places assigned k f b block
  block_alike b block =
      map-append at_place (each (λ (i : ℕ) (x : Instr). only_if (not (is_ready f b block i x)) (b, i)) 0 block.instrs) (only_if (not (is_ready_term f b block)) (b, length block.instrs)) ∙ (λ j. items j ++ exit j)
    where
      items : map at_place (each (λ (i : ℕ) (x : Instr). only_if (not (is_ready f b block i x)) (b, i)) 0 block.instrs) ≡ each (λ (i : ℕ) (x : Instr). only_if (not (is_ready f b block i x)) (place k b i)) 0 block.instrs
      items = map_each at_place (λ (i : ℕ) (x : Instr). only_if (not (is_ready f b block i x)) (b, i)) (λ (i : ℕ) (x : Instr). only_if (not (is_ready f b block i x)) (place k b i)) 0 block.instrs (λ i x. map_only at_place (not (is_ready f b block i x)) (b, i))

      exit : map at_place (only_if (not (is_ready_term f b block)) (b, length block.instrs)) ≡ only_if (not (is_ready_term f b block)) (place k b (length block.instrs))
      exit = map_only at_place (not (is_ready_term f b block)) (b, length block.instrs)

  pub unready_alike : map at_place (unready f) ≡ function_places assigned k f
  unready_alike = map_each at_place (unready_in f) (block_places assigned k f) 0 f.blocks block_alike
