-- Where there is no phi no place breaks the rule on entries.
use Rattle.std.proofs.Common.{◌≡◌, ℕ, ◌+◌, Bool, true, false, ◌&&◌, not, List, [], ◌∷◌, ◌++◌, Option, None, Some, is_some, refl, sym, ap}
use Rattle.std.specs.List.{list_all}
use Rattle.std.proofs.lemmas.Bool.{and_parts, false≢true}
use Rattle.check_flow.specs.Phis.{are_without_phis, unmatched_places}
use Rattle.ir_rules.specs.Parts.{place, unless}
use Rattle.ir_rules.specs.PhiEntries.{are_matched_if_any}
use Rattle.ir_rules.specs.declared.place.Place.{Place}
use Rattle.ir_tree.specs.Operands.{Entries}
use Rattle.ir_tree.specs.Phis.{entries_of, is_phi}
use Rattle.ir_tree.specs.declared.types.Block.{Block}
use Rattle.ir_tree.specs.declared.types.Instr.{Instr}
use Rattle.spec_lists.specs.Each.{each, first_of}

no_entries : (all : List Block) (label : List ℕ) (found : Option Entries) (at : Place) → not (is_some found) ≡ true → unless (are_matched_if_any all label found) at ≡ []
no_entries all label None at h = refl
no_entries all label (Some es) at h = absurd (false≢true h)

free_items : (all : List Block) (label : List ℕ) (k b n : ℕ) (xs : List Instr) → list_all (λ x. not (is_phi x)) xs ≡ true → each (λ i x. unless (are_matched_if_any all label (entries_of x)) (place k b i)) n xs ≡ []
free_items all label k b n [] h = refl
free_items all label k b n (x ∷ xs) h =
    let parts = and_parts (not (is_phi x)) (list_all (λ y. not (is_phi y)) xs) h in
    λ i. no_entries all label (entries_of x) (place k b n) parts.0 i ++ free_items all label k b (n + 1) xs parts.1 i

free_blocks : (all : List Block) (k n : ℕ) (blocks : List Block) → are_without_phis blocks ≡ true → each (unmatched_places all k) n blocks ≡ []
free_blocks all k n [] h = refl
free_blocks all k n (block ∷ blocks) h =
    let parts = and_parts (list_all (λ x. not (is_phi x)) block.instrs) (are_without_phis blocks) h in
    λ i. free_items all block.label k n 0 block.instrs parts.0 i ++ free_blocks all k (n + 1) blocks parts.1 i

pub none_unmatched : (all : List Block) (k n : ℕ) (blocks : List Block) → are_without_phis blocks ≡ true → None ≡ first_of (each (unmatched_places all k) n blocks)
none_unmatched all k n blocks h = ap (λ (ps : List Place). first_of ps) (sym (free_blocks all k n blocks h))
