-- The block under a label: by its place in the text, and as a run finds it.
use Rattle.std.proofs.Common.{◌≡◌, ℕ, zero, suc, ◌+◌, ◌<◌, true, cond, not, List, [], ◌∷◌, length, get_or, Option, Some, refl, sym, ap, ◌∙◌, arith}
use Rattle.std.specs.Prelude.{find, slice_get, option_and_then}
use Rattle.std.specs.List.{position_or_len}
use Rattle.std.proofs.lemmas.List.{length-map}
use Rattle.std.proofs.lemmas.List.Folds.{find_at}
use Rattle.std.proofs.lemmas.List.Quantifiers.{position-Some}
use Rattle.std.proofs.lemmas.List.Sums.{position_or_len_is}
use Rattle.std.proofs.lemmas.Option.{none-some, same_Some}
use Rattle.ir_tree.specs.Edges.{block_place, labels}
use Rattle.ir_tree.specs.Names.{same}
use Rattle.ir_tree.specs.Successors.{successors}
use Rattle.ir_tree.specs.declared.types.Block.{Block}
use Rattle.ir_tree.specs.declared.types.Function.{Function}
use Rattle.ir_tree.specs.declared.types.Module.{Module}
use Rattle.ir_tree.specs.Functions.{function_at}
use Rattle.ir_model.specs.Step.{sought}
use Rattle.cfg_edges.specs.Graph.{successors_of}

abbrev pub first_place : List Block → List ℕ → ℕ
first_place blocks l = position_or_len (λ (b : Block). same l b.label) blocks

places_same : (l : List ℕ) (blocks : List Block) → position_or_len (same l) (labels blocks) ≡ first_place blocks l
places_same l [] = refl
places_same l (b ∷ bs) = ap (λ (n : ℕ). cond {A = ℕ} (not (same l b.label)) (1 + n) 0) (places_same l bs)

-- the block that a label names is at the label's first place, and has the label
pub named_at : (blocks : List Block) (l : List ℕ) (b : ℕ) → block_place blocks l ≡ Some b → (b < length blocks) × (same l (get_or (labels blocks) b []) ≡ true) × (first_place blocks l ≡ b)
named_at blocks l b h =
    let (within, here, before) = position-Some (same l) (labels blocks) b [] h in
    let inside : b < length blocks = omega (arith, within, length-map blocks (λ (x : Block). x.label)) in
    let fits : b < length (labels blocks) → same l (get_or (labels blocks) b []) ≡ true = λ w. here in
    (inside, here, sym (places_same l blocks) ∙ position_or_len_is (same l) (labels blocks) b [] (omega (arith, within)) before fits)

module _ (m : Module) (k : ℕ) (f : Function) (at : function_at m k ≡ Some f) where
  pub sought_at : (l : List ℕ) (b : ℕ) → block_place f.blocks l ≡ Some b → sought m k l ≡ slice_get f.blocks b
  sought_at l b h =
      let (inside, here, place) = named_at f.blocks l b h in
      ap (λ (o : Option Function). option_and_then (λ (g : Function). find (λ (x : Block). same l x.label) g.blocks) o) at
      ∙ find_at (λ (x : Block). same l x.label) f.blocks
      ∙ ap (λ (n : ℕ). slice_get f.blocks n) place

pub successors_at : (blocks : List Block) (b : ℕ) (c : Block) → slice_get blocks b ≡ Some c → successors_of blocks b ≡ successors c.term
successors_at [] b c h = absurd (none-some c h)
successors_at (x ∷ xs) zero c h = ap (λ (y : Block). successors y.term) (same_Some x c h)
successors_at (x ∷ xs) (suc b) c h = successors_at xs b c h
