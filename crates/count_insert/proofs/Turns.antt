-- What is made of the items of a list, one item further, and of a plan that puts in nothing.
use Rattle.std.proofs.Common.{◌≡◌, ℕ, suc, ◌+◌, ◌<◌, Bool, true, false, cond, List, [], ◌∷◌, ◌++◌, length, take, drop, get_or, refl, sym, ap, ◌∙◌, append_assoc, add-one, drop-cons}
use Rattle.std.proofs.Math.ListN.{set}
use Rattle.std.proofs.lemmas.List.{set_split}
use Rattle.spec_lists.specs.Each.{each}
use Rattle.spec_lists.proofs.Each.{each_dropped}
use Rattle.count_plan.specs.Ways.{new_at, no_block_plan, renaming, renamings_from}
use Rattle.ir_tree.specs.Names.{same}
use Rattle.ir_tree.specs.Operands.{Entries}
use Rattle.ir_tree.specs.Phis.{rename_first}
use Rattle.ir_tree.specs.Successors.{successors}
use Rattle.ir_tree.specs.declared.types.Block.{Block}
use Rattle.ir_tree.specs.declared.types.Operand.{Operand}

module _ {X Y : Type 0} (make : ℕ → X → List Y) where
  pub put_behind : (xs : List X) (i : ℕ) (d : X) → i < length xs → (now next all : List Y) → next ≡ now ++ make i (get_or xs i d) → now ++ each make i (drop i xs) ≡ all → next ++ each make (i + 1) (drop (i + 1) xs) ≡ all
  put_behind xs i d h now next all put was =
      let rest : List Y = each make (i + 1) (drop (i + 1) xs) in
      ap (λ (zs : List Y). zs ++ rest) put ∙ append_assoc now (make i (get_or xs i d)) rest ∙ ap (λ (zs : List Y). now ++ zs) (sym (each_dropped make xs i d h)) ∙ was

  none_made : ((n : ℕ) (x : X) → make n x ≡ []) → (n : ℕ) (xs : List X) → each make n xs ≡ []
  none_made h n [] = refl
  none_made h n (x ∷ xs) = (λ i. h n x i ++ each make (n + 1) xs) ∙ none_made h (n + 1) xs

nothing_renamed : (b : Bool) (tail : List ℕ) (p : ℕ) → renaming b tail (new_at no_block_plan p) ≡ []
nothing_renamed true tail p = refl
nothing_renamed false tail p = refl

pub no_renamings : (l : List ℕ) (b : Block) → renamings_from l no_block_plan b ≡ []
no_renamings l b = none_made (λ p to. renaming (same l to) b.label (new_at no_block_plan p)) (λ p to. nothing_renamed (same l to) b.label p) 0 (successors b.term)

pub drop_turn : {X : Type 0} (xs : List X) (i : ℕ) (x : X) → i < length xs → x ≡ get_or xs i x → drop i xs ≡ x ∷ drop (i + 1) xs
drop_turn xs i x h is = drop-cons xs i x h ∙ (λ k. sym is k ∷ drop (sym (add-one i) k) xs)

-- the first entry for a label is renamed, where a search has come to it
pub renamed_here : (label other : List ℕ) (es : Entries) (i : ℕ) (d : Operand × List ℕ) → i < length es → same label (get_or es i d).1 ≡ true → (new : List ℕ) → new ≡ other → (all : Entries) → take i es ++ rename_first label other (drop i es) ≡ all → set es i ((get_or es i d).0, new) ≡ all
renamed_here label other es i d h is new copied all was =
    let e : Operand × List ℕ = get_or es i d in
    let rest : Entries = drop (suc i) es in
    let here : rename_first label other (drop i es) ≡ (e.0, other) ∷ rest =
    ap (λ (zs : Entries). rename_first label other zs) (drop-cons es i d h) ∙ ap (λ b. cond b ((e.0, other) ∷ rest) (e ∷ rename_first label other rest)) is in
    set_split es i (e.0, new) h ∙ (λ k. take i es ++ ((e.0, copied k) ∷ rest)) ∙ ap (λ (zs : Entries). take i es ++ zs) (sym here) ∙ was
