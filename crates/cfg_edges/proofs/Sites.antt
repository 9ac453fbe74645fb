-- The places of sought instructions, one more instruction or block on.
use Rattle.std.proofs.Common.{◌≡◌, ℕ, ◌+◌, Bool, true, false, cond, List, [], ◌∷◌, ◌++◌, Option, Some, slice_get, refl, sym, ap, ◌∙◌, append_assoc}
use Rattle.ir_tree.specs.Graphs.{places_from, places_in, places_of}
use Rattle.ir_tree.specs.declared.types.Block.{Block}
use Rattle.ir_tree.specs.declared.types.Instr.{Instr}

abbrev pub place_if : Bool → ℕ × ℕ → List (ℕ × ℕ)
place_if b place = cond b (place ∷ []) []

place_first : (test : Instr → Bool) (b i : ℕ) (x : Instr) (xs : List Instr) (m : Bool) → test x ≡ m → cond m ((b, i) ∷ places_from test b (i + 1) xs) (places_from test b (i + 1) xs) ≡ place_if m (b, i) ++ places_from test b (i + 1) xs
place_first test b i x xs true is = refl
place_first test b i x xs false is = refl

-- what is left of the block gives the same
pub places_on : (test : Instr → Bool) (b i : ℕ) (left : List Instr) (x : Instr) (rest : List Instr) (now next all : List (ℕ × ℕ)) → left ≡ x ∷ rest → next ≡ now ++ place_if (test x) (b, i) → now ++ places_from test b i left ≡ all → next ++ places_from test b (i + 1) rest ≡ all
places_on test b i left x rest now next all first put was =
    ap (λ (ps : List (ℕ × ℕ)). ps ++ places_from test b (i + 1) rest) put
    ∙ append_assoc now (place_if (test x) (b, i)) (places_from test b (i + 1) rest)
    ∙ ap (λ (ps : List (ℕ × ℕ)). now ++ ps) (sym (place_first test b i x rest (test x) refl))
    ∙ ap (λ (is : List Instr). now ++ places_from test b i is) (sym first)
    ∙ was

pub blocks_on : (test : Instr → Bool) (all : List Block) (left : List ℕ) (b : ℕ) (rest : List ℕ) (block : Block) (now next whole : List (ℕ × ℕ)) → left ≡ b ∷ rest → slice_get all b ≡ Some block → next ≡ now ++ places_from test b 0 block.instrs → now ++ places_of test all left ≡ whole → next ++ places_of test all rest ≡ whole
blocks_on test all left b rest block now next whole first at put was =
    ap (λ (ps : List (ℕ × ℕ)). ps ++ places_of test all rest) put
    ∙ append_assoc now (places_from test b 0 block.instrs) (places_of test all rest)
    ∙ ap (λ (o : Option Block). now ++ (places_in test b o ++ places_of test all rest)) (sym at)
    ∙ ap (λ (bs : List ℕ). now ++ places_of test all bs) (sym first)
    ∙ was
