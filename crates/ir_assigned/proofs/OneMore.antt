-- One operand more of a list.
use Rattle.std.proofs.Common.{◌≡◌, ℕ, zero, suc, ◌+◌, ◌<◌, List, [], ◌∷◌, ◌++◌, length, take, Option, Some, None, slice_get, refl, sym, ap, ◌∙◌, arith, append_assoc}
use Rattle.std.specs.List.{flat_map}
use Rattle.std.proofs.lemmas.List.{append-nil}
use Rattle.ir_assigned.specs.Reads.{LocalOf, operand_read, uses_reads}
use Rattle.ir_assigned.specs.declared.reads.Read.{Read}
use Rattle.ir_tree.specs.Operands.{Use, listed}

-- what is made of the first i + 1 operands is what is made of i, and then of the next
uses_taken : (known : LocalOf) (b k : ℕ) (us : List Use) (i : ℕ) → uses_reads known b k (take (i + 1) us) ≡ uses_reads known b k (take i us) ++ uses_reads known b k (listed (slice_get us i))
uses_taken known b k [] zero = refl
uses_taken known b k [] (suc i) = ap (λ (n : ℕ). uses_reads known b k (take n [])) (let e : suc i + 1 ≡ suc (i + 1) = omega arith in e)
uses_taken known b k (u ∷ us) zero = refl
uses_taken known b k (u ∷ us) (suc i) = ap (λ (n : ℕ). uses_reads known b k (take n (u ∷ us))) (let e : suc i + 1 ≡ suc (i + 1) = omega arith in e) ∙ (ap (λ (rs : List Read). operand_read known b k u.1 ++ rs) (uses_taken known b k us i) ∙ sym (append_assoc (operand_read known b k u.1) (uses_reads known b k (take i us)) (uses_reads known b k (listed (slice_get us i)))))

pub uses_more : (known : LocalOf) (b k : ℕ) (us : List Use) (i : ℕ) (start now next : List Read) (o : Option Use) → o ≡ slice_get us i → now ≡ start ++ uses_reads known b k (take i us) → next ≡ now ++ uses_reads known b k (listed o) → next ≡ start ++ uses_reads known b k (take (i + 1) us)
uses_more known b k us i start now next o is was put =
    put ∙ ((λ j. was j ++ uses_reads known b k (listed (is j))) ∙ (append_assoc start (uses_reads known b k (take i us)) (uses_reads known b k (listed (slice_get us i))) ∙ ap (λ (rs : List Read). start ++ rs) (sym (uses_taken known b k us i))))
