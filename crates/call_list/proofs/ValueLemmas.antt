-- Values of words, one after the other.
use Rattle.std.proofs.Common.{◌≡◌, ◌≢◌, ℕ, zero, suc, ◌+◌, ◌<◌, ◌≤◌, List, [], ◌∷◌, ◌++◌, map, length, drop, get_or, Option, Some, None, refl, sym, ◌∙◌, ap, arith, add-one, append_assoc, append-nil}
use Rattle.std.proofs.Math.Seq.{drop-cons}
use Rattle.std.specs.Option.{option_map}
use Rattle.ir_tree.specs.declared.types.Ty.{Ty}
use Rattle.call_list.specs.Meaning.{value_of, values_of, onto}

onto-none : (o : Option ℕ) → onto o None ≡ None
onto-none None = refl
onto-none (Some x) = refl

pub values_of-uneven : (ps : List (Ty × List ℕ)) (ws : List (List ℕ)) → length ps ≢ length ws → values_of ps ws ≡ None
values_of-uneven [] [] h = absurd (h refl)
values_of-uneven [] (w ∷ ws) h = refl
values_of-uneven (p ∷ ps) [] h = refl
values_of-uneven (p ∷ ps) (w ∷ ws) h = ap (onto (value_of p.0 w)) (values_of-uneven ps ws (λ e. h (ap suc e))) ∙ onto-none (value_of p.0 w)

-- values that were found, in front of what the others give
abbrev pub behind : List ℕ → Option (List ℕ) → Option (List ℕ)
behind found o = option_map (λ xs. found ++ xs) o

pub behind-none_found : (o : Option (List ℕ)) → behind [] o ≡ o
behind-none_found None = refl
behind-none_found (Some xs) = refl

behind-onto : (found : List ℕ) (x : ℕ) (o : Option (List ℕ)) → behind found (onto (Some x) o) ≡ behind (found ++ x ∷ []) o
behind-onto found x None = refl
behind-onto found x (Some xs) = ap Some (sym (append_assoc found (x ∷ []) xs))
