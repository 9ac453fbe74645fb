-- What is makeed of the items of a list, one item further.
use Rattle.std.proofs.Common.{◌≡◌, ℕ, ◌+◌, ◌<◌, List, [], ◌∷◌, ◌++◌, length, take, drop, get_or, sym, ap, ◌∙◌, append_assoc, arith, zero-add, add-zero, add-one, drop-cons}
use Rattle.std.proofs.lemmas.List.{append-nil, take_more, length-take-le}
use Rattle.spec_lists.specs.Each.{each}

module _ {X Y : Type 0} (make : ℕ → X → List Y) where
  pub each-push : (n : ℕ) (xs : List X) (x : X) → each make n (xs ++ x ∷ []) ≡ each make n xs ++ make (n + length xs) x
  each-push n [] x = append-nil (make n x) ∙ ap (λ (m : ℕ). make m x) (sym (add-zero n))
  each-push n (y ∷ ys) x =
      let shift : n + 1 + length ys ≡ n + length (y ∷ ys) = omega arith in
      ap (λ (zs : List Y). make n y ++ zs) (each-push (n + 1) ys x) ∙ sym (append_assoc (make n y) (each make (n + 1) ys) (make (n + 1 + length ys) x)) ∙ ap (λ (m : ℕ). (make n y ++ each make (n + 1) ys) ++ make m x) shift

  pub each_taken : (xs : List X) (i : ℕ) (d : X) → i < length xs → each make 0 (take (i + 1) xs) ≡ each make 0 (take i xs) ++ make i (get_or xs i d)
  each_taken xs i d h =
      let long : 0 + length (take i xs) ≡ i = zero-add (length (take i xs)) ∙ length-take-le i xs (omega arith) in
      ap (λ (zs : List X). each make 0 zs) (take_more xs i d h) ∙ each-push 0 (take i xs) (get_or xs i d) ∙ ap (λ (m : ℕ). each make 0 (take i xs) ++ make m (get_or xs i d)) long

  pub each_dropped : (xs : List X) (i : ℕ) (d : X) → i < length xs → each make i (drop i xs) ≡ make i (get_or xs i d) ++ each make (i + 1) (drop (i + 1) xs)
  each_dropped xs i d h =
      let next : drop i xs ≡ get_or xs i d ∷ drop (i + 1) xs = drop-cons xs i d h ∙ ap (λ (m : ℕ). get_or xs i d ∷ drop m xs) (sym (add-one i)) in
      ap (λ (zs : List X). each make i zs) next

  -- what a loop has put behind the start, one item further
  pub appended : (start now next : List Y) (xs : List X) (i : ℕ) (x : X) → i < length xs → x ≡ get_or xs i x → now ≡ start ++ each make 0 (take i xs) → next ≡ now ++ make i x → next ≡ start ++ each make 0 (take (i + 1) xs)
  appended start now next xs i x h is was put =
      let more : each make 0 (take (i + 1) xs) ≡ each make 0 (take i xs) ++ make i x = each_taken xs i x h ∙ ap (λ (z : X). each make 0 (take i xs) ++ make i z) (sym is) in
      put ∙ ap (λ (zs : List Y). zs ++ make i x) was ∙ append_assoc start (each make 0 (take i xs)) (make i x) ∙ ap (λ (zs : List Y). start ++ zs) (sym more)
