-- One row more, behind those that ends cut out of a list.
use Rattle.std.proofs.Common.{◌≡◌, ℕ, ◌+◌, ◌-◌, ◌<◌, ◌≤◌, List, [], ◌∷◌, ◌++◌, length, map, take, drop, get_or, refl, sym, ap, subst, ◌∙◌, arith, length-append}
use Rattle.std.specs.Prelude.{slice_range}
use Rattle.std.proofs.lemmas.List.{take-append-le, drop-append-le, drop_at, take_all, length-drop, map_more}
use Rattle.block_search.specs.Rows.{cut, AreEnds}

last_within : (start : ℕ) (ends : List ℕ) (size : ℕ) → AreEnds start ends size → start ≤ size
last_within start [] size e = omega (arith, e)
last_within start (x ∷ xs) size h = omega (arith, h.0, last_within x xs size h.1)

-- a row that ends before the list does stays when the list grows
range_stays : (targets more : List ℕ) (start end : ℕ) → start ≤ end → end ≤ length targets → slice_range (targets ++ more) start end ≡ slice_range targets start end
range_stays targets more start end rises within =
    ap (λ (xs : List ℕ). take (end - start) xs) (drop-append-le start targets more (omega (arith, rises, within)))
    ∙ take-append-le (end - start) (drop start targets) more (omega (arith, rises, within, length-drop start targets))

last_row : (targets more : List ℕ) (start : ℕ) → start ≡ length targets → slice_range (targets ++ more) start (length (targets ++ more)) ≡ more
last_row targets more start is =
    ap (λ (xs : List ℕ). take (length (targets ++ more) - start) xs) (drop_at targets more start (sym is))
    ∙ take_all (length (targets ++ more) - start) more (omega (arith, is, length-append targets more))

pub cut_more : (start : ℕ) (ends targets more : List ℕ) → AreEnds start ends (length targets) → cut start (ends ++ length (targets ++ more) ∷ []) (targets ++ more) ≡ cut start ends targets ++ more ∷ []
cut_more start [] targets more h = ap (λ (r : List ℕ). r ∷ []) (last_row targets more start h)
cut_more start (e ∷ es) targets more h =
    (λ i. range_stays targets more start e h.0 (last_within e es (length targets) h.1) i ∷ cut_more e es targets more h.1 i)

pub ends_more : (start : ℕ) (ends targets more : List ℕ) → AreEnds start ends (length targets) → AreEnds start (ends ++ length (targets ++ more) ∷ []) (length (targets ++ more))
ends_more start [] targets more h = (omega (arith, h, length-append targets more), refl)
ends_more start (e ∷ es) targets more h = (h.0, ends_more e es targets more h.1)

-- the loop, one row on
pub rows_on : {X : Type 0} (g : X → List ℕ) (xs : List X) (i : ℕ) (x : X) (ends targets ends' targets' : List ℕ) (size : ℕ) → i < length xs → x ≡ get_or xs i x → targets' ≡ targets ++ g x → size ≡ length targets' → ends' ≡ ends ++ size ∷ [] → cut 0 ends targets ≡ map g (take i xs) → AreEnds 0 ends (length targets)
    → (cut 0 ends' targets' ≡ map g (take (i + 1) xs)) × AreEnds 0 ends' (length targets')
rows_on g xs i x ends targets ends' targets' size within read more is put so_far h =
    let grown : ends' ≡ ends ++ length (targets ++ g x) ∷ [] = put ∙ ap (λ (n : ℕ). ends ++ n ∷ []) (is ∙ ap (λ (ts : List ℕ). length ts) more) in
    let all : map g (take (i + 1) xs) ≡ map g (take i xs) ++ g x ∷ [] = map_more g xs i x within ∙ ap (λ y. map g (take i xs) ++ g y ∷ []) (sym read) in (
      (λ j. cut 0 (grown j) (more j)) ∙ cut_more 0 ends targets (g x) h ∙ ap (λ (rs : List (List ℕ)). rs ++ g x ∷ []) so_far ∙ sym all,
      subst (λ (ts : List ℕ). AreEnds 0 ends' (length ts)) (sym more) (subst (λ (es : List ℕ). AreEnds 0 es (length (targets ++ g x))) (sym grown) (ends_more 0 ends targets (g x) h)),
    )
