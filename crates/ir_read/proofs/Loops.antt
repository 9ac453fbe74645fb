-- Lemmas for a loop that reads a repetition, `for _turn in 0..=end`, where no more than `end` tokens are left. It keeps
-- that what is read from the beginning is `many_from` with the turns that are left, behind what it has found.
use Rattle.std.specs.Prelude.{◌≡◌, ℕ, suc, ◌+◌, ◌-◌, ◌≤◌, Bool, true, cond, List, [], ◌∷◌, ◌++◌, length, Some}
use Rattle.std.proofs.Common.{sym, ◌∙◌, ap, arith}
use Rattle.ir_grammar.specs.Rules.{Rule, TakesToken, many_from, many_from-enough, read_then}

-- before the first turn
pub many_begin : {T A : Type 0} (begins : List T → Bool) (r : Rule T A) → TakesToken r → (found list : List A) (ts : List T) (end : ℕ) → length ts ≤ end → list ≡ found → many_from begins r (suc (length ts)) found ts ≡ many_from begins r (suc end - 0) list ts
many_begin begins r takes found list ts end h e =
    let turns : suc end - 0 ≡ suc end = omega arith in
    many_from-enough begins r takes (suc (length ts)) (suc end) found ts (omega arith) (omega arith)
    ∙ ap (λ n. many_from begins r n found ts) (sym turns)
    ∙ ap (λ xs. many_from begins r (suc end - 0) xs ts) (sym e)

-- one item more
pub many_next : {T A : Type 0} (begins : List T → Bool) (r : Rule T A) (end turn : ℕ) (found list : List A) (ts : List T) (x : A) (middle : List T) → turn ≤ end → begins ts ≡ true → r.read ts ≡ Some (x, middle) → list ≡ found ++ x ∷ [] → many_from begins r (suc end - turn) found ts ≡ many_from begins r (suc end - (turn + 1)) list middle
many_next begins r end turn found list ts x middle h b e more =
    let here : suc end - turn ≡ suc (suc end - (turn + 1)) = omega arith in
    ap (λ n. many_from begins r n found ts) here
    ∙ ap (λ t. cond t (read_then (r.read ts) (λ y. many_from begins r (suc end - (turn + 1)) (found ++ y ∷ []))) (Some (found, ts))) b
    ∙ ap (λ o. read_then o (λ y. many_from begins r (suc end - (turn + 1)) (found ++ y ∷ []))) e
    ∙ ap (λ xs. many_from begins r (suc end - (turn + 1)) xs middle) (sym more)
