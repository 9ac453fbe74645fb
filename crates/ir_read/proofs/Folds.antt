-- Lemmas for a loop that reads a repetition and keeps one value of all items, `for _turn in 0..=end`, where no more than
-- `end` tokens are left. It keeps that what is read from the beginning is `fold_from` with the turns that are left.
use Rattle.std.specs.Prelude.{◌≡◌, ℕ, zero, suc, ◌+◌, ◌-◌, ◌≤◌, Bool, true, false, cond, List, [], ◌∷◌, ◌++◌, length, Option, Some, None, Err}
use Rattle.std.proofs.Common.{refl, sym, ◌∙◌, ap, arith}
use Rattle.ir_lex.specs.Tokens.{Token}
use Rattle.ir_read.specs.Ahead.{Ahead}
use Rattle.ir_read.specs.Reads.{Reads}
use Rattle.ir_read.specs.declared.stop.Stop.{Stop}
use Rattle.ir_read.specs.declared.stop.Stop.TheVariants.{Syntax, NoMemory}
use Rattle.ir_grammar.specs.Rules.{Rule, TakesToken, many_from, many_from-enough, read_then}

-- reading with a bound on how many there are, behind those whose value this is
abbrev pub fold_from : {T A B : Type 0} → (List T → Bool) → Rule T A → (B → A → B) → ℕ → B → List T → Option (B × List T)
fold_from begins r put zero kept ts = None
fold_from begins r put (suc turns) kept ts = cond (begins ts) (read_then (r.read ts) (λ x us. fold_from begins r put turns (put kept x) us)) (Some (kept, ts))

-- the value of a list goes on by the value of each item
abbrev pub GoesOn : {A B : Type 0} → (List A → B) → (B → A → B) → Type 0
GoesOn {A} g put = (xs : List A) (x : A) → g (xs ++ x ∷ []) ≡ put (g xs) x

-- the value of what was read
abbrev pub valued : {T A B : Type 0} → (List A → B) → List A → List T → Option (B × List T)
valued g xs us = Some (g xs, us)

many_folds : {T A B : Type 0} (begins : List T → Bool) (r : Rule T A) (put : B → A → B) (g : List A → B) → GoesOn g put → (turns : ℕ) (found : List A) (ts : List T) → read_then (many_from begins r turns found ts) (valued g) ≡ fold_from begins r put turns (g found) ts
many_folds begins r put g goes_on zero found ts = refl
many_folds {T} {A} {B} begins r put g goes_on (suc turns) found ts =
    choose (λ more us. many_folds begins r put g goes_on turns more us) (begins ts)
  where
    Later : Type 0
    Later = (more : List A) (us : List T) → read_then (many_from begins r turns more us) (valued g) ≡ fold_from begins r put turns (g more) us

    item : Later → (o : Option (A × List T)) → read_then (read_then o (λ x. many_from begins r turns (found ++ x ∷ []))) (valued g) ≡ read_then o (λ x us. fold_from begins r put turns (put (g found) x) us)
    item later None = refl
    item later (Some p) = later (found ++ p.0 ∷ []) p.1 ∙ ap (λ kept. fold_from begins r put turns kept p.1) (goes_on found p.0)

    choose : Later → (b : Bool) → read_then (cond b (read_then (r.read ts) (λ x. many_from begins r turns (found ++ x ∷ []))) (Some (found, ts))) (valued g) ≡ cond b (read_then (r.read ts) (λ x us. fold_from begins r put turns (put (g found) x) us)) (Some (g found, ts))
    choose later true = item later (r.read ts)
    choose later false = refl

-- before the first turn
pub fold_begin : {T A B : Type 0} (begins : List T → Bool) (r : Rule T A) (put : B → A → B) (g : List A → B) → GoesOn g put → TakesToken r → (kept : B) (ts : List T) (end : ℕ) → length ts ≤ end → kept ≡ g [] → read_then (many_from begins r (suc (length ts)) [] ts) (valued g) ≡ fold_from begins r put (suc end - 0) kept ts
fold_begin begins r put g goes_on takes kept ts end h e =
    let turns : suc end - 0 ≡ suc end = omega arith in
    ap (λ o. read_then o (valued g)) (many_from-enough begins r takes (suc (length ts)) (suc end) [] ts (omega arith) (omega arith))
    ∙ many_folds begins r put g goes_on (suc end) [] ts
    ∙ ap (λ n. fold_from begins r put n (g []) ts) (sym turns)
    ∙ ap (λ k. fold_from begins r put (suc end - 0) k ts) (sym e)

-- one item more
pub fold_next : {T A B : Type 0} (begins : List T → Bool) (r : Rule T A) (put : B → A → B) (end turn : ℕ) (kept next : B) (ts : List T) (x : A) (middle : List T) → turn ≤ end → begins ts ≡ true → r.read ts ≡ Some (x, middle) → next ≡ put kept x → fold_from begins r put (suc end - turn) kept ts ≡ fold_from begins r put (suc end - (turn + 1)) next middle
fold_next begins r put end turn kept next ts x middle h b e more =
    let here : suc end - turn ≡ suc (suc end - (turn + 1)) = omega arith in
    ap (λ n. fold_from begins r put n kept ts) here
    ∙ ap (λ t. cond t (read_then (r.read ts) (λ y us. fold_from begins r put (suc end - (turn + 1)) (put kept y) us)) (Some (kept, ts))) b
    ∙ ap (λ o. read_then o (λ y us. fold_from begins r put (suc end - (turn + 1)) (put kept y) us)) e
    ∙ ap (λ k. fold_from begins r put (suc end - (turn + 1)) k middle) (sym more)

-- no further item
pub fold_end : {T A B : Type 0} (begins : List T → Bool) (r : Rule T A) (put : B → A → B) (end turn : ℕ) (kept : B) (ts : List T) → turn ≤ end → begins ts ≡ false → fold_from begins r put (suc end - turn) kept ts ≡ Some (kept, ts)
fold_end begins r put end turn kept ts h b =
    let here : suc end - turn ≡ suc (suc end - (turn + 1)) = omega arith in
    ap (λ n. fold_from begins r put n kept ts) here
    ∙ ap (λ t. cond t (read_then (r.read ts) (λ y us. fold_from begins r put (suc end - (turn + 1)) (put kept y) us)) (Some (kept, ts))) b

-- an item that is not read
pub fold_stops : {T A B : Type 0} (begins : List T → Bool) (r : Rule T A) (put : B → A → B) (end turn : ℕ) (kept : B) (ts : List T) → turn ≤ end → begins ts ≡ true → r.read ts ≡ None → fold_from begins r put (suc end - turn) kept ts ≡ None
fold_stops begins r put end turn kept ts h b e =
    let here : suc end - turn ≡ suc (suc end - (turn + 1)) = omega arith in
    ap (λ n. fold_from begins r put n kept ts) here
    ∙ ap (λ t. cond t (read_then (r.read ts) (λ y us. fold_from begins r put (suc end - (turn + 1)) (put kept y) us)) (Some (kept, ts))) b
    ∙ ap (λ o. read_then o (λ y us. fold_from begins r put (suc end - (turn + 1)) (put kept y) us)) e

-- what stops the reading of a part stops that of the whole
pub stops_with : {A B : Type 0} (stop : Stop) (old middle new : Ahead) (part : List Token → Option (A × List Token)) (read : List Token → Option (B × List Token)) → Reads (Err stop) middle new part → (part middle.tokens ≡ None → read old.tokens ≡ None) → Reads (Err stop) old new read
stops_with Syntax old middle new part read h f = f h
stops_with NoMemory old middle new part read h f = tt
