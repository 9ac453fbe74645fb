-- Moves are written one after another.
use Rattle.std.proofs.Common.{◌≡◌, ℕ, zero, suc, ◌+◌, ◌<◌, List, [], ◌∷◌, length, drop, get_or, refl, sym, ◌∙◌, ap, arith}
use Rattle.std.proofs.Math.Seq.{drop-cons}
use Rattle.std.specs.Prelude.{slice_get, Some, unwrap_or}
use Rattle.ir_code.specs.declared.code.Move.{Move}
use Rattle.ir_memory.specs.declared.value.Value.{Value}
use Rattle.ir_memory.specs.declared.value.Value.TheVariants as values
use Rattle.ir_machine.specs.Steps.{register_value, with_target, put_all}

first_dropped : (vs : List Value) (i : ℕ) → slice_get (drop i vs) 0 ≡ slice_get vs i
first_dropped [] zero = refl
first_dropped [] (suc i) = refl
first_dropped (v ∷ vs) zero = refl
first_dropped (v ∷ vs) (suc i) = first_dropped vs i

one_more_dropped : (vs : List Value) (i : ℕ) → drop 1 (drop i vs) ≡ drop (suc i) vs
one_more_dropped [] zero = refl
one_more_dropped [] (suc i) = refl
one_more_dropped (v ∷ vs) zero = refl
one_more_dropped (v ∷ vs) (suc i) = one_more_dropped vs i

-- with the move at a place written, those behind it are left
pub put_more : (regs new : List Value) (ms : List Move) (vs : List Value) (i : ℕ) (v : Value) (d : Move) → i < length ms → v ≡ register_value vs i → new ≡ with_target regs (Some (get_or ms i d).into) v → put_all new (drop (i + 1) ms) (drop (i + 1) vs) ≡ put_all regs (drop i ms) (drop i vs)
put_more regs new ms vs i v d h value written =
    let next : i + 1 ≡ suc i = omega arith in
    let here : drop i ms ≡ get_or ms i d ∷ drop (suc i) ms = drop-cons ms i d h in
    (λ j. put_all (written j) (drop (next j) ms) (drop (next j) vs))
    ∙ (λ j. put_all (with_target regs (Some (get_or ms i d).into) ((value ∙ ap (λ o. unwrap_or o (values.Int 0)) (sym (first_dropped vs i))) j)) (drop (suc i) ms) (sym (one_more_dropped vs i) j))
    ∙ ap (λ l. put_all regs l (drop i vs)) (sym here)
