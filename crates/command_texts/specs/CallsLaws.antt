-- A calls text that is refused makes no calls, and one makes one list of calls.
use Rattle.std.specs.Prelude.{◌≡◌, ℕ, ◌<◌, true, false, List, length, slice_get, Some, Ok, Err, is_ok}
use Rattle.std.proofs.Common.{sym, ap, ◌∙◌, arith}
use Rattle.std.proofs.lemmas.Option.{slice_get_within, get_or_from_slice_get}
use Rattle.std.proofs.lemmas.List.Elements.{All-get_or}
use Rattle.ir_model.specs.declared.result.Call.{Call}
use Rattle.call_list.specs.Reading.{Answers, Meanings, NoFault}
use Rattle.call_list.specs.declared.line.LineError.{LineError}
use Rattle.call_list.specs.declared.error.CallsError.{CallsError}
use Rattle.call_list.specs.declared.error.CallsError.TheVariants as errors
use Rattle.command_texts.specs.CallsLines.{OfText}

-- a line with a fault is none of lines without faults
faulted : (xs : Meanings) (place : ℕ) (e : LineError) → NoFault xs → slice_get xs place ≡ Some (Err e) → ⊥
faulted xs place e none here =
    let within : place < length xs = slice_get_within xs place (Err e) here in
    differ (sym (ap is_ok (get_or_from_slice_get xs place (Err e) (Err e) here)) ∙ All-get_or (λ x. is_ok x ≡ true) xs place (Err e) within none)
  where
    differ : false ≡ true → ⊥
    differ e = cc

pub calls_apart : (size : ℕ) (xs : Meanings) (e : CallsError) (calls : List Call) → OfText e → Answers size xs (Err e) → Answers size xs (Ok calls) → ⊥
calls_apart size xs (errors.BadLine n) calls of refused given = faulted xs refused.1.place _ given.1 refused.1.here
calls_apart size xs (errors.NoFunction n) calls of refused given = faulted xs refused.1.place _ given.1 refused.1.here
calls_apart size xs (errors.BadArgs n) calls of refused given = faulted xs refused.1.place _ given.1 refused.1.here
calls_apart size xs (errors.TooMany n) calls of refused given = omega (arith, refused.2, refused.3, ap length given.2, given.3)
calls_apart size xs (errors.TextLimit n) calls of refused given = omega (arith, refused.1, given.0)
calls_apart size xs errors.NoMemory calls of refused given = of

pub same_calls : (size : ℕ) (xs : Meanings) (one two : List Call) → Answers size xs (Ok one) → Answers size xs (Ok two) → one ≡ two
same_calls size xs one two p q = p.2 ∙ sym q.2
