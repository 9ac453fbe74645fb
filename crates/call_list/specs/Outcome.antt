-- The text of a call's outcome: a line with the call's number and its function's name, what the call printed, and a
-- line that says how it ended.
use Rattle.std.specs.Prelude.{ℕ, List, [], ◌++◌, Option, Some, None, codes, decimal}
use Rattle.std.specs.Fmt.{signed_decimal}
use Rattle.ir_value.specs.Integer.{signed_of}
use Rattle.ir_tree.specs.Spelling.{global_text}
use Rattle.ir_tree.specs.Types.{width_of}
use Rattle.ir_tree.specs.declared.types.Ty.{Ty}
use Rattle.ir_tree.specs.declared.types.Ret.{Ret}
use Rattle.ir_tree.specs.declared.types.Ret.TheVariants.{Void, Value}
use Rattle.ir_tree.specs.declared.types.Function.{Function}
use Rattle.ir_model.specs.declared.result.TrapKind.{TrapKind}
use Rattle.ir_model.specs.declared.result.TrapKind.TheVariants as trap
use Rattle.ir_model.specs.declared.result.End.{End}
use Rattle.ir_model.specs.declared.result.End.TheVariants.{Returned, Trapped, StepsSpent}
use Rattle.ir_model.specs.declared.result.CallResult.{CallResult}

-- an integer in signed decimal of its width, an address unsigned
abbrev pub shown : Option ℕ → ℕ → List ℕ
shown None value = decimal value
shown (Some width) value = signed_decimal (signed_of width value)

unfoldable pub value_text : Ty → ℕ → List ℕ
value_text ty value = shown (width_of ty) value

abbrev pub trap_text : TrapKind → List ℕ
trap_text trap.DivZero = codes "div-zero"
trap_text trap.DivOverflow = codes "div-overflow"
trap_text trap.Access = codes "access"
trap_text trap.BadPointer = codes "pointer"
trap_text trap.Callee = codes "callee"
trap_text trap.External = codes "external"
trap_text trap.Depth = codes "depth"
trap_text trap.Cells = codes "cells"
trap_text trap.Output = codes "output"
trap_text trap.Unreachable = codes "unreachable"

abbrev pub returned_text : Ret → Option ℕ → List ℕ
returned_text Void value = codes "returned\n"
returned_text (Value ty) None = codes "returned\n"
returned_text (Value ty) (Some value) = codes "returned " ++ value_text ty value ++ codes "\n"

unfoldable pub end_text : Ret → End → List ℕ
end_text ret (Returned value) = returned_text ret value
end_text ret (Trapped kind) = codes "trapped " ++ trap_text kind ++ codes "\n"
end_text ret StepsSpent = codes "steps spent\n"

unfoldable pub outcome_text : Function → ℕ → CallResult → List ℕ
outcome_text f number ended = codes "call " ++ decimal number ++ codes " @" ++ global_text f.name ++ codes "\n" ++ ended.printed ++ end_text f.ret ended.end

abbrev pub outcome_of : Option Function → ℕ → CallResult → List ℕ
outcome_of None number ended = []
outcome_of (Some f) number ended = outcome_text f number ended
