-- The turns that answers stand for.
use Rattle.std.specs.Prelude.{List, Option, Some, None}
use Rattle.std.specs.Option.{option_map}
use Rattle.ir_tree.specs.declared.types.Ty.{Ty}
use Rattle.ir_memory.specs.declared.value.Value.{Value}
use Rattle.ir_model.specs.Values.{at_type}
use Rattle.ir_code.specs.declared.code.Input.{Input}
use Rattle.ir_machine.specs.Steps.{input_value}
use Rattle.ir_machine.specs.declared.state.Answer.{Answer}
use Rattle.ir_machine.specs.declared.state.Answer.TheVariants as answer
use Rattle.ir_machine.specs.declared.state.Machine.{Machine}
use Rattle.ir_machine.specs.declared.state.Sight.TheVariants as sight
use Rattle.ir_machine.specs.declared.state.Turn.{Turn}
use Rattle.ir_machine.specs.declared.state.Turn.TheVariants as turn

-- the turn of a machine that is as this one, and none where memory was wanting
abbrev pub turn_of : Machine → Answer → Option Turn
turn_of m answer.Goes = Some turn.Goes
turn_of m answer.Enters = Some (turn.Sees (sight.Entered m.top.function))
turn_of m (answer.Fails kind) = Some (turn.Traps kind)
turn_of m answer.NoMemory = None

-- the value that a return gives
abbrev pub returned_value : List Value → Option (Ty × Input) → Option Value
returned_value regs v = option_map (λ u. at_type u.0 (input_value regs u.1)) v
