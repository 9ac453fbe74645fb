-- The code of a function, made of its parts.
use Rattle.std.proofs.Common.{◌≡◌, ℕ, List, map, ◌∙◌, ap}
use Rattle.ir_tree.specs.Blocks.{labels}
use Rattle.ir_tree.specs.declared.types.Block.{Block}
use Rattle.ir_tree.specs.declared.types.Instr.{Instr}
use Rattle.ir_tree.specs.declared.types.Function.{Function as Definition}
use Rattle.ir_tree.specs.declared.types.Ret.{Ret}
use Rattle.ir_tree.specs.declared.types.Ty.{Ty}
use Rattle.ir_code.specs.Names.{number_of, number_in, AreNumbered}
use Rattle.ir_code.specs.Resolved.{register_names, block_phis, block_code, function_code, work_of}
use Rattle.ir_code.specs.declared.code.BlockCode.{BlockCode}
use Rattle.ir_code.specs.declared.code.FunctionCode.{FunctionCode}
use Rattle.ir_code.specs.declared.code.Input.{Input}
use Rattle.ir_code.specs.declared.code.Span.{Span}
use Rattle.ir_code.specs.declared.code.Work.{Work}
use Rattle.ir_code.specs.declared.names.Numbers.{Numbers}
use Rattle.ir_code.proofs.Places.{numbers_are}

abbrev pub code_with : Ret → List Ty → ℕ → List BlockCode → Work → FunctionCode
code_with ret params registers blocks work =
    record { ret = ret; params = params; registers = registers; blocks = blocks; work = work }

pub function_made : (symbol : List ℕ → Input) (counters sites : List ℕ → Span) (f : Definition) (registers ls : Numbers) (count : ℕ) (phis lent : List (List Instr)) (bs : List Block) (codes out : List BlockCode) (types : List Ty) (work : Work) → AreNumbered registers (register_names f) → bs ≡ f.blocks → AreNumbered ls (labels bs) → phis ≡ block_phis bs → lent ≡ phis
    → codes ≡ map (block_code symbol counters sites (number_in registers) (number_in ls) lent) bs → count ≡ registers.count → out ≡ codes → types ≡ map (λ p. p.0) f.params → work ≡ work_of f.name → code_with f.ret types count out work ≡ function_code symbol counters sites f
function_made symbol counters sites f registers ls count phis lent bs codes out types work register_numbers blocks_are label_numbers phis_are lent_are codes_are count_is out_is types_are work_is =
    let register_is : ◌≡◌ {A = List ℕ → ℕ} (number_in registers) (number_of (register_names f)) = numbers_are registers (register_names f) register_numbers in
    let label_is : ◌≡◌ {A = List ℕ → ℕ} (number_in ls) (number_of (labels f.blocks)) = numbers_are ls (labels bs) label_numbers ∙ ap (λ (xs : List Block). number_of (labels xs)) blocks_are in
    let phi_list : lent ≡ block_phis f.blocks = lent_are ∙ phis_are ∙ ap block_phis blocks_are in
    let made : out ≡ map (block_code symbol counters sites (number_of (register_names f)) (number_of (labels f.blocks)) (block_phis f.blocks)) f.blocks =
    out_is ∙ codes_are ∙ (λ i. map (block_code symbol counters sites (register_is i) (label_is i) (phi_list i)) (blocks_are i)) in
    λ i. code_with f.ret (types_are i) ((count_is ∙ register_numbers.count) i) (made i) (work_is i)
