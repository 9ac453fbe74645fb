-- The accepted module, and what acceptance gives to those who run and change it.
use Rattle.std.specs.Prelude.{◌≡◌, ℕ, ◌<◌, ◌≤◌, true, [], Some, is_some, length, slice_get, sum_by}
use Rattle.ir_rules.specs.Kinds.{kind_of}
use Rattle.ir_rules.specs.Limits.{calls_through, passed}
use Rattle.ir_rules.specs.Lists.{Among}
use Rattle.ir_rules.specs.WellFormed.{IsWellFormed}
use Rattle.ir_rules.specs.declared.place.Kind.TheVariants.{Plain}
use Rattle.ir_tree.specs.Edges.{edges_in}
use Rattle.ir_tree.specs.Functions.{numbered}
use Rattle.ir_tree.specs.Graphs.{HasGraph}
use Rattle.ir_tree.specs.Operands.{Entries}
use Rattle.ir_tree.specs.Phis.{entries_of, entry_for}
use Rattle.ir_tree.specs.Successors.{successors}
use Rattle.ir_tree.specs.declared.types.Block.{Block}
use Rattle.ir_tree.specs.declared.types.Function.{Function}
use Rattle.ir_tree.specs.declared.types.Instr.{Instr}
use Rattle.ir_tree.specs.declared.types.Module.{Module}

-- within the limits, and well formed
pub record IsAccepted (m : Module) : Type 0 where
  pub within : passed m ≡ []
  pub formed : IsWellFormed m

-- each defined function of an accepted module has an edge graph
abbrev pub FunctionsHaveGraphs : Type 0
FunctionsHaveGraphs = (m : Module) (k : ℕ) (f : Function) → IsAccepted m → slice_get m.functions k ≡ Some f → 0 < length f.blocks → HasGraph f

-- so few functions, calls through a local, and in all so few edges
pub record IsSmall (m : Module) : Type 0 where
  pub functions : length m.functions ≤ 65540
  pub sites : calls_through m ≤ 65536
  pub edges : sum_by edges_in m.functions ≤ 137447342080

abbrev pub AcceptedAreSmall : Type 0
AcceptedAreSmall = (m : Module) → IsAccepted m → IsSmall m

-- a plain module is smaller
pub record IsSmallPlain (m : Module) : Type 0 where
  pub functions : length m.functions ≤ 65536
  pub edges : sum_by edges_in m.functions ≤ 1048576

abbrev pub PlainAreSmall : Type 0
PlainAreSmall = (m : Module) → IsAccepted m → kind_of m.functions ≡ Plain → IsSmallPlain m

-- in an accepted plain module each function has its place in the module as its number, since none is of the profile runtime
abbrev pub FunctionsHaveNumbers : Type 0
FunctionsHaveNumbers = (m : Module) → IsAccepted m → kind_of m.functions ≡ Plain → numbered m.functions ≡ m.functions

-- a block of a function names another one at a successor position
pub record IsBlockEdge (f : Function) (block target : Block) : Type 0 where
  pub tail : Among block f.blocks
  pub head : Among target f.blocks
  pub names : Among target.label (successors block.term)

-- each phi of a block has an entry for each block from which an edge leads to it, reachable or not
abbrev pub EdgesHaveEntries : Type 0
EdgesHaveEntries = (m : Module) → IsAccepted m → (f : Function) (block target : Block) → Among f m.functions → IsBlockEdge f block target → (x : Instr) (entries : Entries) → Among x target.instrs → entries_of x ≡ Some entries → is_some (entry_for block.label entries) ≡ true
