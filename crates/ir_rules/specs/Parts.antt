-- A rule says something of each part of a module. A part of which it doesn't hold is a place that breaks the rule.
use Rattle.std.specs.Prelude.{◌≡◌, ℕ, Bool, true, not, List, ◌++◌, length, Some, slice_get}
use Rattle.ir_rules.specs.declared.place.Place.{Place}
use Rattle.ir_tree.specs.declared.types.Block.{Block}
use Rattle.ir_tree.specs.declared.types.Function.{Function}
use Rattle.ir_tree.specs.declared.types.Global1.{Global1}
use Rattle.ir_tree.specs.declared.types.Instr.{Instr}
use Rattle.ir_tree.specs.declared.types.Module.{Module}
use Rattle.spec_lists.specs.Each.{each, only_if}

-- What a rule says of the module as a whole, of a global by its number, of a function's head and parameters by the
-- function's number, of the label of block b, of instruction i of it, and of its terminator
pub record Rule : Type 0 where
  pub whole : Bool
  pub global : ℕ → Global1 → Bool
  pub head : ℕ → Function → Bool
  pub label : Function → ℕ → Block → Bool
  pub item : Function → ℕ → Block → ℕ → Instr → Bool
  pub exit : Function → ℕ → Block → Bool

-- what says nothing: a rule is this one with the parts that it speaks of
abbrev pub silent : Rule
silent = record {
  whole = true;
  global = λ n g. true;
  head = λ k f. true;
  label = λ f b block. true;
  item = λ f b block i x. true;
  exit = λ f b block. true;
}

-- ---- the places that break a rule, in text order

abbrev pub place : ℕ → ℕ → ℕ → Place
place k b i = record { function = k; block = b; item = i }

abbrev pub unless : Bool → Place → List Place
unless kept at = only_if (not kept) at

-- the label is item 0, the instructions are counted from 0, and the terminator comes behind them
abbrev pub block_places : Rule → ℕ → Function → ℕ → Block → List Place
block_places r k f b block = unless (r.label f b block) (place k b 0) ++ (each (λ i x. unless (r.item f b block i x) (place k b i)) 0 block.instrs ++ unless (r.exit f b block) (place k b (length block.instrs)))

-- a head or parameter is item 0 of block 0
abbrev pub function_places : Rule → ℕ → Function → List Place
function_places r k f = unless (r.head k f) (place k 0 0) ++ each (block_places r k f) 0 f.blocks

-- a global has its number as item of block 0 of function 0; globals come before functions
unfoldable pub places : Rule → Module → List Place
places r m = unless r.whole (place 0 0 0) ++ (each (λ n g. unless (r.global n g) (place 0 0 n)) 0 m.globals ++ each (function_places r) 0 m.functions)

-- ---- the rule holds

pub record BlockKeeps (r : Rule) (f : Function) (b : ℕ) (block : Block) : Type 0 where
  pub label : r.label f b block ≡ true
  pub item : (i : ℕ) (x : Instr) → slice_get block.instrs i ≡ Some x → r.item f b block i x ≡ true
  pub exit : r.exit f b block ≡ true

pub record FunctionKeeps (r : Rule) (k : ℕ) (f : Function) : Type 0 where
  pub head : r.head k f ≡ true
  pub block : (b : ℕ) (block : Block) → slice_get f.blocks b ≡ Some block → BlockKeeps r f b block

-- the rule holds of every part
pub record Keeps (r : Rule) (m : Module) : Type 0 where
  pub whole : r.whole ≡ true
  pub global : (n : ℕ) (g : Global1) → slice_get m.globals n ≡ Some g → r.global n g ≡ true
  pub function : (k : ℕ) (f : Function) → slice_get m.functions k ≡ Some f → FunctionKeeps r k f
