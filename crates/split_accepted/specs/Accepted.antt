-- What a plain module keeps when one of its functions has its blocks in another order, or a new block on one of its edges.
use Rattle.std.specs.Prelude.{◌≡◌, ℕ, suc, ◌<◌, ◌⊎◌, true, List, Some, slice_get}
use Rattle.counted_rules.specs.Kept.{IsReordered}
use Rattle.edge_split.specs.Split.{split, split_before, with_function}
use Rattle.ir_rules.specs.Accepted.{IsAccepted}
use Rattle.ir_rules.specs.Kinds.{kind_of}
use Rattle.ir_rules.specs.Limits.{counters_in, plain_most}
use Rattle.ir_rules.specs.Lists.{times}
use Rattle.ir_rules.specs.Scopes.{names}
use Rattle.ir_rules.specs.WellFormed.{IsWellFormed}
use Rattle.ir_rules.specs.declared.place.Kind.TheVariants.{Plain}
use Rattle.ir_rules.specs.declared.place.LimitKind.TheVariants.{Edges, Counters}
use Rattle.ir_tree.specs.Edges.{edges_in}
use Rattle.ir_tree.specs.Spelling.{is_local_name}
use Rattle.ir_tree.specs.declared.types.Block.{Block}
use Rattle.ir_tree.specs.declared.types.Function.{Function}
use Rattle.ir_tree.specs.declared.types.Module.{Module}

pub record IsPlainFormed (m : Module) : Type 0 where
  pub formed : IsWellFormed m
  pub plain : kind_of m.functions ≡ Plain

pub record IsPlainAccepted (m : Module) : Type 0 where
  pub accepted : IsAccepted m
  pub plain : kind_of m.functions ≡ Plain

-- ---- blocks in another order

abbrev pub ReorderedIsFormed : Type 0
ReorderedIsFormed = (m : Module) (j : ℕ) (f : Function) (blocks : List Block) → IsPlainFormed m → slice_get m.functions j ≡ Some f → IsReordered f.blocks blocks → IsPlainFormed (with_function m j (record f { blocks = blocks }))

abbrev pub ReorderedIsAccepted : Type 0
ReorderedIsAccepted = (m : Module) (j : ℕ) (f : Function) (blocks : List Block) → IsPlainAccepted m → slice_get m.functions j ≡ Some f → IsReordered f.blocks blocks → IsPlainAccepted (with_function m j (record f { blocks = blocks }))

-- ---- an edge that is split

-- a label for a new block: a name that no parameter, block or result of the function has
pub record IsFreeLabel (new : List ℕ) (f : Function) : Type 0 where
  pub named : is_local_name new ≡ true
  pub apart : times new (names f) ≡ 0

-- the new block stands directly behind the one from which the edge leads, or before another place behind the first block
abbrev pub IsSplit : ℕ → ℕ → List ℕ → Function → Function → Type 0
IsSplit a p new f made = (made ≡ split a p new f) ⊎ ((place : ℕ) × (made ≡ split_before (suc place) a p new f))

-- the function may have one edge more, and the module one counter more
pub record HasRoom (m : Module) (f : Function) : Type 0 where
  pub edges : edges_in f < plain_most Edges
  pub counters : counters_in Plain m < plain_most Counters

abbrev pub SplitIsFormed : Type 0
SplitIsFormed = (m : Module) (j a p : ℕ) (new : List ℕ) (f made : Function) → IsPlainFormed m → slice_get m.functions j ≡ Some f → IsFreeLabel new f → IsSplit a p new f made → IsPlainFormed (with_function m j made)

abbrev pub SplitIsAccepted : Type 0
SplitIsAccepted = (m : Module) (j a p : ℕ) (new : List ℕ) (f made : Function) → IsPlainAccepted m → slice_get m.functions j ≡ Some f → IsFreeLabel new f → HasRoom m f → IsSplit a p new f made → IsPlainAccepted (with_function m j made)
