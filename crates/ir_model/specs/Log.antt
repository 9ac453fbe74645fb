-- The edges that a run walks, how often it walks one, and when as many walks lead to each block as leave it.
use Rattle.std.specs.Prelude.{◌≡◌, ℕ, ◌+◌, ◌==◌, List, [], ◌∷◌, ◌++◌, Option, Some, None, Bool, true, false, ◌&&◌, slice_get, option_and_then}
use Rattle.std.specs.List.{count_by}
use Rattle.ir_tree.specs.Blocks.{block_place}
use Rattle.ir_tree.specs.Functions.{function_at}
use Rattle.ir_tree.specs.Names.{same}
use Rattle.ir_tree.specs.Successors.{successors}
use Rattle.ir_tree.specs.declared.types.Block.{Block}
use Rattle.ir_tree.specs.declared.types.Function.{Function}
use Rattle.ir_tree.specs.declared.types.Module.{Module}
use Rattle.ir_model.specs.declared.result.Call.{Call}
use Rattle.spec_machines.specs.Machine.{Ran, Open, Ended, shown_of}
use Rattle.ir_model.specs.State.{Shown, Did, Targeted, Printed, Entered, Walked, Stop, Returns, Traps}
use Rattle.ir_model.specs.Step.{sought}
use Rattle.ir_model.specs.Run.{run_of}

-- One walk: into a function, or out of the block of this label by the successor at this position. A return goes out by
-- position 0.
pub data Walk : Type 0 where
  Into : (function : ℕ) → Walk
  Out : (function : ℕ) (block : List ℕ) (position : ℕ) → Walk

-- what of the things shown is a walk, in order
abbrev pub logged : Shown → List Walk
logged (Did k l place what) = []
logged (Targeted k l place callee) = []
logged (Printed b) = []
logged (Entered k) = Into k ∷ []
logged (Walked k l p) = Out k l p ∷ []

abbrev pub log : List Shown → List Walk
log [] = []
log (x ∷ xs) = logged x ++ log xs

abbrev pub log_of : Ran Shown Stop → List Walk
log_of ran = log (shown_of ran)

-- the number of the block of this label in function k
abbrev pub sought_place : Module → ℕ → List ℕ → Option ℕ
sought_place m k l = option_and_then (λ (f : Function). block_place f.blocks l) (function_at m k)

abbrev pub is_at : ℕ → Option ℕ → Bool
is_at place None = false
is_at place (Some b) = b == place

-- Is this a walk of the edge? The edge is the one that enters function k, where no block is named, or the one out of the
-- block of this number by the successor at this position
abbrev pub is_walk_of : Module → ℕ → Option ℕ → ℕ → Walk → Bool
is_walk_of m k None position (Into f) = f == k
is_walk_of m k None position (Out f l p) = false
is_walk_of m k (Some place) position (Into f) = false
is_walk_of m k (Some place) position (Out f l p) =
    f == k && is_at place (sought_place m k l) && p == position

-- How often a call's run of at most n steps walks the edge
abbrev pub traversals : Module → ℕ → Option ℕ → ℕ → Call → ℕ → ℕ
traversals m k block position c n = count_by (is_walk_of m k block position) (log_of (run_of m c n))

-- and how often the runs of all these calls do
abbrev pub traversals_of_all : Module → ℕ → Option ℕ → ℕ → List Call → ℕ → ℕ
traversals_of_all m k block position [] n = 0
traversals_of_all m k block position (c ∷ cs) n =
    traversals m k block position c n + traversals_of_all m k block position cs n

-- the label of a function's first block
abbrev pub first_label : List Block → Option (List ℕ)
first_label [] = None
first_label (b ∷ bs) = Some b.label

abbrev pub successor : Option Block → ℕ → Option (List ℕ)
successor None position = None
successor (Some b) position = slice_get (successors b.term) position

-- The function of a walk, and the block that it comes from and that it leads to. It comes from none where it enters the
-- function, and leads to none where it leaves it
abbrev pub function_of : Walk → ℕ
function_of (Into k) = k
function_of (Out k l p) = k

abbrev pub origin : Walk → Option (List ℕ)
origin (Into k) = None
origin (Out k l p) = Some l

abbrev pub target : Module → Walk → Option (List ℕ)
target m (Into k) = option_and_then (λ (f : Function). first_label f.blocks) (function_at m k)
target m (Out k l p) = successor (sought m k l) p

abbrev pub same_block : Option (List ℕ) → Option (List ℕ) → Bool
same_block None None = true
same_block None (Some x) = false
same_block (Some l) None = false
same_block (Some l) (Some x) = same l x

abbrev pub comes_from : ℕ → Option (List ℕ) → Walk → Bool
comes_from k block w = function_of w == k && same_block block (origin w)

abbrev pub leads_to : Module → ℕ → Option (List ℕ) → Walk → Bool
leads_to m k block w = function_of w == k && same_block block (target m w)

-- Walks are a flow: in each function as many lead to a block as come from it, and as many lead out of the function as
-- into it
abbrev pub AreBalanced : Module → List Walk → Type 0
AreBalanced m ws = (k : ℕ) (block : Option (List ℕ)) → count_by (leads_to m k block) ws ≡ count_by (comes_from k block) ws

-- the call returned
abbrev pub HasReturned : Ran Shown Stop → Type 0
HasReturned (Open shown) = ⊥
HasReturned (Ended shown (Returns value)) = Unit {0}
HasReturned (Ended shown (Traps kind)) = ⊥
