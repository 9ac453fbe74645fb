-- The places that break a rule on instructions.
use Rattle.std.proofs.Common.{◌≡◌, ℕ, append-nil}
use Rattle.check_counting.specs.Checking.{item_places, keeps, rule}
use Rattle.check_counting.specs.declared.walk.Checked.{Checked}
use Rattle.check_counting.specs.declared.walk.Checked.TheVariants.{Intrinsics, Counters}
use Rattle.ir_rules.specs.Parts.{function_places}
use Rattle.ir_tree.specs.declared.types.Function.{Function}
use Rattle.ir_tree.specs.declared.types.Module.{Module}
use Rattle.spec_lists.specs.Each.{each}

pub item_rule : (checked : Checked) (m : Module) (k : ℕ) (f : Function) → function_places (rule checked m) k f ≡ each (item_places (keeps checked m) k) 0 f.blocks
item_rule Intrinsics m k f = λ j. each (λ b block. append-nil (item_places (keeps Intrinsics m) k b block) j) 0 f.blocks
item_rule Counters m k f = λ j. each (λ b block. append-nil (item_places (keeps Counters m) k b block) j) 0 f.blocks
