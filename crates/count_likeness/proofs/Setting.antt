-- What the simulation is about: a module with a plan that fits it, at these costs and with this image.
use Rattle.std.proofs.Common.{ℕ}
use Rattle.count_plan.specs.declared.plan.ModulePlan.{ModulePlan}
use Rattle.count_likeness.specs.Fits.{ModuleFits}
use Rattle.count_likeness.specs.Image.{Image}
use Rattle.ir_tree.specs.declared.types.Module.{Module}

pub record Setting : Type 0 where
  pub plan : ModulePlan
  pub image : Image
  pub most : ℕ
  pub late : ℕ
  pub m : Module
  pub fit : ModuleFits plan image most late m
