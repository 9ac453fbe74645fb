-- What was made by a plan that makes the module that counts.
use Rattle.std.proofs.Common.{◌≡◌, IfOk, Bool, Result, Ok, Err, sym, subst, ap, ◌∙◌}
use Rattle.count_likeness.specs.Image.{MarksAre}
use Rattle.count_plan.specs.Counted.{counted_module}
use Rattle.count_plan.specs.declared.plan.ModulePlan.{ModulePlan}
use Rattle.gen_module.specs.Made.{IsMade}
use Rattle.gen_plan.specs.Gen.{counted}
use Rattle.gen_plan.specs.GenImage.{gen_image}
use Rattle.ir_likeness.specs.Like.{AreLike}
use Rattle.ir_rules.specs.Accepted.{IsAccepted}
use Rattle.ir_rules.specs.Kinds.{kind_of}
use Rattle.ir_rules.specs.declared.place.Kind.TheVariants.{Counted}
use Rattle.ir_tree.specs.declared.types.Module.{Module}

pub by_plan : (entry_first : Bool) (plan : ModulePlan) (m copy made : Module) → made ≡ counted_module plan copy → copy ≡ m → counted_module plan m ≡ counted entry_first m → made ≡ counted entry_first m
by_plan entry_first plan m copy made put same is = put ∙ (ap (counted_module plan) same ∙ is)

pub made_so : {E : Type 0} (entry_first : Bool) (m put : Module) (r : Result Module E) → IfOk r (λ made. made ≡ put) → put ≡ counted entry_first m → IsAccepted (counted entry_first m) →
    kind_of (counted entry_first m).functions ≡ Counted → AreLike m (counted entry_first m) 4 1 → MarksAre (gen_image entry_first m) m (counted entry_first m) 4 1 → IfOk r (IsMade entry_first m)
made_so entry_first m put (Ok made) same is accepted kind alike marks =
    let it : counted entry_first m ≡ made = sym (same ∙ is) in
    record {
      is = same ∙ is;
      accepted = subst IsAccepted it accepted;
      kind = subst (λ (n : Module). kind_of n.functions ≡ Counted) it kind;
      alike = subst (λ (n : Module). AreLike m n 4 1) it alike;
      marks = subst (λ (n : Module). MarksAre (gen_image entry_first m) m n 4 1) it marks;
    }
made_so entry_first m put (Err e) same is accepted kind alike marks = tt
