use Rattle.std.proofs.Common.{◌≡◌, ℕ, Bool, true, false, Option, Some, cond, refl, sym, ap, ◌∙◌}
use Rattle.std.specs.Map.{lookup}
use Rattle.gen_code.proofs.Numbering.{put_again, put_new}
use Rattle.gen_code.specs.Numbered.{same_place}
use Rattle.gen_code.specs.Tables.{or_else}
use Rattle.indexmap.specs.IndexMap.{get}
use Rattle.gen_code.proofs.numbers.Numbers.add.Goals as goal

pub returns : goal.returns
returns c b i = by c.in_ok-put_first.field-0 refl
  where
    old : ℕ × ℕ → Option ℕ
    old at = get same_place c.args.self.now.numbers at

    new : Option ℕ
    new = get same_place c.put_first.new.numbers (b, i)

    by : (t : Bool) → c.in_ok-put_first.field-0 ≡ t → new ≡ cond (same_place c.args.place (b, i)) (or_else (old (b, i)) (Some c.args.number)) (old (b, i))
    by true e = put_new old new c.args.place b i c.args.number (sym c.in_ok-put_first.ensures.fresh ∙ e) ((c.in_ok-put_first.ensures.put e).0 (b, i))
    by false e = put_again old new c.args.place b i c.args.number (sym c.in_ok-put_first.ensures.fresh ∙ e) (ap (λ es. lookup (same_place (b, i)) es) (c.in_ok-put_first.ensures.kept e))
