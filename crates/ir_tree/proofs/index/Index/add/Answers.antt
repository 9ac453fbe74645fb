use Rattle.std.proofs.Common.{◌≡◌, ℕ, Bool, List, [], ◌∷◌, ◌++◌, is_some, is_none, position, true, false, refl, sym, ap, ◌∙◌}
use Rattle.std.specs.Map.{lookup}
use Rattle.ir_tree.specs.Names.{same, first_place}
use Rattle.ir_tree.proofs.Places.{position-again, index_grows, not_none, none_not}
use Rattle.ir_tree.proofs.index.Index.add.Goals as goal

pub returns-clause-added : goal.returns-clause-added
returns-clause-added c names made place q = by c.in_ok-fresh.fresh refl
  where
    n : List ℕ
    n = c.args.name.now

    copy : c.in_ok-of.field-0 ≡ n
    copy = c.in_ok-of.ensures

    absent : (b : Bool) → c.in_ok-fresh.fresh ≡ b → b ≡ is_none (position (same n) names)
    absent b e = sym e ∙ c.in_ok-fresh.ensures.fresh ∙ (λ i. is_none (first_place c.args.self.now (copy i))) ∙ ap is_none (made n)

    by : (b : Bool) → c.in_ok-fresh.fresh ≡ b → first_place (record { places = c.put_first.new.map }) q ≡ position (same q) (names ++ n ∷ [])
    by true e = index_grows names n _ q _ _ _ copy place (none_not (position (same n) names) (absent true e)) (made q) ((c.in_ok-fresh.ensures.put e).0 q)
    by false e = ap (λ es. lookup (same q) es) (c.in_ok-fresh.ensures.kept e) ∙ made q ∙ sym (position-again names n q (not_none (position (same n) names) (absent false e)))
