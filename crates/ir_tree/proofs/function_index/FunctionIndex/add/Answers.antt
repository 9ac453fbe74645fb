use Rattle.std.proofs.Common.{◌≡◌, ℕ, Bool, List, [], ◌∷◌, ◌++◌, is_none, true, false, refl, sym, ap, ◌∙◌}
use Rattle.std.specs.Map.{lookup}
use Rattle.ir_tree.specs.FunctionNames.{indexed}
use Rattle.ir_tree.specs.Names.{same}
use Rattle.ir_tree.proofs.Entries.{lookup-again, lookup-new}
use Rattle.ir_tree.proofs.Places.{not_none, none_not}
use Rattle.ir_tree.proofs.function_index.FunctionIndex.add.Goals as goal

pub returns : goal.returns
returns c es made q = by c.in_ok-put_first.field-0 refl
  where
    n : List ℕ
    n = c.args.name.now

    copy : c.in_ok-copy.field-0 ≡ n
    copy = c.in_ok-copy.ensures

    absent : (b : Bool) → c.in_ok-put_first.field-0 ≡ b → b ≡ is_none (lookup (same n) es)
    absent b e = sym e ∙ c.in_ok-put_first.ensures.fresh ∙ (λ i. is_none (indexed c.args.self.now (copy i))) ∙ ap is_none (made n)

    by : (b : Bool) → c.in_ok-put_first.field-0 ≡ b → indexed (record { locals = c.put_first.new.map }) q ≡ lookup (same q) (es ++ (n, c.args.local) ∷ [])
    by true e = lookup-new es n _ q c.args.local _ _ copy (none_not (lookup (same n) es) (absent true e)) (made q) ((c.in_ok-put_first.ensures.put e).0 q)
    by false e = ap (λ ls. lookup (same q) ls) (c.in_ok-put_first.ensures.kept e) ∙ made q ∙ sym (lookup-again es n q c.args.local (not_none (lookup (same n) es) (absent false e)))
