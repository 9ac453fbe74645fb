use Rattle.std.proofs.Common.{◌≡◌, ◌++◌, List, ℕ, decimal, IfOk, subst, ◌∙◌}
use Rattle.gen_code.proofs.FirstFree.{fresh_is}
use Rattle.gen_code.proofs.Made.{if_ok_then}
use Rattle.gen_plan.specs.Fresh.{fresh}
use Rattle.gen_code.proofs.fresh.Names.fresh.Goals as goal

pub returns : goal.returns
returns c =
    let names = c.args.self.now in
    let f = names.function.now in
    let hint : c.as_slice.result.now ≡ c.args.word.now ++ decimal c.args.number =
    c.as_slice.ensures.value ∙ c.in_ok-extend_from_slice.ensures.items ∙ (λ i. c.in_ok-hint.ensures.items i ++ (c.as_bytes.ensures.value ∙ c.format.ensures.text) i) in
    subst (λ (h : List ℕ). IfOk c.fresh.result (λ name. name ≡ fresh f h)) hint (if_ok_then c.fresh.result (λ name found. fresh_is f names.index names.index_is names.few c.as_slice.result.now name found) c.fresh.ensures)
