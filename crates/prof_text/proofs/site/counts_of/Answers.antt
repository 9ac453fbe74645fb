use Rattle.std.proofs.Common.{◌≡◌, ◌<◌, ◌++◌, ◌∷◌, [], ℕ, List, length, take, get_or, unwrap_or, Option, sym, ap, ◌∙◌, subst, arith}
use Rattle.std.specs.Borrow.{Bor}
use Rattle.std.specs.BTreeMap as tree
use Rattle.std.proofs.lemmas.List.{take_more, map-append}
use Rattle.prof_text.specs.Site.{against, target_of, targets_of}
use Rattle.prof_text.proofs.SiteLemmas.{Counted, counted_push}
use Rattle.prof_text.proofs.site.counts_of.Goals as goal

pub loop-name-preserved : goal.loop-name-preserved
loop-name-preserved c =
    let d : Bor (List ℕ) × ℕ = (record { ref_ptr = (0, 0); now = [] }, 0) in
    let t : Bor (List ℕ) × ℕ = get_or c.args.targets.now c.loop-name.name-index d in
    let low : c.loop-name.name-index < length c.args.targets.now = omega arith in
    let sum : c.unwrap_or-sum.result ≡ unwrap_or (tree.get_by (against t.0.now) c.loop-name.counts) 0 =
    c.unwrap_or-sum.ensures ∙ ap (λ (o : Option ℕ). unwrap_or o 0) (c.copied.ensures ∙ c.get.ensures.value) in
    let counted : Counted c.insert.new.self (targets_of (take c.loop-name.name-index c.args.targets.now) ++ (t.0.now, t.1) ∷ []) =
    counted_push c.loop-name.counts c.insert.new.self (targets_of (take c.loop-name.name-index c.args.targets.now)) t.0 t.1 c.unwrap_or-sum.result c.saturating_add.result
    c.loop-name.invariant.0 sum c.saturating_add.ensures c.in_ok-insert.ensures.updates in (
      subst (Counted c.insert.new.self) (sym (ap targets_of (take_more c.args.targets.now c.loop-name.name-index d low) ∙ map-append target_of (take c.loop-name.name-index c.args.targets.now) (t ∷ []))) counted,
      c.in_ok-insert.ensures.ordered,
    )
