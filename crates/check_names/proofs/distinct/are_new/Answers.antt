use Rattle.std.proofs.Common.{◌≡◌, ◌++◌, ℕ, List, [], ◌∷◌, true, false, map, take, sym, ap, subst, ◌∙◌}
use Rattle.check_names.proofs.Firsts.{at_item}
use Rattle.check_names.proofs.Names.{named_more, new_param, param_name, repeated_param}
use Rattle.check_names.specs.Seen.{HasSeen}
use Rattle.ir_rules.specs.Lists.{is_new}
use Rattle.check_names.proofs.distinct.are_new.Goals as goal

pub returns-then-not-branch-clause-apart : goal.returns-then-not-branch-clause-apart
returns-then-not-branch-clause-apart c =
    let ps = c.args.f.now.params in
    let i = c.loop-param.param-index in
    let p = c.param-item.result in
    let here = at_item c.as_slice-param-items.result.now ps i p c.as_slice-param-items.ensures c.loop-param-test.true c.param-item.is in
    let before : List (List ℕ) = map param_name (take i ps) in
    let same_name : c.bytes.result.now ≡ p.1 = c.bytes.ensures in
    let old : is_new p.1 before ≡ false = ap (λ (name : List ℕ). is_new name before) (sym same_name) ∙ sym (c.in_ok-add.ensures.fresh before c.loop-param.invariant.0) ∙ c.if-not-branch.true in
    sym (repeated_param ps i p here.0 here.1 old) ∙ c.loop-param.invariant.1

pub loop-param-preserved : goal.loop-param-preserved
loop-param-preserved c =
    let ps = c.args.f.now.params in
    let i = c.loop-param.param-index in
    let p = c.param-item.result in
    let here = at_item c.as_slice-param-items.result.now ps i p c.as_slice-param-items.ensures c.loop-param-test.true c.param-item.is in
    let before : List (List ℕ) = map param_name (take i ps) in
    let same_name : c.bytes.result.now ≡ p.1 = c.bytes.ensures in
    let fresh : is_new p.1 before ≡ true = ap (λ (name : List ℕ). is_new name before) (sym same_name) ∙ sym (c.in_ok-add.ensures.fresh before c.loop-param.invariant.0) ∙ c.if-not-branch.false in
    let added : HasSeen c.add.new.self (before ++ p.1 ∷ []) = subst (λ (name : List ℕ). HasSeen c.add.new.self (before ++ name ∷ [])) same_name (c.in_ok-add.ensures.added before c.loop-param.invariant.0) in (
      subst (λ (ns : List (List ℕ)). HasSeen c.add.new.self ns) (sym (named_more param_name ps i p here.0 here.1)) added,
      sym (new_param ps i p here.0 here.1 fresh) ∙ c.loop-param.invariant.1,
    )
