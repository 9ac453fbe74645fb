use Rattle.std.proofs.Common.{◌≡◌, [], ◌∷◌, sym, ◌∙◌}
use Rattle.ir_check.proofs.Groups.{in_counts, in_flow, in_operands, in_walks, no_first, operands_kept, phis_kept}
use Rattle.ir_check.proofs.Once.{names_once}
use Rattle.ir_rules.specs.Assigned.{assigned}
use Rattle.rule_groups.specs.Groups.{broken_in, flow_rules, operand_rules}
use Rattle.ir_check.proofs.faults.first_in_defined.Goals as goal

pub first_in_flow-requires-clause-named : goal.first_in_flow-requires-clause-named
first_in_flow-requires-clause-named c = names_once c.args.f.now c.args.k c.requires.distinct c.requires.defined

pub first_in_operands-operands-requires-clause-named : goal.first_in_operands-operands-requires-clause-named
first_in_operands-operands-requires-clause-named c = names_once c.args.f.now c.args.k c.requires.distinct c.requires.defined

pub first_on_walks-requires-clause-resolved : goal.first_on_walks-requires-clause-resolved
first_on_walks-requires-clause-resolved c =
    let m = c.args.«module».now in
    let k = c.args.k in
    let f = c.args.f.now in
    let no_flow : broken_in k f 7 flow_rules ≡ [] = no_first (broken_in k f 7 flow_rules) c.in_ok-flow.flow (sym c.is_some.ensures ∙ c.if-is_some.false) c.in_ok-flow.ensures in
    let no_operands : broken_in k f 11 (operand_rules m) ≡ [] = no_first (broken_in k f 11 (operand_rules m)) c.first_in_operands-operands.result (sym c.is_some-2.ensures ∙ c.if-is_some-2.false) c.first_in_operands-operands.ensures in
    c.kept_are_resolved.ensures m k f c.requires.distinct (operands_kept m k f no_operands) (phis_kept m k f no_flow) c.requires.defined c.requires.few

pub returns-then-is_some : goal.returns-then-is_some
returns-then-is_some c = in_flow c.args.«module».now c.args.k c.args.f.now c.in_ok-flow.flow (sym c.is_some.ensures ∙ c.if-is_some.true) c.in_ok-flow.ensures

pub returns-then-is_some-2 : goal.returns-then-is_some-2
returns-then-is_some-2 c =
    let m = c.args.«module».now in
    let k = c.args.k in
    let f = c.args.f.now in
    let no_flow : broken_in k f 7 flow_rules ≡ [] = no_first (broken_in k f 7 flow_rules) c.in_ok-flow.flow (sym c.is_some.ensures ∙ c.if-is_some.false) c.in_ok-flow.ensures in
    in_operands m k f no_flow c.first_in_operands-operands.result (sym c.is_some-2.ensures ∙ c.if-is_some-2.true) c.first_in_operands-operands.ensures

pub returns-then-is_some-3 : goal.returns-then-is_some-3
returns-then-is_some-3 c =
    let m = c.args.«module».now in
    let k = c.args.k in
    let f = c.args.f.now in
    let no_flow : broken_in k f 7 flow_rules ≡ [] = no_first (broken_in k f 7 flow_rules) c.in_ok-flow.flow (sym c.is_some.ensures ∙ c.if-is_some.false) c.in_ok-flow.ensures in
    let no_operands : broken_in k f 11 (operand_rules m) ≡ [] = no_first (broken_in k f 11 (operand_rules m)) c.first_in_operands-operands.result (sym c.is_some-2.ensures ∙ c.if-is_some-2.false) c.first_in_operands-operands.ensures in
    in_walks m k f no_flow no_operands c.in_ok-walks.walks (sym c.is_some-3.ensures ∙ c.if-is_some-3.true) c.in_ok-walks.ensures

pub returns : goal.returns
returns c =
    let m = c.args.«module».now in
    let k = c.args.k in
    let f = c.args.f.now in
    let no_flow : broken_in k f 7 flow_rules ≡ [] = no_first (broken_in k f 7 flow_rules) c.in_ok-flow.flow (sym c.is_some.ensures ∙ c.if-is_some.false) c.in_ok-flow.ensures in
    let no_operands : broken_in k f 11 (operand_rules m) ≡ [] = no_first (broken_in k f 11 (operand_rules m)) c.first_in_operands-operands.result (sym c.is_some-2.ensures ∙ c.if-is_some-2.false) c.first_in_operands-operands.ensures in
    let no_walks : broken_in k f 16 (assigned ∷ []) ≡ [] = no_first (broken_in k f 16 (assigned ∷ [])) c.in_ok-walks.walks (sym c.is_some-3.ensures ∙ c.if-is_some-3.false) c.in_ok-walks.ensures in
    in_counts m k f no_flow no_operands no_walks c.first_in_counting.result c.first_in_counting.ensures
