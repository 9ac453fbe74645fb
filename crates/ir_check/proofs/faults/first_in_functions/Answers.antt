use Rattle.std.proofs.Common.{◌≡◌, List, length, sym, ap, ◌∙◌, arith, Some}
use Rattle.std.specs.Prelude.{slice_get}
use Rattle.std.proofs.lemmas.List.{take_all}
use Rattle.std.proofs.lemmas.Option.{slice_get-get_or}
use Rattle.ir_check.proofs.Few.{few_blocks, few_functions}
use Rattle.ir_check.proofs.Groups.{distinct_kept, naming_kept}
use Rattle.ir_check.proofs.Lowest.{further, none_yet}
use Rattle.ir_check.proofs.Once.{symbols_once}
use Rattle.ir_check.specs.Faults.{faults}
use Rattle.ir_tree.specs.declared.types.Function.{Function}
use Rattle.spec_lists.specs.Each.{first_of}
use Rattle.ir_check.proofs.faults.first_in_functions.Goals as goal

pub loop-k-init : goal.loop-k-init
loop-k-init c = sym (none_yet c.args.«module».now)

pub overflow_cast-k : goal.overflow_cast-k
overflow_cast-k c =
    let few = few_functions c.args.«module».now c.requires.within in
    omega (arith, few, ap (λ (fs : List Function). length fs) c.as_slice-functions.ensures, c.loop-k-test.true)

pub first_in-requires-clause-once : goal.first_in-requires-clause-once
first_in-requires-clause-once c = symbols_once c.args.«module».now (naming_kept c.args.«module».now c.requires.named)

pub first_in-requires-clause-few : goal.first_in-requires-clause-few
first_in-requires-clause-few c =
    let m = c.args.«module».now in
    let k = c.loop-k.k in
    let f = c.index-functions-k.result in
    let there : slice_get m.functions k ≡ Some f = ap (λ (fs : List Function). slice_get fs k) (sym c.as_slice-functions.ensures) ∙ (slice_get-get_or c.as_slice-functions.result.now k f c.loop-k-test.true ∙ ap Some (sym c.index-functions-k.is)) in
    let few = few_blocks m c.requires.within k f there in
    omega (arith, few)

pub first_in-requires-clause-distinct : goal.first_in-requires-clause-distinct
first_in-requires-clause-distinct c =
    let m = c.args.«module».now in
    let k = c.loop-k.k in
    let f = c.index-functions-k.result in
    let there : slice_get m.functions k ≡ Some f = ap (λ (fs : List Function). slice_get fs k) (sym c.as_slice-functions.ensures) ∙ (slice_get-get_or c.as_slice-functions.result.now k f c.loop-k-test.true ∙ ap Some (sym c.index-functions-k.is)) in
    (distinct_kept m c.requires.named).function k f there

pub loop-k-preserved : goal.loop-k-preserved
loop-k-preserved c =
    c.lower-found.ensures ∙ further c.args.«module».now c.as_slice-functions.result.now c.loop-k.k c.index-functions-k.result c.loop-k.found c.in_ok-here.here c.loop-k-test.true c.index-functions-k.is c.loop-k.invariant c.in_ok-here.ensures

pub returns : goal.returns
returns c =
    let m = c.args.«module».now in
    let fs = c.as_slice-functions.result.now in
    c.loop-k.invariant ∙ ap (λ (gs : List Function). first_of (faults m gs)) (take_all c.loop-k.k fs (omega (arith, c.loop-k-test.false)) ∙ c.as_slice-functions.ensures)
