use Rattle.std.proofs.Common.{map, ap, ◌∙◌}
use Rattle.ir_code.specs.Found.{symbol_in, counters_of, sites_of}
use Rattle.ir_code.specs.Resolved.{work_of}
use Rattle.ir_code.proofs.Made.{function_made}
use Rattle.ir_code.proofs.resolving.resolve_function.Goals as goal

pub returns : goal.returns
returns c =
    let s = c.args.symbols.now in
    function_made (symbol_in s) (counters_of s) (sites_of s) c.args.function.now c.in_ok-registers.registers c.in_ok-labels.labels c.count.result c.in_ok-phis.phis.items c.as_slice.result.now c.as_slice-blocks.result.now c.in_ok-codes.codes.items c.of-2.result c.of.result c.work.result c.in_ok-registers.ensures c.as_slice-blocks.ensures c.in_ok-labels.ensures c.in_ok-phis.ensures c.as_slice.ensures.value c.in_ok-codes.ensures c.count.ensures c.of-2.ensures
    (c.of.ensures ∙ c.in_ok-params.ensures ∙ ap (λ ps. map (λ p. p.0) ps) c.as_slice-2.ensures)
    (c.work.ensures ∙ ap work_of c.bytes.ensures)
