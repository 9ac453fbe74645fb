use Rattle.std.proofs.Common.{◌∙◌, ap, sym}
use Rattle.check_operands.proofs.Merged.{all_places}
use Rattle.ir_rules.specs.Finding.{ret_found}
use Rattle.check_operands.proofs.first.first_in_operands.Goals as goal

pub in_function-requires-clause-knows : goal.in_function-requires-clause-knows
in_function-requires-clause-knows c = record {
  value = λ n r.
      let told = (c.look_ups_tell.ensures.names c.args.f.now c.requires.named).value n r in
      (λ among. ap ret_found (c.requires.known n) ∙ told.0 among, λ found. told.1 (sym (ap ret_found (c.requires.known n)) ∙ found));
  placed = c.requires.symbols;
  once = c.requires.once;
  kinded = c.requires.kind;
}

pub returns : goal.returns
returns c = c.in_function.ensures ∙ all_places c.args.module.now c.args.k c.args.f.now
