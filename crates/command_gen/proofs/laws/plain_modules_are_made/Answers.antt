use Rattle.std.proofs.Common.{refl}
use Rattle.command_gen.proofs.laws.plain_modules_are_made.Goals as goal

pub returns : goal.returns
returns c first m accepted plain = record {
  is = refl;
  accepted = c.gen_is_accepted.ensures.accepted first m accepted plain;
  kind = c.gen_is_accepted.ensures.kind first m accepted plain;
  alike = c.plain_modules_count.ensures.alike first m accepted plain;
  marks = c.plain_modules_count.ensures.marks first m accepted plain;
}
