use Rattle.std.proofs.Common.{refl}
use Rattle.std.specs.Fmt.{digits}
use Rattle.ir_tree.specs.declared.types.MemTy.TheBlock.{shape-the_row-MemTy-0, hidden-the_row-MemTy-0}
use denote.Hole.Carrier
use Rattle.ir_tree.specs.Spelling.{is_word_first, is_name_first, is_name_byte, is_plain, is_digits, global_text, local_text}
use Rattle.canonical_text.specs.Values.{literal_token, operand_token}
use Rattle.canonical_text.specs.Notes.{note_text, number_of}
use Rattle.canonical_text.specs.Instructions.{all_flags}
use Rattle.ir_print.proofs.laws.lines_are_printed.Goals as goal

pub returns : goal.returns
unfolding digits shape-the_row-MemTy-0 hidden-the_row-MemTy-0 Carrier.hidden is_word_first is_name_first is_name_byte is_plain is_digits global_text local_text literal_token operand_token note_text number_of all_flags
returns c = record {
  flags = refl;
  exact = refl;
  truth = refl;
  compare = refl;
  convert = refl;
  freeze = refl;
  select = refl;
  phi = refl;
  alloca = refl;
  load = refl;
  store = refl;
  address = refl;
  no_flag = refl;
  call = refl;
  no_arguments = refl;
  count = refl;
  jump = refl;
  branch = refl;
  switch = refl;
  returned = refl;
  returned_nothing = refl;
  unreachable = refl;
}
