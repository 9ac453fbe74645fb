use Rattle.std.proofs.Common.{refl}
use Rattle.std.specs.Fmt.{digits}
use Rattle.ir_tree.specs.declared.types.MemTy.TheBlock.{shape-the_row-MemTy-0, hidden-the_row-MemTy-0}
use Rattle.ir_tree.specs.declared.types.Init.TheBlock.{hidden-the_row-Init-0}
use denote.Hole.Carrier
use Rattle.ir_tree.specs.Spelling.{is_word_first, is_name_first, is_name_byte, is_plain, is_digits, global_text, local_text}
use Rattle.text_pieces.specs.Written.{byte_text, escaped}
use Rattle.canonical_text.specs.Values.{literal_token, operand_token}
use Rattle.canonical_text.specs.Notes.{note_text, with_note, with_noted, with_block, with_function, nodes_of, number_of}
use Rattle.canonical_text.specs.Instructions.{all_flags}
use Rattle.canonical_text.specs.Canonical.{module_pieces, canonical}
use Rattle.ir_print.proofs.laws.module_is_printed.Goals as goal

pub returns : goal.returns
unfolding digits shape-the_row-MemTy-0 hidden-the_row-MemTy-0 hidden-the_row-Init-0 Carrier.hidden is_word_first is_name_first is_name_byte is_plain is_digits global_text local_text byte_text escaped literal_token operand_token note_text with_note with_noted with_block with_function nodes_of number_of all_flags module_pieces canonical
returns c = record {
  text = refl;
  empty = refl;
  first = refl;
}
