use Rattle.std.proofs.Common.{refl}
use Rattle.ir_grammar.specs.Words.{word, sign, mark, flag, global, local, label, any_word, word_is, number, count, this_count, string, behind_comma}
use Rattle.ir_grammar.specs.Types.{value_type, this_type, return_type, dimension, dimensions, shape, memory_type, literal, operand, typed_operand}
use Rattle.ir_grammar.specs.Past.{balanced, node_number, attachment, assigned_string, parens, any_attachment, after_comma, past_begins, past_part, past_parts, tail_part, tail}
use Rattle.ir_grammar.specs.Notes.{this_literal, weight, wide, named_note, entry_note, weights_note, target_count, targets_note, note, node_head, nodes_of, note_part, noted, head_begins, head_part, head_note}
use Rattle.ir_grammar.specs.Instructions.{operator_flags, two_operands, binary, predicate, compare, conversion_flags, pointer_type, convert, freeze, select, entry, entries, phi, alloca, address, load, store, one_marked, marked, indices, gep, callee, argument, arguments, call, tail_call, counters_type, counter_index, counter, counter_add, opcode, assigned, instr, instrs}
use Rattle.ir_grammar.specs.Terminators.{target, jump, branch, br, case, cases, switch, no_value, one_value, ret, unreachable, terminator}
use Rattle.ir_grammar.specs.Functions.{block_behind, block, entry_label, entry_block, blocks, parameter_name, parameter, declared_parameter, parameters, declared_parameters, body, definition, declaration}
use Rattle.ir_grammar.specs.Variables.{scalar, variable_word, variable}
use Rattle.ir_grammar.specs.Grammar.{comdat, assigned as assigned_text, assignment, target_text, group, attribute_group, tuple, special, content, named_metadata, node, metadata, declared, defined, keyword, word_part, variable_part, part, «module»}
use Rattle.ir_grammar.proofs.top_is_read_past.Goals as goal

pub returns : goal.returns
unfolding word sign mark flag global local label any_word word_is number count this_count string behind_comma value_type this_type return_type dimension dimensions shape memory_type literal operand typed_operand balanced node_number attachment assigned_string parens any_attachment after_comma past_begins past_part past_parts tail_part tail this_literal weight wide named_note entry_note weights_note target_count targets_note note node_head note_part noted head_begins head_part head_note operator_flags two_operands binary predicate compare conversion_flags pointer_type convert freeze select entry entries phi alloca address load store one_marked marked indices gep callee argument arguments call tail_call counters_type counter_index counter counter_add opcode assigned instr instrs target jump branch br case cases switch no_value one_value ret unreachable terminator block_behind block entry_label entry_block blocks parameter_name parameter declared_parameter parameters declared_parameters body definition declaration scalar variable_word variable comdat assigned_text assignment target_text group attribute_group tuple special content named_metadata node metadata declared defined keyword word_part variable_part part «module»
returns c = record {
  source = refl;
  no_source = refl;
  comdat = refl;
  target = refl;
  attributes = refl;
  special = refl;
  named_special = refl;
  unclosed = refl;
}
