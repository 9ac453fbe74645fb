-- Single sentences of the language that a reader could doubt: what is read, and what is refused.
use Rattle.std.specs.Prelude.{◌≡◌, ℕ, zero, suc, Bool, true, false, List, [], ◌∷◌, ◌++◌, replicate, Option, Some, None, codes}
use Rattle.ir_lex.specs.Tokens.{Token, Word, Number, Global, Local, Label, Str, Bytes, Group, Mark, Sign}
use Rattle.ir_tree.specs.declared.types.Ty.{Ty}
use Rattle.ir_tree.specs.declared.types.Ty.TheVariants.{I1, I8, I16, I32, I64, Ptr}
use Rattle.ir_tree.specs.declared.types.Operand.TheVariants as operands
use Rattle.ir_tree.specs.declared.types.BinOp.TheVariants.{Add, Or}
use Rattle.ir_tree.specs.declared.types.ConvOp.TheVariants.{Trunc, PtrToInt}
use Rattle.ir_tree.specs.declared.types.Init.TheVariants as inits
use Rattle.ir_tree.specs.declared.types.Instr.{Instr}
use Rattle.ir_tree.specs.declared.types.Instr.TheVariants.{Binary, Convert, Gep}
use Rattle.ir_tree.specs.declared.types.MemTy.TheVariants.{Scalar}
use Rattle.ir_tree.specs.declared.types.Prof.TheVariants.{Entry, Weights, Targets}
use Rattle.ir_grammar.specs.Words.{Tokens}
use Rattle.ir_grammar.specs.Types.{shape, literal, operand}
use Rattle.ir_grammar.specs.Past.{past_parts, tail}
use Rattle.ir_grammar.specs.Notes.{Nodes, nodes_of, note_of, noted}
use Rattle.ir_grammar.specs.Instructions.{binary, convert, phi, gep}
use Rattle.ir_grammar.specs.Terminators.{cases}
use Rattle.ir_grammar.specs.Functions.{named, numbered, declared_parameters}
use Rattle.ir_grammar.specs.Variables.{init}
use Rattle.ir_grammar.specs.Grammar.{metadata, word_part}
use Rattle.ir_grammar.specs.declared.words.NoteKind.TheVariants as kinds
use Rattle.ir_grammar.specs.declared.words.Place.TheVariants as places
use Rattle.ir_grammar.specs.declared.words.Tail.TheVariants as tails
use Rattle.ir_grammar.specs.declared.parts.Part.TheVariants as parts

-- `[1 x`, so many times, then `i8`, and as many closing brackets
abbrev pub nested : ℕ → Tokens → Tokens
nested zero inner = inner
nested (suc n) inner = Sign 91 ∷ Number false 1 ∷ Word (codes "x") ∷ nested n (inner ++ Sign 93 ∷ [])

-- Flags stand in one order, and only where the operator may have them.
pub record FlagsStandInOrder : Type 0 where
  pub in_order : (binary [] Add).read (Word (codes "nuw") ∷ Word (codes "nsw") ∷ Word (codes "i8") ∷ Number false 1 ∷ Sign 44 ∷ Number false 2 ∷ []) ≡ Some (Binary [] Add (record { nuw = true; nsw = true; exact = false }) I8 (operands.Int 1) (operands.Int 2), [])
  pub out_of_order : (binary [] Add).read (Word (codes "nsw") ∷ Word (codes "nuw") ∷ Word (codes "i8") ∷ Number false 1 ∷ Sign 44 ∷ Number false 2 ∷ []) ≡ None
  pub disjoint_or : (binary [] Or).read (Word (codes "disjoint") ∷ Word (codes "i8") ∷ Number false 1 ∷ Sign 44 ∷ Number false 2 ∷ []) ≡ Some (Binary [] Or (record { nuw = false; nsw = false; exact = false }) I8 (operands.Int 1) (operands.Int 2), [])
  pub disjoint_add : (binary [] Add).read (Word (codes "disjoint") ∷ Word (codes "i8") ∷ Number false 1 ∷ Sign 44 ∷ Number false 2 ∷ []) ≡ None

-- A pointer is truncated by the grammar, and no integer is converted from a pointer that isn't one.
pub record ConversionsAreSpelled : Type 0 where
  pub trunc_ptr : (convert [] Trunc).read (Word (codes "ptr") ∷ Local (codes "p") ∷ Word (codes "to") ∷ Word (codes "i8") ∷ []) ≡ Some (Convert [] Trunc (record { nuw = false; nsw = false; exact = false }) Ptr (operands.Local (codes "p")) I8, [])
  pub no_pointer : (convert [] PtrToInt).read (Word (codes "i64") ∷ Local (codes "p") ∷ Word (codes "to") ∷ Word (codes "i8") ∷ []) ≡ None

-- A literal is in the range of its type; `true` and `false` are literals of `i1` alone, and pointers have none.
pub record LiteralsAreInRange : Type 0 where
  pub least : (literal I8).read (Number true 128 ∷ []) ≡ Some (128, [])
  pub below : (literal I8).read (Number true 129 ∷ []) ≡ None
  pub greatest : (literal I8).read (Number false 255 ∷ []) ≡ Some (255, [])
  pub above : (literal I8).read (Number false 256 ∷ []) ≡ None
  pub truth : (literal I1).read (Word (codes "true") ∷ []) ≡ Some (1, [])
  pub no_truth : (literal I8).read (Word (codes "true") ∷ []) ≡ None
  pub pointer : (operand Ptr).read (Number false 0 ∷ []) ≡ None
  pub null_anywhere : (operand I8).read (Word (codes "null") ∷ []) ≡ Some (operands.Null, [])

-- The number of elements of an array has no sign.
pub record ArraysHaveCounts : Type 0 where
  pub zero_count : shape.read (Sign 91 ∷ Number false 0 ∷ Word (codes "x") ∷ Word (codes "i8") ∷ Sign 93 ∷ []) ≡ Some ((0 ∷ [], I8), [])
  pub minus_zero : shape.read (Sign 91 ∷ Number true 0 ∷ Word (codes "x") ∷ Word (codes "i8") ∷ Sign 93 ∷ []) ≡ None
  pub sixteen : shape.read (nested 16 (Word (codes "i8") ∷ [])) ≡ Some ((replicate 16 1, I8), [])
  pub seventeen : shape.read (nested 17 (Word (codes "i8") ∷ [])) ≡ None
  pub empty_list : (init (0 ∷ []) I8).read (Sign 91 ∷ Sign 93 ∷ []) ≡ Some (inits.List [], [])
  pub other_element : (init (1 ∷ []) I8).read (Sign 91 ∷ Word (codes "i16") ∷ Number false 1 ∷ Sign 93 ∷ []) ≡ None
  pub list_of_scalar : (init [] I8).read (Sign 91 ∷ Sign 93 ∷ []) ≡ None

-- A phi has an entry at least, and a switch may have no case.
pub record ListsMayBeEmpty : Type 0 where
  pub phi_without : (phi []).read (Word (codes "i8") ∷ []) ≡ None
  pub switch_without : (cases I8).read (Sign 93 ∷ []) ≡ Some ([], Sign 93 ∷ [])

-- The flags of an address stand in any order, and its last comma may begin an attachment.
pub record AddressesHaveFlags : Type 0 where
  pub in_any_order : (gep []).read (Word (codes "nuw") ∷ Word (codes "inbounds") ∷ Word (codes "i8") ∷ Sign 44 ∷ Word (codes "ptr") ∷ Local (codes "p") ∷ Sign 44 ∷ Word (codes "i64") ∷ Number false 1 ∷ Sign 44 ∷ Mark ∷ Word (codes "dbg") ∷ Mark ∷ Number false 9 ∷ []) ≡ Some (Gep [] true (Scalar I8) (operands.Local (codes "p")) ((I64, operands.Int 1) ∷ []), [])
  pub without_index : (gep []).read (Word (codes "i8") ∷ Sign 44 ∷ Word (codes "ptr") ∷ Local (codes "p") ∷ []) ≡ None

-- Words before a return type mix and may repeat; a word that an `=` follows is the name of a comdat.
pub record WordsAreReadPast : Type 0 where
  pub mixed : (past_parts places.Return).read (Word (codes "noundef") ∷ Word (codes "fastcc") ∷ Word (codes "align") ∷ Number false 8 ∷ Word (codes "fastcc") ∷ Word (codes "range") ∷ Sign 40 ∷ Word (codes "i8") ∷ Sign 91 ∷ Sign 93 ∷ Sign 41 ∷ Word (codes "i8") ∷ []) ≡ Some (tt, Word (codes "i8") ∷ [])
  pub unbalanced : (past_parts places.Return).read (Word (codes "range") ∷ Sign 40 ∷ Sign 91 ∷ Sign 41 ∷ []) ≡ None
  pub attributes : (past_parts places.Function).read (Str (codes "a") ∷ Sign 61 ∷ Str (codes "b") ∷ Group (codes "0") ∷ Word (codes "section") ∷ Str (codes "s") ∷ Word (codes "cold") ∷ Sign 61 ∷ []) ≡ Some (tt, Word (codes "cold") ∷ Sign 61 ∷ [])
  pub alignment : (tail tails.Aligned).read (Sign 44 ∷ Word (codes "align") ∷ Number false 8 ∷ Sign 44 ∷ Mark ∷ Word (codes "x") ∷ Mark ∷ Number false 1 ∷ []) ≡ Some (tt, [])
  pub no_alignment : (tail tails.Plain).read (Sign 44 ∷ Word (codes "align") ∷ Number false 8 ∷ []) ≡ None

-- A parameter without a name takes the number of those before it that have none or a number. A declaration names none.
pub record ParametersAreNumbered : Type 0 where
  pub by_number : named 0 ((I8, []) ∷ (I8, codes "a") ∷ (I8, codes "7") ∷ (I8, []) ∷ []) ≡ (I8, codes "0") ∷ (I8, codes "a") ∷ (I8, codes "7") ∷ (I8, codes "2") ∷ []
  pub first_block : numbered ((I8, []) ∷ (I8, codes "a") ∷ (I8, codes "7") ∷ (I8, []) ∷ []) ≡ 3
  pub declared : declared_parameters.read (Sign 40 ∷ Word (codes "i8") ∷ Local (codes "a") ∷ Sign 41 ∷ []) ≡ None

-- `!N = !{!"branch_weights", i32 W}`
abbrev pub weight_node : ℕ → ℕ → Tokens
weight_node n w = Mark ∷ Number false n ∷ Sign 61 ∷ Mark ∷ Sign 123 ∷ Mark ∷ Str (codes "branch_weights") ∷ Sign 44 ∷ Word (codes "i32") ∷ Number false w ∷ Sign 125 ∷ []

-- `, !prof !N`
abbrev pub prof_part : ℕ → Tokens
prof_part n = Sign 44 ∷ Mark ∷ Word (codes "prof") ∷ Mark ∷ Number false n ∷ []

-- nodes 1, 2, 2 and 3, of which 3 is distinct
abbrev pub four_nodes : Tokens
four_nodes = weight_node 1 5 ++ weight_node 2 6 ++ weight_node 2 6 ++ Mark ∷ Number false 3 ∷ Sign 61 ∷ Word (codes "distinct") ∷ Mark ∷ Sign 123 ∷ Mark ∷ Str (codes "branch_weights") ∷ Sign 44 ∷ Word (codes "i32") ∷ Number false 7 ∷ Sign 125 ∷ []

-- A note is kept where its node is defined once, has the shape, and may stand there; of several the first is kept.
pub record NotesAreKept : Type 0 where
  pub once : note_of (nodes_of four_nodes) 1 ≡ Some (Weights (5 ∷ []))
  pub twice : note_of (nodes_of four_nodes) 2 ≡ None
  pub distinct : note_of (nodes_of four_nodes) 3 ≡ None
  pub absent : note_of (nodes_of four_nodes) 4 ≡ None
  pub inside_brackets : nodes_of (Mark ∷ Number false 1 ∷ Sign 61 ∷ Mark ∷ Sign 123 ∷ weight_node 2 6 ++ Sign 125 ∷ []) ≡ (1, None) ∷ []
  pub first_of_several : (noted (nodes_of (weight_node 1 5 ++ weight_node 2 6)) kinds.Weights).read (prof_part 7 ++ prof_part 2 ++ prof_part 1) ≡ Some (Some (Weights (6 ∷ [])), [])
  pub in_another_place : (noted (nodes_of (weight_node 1 5)) kinds.Targets).read (prof_part 1) ≡ Some (None, [])
  pub another_name : (noted (nodes_of (weight_node 1 5)) kinds.Weights).read (Sign 44 ∷ Mark ∷ Word (codes "dbg") ∷ Mark ∷ Number false 1 ∷ []) ≡ Some (None, [])

-- What stands at the top of a module without being part of it.
pub record TopIsReadPast : Type 0 where
  pub source : (word_part [] (codes "source_filename")).read (Sign 61 ∷ Str (codes "a.c") ∷ []) ≡ Some (parts.Nothing, [])
  pub no_source : (word_part [] (codes "source")).read (Sign 61 ∷ Str (codes "a.c") ∷ []) ≡ None
  pub comdat : (word_part [] (codes "cold")).read (Sign 61 ∷ Word (codes "comdat") ∷ Word (codes "any") ∷ []) ≡ Some (parts.Nothing, [])
  pub target : (word_part [] (codes "target")).read (Word (codes "triple") ∷ Sign 61 ∷ Str (codes "x") ∷ []) ≡ Some (parts.Nothing, [])
  pub attributes : (word_part [] (codes "attributes")).read (Group (codes "0") ∷ Sign 61 ∷ Sign 123 ∷ Str (codes "a") ∷ Sign 61 ∷ Str (codes "b") ∷ Sign 125 ∷ []) ≡ Some (parts.Nothing, [])
  pub special : metadata.read (Number false 8 ∷ Sign 61 ∷ Word (codes "distinct") ∷ Mark ∷ Word (codes "DISubprogram") ∷ Sign 40 ∷ Label (codes "name") ∷ Str (codes "f") ∷ Sign 41 ∷ []) ≡ Some (parts.Nothing, [])
  pub named_special : metadata.read (Word (codes "llvm.ident") ∷ Sign 61 ∷ Mark ∷ Word (codes "x") ∷ Sign 40 ∷ Sign 41 ∷ []) ≡ None
  pub unclosed : metadata.read (Number false 0 ∷ Sign 61 ∷ Mark ∷ Sign 123 ∷ Word (codes "i32") ∷ Number false 1 ∷ []) ≡ None
