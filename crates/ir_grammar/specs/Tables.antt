-- The words of the language, each set of them a table from words to what they mean.
use Rattle.std.specs.Prelude.{ℕ, Bool, true, false, cond, List, [], ◌∷◌, Option, Some, None, codes}
use Rattle.std.specs.Option.{option_map, option_or}
use Rattle.ir_tree.specs.Names.{same}
use Rattle.ir_tree.specs.Types.{when}
use Rattle.ir_tree.specs.declared.types.Ty.{Ty}
use Rattle.ir_tree.specs.declared.types.Ty.TheVariants.{I1, I8, I16, I32, I64, Ptr}
use Rattle.ir_tree.specs.declared.types.BinOp.{BinOp}
use Rattle.ir_tree.specs.declared.types.BinOp.TheVariants as operators
use Rattle.ir_tree.specs.declared.types.ConvOp.{ConvOp}
use Rattle.ir_tree.specs.declared.types.ConvOp.TheVariants as conversions
use Rattle.ir_tree.specs.declared.types.Pred.{Pred}
use Rattle.ir_tree.specs.declared.types.Pred.TheVariants as predicates
use Rattle.ir_grammar.specs.declared.words.Opcode.{Opcode}
use Rattle.ir_grammar.specs.declared.words.Opcode.TheVariants as opcodes
use Rattle.ir_grammar.specs.declared.words.Effect.{Effect}
use Rattle.ir_grammar.specs.declared.words.Effect.TheVariants as effects
use Rattle.ir_grammar.specs.declared.words.Ending.{Ending}
use Rattle.ir_grammar.specs.declared.words.Ending.TheVariants as endings
use Rattle.ir_grammar.specs.declared.words.Keyword.{Keyword}
use Rattle.ir_grammar.specs.declared.words.Keyword.TheVariants as keywords
use Rattle.ir_grammar.specs.declared.words.NoteKind.{NoteKind}
use Rattle.ir_grammar.specs.declared.words.NoteKind.TheVariants as notes
use Rattle.ir_grammar.specs.declared.words.Past.{Past}
use Rattle.ir_grammar.specs.declared.words.Past.TheVariants as past

-- what the table has for a word, none where it doesn't have the word
abbrev pub by_word : {A : Type 0} → List (List ℕ × A) → List ℕ → Option A
by_word [] text = None
by_word (entry ∷ table) text = cond (same text entry.0) (Some entry.1) (by_word table text)

-- the word is one of these
abbrev pub among : List (List ℕ) → List ℕ → Bool
among [] text = false
among (word ∷ words) text = cond (same text word) true (among words text)

-- # Types

abbrev pub type_words : List (List ℕ × Ty)
type_words =
    (codes "i1", I1) ∷ (codes "i8", I8) ∷ (codes "i16", I16) ∷ (codes "i32", I32) ∷ (codes "i64", I64) ∷
    (codes "ptr", Ptr) ∷ []

abbrev pub type_word : Ty → List ℕ
type_word I1 = codes "i1"
type_word I8 = codes "i8"
type_word I16 = codes "i16"
type_word I32 = codes "i32"
type_word I64 = codes "i64"
type_word Ptr = codes "ptr"

-- # Instructions

abbrev pub operator_words : List (List ℕ × BinOp)
operator_words =
    (codes "add", operators.Add) ∷ (codes "sub", operators.Sub) ∷ (codes "mul", operators.Mul) ∷
    (codes "udiv", operators.UDiv) ∷ (codes "sdiv", operators.SDiv) ∷ (codes "urem", operators.URem) ∷
    (codes "srem", operators.SRem) ∷ (codes "shl", operators.Shl) ∷ (codes "lshr", operators.LShr) ∷
    (codes "ashr", operators.AShr) ∷ (codes "and", operators.And) ∷ (codes "or", operators.Or) ∷
    (codes "xor", operators.Xor) ∷ []

abbrev pub conversion_words : List (List ℕ × ConvOp)
conversion_words =
    (codes "trunc", conversions.Trunc) ∷ (codes "zext", conversions.ZExt) ∷ (codes "sext", conversions.SExt) ∷
    (codes "ptrtoint", conversions.PtrToInt) ∷ []

abbrev pub opcode_words : List (List ℕ × Opcode)
opcode_words =
    (codes "icmp", opcodes.Compare) ∷ (codes "freeze", opcodes.Freeze) ∷ (codes "select", opcodes.Select) ∷
    (codes "phi", opcodes.Phi) ∷ (codes "alloca", opcodes.Alloca) ∷ (codes "load", opcodes.Load) ∷
    (codes "getelementptr", opcodes.Gep) ∷ (codes "call", opcodes.Call) ∷ (codes "tail", opcodes.Tail) ∷
    (codes "notail", opcodes.Tail) ∷ []

-- the first word behind `%d =`
abbrev pub opcode_of : List ℕ → Option Opcode
opcode_of text =
    option_or (option_map opcodes.Binary (by_word operator_words text))
    (option_or (option_map opcodes.Convert (by_word conversion_words text)) (by_word opcode_words text))

abbrev pub predicate_words : List (List ℕ × Pred)
predicate_words =
    (codes "eq", predicates.Eq) ∷ (codes "ne", predicates.Ne) ∷ (codes "ugt", predicates.Ugt) ∷
    (codes "uge", predicates.Uge) ∷ (codes "ult", predicates.Ult) ∷ (codes "ule", predicates.Ule) ∷
    (codes "sgt", predicates.Sgt) ∷ (codes "sge", predicates.Sge) ∷ (codes "slt", predicates.Slt) ∷
    (codes "sle", predicates.Sle) ∷ []

abbrev pub effect_words : List (List ℕ × Effect)
effect_words =
    (codes "store", effects.Store) ∷ (codes "call", effects.Call) ∷ (codes "tail", effects.Tail) ∷
    (codes "notail", effects.Tail) ∷ (codes "atomicrmw", effects.Count) ∷ []

abbrev pub ending_words : List (List ℕ × Ending)
ending_words =
    (codes "br", endings.Br) ∷ (codes "switch", endings.Switch) ∷ (codes "ret", endings.Ret) ∷
    (codes "unreachable", endings.Unreachable) ∷ []

-- # Parts of a module

abbrev pub keyword_words : List (List ℕ × Keyword)
keyword_words =
    (codes "target", keywords.Target) ∷ (codes "attributes", keywords.Attributes) ∷
    (codes "declare", keywords.Declare) ∷ (codes "define", keywords.Define) ∷ []

-- whether the variable is constant
abbrev pub variable_words : List (List ℕ × Bool)
variable_words = (codes "global", false) ∷ (codes "constant", true) ∷ []

-- the names of nodes that hold profile data
abbrev pub note_names : List (List ℕ × NoteKind)
note_names =
    (codes "function_entry_count", notes.Entry) ∷ (codes "branch_weights", notes.Weights) ∷
    (codes "VP", notes.Targets) ∷ []

-- # What is read past

abbrev pub linkage_words : List (List ℕ)
linkage_words =
    codes "private" ∷ codes "internal" ∷ codes "available_externally" ∷ codes "linkonce" ∷ codes "weak" ∷
    codes "common" ∷ codes "appending" ∷ codes "extern_weak" ∷ codes "linkonce_odr" ∷ codes "weak_odr" ∷ []

-- what may be shared, seen or called how
abbrev pub sharing_words : List (List ℕ)
sharing_words =
    codes "dso_local" ∷ codes "dso_preemptable" ∷ codes "default" ∷ codes "hidden" ∷ codes "protected" ∷
    codes "unnamed_addr" ∷ codes "local_unnamed_addr" ∷ codes "ccc" ∷ codes "fastcc" ∷ codes "coldcc" ∷ []

abbrev pub is_linkage : List ℕ → Bool
is_linkage text = cond (among linkage_words text) true (among sharing_words text)

-- before `global` or `constant`, and whether the word is `external`
abbrev pub linkage_of : List ℕ → Option Bool
linkage_of text = cond (is_linkage text) (Some false) (when (same text (codes "external")) true)

-- attributes of a value that are a word alone
abbrev pub value_words : List (List ℕ)
value_words =
    codes "noundef" ∷ codes "zeroext" ∷ codes "signext" ∷ codes "inreg" ∷ codes "nocapture" ∷
    codes "noalias" ∷ codes "nonnull" ∷ codes "readonly" ∷ codes "readnone" ∷ codes "writeonly" ∷ []

abbrev pub other_value_words : List (List ℕ × Past)
other_value_words =
    (codes "returned", past.Alone) ∷ (codes "immarg", past.Alone) ∷ (codes "nofree", past.Alone) ∷
    (codes "nosync", past.Alone) ∷ (codes "align", past.Number) ∷ (codes "dereferenceable", past.Parens) ∷
    (codes "dereferenceable_or_null", past.Parens) ∷ (codes "captures", past.Parens) ∷
    (codes "range", past.Parens) ∷ []

-- with a return type, a parameter or an argument
abbrev pub value_past : List ℕ → Option Past
value_past text = cond (among value_words text) (Some past.Alone) (by_word other_value_words text)

-- before a return type
abbrev pub return_past : List ℕ → Option Past
return_past text = cond (is_linkage text) (Some past.Alone) (cond (same text (codes "external")) (Some past.Alone) (value_past text))

-- attributes of a function that are a word alone
abbrev pub function_words : List (List ℕ)
function_words =
    codes "unnamed_addr" ∷ codes "local_unnamed_addr" ∷ codes "nounwind" ∷ codes "noinline" ∷
    codes "alwaysinline" ∷ codes "optnone" ∷ codes "uwtable" ∷ codes "norecurse" ∷ codes "willreturn" ∷
    codes "mustprogress" ∷ codes "cold" ∷ []

abbrev pub more_function_words : List (List ℕ)
more_function_words =
    codes "hot" ∷ codes "noreturn" ∷ codes "nofree" ∷ codes "nosync" ∷ codes "readnone" ∷ codes "readonly" ∷
    codes "minsize" ∷ codes "optsize" ∷ codes "ssp" ∷ codes "sspstrong" ∷ codes "sspreq" ∷ []

abbrev pub other_function_words : List (List ℕ × Past)
other_function_words =
    (codes "nocallback", past.Alone) ∷ (codes "memory", past.Parens) ∷ (codes "section", past.Text) ∷
    (codes "comdat", past.Alone) ∷ (codes "align", past.Number) ∷ []

-- behind the parameters of a function or the arguments of a call
abbrev pub function_past : List ℕ → Option Past
function_past text =
    cond (among function_words text) (Some past.Alone)
    (cond (among more_function_words text) (Some past.Alone) (by_word other_function_words text))

-- behind a comma after a global variable
abbrev pub variable_past : List (List ℕ × Past)
variable_past =
    (codes "align", past.Number) ∷ (codes "section", past.Text) ∷ (codes "comdat", past.Alone) ∷ []

abbrev pub aligned_past : List (List ℕ × Past)
aligned_past = (codes "align", past.Number) ∷ []
