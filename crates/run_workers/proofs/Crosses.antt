-- What the workers share may be shared between threads: a module, and its code. The types of a module that hold
-- themselves are shown by their layers.
use mathlib.Core.List.{List, [], ◌∷◌}
use denote.RattleType.{RattleType}
use denote.Hole.{as_row}
use denote.Struct.Field.{u64-field, u32-field, bool-field, row_field}
use mir.Syntax.{Sym}
use denote.Struct.Tuple.{Tuple, TupleAt, type_at, parts, tuple_type}
use denote.Builtin
use denote.Ref.{NamedLft}
use denote.Param.Send.{IsSend, IsSync, AllSend, shr_sync, view_sync, sendable}
use denote.Param.SendFields.{FieldsHave, as_row_send, as_row_sync, declared_send, declared_sync, variants_sync}
use denote.Hole.FixSend.{Syncs, fix_sync}
use Rattle.sqlite_items.proofs.boxed.Boxed.TheSendSync as boxed
use Rattle.seq.proofs.Seq.TheSendSync as seq
use Rattle.std.proofs.option.Option.TheSendSync as option
use Rattle.ir_tree.proofs.name.Name.TheSendSync as name
use Rattle.ir_tree.proofs.types.Ty.TheSendSync as ty
use Rattle.ir_tree.proofs.types.Ret.TheSendSync as ret
use Rattle.ir_tree.proofs.types.BinOp.TheSendSync as bin_op
use Rattle.ir_tree.proofs.types.ConvOp.TheSendSync as conv_op
use Rattle.ir_tree.proofs.types.Pred.TheSendSync as pred
use Rattle.ir_tree.proofs.types.Flags.TheSendSync as flags
use Rattle.ir_tree.proofs.types.Operand.TheSendSync as operand
use Rattle.ir_tree.proofs.types.Prof.TheSendSync as prof
use Rattle.ir_tree.proofs.types.Term.TheSendSync as term
use Rattle.std.specs.contracts.option.Option as Option
use Rattle.sqlite_items.specs.contracts.boxed.Boxed as Boxed
use Rattle.ir_tree.specs.contracts.types.Prof as Prof
use Rattle.ir_model.proofs.probe.Tally.TheSendSync as tally
use Rattle.ir_code.proofs.code.FunctionCode.TheSendSync as function_code
use Rattle.ir_code.proofs.images.GlobalImage.TheSendSync as image
use Rattle.ir_machine.proofs.slots.Numbering.TheSendSync as numbering
use Rattle.ir_machine.specs.contracts.program.Code as Code
use Rattle.ir_machine.specs.contracts.program.Code.TheInside as code_inside
use Rattle.ir_tree.specs.contracts.types.MemTy as MemTy
use Rattle.ir_tree.specs.contracts.types.MemTy.TheKnot as mem_knot
use Rattle.ir_tree.specs.contracts.types.Init as Init
use Rattle.ir_tree.specs.contracts.types.Init.TheKnot as init_knot
use Rattle.ir_tree.specs.contracts.types.Instr as Instr
use Rattle.ir_tree.specs.contracts.types.Block as Block
use Rattle.ir_tree.specs.contracts.types.Function as Function
use Rattle.ir_tree.specs.contracts.types.Global1 as Global1
use Rattle.ir_tree.specs.contracts.types.Module as Module

word : IsSync (as_row u64-field)
word = search sendable

half : IsSync (as_row u32-field)
half = search sendable

byte : IsSync denote.Builtin.u8
byte = search sendable

truth : IsSync (as_row bool-field)
truth = search sendable

mem_step : (i : mem_knot.the_members) → Syncs MemTy.the_ring i
mem_step = MemTy.by_members (λ i. Syncs MemTy.the_ring i) (record { sync = λ h all. variants_sync (mem_knot.type-MemTy (h MemTy.the_member)) ((ty.the_sync, tt), ((word, (boxed.the_sync _ (all MemTy.the_member), tt)), tt)) })

mem_hole : IsSync MemTy.the_hole
mem_hole = record { shared = (fix_sync MemTy.the_ring mem_step MemTy.the_member).shared }

pub mem_sync : IsSync MemTy.the_row
mem_sync = variants_sync MemTy.enum ((ty.the_sync, tt), ((word, (boxed.the_sync _ mem_hole, tt)), tt))

init_step : (i : init_knot.the_members) → Syncs Init.the_ring i
init_step =
    Init.by_members (λ i. Syncs Init.the_ring i)
    (record { sync = λ h all. variants_sync (init_knot.type-Init (h Init.the_member)) ((word, tt), (tt, ((name.the_sync, tt), (tt, ((seq.the_sync _ byte, tt), ((seq.the_sync _ (all Init.the_member), tt), (tt, tt))))))) })

init_hole : IsSync Init.the_hole
init_hole = record { shared = (fix_sync Init.the_ring init_step Init.the_member).shared }

pub init_sync : IsSync Init.the_row
init_sync = variants_sync Init.enum ((word, tt), (tt, ((name.the_sync, tt), (tt, ((seq.the_sync _ byte, tt), ((seq.the_sync _ init_hole, tt), (tt, tt)))))))

pair_sync : (A B : RattleType) → IsSync A → IsSync B → IsSync (Tuple (A ∷ B ∷ []))
pair_sync A B a b = declared_sync (tuple_type (A ∷ B ∷ [])) (as_row_sync (row_field A) a, (as_row_sync (row_field B) b, tt))

pub global_sync : IsSync Global1.the_row
global_sync = declared_sync Global1.the_type (name.the_sync, (truth, (mem_sync, (init_sync, tt))))

-- an optional note of weights
noted : IsSync (Option.the_row (Boxed.the_row Prof.the_row))
noted = option.the_sync _ (boxed.the_sync _ prof.the_sync)

pub instr_sync : IsSync Instr.the_row
instr_sync =
    let n = name.the_sync in let t = ty.the_sync in let o = operand.the_sync in
    variants_sync Instr.enum (
      (n, (bin_op.the_sync, (flags.the_sync, (t, (o, (o, tt)))))),
      (
        (n, (pred.the_sync, (t, (o, (o, tt))))),
        (
          (n, (conv_op.the_sync, (flags.the_sync, (t, (o, (t, tt)))))),
          (
            (n, (t, (o, tt))),
            (
              (n, (o, (t, (o, (o, (noted, tt)))))),
              (
                (n, (t, (seq.the_sync _ (pair_sync _ _ o n), tt))),
                (
                  (n, (mem_sync, tt)),
                  (
                    (n, (t, (o, tt))),
                    (
                      (t, (o, (o, tt))),
                      (
                        (n, (truth, (mem_sync, (o, (seq.the_sync _ (pair_sync _ _ t o), tt))))),
                        (
                          (option.the_sync _ n, (ret.the_sync, (o, (seq.the_sync _ (pair_sync _ _ t o), (noted, tt))))),
                          ((n, (word, (word, (o, tt)))), tt),
                        ),
                      ),
                    ),
                  ),
                ),
              ),
            ),
          ),
        ),
      ),
    )

pub block_sync : IsSync Block.the_row
block_sync = declared_sync Block.the_type (name.the_sync, (seq.the_sync _ instr_sync, (term.the_sync, tt)))

pub function_sync : IsSync Function.the_row
function_sync = declared_sync Function.the_type (name.the_sync, (ret.the_sync, (seq.the_sync _ (pair_sync _ _ ty.the_sync name.the_sync), (seq.the_sync _ block_sync, (noted, tt)))))

pub module_sync : IsSync Module.the_row
module_sync = declared_sync Module.the_type (seq.the_sync _ global_sync, (seq.the_sync _ function_sync, tt))

pub code_sync : (a : NamedLft) → IsSync (Code.the_row a)
code_sync a =
    view_sync (code_inside.the_row a) _ _ _ _
    (declared_sync (code_inside.the_type a) (
      shr_sync _ _ Module.the_row module_sync,
      (
        seq.the_sync _ function_code.the_sync,
        (seq.the_sync _ image.the_sync, (seq.the_sync _ tally.the_sync, (half, (half, (numbering.the_sync, tt))))),
      ),
    ))

parts_send : (Ts : List RattleType) → AllSend Ts → FieldsHave IsSend (parts Ts)
parts_send [] s = tt
parts_send (R ∷ Ts) s = (as_row_send (row_field R) s.0, parts_send Ts s.1)

-- what a closure captured, each of which may go to another thread
pub captured_send : (ν : Sym) (Ts : List RattleType) → AllSend Ts → IsSend (TupleAt ν Ts)
captured_send ν Ts s = declared_send (type_at ν Ts) (parts_send Ts s)

-- a closure that captured thirteen things
pub thirteen_send :
    (ν : Sym) (A B C D E F G H I J K L M : RattleType)
    → IsSend A → IsSend B → IsSend C → IsSend D → IsSend E → IsSend F → IsSend G → IsSend H → IsSend I → IsSend J → IsSend K → IsSend L → IsSend M
    → IsSend (TupleAt ν (A ∷ B ∷ C ∷ D ∷ E ∷ F ∷ G ∷ H ∷ I ∷ J ∷ K ∷ L ∷ M ∷ []))
thirteen_send ν A B C D E F G H I J K L M a b c d e f g h i j k l m =
    captured_send ν (A ∷ B ∷ C ∷ D ∷ E ∷ F ∷ G ∷ H ∷ I ∷ J ∷ K ∷ L ∷ M ∷ []) (a, (b, (c, (d, (e, (f, (g, (h, (i, (j, (k, (l, (m, tt)))))))))))))
