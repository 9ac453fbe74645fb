use Rattle.std.proofs.Common.{List, ℕ, take, drop, sym, ap, ◌∙◌, Bool, false, Result, Ok, arith}
use Rattle.ir_memory.specs.declared.error.MemError.{MemError}
use Rattle.ir_memory.specs.declared.value.Value.{Value}
use Rattle.ir_memory.specs.declared.value.Value.TheVariants.{Int}
use Rattle.ir_memory.specs.Cell.{Cell}
use Rattle.ir_memory.specs.Contents.{value_in}
use Rattle.ir_memory.proofs.PackedLemmas.{sizes}
use Rattle.ir_memory.proofs.ReadLemmas.{number_in}
use Rattle.ir_memory.proofs.cells.Cells.read.Goals as goal

pub number_at-requires-clause-within : goal.number_at-requires-clause-within
number_at-requires-clause-within c =
    let i = c.self.inside in
    let s = sizes i.pointers.items i.values.items i.tags.items c.args.self.now c.self.invariant c.self.view_is in
    let w = c.requires.within in
    omega arith

pub returns-else-pointer : goal.returns-else-pointer
returns-else-pointer c =
    let i = c.self.inside in
    let at = c.args.at in
    let w = c.args.width in
    let n = number_in i.pointers.items i.values.items i.tags.items (take w (drop at c.deref.result.now)) at w c.number_at.result c.self.invariant
    (ap (λ (x : List ℕ). take w (drop at x)) c.deref.ensures.value) c.number_at.ensures in
    let int : ℕ → Result Value MemError = λ m. Ok (Int m) in
    ap int n ∙ ap (λ (cs : List Cell). value_in false (take w (drop at cs))) c.self.view_is
    ∙ ap (λ (b : Bool). value_in b (take w (drop at c.args.self.now))) (sym c.if-pointer.false)
