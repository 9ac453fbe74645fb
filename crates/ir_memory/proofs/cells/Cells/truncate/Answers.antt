use Rattle.std.proofs.Common.{◌≡◌, List, ℕ, take, sym, ap, ◌∙◌, subst}
use Rattle.ir_memory.specs.Packed.{ArePacked, cells_from}
use Rattle.ir_memory.proofs.PackedLemmas.{leaves_front}
use Rattle.ir_memory.proofs.cells.Cells.truncate.Goals as goal

pub invariant_of-self : goal.invariant_of-self
invariant_of-self c =
    let i = c.self.inside in
    let n = c.args.count in
    let m = leaves_front i.pointers.items i.values.items i.tags.items n c.self.invariant in
    let P : List ℕ → Type 0 = λ x. ArePacked x (take n i.tags.items) i.pointers.items in
    let Q : List ℕ → Type 0 = λ x. ArePacked c.truncate.new.self.items x i.pointers.items in
    subst Q (sym c.truncate-2.ensures.items) (subst P (sym c.truncate.ensures.items) m.packed)

pub returns : goal.returns
returns c =
    let i = c.self.inside in
    let n = c.args.count in
    let m = leaves_front i.pointers.items i.values.items i.tags.items n c.self.invariant in
    let v = c.truncate.ensures.items in
    let t = c.truncate-2.ensures.items in
    let e : cells_from i.pointers.items 0 c.truncate.new.self.items c.truncate-2.new.self.items
    ≡ cells_from i.pointers.items 0 (take n i.values.items) (take n i.tags.items) = λ x. cells_from i.pointers.items 0 (v x) (t x) in
    e ∙ m.cells_are ∙ ap (take n) c.self.view_is
