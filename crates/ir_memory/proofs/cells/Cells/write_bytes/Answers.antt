use Rattle.std.proofs.Common.{◌≡◌, List, ℕ, length, map, replicate, refl, sym, ap, ◌∙◌, subst, arith}
use Rattle.ir_memory.specs.Cell.{Cell, Byte}
use Rattle.ir_memory.specs.Contents.{overwritten}
use Rattle.ir_memory.specs.Packed.{ArePacked, cells_from, put}
use Rattle.ir_memory.proofs.PackedLemmas.{Leaves, leaves_bytes, sizes}
use Rattle.ir_memory.proofs.cells.Cells.write_bytes.Goals as goal

pub put_bytes-requires : goal.put_bytes-requires
put_bytes-requires c =
    let i = c.self.inside in
    let s = sizes i.pointers.items i.values.items i.tags.items c.args.self.now c.self.invariant c.self.view_is in
    omega arith

pub put_zeros-requires : goal.put_zeros-requires
put_zeros-requires c =
    let i = c.self.inside in
    let s = sizes i.pointers.items i.values.items i.tags.items c.args.self.now c.self.invariant c.self.view_is in
    omega arith

bytes_written : (c : goal.After-put_zeros)
    → Leaves c.put_bytes.new.bytes.items c.put_zeros.new.bytes.items c.self.inside.pointers.items (overwritten c.args.self.now c.args.at (map Byte c.args.bytes.now))
bytes_written c =
    let i = c.self.inside in
    let bs = c.args.bytes.now in
    let at = c.args.at in
    let s = sizes i.pointers.items i.values.items i.tags.items c.args.self.now c.self.invariant c.self.view_is in
    let m = leaves_bytes i.pointers.items i.values.items i.tags.items bs at (length bs) c.self.invariant (omega arith) refl in
    let v = c.put_bytes.ensures in
    let t = c.put_zeros.ensures in
    let e : cells_from i.pointers.items 0 c.put_bytes.new.bytes.items c.put_zeros.new.bytes.items
    ≡ cells_from i.pointers.items 0 (put i.values.items at bs) (put i.tags.items at (replicate (length bs) 0)) = λ x. cells_from i.pointers.items 0 (v x) (t x) in
    let P : List ℕ → Type 0 = λ x. ArePacked x (put i.tags.items at (replicate (length bs) 0)) i.pointers.items in
    let Q : List ℕ → Type 0 = λ x. ArePacked c.put_bytes.new.bytes.items x i.pointers.items in
    record {
      packed = subst Q (sym t) (subst P (sym v) m.packed);
      cells_are = e ∙ m.cells_are ∙ ap (λ (cs : List Cell). overwritten cs at (map Byte bs)) c.self.view_is;
    }

pub invariant_of-self : goal.invariant_of-self
invariant_of-self c = (bytes_written c).packed

pub returns : goal.returns
returns c = (bytes_written c).cells_are
