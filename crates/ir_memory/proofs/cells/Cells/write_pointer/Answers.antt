use Rattle.std.proofs.Common.{◌≡◌, List, ℕ, length, set, sym, ap, ◌∙◌, subst, arith}
use Rattle.std.specs.Int.{w64, to_le_bytes}
use Rattle.ir_memory.specs.declared.stored_pointer.StoredPointer.{StoredPointer}
use Rattle.ir_memory.specs.Address.{address_of}
use Rattle.ir_memory.specs.Cell.{Cell}
use Rattle.ir_memory.specs.Contents.{overwritten, pieces}
use Rattle.ir_memory.specs.Packed.{ArePacked, cells_from, put}
use Rattle.ir_memory.proofs.ByteLemmas.{shifted_bytes, le_bytes-shifted}
use Rattle.ir_memory.proofs.PackedLemmas.{Leaves, leaves_pointer, piece_tags, sizes}
use Rattle.ir_memory.proofs.cells.Cells.write_pointer.Goals as goal

pub put_bytes-requires : goal.put_bytes-requires
put_bytes-requires c =
    let i = c.self.inside in
    let s = sizes i.pointers.items i.values.items i.tags.items c.args.self.now c.self.invariant c.self.view_is in
    let l = ap length c.to_le_bytes.ensures in
    omega arith

pub put_bytes-requires-2 : goal.put_bytes-requires-2
put_bytes-requires-2 c =
    let i = c.self.inside in
    let s = sizes i.pointers.items i.values.items i.tags.items c.args.self.now c.self.invariant c.self.view_is in
    omega arith

pub index_mut-requires : goal.index_mut-requires
index_mut-requires c =
    let i = c.self.inside in
    let s = sizes i.pointers.items i.values.items i.tags.items c.args.self.now c.self.invariant c.self.view_is in
    omega arith

pointer_written : (c : goal.After-self-1)
    → Leaves c.put_bytes.new.bytes.items c.put_bytes-2.new.bytes.items (set c.self.inside.pointers.items c.args.at (record { base = c.args.base; offset = c.args.offset }))
    (overwritten c.args.self.now c.args.at (pieces c.args.base c.args.offset))
pointer_written c =
    let i = c.self.inside in
    let at = c.args.at in
    let p : StoredPointer = record { base = c.args.base; offset = c.args.offset } in
    let s = sizes i.pointers.items i.values.items i.tags.items c.args.self.now c.self.invariant c.self.view_is in
    let bs = shifted_bytes 0 8 (address_of p.base p.offset) in
    let m = leaves_pointer i.pointers.items i.values.items i.tags.items at p c.self.invariant (omega arith) in
    let b : c.to_le_bytes.result ≡ bs = c.to_le_bytes.ensures ∙ ap (to_le_bytes w64) c.address.ensures ∙ le_bytes-shifted (address_of p.base p.offset) in
    let v : c.put_bytes.new.bytes.items ≡ put i.values.items at bs = c.put_bytes.ensures ∙ ap (put i.values.items at) b in
    let t : c.put_bytes-2.new.bytes.items ≡ put i.tags.items at (piece_tags 0 8) = c.put_bytes-2.ensures in
    let qs = set i.pointers.items at p in
    let e : cells_from qs 0 c.put_bytes.new.bytes.items c.put_bytes-2.new.bytes.items ≡ cells_from qs 0 (put i.values.items at bs) (put i.tags.items at (piece_tags 0 8)) =
    λ x. cells_from qs 0 (v x) (t x) in
    let P : List ℕ → Type 0 = λ x. ArePacked x (put i.tags.items at (piece_tags 0 8)) qs in
    let Q : List ℕ → Type 0 = λ x. ArePacked c.put_bytes.new.bytes.items x qs in
    record {
      packed = subst Q (sym t) (subst P (sym v) m.packed);
      cells_are = e ∙ m.cells_are ∙ ap (λ (cs : List Cell). overwritten cs at (pieces p.base p.offset)) c.self.view_is;
    }

pub invariant_of-self : goal.invariant_of-self
invariant_of-self c = (pointer_written c).packed

pub returns : goal.returns
returns c = (pointer_written c).cells_are
