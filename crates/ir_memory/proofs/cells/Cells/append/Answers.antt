use Rattle.std.proofs.Common.{◌≡◌, ◌+◌, List, ℕ, ◌++◌, length, take, replicate, sym, ap, ◌∙◌, subst, arith}
use Rattle.std.proofs.lemmas.List.{length-append, length-replicate, length-take-le, take_at}
use Rattle.ir_memory.specs.declared.stored_pointer.StoredPointer.{StoredPointer}
use Rattle.ir_memory.specs.Cell.{Cell, Byte}
use Rattle.ir_memory.specs.Packed.{ArePacked, cells_from, put}
use Rattle.ir_memory.proofs.PackedLemmas.{Leaves, leaves_others, sizes}
use Rattle.ir_memory.proofs.cells.Cells.append.Goals as goal

-- how many cells there are once zeros were pushed
pushed_len : (pushed cells : List Cell) (n : ℕ) → pushed ≡ cells ++ replicate n (Byte 0) → length pushed ≡ length cells + n
pushed_len pushed cells n e = ap length e ∙ length-append cells (replicate n (Byte 0)) ∙ ap (λ k. length cells + k) (length-replicate n (Byte 0))

pub put_bytes-requires : goal.put_bytes-requires
put_bytes-requires c =
    let i = c.self.inside in
    let o = c.other.inside in
    let s = sizes i.pointers.items i.values.items i.tags.items c.push_zeros.new.self c.self.invariant c.self.view_is in
    let r = sizes o.pointers.items o.values.items o.tags.items c.args.other.now c.other.invariant c.other.view_is in
    let p = pushed_len c.push_zeros.new.self c.args.self.now c.len.result c.in_ok-push_zeros.ensures.ok in
    let d = ap length c.deref.ensures.value in
    omega arith

pub put_bytes-requires-2 : goal.put_bytes-requires-2
put_bytes-requires-2 c =
    let i = c.self.inside in
    let o = c.other.inside in
    let s = sizes i.pointers.items i.values.items i.tags.items c.push_zeros.new.self c.self.invariant c.self.view_is in
    let r = sizes o.pointers.items o.values.items o.tags.items c.args.other.now c.other.invariant c.other.view_is in
    let p = pushed_len c.push_zeros.new.self c.args.self.now c.len.result c.in_ok-push_zeros.ensures.ok in
    let d = ap length c.deref-2.ensures.value in
    omega arith

pub put_pointers-requires : goal.put_pointers-requires
put_pointers-requires c =
    let i = c.self.inside in
    let o = c.other.inside in
    let s = sizes i.pointers.items i.values.items i.tags.items c.push_zeros.new.self c.self.invariant c.self.view_is in
    let r = sizes o.pointers.items o.values.items o.tags.items c.args.other.now c.other.invariant c.other.view_is in
    let p = pushed_len c.push_zeros.new.self c.args.self.now c.len.result c.in_ok-push_zeros.ensures.ok in
    let d = ap length c.deref-3.ensures.value in
    let t = length-take-le c.len-2.result c.deref-3.result.now (omega arith) in
    omega arith

appended : (c : goal.After-put_pointers)
    → Leaves c.put_bytes.new.bytes.items c.put_bytes-2.new.bytes.items c.put_pointers.new.pointers.items (c.args.self.now ++ c.args.other.now)
appended c =
    let i = c.self.inside in
    let o = c.other.inside in
    let at = c.len-start.result in
    let s = sizes i.pointers.items i.values.items i.tags.items c.push_zeros.new.self c.self.invariant c.self.view_is in
    let r = sizes o.pointers.items o.values.items o.tags.items c.args.other.now c.other.invariant c.other.view_is in
    let p = pushed_len c.push_zeros.new.self c.args.self.now c.len.result c.in_ok-push_zeros.ensures.ok in
    let m = leaves_others i.pointers.items o.pointers.items i.values.items i.tags.items o.values.items o.tags.items at c.self.invariant c.other.invariant (omega arith) in
    let v : c.put_bytes.new.bytes.items ≡ put i.values.items at o.values.items = c.put_bytes.ensures ∙ ap (put i.values.items at) c.deref.ensures.value in
    let t : c.put_bytes-2.new.bytes.items ≡ put i.tags.items at o.tags.items = c.put_bytes-2.ensures ∙ ap (put i.tags.items at) c.deref-2.ensures.value in
    let n : c.len-2.result ≡ length o.values.items = omega arith in
    let front : take c.len-2.result c.deref-3.result.now ≡ take (length o.values.items) o.pointers.items =
    ap (λ k. take k c.deref-3.result.now) n ∙ ap (take (length o.values.items)) c.deref-3.ensures.value in
    let q : c.put_pointers.new.pointers.items ≡ put i.pointers.items at (take (length o.values.items) o.pointers.items) =
    c.put_pointers.ensures ∙ ap (put i.pointers.items at) front in
    let vs = put i.values.items at o.values.items in
    let ts = put i.tags.items at o.tags.items in
    let e : cells_from c.put_pointers.new.pointers.items 0 c.put_bytes.new.bytes.items c.put_bytes-2.new.bytes.items
    ≡ cells_from (put i.pointers.items at (take (length o.values.items) o.pointers.items)) 0 vs ts = λ x. cells_from (q x) 0 (v x) (t x) in
    let zeros : List Cell = replicate c.len.result (Byte 0) in
    let start : take at (cells_from i.pointers.items 0 i.values.items i.tags.items) ≡ c.args.self.now =
    ap (take at) (c.self.view_is ∙ c.in_ok-push_zeros.ensures.ok) ∙ take_at c.args.self.now zeros at (omega arith) in
    let view = c.other.view_is in
    let P : List ℕ → Type 0 = λ x. ArePacked x ts (put i.pointers.items at (take (length o.values.items) o.pointers.items)) in
    let Q : List ℕ → Type 0 = λ x. ArePacked c.put_bytes.new.bytes.items x (put i.pointers.items at (take (length o.values.items) o.pointers.items)) in
    let R : List StoredPointer → Type 0 = λ x. ArePacked c.put_bytes.new.bytes.items c.put_bytes-2.new.bytes.items x in
    record {
      packed = subst R (sym q) (subst Q (sym t) (subst P (sym v) m.packed));
      cells_are = e ∙ m.cells_are ∙ (λ x. start x ++ view x);
    }

pub invariant_of-self : goal.invariant_of-self
invariant_of-self c = (appended c).packed

pub returns-clause-ok : goal.returns-clause-ok
returns-clause-ok c = (appended c).cells_are
