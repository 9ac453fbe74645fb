use Rattle.std.proofs.Common.{◌+◌, ◌≤◌, length, sym, arith, rules}
use Rattle.ir_memory.proofs.WholeLemmas.{WroteObject, wrote_object, write_none, write_refused, write_within, objects_are, place_is, none_is, object_within, cells_le}
use Rattle.ir_memory.proofs.memory.Memory.write.Goals as goal

pub index_of-requires : goal.index_of-requires
index_of-requires c =
    let m = c.self.inside in
    objects_are m.next m.objects.items c.deref.result.now m.cells m.live_cells c.deref.ensures.value c.self.invariant

pub returns-in_default-clause-err : goal.returns-in_default-clause-err
returns-in_default-clause-err c =
    let x = c.args in
    let m = c.self.inside in
    let none = none_is m.objects.items c.deref.result.now x.number c.deref.ensures.value c.in_default.ensures in
    rw (← c.self.view_is) (write_none x.protect m.next m.objects.items m.cells x.number x.offset x.width x.value none)

pub returns-then-not-may_write-clause-err : goal.returns-then-not-may_write-clause-err
returns-then-not-may_write-clause-err c =
    let x = c.args in
    let m = c.self.inside in
    let o = c.index.result.now in
    let place = place_is m.objects.items c.deref.result.now x.number c.in-Some.at c.deref.ensures.value c.in-Some.ensures in
    rw (← c.self.view_is) (write_refused x.protect m.next m.objects.items m.cells m.live_cells x.number c.in-Some.at x.offset x.width x.value o c.self.invariant place c.index.ensures (sym c.if-not-may_write.ensures))

within : (c : goal.After-write-arg-1) → c.index.result.now.start + c.args.offset + c.args.width ≤ length c.self.inside.cells
within c =
    let x = c.args in
    let m = c.self.inside in
    let o = c.index.result.now in
    let place = place_is m.objects.items c.deref.result.now x.number c.in-Some.at c.deref.ensures.value c.in-Some.ensures in
    let e = object_within m.next m.objects.items m.cells m.live_cells x.number c.in-Some.at o c.self.invariant place c.index.ensures in
    let r = write_within x.protect x.offset x.width o (sym c.if-not-may_write.ensures) in
    omega (arith, e, r)

pub overflow_add-object : goal.overflow_add-object
overflow_add-object c =
    let m = c.self.inside in
    let w = within c in
    let l = cells_le m.next m.objects.items m.cells m.live_cells c.self.invariant in
    search rules

pub write-requires-clause-within : goal.write-requires-clause-within
write-requires-clause-within c = within c

wrote : (c : goal.After-write)
    → WroteObject c.args.protect c.self.inside.next c.self.inside.objects.items c.self.inside.cells c.write.new.self c.self.inside.live_cells c.args.number c.args.offset c.args.width c.args.value
wrote c =
    let x = c.args in
    let m = c.self.inside in
    let o = c.index.result.now in
    let place = place_is m.objects.items c.deref.result.now x.number c.in-Some.at c.deref.ensures.value c.in-Some.ensures in
    wrote_object x.protect m.next m.objects.items m.cells c.write.new.self m.live_cells x.number c.in-Some.at x.offset x.width x.value o c.self.invariant place
    c.index.ensures (sym c.if-not-may_write.ensures) c.requires.value c.write.ensures

pub invariant_of-self : goal.invariant_of-self
invariant_of-self c = (wrote c).whole

pub returns-clause-ok : goal.returns-clause-ok
returns-clause-ok c = rw (← c.self.view_is) (wrote c).ok

pub returns-clause-loads_back : goal.returns-clause-loads_back
returns-clause-loads_back c = (wrote c).loads_back

pub returns-clause-elsewhere : goal.returns-clause-elsewhere
returns-clause-elsewhere c = rw (← c.self.view_is) (wrote c).elsewhere
