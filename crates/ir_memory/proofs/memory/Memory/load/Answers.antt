use Rattle.std.proofs.Common.{◌≡◌, ◌+◌, ◌≤◌, ◌∙◌, Some, None, length, take, drop, ap, sym, arith, rules}
use Rattle.ir_memory.specs.declared.value.Base.{Base}
use Rattle.ir_memory.specs.Memory.{MemoryState, cells_at, read}
use Rattle.ir_memory.proofs.PointerLemmas.{reads_pointer_at}
use Rattle.ir_memory.proofs.WholeLemmas.{state_of, objects_are, place_is, none_is, cells_none, cells_refused, cells_found, object_within, cells_le, range_le, refused_pointer, length_range}
use Rattle.ir_memory.proofs.memory.Memory.load.Goals as goal

pub index_of-requires : goal.index_of-requires
index_of-requires c =
    let m = c.self.inside in
    objects_are m.next m.objects.items c.deref.result.now m.cells m.live_cells c.deref.ensures.value c.self.invariant

no_cells : (c : goal.In_default-index_of) → cells_at c.args.self.now c.args.base c.args.offset c.args.width ≡ None
no_cells c =
    let m = c.self.inside in
    let v = c.self.view_is in
    let b = c.in-Object.is in
    let none = none_is m.objects.items c.deref.result.now c.in-Object.number c.deref.ensures.value c.in_default-index_of.ensures in
    sym (ap (λ (s : MemoryState). cells_at s c.args.base c.args.offset c.args.width) v)
    ∙ ap (λ (x : Base). cells_at (state_of m.next m.objects.items m.cells) x c.args.offset c.args.width) b
    ∙ cells_none m.next m.objects.items m.cells c.in-Object.number c.args.offset c.args.width none

pub returns-in_default-index_of-clause-value : goal.returns-in_default-index_of-clause-value
returns-in_default-index_of-clause-value c = sym (ap (read c.args.pointer) (no_cells c))

pub returns-in_default-index_of-clause-pointer : goal.returns-in_default-index_of-clause-pointer
returns-in_default-index_of-clause-pointer c = λ p. refused_pointer _ (no_cells c)

out_of_reach : (c : goal.Then-not-has_range) → cells_at c.args.self.now c.args.base c.args.offset c.args.width ≡ None
out_of_reach c =
    let m = c.self.inside in
    let v = c.self.view_is in
    let b = c.in-Object.is in
    let o = c.index.result.now in
    let place = place_is m.objects.items c.deref.result.now c.in-Object.number c.in-Some.at c.deref.ensures.value c.in-Some.ensures in
    sym (ap (λ (s : MemoryState). cells_at s c.args.base c.args.offset c.args.width) v)
    ∙ ap (λ (x : Base). cells_at (state_of m.next m.objects.items m.cells) x c.args.offset c.args.width) b
    ∙ cells_refused m.next m.objects.items m.cells m.live_cells c.in-Object.number c.in-Some.at c.args.offset c.args.width o c.self.invariant place c.index.ensures
    (sym c.if-not-has_range.ensures)

pub returns-then-not-has_range-clause-value : goal.returns-then-not-has_range-clause-value
returns-then-not-has_range-clause-value c = sym (ap (read c.args.pointer) (out_of_reach c))

pub returns-then-not-has_range-clause-pointer : goal.returns-then-not-has_range-clause-pointer
returns-then-not-has_range-clause-pointer c = λ p. refused_pointer _ (out_of_reach c)

within : (c : goal.Else-not-has_range) → c.index.result.now.start + c.args.offset + c.args.width ≤ length c.self.inside.cells
within c =
    let m = c.self.inside in
    let o = c.index.result.now in
    let place = place_is m.objects.items c.deref.result.now c.in-Object.number c.in-Some.at c.deref.ensures.value c.in-Some.ensures in
    let e = object_within m.next m.objects.items m.cells m.live_cells c.in-Object.number c.in-Some.at o c.self.invariant place c.index.ensures in
    let r = range_le c.args.offset c.args.width o (sym c.if-not-has_range.ensures) in
    omega (arith, e, r)

pub overflow_add-object : goal.overflow_add-object
overflow_add-object c =
    let m = c.self.inside in
    let w = within c in
    let l = cells_le m.next m.objects.items m.cells m.live_cells c.self.invariant in
    search rules

pub read-requires-clause-within : goal.read-requires-clause-within
read-requires-clause-within c = within c

found_cells : (c : goal.After-read)
    → cells_at c.args.self.now c.args.base c.args.offset c.args.width
    ≡ Some (take c.args.width (drop (c.index.result.now.start + c.args.offset) c.self.inside.cells))
found_cells c =
    let m = c.self.inside in
    let v = c.self.view_is in
    let b = c.in-Object.is in
    let o = c.index.result.now in
    let place = place_is m.objects.items c.deref.result.now c.in-Object.number c.in-Some.at c.deref.ensures.value c.in-Some.ensures in
    sym (ap (λ (s : MemoryState). cells_at s c.args.base c.args.offset c.args.width) v)
    ∙ ap (λ (x : Base). cells_at (state_of m.next m.objects.items m.cells) x c.args.offset c.args.width) b
    ∙ cells_found m.next m.objects.items m.cells m.live_cells c.in-Object.number c.in-Some.at c.args.offset c.args.width o c.self.invariant place c.index.ensures
    (sym c.if-not-has_range.ensures)

pub returns-clause-value : goal.returns-clause-value
returns-clause-value c = c.read.ensures ∙ sym (ap (read c.args.pointer) (found_cells c))

pub returns-clause-pointer : goal.returns-clause-pointer
returns-clause-pointer c =
    let m = c.self.inside in
    let o = c.index.result.now in
    let at = o.start + c.args.offset in
    let place = place_is m.objects.items c.deref.result.now c.in-Object.number c.in-Some.at c.deref.ensures.value c.in-Some.ensures in
    let e = object_within m.next m.objects.items m.cells m.live_cells c.in-Object.number c.in-Some.at o c.self.invariant place c.index.ensures in
    let r = range_le c.args.offset c.args.width o (sym c.if-not-has_range.ensures) in
    let l : length (take c.args.width (drop at m.cells)) ≡ c.args.width = length_range m.cells at c.args.width (omega (arith, e, r)) in
    λ p. reads_pointer_at _ (take c.args.width (drop at m.cells)) c.read.result c.args.pointer (sym (found_cells c)) (l ∙ c.requires.pointer p) p c.read.ensures
