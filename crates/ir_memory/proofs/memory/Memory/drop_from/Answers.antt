use Rattle.std.proofs.Common.{◌≡◌, ◌<◌, ◌-◌, ◌∙◌, List, nat_lt, length, take, filter, get_or, ap, sym, subst, arith}
use Rattle.std.specs.Prelude.{sum_by}
use Rattle.std.proofs.lemmas.List.{take_all}
use Rattle.ir_memory.specs.declared.live_object.LiveObject.{LiveObject}
use Rattle.ir_memory.specs.Cell.{Cell}
use Rattle.ir_memory.specs.Memory.{Allocation, MemoryState, found}
use Rattle.ir_memory.specs.Objects.{IsWhole, allocations_of, counted_size}
use Rattle.ir_memory.proofs.AllocationLemmas.{found-filter_above, found-filter_below}
use Rattle.ir_memory.proofs.ObjectLemmas.{allocations-take, length_allocations}
use Rattle.ir_memory.proofs.WholeLemmas.{objects_are, cut_is, end_is, kept_are, whole_take, ended_le, live_le, no_object}
use Rattle.ir_memory.proofs.memory.Memory.drop_from.Goals as goal

pub count_below-keep-requires : goal.count_below-keep-requires
count_below-keep-requires c =
    let m = c.self.inside in
    objects_are m.next m.objects.items c.deref.result.now m.cells m.live_cells c.deref.ensures.value c.self.invariant

-- where all objects are kept
nothing_ends : (c : goal.Then-keep-len)
    → allocations_of c.self.inside.objects.items c.self.inside.cells
    ≡ filter (λ (a : Allocation). nat_lt a.number c.args.object) (allocations_of c.self.inside.objects.items c.self.inside.cells)
nothing_ends c =
    let m = c.self.inside in
    let keep = c.count_below-keep.result in
    let live = allocations_of m.objects.items m.cells in
    let l = length_allocations m.objects.items m.cells in
    let cut = cut_is m.objects.items c.deref.result.now c.args.object keep c.deref.ensures.value c.count_below-keep.ensures in
    sym (take_all keep live (omega (arith, l))) ∙ kept_are m.objects.items m.cells keep c.args.object no_object cut

pub returns-then-keep-len-clause-value : goal.returns-then-keep-len-clause-value
returns-then-keep-len-clause-value c =
    let state : List Allocation → MemoryState = λ l. record { next = c.self.inside.next; live = l } in
    rw (← c.self.view_is) (ap state (nothing_ends c))

pub returns-then-keep-len-clause-ended : goal.returns-then-keep-len-clause-ended
returns-then-keep-len-clause-ended c =
    let live = allocations_of c.self.inside.objects.items c.self.inside.cells in
    rw (← c.self.view_is) (λ i h. ap (λ (l : List Allocation). found l i) (nothing_ends c) ∙ found-filter_above live c.args.object i h)

pub counted_cells-ended-requires : goal.counted_cells-ended-requires
counted_cells-ended-requires c =
    let m = c.self.inside in
    let keep = c.count_below-keep.result in
    let e = ap (sum_by counted_size) (end_is m.objects.items c.deref-2.result.now keep c.deref-2.ensures.value) in
    let l = ended_le m.next m.objects.items m.cells m.live_cells keep c.self.invariant in
    let n = live_le m.next m.objects.items m.cells m.live_cells c.self.invariant in
    omega (arith, e, l, n)

pub overflow_sub-self : goal.overflow_sub-self
overflow_sub-self c =
    let m = c.self.inside in
    let keep = c.count_below-keep.result in
    let e = c.counted_cells-ended.ensures ∙ ap (sum_by counted_size) (end_is m.objects.items c.deref-2.result.now keep c.deref-2.ensures.value) in
    let l = ended_le m.next m.objects.items m.cells m.live_cells keep c.self.invariant in
    omega (arith, e, l)

start_is : (c : goal.After-self-1)
    → c.truncate-2.new.self ≡ take (get_or c.self.inside.objects.items c.count_below-keep.result c.index.result.now).start c.self.inside.cells
start_is c = c.truncate-2.ensures ∙ ap (λ (o : LiveObject). take o.start c.self.inside.cells) c.index.ensures

keeps_some : (c : goal.After-self-1) → c.count_below-keep.result < length c.self.inside.objects.items
keeps_some c =
    let m = c.self.inside in
    let cut = cut_is m.objects.items c.deref.result.now c.args.object c.count_below-keep.result c.deref.ensures.value c.count_below-keep.ensures in
    let h = cut.within in
    omega (arith, h)

pub invariant_of-self : goal.invariant_of-self
invariant_of-self c =
    let m = c.self.inside in
    let keep = c.count_below-keep.result in
    let d = c.index.result.now in
    let e = c.counted_cells-ended.ensures ∙ ap (sum_by counted_size) (end_is m.objects.items c.deref-2.result.now keep c.deref-2.ensures.value) in
    let w = whole_take m.next m.objects.items m.cells m.live_cells c.counted_cells-ended.result keep d c.self.invariant (keeps_some c) e in
    let live = m.live_cells - c.counted_cells-ended.result in
    let P : List LiveObject → Type 0 = λ os. IsWhole m.next os (take (get_or m.objects.items keep d).start m.cells) live in
    let Q : List Cell → Type 0 = λ cs. IsWhole m.next c.truncate.new.self.items cs live in
    subst Q (sym (start_is c)) (subst P (sym c.truncate.ensures.items) w)

kept_live : (c : goal.After-self-1)
    → allocations_of c.truncate.new.self.items c.truncate-2.new.self
    ≡ filter (λ (a : Allocation). nat_lt a.number c.args.object) (allocations_of c.self.inside.objects.items c.self.inside.cells)
kept_live c =
    let m = c.self.inside in
    let os = m.objects.items in
    let keep = c.count_below-keep.result in
    let d = c.index.result.now in
    let cut = cut_is os c.deref.result.now c.args.object keep c.deref.ensures.value c.count_below-keep.ensures in
    let p = c.truncate.ensures.items in
    let q = start_is c in
    let e : allocations_of c.truncate.new.self.items c.truncate-2.new.self ≡ allocations_of (take keep os) (take (get_or os keep d).start m.cells) =
    λ x. allocations_of (p x) (q x) in
    e ∙ allocations-take 0 (length m.cells) os m.cells keep (get_or os keep d).start d c.self.invariant.laid_out (keeps_some c) (omega arith)
    ∙ kept_are os m.cells keep c.args.object d cut

pub returns-clause-value : goal.returns-clause-value
returns-clause-value c =
    let state : List Allocation → MemoryState = λ l. record { next = c.self.inside.next; live = l } in
    rw (← c.self.view_is) (ap state (kept_live c))

pub returns-clause-ended : goal.returns-clause-ended
returns-clause-ended c =
    let live = allocations_of c.self.inside.objects.items c.self.inside.cells in
    λ i h. ap (λ (l : List Allocation). found l i) (kept_live c) ∙ found-filter_above live c.args.object i h

pub returns-clause-kept : goal.returns-clause-kept
returns-clause-kept c =
    let live = allocations_of c.self.inside.objects.items c.self.inside.cells in
    rw (← c.self.view_is) (λ i h. ap (λ (l : List Allocation). found l i) (kept_live c) ∙ found-filter_below live c.args.object i h)
