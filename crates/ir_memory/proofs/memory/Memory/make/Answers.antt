use Rattle.std.proofs.Common.{◌≡◌, ◌+◌, ◌∙◌, ◌++◌, ◌∷◌, [], List, ℕ, max, length, replicate, ap, refl, sym, subst, arith}
use Rattle.std.proofs.lemmas.List.{length-replicate}
use Rattle.ir_memory.specs.declared.live_object.LiveObject.{LiveObject}
use Rattle.ir_memory.specs.Cell.{Cell, Byte}
use Rattle.ir_memory.specs.Memory.{MemoryState, made}
use Rattle.ir_memory.specs.Objects.{IsWhole, allocations_of}
use Rattle.ir_memory.proofs.AllocationLemmas.{next_not_found}
use Rattle.ir_memory.proofs.WholeLemmas.{state_of, whole_push, made_is}
use Rattle.ir_memory.proofs.memory.Memory.make.Goals as goal

pub returns-then-counted-self-clause-not_used_before : goal.returns-then-counted-self-clause-not_used_before
returns-then-counted-self-clause-not_used_before c =
    let m = c.self.inside in
    rw (← c.self.view_is) (next_not_found 0 (allocations_of m.objects.items m.cells) m.next c.self.invariant.sound.rising)

pub returns-in_err-reserve-clause-not_used_before : goal.returns-in_err-reserve-clause-not_used_before
returns-in_err-reserve-clause-not_used_before c =
    let m = c.self.inside in
    rw (← c.self.view_is) (next_not_found 0 (allocations_of m.objects.items m.cells) m.next c.self.invariant.sound.rising)

pub returns-in_err-push_zeros-clause-not_used_before : goal.returns-in_err-push_zeros-clause-not_used_before
returns-in_err-push_zeros-clause-not_used_before c =
    let m = c.self.inside in
    rw (← c.self.view_is) (next_not_found 0 (allocations_of m.objects.items m.cells) m.next c.self.invariant.sound.rising)

abbrev new_object : goal.After-self-2-1 → LiveObject
new_object c = record { number = c.self.inside.next; start = c.len-start.result; size = c.args.size; constant = c.args.constant }

pushed : (c : goal.After-self-2-1) → c.push.new.self.items ≡ c.self.inside.objects.items ++ new_object c ∷ []
pushed c = c.in_ok-push.ensures.items ∙ ap (λ (os : List LiveObject). os ++ new_object c ∷ []) c.reserve.ensures.items

abbrev zeros : goal.After-self-2-1 → List Cell
zeros c = replicate c.args.size (Byte 0)

pub invariant_of-self-2 : goal.invariant_of-self-2
invariant_of-self-2 c =
    let m = c.self.inside in
    let o = new_object c in
    let size : c.args.size ≡ length (zeros c) = sym (length-replicate c.args.size (Byte 0)) in
    let counted : c.max-counted.result ≡ max 1 c.args.size = omega arith in
    let w = whole_push m.next m.objects.items m.cells m.live_cells o (zeros c) c.self.invariant refl c.len-start.ensures size (omega arith) in
    let P : ℕ → Type 0 = λ n. IsWhole (m.next + 1) (m.objects.items ++ o ∷ []) (m.cells ++ zeros c) (m.live_cells + n) in
    let Q : List LiveObject → Type 0 = λ os. IsWhole (m.next + 1) os (m.cells ++ zeros c) (m.live_cells + c.max-counted.result) in
    let R : List Cell → Type 0 = λ cs. IsWhole (m.next + 1) c.push.new.self.items cs (m.live_cells + c.max-counted.result) in
    subst R (sym c.in_ok-push_zeros.ensures.ok) (subst Q (sym (pushed c)) (subst P (sym counted) w))

pub returns-clause-ok : goal.returns-clause-ok
returns-clause-ok c =
    let m = c.self.inside in
    let o = new_object c in
    let size : c.args.size ≡ length (zeros c) = sym (length-replicate c.args.size (Byte 0)) in
    let p = pushed c in
    let q = c.in_ok-push_zeros.ensures.ok in
    let e : state_of (m.next + 1) c.push.new.self.items c.push_zeros.new.self ≡ state_of (m.next + 1) (m.objects.items ++ o ∷ []) (m.cells ++ zeros c) =
    λ x. state_of (m.next + 1) (p x) (q x) in
    e ∙ made_is m.next m.objects.items m.cells m.live_cells o (zeros c) c.self.invariant refl size
    ∙ ap (λ (s : MemoryState). made s c.args.size c.args.constant) c.self.view_is

pub returns-clause-not_used_before : goal.returns-clause-not_used_before
returns-clause-not_used_before c =
    let m = c.self.inside in
    rw (← c.self.view_is) (next_not_found 0 (allocations_of m.objects.items m.cells) m.next c.self.invariant.sound.rising)
