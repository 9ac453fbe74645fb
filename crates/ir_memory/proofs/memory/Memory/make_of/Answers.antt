use Rattle.std.proofs.Common.{◌≡◌, ◌+◌, ◌∙◌, ◌++◌, ◌∷◌, [], List, ℕ, max, length, ap, refl, sym, subst, arith}
use Rattle.ir_memory.specs.declared.live_object.LiveObject.{LiveObject}
use Rattle.ir_memory.specs.Cell.{Cell}
use Rattle.ir_memory.specs.Image.{made_of}
use Rattle.ir_memory.specs.Memory.{MemoryState}
use Rattle.ir_memory.specs.Objects.{IsWhole}
use Rattle.ir_memory.proofs.WholeLemmas.{state_of, whole_push, made_is}
use Rattle.ir_memory.proofs.memory.Memory.make_of.Goals as goal

abbrev new_object : goal.After-self-2-1 → LiveObject
new_object c = record { number = c.self.inside.next; start = c.len-start.result; size = c.len-2.result; constant = c.args.constant }

pushed : (c : goal.After-self-2-1) → c.push.new.self.items ≡ c.self.inside.objects.items ++ new_object c ∷ []
pushed c = c.in_ok-push.ensures.items ∙ ap (λ (os : List LiveObject). os ++ new_object c ∷ []) c.reserve.ensures.items

appended : (c : goal.After-self-2-1) → c.append.new.self ≡ c.self.inside.cells ++ c.args.image.now
appended c = c.in_ok-append.ensures.ok ∙ ap (λ (cs : List Cell). c.self.inside.cells ++ cs) c.cells-cells.ensures

size_is : (c : goal.After-self-2-1) → c.len-2.result ≡ length c.args.image.now
size_is c = c.len-2.ensures ∙ ap length c.cells-cells.ensures

pub invariant_of-self-2 : goal.invariant_of-self-2
invariant_of-self-2 c =
    let m = c.self.inside in
    let o = new_object c in
    let image = c.args.image.now in
    let size = size_is c in
    let first = c.len.ensures ∙ ap length c.cells-cells.ensures in
    let counted : c.max-counted.result ≡ max 1 c.len-2.result = omega (arith, size, first) in
    let w = whole_push m.next m.objects.items m.cells m.live_cells o image c.self.invariant refl c.len-start.ensures size (omega (arith, counted)) in
    let P : ℕ → Type 0 = λ n. IsWhole (m.next + 1) (m.objects.items ++ o ∷ []) (m.cells ++ image) (m.live_cells + n) in
    let Q : List LiveObject → Type 0 = λ os. IsWhole (m.next + 1) os (m.cells ++ image) (m.live_cells + c.max-counted.result) in
    let R : List Cell → Type 0 = λ cs. IsWhole (m.next + 1) c.push.new.self.items cs (m.live_cells + c.max-counted.result) in
    subst R (sym (appended c)) (subst Q (sym (pushed c)) (subst P (sym counted) w))

pub returns-clause-ok : goal.returns-clause-ok
returns-clause-ok c =
    let m = c.self.inside in
    let o = new_object c in
    let image = c.args.image.now in
    let p = pushed c in
    let q = appended c in
    let e : state_of (m.next + 1) c.push.new.self.items c.append.new.self ≡ state_of (m.next + 1) (m.objects.items ++ o ∷ []) (m.cells ++ image) =
    λ x. state_of (m.next + 1) (p x) (q x) in
    e ∙ made_is m.next m.objects.items m.cells m.live_cells o image c.self.invariant refl (size_is c)
    ∙ ap (λ (s : MemoryState). made_of s image c.args.constant) c.self.view_is
