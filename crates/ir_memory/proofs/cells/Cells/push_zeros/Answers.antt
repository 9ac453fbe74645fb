use Rattle.std.proofs.Common.{◌≡◌, ◌+◌, ◌≤◌, List, ℕ, ◌++◌, length, take, replicate, sym, ap, ◌∙◌, subst, arith}
use Rattle.std.proofs.lemmas.List.{take_at}
use Rattle.std.proofs.lemmas.Result.{MatchResult-from_err}
use Rattle.ir_memory.specs.Cell.{Byte}
use Rattle.ir_memory.specs.Packed.{ArePacked, cells_from}
use Rattle.ir_memory.proofs.PackedLemmas.{Leaves, leaves_more, leaves_zeros, length_tags}
use Rattle.ir_memory.proofs.cells.Cells.push_zeros.Goals as goal

pub invariant_of-self : goal.invariant_of-self
invariant_of-self c =
    let i = c.self.inside in
    (leaves_more i.pointers.items c.grow.new.pointers.items i.values.items i.tags.items c.self.invariant c.grow.ensures.stay).packed

pub returns-in_err-grow-clause-err : goal.returns-in_err-grow-clause-err
returns-in_err-grow-clause-err c =
    let i = c.self.inside in
    let m = leaves_more i.pointers.items c.grow.new.pointers.items i.values.items i.tags.items c.self.invariant c.grow.ensures.stay in
    MatchResult-from_err _ _ _ c.from_residual.ensures.0 (λ _. m.cells_are ∙ c.self.view_is)

pub invariant_of-self-in_err-add_zeros : goal.invariant_of-self-in_err-add_zeros
invariant_of-self-in_err-add_zeros c =
    let i = c.self.inside in
    let m = leaves_more i.pointers.items c.grow.new.pointers.items i.values.items i.tags.items c.self.invariant c.grow.ensures.stay in
    let P : List ℕ → Type 0 = λ x. ArePacked x i.tags.items c.grow.new.pointers.items in
    subst P (sym c.in_err-add_zeros.ensures.err) m.packed

pub returns-in_err-add_zeros-clause-err : goal.returns-in_err-add_zeros-clause-err
returns-in_err-add_zeros-clause-err c =
    let i = c.self.inside in
    let m = leaves_more i.pointers.items c.grow.new.pointers.items i.values.items i.tags.items c.self.invariant c.grow.ensures.stay in
    let e = ap (λ (x : List ℕ). cells_from c.grow.new.pointers.items 0 x i.tags.items) c.in_err-add_zeros.ensures.err in
    MatchResult-from_err _ _ _ c.from_residual-in_err-add_zeros.ensures.0 (λ _. e ∙ m.cells_are ∙ c.self.view_is)

cut_values : (c : goal.After-truncate) → c.truncate.new.self.items ≡ c.self.inside.values.items
cut_values c =
    let i = c.self.inside in
    let k = c.len-len.result in
    c.truncate.ensures.items ∙ ap (take k) c.in_ok-add_zeros.ensures.ok ∙ take_at i.values.items (replicate c.args.count 0) k (omega arith)

pub invariant_of-self-in-Err : goal.invariant_of-self-in-Err
invariant_of-self-in-Err c =
    let i = c.self.inside in
    let qs = c.grow.new.pointers.items in
    let m = leaves_more i.pointers.items qs i.values.items i.tags.items c.self.invariant c.grow.ensures.stay in
    let P : List ℕ → Type 0 = λ x. ArePacked x i.tags.items qs in
    let Q : List ℕ → Type 0 = λ x. ArePacked c.truncate.new.self.items x qs in
    subst Q (sym c.in-Err.ensures.err) (subst P (sym (cut_values c)) m.packed)

pub returns-in-Err-clause-err : goal.returns-in-Err-clause-err
returns-in-Err-clause-err c =
    let i = c.self.inside in
    let qs = c.grow.new.pointers.items in
    let m = leaves_more i.pointers.items qs i.values.items i.tags.items c.self.invariant c.grow.ensures.stay in
    let v = cut_values c in
    let t = c.in-Err.ensures.err in
    let e : cells_from qs 0 c.truncate.new.self.items c.add_zeros-2.new.bytes.items ≡ cells_from qs 0 i.values.items i.tags.items = λ x. cells_from qs 0 (v x) (t x) in
    e ∙ m.cells_are ∙ c.self.view_is

grown : (c : goal.In_default-add_zeros)
    → Leaves c.add_zeros.new.bytes.items c.add_zeros-2.new.bytes.items c.grow.new.pointers.items (c.args.self.now ++ replicate c.args.count (Byte 0))
grown c =
    let i = c.self.inside in
    let qs = c.grow.new.pointers.items in
    let n = c.args.count in
    let all : c.in-Some.all ≡ c.len-len.result + n = omega (arith, c.in-Some.ensures) in
    let len : c.len-len.result ≡ length i.values.items = omega arith in
    let tag = length_tags i.pointers.items 0 i.values.items i.tags.items c.self.invariant.kept in
    let v : c.add_zeros.new.bytes.items ≡ i.values.items ++ replicate n 0 =
    c.in_ok-add_zeros.ensures.ok in
    let t : c.add_zeros-2.new.bytes.items ≡ i.tags.items ++ replicate n 0 =
    c.in_default-add_zeros.ensures.ok in
    let enough : c.in-Some.all ≤ length qs = c.in_ok-grow.ensures.enough in
    let m = leaves_zeros i.pointers.items qs i.values.items i.tags.items n c.self.invariant c.grow.ensures.stay (omega arith) in
    let e : cells_from qs 0 c.add_zeros.new.bytes.items c.add_zeros-2.new.bytes.items ≡ cells_from qs 0 (i.values.items ++ replicate n 0) (i.tags.items ++ replicate n 0) =
    λ x. cells_from qs 0 (v x) (t x) in
    let P : List ℕ → Type 0 = λ x. ArePacked x (i.tags.items ++ replicate n 0) qs in
    let Q : List ℕ → Type 0 = λ x. ArePacked c.add_zeros.new.bytes.items x qs in
    record {
      packed = subst Q (sym t) (subst P (sym v) m.packed);
      cells_are = e ∙ m.cells_are ∙ ap (λ cs. cs ++ replicate n (Byte 0)) c.self.view_is;
    }

pub invariant_of-self-in_default-add_zeros : goal.invariant_of-self-in_default-add_zeros
invariant_of-self-in_default-add_zeros c = (grown c).packed

pub returns-clause-ok : goal.returns-clause-ok
returns-clause-ok c = (grown c).cells_are

pub add_zeros-requires-2 : goal.add_zeros-requires-2
add_zeros-requires-2 c =
    let i = c.self.inside in
    let tag = length_tags i.pointers.items 0 i.values.items i.tags.items c.self.invariant.kept in
    let all : c.in-Some.all ≡ c.len-len.result + c.args.count = omega (arith, c.in-Some.ensures) in
    omega arith
