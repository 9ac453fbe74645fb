use Rattle.std.proofs.Common.{◌≡◌, ℕ, List, [], ◌++◌, ◌∷◌, ◌+◌, length, subst, arith, length-append}
use Rattle.ir_tree.specs.Names.{Indexes}
use Rattle.ir_code.proofs.names.Numbers.add.Goals as goal

pub returns : goal.returns
returns c names h =
    let one : length (names ++ c.args.name.now ∷ []) ≡ length names + 1 = length-append names (c.args.name.now ∷ []) in
    record {
      found = subst (λ (x : List ℕ). Indexes c.add.new.self (names ++ x ∷ [])) c.bytes.ensures (c.in_ok-add.ensures.added names h.found h.count);
      count = omega (arith, one, h.count);
    }
