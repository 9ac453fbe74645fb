use Rattle.std.proofs.Common.{◌≡◌, ◌&&◌, ◌≤◌, ◌++◌, ℕ, List, [], ◌∷◌, Bool, map, take, length, sym, ap, subst, ◌∙◌, arith}
use Rattle.spec_lists.proofs.Each.{each_taken}
use Rattle.spec_lists.specs.Each.{each, first_of}
use Rattle.check_names.proofs.Firsts.{at_item}
use Rattle.check_names.proofs.Names.{fresh_new, named_more, taken_length, variable_name, variables_taken}
use Rattle.check_names.specs.Outer.{global_places}
use Rattle.ir_rules.specs.Lists.{is_new}
use Rattle.ir_rules.specs.Naming.{naming}
use Rattle.ir_rules.specs.Parts.{place, unless}
use Rattle.ir_rules.specs.Scopes.{symbols}
use Rattle.ir_rules.specs.declared.place.Place.{Place}
use Rattle.ir_tree.specs.Names.{Indexes}
use Rattle.ir_tree.specs.Spelling.{is_global_name}
use Rattle.ir_tree.specs.declared.types.Global1.{Global1}
use Rattle.check_names.proofs.naming.misnamed_variable.Goals as goal

pub loop-n-preserved : goal.loop-n-preserved
loop-n-preserved c =
    let m = c.args.module.now in
    let n = c.loop-n.n in
    let g = c.g-item.result in
    let here = at_item c.as_slice-g-items.result.now m.globals n g c.as_slice-g-items.ensures c.loop-n-test.true c.g-item.is in
    let below : n ≤ length m.globals = omega (arith, here.0) in
    let before : List (List ℕ) = map variable_name (take n m.globals) in
    let same_name : c.bytes.result.now ≡ g.name = c.bytes.ensures in
    let fresh : c.in_ok-fresh.fresh ≡ is_new g.name (take n (symbols m)) =
    fresh_new c.loop-n.index before c.bytes.result.now c.in_ok-fresh.fresh c.loop-n.invariant.0 c.in_ok-fresh.ensures.fresh
    ∙ (λ j. is_new (same_name j) (sym (variables_taken m n below) j)) in
    let added : Indexes c.add.new.self (before ++ g.name ∷ []) =
    subst (λ (name : List ℕ). Indexes c.add.new.self (before ++ name ∷ [])) same_name (c.in_ok-fresh.ensures.added before c.loop-n.invariant.0 (taken_length variable_name m.globals n below)) in
    let make = λ (i : ℕ) (v : Global1). unless ((naming m).global i v) (place 0 0 i) in
    let place_here : c.misnamed_at.result ≡ first_of (make n g) = c.misnamed_at.ensures ∙ ap (λ (b : Bool). first_of (unless (is_global_name g.name && b) (place 0 0 n))) fresh in (
      subst (λ (ns : List (List ℕ)). Indexes c.add.new.self ns) (sym (named_more variable_name m.globals n g here.0 here.1)) added,
      c.first_of_both-found.ensures (global_places (naming m).global (take n m.globals)) (make n g) c.loop-n.invariant.1 place_here
          ∙ ap (λ (ps : List Place). first_of ps) (sym (each_taken make m.globals n g here.0 ∙ ap (λ (v : Global1). each make 0 (take n m.globals) ++ make n v) (sym here.1))),
    )
