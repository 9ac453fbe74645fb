use Rattle.std.proofs.Common.{◌≡◌, ◌&&◌, ◌≤◌, ◌+◌, ◌++◌, ℕ, List, [], ◌∷◌, Bool, map, take, length, sym, ap, subst, ◌∙◌, arith, append_assoc, length-append}
use Rattle.std.proofs.lemmas.List.{length-map}
use Rattle.spec_lists.proofs.Each.{each_taken}
use Rattle.spec_lists.specs.Each.{each, first_of}
use Rattle.check_names.proofs.Fewness.{few_at}
use Rattle.check_names.proofs.Firsts.{at_item}
use Rattle.check_names.proofs.Names.{fresh_new, function_name, functions_taken, named_more, taken_length, variable_name}
use Rattle.check_names.specs.Outer.{misspelled}
use Rattle.ir_rules.specs.Lists.{is_new}
use Rattle.ir_rules.specs.Naming.{are_param_names, naming}
use Rattle.ir_rules.specs.Parts.{function_places, place, unless}
use Rattle.ir_rules.specs.Scopes.{symbols, variables}
use Rattle.ir_rules.specs.declared.place.Place.{Place}
use Rattle.ir_tree.specs.Names.{Indexes}
use Rattle.ir_tree.specs.Spelling.{is_global_name}
use Rattle.ir_tree.specs.declared.types.Function.{Function}
use Rattle.check_names.proofs.naming.misnamed_function.Goals as goal

pub misnamed_in-requires-clause-few : goal.misnamed_in-requires-clause-few
misnamed_in-requires-clause-few c =
    let m = c.args.module.now in
    let here = at_item c.as_slice-f-items.result.now m.functions c.loop-k.k c.f-item.result c.as_slice-f-items.ensures c.loop-k-test.true c.f-item.is in
    few_at m c.requires.few c.loop-k.k c.f-item.result here.0 here.1

pub loop-k-preserved : goal.loop-k-preserved
loop-k-preserved c =
    let m = c.args.module.now in
    let k = c.loop-k.k in
    let f = c.f-item.result in
    let here = at_item c.as_slice-f-items.result.now m.functions k f c.as_slice-f-items.ensures c.loop-k-test.true c.f-item.is in
    let below : k ≤ length m.functions = omega (arith, here.0) in
    let before : List (List ℕ) = variables m ++ map function_name (take k m.functions) in
    let same_name : c.bytes.result.now ≡ f.name = c.bytes.ensures in
    let fresh : c.in_ok-fresh.fresh ≡ is_new f.name (take (length m.globals + k) (symbols m)) =
    fresh_new c.loop-k.index before c.bytes.result.now c.in_ok-fresh.fresh c.loop-k.invariant.0 c.in_ok-fresh.ensures.fresh
    ∙ (λ j. is_new (same_name j) (sym (functions_taken m k) j)) in
    let long : c.len-first.result + k ≡ length before = omega (arith, c.len-first.ensures, length-append (variables m) (map function_name (take k m.functions)), length-map m.globals variable_name, taken_length function_name m.functions k below) in
    let added : Indexes c.add.new.self (before ++ f.name ∷ []) =
    subst (λ (name : List ℕ). Indexes c.add.new.self (before ++ name ∷ [])) same_name (c.in_ok-fresh.ensures.added before c.loop-k.invariant.0 long) in
    let next : before ++ f.name ∷ [] ≡ variables m ++ map function_name (take (k + 1) m.functions) =
    append_assoc (variables m) (map function_name (take k m.functions)) (f.name ∷ [])
    ∙ ap (λ (ns : List (List ℕ)). variables m ++ ns) (sym (named_more function_name m.functions k f here.0 here.1)) in
    let make = function_places (naming m) in
    let place_here : c.misnamed_in.result ≡ first_of (make k f) = c.misnamed_in.ensures ∙ ap (λ (b : Bool). first_of (unless (is_global_name f.name && (b && are_param_names f)) (place k 0 0) ++ misspelled k f.blocks)) fresh in (
      subst (λ (ns : List (List ℕ)). Indexes c.add.new.self ns) next added,
      c.first_of_both-found.ensures (each make 0 (take k m.functions)) (make k f) c.loop-k.invariant.1 place_here
          ∙ ap (λ (ps : List Place). first_of ps) (sym (each_taken make m.functions k f here.0 ∙ ap (λ (v : Function). each make 0 (take k m.functions) ++ make k v) (sym here.1))),
    )
