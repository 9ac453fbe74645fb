use Rattle.std.proofs.Common.{◌≡◌, ◌≤◌, true, List, [], ◌∷◌, Some, None, refl, sym, ◌∙◌, subst, append-nil, arith, rules}
use Rattle.std.proofs.lemmas.List.Elements.{filter_map-append}
use Rattle.ir_tree.specs.declared.types.Module.{Module}
use Rattle.ir_tree.specs.declared.types.Global1.{Global1}
use Rattle.ir_tree.specs.declared.types.Function.{Function}
use Rattle.ir_grammar.specs.declared.parts.Part.TheVariants as parts
use Rattle.ir_read.specs.Parts.{with_part}
use Rattle.ir_read.proofs.Folds.{GoesOn, fold_begin, fold_next, fold_stops, stops_with}
use Rattle.ir_grammar.specs.Words.{any_left}
use Rattle.ir_grammar.specs.Grammar.{part, part_takes, variable_of, function_of, module_of, «module»}
use Rattle.ir_read.proofs.part.«module».Goals as goal

same_module : (gs hs : List Global1) (fs ks : List Function) → gs ≡ hs → fs ≡ ks → ◌≡◌ {A = Module} (record { globals = gs; functions = fs }) (record { globals = hs; functions = ks })
same_module gs hs fs ks e f = rw (e, f) refl

goes_on : GoesOn module_of with_part
goes_on ps (parts.Variable g) = same_module _ _ _ _ (filter_map-append variable_of ps (parts.Variable g ∷ [])) (filter_map-append function_of ps (parts.Variable g ∷ []) ∙ append-nil _)
goes_on ps (parts.Function f) = same_module _ _ _ _ (filter_map-append variable_of ps (parts.Function f ∷ []) ∙ append-nil _) (filter_map-append function_of ps (parts.Function f ∷ []))
goes_on ps parts.Nothing = same_module _ _ _ _ (filter_map-append variable_of ps (parts.Nothing ∷ []) ∙ append-nil _) (filter_map-append function_of ps (parts.Nothing ∷ []) ∙ append-nil _)

pub loop-turn-init : goal.loop-turn-init
unfolding «module»
loop-turn-init c = record {
  reads = fold_begin any_left (part c.args.nodes.now) with_part module_of goes_on (part_takes c.args.nodes.now) _ c.args.toks.now.tokens c.left-turn-end.result c.left-turn-end.ensures (same_module _ _ _ _ c.new-globals.ensures.items c.new-functions.ensures.items);
  whole = refl;
  same = refl;
}

pub loop-turn-preserved : goal.loop-turn-preserved
loop-turn-preserved c =
    let h : c.loop-turn._turn ≤ c.left-turn-end.result = omega arith in
    let b : any_left c.loop-turn.toks.tokens ≡ true = first_of (cc, search rules) in
    record {
      reads = c.loop-turn.invariant.reads ∙ fold_next any_left (part c.args.nodes.now) with_part c.left-turn-end.result c.loop-turn._turn (record { globals = c.loop-turn.globals.items; functions = c.loop-turn.functions.items }) (record { globals = c.add_part.new.globals.items; functions = c.add_part.new.functions.items }) c.loop-turn.toks.tokens c.in-Ok.found c.part.new.toks.tokens h b (subst (λ n. (part n).read c.loop-turn.toks.tokens ≡ Some (c.in-Ok.found, c.part.new.toks.tokens)) c.loop-turn.invariant.same c.in-Ok.ensures.reads.0) (sym c.in_ok-add_part-in-Ok.ensures);
      whole = c.in-Ok.ensures.reads.1 ∙ c.loop-turn.invariant.whole;
      same = c.part.ensures.same ∙ c.loop-turn.invariant.same;
    }

pub returns-in-Err-clause-reads : goal.returns-in-Err-clause-reads
returns-in-Err-clause-reads c =
    let h : c.loop-turn._turn ≤ c.left-turn-end.result = omega arith in
    let b : any_left c.loop-turn.toks.tokens ≡ true = first_of (cc, search rules) in
    stops_with c.in-Err.stop c.args.toks.now c.loop-turn.toks c.part.new.toks (part c.loop-turn.nodes).read («module» c.args.nodes.now).read c.in-Err.ensures.reads (λ none. c.loop-turn.invariant.reads ∙ fold_stops any_left (part c.args.nodes.now) with_part c.left-turn-end.result c.loop-turn._turn (record { globals = c.loop-turn.globals.items; functions = c.loop-turn.functions.items }) c.loop-turn.toks.tokens h b (subst (λ n. (part n).read c.loop-turn.toks.tokens ≡ None) c.loop-turn.invariant.same none))
