-- Lowering refuses nothing.
use Rattle.std.proofs.Common.{◌≡◌, ℕ, ◌<◌, Bool, false, cond, nat_lt, List, [], ◌∷◌, ◌++◌, filter, Option, Some, None, refl, sym, ap, subst, ◌∙◌}
use Rattle.std.specs.List.{filter_map, list_any}
use Rattle.std.proofs.lemmas.Bool.{and_parts, eq-eqb, lt-ltb}
use Rattle.gen_asks.specs.Asks.{IsAskedOf, IsWithin, counters_of, sites_of}
use Rattle.gen_lowered.proofs.Listed.{Name, filter_among, none_made, same_is, some_of}
use Rattle.gen_lowered.proofs.Owned.{counters_are, counters_stand, hash_is, owned}
use Rattle.gen_plan.specs.Gen.{counted, gen_hash, record_name}
use Rattle.ir_rules.specs.Accepted.{IsAccepted}
use Rattle.ir_rules.specs.Kinds.{is_unit_name}
use Rattle.ir_rules.specs.Lists.{Among}
use Rattle.ir_tree.specs.Functions.{is_declared}
use Rattle.ir_tree.specs.declared.types.Function.{Function}
use Rattle.ir_tree.specs.declared.types.Global1.{Global1}
use Rattle.ir_tree.specs.declared.types.Module.{Module}
use Rattle.ir_tree.specs.declared.types.Operand.TheVariants.{Int}
use Rattle.lowering.specs.Asked.{Asked, Rise, Note, all_asked, hash_asked, symbol_asked}
use Rattle.lowering.specs.Refusals.{CountDiffers, HashDiffers, IndexPast, Refusal, differs, failed, failed_by, failed_counts, name_of_unit, noted_alone, refusal, without_counters}
use Rattle.lowering.specs.Units.{counters_told, hash_told, is_asked_of, names_used}
use Rattle.spec_lists.specs.Each.{first_of}

nil_both : {Y : Type 0} (ys zs : List Y) → ys ≡ [] → zs ≡ [] → ys ++ zs ≡ []
nil_both [] zs h k = k
nil_both (y ∷ ys) zs h k = absurd (cc)

-- a number that is told first is no other one
none_differs : (refuse : ℕ → ℕ → Refusal) (o : Option ℕ) (other : ℕ) → ((first : ℕ) → o ≡ Some first → first ≡ other) → differs refuse o other ≡ []
none_differs refuse None other h = refl
none_differs refuse (Some first) other h = ap (λ (b : Bool). cond {A = List Refusal} b [] (refuse first other ∷ [])) (eq-eqb first other (h first refl))

module _ (entry_first : Bool) (m : Module) (accepted : IsAccepted m) (stand : (a : Asked) → Among a (all_asked (counted entry_first m)) → IsAskedOf entry_first m a) (rise : (f : Function) → Among f m.functions → is_declared f ≡ false → (c : ℕ) × Among (Rise (record_name f.name) (gen_hash entry_first f) (counters_of entry_first f) c (Int 1)) (all_asked (counted entry_first m))) where
  abbrev asks : List Asked
  asks = all_asked (counted entry_first m)

  abbrev globals : List Global1
  globals = (counted entry_first m).globals

  -- ---- each call

  module _ (f : Function) (at : Among f m.functions) where
    counts_agree : (name : Name) (a : Asked) → symbol_asked a ≡ record_name f.name → IsWithin (counters_of entry_first f) (sites_of f) a → failed_counts asks name a ≡ []
    counts_agree name (Rise symbol hash counters counter amount) is within =
        nil_both (differs (CountDiffers name) (counters_told symbol asks) counters) (cond (nat_lt counter counters) [] (IndexPast name counter counters ∷ []))
        (none_differs (CountDiffers name) (counters_told symbol asks) counters (λ first e. counters_are entry_first m accepted stand f at first (ap (λ (n : Name). counters_told n asks) (sym is) ∙ e) ∙ sym within.0))
        (ap (λ (b : Bool). cond {A = List Refusal} b [] (IndexPast name counter counters ∷ [])) (lt-ltb counter counters (subst (λ (n : ℕ). counter < n) (sym within.0) within.1)))
    counts_agree name (Note symbol hash target site) is within = refl

    none_failed : (name : Name) (a : Asked) → Among a asks → symbol_asked a ≡ record_name f.name → failed_by asks name a ≡ []
    none_failed name a here is =
        let of = owned entry_first m accepted stand f at a here is in
        nil_both (differs (HashDiffers name) (hash_told (symbol_asked a) asks) (hash_asked a)) (failed_counts asks name a)
        (none_differs (HashDiffers name) (hash_told (symbol_asked a) asks) (hash_asked a) (λ first e. hash_is entry_first m accepted stand f at first (ap (λ (n : Name). hash_told n asks) (sym is) ∙ e) ∙ sym of.hash))
        (counts_agree name a is of.within)

  fails_none : (a : Asked) → Among a asks → failed asks globals a ≡ None
  fails_none a here = (let s = stand a here in ap first_of (none_failed s.function s.stands (name_of_unit globals (symbol_asked a)) a here s.symbol))

  -- ---- each unit

  alone_none : (g : Global1) → Among g (filter (names_used asks) globals) → noted_alone asks g ≡ None
  alone_none g at =
      let used = (filter_among (names_used asks) globals g at).1 in
      let a = some_of (is_asked_of g.name) asks (and_parts (is_unit_name g.name) (list_any (is_asked_of g.name) asks) used).1 in
      let s = stand a.0 a.1 in
      let name : g.name ≡ record_name s.function.name = same_is g.name (symbol_asked a.0) a.2 ∙ s.symbol in
      let r = rise s.function s.stands s.defined in
      let told = counters_stand entry_first m accepted stand s.function s.stands r.0 r.1 in
      ap (without_counters g) (ap (λ (n : Name). counters_told n asks) name ∙ told.1)

  pub nothing_refused : refusal (counted entry_first m) ≡ None
  nothing_refused = ap first_of (nil_both (filter_map (failed asks globals) asks) (filter_map (noted_alone asks) (filter (names_used asks) globals)) (none_made (failed asks globals) asks fails_none) (none_made (noted_alone asks) (filter (names_used asks) globals) alone_none))
