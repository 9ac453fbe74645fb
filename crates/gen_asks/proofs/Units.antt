-- The calls of the module that counts a plain module ask of the units of its functions.
use Rattle.std.proofs.Common.{◌≡◌, ℕ, ◌⊎◌, inl, inr, Bool, true, false, ◌==◌, not, cond, List, [], ◌∷◌, length, map, Some, None, slice_get, refl, sym, ap, subst, ◌∙◌, arith}
use Rattle.std.specs.List.{list_any}
use Rattle.std.specs.Cmp.Lexicographic.{bytes_decides}
use Rattle.std.proofs.lemmas.Bool.{ne_eqb}
use Rattle.count_plan.specs.Calls.{increment_name, step_name, value_name}
use Rattle.count_plan.specs.Counted.{counted_blocks, counted_function, counted_functions, function_plan, no_function_plan}
use Rattle.count_plan.specs.declared.plan.FunctionPlan.{FunctionPlan}
use Rattle.gen_asks.proofs.Asking.{OfUnit, asks_of_unit}
use Rattle.gen_asks.proofs.Listed.{among_either, among_flat, among_left, at_among, at_each, filter_among, flat_among, from_each, map_among}
use Rattle.gen_asks.proofs.Plans.{plan_below}
use Rattle.gen_asks.specs.Asks.{IsAskedOf, sites_of}
use Rattle.gen_plan.specs.Gen.{counted, counted_edges, declaration, declarations, gen_function, gen_hash, has_select}
use Rattle.ir_rules.specs.Accepted.{IsAccepted}
use Rattle.ir_rules.specs.Kinds.{kind_of}
use Rattle.ir_rules.specs.Lists.{Among}
use Rattle.ir_rules.specs.Scopes.{signature}
use Rattle.ir_rules.specs.WellFormed.{InstrFormed}
use Rattle.ir_rules.specs.declared.place.Kind.TheVariants.{Plain}
use Rattle.ir_tree.specs.Functions.{is_declared, is_profile_name, numbered}
use Rattle.ir_tree.specs.Graphs.{graph_of}
use Rattle.ir_tree.specs.Names.{same}
use Rattle.ir_tree.specs.Operands.{Use}
use Rattle.ir_tree.specs.declared.types.Block.{Block}
use Rattle.ir_tree.specs.declared.types.Function.{Function}
use Rattle.ir_tree.specs.declared.types.Instr.{Instr}
use Rattle.ir_tree.specs.declared.types.Instr.TheVariants.{Binary, Compare, Convert, Freeze, Select, Phi, Alloca, Load, Store, Gep, Call, Count}
use Rattle.ir_tree.specs.declared.types.Module.{Module}
use Rattle.ir_tree.specs.declared.types.Operand.TheVariants.{Int, Null, Local, Global}
use Rattle.ir_tree.specs.declared.types.Ty.TheVariants.{I32, I64, Ptr}
use Rattle.lowering.specs.Asked.{Asked, all_asked, asked, asked_by, asked_in}
use Rattle.spec_items.proofs.Made.{map_at}

abbrev Name : Type 0
Name = List ℕ

not_true : (b : Bool) → (b ≡ true → ⊥) → b ≡ false
not_true true h = absurd (h refl)
not_true false h = refl

-- ---- a call of a function that is none of the profile asks for nothing

profile_called : (name n : Name) → is_profile_name name ≡ true → is_profile_name n ≡ false → same name n ≡ false
profile_called name n p off = not_true (same name n) (λ e. absurd (cc (sym p ∙ ap is_profile_name ((bytes_decides name n).0 e) ∙ off)))

increment_profile : is_profile_name increment_name ≡ true
unfolding increment_name is_profile_name
increment_profile = refl

step_profile : is_profile_name step_name ≡ true
unfolding step_name is_profile_name
step_profile = refl

value_profile : is_profile_name value_name ≡ true
unfolding value_name is_profile_name
value_profile = refl

nothing_asked : (n : Name) (args : List Use) → is_profile_name n ≡ false → asked_by n args ≡ None
nothing_asked n [] off = refl
nothing_asked n (a ∷ []) off = refl
nothing_asked n (a ∷ b ∷ []) off = refl
nothing_asked n (a ∷ b ∷ c ∷ []) off = refl
nothing_asked n (a ∷ b ∷ c ∷ d ∷ []) off = (let e = profile_called increment_name n increment_profile off in rw e refl)
nothing_asked n (a ∷ b ∷ c ∷ d ∷ e ∷ []) off = (let s = profile_called step_name n step_profile off in let v = profile_called value_name n value_profile off in rw s (rw v refl))
nothing_asked n (a ∷ b ∷ c ∷ d ∷ e ∷ f ∷ more) off = refl

module _ (entry_first : Bool) (m : Module) (accepted : IsAccepted m) (plain : kind_of m.functions ≡ Plain) where
  abbrev n2 : Module
  n2 = counted entry_first m

  abbrev unit : Function → FunctionPlan
  unit f = gen_function entry_first f

  -- the functions that count stand in the module
  unit_is : (j : ℕ) (f : Function) → slice_get m.functions j ≡ Some f → function_plan (map (gen_function entry_first) m.functions) j ≡ unit f
  unit_is j f at = map_at (gen_function entry_first) m.functions j f no_function_plan at

  counting_stands : (j : ℕ) (f : Function) → slice_get m.functions j ≡ Some f → Among (counted_function (unit f) f) n2.functions
  counting_stands j f at =
      among_left (counted_functions (map (gen_function entry_first) m.functions) m.functions) (declarations m.functions) (counted_function (unit f) f)
      (at_each (λ j f. counted_function (function_plan (map (gen_function entry_first) m.functions) j) f ∷ []) m.functions j f (counted_function (unit f) f) at (inl (ap (λ (u : FunctionPlan). counted_function u f) (sym (unit_is j f at)))))

  -- so what is asked for in one is asked for in the module
  pub asked_here : (j : ℕ) (f : Function) → slice_get m.functions j ≡ Some f → (a : Asked) → Among a (asked_in (counted_blocks (unit f) f.blocks)) → Among a (all_asked n2)
  asked_here j f at a h = among_flat (λ (f : Function). asked_in f.blocks) n2.functions (counted_function (unit f) f) a (counting_stands j f at) h

  module _ (numbers : numbered m.functions ≡ m.functions) where
    no_profile : (f : Function) → Among f m.functions → is_profile_name f.name ≡ false
    no_profile f at = off (is_profile_name f.name) (filter_among (λ (f : Function). not (is_profile_name f.name)) m.functions f (subst (λ (fs : List Function). Among f fs) (sym numbers) at)).1
      where
        off : (b : Bool) → not b ≡ true → b ≡ false
        off true e = absurd (cc)
        off false e = refl

    own_asks : (f : Function) (x : Instr) → InstrFormed m f x → asked x ≡ None
    own_asks f (Binary dest op flags ty left right) h = refl
    own_asks f (Compare dest pred ty left right) h = refl
    own_asks f (Convert dest op flags from value to) h = refl
    own_asks f (Freeze dest ty value) h = refl
    own_asks f (Select dest c ty first second prof) h = refl
    own_asks f (Phi dest ty entries) h = refl
    own_asks f (Alloca dest mem) h = refl
    own_asks f (Load dest ty address) h = refl
    own_asks f (Store ty value address) h = refl
    own_asks f (Gep dest inbounds mem address indices) h = refl
    own_asks f (Call dest ret (Int callee) args prof) h = refl
    own_asks f (Call dest ret Null args prof) h = refl
    own_asks f (Call dest ret (Local callee) args prof) h = refl
    own_asks f (Call dest ret (Global name) args prof) h =
        let g = map_among signature m.functions _ h.calls.1 in
        nothing_asked name args (ap is_profile_name (ap (λ (s : _). s.0) g.2) ∙ no_profile g.0 g.1)
    own_asks f (Count symbol size index step) h = refl

    -- ---- the functions that count

    function_asks : (f : Function) → Among f m.functions → (a : Asked) → Among a (asked_in (counted_blocks (unit f) f.blocks)) → OfUnit (unit f) (sites_of f) a
    function_asks f at a h =
        asks_of_unit (unit f) (sites_of f) f.blocks (plan_below f (graph_of f) (counted_edges entry_first f) (gen_hash entry_first f)) (λ b here x there. own_asks f x (((accepted.formed.function f at).block b here).item x there)) a h

    some_blocks : (f : Function) (a : Asked) → Among a (asked_in (counted_blocks (unit f) f.blocks)) → is_declared f ≡ false
    some_blocks f a h = by f.blocks h
      where
        by : (bs : List Block) → Among a (asked_in (counted_blocks (unit f) bs)) → (length bs == 0) ≡ false
        by [] h = absurd h
        by (b ∷ bs) h = ne_eqb (length (b ∷ bs)) 0 (omega arith)

    pub asks_stand : (a : Asked) → Among a (all_asked n2) → IsAskedOf entry_first m a
    asks_stand a at =
        let g = flat_among (λ (f : Function). asked_in f.blocks) n2.functions a at in
        by g.0 g.2 (among_either (counted_functions (map (gen_function entry_first) m.functions) m.functions) (declarations m.functions) g.0 g.1)
      where
        of : (j : ℕ) (f : Function) → slice_get m.functions j ≡ Some f → Among a (asked_in (counted_blocks (unit f) f.blocks)) → IsAskedOf entry_first m a
        of j f at h =
            let r = function_asks f (at_among m.functions j f at) a h in
            record { function = f; stands = at_among m.functions j f at; defined = some_blocks f a h; symbol = r.symbol; hash = r.hash; within = r.within }

        made : (g : Function) → Among a (asked_in g.blocks) → (j : ℕ) × (f : Function) × (slice_get m.functions j ≡ Some f) × Among g (counted_function (function_plan (map (gen_function entry_first) m.functions) j) f ∷ []) → IsAskedOf entry_first m a
        made g h (j, f, at, inl e) = of j f at (subst (λ (x : Function). Among a (asked_in x.blocks)) (e ∙ ap (λ (u : FunctionPlan). counted_function u f) (unit_is j f at)) h)
        made g h (j, f, at, inr none) = absurd none

        none : (s : Bool) (g : Function) → Among a (asked_in g.blocks) → Among g (declaration increment_name (Ptr ∷ I64 ∷ I32 ∷ I32 ∷ []) ∷ declaration value_name (Ptr ∷ I64 ∷ I64 ∷ I32 ∷ I32 ∷ []) ∷ cond s (declaration step_name (Ptr ∷ I64 ∷ I32 ∷ I32 ∷ I64 ∷ []) ∷ []) []) → ⊥
        none s g h (inl e) = subst (λ (x : Function). Among a (asked_in x.blocks)) e h
        none s g h (inr (inl e)) = subst (λ (x : Function). Among a (asked_in x.blocks)) e h
        none true g h (inr (inr (inl e))) = subst (λ (x : Function). Among a (asked_in x.blocks)) e h
        none true g h (inr (inr (inr k))) = k
        none false g h (inr (inr k)) = k

        by : (g : Function) → Among a (asked_in g.blocks) → Among g (counted_functions (map (gen_function entry_first) m.functions) m.functions) ⊎ Among g (declarations m.functions) → IsAskedOf entry_first m a
        by g h (inl k) = made g h (from_each (λ j f. counted_function (function_plan (map (gen_function entry_first) m.functions) j) f ∷ []) m.functions g k)
        by g h (inr k) = absurd (none (list_any has_select m.functions) g h k)
