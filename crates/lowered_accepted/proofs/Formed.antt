-- The lowered module is well formed.
use Rattle.std.proofs.Common.{◌≡◌, ◌⊎◌, inl, inr, Bool, true, false, ◌&&◌, not, if◌then◌else◌, List, [], ◌∷◌, ◌++◌, filter, map, cond, refl, sym, ap, subst}
use Rattle.ir_rules.specs.Kinds.{declares_increments, declares_notes, is_lowered_kind, kind_of}
use Rattle.ir_rules.specs.Lists.{Among}
use Rattle.ir_rules.specs.Reserved.{is_of_intrinsics}
use Rattle.ir_rules.specs.WellFormed.{FunctionFormed, IsWellFormed}
use Rattle.ir_rules.specs.declared.place.Kind.TheVariants.{Plain, Counted, Lowered}
use Rattle.ir_tree.specs.declared.types.Function.{Function}
use Rattle.ir_tree.specs.declared.types.Module.{Module}
use Rattle.lowered_rules.specs.Kept.{FunctionsStayFormed, GlobalsStayFormed, IsLowerable, IsLoweredKind, RuntimeIsFormed, SymbolsStayApart, TextsStayApart}
use Rattle.lowering.specs.Lowered.{lowered, lowered_function, runtime_declaration}

-- ---- lists

either : {X : Type 0} (xs ys : List X) (x : X) → Among x (xs ++ ys) → Among x xs ⊎ Among x ys
either [] ys x at = inr at
either (z ∷ zs) ys x (inl e) = inl (inl e)
either (z ∷ zs) ys x (inr at) = further (either zs ys x at)
  where
    further : Among x zs ⊎ Among x ys → Among x (z ∷ zs) ⊎ Among x ys
    further (inl h) = inl (inr h)
    further (inr h) = inr h

-- each of those that are lowered was no intrinsic
was_kept : (fs : List Function) (g : Function) → Among g (map lowered_function (filter (λ f. not (is_of_intrinsics f.name)) fs)) → (f : Function) × Among f fs × (is_of_intrinsics f.name ≡ false) × (g ≡ lowered_function f)
was_kept [] g at = absurd at
was_kept (f ∷ fs) g at = by (is_of_intrinsics f.name) refl at (λ h. was_kept fs g h)
  where
    later : (h : Function) × Among h fs × (is_of_intrinsics h.name ≡ false) × (g ≡ lowered_function h) → (h : Function) × Among h (f ∷ fs) × (is_of_intrinsics h.name ≡ false) × (g ≡ lowered_function h)
    later r = (r.0, inr r.1, r.2, r.3)

    by : (b : Bool) → is_of_intrinsics f.name ≡ b → Among g (map lowered_function (cond (not b) (f ∷ filter (λ f. not (is_of_intrinsics f.name)) fs) (filter (λ f. not (is_of_intrinsics f.name)) fs))) → (Among g (map lowered_function (filter (λ f. not (is_of_intrinsics f.name)) fs)) → (h : Function) × Among h fs × (is_of_intrinsics h.name ≡ false) × (g ≡ lowered_function h)) → (h : Function) × Among h (f ∷ fs) × (is_of_intrinsics h.name ≡ false) × (g ≡ lowered_function h)
    by true e h rest = later (rest h)
    by false e (inl q) rest = (f, inl refl, e, q)
    by false e (inr h) rest = later (rest h)

-- ---- the kind

-- a lowered module doesn't declare the intrinsic for counters
one_kind : (fs : List Function) → kind_of fs ≡ Lowered → not (declares_increments fs && declares_notes fs) ≡ true
one_kind fs is = by (declares_increments fs) (declares_notes fs) (ap is_lowered_kind is)
  where
    by : (a b : Bool) → is_lowered_kind (if a then Counted else (if b then Lowered else Plain)) ≡ true → not (a && b) ≡ true
    by true b h = absurd (cc h)
    by false b h = refl

module _ (m : Module) (low : IsLowerable m) (kind : IsLoweredKind) (symbols : SymbolsStayApart) (texts : TextsStayApart) (globals : GlobalsStayFormed) (functions : FunctionsStayFormed) (runtime : RuntimeIsFormed) where
  function : (g : Function) → Among g (lowered m).functions → FunctionFormed (lowered m) g
  function g at = by (either (map lowered_function (filter (λ f. not (is_of_intrinsics f.name)) m.functions)) (runtime_declaration ∷ []) g at)
    where
      by : Among g (map lowered_function (filter (λ f. not (is_of_intrinsics f.name)) m.functions)) ⊎ Among g (runtime_declaration ∷ []) → FunctionFormed (lowered m) g
      by (inl h) = (let f = was_kept m.functions g h in subst (λ (x : Function). FunctionFormed (lowered m) x) (sym f.3) (functions m low f.0 f.1 f.2))
      by (inr (inl e)) = subst (λ (x : Function). FunctionFormed (lowered m) x) (sym e) (runtime m)
      by (inr (inr none)) = absurd none

  pub well_formed : IsWellFormed (lowered m)
  well_formed = record {
    distinct = symbols m low;
    kind = one_kind (lowered m).functions (kind m);
    units = texts m low;
    global = globals m low;
    function = function;
  }
