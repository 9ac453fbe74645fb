-- The names of a plain module are none that a profile adds.
use Rattle.std.proofs.Common.{◌≡◌, ◌≤◌, ◌⊎◌, inl, inr, Bool, true, false, ◌||◌, length, take, refl, sym, ap, subst, ◌∙◌, arith, codes}
use Rattle.std.specs.Cmp.Lexicographic.{bytes_decides}
use Rattle.std.proofs.lemmas.Bool.{or_from, or_parts}
use Rattle.std.proofs.lemmas.List.{take-take}
use Rattle.counted_rules.proofs.Listed.{Name, among_either, map_among, same_is}
use Rattle.counted_rules.specs.PlainNames.{IsPlainName}
use Rattle.ir_rules.specs.Kinds.{is_unit_counters, is_unit_data, is_unit_name, kind_of}
use Rattle.ir_rules.specs.Lists.{Among}
use Rattle.ir_rules.specs.Reserved.{is_of_intrinsics, is_of_runtime, is_of_units, is_reserved_function, is_reserved_variable}
use Rattle.ir_rules.specs.Scopes.{function_names, symbols, variables}
use Rattle.ir_rules.specs.WellFormed.{IsWellFormed}
use Rattle.ir_rules.specs.declared.place.Kind.{Kind}
use Rattle.ir_rules.specs.declared.place.Kind.TheVariants.{Plain}
use Rattle.ir_tree.specs.Functions.{begins_with, is_profile_name}
use Rattle.ir_tree.specs.declared.types.Function.{Function}
use Rattle.ir_tree.specs.declared.types.Global1.{Global1}
use Rattle.ir_tree.specs.declared.types.Module.{Module}

-- what begins with a longer front begins with a shorter one
begins_shorter : (front more n : Name) → take (length front) more ≡ front → length front ≤ length more → begins_with more n ≡ true → begins_with front n ≡ true
begins_shorter front more n is short h =
    let whole : more ≡ take (length more) n = same_is more (take (length more) n) h in
    let first : front ≡ take (length front) n = sym is ∙ ap (λ (x : Name). take (length front) x) whole ∙ take-take (length front) (length more) n short in
    (bytes_decides front (take (length front) n)).1 first

no_longer : (front more n : Name) → take (length front) more ≡ front → length front ≤ length more → begins_with front n ≡ false → begins_with more n ≡ false
no_longer front more n is short off = by (begins_with more n) refl
  where
    by : (b : Bool) → begins_with more n ≡ b → b ≡ false
    by true e = absurd (cc (sym (begins_shorter front more n is short e) ∙ off))
    by false e = refl

module _ (n : Name) where
  no_unit_name : is_of_units n ≡ false → is_unit_name n ≡ false
  unfolding is_of_units is_unit_name
  no_unit_name h = no_longer (codes "__prof") (codes "__profn_") n refl (omega arith) h

  no_unit_counters : is_of_units n ≡ false → is_unit_counters n ≡ false
  unfolding is_of_units is_unit_counters
  no_unit_counters h = no_longer (codes "__prof") (codes "__profc_") n refl (omega arith) h

  no_unit_data : is_of_units n ≡ false → is_unit_data n ≡ false
  unfolding is_of_units is_unit_data
  no_unit_data h = no_longer (codes "__prof") (codes "__profd_") n refl (omega arith) h

  no_profile : is_of_runtime n ≡ false → is_of_intrinsics n ≡ false → is_profile_name n ≡ false
  unfolding is_of_runtime is_of_intrinsics is_profile_name
  no_profile h k = or_from (begins_with (codes "llvm.instrprof.") n) (begins_with (codes "__llvm_profile_") n) k (no_longer (codes "__llvm_profile") (codes "__llvm_profile_") n refl (omega arith) h)

  -- a plain module reserves the same names for variables and for functions
  free : (is_of_units n || (is_of_runtime n || is_of_intrinsics n)) ≡ false → IsPlainName n
  free h =
      let a = or_parts (is_of_units n) (is_of_runtime n || is_of_intrinsics n) h in
      let b = or_parts (is_of_runtime n) (is_of_intrinsics n) a.1 in
      record {
        unit_name = no_unit_name a.0;
        unit_counters = no_unit_counters a.0;
        unit_data = no_unit_data a.0;
        runtime = b.0;
        intrinsics = b.1;
        profile = no_profile b.0 b.1;
      }

pub names_plain : (m : Module) → IsWellFormed m → kind_of m.functions ≡ Plain → (n : Name) → Among n (symbols m) → IsPlainName n
names_plain m formed plain n at = by (among_either (variables m) (function_names m) n at)
  where
    by : Among n (variables m) ⊎ Among n (function_names m) → IsPlainName n
    by (inl h) =
        let g = map_among (λ (g : Global1). g.name) m.globals n h in
        subst (λ (k : Name). IsPlainName k) (sym g.2) (free g.0.name (ap (λ (kind : Kind). is_reserved_variable kind g.0.name) (sym plain) ∙ (formed.global g.0 g.1).free))
    by (inr h) =
        let f = map_among (λ (f : Function). f.name) m.functions n h in
        subst (λ (k : Name). IsPlainName k) (sym f.2) (free f.0.name (ap (λ (kind : Kind). is_reserved_function kind f.0.name) (sym plain) ∙ (formed.function f.0 f.1).free))
