-- The functions of the lowered module by their numbers, and what its names stand for: as in the module.
use Rattle.std.proofs.Common.{◌≡◌, ℕ, Bool, true, false, not, List, [], ◌∷◌, ◌++◌, filter, length, map, Option, Some, None, refl, sym, ◌∙◌, ap, ap₂}
use Rattle.std.specs.Prelude.{◌||◌, codes, cond, flat_map, position, slice_get}
use Rattle.std.specs.Option.{option_map}
use Rattle.std.proofs.lemmas.List.{append-nil, length-map}
use Rattle.std.proofs.lemmas.List.Elements.{filter-append}
use Rattle.std.proofs.lemmas.Option.{slice_get-map}
use Rattle.ir_model.specs.Initial.{global_objects, initial_memory}
use Rattle.ir_model.specs.Values.{functions_of, is_profile_global, objects, symbol_pointer, symbol_value}
use Rattle.ir_rules.specs.Reserved.{is_of_intrinsics}
use Rattle.ir_tree.specs.Functions.{begins_with, function_at, is_profile_name, numbered}
use Rattle.ir_tree.specs.Names.{same}
use Rattle.ir_tree.specs.declared.types.Function.{Function}
use Rattle.ir_tree.specs.declared.types.Global1.{Global1}
use Rattle.ir_tree.specs.declared.types.Module.{Module}
use Rattle.lowering.specs.Asked.{Asked, all_asked}
use Rattle.lowering.specs.Lowered.{lowered, lowered_function, lowered_functions, runtime_declaration, runtime_name}
use Rattle.lowering.specs.Units.{new_globals, unit_globals}

-- ---- globals

none_new : (asks : List Asked) (gs : List Global1) → objects (flat_map (unit_globals asks) gs) ≡ []
none_new asks [] = refl
none_new asks (g ∷ gs) = none_new asks gs

pub objects_same : (m : Module) → objects (lowered m).globals ≡ objects m.globals
objects_same m =
    filter-append (λ (g : Global1). not (is_profile_global g.name)) m.globals (new_globals (all_asked m) m.globals)
    ∙ ap (λ l. objects m.globals ++ l) (none_new (all_asked m) (filter _ m.globals))
    ∙ append-nil (objects m.globals)

-- ---- functions

abbrev has_number : Function → Bool
has_number f = not (is_profile_name f.name)

abbrev is_kept : Function → Bool
is_kept f = not (is_of_intrinsics f.name)

-- an intrinsic has no number
without_number : (name : List ℕ) → is_of_intrinsics name ≡ true → is_profile_name name ≡ true
unfolding is_of_intrinsics is_profile_name
without_number name e = ap (λ t. t || begins_with (codes "__llvm_profile_") name) e

kept_numbered : (fs : List Function) → filter has_number (map lowered_function (filter is_kept fs)) ≡ map lowered_function (filter has_number fs)
kept_numbered [] = refl
kept_numbered (f ∷ fs) = by (is_of_intrinsics f.name) (is_profile_name f.name) refl refl (kept_numbered fs)
  where
    by : (t s : Bool) → is_of_intrinsics f.name ≡ t → is_profile_name f.name ≡ s → filter has_number (map lowered_function (filter is_kept fs)) ≡ map lowered_function (filter has_number fs) →
        filter has_number (map lowered_function (cond (not (is_of_intrinsics f.name)) (f ∷ filter is_kept fs) (filter is_kept fs))) ≡ map lowered_function (cond (not (is_profile_name f.name)) (f ∷ filter has_number fs) (filter has_number fs))
    by true s e g h =
        ap (λ t. filter has_number (map lowered_function (cond (not t) (f ∷ filter is_kept fs) (filter is_kept fs)))) e ∙ h
        ∙ sym (ap (λ t. map lowered_function (cond (not t) (f ∷ filter has_number fs) (filter has_number fs))) (without_number f.name e))
    by false s e g h =
        ap (λ t. filter has_number (map lowered_function (cond (not t) (f ∷ filter is_kept fs) (filter is_kept fs)))) e
        ∙ with_number s g
      where
        with_number : (s : Bool) → is_profile_name f.name ≡ s → cond (not (is_profile_name f.name)) (lowered_function f ∷ filter has_number (map lowered_function (filter is_kept fs))) (filter has_number (map lowered_function (filter is_kept fs))) ≡ map lowered_function (cond (not (is_profile_name f.name)) (f ∷ filter has_number fs) (filter has_number fs))
        with_number true g =
            ap (λ t. cond (not t) (lowered_function f ∷ filter has_number (map lowered_function (filter is_kept fs))) (filter has_number (map lowered_function (filter is_kept fs)))) g ∙ h
            ∙ sym (ap (λ t. map lowered_function (cond (not t) (f ∷ filter has_number fs) (filter has_number fs))) g)
        with_number false g =
            ap (λ t. cond (not t) (lowered_function f ∷ filter has_number (map lowered_function (filter is_kept fs))) (filter has_number (map lowered_function (filter is_kept fs)))) g
            ∙ ap (λ l. lowered_function f ∷ l) h
            ∙ sym (ap (λ t. map lowered_function (cond (not t) (f ∷ filter has_number fs) (filter has_number fs))) g)

runtime_numberless : filter has_number (runtime_declaration ∷ []) ≡ []
unfolding is_profile_name runtime_name
runtime_numberless = refl

pub numbered_same : (m : Module) → numbered (lowered m).functions ≡ map lowered_function (numbered m.functions)
numbered_same m =
    filter-append has_number (map lowered_function (filter is_kept m.functions)) (runtime_declaration ∷ [])
    ∙ ap₂ (λ (a b : List Function). a ++ b) (kept_numbered m.functions) runtime_numberless
    ∙ append-nil (map lowered_function (numbered m.functions))

pub function_same : (m : Module) (k : ℕ) → function_at (lowered m) k ≡ option_map lowered_function (function_at m k)
function_same m k = ap (λ fs. slice_get fs k) (numbered_same m) ∙ slice_get-map lowered_function (numbered m.functions) k

pub as_many : (m : Module) → functions_of (lowered m) ≡ functions_of m
as_many m = ap (λ (fs : List Function). length fs) (numbered_same m) ∙ length-map (numbered m.functions) lowered_function

-- ---- names

names_stay : (fs : List Function) → map (λ (f : Function). f.name) (map lowered_function fs) ≡ map (λ (f : Function). f.name) fs
names_stay [] = refl
names_stay (f ∷ fs) = ap (λ l. f.name ∷ l) (names_stay fs)

pub symbol_same : (m : Module) (name : List ℕ) → symbol_value (lowered m) name ≡ symbol_value m name
symbol_same m name =
    ap₂ (λ (names : List (List ℕ)) (gs : List Global1). symbol_pointer (position (same name) names) (position (same name) (map (λ (g : Global1). g.name) gs)))
    (ap (λ fs. map (λ (f : Function). f.name) fs) (numbered_same m) ∙ names_stay (numbered m.functions))
    (objects_same m)

pub memory_same : (m : Module) → initial_memory (lowered m) ≡ initial_memory m
memory_same m = λ i. record { next = length (objects_same m i); live = global_objects (λ name. symbol_same m name i) 0 (objects_same m i) }
