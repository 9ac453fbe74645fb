-- Code that is resolved with the symbols of a module is the module's code.
use Rattle.std.proofs.Common.{◌≡◌, ℕ, List, map, Option, Some, None, refl, sym, ◌∙◌, ap}
use Rattle.std.specs.Prelude.{option_and_then, slice_get}
use Rattle.std.specs.Option.{option_map}
use Rattle.std.proofs.lemmas.Option.{slice_get-map}
use Rattle.ir_tree.specs.Functions.{numbered}
use Rattle.ir_tree.specs.Names.{first_place}
use Rattle.ir_tree.specs.declared.types.Module.{Module}
use Rattle.ir_memory.specs.declared.value.Value.{Value}
use Rattle.ir_model.specs.Values.{objects, symbol_pointer, symbol_value}
use Rattle.ir_model.specs.declared.probe.Tally.{Tally}
use Rattle.ir_code.specs.Named.{named_at}
use Rattle.ir_code.specs.Found.{AreSymbols, counters_of, sites_of, symbol_in, tally_in, value_in}
use Rattle.ir_code.specs.Images.{image_of, module_images}
use Rattle.ir_code.specs.Resolved.{function_code, module_code}
use Rattle.ir_code.specs.Symbols.{numbered_input, symbol_input}
use Rattle.ir_code.specs.Units.{Unit_, counter_span, counters_in, site_span, sites_in, tally_named, units_of}
use Rattle.ir_code.specs.declared.code.Input.{Input}
use Rattle.ir_code.specs.declared.code.Span.{Span}
use Rattle.ir_code.specs.declared.symbols.Symbols.{Symbols}

get_map : (units : List Unit_) (o : Option ℕ) → option_and_then (slice_get (map (λ (u : Unit_). u.1) units)) o ≡ option_map (λ (u : Unit_). u.1) (option_and_then (slice_get units) o)
get_map units None = refl
get_map units (Some i) = slice_get-map (λ (u : Unit_). u.1) units i

module _ (s : Symbols) (m : Module) (are : AreSymbols s m) where
  tally_is : (unit : List ℕ) → tally_in s unit ≡ tally_named (units_of m) unit
  tally_is unit =
      let place : Option ℕ = first_place s.units unit in
      ap (λ (ts : List Tally). option_and_then (slice_get ts) place) are.tallies
      ∙ get_map (units_of m) place
      ∙ ap (option_map (λ (u : Unit_). u.1)) (sym (named_at (λ (u : Unit_). u.0) (units_of m) unit place (are.units unit)))

  inputs_are : ◌≡◌ {A = List ℕ → Input} (symbol_in s) (symbol_input m)
  inputs_are = λ i name. numbered_input (are.functions name i) (are.objects name i)

  values_are : ◌≡◌ {A = List ℕ → Value} (value_in s) (symbol_value m)
  values_are = λ i name. symbol_pointer (are.functions name i) (are.objects name i)

  counters_are : ◌≡◌ {A = List ℕ → Span} (counters_of s) (counter_span (units_of m))
  counters_are = λ i unit. counters_in (tally_is unit i)

  sites_are : ◌≡◌ {A = List ℕ → Span} (sites_of s) (site_span (units_of m))
  sites_are = λ i unit. sites_in (tally_is unit i)

  pub code_is : map (function_code (symbol_in s) (counters_of s) (sites_of s)) (numbered m.functions) ≡ module_code m
  code_is = λ i. map (function_code (inputs_are i) (counters_are i) (sites_are i)) (numbered m.functions)

  pub images_are : map (image_of (value_in s)) (objects m.globals) ≡ module_images m
  images_are = λ i. map (image_of (values_are i)) (objects m.globals)
