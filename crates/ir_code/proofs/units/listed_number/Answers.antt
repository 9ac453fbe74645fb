use Rattle.std.proofs.Common.{◌≡◌, ℕ, List, Option, Some, None, length, refl, sym, ap, ◌∙◌}
use Rattle.std.specs.Prelude.{slice_get, unwrap_or}
use Rattle.std.specs.Option.{option_map}
use Rattle.std.proofs.lemmas.Option.{slice_get-map, slice_get_read}
use Rattle.ir_tree.specs.declared.types.Init.{Init}
use Rattle.ir_tree.specs.declared.types.Init.TheVariants as init
use Rattle.ir_code.specs.Units.{number_of, numbers_of}
use Rattle.ir_code.proofs.Numbered.{past_end}
use Rattle.ir_code.proofs.Trees.{numbers_list}
use Rattle.ir_code.proofs.units.listed_number.Goals as goal

-- the number at a place of a list is that of the initialiser there
number_found : (i : Init) (is : List Init) (place : ℕ) (o : Option Init) → i ≡ init.List is → slice_get is place ≡ o → unwrap_or (slice_get (numbers_of i) place) 0 ≡ unwrap_or (option_map number_of o) 0
number_found i is place o list there =
    ap (λ (ns : List ℕ). unwrap_or (slice_get ns place) 0) (ap numbers_of list ∙ numbers_list is)
    ∙ ap (λ (n : Option ℕ). unwrap_or n 0) (slice_get-map number_of is place ∙ ap (λ (x : Option Init). option_map number_of x) there)

pub returns-in-Some : goal.returns-in-Some
returns-in-Some c =
    let is = c.as_slice.result.now in
    let there = slice_get_read is (length is) c.args.place c.in-Some.one.now refl c.in-Some.ensures.lookup.3.0 c.in-Some.ensures.lookup.1 in
    c.number_of.ensures
    ∙ sym (number_found c.args.init.now is c.args.place (Some c.in-Some.one.now) (c.in-List.is ∙ ap init.List (sym c.as_slice.ensures)) there)

pub returns-in-None : goal.returns-in-None
returns-in-None c =
    let is = c.as_slice.result.now in
    let past = sym (past_end is c.args.place c.in-None.ensures.lookup.3) in
    sym (number_found c.args.init.now is c.args.place None (c.in-List.is ∙ ap init.List (sym c.as_slice.ensures)) past)
