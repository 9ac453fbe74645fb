-- Rule 11. A local operand is a parameter or result of the function. A global operand is a global variable or function; one of
-- the profile stands only in the calls of the profile's functions.
use Rattle.std.specs.Prelude.{ℕ, Bool, true, false, ◌&&◌, ◌||◌, not, List, map}
use Rattle.std.specs.List.{list_all}
use Rattle.ir_rules.specs.Lists.{is_among}
use Rattle.ir_rules.specs.Parts.{Rule, places, silent}
use Rattle.ir_rules.specs.Scopes.{is_of_profile, symbols, term_reads, values}
use Rattle.ir_rules.specs.declared.place.Place.{Place}
use Rattle.ir_tree.specs.Functions.{is_profile_name}
use Rattle.ir_tree.specs.Operands.{operands}
use Rattle.ir_tree.specs.declared.types.Function.{Function}
use Rattle.ir_tree.specs.declared.types.Instr.{Instr}
use Rattle.ir_tree.specs.declared.types.Instr.TheVariants.{Binary, Compare, Convert, Freeze, Select, Phi, Alloca, Load, Store, Gep, Call, Count}
use Rattle.ir_tree.specs.declared.types.Module.{Module}
use Rattle.ir_tree.specs.declared.types.Operand.{Operand}
use Rattle.ir_tree.specs.declared.types.Operand.TheVariants.{Int, Null, Local, Global}
use Rattle.ir_tree.specs.declared.types.Term.{Term}

abbrev pub names_profile : Operand → Bool
names_profile (Int value) = false
names_profile Null = false
names_profile (Local name) = false
names_profile (Global name) = is_profile_name name

-- a call of a function of the profile, by its name
abbrev pub calls_profile : Instr → Bool
calls_profile (Binary dest op flags ty left right) = false
calls_profile (Compare dest pred ty left right) = false
calls_profile (Convert dest op flags from value to) = false
calls_profile (Freeze dest ty value) = false
calls_profile (Select dest cond ty first second prof) = false
calls_profile (Phi dest ty entries) = false
calls_profile (Alloca dest mem) = false
calls_profile (Load dest ty address) = false
calls_profile (Store ty value address) = false
calls_profile (Gep dest inbounds mem address indices) = false
calls_profile (Call dest ret callee args prof) = names_profile callee
calls_profile (Count symbol size index step) = false

-- the names of the parameters and results of a function
abbrev pub value_names : Function → List (List ℕ)
value_names f = map (λ v. v.0) (values f)

-- the operand exists; it may be of the profile where `allowed` says so
abbrev pub exists : Module → Function → Bool → Operand → Bool
exists m f allowed (Int value) = true
exists m f allowed Null = true
exists m f allowed (Local name) = is_among name (value_names f)
exists m f allowed (Global name) = is_among name (symbols m) && (allowed || not (is_of_profile m name))

abbrev pub all_exist : Module → Function → Instr → Bool
all_exist m f x = list_all (λ u. exists m f (calls_profile x) u.1) (operands x)

abbrev pub term_exists : Module → Function → Term → Bool
term_exists m f t = list_all (λ u. exists m f false u.1) (term_reads t)

abbrev pub existing : Module → Rule
existing m = record silent {
  item = λ f b block i x. all_exist m f x;
  exit = λ f b block. term_exists m f block.term;
}

abbrev pub breaks_11 : Module → List Place
breaks_11 m = places (existing m) m
