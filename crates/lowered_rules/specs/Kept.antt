-- What a lowered module keeps of the rules.
use Rattle.std.specs.Prelude.{◌≡◌, ℕ, ◌≤◌, true, false, List, None, unwrap_or}
use Rattle.ir_rules.specs.Initialisers.{unit_texts}
use Rattle.ir_rules.specs.Intrinsics.{is_counter_total}
use Rattle.ir_rules.specs.Kinds.{kind_of}
use Rattle.ir_rules.specs.Lists.{Among, times}
use Rattle.ir_rules.specs.Reserved.{is_of_intrinsics}
use Rattle.ir_rules.specs.Scopes.{symbols}
use Rattle.ir_rules.specs.WellFormed.{FunctionFormed, GlobalFormed, IsWellFormed}
use Rattle.ir_rules.specs.declared.place.Kind.TheVariants.{Counted, Lowered}
use Rattle.ir_tree.specs.Types.{is_integer_of}
use Rattle.ir_tree.specs.declared.types.Function.{Function}
use Rattle.ir_tree.specs.declared.types.Global1.{Global1}
use Rattle.ir_tree.specs.declared.types.Module.{Module}
use Rattle.ir_tree.specs.declared.types.Ty.TheVariants.{I64}
use Rattle.lowering.specs.Asked.{all_asked}
use Rattle.lowering.specs.Lowered.{lowered, lowered_function, runtime_declaration}
use Rattle.lowering.specs.Refusals.{refusal}
use Rattle.lowering.specs.Units.{counters_told, hash_told, names_used, sites_told}

-- a module that counts and breaks no rule, and that lowering doesn't refuse
pub record IsLowerable (m : Module) : Type 0 where
  pub formed : IsWellFormed m
  pub counted : kind_of m.functions ≡ Counted
  pub unrefused : refusal m ≡ None

-- what the calls that name the unit tell of it: a hash of 64 bits, as many counters as a unit may have, and few sites
pub record IsTold (m : Module) (g : Global1) : Type 0 where
  pub hash : is_integer_of I64 (unwrap_or (hash_told g.name (all_asked m)) 0) ≡ true
  pub counters : is_counter_total (unwrap_or (counters_told g.name (all_asked m)) 0) ≡ true
  pub sites : sites_told g.name (all_asked m) ≤ 65536

abbrev pub UnitsAreTold : Type 0
UnitsAreTold = (m : Module) → IsLowerable m → (g : Global1) → Among g m.globals → names_used (all_asked m) g ≡ true → IsTold m g

-- the kind of the lowered module, whatever the module
abbrev pub IsLoweredKind : Type 0
IsLoweredKind = (m : Module) → kind_of (lowered m).functions ≡ Lowered

-- the symbols are distinct
abbrev pub SymbolsStayApart : Type 0
SymbolsStayApart = (m : Module) → IsLowerable m → (n : List ℕ) → times n (symbols (lowered m)) ≤ 1

-- no two globals hold the same unit's name
abbrev pub TextsStayApart : Type 0
TextsStayApart = (m : Module) → IsLowerable m → (t : List ℕ) → times t (unit_texts (lowered m).globals) ≤ 1

-- a function that is no intrinsic is well formed in the lowered module when it is lowered
abbrev pub FunctionsStayFormed : Type 0
FunctionsStayFormed = (m : Module) → IsLowerable m → (f : Function) → Among f m.functions → is_of_intrinsics f.name ≡ false → FunctionFormed (lowered m) (lowered_function f)

-- and so is the profile runtime's
abbrev pub RuntimeIsFormed : Type 0
RuntimeIsFormed = (m : Module) → FunctionFormed (lowered m) runtime_declaration

-- the globals of the lowered module are well formed in it
abbrev pub GlobalsStayFormed : Type 0
GlobalsStayFormed = (m : Module) → IsLowerable m → (g : Global1) → Among g (lowered m).globals → GlobalFormed (lowered m) g
