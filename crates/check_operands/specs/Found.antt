-- What the look-ups of an operand find, and what is known of them.
use Rattle.std.specs.Prelude.{◌≡◌, ℕ, ◌-◌, ◌≤◌, ◌↔◌, Bool, false, ◌&&◌, cond, nat_lt, List, length, Option, None, Some, slice_get}
use Rattle.check_operands.specs.declared.scope.Scope.{Scope}
use Rattle.ir_rules.specs.Declarations.{param_types, same_ret, same_tys}
use Rattle.ir_rules.specs.Finding.{ret_found}
use Rattle.ir_rules.specs.Kinds.{is_profile_variable, kind_of}
use Rattle.ir_rules.specs.Lists.{Among, times}
use Rattle.ir_rules.specs.Scopes.{symbols, values}
use Rattle.ir_rules.specs.Typing.{gives}
use Rattle.ir_rules.specs.declared.place.Kind.{Kind}
use Rattle.ir_tree.specs.FunctionNames.{indexed}
use Rattle.ir_tree.specs.Functions.{is_profile_name}
use Rattle.ir_tree.specs.Names.{Indexes, first_place}
use Rattle.ir_tree.specs.declared.index.Index.{Index}
use Rattle.ir_tree.specs.declared.types.Function.{Function}
use Rattle.ir_tree.specs.declared.types.Module.{Module}
use Rattle.ir_tree.specs.declared.types.Operand.{Operand}
use Rattle.ir_tree.specs.declared.types.Operand.TheVariants.{Int, Null, Local, Global}
use Rattle.ir_tree.specs.declared.types.Ret.{Ret}
use Rattle.ir_tree.specs.declared.types.Ty.{Ty}

-- look-ups tell the values of the function and the places of the module's symbols, which stand once
pub record Knows (s : Scope) : Type 0 where
  pub value : (n : List ℕ) (r : Ret) → Among (n, r) (values s.function.now) ↔ (ret_found (indexed s.known.now n) ≡ Some r)
  pub placed : Indexes s.symbols.now (symbols s.module.now)
  pub once : (n : List ℕ) → times n (symbols s.module.now) ≤ 1
  pub kinded : s.kind ≡ kind_of s.module.now.functions

-- what was found has the type
abbrev pub gives_found : Ty → Option Ret → Bool
gives_found t None = false
gives_found t (Some r) = gives t r

-- the place of the symbol that an operand names
abbrev pub symbol_place : Index → Operand → Option ℕ
symbol_place index (Int value) = None
symbol_place index Null = None
symbol_place index (Local name) = None
symbol_place index (Global name) = first_place index name

-- a symbol is of the profile, by its place: the first `globals` symbols are global variables
abbrev pub is_profile_at : Kind → ℕ → List ℕ → ℕ → Bool
is_profile_at kind globals name place = cond (nat_lt place globals) (is_profile_variable kind name) (is_profile_name name)

-- the function at the place of a symbol
abbrev pub called : Module → Option ℕ → Option Function
called m None = None
called m (Some place) = cond (nat_lt place (length m.globals)) None (slice_get m.functions (place - length m.globals))

abbrev pub has_types : Ret → List Ty → Option Function → Bool
has_types ret types None = false
has_types ret types (Some f) = same_ret ret f.ret && same_tys types (param_types f)
