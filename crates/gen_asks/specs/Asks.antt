-- What the calls in the module that counts a plain module ask for.
use Rattle.std.specs.Prelude.{◌≡◌, ℕ, ◌<◌, Bool, false, length}
use Rattle.gen_plan.specs.Gen.{counted, counted_edges, counters_in, gen_hash, record_name}
use Rattle.ir_rules.specs.Accepted.{IsAccepted}
use Rattle.ir_rules.specs.Kinds.{kind_of}
use Rattle.ir_rules.specs.Lists.{Among}
use Rattle.ir_rules.specs.declared.place.Kind.TheVariants.{Plain}
use Rattle.ir_tree.specs.Functions.{is_declared}
use Rattle.ir_tree.specs.Graphs.{graph_of}
use Rattle.ir_tree.specs.declared.types.Function.{Function}
use Rattle.ir_tree.specs.declared.types.Module.{Module}
use Rattle.ir_tree.specs.declared.types.Operand.TheVariants.{Int}
use Rattle.lowering.specs.Asked.{Asked, Rise, Note, all_asked, hash_asked, symbol_asked}

-- the counters of a function, and its sites
abbrev pub counters_of : Bool → Function → ℕ
counters_of entry_first f = counters_in (graph_of f) (counted_edges entry_first f)

abbrev pub sites_of : Function → ℕ
sites_of f = length (graph_of f).sites

-- with the number of counters a counter below it; a site below the number of sites
abbrev pub IsWithin : ℕ → ℕ → Asked → Type 0
IsWithin total sites (Rise symbol hash counters counter amount) = (counters ≡ total) × (counter < total)
IsWithin total sites (Note symbol hash target site) = site < sites

-- it is asked of the unit of a defined function
pub record IsAskedOf (entry_first : Bool) (m : Module) (a : Asked) : Type 0 where
  pub function : Function
  pub stands : Among function m.functions
  pub defined : is_declared function ≡ false
  pub symbol : symbol_asked a ≡ record_name function.name
  pub hash : hash_asked a ≡ gen_hash entry_first function
  pub within : IsWithin (counters_of entry_first function) (sites_of function) a

abbrev pub AsksStand : Type 0
AsksStand = (entry_first : Bool) (m : Module) → IsAccepted m → kind_of m.functions ≡ Plain → (a : Asked) → Among a (all_asked (counted entry_first m)) → IsAskedOf entry_first m a

-- a counter of each defined function rises somewhere
abbrev pub UnitsRise : Type 0
UnitsRise = (entry_first : Bool) (m : Module) → IsAccepted m → kind_of m.functions ≡ Plain → (f : Function) → Among f m.functions → is_declared f ≡ false → (counter : ℕ) × Among (Rise (record_name f.name) (gen_hash entry_first f) (counters_of entry_first f) counter (Int 1)) (all_asked (counted entry_first m))
