-- What initialisers are looked at in: a module whose names stand once, with the index of them.
use Rattle.std.specs.Prelude.{◌≡◌, ℕ, ◌≤◌, List}
use Rattle.ir_rules.specs.Kinds.{kind_of}
use Rattle.ir_rules.specs.Lists.{times}
use Rattle.ir_rules.specs.Scopes.{symbols}
use Rattle.ir_rules.specs.declared.place.Kind.{Kind}
use Rattle.ir_tree.specs.Names.{Indexes}
use Rattle.ir_tree.specs.declared.index.Index.{Index}
use Rattle.ir_tree.specs.declared.types.Module.{Module}

pub record IsScene (kind : Kind) (index : Index) (m : Module) : Type 0 where
  pub of_kind : kind ≡ kind_of m.functions
  pub indexed : Indexes index (symbols m)
  pub once : (name : List ℕ) → times name (symbols m) ≤ 1
