-- A module that grows by its parts.
use Rattle.std.specs.Prelude.{[], ◌∷◌, ◌++◌}
use Rattle.ir_tree.specs.declared.types.Module.{Module}
use Rattle.ir_grammar.specs.declared.parts.Part.{Part}
use Rattle.ir_grammar.specs.declared.parts.Part.TheVariants as parts

-- the module with one part more
abbrev pub with_part : Module → Part → Module
with_part m (parts.Variable g) = record { globals = m.globals ++ g ∷ []; functions = m.functions }
with_part m (parts.Function f) = record { globals = m.globals; functions = m.functions ++ f ∷ [] }
with_part m parts.Nothing = m
