-- Which functions, variables and modules some text spells.
use Rattle.std.specs.Prelude.{◌≡◌, ℕ, ◌≤◌, ◌^◌, ◌⊎◌, List, [], ◌∷◌, length, Option, None}
use Rattle.ir_tree.specs.declared.types.Ty.{Ty}
use Rattle.ir_tree.specs.declared.types.Prof.{Prof}
use Rattle.ir_tree.specs.declared.types.Init.{Init}
use Rattle.ir_tree.specs.declared.types.Init.TheVariants as inits
use Rattle.ir_tree.specs.declared.types.Block.{Block}
use Rattle.ir_tree.specs.declared.types.Function.{Function}
use Rattle.ir_tree.specs.declared.types.Global1.{Global1}
use Rattle.ir_tree.specs.declared.types.Module.{Module}
use Rattle.ir_grammar.specs.Types.{memory_of}
use Rattle.ir_grammar.specs.declared.words.NoteKind.TheVariants as kinds
use Rattle.canonical_text.specs.Notes.{nodes_of}
use Rattle.spellable.specs.Values.{Each, IsLocal, IsGlobal, IsLiteral, AreDimensions, IsMaybe}
use Rattle.spellable.specs.Instructions.{IsNote, MayStand, IsInstr, IsTerm}

-- # Functions

pub record IsBlock (P : Prof → Type 0) (b : Block) : Type 0 where
  pub label : IsLocal b.label
  pub instrs : Each (IsInstr P) b.instrs
  pub term : IsTerm P b.term

abbrev pub IsParameter : Ty × List ℕ → Type 0
IsParameter p = IsLocal p.1

abbrev pub HasNoName : Ty × List ℕ → Type 0
HasNoName p = p.1 ≡ []

-- the parameters of a declaration have no names, those of a definition have; a declaration has no note
abbrev pub IsBody : (Prof → Type 0) → List (Ty × List ℕ) → Option Prof → List Block → Type 0
IsBody P params prof [] = Each HasNoName params × (prof ≡ None)
IsBody P params prof (b ∷ bs) = Each IsParameter params × IsMaybe (MayStand P kinds.Entry) prof × Each (IsBlock P) (b ∷ bs)

abbrev pub IsFunction : (Prof → Type 0) → Function → Type 0
IsFunction P f = IsGlobal f.name × IsBody P f.params f.prof f.blocks

-- # Variables

-- what initialises at any type of memory
abbrev pub IsWhole : Init → Type 0
IsWhole x = (x ≡ inits.Null) ⊎ ((x ≡ inits.Zero) ⊎ (((name : List ℕ) × (x ≡ inits.Symbol name) × IsGlobal name) ⊎ ((bytes : List ℕ) × (x ≡ inits.Bytes bytes))))

-- what initialises at a type of memory: at an array type a list of what initialises the elements too, at a type without
-- dimensions an integer
abbrev pub IsInit : List ℕ → Ty → Init → Type 0
IsInit [] ty x = IsWhole x ⊎ ((value : ℕ) × (x ≡ inits.Int value) × IsLiteral ty value)
IsInit (n ∷ ns) ty x = IsWhole x ⊎ ((list : List Init) × (x ≡ inits.List list) × Each (IsInit ns ty) list)

pub record IsVariable (g : Global1) : Type 0 where
  pub name : IsGlobal g.name
  pub init : (ns : List ℕ) × (ty : Ty) × (g.mem ≡ memory_of ns ty) × AreDimensions ns × ((g.init ≡ inits.External) ⊎ IsInit ns ty g.init)

-- # Modules

-- a module that some text spells, part by part; it has no more notes than nodes have numbers
pub record IsSpellable (m : Module) : Type 0 where
  pub variables : Each IsVariable m.globals
  pub functions : Each (IsFunction IsNote) m.functions
  pub notes : length (nodes_of m) ≤ 2 ^ 64
