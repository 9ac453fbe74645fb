-- The places of rules that say nothing of blocks.
use Rattle.std.proofs.Common.{◌≡◌, ℕ, Bool, true, List, [], ◌++◌, refl, ap, ◌∙◌}
use Rattle.std.proofs.lemmas.List.{append-nil}
use Rattle.check_names.proofs.Firsts.{each_empty, each_same}
use Rattle.check_names.specs.Outer.{global_places, head_places}
use Rattle.ir_rules.specs.Declarations.{declarations}
use Rattle.ir_rules.specs.Distinct.{distinct}
use Rattle.ir_rules.specs.Initialisers.{initialisers}
use Rattle.ir_rules.specs.Naming.{naming}
use Rattle.ir_rules.specs.OneKind.{is_of_one_kind, one_kind}
use Rattle.ir_rules.specs.Parts.{Rule, block_places, function_places, place, places, silent, unless}
use Rattle.ir_rules.specs.Reserved.{reserved}
use Rattle.ir_rules.specs.declared.place.Place.{Place}
use Rattle.ir_tree.specs.declared.types.Block.{Block}
use Rattle.ir_tree.specs.declared.types.Function.{Function}
use Rattle.ir_tree.specs.declared.types.Global1.{Global1}
use Rattle.ir_tree.specs.declared.types.Instr.{Instr}
use Rattle.ir_tree.specs.declared.types.Module.{Module}
use Rattle.spec_lists.specs.Each.{each}

no_items : (k b n : ℕ) (xs : List Instr) → each (λ (i : ℕ) (x : Instr). unless true (place k b i)) n xs ≡ []
no_items k b n xs = each_empty (λ (i : ℕ) (x : Instr). unless true (place k b i)) n xs (λ i x. refl)

no_blocks : (k n : ℕ) (f : Function) (bs : List Block) → each (block_places silent k f) n bs ≡ []
no_blocks k n f bs = each_empty (block_places silent k f) n bs (λ b block. append-nil (each (λ (i : ℕ) (x : Instr). unless true (place k b i)) 0 block.instrs) ∙ no_items k b 0 block.instrs)

no_globals : (n : ℕ) (gs : List Global1) → each (λ (k : ℕ) (g : Global1). unless true (place 0 0 k)) n gs ≡ []
no_globals n gs = each_empty (λ (k : ℕ) (g : Global1). unless true (place 0 0 k)) n gs (λ k g. refl)

no_heads : (n : ℕ) (fs : List Function) → each (λ (k : ℕ) (f : Function). unless true (place k 0 0)) n fs ≡ []
no_heads n fs = each_empty (λ (k : ℕ) (f : Function). unless true (place k 0 0)) n fs (λ k f. refl)

module _ (whole : Bool) (global : ℕ → Global1 → Bool) (head : ℕ → Function → Bool) where
  abbrev outer : Rule
  outer = record silent { whole = whole; global = global; head = head }

  heads : (n : ℕ) (fs : List Function) → each (function_places outer) n fs ≡ each (λ k f. unless (head k f) (place k 0 0)) n fs
  heads n fs = each_same (function_places outer) (λ (k : ℕ) (f : Function). unless (head k f) (place k 0 0)) n fs (λ k f. ap (λ (ps : List Place). unless (head k f) (place k 0 0) ++ ps) (no_blocks k 0 f f.blocks) ∙ append-nil (unless (head k f) (place k 0 0)))

  outer_places : (m : Module) → places outer m ≡ unless whole (place 0 0 0) ++ (global_places global m.globals ++ head_places head m.functions)
  unfolding places
  outer_places m = ap (λ (ps : List Place). unless whole (place 0 0 0) ++ (global_places global m.globals ++ ps)) (heads 0 m.functions)

pub reserved_places : (m : Module) → places (reserved m) m ≡ global_places (reserved m).global m.globals ++ head_places (reserved m).head m.functions
reserved_places m = outer_places true (reserved m).global (reserved m).head m

pub one_kind_places : (m : Module) → places (one_kind m) m ≡ unless (is_of_one_kind m) (place 0 0 0)
one_kind_places m =
    outer_places (is_of_one_kind m) (λ n g. true) (λ k f. true) m
    ∙ (λ j. unless (is_of_one_kind m) (place 0 0 0) ++ (no_globals 0 m.globals j ++ no_heads 0 m.functions j))
    ∙ append-nil (unless (is_of_one_kind m) (place 0 0 0))

pub declared_places : (m : Module) → places declarations m ≡ head_places declarations.head m.functions
declared_places m = outer_places true (λ n g. true) declarations.head m ∙ ap (λ (ps : List Place). ps ++ head_places declarations.head m.functions) (no_globals 0 m.globals)

pub initialised_places : (m : Module) → places (initialisers m) m ≡ global_places (initialisers m).global m.globals
initialised_places m = outer_places true (initialisers m).global (λ k f. true) m ∙ ap (λ (ps : List Place). global_places (initialisers m).global m.globals ++ ps) (no_heads 0 m.functions) ∙ append-nil (global_places (initialisers m).global m.globals)

pub named_places : (m : Module) → places (naming m) m ≡ global_places (naming m).global m.globals ++ each (function_places (naming m)) 0 m.functions
unfolding places
named_places m = refl

pub distinct_places : (m : Module) → places distinct m ≡ each (function_places distinct) 0 m.functions
unfolding places
distinct_places m = ap (λ (ps : List Place). ps ++ each (function_places distinct) 0 m.functions) (no_globals 0 m.globals)
