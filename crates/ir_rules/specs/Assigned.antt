-- Rule 16. On every walk from the entry to a use in a reachable block the register is assigned before. A phi uses its values at the
-- ends of the blocks that its entries name.
--
-- A register is assigned before a block on every walk exactly where no walk leads from the entry to the block without leaving a
-- block that assigns it: where the block can't be reached once the ways out of those blocks are taken away.
use Rattle.std.specs.Prelude.{ℕ, suc, Bool, true, ◌&&◌, ◌||◌, not, cond, List, [], ◌∷◌, map, take, Option, None, Some}
use Rattle.std.specs.List.{list_all}
use Rattle.ir_rules.specs.Lists.{is_among}
use Rattle.ir_rules.specs.Parts.{Rule, places, silent}
use Rattle.ir_rules.specs.Scopes.{param_names, term_reads}
use Rattle.ir_rules.specs.declared.place.Place.{Place}
use Rattle.ir_tree.specs.Edges.{row_of}
use Rattle.ir_tree.specs.Names.{same}
use Rattle.ir_tree.specs.Operands.{Entries, Use, result_names}
use Rattle.ir_tree.specs.Phis.{entries_of, reads}
use Rattle.ir_tree.specs.Reach.{is_marked, reached}
use Rattle.ir_tree.specs.declared.types.Block.{Block}
use Rattle.ir_tree.specs.declared.types.Function.{Function}
use Rattle.ir_tree.specs.declared.types.Instr.{Instr}
use Rattle.ir_tree.specs.declared.types.Module.{Module}
use Rattle.ir_tree.specs.declared.types.Operand.{Operand}
use Rattle.ir_tree.specs.declared.types.Operand.TheVariants.{Int, Null, Local, Global}

-- the block assigns the register
abbrev pub assigns : List ℕ → Block → Bool
assigns r block = is_among r (result_names block.instrs)

-- the successors of each block, none of those that assign the register
abbrev pub rows_around : List Block → List ℕ → List (List ℕ)
rows_around blocks r = map (λ block. cond (assigns r block) [] (row_of blocks block)) blocks

-- the register is assigned on every walk from the entry to the head of block b
unfoldable pub is_before : List Block → List ℕ → ℕ → Bool
is_before blocks r b = not (is_marked (reached (rows_around blocks r)) b)

-- ---- uses in a block

-- the register is a parameter, is among these results of the block, or is assigned before block b
abbrev pub is_held : Function → ℕ → List (List ℕ) → List ℕ → Bool
is_held f b results r = is_among r (param_names f) || (is_among r results || is_before f.blocks r b)

abbrev pub is_held_operand : Function → ℕ → List (List ℕ) → Operand → Bool
is_held_operand f b results (Int value) = true
is_held_operand f b results Null = true
is_held_operand f b results (Local r) = is_held f b results r
is_held_operand f b results (Global name) = true

abbrev pub are_held : Function → ℕ → List (List ℕ) → List Use → Bool
are_held f b results uses = list_all (λ u. is_held_operand f b results u.1) uses

-- ---- uses on the edges into a block

-- the operand is held at the end of each of these blocks, counted from b, that has the label
abbrev pub is_held_behind : Function → Operand → List ℕ → ℕ → List Block → Bool
is_held_behind f value label b [] = true
is_held_behind f value label b (block ∷ blocks) = (not (same label block.label) || is_held_operand f b (result_names block.instrs) value) && is_held_behind f value label (suc b) blocks

abbrev pub are_held_behind : Function → Option Entries → Bool
are_held_behind f None = true
are_held_behind f (Some es) = list_all (λ e. is_held_behind f e.0 e.1 0 f.blocks) es

-- ---- the rule

abbrev pub is_ready : Function → ℕ → Block → ℕ → Instr → Bool
is_ready f b block i x = are_held f b (result_names (take i block.instrs)) (reads x) && are_held_behind f (entries_of x)

abbrev pub is_ready_term : Function → ℕ → Block → Bool
is_ready_term f b block = are_held f b (result_names block.instrs) (term_reads block.term)

abbrev pub assigned : Rule
assigned = record silent {
  item = λ f b block i x. is_ready f b block i x;
  exit = λ f b block. is_ready_term f b block;
}

abbrev pub breaks_16 : Module → List Place
breaks_16 m = places assigned m
