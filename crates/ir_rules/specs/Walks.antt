-- Walks through the blocks of a function by their labels, and the registers that are assigned before a block on every walk.
use Rattle.std.specs.Prelude.{◌≡◌, ℕ, ◌⊎◌, List, [], ◌∷◌}
use Rattle.ir_rules.specs.Lists.{Among}
use Rattle.ir_rules.specs.Scopes.{param_names, term_reads}
use Rattle.ir_tree.specs.Operands.{Entries, Use, result_names}
use Rattle.ir_tree.specs.Phis.{reads}
use Rattle.ir_tree.specs.Successors.{successors}
use Rattle.ir_tree.specs.declared.types.Block.{Block}
use Rattle.ir_tree.specs.declared.types.Function.{Function}
use Rattle.ir_tree.specs.declared.types.Instr.{Instr}
use Rattle.ir_tree.specs.declared.types.Operand.{Operand}
use Rattle.ir_tree.specs.declared.types.Operand.TheVariants.{Int, Null, Local, Global}
use Rattle.ir_tree.specs.declared.types.Term.{Term}

-- a walk from the block labelled e to the head of the block labelled l: the blocks that it leaves, in order
abbrev pub Walks : List Block → List ℕ → List Block → List ℕ → Type 0
Walks blocks e [] l = e ≡ l
Walks blocks e (b ∷ w) l = (c : List ℕ) × Among b blocks × (b.label ≡ e) × Among c (successors b.term) × Walks blocks c w l

-- one of the blocks that a walk leaves assigns the register
abbrev pub Passes : List ℕ → List Block → Type 0
Passes r [] = ⊥
Passes r (b ∷ w) = Among r (result_names b.instrs) ⊎ Passes r w

-- the label of the first block
abbrev pub entry_label : List Block → List ℕ
entry_label [] = []
entry_label (b ∷ bs) = b.label

-- on every walk from the entry to the head of the block labelled l the register is assigned
abbrev pub IsBefore : List Block → List ℕ → List ℕ → Type 0
IsBefore blocks l r = (w : List Block) → Walks blocks (entry_label blocks) w l → Passes r w

-- held at the head of a block, and at its end
abbrev pub AtHead : Function → List ℕ → List ℕ → Type 0
AtHead f l r = Among r (param_names f) ⊎ IsBefore f.blocks l r

abbrev pub AtEnd : Function → List ℕ → List ℕ → Type 0
AtEnd f l r = AtHead f l r ⊎ ((b : Block) × Among b f.blocks × (b.label ≡ l) × Among r (result_names b.instrs))

-- ---- what is read is held

abbrev pub HeldAt : (List ℕ → Type 0) → Operand → Type 0
HeldAt H (Int value) = Unit {0}
HeldAt H Null = Unit {0}
HeldAt H (Local r) = H r
HeldAt H (Global name) = Unit {0}

abbrev pub AllHeld : (List ℕ → Type 0) → List Use → Type 0
AllHeld H [] = Unit {0}
AllHeld H (u ∷ us) = HeldAt H u.1 × AllHeld H us

-- what is left of a block reads only what is held here or given before in it
abbrev pub Ready : (List ℕ → Type 0) → List Instr → Term → Type 0
Ready H [] t = AllHeld H (term_reads t)
Ready H (x ∷ xs) t = AllHeld H (reads x) × Ready (λ r. H r ⊎ Among r (result_names (x ∷ []))) xs t

-- the values of a phi are held at the ends of the blocks that its entries name
abbrev pub Joined : Function → Entries → Type 0
Joined f es = (v : Operand) (n : List ℕ) → Among (v, n) es → HeldAt (AtEnd f n) v
