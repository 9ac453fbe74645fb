-- What reads name are blocks, and the rows of a function are those of a graph.
use Rattle.std.proofs.Common.{◌≡◌, ℕ, zero, suc, ◌+◌, ◌<◌, ◌≤◌, ◌⊎◌, inl, inr, Bool, true, false, cond, not, ◌==◌, ◌&&◌, nat_lt, List, [], ◌∷◌, ◌++◌, length, map, get_or, position, All, Option, Some, None, slice_get, refl, sym, ap, subst, ◌∙◌, arith, zero-add}
use Rattle.std.specs.List.{flat_map, position_or_len}
use Rattle.std.specs.Option.{option_map, unwrap_or}
use Rattle.std.proofs.lemmas.Bool.{both_ways, eq-eqb}
use Rattle.std.proofs.lemmas.List.{get_or_past, length-map}
use Rattle.std.proofs.lemmas.List.Quantifiers.{position-Some}
use Rattle.std.proofs.lemmas.Option.{get_or_from_slice_get, none-some, same_Some, slice_get-map, slice_get_cases, slice_get_within}
use Rattle.definite_assignment.specs.declared.givers.Use.{Use as GivenUse}
use Rattle.ir_assigned.specs.Exposed.{use_of}
use Rattle.ir_assigned.specs.Reads.{LocalOf, all_reads, block_reads, entries_reads, entry_read, entry_value, instr_reads, instrs_reads, kind_read, kind_value, local_read, operand_read, read, reads_if_any, uses_reads, value_read}
use Rattle.ir_assigned.specs.declared.reads.Read.{Read}
use Rattle.ir_rules.specs.Scopes.{term_reads}
use Rattle.ir_tree.specs.Blocks.{block_place, labels}
use Rattle.ir_tree.specs.Edges.{row_of, rows}
use Rattle.ir_tree.specs.Functions.{is_declared}
use Rattle.ir_tree.specs.Names.{same}
use Rattle.ir_tree.specs.Operands.{Entries, Use, operands}
use Rattle.ir_tree.specs.Phis.{entries_of}
use Rattle.ir_tree.specs.Reach.{AreRows, row}
use Rattle.ir_tree.specs.Successors.{successors}
use Rattle.ir_tree.specs.declared.locals.Local.{Local}
use Rattle.ir_tree.specs.declared.locals.LocalKind.{LocalKind}
use Rattle.ir_tree.specs.declared.locals.LocalKind.TheVariants.{Param, Result, Label}
use Rattle.ir_tree.specs.declared.types.Block.{Block}
use Rattle.ir_tree.specs.declared.types.Function.{Function}
use Rattle.ir_tree.specs.declared.types.Instr.{Instr}
use Rattle.ir_tree.specs.declared.types.Operand.{Operand}
use Rattle.ir_tree.specs.declared.types.Operand.TheVariants as operand
use Rattle.spec_lists.specs.Each.{each, only_if}

abbrev pub Name : Type 0
Name = List ℕ

abbrev pub AllIn : ℕ → List Read → Type 0
AllIn n [] = Unit {0}
AllIn n (q ∷ qs) = (q.giver < n) × (q.at < n) × AllIn n qs

in_append : (n : ℕ) (xs ys : List Read) → AllIn n xs → AllIn n ys → AllIn n (xs ++ ys)
in_append n [] ys h k = k
in_append n (x ∷ xs) ys h k = (h.0, h.1, in_append n xs ys h.2 k)

one_in : (n : ℕ) (t : Bool) (d e b i : ℕ) → d < n → e < n → AllIn n (only_if t (read d e b i))
one_in n true d e b i h k = (h, k, tt)
one_in n false d e b i h k = tt

module _ (n : ℕ) (known : LocalOf) (within : (r : Name) (l : Local) → known r ≡ Some l → l.block < n) where
  local_in : (b i : ℕ) → b < n → (o : Option Local) → ((l : Local) → o ≡ Some l → l.block < n) → AllIn n (local_read b i o)
  local_in b i h None k = tt
  local_in b i h (Some l) k = by l.kind
    where
      by : (t : LocalKind) → AllIn n (kind_read t b i l)
      by (Param t) = tt
      by (Result r) = one_in n (not (l.block == b && nat_lt l.item i)) l.block b b i (k l refl) h
      by Label = tt

  value_in : (b i : ℕ) (from o : Option Local) → ((l : Local) → from ≡ Some l → l.block < n) → ((l : Local) → o ≡ Some l → l.block < n) → AllIn n (value_read b i from o)
  value_in b i None o h k = tt
  value_in b i (Some from) None h k = tt
  value_in b i (Some from) (Some l) h k = by l.kind
    where
      by : (t : LocalKind) → AllIn n (kind_value t b i from l)
      by (Param t) = tt
      by (Result r) = one_in n (not (l.block == from.block)) l.block from.block b i (k l refl) (h from refl)
      by Label = tt

  operand_in : (b i : ℕ) → b < n → (o : Operand) → AllIn n (operand_read known b i o)
  operand_in b i h (operand.Int v) = tt
  operand_in b i h operand.Null = tt
  operand_in b i h (operand.Local r) = local_in b i h (known r) (within r)
  operand_in b i h (operand.Global g) = tt

  uses_in : (b i : ℕ) → b < n → (us : List Use) → AllIn n (uses_reads known b i us)
  uses_in b i h [] = tt
  uses_in b i h (u ∷ us) = in_append n (operand_read known b i u.1) (uses_reads known b i us) (operand_in b i h u.1) (uses_in b i h us)

  entry_in : (b i : ℕ) (label : Name) (v : Operand) → AllIn n (entry_value known b i label v)
  entry_in b i label (operand.Int v) = tt
  entry_in b i label operand.Null = tt
  entry_in b i label (operand.Local r) = value_in b i (known label) (known r) (within label) (within r)
  entry_in b i label (operand.Global g) = tt

  entries_in : (b i : ℕ) (es : Entries) → AllIn n (entries_reads known b i es)
  entries_in b i [] = tt
  entries_in b i (e ∷ es) = in_append n (entry_read known b i e) (entries_reads known b i es) (entry_in b i e.1 e.0) (entries_in b i es)

  instr_in : (b i : ℕ) → b < n → (x : Instr) → AllIn n (instr_reads known b i x)
  instr_in b i h x = by (entries_of x)
    where
      by : (o : Option Entries) → AllIn n (reads_if_any known b i x o)
      by None = uses_in b i h (operands x)
      by (Some es) = entries_in b i es

  each_in : {X : Type 0} (make : ℕ → X → List Read) (k : ℕ) (xs : List X) → ((i : ℕ) (x : X) → i < k + length xs → AllIn n (make i x)) → AllIn n (each make k xs)
  each_in make k [] h = tt
  each_in make k (x ∷ xs) h = in_append n (make k x) (each make (k + 1) xs) (h k x (omega arith)) (each_in make (k + 1) xs (λ i y l. h i y (omega (arith, l))))

  block_in : (b : ℕ) → b < n → (block : Block) → AllIn n (block_reads known b block)
  block_in b h block = in_append n (instrs_reads known b block.instrs) (uses_reads known b (length block.instrs) (term_reads block.term)) (each_in (instr_reads known b) 0 block.instrs (λ i x l. instr_in b i h x)) (uses_in b (length block.instrs) h (term_reads block.term))

  pub all_in : (blocks : List Block) → length blocks ≡ n → AllIn n (all_reads known blocks)
  all_in blocks e = each_in (block_reads known) 0 blocks (λ b block l. block_in b (omega (arith, l, e)) block)

givers_in : (n : ℕ) (qs : List Read) → AllIn n qs → All (λ (u : GivenUse). u.giver < n) (map use_of qs)
givers_in n [] h k d l = absurd (omega (arith, l))
givers_in n (q ∷ qs) h zero d l = h.0
givers_in n (q ∷ qs) h (suc k) d l = givers_in n qs h.2 k d (omega (arith, l))

places_in : (n : ℕ) (qs : List Read) → AllIn n qs → All (λ (u : GivenUse). u.at < n) (map use_of qs)
places_in n [] h k d l = absurd (omega (arith, l))
places_in n (q ∷ qs) h zero d l = h.1
places_in n (q ∷ qs) h (suc k) d l = places_in n qs h.2 k d (omega (arith, l))

module _ (blocks : List Block) (known : LocalOf) (within : (r : Name) (l : Local) → known r ≡ Some l → l.block < length blocks) (us : List GivenUse) (rs : List (List ℕ)) (qs : List Read) (are : us ≡ map use_of qs) (is : qs ≡ all_reads known blocks) (of : rs ≡ rows blocks) where
  inside : AllIn (length rs) qs
  inside =
      let size : length rs ≡ length blocks = ap (λ (xs : List (List ℕ)). length xs) of ∙ length-map blocks (row_of blocks) in
      subst (λ (n : ℕ). AllIn n qs) (sym size) (subst (λ (xs : List Read). AllIn (length blocks) xs) (sym is) (all_in (length blocks) known within blocks refl))

  pub uses_givers : All (λ (u : GivenUse). u.giver < length rs) us
  uses_givers = subst (λ (xs : List GivenUse). All (λ (u : GivenUse). u.giver < length rs) xs) (sym are) (givers_in (length rs) qs inside)

  pub uses_places : All (λ (u : GivenUse). u.at < length rs) us
  uses_places = subst (λ (xs : List GivenUse). All (λ (u : GivenUse). u.at < length rs) xs) (sym are) (places_in (length rs) qs inside)

-- ---- the rows of a function

from_map : {X Y : Type 0} (g : X → Y) (xs : List X) (p : ℕ) (y : Y) → slice_get (map g xs) p ≡ Some y → (x : X) × (g x ≡ y)
from_map g [] p y at = absurd (none-some y at)
from_map g (x ∷ xs) zero y at = (x, same_Some (g x) y at)
from_map g (x ∷ xs) (suc p) y at = from_map g xs p y at

place_within : (blocks : List Block) (to : Name) → 0 < length blocks → unwrap_or (block_place blocks to) 0 < length blocks
place_within blocks to some = by (block_place blocks to) refl
  where
    by : (o : Option ℕ) → block_place blocks to ≡ o → unwrap_or o 0 < length blocks
    by None e = some
    by (Some d) e = let inside : d < length (labels blocks) = (position-Some (same to) (labels blocks) d [] e).0 in omega (arith, inside, length-map blocks (λ (b : Block). b.label))

pub are_rows : (blocks : List Block) → 0 < length blocks → AreRows (rows blocks)
are_rows blocks some = record {
  entry = omega (arith, some, length-map blocks (row_of blocks));
  targets = λ b p t at. within b p t at (slice_get_cases blocks b).1;
}
  where
    within : (b p t : ℕ) → slice_get (row (rows blocks) b) p ≡ Some t → ((x : Block) × (b < length blocks) × (slice_get blocks b ≡ Some x) × (get_or blocks b x ≡ x)) ⊎ ((length blocks ≤ b) × (slice_get blocks b ≡ None)) → t < length (rows blocks)
    within b p t at (inl found) =
        let there : slice_get (rows blocks) b ≡ Some (row_of blocks found.0) = slice_get-map (row_of blocks) blocks b ∙ ap (λ (o : Option Block). option_map (row_of blocks) o) found.2 in
        let here : row (rows blocks) b ≡ row_of blocks found.0 = get_or_from_slice_get (rows blocks) b (row_of blocks found.0) [] there in
        let next = from_map (λ (to : Name). unwrap_or (block_place blocks to) 0) (successors found.0.term) p t (ap (λ (ts : List ℕ). slice_get ts p) (sym here) ∙ at) in
        omega (arith, place_within blocks next.0 some, next.1, length-map blocks (row_of blocks))
    within b p t at (inr past) =
        let size : length (rows blocks) ≡ length blocks = length-map blocks (row_of blocks) in
        let outside : length (rows blocks) ≤ b = omega (arith, size, past.0) in
        absurd (none-some t (ap (λ (ts : List ℕ). slice_get ts p) (sym (get_or_past (rows blocks) b [] outside)) ∙ at))

-- a defined function has blocks
pub some_blocks : (f : Function) → is_declared f ≡ false → 0 < length f.blocks
some_blocks f defined = by (length f.blocks) refl
  where
    by : (n : ℕ) → length f.blocks ≡ n → 0 < length f.blocks
    by zero e = absurd (both_ways (is_declared f) defined (eq-eqb (length f.blocks) 0 e))
    by (suc n) e = omega (arith, e)
