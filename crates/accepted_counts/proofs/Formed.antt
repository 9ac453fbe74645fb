-- Functions of a well-formed module are formed.
use Rattle.std.proofs.Common.{◌≡◌, ℕ, zero, suc, ◌+◌, ◌≤◌, ◌⊎◌, inl, inr, Bool, true, false, List, [], ◌∷◌, ◌++◌, drop, flat_map, length, count_by, Option, Some, None, is_some, slice_get, refl, sym, ap, subst, arith}
use Rattle.std.proofs.lemmas.Bool.{eqb-true}
use Rattle.std.proofs.lemmas.Option.{none-some, same_Some}
use Rattle.count_likeness.specs.Fits.{EntriesFit}
use Rattle.count_likeness.specs.Formed.{IsFormed}
use Rattle.ir_rules.specs.Finding.{FindsNames, LookUpsTell, ret_found}
use Rattle.ir_rules.specs.Lists.{Among}
use Rattle.ir_rules.specs.Scopes.{block_names, names, param_names}
use Rattle.ir_rules.specs.WellFormed.{BlockFormed, FunctionFormed, Matched}
use Rattle.ir_tree.specs.Blocks.{labels}
use Rattle.ir_tree.specs.Functions.{is_declared}
use Rattle.ir_tree.specs.Locals.{first_local}
use Rattle.ir_tree.specs.Names.{same}
use Rattle.ir_tree.specs.Operands.{Entries, Use, listed, operands, result_names, term_operand}
use Rattle.ir_tree.specs.Phis.{entries_of}
use Rattle.ir_tree.specs.Successors.{successors}
use Rattle.ir_tree.specs.declared.locals.Local.{Local}
use Rattle.ir_tree.specs.declared.types.Block.{Block}
use Rattle.ir_tree.specs.declared.types.Function.{Function}
use Rattle.ir_tree.specs.declared.types.Instr.{Instr}
use Rattle.ir_tree.specs.declared.types.Module.{Module}
use Rattle.ir_tree.specs.declared.types.Operand.{Operand}
use Rattle.ir_tree.specs.declared.types.Operand.TheVariants as operand
use Rattle.ir_tree.specs.declared.types.Ret.{Ret}
use Rattle.ir_tree.specs.declared.types.Ret.TheVariants.{Value}
use Rattle.ir_tree.specs.declared.types.Ty.{Ty}
use Rattle.spec_items.proofs.Items.{count-append, count_cons}

pub at_among : {X : Type 0} (xs : List X) (i : ℕ) (x : X) → slice_get xs i ≡ Some x → Among x xs
at_among [] i x at = absurd (none-some x at)
at_among (y ∷ ys) zero x at = inl (sym (same_Some y x at))
at_among (y ∷ ys) (suc i) x at = inr (at_among ys i x at)

listed_among : {X : Type 0} (o : Option X) (x : X) → o ≡ Some x → Among x (listed o)
listed_among None x e = absurd (none-some x e)
listed_among (Some y) x e = inl (sym (same_Some y x e))

-- ---- labels

label_at : (to : List ℕ) (bs : List Block) → Among to (labels bs) → (h : ℕ) × (c : Block) × (slice_get bs h ≡ Some c) × (c.label ≡ to)
label_at to [] a = absurd a
label_at to (b ∷ bs) (inl e) = (0, b, refl, sym e)
label_at to (b ∷ bs) (inr a) = let r = label_at to bs a in (suc r.0, r.1, r.2, r.3)

behind_first : (bs : List Block) (to : List ℕ) → Among to (labels (drop 1 bs)) → (h : ℕ) × (c : Block) × (slice_get bs (suc h) ≡ Some c) × (c.label ≡ to)
behind_first [] to a = absurd a
behind_first (b ∷ bs) to a = label_at to bs a

labels_few : (l : List ℕ) (bs : List Block) → count_by (same l) (labels bs) ≤ count_by (same l) (flat_map block_names bs)
labels_few l [] = omega arith
labels_few l (b ∷ bs) =
    let c = count_cons (same l) b.label (labels bs) in
    let d = count-append (same l) (block_names b) (flat_map block_names bs) in
    let e = count_cons (same l) b.label (result_names b.instrs) in
    let later = labels_few l bs in
    omega (arith, c, d, e, later)

-- ---- a function without blocks

no_items : {X : Type 0} (xs : List X) → length xs ≡ 0 → xs ≡ []
no_items [] e = refl
no_items (x ∷ xs) e = absurd (omega arith)

pub no_blocks : (f : Function) → is_declared f ≡ true → f.blocks ≡ []
no_blocks f e = no_items f.blocks (eqb-true (length f.blocks) 0 e)

module _ (f : Function) (none : f.blocks ≡ []) where
  no_block : (j : ℕ) (b : Block) → slice_get f.blocks j ≡ Some b → ⊥
  no_block j b at = none-some b (subst (λ (bs : List Block). slice_get bs j ≡ Some b) none at)

  declared_formed : IsFormed f
  declared_formed = record {
    distinct = λ l. subst (λ (bs : List Block). count_by (same l) (labels bs) ≤ 1) (sym none) (omega arith);
    targets = λ j p b to at. absurd (no_block j b at);
    entries = λ j i b x es at. absurd (no_block j b at);
    known = λ j i n b x t r at. absurd (no_block j b at);
    known_at_exit = λ j b t r at. absurd (no_block j b at);
  }

-- ---- a function with blocks

is_found : (o : Option Local) (r : Ret) → ret_found o ≡ Some r → is_some o ≡ true
is_found None r e = absurd (none-some r e)
is_found (Some l) r e = refl

module _ (m : Module) (f : Function) (formed : FunctionFormed m f) where
  block_formed : (j : ℕ) (b : Block) → slice_get f.blocks j ≡ Some b → BlockFormed m f b
  block_formed j b at = formed.block b (at_among f.blocks j b at)

  entries_fit : (j i : ℕ) (b : Block) (x : Instr) (es : Entries) → slice_get f.blocks j ≡ Some b → slice_get b.instrs i ≡ Some x → entries_of x ≡ Some es → EntriesFit f.blocks b.label es
  entries_fit j i b x es at here is =
      let q : Matched f.blocks b.label es = (block_formed j b at).matched x es (at_among b.instrs i x here) is in
      record { count = q.count; value = λ n i' j' v w p r. q.value n v w (at_among es i' (v, n) p) (at_among es j' (w, n) r) }

  module _ (some : is_declared f ≡ false) (tells : LookUpsTell) where
    finds : FindsNames f
    finds = tells f (record { defined = some; once = formed.distinct some })

    defined_formed : IsFormed f
    defined_formed = record {
      distinct = λ l.
          let a = count-append (same l) (param_names f) (flat_map block_names f.blocks) in
          let once = formed.distinct some l in
          let few = labels_few l f.blocks in
          omega (arith, a, once, few);
      targets = λ j p b to at leads. behind_first f.blocks to ((block_formed j b at).exit.targets to (at_among (successors b.term) p to leads));
      entries = entries_fit;
      known = λ j i n b x t r at here reads.
          is_found (first_local f r) (Value t) ((finds.value r (Value t)).0 (((block_formed j b at).item x (at_among b.instrs i x here)).fit (t, operand.Local r) (at_among (operands x) n (t, operand.Local r) reads)));
      known_at_exit = λ j b t r at reads.
          is_found (first_local f r) (Value t) ((finds.value r (Value t)).0 ((block_formed j b at).exit.fit (t, operand.Local r) (listed_among (term_operand b.term) (t, operand.Local r) reads)));
    }

pub function_formed : (m : Module) (f : Function) → FunctionFormed m f → LookUpsTell → IsFormed f
function_formed m f formed tells = by (is_declared f) refl
  where
    by : (d : Bool) → is_declared f ≡ d → IsFormed f
    by true e = declared_formed f (no_blocks f e)
    by false e = defined_formed m f formed e tells
