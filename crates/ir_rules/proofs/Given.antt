-- What acceptance gives: graphs, numbers of functions, entries for edges.
use Rattle.std.proofs.Common.{◌≡◌, ℕ, ◌+◌, ◌<◌, ◌≤◌, inl, inr, Bool, true, false, cond, not, ◌||◌, List, [], ◌∷◌, take, length, sum_by, Option, Some, is_some, slice_get, refl, sym, ap, subst, ◌∙◌, arith}
use Rattle.std.specs.Prelude.{codes}
use Rattle.std.specs.Cmp.Lexicographic.{same_text}
use Rattle.std.specs.List.{filter}
use Rattle.std.proofs.lemmas.Bool.{ne_eqb, not_from_false, or_from, or_parts}
use Rattle.std.proofs.lemmas.List.{take-take}
use Rattle.std.proofs.lemmas.List.Sums.{sum_by-cons}
use Rattle.ir_rules.proofs.Counts.{Name, one, one_self, times_cons}
use Rattle.ir_rules.proofs.Formed.{in_labels}
use Rattle.ir_rules.proofs.Labelled.{has_position}
use Rattle.ir_rules.proofs.Members.{all_of, at_among, is_same}
use Rattle.ir_rules.proofs.Small.{edges_of_one, selects_of_one, sites_of_one}
use Rattle.ir_rules.specs.Accepted.{IsAccepted, IsBlockEdge}
use Rattle.ir_rules.specs.Kinds.{kind_of}
use Rattle.ir_rules.specs.Limits.{total_of}
use Rattle.ir_rules.specs.Lists.{Among, times}
use Rattle.ir_rules.specs.PhiEntries.{positions, tails}
use Rattle.ir_rules.specs.Reserved.{is_of_intrinsics, is_of_runtime, is_of_units, is_reserved_function}
use Rattle.ir_rules.specs.WellFormed.{FunctionFormed, Matched}
use Rattle.ir_rules.specs.declared.place.Kind.{Kind}
use Rattle.ir_rules.specs.declared.place.Kind.TheVariants.{Plain}
use Rattle.ir_tree.specs.Blocks.{block_place, labels}
use Rattle.ir_tree.specs.Edges.{edges_in}
use Rattle.ir_tree.specs.Functions.{begins_with, is_profile_name, numbered}
use Rattle.ir_tree.specs.Graphs.{HasGraph, count_in, has_targets, is_select, is_site}
use Rattle.ir_tree.specs.Names.{same}
use Rattle.ir_tree.specs.Operands.{Entries}
use Rattle.ir_tree.specs.Phis.{entries_of, entry_for}
use Rattle.ir_tree.specs.Successors.{successors, ways_out}
use Rattle.ir_tree.specs.declared.types.Block.{Block}
use Rattle.ir_tree.specs.declared.types.Function.{Function}
use Rattle.ir_tree.specs.declared.types.Instr.{Instr}
use Rattle.ir_tree.specs.declared.types.Module.{Module}

-- ---- graphs

edges_of_blocks : (f : Function) → 0 < length f.blocks → edges_in f ≡ 1 + sum_by ways_out f.blocks
edges_of_blocks f some = ap (λ (b : Bool). cond {A = ℕ} b 0 (1 + sum_by ways_out f.blocks)) (ne_eqb (length f.blocks) 0 (λ e. absurd (omega (arith, some, e))))

module _ (m : Module) (k : ℕ) (f : Function) (accepted : IsAccepted m) (at : slice_get m.functions k ≡ Some f) (some : 0 < length f.blocks) where
  formed : FunctionFormed m f
  formed = accepted.formed.function f (at_among m.functions k f at)

  named : (b : Block) → Among b f.blocks → has_targets f.blocks b ≡ true
  named b among = all_of (λ to. is_some (block_place f.blocks to)) (successors b.term) (λ to there. let found = has_position to (labels f.blocks) (in_labels f.blocks to ((formed.block b among).exit.targets to there)) in ap (λ (o : Option ℕ). is_some o) found.1)

  few_sites : count_in is_site f.blocks < 4294967296
  unfolding total_of
  few_sites = let most : total_of is_site f ≤ 65536 = sites_of_one m accepted.within k f at in omega (arith, most)

  few_selects : count_in is_select f.blocks < 4294967296
  unfolding total_of
  few_selects = let most : total_of is_select f ≤ 4096 = selects_of_one m accepted.within k f at in omega (arith, most)

  pub has_graph : HasGraph f
  has_graph = record {
    entry = some;
    targets = all_of (has_targets f.blocks) f.blocks named;
    few = omega (arith, edges_of_blocks f some, edges_of_one m accepted.within k f at);
    few_sites = few_sites;
    few_selects = few_selects;
  }

-- ---- numbers of functions

shorter : (name : List ℕ) → begins_with (codes "__llvm_profile") name ≡ false → begins_with (codes "__llvm_profile_") name ≡ false
shorter name h = by (begins_with (codes "__llvm_profile_") name) refl
  where
    by : (b : Bool) → begins_with (codes "__llvm_profile_") name ≡ b → b ≡ false
    by false e = refl
    by true e =
        let front : codes "__llvm_profile_" ≡ take 15 name = same_text (codes "__llvm_profile_") (take 15 name) (sym e) in
        let less : codes "__llvm_profile" ≡ take 14 name = ap (take 14) front ∙ take-take 14 15 name (omega arith) in
        let same_front : begins_with (codes "__llvm_profile") (codes "__llvm_profile") ≡ false = subst (λ (n : List ℕ). same (codes "__llvm_profile") n ≡ false) (sym less) h in
        cc (same_front)

has_number : (name : List ℕ) → is_reserved_function Plain name ≡ false → not (is_profile_name name) ≡ true
unfolding is_of_units is_of_runtime is_of_intrinsics is_profile_name
has_number name h =
    let rest = (or_parts (begins_with (codes "__prof") name) (begins_with (codes "__llvm_profile") name || begins_with (codes "llvm.instrprof.") name) h).1 in
    let parts = or_parts (begins_with (codes "__llvm_profile") name) (begins_with (codes "llvm.instrprof.") name) rest in
    not_from_false (begins_with (codes "llvm.instrprof.") name || begins_with (codes "__llvm_profile_") name) (or_from (begins_with (codes "llvm.instrprof.") name) (begins_with (codes "__llvm_profile_") name) parts.1 (shorter name parts.0))

all_stay : {X : Type 0} (test : X → Bool) (xs : List X) → ((x : X) → Among x xs → test x ≡ true) → filter test xs ≡ xs
all_stay test [] h = refl
all_stay test (x ∷ xs) h = (λ i. cond (h x (inl refl) i) (x ∷ filter test xs) (filter test xs)) ∙ ap (λ ys. x ∷ ys) (all_stay test xs (λ y at. h y (inr at)))

pub all_numbered : (m : Module) → IsAccepted m → kind_of m.functions ≡ Plain → numbered m.functions ≡ m.functions
all_numbered m accepted plain = all_stay (λ f. not (is_profile_name f.name)) m.functions (λ f at. has_number f.name (ap (λ (kind : Kind). is_reserved_function kind f.name) (sym plain) ∙ (accepted.formed.function f at).free))

-- ---- entries

stands : (n : Name) (xs : List Name) → Among n xs → 1 ≤ times n xs
stands n [] at = absurd at
stands n (x ∷ xs) (inl e) = let here : one n x ≡ 1 = ap (λ (q : Name). one n q) (sym e) ∙ one_self n in omega (arith, here, times_cons n x xs)
stands n (x ∷ xs) (inr at) = omega (arith, stands n xs at, times_cons n x xs)

has_entry : (n : Name) (es : Entries) → 1 ≤ times n (tails es) → is_some (entry_for n es) ≡ true
has_entry n [] h = absurd (omega (arith, h))
has_entry n (e ∷ es) h = by (same n e.1) refl (λ k. has_entry n es k)
  where
    by : (b : Bool) → same n e.1 ≡ b → (1 ≤ times n (tails es) → is_some (entry_for n es) ≡ true) → is_some (cond b (Some e) (entry_for n es)) ≡ true
    by true k rest = refl
    by false k rest = let none : one n e.1 ≡ 0 = ap (λ (b : Bool). cond {A = ℕ} b 1 0) k in rest (omega (arith, h, none, times_cons n e.1 (tails es)))

has_position_to : (n l : Name) (blocks : List Block) (b : Block) → Among b blocks → b.label ≡ n → Among l (successors b.term) → 1 ≤ positions n l blocks
has_position_to n l [] b at is to = absurd at
has_position_to n l (x ∷ xs) b (inl e) is to =
    let labelled : same n x.label ≡ true = is_same n x.label (sym is ∙ ap (λ (y : Block). y.label) e) in
    let often : 1 ≤ times l (successors x.term) = subst (λ (y : Block). 1 ≤ times l (successors y.term)) e (stands l (successors b.term) to) in
    let here : cond {A = ℕ} (same n x.label) (times l (successors x.term)) 0 ≡ times l (successors x.term) = ap (λ (t : Bool). cond {A = ℕ} t (times l (successors x.term)) 0) labelled in
    omega (arith, often, here, sum_by-cons (λ (d : Block). cond {A = ℕ} (same n d.label) (times l (successors d.term)) 0) x xs)
has_position_to n l (x ∷ xs) b (inr at) is to = omega (arith, has_position_to n l xs b at is to, sum_by-cons (λ (d : Block). cond {A = ℕ} (same n d.label) (times l (successors d.term)) 0) x xs)

pub edge_has_entry : (m : Module) → IsAccepted m → (f : Function) (block target : Block) → Among f m.functions → IsBlockEdge f block target → (x : Instr) (entries : Entries) → Among x target.instrs → entries_of x ≡ Some entries → is_some (entry_for block.label entries) ≡ true
edge_has_entry m accepted f block target at edge x entries among is =
    let matched : Matched f.blocks target.label entries = ((accepted.formed.function f at).block target edge.head).matched x entries among is in
    let many : 1 ≤ positions block.label target.label f.blocks = has_position_to block.label target.label f.blocks block edge.tail refl edge.names in
    has_entry block.label entries (omega (arith, many, matched.count block.label))
