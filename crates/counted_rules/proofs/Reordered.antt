-- A function whose blocks behind the first stand in another order is well formed.
use Rattle.std.proofs.Common.{◌≡◌, ℕ, ◌+◌, ◌==◌, ◌⊎◌, inl, inr, Bool, true, false, ◌&&◌, if◌then◌else◌, List, [], ◌∷◌, length, map, drop, count_by, sum_by, refl, sym, ap, subst, ◌∙◌, arith, cond}
use Rattle.std.specs.Prelude.{All, IsPermutation}
use Rattle.std.specs.List.{flat_map, list_all}
use Rattle.std.proofs.lemmas.Bool.{ne_eqb}
use Rattle.std.proofs.lemmas.List.Elements.{All-cons, All-head, All-nil, All-tail}
use Rattle.std.proofs.lemmas.List.Sorted.{All-permutation, IsPermutation-sym, sum_by-IsPermutation}
use Rattle.std.proofs.lemmas.List.Sums.{sum_by-cons}
use Rattle.counted_rules.proofs.Formed.{all_in, instr_in}
use Rattle.counted_rules.proofs.HeldKept.{held_more, ready_more}
use Rattle.counted_rules.proofs.Listed.{Name, among_either, among_flat, among_left, among_map, among_right, flat_among, map_among, times_append}
use Rattle.counted_rules.specs.Grown.{IsAsLarge}
use Rattle.counted_rules.specs.Kept.{IsReordered, TakesOver}
use Rattle.ir_rules.specs.Declarations.{has_profile_types, has_provided_types}
use Rattle.ir_rules.specs.Limits.{function_arrays, instr_arrays, total_of}
use Rattle.ir_rules.specs.Lists.{Among, times}
use Rattle.ir_rules.specs.Naming.{is_param_name}
use Rattle.ir_rules.specs.Scopes.{block_names, block_values, names, param_names, term_reads, values}
use Rattle.ir_rules.specs.Walks.{AtEnd, AtHead, Joined, Walks, entry_label}
use Rattle.ir_rules.specs.Weighing.{has_entries}
use Rattle.ir_rules.specs.WellFormed.{BlockFormed, FunctionFormed, Matched, no_phis_first}
use Rattle.ir_tree.specs.Blocks.{labels}
use Rattle.ir_tree.specs.Edges.{edges_in}
use Rattle.ir_tree.specs.Functions.{is_profile_name}
use Rattle.ir_tree.specs.Names.{same}
use Rattle.ir_tree.specs.Operands.{Entries}
use Rattle.ir_tree.specs.Successors.{successors, ways_out}
use Rattle.ir_tree.specs.declared.types.Block.{Block}
use Rattle.ir_tree.specs.declared.types.Function.{Function}
use Rattle.ir_tree.specs.declared.types.Instr.{Instr}
use Rattle.ir_tree.specs.declared.types.Module.{Module}
use Rattle.ir_tree.specs.declared.types.Ret.{Ret}
use Rattle.ir_tree.specs.declared.types.Ret.TheVariants.{Value}

-- ---- lists in another order

all_among : {X : Type 0} (P : X → Type 0) (xs : List X) → ((x : X) → Among x xs → P x) → All P xs
all_among P [] h = All-nil P
all_among P (x ∷ xs) h = All-cons P x xs (h x (inl refl)) (all_among P xs (λ y at. h y (inr at)))

among_all : {X : Type 0} (P : X → Type 0) (xs : List X) → All P xs → (x : X) → Among x xs → P x
among_all P [] h x at = absurd at
among_all P (y ∷ ys) h x (inl e) = subst P (sym e) (All-head P y ys h)
among_all P (y ∷ ys) h x (inr at) = among_all P ys (All-tail P y ys h) x at

moved_among : {X : Type 0} (xs ys : List X) → IsPermutation xs ys → (x : X) → Among x xs → Among x ys
moved_among xs ys moved = among_all (λ y. Among y ys) xs (All-permutation (λ y. Among y ys) ys xs (IsPermutation-sym xs ys moved) (all_among (λ y. Among y ys) ys (λ y at. at)))

flat_times : {X : Type 0} (g : X → List Name) (n : Name) (xs : List X) → times n (flat_map g xs) ≡ sum_by (λ x. times n (g x)) xs
flat_times g n [] = refl
flat_times g n (x ∷ xs) = (let a = times_append n (g x) (flat_map g xs) in let b = sum_by-cons (λ y. times n (g y)) x xs in let rest = flat_times g n xs in omega (arith, a, b, rest))

-- ---- what both rows of blocks have

record SameBlocks (xs ys : List Block) : Type 0 where
  there : (b : Block) → Among b xs → Among b ys
  back : (b : Block) → Among b ys → Among b xs
  sums : (h : Block → ℕ) → sum_by h ys ≡ sum_by h xs
  first : no_phis_first ys ≡ no_phis_first xs
  entry : entry_label ys ≡ entry_label xs
  empty : (length ys == 0) ≡ (length xs == 0)
  later : (l : Name) → Among l (labels (drop 1 xs)) → Among l (labels (drop 1 ys))

same_itself : (xs : List Block) → SameBlocks xs xs
same_itself xs = record { there = λ b at. at; back = λ b at. at; sums = λ h. refl; first = refl; entry = refl; empty = refl; later = λ l at. at }

one_moved : (b : Block) (xs ys : List Block) → IsPermutation xs ys → SameBlocks (b ∷ xs) (b ∷ ys)
one_moved b xs ys moved = record {
  there = λ x at. in_front xs ys moved x at;
  back = λ x at. in_front ys xs (IsPermutation-sym xs ys moved) x at;
  sums = λ h. (let s = sum_by-IsPermutation h xs ys moved in let c = sum_by-cons h b xs in let d = sum_by-cons h b ys in omega (arith, s, c, d));
  first = refl;
  entry = refl;
  empty = ne_eqb (length (b ∷ ys)) 0 (omega arith) ∙ sym (ne_eqb (length (b ∷ xs)) 0 (omega arith));
  later = λ l at. (let d = map_among (λ (x : Block). x.label) xs l at in subst (λ (n : Name). Among n (labels ys)) (sym d.2) (among_map (λ (x : Block). x.label) ys d.0 (moved_among xs ys moved d.0 d.1)));
}
  where
    in_front : (us vs : List Block) → IsPermutation us vs → (x : Block) → Among x (b ∷ us) → Among x (b ∷ vs)
    in_front us vs p x (inl e) = inl e
    in_front us vs p x (inr at) = inr (moved_among us vs p x at)

same_blocks : (xs ys : List Block) → IsReordered xs ys → SameBlocks xs ys
same_blocks [] ys e = subst (λ (zs : List Block). SameBlocks [] zs) (sym e) (same_itself [])
same_blocks (b ∷ bs) ys (rest, e, moved) = subst (λ (zs : List Block). SameBlocks (b ∷ bs) zs) (sym e) (one_moved b bs rest moved)

-- ---- the function

module _ (m m2 : Module) (takes : TakesOver m m2) (f : Function) (ys : List Block) (formed : FunctionFormed m f) (both : SameBlocks f.blocks ys) where
  abbrev moved : Function
  moved = record f { blocks = ys }

  value_kept : (v : Name × Ret) → Among v (values f) → Among v (values moved)
  value_kept v at = by (among_either (map (λ p. (p.1, Value p.0)) f.params) (flat_map block_values f.blocks) v at)
    where
      by : Among v (map (λ p. (p.1, Value p.0)) f.params) ⊎ Among v (flat_map block_values f.blocks) → Among v (values moved)
      by (inl h) = among_left (map (λ p. (p.1, Value p.0)) f.params) (flat_map block_values ys) v h
      by (inr h) = (let b = flat_among block_values f.blocks v h in among_right (map (λ p. (p.1, Value p.0)) f.params) (flat_map block_values ys) v (among_flat block_values ys b.0 v (both.there b.0 b.1) b.2))

  walk_kept : (w : List Block) (e l : Name) → Walks ys e w l → Walks f.blocks e w l
  walk_kept [] e l h = h
  walk_kept (b ∷ w) e l (c, at, is, leads, rest) = (c, both.back b at, is, leads, walk_kept w c l rest)

  head_kept : (l r : Name) → AtHead f l r → AtHead moved l r
  head_kept l r (inl h) = inl h
  head_kept l r (inr h) = inr (λ w walk. h w (walk_kept w (entry_label f.blocks) l (subst (λ (e : Name). Walks ys e w l) both.entry walk)))

  end_kept : (l r : Name) → AtEnd f l r → AtEnd moved l r
  end_kept l r (inl h) = inl (head_kept l r h)
  end_kept l r (inr (b, at, is, gives)) = inr (b, both.there b at, is, gives)

  matched_kept : (l : Name) (es : Entries) → Matched f.blocks l es → Matched ys l es
  matched_kept l es h = record {
    count = λ n. h.count n ∙ sym (both.sums (λ (b : Block). cond {A = ℕ} (same n b.label) (times l (successors b.term)) 0));
    value = h.value;
  }

  joined_kept : (es : Entries) → Joined f es → Joined moved es
  joined_kept es h v n at = held_more (AtEnd f n) (AtEnd moved n) (end_kept n) v (h v n at)

  block_kept : (b : Block) → BlockFormed m f b → BlockFormed m2 moved b
  block_kept b was = record {
    named = was.named;
    lead = was.lead;
    item = λ x at. instr_in m m2 takes f moved value_kept x (was.item x at);
    exit = record {
      targets = λ to at. both.later to (was.exit.targets to at);
      apart = was.exit.apart;
      fit = all_in m m2 takes f moved value_kept false (term_reads b.term) was.exit.fit;
      typed = was.exit.typed;
      returns = was.exit.returns;
      weighed = was.exit.weighed;
    };
    matched = λ x es at e. matched_kept b.label es (was.matched x es at e);
    ready = ready_more (AtHead f b.label) (AtHead moved b.label) (head_kept b.label) b.instrs b.term was.ready;
    joined = λ x es at e. joined_kept es (was.joined x es at e);
  }

  names_kept : (n : Name) → times n (names moved) ≡ times n (names f)
  names_kept n =
      let a = times_append n (param_names f) (flat_map block_names f.blocks) in
      let b = times_append n (param_names f) (flat_map block_names ys) in
      let c = flat_times block_names n f.blocks in
      let d = flat_times block_names n ys in
      let s = both.sums (λ (q : Block). times n (block_names q)) in
      omega (arith, a, b, c, d, s)

  abbrev well_where : Bool → Bool
  well_where declared = if is_profile_name f.name then declared && has_profile_types f else (if declared then has_provided_types f else true)

  moved_formed : Among f m.functions → FunctionFormed m2 moved
  moved_formed at = record {
    named = formed.named;
    params = ap (λ (d : Bool). list_all (is_param_name d) (param_names f)) both.empty ∙ formed.params;
    free = takes.free f.name (among_map (λ (g : Function). g.name) m.functions f at);
    provided = ap well_where both.empty ∙ formed.provided;
    noted = ap (λ (d : Bool). has_entries d f.prof) both.empty ∙ formed.noted;
    distinct = λ d n. (let is = names_kept n in let few = formed.distinct (sym both.empty ∙ d) n in omega (arith, is, few));
    first = both.first ∙ formed.first;
    block = λ b here. block_kept b (formed.block b (both.back b here));
  }

pub reordered_formed : (m m2 : Module) (f : Function) (ys : List Block) → TakesOver m m2 → Among f m.functions → FunctionFormed m f → IsReordered f.blocks ys → FunctionFormed m2 (record f { blocks = ys })
reordered_formed m m2 f ys takes at formed is = moved_formed m m2 takes f ys formed (same_blocks f.blocks ys is) at

-- ---- its size

module _ (f : Function) (ys : List Block) (both : SameBlocks f.blocks ys) where
  abbrev other : Function
  other = record f { blocks = ys }

  same_edges : edges_in other ≡ edges_in f
  same_edges = λ i. cond {A = ℕ} (both.empty i) 0 (1 + both.sums ways_out i)

  same_total : (test : Instr → Bool) → total_of test other ≡ total_of test f
  unfolding total_of
  same_total test = both.sums (λ (b : Block). count_by test b.instrs)

  array_kept : (size : ℕ) → Among size (function_arrays other) → Among size (function_arrays f)
  array_kept size at =
      let b = flat_among (λ (b : Block). flat_map instr_arrays b.instrs) ys size at in
      among_flat (λ (b : Block). flat_map instr_arrays b.instrs) f.blocks b.0 size (both.back b.0 b.1) b.2

  as_large : IsAsLarge f other
  as_large = record { declared = both.empty; edges = same_edges; total = same_total; arrays = array_kept }

pub reordered_as_large : (f : Function) (ys : List Block) → IsReordered f.blocks ys → IsAsLarge f (record f { blocks = ys })
reordered_as_large f ys is = as_large f ys (same_blocks f.blocks ys is)
