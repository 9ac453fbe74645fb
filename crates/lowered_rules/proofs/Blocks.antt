-- The blocks of a lowered function: phis, results, labels and walks stay.
use Rattle.std.proofs.Common.{◌≡◌, ℕ, ◌+◌, ◌⊎◌, inl, inr, Bool, ◌&&◌, not, cond, List, [], ◌∷◌, ◌++◌, drop, map, Option, Some, None, is_some, refl, sym, ap, ap₂, subst, ◌∙◌, arith}
use Rattle.std.specs.List.{cons_option, flat_map}
use Rattle.std.specs.Option.{option_map}
use Rattle.std.proofs.lemmas.List.{drop-map}
use Rattle.std.proofs.lemmas.List.Sums.{sum_by-cons}
use Rattle.ir_rules.specs.Lists.{Among, times}
use Rattle.ir_rules.specs.PhiEntries.{positions}
use Rattle.ir_rules.specs.Scopes.{block_names, block_values, names, param_names, term_reads, values}
use Rattle.ir_rules.specs.Walks.{AllHeld, AtEnd, AtHead, HeldAt, IsBefore, Joined, Passes, Ready, Walks, entry_label}
use Rattle.ir_rules.specs.WellFormed.{Matched, no_phis, no_phis_first}
use Rattle.ir_tree.specs.Blocks.{labels}
use Rattle.ir_tree.specs.Names.{same}
use Rattle.ir_tree.specs.Operands.{Entries, Use, result_name, result_names, result_of}
use Rattle.ir_tree.specs.Phis.{behind_phis, entries_of, is_phi, phi_count, reads}
use Rattle.ir_tree.specs.Successors.{successors}
use Rattle.ir_tree.specs.declared.types.Block.{Block}
use Rattle.ir_tree.specs.declared.types.Function.{Function}
use Rattle.ir_tree.specs.declared.types.Instr.{Instr}
use Rattle.ir_tree.specs.declared.types.Instr.TheVariants.{Binary, Compare, Convert, Freeze, Select, Phi, Alloca, Load, Store, Gep, Call, Count}
use Rattle.ir_tree.specs.declared.types.Operand.{Operand}
use Rattle.ir_tree.specs.declared.types.Operand.TheVariants.{Int, Null, Local, Global}
use Rattle.ir_tree.specs.declared.types.Ret.{Ret}
use Rattle.ir_tree.specs.declared.types.Ret.TheVariants.{Value}
use Rattle.ir_tree.specs.declared.types.Term.{Term}
use Rattle.lowered_rules.proofs.Listed.{Name, among_map, map_among, same_made}
use Rattle.lowering.specs.Asked.{Asked, Rise, Note, asked}
use Rattle.lowering.specs.Lowered.{doing, lowered_block, lowered_function, lowered_instr}

-- ---- phis stay, and nothing else becomes one

no_entries_by : (x : Instr) (o : Option Asked) → entries_of x ≡ None → entries_of (doing x o) ≡ None
no_entries_by x None e = e
no_entries_by x (Some (Rise symbol hash counters counter amount)) e = refl
no_entries_by x (Some (Note symbol hash target site)) e = refl

pub same_entries : (x : Instr) → entries_of (lowered_instr x) ≡ entries_of x
same_entries (Binary dest op flags ty left right) = refl
same_entries (Compare dest pred ty left right) = refl
same_entries (Convert dest op flags from value to) = refl
same_entries (Freeze dest ty value) = refl
same_entries (Select dest c ty first second prof) = refl
same_entries (Phi dest ty entries) = refl
same_entries (Alloca dest mem) = refl
same_entries (Load dest ty address) = refl
same_entries (Store ty value address) = refl
same_entries (Gep dest inbounds mem address indices) = refl
same_entries (Call dest ret callee args prof) = no_entries_by (Call dest ret callee args prof) (asked (Call dest ret callee args prof)) refl
same_entries (Count symbol size index step) = refl

same_phi : (x : Instr) → is_phi (lowered_instr x) ≡ is_phi x
same_phi x = ap (λ (o : Option Entries). is_some o) (same_entries x)

count_same : (is : List Instr) → phi_count (map lowered_instr is) ≡ phi_count is
count_same [] = refl
count_same (x ∷ is) = ap₂ (λ (t : Bool) (k : ℕ). cond {A = ℕ} t (1 + k) 0) (same_phi x) (count_same is)

behind_same : (is : List Instr) → behind_phis (map lowered_instr is) ≡ map lowered_instr (behind_phis is)
behind_same is = ap (λ k. drop k (map lowered_instr is)) (count_same is) ∙ drop-map lowered_instr (phi_count is) is

none_same : (is : List Instr) → no_phis (map lowered_instr is) ≡ no_phis is
none_same [] = refl
none_same (x ∷ is) = ap₂ (λ (t rest : Bool). not t && rest) (same_phi x) (none_same is)

pub lead_same : (is : List Instr) → no_phis (behind_phis (map lowered_instr is)) ≡ no_phis (behind_phis is)
lead_same is = ap no_phis (behind_same is) ∙ none_same (behind_phis is)

pub first_same : (bs : List Block) → no_phis_first (map lowered_block bs) ≡ no_phis_first bs
first_same [] = refl
first_same (b ∷ bs) = none_same b.instrs

-- ---- labels and positions

labels_same : (bs : List Block) → labels (map lowered_block bs) ≡ labels bs
labels_same [] = refl
labels_same (b ∷ bs) = ap (λ (ns : List Name). b.label ∷ ns) (labels_same bs)

pub targets_same : (bs : List Block) → labels (drop 1 (map lowered_block bs)) ≡ labels (drop 1 bs)
targets_same bs = ap labels (drop-map lowered_block 1 bs) ∙ labels_same (drop 1 bs)

positions_same : (n l : Name) (bs : List Block) → positions n l (map lowered_block bs) ≡ positions n l bs
positions_same n l [] = refl
positions_same n l (b ∷ bs) =
    let rest = positions_same n l bs in
    omega (arith, rest, sum_by-cons (weight n l) (lowered_block b) (map lowered_block bs), sum_by-cons (weight n l) b bs)
  where
    weight : Name → Name → Block → ℕ
    weight n l b = cond {A = ℕ} (same n b.label) (times l (successors b.term)) 0

pub matched_same : (bs : List Block) (l : Name) (es : Entries) → Matched bs l es → Matched (map lowered_block bs) l es
matched_same bs l es h = record { count = λ n. h.count n ∙ sym (positions_same n l bs); value = h.value }

-- ---- results

-- each instruction gives what it gave
abbrev pub ResultsStay : List Instr → Type 0
ResultsStay is = (x : Instr) → Among x is → result_of (lowered_instr x) ≡ result_of x

pub results_same : (is : List Instr) → ResultsStay is → result_names (map lowered_instr is) ≡ result_names is
results_same is h = same_made result_name lowered_instr is (λ x at. ap (option_map (λ (r : Name × Ret). r.0)) (h x at))

module _ (f : Function) (stay : (b : Block) → Among b f.blocks → ResultsStay b.instrs) where
  abbrev g : Function
  g = lowered_function f

  names_in : (bs : List Block) → ((b : Block) → Among b bs → ResultsStay b.instrs) → flat_map block_names (map lowered_block bs) ≡ flat_map block_names bs
  names_in [] h = refl
  names_in (b ∷ bs) h = ap₂ (λ (ns ms : List Name). (b.label ∷ ns) ++ ms) (results_same b.instrs (h b (inl refl))) (names_in bs (λ c at. h c (inr at)))

  pub names_same : names g ≡ names f
  names_same = ap (λ (ns : List Name). param_names f ++ ns) (names_in f.blocks stay)

  values_in : (bs : List Block) → ((b : Block) → Among b bs → ResultsStay b.instrs) → flat_map block_values (map lowered_block bs) ≡ flat_map block_values bs
  values_in [] h = refl
  values_in (b ∷ bs) h = ap₂ (λ (vs ws : List (Name × Ret)). vs ++ ws) (same_made result_of lowered_instr b.instrs (h b (inl refl))) (values_in bs (λ c at. h c (inr at)))

  pub values_same : values g ≡ values f
  values_same = ap (λ (vs : List (Name × Ret)). map (λ p. (p.1, Value p.0)) f.params ++ vs) (values_in f.blocks stay)

  -- ---- walks

  entry_same : (bs : List Block) → entry_label (map lowered_block bs) ≡ entry_label bs
  entry_same [] = refl
  entry_same (b ∷ bs) = refl

  -- a walk in the lowered function is one of the function, and where that one passes, this one does
  walk_back : (w : List Block) (e l : Name) → Walks g.blocks e w l → (v : List Block) × Walks f.blocks e v l × ((r : Name) → Passes r v → Passes r w)
  walk_back [] e l walk = ([], walk, λ r p. p)
  walk_back (q ∷ w) e l walk =
      let d = map_among lowered_block f.blocks q walk.1 in
      let rest = walk_back w walk.0 l walk.4 in
      let leads : Among walk.0 (successors d.0.term) = subst (λ (x : Block). Among walk.0 (successors x.term)) d.2 walk.3 in
      (d.0 ∷ rest.0, (walk.0, d.1, ap (λ (x : Block). x.label) (sym d.2) ∙ walk.2, leads, rest.1), λ r p. passes d.0 d.1 d.2 rest.0 rest.2 r p)
    where
      passes : (b : Block) → Among b f.blocks → q ≡ lowered_block b → (v : List Block) → ((r : Name) → Passes r v → Passes r w) → (r : Name) → Passes r (b ∷ v) → Passes r (q ∷ w)
      passes b at is v rest r (inl h) = inl (subst (λ (ns : List Name). Among r ns) (sym (ap (λ (x : Block). result_names x.instrs) is ∙ results_same b.instrs (stay b at))) h)
      passes b at is v rest r (inr p) = inr (rest r p)

  before_stays : (l r : Name) → IsBefore f.blocks l r → IsBefore g.blocks l r
  before_stays l r h w walk = (let v = walk_back w (entry_label f.blocks) l (subst (λ (e : Name). Walks g.blocks e w l) (entry_same f.blocks) walk) in v.2 r (h v.0 v.1))

  pub head_stays : (l r : Name) → AtHead f l r → AtHead g l r
  head_stays l r (inl h) = inl h
  head_stays l r (inr h) = inr (before_stays l r h)

  end_stays : (l r : Name) → AtEnd f l r → AtEnd g l r
  end_stays l r (inl h) = inl (head_stays l r h)
  end_stays l r (inr h) =
      inr (lowered_block h.0, among_map lowered_block f.blocks h.0 h.1, h.2, subst (λ (ns : List Name). Among r ns) (sym (results_same h.0.instrs (stay h.0 h.1))) h.3)

  held_more : (H K : Name → Type 0) → ((r : Name) → H r → K r) → (o : Operand) → HeldAt H o → HeldAt K o
  held_more H K more (Int value) h = tt
  held_more H K more Null h = tt
  held_more H K more (Local r) h = more r h
  held_more H K more (Global name) h = tt

  pub joined_stays : (es : Entries) → Joined f es → Joined g es
  joined_stays es h v n at = held_more (AtEnd f n) (AtEnd g n) (end_stays n) v (h v n at)

  all_held_more : (H K : Name → Type 0) → ((r : Name) → H r → K r) → (us : List Use) → AllHeld H us → AllHeld K us
  all_held_more H K more [] h = tt
  all_held_more H K more (u ∷ us) h = (held_more H K more u.1 h.0, all_held_more H K more us h.1)

  -- what is held stays held along a block, where each lowered instruction reads only what the instruction reads
  either_more : (H K : Name → Type 0) (ns ms : List Name) → ((r : Name) → H r → K r) → ms ≡ ns → (r : Name) → H r ⊎ Among r ns → K r ⊎ Among r ms
  either_more H K ns ms more e r (inl h) = inl (more r h)
  either_more H K ns ms more e r (inr h) = inr (subst (λ (xs : List Name). Among r xs) (sym e) h)

  pub ready_stays : (H K : Name → Type 0) → ((r : Name) → H r → K r) → (is : List Instr) → ResultsStay is → ((x : Instr) → Among x is → (L : Name → Type 0) → AllHeld L (reads x) → AllHeld L (reads (lowered_instr x))) → (t : Term) → Ready H is t → Ready K (map lowered_instr is) t
  ready_stays H K more [] same_results reading t h = all_held_more H K more (term_reads t) h
  ready_stays H K more (x ∷ is) same_results reading t h = (
    reading x (inl refl) K (all_held_more H K more (reads x) h.0),
    ready_stays (λ r. H r ⊎ Among r (result_names (x ∷ []))) (λ r. K r ⊎ Among r (result_names (lowered_instr x ∷ []))) (either_more H K (result_names (x ∷ [])) (result_names (lowered_instr x ∷ [])) more (ap (λ (o : Option (Name × Ret)). cons_option (option_map (λ (r : Name × Ret). r.0) o) []) (same_results x (inl refl)))) is (λ y at. same_results y (inr at)) (λ y at. reading y (inr at)) t h.1,
  )
