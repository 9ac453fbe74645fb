-- The walks of function k are walks of the edges of its graph, each of one edge, which leads between the same blocks.
use Rattle.std.proofs.Common.{◌≡◌, ℕ, zero, suc, ◌+◌, ◌==◌, ◌<◌, ◌≤◌, ◌⊎◌, inl, inr, Bool, true, false, cond, get_or, List, [], ◌∷◌, length, Option, Some, None, sum_by, refl, sym, ◌∙◌, ap, subst, arith}
use Rattle.std.specs.Prelude.{◌&&◌, max, slice_get, option_and_then}
use Rattle.std.specs.Cmp.Lexicographic.{bytes_decides}
use Rattle.std.specs.List.{count_by}
use Rattle.std.proofs.lemmas.Bool.{eqb-true, eq-eqb, ne_eqb}
use Rattle.std.proofs.lemmas.List.Sums.{sum_by-cons}
use Rattle.std.proofs.lemmas.Option.{none-some, same_Some}
use Rattle.ir_tree.specs.Edges.{block_place, entry_edge, labels, rows}
use Rattle.ir_tree.specs.Graphs.{FlowGraph, block_of, nodes}
use Rattle.ir_tree.specs.Names.{same}
use Rattle.ir_tree.specs.Reach.{IsReachable}
use Rattle.ir_tree.specs.declared.edge.Edge.{Edge}
use Rattle.ir_tree.specs.declared.types.Block.{Block}
use Rattle.ir_tree.specs.declared.types.Function.{Function}
use Rattle.ir_tree.specs.declared.types.Module.{Module}
use Rattle.ir_model.specs.Log.{Walk, Into, Out, comes_from, first_label, function_of, is_at, is_walk_of, leads_to, origin, same_block, sought_place, successor, target, AreBalanced}
use Rattle.ir_tree.specs.Functions.{function_at}
use Rattle.ir_model.specs.Step.{sought}
use Rattle.cfg_edges.specs.Graph.{EachHasEdge, EdgesStand, IsBranch, IsExit, IsFlowGraph, IsNamed, LeavesBlock, NodesStand, Stands, SuccessorsAreReached, successors_of}
use Rattle.walk_flow.proofs.Places.{named_at, sought_at, successors_at}
use Rattle.walk_flow.proofs.Sums.{Balances, enters, kept, kept_add, leaves, none_add_up, one_adds_up}

and_left : (a b : Bool) → a && b ≡ true → a ≡ true
and_left true b h = refl
and_left false b h = absurd (cc)

and_right : (a b : Bool) → a && b ≡ true → b ≡ true
and_right true b h = h
and_right false b h = absurd (cc)

abbrev one_if : Bool → ℕ
one_if b = cond b 1 0

item_at : {X : Type 0} (xs : List X) (i : ℕ) → i < length xs → (x : X) × (slice_get xs i ≡ Some x)
item_at [] i h = absurd (omega (arith, h))
item_at (x ∷ xs) zero h = (x, refl)
item_at (x ∷ xs) (suc i) h = item_at xs i (omega (arith, h))

first_label_at : (bs : List Block) (c : Block) → slice_get bs 0 ≡ Some c → first_label bs ≡ Some c.label
first_label_at [] c h = absurd (none-some c h)
first_label_at (b ∷ bs) c h = ap (λ (x : Block). Some x.label) (same_Some b c h)

module _ (m : Module) (k : ℕ) (f : Function) (at : function_at m k ≡ Some f) (g : FlowGraph) (whole : IsFlowGraph g) (stand : EdgesStand f g) (each : EachHasEdge f g) (named : NodesStand f g) (reach : SuccessorsAreReached f) where
  -- ---- nodes and labels

  -- a node and a label that say the same: node 0 and none, or a block's node and a label that names the block
  abbrev Agree : ℕ → Option (List ℕ) → Type 0
  Agree n o = ((n ≡ 0) × (o ≡ None)) ⊎ ((x : List ℕ) × (t : ℕ) × (o ≡ Some x) × (block_of g n ≡ Some t) × (block_place f.blocks x ≡ Some t))

  -- the label of a node: none at node 0, else that of its block, which it names
  abbrev Labelled : ℕ → Option (List ℕ) → Type 0
  Labelled v l = ((v ≡ 0) × (l ≡ None)) ⊎ ((b : ℕ) × (q : IsNamed f b) × (block_of g v ≡ Some b) × (l ≡ Some q.block.label))

  not_outside : (n t : ℕ) → block_of g n ≡ Some t → n ≡ 0 → ⊥
  not_outside zero t h e = none-some t h
  not_outside (suc n) t h e = omega (arith, e)

  same_label : (b : ℕ) (l x : List ℕ) → block_place f.blocks l ≡ Some b → block_place f.blocks x ≡ Some b → same l x ≡ true
  same_label b l x hl hx =
      let one : l ≡ get_or (labels f.blocks) b [] = (bytes_decides l (get_or (labels f.blocks) b [])).0 (named_at f.blocks l b hl).1 in
      let two : x ≡ get_or (labels f.blocks) b [] = (bytes_decides x (get_or (labels f.blocks) b [])).0 (named_at f.blocks x b hx).1 in
      (bytes_decides l x).1 (one ∙ sym two)

  -- the same block has one node, and labels that name it are the same
  by_label : (n v t b : ℕ) (x l : List ℕ) → block_of g n ≡ Some t → block_place f.blocks x ≡ Some t → block_of g v ≡ Some b → block_place f.blocks l ≡ Some b → (s : Bool) → same l x ≡ s → (n == v) ≡ s
  by_label n v t b x l nt xt vb lb true h =
      let is : l ≡ x = (bytes_decides l x).0 h in
      let one : t ≡ b = same_Some t b (sym xt ∙ ap (λ (y : List ℕ). block_place f.blocks y) (sym is) ∙ lb) in
      eq-eqb n v (whole.one_node n v b (nt ∙ ap (λ (y : ℕ). Some y) one) vb)
  by_label n v t b x l nt xt vb lb false h = ne_eqb n v (λ e. differ e)
    where
      differ : n ≡ v → ⊥
      differ e =
          let one : t ≡ b = same_Some t b (sym nt ∙ ap (λ (y : ℕ). block_of g y) e ∙ vb) in
          let yes : same l x ≡ true = same_label b l x lb (xt ∙ ap (λ (y : ℕ). Some y) one) in
          cc (yes, h)

  agree_at : (n v : ℕ) (o l : Option (List ℕ)) → Agree n o → Labelled v l → (n == v) ≡ same_block l o
  agree_at n v o l (inl a) (inl b) = eq-eqb n v (a.0 ∙ sym b.0) ∙ (λ i. same_block (sym b.1 i) (sym a.1 i))
  agree_at n v o l (inl a) (inr b) = ne_eqb n v (λ e. not_outside v b.0 b.2 (sym e ∙ a.0)) ∙ (λ i. same_block (sym b.3 i) (sym a.1 i))
  agree_at n v o l (inr a) (inl b) = ne_eqb n v (λ e. not_outside n a.1 a.3 (e ∙ b.0)) ∙ (λ i. same_block (sym b.1 i) (sym a.2 i))
  agree_at n v o l (inr a) (inr b) =
      by_label n v a.1 b.0 a.0 b.1.block.label a.3 a.4 b.2 b.1.named (same b.1.block.label a.0) refl ∙ (λ i. same_block (sym b.3 i) (sym a.2 i))

  -- ---- the edge of a walk

  -- the one edge of which this is a walk, which leads between the same blocks
  abbrev EdgeOf : Walk → Type 0
  EdgeOf w = (i : ℕ) × (d : Edge) × (slice_get g.edges i ≡ Some d) × (is_walk_of m k d.block d.position w ≡ true)
      × ((j : ℕ) (e : Edge) → slice_get g.edges j ≡ Some e → is_walk_of m k e.block e.position w ≡ true → j ≡ i) × Agree d.from (origin w) × Agree d.to (target m w)

  entry_only : (h j : ℕ) (e : Edge) → slice_get g.edges j ≡ Some e → (o : Option ℕ) → e.block ≡ o → is_walk_of m k o e.position (Into h) ≡ true → j ≡ 0
  entry_only h j e found None none walk =
      let is : e ≡ entry_edge = subst (λ (o : Option ℕ). Stands f g e o) none (stand j e found) in
      whole.apart j 0 e entry_edge found whole.first (ap (λ (x : Edge). x.block) is) (ap (λ (x : Edge). x.position) is)
  entry_only h j e found (Some p) some walk = absurd (cc (walk))

  into_edge : (h : ℕ) → h ≡ k → EdgeOf (Into h)
  into_edge h e =
      let q = named 1 0 whole.entry in
      let first : target m (Into h) ≡ Some q.block.label =
      ap (λ (x : ℕ). target m (Into x)) e ∙ ap (λ (o : Option Function). option_and_then (λ (y : Function). first_label y.blocks) o) at ∙ first_label_at f.blocks q.block q.at in
      (0, entry_edge, whole.first, eq-eqb h k e, (λ j d found walk. entry_only h j d found d.block refl walk), inl (refl, refl), inr (q.block.label, 0, first, whole.entry, q.named))

  -- what a walk out of the block of a label leads to
  target_is : (h : ℕ) (l : List ℕ) (p b : ℕ) → h ≡ k → block_place f.blocks l ≡ Some b → target m (Out h l p) ≡ slice_get (successors_of f.blocks b) p
  target_is h l p b e name =
      let (c, there) = item_at f.blocks b (named_at f.blocks l b name).0 in
      ap (λ (x : ℕ). successor (sought m x l) p) e ∙ ap (λ (o : Option Block). successor o p) (sought_at m k f at l b name ∙ there) ∙ ap (λ (ss : List (List ℕ)). slice_get ss p) (sym (successors_at f.blocks b c there))

  place_is : (l : List ℕ) (b : ℕ) → block_place f.blocks l ≡ Some b → sought_place m k l ≡ Some b
  place_is l b name = ap (λ (o : Option Function). option_and_then (λ (y : Function). block_place y.blocks l) o) at ∙ name

  out_only : (h : ℕ) (l : List ℕ) (p b i : ℕ) (d : Edge) → block_place f.blocks l ≡ Some b → slice_get g.edges i ≡ Some d → d.block ≡ Some b → d.position ≡ p
      → (j : ℕ) (e : Edge) → slice_get g.edges j ≡ Some e → (o : Option ℕ) → e.block ≡ o → is_walk_of m k o e.position (Out h l p) ≡ true → j ≡ i
  out_only h l p b i d name found block position j e there None none walk = absurd (cc (walk))
  out_only h l p b i d name found block position j e there (Some q) some walk =
      let both : (h == k && is_at q (sought_place m k l)) ≡ true = and_left (h == k && is_at q (sought_place m k l)) (p == e.position) walk in
      let placed : b ≡ q = eqb-true b q (ap (λ (o : Option ℕ). is_at q o) (sym (place_is l b name)) ∙ and_right (h == k) (is_at q (sought_place m k l)) both) in
      let positioned : p ≡ e.position = eqb-true p e.position (and_right (h == k && is_at q (sought_place m k l)) (p == e.position) walk) in
      whole.apart j i e d there found (some ∙ ap (λ (x : ℕ). Some x) (sym placed) ∙ sym block) (sym positioned ∙ sym position)

  leads_on : (h : ℕ) (l : List ℕ) (p b : ℕ) (d : Edge) → h ≡ k → block_place f.blocks l ≡ Some b → IsReachable (rows f.blocks) b → d.position ≡ p → IsBranch f g b d ⊎ IsExit f b d → Agree d.to (target m (Out h l p))
  leads_on h l p b d e name r position (inl branch) =
      let t = reach b d.position branch.to r branch.successor in
      inr (branch.to, t.0, target_is h l p b e name ∙ ap (λ (n : ℕ). slice_get (successors_of f.blocks b) n) (sym position) ∙ branch.successor, branch.target ∙ t.1, t.1)
  leads_on h l p b d e name r position (inr out) = inl (out.outside, target_is h l p b e name ∙ ap (λ (ss : List (List ℕ)). slice_get ss p) out.last)

  out_edge : (h : ℕ) (l : List ℕ) (p : ℕ) → h ≡ k → (b : ℕ) × (block_place f.blocks l ≡ Some b) × IsReachable (rows f.blocks) b × (p < max 1 (length (successors_of f.blocks b))) → EdgeOf (Out h l p)
  out_edge h l p e (b, name, r, within) =
      let (i, d, found, block, position) = each b p r within in
      let walks : is_walk_of m k d.block d.position (Out h l p) ≡ true =
      (λ t. is_walk_of m k (block t) (position t) (Out h l p)) ∙ (λ t. eq-eqb h k e t && (ap (λ (o : Option ℕ). is_at b o) (place_is l b name) ∙ eq-eqb b b refl) t && eq-eqb p p refl t) in
      let leaving : LeavesBlock f g b d = subst (λ (o : Option ℕ). Stands f g d o) block (stand i d found) in
      (i, d, found, walks, (λ j x there walk. out_only h l p b i d name found block position j x there x.block refl walk), inr (l, b, refl, (whole.sound i d found).owner ∙ block, name), leads_on h l p b d e name r position leaving.leads)

  abbrev IsWayOut : Walk → Type 0
  IsWayOut (Into h) = Unit {0}
  IsWayOut (Out h l p) = h ≡ k → (b : ℕ) × (block_place f.blocks l ≡ Some b) × IsReachable (rows f.blocks) b × (p < max 1 (length (successors_of f.blocks b)))

  edge_of : (w : Walk) → IsWayOut w → function_of w ≡ k → EdgeOf w
  edge_of (Into h) way e = into_edge h e
  edge_of (Out h l p) way e = out_edge h l p e (way e)

  -- ---- how often edges are walked

  abbrev walked_by : Walk → Edge → ℕ
  walked_by w e = one_if (is_walk_of m k e.block e.position w)

  abbrev pub walked_in : List Walk → Edge → ℕ
  walked_in ws e = count_by (is_walk_of m k e.block e.position) ws

  nothing_kept : (b c : Bool) → c ≡ false → cond b (one_if c) 0 ≡ 0
  nothing_kept true c h = ap one_if h
  nothing_kept false c h = refl

  one_walk_sum : (test : Edge → Bool) (w : Walk) (s : Bool) (d : EdgeOf w) → test d.1 ≡ s → sum_by (kept test (walked_by w)) g.edges ≡ one_if s
  one_walk_sum test w s d is =
      one_adds_up (kept test (walked_by w)) g.edges d.0 d.1 d.2 (λ j e there. other j e there (is_walk_of m k e.block e.position w) refl) ∙ (λ i. cond (is i) (one_if (d.3 i)) 0)
    where
      other : (j : ℕ) (e : Edge) → slice_get g.edges j ≡ Some e → (b : Bool) → is_walk_of m k e.block e.position w ≡ b → (j ≡ d.0) ⊎ (kept test (walked_by w) e ≡ 0)
      other j e there true h = inl (d.4 j e there h)
      other j e there false h = inr (nothing_kept (test e) (is_walk_of m k e.block e.position w) h)

  not_of : (w : Walk) → (function_of w == k) ≡ false → (o : Option ℕ) (p : ℕ) → is_walk_of m k o p w ≡ false
  not_of (Into h) other None p = other
  not_of (Into h) other (Some q) p = refl
  not_of (Out h l n) other None p = refl
  not_of (Out h l n) other (Some q) p = ap (λ (s : Bool). s && is_at q (sought_place m k l) && n == p) other

  no_walk_sum : (test : Edge → Bool) (w : Walk) → (function_of w == k) ≡ false → sum_by (kept test (walked_by w)) g.edges ≡ 0
  no_walk_sum test w other = none_add_up (kept test (walked_by w)) g.edges (λ j e there. nothing_kept (test e) (is_walk_of m k e.block e.position w) (not_of w other e.block e.position))

  enters_sum : (v : ℕ) (l : Option (List ℕ)) → Labelled v l → (w : Walk) → IsWayOut w → sum_by (kept (enters v) (walked_by w)) g.edges ≡ one_if (leads_to m k l w)
  enters_sum v l labelled w way = by (function_of w == k) refl
    where
      by : (s : Bool) → (function_of w == k) ≡ s → sum_by (kept (enters v) (walked_by w)) g.edges ≡ one_if (leads_to m k l w)
      by true h =
          let d = edge_of w way (eqb-true (function_of w) k h) in
          one_walk_sum (enters v) w (leads_to m k l w) d (agree_at d.1.to v (target m w) l d.6 labelled ∙ sym (ap (λ (s : Bool). s && same_block l (target m w)) h))
      by false h = no_walk_sum (enters v) w h ∙ sym (ap (λ (s : Bool). one_if (s && same_block l (target m w))) h)

  leaves_sum : (v : ℕ) (l : Option (List ℕ)) → Labelled v l → (w : Walk) → IsWayOut w → sum_by (kept (leaves v) (walked_by w)) g.edges ≡ one_if (comes_from k l w)
  leaves_sum v l labelled w way = by (function_of w == k) refl
    where
      by : (s : Bool) → (function_of w == k) ≡ s → sum_by (kept (leaves v) (walked_by w)) g.edges ≡ one_if (comes_from k l w)
      by true h =
          let d = edge_of w way (eqb-true (function_of w) k h) in
          one_walk_sum (leaves v) w (comes_from k l w) d (agree_at d.1.from v (origin w) l d.5 labelled ∙ sym (ap (λ (s : Bool). s && same_block l (origin w)) h))
      by false h = no_walk_sum (leaves v) w h ∙ sym (ap (λ (s : Bool). one_if (s && same_block l (origin w))) h)

  abbrev AllOut : List Walk → Type 0
  AllOut [] = Unit {0}
  AllOut (w ∷ ws) = IsWayOut w × AllOut ws

  count_cons : (p : Walk → Bool) (w : Walk) (ws : List Walk) → count_by p (w ∷ ws) ≡ one_if (p w) + count_by p ws
  count_cons p w ws = sum_by-cons (λ (x : Walk). cond (p x) 1 0) w ws

  none_walked : (b : Bool) → cond {A = ℕ} b 0 0 ≡ 0
  none_walked true = refl
  none_walked false = refl

  list_sum : (test : Edge → Bool) (q : Walk → Bool) → ((w : Walk) → IsWayOut w → sum_by (kept test (walked_by w)) g.edges ≡ one_if (q w)) → (ws : List Walk) → AllOut ws → sum_by (kept test (walked_in ws)) g.edges ≡ count_by q ws
  list_sum test q one [] all = none_add_up (kept test (walked_in [])) g.edges (λ j e there. none_walked (test e))
  list_sum test q one (w ∷ ws) all =
      omega (
        arith,
        kept_add test (walked_by w) (walked_in ws) (walked_in (w ∷ ws)) g.edges (λ e. count_cons (is_walk_of m k e.block e.position) w ws),
        one w all.0,
        list_sum test q one ws all.1,
        count_cons q w ws,
      )

  either : (a b : ℕ) → (a < b) ⊎ (b ≤ a)
  either a b = grind arith

  node_or_past : (v : ℕ) → (nodes g ≤ v) ⊎ ((l : Option (List ℕ)) × Labelled v l)
  node_or_past zero = inr (None, inl (refl, refl))
  node_or_past (suc i) = elim (either i (length g.blocks)) [
    | inl within ↦ (let b = item_at g.blocks i within in let q = named (suc i) b.0 b.1 in inr (Some q.block.label, inr (b.0, q, b.1, refl)))
    | inr past ↦ inl (omega (arith, past))
  ]

  past_sum : (test : Edge → Bool) (h : Edge → ℕ) → ((j : ℕ) (e : Edge) → slice_get g.edges j ≡ Some e → test e ≡ false) → sum_by (kept test h) g.edges ≡ 0
  past_sum test h fails = none_add_up (kept test h) g.edges (λ j e there. ap (λ (s : Bool). cond s (h e) 0) (fails j e there))

  -- walks that are a flow of blocks are a flow of the graph
  pub walks_balance : (ws : List Walk) → AllOut ws → AreBalanced m ws → Balances g.edges (walked_in ws)
  walks_balance ws all flow v = elim (node_or_past v) [
    | inl past ↦ past_sum (enters v) (walked_in ws) (λ j e there. ne_eqb e.to v (λ same. below e.to v (whole.sound j e there).enters past same))
        ∙ sym (past_sum (leaves v) (walked_in ws) (λ j e there. ne_eqb e.from v (λ same. below e.from v (whole.sound j e there).leaves past same)))
    | inr node ↦ list_sum (enters v) (leads_to m k node.0) (enters_sum v node.0 node.1) ws all ∙ flow k node.0 ∙ sym (list_sum (leaves v) (comes_from k node.0) (leaves_sum v node.0 node.1) ws all)
  ]
    where
      below : (n u : ℕ) → n < nodes g → nodes g ≤ u → n ≡ u → ⊥
      below n u less more same = omega (arith, less, more, same)
