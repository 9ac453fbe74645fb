-- Degrees and ranks, one edge further.
use Rattle.std.proofs.Common.{◌≡◌, ℕ, ◌+◌, ◌==◌, ◌<◌, inl, inr, Bool, true, false, cond, List, [], ◌∷◌, zero, suc, length, take, get_or, Option, None, Some, IfSome, slice_get, slice_index, refl, sym, ap, subst, ◌∙◌, arith}
use Rattle.std.proofs.lemmas.Option.{none-some, slice_get-get_or}
use Rattle.gen_code.proofs.Lists.{count_few, count_more, position_more}
use Rattle.gen_code.proofs.Numbering.{as_one}
use Rattle.gen_code.specs.Ends.{AreDegrees, AreWithin, block_at, counting_block, degree, stands_at}
use Rattle.gen_code.specs.Tables.{or_else}
use Rattle.gen_code.specs.declared.ends.End.{End}
use Rattle.gen_code.specs.declared.ends.End.TheVariants.{Tail, Head}
use Rattle.gen_plan.specs.Placing.{counter_of}
use Rattle.ir_model.specs.Log.{is_at}
use Rattle.ir_tree.specs.Graphs.{FlowGraph}
use Rattle.ir_tree.specs.declared.edge.Edge.{Edge}
use Rattle.spanning_order.specs.Lists.{Among}

pub if_within : (o : Option ℕ) (n : ℕ) → ((b : ℕ) → o ≡ Some b → b < n) → IfSome o (λ b. b < n)
if_within None n h = tt
if_within (Some b) n h = h b refl

-- what a list of edges has past its end
abbrev pub no_edge : Edge
no_edge = record { from = 0; to = 0; block = None; position = 0 }

-- the block at an end of an edge is among the first n
pub within_at : (g : FlowGraph) (end : End) (n m : ℕ) → AreWithin g end n → n ≡ m → (edges : List Edge) → edges ≡ g.edges → (i : ℕ) → i < length edges → (block : Option ℕ) → block ≡ block_at g end (get_or edges i no_edge) → IfSome block (λ b. b < m)
within_at g end n m within same edges are i h block is =
    if_within block m (λ b e. subst (λ (k : ℕ). b < k) same (within i (get_or edges i no_edge) b (ap (λ (es : List Edge). slice_get es i) (sym are) ∙ slice_get-get_or edges i no_edge h) (sym is ∙ e)))

pub at_either : (g : FlowGraph) (n : ℕ) → AreWithin g Tail n → AreWithin g Head n → (end : End) → AreWithin g end n
at_either g n tails heads Tail = tails
at_either g n tails heads Head = heads

-- and so is the one that counts it
counting_is : (stands : Bool) (at : Option ℕ) (b : ℕ) → cond stands at None ≡ Some b → at ≡ Some b
counting_is true at b e = e
counting_is false at b e = absurd (none-some b e)

pub counting_within : (g : FlowGraph) (end : End) (n m : ℕ) → AreWithin g end n → n ≡ m → (edges : List Edge) → edges ≡ g.edges → (i : ℕ) → i < length edges → (block : Option ℕ) → block ≡ counting_block g end (get_or edges i no_edge) → IfSome block (λ b. b < m)
counting_within g end n m within same edges are i h block is =
    if_within block m (λ b e. subst (λ (k : ℕ). b < k) same (within i (get_or edges i no_edge) b (ap (λ (es : List Edge). slice_get es i) (sym are) ∙ slice_get-get_or edges i no_edge h)
    (counting_is (stands_at g end (get_or edges i no_edge)) (block_at g end (get_or edges i no_edge)) b (sym is ∙ e))))

-- ---- degrees

module _ (g : FlowGraph) (end : End) (edges : List Edge) (degrees : List ℕ) (i : ℕ) (lt : i < length edges) (are : AreDegrees g end (take i edges) degrees) where
  pub few_yet : length edges < 4294967296 → (b : ℕ) → slice_index degrees b < 4294967295
  few_yet few b =
      let a = are b in
      let c = count_few (λ (x : Edge). is_at b (block_at g end x)) edges i (omega (arith, lt)) in
      omega (arith, few, a, c, lt)

  pub degrees_more : (next : List ℕ) (e d : Edge) (block : Option ℕ) → e ≡ get_or edges i d → block ≡ block_at g end e → ((b : ℕ) → slice_index next b ≡ slice_index degrees b + cond {A = ℕ} (is_at b block) 1 0) → AreDegrees g end (take (i + 1) edges) next
  degrees_more next e d block is there raised b =
      raised b
      ∙ (λ j. are b j + cond {A = ℕ} (is_at b (there j)) 1 0)
      ∙ ap (λ (x : Edge). degree g end (take i edges) b + cond {A = ℕ} (is_at b (block_at g end x)) 1 0) is
      ∙ sym (count_more (λ (x : Edge). is_at b (block_at g end x)) edges i d lt)

-- ---- ranks

pub among_at : (xs : List ℕ) (i : ℕ) → i < length xs → Among (slice_index xs i) xs
among_at [] i h = absurd (omega (arith, h))
among_at (x ∷ xs) zero h = inl refl
among_at (x ∷ xs) (suc i) h = inr (among_at xs i (omega (arith, h)))

pub rank_more : (counted : List ℕ) (i k e : ℕ) (old new : Option ℕ) → i < length counted → e ≡ get_or counted i 0 → old ≡ counter_of (take i counted) k → new ≡ cond (e == k) (or_else old (Some i)) old → new ≡ counter_of (take (i + 1) counted) k
rank_more counted i k e old new h is was put =
    put ∙ as_one (e == k) old i ∙ (λ j. or_else (was j) (cond (is j == k) (Some i) None)) ∙ sym (position_more (λ (c : ℕ). c == k) counted i 0 h)
