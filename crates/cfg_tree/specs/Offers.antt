-- The edges that may join a new node, as the heap has them.
use Rattle.std.specs.Prelude.{◌≡◌, ℕ, ◌+◌, ◌≤◌, Bool, false, ◌&&◌, ◌⊎◌, List, [], Contains, length, slice_index}
use Rattle.std.specs.BinaryHeap.{IsHeap}
use Rattle.std.specs.Ordering.{nat_cmp, ordering_then}
use Rattle.std.specs.declared.cmp.Ordering.{Ordering}
use Rattle.std.specs.declared.cmp.Reverse.{Reverse}
use Rattle.ir_tree.specs.declared.edge.Edge.{Edge}
use Rattle.ir_tree.specs.Reach.{is_marked}
use Rattle.spanning_order.specs.Lists.{Among}
use Rattle.spanning_order.specs.Spanning.{edge_at}
use Rattle.cfg_tree.specs.Chains.{AreChains}
use Rattle.cfg_tree.specs.Incident.{numbers_at}
use Rattle.cfg_tree.specs.declared.chains.End.TheVariants.{Head, Tail}
use Rattle.cfg_tree.specs.declared.offers.Incident.{Incident}

abbrev pub AreIncident : List Edge → ℕ → Incident → Type 0
AreIncident edges nodes i = AreChains Tail edges nodes i.tails.first.items i.tails.next.items × AreChains Head edges nodes i.heads.first.items i.heads.next.items

abbrev pub Key : Type 0
Key = ℕ × Reverse ℕ

-- an edge stands in the heap by its weight, and by the reverse of its number
abbrev pub key : List ℕ → ℕ → Key
key weights k = (slice_index weights k, record { 0 = k })

abbrev pub key_cmp : Key → Key → Ordering
key_cmp x y = ordering_then (nat_cmp x.0 y.0) (nat_cmp y.1.0 x.1.0)

abbrev pub is_joined : List Bool → Edge → Bool
is_joined marks e = is_marked marks e.from && is_marked marks e.to

-- what the offer of one edge makes of a heap
pub record OffersOne (edges : List Edge) (weights : List ℕ) (marks : List Bool) (k : ℕ) (old new : List Key) : Type 0 where
  pub ordered : IsHeap key_cmp old → IsHeap key_cmp new
  pub kept : (x : Key) → Contains old x → Contains new x
  pub only : (x : Key) → Contains new x → Contains old x ⊎ (x ≡ key weights k)
  pub has : is_joined marks (edge_at edges k) ≡ false → Contains new (key weights k)
  pub few : length new ≤ length old + 1

-- what the offers of a row of edges make of a heap, where those of the rest are not offered yet
pub record Offers (edges : List Edge) (weights : List ℕ) (marks : List Bool) (row rest : List ℕ) (old new : List Key) : Type 0 where
  pub ordered : IsHeap key_cmp old → IsHeap key_cmp new
  pub kept : (x : Key) → Contains old x → Contains new x
  pub only : (x : Key) → Contains new x → Contains old x ⊎ ((k : ℕ) × Among k row × (x ≡ key weights k))
  pub has : (k : ℕ) → Among k row → is_joined marks (edge_at edges k) ≡ false → Among k rest ⊎ Contains new (key weights k)
  pub rests : (k : ℕ) → Among k rest → Among k row
  pub few : length new + length rest ≤ length old + length row

-- the edges that leave a node, and then those that enter it
pub record OffersBoth (edges : List Edge) (weights : List ℕ) (marks : List Bool) (v : ℕ) (old new : List Key) : Type 0 where
  pub between : List Key
  pub leaving : Offers edges weights marks (numbers_at Tail 0 edges v) [] old between
  pub entering : Offers edges weights marks (numbers_at Head 0 edges v) [] between new
