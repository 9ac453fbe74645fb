-- Slots: each edge has its own, where the tables have it.
use Rattle.std.proofs.Common.{◌≡◌, ℕ, zero, suc, ◌+◌, ◌<◌, ◌==◌, Bool, true, false, cond, List, [], ◌∷◌, length, take, Option, Some, None, refl, sym, ◌∙◌, ap, subst, arith}
use Rattle.std.specs.Prelude.{slice_get, sum_by}
use Rattle.std.specs.Option.{option_map}
use Rattle.std.proofs.lemmas.Bool.{eqb-true, eq-eqb}
use Rattle.std.proofs.lemmas.List.Sums.{sum_by-cons}
use Rattle.ir_tree.specs.Successors.{ways_out}
use Rattle.ir_tree.specs.declared.types.Block.{Block}
use Rattle.ir_tree.specs.declared.types.Function.{Function}
use Rattle.ir_tree.specs.Edges.{edges_in}
use Rattle.ir_machine.specs.Slots.{place_in, IsWayOut, HasEdgeIn, block_slots, function_slots, all_slots, from_start, slot_at, entry_or}

-- the ways out of the blocks before a place, and the edges of the functions before a number
abbrev pub ways_before : List Block → ℕ → ℕ
ways_before bs place = sum_by ways_out (take place bs)

abbrev pub edges_before : List Function → ℕ → ℕ
edges_before fs k = sum_by edges_in (take k fs)

ways_none : (bs : List Block) → ways_before bs 0 ≡ 0
ways_none [] = refl
ways_none (b ∷ bs) = refl

edges_none : (fs : List Function) → edges_before fs 0 ≡ 0
edges_none [] = refl
edges_none (f ∷ fs) = refl

ways_step : (b : Block) (bs : List Block) (p : ℕ) → ways_before (b ∷ bs) (suc p) ≡ ways_out b + ways_before bs p
ways_step b bs p = sum_by-cons ways_out b (take p bs)

edges_step : (f : Function) (fs : List Function) (k : ℕ) → edges_before (f ∷ fs) (suc k) ≡ edges_in f + edges_before fs k
edges_step f fs k = sum_by-cons edges_in f (take k fs)

pub edges_defined : (f : Function) → 0 < length f.blocks → edges_in f ≡ 1 + sum_by ways_out f.blocks
edges_defined f some = by (length f.blocks == 0) refl
  where
    by : (b : Bool) → (length f.blocks == 0) ≡ b → cond b 0 (1 + sum_by ways_out f.blocks) ≡ 1 + sum_by ways_out f.blocks
    by true e = let none : length f.blocks ≡ 0 = eqb-true (length f.blocks) 0 e in absurd (omega (arith, some, none))
    by false e = refl

has_block : (bs : List Block) (p i : ℕ) → IsWayOut (slice_get bs p) i → 0 < length bs
has_block [] p i h = absurd h
has_block (b ∷ bs) p i h = omega arith

pub block_slot : (next : ℕ) (bs : List Block) (p : ℕ) → slice_get (block_slots next bs) p ≡ option_map (λ (b : Block). next + ways_before bs p) (slice_get bs p)
block_slot next [] p = refl
block_slot next (b ∷ bs) zero =
    let e : next ≡ next + ways_before (b ∷ bs) 0 = omega (arith, ways_none (b ∷ bs)) in ap (λ n. Some n) e
block_slot next (b ∷ bs) (suc p) =
    let e : next + ways_out b + ways_before bs p ≡ next + ways_before (b ∷ bs) (suc p) = omega (arith, ways_step b bs p) in
    block_slot (next + ways_out b) bs p ∙ ap (λ n. option_map (λ (c : Block). n) (slice_get bs p)) e

pub function_slot : (next : ℕ) (fs : List Function) (k : ℕ) → slice_get (all_slots next fs) k ≡ option_map (function_slots (next + edges_before fs k)) (slice_get fs k)
function_slot next [] k = refl
function_slot next (f ∷ fs) zero =
    let e : next ≡ next + edges_before (f ∷ fs) 0 = omega (arith, edges_none (f ∷ fs)) in
    ap (λ n. Some (function_slots n f)) e
function_slot next (f ∷ fs) (suc k) =
    let e : next + edges_in f + edges_before fs k ≡ next + edges_before (f ∷ fs) (suc k) = omega (arith, edges_step f fs k) in
    function_slot (next + edges_in f) fs k ∙ ap (λ n. option_map (function_slots n) (slice_get fs k)) e

in_block : (n : ℕ) (bs : List Block) (place position : ℕ) (o : Option Block) → slice_get bs place ≡ o → IsWayOut o position → from_start (option_map (λ (b : Block). n + 1 + ways_before bs place) o) position ≡ n + (1 + ways_before bs place + position)
in_block n bs place position None e h = absurd h
in_block n bs place position (Some b) e h = omega arith

in_function : (n : ℕ) (o : Option Function) (block : Option ℕ) (position : ℕ) → HasEdgeIn o block position → slot_at (option_map (function_slots n) o) block position ≡ n + place_in o block position
in_function n None block position h = absurd h
in_function n (Some f) None position h = omega arith
in_function n (Some f) (Some place) position h =
    ap (λ o. from_start o position) (block_slot (n + 1) f.blocks place)
    ∙ in_block n f.blocks place position (slice_get f.blocks place) refl h

-- the tables have the slot of each edge
pub slot_is : (fs : List Function) (k : ℕ) (block : Option ℕ) (position : ℕ) → HasEdgeIn (slice_get fs k) block position → slot_at (slice_get (all_slots 0 fs) k) block position ≡ edges_before fs k + place_in (slice_get fs k) block position
slot_is fs k block position h =
    let e : 0 + edges_before fs k ≡ edges_before fs k = omega arith in
    ap (λ o. slot_at o block position) (function_slot 0 fs k)
    ∙ ap (λ n. slot_at (option_map (function_slots n) (slice_get fs k)) block position) e
    ∙ in_function (edges_before fs k) (slice_get fs k) block position h

past_all : (fs : List Function) (k : ℕ) → slice_get fs k ≡ None → sum_by edges_in fs ≡ edges_before fs k
past_all [] zero e = refl
past_all [] (suc k) e = refl
past_all (f ∷ fs) zero e = cc
past_all (f ∷ fs) (suc k) e = omega (arith, sum_by-cons edges_in f fs, edges_step f fs k, past_all fs k e)

entry_at : (fs : List Function) (k total : ℕ) (o : Option Function) → slice_get fs k ≡ o → total ≡ sum_by edges_in fs → entry_or (option_map (function_slots (0 + edges_before fs k)) o) total ≡ edges_before fs k
entry_at fs k total None e t = t ∙ past_all fs k e
entry_at fs k total (Some f) e t = omega arith

-- the tables have the first edge of each function
pub entry_is : (fs : List Function) (k total : ℕ) → total ≡ sum_by edges_in fs → entry_or (slice_get (all_slots 0 fs) k) total ≡ edges_before fs k
entry_is fs k total t =
    ap (λ o. entry_or o total) (function_slot 0 fs k) ∙ entry_at fs k total (slice_get fs k) refl t

way_inside : (bs : List Block) (place position : ℕ) → IsWayOut (slice_get bs place) position → ways_before bs place + position < sum_by ways_out bs
way_inside [] place position h = absurd h
way_inside (b ∷ bs) zero position h = omega (arith, h, ways_none (b ∷ bs), sum_by-cons ways_out b bs)
way_inside (b ∷ bs) (suc place) position h =
    omega (arith, way_inside bs place position h, ways_step b bs place, sum_by-cons ways_out b bs)

abbrev pub Below : Option Function → ℕ → Type 0
Below None x = ⊥
Below (Some f) x = x < edges_in f

pub edge_below : (o : Option Function) (block : Option ℕ) (position : ℕ) → HasEdgeIn o block position → Below o (place_in o block position)
edge_below None block position h = absurd h
edge_below (Some f) None position h = let all = edges_defined f h in omega (arith, all)
edge_below (Some f) (Some place) position h =
    let all = edges_defined f (has_block f.blocks place position h) in
    let inside = way_inside f.blocks place position h in
    omega (arith, all, inside)

below_inside : (fs : List Function) (k x : ℕ) → Below (slice_get fs k) x → edges_before fs k + x < sum_by edges_in fs
below_inside [] k x h = absurd h
below_inside (f ∷ fs) zero x h = omega (arith, h, edges_none (f ∷ fs), sum_by-cons edges_in f fs)
below_inside (f ∷ fs) (suc k) x h = omega (arith, below_inside fs k x h, edges_step f fs k, sum_by-cons edges_in f fs)

-- the slot of an edge is below the number of all edges
pub slot_inside : (fs : List Function) (k : ℕ) (block : Option ℕ) (position : ℕ) → HasEdgeIn (slice_get fs k) block position → edges_before fs k + place_in (slice_get fs k) block position < sum_by edges_in fs
slot_inside fs k block position h =
    below_inside fs k (place_in (slice_get fs k) block position) (edge_below (slice_get fs k) block position h)

way_apart : (bs : List Block) (p q i j : ℕ) → IsWayOut (slice_get bs p) i → IsWayOut (slice_get bs q) j → ways_before bs p + i ≡ ways_before bs q + j → (p ≡ q) × (i ≡ j)
way_apart [] p q i j h g e = absurd h
way_apart (b ∷ bs) zero zero i j h g e = (refl, omega (arith, e, ways_none (b ∷ bs)))
way_apart (b ∷ bs) zero (suc q) i j h g e = absurd (omega (arith, h, e, ways_none (b ∷ bs), ways_step b bs q))
way_apart (b ∷ bs) (suc p) zero i j h g e = absurd (omega (arith, g, e, ways_none (b ∷ bs), ways_step b bs p))
way_apart (b ∷ bs) (suc p) (suc q) i j h g e =
    let rec = way_apart bs p q i j h g (omega (arith, e, ways_step b bs p, ways_step b bs q)) in (ap suc rec.0, rec.1)

function_apart : (fs : List Function) (k j x y : ℕ) → Below (slice_get fs k) x → Below (slice_get fs j) y → edges_before fs k + x ≡ edges_before fs j + y → (k ≡ j) × (x ≡ y)
function_apart [] k j x y h g e = absurd h
function_apart (f ∷ fs) zero zero x y h g e = (refl, omega (arith, e, edges_none (f ∷ fs)))
function_apart (f ∷ fs) zero (suc j) x y h g e = absurd (omega (arith, h, e, edges_none (f ∷ fs), edges_step f fs j))
function_apart (f ∷ fs) (suc k) zero x y h g e = absurd (omega (arith, g, e, edges_none (f ∷ fs), edges_step f fs k))
function_apart (f ∷ fs) (suc k) (suc j) x y h g e =
    let rec = function_apart fs k j x y h g (omega (arith, e, edges_step f fs k, edges_step f fs j)) in (ap suc rec.0, rec.1)

-- two edges of one function are one edge
abbrev pub SameEdge : Option ℕ → ℕ → Option ℕ → ℕ → Type 0
SameEdge None i None j = Unit {0}
SameEdge None i (Some q) j = ⊥
SameEdge (Some p) i None j = ⊥
SameEdge (Some p) i (Some q) j = (p ≡ q) × (i ≡ j)

edge_apart : (o : Option Function) (b c : Option ℕ) (i j : ℕ) → HasEdgeIn o b i → HasEdgeIn o c j → place_in o b i ≡ place_in o c j → SameEdge b i c j
edge_apart None b c i j h g e = absurd h
edge_apart (Some f) None None i j h g e = tt
edge_apart (Some f) None (Some q) i j h g e = absurd (omega arith)
edge_apart (Some f) (Some p) None i j h g e = absurd (omega arith)
edge_apart (Some f) (Some p) (Some q) i j h g e = way_apart f.blocks p q i j h g (omega arith)

-- edges with one slot are one edge
pub slot_apart : (fs : List Function) (k : ℕ) (b : Option ℕ) (i l : ℕ) (c : Option ℕ) (j : ℕ) → HasEdgeIn (slice_get fs k) b i → HasEdgeIn (slice_get fs l) c j
    → edges_before fs k + place_in (slice_get fs k) b i ≡ edges_before fs l + place_in (slice_get fs l) c j → (k ≡ l) × SameEdge b i c j
slot_apart fs k b i l c j h g e =
    let both = function_apart fs k l (place_in (slice_get fs k) b i) (place_in (slice_get fs l) c j) (edge_below (slice_get fs k) b i h) (edge_below (slice_get fs l) c j g) e in
    let g' : HasEdgeIn (slice_get fs k) c j = subst (λ n. HasEdgeIn (slice_get fs n) c j) (sym both.0) g in
    let e' : place_in (slice_get fs k) b i ≡ place_in (slice_get fs k) c j =
    both.1 ∙ ap (λ n. place_in (slice_get fs n) c j) (sym both.0) in
    (both.0, edge_apart (slice_get fs k) b c i j h g' e')

decided_if : (b c : Bool) (x y : ℕ) → (x == y) ≡ c → (b ≡ true → x ≡ y) → (x ≡ y → b ≡ true) → b ≡ c
decided_if true true x y e f g = refl
decided_if true false x y e f g = sym (eq-eqb x y (f refl)) ∙ e
decided_if false true x y e f g = g (eqb-true x y e)
decided_if false false x y e f g = refl

-- a test that holds just where two numbers are equal
pub decided : (b : Bool) (x y : ℕ) → (b ≡ true → x ≡ y) → (x ≡ y → b ≡ true) → b ≡ (x == y)
decided b x y f g = decided_if b (x == y) x y refl f g
