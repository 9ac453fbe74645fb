-- Counts that are raised by all that is seen of a run have risen by the traversals.
use Rattle.std.proofs.Common.{◌≡◌, ◌≢◌, ℕ, zero, suc, ◌+◌, ◌^◌, ◌<◌, ◌≤◌, ◌==◌, Bool, true, false, cond, List, [], ◌∷◌, ◌++◌, length, get_or, Option, Some, None, refl, sym, ◌∙◌, ap, subst, arith, get_or-set_same, get_or-set_other}
use Rattle.std.proofs.Math.ListN.{length-set}
use Rattle.std.specs.Prelude.{slice_get, slice_set, position, option_and_then, ◌&&◌}
use Rattle.std.specs.Option.{option_map}
use Rattle.std.specs.List.{count_by}
use Rattle.std.proofs.lemmas.List.Sums.{sum_by-cons}
use Rattle.std.proofs.lemmas.Bool.{eqb-true, eq-eqb}
use Rattle.std.proofs.lemmas.Option.{slice_get_within, get_or_from_slice_get}
use Rattle.ir_tree.specs.Blocks.{labels, block_named, block_place}
use Rattle.ir_tree.specs.Functions.{function_at, numbered}
use Rattle.ir_tree.specs.declared.types.Block.{Block}
use Rattle.ir_tree.specs.declared.types.Function.{Function}
use Rattle.ir_tree.specs.declared.types.Module.{Module}
use Rattle.ir_model.specs.declared.probe.Event.{Event}
use Rattle.ir_model.specs.declared.probe.Event.TheVariants as event
use Rattle.ir_model.specs.State.{Shown, Did, Targeted, Printed, Entered, Walked}
use Rattle.ir_model.specs.Step.{sought}
use Rattle.ir_model.specs.Log.{Walk, Into, Out, log, is_at, sought_place, is_walk_of}
use Rattle.ir_code.specs.Units.{told}
use Rattle.ir_machine.specs.declared.slots.FunctionSlots.{FunctionSlots}
use Rattle.ir_machine.specs.declared.state.Sight.{Sight}
use Rattle.ir_machine.specs.declared.state.Sight.TheVariants as sight
use Rattle.ir_machine.specs.Steps.{sights, seen_marks}
use Rattle.ir_machine.specs.Counts.{one_more, raised, raised_to, raised_entry, raised_way, raised_out, raised_by, counted}
use Rattle.ir_machine.specs.Slots.{edges_of_all, first_edge_of, slot_of, HasEdge, HasEdgeIn, IsWayOut, place_in, block_slots, function_slots, all_slots}
use Rattle.ir_machine.proofs.InStep.{block_number, units, view}
use Rattle.ir_machine.proofs.Places.{place_of, place_among, block_at}
use Rattle.ir_machine.proofs.Numbers.{ways_before, block_slot, function_slot, slot_inside, slot_apart, SameEdge, decided}
use Rattle.ir_machine.proofs.Results.{sights-append}
use Rattle.ir_machine.proofs.WaysOut.{AreOwn}

got : (xs : List ℕ) (i : ℕ) → i < length xs → slice_get xs i ≡ Some (get_or xs i 0)
got [] i h = absurd (omega arith)
got (x ∷ xs) zero h = refl
got (x ∷ xs) (suc i) h = got xs i (omega arith)

raised_is : (counts : List ℕ) (w : ℕ) → w < length counts → get_or counts w 0 + 1 < 2 ^ 64 → raised counts w ≡ slice_set counts w (get_or counts w 0 + 1)
raised_is counts w h room =
    let e : one_more (get_or counts w 0) ≡ get_or counts w 0 + 1 = omega arith in
    ap (raised_to counts w) (got counts w h) ∙ ap (slice_set counts w) e

set_if : (counts : List ℕ) (w s v : ℕ) (b : Bool) → w < length counts → (w == s) ≡ b → v ≡ get_or counts w 0 + 1 → get_or (slice_set counts w v) s 0 ≡ get_or counts s 0 + cond b 1 0
set_if counts w s v true h e is =
    let here : w ≡ s = eqb-true w s e in
    ap (λ n. get_or (slice_set counts w v) n 0) (sym here) ∙ get_or-set_same counts w v 0 h ∙ is ∙ ap (λ n. get_or counts n 0 + 1) here
set_if counts w s v false h e is =
    let other : s ≢ w = λ q. let t : (w == s) ≡ true = eq-eqb w s (sym q) in cc in
    let r : get_or (slice_set counts w v) s 0 ≡ get_or counts s 0 = get_or-set_other counts w s v 0 other in
    omega arith

-- a slot is raised, and no other
pub raised_at : (counts : List ℕ) (w s : ℕ) → w < length counts → get_or counts w 0 + 1 < 2 ^ 64 → get_or (raised counts w) s 0 ≡ get_or counts s 0 + cond (w == s) 1 0
raised_at counts w s h room =
    ap (λ l. get_or l s 0) (raised_is counts w h room) ∙ set_if counts w s (get_or counts w 0 + 1) (w == s) h refl refl

raised_length_at : (counts : List ℕ) (w : ℕ) (o : Option ℕ) → length (raised_to counts w o) ≡ length counts
raised_length_at counts w None = refl
raised_length_at counts w (Some n) = length-set counts w (one_more n)

pub raised_length : (counts : List ℕ) (w : ℕ) → length (raised counts w) ≡ length counts
raised_length counts w = raised_length_at counts w (slice_get counts w)

set_most : (counts : List ℕ) (w s n : ℕ) (b : Bool) → w < length counts → get_or counts w 0 ≡ n → (w == s) ≡ b → get_or (slice_set counts w (one_more n)) s 0 ≤ get_or counts s 0 + 1
set_most counts w s n true h is e =
    let here : w ≡ s = eqb-true w s e in
    let q : get_or (slice_set counts w (one_more n)) s 0 ≡ one_more n =
    ap (λ i. get_or (slice_set counts w (one_more n)) i 0) (sym here) ∙ get_or-set_same counts w (one_more n) 0 h in
    let r : get_or counts s 0 ≡ n = ap (λ i. get_or counts i 0) (sym here) ∙ is in
    let u : one_more n ≤ n + 1 = omega arith in
    omega arith
set_most counts w s n false h is e =
    let other : s ≢ w = λ q. let t : (w == s) ≡ true = eq-eqb w s (sym q) in cc in
    let r : get_or (slice_set counts w (one_more n)) s 0 ≡ get_or counts s 0 =
    get_or-set_other counts w s (one_more n) 0 other in
    omega arith

most_at : (counts : List ℕ) (w s : ℕ) (o : Option ℕ) → slice_get counts w ≡ o → get_or (raised_to counts w o) s 0 ≤ get_or counts s 0 + 1
most_at counts w s None e = omega arith
most_at counts w s (Some n) e =
    set_most counts w s n (w == s) (slice_get_within counts w n e) (get_or_from_slice_get counts w n 0 e) refl

pub raised_most : (counts : List ℕ) (w s : ℕ) → get_or (raised counts w) s 0 ≤ get_or counts s 0 + 1
raised_most counts w s = most_at counts w s (slice_get counts w) refl

way_most : (counts : List ℕ) (position s : ℕ) (o : Option ℕ) → get_or (raised_way counts position o) s 0 ≤ get_or counts s 0 + 1
way_most counts position s None = omega arith
way_most counts position s (Some start) = raised_most counts (start + position) s

out_most : (counts : List ℕ) (block position s : ℕ) (o : Option FunctionSlots) → get_or (raised_out counts block position o) s 0 ≤ get_or counts s 0 + 1
out_most counts block position s None = omega arith
out_most counts block position s (Some own) = way_most counts position s (slice_get own.blocks block)

entry_most : (counts : List ℕ) (s : ℕ) (o : Option FunctionSlots) → get_or (raised_entry counts o) s 0 ≤ get_or counts s 0 + 1
entry_most counts s None = omega arith
entry_most counts s (Some own) = raised_most counts own.entry s

-- marks are not counted
marks_counted : (slots : List FunctionSlots) (counts : List ℕ) (es : List Event) (rest : List Sight) → counted slots counts (sights (seen_marks es) ++ rest) ≡ counted slots counts rest
marks_counted slots counts [] rest = refl
marks_counted slots counts (event.Walked k e ∷ es) rest = marks_counted slots counts es rest
marks_counted slots counts (event.Target k s c ∷ es) rest = marks_counted slots counts es rest
marks_counted slots counts (event.Added c s ∷ es) rest = marks_counted slots counts es rest
marks_counted slots counts (event.Noted s c ∷ es) rest = marks_counted slots counts es rest
marks_counted slots counts (event.Chose k s v ∷ es) rest = marks_counted slots counts es rest

-- a block with a way out is one of these
way_within : (bs : List Block) (b p : ℕ) → IsWayOut (slice_get bs b) p → b < length (labels bs)
way_within [] b p h = absurd h
way_within (c ∷ bs) zero p h = omega arith
way_within (c ∷ bs) (suc b) p h = let rec = way_within bs b p h in omega (arith, rec)

both_true : (a b : Bool) → a && b ≡ true → (a ≡ true) × (b ≡ true)
both_true true true e = (refl, refl)
both_true true false e = cc
both_true false true e = cc
both_true false false e = cc

all_true : (a b c : Bool) → a ≡ true → b ≡ true → c ≡ true → a && b && c ≡ true
all_true a b c e f g = (λ i. e i && f i && g i)

module _ (m : Module) (k : ℕ) (f : Function) (at : function_at m k ≡ Some f) (j : ℕ) (block : Option ℕ) (position : ℕ) (edge : HasEdge m j block position) where
  abbrev slot : ℕ
  slot = slot_of m j block position

  abbrev place : List ℕ → ℕ
  place l = place_of (labels f.blocks) l

  abbrev starts : List ℕ
  starts = block_slots (first_edge_of m k + 1) f.blocks

  own_edge : (l : List ℕ) (p : ℕ) → IsWayOut (slice_get f.blocks (place l)) p → HasEdge m k (Some (place l)) p
  own_edge l p h = subst (λ o. HasEdgeIn o (Some (place l)) p) (sym at) h

  inside : (l : List ℕ) (p : ℕ) → IsWayOut (slice_get f.blocks (place l)) p → place l < length (labels f.blocks)
  inside l p h = way_within f.blocks (place l) p h

  place_is : (l : List ℕ) (p : ℕ) → IsWayOut (slice_get f.blocks (place l)) p → sought_place m k l ≡ Some (place l)
  place_is l p h =
      ap (option_and_then (λ (g : Function). block_place g.blocks l)) at ∙ place_among (labels f.blocks) l (inside l p h)

  place_there : k ≡ j → (l : List ℕ) (p : ℕ) → IsWayOut (slice_get f.blocks (place l)) p → sought_place m j l ≡ Some (place l)
  place_there q l p h = ap (λ n. sought_place m n l) (sym q) ∙ place_is l p h

  walk_slot : (l : List ℕ) (p : ℕ) (b : Option ℕ) → IsWayOut (slice_get f.blocks (place l)) p → is_walk_of m j b position (Out k l p) ≡ true → slot_of m k (Some (place l)) p ≡ slot_of m j b position
  walk_slot l p None h e = cc
  walk_slot l p (Some q) h e =
      let first = both_true (k == j && is_at q (sought_place m j l)) (p == position) e in
      let second = both_true (k == j) (is_at q (sought_place m j l)) first.0 in
      let same_function : k ≡ j = eqb-true k j second.0 in
      let same_place : place l ≡ q =
      eqb-true (place l) q (ap (is_at q) (sym (place_there same_function l p h)) ∙ second.1) in
      let same_position : p ≡ position = eqb-true p position first.1 in
      λ i. slot_of m (same_function i) (Some (same_place i)) (same_position i)

  slot_walk : (l : List ℕ) (p : ℕ) (b : Option ℕ) → IsWayOut (slice_get f.blocks (place l)) p → (k ≡ j) × SameEdge (Some (place l)) p b position → is_walk_of m j b position (Out k l p) ≡ true
  slot_walk l p None h e = absurd e.1
  slot_walk l p (Some q) h e =
      all_true (k == j) (is_at q (sought_place m j l)) (p == position) (eq-eqb k j e.0) (ap (is_at q) (place_there e.0 l p h) ∙ eq-eqb (place l) q e.1.0) (eq-eqb p position e.1.1)

  -- a walk is one of the edge where it has the edge's slot
  is_walk : (l : List ℕ) (p : ℕ) → IsWayOut (slice_get f.blocks (place l)) p → is_walk_of m j block position (Out k l p) ≡ (slot_of m k (Some (place l)) p == slot)
  is_walk l p h =
      decided (is_walk_of m j block position (Out k l p)) (slot_of m k (Some (place l)) p) slot (walk_slot l p block h)
      (λ e. slot_walk l p block h (slot_apart (numbered m.functions) k (Some (place l)) p j block position (own_edge l p h) edge e))

  entry_slot : (b : Option ℕ) → is_walk_of m j b position (Into k) ≡ true → HasEdge m j b position → slot_of m k None 0 ≡ slot_of m j b position
  entry_slot None e h =
      let q : k ≡ j = eqb-true k j e in
      (λ i. slot_of m (q i) None 0) ∙ none_slot (function_at m j)
    where
      none_slot : (o : Option Function) → first_edge_of m j + place_in o None 0 ≡ first_edge_of m j + place_in o None position
      none_slot None = refl
      none_slot (Some g) = refl
  entry_slot (Some q) e h = cc

  slot_entry : (b : Option ℕ) → (k ≡ j) × SameEdge None 0 b position → is_walk_of m j b position (Into k) ≡ true
  slot_entry None e = eq-eqb k j e.0
  slot_entry (Some q) e = absurd e.1

  pub is_entry : 0 < length f.blocks → is_walk_of m j block position (Into k) ≡ (slot_of m k None 0 == slot)
  is_entry some =
      let own : HasEdge m k None 0 = subst (λ o. HasEdgeIn o None 0) (sym at) some in
      decided (is_walk_of m j block position (Into k)) (slot_of m k None 0) slot (λ e. entry_slot block e edge)
      (λ e. slot_entry block (slot_apart (numbered m.functions) k None 0 j block position own edge e))

  start_at : (l : List ℕ) (p : ℕ) (o : Option Block) → IsWayOut o p → (counts : List ℕ) → raised_way counts p (option_map (λ (b : Block). first_edge_of m k + 1 + ways_before f.blocks (place l)) o) ≡ raised counts (first_edge_of m k + (1 + ways_before f.blocks (place l) + p))
  start_at l p None h counts = absurd h
  start_at l p (Some b) h counts =
      let e : first_edge_of m k + 1 + ways_before f.blocks (place l) + p ≡ first_edge_of m k + (1 + ways_before f.blocks (place l) + p) = omega arith in
      ap (raised counts) e

  -- a way out is counted at its slot
  way_slot : (l : List ℕ) (p : ℕ) → IsWayOut (slice_get f.blocks (place l)) p → (counts : List ℕ) → raised_way counts p (slice_get starts (place l)) ≡ raised counts (slot_of m k (Some (place l)) p)
  way_slot l p h counts =
      ap (raised_way counts p) (block_slot (first_edge_of m k + 1) f.blocks (place l))
      ∙ start_at l p (slice_get f.blocks (place l)) h counts
      ∙ ap (λ o. raised counts (first_edge_of m k + place_in o (Some (place l)) p)) (sym at)

  slots_here : slice_get (all_slots 0 (numbered m.functions)) k ≡ Some (function_slots (first_edge_of m k) f)
  slots_here =
      let e : 0 + first_edge_of m k ≡ first_edge_of m k = omega arith in
      function_slot 0 (numbered m.functions) k
      ∙ ap (option_map (function_slots (0 + first_edge_of m k))) at
      ∙ ap (λ n. Some (function_slots n f)) e

  -- what is seen is counted at its slot
  pub left_at : (l : List ℕ) (p : ℕ) → IsWayOut (slice_get f.blocks (place l)) p → (counts : List ℕ) → raised_by (all_slots 0 (numbered m.functions)) counts (sight.Left k (place l) p) ≡ raised counts (slot_of m k (Some (place l)) p)
  left_at l p h counts = ap (raised_out counts (place l) p) slots_here ∙ way_slot l p h counts

  pub entered_at : (counts : List ℕ) → raised_by (all_slots 0 (numbered m.functions)) counts (sight.Entered k) ≡ raised counts (slot_of m k None 0)
  entered_at counts =
      let e : first_edge_of m k ≡ first_edge_of m k + 0 = omega arith in
      ap (raised_entry counts) slots_here ∙ ap (raised counts) (e ∙ ap (λ o. first_edge_of m k + place_in o None 0) (sym at))

  -- a block that is found has its ways out by its place
  pub way_found : (l : List ℕ) (p : ℕ) → IsWayOut (sought m k l) p → IsWayOut (slice_get f.blocks (place l)) p
  way_found l p h =
      let e : sought m k l ≡ slice_get f.blocks (place l) =
      ap (option_and_then (λ (g : Function). block_named g.blocks l)) at ∙ sym (block_at f.blocks l) in
      subst (λ o. IsWayOut o p) e h

module _ (m : Module) (j : ℕ) (block : Option ℕ) (position : ℕ) (edge : HasEdge m j block position) where
  abbrev all : List FunctionSlots
  all = all_slots 0 (numbered m.functions)

  abbrev here : ℕ
  here = slot_of m j block position

  abbrev test : Walk → Bool
  test = is_walk_of m j block position

  -- counts may rise by so much
  abbrev pub Room : List ℕ → ℕ → Type 0
  Room counts n = (s : ℕ) → get_or counts s 0 + n < 2 ^ 64

  abbrev after : List ℕ → List Shown → List ℕ
  after counts xs = counted all counts (sights (view m xs))

  abbrev Counts : List ℕ → List Shown → Type 0
  Counts counts xs = get_or (after counts xs) here 0 ≡ get_or counts here 0 + count_by test (log xs)

  -- one walk more, at its slot
  one_more_walk : (counts : List ℕ) (s : Sight) (w : ℕ) (walk : Walk) (xs : List Shown) → w < edges_of_all m → raised_by all counts s ≡ raised counts w → test walk ≡ (w == here) → length counts ≡ edges_of_all m → Room counts (suc (length (log xs))) → (length (raised counts w) ≡ edges_of_all m → Room (raised counts w) (length (log xs)) → Counts (raised counts w) xs) → get_or (counted all (raised_by all counts s) (sights (view m xs))) here 0 ≡ get_or counts here 0 + count_by test (walk ∷ log xs)
  one_more_walk counts s w walk xs inside is tested count room rec =
      let within : w < length counts = omega (arith, inside, count) in
      let enough : get_or counts w 0 + 1 < 2 ^ 64 = omega (arith, room w) in
      let next_count : length (raised counts w) ≡ edges_of_all m = raised_length counts w ∙ count in
      let next_room : (s : ℕ) → get_or (raised counts w) s 0 + length (log xs) < 2 ^ 64 =
      λ s. omega (arith, room s, raised_most counts w s) in
      let later = rec next_count next_room in
      let rise = raised_at counts w here within enough in
      let seen : ◌≡◌ {A = ℕ} (cond (test walk) 1 0) (cond (w == here) 1 0) = ap (λ b. cond b 1 0) tested in
      let total = sum_by-cons (λ (x : Walk). cond (test x) 1 0) walk (log xs) in
      ap (λ cs. get_or (counted all cs (sights (view m xs))) here 0) is ∙ later ∙ omega (arith, rise, seen, total)

  walked_in : (k : ℕ) (l : List ℕ) (p : ℕ) (xs : List Shown) (counts : List ℕ) (o : Option Function) → function_at m k ≡ o → IsWayOut (sought m k l) p → length counts ≡ edges_of_all m → Room counts (suc (length (log xs))) → ((cs : List ℕ) → length cs ≡ edges_of_all m → Room cs (length (log xs)) → Counts cs xs) → Counts counts (Walked k l p ∷ xs)
  walked_in k l p xs counts None at h count room rec =
      let none : sought m k l ≡ None = ap (option_and_then (λ (g : Function). block_named g.blocks l)) at in
      absurd (subst (λ o. IsWayOut o p) none h)
  walked_in k l p xs counts (Some f) at h count room rec =
      let way = way_found m k f at j block position edge l p h in
      let w : ℕ = slot_of m k (Some (place_of (labels f.blocks) l)) p in
      let inside : w < edges_of_all m =
      slot_inside (numbered m.functions) k (Some (place_of (labels f.blocks) l)) p (own_edge m k f at j block position edge l p way) in
      let numbers : get_or (after counts (Walked k l p ∷ xs)) here 0 ≡ get_or (counted all (raised_by all counts (sight.Left k (place_of (labels f.blocks) l) p)) (sights (view m xs))) here 0 =
      ap (λ o. get_or (counted all (raised_by all counts (sight.Left k (block_number m o l) p)) (sights (view m xs))) here 0) at in
      numbers
      ∙ one_more_walk counts (sight.Left k (place_of (labels f.blocks) l) p) w (Out k l p) xs inside (left_at m k f at j block position edge l p way counts) (is_walk m k f at j block position edge l p way) count room (rec (raised counts w))

  entered_in : (k : ℕ) (xs : List Shown) (counts : List ℕ) (o : Option Function) → function_at m k ≡ o → HasEdgeIn o None 0 → length counts ≡ edges_of_all m → Room counts (suc (length (log xs))) → ((cs : List ℕ) → length cs ≡ edges_of_all m → Room cs (length (log xs)) → Counts cs xs) → Counts counts (Entered k ∷ xs)
  entered_in k xs counts None at h count room rec = absurd h
  entered_in k xs counts (Some f) at h count room rec =
      let own : HasEdge m k None 0 = subst (λ o. HasEdgeIn o None 0) (sym at) h in
      let w : ℕ = slot_of m k None 0 in
      one_more_walk counts (sight.Entered k) w (Into k) xs (slot_inside (numbered m.functions) k None 0 own) (entered_at m k f at j block position edge counts) (is_entry m k f at j block position edge h) count room (rec (raised counts w))

  -- the count of an edge rises by its walks
  pub counted_is : (xs : List Shown) (counts : List ℕ) → AreOwn m xs → length counts ≡ edges_of_all m → Room counts (length (log xs)) → Counts counts xs
  counted_is [] counts own count room = omega arith
  counted_is (Did k l p what ∷ xs) counts own count room =
      ap (λ ss. get_or (counted all counts ss) here 0) (sights-append (seen_marks (told (units m) what)) (view m xs))
      ∙ ap (λ cs. get_or cs here 0) (marks_counted all counts (told (units m) what) (sights (view m xs)))
      ∙ counted_is xs counts own.1 count room
  counted_is (Targeted k l p callee ∷ xs) counts own count room = counted_is xs counts own.1 count room
  counted_is (Printed b ∷ xs) counts own count room = counted_is xs counts own.1 count room
  counted_is (Entered k ∷ xs) counts own count room =
      entered_in k xs counts (function_at m k) refl own.0 count room (λ cs e r. counted_is xs cs own.1 e r)
  counted_is (Walked k l p ∷ xs) counts own count room =
      walked_in k l p xs counts (function_at m k) refl own.0 count room (λ cs e r. counted_is xs cs own.1 e r)

-- no count rises by more than the edges that are walked
pub counted_most : (m : Module) (slots : List FunctionSlots) (xs : List Shown) (counts : List ℕ) (s : ℕ) → get_or (counted slots counts (sights (view m xs))) s 0 ≤ get_or counts s 0 + length (log xs)
counted_most m slots [] counts s = omega arith
counted_most m slots (Did k l p what ∷ xs) counts s =
    let e : get_or (counted slots counts (sights (view m (Did k l p what ∷ xs)))) s 0 ≡ get_or (counted slots counts (sights (view m xs))) s 0 =
    ap (λ ss. get_or (counted slots counts ss) s 0) (sights-append (seen_marks (told (units m) what)) (view m xs))
    ∙ ap (λ cs. get_or cs s 0) (marks_counted slots counts (told (units m) what) (sights (view m xs))) in
    let rec = counted_most m slots xs counts s in
    omega (arith, e, rec)
counted_most m slots (Targeted k l p callee ∷ xs) counts s = counted_most m slots xs counts s
counted_most m slots (Printed b ∷ xs) counts s = counted_most m slots xs counts s
counted_most m slots (Entered k ∷ xs) counts s =
    let rec = counted_most m slots xs (raised_entry counts (slice_get slots k)) s in
    let one = entry_most counts s (slice_get slots k) in
    omega (arith, rec, one)
counted_most m slots (Walked k l p ∷ xs) counts s =
    let rec = counted_most m slots xs (raised_out counts (block_number m (function_at m k) l) p (slice_get slots k)) s in
    let one = out_most counts (block_number m (function_at m k) l) p s (slice_get slots k) in
    omega (arith, rec, one)
