-- Registers assigned before a block: by the blocks that can still be reached, and along walks.
use Rattle.std.proofs.Common.{◌≡◌, ℕ, zero, suc, ◌<◌, ◌≤◌, Bool, true, false, cond, List, [], ◌∷◌, length, map, get_or, Option, None, Some, slice_get, refl, sym, ap, subst, ◌∙◌, arith, inl, inr, ◌⊎◌}
use Rattle.std.specs.Option.{option_map, unwrap_or}
use Rattle.std.proofs.lemmas.Bool.{both_ways, false_from_ne_true}
use Rattle.std.proofs.lemmas.List.{get_or_past, length-map}
use Rattle.std.proofs.lemmas.Option.{get_or_from_slice_get, none-some, same_Some, slice_get-map, slice_get_cases, slice_get_within}
use Rattle.ir_rules.proofs.Counts.{Name}
use Rattle.ir_rules.proofs.Labelled.{block_at_label, has_position, only_block}
use Rattle.ir_rules.proofs.Members.{among_at, among_is, at_among, is_member}
use Rattle.ir_rules.specs.Assigned.{assigns, rows_around}
use Rattle.ir_rules.specs.Lists.{Among, is_among, times}
use Rattle.ir_rules.specs.Walks.{Passes, Walks}
use Rattle.ir_tree.specs.Blocks.{block_place, labels}
use Rattle.ir_tree.specs.Edges.{row_of}
use Rattle.ir_tree.specs.Operands.{result_names}
use Rattle.ir_tree.specs.Reach.{AreMarks, AreRows, Leads, reached, row}
use Rattle.ir_tree.specs.Successors.{successors}
use Rattle.ir_tree.specs.declared.types.Block.{Block}

-- the law on computed marks
abbrev pub MarksStand : Type 0
MarksStand = (rows : List (List ℕ)) → AreRows rows → AreMarks rows (reached rows)

-- a label that a terminator names is a block's
abbrev pub NamesBlocks : List Block → Type 0
NamesBlocks blocks = (x : Block) → Among x blocks → (to : Name) → Among to (successors x.term) → Among to (labels blocks)

-- ---- the rows around the blocks that assign a register

module _ (blocks : List Block) (r : Name) where
  abbrev row_around : Block → List ℕ
  row_around block = cond (assigns r block) [] (row_of blocks block)

  row_at : (a : ℕ) (x : Block) → slice_get blocks a ≡ Some x → row (rows_around blocks r) a ≡ row_around x
  row_at a x at =
      let there : slice_get (rows_around blocks r) a ≡ Some (row_around x) = slice_get-map row_around blocks a ∙ ap (λ (o : Option Block). option_map row_around o) at in
      get_or_from_slice_get (rows_around blocks r) a (row_around x) [] there

  as_many_rows : length (rows_around blocks r) ≡ length blocks
  as_many_rows = length-map blocks row_around

  place_within : (to : Name) → 0 < length blocks → unwrap_or (block_place blocks to) 0 < length blocks
  place_within to some = by (block_place blocks to) refl
    where
      by : (o : Option ℕ) → block_place blocks to ≡ o → unwrap_or o 0 < length blocks
      by None e = some
      by (Some d) e = let found = block_at_label blocks to d e in slice_get_within blocks d found.0 found.1

  -- a place in a mapped list is one of the list
  from_map : {X Y : Type 0} (g : X → Y) (xs : List X) (p : ℕ) (y : Y) → slice_get (map g xs) p ≡ Some y → (x : X) × (slice_get xs p ≡ Some x) × (g x ≡ y)
  from_map g [] p y at = absurd (none-some y at)
  from_map g (x ∷ xs) zero y at = (x, refl, same_Some (g x) y at)
  from_map g (x ∷ xs) (suc p) y at = from_map g xs p y at

  -- a successor in a row: the block assigns nothing, and names a label
  successor_of : (x : Block) (p c : ℕ) → slice_get (row_around x) p ≡ Some c → (assigns r x ≡ false) × ((to : Name) × (slice_get (successors x.term) p ≡ Some to) × (unwrap_or (block_place blocks to) 0 ≡ c))
  successor_of x p c at = by (assigns r x) refl at
    where
      by : (t : Bool) → assigns r x ≡ t → slice_get (cond t [] (row_of blocks x)) p ≡ Some c → (assigns r x ≡ false) × ((to : Name) × (slice_get (successors x.term) p ≡ Some to) × (unwrap_or (block_place blocks to) 0 ≡ c))
      by true e h = absurd (none-some c h)
      by false e h = (e, from_map (λ (to : Name). unwrap_or (block_place blocks to) 0) (successors x.term) p c h)

  pub are_rows : 0 < length blocks → AreRows (rows_around blocks r)
  are_rows some = record {
    entry = let size : length (rows_around blocks r) ≡ length blocks = as_many_rows in omega (arith, some, size);
    targets = λ b p t at. within b p t at (slice_get_cases blocks b).1;
  }
    where
      within : (b p t : ℕ) → slice_get (row (rows_around blocks r) b) p ≡ Some t → ((x : Block) × (b < length blocks) × (slice_get blocks b ≡ Some x) × (get_or blocks b x ≡ x)) ⊎ ((length blocks ≤ b) × (slice_get blocks b ≡ None)) → t < length (rows_around blocks r)
      within b p t at (inl found) =
          let here : slice_get (row_around found.0) p ≡ Some t = ap (λ (ts : List ℕ). slice_get ts p) (sym (row_at b found.0 found.2)) ∙ at in
          let next = (successor_of found.0 p t here).1 in
          let inside : unwrap_or (block_place blocks next.0) 0 < length blocks = place_within next.0 some in
          let size : length (rows_around blocks r) ≡ length blocks = as_many_rows in
          omega (arith, inside, size, next.2)
      within b p t at (inr past) =
          let size : length (rows_around blocks r) ≡ length blocks = as_many_rows in
          let outside : length (rows_around blocks r) ≤ b = omega (arith, size, past.0) in
          let nothing : row (rows_around blocks r) b ≡ [] = get_or_past (rows_around blocks r) b [] outside in
          absurd (none-some t (ap (λ (ts : List ℕ). slice_get ts p) (sym nothing) ∙ at))

-- ---- whether a walk passes an assignment

pub passes_or_not : (r : Name) (w : List Block) → Passes r w ⊎ (Passes r w → ⊥)
passes_or_not r [] = inr (λ h. h)
passes_or_not r (b ∷ w) = by (is_among r (result_names b.instrs)) refl (passes_or_not r w)
  where
    by : (t : Bool) → is_among r (result_names b.instrs) ≡ t → Passes r w ⊎ (Passes r w → ⊥) → Passes r (b ∷ w) ⊎ (Passes r (b ∷ w) → ⊥)
    by true e rest = inl (inl (among_is r (result_names b.instrs) e))
    by false e (inl h) = inl (inr h)
    by false e (inr h) = inr (λ k. neither k)
      where
        neither : Passes r (b ∷ w) → ⊥
        neither (inl here) = both_ways (is_among r (result_names b.instrs)) e (is_member r (result_names b.instrs) here)
        neither (inr later) = h later

-- ---- walks by labels and by numbers

module _ (blocks : List Block) (r : Name) (once : (n : Name) → times n (labels blocks) ≤ 1) (named : NamesBlocks blocks) where
  -- the block of a label that a terminator names
  target_place : (x : Block) (a : ℕ) (to : Name) → slice_get blocks a ≡ Some x → Among to (successors x.term) → (d : ℕ) × (block_place blocks to ≡ Some d)
  target_place x a to at among = has_position to (labels blocks) (named x (at_among blocks a x at) to among)

  abbrev pub Walked : Block → Block → Type 0
  Walked x y = (w : List Block) × Walks blocks x.label w y.label × (Passes r w → ⊥)

  pub to_walk : (ps : List ℕ) (a b : ℕ) (x y : Block) → slice_get blocks a ≡ Some x → slice_get blocks b ≡ Some y → Leads (rows_around blocks r) ps a b → Walked x y
  to_walk [] a b x y at there h =
      let is : x ≡ y = same_Some x y (sym at ∙ (ap (λ (k : ℕ). slice_get blocks k) h ∙ there)) in
      ([], ap (λ (z : Block). z.label) is, λ k. k)
  to_walk (p ∷ ps) a b x y at there h =
      let c : ℕ = h.0 in
      let here : slice_get (row_around blocks r x) p ≡ Some c = ap (λ (ts : List ℕ). slice_get ts p) (sym (row_at blocks r a x at)) ∙ h.1 in
      let out = successor_of blocks r x p c here in
      let to : Name = out.1.0 in
      let among : Among to (successors x.term) = at_among (successors x.term) p to out.1.1 in
      let found = target_place x a to at among in
      let number : found.0 ≡ c = ap (λ (o : Option ℕ). unwrap_or o 0) (sym found.1) ∙ out.1.2 in
      let next = block_at_label blocks to found.0 found.1 in
      let at_c : slice_get blocks c ≡ Some next.0 = ap (λ (k : ℕ). slice_get blocks k) (sym number) ∙ next.1 in
      joined x y to at among out.0 next.0 next.2 (to_walk ps c b next.0 y at_c there h.2)
    where
      joined : (x y : Block) (to : Name) → slice_get blocks a ≡ Some x → Among to (successors x.term) → assigns r x ≡ false → (z : Block) → z.label ≡ to → ((w : List Block) × Walks blocks z.label w y.label × (Passes r w → ⊥)) → (w : List Block) × Walks blocks x.label w y.label × (Passes r w → ⊥)
      joined x y to at among none z is rest =
          (x ∷ rest.0, (to, at_among blocks a x at, refl, among, subst (λ (n : Name). Walks blocks n rest.0 y.label) is rest.1), λ k. neither x rest.0 none rest.2 k)
        where
          neither : (x : Block) (w : List Block) → assigns r x ≡ false → (Passes r w → ⊥) → Passes r (x ∷ w) → ⊥
          neither x w none later (inl k) = both_ways (assigns r x) none (is_member r (result_names x.instrs) k)
          neither x w none later (inr k) = later k

  pub to_leads : (w : List Block) (e l : Name) (a b : ℕ) → block_place blocks e ≡ Some a → block_place blocks l ≡ Some b → Walks blocks e w l → (Passes r w → ⊥) → (ps : List ℕ) × Leads (rows_around blocks r) ps a b
  to_leads [] e l a b at there h passes = ([], same_Some a b (sym at ∙ (ap (λ (n : Name). block_place blocks n) h ∙ there)))
  to_leads (x ∷ w) e l a b at there h passes =
      let c : Name = h.0 in
      let here : slice_get blocks a ≡ Some x = only_block blocks once x e a h.1 h.2 at in
      let none : assigns r x ≡ false = false_from_ne_true (assigns r x) (λ k. passes (inl (among_is r (result_names x.instrs) k))) in
      let found = target_place x a c here h.3 in
      let spot = among_at (successors x.term) c h.3 in
      let whole : row (rows_around blocks r) a ≡ row_of blocks x = row_at blocks r a x here ∙ as_whole x none in
      let in_row : slice_get (row (rows_around blocks r) a) spot.0 ≡ Some found.0 = ap (λ (ts : List ℕ). slice_get ts spot.0) whole ∙ (slice_get-map (λ (to : Name). unwrap_or (block_place blocks to) 0) (successors x.term) spot.0 ∙ (ap (λ (o : Option Name). option_map (λ (to : Name). unwrap_or (block_place blocks to) 0) o) spot.1 ∙ ap (λ (o : Option ℕ). Some (unwrap_or o 0)) found.1)) in
      let rest = to_leads w c l found.0 b found.1 there h.4 (λ k. passes (inr k)) in
      (spot.0 ∷ rest.0, (found.0, in_row, rest.1))
    where
      as_whole : (x : Block) → assigns r x ≡ false → row_around blocks r x ≡ row_of blocks x
      as_whole x none = ap (λ (t : Bool). cond t [] (row_of blocks x)) none
