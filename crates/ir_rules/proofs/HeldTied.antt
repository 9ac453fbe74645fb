-- Registers that are held where they are read: item by item, and by what is given before.
use Rattle.std.proofs.Common.{◌≡◌, ℕ, zero, suc, ◌+◌, ◌<◌, ◌≤◌, Bool, true, false, not, ◌||◌, List, [], ◌∷◌, ◌++◌, length, take, Option, None, Some, slice_get, refl, sym, ap, subst, ◌∙◌, arith, inl, inr, ◌⊎◌, append_assoc}
use Rattle.std.specs.List.{cons_option}
use Rattle.std.proofs.lemmas.Bool.{and_from, and_parts, both_ways, false_from_ne_true, not-true, not_from_false, or_cases, or_left, or_right}
use Rattle.std.proofs.lemmas.List.{append-nil}
use Rattle.std.proofs.lemmas.Option.{none-some, same_Some, slice_get_within}
use Rattle.ir_rules.proofs.Counts.{Name}
use Rattle.ir_rules.proofs.Labelled.{block_at_label, has_position, label_place, only_block}
use Rattle.ir_rules.proofs.Members.{all_of, among_is, among_left, among_right, at_among, each_of, is_member, is_same, same_is}
use Rattle.ir_rules.proofs.WalksTied.{MarksStand, NamesBlocks, are_rows, passes_or_not, to_leads, to_walk}
use Rattle.ir_rules.specs.Assigned.{are_held, are_held_behind, is_before, is_held, is_held_behind, is_held_operand, rows_around}
use Rattle.ir_rules.specs.Lists.{Among, is_among, times}
use Rattle.ir_rules.specs.Scopes.{param_names, term_reads}
use Rattle.ir_rules.specs.Walks.{AllHeld, AtEnd, AtHead, HeldAt, IsBefore, Joined, Passes, Ready, Walks, entry_label}
use Rattle.ir_tree.specs.Blocks.{block_place, labels}
use Rattle.ir_tree.specs.Names.{same}
use Rattle.ir_tree.specs.Operands.{Entries, Use, result_name, result_names}
use Rattle.ir_tree.specs.Phis.{reads}
use Rattle.ir_tree.specs.Reach.{AreMarks, is_marked, reached}
use Rattle.ir_tree.specs.declared.types.Block.{Block}
use Rattle.ir_tree.specs.declared.types.Function.{Function}
use Rattle.ir_tree.specs.declared.types.Instr.{Instr}
use Rattle.ir_tree.specs.declared.types.Operand.{Operand}
use Rattle.ir_tree.specs.declared.types.Operand.TheVariants.{Int, Null, Local, Global}
use Rattle.ir_tree.specs.declared.types.Term.{Term}

-- ---- before a block

module _ (stand : MarksStand) (blocks : List Block) (once : (n : Name) → times n (labels blocks) ≤ 1) (named : NamesBlocks blocks) (r : Name) where
  nonempty : (b : ℕ) (y : Block) → slice_get blocks b ≡ Some y → 0 < length blocks
  nonempty b y at = let within : b < length blocks = slice_get_within blocks b y at in omega (arith, within)

  -- the first block
  first_block : (bs : List Block) (b : ℕ) (y : Block) → slice_get bs b ≡ Some y → (x : Block) × (slice_get bs 0 ≡ Some x) × (entry_label bs ≡ x.label)
  first_block [] b y at = absurd (none-some y at)
  first_block (x ∷ bs) b y at = (x, refl, refl)

  pub before : (b : ℕ) (y : Block) → slice_get blocks b ≡ Some y → is_before blocks r b ≡ true → IsBefore blocks y.label r
  unfolding is_before
  before b y at h w walk = by (passes_or_not r w)
    where
      marks : AreMarks (rows_around blocks r) (reached (rows_around blocks r))
      marks = stand (rows_around blocks r) (are_rows blocks r (nonempty b y at))

      bare : is_marked (reached (rows_around blocks r)) b ≡ false
      bare = not-true (is_marked (reached (rows_around blocks r)) b) h

      by : Passes r w ⊎ (Passes r w → ⊥) → Passes r w
      by (inl k) = k
      by (inr k) =
          let first = first_block blocks b y at in
          let from : block_place blocks (entry_label blocks) ≡ Some 0 = ap (λ (n : Name). block_place blocks n) first.2 ∙ label_place blocks once 0 first.0 first.1 in
          let leads = to_leads blocks r once named w (entry_label blocks) y.label 0 b from (label_place blocks once b y at) walk k in
          absurd (both_ways (is_marked (reached (rows_around blocks r)) b) bare (marks.complete b leads))

  pub before_from : (b : ℕ) (y : Block) → slice_get blocks b ≡ Some y → IsBefore blocks y.label r → is_before blocks r b ≡ true
  unfolding is_before
  before_from b y at h = not_from_false (is_marked (reached (rows_around blocks r)) b) (false_from_ne_true (is_marked (reached (rows_around blocks r)) b) (λ k. bare k))
    where
      marks : AreMarks (rows_around blocks r) (reached (rows_around blocks r))
      marks = stand (rows_around blocks r) (are_rows blocks r (nonempty b y at))

      bare : is_marked (reached (rows_around blocks r)) b ≡ true → ⊥
      bare k =
          let leads = marks.sound b k in
          let first = first_block blocks b y at in
          let walked = to_walk blocks r once named leads.0 0 b first.0 y first.1 at leads.1 in
          walked.2 (h walked.0 (subst (λ (n : Name). Walks blocks n walked.0 y.label) (sym first.2) walked.1))

-- a walk ends at a block
ends_at : (blocks : List Block) → NamesBlocks blocks → (w : List Block) (e l : Name) → Among e (labels blocks) → Walks blocks e w l → Among l (labels blocks)
ends_at blocks named [] e l at h = subst (λ (n : Name). Among n (labels blocks)) h at
ends_at blocks named (x ∷ w) e l at h = ends_at blocks named w h.0 l (named x h.1 h.0 h.3) h.4

-- ---- in a block

named_one : (y : Instr) (zs : List Instr) → result_names (y ∷ []) ++ result_names zs ≡ result_names (y ∷ zs)
named_one y zs = by (result_name y)
  where
    by : (o : Option Name) → cons_option o [] ++ result_names zs ≡ cons_option o (result_names zs)
    by None = refl
    by (Some n) = refl

among_front : (r : Name) (xs ys : List Name) → is_among r (xs ++ ys) ≡ true → (is_among r xs ≡ true) ⊎ Among r ys
among_front r [] ys h = inr (among_is r ys h)
among_front r (x ∷ xs) ys h = by (same r x) h (λ k. among_front r xs ys k)
  where
    by : (t : Bool) → (t || is_among r (xs ++ ys)) ≡ true → (is_among r (xs ++ ys) ≡ true → (is_among r xs ≡ true) ⊎ Among r ys) → ((t || is_among r xs) ≡ true) ⊎ Among r ys
    by true k rest = inl refl
    by false k rest = rest k

module _ (f : Function) (b : ℕ) where
  -- what the test says of a register behind these results, and what is held there
  abbrev pub Links : List Name → (Name → Type 0) → Type 0
  Links results H = (r : Name) → (is_held f b results r ≡ true → H r) × (H r → is_held f b results r ≡ true)

  held_more : (results more : List Name) (r : Name) → is_held f b (results ++ more) r ≡ true → (is_held f b results r ≡ true) ⊎ Among r more
  held_more results more r h = by (or_cases (is_among r (param_names f)) (is_among r (results ++ more) || is_before f.blocks r b) h)
    where
      later : (is_among r (results ++ more) ≡ true) ⊎ (is_before f.blocks r b ≡ true) → (is_held f b results r ≡ true) ⊎ Among r more
      later (inl k) = elim (among_front r results more k) [ inl here ↦ inl (or_right (is_among r (param_names f)) (is_among r results || is_before f.blocks r b) (or_left (is_among r results) (is_before f.blocks r b) here)) | inr there ↦ inr there ]
      later (inr k) = inl (or_right (is_among r (param_names f)) (is_among r results || is_before f.blocks r b) (or_right (is_among r results) (is_before f.blocks r b) k))

      by : (is_among r (param_names f) ≡ true) ⊎ ((is_among r (results ++ more) || is_before f.blocks r b) ≡ true) → (is_held f b results r ≡ true) ⊎ Among r more
      by (inl k) = inl (or_left (is_among r (param_names f)) (is_among r results || is_before f.blocks r b) k)
      by (inr k) = later (or_cases (is_among r (results ++ more)) (is_before f.blocks r b) k)

  more_held : (results more : List Name) (r : Name) → (is_held f b results r ≡ true) ⊎ Among r more → is_held f b (results ++ more) r ≡ true
  more_held results more r (inr at) = or_right (is_among r (param_names f)) (is_among r (results ++ more) || is_before f.blocks r b) (or_left (is_among r (results ++ more)) (is_before f.blocks r b) (is_member r (results ++ more) (among_right results more r at)))
  more_held results more r (inl h) = by (or_cases (is_among r (param_names f)) (is_among r results || is_before f.blocks r b) h)
    where
      later : (is_among r results ≡ true) ⊎ (is_before f.blocks r b ≡ true) → (is_among r (results ++ more) || is_before f.blocks r b) ≡ true
      later (inl k) = or_left (is_among r (results ++ more)) (is_before f.blocks r b) (is_member r (results ++ more) (among_left results more r (among_is r results k)))
      later (inr k) = or_right (is_among r (results ++ more)) (is_before f.blocks r b) k

      by : (is_among r (param_names f) ≡ true) ⊎ ((is_among r results || is_before f.blocks r b) ≡ true) → is_held f b (results ++ more) r ≡ true
      by (inl k) = or_left (is_among r (param_names f)) (is_among r (results ++ more) || is_before f.blocks r b) k
      by (inr k) = or_right (is_among r (param_names f)) (is_among r (results ++ more) || is_before f.blocks r b) (later (or_cases (is_among r results) (is_before f.blocks r b) k))

  links_more : (results more : List Name) (H : Name → Type 0) → Links results H → Links (results ++ more) (λ r. H r ⊎ Among r more)
  links_more results more H links r = (λ h. forth (held_more results more r h), λ k. more_held results more r (back k))
    where
      forth : (is_held f b results r ≡ true) ⊎ Among r more → H r ⊎ Among r more
      forth (inl k) = inl ((links r).0 k)
      forth (inr k) = inr k

      back : H r ⊎ Among r more → (is_held f b results r ≡ true) ⊎ Among r more
      back (inl k) = inl ((links r).1 k)
      back (inr k) = inr k

  operand_held : (results : List Name) (H : Name → Type 0) → Links results H → (o : Operand) → is_held_operand f b results o ≡ true → HeldAt H o
  operand_held results H links (Int value) h = tt
  operand_held results H links Null h = tt
  operand_held results H links (Local r) h = (links r).0 h
  operand_held results H links (Global name) h = tt

  held_operand : (results : List Name) (H : Name → Type 0) → Links results H → (o : Operand) → HeldAt H o → is_held_operand f b results o ≡ true
  held_operand results H links (Int value) h = refl
  held_operand results H links Null h = refl
  held_operand results H links (Local r) h = (links r).1 h
  held_operand results H links (Global name) h = refl

  all_held : (results : List Name) (H : Name → Type 0) → Links results H → (uses : List Use) → are_held f b results uses ≡ true → AllHeld H uses
  all_held results H links [] h = tt
  all_held results H links (u ∷ us) h =
      let parts = and_parts (is_held_operand f b results u.1) (are_held f b results us) h in
      (operand_held results H links u.1 parts.0, all_held results H links us parts.1)

  held_all : (results : List Name) (H : Name → Type 0) → Links results H → (uses : List Use) → AllHeld H uses → are_held f b results uses ≡ true
  held_all results H links [] h = refl
  held_all results H links (u ∷ us) h = and_from (is_held_operand f b results u.1) (are_held f b results us) (held_operand results H links u.1 h.0) (held_all results H links us h.1)

  -- each instruction and the terminator read what is held behind these results and those before them
  pub record AllReady (results : List Name) (xs : List Instr) (t : Term) : Type 0 where
    pub item : (i : ℕ) (x : Instr) → slice_get xs i ≡ Some x → are_held f b (results ++ result_names (take i xs)) (reads x) ≡ true
    pub exit : are_held f b (results ++ result_names xs) (term_reads t) ≡ true

  behind_one : (results : List Name) (y : Instr) (zs : List Instr) → (results ++ result_names (y ∷ [])) ++ result_names zs ≡ results ++ result_names (y ∷ zs)
  behind_one results y zs = append_assoc results (result_names (y ∷ [])) (result_names zs) ∙ ap (λ (ns : List Name). results ++ ns) (named_one y zs)

  pub ready : (results : List Name) (H : Name → Type 0) → Links results H → (xs : List Instr) (t : Term) → AllReady results xs t → Ready H xs t
  ready results H links [] t h =
      let behind : are_held f b results (term_reads t) ≡ true = ap (λ (ns : List Name). are_held f b ns (term_reads t)) (sym (append-nil results)) ∙ h.exit in
      all_held results H links (term_reads t) behind
  ready results H links (y ∷ ys) t h =
      let here : are_held f b results (reads y) ≡ true = ap (λ (ns : List Name). are_held f b ns (reads y)) (sym (append-nil results)) ∙ h.item 0 y refl in
      let later : AllReady (results ++ result_names (y ∷ [])) ys t = record {
        item = λ i x at. ap (λ (ns : List Name). are_held f b ns (reads x)) (behind_one results y (take i ys)) ∙ h.item (suc i) x at;
        exit = ap (λ (ns : List Name). are_held f b ns (term_reads t)) (behind_one results y ys) ∙ h.exit;
      } in
      (all_held results H links (reads y) here, ready (results ++ result_names (y ∷ [])) (λ r. H r ⊎ Among r (result_names (y ∷ []))) (links_more results (result_names (y ∷ [])) H links) ys t later)

  pub from_ready : (results : List Name) (H : Name → Type 0) → Links results H → (xs : List Instr) (t : Term) → Ready H xs t → AllReady results xs t
  from_ready results H links [] t h = record {
    item = λ i x at. absurd (none-some x at);
    exit = ap (λ (ns : List Name). are_held f b ns (term_reads t)) (append-nil results) ∙ held_all results H links (term_reads t) h;
  }
  from_ready results H links (y ∷ ys) t h = made (from_ready (results ++ result_names (y ∷ [])) (λ r. H r ⊎ Among r (result_names (y ∷ []))) (links_more results (result_names (y ∷ [])) H links) ys t h.1)
    where
      item : AllReady (results ++ result_names (y ∷ [])) ys t → (i : ℕ) (x : Instr) → slice_get (y ∷ ys) i ≡ Some x → are_held f b (results ++ result_names (take i (y ∷ ys))) (reads x) ≡ true
      item rest zero x at =
          let is : y ≡ x = same_Some y x at in
          let here : are_held f b results (reads y) ≡ true = held_all results H links (reads y) h.0 in
          ap (λ (ns : List Name). are_held f b ns (reads x)) (append-nil results) ∙ (ap (λ (z : Instr). are_held f b results (reads z)) (sym is) ∙ here)
      item rest (suc i) x at = ap (λ (ns : List Name). are_held f b ns (reads x)) (sym (behind_one results y (take i ys))) ∙ rest.item i x at

      made : AllReady (results ++ result_names (y ∷ [])) ys t → AllReady results (y ∷ ys) t
      made rest = record {
        item = item rest;
        exit = ap (λ (ns : List Name). are_held f b ns (term_reads t)) (sym (behind_one results y ys)) ∙ rest.exit;
      }

-- ---- at the head of a block, and at its end

module _ (stand : MarksStand) (f : Function) (once : (n : Name) → times n (labels f.blocks) ≤ 1) (named : NamesBlocks f.blocks) where
  pub head_links : (b : ℕ) (block : Block) → slice_get f.blocks b ≡ Some block → Links f b [] (AtHead f block.label)
  head_links b block at r = (λ h. forth (or_cases (is_among r (param_names f)) (is_before f.blocks r b) h), back)
    where
      forth : (is_among r (param_names f) ≡ true) ⊎ (is_before f.blocks r b ≡ true) → AtHead f block.label r
      forth (inl k) = inl (among_is r (param_names f) k)
      forth (inr k) = inr (before stand f.blocks once named r b block at k)

      back : AtHead f block.label r → is_held f b [] r ≡ true
      back (inl k) = or_left (is_among r (param_names f)) (is_before f.blocks r b) (is_member r (param_names f) k)
      back (inr k) = or_right (is_among r (param_names f)) (is_before f.blocks r b) (before_from stand f.blocks once named r b block at k)

  end_links : (b : ℕ) (block : Block) → slice_get f.blocks b ≡ Some block → Links f b (result_names block.instrs) (AtEnd f block.label)
  end_links b block at r = (λ h. forth (held_more f b [] (result_names block.instrs) r h), back)
    where
      forth : (is_held f b [] r ≡ true) ⊎ Among r (result_names block.instrs) → AtEnd f block.label r
      forth (inl k) = inl ((head_links b block at r).0 k)
      forth (inr k) = inr (block, at_among f.blocks b block at, refl, k)

      back : AtEnd f block.label r → is_held f b (result_names block.instrs) r ≡ true
      back (inl k) = more_held f b [] (result_names block.instrs) r (inl ((head_links b block at r).1 k))
      back (inr k) =
          let is : block ≡ k.0 = same_Some block k.0 (sym at ∙ only_block f.blocks once k.0 block.label b k.1 k.2 (label_place f.blocks once b block at)) in
          more_held f b [] (result_names block.instrs) r (inr (subst (λ (x : Block). Among r (result_names x.instrs)) (sym is) k.3))

  abbrev pub BehindEach : Operand → Name → ℕ → List Block → Type 0
  BehindEach v n b bs = (i : ℕ) (y : Block) → slice_get bs i ≡ Some y → (not (same n y.label) || is_held_operand f (b + i) (result_names y.instrs) v) ≡ true

  behind_each : (v : Operand) (n : Name) (b : ℕ) (bs : List Block) → is_held_behind f v n b bs ≡ true → BehindEach v n b bs
  behind_each v n b [] h i y at = absurd (none-some y at)
  behind_each v n b (x ∷ bs) h zero y at =
      let is : x ≡ y = same_Some x y at in
      let here = (and_parts (not (same n x.label) || is_held_operand f b (result_names x.instrs) v) (is_held_behind f v n (suc b) bs) h).0 in
      let place : b + 0 ≡ b = omega arith in
      ap (λ (k : ℕ). not (same n y.label) || is_held_operand f k (result_names y.instrs) v) place ∙ (ap (λ (z : Block). not (same n z.label) || is_held_operand f b (result_names z.instrs) v) (sym is) ∙ here)
  behind_each v n b (x ∷ bs) h (suc i) y at =
      let rest = (and_parts (not (same n x.label) || is_held_operand f b (result_names x.instrs) v) (is_held_behind f v n (suc b) bs) h).1 in
      let place : b + suc i ≡ suc b + i = omega arith in
      ap (λ (k : ℕ). not (same n y.label) || is_held_operand f k (result_names y.instrs) v) place ∙ behind_each v n (suc b) bs rest i y at

  each_behind : (v : Operand) (n : Name) (b : ℕ) (bs : List Block) → BehindEach v n b bs → is_held_behind f v n b bs ≡ true
  each_behind v n b [] h = refl
  each_behind v n b (x ∷ bs) h =
      let place : b ≡ b + 0 = omega arith in
      let here : (not (same n x.label) || is_held_operand f b (result_names x.instrs) v) ≡ true = ap (λ (k : ℕ). not (same n x.label) || is_held_operand f k (result_names x.instrs) v) place ∙ h 0 x refl in
      and_from (not (same n x.label) || is_held_operand f b (result_names x.instrs) v) (is_held_behind f v n (suc b) bs) here (each_behind v n (suc b) bs (λ i y at. let further : suc b + i ≡ b + suc i = omega arith in ap (λ (k : ℕ). not (same n y.label) || is_held_operand f k (result_names y.instrs) v) further ∙ h (suc i) y at))

  -- the operand at the end of the blocks of a label
  value_held : (v : Operand) (n : Name) → 0 < length f.blocks → is_held_behind f v n 0 f.blocks ≡ true → HeldAt (AtEnd f n) v
  value_held v n some h = by (is_among n (labels f.blocks)) refl
    where
      tested : (a : ℕ) (x : Block) → slice_get f.blocks a ≡ Some x → x.label ≡ n → is_held_operand f a (result_names x.instrs) v ≡ true
      tested a x at is =
          let place : a ≡ 0 + a = omega arith in
          let test : (not (same n x.label) || is_held_operand f a (result_names x.instrs) v) ≡ true = ap (λ (k : ℕ). not (same n x.label) || is_held_operand f k (result_names x.instrs) v) place ∙ behind_each v n 0 f.blocks h a x at in
          let labelled : same n x.label ≡ true = is_same n x.label (sym is) in
          ap (λ (t : Bool). not t || is_held_operand f a (result_names x.instrs) v) (sym labelled) ∙ test

      nowhere : is_among n (labels f.blocks) ≡ false → (o : Operand) → HeldAt (AtEnd f n) o
      nowhere none (Int value) = tt
      nowhere none Null = tt
      nowhere none (Local r) = inl (inr (λ w walk. absurd (both_ways (is_among n (labels f.blocks)) none (is_member n (labels f.blocks) (ends_at f.blocks named w (entry_label f.blocks) n (entry f.blocks some) walk)))))
        where
          entry : (bs : List Block) → 0 < length bs → Among (entry_label bs) (labels bs)
          entry [] k = absurd (omega (arith, k))
          entry (x ∷ bs) k = inl refl
      nowhere none (Global name) = tt

      by : (t : Bool) → is_among n (labels f.blocks) ≡ t → HeldAt (AtEnd f n) v
      by true e =
          let found = has_position n (labels f.blocks) (among_is n (labels f.blocks) e) in
          let here = block_at_label f.blocks n found.0 found.1 in
          subst (λ (l : Name). HeldAt (AtEnd f l) v) here.2 (operand_held f found.0 (result_names here.0.instrs) (AtEnd f here.0.label) (end_links found.0 here.0 here.1) v (tested found.0 here.0 here.1 here.2))
      by false e = nowhere e v

  held_value : (v : Operand) (n : Name) → HeldAt (AtEnd f n) v → is_held_behind f v n 0 f.blocks ≡ true
  held_value v n h = each_behind v n 0 f.blocks (λ a x at. by a x at (same n x.label) refl)
    where
      by : (a : ℕ) (x : Block) → slice_get f.blocks a ≡ Some x → (t : Bool) → same n x.label ≡ t → (not t || is_held_operand f (0 + a) (result_names x.instrs) v) ≡ true
      by a x at true e =
          let place : 0 + a ≡ a = omega arith in
          let labelled : HeldAt (AtEnd f x.label) v = subst (λ (l : Name). HeldAt (AtEnd f l) v) (same_is n x.label e) h in
          ap (λ (k : ℕ). is_held_operand f k (result_names x.instrs) v) place ∙ held_operand f a (result_names x.instrs) (AtEnd f x.label) (end_links a x at) v labelled
      by a x at false e = refl

  pub joined : (o : Option Entries) → 0 < length f.blocks → are_held_behind f o ≡ true → (es : Entries) → o ≡ Some es → Joined f es
  joined None some h es is v n at = absurd (none-some es is)
  joined (Some ds) some h es is v n at =
      let same_list : ds ≡ es = same_Some ds es is in
      value_held v n some (each_of (λ (e : Operand × Name). is_held_behind f e.0 e.1 0 f.blocks) ds h (v, n) (subst (λ (ls : Entries). Among (v, n) ls) (sym same_list) at))

  pub joined_from : (o : Option Entries) → ((es : Entries) → o ≡ Some es → Joined f es) → are_held_behind f o ≡ true
  joined_from None h = refl
  joined_from (Some es) h = all_of (λ (e : Operand × Name). is_held_behind f e.0 e.1 0 f.blocks) es (λ e at. held_value e.0 e.1 (h es refl e.0 e.1 at))
