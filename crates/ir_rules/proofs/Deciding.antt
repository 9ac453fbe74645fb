-- A register is held where its look-up says so.
use Rattle.std.proofs.Common.{◌≡◌, ℕ, zero, suc, ◌+◌, ◌<◌, ◌≤◌, ◌⊎◌, inl, inr, Bool, true, false, cond, not, ◌==◌, ◌&&◌, ◌||◌, nat_lt, List, [], ◌∷◌, ◌++◌, length, map, take, Option, Some, None, slice_get, set, refl, sym, ap, subst, ◌∙◌, arith, add-zero}
use Rattle.std.specs.List.{filter_map}
use Rattle.std.proofs.lemmas.Bool.{and_from, and_parts, both_ways, cases_eq, eq-eqb, eqb-true, false_from_ne_true, lt-ltb, ltb-true, ne_eqb, or_left}
use Rattle.std.proofs.lemmas.List.{take_all}
use Rattle.std.proofs.lemmas.Option.{none-some, same_Some, slice_get_within}
use Rattle.ir_rules.proofs.Counts.{Name}
use Rattle.ir_rules.proofs.Finding.{among_made, finds_names, giver_decides, made_among}
use Rattle.ir_rules.proofs.Labelled.{label_place, labels_once}
use Rattle.ir_rules.proofs.Members.{among_is, is_member, is_same, map_among, same_is}
use Rattle.ir_rules.specs.Assigned.{is_before, is_held, is_held_behind, is_held_operand}
use Rattle.ir_rules.specs.Existing.{value_names}
use Rattle.ir_rules.specs.Finding.{FindsNames, HeldAsFound, IsLabelOf, IsNamed, IsResultOf, is_held_at_end, is_held_found, is_open_without, is_param_found, kind_is_held, kind_is_held_at_end, kind_is_param, kind_result, kind_ret, result_found, ret_found}
use Rattle.ir_rules.specs.Lists.{Among, is_among, times}
use Rattle.ir_rules.specs.Scopes.{param_names, values}
use Rattle.ir_tree.specs.Blocks.{block_place, labels}
use Rattle.ir_tree.specs.Edges.{rows}
use Rattle.ir_tree.specs.Locals.{first_local}
use Rattle.ir_tree.specs.Names.{same}
use Rattle.ir_tree.specs.Operands.{result_name, result_names}
use Rattle.ir_tree.specs.declared.locals.Local.{Local}
use Rattle.ir_tree.specs.declared.locals.LocalKind.{LocalKind}
use Rattle.ir_tree.specs.declared.locals.LocalKind.TheVariants.{Param, Result, Label}
use Rattle.ir_tree.specs.declared.types.Block.{Block}
use Rattle.ir_tree.specs.declared.types.Function.{Function}
use Rattle.ir_tree.specs.declared.types.Instr.{Instr}
use Rattle.ir_tree.specs.declared.types.Operand.{Operand}
use Rattle.ir_tree.specs.declared.types.Operand.TheVariants as operand
use Rattle.ir_tree.specs.declared.types.Ret.{Ret}

same_tests : (a b : Bool) → (a ≡ true → b ≡ true) → (b ≡ true → a ≡ true) → a ≡ b
same_tests true b h k = sym (h refl)
same_tests false true h k = k refl
same_tests false false h k = refl

-- an instruction in the front of a block stands before its end
taken_at : {X : Type 0} (i : ℕ) (xs : List X) (j : ℕ) (x : X) → slice_get (take i xs) j ≡ Some x → (j < i) × (slice_get xs j ≡ Some x)
taken_at zero xs j x at = absurd (none-some x at)
taken_at (suc i) [] j x at = absurd (none-some x at)
taken_at (suc i) (y ∷ ys) zero x at = (omega arith, at)
taken_at (suc i) (y ∷ ys) (suc j) x at = let rest = taken_at i ys j x at in (omega (arith, rest.0), rest.1)

at_taken : {X : Type 0} (i : ℕ) (xs : List X) (j : ℕ) (x : X) → j < i → slice_get xs j ≡ Some x → slice_get (take i xs) j ≡ Some x
at_taken zero xs j x h at = absurd (omega (arith, h))
at_taken (suc i) [] j x h at = absurd (none-some x at)
at_taken (suc i) (y ∷ ys) zero x h at = at
at_taken (suc i) (y ∷ ys) (suc j) x h at = at_taken i ys j x (omega (arith, h)) at

module _ (f : Function) (known : IsNamed f) where
  finds : FindsNames f
  finds = finds_names f known

  -- a parameter or result has a type, so its look-up finds one
  has_ret : (r : Name) → Among r (value_names f) → (s : Ret) × (ret_found (first_local f r) ≡ Some s)
  has_ret r at =
      let found = map_among (λ (v : Name × Ret). v.0) (values f) r at in
      let typed : Among {X = Name × Ret} (r, found.0.1) (values f) = subst (λ (v : Name × Ret). Among v (values f)) (λ i. (sym found.2 i, found.0.1)) found.1 in
      (found.0.1, (finds.value r found.0.1).0 typed)

  module _ (r : Name) (l : Local) (is : first_local f r ≡ Some l) where
    -- a result that is found is no parameter
    no_param : (s : Ret) → l.kind ≡ Result s → is_among r (param_names f) ≡ false
    no_param s k = false_from_ne_true (is_among r (param_names f)) (λ h. let found : is_param_found (first_local f r) ≡ true = (finds.param r).0 (among_is r (param_names f) h) in let other : is_param_found (first_local f r) ≡ false = ap is_param_found is ∙ ap kind_is_param k in both_ways (is_param_found (first_local f r)) other found)

    place_of : (s : Ret) → l.kind ≡ Result s → result_found (first_local f r) ≡ Some (l.block, l.item)
    place_of s k = ap result_found is ∙ ap (λ (t : LocalKind). kind_result t l.block l.item) k

    given : (s : Ret) → l.kind ≡ Result s → IsResultOf f r l.block l.item
    given s k = (finds.result r l.block l.item).1 (place_of s k)

    is_param : (t : _) → l.kind ≡ Param t → is_among r (param_names f) ≡ true
    is_param t k = is_member r (param_names f) ((finds.param r).1 (ap is_param_found is ∙ ap kind_is_param k))

    no_label : Among r (value_names f) → l.kind ≡ Label → ⊥
    no_label at k = let typed = has_ret r at in none-some typed.0 (sym (ap ret_found is ∙ ap kind_ret k) ∙ typed.1)

    -- among the results before item i of block b exactly where it stands there
    stands_before : (s : Ret) → l.kind ≡ Result s → (b i : ℕ) (block : Block) → slice_get f.blocks b ≡ Some block → is_among r (result_names (take i block.instrs)) ≡ (l.block == b && nat_lt l.item i)
    stands_before s k b i block at = same_tests (is_among r (result_names (take i block.instrs))) (l.block == b && nat_lt l.item i) forth back
      where
        forth : is_among r (result_names (take i block.instrs)) ≡ true → (l.block == b && nat_lt l.item i) ≡ true
        forth h =
            let item = among_made result_name (take i block.instrs) r (among_is r (result_names (take i block.instrs)) h) in
            let there = taken_at i block.instrs item.0 item.1 item.2 in
            let here : result_found (first_local f r) ≡ Some (b, item.0) = (finds.result r b item.0).0 (block, item.1, at, there.1, item.3) in
            let same_place : ◌≡◌ {A = ℕ × ℕ} (l.block, l.item) (b, item.0) = same_Some (l.block, l.item) (b, item.0) (sym (place_of s k) ∙ here) in
            let of_block : l.block ≡ b = ap (λ (q : ℕ × ℕ). q.0) same_place in
            let of_item : l.item ≡ item.0 = ap (λ (q : ℕ × ℕ). q.1) same_place in
            and_from (l.block == b) (nat_lt l.item i) (eq-eqb l.block b of_block) (lt-ltb l.item i (omega (arith, of_item, there.0)))

        back : (l.block == b && nat_lt l.item i) ≡ true → is_among r (result_names (take i block.instrs)) ≡ true
        back h =
            let parts = and_parts (l.block == b) (nat_lt l.item i) h in
            let of_block : l.block ≡ b = eqb-true l.block b parts.0 in
            let from = given s k in
            let same_block : from.0 ≡ block = same_Some from.0 block (sym from.2 ∙ (ap (λ (j : ℕ). slice_get f.blocks j) of_block ∙ at)) in
            let there : slice_get block.instrs l.item ≡ Some from.1 = ap (λ (x : Block). slice_get x.instrs l.item) (sym same_block) ∙ from.3 in
            is_member r (result_names (take i block.instrs)) (made_among result_name (take i block.instrs) l.item from.1 r (at_taken i block.instrs l.item from.1 (ltb-true l.item i parts.1) there) from.4)

    decided : (s : Ret) → l.kind ≡ Result s → (b : ℕ) → is_before f.blocks r b ≡ not (is_open_without (rows f.blocks) l.block b)
    unfolding is_open_without
    decided s k b = giver_decides f known r l.block l.item b (given s k)

    item_by : Among r (value_names f) → (b i : ℕ) (block : Block) → slice_get f.blocks b ≡ Some block → (kind : LocalKind) → l.kind ≡ kind → is_held f b (result_names (take i block.instrs)) r ≡ kind_is_held kind (rows f.blocks) b i l
    item_by at b i block here (Param t) k = or_left (is_among r (param_names f)) (is_among r (result_names (take i block.instrs)) || is_before f.blocks r b) (is_param t k)
    item_by at b i block here (Result s) k = (λ j. no_param s k j || (stands_before s k b i block here j || decided s k b j))
    item_by at b i block here Label k = absurd (no_label at k)

    -- among all results of block e exactly where it is its block
    stands_in : (s : Ret) → l.kind ≡ Result s → (e : ℕ) (block : Block) → slice_get f.blocks e ≡ Some block → is_among r (result_names block.instrs) ≡ (l.block == e)
    stands_in s k e block at = same_tests (is_among r (result_names block.instrs)) (l.block == e) forth back
      where
        forth : is_among r (result_names block.instrs) ≡ true → (l.block == e) ≡ true
        forth h =
            let item = among_made result_name block.instrs r (among_is r (result_names block.instrs) h) in
            let here : result_found (first_local f r) ≡ Some (e, item.0) = (finds.result r e item.0).0 (block, item.1, at, item.2, item.3) in
            let same_place : ◌≡◌ {A = ℕ × ℕ} (l.block, l.item) (e, item.0) = same_Some (l.block, l.item) (e, item.0) (sym (place_of s k) ∙ here) in
            eq-eqb l.block e (ap (λ (q : ℕ × ℕ). q.0) same_place)

        back : (l.block == e) ≡ true → is_among r (result_names block.instrs) ≡ true
        back h =
            let of_block : l.block ≡ e = eqb-true l.block e h in
            let from = given s k in
            let same_block : from.0 ≡ block = same_Some from.0 block (sym from.2 ∙ (ap (λ (j : ℕ). slice_get f.blocks j) of_block ∙ at)) in
            is_member r (result_names block.instrs) (subst (λ (x : Block). Among r (result_names x.instrs)) same_block (made_among result_name from.0.instrs l.item from.1 r from.3 from.4))

    end_by : Among r (value_names f) → (e : ℕ) (block : Block) → slice_get f.blocks e ≡ Some block → (kind : LocalKind) → l.kind ≡ kind → is_held f e (result_names block.instrs) r ≡ kind_is_held_at_end kind (rows f.blocks) e l
    end_by at e block here (Param t) k = or_left (is_among r (param_names f)) (is_among r (result_names block.instrs) || is_before f.blocks r e) (is_param t k)
    end_by at e block here (Result s) k = (λ j. no_param s k j || (stands_in s k e block here j || decided s k e j))
    end_by at e block here Label k = absurd (no_label at k)

  item_held : (b i : ℕ) (block : Block) (r : Name) → slice_get f.blocks b ≡ Some block → Among r (value_names f) → (o : Option Local) → first_local f r ≡ o → is_held f b (result_names (take i block.instrs)) r ≡ is_held_found (rows f.blocks) b i o
  item_held b i block r here at None e = let typed = has_ret r at in absurd (none-some typed.0 (sym (ap ret_found e) ∙ typed.1))
  item_held b i block r here at (Some l) e = item_by r l e at b i block here l.kind refl

  end_held : (e : ℕ) (block : Block) (r : Name) → slice_get f.blocks e ≡ Some block → Among r (value_names f) → (o : Option Local) → first_local f r ≡ o → is_held f e (result_names block.instrs) r ≡ is_held_at_end (rows f.blocks) e o
  end_held e block r here at None k = let typed = has_ret r at in absurd (none-some typed.0 (sym (ap ret_found k) ∙ typed.1))
  end_held e block r here at (Some l) k = end_by r l k at e block here l.kind refl

  -- ---- the one block of a label

  all_pass : (v : Operand) (n : Name) (k : ℕ) (bs : List Block) → ((j : ℕ) (x : Block) → slice_get bs j ≡ Some x → same n x.label ≡ false) → is_held_behind f v n k bs ≡ true
  all_pass v n k [] other = refl
  all_pass v n k (x ∷ xs) other = and_from (not (same n x.label) || is_held_operand f k (result_names x.instrs) v) (is_held_behind f v n (suc k) xs) (ap (λ (t : Bool). not t || is_held_operand f k (result_names x.instrs) v) (other 0 x refl)) (all_pass v n (suc k) xs (λ j y at. other (suc j) y at))

  one_decides : (v : Operand) (n : Name) (k : ℕ) (bs : List Block) (e : ℕ) (block : Block) → slice_get bs e ≡ Some block → same n block.label ≡ true → ((j : ℕ) (x : Block) → slice_get bs j ≡ Some x → (j ≡ e → ⊥) → same n x.label ≡ false) → is_held_behind f v n k bs ≡ is_held_operand f (k + e) (result_names block.instrs) v
  one_decides v n k [] e block at here other = absurd (none-some block at)
  one_decides v n k (x ∷ xs) zero block at here other =
      let is : x ≡ block = same_Some x block at in
      let labelled : same n x.label ≡ true = ap (λ (y : Block). same n y.label) is ∙ here in
      let rest : is_held_behind f v n (suc k) xs ≡ true = all_pass v n (suc k) xs (λ j y there. other (suc j) y there (λ q. absurd (omega (arith, q)))) in
      let place : k ≡ k + 0 = omega arith in
      (λ i. (not (labelled i) || is_held_operand f k (result_names x.instrs) v) && rest i) ∙ (and_true (is_held_operand f k (result_names x.instrs) v) ∙ (λ i. is_held_operand f (place i) (result_names (is i).instrs) v))
    where
      and_true : (t : Bool) → (t && true) ≡ t
      and_true true = refl
      and_true false = refl
  one_decides v n k (x ∷ xs) (suc e) block at here other =
      let differs : same n x.label ≡ false = other 0 x refl (λ q. absurd (omega (arith, q))) in
      let place : suc k + e ≡ k + suc e = omega arith in
      (λ i. (not (differs i) || is_held_operand f k (result_names x.instrs) v) && is_held_behind f v n (suc k) xs) ∙ (one_decides v n (suc k) xs e block at here (λ j y there ne. other (suc j) y there (λ q. ne (omega (arith, q)))) ∙ ap (λ (j : ℕ). is_held_operand f j (result_names block.instrs) v) place)

  behind_held : (e : ℕ) (n r : Name) → IsLabelOf f n e → Among r (value_names f) → is_held_behind f (operand.Local r) n 0 f.blocks ≡ is_held_at_end (rows f.blocks) e (first_local f r)
  behind_held e n r label at =
      let labelled : same n label.0.label ≡ true = is_same n label.0.label (sym label.2) in
      let place : 0 + e ≡ e = omega arith in
      one_decides (operand.Local r) n 0 f.blocks e label.0 label.1 labelled other ∙ (ap (λ (j : ℕ). is_held f j (result_names label.0.instrs) r) place ∙ end_held e label.0 r label.1 at (first_local f r) refl)
    where
      other : (j : ℕ) (x : Block) → slice_get f.blocks j ≡ Some x → (j ≡ e → ⊥) → same n x.label ≡ false
      other j x there ne = false_from_ne_true (same n x.label) (λ h. ne (same_Some j e (sym (label_place f.blocks (labels_once f known.once) j x there) ∙ (ap (λ (q : Name). block_place f.blocks q) (sym (same_is n x.label h) ∙ sym label.2) ∙ label_place f.blocks (labels_once f known.once) e label.0 label.1))))

  pub held_as_found : HeldAsFound f
  held_as_found = record {
    item = λ b i block r here at. item_held b i block r here at (first_local f r) refl;
    exit = λ b block r here at. ap (λ (xs : List Instr). is_held f b (result_names xs) r) (sym (take_all (length block.instrs) block.instrs (omega arith))) ∙ item_held b (length block.instrs) block r here at (first_local f r) refl;
    end = behind_held;
  }
