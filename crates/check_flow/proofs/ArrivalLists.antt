-- Lists of the blocks from which blocks are entered, one number further.
use Rattle.std.proofs.Common.{◌≡◌, ◌≢◌, ℕ, ◌+◌, ◌<◌, Bool, true, false, ◌==◌, List, [], ◌∷◌, ◌++◌, map, flat_map, length, take, get_or, vec_len, refl, sym, ap, subst, ◌∙◌, inl, inr, ◌⊎◌, arith, append-nil, append_assoc}
use Rattle.std.specs.Global.{Vec}
use Rattle.std.specs.Vec.{with_item}
use Rattle.std.specs.List.{slice_set}
use Rattle.std.proofs.lemmas.Bool.Decides.{eqb_tells}
use Rattle.std.proofs.lemmas.List.{map-set, map_push, get_or-set_same, get_or-set_other, get_or-map, length-map, take_more}
use Rattle.check_flow.specs.LookUps.{LabelOf}
use Rattle.check_flow.specs.Phis.{Gains, Lists, arrivals, each_arrival, is_at, listed}
use Rattle.ir_tree.specs.Successors.{successors}
use Rattle.ir_tree.specs.declared.types.Block.{Block}
use Rattle.spec_lists.specs.Each.{only_if}
use Rattle.spec_lists.proofs.Each.{each_taken}

-- a number put behind one of the lists
module _ (lists : Lists) (to p : ℕ) (old pushed : Vec ℕ) (within : to < length lists.items) (was : old ≡ get_or lists.items to old) (put : pushed.items ≡ old.items ++ p ∷ []) where
  new_items : map (λ v. v.items) (slice_set lists.items to pushed) ≡ slice_set (map (λ v. v.items) lists.items) to pushed.items
  new_items = map-set (λ v. v.items) lists.items to pushed

  gained_here : get_or (map (λ v. v.items) (slice_set lists.items to pushed)) to [] ≡ get_or (map (λ v. v.items) lists.items) to [] ++ p ∷ []
  gained_here =
      let many : to < length (map (λ v. v.items) lists.items) = let same = length-map lists.items (λ v. v.items) in omega arith in
      let now : get_or (slice_set (map (λ v. v.items) lists.items) to pushed.items) to [] ≡ pushed.items = get_or-set_same (map (λ v. v.items) lists.items) to pushed.items [] many in
      let before : get_or (map (λ v. v.items) lists.items) to [] ≡ (get_or lists.items to old).items = get_or-map (λ v. v.items) lists.items to old [] within in
      ap (λ (ls : List (List ℕ)). get_or ls to []) new_items ∙ now ∙ put ∙ ap (λ (v : Vec ℕ). v.items ++ p ∷ []) was ∙ ap (λ (ns : List ℕ). ns ++ p ∷ []) (sym before)

  gained_at : (b : ℕ) → ((to == b) ≡ true) × (to ≡ b) ⊎ ((to == b) ≡ false) × (to ≢ b) → get_or (map (λ v. v.items) (slice_set lists.items to pushed)) b [] ≡ get_or (map (λ v. v.items) lists.items) b [] ++ only_if (to == b) p
  gained_at b (inl q) = subst (λ (c : ℕ). get_or (map (λ v. v.items) (slice_set lists.items to pushed)) c [] ≡ get_or (map (λ v. v.items) lists.items) c [] ++ p ∷ []) q.1 gained_here ∙ ap (λ (t : Bool). get_or (map (λ v. v.items) lists.items) b [] ++ only_if t p) (sym q.0)
  gained_at b (inr q) =
      let other : b ≢ to = λ e. q.1 (sym e) in
      ap (λ (ls : List (List ℕ)). get_or ls b []) new_items ∙ get_or-set_other (map (λ v. v.items) lists.items) to b pushed.items [] other ∙ sym (append-nil (get_or (map (λ v. v.items) lists.items) b [])) ∙ ap (λ (t : Bool). get_or (map (λ v. v.items) lists.items) b [] ++ only_if t p) (sym q.0)

  pub gained : Gains lists (with_item lists to pushed) (λ b. only_if (to == b) p)
  gained = record {
    count = refl;
    each = λ b h. gained_at b (eqb_tells to b);
  }

-- ---- one label after the other

gains_both : (old now new : Lists) (first second : ℕ → List ℕ) → Gains old now first → Gains now new second → Gains old new (λ b. first b ++ second b)
gains_both old now new first second g h = record {
  count = h.count ∙ g.count;
  each = λ b within.
      let here : b < vec_len now = let same : vec_len now ≡ vec_len old = g.count in omega arith in
      h.each b here ∙ ap (λ (ns : List ℕ). ns ++ second b) (g.each b within) ∙ append_assoc (listed old b) (first b) (second b);
}

gains_as : (old new : Lists) (more other : ℕ → List ℕ) → ((b : ℕ) → more b ≡ other b) → Gains old new more → Gains old new other
gains_as old new more other is g = record {
  count = g.count;
  each = λ b within. g.each b within ∙ ap (λ (ns : List ℕ). listed old b ++ ns) (is b);
}

pub gains_one : (known : LabelOf) (p : ℕ) (to : List ℕ) (old new : Lists) → Gains old new (λ b. only_if (is_at b (known to)) p) → Gains old new (λ b. each_arrival known b p (to ∷ []))
gains_one known p to old new g = gains_as old new (λ b. only_if (is_at b (known to)) p) (λ b. each_arrival known b p (to ∷ [])) (λ b. sym (append-nil (only_if (is_at b (known to)) p))) g

flat_push : {X : Type 0} (make : X → List ℕ) (xs : List X) (x : X) → flat_map make (xs ++ x ∷ []) ≡ flat_map make xs ++ make x
flat_push make [] x = append-nil (make x)
flat_push make (y ∷ ys) x = ap (λ (ns : List ℕ). make y ++ ns) (flat_push make ys x) ∙ sym (append_assoc (make y) (flat_map make ys) (make x))

pub gains_push : (known : LabelOf) (p : ℕ) (tos : List (List ℕ)) (to : List ℕ) (old now new : Lists) → Gains old now (λ b. each_arrival known b p tos) → Gains now new (λ b. only_if (is_at b (known to)) p) → Gains old new (λ b. each_arrival known b p (tos ++ to ∷ []))
gains_push known p tos to old now new g h = gains_as old new (λ b. each_arrival known b p tos ++ only_if (is_at b (known to)) p) (λ b. each_arrival known b p (tos ++ to ∷ [])) (λ b. sym (flat_push (λ n. only_if (is_at b (known n)) p) tos to)) (gains_both old now new (λ b. each_arrival known b p tos) (λ b. only_if (is_at b (known to)) p) g h)

-- one case more
pub gains_case : (known : LabelOf) (p : ℕ) (default : List ℕ) (cases : List (ℕ × List ℕ)) (i : ℕ) (c : ℕ × List ℕ) (old now new : Lists) → i < length cases → c ≡ get_or cases i c → Gains old now (λ b. each_arrival known b p (default ∷ map (λ d. d.1) (take i cases))) → Gains now new (λ b. only_if (is_at b (known c.1)) p) → Gains old new (λ b. each_arrival known b p (default ∷ map (λ d. d.1) (take (i + 1) cases)))
gains_case known p default cases i c old now new within is g h =
    let more : map (λ d. d.1) (take (i + 1) cases) ≡ map (λ d. d.1) (take i cases) ++ c.1 ∷ [] = ap (λ (cs : List (ℕ × List ℕ)). map (λ (d : ℕ × List ℕ). d.1) cs) (take_more cases i c within) ∙ map_push (λ (d : ℕ × List ℕ). d.1) (take i cases) (get_or cases i c) ∙ ap (λ (d : ℕ × List ℕ). map (λ (e : ℕ × List ℕ). e.1) (take i cases) ++ d.1 ∷ []) (sym is) in
    subst (λ (tos : List (List ℕ)). Gains old new (λ b. each_arrival known b p (default ∷ tos))) (sym more) (gains_push known p (default ∷ map (λ d. d.1) (take i cases)) c.1 old now new g h)

-- the successors of one block more
pub entered_more : (known : LabelOf) (blocks : List Block) (old new : Lists) (p : ℕ) (block : Block) (b : ℕ) → p < length blocks → block ≡ get_or blocks p block → b < vec_len old → listed old b ≡ arrivals known b (take p blocks) → Gains old new (λ c. each_arrival known c p (successors block.term)) → listed new b ≡ arrivals known b (take (p + 1) blocks)
entered_more known blocks old new p block b h is within was g =
    let more : arrivals known b (take (p + 1) blocks) ≡ arrivals known b (take p blocks) ++ each_arrival known b p (successors (get_or blocks p block).term) = each_taken (λ q x. each_arrival known b q (successors x.term)) blocks p block h in
    g.each b within ∙ ap (λ (ns : List ℕ). ns ++ each_arrival known b p (successors block.term)) was ∙ ap (λ (x : Block). arrivals known b (take p blocks) ++ each_arrival known b p (successors x.term)) is ∙ sym more
