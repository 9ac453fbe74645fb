-- Look-ups of names in a function: the first local of a name is the only one, and tells what the lists of names tell.
use Rattle.std.proofs.Common.{◌≡◌, ℕ, zero, suc, ◌+◌, ◌<◌, ◌≤◌, ◌⊎◌, inl, inr, ◌↔◌, Bool, true, false, cond, not, ◌==◌, List, [], ◌∷◌, ◌++◌, length, map, take, Option, Some, None, slice_get, set, refl, sym, ap, subst, ◌∙◌, arith, zero-add}
use Rattle.std.specs.List.{cons_option, filter_map, flat_map}
use Rattle.std.specs.Map.{lookup}
use Rattle.std.specs.Option.{option_map}
use Rattle.std.proofs.lemmas.Bool.{both_ways, cases_eq, eq-eqb, false_from_ne_true}
use Rattle.std.proofs.lemmas.List.{map-append}
use Rattle.std.proofs.lemmas.Option.{none-some, same_Some, slice_get_within}
use Rattle.ir_rules.proofs.Counts.{Name, one, one_self, times_append, times_cons}
use Rattle.ir_rules.proofs.Members.{among_at, among_is, among_left, among_map, among_right, at_among, is_member, is_same, map_among, same_is}
use Rattle.ir_rules.specs.Assigned.{assigns, is_before, rows_around}
use Rattle.ir_rules.specs.Finding.{FindsNames, IsLabelOf, IsNamed, IsResultOf, is_param_found, kind_is_param, kind_label, kind_result, kind_ret, label_found, result_found, ret_found}
use Rattle.ir_rules.specs.Lists.{Among, is_among, times}
use Rattle.ir_rules.specs.Scopes.{block_names, block_values, names, param_names, values}
use Rattle.ir_tree.specs.Edges.{row_of, rows}
use Rattle.ir_tree.specs.Functions.{is_declared}
use Rattle.ir_tree.specs.Locals.{Entry, as_result, block_locals, first_local, local, locals, param, result_at}
use Rattle.ir_tree.specs.Names.{same}
use Rattle.ir_tree.specs.Operands.{result_name, result_names, result_of}
use Rattle.ir_tree.specs.Reach.{is_marked, reached}
use Rattle.ir_tree.specs.declared.locals.Local.{Local}
use Rattle.ir_tree.specs.declared.locals.LocalKind.{LocalKind}
use Rattle.ir_tree.specs.declared.locals.LocalKind.TheVariants.{Param, Result, Label}
use Rattle.ir_tree.specs.declared.types.Block.{Block}
use Rattle.ir_tree.specs.declared.types.Function.{Function}
use Rattle.ir_tree.specs.declared.types.Instr.{Instr}
use Rattle.ir_tree.specs.declared.types.Ret.{Ret}
use Rattle.ir_tree.specs.declared.types.Ret.TheVariants.{Value}
use Rattle.ir_tree.specs.declared.types.Ty.{Ty}
use Rattle.spec_lists.specs.Each.{each}

-- ---- members of what is made of a list

among_split : {Y : Type 0} (xs ys : List Y) (y : Y) → Among y (xs ++ ys) → Among y xs ⊎ Among y ys
among_split [] ys y at = inr at
among_split (x ∷ xs) ys y (inl e) = inl (inl e)
among_split (x ∷ xs) ys y (inr at) = elim (among_split xs ys y at) [ inl a ↦ inl (inr a) | inr a ↦ inr a ]

among_each : {X Y : Type 0} (make : ℕ → X → List Y) (k : ℕ) (xs : List X) (y : Y) → Among y (each make k xs) → (i : ℕ) × (x : X) × (slice_get xs i ≡ Some x) × Among y (make (k + i) x)
among_each make k [] y at = absurd at
among_each {X} {Y} make k (x ∷ xs) y at = by (among_split (make k x) (each make (k + 1) xs) y at) (λ a. among_each make (k + 1) xs y a)
  where
    by : Among y (make k x) ⊎ Among y (each make (k + 1) xs) → (Among y (each make (k + 1) xs) → (i : ℕ) × (z : X) × (slice_get xs i ≡ Some z) × Among y (make (k + 1 + i) z)) → (i : ℕ) × (z : X) × (slice_get (x ∷ xs) i ≡ Some z) × Among y (make (k + i) z)
    by (inl a) rest = (0, x, refl, subst (λ (j : ℕ). Among y (make j x)) (let e : k ≡ k + 0 = omega arith in e) a)
    by (inr a) rest = let found = rest a in (suc found.0, found.1, found.2, subst (λ (j : ℕ). Among y (make j found.1)) (let e : k + 1 + found.0 ≡ k + suc found.0 = omega arith in e) found.3)

each_among : {X Y : Type 0} (make : ℕ → X → List Y) (k : ℕ) (xs : List X) (i : ℕ) (x : X) (y : Y) → slice_get xs i ≡ Some x → Among y (make (k + i) x) → Among y (each make k xs)
each_among make k [] i x y at a = absurd (none-some x at)
each_among {X} {Y} make k (z ∷ xs) zero x y at a =
    let here : Among y (make k z) = subst (λ (w : X). Among y (make k w)) (sym (same_Some z x at)) (subst (λ (j : ℕ). Among y (make j x)) (let e : k + 0 ≡ k = omega arith in e) a) in
    among_left (make k z) (each make (k + 1) xs) y here
each_among {X} {Y} make k (z ∷ xs) (suc i) x y at a = among_right (make k z) (each make (k + 1) xs) y (each_among make (k + 1) xs i x y at (subst (λ (j : ℕ). Among y (make j x)) (let e : k + suc i ≡ k + 1 + i = omega arith in e) a))

among_flat : {X Y : Type 0} (make : X → List Y) (xs : List X) (y : Y) → Among y (flat_map make xs) → (i : ℕ) × (x : X) × (slice_get xs i ≡ Some x) × Among y (make x)
among_flat make [] y at = absurd at
among_flat {X} {Y} make (x ∷ xs) y at = by (among_split (make x) (flat_map make xs) y at) (λ a. among_flat make xs y a)
  where
    by : Among y (make x) ⊎ Among y (flat_map make xs) → (Among y (flat_map make xs) → (i : ℕ) × (z : X) × (slice_get xs i ≡ Some z) × Among y (make z)) → (i : ℕ) × (z : X) × (slice_get (x ∷ xs) i ≡ Some z) × Among y (make z)
    by (inl a) rest = (0, x, refl, a)
    by (inr a) rest = let found = rest a in (suc found.0, found.1, found.2, found.3)

flat_among : {X Y : Type 0} (make : X → List Y) (xs : List X) (i : ℕ) (x : X) (y : Y) → slice_get xs i ≡ Some x → Among y (make x) → Among y (flat_map make xs)
flat_among make [] i x y at a = absurd (none-some x at)
flat_among {X} {Y} make (z ∷ xs) zero x y at a = among_left (make z) (flat_map make xs) y (subst (λ (w : X). Among y (make w)) (sym (same_Some z x at)) a)
flat_among make (z ∷ xs) (suc i) x y at a = among_right (make z) (flat_map make xs) y (flat_among make xs i x y at a)

among_option : {Y : Type 0} (o : Option Y) (ys : List Y) (y : Y) → Among y (cons_option o ys) → (o ≡ Some y) ⊎ Among y ys
among_option None ys y at = inr at
among_option (Some x) ys y (inl e) = inl (ap Some (sym e))
among_option (Some x) ys y (inr at) = inr at

option_among : {Y : Type 0} (o : Option Y) (ys : List Y) (y : Y) → (o ≡ Some y) ⊎ Among y ys → Among y (cons_option o ys)
option_among None ys y (inl e) = absurd (none-some y e)
option_among None ys y (inr at) = at
option_among (Some x) ys y (inl e) = inl (sym (same_Some x y e))
option_among (Some x) ys y (inr at) = inr at

pub among_made : {X Y : Type 0} (h : X → Option Y) (xs : List X) (y : Y) → Among y (filter_map h xs) → (i : ℕ) × (x : X) × (slice_get xs i ≡ Some x) × (h x ≡ Some y)
among_made h [] y at = absurd at
among_made {X} {Y} h (x ∷ xs) y at = by (among_option (h x) (filter_map h xs) y at) (λ a. among_made h xs y a)
  where
    by : (h x ≡ Some y) ⊎ Among y (filter_map h xs) → (Among y (filter_map h xs) → (i : ℕ) × (z : X) × (slice_get xs i ≡ Some z) × (h z ≡ Some y)) → (i : ℕ) × (z : X) × (slice_get (x ∷ xs) i ≡ Some z) × (h z ≡ Some y)
    by (inl e) rest = (0, x, refl, e)
    by (inr a) rest = let found = rest a in (suc found.0, found.1, found.2, found.3)

pub made_among : {X Y : Type 0} (h : X → Option Y) (xs : List X) (i : ℕ) (x : X) (y : Y) → slice_get xs i ≡ Some x → h x ≡ Some y → Among y (filter_map h xs)
made_among h [] i x y at e = absurd (none-some x at)
made_among h (z ∷ xs) zero x y at e = option_among (h z) (filter_map h xs) y (inl (ap h (same_Some z x at) ∙ e))
made_among h (z ∷ xs) (suc i) x y at e = option_among (h z) (filter_map h xs) y (inr (made_among h xs i x y at e))

-- ---- look-ups in a list of entries whose names stand once

found_among : (n : Name) (es : List Entry) (l : Local) → lookup (same n) es ≡ Some l → Among (n, l) es
found_among n [] l h = absurd (none-some l h)
found_among n (e ∷ es) l h = by (same n e.0) refl h (λ k. found_among n es l k)
  where
    by : (b : Bool) → same n e.0 ≡ b → cond b (Some e.1) (lookup (same n) es) ≡ Some l → (lookup (same n) es ≡ Some l → Among (n, l) es) → Among (n, l) (e ∷ es)
    by true k at rest = let is : ◌≡◌ {A = Entry} (n, l) e = λ i. (same_is n e.0 k i, sym (same_Some e.1 l at) i) in inl is
    by false k at rest = inr (rest at)

stands_once : (n : Name) (es : List Entry) (l : Local) → Among (n, l) es → 1 ≤ times n (map (λ (e : Entry). e.0) es)
stands_once n [] l at = absurd at
stands_once n (e ∷ es) l (inl is) = let here : one n e.0 ≡ 1 = ap (λ (d : Entry). one n d.0) (sym is) ∙ one_self n in omega (arith, here, times_cons n e.0 (map (λ (d : Entry). d.0) es))
stands_once n (e ∷ es) l (inr at) = omega (arith, stands_once n es l at, times_cons n e.0 (map (λ (d : Entry). d.0) es))

among_found : (n : Name) (es : List Entry) (l : Local) → times n (map (λ (e : Entry). e.0) es) ≤ 1 → Among (n, l) es → lookup (same n) es ≡ Some l
among_found n [] l few at = absurd at
among_found n (e ∷ es) l few (inl is) = ap (λ (b : Bool). cond b (Some e.1) (lookup (same n) es)) (is_same n e.0 (ap (λ (d : Entry). d.0) is)) ∙ ap (λ (d : Entry). Some d.1) (sym is)
among_found n (e ∷ es) l few (inr at) = by (same n e.0) refl (λ k. among_found n es l k at)
  where
    by : (b : Bool) → same n e.0 ≡ b → (times n (map (λ (d : Entry). d.0) es) ≤ 1 → lookup (same n) es ≡ Some l) → cond b (Some e.1) (lookup (same n) es) ≡ Some l
    by true k rest =
        let here : one n e.0 ≡ 1 = ap (λ (b : Bool). cond {A = ℕ} b 1 0) k in
        absurd (omega (arith, here, few, times_cons n e.0 (map (λ (d : Entry). d.0) es), stands_once n es l at))
    by false k rest = rest (omega (arith, few, times_cons n e.0 (map (λ (d : Entry). d.0) es)))

-- ---- the entries of a function

named_params : (k : ℕ) (ps : List (Ty × Name)) → map (λ (e : Entry). e.0) (each param k ps) ≡ map (λ p. p.1) ps
named_params k [] = refl
named_params k (p ∷ ps) = ap (λ (ns : List Name). p.1 ∷ ns) (named_params (k + 1) ps)

named_results : (b k : ℕ) (xs : List Instr) → map (λ (e : Entry). e.0) (each (result_at b) k xs) ≡ result_names xs
named_results b k [] = refl
named_results b k (x ∷ xs) = by (result_of x) (named_results b (k + 1) xs)
  where
    by : (o : Option (Name × Ret)) → map (λ (e : Entry). e.0) (each (result_at b) (k + 1) xs) ≡ result_names xs → map (λ (e : Entry). e.0) (as_result b k o ++ each (result_at b) (k + 1) xs) ≡ cons_option (option_map (λ (r : Name × Ret). r.0) o) (result_names xs)
    by None rest = rest
    by (Some r) rest = ap (λ (ns : List Name). r.0 ∷ ns) rest

named_block : (b : ℕ) (block : Block) → map (λ (e : Entry). e.0) (block_locals b block) ≡ block_names block
unfolding block_locals
named_block b block = ap (λ (ns : List Name). block.label ∷ ns) (named_results b 0 block.instrs)

named_blocks : (k : ℕ) (bs : List Block) → map (λ (e : Entry). e.0) (each block_locals k bs) ≡ flat_map block_names bs
named_blocks k [] = refl
named_blocks k (b ∷ bs) = map-append (λ (e : Entry). e.0) (block_locals k b) (each block_locals (k + 1) bs) ∙ (λ i. named_block k b i ++ named_blocks (k + 1) bs i)

abbrev all_entries : Function → List Entry
all_entries f = each param 0 f.params ++ each block_locals 0 f.blocks

named_all : (f : Function) → map (λ (e : Entry). e.0) (all_entries f) ≡ names f
named_all f = map-append (λ (e : Entry). e.0) (each param 0 f.params) (each block_locals 0 f.blocks) ∙ (λ i. named_params 0 f.params i ++ named_blocks 0 f.blocks i)

module _ (f : Function) (known : IsNamed f) where
  entries_are : locals f ≡ all_entries f
  unfolding locals
  entries_are = ap (λ (b : Bool). cond b [] (all_entries f)) known.defined

  local_among : (n : Name) (l : Local) → first_local f n ≡ Some l → Among (n, l) (all_entries f)
  local_among n l h = found_among n (all_entries f) l (ap (λ (es : List Entry). lookup (same n) es) (sym entries_are) ∙ h)

  among_local : (n : Name) (l : Local) → Among (n, l) (all_entries f) → first_local f n ≡ Some l
  among_local n l at = ap (λ (es : List Entry). lookup (same n) es) entries_are ∙ among_found n (all_entries f) l (subst (λ (ns : List Name). times n ns ≤ 1) (sym (named_all f)) (known.once n)) at

  -- ---- where a name stands

  param_stands : (n : Name) (i : ℕ) (t : Ty) → slice_get f.params i ≡ Some (t, n) → first_local f n ≡ Some (local (Param t) 0 i)
  param_stands n i t at =
      let place : 0 + i ≡ i = zero-add i in
      let here : Among (n, local (Param t) 0 i) (param (0 + i) (t, n)) = inl (λ j. (n, local (Param t) 0 (sym place j))) in
      among_local n (local (Param t) 0 i) (among_left (each param 0 f.params) (each block_locals 0 f.blocks) (n, local (Param t) 0 i) (each_among param 0 f.params i (t, n) (n, local (Param t) 0 i) at here))

  label_stands : (b : ℕ) (block : Block) → slice_get f.blocks b ≡ Some block → first_local f block.label ≡ Some (local Label b 0)
  unfolding block_locals
  label_stands b block at =
      let place : 0 + b ≡ b = zero-add b in
      let here : Among (block.label, local Label b 0) (block_locals (0 + b) block) = inl (λ j. (block.label, local Label (sym place j) 0)) in
      among_local block.label (local Label b 0) (among_right (each param 0 f.params) (each block_locals 0 f.blocks) (block.label, local Label b 0) (each_among block_locals 0 f.blocks b block (block.label, local Label b 0) at here))

  result_stands : (b i : ℕ) (block : Block) (x : Instr) (n : Name) (r : Ret) → slice_get f.blocks b ≡ Some block → slice_get block.instrs i ≡ Some x → result_of x ≡ Some (n, r) → first_local f n ≡ Some (local (Result r) b i)
  unfolding block_locals
  result_stands b i block x n r at there is =
      let place : 0 + b ≡ b = zero-add b in
      let item : 0 + i ≡ i = zero-add i in
      let one_there : Among (n, local (Result r) b i) (result_at b (0 + i) x) = subst (λ (o : Option (Name × Ret)). Among (n, local (Result r) b i) (as_result b (0 + i) o)) (sym is) (inl (λ j. (n, local (Result r) b (sym item j)))) in
      let in_block : Among (n, local (Result r) b i) (block_locals b block) = inr (each_among (result_at b) 0 block.instrs i x (n, local (Result r) b i) there one_there) in
      among_local n (local (Result r) b i) (among_right (each param 0 f.params) (each block_locals 0 f.blocks) (n, local (Result r) b i) (each_among block_locals 0 f.blocks b block (n, local (Result r) b i) at (subst (λ (j : ℕ). Among (n, local (Result r) b i) (block_locals j block)) (sym place) in_block)))

  -- a name stands as a parameter, as a label or as a result
  abbrev AsParam : Name → Local → Type 0
  AsParam n l = (i : ℕ) × (t : Ty) × (slice_get f.params i ≡ Some (t, n)) × (l ≡ local (Param t) 0 i)

  abbrev AsLabel : Name → Local → Type 0
  AsLabel n l = (b : ℕ) × (block : Block) × (slice_get f.blocks b ≡ Some block) × (block.label ≡ n) × (l ≡ local Label b 0)

  abbrev AsResult : Name → Local → Type 0
  AsResult n l = (b : ℕ) × (i : ℕ) × (block : Block) × (x : Instr) × (r : Ret) × (slice_get f.blocks b ≡ Some block) × (slice_get block.instrs i ≡ Some x) × (result_of x ≡ Some (n, r)) × (l ≡ local (Result r) b i)

  one_result : (b k : ℕ) (o : Option (Name × Ret)) (n : Name) (l : Local) → Among (n, l) (as_result b k o) → (r : Ret) × (o ≡ Some (n, r)) × (l ≡ local (Result r) b k)
  one_result b k None n l at = absurd at
  one_result b k (Some q) n l (inl e) = (q.1, ap Some (λ i. (sym (ap (λ (d : Entry). d.0) e) i, q.1)), ap (λ (d : Entry). d.1) e)
  one_result b k (Some q) n l (inr at) = absurd at

  in_block : (b : ℕ) (block : Block) (n : Name) (l : Local) → slice_get f.blocks b ≡ Some block → Among (n, l) (block_locals b block) → AsLabel n l ⊎ AsResult n l
  unfolding block_locals
  in_block b block n l at (inl e) = inl (b, block, at, sym (ap (λ (d : Entry). d.0) e), ap (λ (d : Entry). d.1) e)
  in_block b block n l at (inr a) =
      let found = among_each (result_at b) 0 block.instrs (n, l) a in
      let one = one_result b (0 + found.0) (result_of found.1) n l found.3 in
      inr (b, found.0, block, found.1, one.0, at, found.2, one.1, one.2 ∙ ap (λ (j : ℕ). local (Result one.0) b j) (zero-add found.0))

  stands : (n : Name) (l : Local) → first_local f n ≡ Some l → AsParam n l ⊎ (AsLabel n l ⊎ AsResult n l)
  stands n l h = by (among_split (each param 0 f.params) (each block_locals 0 f.blocks) (n, l) (local_among n l h))
    where
      of_param : (i : ℕ) (p : Ty × Name) → slice_get f.params i ≡ Some p → Among (n, l) (param (0 + i) p) → AsParam n l
      of_param i p at (inl e) = (i, p.0, at ∙ ap Some (λ j. (p.0, sym (ap (λ (d : Entry). d.0) e) j)), ap (λ (d : Entry). d.1) e ∙ ap (λ (j : ℕ). local (Param p.0) 0 j) (zero-add i))
      of_param i p at (inr a) = absurd a

      by : Among (n, l) (each param 0 f.params) ⊎ Among (n, l) (each block_locals 0 f.blocks) → AsParam n l ⊎ (AsLabel n l ⊎ AsResult n l)
      by (inl a) = let found = among_each param 0 f.params (n, l) a in inl (of_param found.0 found.1 found.2 found.3)
      by (inr a) = let found = among_each block_locals 0 f.blocks (n, l) a in inr (in_block found.0 found.1 n l found.2 (subst (λ (j : ℕ). Among (n, l) (block_locals j found.1)) (zero-add found.0) found.3))

  -- ---- what the look-ups tell

  value_found : (n : Name) (r : Ret) → Among (n, r) (values f) → ret_found (first_local f n) ≡ Some r
  value_found n r at = by (among_split (map (λ p. (p.1, Value p.0)) f.params) (flat_map block_values f.blocks) (n, r) at)
    where
      by : Among {X = Name × Ret} (n, r) (map (λ p. (p.1, Value p.0)) f.params) ⊎ Among {X = Name × Ret} (n, r) (flat_map block_values f.blocks) → ret_found (first_local f n) ≡ Some r
      by (inl a) =
          let found = map_among (λ (p : Ty × Name). (p.1, Value p.0)) f.params (n, r) a in
          let spot = among_at f.params found.0 found.1 in
          let name : n ≡ found.0.1 = ap (λ (d : Name × Ret). d.0) found.2 in
          let here : slice_get f.params spot.0 ≡ Some (found.0.0, n) = spot.1 ∙ ap Some (λ j. (found.0.0, sym name j)) in
          ap ret_found (param_stands n spot.0 found.0.0 here) ∙ ap Some (sym (ap (λ (d : Name × Ret). d.1) found.2))
      by (inr a) =
          let found = among_flat block_values f.blocks (n, r) a in
          let item = among_made result_of found.1.instrs (n, r) found.3 in
          ap ret_found (result_stands found.0 item.0 found.1 item.1 n r found.2 item.2 item.3)

  found_value : (n : Name) (r : Ret) → (o : Option Local) → first_local f n ≡ o → ret_found o ≡ Some r → Among (n, r) (values f)
  found_value n r None e h = absurd (none-some r h)
  found_value n r (Some l) e h = by (stands n l e)
    where
      by : AsParam n l ⊎ (AsLabel n l ⊎ AsResult n l) → Among (n, r) (values f)
      by (inl p) =
          let typed : Value p.1 ≡ r = same_Some (Value p.1) r (sym (ap (λ (k : Local). kind_ret k.kind) p.3) ∙ h) in
          among_left (map (λ q. (q.1, Value q.0)) f.params) (flat_map block_values f.blocks) (n, r) (subst (λ (s : Ret). Among {X = Name × Ret} (n, s) (map (λ q. (q.1, Value q.0)) f.params)) typed (among_map (λ (q : Ty × Name). (q.1, Value q.0)) f.params (p.1, n) (at_among f.params p.0 (p.1, n) p.2)))
      by (inr (inl p)) = absurd (none-some r (sym (ap (λ (k : Local). kind_ret k.kind) p.4) ∙ h))
      by (inr (inr p)) =
          let typed : p.4 ≡ r = same_Some p.4 r (sym (ap (λ (k : Local). kind_ret k.kind) p.8) ∙ h) in
          among_right (map (λ q. (q.1, Value q.0)) f.params) (flat_map block_values f.blocks) (n, r) (flat_among block_values f.blocks p.0 p.2 (n, r) p.5 (subst (λ (s : Ret). Among {X = Name × Ret} (n, s) (block_values p.2)) typed (made_among result_of p.2.instrs p.1 p.3 (n, p.4) p.6 p.7)))

  found_label : (n : Name) (b : ℕ) → (o : Option Local) → first_local f n ≡ o → label_found o ≡ Some b → IsLabelOf f n b
  found_label n b None e h = absurd (none-some b h)
  found_label n b (Some l) e h = by (stands n l e)
    where
      by : AsParam n l ⊎ (AsLabel n l ⊎ AsResult n l) → IsLabelOf f n b
      by (inl p) = absurd (none-some b (sym (ap (λ (k : Local). kind_label k.kind k.block) p.3) ∙ h))
      by (inr (inl p)) =
          let place : p.0 ≡ b = same_Some p.0 b (sym (ap (λ (k : Local). kind_label k.kind k.block) p.4) ∙ h) in
          (p.1, ap (λ (j : ℕ). slice_get f.blocks j) (sym place) ∙ p.2, p.3)
      by (inr (inr p)) = absurd (none-some b (sym (ap (λ (k : Local). kind_label k.kind k.block) p.8) ∙ h))

  label_is_found : (n : Name) (b : ℕ) → IsLabelOf f n b → label_found (first_local f n) ≡ Some b
  label_is_found n b p = ap (λ (q : Name). label_found (first_local f q)) (sym p.2) ∙ ap label_found (label_stands b p.0 p.1)

  found_result : (n : Name) (b i : ℕ) → (o : Option Local) → first_local f n ≡ o → result_found o ≡ Some (b, i) → IsResultOf f n b i
  found_result n b i None e h = absurd (none-some (b, i) h)
  found_result n b i (Some l) e h = by (stands n l e)
    where
      by : AsParam n l ⊎ (AsLabel n l ⊎ AsResult n l) → IsResultOf f n b i
      by (inl p) = absurd (none-some (b, i) (sym (ap (λ (k : Local). kind_result k.kind k.block k.item) p.3) ∙ h))
      by (inr (inl p)) = absurd (none-some (b, i) (sym (ap (λ (k : Local). kind_result k.kind k.block k.item) p.4) ∙ h))
      by (inr (inr p)) =
          let place : ◌≡◌ {A = ℕ × ℕ} (p.0, p.1) (b, i) = same_Some (p.0, p.1) (b, i) (sym (ap (λ (k : Local). kind_result k.kind k.block k.item) p.8) ∙ h) in
          (p.2, p.3, ap (λ (j : ℕ × ℕ). slice_get f.blocks j.0) (sym place) ∙ p.5, ap (λ (j : ℕ × ℕ). slice_get p.2.instrs j.1) (sym place) ∙ p.6, ap (λ (o : Option (Name × Ret)). option_map (λ (q : Name × Ret). q.0) o) p.7)

  result_is_found : (n : Name) (b i : ℕ) → IsResultOf f n b i → result_found (first_local f n) ≡ Some (b, i)
  result_is_found n b i p = by (result_of p.1) refl p.4
    where
      by : (o : Option (Name × Ret)) → result_of p.1 ≡ o → option_map (λ (q : Name × Ret). q.0) o ≡ Some n → result_found (first_local f n) ≡ Some (b, i)
      by None e h = absurd (none-some n h)
      by (Some q) e h = ap result_found (result_stands b i p.0 p.1 n q.1 p.2 p.3 (e ∙ ap Some (λ j. (same_Some q.0 n h j, q.1))))

  found_param : (n : Name) → (o : Option Local) → first_local f n ≡ o → is_param_found o ≡ true → Among n (param_names f)
  found_param n None e h = absurd (cc)
  found_param n (Some l) e h = by (stands n l e)
    where
      by : AsParam n l ⊎ (AsLabel n l ⊎ AsResult n l) → Among n (param_names f)
      by (inl p) = among_map (λ (q : Ty × Name). q.1) f.params (p.1, n) (at_among f.params p.0 (p.1, n) p.2)
      by (inr (inl p)) = absurd (cc (sym (ap (λ (k : Local). kind_is_param k.kind) p.4) ∙ h))
      by (inr (inr p)) = absurd (cc (sym (ap (λ (k : Local). kind_is_param k.kind) p.8) ∙ h))

  param_is_found : (n : Name) → Among n (param_names f) → is_param_found (first_local f n) ≡ true
  param_is_found n at =
      let found = map_among (λ (q : Ty × Name). q.1) f.params n at in
      let spot = among_at f.params found.0 found.1 in
      ap is_param_found (param_stands n spot.0 found.0.0 (spot.1 ∙ ap Some (λ j. (found.0.0, sym found.2 j))))

  block_within : (n : Name) (l : Local) → first_local f n ≡ Some l → l.block < length f.blocks
  block_within n l h = by (stands n l h)
    where
      some : 0 < length f.blocks
      some = by_length (cases_eq (length f.blocks) 0)
        where
          by_length : (length f.blocks ≡ 0) ⊎ (length f.blocks ≡ 0 → ⊥) → 0 < length f.blocks
          by_length (inl e) = absurd (both_ways (is_declared f) known.defined (eq-eqb (length f.blocks) 0 e))
          by_length (inr ne) = positive (length f.blocks) ne
            where
              positive : (k : ℕ) → (k ≡ 0 → ⊥) → 0 < k
              positive k ne = grind arith

      by : AsParam n l ⊎ (AsLabel n l ⊎ AsResult n l) → l.block < length f.blocks
      by (inl p) = subst (λ (k : Local). k.block < length f.blocks) (sym p.3) some
      by (inr (inl p)) = subst (λ (k : Local). k.block < length f.blocks) (sym p.4) (slice_get_within f.blocks p.0 p.1 p.2)
      by (inr (inr p)) = subst (λ (k : Local). k.block < length f.blocks) (sym p.8) (slice_get_within f.blocks p.0 p.2 p.5)

  pub finds_names : FindsNames f
  finds_names = record {
    value = λ n r. (value_found n r, found_value n r (first_local f n) refl);
    label = λ n b. (label_is_found n b, found_label n b (first_local f n) refl);
    result = λ n b i. (result_is_found n b i, found_result n b i (first_local f n) refl);
    param = λ n. (param_is_found n, found_param n (first_local f n) refl);
    within = block_within;
  }

  -- ---- the block that gives a result

  gives_alone : (n : Name) (d i : ℕ) → IsResultOf f n d i → (b : ℕ) (block : Block) → slice_get f.blocks b ≡ Some block → assigns n block ≡ true → b ≡ d
  gives_alone n d i given b block at h =
      let item = among_made result_name block.instrs n (among_is n (result_names block.instrs) h) in
      let here : result_found (first_local f n) ≡ Some (b, item.0) = result_is_found n b item.0 (block, item.1, at, item.2, item.3) in
      let same_place : ◌≡◌ {A = ℕ × ℕ} (b, item.0) (d, i) = same_Some (b, item.0) (d, i) (sym here ∙ result_is_found n d i given) in
      ap (λ (q : ℕ × ℕ). q.0) same_place

  gives_there : (n : Name) (d i : ℕ) → IsResultOf f n d i → (block : Block) → slice_get f.blocks d ≡ Some block → assigns n block ≡ true
  gives_there n d i given block at =
      let is : given.0 ≡ block = same_Some given.0 block (sym given.2 ∙ at) in
      is_member n (result_names block.instrs) (subst (λ (x : Block). Among n (result_names x.instrs)) is (made_among result_name given.0.instrs i given.1 n given.3 given.4))

  uncut : (all : List Block) (n : Name) (ys : List Block) → ((b : ℕ) (block : Block) → slice_get ys b ≡ Some block → assigns n block ≡ false) → map (λ (block : Block). cond (assigns n block) [] (row_of all block)) ys ≡ map (row_of all) ys
  uncut all n [] k = refl
  uncut all n (y ∷ ys) k = (λ i. cond (k 0 y refl i) [] (row_of all y) ∷ uncut all n ys (λ b block at. k (suc b) block at) i)

  -- rows without the blocks that give are the rows without the one that does
  cut_rows : (all bs : List Block) (n : Name) (d : ℕ) → ((b : ℕ) (block : Block) → slice_get bs b ≡ Some block → (assigns n block ≡ true → b ≡ d) × (b ≡ d → assigns n block ≡ true)) → map (λ (block : Block). cond (assigns n block) [] (row_of all block)) bs ≡ set (map (row_of all) bs) d []
  cut_rows all [] n zero h = refl
  cut_rows all [] n (suc d) h = refl
  cut_rows all (x ∷ xs) n zero h = (λ i. cond ((h 0 x refl).1 refl i) [] (row_of all x) ∷ others i)
    where
      others : map (λ (block : Block). cond (assigns n block) [] (row_of all block)) xs ≡ map (row_of all) xs
      others = uncut all n xs (λ b block at. false_from_ne_true (assigns n block) (λ t. let wrong : suc b ≡ 0 = (h (suc b) block at).0 t in absurd (omega (arith, wrong))))
  cut_rows all (x ∷ xs) n (suc d) h =
      let bare : assigns n x ≡ false = false_from_ne_true (assigns n x) (λ t. let wrong : 0 ≡ suc d = (h 0 x refl).0 t in absurd (omega (arith, wrong))) in
      (λ i. cond (bare i) [] (row_of all x) ∷ cut_rows all xs n d (λ b block at. ((λ t. let up : suc b ≡ suc d = (h (suc b) block at).0 t in omega (arith, up)), (λ e. (h (suc b) block at).1 (ap suc e)))) i)

  pub giver_decides : (n : Name) (d i b : ℕ) → IsResultOf f n d i → is_before f.blocks n b ≡ not (is_marked (reached (set (rows f.blocks) d [])) b)
  unfolding is_before
  giver_decides n d i b given =
      let same_rows : rows_around f.blocks n ≡ set (rows f.blocks) d [] = cut_rows f.blocks f.blocks n d (λ a block at. (gives_alone n d i given a block at, λ e. gives_there n d i given block (ap (λ (k : ℕ). slice_get f.blocks k) (sym e) ∙ at))) in
      ap (λ (rs : List (List ℕ)). not (is_marked (reached rs) b)) same_rows
