-- An item is ready exactly where none of its reads is open to a walk.
use Rattle.std.proofs.Common.{◌≡◌, ℕ, zero, suc, ◌+◌, ◌<◌, ◌≤◌, ◌⊎◌, inl, inr, Bool, true, false, cond, not, ◌==◌, ◌&&◌, ◌||◌, nat_lt, List, [], ◌∷◌, ◌++◌, length, map, take, position, Option, Some, None, is_some, slice_get, refl, sym, ap, subst, ◌∙◌, arith, add-zero, zero-add}
use Rattle.std.specs.List.{find, flat_map, list_all, position_or_len}
use Rattle.std.specs.Option.{option_and_then, option_map}
use Rattle.std.proofs.lemmas.Bool.{and_from, cases_lt, le-ltb, lt-ltb, or_right}
use Rattle.std.proofs.lemmas.List.{length-map}
use Rattle.std.proofs.lemmas.List.Folds.{find_at}
use Rattle.std.proofs.lemmas.Option.{none-some, same_Some, slice_get_past}
use Rattle.definite_assignment.specs.Uses.{is_exposed, is_open}
use Rattle.definite_assignment.specs.declared.givers.Use.{Use as GivenUse}
use Rattle.ir_assigned.specs.Exposed.{spot, spot_at, use_of}
use Rattle.ir_assigned.specs.Reads.{LocalOf, block_reads, entries_reads, entry_read, entry_value, instr_reads, instrs_reads, kind_read, kind_value, local_read, operand_read, operand_reads, read, reads_if_any, uses_reads, value_read, all_reads}
use Rattle.ir_assigned.specs.Unready.{unready, unready_in}
use Rattle.ir_assigned.specs.declared.reads.Read.{Read}
use Rattle.ir_rules.specs.Assigned.{are_held, are_held_behind, is_held_behind, is_held_operand, is_ready, is_ready_term}
use Rattle.ir_rules.specs.Existing.{value_names}
use Rattle.ir_rules.specs.Finding.{FindsNames, HeldAsFound, IsLabelOf, is_held_at_end, is_held_found, is_open_without, kind_is_held, kind_is_held_at_end, kind_label, kind_ret, label_found, ret_found}
use Rattle.ir_rules.specs.Lists.{Among}
use Rattle.ir_rules.specs.Resolved.{IsResolved}
use Rattle.ir_rules.specs.Scopes.{term_reads, values}
use Rattle.ir_tree.specs.Blocks.{labels}
use Rattle.ir_tree.specs.Edges.{rows}
use Rattle.ir_tree.specs.Locals.{first_local}
use Rattle.ir_tree.specs.Names.{same}
use Rattle.ir_tree.specs.Operands.{Entries, Use, operands, result_names}
use Rattle.ir_tree.specs.Phis.{entries_of, is_phi, reads}
use Rattle.ir_tree.specs.declared.locals.Local.{Local}
use Rattle.ir_tree.specs.declared.locals.LocalKind.{LocalKind}
use Rattle.ir_tree.specs.declared.locals.LocalKind.TheVariants.{Param, Result, Label}
use Rattle.ir_tree.specs.declared.types.Block.{Block}
use Rattle.ir_tree.specs.declared.types.Function.{Function}
use Rattle.ir_tree.specs.declared.types.Instr.{Instr}
use Rattle.ir_tree.specs.declared.types.Instr.TheVariants as instr
use Rattle.ir_tree.specs.declared.types.Operand.{Operand}
use Rattle.ir_tree.specs.declared.types.Operand.TheVariants as operand
use Rattle.ir_tree.specs.declared.types.Ret.{Ret}
use Rattle.ir_tree.specs.declared.types.Term.{Term}
use Rattle.ir_tree.specs.declared.types.Ty.{Ty}
use Rattle.spec_lists.specs.Each.{each, first_of, only_if}

abbrev pub Name : Type 0
Name = List ℕ

abbrev pub is_open_read : List (List ℕ) → Read → Bool
is_open_read rs q = is_exposed rs (use_of q)

-- none of these reads is open
abbrev pub are_closed : List (List ℕ) → List Read → Bool
are_closed rs qs = list_all (λ q. not (is_open_read rs q)) qs

closed_append : (rs : List (List ℕ)) (xs ys : List Read) → are_closed rs (xs ++ ys) ≡ (are_closed rs xs && are_closed rs ys)
closed_append rs [] ys = refl
closed_append rs (x ∷ xs) ys = by (not (is_open_read rs x)) (closed_append rs xs ys)
  where
    by : (t : Bool) → are_closed rs (xs ++ ys) ≡ (are_closed rs xs && are_closed rs ys) → (t && are_closed rs (xs ++ ys)) ≡ ((t && are_closed rs xs) && are_closed rs ys)
    by true rest = rest
    by false rest = refl

one_closed : (rs : List (List ℕ)) (t : Bool) (d b e i : ℕ) → are_closed rs (only_if (not t) (read d e b i)) ≡ (t || not (is_open_without rs d e))
unfolding is_open is_open_without
one_closed rs true d b e i = refl
one_closed rs false d b e i = by (not (is_open rs d e))
  where
    by : (t : Bool) → (t && true) ≡ t
    by true = refl
    by false = refl

local_closed : (rs : List (List ℕ)) (b i : ℕ) (o : Option Local) (s : Ret) → ret_found o ≡ Some s → are_closed rs (local_read b i o) ≡ is_held_found rs b i o
local_closed rs b i None s h = absurd (none-some s h)
local_closed rs b i (Some l) s h = by l.kind h
  where
    by : (k : LocalKind) → kind_ret k ≡ Some s → are_closed rs (kind_read k b i l) ≡ kind_is_held k rs b i l
    by (Param t) e = refl
    by (Result r) e = one_closed rs (l.block == b && nat_lt l.item i) l.block b b i
    by Label e = absurd (none-some s e)

value_closed : (rs : List (List ℕ)) (b i e : ℕ) (from o : Option Local) (s : Ret) → label_found from ≡ Some e → ret_found o ≡ Some s → are_closed rs (value_read b i from o) ≡ is_held_at_end rs e o
value_closed rs b i e None o s l h = absurd (none-some e l)
value_closed rs b i e (Some from) None s l h = absurd (none-some s h)
value_closed rs b i e (Some from) (Some x) s l h = by x.kind h
  where
    place : (k : LocalKind) → kind_label k from.block ≡ Some e → from.block ≡ e
    place (Param t) q = absurd (none-some e q)
    place (Result r) q = absurd (none-some e q)
    place Label q = same_Some from.block e q

    by : (k : LocalKind) → kind_ret k ≡ Some s → are_closed rs (kind_value k b i from x) ≡ kind_is_held_at_end k rs e x
    by (Param t) q = refl
    by (Result r) q = one_closed rs (x.block == from.block) x.block b from.block i ∙ ap (λ (j : ℕ). (x.block == j) || not (is_open_without rs x.block j)) (place from.kind l)
    by Label q = absurd (none-some s q)

-- ---- the item that a read tells

abbrev pub AllAt : ℕ × ℕ → List Read → Type 0
AllAt s [] = Unit {0}
AllAt s (q ∷ qs) = (spot q ≡ s) × AllAt s qs

at_append : (s : ℕ × ℕ) (xs ys : List Read) → AllAt s xs → AllAt s ys → AllAt s (xs ++ ys)
at_append s [] ys h k = k
at_append s (x ∷ xs) ys h k = (h.0, at_append s xs ys h.1 k)

one_at : (t : Bool) (d e b i : ℕ) → AllAt (b, i) (only_if t (read d e b i))
one_at true d e b i = (refl, tt)
one_at false d e b i = tt

local_at : (b i : ℕ) (o : Option Local) → AllAt (b, i) (local_read b i o)
local_at b i None = tt
local_at b i (Some l) = by l.kind
  where
    by : (k : LocalKind) → AllAt (b, i) (kind_read k b i l)
    by (Param t) = tt
    by (Result r) = one_at (not (l.block == b && nat_lt l.item i)) l.block b b i
    by Label = tt

value_at : (b i : ℕ) (from o : Option Local) → AllAt (b, i) (value_read b i from o)
value_at b i None o = tt
value_at b i (Some from) None = tt
value_at b i (Some from) (Some l) = by l.kind
  where
    by : (k : LocalKind) → AllAt (b, i) (kind_value k b i from l)
    by (Param t) = tt
    by (Result r) = one_at (not (l.block == from.block)) l.block from.block b i
    by Label = tt

operand_at : (known : LocalOf) (b i : ℕ) (o : Operand) → AllAt (b, i) (operand_read known b i o)
operand_at known b i (operand.Int v) = tt
operand_at known b i operand.Null = tt
operand_at known b i (operand.Local r) = local_at b i (known r)
operand_at known b i (operand.Global g) = tt

uses_at : (known : LocalOf) (b i : ℕ) (us : List Use) → AllAt (b, i) (uses_reads known b i us)
uses_at known b i [] = tt
uses_at known b i (u ∷ us) = at_append (b, i) (operand_read known b i u.1) (uses_reads known b i us) (operand_at known b i u.1) (uses_at known b i us)

entry_at : (known : LocalOf) (b i : ℕ) (n : Name) (v : Operand) → AllAt (b, i) (entry_value known b i n v)
entry_at known b i n (operand.Int v) = tt
entry_at known b i n operand.Null = tt
entry_at known b i n (operand.Local r) = value_at b i (known n) (known r)
entry_at known b i n (operand.Global g) = tt

entries_at : (known : LocalOf) (b i : ℕ) (es : Entries) → AllAt (b, i) (entries_reads known b i es)
entries_at known b i [] = tt
entries_at known b i (e ∷ es) = at_append (b, i) (entry_read known b i e) (entries_reads known b i es) (entry_at known b i e.1 e.0) (entries_at known b i es)

instr_at : (known : LocalOf) (b i : ℕ) (x : Instr) → AllAt (b, i) (instr_reads known b i x)
instr_at known b i x = by (entries_of x)
  where
    by : (o : Option Entries) → AllAt (b, i) (reads_if_any known b i x o)
    by None = uses_at known b i (operands x)
    by (Some es) = entries_at known b i es

-- ---- the first of two lists

or_else : {X : Type 0} → Option X → Option X → Option X
or_else None b = b
or_else (Some x) b = Some x

first_append : {X : Type 0} (xs ys : List X) → first_of (xs ++ ys) ≡ or_else (first_of xs) (first_of ys)
unfolding or_else
first_append [] ys = refl
first_append (x ∷ xs) ys = refl

find_append : {X : Type 0} (p : X → Bool) (xs ys : List X) → find p (xs ++ ys) ≡ or_else (find p xs) (find p ys)
unfolding or_else
find_append p [] ys = refl
find_append {X} p (x ∷ xs) ys = by (p x) (find_append p xs ys)
  where
    by : (t : Bool) → find p (xs ++ ys) ≡ or_else (find p xs) (find p ys) → cond t (Some x) (find p (xs ++ ys)) ≡ or_else (cond t (Some x) (find p xs)) (find p ys)
    by true rest = refl
    by false rest = rest

map_or : {X Y : Type 0} (g : X → Y) (a b : Option X) → option_map g (or_else a b) ≡ or_else (option_map g a) (option_map g b)
unfolding or_else
map_or g None b = refl
map_or g (Some x) b = refl

module _ (f : Function) (resolved : IsResolved f) (finds : FindsNames f) (held : HeldAsFound f) where
  abbrev rs : List (List ℕ)
  rs = rows f.blocks

  abbrev known : Name → Option Local
  known = first_local f

  -- a name among the values has a type
  typed : (r : Name) → Among r (value_names f) → (s : Ret) × (ret_found (known r) ≡ Some s)
  typed r at = from (values f) (λ s h. (finds.value r s).0 h) at
    where
      from : (vs : List (Name × Ret)) → ((s : Ret) → Among {X = Name × Ret} (r, s) vs → ret_found (known r) ≡ Some s) → Among r (map (λ v. v.0) vs) → (s : Ret) × (ret_found (known r) ≡ Some s)
      from [] all at = absurd at
      from (v ∷ vs) all (inl e) = (v.1, all v.1 (inl (λ j. (e j, v.1))))
      from (v ∷ vs) all (inr at) = from vs (λ s h. all s (inr h)) at

  -- a label of a block is found
  labelled : (n : Name) → Among n (labels f.blocks) → (e : ℕ) × IsLabelOf f n e
  labelled n at = let l = from f.blocks (λ b block h. h) at in (l.0, (l.1, l.2, l.3))
    where
      from : (bs : List Block) → ((b : ℕ) (block : Block) → slice_get bs b ≡ Some block → slice_get bs b ≡ Some block) → Among n (labels bs) → (e : ℕ) × (block : Block) × (slice_get bs e ≡ Some block) × (block.label ≡ n)
      from [] all at = absurd at
      from (x ∷ xs) all (inl e) = (0, x, refl, sym e)
      from (x ∷ xs) all (inr at) = let rest = from xs (λ b block h. h) at in (suc rest.0, rest.1, rest.2, rest.3)

  operand_closed : (b i : ℕ) (results : List Name) → ((r : Name) → Among r (value_names f) → are_closed rs (local_read b i (known r)) ≡ is_held_operand f b results (operand.Local r)) → (o : Operand) → ((r : Name) → o ≡ operand.Local r → Among r (value_names f)) → are_closed rs (operand_read known b i o) ≡ is_held_operand f b results o
  operand_closed b i results local (operand.Int v) h = refl
  operand_closed b i results local operand.Null h = refl
  operand_closed b i results local (operand.Local r) h = local r (h r refl)
  operand_closed b i results local (operand.Global n) h = refl

  uses_closed : (b i : ℕ) (results : List Name) → ((r : Name) → Among r (value_names f) → are_closed rs (local_read b i (known r)) ≡ is_held_operand f b results (operand.Local r)) → (us : List Use) → ((u : Use) (r : Name) → Among u us → u.1 ≡ operand.Local r → Among r (value_names f)) → are_closed rs (uses_reads known b i us) ≡ are_held f b results us
  uses_closed b i results local [] h = refl
  uses_closed b i results local (u ∷ us) h = closed_append rs (operand_read known b i u.1) (uses_reads known b i us) ∙ (λ j. operand_closed b i results local u.1 (λ r e. h u r (inl refl) e) j && uses_closed b i results local us (λ v r at e. h v r (inr at) e) j)

  -- an operand that is no register is held behind every block
  passes : (v : Operand) (n : Name) → ((b : ℕ) (results : List Name) → is_held_operand f b results v ≡ true) → (bs : List Block) (k : ℕ) → is_held_behind f v n k bs ≡ true
  passes v n all [] k = refl
  passes v n all (y ∷ ys) k = and_from (not (same n y.label) || is_held_operand f k (result_names y.instrs) v) (is_held_behind f v n (suc k) ys) (or_right (not (same n y.label)) (is_held_operand f k (result_names y.instrs) v) (all k (result_names y.instrs))) (passes v n all ys (suc k))

  entry_closed : (b i : ℕ) (v : Operand) (n : Name) → ((r : Name) → v ≡ operand.Local r → Among r (value_names f)) → Among n (labels f.blocks) → are_closed rs (entry_value known b i n v) ≡ is_held_behind f v n 0 f.blocks
  entry_closed b i (operand.Int x) n h at = sym (passes (operand.Int x) n (λ k results. refl) f.blocks 0)
  entry_closed b i operand.Null n h at = sym (passes operand.Null n (λ k results. refl) f.blocks 0)
  entry_closed b i (operand.Local r) n h at =
      let label = labelled n at in
      let value = typed r (h r refl) in
      value_closed rs b i label.0 (known n) (known r) value.0 ((finds.label n label.0).0 label.1) value.1 ∙ sym (held.end label.0 n r label.1 (h r refl))
  entry_closed b i (operand.Global g) n h at = sym (passes (operand.Global g) n (λ k results. refl) f.blocks 0)

  entries_closed : (b i : ℕ) (es : Entries) → ((v : Operand) (n r : Name) → Among (v, n) es → v ≡ operand.Local r → Among r (value_names f)) → ((v : Operand) (n : Name) → Among (v, n) es → Among n (labels f.blocks)) → are_closed rs (entries_reads known b i es) ≡ list_all (λ (e : Operand × Name). is_held_behind f e.0 e.1 0 f.blocks) es
  entries_closed b i [] h k = refl
  entries_closed b i (e ∷ es) h k = closed_append rs (entry_read known b i e) (entries_reads known b i es) ∙ (λ j. entry_closed b i e.0 e.1 (λ r q. h e.0 e.1 r (inl refl) q) (k e.0 e.1 (inl refl)) j && entries_closed b i es (λ v n r at q. h v n r (inr at) q) (λ v n at. k v n (inr at)) j)

  -- the values of a phi are among its operands
  value_operand : (x : Instr) (es : Entries) → entries_of x ≡ Some es → (v : Operand) (n : Name) → Among (v, n) es → (t : Ty) × Among {X = Use} (t, v) (operands x)
  value_operand (instr.Binary dest o flags ty left right) es e v n at = absurd (none-some es e)
  value_operand (instr.Compare dest pred ty left right) es e v n at = absurd (none-some es e)
  value_operand (instr.Convert dest o flags from value to) es e v n at = absurd (none-some es e)
  value_operand (instr.Freeze dest ty value) es e v n at = absurd (none-some es e)
  value_operand (instr.Select dest c ty first second prof) es e v n at = absurd (none-some es e)
  value_operand (instr.Phi dest ty entries) es e v n at = (ty, listed entries (subst (λ (ds : Entries). Among (v, n) ds) (sym (same_Some entries es e)) at))
    where
      listed : (ds : Entries) → Among (v, n) ds → Among {X = Use} (ty, v) (map (λ (d : Operand × Name). (ty, d.0)) ds)
      listed [] at = absurd at
      listed (d ∷ ds) (inl q) = inl (λ j. (ty, (q j).0))
      listed (d ∷ ds) (inr at) = inr (listed ds at)
  value_operand (instr.Alloca dest mem) es e v n at = absurd (none-some es e)
  value_operand (instr.Load dest ty address) es e v n at = absurd (none-some es e)
  value_operand (instr.Store ty value address) es e v n at = absurd (none-some es e)
  value_operand (instr.Gep dest inbounds mem address indices) es e v n at = absurd (none-some es e)
  value_operand (instr.Call dest ret callee args prof) es e v n at = absurd (none-some es e)
  value_operand (instr.Count symbol size index step) es e v n at = absurd (none-some es e)

  module _ (b : ℕ) (block : Block) (here : slice_get f.blocks b ≡ Some block) where
    item_local : (i : ℕ) (r : Name) → Among r (value_names f) → are_closed rs (local_read b i (known r)) ≡ is_held_operand f b (result_names (take i block.instrs)) (operand.Local r)
    item_local i r at = let value = typed r at in local_closed rs b i (known r) value.0 value.1 ∙ sym (held.item b i block r here at)

    exit_local : (r : Name) → Among r (value_names f) → are_closed rs (local_read b (length block.instrs) (known r)) ≡ is_held_operand f b (result_names block.instrs) (operand.Local r)
    exit_local r at = let value = typed r at in local_closed rs b (length block.instrs) (known r) value.0 value.1 ∙ sym (held.exit b block r here at)

    instr_closed : (i : ℕ) (x : Instr) → slice_get block.instrs i ≡ Some x → are_closed rs (instr_reads known b i x) ≡ is_ready f b block i x
    instr_closed i x there = by (entries_of x) refl
      where
        and_true : (t : Bool) → t ≡ (t && true)
        and_true true = refl
        and_true false = refl

        by : (o : Option Entries) → entries_of x ≡ o → are_closed rs (reads_if_any known b i x o) ≡ (are_held f b (result_names (take i block.instrs)) (cond (is_some o) [] (operands x)) && are_held_behind f o)
        by None e = uses_closed b i (result_names (take i block.instrs)) (item_local i) (operands x) (λ u r at q. resolved.reads b i block x u r here there at q) ∙ and_true (are_held f b (result_names (take i block.instrs)) (operands x))
        by (Some es) e = entries_closed b i es (λ v n r at q. let value = value_operand x es e v n at in resolved.reads b i block x (value.0, v) r here there value.1 q) (λ v n at. resolved.entries b i block x es v n here there e at)

    exit_closed : are_closed rs (uses_reads known b (length block.instrs) (term_reads block.term)) ≡ is_ready_term f b block
    exit_closed = uses_closed b (length block.instrs) (result_names block.instrs) exit_local (term_reads block.term) (λ u r at q. resolved.exits b block u r here at q)

  -- ---- the first

  -- the first of the spots is that of the first open read
  abbrev Agree : List (ℕ × ℕ) → List Read → Type 0
  Agree spots qs = first_of spots ≡ option_map spot (find (is_open_read rs) qs)

  agree_append : (ss ts : List (ℕ × ℕ)) (qs us : List Read) → Agree ss qs → Agree ts us → Agree (ss ++ ts) (qs ++ us)
  agree_append ss ts qs us h k = first_append ss ts ∙ ((λ j. or_else (h j) (k j)) ∙ (sym (map_or spot (find (is_open_read rs) qs) (find (is_open_read rs) us)) ∙ ap (λ (o : Option Read). option_map spot o) (sym (find_append (is_open_read rs) qs us))))

  agree_each : {X : Type 0} (ms : ℕ → X → List (ℕ × ℕ)) (mr : ℕ → X → List Read) (k : ℕ) (xs : List X) → ((i : ℕ) (x : X) → slice_get xs i ≡ Some x → Agree (ms (k + i) x) (mr (k + i) x)) → Agree (each ms k xs) (each mr k xs)
  agree_each ms mr k [] h = refl
  agree_each {X} ms mr k (x ∷ xs) h =
      let first : Agree (ms k x) (mr k x) = subst (λ (j : ℕ). Agree (ms j x) (mr j x)) (add-zero k) (h 0 x refl) in
      agree_append (ms k x) (each ms (k + 1) xs) (mr k x) (each mr (k + 1) xs) first (agree_each ms mr (k + 1) xs (λ i y at. subst (λ (j : ℕ). Agree (ms j y) (mr j y)) (let e : k + suc i ≡ k + 1 + i = omega arith in e) (h (suc i) y at)))

  item_agrees : (s : ℕ × ℕ) (qs : List Read) → AllAt s qs → Agree (only_if (not (are_closed rs qs)) s) qs
  item_agrees s [] at = refl
  item_agrees s (q ∷ qs) at = by (is_open_read rs q) (item_agrees s qs at.1)
    where
      by : (t : Bool) → first_of (only_if (not (are_closed rs qs)) s) ≡ option_map spot (find (is_open_read rs) qs) → first_of (only_if (not (not t && are_closed rs qs)) s) ≡ option_map spot (cond t (Some q) (find (is_open_read rs) qs))
      by true rest = ap Some (sym at.0)
      by false rest = rest

  spot_agrees : (s : ℕ × ℕ) (t : Bool) (qs : List Read) → AllAt s qs → are_closed rs qs ≡ t → Agree (only_if (not t) s) qs
  spot_agrees s t qs at e = subst (λ (u : Bool). Agree (only_if (not u) s) qs) e (item_agrees s qs at)

  block_agrees : (b : ℕ) (block : Block) → slice_get f.blocks b ≡ Some block → Agree (unready_in f b block) (block_reads known b block)
  block_agrees b block here =
      let inside : Agree (each (λ i x. only_if (not (is_ready f b block i x)) (b, i)) 0 block.instrs) (instrs_reads known b block.instrs) =
      agree_each (λ i x. only_if (not (is_ready f b block i x)) (b, i)) (instr_reads known b) 0 block.instrs (λ i x there. spot_agrees (b, 0 + i) (is_ready f b block (0 + i) x) (instr_reads known b (0 + i) x) (instr_at known b (0 + i) x) (ap (λ (j : ℕ). are_closed rs (instr_reads known b j x)) (zero-add i) ∙ (instr_closed b block here i x there ∙ ap (λ (j : ℕ). is_ready f b block j x) (sym (zero-add i))))) in
      agree_append (each (λ i x. only_if (not (is_ready f b block i x)) (b, i)) 0 block.instrs) (only_if (not (is_ready_term f b block)) (b, length block.instrs)) (instrs_reads known b block.instrs) (uses_reads known b (length block.instrs) (term_reads block.term)) inside (spot_agrees (b, length block.instrs) (is_ready_term f b block) (uses_reads known b (length block.instrs) (term_reads block.term)) (uses_at known b (length block.instrs) (term_reads block.term)) (exit_closed b block here))

  pub all_agree : first_of (unready f) ≡ option_map spot (find (is_open_read rs) (all_reads known f.blocks))
  all_agree = agree_each (unready_in f) (block_reads known) 0 f.blocks (λ b block here. subst (λ (j : ℕ). Agree (unready_in f j block) (block_reads known j block)) (sym (zero-add b)) (block_agrees b block here))

-- ---- the place of the first

mapped_len : {X Y : Type 0} (p : Y → Bool) (g : X → Y) (xs : List X) → position_or_len p (map g xs) ≡ position_or_len (λ x. p (g x)) xs
mapped_len p g [] = refl
mapped_len p g (x ∷ xs) = ap (λ (n : ℕ). cond {A = ℕ} (not (p (g x))) (1 + n) 0) (mapped_len p g xs)

mapped_place : {X Y : Type 0} (p : Y → Bool) (g : X → Y) (xs : List X) → position p (map g xs) ≡ position (λ x. p (g x)) xs
mapped_place p g xs = (λ j. cond {A = Option ℕ} (nat_lt (mapped_len p g xs j) (length-map xs g j)) (Some (mapped_len p g xs j)) None)

placed : {X : Type 0} (p : X → Bool) (xs : List X) → find p xs ≡ option_and_then (slice_get xs) (position p xs)
placed p xs = find_at p xs ∙ by (cases_lt (position_or_len p xs) (length xs))
  where
    by : (position_or_len p xs < length xs) ⊎ (length xs ≤ position_or_len p xs) → slice_get xs (position_or_len p xs) ≡ option_and_then (slice_get xs) (cond {A = Option ℕ} (nat_lt (position_or_len p xs) (length xs)) (Some (position_or_len p xs)) None)
    by (inl h) = ap (λ (b : Bool). option_and_then (slice_get xs) (cond {A = Option ℕ} b (Some (position_or_len p xs)) None)) (sym (lt-ltb (position_or_len p xs) (length xs) h))
    by (inr h) = slice_get_past xs (position_or_len p xs) h ∙ ap (λ (b : Bool). option_and_then (slice_get xs) (cond {A = Option ℕ} b (Some (position_or_len p xs)) None)) (sym (le-ltb (position_or_len p xs) (length xs) h))

pub first_spot : (f : Function) → IsResolved f → FindsNames f → HeldAsFound f → (qs : List Read) (place : Option ℕ) → qs ≡ all_reads (first_local f) f.blocks → place ≡ position (is_exposed (rows f.blocks)) (map use_of qs) → spot_at qs place ≡ first_of (unready f)
first_spot f resolved finds held qs place is at =
    let found : option_and_then (slice_get qs) place ≡ find (is_open_read (rows f.blocks)) qs = ap (λ (o : Option ℕ). option_and_then (slice_get qs) o) (at ∙ mapped_place (is_exposed (rows f.blocks)) use_of qs) ∙ sym (placed (is_open_read (rows f.blocks)) qs) in
    ap (λ (o : Option Read). option_map spot o) found ∙ (ap (λ (rs : List Read). option_map spot (find (is_open_read (rows f.blocks)) rs)) is ∙ sym (all_agree f resolved finds held))

-- what the code has gathered, by what the function's look-ups find
pub gathered : (f : Function) (found : LocalOf) → ((n : Name) → found n ≡ first_local f n) → (start items : List Read) (bs : List Block) → start ≡ [] → bs ≡ f.blocks → items ≡ start ++ all_reads found bs → items ≡ all_reads (first_local f) f.blocks
gathered f found kn start items bs none is made = made ∙ ((λ j. none j ++ all_reads found bs) ∙ (λ j. all_reads (λ n. kn n j) (is j)))

pub placed_by : (blocks : List Block) (us : List GivenUse) (made : List (List ℕ)) (qs more : List Read) (place : Option ℕ) → made ≡ rows blocks → us ≡ map use_of qs → qs ≡ more → place ≡ position (is_exposed made) us → place ≡ position (is_exposed (rows blocks)) (map use_of more)
placed_by blocks us made qs more place of are same_reads at = at ∙ ((λ j. position (is_exposed (of j)) (are j)) ∙ ap (λ (xs : List Read). position (is_exposed (rows blocks)) (map use_of xs)) same_reads)
