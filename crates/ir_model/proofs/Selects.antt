-- A select sees its condition once for each time that its block is entered, in a run that returns: a frame that stands in
-- the block at the select or before it owes one look.
use Rattle.std.proofs.Common.{◌≡◌, ℕ, zero, suc, ◌+◌, ◌==◌, Bool, true, false, cond, List, [], ◌∷◌, ◌++◌, length, map, drop, Option, Some, None, refl, sym, ◌∙◌, ap, ap₂, subst, arith, eqb-true}
use Rattle.std.specs.Prelude.{◌&&◌, ◌<◌, nat_le, nat_lt, not, slice_get, option_and_then}
use Rattle.std.specs.Cmp.Lexicographic.{bytes_decides}
use Rattle.std.specs.List.{count_by}
use Rattle.std.proofs.lemmas.List.Sums.{sum_by-cons, sum_by-append}
use Rattle.std.proofs.lemmas.Option.{none-some, same_Some}
use Rattle.ir_tree.specs.Functions.{function_at, print_name}
use Rattle.ir_tree.specs.Graphs.{is_select}
use Rattle.ir_tree.specs.Names.{same}
use Rattle.ir_tree.specs.Phis.{behind_phis}
use Rattle.ir_tree.specs.Successors.{successors}
use Rattle.ir_tree.specs.declared.types.Ty.{Ty}
use Rattle.ir_tree.specs.declared.types.Ret.{Ret as ReturnType}
use Rattle.ir_tree.specs.declared.types.Ty.TheVariants.{I64}
use Rattle.ir_tree.specs.declared.types.Operand.{Operand}
use Rattle.ir_tree.specs.declared.types.Instr.{Instr}
use Rattle.ir_tree.specs.declared.types.Instr.TheVariants.{Binary, Compare, Convert, Freeze, Select, Phi, Alloca, Load, Store, Gep, Call as CallInstr, Count}
use Rattle.ir_tree.specs.declared.types.Term.{Term}
use Rattle.ir_tree.specs.declared.types.Term.TheVariants.{Br, CondBr, Switch, Ret, Unreachable}
use Rattle.ir_tree.specs.declared.types.Block.{Block}
use Rattle.ir_tree.specs.declared.types.Function.{Function}
use Rattle.ir_tree.specs.declared.types.Module.{Module}
use Rattle.ir_memory.specs.Memory.{MemoryState}
use Rattle.ir_memory.specs.declared.value.Value.{Value}
use Rattle.ir_memory.specs.declared.value.Value.TheVariants.{Int}
use Rattle.ir_model.specs.declared.result.TrapKind.TheVariants as trap
use Rattle.ir_model.specs.declared.result.Call.{Call}
use Rattle.spec_machines.specs.Machine.{Goes, Stops, Ran, Open, Ended, shown_first, shown_of, go_on, run}
use Rattle.ir_model.specs.Deed.{Deed, Gives, Calls, Fails, deed, Choice, Takes, Leaves, Breaks, choice}
use Rattle.ir_model.specs.Initial.{initial_memory}
use Rattle.ir_model.specs.State.{Frame, Shared, State, What, Chose, Shown, Did, Printed, Entered, Walked, Stop, Returns, Traps, arguments}
use Rattle.ir_model.specs.Step.{Step, fails, goes_to, past, waiting, entering, resumed, phis_in, line_of, output_most, depth_most, targeted, prints_first, marks_lifetime, entered, called, call_at, fits, acted, walked, returned, left, done, done_in, stepped, sought, step, value_of}
use Rattle.ir_model.specs.Run.{run_of, first_entered, begun}
use Rattle.ir_model.specs.Log.{Walk, Into, Out, log, log_of, first_label, successor, target, same_block, leads_to, HasReturned}
use Rattle.ir_model.specs.LogLaws.{log-append, log_behind, log_deeds, log_targeted, log_text, returned_later}
use Rattle.ir_model.specs.Selects.{IsSelectAt, falses, is_false, is_true, shows_there, trues}
use Rattle.ir_model.specs.Values.{function_at_address, functions_of, number_at}

abbrev one_if : Bool → ℕ
one_if b = cond b 1 0

and_false : (a : Bool) → a && false ≡ false
and_false true = refl
and_false false = refl

and_true : (a : Bool) → a && true ≡ a
and_true true = refl
and_true false = refl

both : (a b : Bool) → a && b ≡ true → (a ≡ true) × (b ≡ true)
both true b h = (refl, h)
both false b h = absurd (cc)

-- a select gives a value, and shows its condition alone
select_gives : (val : Operand → Value) (count : ℕ) (memory : MemoryState) (x : Instr) → is_select x ≡ true →
    (into : Option (List ℕ)) × (v : Value) × (n : ℕ) × (deed val count memory x ≡ Gives into v memory (Chose n ∷ []))
select_gives val count memory (Binary into op flags ty left right) h = absurd (cc)
select_gives val count memory (Compare into pred ty left right) h = absurd (cc)
select_gives val count memory (Convert into op flags from value to) h = absurd (cc)
select_gives val count memory (Freeze into ty value) h = absurd (cc)
select_gives val count memory (Select into c ty first second prof) h = (Some into, _, _, refl)
select_gives val count memory (Phi into ty entries) h = absurd (cc)
select_gives val count memory (Alloca into mem) h = absurd (cc)
select_gives val count memory (Load into ty address) h = absurd (cc)
select_gives val count memory (Store ty value address) h = absurd (cc)
select_gives val count memory (Gep into inbounds mem address indices) h = absurd (cc)
select_gives val count memory (CallInstr into ret callee values prof) h = absurd (cc)
select_gives val count memory (Count symbol size index amount) h = absurd (cc)

module _ (m : Module) (k : ℕ) (l : List ℕ) (i : ℕ) (b : Block) (x : Instr) (is_block : sought m k l ≡ Some b) (is_at : slice_get (behind_phis b.instrs) i ≡ Some x) (selects : is_select x ≡ true) where
  abbrev is_here : Frame → Bool
  is_here fr = fr.function == k && same l fr.block

  -- does the frame owe a look?
  abbrev owes : Frame → Bool
  owes fr = is_here fr && nat_le fr.place i

  abbrev owed : List Frame → ℕ
  owed [] = 0
  owed (fr ∷ frs) = one_if (owes fr) + owed frs

  abbrev look : Shown → ℕ
  look s = one_if (shows_there k l i is_true s) + one_if (shows_there k l i is_false s)

  abbrev looks : List Shown → ℕ
  looks [] = 0
  looks (s ∷ ss) = look s + looks ss

  looks-append : (xs ys : List Shown) → looks (xs ++ ys) ≡ looks xs + looks ys
  looks-append [] ys = omega arith
  looks-append (s ∷ ss) ys = let e = looks-append ss ys in omega (arith, e)

  looks_count : (xs : List Shown) → trues k l i xs + falses k l i xs ≡ looks xs
  looks_count [] = refl
  looks_count (s ∷ ss) =
      let t = sum_by-cons (λ (y : Shown). cond (shows_there k l i is_true y) 1 0) s ss in
      let f = sum_by-cons (λ (y : Shown). cond (shows_there k l i is_false y) 1 0) s ss in
      let e = looks_count ss in
      omega (arith, t, f, e)

  abbrev entries : List Walk → ℕ
  entries ws = count_by (leads_to m k (Some l)) ws

  one_entry : (w : Walk) → entries (w ∷ []) ≡ one_if (leads_to m k (Some l) w)
  one_entry w =
      let e = sum_by-cons (λ (y : Walk). cond (leads_to m k (Some l) y) 1 0) w [] in
      let none : entries [] ≡ 0 = refl in
      omega (arith, e, none)

  -- what is shown between these frames and those pays what is owed
  abbrev Pays : List Frame → List Shown → List Frame → Type 0
  Pays before shown after = looks shown + owed after ≡ owed before + entries (log shown)

  pays-append : (xs ys : List Shown) (first second third : List Frame) → Pays first xs second → Pays second ys third → Pays first (xs ++ ys) third
  pays-append xs ys first second third p q =
      let a = looks-append xs ys in
      let e : entries (log (xs ++ ys)) ≡ entries (log xs) + entries (log ys) = ap entries (log-append xs ys) ∙ sum_by-append (λ (w : Walk). cond (leads_to m k (Some l) w) 1 0) (log xs) (log ys) in
      omega (arith, a, e, p, q)

  -- nothing is walked and nothing is looked at
  quiet : (shown : List Shown) (before after : List Frame) → log shown ≡ [] → looks shown ≡ 0 → owed after ≡ owed before → Pays before shown after
  quiet shown before after none blind e =
      let w : entries (log shown) ≡ 0 = ap entries none in
      omega (arith, w, blind, e)

  looks_text : (text : List ℕ) → looks (map Printed text) ≡ 0
  looks_text [] = refl
  looks_text (t ∷ ts) = let e = looks_text ts in omega (arith, e)

  looks_targeted : (through : Bool) (fr : Frame) (g : ℕ) → looks (targeted through fr g) ≡ 0
  looks_targeted true fr g = refl
  looks_targeted false fr g = refl

  first_place : (a : Bool) → a && nat_le 0 i ≡ a
  first_place a = ap (λ y. a && y) (let z : nat_le 0 i ≡ true = grind arith in z) ∙ and_true a

  -- a frame is entered at the block that the walk leads to
  enters : (fr : Frame) (rest : List Frame) → fr.place ≡ 0 → target m (Into fr.function) ≡ Some fr.block → Pays rest (Entered fr.function ∷ []) (fr ∷ rest)
  enters fr rest start e =
      let w : Walk = Into fr.function in
      let one : entries (w ∷ []) ≡ one_if (is_here fr) = one_entry w ∙ ap (λ t. one_if (fr.function == k && same_block (Some l) t)) e in
      let o : one_if (owes fr) ≡ one_if (is_here fr) = ap (λ p. one_if (is_here fr && nat_le p i)) start ∙ ap one_if (first_place (is_here fr)) in
      omega (arith, one, o)

  -- a frame that owes nothing moves to the block that the walk leads to
  moves : (fr to : Frame) (rest : List Frame) (position : ℕ) → one_if (owes fr) ≡ 0 → to.function ≡ fr.function → to.place ≡ 0 → target m (Out fr.function fr.block position) ≡ Some to.block → Pays (fr ∷ rest) (Walked fr.function fr.block position ∷ []) (to ∷ rest)
  moves fr to rest position paid f start e =
      let w : Walk = Out fr.function fr.block position in
      let one : entries (w ∷ []) ≡ one_if (fr.function == k && same l to.block) = one_entry w ∙ ap (λ t. one_if (fr.function == k && same_block (Some l) t)) e in
      let o : one_if (owes to) ≡ one_if (fr.function == k && same l to.block) =
      ap (λ p. one_if (is_here to && nat_le p i)) start ∙ ap one_if (first_place (is_here to)) ∙ ap (λ g. one_if (g == k && same l to.block)) f in
      omega (arith, one, o, paid)

  -- a frame that owes nothing is left
  leaves : (fr : Frame) (rest : List Frame) → one_if (owes fr) ≡ 0 → target m (Out fr.function fr.block 0) ≡ None → Pays (fr ∷ rest) (Walked fr.function fr.block 0 ∷ []) rest
  leaves fr rest paid e =
      let w : Walk = Out fr.function fr.block 0 in
      let one : entries (w ∷ []) ≡ 0 = one_entry w ∙ ap (λ t. one_if (fr.function == k && same_block (Some l) t)) e ∙ ap one_if (and_false (fr.function == k)) in
      omega (arith, one, paid)

  -- what a step shows pays; one that traps owes nothing
  abbrev Fair : List Frame → Step → Type 0
  Fair before (Goes o s) = Pays before o s.frames
  Fair before (Stops o (Returns v)) = Pays before o []
  Fair before (Stops o (Traps kind)) = Unit {0}

  -- ---- an instruction that is not the select

  module _ (fr : Frame) (rest : List Frame) (shared : Shared) (same_owed : one_if (is_here fr && nat_le (fr.place + 1) i) ≡ one_if (owes fr)) (blind : (what : What) → look (Did fr.function fr.block fr.place what) ≡ 0) where
    waits : (shown : List Shown) → log shown ≡ [] → looks shown ≡ 0 → Pays (fr ∷ rest) shown (waiting fr ∷ rest)
    waits shown none nothing = quiet shown (fr ∷ rest) (waiting fr ∷ rest) none nothing (ap (λ n. n + owed rest) same_owed)

    prints_if : (shown : List Shown) → log shown ≡ [] → looks shown ≡ 0 → (text : List ℕ) (c : Bool) → Fair (fr ∷ rest) (cond c (goes_to (waiting fr ∷ rest) (record shared { output = shared.output + length text }) (shown ++ map Printed text)) (fails trap.Output))
    prints_if shown none nothing text true =
        waits (shown ++ map Printed text) (log_behind shown (map Printed text) none ∙ log_text text)
        (let a = looks-append shown (map Printed text) in let t = looks_text text in omega (arith, a, nothing, t))
    prints_if shown none nothing text false = tt

    prints_fair : (shown : List Shown) → log shown ≡ [] → looks shown ≡ 0 → (values : List (Ty × Value)) → Fair (fr ∷ rest) (prints_first fr rest shared shown values)
    prints_fair shown none nothing [] = tt
    prints_fair shown none nothing (v ∷ vs) =
        prints_if shown none nothing (line_of (number_at I64 v.1)) (nat_le (shared.output + length (line_of (number_at I64 v.1))) output_most)

    declared_if : (shown : List Shown) → log shown ≡ [] → looks shown ≡ 0 → (values : List (Ty × Value)) (c d : Bool) → Fair (fr ∷ rest) (cond c (prints_first fr rest shared shown values) (cond d (goes_to (waiting fr ∷ rest) shared shown) (fails trap.External)))
    declared_if shown none nothing values true d = prints_fair shown none nothing values
    declared_if shown none nothing values false true = waits shown none nothing
    declared_if shown none nothing values false false = tt

    module _ (shown : List Shown) (none : log shown ≡ []) (nothing : looks shown ≡ 0) (into : Option (List ℕ × Ty)) (g : ℕ) (f : Function) (values : List (Ty × Value)) where
      abbrev begun_frame : Block → Frame
      begun_frame c = record { function = g; block = c.label; place = 0; registers = arguments f.params (map (λ v. v.1) values); base = shared.memory.next; into = into }

      enters_if : (c : Block) → target m (Into g) ≡ Some c.label → (d : Bool) → Fair (fr ∷ rest) (cond d (goes_to (begun_frame c ∷ waiting fr ∷ rest) shared (shown ++ Entered g ∷ [])) (fails trap.Depth))
      enters_if c e true =
          pays-append shown (Entered g ∷ []) (fr ∷ rest) (waiting fr ∷ rest) (begun_frame c ∷ waiting fr ∷ rest)
          (waits shown none nothing) (enters (begun_frame c) (waiting fr ∷ rest) refl e)
      enters_if c e false = tt

      blocks_fair : (bs : List Block) → target m (Into g) ≡ first_label bs → Fair (fr ∷ rest) (entered fr rest shared shown into g f values bs)
      blocks_fair [] e = declared_if shown none nothing values (same print_name f.name) (marks_lifetime f.name)
      blocks_fair (c ∷ cs) e = enters_if c e (nat_lt (length (fr ∷ rest)) depth_most)

    called_if : (through : Bool) (into : Option (List ℕ × Ty)) (values : List (Ty × Value)) (g : ℕ) (f : Function) → function_at m g ≡ Some f → (c : Bool) → Fair (fr ∷ rest) (cond c (entered fr rest shared (targeted through fr g) into g f values f.blocks) (fails trap.Callee))
    called_if through into values g f e true =
        blocks_fair (targeted through fr g) (log_targeted through fr g) (looks_targeted through fr g) into g f values f.blocks (ap (λ o. option_and_then (λ (h : Function). first_label h.blocks) o) e)
    called_if through into values g f e false = tt

    called_fair : (through : Bool) (into : Option (List ℕ × Ty)) (r : ReturnType) (values : List (Ty × Value)) (g : ℕ) (o : Option Function) → function_at m g ≡ o → Fair (fr ∷ rest) (called fr rest shared through into r values g o)
    called_fair through into r values g None e = tt
    called_fair through into r values g (Some f) e = called_if through into values g f e (fits r values f)

    call_fair : (through : Bool) (into : Option (List ℕ × Ty)) (r : ReturnType) (values : List (Ty × Value)) (o : Option ℕ) → Fair (fr ∷ rest) (call_at m fr rest shared through into r values o)
    call_fair through into r values None = tt
    call_fair through into r values (Some g) = called_fair through into r values g (function_at m g) refl

    looks_deeds : (whats : List What) → looks (map (Did fr.function fr.block fr.place) whats) ≡ 0
    looks_deeds [] = refl
    looks_deeds (w ∷ ws) = let one = blind w in let more = looks_deeds ws in omega (arith, one, more)

    acted_fair : (d : Deed) → Fair (fr ∷ rest) (acted m fr rest shared d)
    acted_fair (Gives into v memory whats) =
        quiet (map (Did fr.function fr.block fr.place) whats) (fr ∷ rest) (past fr into v ∷ rest) (log_deeds fr.function fr.block fr.place whats) (looks_deeds whats) (ap (λ n. n + owed rest) same_owed)
    acted_fair (Calls through into r address values) = call_fair through into r values (function_at_address (functions_of m) address)
    acted_fair (Fails kind) = tt

  -- ---- the select

  one_look : (h q z : Bool) → h ≡ true → q ≡ true → one_if ((h && q) && not z) + one_if ((h && q) && z) ≡ 1
  one_look h q true a c = (λ t. one_if ((a t && c t) && not true) + one_if ((a t && c t) && true))
  one_look h q false a c = (λ t. one_if ((a t && c t) && not false) + one_if ((a t && c t) && false))

  le_at : (p : ℕ) → p ≡ i → nat_le p i ≡ true
  le_at p e = grind (arith, e)

  le_past : (p : ℕ) → p ≡ i → nat_le (p + 1) i ≡ false
  le_past p e = grind (arith, e)

  select_fair : (fr : Frame) (rest : List Frame) (shared : Shared) (d : Deed) (into : Option (List ℕ)) (v : Value) (n : ℕ) → is_here fr ≡ true → fr.place ≡ i → (fr.place == i) ≡ true → d ≡ Gives into v shared.memory (Chose n ∷ []) → Fair (fr ∷ rest) (acted m fr rest shared d)
  select_fair fr rest shared d into v n here e q is =
      subst (λ (d : Deed). Fair (fr ∷ rest) (acted m fr rest shared d)) (sym is)
      (let one : look (Did fr.function fr.block fr.place (Chose n)) ≡ 1 = one_look (is_here fr) (fr.place == i) (n == 0) here q in
      let before : one_if (owes fr) ≡ 1 = (λ t. one_if (here t && le_at fr.place e t)) in
      let after : one_if (is_here fr && nat_le (fr.place + 1) i) ≡ 0 = ap (λ y. one_if (is_here fr && y)) (le_past fr.place e) ∙ ap one_if (and_false (is_here fr)) in
      omega (arith, one, before, after))

  -- ---- any instruction

  elsewhere_owes : (h : Bool) (p : ℕ) → h ≡ false → one_if (h && nat_le (p + 1) i) ≡ one_if (h && nat_le p i)
  elsewhere_owes h p e = (λ t. one_if (e t && nat_le (p + 1) i)) ∙ sym (λ t. one_if (e t && nat_le p i))

  other_place : (h : Bool) (p : ℕ) → (p ≡ i → ⊥) → one_if (h && nat_le (p + 1) i) ≡ one_if (h && nat_le p i)
  other_place h p ne = ap (λ y. one_if (h && y)) (le_same p ne)
    where
      le_same : (p : ℕ) → (p ≡ i → ⊥) → nat_le (p + 1) i ≡ nat_le p i
      le_same p ne = grind (arith, ne)

  blind_if : (h q : Bool) (what : What) → h && q ≡ false → one_if ((h && q) && is_true what) + one_if ((h && q) && is_false what) ≡ 0
  blind_if h q what e = (λ t. one_if (e t && is_true what) + one_if (e t && is_false what))

  here_is : (fr : Frame) (c : Block) → is_here fr ≡ true → sought m fr.function fr.block ≡ Some c → c ≡ b
  here_is fr c here found =
      let (f, name) = both (fr.function == k) (same l fr.block) here in
      let fe : fr.function ≡ k = eqb-true fr.function k f in
      let le : l ≡ fr.block = (bytes_decides l fr.block).0 name in
      same_Some c b (sym found ∙ ap₂ (λ (g : ℕ) (y : List ℕ). sought m g y) fe (sym le) ∙ is_block)

  first_left : {A : Type 0} (xs : List A) (p : ℕ) (y : A) (ys : List A) → drop p xs ≡ y ∷ ys → slice_get xs p ≡ Some y
  first_left [] zero y ys e = absurd (cc)
  first_left [] (suc p) y ys e = absurd (cc)
  first_left (z ∷ zs) zero y ys e = ap (λ o. o) (cc)
  first_left (z ∷ zs) (suc p) y ys e = first_left zs p y ys e

  none_left : {A : Type 0} (xs : List A) (p j : ℕ) (y : A) → drop p xs ≡ [] → slice_get xs j ≡ Some y → j < p
  none_left [] p j y e s = absurd (none-some y s)
  none_left (z ∷ zs) zero j y e s = absurd (cc)
  none_left (z ∷ zs) (suc p) zero y e s = omega arith
  none_left (z ∷ zs) (suc p) (suc j) y e s = let n = none_left zs p j y e s in omega (arith, n)

  instr_fair : (fr : Frame) (rest : List Frame) (shared : Shared) (c : Block) → sought m fr.function fr.block ≡ Some c → (y : Instr) → slice_get (behind_phis c.instrs) fr.place ≡ Some y → (h q : Bool) → is_here fr ≡ h → (fr.place == i) ≡ q →
      Fair (fr ∷ rest) (acted m fr rest shared (deed (value_of m fr.registers) (functions_of m) shared.memory y))
  instr_fair fr rest shared c found y stands false q here e =
      acted_fair fr rest shared (elsewhere_owes (is_here fr) fr.place here)
      (λ what. blind_if (is_here fr) (fr.place == i) what (ap (λ u. u && fr.place == i) here))
      (deed (value_of m fr.registers) (functions_of m) shared.memory y)
  instr_fair fr rest shared c found y stands true false here e =
      acted_fair fr rest shared (other_place (is_here fr) fr.place (λ is. absurd (let t : (fr.place == i) ≡ true = grind (arith, is) in cc (t, e))))
      (λ what. blind_if (is_here fr) (fr.place == i) what (ap (λ u. is_here fr && u) e ∙ and_false (is_here fr)))
      (deed (value_of m fr.registers) (functions_of m) shared.memory y)
  instr_fair fr rest shared c found y stands true true here e =
      let place : fr.place ≡ i = eqb-true fr.place i e in
      let is : y ≡ x = same_Some y x (sym stands ∙ ap₂ (λ (d : Block) (p : ℕ). slice_get (behind_phis d.instrs) p) (here_is fr c here found) place ∙ is_at) in
      let (into, v, n, gives) = select_gives (value_of m fr.registers) (functions_of m) shared.memory x selects in
      select_fair fr rest shared (deed (value_of m fr.registers) (functions_of m) shared.memory y) into v n here place e
      (ap (λ (z : Instr). deed (value_of m fr.registers) (functions_of m) shared.memory z) is ∙ gives)

  -- ---- terminators

  paid_at_end : (fr : Frame) (c : Block) → sought m fr.function fr.block ≡ Some c → drop fr.place (behind_phis c.instrs) ≡ [] → (h : Bool) → is_here fr ≡ h → one_if (owes fr) ≡ 0
  paid_at_end fr c found none false here = (λ t. one_if (here t && nat_le fr.place i))
  paid_at_end fr c found none true here =
      let past_it : i < fr.place = none_left (behind_phis b.instrs) fr.place i x (ap (λ (d : Block). drop fr.place (behind_phis d.instrs)) (sym (here_is fr c here found)) ∙ none) is_at in
      let le : nat_le fr.place i ≡ false = grind (arith, past_it) in
      ap (λ y. one_if (is_here fr && y)) le ∙ ap one_if (and_false (is_here fr))

  module _ (fr : Frame) (rest : List Frame) (shared : Shared) (c : Block) (found : sought m fr.function fr.block ≡ Some c) (paid : one_if (owes fr) ≡ 0) where
    leads : (position : ℕ) → target m (Out fr.function fr.block position) ≡ slice_get (successors c.term) position
    leads position = ap (λ o. successor o position) found

    walked_fair : (position : ℕ) (o : Option (List ℕ)) → slice_get (successors c.term) position ≡ o → Fair (fr ∷ rest) (walked m fr rest shared position o)
    walked_fair position None e = tt
    walked_fair position (Some to) e =
        moves fr (entering m fr to (phis_in (sought m fr.function to))) rest position paid refl refl (leads position ∙ e)

  resumed_owes : (caller : Frame) (into : Option (List ℕ × Ty)) (v : Option Value) → one_if (owes (resumed caller into v)) ≡ one_if (owes caller)
  resumed_owes caller into (Some v) = refl
  resumed_owes caller into None = refl

  returned_fair : (fr : Frame) (rest : List Frame) (shared : Shared) (v : Option Value) → one_if (owes fr) ≡ 0 → target m (Out fr.function fr.block 0) ≡ None → Fair (fr ∷ rest) (returned fr rest shared v)
  returned_fair fr [] shared v paid e = leaves fr [] paid e
  returned_fair fr (caller ∷ rest) shared v paid e =
      let left_behind = leaves fr (caller ∷ rest) paid e in
      let same_owed = resumed_owes caller fr.into v in
      omega (arith, left_behind, same_owed)

  left_fair : (fr : Frame) (rest : List Frame) (shared : Shared) (c : Block) (found : sought m fr.function fr.block ≡ Some c) (paid : one_if (owes fr) ≡ 0) (t : Term) → c.term ≡ t → Fair (fr ∷ rest) (left m fr rest shared (successors t) (choice (value_of m fr.registers) t))
  left_fair fr rest shared c found paid t e = by (choice (value_of m fr.registers) t) refl
    where
      at_position : (position : ℕ) → slice_get (successors c.term) position ≡ slice_get (successors t) position
      at_position position = ap (λ (u : Term). slice_get (successors u) position) e

      returns_there : (u : Term) (v : Option Value) → choice (value_of m fr.registers) u ≡ Leaves v → slice_get (successors u) 0 ≡ None
      returns_there (Br to) v h = absurd (cc)
      returns_there (CondBr cond first second prof) v h = absurd (cc)
      returns_there (Switch ty value default cases prof) v h = absurd (cc)
      returns_there (Ret value) v h = refl
      returns_there Unreachable v h = refl

      by : (ch : Choice) → choice (value_of m fr.registers) t ≡ ch → Fair (fr ∷ rest) (left m fr rest shared (successors t) ch)
      by (Takes position) h = walked_fair fr rest shared c found paid position (slice_get (successors t) position) (at_position position)
      by (Leaves v) h = returned_fair fr rest shared v paid (leads fr rest shared c found paid 0 ∙ at_position 0 ∙ returns_there t v h)
      by (Breaks kind) h = tt

  -- ---- steps and runs

  done_fair : (fr : Frame) (rest : List Frame) (shared : Shared) (c : Block) → sought m fr.function fr.block ≡ Some c → (is : List Instr) → drop fr.place (behind_phis c.instrs) ≡ is → Fair (fr ∷ rest) (done m fr rest shared is c.term)
  done_fair fr rest shared c found [] e = left_fair fr rest shared c found (paid_at_end fr c found e (is_here fr) refl) c.term refl
  done_fair fr rest shared c found (y ∷ ys) e =
      instr_fair fr rest shared c found y (first_left (behind_phis c.instrs) fr.place y ys e) (is_here fr) (fr.place == i) refl refl

  done_in_fair : (fr : Frame) (rest : List Frame) (shared : Shared) (o : Option Block) → sought m fr.function fr.block ≡ o → Fair (fr ∷ rest) (done_in m fr rest shared o)
  done_in_fair fr rest shared None e = tt
  done_in_fair fr rest shared (Some c) e = done_fair fr rest shared c e (drop fr.place (behind_phis c.instrs)) refl

  stepped_fair : (frames : List Frame) (shared : Shared) → Fair frames (stepped m frames shared)
  stepped_fair [] shared = tt
  stepped_fair (fr ∷ rest) shared = done_in_fair fr rest shared (sought m fr.function fr.block) refl

  shown_behind : (o : List Shown) (r : Ran Shown Stop) → shown_of (shown_first o r) ≡ o ++ shown_of r
  shown_behind o (Open p) = refl
  shown_behind o (Ended p e) = refl

  pays_on : (n : ℕ) → ((s : State) → HasReturned (run (step m) n s) → Pays s.frames (shown_of (run (step m) n s)) []) → (before : List Frame) (y : Step) → Fair before y → HasReturned (go_on y (run (step m) n)) → Pays before (shown_of (go_on y (run (step m) n))) []
  pays_on n rec before (Goes o s) fair h =
      subst (λ (shown : List Shown). Pays before shown []) (sym (shown_behind o (run (step m) n s)))
      (pays-append o (shown_of (run (step m) n s)) before s.frames [] fair (rec s (returned_later o (run (step m) n s) h)))
  pays_on n rec before (Stops o (Returns v)) fair h = fair
  pays_on n rec before (Stops o (Traps kind)) fair h = absurd h

  pays_run : (n : ℕ) (s : State) → HasReturned (run (step m) n s) → Pays s.frames (shown_of (run (step m) n s)) []
  pays_run zero s h = absurd h
  pays_run (suc n) s h = pays_on n (pays_run n) s.frames (step m s) (stepped_fair s.frames s.shared) h

  first_fair : (g : ℕ) (values : List ℕ) (f : Function) (bs : List Block) → target m (Into g) ≡ first_label bs → Fair [] (first_entered m g values f bs)
  first_fair g values f [] e = tt
  first_fair g values f (c ∷ cs) e =
      enters (record { function = g; block = c.label; place = 0; registers = arguments f.params (map Int values); base = (initial_memory m).next; into = None }) [] refl e

  begun_fair : (g : ℕ) (values : List ℕ) (o : Option Function) → function_at m g ≡ o → Fair [] (begun m g values o)
  begun_fair g values None e = tt
  begun_fair g values (Some f) e = first_fair g values f f.blocks (ap (λ o. option_and_then (λ (h : Function). first_label h.blocks) o) e)

  pays_call : (c : Call) (n : ℕ) → HasReturned (run_of m c n) → Pays [] (shown_of (run_of m c n)) []
  pays_call c n h = pays_on n (pays_run n) [] (begun m c.function c.args (function_at m c.function)) (begun_fair c.function c.args (function_at m c.function) refl) h

pub call_selects : (m : Module) (c : Call) (n k : ℕ) (l : List ℕ) (i : ℕ) → IsSelectAt m k l i → HasReturned (run_of m c n) →
    trues k l i (shown_of (run_of m c n)) + falses k l i (shown_of (run_of m c n)) ≡ count_by (leads_to m k (Some l)) (log_of (run_of m c n))
call_selects m c n k l i (b, x, found, stands, selects) h =
    let all = pays_call m k l i b x found stands selects c n h in
    let count = looks_count m k l i b x found stands selects (shown_of (run_of m c n)) in
    omega (arith, all, count)
