-- What a run shows: each function that it enters is defined, each block that it leaves has the successor by which it is left,
-- and each step walks at most one edge.
use Rattle.std.proofs.Common.{◌≡◌, ℕ, zero, suc, ◌+◌, ◌≤◌, ◌<◌, Bool, true, false, cond, List, [], ◌∷◌, ◌++◌, length, map, drop, Option, Some, None, refl, sym, ◌∙◌, ap, subst, arith, length-append}
use Rattle.std.specs.Prelude.{slice_get, nat_le, nat_lt}
use Rattle.std.proofs.lemmas.Option.{slice_get_within}
use Rattle.ir_tree.specs.Functions.{function_at, print_name}
use Rattle.ir_tree.specs.Names.{same}
use Rattle.ir_tree.specs.Phis.{behind_phis}
use Rattle.ir_tree.specs.Successors.{successors, ways_out}
use Rattle.ir_tree.specs.declared.types.Block.{Block}
use Rattle.ir_tree.specs.declared.types.Function.{Function}
use Rattle.ir_tree.specs.declared.types.Instr.{Instr}
use Rattle.ir_tree.specs.declared.types.Module.{Module}
use Rattle.ir_tree.specs.declared.types.Ret.{Ret}
use Rattle.ir_tree.specs.declared.types.Ty.{Ty}
use Rattle.ir_tree.specs.declared.types.Ty.TheVariants.{I64}
use Rattle.ir_memory.specs.declared.value.Value.{Value}
use Rattle.ir_model.specs.declared.result.TrapKind.TheVariants as trap
use Rattle.spec_machines.specs.Machine.{Goes, Stops, Ran, Open, Ended, shown_first, shown_of, go_on, run}
use Rattle.ir_model.specs.Deed.{Deed, Gives, Calls, Fails, deed, Choice, Takes, Leaves, Breaks, choice}
use Rattle.ir_model.specs.Log.{Walk, logged, log}
use Rattle.ir_model.specs.State.{arguments, Frame, Shared, State, What, Shown, Did, Targeted, Printed, Entered, Walked, Stop}
use Rattle.ir_model.specs.Step.{Step, acted, called, call_at, depth_most, done, done_in, entered, fails, fits, goes_to, left, line_of, marks_lifetime, output_most, prints_first, returned, sought, step, stepped, targeted, value_of, waiting, walked}
use Rattle.ir_model.specs.Values.{function_at_address, functions_of, number_at}
use Rattle.ir_machine.specs.Slots.{HasEdgeIn, IsWayOut}

append_twice : {A : Type 0} (xs ys zs : List A) → (xs ++ ys) ++ zs ≡ xs ++ (ys ++ zs)
append_twice [] ys zs = refl
append_twice (x ∷ xs) ys zs = ap (λ l. x ∷ l) (append_twice xs ys zs)

pub log-append : (xs ys : List Shown) → log (xs ++ ys) ≡ log xs ++ log ys
log-append [] ys = refl
log-append (x ∷ xs) ys = ap (λ l. logged x ++ l) (log-append xs ys) ∙ sym (append_twice (logged x) (log xs) (log ys))

pub shown_behind : (o : List Shown) (r : Ran Shown Stop) → shown_of (shown_first o r) ≡ o ++ shown_of r
shown_behind o (Open p) = refl
shown_behind o (Ended p e) = refl

module _ (m : Module) where
  -- what is shown is of the module
  abbrev pub IsOwn : Shown → Type 0
  IsOwn (Did k l p what) = Unit {0}
  IsOwn (Targeted k l p callee) = Unit {0}
  IsOwn (Printed b) = Unit {0}
  IsOwn (Entered k) = HasEdgeIn (function_at m k) None 0
  IsOwn (Walked k l p) = IsWayOut (sought m k l) p

  abbrev pub AreOwn : List Shown → Type 0
  AreOwn [] = Unit {0}
  AreOwn (x ∷ xs) = IsOwn x × AreOwn xs

  pub own-append : (xs ys : List Shown) → AreOwn xs → AreOwn ys → AreOwn (xs ++ ys)
  own-append [] ys h g = g
  own-append (x ∷ xs) ys h g = (h.0, own-append xs ys h.1 g)

  -- no edge is walked
  record AreQuiet (o : List Shown) : Type 0 where
    own : AreOwn o
    none : log o ≡ []

  -- at most one edge is walked
  record AreFew (o : List Shown) : Type 0 where
    own : AreOwn o
    few : length (log o) ≤ 1

  abbrev IsFew : Step → Type 0
  IsFew (Goes o s) = AreFew o
  IsFew (Stops o e) = AreFew o

  few_quiet : (o : List Shown) → AreQuiet o → AreFew o
  few_quiet o h = record { own = h.own; few = let e : length (log o) ≡ 0 = ap length h.none in omega arith }

  nothing : AreFew []
  nothing = record { own = tt; few = omega arith }

  text_quiet : (text : List ℕ) → AreQuiet (map Printed text)
  text_quiet [] = record { own = tt; none = refl }
  text_quiet (b ∷ bs) = let rest = text_quiet bs in record { own = (tt, rest.own); none = rest.none }

  did_quiet : (k : ℕ) (l : List ℕ) (p : ℕ) (shown : List What) → AreQuiet (map (Did k l p) shown)
  did_quiet k l p [] = record { own = tt; none = refl }
  did_quiet k l p (w ∷ ws) = let rest = did_quiet k l p ws in record { own = (tt, rest.own); none = rest.none }

  targeted_quiet : (through : Bool) (fr : Frame) (k : ℕ) → AreQuiet (targeted through fr k)
  targeted_quiet true fr k = record { own = (tt, tt); none = refl }
  targeted_quiet false fr k = record { own = tt; none = refl }

  -- what is shown behind a quiet front
  few_behind : (o p : List Shown) → AreQuiet o → AreFew p → AreFew (o ++ p)
  few_behind o p h g =
      let e : log (o ++ p) ≡ log p = log-append o p ∙ ap (λ (l : List Walk). l ++ log p) h.none in
      record {
        own = own-append o p h.own g.own;
        few = subst (λ (l : List Walk). length l ≤ 1) (sym e) g.few;
      }

  module _ (fr : Frame) (rest : List Frame) (sh : Shared) where
    module _ (shown : List Shown) (quiet : AreQuiet shown) where
      prints_if : (text : List ℕ) (b : Bool) → IsFew (cond b (goes_to (waiting fr ∷ rest) (record sh { output = sh.output + length text }) (shown ++ map Printed text)) (fails trap.Output))
      prints_if text true = few_behind shown (map Printed text) quiet (few_quiet (map Printed text) (text_quiet text))
      prints_if text false = nothing

      prints_few : (vs : List (Ty × Value)) → IsFew (prints_first fr rest sh shown vs)
      prints_few [] = nothing
      prints_few (v ∷ vs) =
          prints_if (line_of (number_at I64 v.1)) (nat_le (sh.output + length (line_of (number_at I64 v.1))) output_most)

      declared_if : (vs : List (Ty × Value)) (b c : Bool) → IsFew (cond b (prints_first fr rest sh shown vs) (cond c (goes_to (waiting fr ∷ rest) sh shown) (fails trap.External)))
      declared_if vs true c = prints_few vs
      declared_if vs false true = few_quiet shown quiet
      declared_if vs false false = nothing

      module _ (into : Option (List ℕ × Ty)) (k : ℕ) (f : Function) (at : function_at m k ≡ Some f) (vs : List (Ty × Value)) where
        enters_if : (b : Block) → 0 < length f.blocks → (c : Bool) → IsFew (cond c (goes_to (record { function = k; block = b.label; place = 0; registers = arguments f.params (map (λ v. v.1) vs); base = sh.memory.next; into = into } ∷ waiting fr ∷ rest) sh (shown ++ Entered k ∷ [])) (fails trap.Depth))
        enters_if b some true =
            let defined : HasEdgeIn (function_at m k) None 0 = subst (λ (o : Option Function). HasEdgeIn o None 0) (sym at) some in
            few_behind shown (Entered k ∷ []) quiet (record { own = (defined, tt); few = omega arith })
        enters_if b some false = nothing

        entered_few : (bs : List Block) → f.blocks ≡ bs → IsFew (entered fr rest sh shown into k f vs bs)
        entered_few [] e = declared_if vs (same print_name f.name) (marks_lifetime f.name)
        entered_few (b ∷ bs) e =
            let count : length f.blocks ≡ length (b ∷ bs) = ap length e in
            enters_if b (omega arith) (nat_lt (length (fr ∷ rest)) depth_most)

    module _ (through : Bool) (into : Option (List ℕ × Ty)) (r : Ret) (vs : List (Ty × Value)) where
      fits_if : (k : ℕ) (f : Function) → function_at m k ≡ Some f → (b : Bool) → IsFew (cond b (entered fr rest sh (targeted through fr k) into k f vs f.blocks) (fails trap.Callee))
      fits_if k f at true =
          entered_few (targeted through fr k) (targeted_quiet through fr k) into k f at vs f.blocks refl
      fits_if k f at false = nothing

      called_few : (k : ℕ) (o : Option Function) → function_at m k ≡ o → IsFew (called fr rest sh through into r vs k o)
      called_few k None at = nothing
      called_few k (Some f) at = fits_if k f at (fits r vs f)

      call_few : (o : Option ℕ) → IsFew (call_at m fr rest sh through into r vs o)
      call_few None = nothing
      call_few (Some k) = called_few k (function_at m k) refl

    acted_few : (d : Deed) → IsFew (acted m fr rest sh d)
    acted_few (Gives into v memory shown) =
        few_quiet (map (Did fr.function fr.block fr.place) shown) (did_quiet fr.function fr.block fr.place shown)
    acted_few (Calls through into r address vs) =
        call_few through into r vs (function_at_address (functions_of m) address)
    acted_few (Fails kind) = nothing

    module _ (b : Block) (is_block : sought m fr.function fr.block ≡ Some b) where
      by_position : (p : ℕ) → p < ways_out b → AreFew (Walked fr.function fr.block p ∷ [])
      by_position p h =
          record { own = (subst (λ (o : Option Block). IsWayOut o p) (sym is_block) h, tt); few = omega arith }

      walked_few : (p : ℕ) (o : Option (List ℕ)) → slice_get (successors b.term) p ≡ o → IsFew (walked m fr rest sh p o)
      walked_few p None e = nothing
      walked_few p (Some to) e = let inside = slice_get_within (successors b.term) p to e in by_position p (omega (arith, inside))

      returned_few : (callers : List Frame) (v : Option Value) → IsFew (returned fr callers sh v)
      returned_few [] v = by_position 0 (omega arith)
      returned_few (c ∷ cs) v = by_position 0 (omega arith)

      left_few : (c : Choice) → IsFew (left m fr rest sh (successors b.term) c)
      left_few (Takes p) = walked_few p (slice_get (successors b.term) p) refl
      left_few (Leaves v) = returned_few rest v
      left_few (Breaks kind) = nothing

      done_few : (is : List Instr) → IsFew (done m fr rest sh is b.term)
      done_few [] = left_few (choice (value_of m fr.registers) b.term)
      done_few (i ∷ is) = acted_few (deed (value_of m fr.registers) (functions_of m) sh.memory i)

    in_few : (o : Option Block) → sought m fr.function fr.block ≡ o → IsFew (done_in m fr rest sh o)
    in_few None e = nothing
    in_few (Some b) e = done_few b e (drop fr.place (behind_phis b.instrs))

  stepped_few : (frames : List Frame) (sh : Shared) → IsFew (stepped m frames sh)
  stepped_few [] sh = nothing
  stepped_few (fr ∷ rest) sh = in_few fr rest sh (sought m fr.function fr.block) refl

  -- as many edges at most as steps
  pub record AreWithin (n : ℕ) (o : List Shown) : Type 0 where
    pub own : AreOwn o
    pub few : length (log o) ≤ n

  within_on : (n : ℕ) → ((s : State) → AreWithin n (shown_of (run (step m) n s))) → (x : Step) → IsFew x → AreWithin (suc n) (shown_of (go_on x (run (step m) n)))
  within_on n rec (Goes o s) h =
      let later = rec s in
      let later_few = later.few in
      let first = h.few in
      let split : length (log (o ++ shown_of (run (step m) n s))) ≡ length (log o) + length (log (shown_of (run (step m) n s))) =
      ap length (log-append o (shown_of (run (step m) n s))) ∙ length-append (log o) (log (shown_of (run (step m) n s))) in
      let whole : AreWithin (suc n) (o ++ shown_of (run (step m) n s)) = record {
        own = own-append o (shown_of (run (step m) n s)) h.own later.own;
        few = omega (arith, split, first, later_few);
      } in
      subst (AreWithin (suc n)) (sym (shown_behind o (run (step m) n s))) whole
  within_on n rec (Stops o e) h = let first = h.few in record { own = h.own; few = omega (arith, first) }

  pub run_within : (n : ℕ) (s : State) → AreWithin n (shown_of (run (step m) n s))
  run_within zero s = record { own = tt; few = omega arith }
  run_within (suc n) s = within_on n (run_within n) (step m s) (stepped_few s.frames s.shared)
