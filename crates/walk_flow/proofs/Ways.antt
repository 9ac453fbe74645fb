-- Each walk of a run goes out of a reachable block, by one of its ways out.
use Rattle.std.proofs.Common.{◌≡◌, ℕ, zero, suc, ◌+◌, ◌<◌, Bool, true, false, cond, List, [], ◌∷◌, ◌++◌, length, map, drop, Option, Some, None, refl, sym, ◌∙◌, ap, subst, arith}
use Rattle.std.specs.Prelude.{max, nat_le, nat_lt, slice_get}
use Rattle.std.proofs.lemmas.Option.{same_Some, slice_get_within}
use Rattle.ir_tree.specs.Edges.{block_place, rows}
use Rattle.ir_tree.specs.Reach.{IsReachable}
use Rattle.ir_tree.specs.Successors.{successors}
use Rattle.ir_tree.specs.declared.types.Instr.{Instr}
use Rattle.ir_tree.specs.declared.types.Block.{Block}
use Rattle.ir_tree.specs.declared.types.Function.{Function}
use Rattle.ir_tree.specs.declared.types.Module.{Module}
use Rattle.ir_tree.specs.Functions.{function_at, print_name}
use Rattle.ir_tree.specs.Names.{same}
use Rattle.ir_tree.specs.Phis.{behind_phis}
use Rattle.ir_tree.specs.declared.types.Ret.{Ret}
use Rattle.ir_tree.specs.declared.types.Ty.{Ty}
use Rattle.ir_tree.specs.declared.types.Ty.TheVariants.{I64}
use Rattle.ir_memory.specs.declared.value.Value.{Value}
use Rattle.spec_machines.specs.Machine.{Goes, Stops, Ran, Open, Ended, shown_first, go_on, run}
use Rattle.ir_model.specs.declared.result.TrapKind.TheVariants as trap
use Rattle.ir_model.specs.declared.result.Call.{Call}
use Rattle.ir_model.specs.Deed.{Deed, Gives, Calls, Fails, deed, Choice, Takes, Leaves, Breaks, choice}
use Rattle.ir_model.specs.Log.{Walk, Into, Out, log, log_of, HasReturned}
use Rattle.ir_model.specs.LogLaws.{log_behind, log_deeds, log_first, log_targeted, log_text, returned_later}
use Rattle.ir_model.specs.Run.{run_of, first_entered, begun}
use Rattle.ir_model.specs.State.{arguments, Frame, Shared, State, What, Shown, Did, Printed, Entered, Stop, Returns, Traps}
use Rattle.ir_model.specs.Step.{Step, fails, goes_to, past, waiting, resumed, targeted, line_of, output_most, depth_most, prints_first, marks_lifetime, declared, entered, called, call_at, fits, acted, walked, returned, left, done, done_in, stepped, sought, step, value_of}
use Rattle.ir_model.specs.Values.{function_at_address, functions_of, number_at}
use Rattle.cfg_edges.specs.Graph.{SuccessorsAreReached, successors_of}
use Rattle.walk_flow.proofs.Places.{sought_at, successors_at}

module _ (m : Module) (k : ℕ) (f : Function) (at : function_at m k ≡ Some f) (reach : SuccessorsAreReached f) (first : (b : Block) (bs : List Block) → f.blocks ≡ b ∷ bs → block_place f.blocks b.label ≡ Some 0) where
  -- the label names a reachable block
  abbrev pub Reached : List ℕ → Type 0
  Reached l = (b : ℕ) × (block_place f.blocks l ≡ Some b) × IsReachable (rows f.blocks) b

  abbrev pub AllStand : List Frame → Type 0
  AllStand [] = Unit {0}
  AllStand (fr ∷ frs) = (fr.function ≡ k → Reached fr.block) × AllStand frs

  -- a walk of function k goes out of a reachable block, by one of its ways out
  abbrev pub IsWay : Walk → Type 0
  IsWay (Into g) = Unit {0}
  IsWay (Out g l p) = g ≡ k → (b : ℕ) × (block_place f.blocks l ≡ Some b) × IsReachable (rows f.blocks) b × (p < max 1 (length (successors_of f.blocks b)))

  abbrev pub AreWays : List Walk → Type 0
  AreWays [] = Unit {0}
  AreWays (w ∷ ws) = IsWay w × AreWays ws

  ways-append : (xs ys : List Walk) → AreWays xs → AreWays ys → AreWays (xs ++ ys)
  ways-append [] ys h j = j
  ways-append (x ∷ xs) ys h j = (h.0, ways-append xs ys h.1 j)

  -- what a step shows are ways, and its frames stand; one that traps owes nothing
  abbrev Fair : Step → Type 0
  Fair (Goes o s) = AreWays (log o) × AllStand s.frames
  Fair (Stops o (Returns v)) = AreWays (log o)
  Fair (Stops o (Traps kind)) = Unit {0}

  -- what walks nowhere
  nowhere : (shown : List Shown) → log shown ≡ [] → AreWays (log shown)
  nowhere shown none = subst (λ (ws : List Walk). AreWays ws) (sym none) tt

  -- the first block of a function is reached
  entry : (g : ℕ) (h : Function) (c : Block) (cs : List Block) → function_at m g ≡ Some h → h.blocks ≡ c ∷ cs → g ≡ k → Reached c.label
  entry g h c cs is blocks e =
      let same_function : h ≡ f = same_Some h f (sym is ∙ ap (λ (x : ℕ). function_at m x) e ∙ at) in
      (0, first c cs (ap (λ (x : Function). x.blocks) (sym same_function) ∙ blocks), ([], refl))

  module _ (fr : Frame) (rest : List Frame) (shared : Shared) (here : fr.function ≡ k → Reached fr.block) (others : AllStand rest) where
    prints_if : (shown : List Shown) → log shown ≡ [] → (text : List ℕ) (c : Bool) → Fair (cond c (goes_to (waiting fr ∷ rest) (record shared { output = shared.output + length text }) (shown ++ map Printed text)) (fails trap.Output))
    prints_if shown none text true = (nowhere (shown ++ map Printed text) (log_behind shown (map Printed text) none ∙ log_text text), (here, others))
    prints_if shown none text false = tt

    prints_fair : (shown : List Shown) → log shown ≡ [] → (values : List (Ty × Value)) → Fair (prints_first fr rest shared shown values)
    prints_fair shown none [] = tt
    prints_fair shown none (v ∷ vs) = prints_if shown none (line_of (number_at I64 v.1)) (nat_le (shared.output + length (line_of (number_at I64 v.1))) output_most)

    declared_if : (shown : List Shown) → log shown ≡ [] → (values : List (Ty × Value)) (c d : Bool) → Fair (cond c (prints_first fr rest shared shown values) (cond d (goes_to (waiting fr ∷ rest) shared shown) (fails trap.External)))
    declared_if shown none values true d = prints_fair shown none values
    declared_if shown none values false true = (nowhere shown none, (here, others))
    declared_if shown none values false false = tt

    module _ (shown : List Shown) (none : log shown ≡ []) (into : Option (List ℕ × Ty)) (g : ℕ) (h : Function) (is : function_at m g ≡ Some h) (values : List (Ty × Value)) where
      enters_if : (c : Block) (cs : List Block) → h.blocks ≡ c ∷ cs → (d : Bool) → Fair (cond d (goes_to
          (record { function = g; block = c.label; place = 0; registers = arguments h.params (map (λ v. v.1) values); base = shared.memory.next; into = into } ∷ waiting fr ∷ rest)
          shared (shown ++ Entered g ∷ [])) (fails trap.Depth))
      enters_if c cs blocks true = (subst (λ (ws : List Walk). AreWays ws) (sym (log_behind shown (Entered g ∷ []) none)) (tt, tt), (entry g h c cs is blocks, (here, others)))
      enters_if c cs blocks false = tt

      blocks_fair : (bs : List Block) → h.blocks ≡ bs → Fair (entered fr rest shared shown into g h values bs)
      blocks_fair [] blocks = declared_if shown none values (same print_name h.name) (marks_lifetime h.name)
      blocks_fair (c ∷ cs) blocks = enters_if c cs blocks (nat_lt (length (fr ∷ rest)) depth_most)

    called_if : (through : Bool) (into : Option (List ℕ × Ty)) (values : List (Ty × Value)) (g : ℕ) (h : Function) → function_at m g ≡ Some h → (c : Bool) → Fair (cond c (entered fr rest shared (targeted through fr g) into g h values h.blocks) (fails trap.Callee))
    called_if through into values g h is true = blocks_fair (targeted through fr g) (log_targeted through fr g) into g h is values h.blocks refl
    called_if through into values g h is false = tt

    called_fair : (through : Bool) (into : Option (List ℕ × Ty)) (r : Ret) (values : List (Ty × Value)) (g : ℕ) (o : Option Function) → function_at m g ≡ o → Fair (called fr rest shared through into r values g o)
    called_fair through into r values g None is = tt
    called_fair through into r values g (Some h) is = called_if through into values g h is (fits r values h)

    call_fair : (through : Bool) (into : Option (List ℕ × Ty)) (r : Ret) (values : List (Ty × Value)) (o : Option ℕ) → Fair (call_at m fr rest shared through into r values o)
    call_fair through into r values None = tt
    call_fair through into r values (Some g) = called_fair through into r values g (function_at m g) refl

    acted_fair : (d : Deed) → Fair (acted m fr rest shared d)
    acted_fair (Gives into v memory whats) = (nowhere (map (Did fr.function fr.block fr.place) whats) (log_deeds fr.function fr.block fr.place whats), (here, others))
    acted_fair (Calls through into r address values) = call_fair through into r values (function_at_address (functions_of m) address)
    acted_fair (Fails kind) = tt

    module _ (c : Block) (is_block : sought m fr.function fr.block ≡ Some c) where
      -- the successors of the frame's block
      successors_here : fr.function ≡ k → (b : ℕ) → block_place f.blocks fr.block ≡ Some b → successors_of f.blocks b ≡ successors c.term
      successors_here e b h = successors_at f.blocks b c (sym (sought_at m k f at fr.block b h) ∙ ap (λ (g : ℕ). sought m g fr.block) (sym e) ∙ is_block)

      way_out : (position : ℕ) (to : List ℕ) → slice_get (successors c.term) position ≡ Some to → IsWay (Out fr.function fr.block position)
      way_out position to h e =
          let (b, named, r) = here e in
          let within = slice_get_within (successors c.term) position to h in
          (b, named, r, omega (arith, within, ap (λ (ss : List (List ℕ)). length ss) (successors_here e b named)))

      goes_on : (position : ℕ) (to : List ℕ) → slice_get (successors c.term) position ≡ Some to → fr.function ≡ k → Reached to
      goes_on position to h e =
          let (b, named, r) = here e in
          reach b position to r (ap (λ (ss : List (List ℕ)). slice_get ss position) (successors_here e b named) ∙ h)

      walked_fair : (position : ℕ) (o : Option (List ℕ)) → slice_get (successors c.term) position ≡ o → Fair (walked m fr rest shared position o)
      walked_fair position None e = tt
      walked_fair position (Some to) e = ((way_out position to e, tt), (goes_on position to e, others))

    leaves_way : IsWay (Out fr.function fr.block 0)
    leaves_way e = let (b, named, r) = here e in (b, named, r, omega arith)

  resumed_stands : (caller : Frame) (into : Option (List ℕ × Ty)) (v : Option Value) → (caller.function ≡ k → Reached caller.block) → (resumed caller into v).function ≡ k → Reached (resumed caller into v).block
  resumed_stands caller into (Some v) h e = h e
  resumed_stands caller into None h e = h e

  returned_fair : (fr : Frame) (rest : List Frame) (shared : Shared) (v : Option Value) → (fr.function ≡ k → Reached fr.block) → AllStand rest → Fair (returned fr rest shared v)
  returned_fair fr [] shared v here others = (leaves_way fr [] shared here others, tt)
  returned_fair fr (caller ∷ rest) shared v here others =
      ((leaves_way fr (caller ∷ rest) shared here others, tt), (resumed_stands caller fr.into v others.0, others.1))

  module _ (fr : Frame) (rest : List Frame) (shared : Shared) (here : fr.function ≡ k → Reached fr.block) (others : AllStand rest) (c : Block) (is_block : sought m fr.function fr.block ≡ Some c) where
    left_fair : (ch : Choice) → Fair (left m fr rest shared (successors c.term) ch)
    left_fair (Takes position) = walked_fair fr rest shared here others c is_block position (slice_get (successors c.term) position) refl
    left_fair (Leaves v) = returned_fair fr rest shared v here others
    left_fair (Breaks kind) = tt

    done_fair : (is : List Instr) → Fair (done m fr rest shared is c.term)
    done_fair [] = left_fair (choice (value_of m fr.registers) c.term)
    done_fair (i ∷ is) = acted_fair fr rest shared here others (deed (value_of m fr.registers) (functions_of m) shared.memory i)

  done_in_fair : (fr : Frame) (rest : List Frame) (shared : Shared) → (fr.function ≡ k → Reached fr.block) → AllStand rest → (o : Option Block) → sought m fr.function fr.block ≡ o → Fair (done_in m fr rest shared o)
  done_in_fair fr rest shared here others None e = tt
  done_in_fair fr rest shared here others (Some c) e = done_fair fr rest shared here others c e (drop fr.place (behind_phis c.instrs))

  stepped_fair : (frames : List Frame) (shared : Shared) → AllStand frames → Fair (stepped m frames shared)
  stepped_fair [] shared stand = tt
  stepped_fair (fr ∷ rest) shared stand = done_in_fair fr rest shared stand.0 stand.1 (sought m fr.function fr.block) refl

  -- ---- runs

  ways_on : (n : ℕ) → ((s : State) → AllStand s.frames → HasReturned (run (step m) n s) → AreWays (log_of (run (step m) n s))) → (x : Step) → Fair x → HasReturned (go_on x (run (step m) n)) → AreWays (log_of (go_on x (run (step m) n)))
  ways_on n rec (Goes o s) fair h =
      subst (λ (ws : List Walk). AreWays ws) (sym (log_first o (run (step m) n s))) (ways-append (log o) (log_of (run (step m) n s)) fair.0 (rec s fair.1 (returned_later o (run (step m) n s) h)))
  ways_on n rec (Stops o (Returns v)) fair h = fair
  ways_on n rec (Stops o (Traps kind)) fair h = absurd h

  ways_run : (n : ℕ) (s : State) → AllStand s.frames → HasReturned (run (step m) n s) → AreWays (log_of (run (step m) n s))
  ways_run zero s stand h = absurd h
  ways_run (suc n) s stand h = ways_on n (ways_run n) (step m s) (stepped_fair s.frames s.shared stand) h

  first_fair : (g : ℕ) (values : List ℕ) (h : Function) (bs : List Block) → function_at m g ≡ Some h → h.blocks ≡ bs → Fair (first_entered m g values h bs)
  first_fair g values h [] is blocks = tt
  first_fair g values h (c ∷ cs) is blocks = ((tt, tt), (entry g h c cs is blocks, tt))

  begun_fair : (g : ℕ) (values : List ℕ) (o : Option Function) → function_at m g ≡ o → Fair (begun m g values o)
  begun_fair g values None e = tt
  begun_fair g values (Some h) e = first_fair g values h h.blocks e refl

  pub call_ways : (c : Call) (n : ℕ) → HasReturned (run_of m c n) → AreWays (log_of (run_of m c n))
  call_ways c n h = ways_on n (ways_run n) (begun m c.function c.args (function_at m c.function)) (begun_fair c.function c.args (function_at m c.function) refl) h
