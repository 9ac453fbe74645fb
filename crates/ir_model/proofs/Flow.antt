-- The walks of a call that returns are a flow: each frame was entered once, stands in one block at a time, and is left
-- once.
use Rattle.std.proofs.Common.{◌≡◌, ℕ, zero, suc, ◌+◌, ◌==◌, Bool, true, false, cond, List, [], ◌∷◌, ◌++◌, length, map, drop, Option, Some, None, refl, sym, ◌∙◌, ap, subst, arith}
use Rattle.std.specs.Prelude.{◌&&◌, nat_le, nat_lt, slice_get, option_and_then}
use Rattle.std.specs.List.{count_by}
use Rattle.std.specs.Option.{option_map}
use Rattle.std.proofs.lemmas.List.Sums.{sum_by-cons, sum_by-append}
use Rattle.ir_tree.specs.Functions.{function_at, print_name}
use Rattle.ir_tree.specs.Names.{same}
use Rattle.ir_tree.specs.Phis.{behind_phis}
use Rattle.ir_tree.specs.Successors.{successors}
use Rattle.ir_tree.specs.declared.types.Ty.{Ty}
use Rattle.ir_tree.specs.declared.types.Ret.{Ret as ReturnType}
use Rattle.ir_tree.specs.declared.types.Ty.TheVariants.{I1, I64}
use Rattle.ir_tree.specs.declared.types.Instr.{Instr}
use Rattle.ir_tree.specs.declared.types.Term.{Term}
use Rattle.ir_tree.specs.declared.types.Term.TheVariants.{Br, CondBr, Switch, Ret, Unreachable}
use Rattle.ir_tree.specs.declared.types.Block.{Block}
use Rattle.ir_tree.specs.declared.types.Function.{Function}
use Rattle.ir_tree.specs.declared.types.Module.{Module}
use Rattle.ir_memory.specs.declared.value.Value.{Value}
use Rattle.ir_memory.specs.declared.value.Value.TheVariants.{Int}
use Rattle.ir_model.specs.declared.result.TrapKind.TheVariants as trap
use Rattle.ir_model.specs.declared.result.Call.{Call}
use Rattle.spec_machines.specs.Machine.{Goes, Stops, go_on, run}
use Rattle.ir_model.specs.Deed.{Deed, Gives, Calls, Fails, deed, choice, case_position}
use Rattle.ir_model.specs.Initial.{initial_memory}
use Rattle.ir_model.specs.State.{Frame, Shared, State, Shown, Did, Printed, Entered, Returns, Traps, arguments}
use Rattle.ir_model.specs.Step.{Step, fails, goes_to, past, waiting, entering, resumed, phis_in, line_of, output_most, depth_most, targeted, prints_first, marks_lifetime, declared, entered, called, call_at, fits, acted, walked, returned, left, done, done_in, stepped, sought, step, value_of}
use Rattle.ir_model.specs.Run.{run_of, first_entered, begun}
use Rattle.ir_model.specs.Log.{Walk, Into, Out, log, log_of, first_label, successor, target, same_block, comes_from, leads_to, AreBalanced, HasReturned}
use Rattle.ir_model.specs.LogLaws.{log_behind, log_deeds, log_first, log_targeted, log_text, returned_later}
use Rattle.ir_model.specs.Values.{at_type, function_at_address, functions_of, number_at}

and_false : (a : Bool) → a && false ≡ false
and_false true = refl
and_false false = refl

and_true : (a : Bool) → a && true ≡ a
and_true true = refl
and_true false = refl

abbrev pub one_if : Bool → ℕ
one_if b = cond b 1 0

one_walk : (p : Walk → Bool) (w : Walk) → count_by p (w ∷ []) ≡ one_if (p w)
one_walk p w =
    let e = sum_by-cons (λ (x : Walk). cond (p x) 1 0) w [] in
    let none : count_by p [] ≡ 0 = refl in
    omega (arith, e, none)

module _ (m : Module) (k : ℕ) where
  -- does a frame of function k stand in the block? With no block named, anywhere
  abbrev pub stands_in : Option (List ℕ) → Frame → Bool
  stands_in None fr = fr.function == k
  stands_in (Some l) fr = fr.function == k && same l fr.block

  abbrev pub standing : Option (List ℕ) → List Frame → ℕ
  standing b [] = 0
  standing b (fr ∷ frs) = one_if (stands_in b fr) + standing b frs

  abbrev pub leading : Option (List ℕ) → List Walk → ℕ
  leading b ws = count_by (leads_to m k b) ws

  abbrev pub coming : Option (List ℕ) → List Walk → ℕ
  coming b ws = count_by (comes_from k b) ws

  -- The walks lead from these frames to those: what leads to a block stays there or comes from it, and what comes into
  -- the function from outside stays in it or leads out
  abbrev pub Balanced : Option (List ℕ) → List Walk → List Frame → List Frame → Type 0
  Balanced None ws before after = leading None ws + standing None after ≡ coming None ws + standing None before
  Balanced (Some l) ws before after =
      leading (Some l) ws + standing (Some l) before ≡ coming (Some l) ws + standing (Some l) after

  pub balanced-append : (b : Option (List ℕ)) (xs ys : List Walk) (first second third : List Frame) → Balanced b xs first second → Balanced b ys second third → Balanced b (xs ++ ys) first third
  balanced-append None xs ys first second third x y =
      let l = sum_by-append (λ (w : Walk). cond (leads_to m k None w) 1 0) xs ys in
      let c = sum_by-append (λ (w : Walk). cond (comes_from k None w) 1 0) xs ys in
      omega (arith, l, c, x, y)
  balanced-append (Some n) xs ys first second third x y =
      let l = sum_by-append (λ (w : Walk). cond (leads_to m k (Some n) w) 1 0) xs ys in
      let c = sum_by-append (λ (w : Walk). cond (comes_from k (Some n) w) 1 0) xs ys in
      omega (arith, l, c, x, y)

  -- frames stay where they are
  pub stays : (b : Option (List ℕ)) (before after : List Frame) → standing b before ≡ standing b after → Balanced b [] before after
  stays None before after e = omega (arith, e)
  stays (Some l) before after e = omega (arith, e)

  -- a frame is entered at the block that the walk leads to
  pub enters : (b : Option (List ℕ)) (fr : Frame) (rest : List Frame) → target m (Into fr.function) ≡ Some fr.block → Balanced b (Into fr.function ∷ []) rest (fr ∷ rest)
  enters None fr rest e =
      let w : Walk = Into fr.function in
      let l = one_walk (leads_to m k None) w ∙ ap (λ t. one_if (fr.function == k && same_block None t)) e ∙ ap one_if (and_false (fr.function == k)) in
      let c = one_walk (comes_from k None) w ∙ ap one_if (and_true (fr.function == k)) in
      omega (arith, l, c)
  enters (Some n) fr rest e =
      let w : Walk = Into fr.function in
      let l = one_walk (leads_to m k (Some n)) w ∙ ap (λ t. one_if (fr.function == k && same_block (Some n) t)) e in
      let c = one_walk (comes_from k (Some n)) w ∙ ap one_if (and_false (fr.function == k)) in
      omega (arith, l, c)

  -- a frame moves to the block that the walk leads to
  pub moves : (b : Option (List ℕ)) (fr to : Frame) (rest : List Frame) (position : ℕ) → to.function ≡ fr.function → target m (Out fr.function fr.block position) ≡ Some to.block → Balanced b (Out fr.function fr.block position ∷ []) (fr ∷ rest) (to ∷ rest)
  moves None fr to rest position f e =
      let w : Walk = Out fr.function fr.block position in
      let l = one_walk (leads_to m k None) w ∙ ap (λ t. one_if (fr.function == k && same_block None t)) e ∙ ap one_if (and_false (fr.function == k)) in
      let c = one_walk (comes_from k None) w ∙ ap one_if (and_false (fr.function == k)) in
      let s : ◌≡◌ {A = ℕ} (one_if (to.function == k)) (one_if (fr.function == k)) = ap (λ g. one_if (g == k)) f in
      omega (arith, l, c, s)
  moves (Some n) fr to rest position f e =
      let w : Walk = Out fr.function fr.block position in
      let l = one_walk (leads_to m k (Some n)) w ∙ ap (λ t. one_if (fr.function == k && same_block (Some n) t)) e in
      let c = one_walk (comes_from k (Some n)) w in
      let s : ◌≡◌ {A = ℕ} (one_if (to.function == k && same n to.block)) (one_if (fr.function == k && same n to.block)) =
      ap (λ g. one_if (g == k && same n to.block)) f in
      omega (arith, l, c, s)

  -- a frame is left
  pub leaves : (b : Option (List ℕ)) (fr : Frame) (rest : List Frame) (position : ℕ) → target m (Out fr.function fr.block position) ≡ None → Balanced b (Out fr.function fr.block position ∷ []) (fr ∷ rest) rest
  leaves None fr rest position e =
      let w : Walk = Out fr.function fr.block position in
      let l = one_walk (leads_to m k None) w ∙ ap (λ t. one_if (fr.function == k && same_block None t)) e ∙ ap one_if (and_true (fr.function == k)) in
      let c = one_walk (comes_from k None) w ∙ ap one_if (and_false (fr.function == k)) in
      omega (arith, l, c)
  leaves (Some n) fr rest position e =
      let w : Walk = Out fr.function fr.block position in
      let l = one_walk (leads_to m k (Some n)) w ∙ ap (λ t. one_if (fr.function == k && same_block (Some n) t)) e ∙ ap one_if (and_false (fr.function == k)) in
      let c = one_walk (comes_from k (Some n)) w in
      omega (arith, l, c)

  module _ (b : Option (List ℕ)) where
    -- what a step shows balances its frames; one that traps owes nothing
    abbrev pub Fair : List Frame → Step → Type 0
    Fair before (Goes o s) = Balanced b (log o) before s.frames
    Fair before (Stops o (Returns v)) = Balanced b (log o) before []
    Fair before (Stops o (Traps kind)) = Unit {0}

    same_place : (fr to : Frame) (rest : List Frame) → to.function ≡ fr.function → to.block ≡ fr.block → standing b (fr ∷ rest) ≡ standing b (to ∷ rest)
    same_place fr to rest f l = ap (λ n. n + standing b rest) (same_spot b)
      where
        same_spot : (c : Option (List ℕ)) → one_if (stands_in c fr) ≡ one_if (stands_in c to)
        same_spot None = ap (λ g. one_if (g == k)) (sym f)
        same_spot (Some n) = λ i. one_if (sym f i == k && same n (sym l i))

    -- a step that walks nowhere, after which the frames stand as before
    quiet : (shown : List Shown) (before after : List Frame) → log shown ≡ [] → standing b before ≡ standing b after → Balanced b (log shown) before after
    quiet shown before after none e = subst (λ ws. Balanced b ws before after) (sym none) (stays b before after e)

    module _ (fr : Frame) (rest : List Frame) (shared : Shared) where
      waits : (shown : List Shown) → log shown ≡ [] → Balanced b (log shown) (fr ∷ rest) (waiting fr ∷ rest)
      waits shown none = quiet shown (fr ∷ rest) (waiting fr ∷ rest) none (same_place fr (waiting fr) rest refl refl)

      prints_if : (shown : List Shown) → log shown ≡ [] → (text : List ℕ) (c : Bool) → Fair (fr ∷ rest) (cond c (goes_to (waiting fr ∷ rest) (record shared { output = shared.output + length text }) (shown ++ map Printed text)) (fails trap.Output))
      prints_if shown none text true = waits (shown ++ map Printed text) (log_behind shown (map Printed text) none ∙ log_text text)
      prints_if shown none text false = tt

      prints_fair : (shown : List Shown) → log shown ≡ [] → (values : List (Ty × Value)) → Fair (fr ∷ rest) (prints_first fr rest shared shown values)
      prints_fair shown none [] = tt
      prints_fair shown none (v ∷ vs) =
          prints_if shown none (line_of (number_at I64 v.1)) (nat_le (shared.output + length (line_of (number_at I64 v.1))) output_most)

      declared_if : (shown : List Shown) → log shown ≡ [] → (values : List (Ty × Value)) (c d : Bool) → Fair (fr ∷ rest) (cond c (prints_first fr rest shared shown values) (cond d (goes_to (waiting fr ∷ rest) shared shown) (fails trap.External)))
      declared_if shown none values true d = prints_fair shown none values
      declared_if shown none values false true = waits shown none
      declared_if shown none values false false = tt

      declared_fair : (shown : List Shown) → log shown ≡ [] → (name : List ℕ) (values : List (Ty × Value)) → Fair (fr ∷ rest) (declared fr rest shared shown name values)
      declared_fair shown none name values = declared_if shown none values (same print_name name) (marks_lifetime name)

      module _ (shown : List Shown) (none : log shown ≡ []) (into : Option (List ℕ × Ty)) (k' : ℕ) (f : Function) (values : List (Ty × Value)) where
        abbrev begun_frame : Block → Frame
        begun_frame c = record { function = k'; block = c.label; place = 0; registers = arguments f.params (map (λ v. v.1) values); base = shared.memory.next; into = into }

        enters_if : (c : Block) → target m (Into k') ≡ Some c.label → (d : Bool) → Fair (fr ∷ rest) (cond d (goes_to (begun_frame c ∷ waiting fr ∷ rest) shared (shown ++ Entered k' ∷ [])) (fails trap.Depth))
        enters_if c e true =
            let one : log (shown ++ Entered k' ∷ []) ≡ Into k' ∷ [] = log_behind shown (Entered k' ∷ []) none in
            let first : Balanced b [] (fr ∷ rest) (waiting fr ∷ rest) = waits [] refl in
            let second : Balanced b (Into k' ∷ []) (waiting fr ∷ rest) (begun_frame c ∷ waiting fr ∷ rest) = enters b (begun_frame c) (waiting fr ∷ rest) e in
            subst (λ ws. Balanced b ws (fr ∷ rest) (begun_frame c ∷ waiting fr ∷ rest)) (sym one) (balanced-append b [] (Into k' ∷ []) (fr ∷ rest) (waiting fr ∷ rest) (begun_frame c ∷ waiting fr ∷ rest) first second)
        enters_if c e false = tt

        blocks_fair : (bs : List Block) → target m (Into k') ≡ first_label bs → Fair (fr ∷ rest) (entered fr rest shared shown into k' f values bs)
        blocks_fair [] e = declared_fair shown none f.name values
        blocks_fair (c ∷ cs) e = enters_if c e (nat_lt (length (fr ∷ rest)) depth_most)

      called_if : (through : Bool) (into : Option (List ℕ × Ty)) (values : List (Ty × Value)) (k' : ℕ) (f : Function) → function_at m k' ≡ Some f → (c : Bool) → Fair (fr ∷ rest) (cond c (entered fr rest shared (targeted through fr k') into k' f values f.blocks) (fails trap.Callee))
      called_if through into values k' f e true =
          blocks_fair (targeted through fr k') (log_targeted through fr k') into k' f values f.blocks (ap (λ o. option_and_then (λ (h : Function). first_label h.blocks) o) e)
      called_if through into values k' f e false = tt

      called_fair : (through : Bool) (into : Option (List ℕ × Ty)) (r : ReturnType) (values : List (Ty × Value)) (k' : ℕ) (o : Option Function) → function_at m k' ≡ o → Fair (fr ∷ rest) (called fr rest shared through into r values k' o)
      called_fair through into r values k' None e = tt
      called_fair through into r values k' (Some f) e = called_if through into values k' f e (fits r values f)

      call_fair : (through : Bool) (into : Option (List ℕ × Ty)) (r : ReturnType) (values : List (Ty × Value)) (o : Option ℕ) → Fair (fr ∷ rest) (call_at m fr rest shared through into r values o)
      call_fair through into r values None = tt
      call_fair through into r values (Some k') = called_fair through into r values k' (function_at m k') refl

      acted_fair : (d : Deed) → Fair (fr ∷ rest) (acted m fr rest shared d)
      acted_fair (Gives into v memory whats) =
          quiet (map (Did fr.function fr.block fr.place) whats) (fr ∷ rest) (past fr into v ∷ rest) (log_deeds fr.function fr.block fr.place whats) (same_place fr (past fr into v) rest refl refl)
      acted_fair (Calls through into r address values) =
          call_fair through into r values (function_at_address (functions_of m) address)
      acted_fair (Fails kind) = tt

      module _ (c : Block) (is_block : sought m fr.function fr.block ≡ Some c) where
        leads : (position : ℕ) → target m (Out fr.function fr.block position) ≡ slice_get (successors c.term) position
        leads position = ap (λ o. successor o position) is_block

        walked_fair : (position : ℕ) (o : Option (List ℕ)) → slice_get (successors c.term) position ≡ o → Fair (fr ∷ rest) (walked m fr rest shared position o)
        walked_fair position None e = tt
        walked_fair position (Some to) e =
            moves b fr (entering m fr to (phis_in (sought m fr.function to))) rest position refl (leads position ∙ e)

    resumed_place : (caller : Frame) (rest : List Frame) (into : Option (List ℕ × Ty)) (v : Option Value) → standing b (caller ∷ rest) ≡ standing b (resumed caller into v ∷ rest)
    resumed_place caller rest into (Some v) = same_place caller (resumed caller into (Some v)) rest refl refl
    resumed_place caller rest into None = refl

    returned_fair : (fr : Frame) (rest : List Frame) (shared : Shared) (v : Option Value) → target m (Out fr.function fr.block 0) ≡ None → Fair (fr ∷ rest) (returned fr rest shared v)
    returned_fair fr [] shared v e = leaves b fr [] 0 e
    returned_fair fr (caller ∷ rest) shared v e =
        balanced-append b (Out fr.function fr.block 0 ∷ []) [] (fr ∷ caller ∷ rest) (caller ∷ rest) (resumed caller fr.into v ∷ rest) (leaves b fr (caller ∷ rest) 0 e) (stays b (caller ∷ rest) (resumed caller fr.into v ∷ rest) (resumed_place caller rest fr.into v))

    module _ (fr : Frame) (rest : List Frame) (shared : Shared) (c : Block) (is_block : sought m fr.function fr.block ≡ Some c) where
      left_fair : (t : Term) → c.term ≡ t → Fair (fr ∷ rest) (left m fr rest shared (successors t) (choice (value_of m fr.registers) t))
      left_fair (Br to) e =
          walked_fair fr rest shared c is_block 0 (Some to) (ap (λ x. slice_get (successors x) 0) e)
      left_fair (CondBr v first second prof) e =
          let position : ℕ = cond (number_at I1 (value_of m fr.registers v) == 0) 1 0 in
          walked_fair fr rest shared c is_block position (slice_get (first ∷ second ∷ []) position) (ap (λ x. slice_get (successors x) position) e)
      left_fair (Switch ty v default cases prof) e =
          let position : ℕ = case_position (number_at ty (value_of m fr.registers v)) cases in
          walked_fair fr rest shared c is_block position (slice_get (successors (Switch ty v default cases prof)) position) (ap (λ x. slice_get (successors x) position) e)
      left_fair (Ret v) e =
          let ends : slice_get (successors c.term) 0 ≡ None = ap (λ x. slice_get (successors x) 0) e in
          returned_fair fr rest shared (option_map (λ u. at_type u.0 (value_of m fr.registers u.1)) v) (leads fr rest shared c is_block 0 ∙ ends)
      left_fair Unreachable e = tt

      done_fair : (is : List Instr) → Fair (fr ∷ rest) (done m fr rest shared is c.term)
      done_fair [] = left_fair c.term refl
      done_fair (i ∷ is) = acted_fair fr rest shared (deed (value_of m fr.registers) (functions_of m) shared.memory i)

    done_in_fair : (fr : Frame) (rest : List Frame) (shared : Shared) (o : Option Block) → sought m fr.function fr.block ≡ o → Fair (fr ∷ rest) (done_in m fr rest shared o)
    done_in_fair fr rest shared None e = tt
    done_in_fair fr rest shared (Some c) e = done_fair fr rest shared c e (drop fr.place (behind_phis c.instrs))

    stepped_fair : (frames : List Frame) (shared : Shared) → Fair frames (stepped m frames shared)
    stepped_fair [] out = tt
    stepped_fair (fr ∷ rest) shared = done_in_fair fr rest shared (sought m fr.function fr.block) refl

    balanced_on : (n : ℕ) → ((s : State) → HasReturned (run (step m) n s) → Balanced b (log_of (run (step m) n s)) s.frames []) → (before : List Frame) (x : Step) → Fair before x → HasReturned (go_on x (run (step m) n)) → Balanced b (log_of (go_on x (run (step m) n))) before []
    balanced_on n rec before (Goes o s) fair h =
        let later = rec s (returned_later o (run (step m) n s) h) in
        subst (λ ws. Balanced b ws before []) (sym (log_first o (run (step m) n s))) (balanced-append b (log o) (log_of (run (step m) n s)) before s.frames [] fair later)
    balanced_on n rec before (Stops o (Returns v)) fair h = fair
    balanced_on n rec before (Stops o (Traps kind)) fair h = absurd h

    balanced_run : (n : ℕ) (s : State) → HasReturned (run (step m) n s) → Balanced b (log_of (run (step m) n s)) s.frames []
    balanced_run zero s h = absurd h
    balanced_run (suc n) s h =
        balanced_on n (balanced_run n) s.frames (step m s) (stepped_fair s.frames s.shared) h

    first_fair : (g : ℕ) (values : List ℕ) (f : Function) (bs : List Block) → target m (Into g) ≡ first_label bs → Fair [] (first_entered m g values f bs)
    first_fair g values f [] e = tt
    first_fair g values f (c ∷ cs) e =
        let fr : Frame = record { function = g; block = c.label; place = 0; registers = arguments f.params (map Int values); base = (initial_memory m).next; into = None } in
        enters b fr [] e

    begun_fair : (g : ℕ) (values : List ℕ) (o : Option Function) → function_at m g ≡ o → Fair [] (begun m g values o)
    begun_fair g values None e = tt
    begun_fair g values (Some f) e =
        first_fair g values f f.blocks (ap (λ o. option_and_then (λ (h : Function). first_label h.blocks) o) e)

    balanced_call : (c : Call) (n : ℕ) → HasReturned (run_of m c n) → Balanced b (log_of (run_of m c n)) [] []
    balanced_call c n h =
        balanced_on n (balanced_run n) [] (begun m c.function c.args (function_at m c.function)) (begun_fair c.function c.args (function_at m c.function) refl) h

  equal_of : (b : Option (List ℕ)) (ws : List Walk) → Balanced b ws [] [] → leading b ws ≡ coming b ws
  equal_of None ws e = omega (arith, e)
  equal_of (Some l) ws e = omega (arith, e)

pub call_flow : (m : Module) (c : Call) (n : ℕ) → HasReturned (run_of m c n) → AreBalanced m (log_of (run_of m c n))
call_flow m c n h = λ k b. equal_of m k b (log_of (run_of m c n)) (balanced_call m k b c n h)
