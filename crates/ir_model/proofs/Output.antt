-- The printed bytes of a run.
use Rattle.std.proofs.Common.{◌≡◌, ℕ, zero, suc, ◌+◌, ◌≤◌, Bool, true, false, cond, List, [], ◌∷◌, ◌++◌, length, map, drop, Option, Some, None, refl, sym, ◌∙◌, ap, arith, append_assoc, length-append}
use Rattle.std.specs.Prelude.{nat_le, nat_lt, slice_get}
use Rattle.std.proofs.lemmas.Bool.{leb-true}
use Rattle.ir_tree.specs.Functions.{function_at, print_name}
use Rattle.ir_tree.specs.Names.{same}
use Rattle.ir_tree.specs.Phis.{behind_phis}
use Rattle.ir_tree.specs.Successors.{successors}
use Rattle.ir_tree.specs.declared.types.Ty.{Ty}
use Rattle.ir_tree.specs.declared.types.Ty.TheVariants.{I64}
use Rattle.ir_tree.specs.declared.types.Ret.{Ret}
use Rattle.ir_tree.specs.declared.types.Instr.{Instr}
use Rattle.ir_tree.specs.declared.types.Term.{Term}
use Rattle.ir_tree.specs.declared.types.Block.{Block}
use Rattle.ir_tree.specs.declared.types.Function.{Function}
use Rattle.ir_tree.specs.declared.types.Module.{Module}
use Rattle.ir_memory.specs.declared.value.Value.{Value}
use Rattle.ir_model.specs.declared.result.TrapKind.TheVariants as trap
use Rattle.spec_machines.specs.Machine.{Goes, Stops, Ran, Open, Ended, shown_first, shown_of, go_on, run}
use Rattle.ir_model.specs.Deed.{Deed, Gives, Calls, Fails, deed, Choice, Takes, Leaves, Breaks, choice}
use Rattle.ir_model.specs.State.{Frame, Shared, State, What, Shown, Did, Printed, Entered, printed, printed_one, Stop, arguments}
use Rattle.ir_model.specs.Step.{Step, fails, goes_to, past, waiting, line_of, output_most, depth_most, targeted, prints_first, marks_lifetime, entered, called, call_at, fits, acted, walked, returned, left, done, done_in, stepped, sought, step, value_of}
use Rattle.ir_model.specs.Run.{first_entered, begun}
use Rattle.ir_model.specs.Values.{function_at_address, functions_of, number_at}

pub printed-append : (xs ys : List Shown) → printed (xs ++ ys) ≡ printed xs ++ printed ys
printed-append [] ys = refl
printed-append (x ∷ xs) ys = ap (λ l. printed_one x ++ l) (printed-append xs ys) ∙ sym (append_assoc (printed_one x) (printed xs) (printed ys))

pub printed_all : (bytes : List ℕ) → printed (map Printed bytes) ≡ bytes
printed_all [] = refl
printed_all (b ∷ bs) = ap (λ l. b ∷ l) (printed_all bs)

printed_deeds : (k : ℕ) (l : List ℕ) (place : ℕ) (whats : List What) → printed (map (Did k l place) whats) ≡ []
printed_deeds k l place [] = refl
printed_deeds k l place (w ∷ ws) = printed_deeds k l place ws

printed_targeted : (through : Bool) (fr : Frame) (k : ℕ) → printed (targeted through fr k) ≡ []
printed_targeted true fr k = refl
printed_targeted false fr k = refl

-- items behind ones that are not printed
printed_behind : (xs ys : List Shown) → printed xs ≡ [] → printed (xs ++ ys) ≡ printed ys
printed_behind xs ys none = printed-append xs ys ∙ ap (λ l. l ++ printed ys) none

-- a step counts the bytes that it prints, and keeps the count within the limit
abbrev pub Counts : ℕ → Step → Type 0
Counts out (Goes o s) = (length (printed o) + out ≡ s.shared.output) × (s.shared.output ≤ output_most)
Counts out (Stops o e) = length (printed o) ≡ 0

module _ (m : Module) (fr : Frame) (rest : List Frame) (shared : Shared) (h : shared.output ≤ output_most) where
  -- a step that prints nothing
  silent : (shown : List Shown) (after : List Frame) (shared' : Shared) → printed shown ≡ [] → shared'.output ≡ shared.output → Counts shared.output (goes_to after shared' shown)
  silent shown after shared' none e =
      let zero_of : length (printed shown) ≡ 0 = ap length none in
      (omega (arith, zero_of, e), omega (arith, h, e))

  prints_if : (shown : List Shown) → printed shown ≡ [] → (text : List ℕ) (b : Bool) → nat_le (shared.output + length text) output_most ≡ b → Counts shared.output (cond b (goes_to (waiting fr ∷ rest) (record shared { output = shared.output + length text }) (shown ++ map Printed text)) (fails trap.Output))
  prints_if shown none text true e =
      let within : shared.output + length text ≤ output_most = leb-true (shared.output + length text) output_most e in
      let all : length (printed (shown ++ map Printed text)) ≡ length text = ap length (printed_behind shown (map Printed text) none ∙ printed_all text) in
      (omega (arith, all), within)
  prints_if shown none text false e = refl

  prints_counts : (shown : List Shown) → printed shown ≡ [] → (values : List (Ty × Value)) → Counts shared.output (prints_first fr rest shared shown values)
  prints_counts shown none [] = refl
  prints_counts shown none (v ∷ vs) =
      prints_if shown none (line_of (number_at I64 v.1)) (nat_le (shared.output + length (line_of (number_at I64 v.1))) output_most) refl

  declared_if : (shown : List Shown) → printed shown ≡ [] → (values : List (Ty × Value)) (c d : Bool) → Counts shared.output (cond c (prints_first fr rest shared shown values) (cond d (goes_to (waiting fr ∷ rest) shared shown) (fails trap.External)))
  declared_if shown none values true d = prints_counts shown none values
  declared_if shown none values false true = silent shown (waiting fr ∷ rest) shared none refl
  declared_if shown none values false false = refl

  entered_if : (shown : List Shown) → printed shown ≡ [] → (k : ℕ) (after : List Frame) (b : Bool) → Counts shared.output (cond b (goes_to after shared (shown ++ Entered k ∷ [])) (fails trap.Depth))
  entered_if shown none k after true = silent (shown ++ Entered k ∷ []) after shared (printed_behind shown (Entered k ∷ []) none) refl
  entered_if shown none k after false = refl

  blocks_counts : (shown : List Shown) → printed shown ≡ [] → (into : Option (List ℕ × Ty)) (k : ℕ) (f : Function) (values : List (Ty × Value)) (bs : List Block) → Counts shared.output (entered fr rest shared shown into k f values bs)
  blocks_counts shown none into k f values [] = declared_if shown none values (same print_name f.name) (marks_lifetime f.name)
  blocks_counts shown none into k f values (b ∷ bs) =
      let begins : Frame = record { function = k; block = b.label; place = 0; registers = arguments f.params (map (λ v. v.1) values); base = shared.memory.next; into = into } in
      entered_if shown none k (begins ∷ waiting fr ∷ rest) (nat_lt (length (fr ∷ rest)) depth_most)

  called_if : (through : Bool) (into : Option (List ℕ × Ty)) (values : List (Ty × Value)) (k : ℕ) (f : Function) (b : Bool) → Counts shared.output (cond b (entered fr rest shared (targeted through fr k) into k f values f.blocks) (fails trap.Callee))
  called_if through into values k f true = blocks_counts (targeted through fr k) (printed_targeted through fr k) into k f values f.blocks
  called_if through into values k f false = refl

  called_counts : (through : Bool) (into : Option (List ℕ × Ty)) (r : Ret) (values : List (Ty × Value)) (k : ℕ) (o : Option Function) → Counts shared.output (called fr rest shared through into r values k o)
  called_counts through into r values k None = refl
  called_counts through into r values k (Some f) = called_if through into values k f (fits r values f)

  call_counts : (through : Bool) (into : Option (List ℕ × Ty)) (r : Ret) (values : List (Ty × Value)) (o : Option ℕ) → Counts shared.output (call_at m fr rest shared through into r values o)
  call_counts through into r values None = refl
  call_counts through into r values (Some k) = called_counts through into r values k (function_at m k)

  acted_counts : (d : Deed) → Counts shared.output (acted m fr rest shared d)
  acted_counts (Gives into v memory whats) =
      silent (map (Did fr.function fr.block fr.place) whats) (past fr into v ∷ rest) (record shared { memory = memory }) (printed_deeds fr.function fr.block fr.place whats) refl
  acted_counts (Calls through into r address values) = call_counts through into r values (function_at_address (functions_of m) address)
  acted_counts (Fails kind) = refl

  walked_counts : (p : ℕ) (o : Option (List ℕ)) → Counts shared.output (walked m fr rest shared p o)
  walked_counts p None = refl
  walked_counts p (Some to) = (omega arith, h)

returned_counts : (fr : Frame) (rest : List Frame) (shared : Shared) (v : Option Value) → shared.output ≤ output_most → Counts shared.output (returned fr rest shared v)
returned_counts fr [] shared v h = refl
returned_counts fr (caller ∷ rest) shared v h = (omega arith, h)

module _ (m : Module) (fr : Frame) (rest : List Frame) (shared : Shared) (h : shared.output ≤ output_most) where
  left_counts : (ss : List (List ℕ)) (c : Choice) → Counts shared.output (left m fr rest shared ss c)
  left_counts ss (Takes p) = walked_counts m fr rest shared h p (slice_get ss p)
  left_counts ss (Leaves v) = returned_counts fr rest shared v h
  left_counts ss (Breaks kind) = refl

  done_counts : (is : List Instr) (t : Term) → Counts shared.output (done m fr rest shared is t)
  done_counts [] t = left_counts (successors t) (choice (value_of m fr.registers) t)
  done_counts (i ∷ is) t = acted_counts m fr rest shared h (deed (value_of m fr.registers) (functions_of m) shared.memory i)

  done_in_counts : (o : Option Block) → Counts shared.output (done_in m fr rest shared o)
  done_in_counts None = refl
  done_in_counts (Some b) = done_counts (drop fr.place (behind_phis b.instrs)) b.term

stepped_counts : (m : Module) (frames : List Frame) (shared : Shared) → shared.output ≤ output_most → Counts shared.output (stepped m frames shared)
stepped_counts m [] shared h = refl
stepped_counts m (fr ∷ rest) shared h = done_in_counts m fr rest shared h (sought m fr.function fr.block)

first_length : (o : List Shown) (r : Ran Shown Stop) → length (printed (shown_of (shown_first o r))) ≡ length (printed o) + length (printed (shown_of r))
first_length o (Open p) = ap length (printed-append o p) ∙ length-append (printed o) (printed p)
first_length o (Ended p e) = ap length (printed-append o p) ∙ length-append (printed o) (printed p)

module _ (m : Module) where
  bounded_on : (n out : ℕ) → ((s : State) → s.shared.output ≤ output_most → length (printed (shown_of (run (step m) n s))) + s.shared.output ≤ output_most) → (x : Step) → out ≤ output_most → Counts out x → length (printed (shown_of (go_on x (run (step m) n)))) + out ≤ output_most
  bounded_on n out rec (Goes o s) h c =
      let later : length (printed (shown_of (run (step m) n s))) + s.shared.output ≤ output_most = rec s c.1 in
      let both : length (printed (shown_of (shown_first o (run (step m) n s)))) ≡ length (printed o) + length (printed (shown_of (run (step m) n s))) = first_length o (run (step m) n s) in
      let here : length (printed o) + out ≡ s.shared.output = c.0 in
      omega arith
  bounded_on n out rec (Stops o e) h c = omega arith

  -- what is still printed, with what was printed before, is within the limit
  pub run_bounded : (n : ℕ) (s : State) → s.shared.output ≤ output_most → length (printed (shown_of (run (step m) n s))) + s.shared.output ≤ output_most
  run_bounded zero s h = omega arith
  run_bounded (suc n) s h = bounded_on n s.shared.output (run_bounded n) (step m s) h (stepped_counts m s.frames s.shared h)

  first_counts : (k : ℕ) (values : List ℕ) (f : Function) (bs : List Block) → Counts 0 (first_entered m k values f bs)
  first_counts k values f [] = refl
  first_counts k values f (b ∷ bs) = (refl, omega arith)

  begun_counts : (k : ℕ) (values : List ℕ) (o : Option Function) → Counts 0 (begun m k values o)
  begun_counts k values None = refl
  begun_counts k values (Some f) = first_counts k values f f.blocks

  pub call_bounded : (k n : ℕ) (values : List ℕ) (o : Option Function) → length (printed (shown_of (go_on (begun m k values o) (run (step m) n)))) ≤ output_most
  call_bounded k n values o =
      let all : length (printed (shown_of (go_on (begun m k values o) (run (step m) n)))) + 0 ≤ output_most = bounded_on n 0 (run_bounded n) (begun m k values o) (omega arith) (begun_counts k values o) in
      omega arith
