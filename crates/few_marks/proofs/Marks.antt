-- A step marks at most once, and so does a mark by the numbers of the module's units.
use Rattle.std.proofs.Common.{◌≡◌, ℕ, zero, suc, ◌+◌, ◌≤◌, Bool, true, false, cond, Result, Ok, Err, List, [], ◌∷◌, ◌++◌, length, map, drop, Option, Some, None, refl, arith, length-append}
use Rattle.std.specs.Prelude.{nat_le, nat_lt, slice_get, max, codes, if◌then◌else◌}
use Rattle.ir_tree.specs.Functions.{function_at, print_name}
use Rattle.ir_tree.specs.Names.{same}
use Rattle.ir_tree.specs.Phis.{behind_phis}
use Rattle.ir_tree.specs.Successors.{successors}
use Rattle.ir_tree.specs.declared.types.Ty.{Ty}
use Rattle.ir_tree.specs.declared.types.Ty.TheVariants.{I64}
use Rattle.ir_tree.specs.declared.types.Ret.{Ret}
use Rattle.ir_tree.specs.declared.types.Operand.{Operand}
use Rattle.ir_tree.specs.declared.types.Instr.{Instr}
use Rattle.ir_tree.specs.declared.types.Instr.TheVariants.{Binary, Compare, Convert, Freeze, Select, Phi, Alloca, Load, Store, Gep, Call, Count}
use Rattle.ir_tree.specs.declared.types.Term.{Term}
use Rattle.ir_tree.specs.declared.types.Block.{Block}
use Rattle.ir_tree.specs.declared.types.Function.{Function}
use Rattle.ir_tree.specs.declared.types.Module.{Module}
use Rattle.ir_memory.specs.Memory.{MemoryState, live_cells, made}
use Rattle.ir_memory.specs.declared.value.Base.TheVariants.{Object}
use Rattle.ir_memory.specs.declared.value.Value.TheVariants.{Pointer}
use Rattle.ir_model.specs.Sizes.{size_of}
use Rattle.ir_memory.specs.declared.value.Value.{Value}
use Rattle.ir_memory.specs.declared.error.MemError.{MemError}
use Rattle.ir_value.specs.declared.operators.DivTrap.{DivTrap}
use Rattle.ir_value.specs.declared.operators.DivTrap.TheVariants as division
use Rattle.ir_model.specs.declared.probe.Event.{Event}
use Rattle.ir_model.specs.declared.result.TrapKind.TheVariants as trap
use Rattle.ir_model.specs.declared.result.Call as calls
use Rattle.spec_machines.specs.Machine.{Goes, Stops, Ran, Open, Ended, shown_first, shown_of, go_on, run}
use Rattle.ir_model.specs.Deed.{Deed, Gives, Calls, Fails, deed, Choice, Takes, Leaves, Breaks, choice, computed, read_as, wrote, cells_most, note, profile_shown, profiled, profile_callee, call, unit_of}
use Rattle.ir_model.specs.State.{Frame, Shared, State, What, Added, Noted, Chose, Shown, Did, Printed, Entered, Stop, arguments}
use Rattle.ir_model.specs.Step.{Step, fails, goes_to, waiting, line_of, output_most, depth_most, targeted, prints_first, marks_lifetime, entered, called, call_at, fits, acted, walked, returned, left, done, done_in, stepped, sought, step, value_of}
use Rattle.ir_model.specs.Run.{first_entered, begun, run_of, marks_one, marks, marks_of}
use Rattle.ir_model.specs.Values.{as_number, function_at_address, functions_of, number_at}
use Rattle.ir_code.specs.Units.{Unit_, told, all_told, units_of, numbered_marks}

-- ---- lists of what is shown

marks-append : (xs ys : List Shown) → length (marks (xs ++ ys)) ≡ length (marks xs) + length (marks ys)
marks-append [] ys = omega arith
marks-append (x ∷ xs) ys =
    let rest : length (marks (xs ++ ys)) ≡ length (marks xs) + length (marks ys) = marks-append xs ys in
    let all : length (marks_one x ++ marks (xs ++ ys)) ≡ length (marks_one x) + length (marks (xs ++ ys)) = length-append (marks_one x) (marks (xs ++ ys)) in
    let first : length (marks_one x ++ marks xs) ≡ length (marks_one x) + length (marks xs) = length-append (marks_one x) (marks xs) in
    omega arith

printed_none : (bytes : List ℕ) → length (marks (map Printed bytes)) ≡ 0
printed_none [] = refl
printed_none (b ∷ bs) = printed_none bs

targeted_none : (through : Bool) (fr : Frame) (k : ℕ) → length (marks (targeted through fr k)) ≡ 0
targeted_none true fr k = refl
targeted_none false fr k = refl

did_few : (k : ℕ) (l : List ℕ) (place : ℕ) (whats : List What) → length (marks (map (Did k l place) whats)) ≤ length whats
did_few k l place [] = omega arith
did_few k l place (Added unit counter amount ∷ ws) =
    let rest : length (marks (map (Did k l place) ws)) ≤ length ws = did_few k l place ws in
    omega arith
did_few k l place (Noted unit site callee ∷ ws) =
    let rest : length (marks (map (Did k l place) ws)) ≤ length ws = did_few k l place ws in
    omega arith
did_few k l place (Chose value ∷ ws) =
    let rest : length (marks (map (Did k l place) ws)) ≤ length ws = did_few k l place ws in
    omega arith

-- ---- what an instruction shows

abbrev Shows : Deed → Type 0
Shows (Gives into v memory whats) = length whats ≤ 1
Shows (Calls through into r address values) = Unit {0}
Shows (Fails kind) = Unit {0}

abbrev ShowsFew : Option (List What) → Type 0
ShowsFew None = Unit {0}
ShowsFew (Some whats) = length whats ≤ 1

computed_shows : (into : Option (List ℕ)) (memory : MemoryState) (r : Result ℕ DivTrap) → Shows (computed into memory r)
computed_shows into memory (Ok n) = omega arith
computed_shows into memory (Err division.DivZero) = tt
computed_shows into memory (Err division.DivOverflow) = tt

given_if : (b : Bool) (into : Option (List ℕ)) (v : Value) (memory : MemoryState) → Shows (cond b (Gives into v memory []) (Fails trap.Cells))
given_if true into v memory = omega arith
given_if false into v memory = tt

read_shows : (into : Option (List ℕ)) (memory : MemoryState) (ty : Ty) (r : Result Value MemError) → Shows (read_as into memory ty r)
read_shows into memory ty (Ok v) = omega arith
read_shows into memory ty (Err e) = tt

wrote_shows : (r : Result MemoryState MemError) → Shows (wrote r)
wrote_shows (Ok memory) = omega arith
wrote_shows (Err e) = tt

note_few : (unit : List ℕ) (site : ℕ) (o : Option ℕ) → length (note unit site o) ≤ 1
note_few unit site None = omega arith
note_few unit site (Some k) = omega arith

if_noted : (b : Bool) (unit : List ℕ) (site : ℕ) (o : Option ℕ) → ShowsFew (cond b (Some (note unit site o)) None)
if_noted true unit site o = note_few unit site o
if_noted false unit site o = tt

if_shown : (b : Bool) (w : What) (other : Option (List What)) → ShowsFew other → ShowsFew (cond b (Some (w ∷ [])) other)
if_shown true w other few = omega arith
if_shown false w other few = few

profile_few : (val : Operand → Value) (count : ℕ) (name : List ℕ) (args : List (Ty × Operand)) → ShowsFew (profile_shown val count name args)
profile_few val count name [] = tt
profile_few val count name (a ∷ []) = tt
profile_few val count name (a ∷ b ∷ []) = tt
profile_few val count name (a ∷ b ∷ c ∷ []) =
    if_noted (same (codes "__llvm_profile_instrument_target") name) (unit_of b.1) (as_number (val c.1)) (function_at_address count (number_at I64 (val a.1)))
profile_few val count name (a ∷ b ∷ c ∷ d ∷ []) =
    if_shown (same (codes "llvm.instrprof.increment") name) (Added (unit_of a.1) (as_number (val d.1)) 1) None tt
profile_few val count name (a ∷ b ∷ c ∷ d ∷ e ∷ []) =
    if_shown (same (codes "llvm.instrprof.increment.step") name) (Added (unit_of a.1) (as_number (val d.1)) (number_at I64 (val e.1)))
    (if same (codes "llvm.instrprof.value.profile") name
    then Some (note (unit_of a.1) (as_number (val e.1)) (function_at_address count (number_at I64 (val c.1))))
    else None)
    (if_noted (same (codes "llvm.instrprof.value.profile") name) (unit_of a.1) (as_number (val e.1)) (function_at_address count (number_at I64 (val c.1))))
profile_few val count name (a ∷ b ∷ c ∷ d ∷ e ∷ f ∷ more) = tt

profiled_shows : (memory : MemoryState) (o : Option (List What)) → ShowsFew o → Shows (profiled memory o)
profiled_shows memory None few = tt
profiled_shows memory (Some whats) few = few

call_shows : (val : Operand → Value) (count : ℕ) (memory : MemoryState) (into : Option (List ℕ)) (r : Ret) (callee : Operand) (args : List (Ty × Operand)) (o : Option (List ℕ)) → Shows (call val count memory into r callee args o)
call_shows val count memory into r callee args None = tt
call_shows val count memory into r callee args (Some name) = profiled_shows memory (profile_shown val count name args) (profile_few val count name args)

deed_shows : (val : Operand → Value) (count : ℕ) (memory : MemoryState) (i : Instr) → Shows (deed val count memory i)
deed_shows val count memory (Binary into o flags ty first second) = computed_shows (Some into) memory _
deed_shows val count memory (Compare into p ty first second) = omega arith
deed_shows val count memory (Convert into o flags from value to) = omega arith
deed_shows val count memory (Freeze into ty value) = omega arith
deed_shows val count memory (Select into c ty first second prof) = omega arith
deed_shows val count memory (Phi into ty entries) = tt
deed_shows val count memory (Alloca into mem) = given_if (nat_le (live_cells memory.live + max 1 (size_of mem)) cells_most) (Some into) (Pointer (Object memory.next) 0) (made memory (size_of mem) false)
deed_shows val count memory (Load into ty address) = read_shows (Some into) memory ty _
deed_shows val count memory (Store ty value address) = wrote_shows _
deed_shows val count memory (Gep into inbounds mem address indices) = omega arith
deed_shows val count memory (Call into r callee args prof) = call_shows val count memory into r callee args (profile_callee callee)
deed_shows val count memory (Count symbol size index amount) = omega arith

-- ---- what a step shows

abbrev AtMost : ℕ → Step → Type 0
AtMost k (Goes o s) = length (marks o) ≤ k
AtMost k (Stops o e) = length (marks o) ≤ k

module _ (m : Module) (fr : Frame) (rest : List Frame) (shared : Shared) where
  prints_if : (shown : List Shown) → length (marks shown) ≡ 0 → (text : List ℕ) (b : Bool) → AtMost 1 (cond b (goes_to (waiting fr ∷ rest) (record shared { output = shared.output + length text }) (shown ++ map Printed text)) (fails trap.Output))
  prints_if shown none text true =
      let all : length (marks (shown ++ map Printed text)) ≡ length (marks shown) + length (marks (map Printed text)) = marks-append shown (map Printed text) in
      let last : length (marks (map Printed text)) ≡ 0 = printed_none text in
      omega arith
  prints_if shown none text false = omega arith

  prints_few : (shown : List Shown) → length (marks shown) ≡ 0 → (values : List (Ty × Value)) → AtMost 1 (prints_first fr rest shared shown values)
  prints_few shown none [] = omega arith
  prints_few shown none (v ∷ vs) =
      prints_if shown none (line_of (number_at I64 v.1)) (nat_le (shared.output + length (line_of (number_at I64 v.1))) output_most)

  declared_if : (shown : List Shown) → length (marks shown) ≡ 0 → (values : List (Ty × Value)) (c d : Bool) → AtMost 1 (cond c (prints_first fr rest shared shown values) (cond d (goes_to (waiting fr ∷ rest) shared shown) (fails trap.External)))
  declared_if shown none values true d = prints_few shown none values
  declared_if shown none values false true = omega arith
  declared_if shown none values false false = omega arith

  entered_if : (shown : List Shown) → length (marks shown) ≡ 0 → (k : ℕ) (after : List Frame) (b : Bool) → AtMost 1 (cond b (goes_to after shared (shown ++ Entered k ∷ [])) (fails trap.Depth))
  entered_if shown none k after true =
      let all : length (marks (shown ++ Entered k ∷ [])) ≡ length (marks shown) + length (marks (Entered k ∷ [])) = marks-append shown (Entered k ∷ []) in
      omega arith
  entered_if shown none k after false = omega arith

  blocks_few : (shown : List Shown) → length (marks shown) ≡ 0 → (into : Option (List ℕ × Ty)) (k : ℕ) (f : Function) (values : List (Ty × Value)) (bs : List Block) → AtMost 1 (entered fr rest shared shown into k f values bs)
  blocks_few shown none into k f values [] = declared_if shown none values (same print_name f.name) (marks_lifetime f.name)
  blocks_few shown none into k f values (b ∷ bs) =
      let begins : Frame = record { function = k; block = b.label; place = 0; registers = arguments f.params (map (λ v. v.1) values); base = shared.memory.next; into = into } in
      entered_if shown none k (begins ∷ waiting fr ∷ rest) (nat_lt (length (fr ∷ rest)) depth_most)

  called_if : (through : Bool) (into : Option (List ℕ × Ty)) (values : List (Ty × Value)) (k : ℕ) (f : Function) (b : Bool) → AtMost 1 (cond b (entered fr rest shared (targeted through fr k) into k f values f.blocks) (fails trap.Callee))
  called_if through into values k f true = blocks_few (targeted through fr k) (targeted_none through fr k) into k f values f.blocks
  called_if through into values k f false = omega arith

  called_few : (through : Bool) (into : Option (List ℕ × Ty)) (r : Ret) (values : List (Ty × Value)) (k : ℕ) (o : Option Function) → AtMost 1 (called fr rest shared through into r values k o)
  called_few through into r values k None = omega arith
  called_few through into r values k (Some f) = called_if through into values k f (fits r values f)

  call_few : (through : Bool) (into : Option (List ℕ × Ty)) (r : Ret) (values : List (Ty × Value)) (o : Option ℕ) → AtMost 1 (call_at m fr rest shared through into r values o)
  call_few through into r values None = omega arith
  call_few through into r values (Some k) = called_few through into r values k (function_at m k)

  acted_few : (d : Deed) → Shows d → AtMost 1 (acted m fr rest shared d)
  acted_few (Gives into v memory whats) few =
      let all : length (marks (map (Did fr.function fr.block fr.place) whats)) ≤ length whats = did_few fr.function fr.block fr.place whats in
      omega arith
  acted_few (Calls through into r address values) few = call_few through into r values (function_at_address (functions_of m) address)
  acted_few (Fails kind) few = omega arith

  walked_few : (p : ℕ) (o : Option (List ℕ)) → AtMost 1 (walked m fr rest shared p o)
  walked_few p None = omega arith
  walked_few p (Some to) = omega arith

returned_few : (fr : Frame) (rest : List Frame) (shared : Shared) (v : Option Value) → AtMost 1 (returned fr rest shared v)
returned_few fr [] shared v = omega arith
returned_few fr (caller ∷ rest) shared v = omega arith

module _ (m : Module) (fr : Frame) (rest : List Frame) (shared : Shared) where
  left_few : (ss : List (List ℕ)) (c : Choice) → AtMost 1 (left m fr rest shared ss c)
  left_few ss (Takes p) = walked_few m fr rest shared p (slice_get ss p)
  left_few ss (Leaves v) = returned_few fr rest shared v
  left_few ss (Breaks kind) = omega arith

  done_few : (is : List Instr) (t : Term) → AtMost 1 (done m fr rest shared is t)
  done_few [] t = left_few (successors t) (choice (value_of m fr.registers) t)
  done_few (i ∷ is) t =
      acted_few m fr rest shared (deed (value_of m fr.registers) (functions_of m) shared.memory i)
      (deed_shows (value_of m fr.registers) (functions_of m) shared.memory i)

  done_in_few : (o : Option Block) → AtMost 1 (done_in m fr rest shared o)
  done_in_few None = omega arith
  done_in_few (Some b) = done_few (drop fr.place (behind_phis b.instrs)) b.term

stepped_few : (m : Module) (frames : List Frame) (shared : Shared) → AtMost 1 (stepped m frames shared)
stepped_few m [] shared = omega arith
stepped_few m (fr ∷ rest) shared = done_in_few m fr rest shared (sought m fr.function fr.block)

-- ---- what a run shows

first_length : (o : List Shown) (r : Ran Shown Stop) → length (marks (shown_of (shown_first o r))) ≡ length (marks o) + length (marks (shown_of r))
first_length o (Open p) = marks-append o p
first_length o (Ended p e) = marks-append o p

module _ (m : Module) where
  goes_few : (k n : ℕ) → ((s : State) → length (marks (shown_of (run (step m) n s))) ≤ n) → (x : Step) → AtMost k x → length (marks (shown_of (go_on x (run (step m) n)))) ≤ k + n
  goes_few k n rec (Goes o s) few =
      let later : length (marks (shown_of (run (step m) n s))) ≤ n = rec s in
      let both : length (marks (shown_of (shown_first o (run (step m) n s)))) ≡ length (marks o) + length (marks (shown_of (run (step m) n s))) = first_length o (run (step m) n s) in
      omega arith
  goes_few k n rec (Stops o e) few = omega arith

  run_few : (n : ℕ) (s : State) → length (marks (shown_of (run (step m) n s))) ≤ n
  run_few zero s = omega arith
  run_few (suc n) s =
      let few : length (marks (shown_of (run (step m) (suc n) s))) ≤ 1 + n = goes_few 1 n (run_few n) (step m s) (stepped_few m s.frames s.shared) in
      omega arith

  first_few : (k : ℕ) (values : List ℕ) (f : Function) (bs : List Block) → AtMost 0 (first_entered m k values f bs)
  first_few k values f [] = omega arith
  first_few k values f (b ∷ bs) = omega arith

  begun_few : (k : ℕ) (values : List ℕ) (o : Option Function) → AtMost 0 (begun m k values o)
  begun_few k values None = omega arith
  begun_few k values (Some f) = first_few k values f f.blocks

  call_marks_few : (k n : ℕ) (values : List ℕ) (o : Option Function) → length (marks (shown_of (go_on (begun m k values o) (run (step m) n)))) ≤ n
  call_marks_few k n values o =
      let few : length (marks (shown_of (go_on (begun m k values o) (run (step m) n)))) ≤ 0 + n = goes_few 0 n (run_few n) (begun m k values o) (begun_few k values o) in
      omega arith

-- ---- by the numbers of units

cond_events : (b : Bool) (e : Event) → length (cond b (e ∷ []) []) ≤ 1
cond_events true e = omega arith
cond_events false e = omega arith

told_few : (units : List Unit_) (w : What) → length (told units w) ≤ 1
told_few units (Added name counter amount) = cond_events _ _
told_few units (Noted name site callee) = cond_events _ _
told_few units (Chose value) = omega arith

all_few : (units : List Unit_) (ws : List What) → length (all_told units ws) ≤ length ws
all_few units [] = omega arith
all_few units (w ∷ ws) =
    let here : length (told units w) ≤ 1 = told_few units w in
    let rest : length (all_told units ws) ≤ length ws = all_few units ws in
    let both : length (told units w ++ all_told units ws) ≡ length (told units w) + length (all_told units ws) = length-append (told units w) (all_told units ws) in
    omega arith

pub marks_few : (m : Module) (c : calls.Call) (n : ℕ) → length (numbered_marks m (run_of m c n)) ≤ n
marks_few m c n =
    let all : length (numbered_marks m (run_of m c n)) ≤ length (marks_of (run_of m c n)) = all_few (units_of m) (marks_of (run_of m c n)) in
    let few : length (marks (shown_of (run_of m c n))) ≤ n = call_marks_few m c.function n c.args (function_at m c.function) in
    omega arith
