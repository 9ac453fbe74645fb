-- Where a changed module follows the original frame by frame: calls, returns and starts, once for every transformation. `f`
-- makes of what the original shows what is looked at, `g` of what the changed module shows, and `R` is what two stops owe
-- each other. `Stands` is the transformation's own: a frame of the changed module stands for one of the original. It says
-- nothing of the register that takes a frame's result.
use Rattle.std.proofs.Common.{◌≡◌, ℕ, zero, suc, ◌+◌, ◌≤◌, Bool, true, false, cond, List, [], ◌∷◌, ◌++◌, length, map, drop, Option, Some, None, refl, sym, ◌∙◌, ap, ap₂, subst, arith, append_assoc}
use Rattle.std.specs.Prelude.{◌&&◌, nat_le, nat_lt}
use Rattle.std.specs.Option.{option_map}
use Rattle.std.proofs.lemmas.List.{append-nil}
use Rattle.ir_tree.specs.Functions.{function_at, print_name}
use Rattle.ir_tree.specs.Names.{same}
use Rattle.ir_tree.specs.Phis.{behind_phis}
use Rattle.ir_tree.specs.declared.types.Ty.{Ty}
use Rattle.ir_tree.specs.declared.types.Ty.TheVariants.{I64}
use Rattle.ir_tree.specs.declared.types.Ret.{Ret}
use Rattle.ir_tree.specs.declared.types.Instr.{Instr}
use Rattle.ir_tree.specs.declared.types.Block.{Block}
use Rattle.ir_tree.specs.declared.types.Function.{Function}
use Rattle.ir_tree.specs.declared.types.Module.{Module}
use Rattle.ir_memory.specs.Memory.{MemoryState, dropped}
use Rattle.ir_memory.specs.declared.value.Value.{Value}
use Rattle.ir_memory.specs.declared.value.Value.TheVariants.{Int}
use Rattle.ir_model.specs.declared.result.TrapKind.{TrapKind}
use Rattle.ir_model.specs.declared.result.TrapKind.TheVariants as trap
use Rattle.ir_model.specs.Deed.{Gives, deed}
use Rattle.ir_model.specs.Initial.{initial_memory}
use Rattle.ir_model.specs.Run.{at_first, begun, first_entered}
use Rattle.ir_model.specs.State.{arguments, Frame, Shared, State, What, Shown, Did, Printed, Entered, Walked, Stop, Returns, Traps}
use Rattle.ir_model.specs.Step.{Step, acted, called, call_at, declared, depth_most, done, done_in, ended, entered, fails, fits, fits_params, goes_to, line_of, marks_lifetime, output_most, past, prints_first, resumed, returned, same_ret, sought, step, targeted, value_of, waiting}
use Rattle.ir_model.specs.Values.{as_number, functions_of, number_at}
use Rattle.spec_machines.specs.Machine.{Goes, more_shown, then_go, many}
use Rattle.spec_machines.specs.Simulation.{Alike, IsView, Matched}
use Rattle.spec_machines.proofs.Many.{many_add, many_through}

abbrev pub state : List Frame → Shared → State
state frames shared = record { frames = frames; shared = shared }

-- the frame of a function that begins
abbrev pub begins : ℕ → Function → Block → List Value → ℕ → Option (List ℕ × Ty) → Frame
begins k h b values base into = record { function = k; block = b.label; place = 0; registers = arguments h.params values; base = base; into = into }

module _ {C : Type 0} (f g : List Shown → List C) (R : List Shown → List Shown → Stop → Type 0) (second : IsView g) (m n : Module) (Stands : Frame → Frame → Type 0) (bases : (fr ft : Frame) → Stands fr ft → ft.base ≡ fr.base) where
  -- ---- frames that come to stand for others

  -- with these frames below, the changed module's frame comes within c steps, in which this is looked at, to one that stands for the original's
  pub record ArrivesOver (c : ℕ) (want : List C) (fr ft : Frame) (rest : List Frame) (shared : Shared) : Type 0 where
    pub steps : ℕ
    pub few : steps ≤ c
    pub frame : Frame
    pub shown : List Shown
    pub looks : g shown ≡ want
    pub goes : many (step n) steps (state (ft ∷ rest) shared) ≡ Goes shown (state (frame ∷ rest) shared)
    pub stands : Stands fr frame
    pub same_into : frame.into ≡ ft.into

  abbrev pub Arrives : ℕ → List C → Frame → Frame → Type 0
  Arrives c want fr ft = (rest : List Frame) (shared : Shared) → ArrivesOver c want fr ft rest shared

  -- it stands for it already
  pub at_once : (c : ℕ) (fr ft : Frame) → Stands fr ft → Arrives c [] fr ft
  at_once c fr ft stands = λ rest shared. record { steps = 0; few = omega arith; frame = ft; shown = []; looks = second.none; goes = refl; stands = stands; same_into = refl }

  -- more steps are allowed
  pub sooner : (c d : ℕ) (want : List C) (fr ft : Frame) → c ≤ d → Arrives c want fr ft → Arrives d want fr ft
  sooner c d want fr ft less arrives = λ rest shared.
      let a = arrives rest shared in
      record { steps = a.steps; few = (let h = a.few in omega (arith, h, less)); frame = a.frame; shown = a.shown; looks = a.looks; goes = a.goes; stands = a.stands; same_into = a.same_into }

  -- steps that go on, and then an arrival
  pub chain : (j c : ℕ) (want : List C) (fr ft to : Frame) (o : List Shown) → ((rest : List Frame) (shared : Shared) → many (step n) j (state (ft ∷ rest) shared) ≡ Goes o (state (to ∷ rest) shared)) → to.into ≡ ft.into → Arrives c want fr to → Arrives (j + c) (g o ++ want) fr ft
  chain j c want fr ft to o goes same arrives = λ rest shared.
      let a = arrives rest shared in
      record {
        steps = j + a.steps;
        few = let h = a.few in omega (arith, h);
        frame = a.frame;
        shown = o ++ a.shown;
        looks = second.more o a.shown ∙ ap (λ l. g o ++ l) a.looks;
        goes = many_add (step n) j a.steps (state (ft ∷ rest) shared) ∙ ap (λ x. then_go x (many (step n) a.steps)) (goes rest shared) ∙ ap (more_shown o) a.goes;
        stands = a.stands;
        same_into = a.same_into ∙ same;
      }

  -- whatever is returned into them, the changed module's frame comes to stand for the original's. So a frame that waits is
  -- described by what it does once the value comes
  abbrev pub Resumes : Option (List ℕ × Ty) → Option (List ℕ × Ty) → Frame → Frame → Type 0
  Resumes into into' fr ft = (v : Option Value) → Arrives 1 [] (resumed fr into v) (resumed ft into' v)

  -- the frames below ones whose results go to these registers
  abbrev pub Below : Option (List ℕ × Ty) → Option (List ℕ × Ty) → List Frame → List Frame → Type 0
  Below into into' [] [] = Unit {0}
  Below into into' [] (ft ∷ rest') = ⊥
  Below into into' (fr ∷ rest) [] = ⊥
  Below into into' (fr ∷ rest) (ft ∷ rest') = Resumes into into' fr ft × Below fr.into ft.into rest rest'

  as_deep : (into into' : Option (List ℕ × Ty)) (rest rest' : List Frame) → Below into into' rest rest' → length rest' ≡ length rest
  as_deep into into' [] [] below = refl
  as_deep into into' [] (ft ∷ rest') below = absurd below
  as_deep into into' (fr ∷ rest) [] below = absurd below
  as_deep into into' (fr ∷ rest) (ft ∷ rest') below = ap (λ k. suc k) (as_deep fr.into ft.into rest rest' below.1)

  abbrev pub Framed : List Frame → List Frame → Type 0
  Framed [] [] = Unit {0}
  Framed [] (ft ∷ rest') = ⊥
  Framed (fr ∷ rest) [] = ⊥
  Framed (fr ∷ rest) (ft ∷ rest') = Stands fr ft × Below fr.into ft.into rest rest'

  -- frame by frame, with the same memory and as many bytes printed
  abbrev pub Related : State → State → Type 0
  Related s t = Framed s.frames t.frames × (t.shared ≡ s.shared)

  -- Both steps come to the same, where the changed module has shown `front` before its own, and takes up to c steps after it
  abbrev pub Both : ℕ → Step → List Shown → Step → Type 0
  Both c x front y = (j : ℕ) × (j ≤ c) × Alike f g R Related x (more_shown front (then_go y (many (step n) j)))

  pub more_both : (c d : ℕ) (x : Step) (front : List Shown) (y : Step) → c ≤ d → Both c x front y → Both d x front y
  more_both c d x front y less (j, few, alike) = (j, (let h = few in omega (arith, h, less)), alike)

  -- quiet steps before the step, and more after it, match a step of the original
  pub by_many : (most q c : ℕ) (x : Step) (t u : State) (front : List Shown) → suc (q + c) ≤ most → many (step n) q t ≡ Goes front u → Both c x front (step n u) → Matched f g R (step n) most Related x t
  by_many most q c x t u front room goes (j, few, alike) =
      (q + j, (let h = few in omega (arith, h, room)), subst (λ (y : Step). Alike f g R Related x y) (sym (many_through (step n) q j t u front goes)) alike)

  -- ---- steps that go on

  pub arrive_both : (c : ℕ) (want : List C) (fr ft : Frame) (rest rest' : List Frame) (shared shared' : Shared) (front o p : List Shown) → shared' ≡ shared → f o ≡ g front ++ (g p ++ want) → Arrives c want fr ft → Below fr.into ft.into rest rest' →
      Both c (goes_to (fr ∷ rest) shared o) front (goes_to (ft ∷ rest') shared' p)
  arrive_both c want fr ft rest rest' shared shared' front o p same looks arrives below =
      let a = arrives rest' shared' in
      let there : more_shown front (then_go (goes_to (ft ∷ rest') shared' p) (many (step n) a.steps)) ≡ Goes (front ++ (p ++ a.shown)) (state (a.frame ∷ rest') shared') = ap (λ x. more_shown front (more_shown p x)) a.goes in
      let seen : f o ≡ g (front ++ (p ++ a.shown)) = looks ∙ sym (second.more front (p ++ a.shown) ∙ ap (λ l. g front ++ l) (second.more p a.shown ∙ ap (λ l. g p ++ l) a.looks)) in
      let framed : Framed (fr ∷ rest) (a.frame ∷ rest') = (a.stands, subst (λ (into : Option (List ℕ × Ty)). Below fr.into into rest rest') (sym a.same_into) below) in
      (a.steps, a.few, subst (λ (y : Step). Alike f g R Related (goes_to (fr ∷ rest) shared o) y) (sym there) (seen, (framed, same)))

  -- ---- steps that stop

  pub trap_both : (front : List Shown) (kind : TrapKind) → R [] (front ++ []) (Traps kind) → Both 0 (fails kind) front (fails kind)
  trap_both front kind owed = (0, omega arith, (owed, refl))

  -- ---- returns

  resumed_into : (fr : Frame) (into : Option (List ℕ × Ty)) (v : Option Value) → (resumed fr into v).into ≡ fr.into
  resumed_into fr into None = refl
  resumed_into fr into (Some v) = refl

  pub returned_both : (fr ft : Frame) (rest rest' : List Frame) (shared : Shared) (front : List Shown) (v : Option Value) → ft.base ≡ fr.base → Below fr.into ft.into rest rest' →
      f (Walked fr.function fr.block 0 ∷ []) ≡ g front ++ g (Walked ft.function ft.block 0 ∷ []) → ((w : Option ℕ) → R (Walked fr.function fr.block 0 ∷ []) (front ++ Walked ft.function ft.block 0 ∷ []) (Returns w)) →
      Both 1 (returned fr rest shared v) front (returned ft rest' shared v)
  returned_both fr ft [] [] shared front v base below looks owed = (0, omega arith, (owed (option_map as_number v), refl))
  returned_both fr ft [] (caller ∷ rest') shared front v base below looks owed = absurd below
  returned_both fr ft (caller ∷ rest) [] shared front v base below looks owed = absurd below
  returned_both fr ft (caller ∷ rest) (caller' ∷ rest') shared front v base below looks owed =
      arrive_both 1 [] (resumed caller fr.into v) (resumed caller' ft.into v) rest rest' (ended fr shared) (ended ft shared) front (Walked fr.function fr.block 0 ∷ []) (Walked ft.function ft.block 0 ∷ [])
      (ap (λ b. record shared { memory = dropped shared.memory b }) base)
      (looks ∙ ap (λ l. g front ++ l) (sym (append-nil (g (Walked ft.function ft.block 0 ∷ [])))))
      (below.0 v)
      (subst (λ (into : Option (List ℕ × Ty)). Below into (resumed caller' ft.into v).into rest rest') (sym (resumed_into caller fr.into v))
      (subst (λ (into : Option (List ℕ × Ty)). Below caller.into into rest rest') (sym (resumed_into caller' ft.into v)) below.1))

  -- ---- calls

  -- The function of this number in both modules: the same name, parameters and type of return, and either no blocks in both, or
  -- first blocks of which the changed module's comes within c steps to stand for the original's
  abbrev pub FirstBlocks : ℕ → ℕ → Function → Function → List Block → List Block → Type 0
  FirstBlocks c k h h' [] [] = Unit {0}
  FirstBlocks c k h h' [] (b' ∷ bs') = ⊥
  FirstBlocks c k h h' (b ∷ bs) [] = ⊥
  FirstBlocks c k h h' (b ∷ bs) (b' ∷ bs') =
      (want : List C) × (f (Entered k ∷ []) ≡ g (Entered k ∷ []) ++ want)
      × ((values : List Value) (base : ℕ) (into into' : Option (List ℕ × Ty)) → Arrives c want (begins k h b values base into) (begins k h' b' values base into'))

  pub record Twins (c k : ℕ) (h h' : Function) : Type 0 where
    pub names : h'.name ≡ h.name
    pub rets : h'.ret ≡ h.ret
    pub params : h'.params ≡ h.params
    pub blocks : FirstBlocks c k h h' h.blocks h'.blocks

  abbrev pub Twin : ℕ → ℕ → Option Function → Option Function → Type 0
  Twin c k None None = Unit {0}
  Twin c k None (Some h') = ⊥
  Twin c k (Some h) None = ⊥
  Twin c k (Some h) (Some h') = Twins c k h h'

  -- what is printed is looked at alike, and what was shown before it too
  abbrev pub SeesText : Type 0
  SeesText = (text : List ℕ) → f (map Printed text) ≡ g (map Printed text)

  module _ (first : IsView f) (text_seen : SeesText) (c : ℕ) (some : 1 ≤ c) (fr ft : Frame) (rest rest' : List Frame) (shared : Shared) (front : List Shown) (traps : (kind : TrapKind) → R [] (front ++ []) (Traps kind)) (through : Bool) (into into' : Option (List ℕ × Ty))
      (waits : Resumes into into' (waiting fr) (waiting ft)) (below : Below fr.into ft.into rest rest') (at : Option ℕ) (before : (k : ℕ) → at ≡ Some k → f (targeted through fr k) ≡ g front ++ g (targeted through ft k)) where
    trap_then : (kind : TrapKind) → Both c (fails kind) front (fails kind)
    trap_then kind = more_both 0 c (fails kind) front (fails kind) (omega arith) (trap_both front kind (traps kind))

    module _ (k : ℕ) (is : at ≡ Some k) where
      both_seen : (o p : List Shown) (want : List C) → f o ≡ g p ++ want → f (targeted through fr k ++ o) ≡ g front ++ (g (targeted through ft k ++ p) ++ want)
      both_seen o p want e =
          first.more (targeted through fr k) o ∙ ap₂ (λ (a b : List C). a ++ b) (before k is) e
          ∙ append_assoc (g front) (g (targeted through ft k)) (g p ++ want)
          ∙ ap (λ l. g front ++ l) (sym (append_assoc (g (targeted through ft k)) (g p) want) ∙ ap (λ l. l ++ want) (sym (second.more (targeted through ft k) p)))

      goes_on : (o : List Shown) (shared' : Shared) → f o ≡ g o → Both c (goes_to (waiting fr ∷ rest) shared' (targeted through fr k ++ o)) front (goes_to (waiting ft ∷ rest') shared' (targeted through ft k ++ o))
      goes_on o shared' e =
          arrive_both c [] (waiting fr) (waiting ft) rest rest' shared' shared' front (targeted through fr k ++ o) (targeted through ft k ++ o) refl
          (both_seen o o [] (e ∙ sym (append-nil (g o)))) (sooner 1 c [] (waiting fr) (waiting ft) some (waits None)) below

      prints_if : (text : List ℕ) (d : Bool) → Both c (cond d (goes_to (waiting fr ∷ rest) (record shared { output = shared.output + length text }) (targeted through fr k ++ map Printed text)) (fails trap.Output)) front
          (cond d (goes_to (waiting ft ∷ rest') (record shared { output = shared.output + length text }) (targeted through ft k ++ map Printed text)) (fails trap.Output))
      prints_if text true = goes_on (map Printed text) (record shared { output = shared.output + length text }) (text_seen text)
      prints_if text false = trap_then trap.Output

      prints_both : (values : List (Ty × Value)) → Both c (prints_first fr rest shared (targeted through fr k) values) front (prints_first ft rest' shared (targeted through ft k) values)
      prints_both [] = trap_then trap.External
      prints_both (v ∷ vs) = prints_if (line_of (number_at I64 v.1)) (nat_le (shared.output + length (line_of (number_at I64 v.1))) output_most)

      nothing_seen : Both c (goes_to (waiting fr ∷ rest) shared (targeted through fr k)) front (goes_to (waiting ft ∷ rest') shared (targeted through ft k))
      nothing_seen =
          arrive_both c [] (waiting fr) (waiting ft) rest rest' shared shared front (targeted through fr k) (targeted through ft k) refl
          (before k is ∙ ap (λ l. g front ++ l) (sym (append-nil (g (targeted through ft k))))) (sooner 1 c [] (waiting fr) (waiting ft) some (waits None)) below

      declared_if : (values : List (Ty × Value)) (d e : Bool) → Both c (cond d (prints_first fr rest shared (targeted through fr k) values) (cond e (goes_to (waiting fr ∷ rest) shared (targeted through fr k)) (fails trap.External))) front
          (cond d (prints_first ft rest' shared (targeted through ft k) values) (cond e (goes_to (waiting ft ∷ rest') shared (targeted through ft k)) (fails trap.External)))
      declared_if values true e = prints_both values
      declared_if values false true = nothing_seen
      declared_if values false false = trap_then trap.External

      declared_both : (name name' : List ℕ) (values : List (Ty × Value)) → name' ≡ name → Both c (declared fr rest shared (targeted through fr k) name values) front (declared ft rest' shared (targeted through ft k) name' values)
      declared_both name name' values is =
          subst (λ (x : List ℕ). Both c (declared fr rest shared (targeted through fr k) name values) front (declared ft rest' shared (targeted through ft k) x values)) (sym is)
          (declared_if values (same print_name name) (marks_lifetime name))

      module _ (h h' : Function) (values : List (Ty × Value)) where
        deep_enough : nat_lt (length (ft ∷ rest')) depth_most ≡ nat_lt (length (fr ∷ rest)) depth_most
        deep_enough = ap (λ d. nat_lt (suc d) depth_most) (as_deep fr.into ft.into rest rest' below)

        enters_if : (b b' : Block) (want : List C) → f (Entered k ∷ []) ≡ g (Entered k ∷ []) ++ want → ((values : List Value) (base : ℕ) (into into' : Option (List ℕ × Ty)) → Arrives c want (begins k h b values base into) (begins k h' b' values base into')) → (d d' : Bool) → d' ≡ d →
            Both c (cond d (goes_to (begins k h b (map (λ v. v.1) values) shared.memory.next into ∷ waiting fr ∷ rest) shared (targeted through fr k ++ Entered k ∷ [])) (fails trap.Depth)) front
            (cond d' (goes_to (begins k h' b' (map (λ v. v.1) values) shared.memory.next into' ∷ waiting ft ∷ rest') shared (targeted through ft k ++ Entered k ∷ [])) (fails trap.Depth))
        enters_if b b' want looks arrives true true e =
            arrive_both c want (begins k h b (map (λ v. v.1) values) shared.memory.next into) (begins k h' b' (map (λ v. v.1) values) shared.memory.next into') (waiting fr ∷ rest) (waiting ft ∷ rest') shared shared front
            (targeted through fr k ++ Entered k ∷ []) (targeted through ft k ++ Entered k ∷ []) refl (both_seen (Entered k ∷ []) (Entered k ∷ []) want looks)
            (arrives (map (λ v. v.1) values) shared.memory.next into into') (waits, below)
        enters_if b b' want looks arrives false false e = trap_then trap.Depth
        enters_if b b' want looks arrives true false e = absurd (cc)
        enters_if b b' want looks arrives false true e = absurd (cc)

        entered_both : h'.name ≡ h.name → (bs bs' : List Block) → FirstBlocks c k h h' bs bs' → Both c (entered fr rest shared (targeted through fr k) into k h values bs) front (entered ft rest' shared (targeted through ft k) into' k h' values bs')
        entered_both named [] [] twin = declared_both h.name h'.name values named
        entered_both named [] (b' ∷ bs') twin = absurd twin
        entered_both named (b ∷ bs) [] twin = absurd twin
        entered_both named (b ∷ bs) (b' ∷ bs') twin =
            enters_if b b' twin.0 twin.1 twin.2 (nat_lt (length (fr ∷ rest)) depth_most) (nat_lt (length (ft ∷ rest')) depth_most) deep_enough

        called_if : (r : Ret) → Twins c k h h' → (d d' : Bool) → d' ≡ d → Both c (cond d (entered fr rest shared (targeted through fr k) into k h values h.blocks) (fails trap.Callee)) front
            (cond d' (entered ft rest' shared (targeted through ft k) into' k h' values h'.blocks) (fails trap.Callee))
        called_if r twins true true e = entered_both twins.names h.blocks h'.blocks twins.blocks
        called_if r twins false false e = trap_then trap.Callee
        called_if r twins true false e = absurd (cc)
        called_if r twins false true e = absurd (cc)

        fits_same : (r : Ret) → Twins c k h h' → fits r values h' ≡ fits r values h
        fits_same r twins = λ i. same_ret (twins.rets i) r && fits_params (twins.params i) values

      called_both : (r : Ret) (values : List (Ty × Value)) (o o' : Option Function) → Twin c k o o' → Both c (called fr rest shared through into r values k o) front (called ft rest' shared through into' r values k o')
      called_both r values None None twin = trap_then trap.Callee
      called_both r values None (Some h') twin = absurd twin
      called_both r values (Some h) None twin = absurd twin
      called_both r values (Some h) (Some h') twin = called_if h h' values r twin (fits r values h) (fits r values h') (fits_same h h' values r twin)

    -- a call of the function that was found, of functions that are twins
    pub call_found : ((k : ℕ) → Twin c k (function_at m k) (function_at n k)) → (r : Ret) (values : List (Ty × Value)) → Both c (call_at m fr rest shared through into r values at) front (call_at n ft rest' shared through into' r values at)
    call_found twins r values = by at refl
      where
        by : (o : Option ℕ) → at ≡ o → Both c (call_at m fr rest shared through into r values o) front (call_at n ft rest' shared through into' r values o)
        by None e = trap_then trap.Callee
        by (Some k) e = called_both k e r values (function_at m k) (function_at n k) (twins k)

  -- the same, where what is looked at of the call agrees for every function
  pub call_both : (first : IsView f) (text_seen : SeesText) (c : ℕ) (some : 1 ≤ c) (fr ft : Frame) (rest rest' : List Frame) (shared : Shared) (front : List Shown) (traps : (kind : TrapKind) → R [] (front ++ []) (Traps kind)) (through : Bool) (into into' : Option (List ℕ × Ty)) →
      Resumes into into' (waiting fr) (waiting ft) → Below fr.into ft.into rest rest' → ((k : ℕ) → f (targeted through fr k) ≡ g front ++ g (targeted through ft k)) →
      ((k : ℕ) → Twin c k (function_at m k) (function_at n k)) → (r : Ret) (values : List (Ty × Value)) (at : Option ℕ) → Both c (call_at m fr rest shared through into r values at) front (call_at n ft rest' shared through into' r values at)
  call_both first text_seen c some fr ft rest rest' shared front traps through into into' waits below before twins r values at =
      call_found first text_seen c some fr ft rest rest' shared front traps through into into' waits below at (λ k is. before k) twins r values

  -- ---- starts

  pub begun_both : (c : ℕ) (front_traps : (kind : TrapKind) → R [] [] (Traps kind)) → initial_memory n ≡ initial_memory m → (k : ℕ) (values : List ℕ) (o o' : Option Function) → Twin c k o o' → Both c (begun m k values o) [] (begun n k values o')
  begun_both c traps memories k values None None twin = more_both 0 c (fails trap.Unreachable) [] (fails trap.Unreachable) (omega arith) (trap_both [] trap.Unreachable (traps trap.Unreachable))
  begun_both c traps memories k values None (Some h') twin = absurd twin
  begun_both c traps memories k values (Some h) None twin = absurd twin
  begun_both c traps memories k values (Some h) (Some h') twin = blocks_both h.blocks h'.blocks twin.blocks
    where
      blocks_both : (bs bs' : List Block) → FirstBlocks c k h h' bs bs' → Both c (first_entered m k values h bs) [] (first_entered n k values h' bs')
      blocks_both [] [] first = more_both 0 c (fails trap.Unreachable) [] (fails trap.Unreachable) (omega arith) (trap_both [] trap.Unreachable (traps trap.Unreachable))
      blocks_both [] (b' ∷ bs') first = absurd first
      blocks_both (b ∷ bs) [] first = absurd first
      blocks_both (b ∷ bs) (b' ∷ bs') (want, looks, arrives) =
          let at_start : Arrives c want (begins k h b (map Int values) (initial_memory m).next None) (begins k h' b' (map Int values) (initial_memory n).next None) =
          subst (λ (x : ℕ). Arrives c want (begins k h b (map Int values) (initial_memory m).next None) (begins k h' b' (map Int values) x None)) (ap (λ (x : MemoryState). x.next) (sym memories)) (arrives (map Int values) (initial_memory m).next None None) in
          arrive_both c want (begins k h b (map Int values) (initial_memory m).next None) (begins k h' b' (map Int values) (initial_memory n).next None) [] [] (at_first m) (at_first n) [] (Entered k ∷ []) (Entered k ∷ [])
          (ap (λ (x : MemoryState). record { memory = x; output = 0 }) memories) (looks ∙ ap (λ l. l ++ (g (Entered k ∷ []) ++ want)) (sym second.none)) at_start tt

  -- ---- instructions in a row that give values alone

  -- from one frame to another over these instructions, with what they show
  pub data Passes (memory : MemoryState) : Frame → List Instr → Frame → List Shown → Type 0 where
    stays : {fr : Frame} → Passes memory fr [] fr []
    gives : {fr to : Frame} {x : Instr} {xs : List Instr} {into : Option (List ℕ)} {v : Value} {whats : List What} {more : List Shown} → deed (value_of n fr.registers) (functions_of n) memory x ≡ Gives into v memory whats → Passes memory (past fr into v) xs to more → Passes memory fr (x ∷ xs) to (map (Did fr.function fr.block fr.place) whats ++ more)

  drop_next : (xs : List Instr) (p : ℕ) (y : Instr) (ys : List Instr) → drop p xs ≡ y ∷ ys → drop (p + 1) xs ≡ ys
  drop_next [] zero y ys e = absurd (cc)
  drop_next [] (suc p) y ys e = absurd (cc)
  drop_next (z ∷ zs) zero y ys e = (let t : zs ≡ ys = cc in t)
  drop_next (z ∷ zs) (suc p) y ys e = ap (λ k. drop k (z ∷ zs)) (let k : suc p + 1 ≡ suc (p + 1) = omega arith in k) ∙ drop_next zs p y ys e

  -- a frame in front of them does them one after the other, and nothing of what is shared changes
  pub pass : (b : Block) (later : List Instr) (rest : List Frame) (shared : Shared) (fr to : Frame) (xs : List Instr) (shown : List Shown) → Passes shared.memory fr xs to shown → sought n fr.function fr.block ≡ Some b → drop fr.place (behind_phis b.instrs) ≡ xs ++ later →
      many (step n) (length xs) (state (fr ∷ rest) shared) ≡ Goes shown (state (to ∷ rest) shared)
  pass b later rest shared fr to [] shown stays found left = refl
  pass b later rest shared fr to (x ∷ xs) shown (gives {into = into} {v = v} {whats = whats} {more = more} e others) found left =
      let here : step n (state (fr ∷ rest) shared) ≡ goes_to (past fr into v ∷ rest) shared (map (Did fr.function fr.block fr.place) whats) =
      ap (λ o. done_in n fr rest shared o) found ∙ ap (λ is. done n fr rest shared is b.term) left ∙ ap (λ d. acted n fr rest shared d) e in
      ap (λ y. then_go y (many (step n) (length xs))) here
      ∙ ap (more_shown (map (Did fr.function fr.block fr.place) whats))
      (pass b later rest shared (past fr into v) to xs more others found (drop_next (behind_phis b.instrs) fr.place x (xs ++ later) left))
