-- Resolved code goes in step with its module: a step of the one is matched by a step of the other, of which the same is seen,
-- and which comes to a matching state or to the same end.
use Rattle.std.proofs.Common.{◌≡◌, ℕ, zero, suc, ◌+◌, Bool, true, false, cond, List, [], ◌∷◌, ◌++◌, length, map, drop, Option, Some, None, refl, sym, ◌∙◌, ap, subst, arith, length-append}
use Rattle.std.specs.Prelude.{slice_get, nat_le, nat_lt, max, Result, Ok, Err, option_and_then, ◌&&◌}
use Rattle.std.specs.Option.{option_map}
use Rattle.std.specs.List.{flat_map}
use Rattle.std.proofs.lemmas.List.{length-map}
use Rattle.std.proofs.lemmas.Option.{slice_get-map}
use Rattle.ir_tree.specs.Blocks.{labels, block_named}
use Rattle.ir_tree.specs.Functions.{function_at, numbered, print_name}
use Rattle.ir_tree.specs.Names.{same}
use Rattle.ir_tree.specs.Operands.{result_name, result_names}
use Rattle.ir_tree.specs.Phis.{leading_phis, behind_phis}
use Rattle.ir_tree.specs.Successors.{successors}
use Rattle.ir_tree.specs.Types.{is_pointer_type}
use Rattle.ir_tree.specs.declared.types.Ty.{Ty}
use Rattle.ir_tree.specs.declared.types.Ty.TheVariants.{I64}
use Rattle.ir_tree.specs.declared.types.Ret.{Ret}
use Rattle.ir_tree.specs.declared.types.Ret.TheVariants as ret
use Rattle.ir_tree.specs.declared.types.Operand.{Operand}
use Rattle.ir_tree.specs.declared.types.Instr.{Instr}
use Rattle.ir_tree.specs.declared.types.Instr.TheVariants as ir
use Rattle.ir_tree.specs.declared.types.Block.{Block}
use Rattle.ir_tree.specs.declared.types.Function.{Function}
use Rattle.ir_tree.specs.declared.types.Module.{Module}
use Rattle.ir_value.specs.Operators.{binary_of}
use Rattle.ir_value.specs.declared.operators.DivTrap.{DivTrap}
use Rattle.ir_value.specs.declared.operators.DivTrap.TheVariants.{DivZero, DivOverflow}
use Rattle.ir_memory.specs.Memory.{MemoryState, live_cells, loaded, made, stored}
use Rattle.ir_memory.specs.declared.error.MemError.{MemError}
use Rattle.ir_memory.specs.declared.value.Base.TheVariants as base
use Rattle.ir_memory.specs.declared.value.Value.TheVariants as value
use Rattle.ir_model.specs.Sizes.{bytes_of, size_of}
use Rattle.ir_memory.specs.declared.value.Value.{Value}
use Rattle.spec_machines.specs.Machine.{Goes, Stops, Ran, Open, Ended, shown_first, go_on, run, seen}
use Rattle.ir_model.specs.declared.probe.Event.{Event}
use Rattle.ir_model.specs.declared.result.TrapKind.TheVariants as trap
use Rattle.ir_model.specs.Deed as deeds
use Rattle.ir_model.specs.Deed.{Deed, Gives, Calls, Fails, deed, Choice, Takes, Leaves, Breaks, choice, profile_callee, result_into}
use Rattle.ir_model.specs.State.{arguments as model_arguments}
use Rattle.ir_model.specs.State.{Frame, Shared, State, What, Shown, Did, Targeted, Printed, Entered, Walked, Stop}
use Rattle.ir_model.specs.Step.{Step, value_of, output_most, depth_most, acted, left, done, done_in, sought, step, stepped, fails, goes_to, phis_in, with_phis, line_of, marks_lifetime, same_ret, same_type}
use Rattle.ir_model.specs.Step as model
use Rattle.ir_model.specs.Values.{at_type, base_of, bits_of, function_at_address, functions_of, number_at, offset_of}
use Rattle.ir_code.specs.declared.code.Target.{Target}
use Rattle.ir_code.specs.declared.code.Op.{Op}
use Rattle.ir_code.specs.declared.code.BlockCode.{BlockCode}
use Rattle.ir_code.specs.declared.code.EdgeCode.{EdgeCode}
use Rattle.ir_code.specs.declared.code.FunctionCode.{FunctionCode}
use Rattle.ir_code.specs.declared.code.Work.TheVariants as work
use Rattle.ir_code.specs.Resolved.{register_names, input_of, target_of, op_of, exit_of, block_code, block_phis, moves_at, edge_to, numbered_code}
use Rattle.ir_code.specs.Symbols.{symbol_input}
use Rattle.ir_code.specs.Units.{Unit_, counter_span, site_span, told, all_told, units_of}
use Rattle.ir_machine.specs.declared.state.Frame.{Frame as CodeFrame}
use Rattle.ir_machine.specs.declared.state.Sight.TheVariants as sight
use Rattle.ir_machine.specs.Steps.{CodeState, CodeShown, Byte, Saw, CodeStep, CodeDeed, input_value, seen_mark, seen_marks, moved_all, filled, arguments, first_registers}
use Rattle.ir_machine.specs.Steps as code
use Rattle.ir_machine.proofs.Places.{place_of, same_self, Among, among_results, among_last, among_block, among_behind_phis, phis_among, named_label, found}
use Rattle.ir_machine.proofs.Held.{Holds, input_same, holds_result, holds_typed, holds_moved, holds_begun, arguments_count, filled_is, types_of}
use Rattle.ir_machine.proofs.Operations.{by_number, deed_is, choice_is}

abbrev pub head_of : {A : Type 0} → List A → Option A
head_of [] = None
head_of (x ∷ xs) = Some x

-- what stands at a place is the first of what is left from there
slice_get_drop : {A B : Type 0} (g : A → B) (xs : List A) (p : ℕ) → slice_get (map g xs) p ≡ option_map g (head_of (drop p xs))
slice_get_drop g [] zero = refl
slice_get_drop g [] (suc p) = refl
slice_get_drop g (x ∷ xs) zero = refl
slice_get_drop g (x ∷ xs) (suc p) = slice_get_drop g xs p

append_thrice : {A : Type 0} (xs ys zs : List A) → (xs ++ ys) ++ zs ≡ xs ++ (ys ++ zs)
append_thrice [] ys zs = refl
append_thrice (x ∷ xs) ys zs = ap (λ l. x ∷ l) (append_thrice xs ys zs)

marks-append : (xs ys : List Event) → seen_marks (xs ++ ys) ≡ seen_marks xs ++ seen_marks ys
marks-append [] ys = refl
marks-append (x ∷ xs) ys =
    ap (λ l. seen_mark x ++ l) (marks-append xs ys) ∙ sym (append_thrice (seen_mark x) (seen_marks xs) (seen_marks ys))

module _ (m : Module) where
  abbrev pub units : List Unit_
  units = units_of m

  -- the code of a function, with numbers by place
  abbrev pub placed_code : Function → FunctionCode
  placed_code f =
      numbered_code (symbol_input m) (counter_span units) (site_span units) (place_of (register_names f)) (place_of (labels f.blocks)) f

  abbrev pub placed : List FunctionCode
  placed = map placed_code (numbered m.functions)

  abbrev pub target : Function → List ℕ × Ty → Target
  target f x = target_of (symbol_input m) (counter_span units) (site_span units) (place_of (register_names f)) x

  -- the number of the block of a label
  abbrev pub block_number : Option Function → List ℕ → ℕ
  block_number None l = 0
  block_number (Some f) l = place_of (labels f.blocks) l

  -- what is shown, as the code shows it
  abbrev pub view_one : Shown → List CodeShown
  view_one (Did k l p what) = seen_marks (told units what)
  view_one (Targeted k l p callee) = []
  view_one (Printed b) = Byte b ∷ []
  view_one (Entered k) = Saw (sight.Entered k) ∷ []
  view_one (Walked k l p) = Saw (sight.Left k (block_number (function_at m k) l) p) ∷ []

  abbrev pub view : List Shown → List CodeShown
  view [] = []
  view (x ∷ xs) = view_one x ++ view xs

  pub view-append : (xs ys : List Shown) → view (xs ++ ys) ≡ view xs ++ view ys
  view-append [] ys = refl
  view-append (x ∷ xs) ys =
      ap (λ l. view_one x ++ l) (view-append xs ys) ∙ sym (append_thrice (view_one x) (view xs) (view ys))

  seen_first : (o : List Shown) (r : Ran Shown Stop) → seen view (shown_first o r) ≡ shown_first (view o) (seen view r)
  seen_first o (Open p) = ap (λ l. Open l) (view-append o p)
  seen_first o (Ended p e) = ap (λ l. Ended l e) (view-append o p)

  view_text : (text : List ℕ) → view (map Printed text) ≡ map Byte text
  view_text [] = refl
  view_text (b ∷ bs) = ap (λ l. Byte b ∷ l) (view_text bs)

  view_marks : (k : ℕ) (l : List ℕ) (p : ℕ) (shown : List What) → view (map (Did k l p) shown) ≡ seen_marks (all_told units shown)
  view_marks k l p [] = refl
  view_marks k l p (w ∷ ws) =
      ap (λ x. seen_marks (told units w) ++ x) (view_marks k l p ws) ∙ sym (marks-append (told units w) (all_told units ws))

  -- ---- related states

  abbrev pub code_frame : Function → Frame → List Value → Option Target → CodeFrame
  code_frame f fr regs into = record {
    function = fr.function;
    block = place_of (labels f.blocks) fr.block;
    place = fr.place;
    registers = regs;
    base = fr.base;
    into = into;
  }

  -- a frame of a function, and that of the code at the same place with the same registers
  pub record Stands (f : Function) (fr : Frame) (cf : CodeFrame) : Type 0 where
    pub at : function_at m fr.function ≡ Some f
    pub registers : List Value
    pub into : Option Target
    pub is_frame : cf ≡ code_frame f fr registers into
    pub holds : Holds (register_names f) fr.registers registers

  -- a register of the function takes a result
  pub record Takes_ (f : Function) (into : Option (List ℕ × Ty)) (into' : Option Target) : Type 0 where
    pub is_target : into' ≡ option_map (target f) into
    pub among : (x : List ℕ × Ty) → into ≡ Some x → Among (register_names f) x.0

  -- the functions that wait, of which the latest takes the result into a register
  abbrev pub Below : Option (List ℕ × Ty) → Option Target → List Frame → List CodeFrame → Type 0
  Below into into' [] [] = Unit {0}
  Below into into' [] (c ∷ cs) = ⊥
  Below into into' (fr ∷ frs) [] = ⊥
  Below into into' (fr ∷ frs) (c ∷ cs) =
      (f : Function) × (Stands f fr c) × (Takes_ f into into') × Below fr.into c.into frs cs

  pub record Related (s : State) (t : CodeState) : Type 0 where
    pub function : Function
    pub frame : Frame
    pub registers : List Value
    pub into : Option Target
    pub rest : List Frame
    pub code_rest : List CodeFrame
    pub shared : Shared
    pub state_is : s ≡ record { frames = frame ∷ rest; shared = shared }
    pub code_is : t ≡ record { frames = code_frame function frame registers into ∷ code_rest; shared = shared }
    pub at : function_at m frame.function ≡ Some function
    pub holds : Holds (register_names function) frame.registers registers
    pub below : Below frame.into into rest code_rest

  abbrev pub Alike : Step → CodeStep → Type 0
  Alike (Goes o s) (Goes p t) = (view o ≡ p) × Related s t
  Alike (Goes o s) (Stops p e) = ⊥
  Alike (Stops o d) (Goes p t) = ⊥
  Alike (Stops o d) (Stops p e) = (view o ≡ p) × (d ≡ e)

  as_deep : (into : Option (List ℕ × Ty)) (into' : Option Target) (rest : List Frame) (crest : List CodeFrame) → Below into into' rest crest → length rest ≡ length crest
  as_deep into into' [] [] b = refl
  as_deep into into' [] (c ∷ cs) b = absurd b
  as_deep into into' (fr ∷ frs) [] b = absurd b
  as_deep into into' (fr ∷ frs) (c ∷ cs) b = ap suc (as_deep fr.into c.into frs cs b.3)

  -- ---- signatures

  params_fit : (ps : List (Ty × List ℕ)) (vs : List (Ty × Value)) → model.fits_params ps vs ≡ code.fits_params (types_of ps) vs
  params_fit [] [] = refl
  params_fit [] (v ∷ vs) = refl
  params_fit (p ∷ ps) [] = refl
  params_fit (p ∷ ps) (v ∷ vs) = ap (λ b. same_type p.0 v.0 && b) (params_fit ps vs)

  both_true : (a b : Bool) → (a && b) ≡ true → b ≡ true
  both_true true b e = e
  both_true false b e = cc

  fit_count : (ps : List (Ty × List ℕ)) (vs : List (Ty × Value)) → model.fits_params ps vs ≡ true → length vs ≡ length ps
  fit_count [] [] e = refl
  fit_count [] (v ∷ vs) e = cc
  fit_count (p ∷ ps) [] e = cc
  fit_count (p ∷ ps) (v ∷ vs) e =
      ap suc (fit_count ps vs (both_true (same_type p.0 v.0) (model.fits_params ps vs) e))

  -- the first block of a function has number 0
  pub first_number : (f : Function) (b : Block) (bs : List Block) → f.blocks ≡ b ∷ bs → place_of (labels f.blocks) b.label ≡ 0
  first_number f b bs e =
      let here : place_of (labels (b ∷ bs)) b.label ≡ 0 = ap (λ t. cond t 0 (suc (place_of (labels bs) b.label))) (same_self b.label) in
      ap (λ cs. place_of (labels cs) b.label) e ∙ here

  abbrev more_names : Function → List (List ℕ)
  more_names f = flat_map (λ (b : Block). result_names b.instrs) f.blocks

  -- the registers of a function that begins
  pub begins : (f : Function) (vs : List Value) → length vs ≡ length f.params → Holds (register_names f) (model_arguments f.params vs) (first_registers (placed_code f) vs)
  begins f vs e =
      let types : length (types_of f.params) ≡ length f.params = length-map f.params (λ p. p.0) in
      let args : length (arguments (types_of f.params) vs) ≡ length (types_of f.params) =
      arguments_count (types_of f.params) vs (e ∙ sym types) in
      let all : length (register_names f) ≡ length f.params + length (more_names f) =
      length-append (map (λ p. p.1) f.params) (more_names f) ∙ ap (λ j. j + length (more_names f)) (length-map f.params (λ p. p.1)) in
      subst (Holds (register_names f) (model_arguments f.params vs)) (sym (filled_is (length (register_names f)) (length (more_names f)) (arguments (types_of f.params) vs) (omega (arith, types, args, all))))
      (holds_begun f.params vs (more_names f) e)

  -- ---- returns

  below_at : (into : Option (List ℕ × Ty)) (c d : CodeFrame) (rest : List Frame) (crest : List CodeFrame) → c ≡ d → Below into c.into rest crest → Below into d.into rest crest
  below_at into c d rest crest e b = subst (λ (x : CodeFrame). Below into x.into rest crest) e b

  returns : (f : Function) (fr : Frame) (regs : List Value) (cinto : Option Target) (rest : List Frame) (crest : List CodeFrame) (sh : Shared) → function_at m fr.function ≡ Some f → Below fr.into cinto rest crest → (v : Option Value) → Alike (model.returned fr rest sh v) (code.returned (code_frame f fr regs cinto) crest sh v)
  returns f fr regs cinto [] [] sh at b v = (
    ap (λ o. Saw (sight.Left fr.function (block_number o fr.block) 0) ∷ []) at,
    refl,
  )
  returns f fr regs cinto [] (c ∷ crest) sh at b v = absurd b
  returns f fr regs cinto (caller ∷ rest) [] sh at b v = absurd b
  returns f fr regs cinto (caller ∷ rest) (c ∷ crest) sh at (g, s, t, below) None = (
    ap (λ o. Saw (sight.Left fr.function (block_number o fr.block) 0) ∷ []) at,
    record {
      function = g;
      frame = caller;
      registers = s.registers;
      into = s.into;
      rest = rest;
      code_rest = crest;
      shared = model.ended fr sh;
      state_is = refl;
      code_is = ap (λ (x : CodeFrame). let st : CodeState = record { frames = x ∷ crest; shared = model.ended fr sh } in st) s.is_frame;
      at = s.at;
      holds = s.holds;
      below = below_at caller.into c (code_frame g caller s.registers s.into) rest crest s.is_frame below;
    },
  )
  returns f fr regs cinto (caller ∷ rest) (c ∷ crest) sh at (g, s, t, below) (Some v) = (
    ap (λ o. Saw (sight.Left fr.function (block_number o fr.block) 0) ∷ []) at,
    record {
      function = g;
      frame = model.resumed caller fr.into (Some v);
      registers = code.with_target s.registers (option_map (target g) fr.into) v;
      into = s.into;
      rest = rest;
      code_rest = crest;
      shared = model.ended fr sh;
      state_is = refl;
      code_is = λ i. let st : CodeState = record { frames = code.resumed (s.is_frame i) (t.is_target i) (Some v) ∷ crest; shared = model.ended fr sh } in st;
      at = s.at;
      holds = holds_typed m (counter_span units) (site_span units) (register_names g) caller.registers s.registers s.holds fr.into v t.among;
      below = below_at caller.into c (code_frame g caller s.registers s.into) rest crest s.is_frame below;
    },
  )

  -- ---- the registers that a deed assigns are the function's

  module _ (names : List (List ℕ)) where
    abbrev Assigns : Deed → Type 0
    Assigns (Gives into v memory shown) = (x : List ℕ) → into ≡ Some x → Among names x
    Assigns (Calls through into r address vs) = (x : List ℕ × Ty) → into ≡ Some x → Among names x.0
    Assigns (Fails kind) = Unit {0}

    module _ (val : Operand → Value) (count : ℕ) (memory : MemoryState) where
      assigns_computed : (into : List ℕ) (r : Result ℕ DivTrap) → ((x : List ℕ) → Some into ≡ Some x → Among names x) → Assigns (deeds.computed (Some into) memory r)
      assigns_computed into (Ok n) a = a
      assigns_computed into (Err DivZero) a = tt
      assigns_computed into (Err DivOverflow) a = tt

      assigns_allocated : (into : List ℕ) (size : ℕ) (b : Bool) → ((x : List ℕ) → Some into ≡ Some x → Among names x) → Assigns (cond b (Gives (Some into) (value.Pointer (base.Object memory.next) 0) (made memory size false) []) (Fails trap.Cells))
      assigns_allocated into size true a = a
      assigns_allocated into size false a = tt

      assigns_read : (into : List ℕ) (ty : Ty) (r : Result Value MemError) → ((x : List ℕ) → Some into ≡ Some x → Among names x) → Assigns (deeds.read_as (Some into) memory ty r)
      assigns_read into ty (Ok v) a = a
      assigns_read into ty (Err e) a = tt

      assigns_wrote : (r : Result MemoryState MemError) → Assigns (deeds.wrote r)
      assigns_wrote (Ok s) = λ x e. cc
      assigns_wrote (Err e) = tt

      assigns_profiled : (shown : Option (List What)) → Assigns (deeds.profiled memory shown)
      assigns_profiled None = tt
      assigns_profiled (Some shown) = λ x e. cc

      assigns_into : (into : Option (List ℕ)) (r : Ret) (callee : Operand) (us : List (Ty × Operand)) (prof : _) → ((x : List ℕ) → result_name (ir.Call into r callee us prof) ≡ Some x → Among names x) → (x : List ℕ × Ty) → result_into into r ≡ Some x → Among names x.0
      assigns_into None r callee us prof a x e = cc
      assigns_into (Some y) ret.Void callee us prof a x e = cc
      assigns_into (Some y) (ret.Value ty) callee us prof a x e =
          let q : ◌≡◌ {A = List ℕ × Ty} (y, ty) x = cc in a x.0 (ap (λ (p : List ℕ × Ty). Some p.0) q)

      assigns_call : (into : Option (List ℕ)) (r : Ret) (callee : Operand) (us : List (Ty × Operand)) (prof : _) (o : Option (List ℕ)) → ((x : List ℕ) → result_name (ir.Call into r callee us prof) ≡ Some x → Among names x) → Assigns (deeds.call val count memory into r callee us o)
      assigns_call into r callee us prof None a = assigns_into into r callee us prof a
      assigns_call into r callee us prof (Some name) a = assigns_profiled (deeds.profile_shown val count name us)

      assigns : (i : Instr) → ((x : List ℕ) → result_name i ≡ Some x → Among names x) → Assigns (deed val count memory i)
      assigns (ir.Binary into o flags ty left right) a =
          assigns_computed into (binary_of (deeds.operator o) (bits_of ty) (number_at ty (val left)) (number_at ty (val right))) a
      assigns (ir.Compare into p ty left right) a = a
      assigns (ir.Convert into o flags from v to) a = a
      assigns (ir.Freeze into ty v) a = a
      assigns (ir.Select into ty c first second prof) a = a
      assigns (ir.Phi into ty entries) a = tt
      assigns (ir.Alloca into mem) a =
          assigns_allocated into (size_of mem) (nat_le (live_cells memory.live + max 1 (size_of mem)) deeds.cells_most) a
      assigns (ir.Load into ty address) a =
          assigns_read into ty (loaded memory (base_of (val address)) (offset_of (val address)) (bytes_of ty) (is_pointer_type ty)) a
      assigns (ir.Store ty v address) a =
          assigns_wrote (stored memory (base_of (val address)) (offset_of (val address)) (bytes_of ty) (at_type ty (val v)))
      assigns (ir.Gep into inbounds mem address indices) a = a
      assigns (ir.Call into r callee us prof) a = assigns_call into r callee us prof (profile_callee callee) a
      assigns (ir.Count name size index step) a = λ x e. cc

  module _ (f : Function) (fr : Frame) (regs : List Value) (cinto : Option Target) (rest : List Frame) (crest : List CodeFrame) (sh : Shared)
      (at : function_at m fr.function ≡ Some f) (h : Holds (register_names f) fr.registers regs) (below : Below fr.into cinto rest crest) where
    abbrev names : List (List ℕ)
    names = register_names f

    abbrev cf : CodeFrame
    cf = code_frame f fr regs cinto

    -- the frame that counts an operation as done
    abbrev ready : CodeFrame
    ready = code.past cf

    -- the frame goes on with other registers or at another place
    stays : (fr' : Frame) (regs' : List Value) (o : List Shown) (p : List CodeShown) (sh' : Shared) → fr'.function ≡ fr.function → fr'.into ≡ fr.into → view o ≡ p → Holds names fr'.registers regs' → Alike (goes_to (fr' ∷ rest) sh' o) (code.goes_to (code_frame f fr' regs' cinto ∷ crest) sh' p)
    stays fr' regs' o p sh' same_function same_into v h' = (
      v,
      record {
        function = f;
        frame = fr';
        registers = regs';
        into = cinto;
        rest = rest;
        code_rest = crest;
        shared = sh';
        state_is = refl;
        code_is = refl;
        at = ap (function_at m) same_function ∙ at;
        holds = h';
        below = subst (λ i. Below i cinto rest crest) (sym same_into) below;
      },
    )

    waits : (o : List Shown) (p : List CodeShown) (sh' : Shared) → view o ≡ p → Alike (goes_to (model.waiting fr ∷ rest) sh' o) (code.goes_to (ready ∷ crest) sh' p)
    waits o p sh' v = stays (model.waiting fr) regs o p sh' refl refl v h

    -- ---- calls

    module _ (through : Bool) (k : ℕ) where
      abbrev called_shown : List Shown
      called_shown = model.targeted through fr k

      no_view : (b : Bool) → view (model.targeted b fr k) ≡ []
      no_view true = refl
      no_view false = refl

      puts_if : (text : List ℕ) (b : Bool) → Alike (cond b (goes_to (model.waiting fr ∷ rest) (record sh { output = sh.output + length text }) (called_shown ++ map Printed text)) (fails trap.Output)) (cond b (code.goes_to (ready ∷ crest) (record sh { output = sh.output + length text }) (map Byte text)) (code.fails trap.Output))
      puts_if text true =
          waits (called_shown ++ map Printed text) (map Byte text) (record sh { output = sh.output + length text })
          (view-append called_shown (map Printed text) ∙ (λ i. no_view through i ++ view_text text i))
      puts_if text false = (refl, refl)

      prints_values : (vs : List (Ty × Value)) → Alike (model.prints_first fr rest sh called_shown vs) (code.prints_first ready crest sh vs)
      prints_values [] = (refl, refl)
      prints_values (v ∷ vs) =
          puts_if (line_of (number_at I64 v.1)) (nat_le (sh.output + length (line_of (number_at I64 v.1))) output_most)

      declares_if : (vs : List (Ty × Value)) (b c : Bool) → Alike (cond b (model.prints_first fr rest sh called_shown vs) (cond c (goes_to (model.waiting fr ∷ rest) sh called_shown) (fails trap.External))) (code.declared ready crest sh (cond b work.Print (cond c work.Nothing work.External)) vs)
      declares_if vs true c = prints_values vs
      declares_if vs false true = waits called_shown [] sh (no_view through)
      declares_if vs false false = (refl, refl)

      module _ (g : Function) (at_k : function_at m k ≡ Some g) (into : Option (List ℕ × Ty)) (among : (x : List ℕ × Ty) → into ≡ Some x → Among names x.0) (vs : List (Ty × Value)) where
        abbrev arguments_of : List Value
        arguments_of = map (λ v. v.1) vs

        abbrev new_frame : Block → Frame
        new_frame b = record {
          function = k;
          block = b.label;
          place = 0;
          registers = model_arguments g.params arguments_of;
          base = sh.memory.next;
          into = into;
        }

        abbrev first_frame : ℕ → CodeFrame
        first_frame block = record {
          function = k;
          block = block;
          place = 0;
          registers = first_registers (placed_code g) arguments_of;
          base = sh.memory.next;
          into = option_map (target f) into;
        }

        enters : (b : Block) (bs : List Block) → g.blocks ≡ b ∷ bs → length vs ≡ length g.params → Alike (goes_to (new_frame b ∷ model.waiting fr ∷ rest) sh (called_shown ++ Entered k ∷ [])) (code.goes_to (first_frame 0 ∷ ready ∷ crest) sh (Saw (sight.Entered k) ∷ []))
        enters b bs e fit = (
          view-append called_shown (Entered k ∷ []) ∙ ap (λ l. l ++ Saw (sight.Entered k) ∷ []) (no_view through),
          record {
            function = g;
            frame = new_frame b;
            registers = first_registers (placed_code g) arguments_of;
            into = option_map (target f) into;
            rest = model.waiting fr ∷ rest;
            code_rest = ready ∷ crest;
            shared = sh;
            state_is = refl;
            code_is = ap (λ n. let s : CodeState = record { frames = first_frame n ∷ ready ∷ crest; shared = sh } in s) (sym (first_number g b bs e));
            at = at_k;
            holds = begins g arguments_of (length-map vs (λ v. v.1) ∙ fit);
            below = (
              f,
              record { at = at; registers = regs; into = cinto; is_frame = refl; holds = h },
              record { is_target = refl; among = among },
              below,
            );
          },
        )

        enters_if : (b : Block) (bs : List Block) → g.blocks ≡ b ∷ bs → length vs ≡ length g.params → (c : Bool) → Alike (cond c (goes_to (new_frame b ∷ model.waiting fr ∷ rest) sh (called_shown ++ Entered k ∷ [])) (fails trap.Depth)) (cond c (code.goes_to (first_frame 0 ∷ ready ∷ crest) sh (Saw (sight.Entered k) ∷ [])) (code.fails trap.Depth))
        enters_if b bs e fit true = enters b bs e fit
        enters_if b bs e fit false = (refl, refl)

        enters_blocks : (bs : List Block) → g.blocks ≡ bs → length vs ≡ length g.params → Alike (model.entered fr rest sh called_shown into k g vs bs) (code.entered ready crest sh (option_map (target f) into) k (placed_code g) vs (map (block_code (symbol_input m) (counter_span units) (site_span units) (place_of (register_names g)) (place_of (labels g.blocks)) (block_phis g.blocks)) bs))
        enters_blocks [] e fit = declares_if vs (same print_name g.name) (marks_lifetime g.name)
        enters_blocks (b ∷ bs) e fit =
            let deep : length (fr ∷ rest) ≡ length (ready ∷ crest) = ap suc (as_deep fr.into cinto rest crest below) in
            let P : ℕ → Type 0 = λ n. Alike (cond (nat_lt (length (fr ∷ rest)) depth_most) (goes_to (new_frame b ∷ model.waiting fr ∷ rest) sh (called_shown ++ Entered k ∷ [])) (fails trap.Depth)) (cond (nat_lt n depth_most) (code.goes_to (first_frame 0 ∷ ready ∷ crest) sh (Saw (sight.Entered k) ∷ [])) (code.fails trap.Depth)) in
            subst P deep (enters_if b bs e fit (nat_lt (length (fr ∷ rest)) depth_most))

        fits_if : (r : Ret) (a c : Bool) → model.fits_params g.params vs ≡ c → Alike (cond (a && c) (model.entered fr rest sh called_shown into k g vs g.blocks) (fails trap.Callee)) (cond (a && c) (code.entered ready crest sh (option_map (target f) into) k (placed_code g) vs (placed_code g).blocks) (code.fails trap.Callee))
        fits_if r true true e = enters_blocks g.blocks refl (fit_count g.params vs e)
        fits_if r true false e = (refl, refl)
        fits_if r false c e = (refl, refl)

        fits_call : (r : Ret) → Alike (model.called fr rest sh through into r vs k (Some g)) (code.called ready crest sh (option_map (target f) into) r vs k (Some (placed_code g)))
        fits_call r =
            let P : Bool → Type 0 = λ b. Alike (model.called fr rest sh through into r vs k (Some g)) (cond (same_ret g.ret r && b) (code.entered ready crest sh (option_map (target f) into) k (placed_code g) vs (placed_code g).blocks) (code.fails trap.Callee)) in
            subst P (params_fit g.params vs) (fits_if r (same_ret g.ret r) (model.fits_params g.params vs) refl)

    module _ (through : Bool) (into : Option (List ℕ × Ty)) (among : (x : List ℕ × Ty) → into ≡ Some x → Among names x.0) (r : Ret) (vs : List (Ty × Value)) where
      calls_found : (k : ℕ) (o : Option Function) → function_at m k ≡ o → Alike (model.called fr rest sh through into r vs k o) (code.called ready crest sh (option_map (target f) into) r vs k (option_map placed_code o))
      calls_found k None e = (refl, refl)
      calls_found k (Some g) e = fits_call through k g e into among vs r

      calls_at : (o : Option ℕ) → Alike (model.call_at m fr rest sh through into r vs o) (code.call_at placed ready crest sh (option_map (target f) into) r vs o)
      calls_at None = (refl, refl)
      calls_at (Some k) =
          let P : Option FunctionCode → Type 0 = λ c. Alike (model.called fr rest sh through into r vs k (function_at m k)) (code.called ready crest sh (option_map (target f) into) r vs k c) in
          subst P (sym (slice_get-map placed_code (numbered m.functions) k)) (calls_found k (function_at m k) refl)

    -- ---- deeds

    abbrev count_is : length placed ≡ functions_of m
    count_is = length-map (numbered m.functions) placed_code

    acts : (d : Deed) → Assigns names d → Alike (acted m fr rest sh d) (code.acted placed ready crest sh (by_number (symbol_input m) units (place_of names) d))
    acts (Gives into v memory shown) a =
        stays (model.past fr into v) (code.with_value regs (option_map (place_of names) into) v) (map (Did fr.function fr.block fr.place) shown) (seen_marks (all_told units shown)) (record sh { memory = memory }) refl refl
        (view_marks fr.function fr.block fr.place shown) (holds_result m (counter_span units) (site_span units) names fr.registers regs h into v a)
    acts (Calls through into r address vs) a =
        let P : ℕ → Type 0 = λ n. Alike (model.call_at m fr rest sh through into r vs (function_at_address (functions_of m) address)) (code.call_at placed ready crest sh (option_map (target f) into) r vs (function_at_address n address)) in
        subst P (sym count_is) (calls_at through into a r vs (function_at_address (functions_of m) address))
    acts (Fails kind) a = (refl, refl)

    -- ---- leaving a block

    abbrev val : Operand → Value
    val o = input_value regs (input_of (symbol_input m) (counter_span units) (site_span units) (place_of names) o)

    values_are : ◌≡◌ {A = Operand → Value} (value_of m fr.registers) val
    values_are =
        λ i o. sym (input_same m (counter_span units) (site_span units) names fr.registers regs h o) i

    abbrev op : Instr → Op
    op i = op_of (symbol_input m) (counter_span units) (site_span units) (place_of names) i

    performs : (i : Instr) → ((x : List ℕ) → result_name i ≡ Some x → Among names x) → Alike (acted m fr rest sh (deed (value_of m fr.registers) (functions_of m) sh.memory i)) (code.acted placed ready crest sh (code.deed regs (length placed) sh.memory (op i)))
    performs i a =
        let P : CodeDeed → Type 0 = λ d. Alike (acted m fr rest sh (deed val (functions_of m) sh.memory i)) (code.acted placed ready crest sh d) in
        let Q : ℕ → Type 0 = λ n. Alike (acted m fr rest sh (deed val (functions_of m) sh.memory i)) (code.acted placed ready crest sh (code.deed regs n sh.memory (op i))) in
        let R : (Operand → Value) → Type 0 = λ v. Alike (acted m fr rest sh (deed v (functions_of m) sh.memory i)) (code.acted placed ready crest sh (code.deed regs (length placed) sh.memory (op i))) in
        subst R (sym values_are) (subst Q (sym count_is) (subst P (deed_is (symbol_input m) units (place_of names) regs (functions_of m) sh.memory i) (acts (deed val (functions_of m) sh.memory i) (assigns names val (functions_of m) sh.memory i a))))

    -- the phis of a block
    moves_hold_in : (label : List ℕ) (o : Option Block) → ((b : Block) → o ≡ Some b → (x : List ℕ) → Among (result_names b.instrs) x → Among names x) → Holds names (with_phis m fr.registers label (phis_in o) fr.registers) (moved_all regs (moves_at (symbol_input m) (counter_span units) (site_span units) (place_of names) label (option_map (λ (b : Block). leading_phis b.instrs) o)))
    moves_hold_in label None up = h
    moves_hold_in label (Some b) up =
        holds_moved m (counter_span units) (site_span units) names fr.registers regs h label (leading_phis b.instrs) fr.registers regs h (phis_among names b.instrs (up b refl))

    -- a block that is found has its results among the registers
    block_among : (to : List ℕ) (b : Block) → block_named f.blocks to ≡ Some b → (x : List ℕ) → Among (result_names b.instrs) x → Among names x
    block_among to b e x a =
        among_last (map (λ p. p.1) f.params) (more_names f) x (among_block f.blocks to b x e a)

    sought_is : (l : List ℕ) → sought m fr.function l ≡ block_named f.blocks l
    sought_is l = ap (option_and_then (λ (g : Function). block_named g.blocks l)) at

    abbrev number : List ℕ → ℕ
    number = place_of (labels f.blocks)

    abbrev moves_to : List ℕ → Option (List Instr) → List Value
    moves_to label o =
        moved_all regs (moves_at (symbol_input m) (counter_span units) (site_span units) (place_of names) label o)

    moves_hold : (to : List ℕ) → Holds names (with_phis m fr.registers fr.block (phis_in (sought m fr.function to)) fr.registers) (moves_to fr.block (slice_get (block_phis f.blocks) (number to)))
    moves_hold to =
        let P : Option Block → Type 0 = λ o. Holds names (with_phis m fr.registers fr.block (phis_in o) fr.registers) (moves_to fr.block (slice_get (block_phis f.blocks) (number to))) in
        let Q : Option (List Instr) → Type 0 = λ o. Holds names (with_phis m fr.registers fr.block (phis_in (block_named f.blocks to)) fr.registers) (moves_to fr.block o) in
        subst P (sym (sought_is to)) (subst Q (sym (found (λ (b : Block). leading_phis b.instrs) f.blocks to)) (moves_hold_in fr.block (block_named f.blocks to) (block_among to)))

    view_walked : (position : ℕ) → view (Walked fr.function fr.block position ∷ []) ≡ code.left_by cf position
    view_walked position =
        ap (λ o. Saw (sight.Left fr.function (block_number o fr.block) position) ∷ []) at

    abbrev edge : List ℕ → List ℕ → EdgeCode
    edge label to =
        edge_to (symbol_input m) (counter_span units) (site_span units) (place_of names) number (block_phis f.blocks) label to

    arrives : (to : List ℕ) (position : ℕ) → Alike (model.walked m fr rest sh position (Some to)) (code.walked cf crest sh position (Some (edge fr.block to)))
    arrives to position =
        stays (model.entering m fr to (phis_in (sought m fr.function to))) (moves_to fr.block (slice_get (block_phis f.blocks) (number to))) (Walked fr.function fr.block position ∷ []) (code.left_by cf position) sh refl refl (view_walked position) (moves_hold to)

    walks : (position : ℕ) (o : Option (List ℕ)) → Alike (model.walked m fr rest sh position o) (code.walked cf crest sh position (option_map (edge fr.block) o))
    walks position None = (refl, refl)
    walks position (Some to) = arrives to position

    exits : (ss : List (List ℕ)) (c : Choice) → Alike (left m fr rest sh ss c) (code.exited cf crest sh (map (edge fr.block) ss) c)
    exits ss (Takes position) =
        let P : Option EdgeCode → Type 0 = λ o. Alike (model.walked m fr rest sh position (slice_get ss position)) (code.walked cf crest sh position o) in
        subst P (sym (slice_get-map (edge fr.block) ss position)) (walks position (slice_get ss position))
    exits ss (Leaves v) = returns f fr regs cinto rest crest sh at below v
    exits ss (Breaks kind) = (refl, refl)

    -- the block is left, and its label is the frame's
    module _ (b : Block) (is_block : block_named f.blocks fr.block ≡ Some b) where
      leaves : Alike (left m fr rest sh (successors b.term) (choice (value_of m fr.registers) b.term)) (code.exited cf crest sh (map (edge b.label) (successors b.term)) (code.choice regs (exit_of (symbol_input m) (counter_span units) (site_span units) (place_of names) b.term)))
      leaves =
          let P : Choice → Type 0 = λ c. Alike (left m fr rest sh (successors b.term) (choice val b.term)) (code.exited cf crest sh (map (edge fr.block) (successors b.term)) c) in
          let there : Choice = code.choice regs (exit_of (symbol_input m) (counter_span units) (site_span units) (place_of names) b.term) in
          let Q : (Operand → Value) → Type 0 = λ v. Alike (left m fr rest sh (successors b.term) (choice v b.term)) (code.exited cf crest sh (map (edge fr.block) (successors b.term)) there) in
          let R : List ℕ → Type 0 = λ l. Alike (left m fr rest sh (successors b.term) (choice (value_of m fr.registers) b.term)) (code.exited cf crest sh (map (edge l) (successors b.term)) there) in
          subst R (named_label f.blocks fr.block b is_block) (subst Q (sym values_are) (subst P (choice_is (symbol_input m) units (place_of names) regs (functions_of m) sh.memory b.term) (exits (successors b.term) (choice val b.term))))

      among : (i : Instr) (is : List Instr) → drop fr.place (behind_phis b.instrs) ≡ i ∷ is → (x : List ℕ) → result_name i ≡ Some x → Among names x
      among i is e x r =
          block_among fr.block b is_block x (among_behind_phis b.instrs x (among_results (behind_phis b.instrs) fr.place i is x e r))

      goes : (is : List Instr) → drop fr.place (behind_phis b.instrs) ≡ is → Alike (done m fr rest sh is b.term) (code.at_op placed cf crest sh (map (edge b.label) (successors b.term)) (exit_of (symbol_input m) (counter_span units) (site_span units) (place_of names) b.term) (option_map op (head_of is)))
      goes [] e = leaves
      goes (i ∷ is) e = performs i (among i is e)

    abbrev code_of : Block → BlockCode
    code_of b =
        block_code (symbol_input m) (counter_span units) (site_span units) (place_of names) number (block_phis f.blocks) b

    in_found : (o : Option Block) → block_named f.blocks fr.block ≡ o → Alike (done_in m fr rest sh o) (code.in_block placed cf crest sh (option_map code_of o))
    in_found None e = (refl, refl)
    in_found (Some b) e =
        let P : Option Op → Type 0 = λ o. Alike (done m fr rest sh (drop fr.place (behind_phis b.instrs)) b.term) (code.at_op placed cf crest sh (map (edge b.label) (successors b.term)) (exit_of (symbol_input m) (counter_span units) (site_span units) (place_of names) b.term) o) in
        subst P (sym (slice_get_drop op (behind_phis b.instrs) fr.place)) (goes b e (drop fr.place (behind_phis b.instrs)) refl)

    here_is : slice_get placed fr.function ≡ Some (placed_code f)
    here_is = slice_get-map placed_code (numbered m.functions) fr.function ∙ ap (option_map placed_code) at

    steps : Alike (done_in m fr rest sh (sought m fr.function fr.block)) (code.in_function placed cf crest sh (slice_get placed fr.function))
    steps =
        let P : Option Block → Type 0 = λ o. Alike (done_in m fr rest sh o) (code.in_function placed cf crest sh (slice_get placed fr.function)) in
        let Q : Option FunctionCode → Type 0 = λ o. Alike (done_in m fr rest sh (block_named f.blocks fr.block)) (code.in_function placed cf crest sh o) in
        let R : Option BlockCode → Type 0 = λ o. Alike (done_in m fr rest sh (block_named f.blocks fr.block)) (code.in_block placed cf crest sh o) in
        subst P (sym (sought_is fr.block)) (subst Q (sym here_is) (subst R (sym (found code_of f.blocks fr.block)) (in_found (block_named f.blocks fr.block) refl)))

  pub matched : (s : State) (t : CodeState) → Related s t → Alike (step m s) (code.code_step placed t)
  matched s t r =
      let P : State → Type 0 = λ x. Alike (step m x) (code.code_step placed t) in
      let Q : CodeState → Type 0 = λ x. Alike (stepped m (r.frame ∷ r.rest) r.shared) (code.code_step placed x) in
      subst P (sym r.state_is) (subst Q (sym r.code_is) (steps r.function r.frame r.registers r.into r.rest r.code_rest r.shared r.at r.holds r.below))

  goes_on : (n : ℕ) → ((s : State) (t : CodeState) → Related s t → seen view (run (step m) n s) ≡ run (code.code_step placed) n t) → (x : Step) (y : CodeStep) → Alike x y → seen view (go_on x (run (step m) n)) ≡ go_on y (run (code.code_step placed) n)
  goes_on n rec (Goes o s) (Goes p t) a =
      seen_first o (run (step m) n s) ∙ (λ i. shown_first (a.0 i) (rec s t a.1 i))
  goes_on n rec (Goes o s) (Stops p e) a = absurd a
  goes_on n rec (Stops o d) (Goes p t) a = absurd a
  goes_on n rec (Stops o d) (Stops p e) a = λ i. Ended (a.0 i) (a.1 i)

  -- the run of the code is what it sees of the module's run
  pub same_runs : (n : ℕ) (s : State) (t : CodeState) → Related s t → seen view (run (step m) n s) ≡ run (code.code_step placed) n t
  same_runs zero s t r = refl
  same_runs (suc n) s t r =
      goes_on n (same_runs n) (step m s) (code.code_step placed t) (matched s t r)
