-- Registers by number hold what the registers by name hold.
use Rattle.std.proofs.Common.{◌≡◌, ◌≢◌, ℕ, zero, suc, ◌+◌, ◌-◌, ◌<◌, Bool, true, false, cond, List, [], ◌∷◌, ◌++◌, length, map, take, Option, Some, None, refl, sym, ◌∙◌, ap, subst, arith, get_or-set_same, get_or-set_other}
use Rattle.std.proofs.Math.ListN.{length-replicate, length-set}
use Rattle.std.specs.Prelude.{slice_set, replicate}
use Rattle.std.proofs.lemmas.List.{take_all}
use Rattle.std.proofs.lemmas.Option.{unwrap_or-slice_get}
use Rattle.std.specs.List.{cons_option}
use Rattle.std.specs.Option.{option_map}
use Rattle.ir_tree.specs.Names.{same}
use Rattle.ir_tree.specs.Operands.{Entries, result_of}
use Rattle.ir_tree.specs.Phis.{entries_of}
use Rattle.ir_tree.specs.declared.types.Instr.{Instr}
use Rattle.ir_tree.specs.declared.types.Module.{Module}
use Rattle.ir_tree.specs.declared.types.Ret.{Ret}
use Rattle.ir_tree.specs.declared.types.Ret.TheVariants as ret
use Rattle.ir_tree.specs.declared.types.Ty.{Ty}
use Rattle.ir_tree.specs.declared.types.Operand.{Operand}
use Rattle.ir_tree.specs.declared.types.Operand.TheVariants.{Int, Null, Local, Global}
use Rattle.ir_memory.specs.declared.value.Value.{Value}
use Rattle.ir_memory.specs.declared.value.Value.TheVariants as value
use Rattle.ir_model.specs.State.{Registers, held}
use Rattle.ir_model.specs.State as model
use Rattle.ir_model.specs.Step.{value_of, taken, phi_value, with_typed, with_result, with_phis, typed}
use Rattle.ir_model.specs.Values.{at_type, symbol_pointer, object_pointer, object_number}
use Rattle.ir_tree.specs.Functions.{function_number}
use Rattle.ir_code.specs.declared.code.Move.{Move}
use Rattle.ir_code.specs.declared.code.Input.{Input}
use Rattle.ir_code.specs.declared.code.Span.{Span}
use Rattle.ir_code.specs.Symbols.{object_input, numbered_input, symbol_input}
use Rattle.ir_code.specs.Resolved.{input_of, target_of, value_on, taken_input, phi_input, moves_from}
use Rattle.ir_machine.specs.Steps.{register_value, input_value, with_value, with_target, put_all, arguments, filled}
use Rattle.ir_machine.proofs.Places.{place_of, same_true, same_self, Among, AllAmong, place_apart}

-- each name holds the same in both
pub record Holds (names : List (List ℕ)) (rs : Registers) (regs : List Value) : Type 0 where
  pub count : length regs ≡ length names
  pub holds : (x : List ℕ) → register_value regs (place_of names x) ≡ held rs x

object_same : (regs : List Value) (o : Option ℕ) → input_value regs (object_input o) ≡ object_pointer o
object_same regs None = refl
object_same regs (Some i) = refl

symbol_same : (regs : List Value) (k o : Option ℕ) → input_value regs (numbered_input k o) ≡ symbol_pointer k o
symbol_same regs None o = object_same regs o
symbol_same regs (Some k) o = refl

-- the type of a result goes with its name
pub typed_named : (o : Option (List ℕ × Ret)) (x : List ℕ × Ty) → typed o ≡ Some x → option_map (λ r. r.0) o ≡ Some x.0
typed_named None x e = cc
typed_named (Some (y, ret.Void)) x e = cc
typed_named (Some (y, ret.Value t)) x e =
    let q : ◌≡◌ {A = List ℕ × Ty} (y, t) x = cc in ap (λ (p : List ℕ × Ty). Some p.0) q

module _ (m : Module) (counters sites : List ℕ → Span) where
  module _ (names : List (List ℕ)) (rs : Registers) (regs : List Value) (h : Holds names rs regs) where
    pub input_same : (o : Operand) → input_value regs (input_of (symbol_input m) counters sites (place_of names) o) ≡ value_of m rs o
    input_same (Int n) = refl
    input_same Null = refl
    input_same (Local x) = h.holds x
    input_same (Global x) = symbol_same regs (function_number m x) (object_number m x)

    assigned_at : (d : List ℕ) (v : Value) → Among names d → (x : List ℕ) (p : Bool) → same x d ≡ p → register_value (slice_set regs (place_of names d) v) (place_of names x) ≡ cond p v (held rs x)
    assigned_at d v a x true e =
        let one : x ≡ d = same_true x d e in
        let within : place_of names d < length regs = omega (arith, h.count) in
        ap (λ y. register_value (slice_set regs (place_of names d) v) (place_of names y)) one
        ∙ unwrap_or-slice_get (slice_set regs (place_of names d) v) (place_of names d) (value.Int 0)
        ∙ get_or-set_same regs (place_of names d) v (value.Int 0) within
    assigned_at d v a x false e =
        let other : place_of names x ≢ place_of names d =
        λ q. let one : x ≡ d = place_apart names x d q a in
        let t : same x d ≡ true = subst (λ y. same x y ≡ true) one (same_self x) in cc in
        unwrap_or-slice_get (slice_set regs (place_of names d) v) (place_of names x) (value.Int 0)
        ∙ get_or-set_other regs (place_of names d) (place_of names x) v (value.Int 0) other
        ∙ sym (unwrap_or-slice_get regs (place_of names x) (value.Int 0))
        ∙ h.holds x

    pub holds_assigned : (d : List ℕ) (v : Value) → Among names d → Holds names ((d, v) ∷ rs) (slice_set regs (place_of names d) v)
    holds_assigned d v a = record {
      count = length-set regs (place_of names d) v ∙ h.count;
      holds = λ x. assigned_at d v a x (same x d) refl;
    }

    -- a result, if there is one
    pub holds_result : (into : Option (List ℕ)) (v : Value) → ((x : List ℕ) → into ≡ Some x → Among names x) → Holds names (with_result into v rs) (with_value regs (option_map (place_of names) into) v)
    holds_result None v a = h
    holds_result (Some x) v a = holds_assigned x v (a x refl)

    pub holds_typed : (into : Option (List ℕ × Ty)) (v : Value) → ((x : List ℕ × Ty) → into ≡ Some x → Among names x.0) → Holds names (with_typed into v rs) (with_target regs (option_map (target_of (symbol_input m) counters sites (place_of names)) into) v)
    holds_typed None v a = h
    holds_typed (Some x) v a = holds_assigned x.0 (at_type x.1 v) (a x refl)

    taken_same : (o : Option Operand) → input_value regs (taken_input (symbol_input m) counters sites (place_of names) o) ≡ taken m rs o
    taken_same None = refl
    taken_same (Some o) = input_same o

    -- the value of a phi is that of its input
    pub phi_same : (label : List ℕ) (es : Option Entries) → input_value regs (phi_input (symbol_input m) counters sites (place_of names) label es) ≡ phi_value m rs label es
    phi_same label None = refl
    phi_same label (Some es) = taken_same (value_on label (Some es))

  -- moves that all read the registers before do what the phis do
  module _ (names : List (List ℕ)) (before : Registers) (old : List Value) (hold : Holds names before old) (label : List ℕ) where
    abbrev pub read : List Move → List Value
    read ms = map (λ (mv : Move). input_value old mv.source) ms

    abbrev move_to : Input → List ℕ × Ty → Move
    move_to source x =
        record { into = target_of (symbol_input m) counters sites (place_of names) x; source = source }

    one_moved : (ms : List Move) (source : Input) (v : Value) (rest : List Instr) → input_value old source ≡ v
        → ((rs : Registers) (regs : List Value) → Holds names rs regs → Holds names (with_phis m before label rest rs) (put_all regs ms (read ms)))
        → (o : Option (List ℕ × Ty)) → ((x : List ℕ × Ty) → o ≡ Some x → Among names x.0) → (rs : Registers) (regs : List Value) → Holds names rs regs
        → Holds names (with_phis m before label rest (with_typed o v rs)) (put_all regs (cons_option (option_map (move_to source) o) ms) (read (cons_option (option_map (move_to source) o) ms)))
    one_moved ms source v rest e rec None a rs regs h = rec rs regs h
    one_moved ms source v rest e rec (Some x) a rs regs h =
        let P : Value → Type 0 = λ w. Holds names ((x.0, at_type x.1 v) ∷ rs) (slice_set regs (place_of names x.0) (at_type x.1 w)) in
        rec ((x.0, at_type x.1 v) ∷ rs) (slice_set regs (place_of names x.0) (at_type x.1 (input_value old source))) (subst P (sym e) (holds_assigned names rs regs h x.0 (at_type x.1 v) (a x refl)))

    pub holds_moved : (is : List Instr) (rs : Registers) (regs : List Value) → Holds names rs regs → AllAmong names is
        → Holds names (with_phis m before label is rs) (put_all regs (moves_from (symbol_input m) counters sites (place_of names) label is) (read (moves_from (symbol_input m) counters sites (place_of names) label is)))
    holds_moved [] rs regs h a = h
    holds_moved (i ∷ is) rs regs h a =
        one_moved (moves_from (symbol_input m) counters sites (place_of names) label is) (phi_input (symbol_input m) counters sites (place_of names) label (entries_of i)) (phi_value m before label (entries_of i)) is (phi_same names before old hold label (entries_of i))
        (λ rs' regs' h'. holds_moved is rs' regs' h' a.1) (typed (result_of i)) (λ x e. a.0 x.0 (typed_named (result_of i) x e)) rs regs h

-- registers that were not assigned
abbrev pub blank : ℕ → List Value
blank n = replicate n (value.Int 0)

zeros : (n i : ℕ) → register_value (blank n) i ≡ value.Int 0
zeros zero i = refl
zeros (suc n) zero = refl
zeros (suc n) (suc i) = zeros n i

begun_at : (v : Value) (names : List (List ℕ)) (rs : Registers) (regs : List Value) (x : List ℕ) (b : Bool) → register_value regs (place_of names x) ≡ held rs x → register_value (v ∷ regs) (cond b 0 (suc (place_of names x))) ≡ cond b v (held rs x)
begun_at v names rs regs x true h = refl
begun_at v names rs regs x false h = h

abbrev pub types_of : List (Ty × List ℕ) → List Ty
types_of ps = map (λ p. p.0) ps

-- at the start the parameters come first, and the results hold 0
pub holds_begun : (ps : List (Ty × List ℕ)) (vs : List Value) (more : List (List ℕ)) → length vs ≡ length ps → Holds (map (λ p. p.1) ps ++ more) (model.arguments ps vs) (arguments (types_of ps) vs ++ blank (length more))
holds_begun [] [] more e = record { count = length-replicate (length more) (value.Int 0); holds = λ x. zeros (length more) (place_of more x) }
holds_begun [] (v ∷ vs) more e = absurd (omega arith)
holds_begun (p ∷ ps) [] more e = absurd (omega arith)
holds_begun (p ∷ ps) (v ∷ vs) more e =
    let rest : Holds (map (λ q. q.1) ps ++ more) (model.arguments ps vs) (arguments (types_of ps) vs ++ blank (length more)) = holds_begun ps vs more (omega arith) in
    record {
      count = ap suc rest.count;
      holds = λ x. begun_at (at_type p.0 v) (map (λ q. q.1) ps ++ more) (model.arguments ps vs) (arguments (types_of ps) vs ++ blank (length more)) x (same x p.1) (rest.holds x);
    }

-- as many arguments as parameters
pub arguments_count : (ts : List Ty) (vs : List Value) → length vs ≡ length ts → length (arguments ts vs) ≡ length ts
arguments_count [] vs e = refl
arguments_count (t ∷ ts) [] e = absurd (omega arith)
arguments_count (t ∷ ts) (v ∷ vs) e = ap suc (arguments_count ts vs (omega arith))

-- what fills the registers behind them
pub filled_is : (count more : ℕ) (vs : List Value) → count ≡ length vs + more → filled count vs ≡ vs ++ blank more
filled_is count more vs e =
    let rest : count - length vs ≡ more = omega arith in
    let whole : take count vs ≡ vs = take_all count vs (omega arith) in
    λ i. whole i ++ blank (rest i)
