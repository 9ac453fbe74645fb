-- The phis of a counted block, what stands behind them, and where its terminator leads.
use Rattle.std.proofs.Common.{◌≡◌, ℕ, zero, suc, ◌+◌, ◌==◌, Bool, true, false, cond, not, List, [], ◌∷◌, ◌++◌, length, map, take, drop, Option, Some, None, slice_get, refl, sym, ◌∙◌, ap, subst, arith, one-add}
use Rattle.std.specs.List.{prefix_len}
use Rattle.std.specs.Option.{option_map}
use Rattle.std.specs.Prelude.{nat_lt}
use Rattle.std.proofs.lemmas.List.{take_at, drop_at}
use Rattle.ir_model.specs.Deed.{Takes, behind_default, choice}
use Rattle.ir_memory.specs.declared.value.Value.{Value}
use Rattle.ir_model.specs.Values.{number_at}
use Rattle.ir_tree.specs.Operands.{term_operand}
use Rattle.ir_tree.specs.Phis.{behind_phis, is_phi, leading_phis, phi_count}
use Rattle.ir_tree.specs.Successors.{successors}
use Rattle.ir_tree.specs.declared.types.Instr.{Instr}
use Rattle.ir_tree.specs.declared.types.Instr.TheVariants.{Binary, Compare, Convert, Freeze, Select, Phi, Alloca, Load, Store, Gep, Call, Count}
use Rattle.ir_tree.specs.declared.types.Operand.{Operand}
use Rattle.ir_tree.specs.declared.types.Term.{Term}
use Rattle.ir_tree.specs.declared.types.Term.TheVariants.{Br, CondBr, Switch, Ret, Unreachable}
use Rattle.count_plan.specs.Calls.{condition_of, condition_watched, increments, target_of, target_watched, watched}
use Rattle.count_plan.specs.Counted.{counted_from, counted_instrs, watch_at}
use Rattle.count_plan.specs.Ways.{led, led_cases, led_to, new_at, renamed_phi}
use Rattle.count_plan.specs.declared.plan.BlockPlan.{BlockPlan}
use Rattle.count_plan.specs.declared.plan.FunctionPlan.{FunctionPlan}
use Rattle.count_plan.specs.declared.plan.Watch.{Watch}
use Rattle.count_plan.specs.declared.plan.Watch.TheVariants.{Nothing, Condition, Target}

-- ---- phis in front

abbrev AllPhis : List Instr → Type 0
AllPhis [] = Unit {0}
AllPhis (x ∷ xs) = (is_phi x ≡ true) × AllPhis xs

abbrev pub NoPhiFirst : List Instr → Type 0
NoPhiFirst [] = Unit {0}
NoPhiFirst (x ∷ xs) = is_phi x ≡ false

count_phis : (ps xs : List Instr) → AllPhis ps → NoPhiFirst xs → phi_count (ps ++ xs) ≡ length ps
count_phis [] [] all none = refl
count_phis [] (x ∷ xs) all none = ap (λ b. cond {A = ℕ} b (1 + prefix_len is_phi xs) 0) none
count_phis (p ∷ ps) xs all none =
    ap (λ b. cond {A = ℕ} b (1 + prefix_len is_phi (ps ++ xs)) 0) all.0 ∙ ap (λ k. 1 + k) (count_phis ps xs all.1 none) ∙ one-add (length ps)

phis_of : (ps xs : List Instr) → AllPhis ps → NoPhiFirst xs → leading_phis (ps ++ xs) ≡ ps
phis_of ps xs all none = ap (λ k. take k (ps ++ xs)) (count_phis ps xs all none) ∙ take_at ps xs (length ps) refl

behind_of : (ps xs : List Instr) → AllPhis ps → NoPhiFirst xs → behind_phis (ps ++ xs) ≡ xs
behind_of ps xs all none = ap (λ k. drop k (ps ++ xs)) (count_phis ps xs all none) ∙ drop_at ps xs (length ps) refl

renamed_is_phi : (rs : List (List ℕ × List ℕ)) (x : Instr) → is_phi x ≡ true → is_phi (renamed_phi rs x) ≡ true
renamed_is_phi rs (Phi into ty es) e = refl
renamed_is_phi rs (Binary into op flags ty left right) e = e
renamed_is_phi rs (Compare into pred ty left right) e = e
renamed_is_phi rs (Convert into op flags from value to) e = e
renamed_is_phi rs (Freeze into ty value) e = e
renamed_is_phi rs (Select into c ty first second prof) e = e
renamed_is_phi rs (Alloca into mem) e = e
renamed_is_phi rs (Load into ty address) e = e
renamed_is_phi rs (Store ty value address) e = e
renamed_is_phi rs (Gep into inbounds mem address indices) e = e
renamed_is_phi rs (Call into ret callee values prof) e = e
renamed_is_phi rs (Count symbol size index step) e = e

all_renamed : (rs : List (List ℕ × List ℕ)) (is : List Instr) → AllPhis (map (renamed_phi rs) (leading_phis is))
all_renamed rs [] = tt
all_renamed rs (i ∷ is) = by (is_phi i) refl (all_renamed rs is)
  where
    by : (b : Bool) → is_phi i ≡ b → AllPhis (map (renamed_phi rs) (leading_phis is)) → AllPhis (map (renamed_phi rs) (take (cond {A = ℕ} b (1 + phi_count is) 0) (i ∷ is)))
    by true e later = subst (λ k. AllPhis (map (renamed_phi rs) (take k (i ∷ is)))) (sym (one-add (phi_count is))) (renamed_is_phi rs i e, later)
    by false e later = tt

pub behind_first : (is : List Instr) → NoPhiFirst (behind_phis is)
behind_first [] = tt
behind_first (i ∷ is) = by (is_phi i) refl (behind_first is)
  where
    by : (b : Bool) → is_phi i ≡ b → NoPhiFirst (behind_phis is) → NoPhiFirst (drop (cond {A = ℕ} b (1 + phi_count is) 0) (i ∷ is))
    by true e later = subst (λ k. NoPhiFirst (drop k (i ∷ is))) (sym (one-add (phi_count is))) later
    by false e later = e

pub increments_first : (unit : FunctionPlan) (c : Option ℕ) (xs : List Instr) → NoPhiFirst xs → NoPhiFirst (increments unit c ++ xs)
increments_first unit None xs none = none
increments_first unit (Some c) xs none = refl

watched_first : (unit : FunctionPlan) (w : Watch) (x : Instr) (xs : List Instr) → is_phi x ≡ false → NoPhiFirst (watched unit w x ++ (x ∷ xs))
watched_first unit Nothing x xs e = e
watched_first unit (Condition register counter) x xs e = by (condition_of x)
  where
    by : (o : Option Operand) → NoPhiFirst (condition_watched unit register counter o ++ (x ∷ xs))
    by None = e
    by (Some c) = refl
watched_first unit (Target register site) x xs e = by (target_of x)
  where
    by : (o : Option Operand) → NoPhiFirst (target_watched unit register site o ++ (x ∷ xs))
    by None = e
    by (Some c) = refl

counted_first : (unit : FunctionPlan) (plan : BlockPlan) (i : ℕ) (xs : List Instr) → NoPhiFirst xs → NoPhiFirst (counted_from unit plan i xs)
counted_first unit plan i [] none = tail plan.tail
  where
    tail : (c : Option ℕ) → NoPhiFirst (increments unit c)
    tail None = tt
    tail (Some c) = refl
counted_first unit plan i (x ∷ xs) none = watched_first unit (watch_at plan i) x (counted_from unit plan (i + 1) xs) none

module _ (unit : FunctionPlan) (plan : BlockPlan) (rs : List (List ℕ × List ℕ)) (is : List Instr) where
  no_phi : NoPhiFirst (increments unit plan.head ++ counted_from unit plan 0 (behind_phis is))
  no_phi = increments_first unit plan.head (counted_from unit plan 0 (behind_phis is)) (counted_first unit plan 0 (behind_phis is) (behind_first is))

  pub phis_there : leading_phis (counted_instrs unit plan rs is) ≡ map (renamed_phi rs) (leading_phis is)
  phis_there = phis_of (map (renamed_phi rs) (leading_phis is)) (increments unit plan.head ++ counted_from unit plan 0 (behind_phis is)) (all_renamed rs is) no_phi

  pub behind_there : behind_phis (counted_instrs unit plan rs is) ≡ increments unit plan.head ++ counted_from unit plan 0 (behind_phis is)
  behind_there = behind_of (map (renamed_phi rs) (leading_phis is)) (increments unit plan.head ++ counted_from unit plan 0 (behind_phis is)) (all_renamed rs is) no_phi

-- a new block has no phis
pub new_phis : (unit : FunctionPlan) (c : Option ℕ) → leading_phis (increments unit c) ≡ []
new_phis unit None = refl
new_phis unit (Some c) = refl

pub new_behind : (unit : FunctionPlan) (c : Option ℕ) → behind_phis (increments unit c) ≡ increments unit c
new_behind unit None = refl
new_behind unit (Some c) = refl

-- ---- terminators

led_cases_at : (plan : BlockPlan) (n : ℕ) (cases : List (ℕ × List ℕ)) (p : ℕ) → slice_get (map (λ c. c.1) (led_cases plan n cases)) p ≡ option_map (led_to (new_at plan (n + p))) (slice_get (map (λ c. c.1) cases) p)
led_cases_at plan n [] p = refl
led_cases_at plan n (c ∷ cs) zero = ap (λ j. Some (led_to (new_at plan j) c.1)) (let e : n ≡ n + 0 = omega arith in e)
led_cases_at plan n (c ∷ cs) (suc p) =
    led_cases_at plan (n + 1) cs p ∙ ap (λ j. option_map (led_to (new_at plan j)) (slice_get (map (λ c. c.1) cs) p)) (let e : n + 1 + p ≡ n + suc p = omega arith in e)

-- the successor at a position
pub led_successor : (plan : BlockPlan) (t : Term) (p : ℕ) → slice_get (successors (led plan t)) p ≡ option_map (led_to (new_at plan p)) (slice_get (successors t) p)
led_successor plan (Br to) zero = refl
led_successor plan (Br to) (suc p) = refl
led_successor plan (CondBr c first second prof) zero = refl
led_successor plan (CondBr c first second prof) (suc zero) = refl
led_successor plan (CondBr c first second prof) (suc (suc p)) = refl
led_successor plan (Switch ty v default cases prof) zero = refl
led_successor plan (Switch ty v default cases prof) (suc p) =
    led_cases_at plan 1 cases p ∙ ap (λ j. option_map (led_to (new_at plan j)) (slice_get (map (λ c. c.1) cases) p)) (one-add p)
led_successor plan (Ret v) p = refl
led_successor plan Unreachable p = refl

led_length : (plan : BlockPlan) (n : ℕ) (cases : List (ℕ × List ℕ)) → length (led_cases plan n cases) ≡ length cases
led_length plan n [] = refl
led_length plan n (c ∷ cs) = ap (λ k. suc k) (led_length plan (n + 1) cs)

led_prefix : (test : ℕ → Bool) (plan : BlockPlan) (n : ℕ) (cases : List (ℕ × List ℕ)) → prefix_len (λ (c : ℕ × List ℕ). test c.0) (led_cases plan n cases) ≡ prefix_len (λ (c : ℕ × List ℕ). test c.0) cases
led_prefix test plan n [] = refl
led_prefix test plan n (c ∷ cs) = ap (λ k. cond {A = ℕ} (test c.0) (1 + k) 0) (led_prefix test plan (n + 1) cs)

pub led_choice : (val : Operand → Value) (plan : BlockPlan) (t : Term) → choice val (led plan t) ≡ choice val t
led_choice val plan (Br to) = refl
led_choice val plan (CondBr c first second prof) = refl
led_choice val plan (Switch ty v default cases prof) =
    λ i. Takes (behind_default (cond (nat_lt (led_prefix (λ x. not (x == number_at ty (val v))) plan 1 cases i) (led_length plan 1 cases i)) (Some (led_prefix (λ x. not (x == number_at ty (val v))) plan 1 cases i)) None))
led_choice val plan (Ret v) = refl
led_choice val plan Unreachable = refl

pub led_operand : (plan : BlockPlan) (t : Term) → term_operand (led plan t) ≡ term_operand t
led_operand plan (Br to) = refl
led_operand plan (CondBr c first second prof) = refl
led_operand plan (Switch ty v default cases prof) = refl
led_operand plan (Ret v) = refl
led_operand plan Unreachable = refl
