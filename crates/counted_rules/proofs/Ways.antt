-- The blocks of a function that counts, and where their terminators lead.
use Rattle.std.proofs.Common.{◌≡◌, ℕ, suc, ◌+◌, inl, inr, Bool, ◌&&◌, List, [], ◌∷◌, map, length, Option, Some, None, slice_get, refl, sym, ap, subst}
use Rattle.std.specs.List.{list_all}
use Rattle.count_plan.specs.Calls.{increments}
use Rattle.count_plan.specs.Counted.{counted_block, counted_blocks, counted_pieces, new_blocks, put_on}
use Rattle.count_plan.specs.Ways.{block_plan, led, led_cases, led_to, new_at}
use Rattle.count_plan.specs.declared.plan.BlockPlan.{BlockPlan}
use Rattle.count_plan.specs.declared.plan.FunctionPlan.{FunctionPlan}
use Rattle.count_plan.specs.declared.plan.NewBlock.{NewBlock}
use Rattle.counted_rules.proofs.Listed.{Name, at_each, from_each}
use Rattle.ir_rules.specs.Lists.{Among}
use Rattle.ir_rules.specs.Returning.{returns_well}
use Rattle.ir_rules.specs.Scopes.{term_reads}
use Rattle.ir_rules.specs.Typing.{is_typed_term}
use Rattle.ir_rules.specs.Weighing.{has_weights, is_weighed_term}
use Rattle.ir_tree.specs.Blocks.{block_with}
use Rattle.ir_tree.specs.Successors.{case_values, successors}
use Rattle.ir_tree.specs.Types.{is_integer_of, is_integer_type}
use Rattle.ir_tree.specs.declared.types.Block.{Block}
use Rattle.ir_tree.specs.declared.types.Ret.{Ret}
use Rattle.ir_tree.specs.declared.types.Term.{Term}
use Rattle.ir_tree.specs.declared.types.Term.TheVariants.{Br, CondBr, Switch, Ret as Return, Unreachable}
use Rattle.ir_tree.specs.declared.types.Ty.{Ty}
use Rattle.spec_lists.specs.Each.{each}

-- ---- terminators

module _ (plan : BlockPlan) where
  -- where each way out leads
  abbrev pub led_all : ℕ → List Name → List Name
  led_all p tos = each (λ q to. led_to (new_at plan q) to ∷ []) p tos

  cases_led : (p : ℕ) (cs : List (ℕ × Name)) → map (λ (c : ℕ × Name). c.1) (led_cases plan p cs) ≡ led_all p (map (λ (c : ℕ × Name). c.1) cs)
  cases_led p [] = refl
  cases_led p (c ∷ cs) = ap (λ (ns : List Name). led_to (new_at plan p) c.1 ∷ ns) (cases_led (p + 1) cs)

  pub successors_led : (t : Term) → successors (led plan t) ≡ led_all 0 (successors t)
  successors_led (Br to) = refl
  successors_led (CondBr c first second prof) = refl
  successors_led (Switch ty v default cases prof) = ap (λ (ns : List Name). led_to (new_at plan 0) default ∷ ns) (cases_led 1 cases)
  successors_led (Return v) = refl
  successors_led Unreachable = refl

  values_led : (p : ℕ) (cs : List (ℕ × Name)) → map (λ (c : ℕ × Name). c.0) (led_cases plan p cs) ≡ map (λ (c : ℕ × Name). c.0) cs
  values_led p [] = refl
  values_led p (c ∷ cs) = ap (λ (ns : List ℕ). c.0 ∷ ns) (values_led (p + 1) cs)

  pub same_cases : (t : Term) → case_values (led plan t) ≡ case_values t
  same_cases (Br to) = refl
  same_cases (CondBr c first second prof) = refl
  same_cases (Switch ty v default cases prof) = values_led 1 cases
  same_cases (Return v) = refl
  same_cases Unreachable = refl

  pub same_reads : (t : Term) → term_reads (led plan t) ≡ term_reads t
  same_reads (Br to) = refl
  same_reads (CondBr c first second prof) = refl
  same_reads (Switch ty v default cases prof) = refl
  same_reads (Return v) = refl
  same_reads Unreachable = refl

  pub same_returns : (r : Ret) (t : Term) → returns_well r (led plan t) ≡ returns_well r t
  same_returns r (Br to) = refl
  same_returns r (CondBr c first second prof) = refl
  same_returns r (Switch ty v default cases prof) = refl
  same_returns r (Return v) = refl
  same_returns r Unreachable = refl

  typed_led : (ty : Ty) (p : ℕ) (cs : List (ℕ × Name)) → list_all (λ (c : ℕ × Name). is_integer_of ty c.0) (led_cases plan p cs) ≡ list_all (λ (c : ℕ × Name). is_integer_of ty c.0) cs
  typed_led ty p [] = refl
  typed_led ty p (c ∷ cs) = ap (λ (b : Bool). is_integer_of ty c.0 && b) (typed_led ty (p + 1) cs)

  pub same_typed : (t : Term) → is_typed_term (led plan t) ≡ is_typed_term t
  same_typed (Br to) = refl
  same_typed (CondBr c first second prof) = refl
  same_typed (Switch ty v default cases prof) = ap (λ (b : Bool). is_integer_type ty && b) (typed_led ty 1 cases)
  same_typed (Return v) = refl
  same_typed Unreachable = refl

  as_many : (p : ℕ) (cs : List (ℕ × Name)) → length (led_cases plan p cs) ≡ length cs
  as_many p [] = refl
  as_many p (c ∷ cs) = ap (λ (k : ℕ). suc k) (as_many (p + 1) cs)

  pub same_weighed : (t : Term) → is_weighed_term (led plan t) ≡ is_weighed_term t
  same_weighed (Br to) = refl
  same_weighed (CondBr c first second prof) = refl
  same_weighed (Switch ty v default cases prof) = ap (λ (k : ℕ). has_weights (k + 1) prof) (as_many 1 cases)
  same_weighed (Return v) = refl
  same_weighed Unreachable = refl

  -- a successor is where some way out leads
  pub led_from : (t : Term) (c : Name) → Among c (successors (led plan t)) → (p : ℕ) × (to : Name) × (slice_get (successors t) p ≡ Some to) × (c ≡ led_to (new_at plan p) to)
  led_from t c at =
      let r = from_each (λ q to. led_to (new_at plan q) to ∷ []) (successors t) c (subst (λ (ns : List Name). Among c ns) (successors_led t) at) in
      (r.0, r.1, r.2, single (led_to (new_at plan r.0) r.1) r.3)
    where
      single : (x : Name) → Among c (x ∷ []) → c ≡ x
      single x (inl e) = e
      single x (inr h) = absurd h

-- ---- blocks

module _ (unit : FunctionPlan) (bs : List Block) where
  abbrev pub plan_at : ℕ → BlockPlan
  plan_at j = block_plan unit.blocks j

  abbrev pub made_of : ℕ → Block → Block
  made_of j b = counted_block unit bs (plan_at j) b

  abbrev pub made_on : NewBlock → Name → Block
  made_on new to = block_with new.label (increments unit new.counter) (Br to)

  -- a new block on a way out of a block
  pub record IsWay (j : ℕ) (b : Block) (p : ℕ) (to : Name) (new : NewBlock) : Type 0 where
    pub at : slice_get bs j ≡ Some b
    pub leads : slice_get (successors b.term) p ≡ Some to
    pub is_new : new_at (plan_at j) p ≡ Some new

  pub data Made (q : Block) : Type 0 where
    Old : (j : ℕ) (b : Block) → slice_get bs j ≡ Some b → q ≡ made_of j b → Made q
    New : (j : ℕ) (b : Block) (p : ℕ) (to : Name) (new : NewBlock) → IsWay j b p to new → q ≡ made_on new to → Made q

  put_from : (q : Block) (to : Name) (o : Option NewBlock) → Among q (put_on unit to o) → (new : NewBlock) × (o ≡ Some new) × (q ≡ made_on new to)
  put_from q to None at = absurd at
  put_from q to (Some new) (inl e) = (new, refl, e)
  put_from q to (Some new) (inr h) = absurd h

  pub block_from : (q : Block) → Among q (counted_blocks unit bs) → Made q
  block_from q at = by (from_each (counted_pieces unit bs) bs q at)
    where
      by : (j : ℕ) × (b : Block) × (slice_get bs j ≡ Some b) × Among q (counted_pieces unit bs j b) → Made q
      by (j, b, here, inl e) = Old j b here e
      by (j, b, here, inr h) =
          let r = from_each (λ p to. put_on unit to (new_at (plan_at j) p)) (successors b.term) q h in
          let s = put_from q r.1 (new_at (plan_at j) r.0) r.3 in
          New j b r.0 r.1 s.0 (record { at = here; leads = r.2; is_new = s.1 }) s.2

  pub old_among : (j : ℕ) (b : Block) → slice_get bs j ≡ Some b → Among (made_of j b) (counted_blocks unit bs)
  old_among j b at = at_each (counted_pieces unit bs) bs j b (made_of j b) at (inl refl)

  pub new_put : (j : ℕ) (b : Block) (p : ℕ) (to : Name) (new : NewBlock) → IsWay j b p to new → Among (made_on new to) (new_blocks unit (plan_at j) b)
  new_put j b p to new way =
      at_each (λ q t. put_on unit t (new_at (plan_at j) q)) (successors b.term) p to (made_on new to) way.leads (subst (λ (o : Option NewBlock). Among (made_on new to) (put_on unit to o)) (sym way.is_new) (inl refl))

  pub new_among : (j : ℕ) (b : Block) (p : ℕ) (to : Name) (new : NewBlock) → IsWay j b p to new → Among (made_on new to) (counted_blocks unit bs)
  new_among j b p to new way = at_each (counted_pieces unit bs) bs j b (made_on new to) way.at (inr (new_put j b p to new way))
