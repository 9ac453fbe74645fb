-- The value of a phi on an edge, where entries for the block before it name new blocks instead.
use Rattle.std.proofs.Common.{◌≡◌, ℕ, suc, ◌+◌, ◌≤◌, Bool, true, false, cond, List, [], ◌∷◌, count_by, Some, refl, sym, ◌∙◌, ap, subst, arith}
use Rattle.std.specs.Cmp.Lexicographic.{bytes_decides}
use Rattle.std.specs.Option.{option_map}
use Rattle.ir_tree.specs.Names.{same}
use Rattle.ir_tree.specs.Operands.{Entries}
use Rattle.ir_tree.specs.Phis.{entry_for, rename_first, value_for}
use Rattle.ir_tree.specs.declared.types.Operand.{Operand}
use Rattle.count_plan.specs.Ways.{renamed}
use Rattle.count_likeness.specs.Fits.{tails}
use Rattle.spec_items.proofs.Items.{count_cons}

pub same_self : (n : List ℕ) → same n n ≡ true
same_self n = (bytes_decides n n).1 refl

pub same_names : (n l : List ℕ) → same n l ≡ true → n ≡ l
same_names n l e = (bytes_decides n l).0 e

pub not_same : (n l : List ℕ) → (n ≡ l → ⊥) → same n l ≡ false
not_same n l apart = by (same n l) refl
  where
    by : (b : Bool) → same n l ≡ b → b ≡ false
    by true e = absurd (apart (same_names n l e))
    by false e = refl

abbrev pub one_if : Bool → ℕ
one_if b = cond b 1 0

-- how many entries name a label
abbrev pub entries_for : List ℕ → Entries → ℕ
entries_for n es = count_by (same n) (tails es)

-- each entry for a label has this value
abbrev pub AllValued : List ℕ → Operand → Entries → Type 0
AllValued n v [] = Unit {0}
AllValued n v (e ∷ es) = (same n e.1 ≡ true → e.0 ≡ v) × AllValued n v es

pub value_by : (n : List ℕ) (v : Operand) (es : Entries) → AllValued n v es → 1 ≤ entries_for n es → value_for n es ≡ Some v
value_by n v [] all some = absurd (omega arith)
value_by n v (e ∷ es) all some = by (same n e.1) refl (λ more. value_by n v es all.1 more)
  where
    by : (b : Bool) → same n e.1 ≡ b → (1 ≤ entries_for n es → value_for n es ≡ Some v) → option_map (λ (x : Operand × List ℕ). x.0) (cond b (Some e) (entry_for n es)) ≡ Some v
    by true q later = ap Some (all.0 q)
    by false q later =
        let c = count_cons (same n) e.1 (tails es) in
        let none : one_if (same n e.1) ≡ 0 = ap one_if q in
        later (omega (arith, c, none, some))

-- ---- one entry is renamed

module _ (a n : List ℕ) where
  -- names that are neither keep their entries
  pub rename_other : (l : List ℕ) (v : Operand) (es : Entries) → same l n ≡ false → AllValued l v es → AllValued l v (rename_first a n es)
  rename_other l v [] apart all = tt
  rename_other l v (e ∷ es) apart all = by (same a e.1) (rename_other l v es apart all.1)
    where
      by : (b : Bool) → AllValued l v (rename_first a n es) → AllValued l v (cond b ((e.0, n) ∷ es) (e ∷ rename_first a n es))
      by true later = (λ q. absurd (true_false (sym q ∙ apart)), all.1)
        where
          true_false : {p : Unit {0}} → true ≡ false → ⊥
          true_false h = cc
      by false later = (all.0, later)

  -- the new name takes the value of the first entry for the old one
  pub rename_new : (v : Operand) (es : Entries) → AllValued a v es → AllValued n v es → AllValued n v (rename_first a n es)
  rename_new v [] old new = tt
  rename_new v (e ∷ es) old new = by (same a e.1) refl (rename_new v es old.1 new.1)
    where
      by : (b : Bool) → same a e.1 ≡ b → AllValued n v (rename_first a n es) → AllValued n v (cond b ((e.0, n) ∷ es) (e ∷ rename_first a n es))
      by true q later = (λ r. old.0 q, new.1)
      by false q later = (new.0, later)

  module _ (apart : same n a ≡ false) (differ : same a n ≡ false) where
    -- one entry fewer for the old name, and one more for the new one
    pub rename_fewer : (es : Entries) → entries_for a es ≤ entries_for a (rename_first a n es) + 1
    rename_fewer [] = omega arith
    rename_fewer (e ∷ es) = by (same a e.1) refl (rename_fewer es)
      where
        by : (b : Bool) → same a e.1 ≡ b → entries_for a es ≤ entries_for a (rename_first a n es) + 1 → entries_for a (e ∷ es) ≤ entries_for a (cond b ((e.0, n) ∷ es) (e ∷ rename_first a n es)) + 1
        by true q later =
            let c = count_cons (same a) e.1 (tails es) in
            let d = count_cons (same a) n (tails es) in
            let one : one_if (same a e.1) ≡ 1 = ap one_if q in
            omega (arith, c, d, one)
        by false q later =
            let c = count_cons (same a) e.1 (tails es) in
            let d = count_cons (same a) e.1 (tails (rename_first a n es)) in
            omega (arith, c, d, later)

    pub rename_more : (es : Entries) → 1 ≤ entries_for a es → 1 ≤ entries_for n (rename_first a n es)
    rename_more [] some = absurd (omega arith)
    rename_more (e ∷ es) some = by (same a e.1) refl (λ more. rename_more es more)
      where
        by : (b : Bool) → same a e.1 ≡ b → (1 ≤ entries_for a es → 1 ≤ entries_for n (rename_first a n es)) → 1 ≤ entries_for n (cond b ((e.0, n) ∷ es) (e ∷ rename_first a n es))
        by true q later =
            let d = count_cons (same n) n (tails es) in
            let one : one_if (same n n) ≡ 1 = ap one_if (same_self n) in
            omega (arith, d, one)
        by false q later =
            let c = count_cons (same a) e.1 (tails es) in
            let d = count_cons (same n) e.1 (tails (rename_first a n es)) in
            let none : one_if (same a e.1) ≡ 0 = ap one_if q in
            let more = later (omega (arith, c, none, some)) in
            omega (arith, d, more)

  -- a name other than the old one has no entry fewer
  pub rename_stays : (l : List ℕ) → same l a ≡ false → (es : Entries) → entries_for l es ≤ entries_for l (rename_first a n es)
  rename_stays l apart [] = omega arith
  rename_stays l apart (e ∷ es) = by (same a e.1) refl (rename_stays l apart es)
    where
      by : (b : Bool) → same a e.1 ≡ b → entries_for l es ≤ entries_for l (rename_first a n es) → entries_for l (e ∷ es) ≤ entries_for l (cond b ((e.0, n) ∷ es) (e ∷ rename_first a n es))
      by true q later =
          let c = count_cons (same l) e.1 (tails es) in
          let d = count_cons (same l) n (tails es) in
          let none : one_if (same l e.1) ≡ 0 = ap one_if (ap (same l) (sym (same_names a e.1 q)) ∙ apart) in
          omega (arith, c, d, none)
      by false q later =
          let c = count_cons (same l) e.1 (tails es) in
          let d = count_cons (same l) e.1 (tails (rename_first a n es)) in
          omega (arith, c, d, later)

-- ---- all renamings

abbrev pub Renamings : Type 0
Renamings = List (List ℕ × List ℕ)

-- how many renamings there are of a block
abbrev pub renamings_of : List ℕ → Renamings → ℕ
renamings_of a rs = count_by (λ (r : List ℕ × List ℕ). same a r.0) rs

-- how many rename to a new block
abbrev pub renamings_to : List ℕ → Renamings → ℕ
renamings_to n rs = count_by (λ (r : List ℕ × List ℕ). same n r.1) rs

-- the block's name is no new one
module _ (a : List ℕ) (v : Operand) where
  -- a block with an entry more than it has renamings keeps one
  pub tail_stays : (rs : Renamings) (es : Entries) → AllValued a v es → renamings_to a rs ≡ 0 → suc (renamings_of a rs) ≤ entries_for a es → value_for a (renamed rs es) ≡ Some v
  tail_stays [] es all new more = value_by a v es all (omega (arith, more))
  tail_stays ((b, n) ∷ rs) es all new more =
      let c = count_cons (λ (r : List ℕ × List ℕ). same a r.0) (b, n) rs in
      let d = count_cons (λ (r : List ℕ × List ℕ). same a r.1) (b, n) rs in
      by (same a n) refl (same a b) refl c d (λ es' all' new' more'. tail_stays rs es' all' new' more')
    where
      by : (s : Bool) → same a n ≡ s → (t : Bool) → same a b ≡ t → renamings_of a ((b, n) ∷ rs) ≡ one_if (same a b) + renamings_of a rs → renamings_to a ((b, n) ∷ rs) ≡ one_if (same a n) + renamings_to a rs →
          ((es' : Entries) → AllValued a v es' → renamings_to a rs ≡ 0 → suc (renamings_of a rs) ≤ entries_for a es' → value_for a (renamed rs es') ≡ Some v) → value_for a (renamed rs (rename_first b n es)) ≡ Some v
      by true q t u c d later =
          let one : one_if (same a n) ≡ 1 = ap one_if q in
          absurd (omega (arith, d, one, new))
      by false q true u c d later =
          let none : one_if (same a n) ≡ 0 = ap one_if q in
          let one : one_if (same a b) ≡ 1 = ap one_if u in
          let is : a ≡ b = same_names a b u in
          let fewer : entries_for a es ≤ entries_for a (rename_first b n es) + 1 =
          subst (λ (x : List ℕ). entries_for a es ≤ entries_for a (rename_first x n es) + 1) is (rename_fewer a n (not_same n a (λ e. (let f = ap (same a) e in absurd_eq (sym (f ∙ same_self a) ∙ q)))) q es) in
          later (rename_first b n es) (rename_other b n a v es q all) (omega (arith, d, none, new)) (omega (arith, c, one, more, fewer))
        where
          absurd_eq : true ≡ false → ⊥
          absurd_eq h = cc
      by false q false u c d later =
          let none : one_if (same a n) ≡ 0 = ap one_if q in
          let zero' : one_if (same a b) ≡ 0 = ap one_if u in
          let stays = rename_stays b n a u es in
          later (rename_first b n es) (rename_other b n a v es q all) (omega (arith, d, none, new)) (omega (arith, c, zero', more, stays))

-- each renaming to n is of a
abbrev pub OnlyFrom : List ℕ → List ℕ → Renamings → Type 0
OnlyFrom a n [] = Unit {0}
OnlyFrom a n (r ∷ rs) = (same n r.1 ≡ true → r.0 ≡ a) × OnlyFrom a n rs

true_false : true ≡ false → ⊥
true_false h = cc

module _ (a n : List ℕ) (v : Operand) (apart : same n a ≡ false) where
  module _ (b c : List ℕ) (rs : Renamings) (es : Entries) (old : AllValued a v es) (new : AllValued n v es) (none_to : renamings_to a ((b, c) ∷ rs) ≡ 0) (none_of : renamings_of n ((b, c) ∷ rs) ≡ 0) (only : same n c ≡ true → b ≡ a) (room : renamings_of a ((b, c) ∷ rs) ≤ entries_for a es) (some : 1 ≤ entries_for n es + renamings_to n ((b, c) ∷ rs)) where
    to_a : renamings_to a ((b, c) ∷ rs) ≡ one_if (same a c) + renamings_to a rs
    to_a = count_cons (λ (r : List ℕ × List ℕ). same a r.1) (b, c) rs

    to_n : renamings_to n ((b, c) ∷ rs) ≡ one_if (same n c) + renamings_to n rs
    to_n = count_cons (λ (r : List ℕ × List ℕ). same n r.1) (b, c) rs

    of_a : renamings_of a ((b, c) ∷ rs) ≡ one_if (same a b) + renamings_of a rs
    of_a = count_cons (λ (r : List ℕ × List ℕ). same a r.0) (b, c) rs

    of_n : renamings_of n ((b, c) ∷ rs) ≡ one_if (same n b) + renamings_of n rs
    of_n = count_cons (λ (r : List ℕ × List ℕ). same n r.0) (b, c) rs

    not_one : (t : Bool) → one_if t ≡ 0 → t ≡ false
    not_one true e = absurd (omega (arith, e))
    not_one false e = refl

    -- the new name is not the old one, and the old name no new one
    a_not_c : same a c ≡ false
    a_not_c = not_one (same a c) (omega (arith, to_a, none_to))

    n_not_b : same n b ≡ false
    n_not_b = not_one (same n b) (omega (arith, of_n, none_of))

    abbrev Later : Type 0
    Later = (es' : Entries) → AllValued a v es' → AllValued n v es' → renamings_to a rs ≡ 0 → renamings_of n rs ≡ 0 → renamings_of a rs ≤ entries_for a es' → 1 ≤ entries_for n es' + renamings_to n rs → value_for n (renamed rs es') ≡ Some v

    old_later : AllValued a v (rename_first b c es)
    old_later = rename_other b c a v es a_not_c old

    none_to_later : renamings_to a rs ≡ 0
    none_to_later = omega (arith, to_a, none_to)

    none_of_later : renamings_of n rs ≡ 0
    none_of_later = omega (arith, of_n, none_of)

    c_not_a : b ≡ a → same c b ≡ false
    c_not_a is = not_same c b (λ e. true_false (sym (ap (λ x. same x c) (sym (e ∙ is)) ∙ same_self c) ∙ a_not_c))

    takes_one : Later → value_for n (renamed rs (rename_first b c es)) ≡ Some v
    takes_one later = by (same n c) refl (same a b) refl
      where
        by : (s : Bool) → same n c ≡ s → (t : Bool) → same a b ≡ t → value_for n (renamed rs (rename_first b c es)) ≡ Some v
        by true q true u =
            let is : a ≡ b = same_names a b u in
            let is_n : n ≡ c = same_names n c q in
            let old_b : AllValued b v es = subst (λ (x : List ℕ). AllValued x v es) is old in
            let new_c : AllValued c v es = subst (λ (x : List ℕ). AllValued x v es) is_n new in
            let new_later : AllValued n v (rename_first b c es) = subst (λ (x : List ℕ). AllValued x v (rename_first b c es)) (sym is_n) (rename_new b c v es old_b new_c) in
            let one : one_if (same a b) ≡ 1 = ap one_if u in
            let enough : 1 ≤ entries_for b es = subst (λ (x : List ℕ). 1 ≤ entries_for x es) is (omega (arith, of_a, one, room)) in
            let more : 1 ≤ entries_for n (rename_first b c es) = subst (λ (x : List ℕ). 1 ≤ entries_for x (rename_first b c es)) (sym is_n) (rename_more b c (c_not_a (sym is)) (ap (λ x. same x c) (sym is) ∙ a_not_c) es enough) in
            let fewer : entries_for a es ≤ entries_for a (rename_first b c es) + 1 =
            subst (λ (x : List ℕ). entries_for x es ≤ entries_for x (rename_first b c es) + 1) (sym is) (rename_fewer b c (c_not_a (sym is)) (ap (λ x. same x c) (sym is) ∙ a_not_c) es) in
            later (rename_first b c es) old_later new_later none_to_later none_of_later (omega (arith, of_a, one, room, fewer)) (omega (arith, more))
        by true q false u = absurd (true_false (sym (ap (same a) (only q) ∙ same_self a) ∙ u))
        by false q true u =
            let is : a ≡ b = same_names a b u in
            let one : one_if (same a b) ≡ 1 = ap one_if u in
            let none : one_if (same n c) ≡ 0 = ap one_if q in
            let fewer : entries_for a es ≤ entries_for a (rename_first b c es) + 1 =
            subst (λ (x : List ℕ). entries_for x es ≤ entries_for x (rename_first b c es) + 1) (sym is) (rename_fewer b c (c_not_a (sym is)) (ap (λ x. same x c) (sym is) ∙ a_not_c) es) in
            let stays = rename_stays b c n n_not_b es in
            later (rename_first b c es) old_later (rename_other b c n v es q new) none_to_later none_of_later (omega (arith, of_a, one, room, fewer)) (omega (arith, to_n, none, some, stays))
        by false q false u =
            let zero' : one_if (same a b) ≡ 0 = ap one_if u in
            let none : one_if (same n c) ≡ 0 = ap one_if q in
            let stays = rename_stays b c n n_not_b es in
            let stays_a = rename_stays b c a u es in
            later (rename_first b c es) old_later (rename_other b c n v es q new) none_to_later none_of_later (omega (arith, of_a, zero', room, stays_a)) (omega (arith, to_n, none, some, stays))

  -- the new block on the edge has an entry with the value of the block before it
  pub new_takes : (rs : Renamings) (es : Entries) → AllValued a v es → AllValued n v es → renamings_to a rs ≡ 0 → renamings_of n rs ≡ 0 → OnlyFrom a n rs → renamings_of a rs ≤ entries_for a es → 1 ≤ entries_for n es + renamings_to n rs → value_for n (renamed rs es) ≡ Some v
  new_takes [] es old new none_to none_of only room some = value_by n v es new (omega (arith, some))
  new_takes ((b, c) ∷ rs) es old new none_to none_of only room some =
      takes_one b c rs es old new none_to none_of only.0 room some (λ es' old' new' none_to' none_of' room' some'. new_takes rs es' old' new' none_to' none_of' only.1 room' some')
