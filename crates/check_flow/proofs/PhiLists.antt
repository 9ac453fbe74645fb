-- The labels of a phi's entries, and the first entry that has a label.
use Rattle.std.proofs.Common.{◌≡◌, ℕ, ◌+◌, ◌<◌, ◌≤◌, Bool, true, false, cond, not, nat_lt, zero, suc, List, [], ◌∷◌, ◌++◌, map, length, take, get_or, Option, None, Some, refl, sym, ap, subst, ◌∙◌, arith}
use Rattle.std.proofs.lemmas.List.{take_more, map_push, length-map, length-take-le}
use Rattle.std.proofs.lemmas.List.Folds.{find_at}
use Rattle.std.proofs.lemmas.Bool.Decides.{nat_tests}
use Rattle.std.specs.List.{slice_get, list_all, position, prefix_len}
use Rattle.std.specs.Option.{option_and_then}
use Rattle.ir_tree.specs.Names.{Indexes, first_place, same}
use Rattle.ir_tree.specs.declared.index.Index.{Index}
use Rattle.ir_tree.specs.declared.types.Operand.{Operand}
use Rattle.ir_rules.specs.PhiEntries.{has_value, have_one_value}
use Rattle.ir_tree.specs.Operands.{Entries}
use Rattle.ir_tree.specs.Phis.{entry_for}

abbrev labels : Entries → List (List ℕ)
labels es = map (λ e. e.1) es

pub labels_count : (es : Entries) (i : ℕ) → i ≤ length es → i ≡ length (labels (take i es))
labels_count es i h = sym (length-map (take i es) (λ e. e.1) ∙ length-take-le i es h)

pub labels_more : (index : Index) (es : Entries) (i : ℕ) (e : Operand × List ℕ) (n : List ℕ) → i < length es → e ≡ get_or es i e → n ≡ e.1 → Indexes index (labels (take i es) ++ n ∷ []) → Indexes index (labels (take (i + 1) es))
labels_more index es i e n h is named made =
    let more : labels (take (i + 1) es) ≡ labels (take i es) ++ n ∷ [] = ap (λ (ds : Entries). labels ds) (take_more es i e h) ∙ map_push (λ d. d.1) (take i es) (get_or es i e) ∙ ap (λ (d : Operand × List ℕ). labels (take i es) ++ d.1 ∷ []) (sym is) ∙ ap (λ (m : List ℕ). labels (take i es) ++ m ∷ []) (sym named) in
    subst (λ (ns : List (List ℕ)). Indexes index ns) (sym more) made

-- a test of labels among the labels, and among the entries
first_label : (test : List ℕ → Bool) (es : Entries) → prefix_len (λ n. not (test n)) (labels es) ≡ prefix_len (λ e. not (test e.1)) es
first_label test [] = refl
first_label test (e ∷ es) = ap (λ (k : ℕ). cond (not (test e.1)) (1 + k) 0) (first_label test es)

beyond : (es : Entries) (k : ℕ) → length es ≤ k → slice_get es k ≡ None
beyond [] k h = refl
beyond (e ∷ es) zero h = absurd (omega arith)
beyond (e ∷ es) (suc k) h = beyond es k (omega arith)

-- the place of the first label that passes is the place of the first entry whose label passes
found_at : (es : Entries) (k n : ℕ) → n ≡ length es → option_and_then (slice_get es) (cond (nat_lt k n) (Some k) None) ≡ slice_get es k
found_at es k n e = by (nat_lt k n) refl
  where
    by : (b : Bool) → nat_lt k n ≡ b → option_and_then (slice_get es) (cond b (Some k) None) ≡ slice_get es k
    by true h = refl
    by false h =
        let far : length es ≤ k = grind (arith, nat_tests) in
        sym (beyond es k far)

-- the first entry with a label, by the place of the label among the labels
pub entry_found : (es : Entries) (n : List ℕ) → option_and_then (slice_get es) (position (same n) (map (λ e. e.1) es)) ≡ entry_for n es
entry_found es n =
    let k = prefix_len (λ m. not (same n m)) (labels es) in
    found_at es k (length (labels es)) (length-map es (λ e. e.1)) ∙ ap (λ (j : ℕ). slice_get es j) (first_label (same n) es) ∙ sym (find_at (λ e. same n e.1) es)

-- an index of the labels finds the first entry with each of them
pub first_values : (index : Index) (es : Entries) → Indexes index (map (λ e. e.1) es) → list_all (λ e. has_value e.0 (option_and_then (slice_get es) (first_place index e.1))) es ≡ have_one_value es
first_values index es made = λ i. list_all (λ e. has_value e.0 (is e.1 i)) es
  where
    is : (n : List ℕ) → option_and_then (slice_get es) (first_place index n) ≡ entry_for n es
    is n = ap (λ (o : Option ℕ). option_and_then (slice_get es) o) (made n) ∙ entry_found es n
