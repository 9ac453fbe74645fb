-- What a list of entries has for a name, once an entry is put behind it.
use Rattle.std.proofs.Common.{◌≡◌, ℕ, ◌+◌, ◌<◌, Bool, true, false, cond, List, [], ◌∷◌, ◌++◌, length, take, get_or, Option, None, Some, is_some, refl, sym, subst, ◌∙◌}
use Rattle.std.specs.Cmp.Lexicographic.{same_text, nat_list_eq_equiv}
use Rattle.std.specs.Map.{lookup}
use Rattle.spec_lists.specs.Each.{each}
use Rattle.spec_lists.proofs.Each.{appended}
use Rattle.ir_tree.specs.FunctionNames.{IndexesEntries}
use Rattle.ir_tree.specs.Locals.{Entry}
use Rattle.ir_tree.specs.declared.function_index.FunctionIndex.{FunctionIndex}
use Rattle.ir_tree.specs.declared.locals.Local.{Local}
use Rattle.ir_tree.specs.Names.{same}

abbrev behind : Option Local → Option Local → Option Local
behind None last = last
behind (Some l) last = Some l

lookup-push : (test : List ℕ → Bool) (es : List Entry) (n : List ℕ) (l : Local) → lookup test (es ++ (n, l) ∷ []) ≡ behind (lookup test es) (cond (test n) (Some l) None)
lookup-push test [] n l = refl
lookup-push test (e ∷ es) n l = by (test e.0) (lookup-push test es n l)
  where
    by : (b : Bool) → lookup test (es ++ (n, l) ∷ []) ≡ behind (lookup test es) (cond (test n) (Some l) None) → cond b (Some e.1) (lookup test (es ++ (n, l) ∷ [])) ≡ behind (cond b (Some e.1) (lookup test es)) (cond (test n) (Some l) None)
    by true h = refl
    by false h = h

-- a name that is there already
pub lookup-again : (es : List Entry) (n q : List ℕ) (l : Local) → is_some (lookup (same n) es) ≡ true → lookup (same q) (es ++ (n, l) ∷ []) ≡ lookup (same q) es
lookup-again es n q l there = lookup-push (same q) es n l ∙ by (same q n) refl
  where
    kept : (o : Option Local) (last : Option Local) → is_some o ≡ true → behind o last ≡ o
    kept None last h = cc
    kept (Some k) last h = refl

    none : (o : Option Local) → behind o None ≡ o
    none None = refl
    none (Some k) = refl

    by : (b : Bool) → same q n ≡ b → behind (lookup (same q) es) (cond b (Some l) None) ≡ lookup (same q) es
    by true e = kept (lookup (same q) es) (Some l) (subst (λ (m : List ℕ). is_some (lookup (same m) es) ≡ true) (sym (same_text q n (sym e))) there)
    by false e = none (lookup (same q) es)

-- a name that is new, under a key k that copies it
pub lookup-new : (es : List Entry) (n k q : List ℕ) (l : Local) (before after : Option Local) → k ≡ n → is_some (lookup (same n) es) ≡ false → before ≡ lookup (same q) es → after ≡ cond (same k q) (Some l) before → after ≡ lookup (same q) (es ++ (n, l) ∷ [])
lookup-new es n k q l before after copy absent was put = put ∙ (λ i. cond (same (copy i) q) (Some l) (was i)) ∙ by (same n q) refl ∙ sym (lookup-push (same q) es n l)
  where
    no : (o : Option Local) → is_some o ≡ false → o ≡ None
    no None h = refl
    no (Some k) h = cc

    none : (o : Option Local) → behind o None ≡ o
    none None = refl
    none (Some k) = refl

    turned : (b : Bool) → same n q ≡ b → same q n ≡ b
    turned b e = nat_list_eq_equiv.symm q n ∙ e

    by : (b : Bool) → same n q ≡ b → cond b (Some l) (lookup (same q) es) ≡ behind (lookup (same q) es) (cond (same q n) (Some l) None)
    by true e =
        let gone : lookup (same q) es ≡ None = no (lookup (same q) es) (subst (λ (m : List ℕ). is_some (lookup (same m) es) ≡ false) (same_text n q (sym e)) absent) in
        sym ((λ i. behind (gone i) (cond (turned true e i) (Some l) None)))
    by false e = sym ((λ i. behind (lookup (same q) es) (cond (turned false e i) (Some l) None)) ∙ none (lookup (same q) es))

-- an index that has the entries behind which those of the items up to i were put, one item further
pub indexes_further : {X : Type 0} (make : ℕ → X → List Entry) (index : FunctionIndex) (es : List Entry) (xs : List X) (i : ℕ) (x : X) → i < length xs → x ≡ get_or xs i x → IndexesEntries index ((es ++ each make 0 (take i xs)) ++ make i x) → IndexesEntries index (es ++ each make 0 (take (i + 1) xs))
indexes_further make index es xs i x h is made =
    let now : List Entry = es ++ each make 0 (take i xs) in
    let e : now ++ make i x ≡ es ++ each make 0 (take (i + 1) xs) = appended make es now (now ++ make i x) xs i x h is refl refl in
    subst (λ (zs : List Entry). IndexesEntries index zs) e made
