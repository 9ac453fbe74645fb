-- Renamings one after the other are the same as a queue of new labels for each label, where no new label is renamed itself.
use Rattle.std.proofs.Common.{◌≡◌, ℕ, Bool, true, false, cond, List, [], ◌∷◌, ◌++◌, drop, refl, sym, ap, ◌∙◌, append_assoc}
use Rattle.std.specs.Cmp.Lexicographic.{bytes_decides}
use Rattle.count_insert.specs.Lists.{AreAway, Renaming, by_queue, first_or, news_for, without}
use Rattle.count_plan.specs.Ways.{renamed}
use Rattle.ir_tree.specs.Names.{same}
use Rattle.ir_tree.specs.Operands.{Entries}
use Rattle.ir_tree.specs.Phis.{rename_first}
use Rattle.ir_tree.specs.declared.types.Operand.{Operand}

same_is : (t u : List ℕ) → same t u ≡ true → t ≡ u
same_is t u e = (bytes_decides t u).0 e

-- one item put behind a queue, and what is still to come
pub put_turn : {X : Type 0} (b : Bool) (label q : List ℕ) → same label q ≡ b → (f : List ℕ → List X) (n : X) (rest : List X) → cond b (f label ++ n ∷ []) (f q) ++ rest ≡ f q ++ cond b (n ∷ rest) rest
put_turn true label q e f n rest = append_assoc (f label) (n ∷ []) rest ∙ ap (λ t. f t ++ (n ∷ rest)) (same_is label q e)
put_turn false label q e f n rest = refl

-- without the first renaming of a label
abbrev less : List ℕ → List Renaming → List Renaming
less t [] = []
less t (r ∷ rs) = cond (same r.0 t) rs (r ∷ less t rs)

-- no new label is renamed behind its own renaming
abbrev Apart : List Renaming → Type 0
Apart [] = Unit {0}
Apart (r ∷ rs) = (news_for r.1 rs ≡ []) × Apart rs

rename_none : (rs : List Renaming) → renamed rs [] ≡ []
rename_none [] = refl
rename_none (r ∷ rs) = rename_none rs

module _ {X : Type 0} where
  tail_none : (b : Bool) (x : X) (xs : List X) → cond b (x ∷ xs) xs ≡ [] → xs ≡ []
  tail_none true x xs h = absurd cc
  tail_none false x xs h = h

-- ---- the entry in front

head_by : (b : Bool) (r : Renaming) (rs : List Renaming) (e : Operand × List ℕ) (es : Entries) → cond b (r.1 ∷ news_for e.1 rs) (news_for e.1 rs) ≡ []
    → ((others : Entries) → news_for e.1 rs ≡ [] → renamed rs (e ∷ others) ≡ e ∷ renamed rs others)
    → renamed rs (cond b ((e.0, r.1) ∷ es) (e ∷ rename_first r.0 r.1 es)) ≡ e ∷ renamed rs (rename_first r.0 r.1 es)
head_by true r rs e es h further = absurd cc
head_by false r rs e es h further = further (rename_first r.0 r.1 es) h

head_stays : (rs : List Renaming) (e : Operand × List ℕ) (es : Entries) → news_for e.1 rs ≡ [] → renamed rs (e ∷ es) ≡ e ∷ renamed rs es
head_stays [] e es h = refl
head_stays (r ∷ rs) e es h = head_by (same r.0 e.1) r rs e es h (λ others none. head_stays rs e others none)

turn_by : (b : Bool) (r : Renaming) (rs : List Renaming) (e : Operand × List ℕ) (es : Entries) → news_for r.1 rs ≡ []
    → ((others : Entries) → renamed rs (e ∷ others) ≡ (e.0, first_or e.1 (news_for e.1 rs)) ∷ renamed (less e.1 rs) others)
    → renamed rs (cond b ((e.0, r.1) ∷ es) (e ∷ rename_first r.0 r.1 es)) ≡ (e.0, first_or e.1 (cond b (r.1 ∷ news_for e.1 rs) (news_for e.1 rs))) ∷ renamed (cond b rs (r ∷ less e.1 rs)) es
turn_by true r rs e es h further = head_stays rs (e.0, r.1) es h
turn_by false r rs e es h further = further (rename_first r.0 r.1 es)

-- it takes the first new label for its own
turn : (rs : List Renaming) → Apart rs → (e : Operand × List ℕ) (es : Entries) → renamed rs (e ∷ es) ≡ (e.0, first_or e.1 (news_for e.1 rs)) ∷ renamed (less e.1 rs) es
turn [] a e es = refl
turn (r ∷ rs) a e es = turn_by (same r.0 e.1) r rs e es a.0 (λ others. turn rs a.1 e others)

-- ---- what is left of the renamings

less_own : (t : List ℕ) (rs : List Renaming) → news_for t (less t rs) ≡ drop 1 (news_for t rs)
less_own t [] = refl
less_own t (r ∷ rs) = by (same r.0 t) refl (less_own t rs)
  where
    by : (b : Bool) → same r.0 t ≡ b → news_for t (less t rs) ≡ drop 1 (news_for t rs) → news_for t (cond b rs (r ∷ less t rs)) ≡ drop 1 (cond b (r.1 ∷ news_for t rs) (news_for t rs))
    by true e further = refl
    by false e further = ap (λ d. cond d (r.1 ∷ news_for t (less t rs)) (news_for t (less t rs))) e ∙ further

less_other : (t u : List ℕ) → same t u ≡ false → (rs : List Renaming) → news_for u (less t rs) ≡ news_for u rs
less_other t u f [] = refl
less_other t u f (r ∷ rs) = by (same r.0 t) refl (less_other t u f rs)
  where
    by : (b : Bool) → same r.0 t ≡ b → news_for u (less t rs) ≡ news_for u rs → news_for u (cond b rs (r ∷ less t rs)) ≡ cond (same r.0 u) (r.1 ∷ news_for u rs) (news_for u rs)
    by true e further = sym (ap (λ d. cond d (r.1 ∷ news_for u rs) (news_for u rs)) (ap (λ s. same s u) (same_is r.0 t e) ∙ f))
    by false e further = ap (λ z. cond (same r.0 u) (r.1 ∷ z) z) further

news_less : (t u : List ℕ) (rs : List Renaming) → news_for u (less t rs) ≡ cond (same t u) (drop 1 (news_for t rs)) (news_for u rs)
news_less t u rs = by (same t u) refl
  where
    by : (b : Bool) → same t u ≡ b → news_for u (less t rs) ≡ cond b (drop 1 (news_for t rs)) (news_for u rs)
    by true e = ap (λ s. news_for s (less t rs)) (sym (same_is t u e)) ∙ less_own t rs
    by false e = less_other t u e rs

none_less : (t u : List ℕ) (rs : List Renaming) → news_for u rs ≡ [] → news_for u (less t rs) ≡ []
none_less t u rs h = news_less t u rs ∙ by (same t u) refl
  where
    by : (b : Bool) → same t u ≡ b → cond b (drop 1 (news_for t rs)) (news_for u rs) ≡ []
    by true e = ap (λ s. drop 1 (news_for s rs)) (same_is t u e) ∙ ap (λ z. drop 1 z) h
    by false e = h

apart_less : (t : List ℕ) (rs : List Renaming) → Apart rs → Apart (less t rs)
apart_less t [] a = a
apart_less t (r ∷ rs) a = by (same r.0 t) (apart_less t rs a.1)
  where
    by : (b : Bool) → Apart (less t rs) → Apart (cond b rs (r ∷ less t rs))
    by true further = a.1
    by false further = (none_less t r.1 rs a.0, further)

-- ---- all entries

all_by_queue : (es : Entries) (rs : List Renaming) → Apart rs → (q : List ℕ → List (List ℕ)) → ((t : List ℕ) → q t ≡ news_for t rs) → renamed rs es ≡ by_queue q es
all_by_queue [] rs a q h = rename_none rs
all_by_queue (e ∷ es) rs a q h =
    let others : renamed (less e.1 rs) es ≡ by_queue (without q e.1) es =
    all_by_queue es (less e.1 rs) (apart_less e.1 rs a) (without q e.1) (λ u. (λ i. cond (same e.1 u) (drop 1 (h e.1 i)) (h u i)) ∙ sym (news_less e.1 u rs)) in
    turn rs a e es ∙ (λ i. (e.0, first_or e.1 (sym (h e.1) i)) ∷ others i)

away : (q : List ℕ → List (List ℕ)) (rs : List Renaming) → ((t : List ℕ) → q t ≡ [] → news_for t rs ≡ []) → AreAway q rs → Apart rs
away q [] h a = tt
away q (r ∷ rs) h a =
    (tail_none (same r.0 r.1) r.1 (news_for r.1 rs) (h r.1 a.0), away q rs (λ t e. tail_none (same r.0 t) r.1 (news_for t rs) (h t e)) a.1)

-- queues that have the new labels of each label rename as all renamings do in turn
pub in_queues : (q : List ℕ → List (List ℕ)) (rs : List Renaming) (es : Entries) → ((t : List ℕ) → q t ≡ news_for t rs) → AreAway q rs → by_queue q es ≡ renamed rs es
in_queues q rs es h a = sym (all_by_queue es rs (away q rs (λ t e. sym (h t) ∙ e) a) q h)
