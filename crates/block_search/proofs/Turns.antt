-- The search, one block further.
use Rattle.std.proofs.Common.{◌≡◌, ℕ, ◌+◌, ◌<◌, Bool, true, ◌⊎◌, inl, inr, List, [], ◌∷◌, ◌++◌, length, Some, slice_get, refl, sym, ap, subst, ◌∙◌, arith}
use Rattle.std.proofs.lemmas.List.{length_push, get_or_past}
use Rattle.ir_tree.specs.Reach.{row, is_marked, Leads, IsReachable, AreRows, AreMarks}
use Rattle.block_search.specs.Search.{Among, Found, state, spread}
use Rattle.block_search.proofs.Spreads.{Spreads, spreads, unmarked, among_front, among_last, among_split}

pub marked_within : (marks : List Bool) (b : ℕ) → is_marked marks b ≡ true → b < length marks
marked_within marks b m = grind (arith, get_or_past)

module _ (rows : List (List ℕ)) where
  leads_on : (walk : List ℕ) (a b p t : ℕ) → Leads rows walk a b → slice_get (row rows b) p ≡ Some t → Leads rows (walk ++ p ∷ []) a t
  leads_on [] a b p t e h = (t, subst (λ (x : ℕ). slice_get (row rows x) p ≡ Some t) (sym e) h, refl)
  leads_on (q ∷ qs) a b p t w h = (w.0, w.1, leads_on qs w.0 b p t w.2 h)

  -- a successor of a reachable block is reachable
  pub reached_on : (b p t : ℕ) → IsReachable rows b → slice_get (row rows b) p ≡ Some t → IsReachable rows t
  reached_on b p t r h = (r.0 ++ p ∷ [], leads_on r.0 0 b p t r.1 h)

  module _ (marks : List Bool) (closed : (b p t : ℕ) → is_marked marks b ≡ true → slice_get (row rows b) p ≡ Some t → is_marked marks t ≡ true) where
    -- a walk from a marked block passes marked blocks
    pub stays_marked : (walk : List ℕ) (a b : ℕ) → is_marked marks a ≡ true → Leads rows walk a b → is_marked marks b ≡ true
    stays_marked [] a b m e = subst (λ (x : ℕ). is_marked marks x ≡ true) e m
    stays_marked (p ∷ ps) a b m w = stays_marked ps w.0 b (closed a p w.0 m w.1) w.2

  -- no block waits
  pub finished : (marks : List Bool) (work : List ℕ) → work ≡ [] → Found rows marks work → AreMarks rows marks
  finished marks work none found =
      let closed : (b p t : ℕ) → is_marked marks b ≡ true → slice_get (row rows b) p ≡ Some t → is_marked marks t ≡ true =
      λ b p t m h. elim (found.closed b p t m h) [ inl a ↦ absurd (subst (λ (ws : List ℕ). Among b ws) none a) | inr m ↦ m ] in
      record {
        size = found.size;
        sound = found.sound;
        complete = λ b r. stays_marked marks closed r.0 0 b found.entry r.1;
      }

module _ (rows : List (List ℕ)) (marks : List Bool) (work : List ℕ) (v : ℕ) (after : List Bool × List ℕ)
    (found : Found rows marks (work ++ v ∷ [])) (s : Spreads (row rows v) marks work after) where
  sound_after : (b : ℕ) → is_marked after.0 b ≡ true → IsReachable rows b
  sound_after b h = elim (s.fresh b h) [
    | inl old ↦ found.sound b old
    | inr q ↦ reached_on rows v q.0 b (found.sound v (found.waiting v (among_last v work))) q.1
  ]

  closed_after : (b p t : ℕ) → is_marked after.0 b ≡ true → slice_get (row rows b) p ≡ Some t → Among b after.1 ⊎ (is_marked after.0 t ≡ true)
  closed_after b p t m h = elim (s.fresh b m) [
    | inl old ↦ elim (found.closed b p t old h) [
      | inl a ↦ elim (among_split b v work a) [
        | inl w ↦ inl (s.waits b w)
        | inr e ↦ inr (s.done p t (subst (λ (x : ℕ). slice_get (row rows x) p ≡ Some t) e h))
      ]
      | inr m ↦ inr (s.kept t m)
    ]
    | inr q ↦ inl q.2
  ]

  turn : Found rows after.0 after.1
  turn = record {
    size = s.size ∙ found.size;
    entry = s.kept 0 found.entry;
    sound = sound_after;
    waiting = λ b a. elim (s.stems b a) [ inl w ↦ s.kept b (found.waiting b (among_front b work (v ∷ []) w)) | inr m ↦ m ];
    closed = closed_after;
  }

module _ (rows : List (List ℕ)) (marks : List Bool) (items work : List ℕ) (v : ℕ) (r : List ℕ)
    (graph : AreRows rows) (found : Found rows marks items) (popped : items ≡ work ++ v ∷ []) where
  found_then : Found rows marks (work ++ v ∷ [])
  found_then = subst (λ (ws : List ℕ). Found rows marks ws) popped found

  pub is_block : v < length rows
  is_block = subst (λ (n : ℕ). v < n) found.size (marked_within marks v (found_then.waiting v (among_last v work)))

  pub targets_in : r ≡ row rows v → (p t : ℕ) → slice_get r p ≡ Some t → t < length marks
  targets_in is p t h = subst (λ (n : ℕ). t < n) (sym found.size) (graph.targets v p t (subst (λ (x : List ℕ). slice_get x p ≡ Some t) is h))

  spread_there : (is : r ≡ row rows v) → Spreads (row rows v) marks work (spread r marks work)
  spread_there is = subst (λ (x : List ℕ). Spreads x marks work (spread r marks work)) is (spreads r marks work (targets_in is))

  pub found_after : (marks' : List Bool) (work' : List ℕ) → r ≡ row rows v → state marks' work' ≡ spread r marks work → Found rows marks' work'
  found_after marks' work' is put = subst (λ (s : List Bool × List ℕ). Found rows s.0 s.1) (sym put) (turn rows marks work v _ found_then (spread_there is))

  pub less_after : (marks' : List Bool) (work' : List ℕ) → r ≡ row rows v → state marks' work' ≡ spread r marks work → unmarked marks' + length work' < unmarked marks + length items
  less_after marks' work' is put =
      let same : unmarked marks' + length work' ≡ unmarked marks + length work =
      subst (λ (s : List Bool × List ℕ). unmarked s.0 + length s.1 ≡ unmarked marks + length work) (sym put) (spread_there is).measure in
      let long : length items ≡ length (work ++ v ∷ []) = ap (λ (xs : List ℕ). length xs) popped in
      omega (arith, same, long, length_push work v)
