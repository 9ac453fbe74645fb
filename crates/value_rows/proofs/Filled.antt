-- What filling the rows leaves, and the exact rows of a closed table.
use Rattle.std.proofs.Common.{◌≡◌, ◌≢◌, ℕ, suc, ◌+◌, ◌*◌, ◌^◌, ◌<◌, ◌≤◌, List, [], ◌∷◌, ◌++◌, length, get_or, set, take, Some, None, sym, refl, ap, ap₂, ◌∙◌, subst, arith, slice_index, slice_index_or, zero-add, below_more, get_or-set_other, get_or-set_same, get_or-take, length-take-le, mul-le-mul_right, suc-mul}
use Rattle.std.proofs.lemmas.List.{get_or_push, get_or_append_left, get_or-drop, length_push}
use mathlib.Core.Logic.{dite}
use native.Mathlib.Decide.{ℕ_discrete}
use mathlib.Core.Option.{some}
use lib.ListN.{get_elem?}
use Rattle.atomic_table.proofs.Lists.{drop_at}
use Rattle.atomic_table.specs.Table.{State, Me, Final, Seen}
use Rattle.count_core.specs.declared.state.Walk.{Walk}
use Rattle.count_core.specs.declared.state.Layout.{Layout}
use Rattle.count_core.specs.declared.state.CoreView.{CoreView}
use Rattle.count_core.specs.Layout.{site_at, word_count}
use Rattle.count_core.specs.CoreState.{core, IsCore, key_of, count_of, dropped_of}
use Rattle.count_core.specs.StepLaws.{SitesOfOne, KeptStand}
use Rattle.value_rows.specs.declared.row.Row.{Row}
use Rattle.value_rows.specs.Rows.{rows_only, walk, Walks, Asks}
use Rattle.value_rows.specs.Row.{keys_asked, IsExact, Reads, no_row}
use Rattle.value_rows.proofs.Exact.{exact_row}

pub index_at : (xs : List ℕ) (i v : ℕ) → get_elem? xs i ≡ some v → v ≡ get_or xs i 0
index_at xs i v e = let z : i + 0 ≡ i = omega arith in sym (ap (λ (l : List ℕ). get_or l 0 0) (drop_at xs i v e)) ∙ get_or-drop i xs 0 0 ∙ ap (λ k. get_or xs k 0) z

-- a word of a row of w words is one of the words
pub row_inside : (site sites w o : ℕ) → site < sites → o < w → site * w + o < sites * w + 1
row_inside site sites w o lt lt' =
    let h : suc site * w ≤ sites * w = mul-le-mul_right w lt in
    let k = suc-mul site w in
    let x : ℕ = site * w in
    let y : ℕ = sites * w in
    let h' : x + w ≤ y = omega arith in
    omega arith

-- and so is one behind the counters
pub word_inside : (t : Layout) (site o i words : ℕ) → i ≡ site_at t site + o → site < t.sites → o < 2 * t.places + 1 → words ≡ word_count t → i < words
word_inside t site o i words e lt lt' w =
    let h = row_inside site t.sites (2 * t.places + 1) o lt lt' in
    let x : ℕ = site * (2 * t.places + 1) in
    let y : ℕ = t.sites * (2 * t.places + 1) in
    let h' : x + o < y + 1 = h in
    let e' : i ≡ t.counters + x + o = e in
    let w' : words ≡ t.counters + y + 1 = w in
    omega arith

module _ {S : Type 0} where
  pub walks_stay : (w : Walk) (m : Me S CoreView) → m.0.walking ≡ Some w → Walks w m m
  walks_stay w m is = record { walking = is; shares = refl; asked = refl; held = refl }

  pub walks_from : (w x : Walk) (m n p : Me S CoreView) → Walks w m n → Walks x n p → Walks x m p
  walks_from w x m n p a b = record { walking = b.walking; shares = b.shares ∙ a.shares; asked = b.asked ∙ a.asked; held = b.held ∙ a.held }

  pub asks_from : (w : Walk) (site key place winner : ℕ) (m n p : Me S CoreView) → Walks w m n → Asks (walk site key place winner) n p → Asks (walk site key 0 0) m p
  asks_from w site key place winner m n p a b = record { rests = b.rests; shares = b.shares ∙ a.shares; asked = b.asked ∙ ap (λ (l : List (ℕ × ℕ)). l ++ (site, key) ∷ []) a.asked; held = b.held ∙ a.held }

-- a place more is copied
pub copied_more : (f : ℕ → ℕ × ℕ) (xs : List (ℕ × ℕ)) (i : ℕ) (v : ℕ × ℕ) → i < length xs → v ≡ f i → ((p : ℕ) → p < i → (d : ℕ × ℕ) → get_or xs p d ≡ f p) → (p : ℕ) → p < i + 1 → (d : ℕ × ℕ) → get_or (set xs i v) p d ≡ f p
copied_more f xs i v inside is done = below_more (λ (p : ℕ). (d : ℕ × ℕ) → get_or (set xs i v) p d ≡ f p) i
    (λ p lt d. get_or-set_other xs i p v d (λ e. omega arith) ∙ done p lt d)
    (λ d. get_or-set_same xs i v d inside ∙ is)

-- what is left after the places without a key are cut off
pub reads_cut : (words : List ℕ) (start places n : ℕ) (xs ys : List (ℕ × ℕ)) → n ≤ places → length xs ≡ places → ys ≡ take n xs
    → ((p : ℕ) → p < n → slice_index words (start + p) ≢ 0)
    → (n < places → slice_index words (start + n) ≡ 0)
    → ((p : ℕ) (d : ℕ × ℕ) → p < n → slice_index_or xs p d ≡ (slice_index words (start + p), slice_index words (start + (places + p))))
    → Reads words start places ys
reads_cut words start places n xs ys le whole is keys ends same = record {
  few = omega (arith, long);
  ends = λ lt. subst (λ (k : ℕ). slice_index words (start + k) ≡ 0) (sym long) (ends (omega (arith, long)));
  keys = λ p lt. keys p (omega (arith, long));
  same = λ p d lt. ap (λ (l : List (ℕ × ℕ)). get_or l p d) is ∙ get_or-take n xs p d (omega (arith, long)) ∙ same p d (omega (arith, long));
}
  where
    long : length ys ≡ n
    long = ap length is ∙ length-take-le n xs (omega arith)

-- a row more is filled
pub filled_more : (P : ℕ → Row → Type 0) (rows : List Row) (i : ℕ) (row : Row) → i < length rows → P i row → ((k : ℕ) → k < i → P k (get_or rows k no_row)) → (k : ℕ) → k < i + 1 → P k (get_or (set rows i row) k no_row)
filled_more P rows i row inside here done = below_more (λ (k : ℕ). P k (get_or (set rows i row) k no_row)) i
    (λ k lt. subst (P k) (sym (get_or-set_other rows i k row no_row (λ e. omega arith))) (done k lt))
    (subst (P i) (sym (get_or-set_same rows i row no_row inside)) here)

-- the rows of a table that was closed with a seat that holds all shares
pub closed_rows : {S : Type 0} → SitesOfOne → KeptStand → (all : ℕ) (l : Layout) (sites places id : ℕ) (v : CoreView) (words : List ℕ) (slots : List S) → l ≡ rows_only sites places → v.shares ≡ all → v.walking ≡ None
    → Final (Seen (λ (s : State S CoreView). IsCore all (core l s.words s.views)) id v) words slots
    → (site : ℕ) (row : Row) → site < sites
    → Reads words (site * (2 * places + 1)) places row.kept
    → row.dropped ≡ slice_index words (site * (2 * places + 1) + 2 * places)
    → length (keys_asked site v.asked) < 2 ^ 64
    → IsExact places (keys_asked site v.asked) row
closed_rows {S} sites_of_one stand all l sites places id v words slots is whole rests final site row lt reads last short =
    known (subst (λ (l : Layout). Final (Seen (λ (s : State S CoreView). IsCore all (core l s.words s.views)) id v) words slots) is final)
  where
    t : Layout
    t = rows_only sites places

    start : ℕ
    start = site * (2 * places + 1)

    known : Final (Seen (λ (s : State S CoreView). IsCore all (core (rows_only sites places) s.words s.views)) id v) words slots → IsExact places (keys_asked site v.asked) row
    known (s, seen, same, _, _) =
        let word : (o : ℕ) → slice_index s.words (0 + start + o) ≡ slice_index words (start + o) = λ o. ap₂ (λ (ws : List ℕ) (k : ℕ). slice_index ws (k + o)) same (zero-add start) in
        exact_row stand places (key_of (core t s.words s.views) site) (count_of (core t s.words s.views) site) (dropped_of (core t s.words s.views) site) site v
        (sites_of_one all (core t s.words s.views) id v seen.0 seen.1 whole site lt) rests row.kept
        reads.few
        (λ less. word (length row.kept) ∙ reads.ends less)
        (λ p lt' z. reads.keys p lt' (sym (word p) ∙ z))
        (λ p d lt'. reads.same p d lt' ∙ (λ i. (sym (word p) i, sym (word (places + p)) i)))
        short
        row.dropped
        (last ∙ sym (word (2 * places)))

-- a row more with room
pub rows_push : (places : ℕ) (rows : List Row) (row : Row) (longer : List Row) → longer ≡ rows ++ row ∷ [] → length row.kept ≡ places → ((k : ℕ) → k < length rows → length (get_or rows k no_row).kept ≡ places) → (k : ℕ) → k < length longer → length (get_or longer k no_row).kept ≡ places
rows_push places rows row longer is here room k lt =
    subst (λ (l : List Row). k < length l → length (get_or l k no_row).kept ≡ places) (sym is)
    (λ less. dite (ℕ_discrete k (length rows))
    (λ e. ap (λ (r : Row). length r.kept) (get_or_push rows row no_row k (sym e)) ∙ here)
    (λ ne. let shorter : k < length rows = omega (arith, length_push rows row) in ap (λ (r : Row). length r.kept) (get_or_append_left rows (row ∷ []) no_row k shorter) ∙ room k shorter))
    lt
