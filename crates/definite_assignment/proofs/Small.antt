-- Numbers below a bound, by place.
use Rattle.std.proofs.Common.{◌≡◌, ℕ, zero, suc, ◌+◌, ◌<◌, inl, inr, List, [], ◌∷◌, ◌++◌, length, map, take, get_or, All, Some, slice_get, sym, ap, subst, ◌∙◌, arith}
use Rattle.std.specs.List.{position}
use Rattle.std.proofs.lemmas.List.{length_push, map-append, take_more}
use Rattle.std.proofs.lemmas.Option.{get_or_from_slice_get, none-some, slice_get_within}
use Rattle.definite_assignment.proofs.Opened.{first_map}
use Rattle.definite_assignment.specs.Chunks.{AreBlocks, is_open_tag}
use Rattle.definite_assignment.specs.Uses.{AreTagged, Grows, is_exposed, is_for}
use Rattle.definite_assignment.specs.declared.givers.Tagged.{Tagged}
use Rattle.definite_assignment.specs.declared.givers.Use.{Use}

pub small_at : (gs : List ℕ) (n : ℕ) → All (λ g. g < n) gs → (s g : ℕ) → slice_get gs s ≡ Some g → g < n
small_at gs n all s g at =
    let within = slice_get_within gs s g at in
    subst (λ (x : ℕ). x < n) (get_or_from_slice_get gs s g 0 at) (all s 0 within)

-- the uses behind the tags stand in blocks
pub blocks_of : (ts : List Tagged) (n : ℕ) → All (λ (u : Use). u.at < n) (map is_for ts) → AreBlocks n ts
blocks_of [] n all = tt
blocks_of (t ∷ ts) n all = (all 0 (is_for t) (omega arith), blocks_of ts n (λ k d h. all (suc k) d (omega (arith, h))))

pub first_tag : (rows : List (List ℕ)) (ts : List Tagged) → position (is_exposed rows) (map is_for ts) ≡ position (is_open_tag rows) ts
first_tag rows ts = first_map (is_exposed rows) is_for ts

-- ---- one use more has its number

tagged_grows : (g : ℕ) (old new : List ℕ) → Grows g old new → (ts : List Tagged) → AreTagged old ts → AreTagged new ts
tagged_grows g old new grown [] h = tt
tagged_grows g old new grown (t ∷ ts) h = (by grown, tagged_grows g old new grown ts h.1)
  where
    by : Grows g old new → slice_get new t.slot ≡ Some t.giver
    by (inl e) = ap (λ (xs : List ℕ). slice_get xs t.slot) e ∙ h.0
    by (inr e) = ap (λ (xs : List ℕ). slice_get xs t.slot) e ∙ longer old t.slot t.giver h.0
      where
        longer : (xs : List ℕ) (s x : ℕ) → slice_get xs s ≡ Some x → slice_get (xs ++ g ∷ []) s ≡ Some x
        longer [] s x at = absurd (none-some x at)
        longer (y ∷ ys) zero x at = at
        longer (y ∷ ys) (suc s) x at = longer ys s x at

tagged_more : (givers : List ℕ) (ts : List Tagged) (t : Tagged) → AreTagged givers ts → slice_get givers t.slot ≡ Some t.giver → AreTagged givers (ts ++ t ∷ [])
tagged_more givers [] t h at = (at, tt)
tagged_more givers (u ∷ ts) t h at = (h.0, tagged_more givers ts t h.1 at)

small_grows : (g n : ℕ) (old new : List ℕ) → g < n → Grows g old new → All (λ x. x < n) old → All (λ x. x < n) new
small_grows g n old new less (inl e) all = subst (λ (xs : List ℕ). All (λ x. x < n) xs) (sym e) all
small_grows g n old new less (inr e) all = subst (λ (xs : List ℕ). All (λ x. x < n) xs) (sym e) (λ k d h. below old k d all (omega (arith, h, length_push old g)))
  where
    below : (xs : List ℕ) (k d : ℕ) → All (λ x. x < n) xs → k < length xs + 1 → get_or (xs ++ g ∷ []) k d < n
    below [] zero d all h = less
    below [] (suc k) d all h = absurd (omega (arith, h))
    below (x ∷ xs) zero d all h = all 0 d (omega arith)
    below (x ∷ xs) (suc k) d all h = below xs k d (λ j e l. all (suc j) e (omega (arith, l))) (omega (arith, h))

pub number_next : (uses : List Use) (i : ℕ) (d : Use) (n : ℕ) (tagged after : List Tagged) (givers more : List ℕ) (slot : ℕ) → i < length uses → All (λ (u : Use). u.giver < n) uses → after ≡ tagged ++ record { giver = (get_or uses i d).giver; at = (get_or uses i d).at; slot = slot } ∷ [] → slice_get more slot ≡ Some (get_or uses i d).giver → Grows (get_or uses i d).giver givers more → map is_for tagged ≡ take i uses → AreTagged givers tagged → All (λ g. g < n) givers → (map is_for after ≡ take (i + 1) uses) × AreTagged more after × All (λ g. g < n) more
number_next uses i d n tagged after givers more slot within all pushed at grown so_far tags small =
    let t : Tagged = record { giver = (get_or uses i d).giver; at = (get_or uses i d).at; slot = slot } in
    let mapped : map is_for (tagged ++ t ∷ []) ≡ take (i + 1) uses = map-append is_for tagged (t ∷ []) ∙ (ap (λ (us : List Use). us ++ is_for t ∷ []) so_far ∙ sym (take_more uses i d within)) in (
      ap (λ (ts : List Tagged). map is_for ts) pushed ∙ mapped,
      subst (λ (ts : List Tagged). AreTagged more ts) (sym pushed) (tagged_more more tagged t (tagged_grows (get_or uses i d).giver givers more grown tagged tags) at),
      small_grows (get_or uses i d).giver n givers more (all i d within) grown small,
    )
