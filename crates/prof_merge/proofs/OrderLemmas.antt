-- Inputs in another order.
use Rattle.std.proofs.Common.{◌≡◌, ◌+◌, ◌<◌, ℕ, Bool, true, false, not, List, [], ◌∷◌, Some, length, sum_by, get_or, slice_get, refl, sym, ap, ◌∙◌, arith, All}
use Rattle.std.specs.List.Sorted.{IsPermutation}
use Rattle.std.proofs.lemmas.List.Sums.{sum_by-cons, sum_by-append}
use Rattle.std.proofs.lemmas.List.Sorted.{sum_by-IsPermutation, All-permutation}
use Rattle.std.proofs.lemmas.List.Elements.{All-map}
use Rattle.std.proofs.lemmas.Option.{slice_get_within, get_or_from_slice_get}
use Rattle.prof_view.specs.Profile.{ProfileRecord, ProfileInput}
use Rattle.prof_text.specs.Order.{SameRecords}
use Rattle.prof_merge.specs.Inputs.{records_of, modes_of, AllHaveMode, IsHeaderMismatch}

sum_by_records : (count : ProfileRecord → ℕ) (xs : List ProfileInput) → sum_by count (records_of xs) ≡ sum_by (λ (i : ProfileInput). sum_by count i.records) xs
sum_by_records count [] = refl
sum_by_records count (x ∷ xs) =
    sum_by-append count x.records (records_of xs) ∙ (ap (λ (n : ℕ). sum_by count x.records + n) (sum_by_records count xs)
    ∙ sym (sum_by-cons (λ (i : ProfileInput). sum_by count i.records) x xs))

-- the records of inputs in another order are the same
pub same_inputs : (xs ys : List ProfileInput) → IsPermutation xs ys → SameRecords (records_of xs) (records_of ys)
same_inputs xs ys moved count =
    sum_by_records count ys ∙ (sum_by-IsPermutation (λ (i : ProfileInput). sum_by count i.records) xs ys moved ∙ sym (sum_by_records count xs))

pub same_mode : (xs ys : List ProfileInput) (a b : Bool) → IsPermutation xs ys → 0 < length ys → AllHaveMode a xs → AllHaveMode b ys → a ≡ b
same_mode xs [] a b moved some ha hb = absurd (omega arith)
same_mode xs (y ∷ ys) a b moved some ha hb =
    let there : AllHaveMode a (y ∷ ys) = All-permutation (λ (i : ProfileInput). i.entry_first ≡ a) xs (y ∷ ys) moved ha in
    sym (there 0 y some) ∙ hb 0 y some

pub one_profile : (p q : ProfileInput) → p.entry_first ≡ q.entry_first → p.records ≡ q.records → p ≡ q
one_profile p q e h = parts p.entry_first q.entry_first p.records q.records e h
  where
    parts : (a b : Bool) (rs us : List ProfileRecord) → a ≡ b → rs ≡ us → ◌≡◌ {A = ProfileInput} (record { entry_first = a; records = rs }) (record { entry_first = b; records = us })
    parts a b rs us f g = cc

mode_in : (xs : List ProfileInput) (m v : Bool) (k : ℕ) → AllHaveMode m xs → slice_get (modes_of xs) k ≡ Some v → v ≡ m
mode_in xs m v k all e =
    let low : k < length (modes_of xs) = slice_get_within (modes_of xs) k v e in
    let is : get_or (modes_of xs) k v ≡ v = get_or_from_slice_get (modes_of xs) k v v e in
    let every : All (λ (b : Bool). b ≡ m) (modes_of xs) = All-map (λ (b : Bool). b ≡ m) (λ (i : ProfileInput). i.entry_first) xs all in
    sym is ∙ every k v low

not_itself : (b : Bool) → b ≡ not b → ⊥
not_itself true e = cc
not_itself false e = cc

pub modes_differ : (xs ys : List ProfileInput) (input : ℕ) (first other mode : Bool) → IsPermutation ys xs → IsHeaderMismatch xs input first other → AllHaveMode mode ys → ⊥
modes_differ xs ys input first other mode moved h all =
    let there : AllHaveMode mode xs = All-permutation (λ (i : ProfileInput). i.entry_first ≡ mode) ys xs moved all in
    let a : first ≡ mode = mode_in xs mode first 0 there h.first_is in
    let b : other ≡ mode = mode_in xs mode other input there h.other_is in
    not_itself first (a ∙ (sym b ∙ h.differ))
