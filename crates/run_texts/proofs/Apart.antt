-- Tallies with different names have no two records of one key.
use Rattle.std.proofs.Common.{◌≡◌, ℕ, ◌+◌, ◌≤◌, ◌==◌, Bool, true, false, not, cond, List, [], ◌∷◌, length, map, filter, find, Option, None, Some, refl, sym, ap, ◌∙◌, subst, arith}
use Rattle.std.specs.Prelude.{count_by}
use Rattle.std.specs.Cmp.{nat_eq_equiv}
use Rattle.std.specs.Option.{option_map}
use Rattle.std.specs.Ordering.{is_eq, nat_cmp, ordering_then}
use Rattle.std.specs.declared.cmp.Ordering.{Ordering}
use Rattle.std.specs.declared.cmp.Ordering.TheVariants.{Less, Equal, Greater}
use Rattle.std.specs.Cmp.Lexicographic.{texts_ties}
use Rattle.std.proofs.lemmas.List.Sums.{length-filter, sum_by-cons}
use Rattle.std.proofs.lemmas.Option.{none-some}
use Rattle.ir_tree.specs.Names.{same}
use Rattle.ir_tree.specs.declared.types.Function.{Function}
use Rattle.ir_model.specs.declared.probe.Tally.{Tally}
use Rattle.value_rows.specs.declared.row.Row.{Row}
use Rattle.prof_view.specs.Profile.{ProfileRecord}
use Rattle.prof_text.specs.Merged.{Key, has_key, name_cmp, of_key}
use Rattle.prof_text.specs.Mismatch.{counter_numbers, differing, differs_from, site_numbers, IsMismatch}
use Rattle.prof_text.specs.declared.error.MergeError.{MergeError}
use Rattle.prof_text.specs.declared.error.MergeError.TheVariants as errors
use Rattle.run_texts.specs.RunProfile.{AreApart, record_of, records_of}

first_equal : (o p : Ordering) → is_eq (ordering_then o p) ≡ true → is_eq o ≡ true
first_equal Less p h = h
first_equal Equal p h = refl
first_equal Greater p h = h

-- a record of a key has its name
named : (key : Key) (r : ProfileRecord) → has_key key r ≡ true → same key.0 r.name ≡ true
named key r h = texts_ties key.0 r.name ∙ first_equal (name_cmp key.0 r.name) (nat_cmp key.1 r.hash) h

abbrev one : Bool → ℕ
one b = cond b 1 0

at_most : (a b : Bool) → (a ≡ true → b ≡ true) → one a ≤ one b
at_most false b h = omega arith
at_most true true h = omega arith
at_most true false h = absurd (wrong (h refl))
  where
    wrong : false ≡ true → ⊥
    wrong e = cc

module _ (functions : List Function) (counters : List ℕ) (rows : List Row) (key : Key) where
  abbrev as_record : Tally → ProfileRecord
  as_record = record_of functions counters rows

  abbrev has_name : Tally → Bool
  has_name t = same key.0 t.name

  -- there are no more records of the key than tallies of its name
  fewer : (tallies : List Tally) → count_by (has_key key) (map as_record tallies) ≤ count_by has_name tallies
  fewer [] = omega arith
  fewer (t ∷ ts) =
      let more = fewer ts in
      let here : one (has_key key (as_record t)) ≤ one (has_name t) = at_most (has_key key (as_record t)) (has_name t) (named key (as_record t)) in
      omega (arith, more, here, sum_by-cons (λ (r : ProfileRecord). one (has_key key r)) (as_record t) (map as_record ts), sum_by-cons (λ (s : Tally). one (has_name s)) t ts)

itself : (n : ℕ) → (n == n) ≡ true
itself n = nat_eq_equiv.refl n

-- a list of one number or none has no two that differ
no_other : (ns : List ℕ) → length ns ≤ 1 → differing ns ≡ None
no_other [] few = refl
no_other (n ∷ []) few = ap (λ (b : Bool). option_map (λ (m : ℕ). (n, m)) (cond (not b) (Some n) None)) (itself n)
no_other (n ∷ m ∷ ns) few = absurd (omega (arith, few))

one_record : (functions : List Function) (tallies : List Tally) (counters : List ℕ) (rows : List Row) (key : Key) → AreApart tallies →
    length (of_key key (records_of functions tallies counters rows)) ≤ 1
one_record functions tallies counters rows key apart =
    let some = fewer functions counters rows key tallies in
    let single = apart key.0 in
    let kept = length-filter (has_key key) (records_of functions tallies counters rows) in
    omega (arith, some, single, kept)

counted : (f : ProfileRecord → ℕ) (rs : List ProfileRecord) → length (map f rs) ≡ length rs
counted f [] = refl
counted f (r ∷ rs) = let more = counted f rs in omega (arith, more)

-- so only memory can be wanting
pub no_mismatch : (functions : List Function) (tallies : List Tally) (counters : List ℕ) (rows : List Row) (values : List ProfileRecord) (e : MergeError) → AreApart tallies →
    values ≡ records_of functions tallies counters rows → IsMismatch values e → e ≡ errors.NoMemory
no_mismatch functions tallies counters rows values (errors.CounterMismatch name hash first other) apart is h =
    absurd (none-some _ (sym (no_other (counter_numbers (of_key (name, hash) values)) (few is)) ∙ h.differ))
  where
    few : values ≡ records_of functions tallies counters rows → length (counter_numbers (of_key (name, hash) values)) ≤ 1
    few is =
        let one = subst (λ (rs : List ProfileRecord). length (of_key (name, hash) rs) ≤ 1) (sym is) (one_record functions tallies counters rows (name, hash) apart) in
        let same_length = counted (λ (r : ProfileRecord). length r.counters) (of_key (name, hash) values) in
        omega (arith, one, same_length)
no_mismatch functions tallies counters rows values (errors.SiteMismatch name hash first other) apart is h =
    absurd (none-some _ (sym (no_other (site_numbers (of_key (name, hash) values)) (few is)) ∙ h.differ))
  where
    few : values ≡ records_of functions tallies counters rows → length (site_numbers (of_key (name, hash) values)) ≤ 1
    few is =
        let one = subst (λ (rs : List ProfileRecord). length (of_key (name, hash) rs) ≤ 1) (sym is) (one_record functions tallies counters rows (name, hash) apart) in
        let same_length = counted (λ (r : ProfileRecord). length r.sites) (of_key (name, hash) values) in
        omega (arith, one, same_length)
no_mismatch functions tallies counters rows values (errors.HeaderMismatch input first other) apart is h = absurd h
no_mismatch functions tallies counters rows values errors.NoMemory apart is h = refl
