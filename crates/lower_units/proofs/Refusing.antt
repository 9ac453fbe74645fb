-- What the table refuses is what lowering refuses.
use Rattle.std.proofs.Common.{◌≡◌, ℕ, ◌==◌, nat_lt, Bool, true, false, ◌&&◌, cond, List, [], ◌∷◌, ◌++◌, filter, filter_map, find, Option, None, Some, is_some, refl, sym, ap, ◌∙◌}
use Rattle.std.specs.List.{cons_option}
use Rattle.std.specs.Option.{option_map}
use Rattle.ir_rules.specs.Kinds.{is_unit_name}
use Rattle.ir_rules.specs.Limits.{reported}
use Rattle.ir_tree.specs.declared.types.Global1.{Global1}
use Rattle.ir_tree.specs.declared.types.Module.{Module}
use Rattle.lower_units.proofs.Searching.{first_found, first_past}
use Rattle.lower_units.proofs.Telling.{is_named, none_told}
use Rattle.lower_units.specs.Alone.{first_alone, has_none, lacks_counters}
use Rattle.lower_units.specs.Faults.{count_fault, fault_of, first_failed, first_fault, hash_fault, index_fault, refused, refused_for, test_failed}
use Rattle.lower_units.specs.Told.{all_told}
use Rattle.lower_units.specs.declared.faults.Test.{Test}
use Rattle.lower_units.specs.declared.faults.Test.TheVariants.{Hash, Count, Index}
use Rattle.lower_units.specs.declared.told.Told.{Told}
use Rattle.lowering.specs.Asked.{Asked, Rise, Note, all_asked, symbol_asked}
use Rattle.lowering.specs.Refusals.{CountDiffers, HashDiffers, IndexPast, NoIncrement, Refusal, differs, failed, failed_by, name_of_unit, noted_alone, refusal, without_counters}
use Rattle.lowering.specs.Units.{asked_of, counters_told, hash_told, name_held, names_used, sites_told}
use Rattle.spec_lists.specs.Each.{first_of}

-- ---- the tests of a call

-- what is told, from its parts
abbrev told_of : Option ℕ → Option ℕ → ℕ → Option Told
told_of hash counters sites = option_map (λ (h : ℕ). record { hash = h; counters = counters; sites = sites }) hash

module _ (name : List ℕ) where
  abbrev shows : Option Test → Option Refusal
  shows o = option_map (refused_for name) o

  index_is : (n c : ℕ) → shows (index_fault n c) ≡ first_of (cond (nat_lt c n) [] (IndexPast name c n ∷ []))
  index_is n c = by (nat_lt c n)
    where
      by : (b : Bool) → shows (cond b None (Some (Index c n))) ≡ first_of (cond b [] (IndexPast name c n ∷ []))
      by true = refl
      by false = refl

  counts_is : (p : Option ℕ) (hash sites n c : ℕ) → shows (first_failed (count_fault (told_of (Some hash) p sites) n) (index_fault n c)) ≡ first_of (differs (CountDiffers name) p n ++ cond (nat_lt c n) [] (IndexPast name c n ∷ []))
  counts_is None hash sites n c = index_is n c
  counts_is (Some first) hash sites n c = by (first == n)
    where
      by : (b : Bool) → shows (first_failed (cond b None (Some (Count first n))) (index_fault n c)) ≡ first_of (cond b [] (CountDiffers name first n ∷ []) ++ cond (nat_lt c n) [] (IndexPast name c n ∷ []))
      by true = index_is n c
      by false = refl

  hash_is : (first h : ℕ) (later : Option Test) (rest : List Refusal) → shows later ≡ first_of rest → shows (first_failed (cond (first == h) None (Some (Hash first h))) later) ≡ first_of (cond (first == h) [] (HashDiffers name first h ∷ []) ++ rest)
  hash_is first h later rest e = by (first == h)
    where
      by : (b : Bool) → shows (first_failed (cond b None (Some (Hash first h))) later) ≡ first_of (cond b [] (HashDiffers name first h ∷ []) ++ rest)
      by true = e
      by false = refl

  rise_is : (o p : Option ℕ) (sites h n c : ℕ) → (o ≡ None → p ≡ None) → shows (first_failed (hash_fault (told_of o p sites) h) (first_failed (count_fault (told_of o p sites) n) (index_fault n c))) ≡ first_of (differs (HashDiffers name) o h ++ (differs (CountDiffers name) p n ++ cond (nat_lt c n) [] (IndexPast name c n ∷ [])))
  rise_is None None sites h n c none = index_is n c
  rise_is None (Some first) sites h n c none = absurd (let e : Some first ≡ None = none refl in cc)
  rise_is (Some first) p sites h n c none = hash_is first h (first_failed (count_fault (told_of (Some first) p sites) n) (index_fault n c)) (differs (CountDiffers name) p n ++ cond (nat_lt c n) [] (IndexPast name c n ∷ [])) (counts_is p first sites n c)

  note_is : (o p : Option ℕ) (sites h : ℕ) → shows (first_failed (hash_fault (told_of o p sites) h) None) ≡ first_of (differs (HashDiffers name) o h ++ [])
  note_is None p sites h = refl
  note_is (Some first) p sites h = hash_is first h None [] refl

test_is : (asks : List Asked) (name : List ℕ) (a : Asked) → option_map (refused_for name) (test_failed (all_told (symbol_asked a) asks) a) ≡ first_of (failed_by asks name a)
test_is asks name (Rise s h n c amount) = rise_is name (hash_told s asks) (counters_told s asks) (reported (sites_told s asks)) h n c (none_told (asked_of s asks))
test_is asks name (Note s h target j) = note_is name (hash_told s asks) (counters_told s asks) (reported (sites_told s asks)) h

-- ---- lists

module _ {X Y Z : Type 0} (f : Y → Z) (g : X → Option Y) (h : X → Option Z) (same : (x : X) → option_map f (g x) ≡ h x) where
  mapped_first : (xs : List X) → option_map f (first_of (filter_map g xs)) ≡ first_of (filter_map h xs)
  mapped_first [] = refl
  mapped_first (x ∷ xs) = by (g x) (h x) (same x) (mapped_first xs)
    where
      by : (o : Option Y) (r : Option Z) → option_map f o ≡ r → option_map f (first_of (filter_map g xs)) ≡ first_of (filter_map h xs) → option_map f (first_of (cons_option o (filter_map g xs))) ≡ first_of (cons_option r (filter_map h xs))
      by None None e rest = rest
      by None (Some z) e rest = absurd (cc)
      by (Some y) None e rest = absurd (cc)
      by (Some y) (Some z) e rest = e

-- ---- units that value notes alone name

module _ (asks : List Asked) (told : List ℕ → Option Told) (is : (q : List ℕ) → told q ≡ all_told q asks) where
  module _ (g : Global1) (gs : List Global1) (same : first_alone told gs ≡ first_of (filter_map (noted_alone asks) (filter (names_used asks) gs))) where
    abbrev later : List Refusal
    later = filter_map (noted_alone asks) (filter (names_used asks) gs)

    abbrev left : Bool → Option Told → Option Refusal
    left b t = option_map (λ (k : Global1). NoIncrement (name_held k)) (cond (b && has_none t) (Some g) (find (lacks_counters told) gs))

    abbrev right : Bool → Option ℕ → Option Refusal
    right named p = first_of (cond named (cons_option (without_counters g p) later) later)

    by_parts : (b : Bool) (o p : Option ℕ) (sites : ℕ) → left b (told_of o p sites) ≡ right (b && is_some o) p
    by_parts false o p sites = same
    by_parts true None p sites = same
    by_parts true (Some hash) None sites = refl
    by_parts true (Some hash) (Some c) sites = same

    in_list : (named : Bool) → first_of (filter_map (noted_alone asks) (cond named (g ∷ filter (names_used asks) gs) (filter (names_used asks) gs))) ≡ right named (counters_told g.name asks)
    in_list true = refl
    in_list false = refl

    alone_next : first_alone told (g ∷ gs) ≡ first_of (filter_map (noted_alone asks) (filter (names_used asks) (g ∷ gs)))
    alone_next =
        ap (left (is_unit_name g.name)) (is g.name)
        ∙ by_parts (is_unit_name g.name) (hash_told g.name asks) (counters_told g.name asks) (reported (sites_told g.name asks))
        ∙ sym (ap (λ (n : Bool). right (is_unit_name g.name && n) (counters_told g.name asks)) (is_named g.name asks (hash_told g.name asks) refl))
        ∙ sym (in_list (names_used asks g))

  alone_is : (gs : List Global1) → first_alone told gs ≡ first_of (filter_map (noted_alone asks) (filter (names_used asks) gs))
  alone_is [] = refl
  alone_is (g ∷ gs) = alone_next g gs (alone_is gs)

  fault_is : (globals : List Global1) (a : Asked) → option_map (refused globals) (fault_of told a) ≡ failed asks globals a
  fault_is globals a =
      ap (λ (t : Option Told). option_map (refused globals) (option_map (λ (test : Test). (symbol_asked a, test)) (test_failed t a))) (is (symbol_asked a))
      ∙ by (test_failed (all_told (symbol_asked a) asks) a)
      ∙ test_is asks (name_of_unit globals (symbol_asked a)) a
    where
      by : (o : Option Test) → option_map (refused globals) (option_map (λ (test : Test). (symbol_asked a, test)) o) ≡ option_map (refused_for (name_of_unit globals (symbol_asked a))) o
      by None = refl
      by (Some test) = refl

-- ---- the answer

module _ (m : Module) (told : List ℕ → Option Told) (is : (q : List ℕ) → told q ≡ all_told q (all_asked m)) where
  abbrev asks : List Asked
  asks = all_asked m

  abbrev alone : List Refusal
  alone = filter_map (noted_alone asks) (filter (names_used asks) m.globals)

  faults_are : option_map (refused m.globals) (first_fault told asks) ≡ first_of (filter_map (failed asks m.globals) asks)
  faults_are = mapped_first (refused m.globals) (fault_of told) (failed asks m.globals) (fault_is asks told is m.globals) asks

  pub refused_by : (fault : List ℕ × Test) → Some fault ≡ first_fault told asks → Some (refused m.globals fault) ≡ refusal m
  refused_by fault e = first_found (filter_map (failed asks m.globals) asks) alone (refused m.globals fault) (ap (λ (o : Option (List ℕ × Test)). option_map (refused m.globals) o) e ∙ faults_are)

  pub refused_alone : None ≡ first_fault told asks → first_alone told m.globals ≡ refusal m
  refused_alone e = alone_is asks told is m.globals ∙ sym (first_past (filter_map (failed asks m.globals) asks) alone (ap (λ (o : Option (List ℕ × Test)). option_map (refused m.globals) o) e ∙ faults_are))
