-- The globals of the lowered module are well formed: those of the module, and the counters and data of each unit.
use Rattle.std.proofs.Common.{◌≡◌, ℕ, zero, suc, ◌==◌, ◌^◌, ◌⊎◌, inl, inr, Bool, true, false, ◌&&◌, not, cond, nat_le, List, [], ◌∷◌, ◌++◌, drop, length, Option, Some, None, refl, sym, ap, subst, ◌∙◌, arith, codes}
use Rattle.std.specs.Prelude.{unwrap_or}
use Rattle.std.specs.Char.{is_ascii_digit}
use Rattle.std.specs.List.{list_all, list_any}
use Rattle.std.proofs.lemmas.Bool.{and_from, and_parts, eq-eqb, leb-true, lt-ltb, ne_eqb, or_right}
use Rattle.ir_rules.specs.Initialisers.{has_hash, holds_counters_well, holds_data_well, initialises, is_external, is_record_name, tells_counters, tells_if_any, tells_unit}
use Rattle.ir_rules.specs.Intrinsics.{is_counter_total}
use Rattle.ir_rules.specs.Kinds.{is_unit_counters, is_unit_data, is_unit_name, kind_of, unit_of}
use Rattle.ir_rules.specs.Lists.{Among, is_among}
use Rattle.ir_rules.specs.Reserved.{is_of_intrinsics, is_reserved_variable}
use Rattle.ir_rules.specs.Scopes.{is_of_profile, is_program_symbol, symbols}
use Rattle.ir_rules.specs.Units.{Data, data_of, text_of}
use Rattle.ir_rules.specs.WellFormed.{GlobalFormed, is_record_text, is_unit_global}
use Rattle.ir_rules.specs.declared.place.Kind.{Kind}
use Rattle.ir_tree.specs.Names.{same}
use Rattle.ir_tree.specs.Spelling.{is_empty, is_global_name, is_local_name, is_quotable}
use Rattle.ir_tree.specs.Types.{is_integer_of}
use Rattle.ir_tree.specs.declared.types.Global1.{Global1}
use Rattle.ir_tree.specs.declared.types.Module.{Module}
use Rattle.ir_tree.specs.declared.types.Ty.TheVariants.{I64}
use Rattle.lowered_rules.proofs.Data.{data_are, is_typed_data, nothing_named}
use Rattle.lowered_rules.proofs.HashSmall.{hash_small}
use Rattle.lowered_rules.proofs.Listed.{Name, among_either, among_is, among_left, among_right, any_of, filter_among, flat_among, is_member, same_self}
use Rattle.lowered_rules.proofs.Symbols.{counters_named, counters_no_unit, data_named, data_no_counters, data_no_unit, kind_is, program_kept, unit_front, variable_free}
use Rattle.lowered_rules.proofs.Told.{told, unit_parts}
use Rattle.lowered_rules.specs.Kept.{IsLowerable, IsTold}
use Rattle.lowering.specs.Asked.{Asked, all_asked}
use Rattle.lowering.specs.Lowered.{lowered}
use Rattle.lowering.specs.Units.{counters_global, counters_symbol, counters_told, data_global, data_symbol, hash_told, name_held, names_used, new_globals, sites_told, unit_globals}
use Rattle.pgo_base.specs.Hash.{hash8}

-- ---- names

all_more : (test : ℕ → Bool) (xs ys : Name) → list_all test xs ≡ true → list_all test ys ≡ true → list_all test (xs ++ ys) ≡ true
all_more test [] ys h k = k
all_more test (x ∷ xs) ys h k = (let p = and_parts (test x) (list_all test xs) h in and_from (test x) (list_all test (xs ++ ys)) p.0 (all_more test xs ys p.1 k))

all_behind : (test : ℕ → Bool) (k : ℕ) (xs : Name) → list_all test xs ≡ true → list_all test (drop k xs) ≡ true
all_behind test zero xs h = h
all_behind test (suc k) [] h = h
all_behind test (suc k) (x ∷ xs) h = all_behind test k xs (and_parts (test x) (list_all test xs) h).1

quotable : (n : Name) → is_global_name n ≡ true → list_all is_quotable n ≡ true
unfolding is_global_name is_local_name
quotable n h = (and_parts (not (is_empty n)) (list_all is_quotable n) (and_parts (not (is_empty n) && list_all is_quotable n) (not (list_all is_ascii_digit n)) h).0).1

counters_quotable : list_all is_quotable (codes "__profc_") ≡ true
unfolding is_quotable
counters_quotable = refl

data_quotable : list_all is_quotable (codes "__profd_") ≡ true
unfolding is_quotable
data_quotable = refl

counters_spelled : (s : Name) → is_global_name s ≡ true → is_global_name (counters_symbol s) ≡ true
unfolding is_global_name is_local_name
counters_spelled s h = and_from (not (is_empty (counters_symbol s)) && list_all is_quotable (counters_symbol s)) (not (list_all is_ascii_digit (counters_symbol s))) (and_from (not (is_empty (counters_symbol s))) (list_all is_quotable (counters_symbol s)) (ap not (ne_eqb (length (counters_symbol s)) 0 (omega arith))) (all_more is_quotable (codes "__profc_") (unit_of s) counters_quotable (all_behind is_quotable 8 s (quotable s h)))) refl

data_spelled : (s : Name) → is_global_name s ≡ true → is_global_name (data_symbol s) ≡ true
unfolding is_global_name is_local_name
data_spelled s h = and_from (not (is_empty (data_symbol s)) && list_all is_quotable (data_symbol s)) (not (list_all is_ascii_digit (data_symbol s))) (and_from (not (is_empty (data_symbol s))) (list_all is_quotable (data_symbol s)) (ap not (ne_eqb (length (data_symbol s)) 0 (omega arith))) (all_more is_quotable (codes "__profd_") (unit_of s) data_quotable (all_behind is_quotable 8 s (quotable s h)))) refl

counters_no_intrinsic : (s : Name) → is_of_intrinsics (counters_symbol s) ≡ false
unfolding is_of_intrinsics
counters_no_intrinsic s = refl

data_no_intrinsic : (s : Name) → is_of_intrinsics (data_symbol s) ≡ false
unfolding is_of_intrinsics
data_no_intrinsic s = refl

-- ---- texts

-- the name that a unit's global holds, with its hash
held_text : (o : Option Name) → is_record_text o ≡ true → has_hash (hash8 (unwrap_or o [])) o ≡ true
unfolding has_hash
held_text None h = absurd (cc)
held_text (Some bytes) h = and_from (is_record_name bytes) (hash8 bytes == hash8 bytes) h (eq-eqb (hash8 bytes) (hash8 bytes) refl)

-- a unit's global of another name holds it, whatever the counters and the data have to
same_text : (a r b c x y v w : Bool) → b ≡ false → c ≡ false → cond a r (cond b x (cond c y true)) ≡ true → cond a r (cond b v (cond c w true)) ≡ true
same_text true r b c x y v w e f h = h
same_text false r true c x y v w e f h = absurd (cc e)
same_text false r false true x y v w e f h = absurd (cc f)
same_text false r false false x y v w e f h = refl

text_first : (a r x : Bool) → a ≡ true → cond a r x ≡ true → r ≡ true
text_first true r x e h = h
text_first false r x e h = absurd (cc e)

module _ (m : Module) (low : IsLowerable m) where
  abbrev n2 : Module
  n2 = lowered m

  abbrev asks : List Asked
  asks = all_asked m

  free_here : (n : Name) → is_of_intrinsics n ≡ false → is_reserved_variable (kind_of n2.functions) n ≡ false
  free_here n off = ap (λ (kind : Kind). is_reserved_variable kind n) (kind_is m) ∙ off

  -- ---- a global of the module

  still_symbol : (n : Name) → is_program_symbol m n ≡ true → is_program_symbol n2 n ≡ true
  still_symbol n h =
      let parts = and_parts (is_among n (symbols m)) (not (is_of_profile m n)) h in
      let kept = program_kept m low n (among_is n (symbols m) parts.0) (off_of (is_of_profile m n) parts.1) in
      and_from (is_among n (symbols n2)) (not (is_of_profile n2 n)) (is_member n (symbols n2) kept.0) (ap not kept.1)
    where
      off_of : (b : Bool) → not b ≡ true → b ≡ false
      off_of true e = absurd (cc)
      off_of false e = refl

  module _ (g : Global1) (at : Among g m.globals) where
    was : GlobalFormed m g
    was = low.formed.global g at

    old_unit : is_unit_global n2 g ≡ true
    unfolding is_unit_global
    old_unit = (let free = (variable_free m low g at).0 in same_text (is_unit_name g.name) (is_record_text (text_of g)) (is_unit_counters g.name) (is_unit_data g.name) (holds_counters_well m g) (holds_data_well m g) (holds_counters_well n2 g) (holds_data_well n2 g) free.counters free.data_ was.of_unit)

    old_formed : GlobalFormed n2 g
    old_formed = record {
      named = was.named;
      free = free_here g.name (variable_free m low g at).1;
      typed = was.typed;
      symbols = λ n there. still_symbol n (was.symbols n there);
      of_unit = old_unit;
    }

    -- ---- the globals of its unit

    module _ (used : names_used asks g ≡ true) where
      abbrev counters : ℕ
      counters = unwrap_or (counters_told g.name asks) 0

      abbrev hash : ℕ
      hash = unwrap_or (hash_told g.name asks) 0

      abbrev sites : ℕ
      sites = sites_told g.name asks

      abbrev first : Global1
      first = counters_global g.name counters

      abbrev second : Global1
      second = data_global g.name (hash8 (name_held g)) hash counters sites

      abbrev data_here : Data
      data_here = record { name_hash = hash8 (name_held g); hash = hash; counters = counters; sites = sites }

      fits : IsTold m g
      fits = told m low g at used

      unit : is_unit_name g.name ≡ true
      unit = (and_parts (is_unit_name g.name) (list_any _ asks) used).0

      first_here : Among first n2.globals
      first_here = among_right m.globals (new_globals asks m.globals) first (unit_parts m low g at used first (inl refl))

      second_here : Among second n2.globals
      second_here = among_right m.globals (new_globals asks m.globals) second (unit_parts m low g at used second (inr (inl refl)))

      text_held : is_record_text (text_of g) ≡ true
      unfolding is_unit_global
      text_held = text_first (is_unit_name g.name) (is_record_text (text_of g)) _ unit was.of_unit

      -- the data tell the unit
      tells : tells_unit n2 (unit_of g.name) data_here ≡ true
      tells =
          and_from (is_counter_total counters) (list_any (λ (h : Global1). same (codes "__profn_" ++ unit_of g.name) h.name && has_hash (hash8 (name_held g)) (text_of h)) n2.globals) fits.counters (
          any_of (λ (h : Global1). same (codes "__profn_" ++ unit_of g.name) h.name && has_hash (hash8 (name_held g)) (text_of h)) n2.globals g (among_left m.globals (new_globals asks m.globals) g at) (
          and_from (same (codes "__profn_" ++ unit_of g.name) g.name) (has_hash (hash8 (name_held g)) (text_of g)) (ap (λ (n : Name). same n g.name) (unit_front g.name unit) ∙ same_self g.name) (held_text (text_of g) text_held)))

      data_is : data_of second ≡ Some data_here
      data_is = data_are g.name (hash8 (name_held g)) hash counters sites

      counters_held : holds_counters_well n2 first ≡ true
      counters_held =
          any_of (λ (h : Global1). same (codes "__profd_" ++ unit_of g.name) h.name && tells_counters n2 (unit_of g.name) counters (data_of h)) n2.globals second second_here (
          and_from (same (codes "__profd_" ++ unit_of g.name) second.name) (tells_counters n2 (unit_of g.name) counters (data_of second)) (same_self (data_symbol g.name)) (
          ap (tells_counters n2 (unit_of g.name) counters) data_is ∙ and_from (tells_unit n2 (unit_of g.name) data_here) (counters == counters) tells (eq-eqb counters counters refl)))

      data_held : holds_data_well n2 second ≡ true
      data_held =
          and_from (tells_if_any n2 (unit_of g.name) (data_of second)) (list_any (λ (c : Global1). same (codes "__profc_" ++ unit_of g.name) c.name) n2.globals) (ap (tells_if_any n2 (unit_of g.name)) data_is ∙ tells) (
          any_of (λ (c : Global1). same (codes "__profc_" ++ unit_of g.name) c.name) n2.globals first first_here (same_self (counters_symbol g.name)))

      first_unit : is_unit_global n2 first ≡ true
      unfolding is_unit_global
      first_unit = (let a = counters_no_unit g.name in let b = counters_named g.name in rw a (rw b counters_held))

      second_unit : is_unit_global n2 second ≡ true
      unfolding is_unit_global
      second_unit = (let a = data_no_unit g.name in let b = data_no_counters g.name in let c = data_named g.name in rw a (rw b (rw c data_held)))

      first_formed : GlobalFormed n2 first
      first_formed = record {
        named = counters_spelled g.name was.named;
        free = free_here (counters_symbol g.name) (counters_no_intrinsic g.name);
        typed = refl;
        symbols = λ n there. absurd there;
        of_unit = first_unit;
      }

      few_counters : is_integer_of I64 counters ≡ true
      unfolding is_counter_total
      few_counters = (let most = leb-true counters 1048576 (and_parts (nat_le 1 counters) (nat_le counters 1048576) fits.counters).1 in lt-ltb counters (2 ^ 64) (omega (arith, most)))

      few_sites : is_integer_of I64 sites ≡ true
      few_sites = (let most = fits.sites in lt-ltb sites (2 ^ 64) (omega (arith, most)))

      small_name : is_integer_of I64 (hash8 (name_held g)) ≡ true
      small_name = lt-ltb (hash8 (name_held g)) (2 ^ 64) (hash_small (name_held g))

      second_formed : GlobalFormed n2 second
      second_formed = record {
        named = data_spelled g.name was.named;
        free = free_here (data_symbol g.name) (data_no_intrinsic g.name);
        typed = or_right (is_external second.init) (initialises second.mem second.init) (is_typed_data g.name (hash8 (name_held g)) hash counters sites small_name fits.hash few_counters few_sites);
        symbols = λ n there. absurd (subst (λ (ns : List Name). Among n ns) (nothing_named g.name (hash8 (name_held g)) hash counters sites) there);
        of_unit = second_unit;
      }

  pub global_formed : (g : Global1) → Among g n2.globals → GlobalFormed n2 g
  global_formed h there = by (among_either m.globals (new_globals asks m.globals) h there)
    where
      of_unit : (g : Global1) → Among g m.globals → names_used asks g ≡ true → Among h (unit_globals asks g) → GlobalFormed n2 h
      of_unit g at used (inl e) = subst (λ (x : Global1). GlobalFormed n2 x) (sym e) (first_formed g at used)
      of_unit g at used (inr (inl e)) = subst (λ (x : Global1). GlobalFormed n2 x) (sym e) (second_formed g at used)
      of_unit g at used (inr (inr none)) = absurd none

      by : Among h m.globals ⊎ Among h (new_globals asks m.globals) → GlobalFormed n2 h
      by (inl at) = old_formed h at
      by (inr new) = (let g = flat_among (unit_globals asks) _ h new in let at = filter_among (names_used asks) m.globals g.0 g.1 in of_unit g.0 at.0 at.1 g.2)
