-- Worked examples of profile texts: what they spell, and what spells nothing.
use Rattle.std.specs.Prelude.{ℕ, true, false, List, [], ◌∷◌, codes}
use Rattle.prof_view.specs.Profile.{ProfileRecord, ProfileInput}
use Rattle.prof_view.specs.Spelled.{Spells}

-- a record without sites
abbrev pub plain : List ℕ → ℕ → List ℕ → ProfileRecord
plain name hash counters = record { name = name; hash = hash; counters = counters; sites = [] }

abbrev pub with_sites : List ℕ → ℕ → List ℕ → List (List (List ℕ × ℕ)) → ProfileRecord
with_sites name hash counters sites = record { name = name; hash = hash; counters = counters; sites = sites }

abbrev pub block_mode : List ProfileRecord → ProfileInput
block_mode records = record { entry_first = false; records = records }

abbrev pub entry_mode : List ProfileRecord → ProfileInput
entry_mode records = record { entry_first = true; records = records }

-- A text that spells a profile, and this one
pub record SpelledExamples : Type 0 where
  pub nothing : Spells [] (block_mode [])
  pub header_alone : Spells (codes ":ir") (block_mode [])
  -- header lines in any case, in any order and number, among comments and empty lines
  pub header : Spells (codes "\n:Entry_First\n# x\n\n:IR\n:ir\n") (entry_mode [])
  pub no_header : Spells (codes "f\n1\n1\n5\n") (block_mode (plain (codes "f") 1 (5 ∷ []) ∷ []))
  -- blanks at the ends of lines, comments behind blanks, and no line feed at the end
  pub blanks : Spells (codes " f \r\n\t7\n  # x\n2\n\r\n5 \n\t6") (block_mode (plain (codes "f") 7 (5 ∷ 6 ∷ []) ∷ []))
  -- a name has blanks and colons inside, and may end in digits
  pub name_inside : Spells (codes "a b:c 12\n1\n1\n5") (block_mode (plain (codes "a b:c 12") 1 (5 ∷ []) ∷ []))
  pub hexadecimal : Spells (codes "f\n0x1fA\n1\n5") (block_mode (plain (codes "f") 506 (5 ∷ []) ∷ []))
  -- a leading zero makes no other notation
  pub leading_zeros : Spells (codes "f\n010\n01\n007") (block_mode (plain (codes "f") 10 (7 ∷ []) ∷ []))
  pub greatest : Spells (codes "f\n0xffffffffffffffff\n1\n18446744073709551615") (block_mode (plain (codes "f") 18446744073709551615 (18446744073709551615 ∷ []) ∷ []))
  -- records stay in the order of the text, also two of one key
  pub two_records : Spells (codes "f\n1\n1\n5\n\nf\n1\n1\n6\n") (block_mode (plain (codes "f") 1 (5 ∷ []) ∷ plain (codes "f") 1 (6 ∷ []) ∷ []))
  -- a target is cut at its last colon, and a site may have none
  pub targets : Spells (codes "f\n1\n1\n5\n1\n0\n2\n2\na:b:9\ng:3\n0\n") (block_mode (with_sites (codes "f") 1 (5 ∷ []) (((codes "a:b", 9) ∷ (codes "g", 3) ∷ []) ∷ [] ∷ []) ∷ []))
  pub no_sites : Spells (codes "f\n1\n1\n5\n1\n0\n0\n") (block_mode (plain (codes "f") 1 (5 ∷ []) ∷ []))
  -- kinds 1 and 2 are read past
  pub kinds : Spells (codes "f\n1\n1\n5\n3\n2\n1\n1\nv:7\n0\n1\n1\ng:4\n1\n2\n0\n1\n8:2\nh\n2\n1\n6\n") (block_mode (with_sites (codes "f") 1 (5 ∷ []) (((codes "g", 4) ∷ []) ∷ []) ∷ plain (codes "h") 2 (6 ∷ []) ∷ []))
  pub kind_2_alone : Spells (codes "f\n1\n1\n5\n1\n2\n1\n1\nv:7\n") (block_mode (plain (codes "f") 1 (5 ∷ []) ∷ []))

abbrev pub IsRefused : List ℕ → Type 0
IsRefused text = (p : ProfileInput) → Spells text p → ⊥

-- A text that spells no profile
pub record RefusedExamples : Type 0 where
  pub other_header : IsRefused (codes ":csir\n")
  pub late_header : IsRefused (codes "f\n1\n1\n5\n:ir\n")
  pub digits_name : IsRefused (codes "12\n1\n1\n5")
  pub tab_in_name : IsRefused (codes "a\tb\n1\n1\n5")
  pub name_alone : IsRefused (codes "f\n")
  pub ends_early : IsRefused (codes "f\n1\n2\n3")
  pub no_counters : IsRefused (codes "f\n1\n0")
  pub many_counters : IsRefused (codes "f\n1\n1048577")
  pub too_large : IsRefused (codes "f\n1\n1\n18446744073709551616")
  pub plus_sign : IsRefused (codes "f\n1\n1\n+5")
  pub bare_prefix : IsRefused (codes "f\n0x\n1\n5")
  pub capital_prefix : IsRefused (codes "f\n0X1\n1\n5")
  pub hexadecimal_counter : IsRefused (codes "f\n1\n1\n0x5")
  pub digits_behind : IsRefused (codes "f\n1\n1\n5\n6\n")
  pub kind_0_twice : IsRefused (codes "f\n1\n1\n5\n2\n0\n0\n0\n0\n")
  pub kind_3 : IsRefused (codes "f\n1\n1\n5\n1\n3\n0\n")
  pub no_kinds : IsRefused (codes "f\n1\n1\n5\n0\n")
  pub four_kinds : IsRefused (codes "f\n1\n1\n5\n4\n0\n0\n1\n0\n2\n0\n")
  pub many_sites : IsRefused (codes "f\n1\n1\n5\n1\n0\n65537\n")
  pub no_colon : IsRefused (codes "f\n1\n1\n5\n1\n0\n1\n1\ng\n")
  pub no_count : IsRefused (codes "f\n1\n1\n5\n1\n0\n1\n1\ng:\n")
  pub no_target_name : IsRefused (codes "f\n1\n1\n5\n1\n0\n1\n1\n:4\n")
  pub target_begins_with_colon : IsRefused (codes "f\n1\n1\n5\n1\n0\n1\n1\n:g:4\n")
