use Rattle.std.proofs.Common.{refl, [], ◌∷◌}
use Rattle.std.specs.Prelude.{codes}
use Rattle.prof_view.specs.Lines.{trim, content}
use Rattle.prof_view.specs.Words.{numeral, number_within, hash_of, name_of, header_of, target_of}
use Rattle.prof_view.specs.Grammar.{header_line, name_line, hash_line, number_line, number_line_within, target_line, site, unseen_kind, kind_sites, value_data, head, values_ahead, record_ahead, header_ahead, mode_ahead, records_ahead, profile_ahead}
use Rattle.prof_view.specs.Examples.{plain, with_sites, block_mode, entry_mode}
use Rattle.prof_view.proofs.AgreeLemmas.{text_spelled}
use Rattle.prof_view.proofs.laws.spelled_examples.Goals as goal

pub returns : goal.returns
unfolding trim content numeral number_within hash_of name_of header_of target_of header_line name_line hash_line number_line number_line_within target_line site unseen_kind kind_sites value_data head values_ahead record_ahead header_ahead mode_ahead records_ahead profile_ahead
returns c = record {
  nothing = text_spelled [] (block_mode []) refl;
  header_alone = text_spelled (codes ":ir") (block_mode []) refl;
  header = text_spelled (codes "\n:Entry_First\n# x\n\n:IR\n:ir\n") (entry_mode []) refl;
  no_header = text_spelled (codes "f\n1\n1\n5\n") (block_mode (plain (codes "f") 1 (5 ∷ []) ∷ [])) refl;
  blanks = text_spelled (codes " f \r\n\t7\n  # x\n2\n\r\n5 \n\t6") (block_mode (plain (codes "f") 7 (5 ∷ 6 ∷ []) ∷ [])) refl;
  name_inside = text_spelled (codes "a b:c 12\n1\n1\n5") (block_mode (plain (codes "a b:c 12") 1 (5 ∷ []) ∷ [])) refl;
  hexadecimal = text_spelled (codes "f\n0x1fA\n1\n5") (block_mode (plain (codes "f") 506 (5 ∷ []) ∷ [])) refl;
  leading_zeros = text_spelled (codes "f\n010\n01\n007") (block_mode (plain (codes "f") 10 (7 ∷ []) ∷ [])) refl;
  greatest = text_spelled (codes "f\n0xffffffffffffffff\n1\n18446744073709551615") (block_mode (plain (codes "f") 18446744073709551615 (18446744073709551615 ∷ []) ∷ [])) refl;
  two_records = text_spelled (codes "f\n1\n1\n5\n\nf\n1\n1\n6\n") (block_mode (plain (codes "f") 1 (5 ∷ []) ∷ plain (codes "f") 1 (6 ∷ []) ∷ [])) refl;
  targets = text_spelled (codes "f\n1\n1\n5\n1\n0\n2\n2\na:b:9\ng:3\n0\n") (block_mode (with_sites (codes "f") 1 (5 ∷ []) (((codes "a:b", 9) ∷ (codes "g", 3) ∷ []) ∷ [] ∷ []) ∷ [])) refl;
  no_sites = text_spelled (codes "f\n1\n1\n5\n1\n0\n0\n") (block_mode (plain (codes "f") 1 (5 ∷ []) ∷ [])) refl;
  kinds = text_spelled (codes "f\n1\n1\n5\n3\n2\n1\n1\nv:7\n0\n1\n1\ng:4\n1\n2\n0\n1\n8:2\nh\n2\n1\n6\n") (block_mode (with_sites (codes "f") 1 (5 ∷ []) (((codes "g", 4) ∷ []) ∷ []) ∷ plain (codes "h") 2 (6 ∷ []) ∷ [])) refl;
  kind_2_alone = text_spelled (codes "f\n1\n1\n5\n1\n2\n1\n1\nv:7\n") (block_mode (plain (codes "f") 1 (5 ∷ []) ∷ [])) refl;
}
