use Rattle.std.proofs.Common.{refl}
use Rattle.std.specs.Prelude.{codes}
use Rattle.prof_view.specs.Lines.{trim, content}
use Rattle.prof_view.specs.Words.{numeral, number_within, hash_of, name_of, header_of, target_of}
use Rattle.prof_view.specs.Grammar.{header_line, name_line, hash_line, number_line, number_line_within, target_line, site, unseen_kind, kind_sites, value_data, head, values_ahead, record_ahead, header_ahead, mode_ahead, records_ahead, profile_ahead}
use Rattle.prof_view.proofs.AgreeLemmas.{nothing_spelled}
use Rattle.prof_view.proofs.laws.refused_examples.Goals as goal

pub returns : goal.returns
unfolding trim content numeral number_within hash_of name_of header_of target_of header_line name_line hash_line number_line number_line_within target_line site unseen_kind kind_sites value_data head values_ahead record_ahead header_ahead mode_ahead records_ahead profile_ahead
returns c = record {
  other_header = nothing_spelled (codes ":csir\n") refl;
  late_header = nothing_spelled (codes "f\n1\n1\n5\n:ir\n") refl;
  digits_name = nothing_spelled (codes "12\n1\n1\n5") refl;
  tab_in_name = nothing_spelled (codes "a\tb\n1\n1\n5") refl;
  name_alone = nothing_spelled (codes "f\n") refl;
  ends_early = nothing_spelled (codes "f\n1\n2\n3") refl;
  no_counters = nothing_spelled (codes "f\n1\n0") refl;
  many_counters = nothing_spelled (codes "f\n1\n1048577") refl;
  too_large = nothing_spelled (codes "f\n1\n1\n18446744073709551616") refl;
  plus_sign = nothing_spelled (codes "f\n1\n1\n+5") refl;
  bare_prefix = nothing_spelled (codes "f\n0x\n1\n5") refl;
  capital_prefix = nothing_spelled (codes "f\n0X1\n1\n5") refl;
  hexadecimal_counter = nothing_spelled (codes "f\n1\n1\n0x5") refl;
  digits_behind = nothing_spelled (codes "f\n1\n1\n5\n6\n") refl;
  kind_0_twice = nothing_spelled (codes "f\n1\n1\n5\n2\n0\n0\n0\n0\n") refl;
  kind_3 = nothing_spelled (codes "f\n1\n1\n5\n1\n3\n0\n") refl;
  no_kinds = nothing_spelled (codes "f\n1\n1\n5\n0\n") refl;
  four_kinds = nothing_spelled (codes "f\n1\n1\n5\n4\n0\n0\n1\n0\n2\n0\n") refl;
  many_sites = nothing_spelled (codes "f\n1\n1\n5\n1\n0\n65537\n") refl;
  no_colon = nothing_spelled (codes "f\n1\n1\n5\n1\n0\n1\n1\ng\n") refl;
  no_count = nothing_spelled (codes "f\n1\n1\n5\n1\n0\n1\n1\ng:\n") refl;
  no_target_name = nothing_spelled (codes "f\n1\n1\n5\n1\n0\n1\n1\n:4\n") refl;
  target_begins_with_colon = nothing_spelled (codes "f\n1\n1\n5\n1\n0\n1\n1\n:g:4\n") refl;
}
