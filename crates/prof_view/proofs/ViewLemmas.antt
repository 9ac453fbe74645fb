-- The header and the records, read one after the other.
use Rattle.std.proofs.Common.{◌≡◌, ◌<◌, Bool, true, false, ◌||◌, List, [], ◌∷◌, ◌++◌, length, Option, Some, None, refl, sym, ◌∙◌, ap, append_assoc, append-nil}
use Rattle.std.specs.Option.{option_map}
use Rattle.std.specs.List.{list_any}
use Rattle.ir_grammar.specs.Rules.{read_then}
use Rattle.prof_view.specs.Profile.{ProfileRecord}
use Rattle.prof_view.specs.Lines.{Lines}
use Rattle.prof_view.specs.Words.{begins_colon}
use Rattle.prof_view.specs.Grammar.{next_is, any_line, header_line, header_takes, header_ahead, mode_ahead, record_ahead, record_takes, records_ahead}
use Rattle.prof_view.proofs.ManyLemmas.{in_front, many_step, many_none, many_end}

-- # The header

abbrev or_any : Bool → List Bool × Lines → Bool × Lines
or_any so_far p = (so_far || list_any (λ flag. flag) p.0, p.1)

-- the mode that the header comes to, where lines before it came to this one
unfoldable pub mode_from : Bool → Lines → Option (Bool × Lines)
mode_from so_far lines = option_map (or_any so_far) (header_ahead.read lines)

or_more : (a b : Bool) (o : Option (List Bool × Lines)) → option_map (or_any a) (in_front (b ∷ []) o) ≡ option_map (or_any (a || b)) o
or_more a b None = refl
or_more true b (Some p) = refl
or_more false true (Some p) = refl
or_more false false (Some p) = refl

pub mode_step : (so_far : Bool) (lines : Lines) (flag : Bool) (rest : Lines) → next_is begins_colon lines ≡ true → header_line.read lines ≡ Some (flag, rest) → mode_from so_far lines ≡ mode_from (so_far || flag) rest
unfolding mode_from header_ahead
mode_step so_far lines flag rest b e = ap (option_map (or_any so_far)) (many_step (next_is begins_colon) header_line header_takes lines flag rest b e) ∙ or_more so_far flag (header_ahead.read rest)

pub mode_none : (so_far : Bool) (lines : Lines) → next_is begins_colon lines ≡ true → header_line.read lines ≡ None → mode_from so_far lines ≡ None
unfolding mode_from header_ahead
mode_none so_far lines b e = ap (option_map (or_any so_far)) (many_none (next_is begins_colon) header_line header_takes lines b e)

or_false : (a : Bool) (lines : Lines) → ◌≡◌ {A = Option (Bool × Lines)} (Some (a || false, lines)) (Some (a, lines))
or_false true lines = refl
or_false false lines = refl

pub mode_end : (so_far : Bool) (lines : Lines) → next_is begins_colon lines ≡ false → mode_from so_far lines ≡ Some (so_far, lines)
unfolding mode_from header_ahead
mode_end so_far lines b = ap (option_map (or_any so_far)) (many_end (next_is begins_colon) header_line header_takes lines b) ∙ or_false so_far lines

whole_mode : (o : Option (List Bool × Lines)) → read_then o (λ flags rest. Some (list_any (λ flag. flag) flags, rest)) ≡ option_map (or_any false) o
whole_mode None = refl
whole_mode (Some p) = refl

pub mode_is : (lines : Lines) → mode_ahead.read lines ≡ mode_from false lines
unfolding mode_ahead mode_from
mode_is lines = whole_mode (header_ahead.read lines)

pub header_shorter : (lines : Lines) (flag : Bool) (rest : Lines) → header_line.read lines ≡ Some (flag, rest) → length rest < length lines
header_shorter lines flag rest e = header_takes.fewer lines flag rest (header_line.sound lines flag rest e)

-- # The records

-- these records and those that are read from the lines
unfoldable pub records_from : List ProfileRecord → Lines → Option (List ProfileRecord × Lines)
records_from found lines = in_front found (records_ahead.read lines)

one_more : (found : List ProfileRecord) (r : ProfileRecord) (o : Option (List ProfileRecord × Lines)) → in_front found (in_front (r ∷ []) o) ≡ in_front (found ++ r ∷ []) o
one_more found r None = refl
one_more found r (Some p) = ap (λ xs. Some (xs, p.1)) (sym (append_assoc found (r ∷ []) p.0))

pub records_step : (found : List ProfileRecord) (lines : Lines) (r : ProfileRecord) (rest : Lines) → any_line lines ≡ true → record_ahead.read lines ≡ Some (r, rest) → records_from found lines ≡ records_from (found ++ r ∷ []) rest
unfolding records_from records_ahead
records_step found lines r rest b e = ap (in_front found) (many_step any_line record_ahead record_takes lines r rest b e) ∙ one_more found r (records_ahead.read rest)

pub records_none : (found : List ProfileRecord) (lines : Lines) → any_line lines ≡ true → record_ahead.read lines ≡ None → records_from found lines ≡ None
unfolding records_from records_ahead
records_none found lines b e = ap (in_front found) (many_none any_line record_ahead record_takes lines b e)

no_line : (lines : Lines) → any_line lines ≡ false → lines ≡ []
no_line [] b = refl
no_line (line ∷ lines) b = absurd (cc)

pub records_end : (found : List ProfileRecord) (lines : Lines) → any_line lines ≡ false → records_from found lines ≡ Some (found, [])
unfolding records_from records_ahead
records_end found lines b =
    ap (in_front found) (many_end any_line record_ahead record_takes lines b)
    ∙ ap (λ xs. Some (xs, lines)) (append-nil found) ∙ ap (λ rest. Some (found, rest)) (no_line lines b)

none_found : (o : Option (List ProfileRecord × Lines)) → o ≡ in_front [] o
none_found None = refl
none_found (Some p) = refl

pub records_are : (lines : Lines) → records_ahead.read lines ≡ records_from [] lines
unfolding records_from
records_are lines = none_found (records_ahead.read lines)

-- a record takes a line
pub record_shorter : (lines : Lines) (r : ProfileRecord) (rest : Lines) → record_ahead.read lines ≡ Some (r, rest) → length rest < length lines
record_shorter lines r rest e = record_takes.fewer lines r rest (record_ahead.sound lines r rest e)
