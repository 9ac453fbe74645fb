use Rattle.std.proofs.Common.{ℕ, Bool, eqb, List, Option, Some}
use Rattle.std.specs.Char.{is_ascii_digit}
use Rattle.ir_tree.specs.Spelling.{is_word_first, is_name_first, is_name_byte, is_quotable}
use Rattle.ir_lex.specs.Classes.{is_string_byte, is_sign}
use Rattle.ir_lex.specs.declared.token.TokenKind.{TokenKind}
use Rattle.ir_lex.specs.declared.token.TokenKind.TheVariants.{Word, Number, Global, Local, Label, Str, Bytes, Group, Mark, Sign}
use Rattle.ir_lex.specs.Spelling.{ends, one, byte, many, either, is_digits, is_plain_name, is_quoted_name, is_quoted_symbol, is_plain_label, is_digit_label, is_quoted_label, is_byte_content, spells}
use Rattle.ir_lex.specs.Scan.{one_rest, many_rest, byte_rest, either_rest, digits_rest, plain_name_rest, quoted_name_rest, quoted_symbol_rest, plain_label_rest, digit_label_rest, quoted_label_rest, content_rest, word_rest, number_rest, global_rest, local_rest, label_rest, string_rest, bytes_rest, group_rest, rest_of, front}
use Rattle.ir_lex.proofs.Fronts.{IsFront, IsMost, ends_front, one_front, many_front, either_front, content_front, taken_is_most}

abbrev Fronts : (List ℕ → Bool) → (List ℕ → Option (List ℕ)) → Type 0
Fronts test rest = (s : List ℕ) → IsFront test s (rest s)

-- a run of at least one byte
run_front : (first others : ℕ → Bool) → Fronts (one first (many others ends)) (one_rest first (many_rest others Some))
run_front first others =
    one_front first (many others ends) (many_rest others Some) (many_front others ends Some ends_front)

-- a byte, and then what the other test says
byte_front : (c : ℕ) (test : List ℕ → Bool) (rest : List ℕ → Option (List ℕ)) → Fronts test rest → Fronts (byte c test) (byte_rest c rest)
byte_front c test rest f = one_front (λ b. eqb b c) test rest f

-- a run of at least one byte that some other spelling follows
run_then : (first others : ℕ → Bool) (test : List ℕ → Bool) (rest : List ℕ → Option (List ℕ)) → Fronts test rest → Fronts (one first (many others test)) (one_rest first (many_rest others rest))
run_then first others test rest f =
    one_front first (many others test) (many_rest others rest) (many_front others test rest f)

quote_front : Fronts (byte 34 ends) (byte_rest 34 Some)
quote_front = byte_front 34 ends Some ends_front

colon_front : Fronts (byte 58 ends) (byte_rest 58 Some)
colon_front = byte_front 58 ends Some ends_front

digits_front : Fronts is_digits digits_rest
digits_front = run_front is_ascii_digit is_ascii_digit

plain_name_front : Fronts is_plain_name plain_name_rest
plain_name_front = run_front is_name_first is_name_byte

quoted_name_front : Fronts is_quoted_name quoted_name_rest
quoted_name_front =
    byte_front 34 _ _ (run_then is_quotable is_quotable (byte 34 ends) (byte_rest 34 Some) quote_front)

quoted_symbol_front : Fronts is_quoted_symbol quoted_symbol_rest
quoted_symbol_front =
    byte_front 34 _ _ (many_front is_ascii_digit (one is_quotable (many is_quotable (byte 34 ends))) (one_rest is_quotable (many_rest is_quotable (byte_rest 34 Some))) (run_then is_quotable is_quotable (byte 34 ends) (byte_rest 34 Some) quote_front))

pub plain_label_front : Fronts is_plain_label plain_label_rest
plain_label_front = run_then is_name_first is_name_byte (byte 58 ends) (byte_rest 58 Some) colon_front

digit_label_front : Fronts is_digit_label digit_label_rest
digit_label_front = run_then is_ascii_digit is_ascii_digit (byte 58 ends) (byte_rest 58 Some) colon_front

quoted_label_front : Fronts is_quoted_label quoted_label_rest
quoted_label_front =
    byte_front 34 _ _ (run_then is_quotable is_quotable (byte 34 (byte 58 ends)) (byte_rest 34 (byte_rest 58 Some)) (byte_front 34 (byte 58 ends) (byte_rest 58 Some) colon_front))

pub spells_front : (kind : TokenKind) → Fronts (spells kind) (rest_of kind)
unfolding word_rest number_rest global_rest local_rest label_rest string_rest bytes_rest group_rest
spells_front Word = run_front is_word_first is_name_byte
spells_front Number =
    either_front is_digits (byte 45 is_digits) digits_rest (byte_rest 45 digits_rest) digits_front (byte_front 45 is_digits digits_rest digits_front)
spells_front Global =
    byte_front 64 _ _ (either_front is_plain_name is_quoted_symbol plain_name_rest quoted_symbol_rest plain_name_front quoted_symbol_front)
spells_front Local =
    byte_front 37 _ _ (either_front is_plain_name (either is_digits is_quoted_name) plain_name_rest (either_rest digits_rest quoted_name_rest) plain_name_front (either_front is_digits is_quoted_name digits_rest quoted_name_rest digits_front quoted_name_front))
spells_front Label =
    either_front is_plain_label (either is_digit_label is_quoted_label) plain_label_rest (either_rest digit_label_rest quoted_label_rest) plain_label_front (either_front is_digit_label is_quoted_label digit_label_rest quoted_label_rest digit_label_front quoted_label_front)
spells_front Str = byte_front 34 _ _ (many_front is_string_byte (byte 34 ends) (byte_rest 34 Some) quote_front)
spells_front Bytes = byte_front 99 _ _ (byte_front 34 (is_byte_content 0) (content_rest 0) (content_front 0))
spells_front Group = byte_front 35 is_digits digits_rest digits_front
spells_front Mark = byte_front 33 ends Some ends_front
spells_front Sign = one_front is_sign ends Some ends_front

-- `front` is the length of the longest token of its kind
pub front_is_most : (kind : TokenKind) (text : List ℕ) → IsMost (spells kind) text (front kind text)
unfolding front
front_is_most kind text = taken_is_most (spells kind) text (rest_of kind text) (spells_front kind text)
