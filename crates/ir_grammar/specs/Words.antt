-- Rules for one token of a module's text, and tests of the first tokens.
use Rattle.std.specs.Prelude.{ℕ, ◌^◌, Bool, true, false, cond, not, ◌&&◌, List, [], ◌∷◌, Option, Some, None, is_some, nat_eq, nat_lt}
use Rattle.ir_lex.specs.Tokens.{Token, Word, Number, Global, Local, Label, Str, Mark, Sign}
pub use Rattle.ir_tree.specs.Names.{same}
pub use Rattle.ir_tree.specs.Types.{when}
use Rattle.ir_grammar.specs.Rules.{Rule, one, pure, either, many_after, TakesToken, one_takes, then_takes, ◌>>=◌, ◌>>◌}

abbrev pub Tokens : Type 0
Tokens = List Token

-- # Words and signs

abbrev pub is_word : List ℕ → Token → Bool
is_word text (Word w) = same w text
is_word text _ = false

abbrev pub is_any_word : Token → Bool
is_any_word (Word w) = true
is_any_word _ = false

abbrev pub is_sign : ℕ → Token → Bool
is_sign byte (Sign b) = nat_eq b byte
is_sign byte _ = false

abbrev pub is_mark : Token → Bool
is_mark Mark = true
is_mark _ = false

abbrev pub is_label : Token → Bool
is_label (Label _) = true
is_label _ = false

abbrev pub is_local : Token → Bool
is_local (Local _) = true
is_local _ = false

-- a token is left, and it passes the test
abbrev pub first_is : (Token → Bool) → Tokens → Bool
first_is test [] = false
first_is test (t ∷ ts) = test t

-- two tokens are left, and the second of them passes the test
abbrev pub second_is : (Token → Bool) → Tokens → Bool
second_is test [] = false
second_is test (t ∷ ts) = first_is test ts

-- a comma, and a token that passes the test
unfoldable pub behind_comma : (Token → Bool) → Tokens → Bool
behind_comma test ts = first_is (is_sign 44) ts && second_is test ts

-- a token is left
abbrev pub any_left : Tokens → Bool
any_left [] = false
any_left (t ∷ ts) = true

unfoldable pub word : List ℕ → Rule Token (Unit {0})
word text = one (λ t. when (is_word text t) tt)

unfoldable pub sign : ℕ → Rule Token (Unit {0})
sign byte = one (λ t. when (is_sign byte t) tt)

unfoldable pub mark : Rule Token (Unit {0})
mark = one (λ t. when (is_mark t) tt)

-- whether the word stands there; it is taken where it does
unfoldable pub flag : List ℕ → Rule Token Bool
flag text = either (first_is (is_word text)) (word text >> pure true) (pure false)

-- the word where it is allowed, and whether it stands there
abbrev pub flag_where : Bool → List ℕ → Rule Token Bool
flag_where true text = flag text
flag_where false text = pure false

-- # Names

abbrev pub global_name : Token → Option (List ℕ)
global_name (Global name) = Some name
global_name _ = None

abbrev pub local_name : Token → Option (List ℕ)
local_name (Local name) = Some name
local_name _ = None

abbrev pub label_name : Token → Option (List ℕ)
label_name (Label name) = Some name
label_name _ = None

abbrev pub any_word_meaning : Token → Option (Unit {0})
any_word_meaning (Word _) = Some tt
any_word_meaning _ = None

-- whether a word is this one
abbrev pub word_is_meaning : List ℕ → Token → Option Bool
word_is_meaning text (Word w) = Some (same w text)
word_is_meaning text _ = None

unfoldable pub global : Rule Token (List ℕ)
global = one global_name

unfoldable pub local : Rule Token (List ℕ)
local = one local_name

unfoldable pub label : Rule Token (List ℕ)
label = one label_name

unfoldable pub any_word : Rule Token (Unit {0})
any_word = one any_word_meaning

unfoldable pub word_is : List ℕ → Rule Token Bool
word_is text = one (word_is_meaning text)

-- # Numbers and strings

-- any number without a minus sign
abbrev pub number_meaning : Token → Option (Unit {0})
number_meaning (Number minus magnitude) = when (not minus) tt
number_meaning _ = None

unfoldable pub number : Rule Token (Unit {0})
number = one number_meaning

-- a number without a minus sign, below 2^64
abbrev pub count_of : Bool → ℕ → Option ℕ
count_of true magnitude = None
count_of false magnitude = when (nat_lt magnitude (2 ^ 64)) magnitude

abbrev pub count_meaning : Token → Option ℕ
count_meaning (Number minus magnitude) = count_of minus magnitude
count_meaning _ = None

unfoldable pub count : Rule Token ℕ
count = one count_meaning

-- there is a value, and it passes the test
abbrev pub option_is : {A : Type 0} → (A → Bool) → Option A → Bool
option_is test None = false
option_is test (Some x) = test x

-- this very number
unfoldable pub this_count : ℕ → Rule Token (Unit {0})
this_count n = one (λ t. when (option_is (nat_eq n) (count_meaning t)) tt)

abbrev pub string_meaning : Token → Option (Unit {0})
string_meaning (Str _) = Some tt
string_meaning _ = None

unfoldable pub string : Rule Token (Unit {0})
string = one string_meaning

-- Each of these takes a token.
pub word_takes : (text : List ℕ) → TakesToken (word text)
unfolding word
word_takes text = one_takes _

pub sign_takes : (byte : ℕ) → TakesToken (sign byte)
unfolding sign
sign_takes byte = one_takes _

pub mark_takes : TakesToken mark
unfolding mark
mark_takes = one_takes _

pub local_takes : TakesToken local
unfolding local
local_takes = one_takes local_name

pub label_takes : TakesToken label
unfolding label
label_takes = one_takes label_name

-- # Lists

-- the item behind a comma
abbrev pub comma_item : {A : Type 0} → Rule Token A → Rule Token A
comma_item item = sign 44 >> item

pub comma_takes : {A : Type 0} (item : Rule Token A) → TakesToken (comma_item item)
comma_takes item = then_takes _ (sign_takes 44)

-- items behind those that were found, each behind a comma
abbrev pub more_of : {A : Type 0} → Rule Token A → List A → Rule Token (List A)
more_of item found = many_after found (first_is (is_sign 44)) (comma_item item) (comma_takes item)

-- one or more items, parted by commas
abbrev pub some_of : {A : Type 0} → Rule Token A → Rule Token (List A)
some_of item = item >>= λ first. more_of item (first ∷ [])

-- any number of items, parted by commas, and the bracket that closes the list
abbrev pub listed : {A : Type 0} → ℕ → Rule Token A → Rule Token (List A)
listed close item = either (first_is (is_sign close)) (pure []) (some_of item) >>= λ list. sign close >> pure list
