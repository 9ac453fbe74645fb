use Rattle.std.specs.Prelude.{ℕ, Bool, List}

-- A token as the grammar of a module speaks of it: what its bytes mean, and no longer how they are spelled.
pub data Token : Type 0 where
  -- a word, by its bytes
  Word : List ℕ → Token
  -- a number: whether a minus sign stands before it, and its magnitude
  Number : Bool → ℕ → Token
  -- the name behind an `@` or a `%`, by its bytes without quotes
  Global : List ℕ → Token
  Local : List ℕ → Token
  -- a name that is followed by a colon, by its bytes without quotes and colon
  Label : List ℕ → Token
  -- the bytes between the quotes of a string
  Str : List ℕ → Token
  -- the bytes that a byte string means, with its escapes decoded
  Bytes : List ℕ → Token
  -- the digits behind a `#`
  Group : List ℕ → Token
  -- an exclamation mark
  Mark : Token
  -- a bracket, a comma or another sign, by its byte
  Sign : ℕ → Token
