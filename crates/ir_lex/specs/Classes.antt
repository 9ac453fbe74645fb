use Rattle.std.specs.Prelude.{ℕ, Bool, not, ◌||◌, ◌==◌}

-- The classes of bytes that tokens are made of, each byte by its ASCII code. Those of names are ir_tree's.

-- a byte between the quotes of a string: not `"` or a line feed
unfoldable pub is_string_byte : ℕ → Bool
is_string_byte b = not (b == 34 || b == 10)

-- a space, a tab, a line feed or a carriage return
unfoldable pub is_blank : ℕ → Bool
is_blank b = b == 32 || (b == 9 || (b == 10 || b == 13))

-- a parenthesis, a bracket or a brace
unfoldable pub is_bracket : ℕ → Bool
is_bracket b = b == 40 || (b == 41 || (b == 91 || (b == 93 || (b == 123 || b == 125))))

-- a bracket, or one of `*`, `,`, `:`, `<`, `=`, `>` and `|`
unfoldable pub is_sign : ℕ → Bool
is_sign b =
    is_bracket b || (b == 42 || (b == 44 || (b == 58 || (b == 60 || (b == 61 || (b == 62 || b == 124))))))
