-- The lines of a profile text that count.
use Rattle.std.specs.Prelude.{ℕ, Bool, false, cond, not, ◌||◌, List, [], ◌∷◌, filter, map, reverse, ◌==◌}
use Rattle.std.specs.List.{slice_split}

-- a space, a tab or a carriage return
abbrev pub is_blank : ℕ → Bool
is_blank b = (b == 32) || (b == 9) || (b == 13)

abbrev pub is_line_feed : ℕ → Bool
is_line_feed b = b == 10

-- without the blanks at the front
abbrev pub skip_blanks : List ℕ → List ℕ
skip_blanks [] = []
skip_blanks (b ∷ bs) = cond (is_blank b) (skip_blanks bs) (b ∷ bs)

-- without the blanks at both ends
unfoldable pub trim : List ℕ → List ℕ
trim line = reverse (skip_blanks (reverse (skip_blanks line)))

-- an empty line and a comment do not count
abbrev pub counts : List ℕ → Bool
counts [] = false
counts (b ∷ bs) = not (b == 35)

abbrev pub Line : Type 0
Line = List ℕ

abbrev pub Lines : Type 0
Lines = List Line

-- the parts between the line feeds, each without the blanks at its ends, that count
unfoldable pub content : List ℕ → Lines
content text = filter counts (map trim (slice_split is_line_feed text))

-- a line in front of the others, if it counts
abbrev pub with_line : Line → Lines → Lines
with_line line lines = cond (counts line) (line ∷ lines) lines
