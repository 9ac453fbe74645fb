use Rattle.std.specs.Prelude.{ℕ, zero, suc, Bool, false, cond, nat_eq, nat_lt, List, [], ◌∷◌, length, take, drop}
use Rattle.ir_lex.specs.declared.token.TokenKind.{TokenKind}
use Rattle.ir_lex.specs.declared.token.TokenKind.TheVariants.{Word, Number, Global, Local, Label, Str, Bytes, Group, Mark, Sign}
use Rattle.ir_lex.specs.Tokens.{Token}
use Rattle.ir_lex.specs.Spelling.{ends, after_gap}
use Rattle.ir_lex.specs.Scan.{front}
use Rattle.ir_lex.specs.Meaning.{meaning}

-- A text cut into tokens from the left, as a computation.

-- the longer of a token that was found and the one of the next kind
abbrev pub longer : List ℕ → (TokenKind × ℕ) → TokenKind → TokenKind × ℕ
longer text best kind = cond (nat_lt best.1 (front kind text)) (kind, front kind text) best

-- the kind and the length of the longest token at the front; the length is 0 where there is none
unfoldable pub first_token : List ℕ → TokenKind × ℕ
first_token text =
    let word = longer text (Word, 0) Word in
    let number = longer text word Number in
    let global = longer text number Global in
    let local = longer text global Local in
    let label = longer text local Label in
    let str = longer text label Str in
    let bytes = longer text str Bytes in
    let group = longer text bytes Group in
    let mark = longer text group Mark in
    longer text mark Sign

-- What the tokens of a text come to, each put before what those behind it come to. `stop` is asked of the bytes at which
-- no token stands. No more tokens than the budget are looked for.
abbrev pub cut_within : {A : Type 0} → (List ℕ → A) → (Token → A → A) → ℕ → List ℕ → A
cut_within stop put zero text = stop (after_gap false text)
cut_within stop put (suc budget) text =
    let ahead = after_gap false text in
    let first = first_token ahead in
    cond (nat_eq first.1 0) (stop ahead) (put (meaning first.0 (take first.1 ahead)) (cut_within stop put budget (drop first.1 ahead)))

-- a text has fewer tokens than this budget
unfoldable pub cut : {A : Type 0} → (List ℕ → A) → (Token → A → A) → List ℕ → A
cut stop put text = cut_within stop put (suc (length text)) text

-- the tokens up to the end, or up to the first place where none is spelled
abbrev pub tokens_of : List ℕ → List Token
tokens_of text = cut (λ _. []) ◌∷◌ text

-- the tokens go up to the end
abbrev pub is_whole : List ℕ → Bool
is_whole text = cut ends (λ _ whole. whole) text
