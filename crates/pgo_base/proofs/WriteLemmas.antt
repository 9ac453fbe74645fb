-- A piece that is written in parts: each write appends the next part.
use Rattle.std.proofs.Common.{ℕ, ◌+◌, Option, None, Some, List, ◌++◌, take, drop, sym, ap, ◌∙◌, append_assoc}
use Rattle.std.proofs.Math.Seq.{take-add}
use Rattle.std.specs.Io.KnownBytes.{Appends}

pub more_appended : (a b c : Option (List ℕ)) (piece : List ℕ) (done n : ℕ) → Appends a b (take done piece) →
    Appends b c (take n (drop done piece)) → Appends a c (take (done + n) piece)
more_appended None b c piece done n front part = tt
more_appended (Some xs) None c piece done n front part = absurd front
more_appended (Some xs) (Some ys) None piece done n front part = absurd part
more_appended (Some xs) (Some ys) (Some zs) piece done n front part =
    part ∙ ap (λ l. l ++ take n (drop done piece)) front ∙ append_assoc xs (take done piece) (take n (drop done piece))
    ∙ ap (λ l. xs ++ l) (sym (take-add done n piece))
