-- A line that is put in pieces.
use Rattle.std.proofs.Common.{◌≡◌, ℕ, ◌+◌, ◌≤◌, Bool, true, false, List, ◌++◌, take, length, sym, ap, ◌∙◌, append_assoc}
use Rattle.std.specs.Bool.{OnTrue}
use Rattle.std.proofs.Math.Seq.{take-append-add}
use Rattle.std.proofs.lemmas.List.{take-append-le}
use Rattle.pgo_shell.specs.Shell.{Front}

-- the piece was put where its put said so
pub put_whole : (r : Bool) (P : Type 0) → r ≡ true → OnTrue r P → P
put_whole true P is h = h
put_whole false P is h = absurd (differ is)
  where
    differ : false ≡ true → ⊥
    differ e = cc

pub joined : (old mid new done piece : List ℕ) → mid ≡ old ++ done → new ≡ mid ++ piece → new ≡ old ++ (done ++ piece)
joined old mid new done piece front is = is ∙ ap (λ x. x ++ piece) front ∙ append_assoc old done piece

-- a front of a piece behind the pieces that are done is a front of the line
pub front_part : (done piece rest old mid new : List ℕ) (n : ℕ) → n ≤ length piece → mid ≡ old ++ done → new ≡ mid ++ take n piece →
    Front (done ++ (piece ++ rest)) old new
front_part done piece rest old mid new n within front is = (
  length done + n,
  joined old mid new done (take n piece) front is
      ∙ ap (λ x. old ++ x) (sym (take-append-add done (piece ++ rest) n ∙ ap (λ x. done ++ x) (take-append-le n piece rest within))),
)
