use Rattle.std.proofs.Common.{◌≡◌, ◌++◌, List, ℕ, sym, ap, ◌∙◌}
use Rattle.std.specs.Cmp.Lexicographic.{bytes_decides}
use Rattle.std.proofs.lemmas.List.{take-append-drop}
use Rattle.prof_view.specs.Lines.{content}
use Rattle.prof_view.proofs.lines.skip_written.Goals as goal

pub returns-then-eq : goal.returns-then-eq
returns-then-eq g c =
    let front = c.in-Some.front.now in
    let rest = c.in-Some.rest.now in
    let same : front ≡ c.args.comment.now = (bytes_decides front c.args.comment.now).0 (sym c.eq.ensures ∙ c.if-eq.true) in
    let whole : c.args.text.now ≡ c.args.comment.now ++ rest =
    sym (take-append-drop _ c.args.text.now) ∙ parts front rest _ _ c.in-Some.ensures.cases.0 c.in-Some.ensures.cases.1 ∙ ap (λ (xs : List ℕ). xs ++ rest) same in
    sym (ap content whole ∙ c.requires rest)
  where
    parts : (front rest xs ys : List ℕ) → front ≡ xs → rest ≡ ys → xs ++ ys ≡ front ++ rest
    parts front rest xs ys e f = sym (ap (λ zs. zs ++ rest) e ∙ ap (λ zs. xs ++ zs) f)
