-- Kinds of values, read one after the other.
use Rattle.std.proofs.Common.{◌≡◌, ℕ, zero, suc, ◌-◌, ◌<◌, cond, nat_eq, List, [], ◌∷◌, Option, Some, None, refl, ◌∙◌, ap, arith}
use Rattle.ir_grammar.specs.Rules.{read_then}
use Rattle.prof_view.specs.Lines.{Lines}
use Rattle.prof_view.specs.Grammar.{unseen_kind, kind_sites, kinds}

abbrev Sites : Type 0
Sites = List (List (List ℕ × ℕ))

abbrev others_read : ℕ → Sites → Option (Sites × Lines) → Option (Sites × Lines)
others_read kind sites o = read_then o (λ others rest. Some (cond (nat_eq kind 0) sites others, rest))

pub kinds_zero : (seen : List ℕ) (left : ℕ) (lines : Lines) → left ≡ 0 → (kinds seen left).read lines ≡ Some ([], lines)
kinds_zero seen zero lines e = refl
kinds_zero seen (suc n) lines e = absurd (omega arith)

pub kinds_no_kind : (seen : List ℕ) (left : ℕ) (lines : Lines) → 0 < left → (unseen_kind seen).read lines ≡ None → (kinds seen left).read lines ≡ None
kinds_no_kind seen zero lines h e = absurd (omega arith)
kinds_no_kind seen (suc n) lines h e = ap (λ o. read_then o (λ kind middle. read_then (kind_sites.read middle) (λ sites more. others_read kind sites ((kinds (kind ∷ seen) n).read more)))) e

pub kinds_no_sites : (seen : List ℕ) (left : ℕ) (lines : Lines) (kind : ℕ) (middle : Lines) → 0 < left → (unseen_kind seen).read lines ≡ Some (kind, middle) → kind_sites.read middle ≡ None → (kinds seen left).read lines ≡ None
kinds_no_sites seen zero lines kind middle h e f = absurd (omega arith)
kinds_no_sites seen (suc n) lines kind middle h e f =
    ap (λ o. read_then o (λ kind middle. read_then (kind_sites.read middle) (λ sites more. others_read kind sites ((kinds (kind ∷ seen) n).read more)))) e
    ∙ ap (λ o. read_then o (λ sites more. others_read kind sites ((kinds (kind ∷ seen) n).read more))) f

less : (n : ℕ) → n ≡ suc n - 1
less n = omega arith

-- the sites of this kind, and then the other kinds
pub kinds_more : (seen : List ℕ) (left : ℕ) (lines : Lines) (kind : ℕ) (middle : Lines) (sites : Sites) (more : Lines) (o : Option (Sites × Lines)) → 0 < left
    → (unseen_kind seen).read lines ≡ Some (kind, middle) → kind_sites.read middle ≡ Some (sites, more) → (kinds (kind ∷ seen) (left - 1)).read more ≡ o
    → (kinds seen left).read lines ≡ others_read kind sites o
kinds_more seen zero lines kind middle sites more o h e f g = absurd (omega arith)
kinds_more seen (suc n) lines kind middle sites more o h e f g =
    ap (λ o. read_then o (λ kind middle. read_then (kind_sites.read middle) (λ sites more. others_read kind sites ((kinds (kind ∷ seen) n).read more)))) e
    ∙ ap (λ o. read_then o (λ sites more. others_read kind sites ((kinds (kind ∷ seen) n).read more))) f
    ∙ ap (λ m. others_read kind sites ((kinds (kind ∷ seen) m).read more)) (less n)
    ∙ ap (others_read kind sites) g

pub kinds_no_more : (seen : List ℕ) (left : ℕ) (lines : Lines) (kind : ℕ) (middle : Lines) (sites : Sites) (more : Lines) → 0 < left
    → (unseen_kind seen).read lines ≡ Some (kind, middle) → kind_sites.read middle ≡ Some (sites, more) → (kinds (kind ∷ seen) (left - 1)).read more ≡ None
    → (kinds seen left).read lines ≡ None
kinds_no_more seen left lines kind middle sites more h e f g = kinds_more seen left lines kind middle sites more None h e f g

pub kinds_some : (seen : List ℕ) (left : ℕ) (lines : Lines) (kind : ℕ) (middle : Lines) (sites : Sites) (more : Lines) (others : Sites) (rest : Lines) → 0 < left
    → (unseen_kind seen).read lines ≡ Some (kind, middle) → kind_sites.read middle ≡ Some (sites, more) → (kinds (kind ∷ seen) (left - 1)).read more ≡ Some (others, rest)
    → (kinds seen left).read lines ≡ Some (cond (nat_eq kind 0) sites others, rest)
kinds_some seen left lines kind middle sites more others rest h e f g = kinds_more seen left lines kind middle sites more (Some (others, rest)) h e f g
