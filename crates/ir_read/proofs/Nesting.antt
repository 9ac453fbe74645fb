-- The brackets that are open inside an outer one.
use Rattle.std.proofs.Common.{◌≡◌, ℕ, List, [], ◌∷◌, ◌++◌, Option, None, refl, sym, ap, ◌∙◌}
use Rattle.std.specs.Prelude.{fold, Err}
use Rattle.std.specs.Option.{option_and_then}
use Rattle.std.proofs.lemmas.Grind.{fold-append}
use Rattle.ir_lex.specs.Tokens.{Token}
use Rattle.ir_grammar.specs.declared.words.Bracket.{Bracket}
use Rattle.ir_grammar.specs.Brackets.{nest_after, closing_read}
use Rattle.ir_read.specs.Ahead.{Ahead}
use Rattle.ir_read.specs.Nests.{nest_of, Nests}
use Rattle.ir_read.specs.Reads.{Reads}
use Rattle.ir_read.specs.declared.stop.Stop.{Stop}
use Rattle.ir_read.specs.declared.stop.Stop.TheVariants.{Syntax, NoMemory}

-- one bracket more
pub nest_push : (outer : ℕ) (inside : List ℕ) (kind : ℕ) → nest_of outer (inside ++ kind ∷ []) ≡ kind ∷ nest_of outer inside
nest_push outer inside kind = fold-append (λ nest k. k ∷ nest) (outer ∷ []) inside (kind ∷ [])

abbrev IsSome : List ℕ → Type 0
IsSome nest = (kind : ℕ) × ((rest : List ℕ) × (nest ≡ kind ∷ rest))

over_some : (inside : List ℕ) (kind : ℕ) (base : List ℕ) → IsSome (fold (λ nest k. k ∷ nest) (kind ∷ base) inside)
over_some [] kind base = (kind, (base, refl))
over_some (k ∷ ks) kind base = over_some ks k (kind ∷ base)

-- some bracket is open
nest_some : (outer : ℕ) (inside : List ℕ) → IsSome (nest_of outer inside)
nest_some outer inside = over_some inside outer []

step_of : (bracket : Token → Bracket) (nest : List ℕ) → IsSome nest → (t : Token) (ts : List Token) → closing_read bracket nest (t ∷ ts) ≡ option_and_then (λ next. closing_read bracket next ts) (nest_after (bracket t) nest)
step_of bracket nest (kind, (rest, e)) t ts = rw e refl

end_of : (bracket : Token → Bracket) (nest : List ℕ) → IsSome nest → closing_read bracket nest [] ≡ None
end_of bracket nest (kind, (rest, e)) = rw e refl

-- the tokens ahead, by the brackets that are open
pub nest_step : (bracket : Token → Bracket) (outer : ℕ) (inside : List ℕ) (t : Token) (tokens ts : List Token) (next : Option (List ℕ)) → tokens ≡ t ∷ ts → nest_after (bracket t) (nest_of outer inside) ≡ next → closing_read bracket (nest_of outer inside) tokens ≡ option_and_then (λ n. closing_read bracket n ts) next
nest_step bracket outer inside t tokens ts next e f =
    ap (closing_read bracket (nest_of outer inside)) e ∙ step_of bracket (nest_of outer inside) (nest_some outer inside) t ts ∙ ap (option_and_then (λ n. closing_read bracket n ts)) f

pub nest_end : (bracket : Token → Bracket) (outer : ℕ) (inside : List ℕ) (tokens : List Token) → tokens ≡ [] → closing_read bracket (nest_of outer inside) tokens ≡ None
nest_end bracket outer inside tokens e =
    ap (closing_read bracket (nest_of outer inside)) e ∙ end_of bracket (nest_of outer inside) (nest_some outer inside)

-- one token, by what the reader found that it does
pub nest_turn : (bracket : Token → Bracket) (found : Bracket) (outer : ℕ) (inside : List ℕ) (t : Token) (tokens ts : List Token) (next : Option (List ℕ)) → tokens ≡ t ∷ ts → found ≡ bracket t → nest_after found (nest_of outer inside) ≡ next → closing_read bracket (nest_of outer inside) tokens ≡ option_and_then (λ n. closing_read bracket n ts) next
nest_turn bracket found outer inside t tokens ts next e f g =
    nest_step bracket outer inside t tokens ts next e (ap (λ b. nest_after b (nest_of outer inside)) (sym f) ∙ g)

-- what stops the reader
pub nest_stops : (stop : Stop) (nest : Option (List ℕ)) (outer : ℕ) (inside : List ℕ) (old new : Ahead) (read : List Token → Option (Unit {0} × List Token)) → Nests (Err stop) nest outer inside → (nest ≡ None → read old.tokens ≡ None) → Reads (Err stop) old new read
nest_stops Syntax nest outer inside old new read h f = f h
nest_stops NoMemory nest outer inside old new read h f = tt
