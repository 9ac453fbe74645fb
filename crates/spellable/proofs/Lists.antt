-- Items parted by commas spell their list.
use Rattle.std.proofs.Common.{◌≡◌, ℕ, suc, Bool, true, false, List, [], ◌∷◌, ◌++◌, refl, sym, ap, subst, inl, inr}
use Rattle.std.specs.Prelude.{nat_eq, Option, Some}
use Rattle.ir_lex.specs.Tokens.{Token, Sign}
use Rattle.ir_tree.specs.Types.{when}
use Rattle.ir_grammar.specs.Rules.{Rule, AreMany, pure, many_after, ◌>>=◌}
use Rattle.ir_grammar.specs.Words.{Tokens, is_sign, first_is, sign, comma_item, comma_takes, listed}
use Rattle.text_pieces.specs.declared.stop.Stop.{Stop}
use Rattle.text_pieces.specs.declared.stop.Stop.TheVariants as stops
use Rattle.text_pieces.specs.Pieces.{Piece, stop_before, tokens_before}
use Rattle.text_pieces.specs.Lists.{stop_behind, items, parted}
use Rattle.spellable.specs.Values.{Each}
use Rattle.spellable.specs.Appends.{tokens_append}
use Rattle.spellable.proofs.Pieces.{Fine, fine_append, stop_depth}

-- an item spells its value up to what stands behind it
pub record IsItem {A : Type 0} (r : Rule Token A) (item : A → Stop → List Piece) (Good : A → Type 0) : Type 0 where
  pub spells : (x : A) (stop : Stop) (others : Tokens) → Good x → r.Spells (tokens_before (item x stop) others) x (stop_before stop others)
  pub fine : (x : A) (stop : Stop) (d : ℕ) → Good x → Fine (suc d) (item x stop) (stop_depth stop (suc d))

when_same : (c : ℕ) → nat_eq c c ≡ true → ◌≡◌ {A = Option (Unit {0})} (when (nat_eq c c) tt) (Some tt)
when_same c e = ap (λ b. when b tt) e

module _ {A : Type 0} (r : Rule Token A) (item : A → Stop → List Piece) (Good : A → Type 0) (is : IsItem r item Good) where
  -- an item and what stands behind it
  pub item_spells : (x : A) (stop : Stop) (ps : List Piece) (others : Tokens) → Good x → r.Spells (tokens_before (item x stop ++ ps) others) x (stop_before stop (tokens_before ps others))
  item_spells x stop ps others h =
      subst (λ ts. r.Spells ts x (stop_before stop (tokens_before ps others))) (sym (tokens_append (item x stop) ps others))
      (is.spells x stop (tokens_before ps others) h)

  pub more_spell : (begins : Tokens → Bool) → ((x : A) (stop : Stop) (ps : List Piece) (others : Tokens) → Good x → begins (Sign 44 ∷ tokens_before (item x stop ++ ps) others) ≡ true) → (close : Stop) (others : Tokens) → begins (stop_before close others) ≡ false → (xs : List A) → Each Good xs → AreMany begins (comma_item r) (stop_before (stop_behind close xs) (tokens_before (items item close xs) others)) xs (stop_before close others)
  unfolding sign
  more_spell begins comma close others ends [] h = (ends, refl)
  more_spell begins comma close others ends (x ∷ xs) h = (
    comma x (stop_behind close xs) (items item close xs) others h.0,
    stop_before (stop_behind close xs) (tokens_before (items item close xs) others),
    (tt, tokens_before (items item close (x ∷ xs)) others, (Sign 44, refl, refl), item_spells x (stop_behind close xs) (items item close xs) others h.0),
    more_spell begins comma close others ends xs h.1,
  )

  -- one or more
  pub some_spell : (begins : Tokens → Bool) → ((x : A) (stop : Stop) (ps : List Piece) (others : Tokens) → Good x → begins (Sign 44 ∷ tokens_before (item x stop ++ ps) others) ≡ true) → (close : Stop) (others : Tokens) → begins (stop_before close others) ≡ false → (x : A) (xs : List A) → Good x → Each Good xs → (r >>= λ first. many_after (first ∷ []) begins (comma_item r) (comma_takes r)).Spells (tokens_before (items item close (x ∷ xs)) others) (x ∷ xs) (stop_before close others)
  some_spell begins comma close others ends x xs h hs = (
    x,
    stop_before (stop_behind close xs) (tokens_before (items item close xs) others),
    item_spells x (stop_behind close xs) (items item close xs) others h,
    (xs, refl, more_spell begins comma close others ends xs hs),
  )

  -- any number, and what closes the list
  pub list_spell : (c : ℕ) (close : Stop) → nat_eq c c ≡ true → nat_eq c 44 ≡ false → ((others : Tokens) → stop_before close others ≡ Sign c ∷ others) → ((x : A) (stop : Stop) (ps : List Piece) (others : Tokens) → Good x → first_is (is_sign c) (tokens_before (item x stop ++ ps) others) ≡ false) → (xs : List A) (others : Tokens) → Each Good xs → (listed c r).Spells (tokens_before (parted item close xs) others) xs others
  unfolding sign
  list_spell c close same apart closes first [] others h =
      subst (λ ts. (listed c r).Spells ts [] others) (sym (closes others))
      ([], Sign c ∷ others, inl (same, (refl, refl)), (tt, others, (Sign c, refl, when_same c same), (refl, refl)))
  list_spell c close same apart closes first (x ∷ xs) others h = (
    x ∷ xs,
    stop_before close others,
    inr (first x (stop_behind close xs) (items item close xs) others h.0, some_spell (first_is (is_sign 44)) (λ y stop ps more k. refl) close others (subst (λ ts. first_is (is_sign 44) ts ≡ false) (sym (closes others)) apart) x xs h.0 h.1),
    subst (λ ts. (sign c >>= λ _. pure (x ∷ xs)).Spells ts (x ∷ xs) others) (sym (closes others)) (tt, others, (Sign c, refl, when_same c same), (refl, refl)),
  )

  pub items_fine : (close : Stop) (d : ℕ) (x : A) (xs : List A) → Good x → Each Good xs → Fine (suc d) (items item close (x ∷ xs)) (stop_depth close (suc d))
  items_fine close d x [] h hs = fine_append (suc d) (item x close) (stop_depth close (suc d)) [] (stop_depth close (suc d)) (is.fine x close d h) refl
  items_fine close d x (y ∷ ys) h hs =
      fine_append (suc d) (item x stops.Comma) (suc d) (items item close (y ∷ ys)) (stop_depth close (suc d)) (is.fine x stops.Comma d h) (items_fine close d y ys hs.0 hs.1)

  pub list_fine : (close : Stop) (d : ℕ) (xs : List A) → Each Good xs → Fine (suc d) (parted item close xs) (stop_depth close (suc d))
  list_fine close d [] h = refl
  list_fine close d (x ∷ xs) h = items_fine close d x xs h.0 h.1
