-- Four literals in a row.
use Rattle.std.proofs.Common.{◌≡◌, ℕ, List, [], ◌∷◌, length, get_or, Option, None, Some, refl, ap, ◌∙◌, arith}
use Rattle.check_counting.specs.Sites.{fourth, literals_in_list}
use Rattle.ir_rules.specs.Units.{as_data, in_front, literal_of, literals_in, literals_of, sites_in}
use Rattle.ir_tree.specs.declared.types.Init.{Init, Row_of-Init, end_of-Init, more_of-Init, items-the_row-Init, items_hidden-the_row-Init-0}
use Rattle.ir_tree.specs.declared.types.Init.TheVariants as init
use Rattle.ir_tree.specs.declared.types.Init.TheBlock.{hidden-the_row-Init-0}

row_literals : (n : _) (r : Row_of-Init n) → literals_in r ≡ literals_in_list (items-the_row-Init n r)
row_literals n end_of-Init = refl
row_literals n (more_of-Init i r) = ap (λ (more : Option (List ℕ)). in_front (literal_of i) more) (row_literals _ r)

pub list_literals : (is : List Init) → literals_of (init.List is) ≡ literals_in_list is
list_literals is = row_literals _ (hidden-the_row-Init-0 is) ∙ ap literals_in_list (items_hidden-the_row-Init-0 is)

four_options : (a b c d : Option ℕ) → fourth a b c d ≡ sites_in (as_data (in_front a (in_front b (in_front c (in_front d (Some []))))))
four_options None b c d = refl
four_options (Some x) None c d = refl
four_options (Some x) (Some y) None d = refl
four_options (Some x) (Some y) (Some z) None = refl
four_options (Some x) (Some y) (Some z) (Some s) = refl

pub four_of : (is : List Init) (e : Init) → length is ≡ 4 → fourth (literal_of (get_or is 0 e)) (literal_of (get_or is 1 e)) (literal_of (get_or is 2 e)) (literal_of (get_or is 3 e)) ≡ sites_in (as_data (literals_in_list is))
four_of [] e h = absurd (omega (arith, h))
four_of (a ∷ []) e h = absurd (omega (arith, h))
four_of (a ∷ b ∷ []) e h = absurd (omega (arith, h))
four_of (a ∷ b ∷ c ∷ []) e h = absurd (omega (arith, h))
four_of (a ∷ b ∷ c ∷ d ∷ []) e h = four_options (literal_of a) (literal_of b) (literal_of c) (literal_of d)
four_of (a ∷ b ∷ c ∷ d ∷ f ∷ more) e h = absurd (omega (arith, h))

none_of_three : (o : Option (List ℕ)) (a : Option ℕ) → (o ≡ None) → in_front a o ≡ None
none_of_three None None h = refl
none_of_three None (Some x) h = refl
none_of_three (Some xs) a h = absurd (cc)

-- a list of another length has no data
long : (a b c d e : Option ℕ) (o : Option (List ℕ)) → sites_in (as_data (in_front a (in_front b (in_front c (in_front d (in_front e o)))))) ≡ 0
long None b c d e o = refl
long (Some x) None c d e o = by (in_front c (in_front d (in_front e o)))
  where
    by : (p : Option (List ℕ)) → sites_in (as_data (in_front (Some x) (in_front None p))) ≡ 0
    by p = refl
long (Some x) (Some y) None d e o = refl
long (Some x) (Some y) (Some z) None e o = refl
long (Some x) (Some y) (Some z) (Some w) None o = refl
long (Some x) (Some y) (Some z) (Some w) (Some v) None = refl
long (Some x) (Some y) (Some z) (Some w) (Some v) (Some more) = refl

short_3 : (a b c : Option ℕ) → sites_in (as_data (in_front a (in_front b (in_front c (Some []))))) ≡ 0
short_3 None b c = refl
short_3 (Some x) None c = refl
short_3 (Some x) (Some y) None = refl
short_3 (Some x) (Some y) (Some z) = refl

short_2 : (a b : Option ℕ) → sites_in (as_data (in_front a (in_front b (Some [])))) ≡ 0
short_2 None b = refl
short_2 (Some x) None = refl
short_2 (Some x) (Some y) = refl

short_1 : (a : Option ℕ) → sites_in (as_data (in_front a (Some []))) ≡ 0
short_1 None = refl
short_1 (Some x) = refl

pub not_four : (is : List Init) → (length is ≡ 4 → ⊥) → sites_in (as_data (literals_in_list is)) ≡ 0
not_four [] h = refl
not_four (a ∷ []) h = short_1 (literal_of a)
not_four (a ∷ b ∷ []) h = short_2 (literal_of a) (literal_of b)
not_four (a ∷ b ∷ c ∷ []) h = short_3 (literal_of a) (literal_of b) (literal_of c)
not_four (a ∷ b ∷ c ∷ d ∷ []) h = absurd (h (omega arith))
not_four (a ∷ b ∷ c ∷ d ∷ e ∷ more) h = long (literal_of a) (literal_of b) (literal_of c) (literal_of d) (literal_of e) (literals_in_list more)
