use Rattle.std.proofs.Common.{◌≡◌, ℕ, zero, suc, ◌+◌, ◌<◌, ◌≤◌, Bool, true, false, cond, eqb, List, [], ◌∷◌, drop, None, Some, refl, sym, ap, ◌∙◌, arith, drop-drop}
use Rattle.std.specs.List.{prefix_len}
use Rattle.std.specs.Option.{option_and_then}
use Rattle.std.proofs.Math.Numerals.{one-add}
use Rattle.ir_tree.specs.Spelling.{is_name_first, is_name_byte}
use Rattle.ir_lex.specs.Scan.{first_of, skip, many_rest, byte_rest, plain_label_rest}

-- from each place in a run of bytes of a class, the run ends at the same place
module _ (class : ℕ → Bool) where
  skip_at : (b : ℕ) (bs : List ℕ) (k : ℕ) (h : Bool) → suc k ≤ cond h (1 + prefix_len class bs) 0 → (k ≤ prefix_len class bs → skip class (drop k bs) ≡ skip class bs) → skip class (drop k bs) ≡ drop (cond h (1 + prefix_len class bs) 0) (b ∷ bs)
  skip_at b bs k true le more = rw one-add (more (omega arith))
  skip_at b bs k false le more = absurd (omega arith)

  skip_within : (s : List ℕ) (k : ℕ) → k ≤ prefix_len class s → skip class (drop k s) ≡ skip class s
  skip_within s zero le = refl
  skip_within [] (suc k) le = refl
  skip_within (b ∷ bs) (suc k) le = skip_at b bs k (class b) le (skip_within bs k)

first_of_some : (s : List ℕ) (b : ℕ) (bs : List ℕ) (end : List ℕ) (h : Bool) → skip is_name_byte bs ≡ end → first_of (λ c. eqb c 58) end ≡ None → option_and_then (many_rest is_name_byte (byte_rest 58 Some)) (cond h (Some bs) None) ≡ None
first_of_some s b bs end true e none =
    ap (λ x. byte_rest 58 Some x) e ∙ ap (λ x. option_and_then {T = List ℕ} {U = List ℕ} Some x) none
first_of_some s b bs end false e none = refl

label_at : (text s : List ℕ) (n k : ℕ) → n ≡ prefix_len is_name_byte text → first_of (λ b. eqb b 58) (drop n text) ≡ None → k < n → drop k text ≡ s → plain_label_rest s ≡ None
label_at text [] n k e none below is = refl
label_at text (b ∷ bs) n k e none below is =
    first_of_some (b ∷ bs) b bs (drop n text) (is_name_first b) same none
  where
    tail : bs ≡ drop (k + 1) text
    tail = sym (ap (λ x. drop 1 x) is) ∙ drop-drop 1 k text

    same : skip is_name_byte bs ≡ drop n text
    same =
        ap (λ x. skip is_name_byte x) tail ∙ skip_within is_name_byte text (k + 1) (omega arith) ∙ ap (λ x. drop x text) (sym e)

-- no colon follows a run of name bytes, so no label without quotes begins in it
pub unlabelled_run : (text : List ℕ) (n : ℕ) → n ≡ prefix_len is_name_byte text → None ≡ first_of (λ b. eqb b 58) (drop n text) → (k : ℕ) → k < n → plain_label_rest (drop k text) ≡ None
unlabelled_run text n e none k below = label_at text (drop k text) n k e (sym none) below refl
