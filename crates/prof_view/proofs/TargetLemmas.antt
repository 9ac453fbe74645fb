-- A target is cut at its last colon.
use Rattle.std.proofs.Common.{◌≡◌, ℕ, ◌+◌, ◌-◌, ◌<◌, Bool, true, false, cond, not, ◌&&◌, List, length, take, drop, get_or, Option, Some, None, refl, ◌∙◌, ap, arith}
use Rattle.std.specs.Option.{option_map}
use Rattle.std.specs.List.{list_any, suffix_len, before_last, after_last}
use Rattle.std.proofs.lemmas.List.Sums.{suffix_len_is}
use Rattle.std.proofs.lemmas.List.Folds.{list_any_at, list_any_none}
use Rattle.std.proofs.lemmas.List.Elements.{All-from_get_or}
use Rattle.memchr.specs.Find.{Nowhere, NoneAfter, Passes}
use Rattle.prof_view.specs.Words.{is_colon, begins_colon, numeral, target_of}

false_where_not_true : (b : Bool) → ¬ (b ≡ true) → b ≡ false
false_where_not_true true h = absurd (h refl)
false_where_not_true false h = refl

not_true : (b : Bool) → b ≡ true → not b ≡ false
not_true b e = ap not e

not_false : (b : Bool) → ¬ (b ≡ true) → not b ≡ true
not_false b h = ap not (false_where_not_true b h)

behind_colon : (line : List ℕ) (k : ℕ) → NoneAfter (Passes is_colon line) 0 (length line) k → Passes is_colon line k → suffix_len (λ b. not (is_colon b)) line ≡ length line - (k + 1)
behind_colon line k none here =
    let high = none.high in
    suffix_len_is (λ b. not (is_colon b)) line (k + 1) 0 (omega arith) (λ j from to. not_false (is_colon (get_or line j 0)) (none.after j from to)) (λ some. not_true (is_colon (get_or line (k + 1 - 1) 0)) (here_is line k here))
  where
    here_is : (line : List ℕ) (k : ℕ) → is_colon (get_or line k 0) ≡ true → is_colon (get_or line (k + 1 - 1) 0) ≡ true
    here_is line k h = let same : k + 1 - 1 ≡ k = omega arith in ap (λ j. is_colon (get_or line j 0)) same ∙ h

chosen : {A : Type 0} (some plain : Bool) (o : Option A) → some ≡ true → plain ≡ false → cond (some && not plain) o None ≡ o
chosen some plain o e f = rw (e, f) refl

-- the name and the count, where m bytes stand behind the last colon
abbrev cut_before : List ℕ → ℕ → Option (List ℕ × ℕ)
cut_before line m = option_map (λ n. (take (length line - m - 1) line, n)) (numeral 10 (drop (length line - m) line))

cut_at : (line : List ℕ) (m k : ℕ) → k < length line → m ≡ length line - (k + 1) → cut_before line m ≡ option_map (λ n. (take k line, n)) (numeral 10 (drop (k + 1) line))
cut_at line m k within e =
    let front : length line - m - 1 ≡ k = omega arith in
    let back : length line - m ≡ k + 1 = omega arith in
    rw (front, back) refl

pub target_at : (line : List ℕ) (k : ℕ) → begins_colon line ≡ false → NoneAfter (Passes is_colon line) 0 (length line) k → Passes is_colon line k
    → target_of line ≡ option_map (λ n. (take k line, n)) (numeral 10 (drop (k + 1) line))
unfolding target_of
target_at line k plain none here =
    chosen (list_any is_colon line) (begins_colon line) (cut_before line (suffix_len (λ b. not (is_colon b)) line)) (list_any_at is_colon line k 0 none.high here) plain
    ∙ cut_at line (suffix_len (λ b. not (is_colon b)) line) k none.high (behind_colon line k none here)

pub target_count : (line : List ℕ) (k n : ℕ) → begins_colon line ≡ false → NoneAfter (Passes is_colon line) 0 (length line) k → Passes is_colon line k → numeral 10 (drop (k + 1) line) ≡ Some n → target_of line ≡ Some (take k line, n)
target_count line k n plain none here e = target_at line k plain none here ∙ ap (option_map (λ m. (take k line, m))) e

pub target_no_count : (line : List ℕ) (k : ℕ) → begins_colon line ≡ false → NoneAfter (Passes is_colon line) 0 (length line) k → Passes is_colon line k → numeral 10 (drop (k + 1) line) ≡ None → target_of line ≡ None
target_no_count line k plain none here e = target_at line k plain none here ∙ ap (option_map (λ m. (take k line, m))) e

pub target_no_colon : (line : List ℕ) → Nowhere (Passes is_colon line) 0 (length line) → target_of line ≡ None
unfolding target_of
target_no_colon line none =
    ap (λ t. cond (t && not (begins_colon line)) (option_map (λ n. (before_last is_colon line, n)) (numeral 10 (after_last is_colon line))) None)
    (list_any_none is_colon line (All-from_get_or (λ b. is_colon b ≡ false) line 0 (λ i h. false_where_not_true _ (none i (omega arith) h))))

pub target_begins : (line : List ℕ) → begins_colon line ≡ true → target_of line ≡ None
unfolding target_of
target_begins line e =
    ap (λ t. cond (list_any is_colon line && not t) (option_map (λ n. (before_last is_colon line, n)) (numeral 10 (after_last is_colon line))) None) e
    ∙ never (list_any is_colon line)
  where
    never : (t : Bool) → cond (t && false) (option_map {U = List ℕ × ℕ} (λ n. (before_last is_colon line, n)) (numeral 10 (after_last is_colon line))) None ≡ None
    never true = refl
    never false = refl
