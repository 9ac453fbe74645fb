-- Names of records, by their first and last byte.
use Rattle.std.proofs.Common.{◌≡◌, ℕ, suc, ◌-◌, ◌<◌, ◌==◌, false, not, ◌&&◌, ◌||◌, List, [], ◌∷◌, length, get_or, refl, ap, ◌∙◌, arith}
use Rattle.std.specs.Char.{is_ascii_digit}
use Rattle.std.specs.List.{list_all}
use Rattle.ir_rules.specs.Initialisers.{ends_blank, is_record_byte, is_record_name}

pub last_blank : (xs : List ℕ) → 0 < length xs → ends_blank xs ≡ (get_or xs (length xs - 1) 0 == 32)
last_blank [] some = absurd (omega (arith, some))
last_blank (b ∷ []) some = refl
last_blank (b ∷ c ∷ more) some =
    last_blank (c ∷ more) (omega arith) ∙ ap (λ (i : ℕ). get_or (b ∷ c ∷ more) i 0 == 32) (let e : suc (length (c ∷ more) - 1) ≡ length (b ∷ c ∷ more) - 1 = omega arith in e)

pub record_none : (xs : List ℕ) → length xs ≡ 0 → is_record_name xs ≡ false
unfolding is_record_name
record_none [] none = refl
record_none (b ∷ more) none = absurd (omega (arith, none))

pub record_some : (xs : List ℕ) → 0 < length xs → is_record_name xs ≡ (list_all is_record_byte xs && (not (get_or xs 0 0 == 32 || (get_or xs 0 0 == 58 || get_or xs 0 0 == 35)) && (not (ends_blank xs) && not (list_all is_ascii_digit xs))))
unfolding is_record_name
record_some [] some = absurd (omega (arith, some))
record_some (b ∷ more) some = refl
