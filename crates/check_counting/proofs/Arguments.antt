-- The arguments of a call by their number.
use Rattle.std.proofs.Common.{◌≡◌, ◌≢◌, ℕ, true, List, [], ◌∷◌, length, get_or, refl, sym, arith}
use Rattle.check_counting.specs.Checking.{of_five, of_four}
use Rattle.ir_rules.specs.Counting.{names_site_of, notes_well}
use Rattle.ir_rules.specs.Intrinsics.{names_place}
use Rattle.ir_tree.specs.Operands.{Use}
use Rattle.ir_tree.specs.declared.types.Module.{Module}

pub four_place : (m : Module) (name : List ℕ) (args : List Use) (a b c d : Use) → length args ≡ 4 → a ≡ get_or args 0 a → b ≡ get_or args 1 b → c ≡ get_or args 2 c → d ≡ get_or args 3 d → names_place m name args ≡ of_four m name a b c d
four_place m name [] a b c d h p q r s = absurd (omega (arith, h))
four_place m name (u ∷ []) a b c d h p q r s = absurd (omega (arith, h))
four_place m name (u ∷ v ∷ []) a b c d h p q r s = absurd (omega (arith, h))
four_place m name (u ∷ v ∷ w ∷ []) a b c d h p q r s = absurd (omega (arith, h))
four_place m name (u ∷ v ∷ w ∷ x ∷ []) a b c d h p q r s = λ i. of_four m name (sym p i) (sym q i) (sym r i) (sym s i)
four_place m name (u ∷ v ∷ w ∷ x ∷ y ∷ more) a b c d h p q r s = absurd (omega (arith, h))

pub five_place : (m : Module) (name : List ℕ) (args : List Use) (a b c d e : Use) → length args ≡ 5 → a ≡ get_or args 0 a → b ≡ get_or args 1 b → c ≡ get_or args 2 c → d ≡ get_or args 3 d → e ≡ get_or args 4 e → names_place m name args ≡ of_five m name a b c d e
five_place m name [] a b c d e h p q r s t = absurd (omega (arith, h))
five_place m name (u ∷ []) a b c d e h p q r s t = absurd (omega (arith, h))
five_place m name (u ∷ v ∷ []) a b c d e h p q r s t = absurd (omega (arith, h))
five_place m name (u ∷ v ∷ w ∷ []) a b c d e h p q r s t = absurd (omega (arith, h))
five_place m name (u ∷ v ∷ w ∷ x ∷ []) a b c d e h p q r s t = absurd (omega (arith, h))
five_place m name (u ∷ v ∷ w ∷ x ∷ y ∷ []) a b c d e h p q r s t = λ i. of_five m name (sym p i) (sym q i) (sym r i) (sym s i) (sym t i)
five_place m name (u ∷ v ∷ w ∷ x ∷ y ∷ z ∷ more) a b c d e h p q r s t = absurd (omega (arith, h))

pub other_place : (m : Module) (name : List ℕ) (args : List Use) → length args ≢ 4 → length args ≢ 5 → names_place m name args ≡ true
other_place m name [] h k = refl
other_place m name (u ∷ []) h k = refl
other_place m name (u ∷ v ∷ []) h k = refl
other_place m name (u ∷ v ∷ w ∷ []) h k = refl
other_place m name (u ∷ v ∷ w ∷ x ∷ []) h k = absurd (h refl)
other_place m name (u ∷ v ∷ w ∷ x ∷ y ∷ []) h k = absurd (k refl)
other_place m name (u ∷ v ∷ w ∷ x ∷ y ∷ z ∷ more) h k = refl

pub three_note : (m : Module) (args : List Use) (b c : Use) → length args ≡ 3 → b ≡ get_or args 1 b → c ≡ get_or args 2 c → notes_well m args ≡ names_site_of m b.1 c.1
three_note m [] b c h q r = absurd (omega (arith, h))
three_note m (u ∷ []) b c h q r = absurd (omega (arith, h))
three_note m (u ∷ v ∷ []) b c h q r = absurd (omega (arith, h))
three_note m (u ∷ v ∷ w ∷ []) b c h q r = λ i. names_site_of m (sym q i).1 (sym r i).1
three_note m (u ∷ v ∷ w ∷ x ∷ more) b c h q r = absurd (omega (arith, h))

pub other_note : (m : Module) (args : List Use) → length args ≢ 3 → notes_well m args ≡ true
other_note m [] h = refl
other_note m (u ∷ []) h = refl
other_note m (u ∷ v ∷ []) h = refl
other_note m (u ∷ v ∷ w ∷ []) h = absurd (h refl)
other_note m (u ∷ v ∷ w ∷ x ∷ more) h = refl
