-- Pieces that are put behind a text one after the other.
use Rattle.std.proofs.Common.{◌≡◌, ℕ, List, ◌++◌, append_assoc, ap, ◌∙◌}

pub three : (o a b c x y z : List ℕ) → x ≡ o ++ a → y ≡ x ++ b → z ≡ y ++ c → z ≡ o ++ (a ++ b ++ c)
three o a b c x y z e f g =
    g ∙ (ap (λ (t : List ℕ). t ++ c) (f ∙ ap (λ (t : List ℕ). t ++ b) e) ∙ simp append_assoc)

pub four : (o a b c d x y z w : List ℕ) → x ≡ o ++ a → y ≡ x ++ b → z ≡ y ++ c → w ≡ z ++ d → w ≡ o ++ (a ++ b ++ c ++ d)
four o a b c d x y z w e f g h =
    h ∙ (ap (λ (t : List ℕ). t ++ d) (three o a b c x y z e f g) ∙ simp append_assoc)
