-- What is looked at of both modules: printed bytes and marks, in their order.
use Rattle.std.proofs.Common.{◌≡◌, ℕ, List, [], ◌∷◌, ◌++◌, map, refl, sym, ◌∙◌, ap, append_assoc}
use Rattle.count_likeness.specs.Image.{Image, counted_marks, counted_one, counted_what, risen}
use Rattle.ir_model.specs.Run.{mark_of, marks, marks_one}
use Rattle.ir_model.specs.State.{Shown, Did, Targeted, Printed, Entered, Walked, What, Stop, Returns, Traps, printed, printed_one}
use Rattle.spec_machines.specs.Simulation.{IsView, StaysOwed}

pub data Item : Type 0 where
  Byte : (byte : ℕ) → Item
  Mark : (what : What) → Item

abbrev pub bytes : List Item → List ℕ
bytes [] = []
bytes (Byte b ∷ xs) = b ∷ bytes xs
bytes (Mark w ∷ xs) = bytes xs

abbrev pub whats : List Item → List What
whats [] = []
whats (Byte b ∷ xs) = whats xs
whats (Mark w ∷ xs) = w ∷ whats xs

bytes-append : (xs ys : List Item) → bytes (xs ++ ys) ≡ bytes xs ++ bytes ys
bytes-append [] ys = refl
bytes-append (Byte b ∷ xs) ys = ap (λ l. b ∷ l) (bytes-append xs ys)
bytes-append (Mark w ∷ xs) ys = bytes-append xs ys

whats-append : (xs ys : List Item) → whats (xs ++ ys) ≡ whats xs ++ whats ys
whats-append [] ys = refl
whats-append (Byte b ∷ xs) ys = whats-append xs ys
whats-append (Mark w ∷ xs) ys = ap (λ l. w ∷ l) (whats-append xs ys)

bytes_marks : (ws : List What) → bytes (map Mark ws) ≡ []
bytes_marks [] = refl
bytes_marks (w ∷ ws) = bytes_marks ws

whats_marks : (ws : List What) → whats (map Mark ws) ≡ ws
whats_marks [] = refl
whats_marks (w ∷ ws) = ap (λ l. w ∷ l) (whats_marks ws)

-- ---- one thing that is shown, of the original by an image, and of the module that counts

abbrev pub image_one : Image → Shown → List Item
image_one image (Did k l i what) = map Mark (counted_what image k l i what)
image_one image (Targeted k l i callee) = map Mark (counted_one image (Targeted k l i callee))
image_one image (Printed b) = Byte b ∷ []
image_one image (Entered k) = map Mark (risen (image.unit k) (image.entry k))
image_one image (Walked k l p) = map Mark (risen (image.unit k) (image.way k l p))

abbrev pub own_one : Shown → List Item
own_one (Did k l i what) = map Mark (mark_of what)
own_one (Targeted k l i callee) = []
own_one (Printed b) = Byte b ∷ []
own_one (Entered k) = []
own_one (Walked k l p) = []

abbrev pub looked : (Shown → List Item) → List Shown → List Item
looked one [] = []
looked one (x ∷ xs) = one x ++ looked one xs

abbrev pub imaged : Image → List Shown → List Item
imaged image = looked (image_one image)

abbrev pub owned : List Shown → List Item
owned = looked own_one

looked-append : (one : Shown → List Item) (xs ys : List Shown) → looked one (xs ++ ys) ≡ looked one xs ++ looked one ys
looked-append one [] ys = refl
looked-append one (x ∷ xs) ys = ap (λ l. one x ++ l) (looked-append one xs ys) ∙ sym (append_assoc (one x) (looked one xs) (looked one ys))

pub looked_view : (one : Shown → List Item) → IsView (looked one)
looked_view one = record { none = refl; more = looked-append one }

-- ---- bytes and marks of them

bytes_one : (image : Image) (x : Shown) → bytes (image_one image x) ≡ printed_one x
bytes_one image (Did k l i what) = bytes_marks (counted_what image k l i what)
bytes_one image (Targeted k l i callee) = bytes_marks (counted_one image (Targeted k l i callee))
bytes_one image (Printed b) = refl
bytes_one image (Entered k) = bytes_marks (risen (image.unit k) (image.entry k))
bytes_one image (Walked k l p) = bytes_marks (risen (image.unit k) (image.way k l p))

whats_one : (image : Image) (x : Shown) → whats (image_one image x) ≡ counted_one image x
whats_one image (Did k l i what) = whats_marks (counted_what image k l i what)
whats_one image (Targeted k l i callee) = whats_marks (counted_one image (Targeted k l i callee))
whats_one image (Printed b) = refl
whats_one image (Entered k) = whats_marks (risen (image.unit k) (image.entry k))
whats_one image (Walked k l p) = whats_marks (risen (image.unit k) (image.way k l p))

own_bytes_one : (x : Shown) → bytes (own_one x) ≡ printed_one x
own_bytes_one (Did k l i what) = bytes_marks (mark_of what)
own_bytes_one (Targeted k l i callee) = refl
own_bytes_one (Printed b) = refl
own_bytes_one (Entered k) = refl
own_bytes_one (Walked k l p) = refl

own_whats_one : (x : Shown) → whats (own_one x) ≡ marks_one x
own_whats_one (Did k l i what) = whats_marks (mark_of what)
own_whats_one (Targeted k l i callee) = refl
own_whats_one (Printed b) = refl
own_whats_one (Entered k) = refl
own_whats_one (Walked k l p) = refl

pub imaged_bytes : (image : Image) (xs : List Shown) → bytes (imaged image xs) ≡ printed xs
imaged_bytes image [] = refl
imaged_bytes image (x ∷ xs) = bytes-append (image_one image x) (imaged image xs) ∙ (λ i. bytes_one image x i ++ imaged_bytes image xs i)

pub imaged_marks : (image : Image) (xs : List Shown) → whats (imaged image xs) ≡ counted_marks image xs
imaged_marks image [] = refl
imaged_marks image (x ∷ xs) = whats-append (image_one image x) (imaged image xs) ∙ (λ i. whats_one image x i ++ imaged_marks image xs i)

pub owned_bytes : (xs : List Shown) → bytes (owned xs) ≡ printed xs
owned_bytes [] = refl
owned_bytes (x ∷ xs) = bytes-append (own_one x) (owned xs) ∙ (λ i. own_bytes_one x i ++ owned_bytes xs i)

pub owned_marks : (xs : List Shown) → whats (owned xs) ≡ marks xs
owned_marks [] = refl
owned_marks (x ∷ xs) = whats-append (own_one x) (owned xs) ∙ (λ i. own_whats_one x i ++ owned_marks xs i)

-- what looks the same prints the same
pub same_printed : (image : Image) (p q : List Shown) → imaged image p ≡ owned q → printed p ≡ printed q
same_printed image p q e = sym (imaged_bytes image p) ∙ ap bytes e ∙ owned_bytes q

-- ---- what two stops owe: the same bytes, and where they return the same marks

abbrev pub ReturnsSo : Stop → Type 0
ReturnsSo (Returns value) = Unit {0}
ReturnsSo (Traps kind) = ⊥

abbrev pub Owes : Image → List Shown → List Shown → Stop → Type 0
Owes image p q e = (printed p ≡ printed q) × (ReturnsSo e → imaged image p ≡ owned q)

pub stays_owed : (image : Image) → StaysOwed (imaged image) owned (Owes image)
stays_owed image o p q r e same owed = (
  by_bytes,
  λ returns. looked-append (image_one image) o p ∙ (λ i. same i ++ owed.1 returns i) ∙ sym (looked-append own_one q r),
)
  where
    printed-append : (xs ys : List Shown) → printed (xs ++ ys) ≡ printed xs ++ printed ys
    printed-append xs ys =
        sym (owned_bytes (xs ++ ys)) ∙ ap bytes (looked-append own_one xs ys) ∙ bytes-append (owned xs) (owned ys) ∙ (λ i. owned_bytes xs i ++ owned_bytes ys i)

    by_bytes : printed (o ++ p) ≡ printed (q ++ r)
    by_bytes = printed-append o p ∙ (λ i. same_printed image o q same i ++ owed.0 i) ∙ sym (printed-append q r)
