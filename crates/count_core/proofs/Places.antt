-- Words of the rows at different places are different words.
use Rattle.std.proofs.Common.{◌≡◌, ◌≢◌, ℕ, suc, ◌+◌, ◌*◌, ◌<◌, ◌≤◌, arith, mul-le-mul_right, suc-mul}
use Rattle.std.proofs.lemmas.Nat.{same_from_place}
use Rattle.count_core.specs.declared.state.Layout.{Layout}
use Rattle.count_core.specs.Layout.{site_at, ticket_at}

same_place : (base w a b c d : ℕ) → b < w → d < w → base + a * w + b ≡ base + c * w + d → (a ≡ c) × (b ≡ d)
same_place base w a b c d lt lt' e =
    let x : ℕ = a * w in
    let y : ℕ = c * w in
    let e' : base + x + b ≡ base + y + d = e in
    let same : x + b ≡ y + d = omega arith in
    same_from_place a b c d w lt lt' same

-- the word at offset o of a site
abbrev pub word_at : Layout → ℕ → ℕ → ℕ
word_at l site o = site_at l site + o

pub other_place : (l : Layout) (site o site' o' : ℕ) → o < 2 * l.places + 1 → o' < 2 * l.places + 1 → o ≢ o' → word_at l site o ≢ word_at l site' o'
other_place l site o site' o' lt lt' ne e = ne (same_place l.counters (2 * l.places + 1) site o site' o' lt lt' e).1

pub other_site : (l : Layout) (site o site' o' : ℕ) → o < 2 * l.places + 1 → o' < 2 * l.places + 1 → site ≢ site' → word_at l site o ≢ word_at l site' o'
other_site l site o site' o' lt lt' ne e = ne (same_place l.counters (2 * l.places + 1) site o site' o' lt lt' e).0

before : (base w a n o : ℕ) → a < n → o < w → base + a * w + o < base + n * w
before base w a n o lt lt' =
    let h : suc a * w ≤ n * w = mul-le-mul_right w lt in
    let k = suc-mul a w in
    let x : ℕ = a * w in
    let y : ℕ = n * w in
    let h' : x + w ≤ y = omega arith in
    omega arith

-- the words of a site stand before the ticket word
pub word_before : (l : Layout) (site o : ℕ) → site < l.sites → o < 2 * l.places + 1 → word_at l site o < ticket_at l
word_before l site o lt lt' = before l.counters (2 * l.places + 1) site l.sites o lt lt'
