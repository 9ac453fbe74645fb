-- A hash is a number of 64 bits.
use Rattle.std.proofs.Common.{ℕ, zero, suc, ◌<◌, ◌^◌, inl, inr, List, [], ◌∷◌, ◌++◌, take, slice_index, refl, subst, sym, arith}
use Rattle.std.specs.Int.{bytes_low_first, byte_at, from_le_bytes, to_le_bytes, w32, w64}
use Rattle.md5.specs.Md5.{digest_bytes, md5}
use Rattle.ir_rules.specs.Lists.{Among}
use Rattle.pgo_base.specs.Hash.{hash8}

abbrev AllBytes : List ℕ → Type 0
AllBytes xs = (x : ℕ) → Among x xs → x < 256

bytes_append : (xs ys : List ℕ) → AllBytes xs → AllBytes ys → AllBytes (xs ++ ys)
bytes_append [] ys h k x at = k x at
bytes_append (z ∷ zs) ys h k x (inl e) = h x (inl e)
bytes_append (z ∷ zs) ys h k x (inr at) = bytes_append zs ys (λ w there. h w (inr there)) k x at

byte_small : (i n : ℕ) → byte_at i n < 256
byte_small zero n = omega arith
byte_small (suc i) n = omega arith

low_bytes : (i k n : ℕ) → AllBytes (bytes_low_first i k n)
low_bytes i zero n x at = absurd at
low_bytes i (suc k) n x (inl e) = subst (λ (z : ℕ). z < 256) (sym e) (byte_small i n)
low_bytes i (suc k) n x (inr at) = low_bytes (suc i) k n x at

digest_small : (h : List ℕ) (n : ℕ) → AllBytes (digest_bytes h n)
unfolding digest_bytes
digest_small h zero x at = absurd at
digest_small h (suc n) x at = bytes_append (digest_bytes h n) (to_le_bytes w32 (slice_index h n)) (digest_small h n) (low_bytes 0 4 (slice_index h n)) x at

taken_small : (k : ℕ) (xs : List ℕ) → AllBytes xs → AllBytes (take k xs)
taken_small zero xs h x at = absurd at
taken_small (suc k) [] h x at = h x at
taken_small (suc k) (y ∷ ys) h x (inl e) = h x (inl e)
taken_small (suc k) (y ∷ ys) h x (inr at) = taken_small k ys (λ w there. h w (inr there)) x at

index_small : (xs : List ℕ) → AllBytes xs → (i : ℕ) → slice_index xs i < 256
index_small [] h i = omega arith
index_small (x ∷ xs) h zero = h x (inl refl)
index_small (x ∷ xs) h (suc i) = index_small xs (λ w there. h w (inr there)) i

eight_small : (bs : List ℕ) → ((i : ℕ) → slice_index bs i < 256) → from_le_bytes w64 bs < 2 ^ 64
eight_small bs h =
    let a = h 0 in
    let b = h 1 in
    let c = h 2 in
    let d = h 3 in
    let e = h 4 in
    let f = h 5 in
    let g = h 6 in
    let i = h 7 in
    omega (arith, a, b, c, d, e, f, g, i)

pub hash_small : (xs : List ℕ) → hash8 xs < 2 ^ 64
unfolding md5
hash_small xs = eight_small (take 8 (md5 xs)) (index_small (take 8 (md5 xs)) (taken_small 8 (md5 xs) (digest_small _ 4)))
