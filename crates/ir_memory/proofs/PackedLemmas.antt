-- Cells in three lists side by side.
use Rattle.std.proofs.Common.{◌≡◌, ℕ, zero, suc, ◌+◌, ◌-◌, ◌/◌, ◌%◌, ◌*◌, ◌^◌, ◌<◌, ◌≤◌, List, [], ◌∷◌, ◌++◌, length, get_or, set, take, drop, map, replicate, refl, sym, ap, ◌∙◌, arith, subst, get_or-set_other, get_or-set_same}
use Rattle.std.proofs.lemmas.List.{append-nil, drop_all, get_or-append-add, get_or-take, get_or_append_left, length-append, length-drop, length-replicate, length-set, length-take, length-take-le, take_at}
use Rattle.ir_memory.specs.declared.stored_pointer.StoredPointer.{StoredPointer}
use Rattle.ir_memory.specs.Address.{address_of}
use Rattle.ir_memory.specs.Cell.{Cell, Byte, byte_of}
use Rattle.ir_memory.specs.Contents.{overwritten, pieces}
use Rattle.ir_memory.specs.Packed.{put, no_pointer, piece_of, cell_of, cells_from, IsKept, AreKept, ArePacked}
use Rattle.ir_memory.proofs.ByteLemmas.{shifted_bytes}
use Rattle.ir_memory.proofs.PointerLemmas.{pieces_from}

-- ---- lengths, and what the cells read as

pub length_tags : (ps : List StoredPointer) (i : ℕ) (vs ts : List ℕ) → AreKept ps i vs ts → length vs ≡ length ts
length_tags ps i [] [] kept = refl
length_tags ps i [] (t ∷ ts) kept = absurd kept
length_tags ps i (v ∷ vs) [] kept = absurd kept
length_tags ps i (v ∷ vs) (t ∷ ts) kept = ap suc (length_tags ps (suc i) vs ts kept.1)

pub length_cells : (ps : List StoredPointer) (i : ℕ) (vs ts : List ℕ) → length vs ≡ length ts → length (cells_from ps i vs ts) ≡ length vs
length_cells ps i [] ts e = refl
length_cells ps i (v ∷ vs) [] e = absurd (omega arith)
length_cells ps i (v ∷ vs) (t ∷ ts) e = ap suc (length_cells ps (suc i) vs ts (omega arith))

byte_is : (ps : List StoredPointer) (i v t : ℕ) → IsKept ps i v t → byte_of (cell_of ps i v t) ≡ v
byte_is ps i v zero kept = refl
byte_is ps i v (suc k) kept = sym kept.2

pub bytes_are : (ps : List StoredPointer) (i : ℕ) (vs ts : List ℕ) → AreKept ps i vs ts → map byte_of (cells_from ps i vs ts) ≡ vs
bytes_are ps i [] [] kept = refl
bytes_are ps i [] (t ∷ ts) kept = absurd kept
bytes_are ps i (v ∷ vs) [] kept = absurd kept
bytes_are ps i (v ∷ vs) (t ∷ ts) kept =
    let a = byte_is ps i v t kept.0 in
    let b = bytes_are ps (suc i) vs ts kept.1 in
    λ x. a x ∷ b x

-- ---- cut and joined

pub cells-take : (ps : List StoredPointer) (i n : ℕ) (vs ts : List ℕ) → cells_from ps i (take n vs) (take n ts) ≡ take n (cells_from ps i vs ts)
cells-take ps i zero vs ts = refl
cells-take ps i (suc n) [] ts = refl
cells-take ps i (suc n) (v ∷ vs) [] = refl
cells-take ps i (suc n) (v ∷ vs) (t ∷ ts) = ap (λ cs. cell_of ps i v t ∷ cs) (cells-take ps (suc i) n vs ts)

no_tags : (ps : List StoredPointer) (i : ℕ) (vs : List ℕ) → cells_from ps i vs [] ≡ []
no_tags ps i [] = refl
no_tags ps i (v ∷ vs) = refl

pub cells-drop : (ps : List StoredPointer) (i k n : ℕ) (vs ts : List ℕ) → k ≡ i + n
    → cells_from ps k (drop n vs) (drop n ts) ≡ drop n (cells_from ps i vs ts)
cells-drop ps i k zero vs ts e = let f : k ≡ i = omega arith in ap (λ j. cells_from ps j vs ts) f
cells-drop ps i k (suc n) [] ts e = refl
cells-drop ps i k (suc n) (v ∷ vs) [] e = no_tags ps k (drop n vs)
cells-drop ps i k (suc n) (v ∷ vs) (t ∷ ts) e = cells-drop ps (suc i) k n vs ts (omega arith)

pub kept-take : (ps : List StoredPointer) (i n : ℕ) (vs ts : List ℕ) → AreKept ps i vs ts → AreKept ps i (take n vs) (take n ts)
kept-take ps i zero vs ts kept = tt
kept-take ps i (suc n) [] [] kept = tt
kept-take ps i (suc n) [] (t ∷ ts) kept = absurd kept
kept-take ps i (suc n) (v ∷ vs) [] kept = absurd kept
kept-take ps i (suc n) (v ∷ vs) (t ∷ ts) kept = (kept.0, kept-take ps (suc i) n vs ts kept.1)

pub kept-drop : (ps : List StoredPointer) (i k n : ℕ) (vs ts : List ℕ) → k ≡ i + n → AreKept ps i vs ts → AreKept ps k (drop n vs) (drop n ts)
kept-drop ps i k zero vs ts e kept =
    let f : i ≡ k = omega arith in
    let P : ℕ → Type 0 = λ j. AreKept ps j vs ts in
    subst P f kept
kept-drop ps i k (suc n) [] [] e kept = tt
kept-drop ps i k (suc n) [] (t ∷ ts) e kept = absurd kept
kept-drop ps i k (suc n) (v ∷ vs) [] e kept = absurd kept
kept-drop ps i k (suc n) (v ∷ vs) (t ∷ ts) e kept = kept-drop ps (suc i) k n vs ts (omega arith) kept.1

pub cells-append : (ps : List StoredPointer) (i k : ℕ) (vs ws ts us : List ℕ) → length vs ≡ length ts → k ≡ i + length vs
    → cells_from ps i (vs ++ ws) (ts ++ us) ≡ cells_from ps i vs ts ++ cells_from ps k ws us
cells-append ps i k [] ws [] us l e = let f : i ≡ k = omega arith in ap (λ j. cells_from ps j ws us) f
cells-append ps i k [] ws (t ∷ ts) us l e = absurd (omega arith)
cells-append ps i k (v ∷ vs) ws [] us l e = absurd (omega arith)
cells-append ps i k (v ∷ vs) ws (t ∷ ts) us l e =
    ap (λ cs. cell_of ps i v t ∷ cs) (cells-append ps (suc i) k vs ws ts us (omega arith) (omega arith))

pub kept-append : (ps : List StoredPointer) (i k : ℕ) (vs ws ts us : List ℕ) → k ≡ i + length vs → AreKept ps i vs ts → AreKept ps k ws us
    → AreKept ps i (vs ++ ws) (ts ++ us)
kept-append ps i k [] ws [] us e kept more =
    let f : k ≡ i = omega arith in
    let P : ℕ → Type 0 = λ j. AreKept ps j ws us in
    subst P f more
kept-append ps i k [] ws (t ∷ ts) us e kept more = absurd kept
kept-append ps i k (v ∷ vs) ws [] us e kept more = absurd kept
kept-append ps i k (v ∷ vs) ws (t ∷ ts) us e kept more = (kept.0, kept-append ps (suc i) k vs ws ts us (omega arith) kept.1 more)

-- the cells of a range
pub cells_between : (ps : List StoredPointer) (at w : ℕ) (vs ts : List ℕ)
    → cells_from ps at (take w (drop at vs)) (take w (drop at ts)) ≡ take w (drop at (cells_from ps 0 vs ts))
cells_between ps at w vs ts = cells-take ps at w (drop at vs) (drop at ts) ∙ ap (take w) (cells-drop ps 0 at at vs ts (omega arith))

pub kept_between : (ps : List StoredPointer) (at w : ℕ) (vs ts : List ℕ) → AreKept ps 0 vs ts
    → AreKept ps at (take w (drop at vs)) (take w (drop at ts))
kept_between ps at w vs ts kept = kept-take ps at w (drop at vs) (drop at ts) (kept-drop ps 0 at at vs ts (omega arith) kept)

-- ---- other pointers

-- the pointers that cells from `low` on and below `high` may be pieces of stand `shift` places further on
pub record Agree (ps qs : List StoredPointer) (shift low high : ℕ) : Type 0 where
  pub here : (j k : ℕ) → k ≡ shift + j → low ≤ j + 7 → j < high → get_or qs k no_pointer ≡ get_or ps j no_pointer

-- so the cells are the same from place k on as they were from i on
pub record Moved (ps qs : List StoredPointer) (i k : ℕ) (vs ts : List ℕ) : Type 0 where
  pub cells : cells_from qs k vs ts ≡ cells_from ps i vs ts
  pub kept : AreKept qs k vs ts

cell_moved : (ps qs : List StoredPointer) (shift low high i k v t : ℕ) → Agree ps qs shift low high → low ≤ i → i < high → k ≡ shift + i
    → IsKept ps i v t → record { same : cell_of qs k v t ≡ cell_of ps i v t; kept : IsKept qs k v t }
cell_moved ps qs shift low high i k v zero a l h e kept = record { same = refl; kept = tt }
cell_moved ps qs shift low high i k v (suc t) a l h e kept =
    let f : k - t ≡ shift + (i - t) = omega (arith, kept.0, kept.1) in
    let p = a.here (i - t) (k - t) f (omega (arith, kept.0, kept.1)) (omega arith) in
    record {
      same = ap (λ q. piece_of q t) p;
      kept = (kept.0, omega (arith, kept.1), kept.2 ∙ ap (λ q. byte_of (piece_of q t)) (sym p));
    }

pub moved : (ps qs : List StoredPointer) (shift low high i k : ℕ) (vs ts : List ℕ) → Agree ps qs shift low high → low ≤ i → i + length vs ≤ high
    → k ≡ shift + i → AreKept ps i vs ts → Moved ps qs i k vs ts
moved ps qs shift low high i k [] [] a l h e kept = record { cells = refl; kept = tt }
moved ps qs shift low high i k [] (t ∷ ts) a l h e kept = absurd kept
moved ps qs shift low high i k (v ∷ vs) [] a l h e kept = absurd kept
moved ps qs shift low high i k (v ∷ vs) (t ∷ ts) a l h e kept =
    let c = cell_moved ps qs shift low high i k v t a l (omega arith) e kept.0 in
    let r = moved ps qs shift low high (suc i) (suc k) vs ts a (omega arith) (omega arith) (omega arith) kept.1 in
    let s = c.same in
    let u = r.cells in
    record { cells = λ x. s x ∷ u x; kept = (c.kept, r.kept) }

pub agree_self : (ps : List StoredPointer) (low high : ℕ) → Agree ps ps 0 low high
agree_self ps low high = record { here = λ j k e l h. let f : k ≡ j = omega arith in ap (λ m. get_or ps m no_pointer) f }

pub agree-set_below : (ps : List StoredPointer) (at : ℕ) (p : StoredPointer) → Agree ps (set ps at p) 0 0 at
agree-set_below ps at p = record {
  here = λ j k e l h.
      let f : k ≡ j = omega arith in
      ap (λ m. get_or (set ps at p) m no_pointer) f ∙ get_or-set_other ps at j p no_pointer (λ g. omega (arith, g));
}

pub agree-set_above : (ps : List StoredPointer) (at : ℕ) (p : StoredPointer) (high : ℕ) → Agree ps (set ps at p) 0 (at + 8) high
agree-set_above ps at p high = record {
  here = λ j k e l h.
      let f : k ≡ j = omega arith in
      ap (λ m. get_or (set ps at p) m no_pointer) f ∙ get_or-set_other ps at j p no_pointer (λ g. omega (arith, g));
}

-- ---- bytes and pieces

pub cells_zero : (ps : List StoredPointer) (i n : ℕ) (bs : List ℕ) → length bs ≡ n → cells_from ps i bs (replicate n 0) ≡ map Byte bs
cells_zero ps i zero [] e = refl
cells_zero ps i (suc n) [] e = absurd (omega arith)
cells_zero ps i zero (b ∷ bs) e = absurd (omega arith)
cells_zero ps i (suc n) (b ∷ bs) e = ap (λ cs. Byte b ∷ cs) (cells_zero ps (suc i) n bs (omega arith))

pub kept_zero : (ps : List StoredPointer) (i n : ℕ) (bs : List ℕ) → length bs ≡ n → AreKept ps i bs (replicate n 0)
kept_zero ps i zero [] e = tt
kept_zero ps i (suc n) [] e = absurd (omega arith)
kept_zero ps i zero (b ∷ bs) e = absurd (omega arith)
kept_zero ps i (suc n) (b ∷ bs) e = (tt, kept_zero ps (suc i) n bs (omega arith))

pub map_Byte-replicate : (n : ℕ) → map Byte (replicate n 0) ≡ replicate n (Byte 0)
map_Byte-replicate zero = refl
map_Byte-replicate (suc n) = ap (λ cs. Byte 0 ∷ cs) (map_Byte-replicate n)

-- the tags of n pieces from the k-th on
abbrev pub piece_tags : ℕ → ℕ → List ℕ
piece_tags k zero = []
piece_tags k (suc n) = suc k ∷ piece_tags (suc k) n

pub cells_tagged : (ps : List StoredPointer) (p : StoredPointer) (at i k n : ℕ) (vs : List ℕ) → length vs ≡ n → i ≡ at + k → get_or ps at no_pointer ≡ p
    → cells_from ps i vs (piece_tags k n) ≡ pieces_from p.base p.offset k n
cells_tagged ps p at i k zero [] l e f = refl
cells_tagged ps p at i k zero (v ∷ vs) l e f = absurd (omega arith)
cells_tagged ps p at i k (suc n) [] l e f = absurd (omega arith)
cells_tagged ps p at i k (suc n) (v ∷ vs) l e f =
    let g : i - k ≡ at = omega arith in
    let h : get_or ps (i - k) no_pointer ≡ p = ap (λ j. get_or ps j no_pointer) g ∙ f in
    let r = cells_tagged ps p at (suc i) (suc k) n vs (omega arith) (omega arith) f in
    λ x. piece_of (h x) k ∷ r x

pub kept_tagged : (ps : List StoredPointer) (p : StoredPointer) (at i k n : ℕ) → i ≡ at + k → k + n ≤ 8 → get_or ps at no_pointer ≡ p
    → AreKept ps i (shifted_bytes k n (address_of p.base p.offset)) (piece_tags k n)
kept_tagged ps p at i k zero e l f = tt
kept_tagged ps p at i k (suc n) e l f =
    let g : i - k ≡ at = omega arith in
    let h : get_or ps (i - k) no_pointer ≡ p = ap (λ j. get_or ps j no_pointer) g ∙ f in
    let b = ap (λ (q : StoredPointer). address_of q.base q.offset / 2 ^ (8 * k) % 256) (sym h) in
    ((omega arith, omega arith, b), kept_tagged ps p at (suc i) (suc k) n (omega arith) (omega arith) f)

-- ---- a write

-- what cells are once those from `at` on are written
pub record Written (qs : List StoredPointer) (cells new : List Cell) (at : ℕ) (vs ts : List ℕ) : Type 0 where
  pub cells_are : cells_from qs 0 vs ts ≡ overwritten cells at new
  pub kept : AreKept qs 0 vs ts

pub written : (ps qs : List StoredPointer) (at n : ℕ) (vs ts bs us : List ℕ) (new : List Cell) → AreKept ps 0 vs ts → at + n ≤ length vs → length bs ≡ n
    → Moved ps qs 0 0 (take at vs) (take at ts) → Moved ps qs (at + n) (at + n) (drop (at + n) vs) (drop (at + n) ts)
    → AreKept qs at bs us → cells_from qs at bs us ≡ new
    → Written qs (cells_from ps 0 vs ts) new at (put vs at bs) (put ts at us)
written ps qs at n vs ts bs us new kept h l front back mid e =
    let same : length vs ≡ length ts = length_tags ps 0 vs ts kept in
    let lu : length us ≡ n = sym (length_tags qs at bs us mid) ∙ l in
    let ln : length new ≡ n = sym (ap length e) ∙ length_cells qs at bs us (l ∙ sym lu) ∙ l in
    let fv : length (take at vs) ≡ at = omega (arith, length-take at vs) in
    let ft : length (take at ts) ≡ at = omega (arith, length-take at ts) in
    let dv : drop (at + length bs) vs ≡ drop (at + n) vs = ap (λ m. drop (at + m) vs) l in
    let dt : drop (at + length us) ts ≡ drop (at + n) ts = ap (λ m. drop (at + m) ts) lu in
    let cells = cells_from ps 0 vs ts in
    let tail : cells_from qs at (bs ++ drop (at + length bs) vs) (us ++ drop (at + length us) ts) ≡ new ++ drop (at + length new) cells =
    cells-append qs at (at + n) bs (drop (at + length bs) vs) us (drop (at + length us) ts) (l ∙ sym lu) (omega arith)
    ∙ (λ x. e x ++ cells_from qs (at + n) (dv x) (dt x))
    ∙ ap (λ cs. new ++ cs) (back.cells ∙ cells-drop ps 0 (at + n) (at + n) vs ts (omega arith) ∙ ap (λ m. drop (at + m) cells) (sym ln)) in
    let P : List ℕ → List ℕ → Type 0 = λ x y. AreKept qs (at + n) x y in
    let mended : AreKept qs (at + n) (drop (at + length bs) vs) (drop (at + length us) ts) =
    subst (λ (x : List ℕ). P x (drop (at + length us) ts)) (sym dv) (subst (λ (x : List ℕ). P (drop (at + n) vs) x) (sym dt) back.kept) in
    let f = front.cells in
    record {
      cells_are =
          cells-append qs 0 at (take at vs) (bs ++ drop (at + length bs) vs) (take at ts) (us ++ drop (at + length us) ts) (fv ∙ sym ft) (omega arith)
          ∙ (λ x. f x ++ tail x)
          ∙ ap (λ cs. cs ++ (new ++ drop (at + length new) cells)) (cells-take ps 0 at vs ts);
      kept = kept-append qs 0 at (take at vs) (bs ++ drop (at + length bs) vs) (take at ts) (us ++ drop (at + length us) ts) (omega arith) front.kept
          (kept-append qs at (at + n) bs (drop (at + length bs) vs) us (drop (at + length us) ts) (omega arith) mid mended);
    }

-- ---- the vectors as a whole

pub length_view : (ps : List StoredPointer) (vs ts : List ℕ) → ArePacked vs ts ps → length (cells_from ps 0 vs ts) ≡ length vs
length_view ps vs ts p = length_cells ps 0 vs ts (length_tags ps 0 vs ts p.kept)

pub length-put : {X : Type 0} (xs new : List X) (at : ℕ) → at + length new ≤ length xs → length (put xs at new) ≡ length xs
length-put xs new at h = simp (length-append, length-take, length-drop) (omega arith)

-- what a call leaves: vectors that fit one another, and the cells that they are
pub record Leaves (vs ts : List ℕ) (ps : List StoredPointer) (cells : List Cell) : Type 0 where
  pub packed : ArePacked vs ts ps
  pub cells_are : cells_from ps 0 vs ts ≡ cells

-- the front parts of the vectors
pub leaves_front : (ps : List StoredPointer) (vs ts : List ℕ) (n : ℕ) → ArePacked vs ts ps
    → Leaves (take n vs) (take n ts) ps (take n (cells_from ps 0 vs ts))
leaves_front ps vs ts n p = record {
  packed = record { kept = kept-take ps 0 n vs ts p.kept; room = (let r = p.room in omega (arith, r, length-take n vs)) };
  cells_are = cells-take ps 0 n vs ts;
}

-- more pointers behind those there were
agree_more : (ps qs : List StoredPointer) (high : ℕ) → high ≤ length ps → take (length ps) qs ≡ ps → Agree ps qs 0 0 high
agree_more ps qs high h e = record {
  here = λ j k f l g.
      let i : k ≡ j = omega arith in
      ap (λ m. get_or qs m no_pointer) i ∙ sym (get_or-take (length ps) qs j no_pointer (omega arith)) ∙ ap (λ xs. get_or xs j no_pointer) e;
}

pub leaves_more : (ps qs : List StoredPointer) (vs ts : List ℕ) → ArePacked vs ts ps → take (length ps) qs ≡ ps
    → Leaves vs ts qs (cells_from ps 0 vs ts)
leaves_more ps qs vs ts p e =
    let r = p.room in
    let m = moved ps qs 0 0 (length vs) 0 0 vs ts (agree_more ps qs (length vs) r e) (omega arith) (omega arith) (omega arith) p.kept in
    let l = ap length e in
    record {
      packed = record { kept = m.kept; room = omega (arith, r, l, length-take (length ps) qs) };
      cells_are = m.cells;
    }

-- zero bytes behind
pub leaves_zeros : (ps qs : List StoredPointer) (vs ts : List ℕ) (n : ℕ) → ArePacked vs ts ps → take (length ps) qs ≡ ps → length vs + n ≤ length qs
    → Leaves (vs ++ replicate n 0) (ts ++ replicate n 0) qs (cells_from ps 0 vs ts ++ replicate n (Byte 0))
leaves_zeros ps qs vs ts n p e h =
    let m = leaves_more ps qs vs ts p e in
    let same = length_tags ps 0 vs ts p.kept in
    let zeros : List ℕ = replicate n 0 in
    let z : length zeros ≡ n = length-replicate n 0 in
    record {
      packed = record {
        kept = kept-append qs 0 (length vs) vs zeros ts zeros (omega arith) m.packed.kept (kept_zero qs (length vs) n zeros z);
        room = omega (arith, h, z, length-append vs zeros);
      };
      cells_are =
          cells-append qs 0 (length vs) vs zeros ts zeros same (omega arith)
          ∙ (λ x. m.cells_are x ++ cells_zero qs (length vs) n zeros z x)
          ∙ ap (λ cs. cells_from ps 0 vs ts ++ cs) (map_Byte-replicate n);
    }

-- other cells behind, in the place of zero bytes
pub leaves_others : (ps os : List StoredPointer) (vs ts ws us : List ℕ) (at : ℕ) → ArePacked vs ts ps → ArePacked ws us os → at + length ws ≡ length vs
    → Leaves (put vs at ws) (put ts at us) (put ps at (take (length ws) os)) (take at (cells_from ps 0 vs ts) ++ cells_from os 0 ws us)
leaves_others ps os vs ts ws us at p o h =
    let n = length ws in
    let new = take n os in
    let qs = put ps at new in
    let pr = p.room in
    let or = o.room in
    let ln : length new ≡ n = length-take-le n os or in
    let lt : length (take at ps) ≡ at = length-take-le at ps (omega arith) in
    let same : length vs ≡ length ts = length_tags ps 0 vs ts p.kept in
    let front_agree : Agree ps qs 0 0 at = record {
      here = λ j k f l g.
          let i : k ≡ j = omega arith in
          ap (λ m. get_or qs m no_pointer) i ∙ get_or_append_left (take at ps) (new ++ drop (at + length new) ps) no_pointer j (omega (arith, lt, g))
          ∙ get_or-take at ps j no_pointer g;
    } in
    let mid_agree : Agree os qs at 0 n = record {
      here = λ j k f l g.
          let i : k ≡ length (take at ps) + j = omega (arith, lt, f) in
          ap (λ m. get_or qs m no_pointer) i ∙ get_or-append-add (take at ps) (new ++ drop (at + length new) ps) j no_pointer
          ∙ get_or_append_left new (drop (at + length new) ps) no_pointer j (omega (arith, ln, g))
          ∙ get_or-take n os j no_pointer g;
    } in
    let front = moved ps qs 0 0 at 0 0 (take at vs) (take at ts) front_agree (omega arith) (omega (arith, length-take at vs)) (omega arith) (kept-take ps 0 at vs ts p.kept) in
    let mid = moved os qs at 0 n 0 at ws us mid_agree (omega arith) (omega arith) (omega arith) o.kept in
    let nv : drop (at + n) vs ≡ [] = drop_all (at + n) vs (omega arith) in
    let nt : drop (at + n) ts ≡ [] = drop_all (at + n) ts (omega (arith, same)) in
    let M : List ℕ → List ℕ → Type 0 = λ x y. Moved ps qs (at + n) (at + n) x y in
    let none : Moved ps qs (at + n) (at + n) [] [] = record { cells = refl; kept = tt } in
    let back : Moved ps qs (at + n) (at + n) (drop (at + n) vs) (drop (at + n) ts) =
    subst (λ (x : List ℕ). M x (drop (at + n) ts)) (sym nv) (subst (λ (x : List ℕ). M [] x) (sym nt) none) in
    let new_cells = cells_from os 0 ws us in
    let w = written ps qs at n vs ts ws us new_cells p.kept (omega arith) refl front back mid.kept mid.cells in
    let lc : length new_cells ≡ n = length_view os ws us o in
    let cells = cells_from ps 0 vs ts in
    let lv : length cells ≡ length vs = length_view ps vs ts p in
    let rest : drop (at + length new_cells) cells ≡ [] = drop_all (at + length new_cells) cells (omega (arith, lc, lv)) in
    record {
      packed = record {
        kept = w.kept;
        room = omega (arith, length-put vs ws at (omega arith), length-put ps new at (omega (arith, ln)), pr);
      };
      cells_are = w.cells_are ∙ ap (λ cs. take at cells ++ (new_cells ++ cs)) rest ∙ ap (λ cs. take at cells ++ cs) (append-nil new_cells);
    }

-- bytes written
pub leaves_bytes : (ps : List StoredPointer) (vs ts bs : List ℕ) (at n : ℕ) → ArePacked vs ts ps → at + length bs ≤ length vs → n ≡ length bs
    → Leaves (put vs at bs) (put ts at (replicate n 0)) ps (overwritten (cells_from ps 0 vs ts) at (map Byte bs))
leaves_bytes ps vs ts bs at n p h e =
    let m = length bs in
    let r = p.room in
    let front = moved ps ps 0 0 at 0 0 (take at vs) (take at ts) (agree_self ps 0 at) (omega arith) (omega (arith, length-take at vs)) (omega arith)
    (kept-take ps 0 at vs ts p.kept) in
    let back = moved ps ps 0 (at + m) (length vs) (at + m) (at + m) (drop (at + m) vs) (drop (at + m) ts) (agree_self ps (at + m) (length vs)) (omega arith)
    (omega (arith, length-drop (at + m) vs)) (omega arith) (kept-drop ps 0 (at + m) (at + m) vs ts (omega arith) p.kept) in
    let w = written ps ps at m vs ts bs (replicate n 0) (map Byte bs) p.kept h refl front back (kept_zero ps at n bs (sym e)) (cells_zero ps at n bs (sym e)) in
    record { packed = record { kept = w.kept; room = omega (arith, length-put vs bs at h, r) }; cells_are = w.cells_are }

-- a pointer written
pub leaves_pointer : (ps : List StoredPointer) (vs ts : List ℕ) (at : ℕ) (p : StoredPointer) → ArePacked vs ts ps → at + 8 ≤ length vs
    → Leaves (put vs at (shifted_bytes 0 8 (address_of p.base p.offset))) (put ts at (piece_tags 0 8)) (set ps at p)
    (overwritten (cells_from ps 0 vs ts) at (pieces p.base p.offset))
leaves_pointer ps vs ts at p packed h =
    let bs = shifted_bytes 0 8 (address_of p.base p.offset) in
    let qs = set ps at p in
    let r = packed.room in
    let here : get_or qs at no_pointer ≡ p = get_or-set_same ps at p no_pointer (omega arith) in
    let front = moved ps qs 0 0 at 0 0 (take at vs) (take at ts) (agree-set_below ps at p) (omega arith) (omega (arith, length-take at vs)) (omega arith)
    (kept-take ps 0 at vs ts packed.kept) in
    let back = moved ps qs 0 (at + 8) (length vs) (at + 8) (at + 8) (drop (at + 8) vs) (drop (at + 8) ts) (agree-set_above ps at p (length vs)) (omega arith)
    (omega (arith, length-drop (at + 8) vs)) (omega arith) (kept-drop ps 0 (at + 8) (at + 8) vs ts (omega arith) packed.kept) in
    let mid = kept_tagged qs p at at 0 8 (omega arith) (omega arith) here in
    let cells = cells_tagged qs p at at 0 8 bs refl (omega arith) here in
    let w = written ps qs at 8 vs ts bs (piece_tags 0 8) (pieces p.base p.offset) packed.kept h refl front back mid cells in
    record {
      packed = record { kept = w.kept; room = omega (arith, length-put vs bs at h, length-set ps at p, r) };
      cells_are = w.cells_are;
    }

-- how long the vectors of so many cells are
pub record Sizes (vs ts : List ℕ) (ps : List StoredPointer) (cells : List Cell) : Type 0 where
  pub values : length vs ≡ length cells
  pub tags : length ts ≡ length cells
  pub pointers : length cells ≤ length ps

pub sizes : (ps : List StoredPointer) (vs ts : List ℕ) (cells : List Cell) → ArePacked vs ts ps → cells_from ps 0 vs ts ≡ cells → Sizes vs ts ps cells
sizes ps vs ts cells p e =
    let l : length (cells_from ps 0 vs ts) ≡ length vs = length_view ps vs ts p in
    let f : length (cells_from ps 0 vs ts) ≡ length cells = ap length e in
    let t = length_tags ps 0 vs ts p.kept in
    let r = p.room in
    record { values = omega arith; tags = omega arith; pointers = omega arith }

-- cells written over the zero bytes behind others
pub written_behind : (cells new : List Cell) (n at : ℕ) → at ≡ length cells → length new ≡ n
    → overwritten (cells ++ replicate n (Byte 0)) at new ≡ cells ++ new
written_behind cells new n at e l =
    let zeros : List Cell = replicate n (Byte 0) in
    let z : length zeros ≡ n = length-replicate n (Byte 0) in
    let front : take at (cells ++ zeros) ≡ cells = take_at cells zeros at (sym e) in
    let rest : drop (at + length new) (cells ++ zeros) ≡ [] = drop_all (at + length new) (cells ++ zeros) (omega (arith, length-append cells zeros)) in
    (λ x. front x ++ (new ++ rest x)) ∙ ap (λ cs. cells ++ cs) (append-nil new)
