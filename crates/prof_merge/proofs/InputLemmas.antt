-- Records and modes of inputs.
use Rattle.std.proofs.Common.{◌≡◌, ◌+◌, ◌<◌, ℕ, zero, suc, Bool, true, false, cond, List, [], ◌∷◌, ◌++◌, Option, Some, None, Result, Ok, Err, IfNone, IfErr, length, min, take, sum_by, get_or, slice_get, refl, sym, ap, ◌∙◌, subst, arith, append-nil, append_assoc}
use Rattle.std.specs.List.{AllZip, flat_map}
use Rattle.std.proofs.lemmas.List.{take_more}
use Rattle.std.proofs.lemmas.Option.{slice_get_within, get_or_from_slice_get}
use Rattle.std.proofs.lemmas.List.Elements.{filter-append}
use Rattle.std.proofs.lemmas.List.Concat.{flat_map-append}
use Rattle.std.proofs.lemmas.List.Sums.{sum_by_push}
use Rattle.prof_view.specs.Profile.{ProfileRecord, ProfileInput}
use Rattle.prof_text.specs.Merged.{Key, key_of, has_key, of_key, capped, most}
use Rattle.prof_text.specs.Mismatch.{IsMismatch}
use Rattle.prof_text.specs.Gathered.{Gathers, IsTallyAt, with_records}
use Rattle.prof_text.specs.declared.gathered.Gathered.{Gathered}
use Rattle.prof_text.specs.declared.error.MergeError.{MergeError}
use Rattle.prof_text.specs.declared.error.MergeError.TheVariants.{CounterMismatch, SiteMismatch, HeaderMismatch, NoMemory}
use Rattle.prof_merge.specs.Inputs.{records_of, modes_of, AllHaveMode, IsMergeRefusal}
use Rattle.prof_merge.specs.Parts.{GathersInputs}

-- the mode of the input at a place
pub mode_at : (xs : List ProfileInput) (k : ℕ) (d : ProfileInput) → k < length xs → slice_get (modes_of xs) k ≡ Some (get_or xs k d).entry_first
mode_at [] k d low = absurd (omega arith)
mode_at (x ∷ xs) zero d low = refl
mode_at (x ∷ xs) (suc k) d low = mode_at xs k d (omega arith)

pub all_modes : (xs : List ProfileInput) (m : Bool) → ((k : ℕ) → k < length xs → slice_get (modes_of xs) k ≡ Some m) → AllHaveMode m xs
all_modes xs m h k d low = let e : Some (get_or xs k d).entry_first ≡ Some m = sym (mode_at xs k d low) ∙ h k low in cc

-- a capped total, and one more record
pub total_push : (count : ProfileRecord → ℕ) (before : List ProfileRecord) (r : ProfileRecord) (n : ℕ) → n ≡ capped (sum_by count before) → min (n + count r) most ≡ capped (sum_by count (before ++ r ∷ []))
total_push count before r n e = omega (arith, sum_by_push count before r)

step_of_key : (b : Bool) (xs : List ProfileRecord) (r : ProfileRecord) → xs ++ cond b (r ∷ []) [] ≡ cond b (xs ++ r ∷ []) xs
step_of_key true xs r = refl
step_of_key false xs r = append-nil xs

-- one more record
pub of_key_push : (xs : List ProfileRecord) (r : ProfileRecord) (key : Key) → of_key key (xs ++ r ∷ []) ≡ with_records (λ k. of_key k xs) (key_of r) (r ∷ []) key
of_key_push xs r key = filter-append (has_key key) xs (r ∷ []) ∙ step_of_key (has_key key r) (of_key key xs) r

pub of_key_append : (key : Key) (xs ys : List ProfileRecord) → of_key key (xs ++ ys) ≡ of_key key xs ++ of_key key ys
of_key_append key xs ys = filter-append (has_key key) xs ys

-- the same records for each key
pub same_gathers : (part : Gathered) (f g : Key → List ProfileRecord) → ((key : Key) → f key ≡ g key) → Gathers part f → Gathers part g
same_gathers part f g same h key = subst (IsTallyAt _) (same key) (h key)

-- ---- runs of inputs
abbrev pub all_runs : List (List ProfileInput) → List ProfileInput
all_runs runs = flat_map (λ (run : List ProfileInput). run) runs

pub runs_push : (runs : List (List ProfileInput)) (run : List ProfileInput) → records_of (all_runs (runs ++ run ∷ [])) ≡ records_of (all_runs runs) ++ records_of run
runs_push runs run =
    ap records_of (flat_map-append (λ (r : List ProfileInput). r) runs (run ∷ []) ∙ ap (λ (zs : List ProfileInput). all_runs runs ++ zs) (append-nil run))
    ∙ flat_map-append (λ (i : ProfileInput). i.records) (all_runs runs) run

pub record LastZip {A B : Type 0} (R : A → B → Type 0) (xs : List A) (ys : List B) (y : B) : Type 0 where
  pub front : List A
  pub last : A
  pub whole : xs ≡ front ++ last ∷ []
  pub zips : AllZip R front ys
  pub related : R last y

more_zip : {A B : Type 0} (R : A → B → Type 0) (x : A) (xs : List A) (z : B) (ys : List B) (y : B) → R x z → LastZip R xs ys y → LastZip R (x ∷ xs) (z ∷ ys) y
more_zip R x xs z ys y r h = record {
  front = x ∷ h.front;
  last = h.last;
  whole = ap (λ zs. x ∷ zs) h.whole;
  zips = (r, h.zips);
  related = h.related;
}

pub last_zip : {A B : Type 0} (R : A → B → Type 0) (xs : List A) (ys : List B) (y : B) → AllZip R xs (ys ++ y ∷ []) → LastZip R xs ys y
last_zip R [] [] y h = absurd h
last_zip R [] (z ∷ ys) y h = absurd h
last_zip R (x ∷ []) [] y h = record { front = []; last = x; whole = refl; zips = tt; related = h.0 }
last_zip R (x ∷ (w ∷ xs)) [] y h = absurd h.1
last_zip R (x ∷ xs) (z ∷ ys) y h = more_zip R x xs z ys y h.0 (last_zip R xs ys y h.1)

-- one more part
pub absorbed : (runs : List (List ProfileInput)) (run : List ProfileInput) (whole : Gathered) →
    Gathers whole (λ key. of_key key (records_of (all_runs runs)) ++ of_key key (records_of run)) → GathersInputs (all_runs (runs ++ run ∷ [])) whole
absorbed runs run whole h =
    same_gathers whole (λ key. of_key key (records_of (all_runs runs)) ++ of_key key (records_of run)) (λ key. of_key key (records_of (all_runs (runs ++ run ∷ []))))
    (λ key. sym (ap (of_key key) (runs_push runs run) ∙ of_key_append key (records_of (all_runs runs)) (records_of run))) h

pub no_runs : {B : Type 0} (R : List ProfileInput → B → Type 0) (runs : List (List ProfileInput)) → AllZip R runs [] → runs ≡ []
no_runs R [] h = refl
no_runs R (r ∷ runs) h = absurd h

-- ---- answers
pub none_case : {A : Type 0} (o : Option A) (P : Type 0) → o ≡ None → IfNone o P → P
none_case None P e h = h
none_case (Some x) P e h = cc

pub err_case : {T E : Type 0} (r : Result T E) (P Q : E → Type 0) → ((e : E) → P e → Q e) → IfErr r P → IfErr r Q
err_case (Ok x) P Q f h = h
err_case (Err e) P Q f h = f e h

pub refusal_of : (inputs : List ProfileInput) (m : Bool) (error : MergeError) → AllHaveMode m inputs → IsMismatch (records_of inputs) error → IsMergeRefusal inputs error
refusal_of inputs m (CounterMismatch name hash first other) mode h = record { mode = (m, mode); records = h }
refusal_of inputs m (SiteMismatch name hash first other) mode h = record { mode = (m, mode); records = h }
refusal_of inputs m (HeaderMismatch input first other) mode h = absurd h
refusal_of inputs m NoMemory mode h = tt

-- the next record of a view
pub record_at : (before records : List ProfileRecord) (i : ℕ) (r : ProfileRecord) → slice_get records i ≡ Some r → before ++ take (i + 1) records ≡ (before ++ take i records) ++ r ∷ []
record_at before records i r e =
    ap (λ (zs : List ProfileRecord). before ++ zs) (next records i r e) ∙ sym (append_assoc before (take i records) (r ∷ []))
  where
    next : (xs : List ProfileRecord) (k : ℕ) (x : ProfileRecord) → slice_get xs k ≡ Some x → take (k + 1) xs ≡ take k xs ++ x ∷ []
    next xs k x h = take_more xs k x (slice_get_within xs k x h) ∙ ap (λ (y : ProfileRecord). take k xs ++ y ∷ []) (get_or_from_slice_get xs k x x h)
