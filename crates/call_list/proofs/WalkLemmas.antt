-- Reading line by line gives the calls in order, or the first fault and its line.
use Rattle.std.proofs.Common.{◌≡◌, ℕ, zero, suc, ◌+◌, ◌-◌, ◌<◌, ◌≤◌, Bool, true, false, cond, nat_lt, List, [], ◌∷◌, ◌++◌, map, length, take, slice_get, Option, Some, None, Result, Ok, Err, IsOk, is_ok, All, refl, sym, ◌∙◌, ap, subst, arith, append_assoc, append-nil, length-append}
use Rattle.std.proofs.lemmas.Bool.Decides.{nat_tests}
use Rattle.std.proofs.lemmas.List.Elements.{All-nil, All-cons}
use Rattle.ir_tree.specs.declared.types.Module.{Module}
use Rattle.ir_model.specs.declared.result.Call.{Call}
use Rattle.call_list.specs.declared.line.LineError.{LineError}
use Rattle.call_list.specs.declared.line.LineError.TheVariants as fault
use Rattle.call_list.specs.declared.error.CallsError.{CallsError}
use Rattle.call_list.specs.declared.error.CallsError.TheVariants as errors
use Rattle.call_list.specs.Lines.{lines_of}
use Rattle.call_list.specs.Meaning.{meaning, Fails}
use Rattle.call_list.specs.Reading.{Meanings, meanings, calls_in, calls_most, text_most, NoFault, FaultsFirst, Answers}
use Rattle.call_list.specs.Walk.{keep, at_line, Found, found_none, found_more, walk, WalkFails}

-- # One turn

pub walk-more : (m : Module) (n : ℕ) (f : Found) (rest here behind : List ℕ) (call : Option Call) → lines_of rest ≡ here ∷ lines_of behind → meaning m here ≡ Ok call → walk n f (meanings m rest) ≡ walk (n + 1) (found_more f call) (meanings m behind)
unfolding meanings
walk-more m n f rest here behind call e h =
    ap (λ lines. walk n f (map (meaning m) lines)) e ∙ ap (λ x. walk n f (x ∷ map (meaning m) (lines_of behind))) h

pub walk-last : (m : Module) (n : ℕ) (f : Found) (rest here : List ℕ) (call : Option Call) → lines_of rest ≡ here ∷ [] → meaning m here ≡ Ok call → walk n f (meanings m rest) ≡ Ok (found_more f call)
unfolding meanings
walk-last m n f rest here call e h =
    ap (λ lines. walk n f (map (meaning m) lines)) e ∙ ap (λ x. walk n f (x ∷ [])) h

walk-fault : (m : Module) (n : ℕ) (f : Found) (rest here : List ℕ) (others : List (List ℕ)) (e : LineError) → lines_of rest ≡ here ∷ others → meaning m here ≡ Err e → walk n f (meanings m rest) ≡ Err (at_line e n)
unfolding meanings
walk-fault m n f rest here others x e h =
    ap (λ lines. walk n f (map (meaning m) lines)) e ∙ ap (λ y. walk n f (y ∷ map (meaning m) others)) h

pub walk_fails : (m : Module) (n : ℕ) (f : Found) (rest here : List ℕ) (others : List (List ℕ)) (e : LineError) → lines_of rest ≡ here ∷ others → Fails e (meaning m here) → WalkFails (at_line e n) (walk n f (meanings m rest))
walk_fails m n f rest here others fault.BadLine e h = walk-fault m n f rest here others fault.BadLine e h
walk_fails m n f rest here others fault.NoFunction e h = walk-fault m n f rest here others fault.NoFunction e h
walk_fails m n f rest here others fault.BadArgs e h = walk-fault m n f rest here others fault.BadArgs e h
walk_fails m n f rest here others fault.NoMemory e h = tt

-- # All turns

abbrev add_all : Found → List Call → Found
add_all f [] = f
add_all f (call ∷ calls) = add_all (found_more f (Some call)) calls

ok-same : {A E : Type 0} (x y : A) → ◌≡◌ {A = Result A E} (Ok x) (Ok y) → x ≡ y
ok-same x y e = cc

walk-ok : (n : ℕ) (f : Found) (xs : Meanings) (g : Found) → walk n f xs ≡ Ok g → NoFault xs × (g ≡ add_all f (calls_in xs))
walk-ok n f [] g e = (All-nil (λ x. is_ok x ≡ true), sym (ok-same f g e))
walk-ok n f (Ok None ∷ xs) g e = let (none, same) = walk-ok (n + 1) f xs g e in (All-cons (λ x. is_ok x ≡ true) (Ok None) xs refl none, same)
walk-ok n f (Ok (Some call) ∷ xs) g e = let (none, same) = walk-ok (n + 1) (found_more f (Some call)) xs g e in (All-cons (λ x. is_ok x ≡ true) (Ok (Some call)) xs refl none, same)
walk-ok n f (Err x ∷ xs) g e = absurd (cc)

count-add_all : (f : Found) (calls : List Call) → (add_all f calls).count ≡ f.count + length calls
count-add_all f [] = omega arith
count-add_all f (call ∷ calls) = let more = count-add_all (found_more f (Some call)) calls in omega arith

keep-room : (kept : List Call) (call : Call) → length kept < calls_most → keep kept call ≡ kept ++ call ∷ []
keep-room kept call h = grind (arith, nat_tests)

kept-add_all : (f : Found) (calls : List Call) → length f.kept + length calls ≤ calls_most → (add_all f calls).kept ≡ f.kept ++ calls
kept-add_all f [] h = sym (append-nil f.kept)
kept-add_all f (call ∷ calls) h =
    let room : length f.kept < calls_most = omega arith in
    let kept = keep-room f.kept call room in
    let longer : length (keep f.kept call) + length calls ≤ calls_most = rw kept (length_room f.kept call calls h) in
    kept-add_all (found_more f (Some call)) calls longer ∙ ap (λ xs. xs ++ calls) kept ∙ append_assoc f.kept (call ∷ []) calls
  where
    length_room : (kept : List Call) (call : Call) (calls : List Call) → length kept + length (call ∷ calls) ≤ calls_most → length (kept ++ call ∷ []) + length calls ≤ calls_most
    length_room kept call calls h = simp length-append (omega arith)

-- where the first fault is
abbrev FaultAt : Meanings → ℕ → LineError → Type 0
FaultAt xs k e = (slice_get xs k ≡ Some (Err e)) × NoFault (take k xs)

err-same : {A E : Type 0} (x y : E) → ◌≡◌ {A = Result A E} (Err x) (Err y) → x ≡ y
err-same x y e = cc

walk-err : (n : ℕ) (f : Found) (xs : Meanings) (e : CallsError) → walk n f xs ≡ Err e → (k : ℕ) × (x : LineError) × FaultAt xs k x × (e ≡ at_line x (n + k))
walk-err n f [] e h = absurd (cc)
walk-err n f (Ok call ∷ xs) e h =
    let (k, x, at, same) = walk-err (n + 1) (found_more f call) xs e h in
    let place : n + 1 + k ≡ n + suc k = omega arith in
    (suc k, x, (at.0, All-cons (λ y. is_ok y ≡ true) (Ok call) (take k xs) refl at.1), same ∙ ap (at_line x) place)
walk-err n f (Err x ∷ xs) e h =
    let place : n ≡ n + 0 = omega arith in
    (0, x, (refl, All-nil (λ y. is_ok y ≡ true)), sym (err-same (at_line x n) e h) ∙ ap (at_line x) place)

-- # What reading answers

pub answers_ok : (size : ℕ) (xs : Meanings) (f : Found) → size ≤ text_most → walk 1 found_none xs ≡ Ok f → f.count ≤ calls_most → Answers size xs (Ok f.kept)
answers_ok size xs f h e small =
    let (none, same) = walk-ok 1 found_none xs f e in
    let count = ap (λ (g : Found). g.count) same ∙ count-add_all found_none (calls_in xs) in
    let few : length (calls_in xs) ≤ calls_most = omega (arith, count) in
    let room : length found_none.kept + length (calls_in xs) ≤ calls_most = omega arith in
    let kept = ap (λ (g : Found). g.kept) same ∙ kept-add_all found_none (calls_in xs) room in
    (h, none, kept, subst (λ calls. length calls ≤ calls_most) (sym kept) few)

pub answers_many : (size : ℕ) (xs : Meanings) (f : Found) → size ≤ text_most → walk 1 found_none xs ≡ Ok f → calls_most < f.count → Answers size xs (Err (errors.TooMany f.count))
answers_many size xs f h e many =
    let (none, same) = walk-ok 1 found_none xs f e in
    let count = ap (λ (g : Found). g.count) same ∙ count-add_all found_none (calls_in xs) in
    (h, none, omega (arith, count), many)

answers_fault : (size : ℕ) (xs : Meanings) (k : ℕ) (x : LineError) → size ≤ text_most → FaultAt xs k x → Answers size xs (Err (at_line x (1 + k)))
answers_fault size xs k fault.BadLine h at = (h, record { place = k; number = omega arith; here = at.0; before = at.1 })
answers_fault size xs k fault.NoFunction h at = (h, record { place = k; number = omega arith; here = at.0; before = at.1 })
answers_fault size xs k fault.BadArgs h at = (h, record { place = k; number = omega arith; here = at.0; before = at.1 })
answers_fault size xs k fault.NoMemory h at = tt

answers_err : (size : ℕ) (xs : Meanings) (e : CallsError) → size ≤ text_most → walk 1 found_none xs ≡ Err e → Answers size xs (Err e)
answers_err size xs e h w =
    let (k, x, at, same) = walk-err 1 found_none xs e w in
    subst (λ y. Answers size xs (Err y)) (sym same) (answers_fault size xs k x h at)

pub answers_fails : (size : ℕ) (xs : Meanings) (e : CallsError) → size ≤ text_most → WalkFails e (walk 1 found_none xs) → Answers size xs (Err e)
answers_fails size xs errors.NoMemory h w = tt
answers_fails size xs (errors.BadLine n) h w = answers_err size xs (errors.BadLine n) h w
answers_fails size xs (errors.NoFunction n) h w = answers_err size xs (errors.NoFunction n) h w
answers_fails size xs (errors.BadArgs n) h w = answers_err size xs (errors.BadArgs n) h w
answers_fails size xs (errors.TooMany n) h w = answers_err size xs (errors.TooMany n) h w
answers_fails size xs (errors.TextLimit n) h w = answers_err size xs (errors.TextLimit n) h w
