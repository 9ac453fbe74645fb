-- A rule has no place exactly where it holds of every part.
use Rattle.std.proofs.Common.{◌≡◌, ℕ, zero, suc, ◌+◌, Bool, true, false, List, [], ◌∷◌, ◌++◌, map, length, Some, slice_get, refl, sym, ap, ◌∙◌, arith, add-zero, zero-add}
use Rattle.std.proofs.lemmas.Option.{none-some, same_Some}
use Rattle.ir_rules.specs.AllRules.{all_broken, rules, with_number}
use Rattle.ir_rules.specs.Parts.{Rule, BlockKeeps, FunctionKeeps, Keeps, block_places, function_places, place, places, unless}
use Rattle.ir_rules.specs.declared.place.Place.{Place}
use Rattle.ir_tree.specs.declared.types.Block.{Block}
use Rattle.ir_tree.specs.declared.types.Function.{Function}
use Rattle.ir_tree.specs.declared.types.Global1.{Global1}
use Rattle.ir_tree.specs.declared.types.Instr.{Instr}
use Rattle.ir_tree.specs.declared.types.Module.{Module}
use Rattle.spec_lists.specs.Each.{each}

-- ---- empty lists

pub nil_left : {Y : Type 0} (ys zs : List Y) → ys ++ zs ≡ [] → ys ≡ []
nil_left [] zs h = refl
nil_left (y ∷ ys) zs h = cc

pub nil_right : {Y : Type 0} (ys zs : List Y) → ys ++ zs ≡ [] → zs ≡ []
nil_right [] zs h = h
nil_right (y ∷ ys) zs h = cc

pub nil_both : {Y : Type 0} (ys zs : List Y) → ys ≡ [] → zs ≡ [] → ys ++ zs ≡ []
nil_both [] zs h k = k
nil_both (y ∷ ys) zs h k = absurd (cc)

map_nil : {X Y : Type 0} (g : X → Y) (xs : List X) → map g xs ≡ [] → xs ≡ []
map_nil g [] e = refl
map_nil g (x ∷ xs) e = absurd (cc)

nil_map : {X Y : Type 0} (g : X → Y) (xs : List X) → xs ≡ [] → map g xs ≡ []
nil_map g [] e = refl
nil_map g (x ∷ xs) e = absurd (cc)

-- nothing is made of any item
each_nil_from : {X Y : Type 0} (make : ℕ → X → List Y) (n : ℕ) (xs : List X) → each make n xs ≡ [] → (i : ℕ) (x : X) → slice_get xs i ≡ Some x → make (n + i) x ≡ []
each_nil_from make n [] e i x at = absurd (none-some x at)
each_nil_from make n (y ∷ ys) e zero x at =
    let is : y ≡ x = same_Some y x at in
    (λ j. make (add-zero n j) (sym is j)) ∙ nil_left (make n y) (each make (n + 1) ys) e
each_nil_from {X} make n (y ∷ ys) e (suc i) x at =
    let step : n + suc i ≡ n + 1 + i = omega arith in
    ap (λ (k : ℕ). make k x) step ∙ each_nil_from make (n + 1) ys (nil_right (make n y) (each make (n + 1) ys) e) i x at

pub each_nil : {X Y : Type 0} (make : ℕ → X → List Y) (xs : List X) → each make 0 xs ≡ [] → (i : ℕ) (x : X) → slice_get xs i ≡ Some x → make i x ≡ []
each_nil make xs e i x at = ap (λ (k : ℕ). make k x) (sym (zero-add i)) ∙ each_nil_from make 0 xs e i x at

nil_each_from : {X Y : Type 0} (make : ℕ → X → List Y) (n : ℕ) (xs : List X) → ((i : ℕ) (x : X) → slice_get xs i ≡ Some x → make (n + i) x ≡ []) → each make n xs ≡ []
nil_each_from make n [] h = refl
nil_each_from {X} make n (y ∷ ys) h =
    let here : make n y ≡ [] = ap (λ (k : ℕ). make k y) (sym (add-zero n)) ∙ h 0 y refl in
    nil_both (make n y) (each make (n + 1) ys) here (nil_each_from make (n + 1) ys (λ i x at. let step : n + 1 + i ≡ n + suc i = omega arith in ap (λ (k : ℕ). make k x) step ∙ h (suc i) x at))

pub nil_each : {X Y : Type 0} (make : ℕ → X → List Y) (xs : List X) → ((i : ℕ) (x : X) → slice_get xs i ≡ Some x → make i x ≡ []) → each make 0 xs ≡ []
nil_each make xs h = nil_each_from make 0 xs (λ i x at. ap (λ (k : ℕ). make k x) (zero-add i) ∙ h i x at)

-- ---- one rule

holds : (b : Bool) (at : Place) → unless b at ≡ [] → b ≡ true
holds true at e = refl
holds false at e = absurd (cc)

no_place : (b : Bool) (at : Place) → b ≡ true → unless b at ≡ []
no_place true at e = refl
no_place false at e = absurd (cc)

module _ (r : Rule) where
  items : Function → ℕ → ℕ → Block → ℕ → Instr → List Place
  items f k b block i x = unless (r.item f b block i x) (place k b i)

  block_kept : (k : ℕ) (f : Function) (b : ℕ) (block : Block) → block_places r k f b block ≡ [] → BlockKeeps r f b block
  unfolding items
  block_kept k f b block e =
      let behind : each (items f k b block) 0 block.instrs ++ unless (r.exit f b block) (place k b (length block.instrs)) ≡ [] = nil_right (unless (r.label f b block) (place k b 0)) _ e in
      let inside : each (items f k b block) 0 block.instrs ≡ [] = nil_left (each (items f k b block) 0 block.instrs) _ behind in
      record {
        label = holds (r.label f b block) (place k b 0) (nil_left (unless (r.label f b block) (place k b 0)) _ e);
        item = λ i x at. holds (r.item f b block i x) (place k b i) (each_nil (items f k b block) block.instrs inside i x at);
        exit = holds (r.exit f b block) (place k b (length block.instrs)) (nil_right (each (items f k b block) 0 block.instrs) _ behind);
      }

  block_none : (k : ℕ) (f : Function) (b : ℕ) (block : Block) → BlockKeeps r f b block → block_places r k f b block ≡ []
  unfolding items
  block_none k f b block h =
      let inside : each (items f k b block) 0 block.instrs ≡ [] = nil_each (items f k b block) block.instrs (λ i x at. no_place (r.item f b block i x) (place k b i) (h.item i x at)) in
      nil_both (unless (r.label f b block) (place k b 0)) _ (no_place (r.label f b block) (place k b 0) h.label) (nil_both (each (items f k b block) 0 block.instrs) _ inside (no_place (r.exit f b block) (place k b (length block.instrs)) h.exit))

  function_kept : (k : ℕ) (f : Function) → function_places r k f ≡ [] → FunctionKeeps r k f
  function_kept k f e = record {
    head = holds (r.head k f) (place k 0 0) (nil_left (unless (r.head k f) (place k 0 0)) _ e);
    block = λ b block at. block_kept k f b block (each_nil (block_places r k f) f.blocks (nil_right (unless (r.head k f) (place k 0 0)) _ e) b block at);
  }

  function_none : (k : ℕ) (f : Function) → FunctionKeeps r k f → function_places r k f ≡ []
  function_none k f h = nil_both (unless (r.head k f) (place k 0 0)) _ (no_place (r.head k f) (place k 0 0) h.head) (nil_each (block_places r k f) f.blocks (λ b block at. block_none k f b block (h.block b block at)))

  globals : ℕ → Global1 → List Place
  globals n g = unless (r.global n g) (place 0 0 n)

  pub kept : (m : Module) → places r m ≡ [] → Keeps r m
  unfolding globals places
  kept m e =
      let behind : each globals 0 m.globals ++ each (function_places r) 0 m.functions ≡ [] = nil_right (unless r.whole (place 0 0 0)) _ e in
      record {
        whole = holds r.whole (place 0 0 0) (nil_left (unless r.whole (place 0 0 0)) _ e);
        global = λ n g at. holds (r.global n g) (place 0 0 n) (each_nil globals m.globals (nil_left (each globals 0 m.globals) _ behind) n g at);
        function = λ k f at. function_kept k f (each_nil (function_places r) m.functions (nil_right (each globals 0 m.globals) _ behind) k f at);
      }

  pub none : (m : Module) → Keeps r m → places r m ≡ []
  unfolding globals places
  none m h =
      let inside : each globals 0 m.globals ≡ [] = nil_each globals m.globals (λ n g at. no_place (r.global n g) (place 0 0 n) (h.global n g at)) in
      nil_both (unless r.whole (place 0 0 0)) _ (no_place r.whole (place 0 0 0) h.whole) (nil_both (each globals 0 m.globals) _ inside (nil_each (function_places r) m.functions (λ k f at. function_none k f (h.function k f at))))

-- ---- all rules

abbrev pub AllKeep : List Rule → Module → Type 0
AllKeep [] m = Unit {0}
AllKeep (r ∷ rs) m = Keeps r m × AllKeep rs m

all_kept_from : (m : Module) (n : ℕ) (rs : List Rule) → each (with_number m) n rs ≡ [] → AllKeep rs m
all_kept_from m n [] e = tt
all_kept_from m n (r ∷ rs) e = (kept r m (map_nil (λ at. (n, at)) (places r m) (nil_left (with_number m n r) _ e)), all_kept_from m (n + 1) rs (nil_right (with_number m n r) _ e))

none_from : (m : Module) (n : ℕ) (rs : List Rule) → AllKeep rs m → each (with_number m) n rs ≡ []
none_from m n [] h = refl
none_from m n (r ∷ rs) h = nil_both (with_number m n r) _ (nil_map (λ at. (n, at)) (places r m) (none r m h.0)) (none_from m (n + 1) rs h.1)

pub all_kept : (m : Module) → all_broken m ≡ [] → AllKeep (rules m) m
unfolding all_broken
all_kept m e = all_kept_from m 1 (rules m) e

pub none_broken : (m : Module) → AllKeep (rules m) m → all_broken m ≡ []
unfolding all_broken
none_broken m h = none_from m 1 (rules m) h
