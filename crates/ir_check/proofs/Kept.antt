-- What holds of a rule that has no places: of a module's symbols, and of a function.
use Rattle.std.proofs.Common.{◌≡◌, ℕ, zero, suc, ◌+◌, Bool, true, false, List, [], ◌∷◌, ◌++◌, map, length, Some, slice_get, refl, sym, ap, ◌∙◌, arith, add-zero, zero-add}
use Rattle.std.proofs.lemmas.Option.{none-some, same_Some}
use Rattle.ir_rules.specs.Parts.{Rule, BlockKeeps, FunctionKeeps, Keeps, block_places, function_places, place, places, unless}
use Rattle.ir_rules.specs.declared.place.Place.{Place}
use Rattle.ir_tree.specs.declared.types.Block.{Block}
use Rattle.ir_tree.specs.declared.types.Function.{Function}
use Rattle.ir_tree.specs.declared.types.Global1.{Global1}
use Rattle.ir_tree.specs.declared.types.Instr.{Instr}
use Rattle.ir_tree.specs.declared.types.Module.{Module}
use Rattle.spec_lists.specs.Each.{each}

pub nil_left : {Y : Type 0} (ys zs : List Y) → ys ++ zs ≡ [] → ys ≡ []
nil_left [] zs h = refl
nil_left (y ∷ ys) zs h = cc

pub nil_right : {Y : Type 0} (ys zs : List Y) → ys ++ zs ≡ [] → zs ≡ []
nil_right [] zs h = h
nil_right (y ∷ ys) zs h = cc

pub map_nil : {X Y : Type 0} (g : X → Y) (xs : List X) → map g xs ≡ [] → xs ≡ []
map_nil g [] e = refl
map_nil g (x ∷ xs) e = absurd (cc)

-- nothing is made of any item
each_nil_from : {X Y : Type 0} (make : ℕ → X → List Y) (n : ℕ) (xs : List X) → each make n xs ≡ [] → (i : ℕ) (x : X) → slice_get xs i ≡ Some x → make (n + i) x ≡ []
each_nil_from make n [] e i x at = absurd (none-some x at)
each_nil_from make n (y ∷ ys) e zero x at =
    let is : y ≡ x = same_Some y x at in
    (λ j. make (add-zero n j) (sym is j)) ∙ nil_left (make n y) (each make (n + 1) ys) e
each_nil_from {X} make n (y ∷ ys) e (suc i) x at =
    let step : n + suc i ≡ n + 1 + i = omega arith in
    ap (λ (k : ℕ). make k x) step ∙ each_nil_from make (n + 1) ys (nil_right (make n y) (each make (n + 1) ys) e) i x at

each_nil : {X Y : Type 0} (make : ℕ → X → List Y) (xs : List X) → each make 0 xs ≡ [] → (i : ℕ) (x : X) → slice_get xs i ≡ Some x → make i x ≡ []
each_nil make xs e i x at = ap (λ (k : ℕ). make k x) (sym (zero-add i)) ∙ each_nil_from make 0 xs e i x at

holds : (b : Bool) (at : Place) → unless b at ≡ [] → b ≡ true
holds true at e = refl
holds false at e = absurd (cc)

module _ (r : Rule) where
  items : Function → ℕ → ℕ → Block → ℕ → Instr → List Place
  items f k b block i x = unless (r.item f b block i x) (place k b i)

  block_kept : (k : ℕ) (f : Function) (b : ℕ) (block : Block) → block_places r k f b block ≡ [] → BlockKeeps r f b block
  unfolding items
  block_kept k f b block e =
      let behind : each (items f k b block) 0 block.instrs ++ unless (r.exit f b block) (place k b (length block.instrs)) ≡ [] = nil_right (unless (r.label f b block) (place k b 0)) _ e in
      let inside : each (items f k b block) 0 block.instrs ≡ [] = nil_left (each (items f k b block) 0 block.instrs) _ behind in
      record {
        label = holds (r.label f b block) (place k b 0) (nil_left (unless (r.label f b block) (place k b 0)) _ e);
        item = λ i x at. holds (r.item f b block i x) (place k b i) (each_nil (items f k b block) block.instrs inside i x at);
        exit = holds (r.exit f b block) (place k b (length block.instrs)) (nil_right (each (items f k b block) 0 block.instrs) _ behind);
      }

  pub function_kept : (k : ℕ) (f : Function) → function_places r k f ≡ [] → FunctionKeeps r k f
  function_kept k f e = record {
    head = holds (r.head k f) (place k 0 0) (nil_left (unless (r.head k f) (place k 0 0)) _ e);
    block = λ b block at. block_kept k f b block (each_nil (block_places r k f) f.blocks (nil_right (unless (r.head k f) (place k 0 0)) _ e) b block at);
  }

  globals : ℕ → Global1 → List Place
  globals n g = unless (r.global n g) (place 0 0 n)

  pub kept : (m : Module) → places r m ≡ [] → Keeps r m
  unfolding globals places
  kept m e =
      let behind : each globals 0 m.globals ++ each (function_places r) 0 m.functions ≡ [] = nil_right (unless r.whole (place 0 0 0)) _ e in
      record {
        whole = holds r.whole (place 0 0 0) (nil_left (unless r.whole (place 0 0 0)) _ e);
        global = λ n g at. holds (r.global n g) (place 0 0 n) (each_nil globals m.globals (nil_left (each globals 0 m.globals) _ behind) n g at);
        function = λ k f at. function_kept k f (each_nil (function_places r) m.functions (nil_right (each globals 0 m.globals) _ behind) k f at);
      }
