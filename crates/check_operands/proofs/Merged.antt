-- The first of several rules that is broken, part by part: the lower of what was found before and of what the next part breaks.
use Rattle.std.proofs.Common.{◌≡◌, ℕ, zero, suc, ◌+◌, ◌<◌, ◌≤◌, Bool, true, false, cond, List, [], ◌∷◌, ◌++◌, map, take, length, get_or, Option, Some, None, refl, sym, ap, ◌∙◌, add-one, append_assoc, arith}
use Rattle.std.specs.Option.{option_map}
use Rattle.std.proofs.lemmas.Bool.{le-ltb, lt-ltb}
use Rattle.std.proofs.lemmas.List.{append-nil}
use Rattle.std.proofs.lemmas.Option.{none-some, same_Some}
use Rattle.check_operands.specs.Broken.{Fault, first_broken, lower, numbered}
use Rattle.check_operands.specs.Unkept.{exit_keeps, first_unkept, head_keeps, item_keeps}
use Rattle.ir_rules.specs.Parts.{Rule, block_places, function_places, place, unless}
use Rattle.ir_rules.specs.declared.place.Place.{Place}
use Rattle.ir_tree.specs.declared.types.Block.{Block}
use Rattle.ir_tree.specs.declared.types.Function.{Function}
use Rattle.ir_tree.specs.declared.types.Instr.{Instr}
use Rattle.ir_tree.specs.declared.types.Module.{Module}
use Rattle.rule_groups.specs.Groups.{broken_in, operand_rules}
use Rattle.spec_lists.specs.Each.{each, first_of}

-- ---- two lists of places for each rule

-- the first fault has no number below n
high : (given : Rule → List Place) (n : ℕ) (rs : List Rule) (a : Fault) → first_of (numbered given n rs) ≡ Some a → n ≤ a.0
high given n [] a e = absurd (none-some a e)
high given n (r ∷ rs) a e = by (given r) e (high given (n + 1) rs a)
  where
    by : (ps : List Place) → first_of (map (λ (at : Place). (n, at)) ps ++ numbered given (n + 1) rs) ≡ Some a → (first_of (numbered given (n + 1) rs) ≡ Some a → n + 1 ≤ a.0) → n ≤ a.0
    by [] k rest = let up : n + 1 ≤ a.0 = rest k in omega (arith, up)
    by (p ∷ ps) k rest =
        let is : ◌≡◌ {A = Fault} (n, p) a = same_Some (n, p) a k in
        let up : n ≡ a.0 = ap (λ (b : Fault). b.0) is in
        omega (arith, up)

later : (n : ℕ) (p : Place) (o : Option Fault) → ((a : Fault) → o ≡ Some a → n + 1 ≤ a.0) → ◌≡◌ {A = Option Fault} (Some (n, p)) (lower o (Some (n, p)))
later n p None h = refl
later n p (Some a) h = ap (λ (t : Bool). cond {A = Option Fault} t (Some (n, p)) (Some a)) (sym (lt-ltb n a.0 (let k : n + 1 ≤ a.0 = h a refl in omega (arith, k))))

earlier : (n : ℕ) (p : Place) (o : Option Fault) → ((a : Fault) → o ≡ Some a → n + 1 ≤ a.0) → ◌≡◌ {A = Option Fault} (Some (n, p)) (lower (Some (n, p)) o)
earlier n p None h = refl
earlier n p (Some a) h = ap (λ (t : Bool). cond {A = Option Fault} t (Some a) (Some (n, p))) (sym (le-ltb a.0 n (let k : n + 1 ≤ a.0 = h a refl in omega (arith, k))))

of_one_rule : (n : ℕ) (p q : Place) → ◌≡◌ {A = Option Fault} (Some (n, p)) (lower (Some (n, p)) (Some (n, q)))
of_one_rule n p q = ap (λ (t : Bool). cond {A = Option Fault} t (Some (n, q)) (Some (n, p))) (sym (le-ltb n n (omega arith)))

module _ (old new : Rule → List Place) where
  merged : (n : ℕ) (rs : List Rule) → first_of (numbered (λ r. old r ++ new r) n rs) ≡ lower (first_of (numbered old n rs)) (first_of (numbered new n rs))
  merged n [] = refl
  merged n (r ∷ rs) = by (old r) (new r) (merged (n + 1) rs)
    where
      by : (os ns : List Place) → first_of (numbered (λ q. old q ++ new q) (n + 1) rs) ≡ lower (first_of (numbered old (n + 1) rs)) (first_of (numbered new (n + 1) rs)) → first_of (map (λ (at : Place). (n, at)) (os ++ ns) ++ numbered (λ q. old q ++ new q) (n + 1) rs) ≡ lower (first_of (map (λ (at : Place). (n, at)) os ++ numbered old (n + 1) rs)) (first_of (map (λ (at : Place). (n, at)) ns ++ numbered new (n + 1) rs))
      by [] [] rest = rest
      by [] (p ∷ ns) rest = later n p (first_of (numbered old (n + 1) rs)) (high old (n + 1) rs)
      by (p ∷ os) [] rest = earlier n p (first_of (numbered new (n + 1) rs)) (high new (n + 1) rs)
      by (p ∷ os) (q ∷ ns) rest = of_one_rule n p q

both : (m : Module) (old new : Rule → List Place) → first_broken m (λ r. old r ++ new r) ≡ lower (first_broken m old) (first_broken m new)
unfolding first_broken
both m old new = merged old new 11 (operand_rules m)

-- ---- the places of one part

kept_first : (keep : Rule → Bool) (at : Place) (n : ℕ) (rs : List Rule) → first_of (numbered (λ r. unless (keep r) at) n rs) ≡ option_map (λ (j : ℕ). (j, at)) (first_unkept n (map keep rs))
kept_first keep at n [] = refl
kept_first keep at n (r ∷ rs) = by (keep r) (kept_first keep at (n + 1) rs)
  where
    by : (t : Bool) → first_of (numbered (λ q. unless (keep q) at) (n + 1) rs) ≡ option_map (λ (j : ℕ). (j, at)) (first_unkept (n + 1) (map keep rs)) → first_of (map (λ (p : Place). (n, p)) (unless t at) ++ numbered (λ q. unless (keep q) at) (n + 1) rs) ≡ option_map (λ (j : ℕ). (j, at)) (cond t (first_unkept (n + 1) (map keep rs)) (Some n))
    by true rest = rest
    by false rest = refl

module _ (m : Module) (k : ℕ) (f : Function) where
  pub head_first : (found : Option Fault) (o : Option ℕ) → found ≡ option_map (λ (n : ℕ). (n, place k 0 0)) o → o ≡ first_unkept 11 (head_keeps f) → found ≡ first_broken m (λ r. unless (r.head k f) (place k 0 0))
  unfolding first_broken
  head_first found o put e = put ∙ (ap (option_map (λ (n : ℕ). (n, place k 0 0))) e ∙ sym (kept_first (λ r. r.head k f) (place k 0 0) 11 (operand_rules m)))

  pub item_first : (b : ℕ) (block : Block) (i : ℕ) (x : Instr) (found : Option Fault) (o : Option ℕ) → found ≡ option_map (λ (n : ℕ). (n, place k b i)) o → o ≡ first_unkept 11 (item_keeps m f x) → found ≡ first_broken m (λ r. unless (r.item f b block i x) (place k b i))
  unfolding first_broken
  item_first b block i x found o put e = put ∙ (ap (option_map (λ (n : ℕ). (n, place k b i))) e ∙ sym (kept_first (λ r. r.item f b block i x) (place k b i) 11 (operand_rules m)))

  exit_first : (b : ℕ) (block : Block) (i : ℕ) (found : Option Fault) (o : Option ℕ) → found ≡ option_map (λ (n : ℕ). (n, place k b i)) o → o ≡ first_unkept 11 (exit_keeps m f block.term) → found ≡ first_broken m (λ r. unless (r.exit f b block) (place k b i))
  unfolding first_broken
  exit_first b block i found o put e = put ∙ (ap (option_map (λ (n : ℕ). (n, place k b i))) e ∙ sym (kept_first (λ r. r.exit f b block) (place k b i) 11 (operand_rules m)))

  -- none of these rules speaks of labels
  pub label_first : (b : ℕ) (block : Block) → None ≡ first_broken m (λ r. unless (r.label f b block) (place k b 0))
  unfolding first_broken
  label_first b block = refl

  -- the terminator stands behind the instructions
  abbrev items : ℕ → Block → Rule → ℕ → Instr → List Place
  items b block r i x = unless (r.item f b block i x) (place k b i)

  pub block_first : (b : ℕ) (block : Block) (i : ℕ) (inside found now : Option Fault) (o : Option ℕ) → inside ≡ first_broken m (λ r. unless (r.label f b block) (place k b 0) ++ each (items b block r) 0 block.instrs) → found ≡ option_map (λ (n : ℕ). (n, place k b i)) o → o ≡ first_unkept 11 (exit_keeps m f block.term) → i ≡ length block.instrs → now ≡ lower inside found → now ≡ first_broken m (λ r. block_places r k f b block)
  block_first b block i inside found now o items_are put e last is =
      let exits : found ≡ first_broken m (λ r. unless (r.exit f b block) (place k b (length block.instrs))) = exit_first b block i found o put e ∙ (λ j. first_broken m (λ r. unless (r.exit f b block) (place k b (last j)))) in
      is ∙ ((λ j. lower (items_are j) (exits j)) ∙ (sym (both m (λ r. unless (r.label f b block) (place k b 0) ++ each (items b block r) 0 block.instrs) (λ r. unless (r.exit f b block) (place k b (length block.instrs))))
      ∙ (λ j. first_broken m (λ r. append_assoc (unless (r.label f b block) (place k b 0)) (each (items b block r) 0 block.instrs) (unless (r.exit f b block) (place k b (length block.instrs))) j))))

-- ---- a list of parts, one further

module _ {X Y : Type 0} (make : ℕ → X → List Y) where
  each_suc : (n : ℕ) (xs : List X) (i : ℕ) (x : X) → i < length xs → x ≡ get_or xs i x → each make n (take (suc i) xs) ≡ each make n (take i xs) ++ make (n + i) x
  each_suc n [] i x h is = absurd (omega (arith, h))
  each_suc n (y ∷ ys) zero x h is = append-nil (make n y) ∙ (λ j. make (let e : n ≡ n + zero = omega arith in e j) (sym is j))
  each_suc n (y ∷ ys) (suc i) x h is =
      let shift : n + 1 + i ≡ n + suc i = omega arith in
      ap (λ (zs : List Y). make n y ++ zs) (each_suc (n + 1) ys i x (omega (arith, h)) is) ∙ (sym (append_assoc (make n y) (each make (n + 1) (take i ys)) (make (n + 1 + i) x)) ∙ ap (λ (d : ℕ). (make n y ++ each make (n + 1) (take i ys)) ++ make d x) shift)

  each_more : (xs : List X) (i : ℕ) (x : X) → i < length xs → x ≡ get_or xs i x → each make 0 (take (i + 1) xs) ≡ each make 0 (take i xs) ++ make i x
  each_more xs i x h is =
      let start : 0 + i ≡ i = omega arith in
      ap (λ (d : ℕ). each make 0 (take d xs)) (add-one i) ∙ (each_suc 0 xs i x h is ∙ ap (λ (d : ℕ). each make 0 (take i xs) ++ make d x) start)

module _ {X : Type 0} (m : Module) (base : Rule → List Place) (make : Rule → ℕ → X → List Place) where
  pub none_yet : (xs : List X) (found : Option Fault) → found ≡ first_broken m base → found ≡ first_broken m (λ r. base r ++ each (make r) 0 (take 0 xs))
  none_yet [] found e = e ∙ (λ j. first_broken m (λ r. sym (append-nil (base r)) j))
  none_yet (x ∷ xs) found e = e ∙ (λ j. first_broken m (λ r. sym (append-nil (base r)) j))

  pub further : (xs : List X) (i : ℕ) (x : X) (before here now : Option Fault) → i < length xs → x ≡ get_or xs i x → before ≡ first_broken m (λ r. base r ++ each (make r) 0 (take i xs)) → here ≡ first_broken m (λ r. make r i x) → now ≡ lower before here → now ≡ first_broken m (λ r. base r ++ each (make r) 0 (take (i + 1) xs))
  further xs i x before here now h is was next put =
      put ∙ ((λ j. lower (was j) (next j)) ∙ (sym (both m (λ r. base r ++ each (make r) 0 (take i xs)) (λ r. make r i x))
      ∙ (λ j. first_broken m (λ r. (append_assoc (base r) (each (make r) 0 (take i xs)) (make r i x) ∙ ap (λ (ps : List Place). base r ++ ps) (sym (each_more (make r) xs i x h is))) j))))

-- all places of a function
pub all_places : (m : Module) (k : ℕ) (f : Function) → first_broken m (λ r. function_places r k f) ≡ first_of (broken_in k f 11 (operand_rules m))
unfolding first_broken broken_in
all_places m k f = refl
