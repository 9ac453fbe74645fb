-- The names of a function, block by block.
use Rattle.std.proofs.Common.{◌≡◌, ℕ, ◌+◌, ◌<◌, ◌≤◌, Bool, true, false, List, [], ◌∷◌, ◌++◌, length, take, drop, get_or, flat_map, Some, slice_get, sym, ap, subst, ◌∙◌, arith, append_assoc, length-append}
use Rattle.std.proofs.lemmas.Grind.{flat_map-append}
use Rattle.std.proofs.lemmas.List.{append-nil, take_more, take-append-drop}
use Rattle.std.proofs.lemmas.List.Elements.{filter_map-append}
use Rattle.std.proofs.lemmas.List.Folds.{length-flat_map-take}
use Rattle.std.proofs.Math.Seq.{take-length}
use Rattle.check_names.proofs.Firsts.{placed}
use Rattle.check_names.proofs.Names.{filter_more}
use Rattle.check_names.specs.Few.{IsFew}
use Rattle.check_names.specs.Outer.{repeated_items}
use Rattle.check_names.specs.Seen.{HasSeen}
use Rattle.check_names.specs.declared.seen.Seen.{Seen}
use Rattle.ir_rules.specs.Distinct.{distinct, names_before, names_before_item}
use Rattle.ir_rules.specs.Lists.{is_new}
use Rattle.ir_rules.specs.Parts.{block_places, place, unless}
use Rattle.ir_rules.specs.Scopes.{block_names, names, param_names}
use Rattle.ir_rules.specs.declared.place.Place.{Place}
use Rattle.ir_tree.specs.Operands.{listed, result_name, result_names}
use Rattle.ir_tree.specs.declared.types.Block.{Block}
use Rattle.ir_tree.specs.declared.types.Function.{Function}
use Rattle.ir_tree.specs.declared.types.Instr.{Instr}
use Rattle.spec_lists.specs.Each.{first_of}

-- ---- one instruction further

pub item_more : (f : Function) (b : ℕ) (block : Block) (i : ℕ) (x : Instr) → i < length block.instrs → x ≡ get_or block.instrs i x → names_before_item f b block i ++ listed (result_name x) ≡ names_before_item f b block (i + 1)
item_more f b block i x within is =
    append_assoc (names_before f b) (block.label ∷ result_names (take i block.instrs)) (listed (result_name x))
    ∙ ap (λ (ns : List (List ℕ)). names_before f b ++ (block.label ∷ ns)) (sym (filter_more result_name block.instrs i x within is))

results_le : (xs : List Instr) (i : ℕ) → length (result_names (take i xs)) ≤ length (result_names xs)
results_le xs i =
    let parts : length (result_names xs) ≡ length (result_names (take i xs)) + length (result_names (drop i xs)) =
    ap (λ (ys : List Instr). length (result_names ys)) (sym (take-append-drop i xs)) ∙ ap length (filter_map-append result_name (take i xs) (drop i xs)) ∙ length-append (result_names (take i xs)) (result_names (drop i xs)) in
    omega (arith, parts)

-- ---- one block further

before_all : (f : Function) (b : ℕ) (block : Block) → slice_get f.blocks b ≡ Some block → length (names_before f b) + length (block_names block) ≤ length (names f)
before_all f b block at =
    let here = placed f.blocks b block at in
    let part : length (flat_map block_names (take b f.blocks)) + length (block_names (get_or f.blocks b block)) ≤ length (flat_map block_names f.blocks) = length-flat_map-take block_names f.blocks b block here.0 in
    let this : length (block_names (get_or f.blocks b block)) ≡ length (block_names block) = ap (λ (c : Block). length (block_names c)) (sym here.1) in
    omega (arith, part, this, length-append (param_names f) (flat_map block_names (take b f.blocks)), length-append (param_names f) (flat_map block_names f.blocks))

pub room_label : (f : Function) (b : ℕ) (block : Block) (seen : Seen) → IsFew f → slice_get f.blocks b ≡ Some block → HasSeen seen (names_before f b) → seen.count ≤ 2101248
room_label f b block seen few at has = omega (arith, before_all f b block at, few.names, has.counted)

pub room_item : (f : Function) (b : ℕ) (block : Block) (i : ℕ) (seen : Seen) → IsFew f → slice_get f.blocks b ≡ Some block → HasSeen seen (names_before_item f b block i) → seen.count ≤ 2101248
room_item f b block i seen few at has =
    omega (arith, before_all f b block at, few.names, has.counted, results_le block.instrs i, length-append (names_before f b) (block.label ∷ result_names (take i block.instrs)))

pub block_more : (f : Function) (b : ℕ) (block : Block) → slice_get f.blocks b ≡ Some block → names_before_item f b block (length block.instrs) ≡ names_before f (b + 1)
block_more f b block at =
    let here = placed f.blocks b block at in
    let all : names_before_item f b block (length block.instrs) ≡ names_before f b ++ block_names block = ap (λ (xs : List Instr). names_before f b ++ (block.label ∷ result_names xs)) (take-length block.instrs) in
    let next : flat_map block_names (take (b + 1) f.blocks) ≡ flat_map block_names (take b f.blocks) ++ block_names block =
    ap (λ (bs : List Block). flat_map block_names bs) (take_more f.blocks b block here.0)
    ∙ flat_map-append block_names (take b f.blocks) (get_or f.blocks b block ∷ [])
    ∙ ap (λ (c : Block). flat_map block_names (take b f.blocks) ++ (block_names c ++ [])) (sym here.1)
    ∙ ap (λ (ns : List (List ℕ)). flat_map block_names (take b f.blocks) ++ ns) (append-nil (block_names block)) in
    all ∙ append_assoc (param_names f) (flat_map block_names (take b f.blocks)) (block_names block) ∙ ap (λ (ns : List (List ℕ)). param_names f ++ ns) (sym next)

pub within_few : (f : Function) (b : ℕ) (block : Block) → IsFew f → slice_get f.blocks b ≡ Some block → b < 4294967296
within_few f b block few at = let here = placed f.blocks b block at in omega (arith, here.0, few.blocks)

pub seen_along : (seen : Seen) (ns more : List (List ℕ)) → ns ≡ more → HasSeen seen ns → HasSeen seen more
seen_along seen ns more same has = subst (λ (xs : List (List ℕ)). HasSeen seen xs) same has

-- ---- the places in a block

module _ (k b : ℕ) (f : Function) (block : Block) where
  abbrev behind : List Place
  behind = repeated_items k f b block 0 block.instrs ++ []

  pub label_repeated : is_new block.label (names_before f b) ≡ false → first_of (block_places distinct k f b block) ≡ Some (place k b 0)
  label_repeated old = ap (λ (t : Bool). first_of (unless t (place k b 0) ++ behind)) old

  pub label_new : is_new block.label (names_before f b) ≡ true → first_of (block_places distinct k f b block) ≡ first_of (repeated_items k f b block 0 block.instrs)
  label_new fresh = ap (λ (t : Bool). first_of (unless t (place k b 0) ++ behind)) fresh ∙ ap (λ (ps : List Place). first_of ps) (append-nil (repeated_items k f b block 0 block.instrs))
