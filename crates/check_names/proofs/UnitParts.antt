-- Units by the look-up of their globals.
use Rattle.std.proofs.Common.{◌≡◌, ℕ, suc, ◌+◌, ◌<◌, ◌≤◌, ◌==◌, Bool, true, false, ◌&&◌, cond, List, [], ◌∷◌, ◌++◌, length, take, get_or, Option, None, Some, is_some, slice_get, codes, refl, sym, ap, ◌∙◌, arith}
use Rattle.std.specs.List.{cons_option, find, list_any}
use Rattle.std.specs.Borrow.{Bor}
use Rattle.std.specs.Option.{option_copied}
use Rattle.std.proofs.lemmas.List.{append-nil, length-take-le}
use Rattle.std.proofs.lemmas.Option.{same_Some, slice_get-get_or}
use Rattle.check_names.proofs.Firsts.{placed}
use Rattle.check_names.proofs.Names.{filter_more}
use Rattle.check_names.proofs.Found.{any_absent, any_found}
use Rattle.check_names.specs.Seen.{HasSeen}
use Rattle.check_names.specs.declared.seen.Seen.{Seen}
use Rattle.check_names.specs.Told.{tells, told}
use Rattle.ir_rules.specs.Initialisers.{has_hash, holds_data_well, is_unit_well, names_unit_well, holds_counters_well, tells_counters, tells_if_any, unit_text, unit_texts}
use Rattle.ir_rules.specs.Intrinsics.{is_counter_total}
use Rattle.ir_rules.specs.Kinds.{is_unit_counters, is_unit_data, is_unit_name, unit_of}
use Rattle.ir_rules.specs.Lists.{times}
use Rattle.ir_rules.specs.Scopes.{variables}
use Rattle.ir_rules.specs.Units.{Data, data_of, text_of}
use Rattle.ir_tree.specs.Names.{same}
use Rattle.ir_tree.specs.Operands.{listed}
use Rattle.ir_tree.specs.declared.types.Global1.{Global1}
use Rattle.ir_tree.specs.declared.types.Module.{Module}

-- ---- texts

texts_one : (o : Option (List ℕ)) (ts : List (List ℕ)) (n : ℕ) → length ts ≤ n → length (cons_option o ts) ≤ suc n
texts_one None ts n h = omega (arith, h)
texts_one (Some text) ts n h = omega (arith, h)

texts_le : (gs : List Global1) → length (unit_texts gs) ≤ length gs
texts_le [] = omega arith
texts_le (g ∷ gs) = texts_one (unit_text g) (unit_texts gs) (length gs) (texts_le gs)

pub room_texts : (m : Module) (n : ℕ) (g : Global1) (texts : Seen) → length m.globals ≤ 262144 → slice_get m.globals n ≡ Some g → HasSeen texts (unit_texts (take n m.globals)) → texts.count ≤ 2101248
room_texts m n g texts few at has =
    let here = placed m.globals n g at in
    omega (arith, here.0, few, has.counted, texts_le (take n m.globals), length-take-le n m.globals (omega (arith, here.0)))

module _ (m : Module) (n : ℕ) (g : Global1) (at : slice_get m.globals n ≡ Some g) where
  more : unit_texts (take (n + 1) m.globals) ≡ unit_texts (take n m.globals) ++ listed (unit_text g)
  more = filter_more unit_text m.globals n g (placed m.globals n g at).0 (placed m.globals n g at).1

  pub texts_named : is_unit_name g.name ≡ true → unit_texts (take n m.globals) ++ listed (text_of g) ≡ unit_texts (take (n + 1) m.globals)
  texts_named e = ap (λ (b : Bool). unit_texts (take n m.globals) ++ listed (cond {A = Option (List ℕ)} b (text_of g) None)) (sym e) ∙ sym more

  pub texts_same : is_unit_name g.name ≡ false → unit_texts (take n m.globals) ≡ unit_texts (take (n + 1) m.globals)
  texts_same e = sym (append-nil (unit_texts (take n m.globals))) ∙ ap (λ (b : Bool). unit_texts (take n m.globals) ++ listed (cond {A = Option (List ℕ)} b (text_of g) None)) (sym e) ∙ sym more

-- ---- which of the three a global is

module _ (m : Module) (n : ℕ) (g : Global1) where
  pub well_name : is_unit_name g.name ≡ true → names_unit_well m n g ≡ is_unit_well m n g
  unfolding is_unit_well
  well_name e = ap (λ (b : Bool). cond b (names_unit_well m n g) (cond (is_unit_counters g.name) (holds_counters_well m g) (cond (is_unit_data g.name) (holds_data_well m g) true))) (sym e)

  pub well_counters : is_unit_name g.name ≡ false → is_unit_counters g.name ≡ true → holds_counters_well m g ≡ is_unit_well m n g
  unfolding is_unit_well
  well_counters e f = (λ j. cond (sym e j) (names_unit_well m n g) (cond (sym f j) (holds_counters_well m g) (cond (is_unit_data g.name) (holds_data_well m g) true)))

  pub well_data : is_unit_name g.name ≡ false → is_unit_counters g.name ≡ false → is_unit_data g.name ≡ true → holds_data_well m g ≡ is_unit_well m n g
  unfolding is_unit_well
  well_data e f h = (λ j. cond (sym e j) (names_unit_well m n g) (cond (sym f j) (holds_counters_well m g) (cond (sym h j) (holds_data_well m g) true)))

  pub well_other : is_unit_name g.name ≡ false → is_unit_counters g.name ≡ false → is_unit_data g.name ≡ false → true ≡ is_unit_well m n g
  unfolding is_unit_well
  well_other e f h = (λ j. cond (sym e j) (names_unit_well m n g) (cond (sym f j) (holds_counters_well m g) (cond (sym h j) (holds_data_well m g) true)))

-- ---- the global of a name

module _ (m : Module) (front unit name : List ℕ) (test : Global1 → Bool) (is : name ≡ front ++ unit) where
  pub any_by_name : (g : Global1) (b : Bool) → times name (variables m) ≤ 1 → Some g ≡ find (λ x. same name x.name) m.globals → b ≡ test g → b ≡ list_any (λ x. same (front ++ unit) x.name && test x) m.globals
  any_by_name g b once at told_so = told_so ∙ sym (any_found name test m.globals g once (sym at)) ∙ ap (λ (ns : List ℕ). list_any (λ x. same ns x.name && test x) m.globals) is

  pub any_by_none : None ≡ find (λ x. same name x.name) m.globals → false ≡ list_any (λ x. same (front ++ unit) x.name && test x) m.globals
  any_by_none at = sym (any_absent name test m.globals (sym at)) ∙ ap (λ (ns : List ℕ). list_any (λ x. same ns x.name && test x) m.globals) is

-- ---- what data tell

module _ (m : Module) (unit : List ℕ) where
  pub untold : (hash counters : ℕ) → is_counter_total counters ≡ false → false ≡ tells m unit hash counters
  untold hash counters e = ap (λ (b : Bool). b && list_any (λ (g : Global1). same (codes "__profn_" ++ unit) g.name && has_hash hash (text_of g)) m.globals) (sym e)

  pub told_as : (hash counters : ℕ) (b : Bool) → is_counter_total counters ≡ true → b ≡ list_any (λ (g : Global1). same (codes "__profn_" ++ unit) g.name && has_hash hash (text_of g)) m.globals → b ≡ tells m unit hash counters
  told_as hash counters b e is = is ∙ ap (λ (t : Bool). t && list_any (λ (g : Global1). same (codes "__profn_" ++ unit) g.name && has_hash hash (text_of g)) m.globals) (sym e)

  pub counters_told : (n : ℕ) (o : Option Data) (hash counters : ℕ) → Some (hash, counters) ≡ told o → (tells m unit hash counters && (counters == n)) ≡ tells_counters m unit n o
  counters_told n None hash counters e = cc
  counters_told n (Some d) hash counters e =
      let same_parts : (hash, counters) ≡ (d.name_hash, d.counters) = same_Some (hash, counters) (d.name_hash, d.counters) e in
      ap (λ (p : ℕ × ℕ). tells m unit p.0 p.1 && (p.1 == n)) same_parts

  pub counters_untold : (n : ℕ) (o : Option Data) → None ≡ told o → false ≡ tells_counters m unit n o
  counters_untold n None e = refl
  counters_untold n (Some d) e = cc

  pub unit_told : (o : Option Data) (hash counters : ℕ) → Some (hash, counters) ≡ told o → tells m unit hash counters ≡ tells_if_any m unit o
  unit_told None hash counters e = cc
  unit_told (Some d) hash counters e =
      let same_parts : (hash, counters) ≡ (d.name_hash, d.counters) = same_Some (hash, counters) (d.name_hash, d.counters) e in
      ap (λ (p : ℕ × ℕ). tells m unit p.0 p.1) same_parts

  pub unit_untold : (o : Option Data) → None ≡ told o → false ≡ tells_if_any m unit o
  unit_untold None e = refl
  unit_untold (Some d) e = cc

-- ---- the global at a place

pub shown_at : {X : Type 0} (shown xs : List X) (i : ℕ) (x : X) → shown ≡ xs → i < length shown → x ≡ get_or shown i x → slice_get xs i ≡ Some x
shown_at shown xs i x same within is = ap (λ ys. slice_get ys i) (sym same) ∙ (slice_get-get_or shown i x within ∙ ap (λ y. Some y) (sym is))

pub copied_some : {X : Type 0} (o : Option (Bor X)) → is_some o ≡ is_some (option_copied o)
copied_some None = refl
copied_some (Some x) = refl

-- data, and counters beside them
pub data_well : (m : Module) (g : Global1) (unit : List ℕ) (hash counters : ℕ) (a b r : Bool) → ◌≡◌ {A = Option (ℕ × ℕ)} (Some (hash, counters)) (told (data_of g)) → unit ≡ unit_of g.name → a ≡ tells m unit hash counters → b ≡ list_any (λ (c : Global1). same (codes "__profc_" ++ unit) c.name) m.globals → r ≡ (a && b) → r ≡ holds_data_well m g
data_well m g unit hash counters a b r found of first second whole =
    whole ∙ ((λ j. first j && second j)
    ∙ ((λ j. tells m (of j) hash counters && list_any (λ (c : Global1). same (codes "__profc_" ++ of j) c.name) m.globals)
    ∙ ap (λ (t : Bool). t && list_any (λ (c : Global1). same (codes "__profc_" ++ unit_of g.name) c.name) m.globals) (unit_told m (unit_of g.name) (data_of g) hash counters found)))
