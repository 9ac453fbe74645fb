-- The data of a unit have a global with the unit's name.
use Rattle.std.proofs.Common.{◌≡◌, ℕ, Bool, true, false, ◌&&◌, cond, List, [], ◌∷◌, ◌++◌, codes, drop, take, find, Option, Some, None, refl, sym, ap, ◌∙◌, subst}
use Rattle.std.specs.List.{list_any}
use Rattle.std.proofs.lemmas.Bool.{and_parts}
use Rattle.std.proofs.lemmas.List.{take-append-drop}
use Rattle.ir_code.specs.Units.{is_data, text_named}
use Rattle.ir_code.specs.Units as units
use Rattle.ir_rules.specs.Initialisers.{has_hash, holds_counters_well, holds_data_well, tells_if_any, tells_unit, unit_text}
use Rattle.ir_rules.specs.Intrinsics.{is_counter_total}
use Rattle.ir_rules.specs.Kinds.{is_unit_counters, is_unit_data, is_unit_name, unit_of}
use Rattle.ir_rules.specs.Lists.{Among}
use Rattle.ir_rules.specs.Units.{Data, data_of, text_of}
use Rattle.ir_rules.specs.WellFormed.{IsWellFormed, is_record_text, is_unit_global}
use Rattle.ir_tree.specs.Names.{same}
use Rattle.ir_tree.specs.declared.types.Global1.{Global1}
use Rattle.ir_tree.specs.declared.types.Module.{Module}
use Rattle.tally_names.proofs.Listed.{Name, any_of, same_is, some_of}
use Rattle.tally_names.proofs.Holders.{found_first, text_held}

-- the name of the global that has a unit's name
abbrev pub holder : Name → Name
holder n = codes "__profn_" ++ drop 8 n

-- the data's name as its front and the unit
pub data_front : (g : Global1) → is_data g ≡ true → codes "__profd_" ++ drop 8 g.name ≡ g.name
data_front g h = ap (λ (front : Name). front ++ drop 8 g.name) (same_is (codes "__profd_") (take 8 g.name) h) ∙ take-append-drop 8 g.name

data_no_name : (s : Name) → is_unit_name (codes "__profd_" ++ s) ≡ false
unfolding is_unit_name
data_no_name s = refl

data_no_counters : (s : Name) → is_unit_counters (codes "__profd_" ++ s) ≡ false
unfolding is_unit_counters
data_no_counters s = refl

data_is : (s : Name) → is_unit_data (codes "__profd_" ++ s) ≡ true
unfolding is_unit_data
data_is s = refl

holder_is : (s : Name) → is_unit_name (codes "__profn_" ++ s) ≡ true
unfolding is_unit_name
holder_is s = refl

third : (a b c : Bool) (x y z : Bool) → a ≡ false → b ≡ false → c ≡ true → cond a x (cond b y (cond c z true)) ≡ true → z ≡ true
third true b c x y z p q r h = cc
third false true c x y z p q r h = cc
third false false true x y z p q r h = h
third false false false x y z p q r h = cc

first : (a : Bool) (x y : Bool) → a ≡ true → cond a x y ≡ true → x ≡ true
first true x y p h = h
first false x y p h = cc

-- data are well formed
well : (m : Module) (g : Global1) → is_data g ≡ true → is_unit_global m g ≡ true → holds_data_well m g ≡ true
unfolding is_unit_global
well m g h formed =
    third (is_unit_name g.name) (is_unit_counters g.name) (is_unit_data g.name) (is_record_text (text_of g)) (holds_counters_well m g) (holds_data_well m g)
    (ap is_unit_name (sym (data_front g h)) ∙ data_no_name (drop 8 g.name))
    (ap is_unit_counters (sym (data_front g h)) ∙ data_no_counters (drop 8 g.name))
    (ap is_unit_data (sym (data_front g h)) ∙ data_is (drop 8 g.name))
    formed

-- a global of a unit's name holds a record's name
names_well : (m : Module) (p : Global1) → is_unit_name p.name ≡ true → is_unit_global m p ≡ true → is_record_text (text_of p) ≡ true
unfolding is_unit_global
names_well m p h formed = first (is_unit_name p.name) (is_record_text (text_of p)) (cond (is_unit_counters p.name) (holds_counters_well m p) (cond (is_unit_data p.name) (holds_data_well m p) true)) h formed

any_named : (m : Module) (unit : Name) (o : Option Data) → tells_if_any m unit o ≡ true → list_any (λ (p : Global1). same (codes "__profn_" ++ unit) p.name) m.globals ≡ true
any_named m unit None h = absurd (cc)
any_named m unit (Some d) h =
    let parts = and_parts (is_counter_total d.counters) (list_any (λ (p : Global1). same (codes "__profn_" ++ unit) p.name && has_hash d.name_hash (text_of p)) m.globals) h in
    let some = some_of (λ (p : Global1). same (codes "__profn_" ++ unit) p.name && has_hash d.name_hash (text_of p)) m.globals parts.1 in
    let named = and_parts (same (codes "__profn_" ++ unit) some.0.name) (has_hash d.name_hash (text_of some.0)) some.2 in
    any_of (λ (p : Global1). same (codes "__profn_" ++ unit) p.name) m.globals some.0 some.1 named.0

-- what a tally's name is: the text of a global of the unit's name
pub data_named : (m : Module) → IsWellFormed m → (g : Global1) → Among g m.globals → is_data g ≡ true →
    (p : Global1) × Among p m.globals × (p.name ≡ holder g.name) × (unit_text p ≡ Some (text_named m.globals (holder g.name)))
data_named m formed g at h =
    let parts = and_parts (tells_if_any m (unit_of g.name) (data_of g)) (list_any (λ (c : Global1). same (codes "__profc_" ++ unit_of g.name) c.name) m.globals) (well m g h (formed.global g at).of_unit) in
    let found = found_first (λ (p : Global1). same (holder g.name) p.name) m.globals (any_named m (unit_of g.name) (data_of g) parts.0) in
    let p = found.0 in
    let name : p.name ≡ holder g.name = sym (same_is (holder g.name) p.name found.3) in
    let unit : is_unit_name p.name ≡ true = ap is_unit_name name ∙ holder_is (drop 8 g.name) in
    let text = text_held p (names_well m p unit (formed.global p found.2).of_unit) in
    (p, found.2, name, ap (λ (b : Bool). cond b (text_of p) None) unit ∙ text ∙ ap (λ (o : Option Global1). Some (units.text_of o)) (sym found.1))
