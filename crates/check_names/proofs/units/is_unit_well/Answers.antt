use Rattle.std.proofs.Common.{◌≡◌, ◌+◌, ◌++◌, ℕ, List, true, false, take, sym, ap, ◌∙◌}
use Rattle.std.proofs.lemmas.Result.{IfOk-weaker}
use Rattle.check_names.proofs.Blocks.{seen_along}
use Rattle.check_names.proofs.UnitParts.{room_texts, texts_named, texts_same, well_counters, well_data, well_name, well_other}
use Rattle.check_names.specs.Seen.{HasSeen}
use Rattle.ir_rules.specs.Initialisers.{holds_counters_well, holds_data_well, is_new_text, is_unit_well, unit_texts}
use Rattle.ir_rules.specs.Kinds.{is_unit_counters, is_unit_data, is_unit_name}
use Rattle.ir_rules.specs.Units.{text_of}
use Rattle.ir_tree.specs.Operands.{listed}
use Rattle.check_names.proofs.units.is_unit_well.Goals as goal

pub names_unit_well-requires : goal.names_unit_well-requires
names_unit_well-requires c = record { room = room_texts c.args.module.now c.args.n c.args.g.now c.args.texts.now c.requires.few c.requires.place c.requires.seen }

pub returns-then-is_unit_name-clause-kept : goal.returns-then-is_unit_name-clause-kept
returns-then-is_unit_name-clause-kept c =
    let m = c.args.module.now in
    let n = c.args.n in
    let g = c.args.g.now in
    let before : List (List ℕ) = unit_texts (take n m.globals) in
    let named : is_unit_name g.name ≡ true = ap is_unit_name (sym c.bytes-name.ensures) ∙ (sym c.is_unit_name.ensures ∙ c.if-is_unit_name.true) in
    IfOk-weaker c.names_unit_well.result (λ kept. kept ≡ is_new_text before (text_of g)) (λ kept. kept ≡ is_unit_well m n g) (λ kept e. e ∙ well_name m n g named) (c.names_unit_well.ensures.kept before c.requires.seen)

pub returns-then-is_unit_name-clause-seen : goal.returns-then-is_unit_name-clause-seen
returns-then-is_unit_name-clause-seen c =
    let m = c.args.module.now in
    let n = c.args.n in
    let g = c.args.g.now in
    let before : List (List ℕ) = unit_texts (take n m.globals) in
    let texts = c.names_unit_well.new.texts in
    let named : is_unit_name g.name ≡ true = ap is_unit_name (sym c.bytes-name.ensures) ∙ (sym c.is_unit_name.ensures ∙ c.if-is_unit_name.true) in
    IfOk-weaker c.names_unit_well.result (λ kept. kept ≡ true → HasSeen texts (before ++ listed (text_of g))) (λ kept. kept ≡ true → HasSeen texts (unit_texts (take (n + 1) m.globals)))
    (λ kept h e. seen_along texts (before ++ listed (text_of g)) (unit_texts (take (n + 1) m.globals)) (texts_named m n g c.requires.place named) (h e)) (c.names_unit_well.ensures.seen before c.requires.seen)

pub returns-then-is_unit_counters-clause-kept : goal.returns-then-is_unit_counters-clause-kept
returns-then-is_unit_counters-clause-kept c =
    let m = c.args.module.now in
    let n = c.args.n in
    let g = c.args.g.now in
    let unnamed : is_unit_name g.name ≡ false = ap is_unit_name (sym c.bytes-name.ensures) ∙ (sym c.is_unit_name.ensures ∙ c.if-is_unit_name.false) in
    let counts : is_unit_counters g.name ≡ true = ap is_unit_counters (sym c.bytes-name.ensures) ∙ (sym c.is_unit_counters.ensures ∙ c.if-is_unit_counters.true) in
    IfOk-weaker c.holds_counters_well.result (λ kept. kept ≡ holds_counters_well m g) (λ kept. kept ≡ is_unit_well m n g) (λ kept e. e ∙ well_counters m n g unnamed counts) c.holds_counters_well.ensures

pub returns-then-is_unit_counters-clause-seen : goal.returns-then-is_unit_counters-clause-seen
returns-then-is_unit_counters-clause-seen c =
    let m = c.args.module.now in
    let n = c.args.n in
    let g = c.args.g.now in
    let unnamed : is_unit_name g.name ≡ false = ap is_unit_name (sym c.bytes-name.ensures) ∙ (sym c.is_unit_name.ensures ∙ c.if-is_unit_name.false) in
    IfOk-weaker c.holds_counters_well.result (λ kept. kept ≡ holds_counters_well m g) (λ kept. kept ≡ true → HasSeen c.args.texts.now (unit_texts (take (n + 1) m.globals)))
    (λ kept h e. seen_along c.args.texts.now (unit_texts (take n m.globals)) (unit_texts (take (n + 1) m.globals)) (texts_same m n g c.requires.place unnamed) c.requires.seen) c.holds_counters_well.ensures

pub returns-then-is_unit_data-clause-kept : goal.returns-then-is_unit_data-clause-kept
returns-then-is_unit_data-clause-kept c =
    let m = c.args.module.now in
    let n = c.args.n in
    let g = c.args.g.now in
    let unnamed : is_unit_name g.name ≡ false = ap is_unit_name (sym c.bytes-name.ensures) ∙ (sym c.is_unit_name.ensures ∙ c.if-is_unit_name.false) in
    let uncounted : is_unit_counters g.name ≡ false = ap is_unit_counters (sym c.bytes-name.ensures) ∙ (sym c.is_unit_counters.ensures ∙ c.if-is_unit_counters.false) in
    let holds : is_unit_data g.name ≡ true = ap is_unit_data (sym c.bytes-name.ensures) ∙ (sym c.is_unit_data.ensures ∙ c.if-is_unit_data.true) in
    IfOk-weaker c.holds_data_well.result (λ kept. kept ≡ holds_data_well m g) (λ kept. kept ≡ is_unit_well m n g) (λ kept e. e ∙ well_data m n g unnamed uncounted holds) c.holds_data_well.ensures

pub returns-then-is_unit_data-clause-seen : goal.returns-then-is_unit_data-clause-seen
returns-then-is_unit_data-clause-seen c =
    let m = c.args.module.now in
    let n = c.args.n in
    let g = c.args.g.now in
    let unnamed : is_unit_name g.name ≡ false = ap is_unit_name (sym c.bytes-name.ensures) ∙ (sym c.is_unit_name.ensures ∙ c.if-is_unit_name.false) in
    IfOk-weaker c.holds_data_well.result (λ kept. kept ≡ holds_data_well m g) (λ kept. kept ≡ true → HasSeen c.args.texts.now (unit_texts (take (n + 1) m.globals)))
    (λ kept h e. seen_along c.args.texts.now (unit_texts (take n m.globals)) (unit_texts (take (n + 1) m.globals)) (texts_same m n g c.requires.place unnamed) c.requires.seen) c.holds_data_well.ensures

pub returns-clause-kept : goal.returns-clause-kept
returns-clause-kept c =
    let m = c.args.module.now in
    let g = c.args.g.now in
    let unnamed : is_unit_name g.name ≡ false = ap is_unit_name (sym c.bytes-name.ensures) ∙ (sym c.is_unit_name.ensures ∙ c.if-is_unit_name.false) in
    let uncounted : is_unit_counters g.name ≡ false = ap is_unit_counters (sym c.bytes-name.ensures) ∙ (sym c.is_unit_counters.ensures ∙ c.if-is_unit_counters.false) in
    let no_data : is_unit_data g.name ≡ false = ap is_unit_data (sym c.bytes-name.ensures) ∙ (sym c.is_unit_data.ensures ∙ c.if-is_unit_data.false) in
    well_other m c.args.n g unnamed uncounted no_data

pub returns-clause-seen : goal.returns-clause-seen
returns-clause-seen c =
    let m = c.args.module.now in
    let n = c.args.n in
    let g = c.args.g.now in
    let unnamed : is_unit_name g.name ≡ false = ap is_unit_name (sym c.bytes-name.ensures) ∙ (sym c.is_unit_name.ensures ∙ c.if-is_unit_name.false) in
    λ e. seen_along c.args.texts.now (unit_texts (take n m.globals)) (unit_texts (take (n + 1) m.globals)) (texts_same m n g c.requires.place unnamed) c.requires.seen
