-- The notes of a module are collected, each once.
use Rattle.std.proofs.Common.{◌≡◌, ℕ, Bool, true, false, ◌||◌, cond, List, [], ◌∷◌, ◌++◌, refl, sym, ap, ◌∙◌}
use Rattle.std.specs.Prelude.{Option, Some, None, is_some, fold}
use Rattle.std.proofs.lemmas.Cmp.{nat_list_eq_equiv}
use Rattle.std.proofs.lemmas.Bool.{false≢true, or_parts}
use Rattle.ir_tree.specs.Names.{same}
use Rattle.ir_tree.specs.declared.types.Ty.{Ty}
use Rattle.ir_tree.specs.declared.types.Prof.{Prof}
use Rattle.ir_tree.specs.declared.types.Instr.{Instr}
use Rattle.ir_tree.specs.declared.types.Instr.TheVariants.{Binary, Compare, Convert, Freeze, Select, Phi, Alloca, Load, Store, Gep, Call, Count}
use Rattle.ir_tree.specs.declared.types.Term.{Term}
use Rattle.ir_tree.specs.declared.types.Term.TheVariants as terms
use Rattle.ir_tree.specs.declared.types.Block.{Block}
use Rattle.ir_tree.specs.declared.types.Module.{Module}
use Rattle.ir_grammar.specs.declared.words.NoteKind.{NoteKind}
use Rattle.ir_grammar.specs.declared.words.NoteKind.TheVariants as kinds
use Rattle.canonical_text.specs.Notes.{note_text, place_of, with_note, with_noted, instr_note, term_note, with_instr, with_block, with_body, with_function, nodes_of}
use Rattle.spellable.specs.Values.{Each, IsMaybe}
use Rattle.spellable.specs.Instructions.{MayStand, IsInstr, IsTerm}
use Rattle.spellable.specs.Modules.{IsBlock, IsBody, IsFunction}
use Rattle.printed_spells.proofs.Numbering.{is_among, Has, place_among}

-- # One note more

has_more : (list more : List Prof) (q : Prof) → Has list q → Has (list ++ more) q
has_more [] more q h = absurd (false≢true h)
has_more (p ∷ ps) more q h = go (same (note_text q) (note_text p)) h (has_more ps more q)
  where
    go : (b : Bool) → (b || is_among ps q) ≡ true → (Has ps q → Has (ps ++ more) q) → (b || is_among (ps ++ more) q) ≡ true
    go true k later = refl
    go false k later = later k

has_last : (list : List Prof) (q : Prof) → Has (list ++ q ∷ []) q
has_last [] q = ap (λ b. b || false) (nat_list_eq_equiv.refl (note_text q))
has_last (p ∷ ps) q = go (same (note_text q) (note_text p)) (has_last ps q)
  where
    go : (b : Bool) → Has (ps ++ q ∷ []) q → (b || is_among (ps ++ q ∷ []) q) ≡ true
    go true later = refl
    go false later = later

each_last : {A : Type 0} (P : A → Type 0) (xs : List A) (x : A) → Each P xs → P x → Each P (xs ++ x ∷ [])
each_last P [] x h k = (k, tt)
each_last P (y ∷ ys) x h k = (h.0, each_last P ys x h.1 k)

-- no two notes have one text
abbrev pub IsApart : Prof → Prof → Type 0
IsApart p q = same (note_text p) (note_text q) ≡ false

abbrev pub Distinct : List Prof → Type 0
Distinct [] = Unit {0}
Distinct (p ∷ ps) = Each (IsApart p) ps × Distinct ps

distinct_last : (list : List Prof) (q : Prof) → Distinct list → is_among list q ≡ false → Distinct (list ++ q ∷ [])
distinct_last [] q d h = (tt, tt)
distinct_last (p ∷ ps) q d h =
    let parts = or_parts (same (note_text q) (note_text p)) (is_among ps q) h in
    (each_last (IsApart p) ps q d.0 (nat_list_eq_equiv.symm (note_text p) (note_text q) ∙ parts.0), distinct_last ps q d.1 parts.1)

-- # Collecting

-- A step over some part of a module takes its notes to those that were found.
pub record Collects {X : Type 0} (step : List Prof → X → List Prof) (IsX : (Prof → Type 0) → X → Type 0) : Type 1 where
  pub notes : (P : Prof → Type 0) (nodes : List Prof) (x : X) → Each P nodes → IsX P x → Each P (step nodes x)
  pub grows : (nodes : List Prof) (x : X) (q : Prof) → Has nodes q → Has (step nodes x) q
  pub has : (P Q : Prof → Type 0) (nodes : List Prof) (x : X) → IsX P x → ((q : Prof) → P q → Has (step nodes x) q → Q q) → IsX Q x
  pub distinct : (nodes : List Prof) (x : X) → Distinct nodes → Distinct (step nodes x)

module _ {X : Type 0} (step : List Prof → X → List Prof) (IsX : (Prof → Type 0) → X → Type 0) (c : Collects step IsX) where
  fold_notes : (P : Prof → Type 0) (nodes : List Prof) (xs : List X) → Each P nodes → Each (IsX P) xs → Each P (fold step nodes xs)
  fold_notes P nodes [] h k = h
  fold_notes P nodes (x ∷ xs) h k = fold_notes P (step nodes x) xs (c.notes P nodes x h k.0) k.1

  fold_grows : (nodes : List Prof) (xs : List X) (q : Prof) → Has nodes q → Has (fold step nodes xs) q
  fold_grows nodes [] q h = h
  fold_grows nodes (x ∷ xs) q h = fold_grows (step nodes x) xs q (c.grows nodes x q h)

  fold_has : (P Q : Prof → Type 0) (nodes : List Prof) (xs : List X) → Each (IsX P) xs → ((q : Prof) → P q → Has (fold step nodes xs) q → Q q) → Each (IsX Q) xs
  fold_has P Q nodes [] h k = tt
  fold_has P Q nodes (x ∷ xs) h k =
      (c.has P Q nodes x h.0 (λ q p there. k q p (fold_grows (step nodes x) xs q there)), fold_has P Q (step nodes x) xs h.1 k)

  fold_distinct : (nodes : List Prof) (xs : List X) → Distinct nodes → Distinct (fold step nodes xs)
  fold_distinct nodes [] h = h
  fold_distinct nodes (x ∷ xs) h = fold_distinct (step nodes x) xs (c.distinct nodes x h)

  pub fold_collects : Collects (fold step) (λ P xs. Each (IsX P) xs)
  fold_collects = record { notes = fold_notes; grows = fold_grows; has = fold_has; distinct = fold_distinct }

-- # Notes

note_notes : (P : Prof → Type 0) (nodes : List Prof) (q : Prof) → Each P nodes → P q → Each P (with_note nodes q)
unfolding with_note
note_notes P nodes q h k = go (is_some (place_of nodes q))
  where
    go : (b : Bool) → Each P (cond b nodes (nodes ++ q ∷ []))
    go true = h
    go false = each_last P nodes q h k

note_grows : (nodes : List Prof) (q p : Prof) → Has nodes p → Has (with_note nodes q) p
unfolding with_note
note_grows nodes q p h = go (is_some (place_of nodes q))
  where
    go : (b : Bool) → Has (cond b nodes (nodes ++ q ∷ [])) p
    go true = h
    go false = has_more nodes (q ∷ []) p h

note_has : (nodes : List Prof) (q : Prof) → Has (with_note nodes q) q
unfolding with_note
note_has nodes q = go (is_some (place_of nodes q)) refl
  where
    go : (b : Bool) → is_some (place_of nodes q) ≡ b → Has (cond b nodes (nodes ++ q ∷ [])) q
    go true e = sym (place_among nodes q) ∙ e
    go false e = has_last nodes q

note_distinct : (nodes : List Prof) (q : Prof) → Distinct nodes → Distinct (with_note nodes q)
unfolding with_note
note_distinct nodes q h = go (is_some (place_of nodes q)) refl
  where
    go : (b : Bool) → is_some (place_of nodes q) ≡ b → Distinct (cond b nodes (nodes ++ q ∷ []))
    go true e = h
    go false e = distinct_last nodes q h (sym (place_among nodes q) ∙ e)

noted_notes : (P : Prof → Type 0) (nodes : List Prof) (prof : Option Prof) → Each P nodes → IsMaybe P prof → Each P (with_noted nodes prof)
unfolding with_noted
noted_notes P nodes None h k = h
noted_notes P nodes (Some q) h k = note_notes P nodes q h k

noted_grows : (nodes : List Prof) (prof : Option Prof) (p : Prof) → Has nodes p → Has (with_noted nodes prof) p
unfolding with_noted
noted_grows nodes None p h = h
noted_grows nodes (Some q) p h = note_grows nodes q p h

noted_has : (P Q : Prof → Type 0) (nodes : List Prof) (prof : Option Prof) → IsMaybe P prof → ((q : Prof) → P q → Has (with_noted nodes prof) q → Q q) → IsMaybe Q prof
unfolding with_noted
noted_has P Q nodes None h k = tt
noted_has P Q nodes (Some q) h k = k q h (note_has nodes q)

noted_distinct : (nodes : List Prof) (prof : Option Prof) → Distinct nodes → Distinct (with_noted nodes prof)
unfolding with_noted
noted_distinct nodes None h = h
noted_distinct nodes (Some q) h = note_distinct nodes q h

noted_collects : Collects with_noted (λ P prof. IsMaybe P prof)
noted_collects = record { notes = noted_notes; grows = noted_grows; has = noted_has; distinct = noted_distinct }

-- # Instructions and terminators

stand_note : (P : Prof → Type 0) (kind : NoteKind) (prof : Option Prof) → IsMaybe (MayStand P kind) prof → IsMaybe P prof
stand_note P kind None h = tt
stand_note P kind (Some q) h = h.1

stand_change : (P Q : Prof → Type 0) (kind : NoteKind) (prof : Option Prof) → IsMaybe (MayStand P kind) prof → IsMaybe Q prof → IsMaybe (MayStand Q kind) prof
stand_change P Q kind None h k = tt
stand_change P Q kind (Some q) h k = (h.0, k)

module _ (P : Prof → Type 0) where
  instr_notes : (i : Instr) → IsInstr P i → IsMaybe P (instr_note i)
  instr_notes (Binary dest op flags ty left right) h = tt
  instr_notes (Compare dest pred ty left right) h = tt
  instr_notes (Convert dest op flags from value to) h = tt
  instr_notes (Freeze dest ty value) h = tt
  instr_notes (Select dest condition ty first second prof) h = stand_note P kinds.Weights prof h.4
  instr_notes (Phi dest ty entries) h = tt
  instr_notes (Alloca dest mem) h = tt
  instr_notes (Load dest ty address) h = tt
  instr_notes (Store ty value address) h = tt
  instr_notes (Gep dest inbounds mem address indices) h = tt
  instr_notes (Call dest gives callee args prof) h = stand_note P kinds.Targets prof h.3
  instr_notes (Count symbol size index by) h = tt

  term_notes : (t : Term) → IsTerm P t → IsMaybe P (term_note t)
  term_notes (terms.Br to) h = tt
  term_notes (terms.CondBr condition first second prof) h = stand_note P kinds.Weights prof h.3
  term_notes (terms.Switch ty value default cases prof) h = stand_note P kinds.Weights prof h.3
  term_notes (terms.Ret value) h = tt
  term_notes terms.Unreachable h = tt

  module _ (Q : Prof → Type 0) where
    instr_change : (i : Instr) → IsInstr P i → IsMaybe Q (instr_note i) → IsInstr Q i
    instr_change (Binary dest op flags ty left right) h k = h
    instr_change (Compare dest pred ty left right) h k = h
    instr_change (Convert dest op flags from value to) h k = h
    instr_change (Freeze dest ty value) h k = h
    instr_change (Select dest condition ty first second prof) h k = (h.0, h.1, h.2, h.3, stand_change P Q kinds.Weights prof h.4 k)
    instr_change (Phi dest ty entries) h k = h
    instr_change (Alloca dest mem) h k = h
    instr_change (Load dest ty address) h k = h
    instr_change (Store ty value address) h k = h
    instr_change (Gep dest inbounds mem address indices) h k = h
    instr_change (Call dest gives callee args prof) h k = (h.0, h.1, h.2, stand_change P Q kinds.Targets prof h.3 k)
    instr_change (Count symbol size index by) h k = h

    term_change : (t : Term) → IsTerm P t → IsMaybe Q (term_note t) → IsTerm Q t
    term_change (terms.Br to) h k = h
    term_change (terms.CondBr condition first second prof) h k = (h.0, h.1, h.2, stand_change P Q kinds.Weights prof h.3 k)
    term_change (terms.Switch ty value default cases prof) h k = (h.0, h.1, h.2, stand_change P Q kinds.Weights prof h.3 k)
    term_change (terms.Ret value) h k = h
    term_change terms.Unreachable h k = h

instr_collects : Collects with_instr IsInstr
instr_collects = record {
  notes = λ P nodes i h k. noted_notes P nodes (instr_note i) h (instr_notes P i k);
  grows = λ nodes i q h. noted_grows nodes (instr_note i) q h;
  has = λ P Q nodes i h k. instr_change P Q i h (noted_has P Q nodes (instr_note i) (instr_notes P i h) k);
  distinct = λ nodes i h. noted_distinct nodes (instr_note i) h;
}

instrs_collect : Collects (fold with_instr) (λ P is. Each (IsInstr P) is)
instrs_collect = fold_collects with_instr IsInstr instr_collects

-- # Blocks and functions

block_notes : (P : Prof → Type 0) (nodes : List Prof) (b : Block) → Each P nodes → IsBlock P b → Each P (with_block nodes b)
unfolding with_block
block_notes P nodes b h k = noted_notes P (fold with_instr nodes b.instrs) (term_note b.term) (instrs_collect.notes P nodes b.instrs h k.instrs) (term_notes P b.term k.term)

block_grows : (nodes : List Prof) (b : Block) (q : Prof) → Has nodes q → Has (with_block nodes b) q
unfolding with_block
block_grows nodes b q h = noted_grows (fold with_instr nodes b.instrs) (term_note b.term) q (instrs_collect.grows nodes b.instrs q h)

block_has : (P Q : Prof → Type 0) (nodes : List Prof) (b : Block) → IsBlock P b → ((q : Prof) → P q → Has (with_block nodes b) q → Q q) → IsBlock Q b
unfolding with_block
block_has P Q nodes b h k =
    let found = fold with_instr nodes b.instrs in
    record {
      label = h.label;
      instrs = instrs_collect.has P Q nodes b.instrs h.instrs (λ q p there. k q p (noted_grows found (term_note b.term) q there));
      term = term_change P Q b.term h.term (noted_has P Q found (term_note b.term) (term_notes P b.term h.term) k);
    }

block_distinct : (nodes : List Prof) (b : Block) → Distinct nodes → Distinct (with_block nodes b)
unfolding with_block
block_distinct nodes b h = noted_distinct (fold with_instr nodes b.instrs) (term_note b.term) (instrs_collect.distinct nodes b.instrs h)

block_collects : Collects with_block IsBlock
block_collects = record { notes = block_notes; grows = block_grows; has = block_has; distinct = block_distinct }

blocks_collect : Collects (fold with_block) (λ P bs. Each (IsBlock P) bs)
blocks_collect = fold_collects with_block IsBlock block_collects

body_notes : (P : Prof → Type 0) (nodes : List Prof) (params : List (Ty × List ℕ)) (prof : Option Prof) (bs : List Block) → Each P nodes → IsBody P params prof bs → Each P (with_body nodes prof bs)
body_notes P nodes params prof [] h k = h
body_notes P nodes params prof (b ∷ bs) h k = blocks_collect.notes P (with_noted nodes prof) (b ∷ bs) (noted_notes P nodes prof h (stand_note P kinds.Entry prof k.1)) k.2

body_grows : (nodes : List Prof) (prof : Option Prof) (bs : List Block) (q : Prof) → Has nodes q → Has (with_body nodes prof bs) q
body_grows nodes prof [] q h = h
body_grows nodes prof (b ∷ bs) q h = blocks_collect.grows (with_noted nodes prof) (b ∷ bs) q (noted_grows nodes prof q h)

body_has : (P Q : Prof → Type 0) (nodes : List Prof) (params : List (Ty × List ℕ)) (prof : Option Prof) (bs : List Block) → IsBody P params prof bs → ((q : Prof) → P q → Has (with_body nodes prof bs) q → Q q) → IsBody Q params prof bs
body_has P Q nodes params prof [] h k = h
body_has P Q nodes params prof (b ∷ bs) h k = (
  h.0,
  stand_change P Q kinds.Entry prof h.1 (noted_has P Q nodes prof (stand_note P kinds.Entry prof h.1) (λ q p there. k q p (blocks_collect.grows (with_noted nodes prof) (b ∷ bs) q there))),
  blocks_collect.has P Q (with_noted nodes prof) (b ∷ bs) h.2 k,
)

body_distinct : (nodes : List Prof) (prof : Option Prof) (bs : List Block) → Distinct nodes → Distinct (with_body nodes prof bs)
body_distinct nodes prof [] h = h
body_distinct nodes prof (b ∷ bs) h = blocks_collect.distinct (with_noted nodes prof) (b ∷ bs) (noted_distinct nodes prof h)

function_collects : Collects with_function IsFunction
unfolding with_function
function_collects = record {
  notes = λ P nodes f h k. body_notes P nodes f.params f.prof f.blocks h k.1;
  grows = λ nodes f q h. body_grows nodes f.prof f.blocks q h;
  has = λ P Q nodes f h k. (h.0, body_has P Q nodes f.params f.prof f.blocks h.1 k);
  distinct = λ nodes f h. body_distinct nodes f.prof f.blocks h;
}

functions_collect : Collects (fold with_function) (λ P fs. Each (IsFunction P) fs)
functions_collect = fold_collects with_function IsFunction function_collects

-- # Modules

pub module_notes : (P : Prof → Type 0) (m : Module) → Each (IsFunction P) m.functions → Each P (nodes_of m)
unfolding nodes_of
module_notes P m h = functions_collect.notes P [] m.functions tt h

pub module_has : (P Q : Prof → Type 0) (m : Module) → Each (IsFunction P) m.functions → ((q : Prof) → P q → Has (nodes_of m) q → Q q) → Each (IsFunction Q) m.functions
unfolding nodes_of
module_has P Q m h k = functions_collect.has P Q [] m.functions h k

pub module_distinct : (m : Module) → Distinct (nodes_of m)
unfolding nodes_of
module_distinct m = functions_collect.distinct [] m.functions tt
