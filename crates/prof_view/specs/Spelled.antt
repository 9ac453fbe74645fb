-- Which profile a text spells.
use Rattle.std.specs.Prelude.{◌≡◌, ℕ, ◌<◌, ◌≤◌, Bool, ◌⊎◌, List, [], ◌∷◌, length}
use Rattle.std.specs.List.{list_any}
use Rattle.prof_view.specs.Profile.{ProfileRecord, ProfileInput}
use Rattle.prof_view.specs.Lines.{Lines, content}
use Rattle.prof_view.specs.Grammar.{header_line, head, value_data}
use Rattle.prof_view.specs.declared.error.ViewError.{ViewError}
use Rattle.prof_view.specs.declared.error.ViewError.TheVariants.{Syntax, TextLimit, NoMemory}

-- any number of items, one behind the other, up to the rest
abbrev pub InTurn : {A : Type 0} → (Lines → A → Lines → Type 0) → Lines → List A → Lines → Type 0
InTurn Spells lines [] rest = rest ≡ lines
InTurn Spells lines (x ∷ xs) rest = (middle : Lines) × Spells lines x middle × InTurn Spells middle xs rest

-- the sites are those of the value data, or there is no value data and no site
abbrev pub SpellsSites : Lines → List (List (List ℕ × ℕ)) → Lines → Type 0
SpellsSites lines sites rest = value_data.Spells lines sites rest ⊎ ((sites ≡ []) × (rest ≡ lines))

abbrev pub SpellsRecord : Lines → ProfileRecord → Lines → Type 0
SpellsRecord lines r rest = (middle : Lines) × head.Spells lines (r.name, r.hash, r.counters) middle × SpellsSites middle r.sites rest

-- Any number of header lines and then any number of records, up to the end. The profile is entry-first where a header
-- line says so.
pub record SpellsLines (lines : Lines) (p : ProfileInput) : Type 0 where
  pub flags : List Bool
  pub behind : Lines
  pub header : InTurn header_line.Spells lines flags behind
  pub mode : p.entry_first ≡ list_any (λ flag. flag) flags
  pub records : InTurn SpellsRecord behind p.records []

-- the lines of the text that count spell the profile
abbrev pub Spells : List ℕ → ProfileInput → Type 0
Spells text p = SpellsLines (content text) p

-- the most bytes that a text has
abbrev pub text_most : ℕ
text_most = 16777216

-- a line is named by its number, counted from 1
abbrev pub NamesLine : ViewError → Type 0
NamesLine (Syntax line) = 0 < line
NamesLine (TextLimit found) = Unit {0}
NamesLine NoMemory = Unit {0}

-- the refusal has its cause
abbrev pub Refuses : List ℕ → ViewError → Type 0
Refuses text (Syntax line) = (length text ≤ text_most) × ((p : ProfileInput) → Spells text p → ⊥)
Refuses text (TextLimit found) = (found ≡ length text) × (text_most < length text)
Refuses text NoMemory = Unit {0}
