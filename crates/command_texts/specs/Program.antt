-- The program that a module's text is.
use Rattle.std.specs.Prelude.{◌≡◌, ℕ, ◌<◌, ◌≤◌, ◌⊎◌, List, ◌++◌, length, codes, decimal, refl}
use Rattle.std.proofs.Common.{inl, inr, subst, sym, arith}
use Rattle.ir_tree.specs.declared.types.Module.{Module}
use Rattle.ir_read.specs.Spelled.{SpellsText, most_bytes}
use Rattle.ir_check.specs.declared.errors.CheckError.{CheckError}
use Rattle.ir_rules.specs.Accepted.{IsAccepted}
use Rattle.ir_rules.specs.Kinds.{kind_of}
use Rattle.ir_rules.specs.declared.place.Kind.{Kind}
use Rattle.ir_rules.specs.declared.place.Kind.TheVariants.{Plain, Counted, Lowered}
use Rattle.pgo_shell.specs.Judgement.{Part, demand}
use Rattle.command_texts.specs.CheckLines.{IsRefusedModule, check_line}

-- the text is not too long and spells an accepted module
pub record IsProgram (text : List ℕ) (m : Module) : Type 0 where
  pub fits : length text ≤ most_bytes
  pub spelled : SpellsText text m
  pub accepted : IsAccepted m

-- the text is this program and no other
pub record IsTheProgram (text : List ℕ) (m : Module) : Type 0 where
  pub is : IsProgram text m
  pub only : (n : Module) → SpellsText text n → n ≡ m

-- the text is too long
abbrev pub IsTooLong : List ℕ → List ℕ → List ℕ → Type 0
IsTooLong file text line = (most_bytes < length text) × (line ≡ file ++ codes ": too long")

-- the text spells no module, and the line names a place in it
abbrev pub IsBroken : List ℕ → List ℕ → List ℕ → Type 0
IsBroken file text line =
    (at : ℕ) × ((at ≤ length text) × (length text ≤ most_bytes) × ((m : Module) → SpellsText text m → ⊥) × (line ≡ file ++ codes ": syntax at byte " ++ decimal at))

-- the text spells a module that is not accepted, and the line says the first reason
abbrev pub IsNotAccepted : List ℕ → List ℕ → List ℕ → Type 0
IsNotAccepted file text line = (m : Module) × (e : CheckError) × (SpellsText text m × IsRefusedModule m e × (line ≡ check_line file e))

-- why a text is no program, and the line that says so
abbrev pub IsNoProgram : List ℕ → List ℕ → List ℕ → Type 0
IsNoProgram file text line = IsTooLong file text line ⊎ (IsBroken file text line ⊎ IsNotAccepted file text line)

pub no_program : (file text line : List ℕ) (m : Module) → IsNoProgram file text line → IsTheProgram text m → ⊥
no_program file text line m (inl h) found = not_both (h.0) found.is.fits
  where
    not_both : most_bytes < length text → length text ≤ most_bytes → ⊥
    not_both more less = omega arith
no_program file text line m (inr (inl h)) found = h.1.2 m found.is.spelled
no_program file text line m (inr (inr h)) found = h.2.1.not (subst IsAccepted (sym (found.only h.0 h.2.0)) found.is.accepted)

-- the text of a file as a program
abbrev pub program : List ℕ → List ℕ → Part Module
program file text = record {
  refuses = IsNoProgram file text;
  finds = IsTheProgram text;
  apart = λ line m refused found. no_program file text line m refused found;
  one = λ m n a b. b.only m a.is.spelled;
}

-- a module that counts by intrinsics is to be lowered before it runs
abbrev pub IsCounted : Module → Type 0
IsCounted m = kind_of m.functions ≡ Counted

-- the module of a file runs as it is
abbrev pub runs_as_it_is : List ℕ → Module → Part (Unit {0})
runs_as_it_is file m = record {
  refuses = λ line. IsCounted m × (line ≡ file ++ codes ": wrong kind counted");
  finds = λ u. IsCounted m → ⊥;
  apart = λ line u refused found. found refused.0;
  one = λ u v a b. refl;
}

-- ---- what kind it is

abbrev pub kind_word : Kind → List ℕ
kind_word Plain = codes "plain"
kind_word Counted = codes "counted"
kind_word Lowered = codes "lowered"

-- the module of a file is plain, as it is to be where its edges are counted
abbrev pub is_plain : List ℕ → Module → Part (Unit {0})
is_plain file m = demand (kind_of m.functions ≡ Plain) (file ++ codes ": wrong kind " ++ kind_word (kind_of m.functions))
