-- One more write, and one more failed call.
use Rattle.std.proofs.Common.{◌≡◌, ℕ, Bool, true, false, List, [], ◌∷◌, ◌++◌, reverse, refl, sym, ap, ◌∙◌, Some}
use Rattle.std.proofs.lemmas.Bool.{false_from_ne_true}
use Rattle.std.specs.Cmp.Lexicographic.{bytes_decides}
use Rattle.std.specs.List.{find}
use Rattle.std.specs.Option.{option_map}
use Rattle.std.specs.String.{string_bytes}
use Rattle.std.proofs.lemmas.List.{map-append, reverse-append}
use Rattle.std.proofs.lemmas.List.Elements.{Contains-push}
use Rattle.pgo_base.specs.declared.shelf.FileEntry.{FileEntry}
use Rattle.pgo_base.specs.declared.shelf.FailedCall.{FailedCall}
use Rattle.pgo_base.specs.Outside.{Call, Gained, Puts}
use Rattle.pgo_base.specs.Shelf.{bytes_of, call_of, calls_of, files_of, has_name}

-- one more failed call is gained
pub gained_push : (calls : List FailedCall) (c : FailedCall) (k : Call) → call_of c ≡ k → Gained (calls_of calls) (calls_of (calls ++ c ∷ [])) k
gained_push calls c k is = (k ∷ [], map-append call_of calls (c ∷ []) ∙ ap (λ x. calls_of calls ++ x ∷ []) is, Contains-push [] k)

newest : (entries : List FileEntry) (e : FileEntry) (name : List ℕ) (b : Bool) → has_name name e ≡ b →
    files_of (entries ++ e ∷ []) name ≡ option_map bytes_of (elim b [ true ↦ Some e | false ↦ find (has_name name) (reverse entries) ])
newest entries e name true is = rw (reverse-append, is) refl
newest entries e name false is = rw (reverse-append, is) refl

-- the newest write of a name is its file, and other names keep theirs
pub puts_push : (entries : List FileEntry) (e : FileEntry) (name bytes : List ℕ) → string_bytes e.name ≡ name → bytes_of e ≡ bytes →
    Puts name bytes (files_of entries) (files_of (entries ++ e ∷ []))
puts_push entries e name bytes named is = (
  newest entries e name true ((bytes_decides (string_bytes e.name) name).1 named) ∙ ap Some is,
  λ other differs. newest entries e other false
      (false_from_ne_true _ (λ same. differs (sym ((bytes_decides (string_bytes e.name) other).0 same) ∙ named))),
)
