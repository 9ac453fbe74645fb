-- The files of a store in memory: a list of writes, of which the newest of each name counts.
use Rattle.std.specs.Prelude.{ℕ, Bool, List, String, Vec, map, reverse, nat_eq}
use Rattle.std.specs.List.{find}
use Rattle.std.specs.Option.{option_map}
use Rattle.std.specs.String.{string_bytes}
use Rattle.std.specs.declared.alloc.Global.{Global}
use Rattle.std.specs.Cmp.Lexicographic.{pointwise}
use Rattle.pgo_base.specs.declared.shelf.FileEntry.{FileEntry}
use Rattle.pgo_base.specs.declared.shelf.FailedCall.{FailedCall}
use Rattle.pgo_base.specs.Outside.{Files, Call}

-- whether the entry is of the named file
abbrev pub has_name : List ℕ → FileEntry → Bool
has_name name entry = pointwise nat_eq (string_bytes entry.name) name

abbrev pub bytes_of : FileEntry → List ℕ
bytes_of entry = entry.bytes.items

-- what the newest write of each name left
abbrev pub files_of : List FileEntry → Files
files_of entries name = option_map bytes_of (find (has_name name) (reverse entries))

abbrev pub call_of : FailedCall → Call
call_of call = (string_bytes call.name, call.was_write)

abbrev pub calls_of : List FailedCall → List Call
calls_of calls = map call_of calls

-- the entry of a name and bytes that are given
abbrev pub entry_of : String Global × Vec ℕ Global → FileEntry
entry_of (name, bytes) = record { name = name; bytes = bytes }

-- the file of each name among files that are given, of which the later counts where two have one name
abbrev pub given_file : List (String Global × Vec ℕ Global) → Files
given_file files = files_of (map entry_of files)
