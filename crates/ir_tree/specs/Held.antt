-- The bytes of a name that holds them itself, or in memory of its own.
use Rattle.std.specs.Prelude.{ℕ, List, take}
use Rattle.ir_tree.specs.declared.name.Held.{Held}
use Rattle.ir_tree.specs.declared.name.Held.TheVariants.{Inline, Heap}

abbrev pub held_bytes : Held → List ℕ
held_bytes (Inline short) = take short.len short.bytes
held_bytes (Heap bytes) = bytes.value.items
