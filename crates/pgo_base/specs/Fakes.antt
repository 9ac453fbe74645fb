-- Which calls of the fakes fail: those whose numbers are listed.
use Rattle.std.specs.Prelude.{ℕ, ◌+◌, ◌-◌, ◌^◌, Bool, List, min, nat_eq}
use Rattle.std.specs.List.{list_any}
use Rattle.pgo_base.specs.declared.memory_store.MemoryStore.{MemoryStore}
use Rattle.pgo_base.specs.declared.memory_sink.MemorySink.{MemorySink}

abbrev pub is_listed : List ℕ → ℕ → Bool
is_listed numbers n = list_any (λ m. nat_eq m n) numbers

-- the number after this one; it stands still at the last u64
abbrev pub next_number : ℕ → ℕ
next_number n = min (n + 1) (2 ^ 64 - 1)

-- the number of the store's next call
abbrev pub store_number : MemoryStore → ℕ
store_number store = store.calls

-- the numbers of the store's calls that fail
abbrev pub store_failing : MemoryStore → List ℕ
store_failing store = store.failing.items

-- whether the store's next call is to fail
abbrev pub store_fails : MemoryStore → Bool
store_fails store = is_listed store.failing.items store.calls

-- the number of the sink's next put of a piece that isn't empty
abbrev pub sink_number : MemorySink → ℕ
sink_number sink = sink.calls

-- the numbers of the sink's puts that fail
abbrev pub sink_failing : MemorySink → List ℕ
sink_failing sink = sink.failing.items

-- whether the sink's next put of a piece that isn't empty is to fail
abbrev pub sink_fails : MemorySink → Bool
sink_fails sink = is_listed sink.failing.items sink.calls
