-- Renamings by the label that they rename.
use Rattle.std.specs.Prelude.{◌≡◌, ℕ, Bool, cond, List, [], ◌∷◌, drop, Option, None, Some, unwrap_or}
use Rattle.std.specs.Option.{option_map}
use Rattle.count_insert.specs.declared.heads.Heads.{Heads}
use Rattle.count_insert.specs.declared.queues.Queues.{Queues}
use Rattle.indexmap.specs.IndexMap.{get_by}
use Rattle.ir_tree.specs.Names.{same}
use Rattle.ir_tree.specs.Operands.{Entries}

-- a label, and the label that stands for it
abbrev pub Renaming : Type 0
Renaming = List ℕ × List ℕ

-- the renamings of the phis of the block that has this label
abbrev pub renamings_at : Heads → List ℕ → List Renaming
renamings_at heads label = unwrap_or (get_by (same label) heads.lists) []

-- the labels that wait to stand for this one
abbrev pub queue_at : Queues → List ℕ → List (List ℕ)
queue_at queues label = unwrap_or (option_map (λ q. q.items) (get_by (same label) queues.labels)) []

-- the labels that stand for this one, in order
abbrev pub news_for : List ℕ → List Renaming → List (List ℕ)
news_for t [] = []
news_for t (r ∷ rs) = cond (same r.0 t) (r.1 ∷ news_for t rs) (news_for t rs)

-- the first of them, or the label itself
abbrev pub first_or : List ℕ → List (List ℕ) → List ℕ
first_or label [] = label
first_or label (x ∷ xs) = x

-- the queues, of which that of a label has lost its first
abbrev pub without : (List ℕ → List (List ℕ)) → List ℕ → List ℕ → List (List ℕ)
without queues label other = cond (same label other) (drop 1 (queues label)) (queues other)

-- each entry in turn takes the first label that waits for its own
abbrev pub by_queue : (List ℕ → List (List ℕ)) → Entries → Entries
by_queue queues [] = []
by_queue queues (e ∷ es) = (e.0, first_or e.1 (queues e.1)) ∷ by_queue (without queues e.1) es

-- no label waits for one that a renaming puts in
abbrev pub AreAway : (List ℕ → List (List ℕ)) → List Renaming → Type 0
AreAway queues [] = Unit {0}
AreAway queues (r ∷ rs) = (queues r.1 ≡ []) × AreAway queues rs
