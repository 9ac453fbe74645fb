-- One more call is counted.
use Rattle.std.proofs.Common.{◌≡◌, ℕ, ◌+◌, ◌*◌, ◌^◌, ◌<◌, ◌≤◌, List, [], ◌∷◌, ◌++◌, length, take, Option, sym, ap, ◌∙◌, subst, arith, get_or, add-zero}
use Rattle.std.proofs.Math.Seq.{take-append_seam}
use Rattle.ir_tree.specs.declared.types.Module.{Module}
use Rattle.ir_model.specs.declared.result.Call.{Call}
use Rattle.ir_model.specs.Log.{traversals, traversals_of_all}
use Rattle.ir_machine.specs.Slots.{HasEdge, slot_of}
use Rattle.command_chain.specs.Counted.{AreWalks}

-- with the walks of the calls that are left, the counts are those of all calls
abbrev pub Walked : Module → ℕ → List Call → List Call → List ℕ → Type 0
Walked m steps calls left counts =
    (k : ℕ) (block : Option ℕ) (position : ℕ) → HasEdge m k block position →
    get_or counts (slot_of m k block position) 0 + traversals_of_all m k block position left steps ≡ traversals_of_all m k block position calls steps

-- the counts rose by the walks of a call
abbrev pub Rose : Module → ℕ → Call → List ℕ → List ℕ → Type 0
Rose m steps call old new =
    (k : ℕ) (block : Option ℕ) (position : ℕ) → HasEdge m k block position →
    get_or new (slot_of m k block position) 0 ≡ get_or old (slot_of m k block position) 0 + traversals m k block position call steps

pub walked_begins : (m : Module) (steps : ℕ) (calls : List Call) (counts : List ℕ) → ((slot : ℕ) → get_or counts slot 0 ≡ 0) → Walked m steps calls calls counts
walked_begins m steps calls counts none k block position has =
    let zero = none (slot_of m k block position) in
    omega (arith, zero)

pub walked_turn : (m n : Module) (steps : ℕ) (calls left : List Call) (call : Call) (rest : List Call) (old new : List ℕ) → n ≡ m → left ≡ call ∷ rest → Rose n steps call old new → Walked m steps calls left old → Walked m steps calls rest new
walked_turn m n steps calls left call rest old new same first rose so_far k block position has =
    let counted = subst (λ x. Rose x steps call old new) same rose k block position has in
    let before : get_or old (slot_of m k block position) 0 + (traversals m k block position call steps + traversals_of_all m k block position rest steps) ≡ traversals_of_all m k block position calls steps =
    ap (λ cs. get_or old (slot_of m k block position) 0 + traversals_of_all m k block position cs steps) (sym first) ∙ so_far k block position has in
    omega (arith, counted, before)

pub walked_ends : (m : Module) (steps : ℕ) (calls left : List Call) (counts : List ℕ) → left ≡ [] → Walked m steps calls left counts → AreWalks m steps calls counts
walked_ends m steps calls left counts none so_far k block position has =
    sym (add-zero (get_or counts (slot_of m k block position) 0))
    ∙ ap (λ cs. get_or counts (slot_of m k block position) 0 + traversals_of_all m k block position cs steps) (sym none)
    ∙ so_far k block position has

-- no count is above the steps so far and one for each call, of at most 2^40 steps each
abbrev pub IsLow : ℕ → List ℕ → Type 0
IsLow number counts = (slot : ℕ) → get_or counts slot 0 ≤ number * 1_099_511_627_777

pub low_turn : (steps number : ℕ) (old new : List ℕ) → steps ≤ 1_099_511_627_776 → ((slot : ℕ) → get_or new slot 0 ≤ get_or old slot 0 + steps + 1) → IsLow number old → IsLow (number + 1) new
low_turn steps number old new few growth low slot =
    let here = growth slot in
    let before = low slot in
    omega (arith, here, before, few)

pub low_enough : (number : ℕ) (counts : List ℕ) → number ≤ 16384 → IsLow number counts → (slot : ℕ) → get_or counts slot 0 < 2 ^ 60
low_enough number counts few low slot =
    let here = low slot in
    omega (arith, here, few)

-- counts that were lent as a whole slice
pub lent_whole : (new rest : List ℕ) (n : ℕ) → n ≡ length new → take n (new ++ rest) ≡ new
lent_whole new rest n e = ap (λ k. take k (new ++ rest)) e ∙ take-append_seam new rest
