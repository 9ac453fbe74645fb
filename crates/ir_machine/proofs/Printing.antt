-- A machine that appends a line makes the step that prints it.
use Rattle.std.proofs.Common.{◌≡◌, ℕ, ◌+◌, Bool, true, false, cond, List, [], ◌∷◌, ◌++◌, length, map, refl, sym, ◌∙◌, ap, subst, length-append}
use Rattle.std.proofs.lemmas.List.{append-nil}
use Rattle.std.specs.Prelude.{reverse}
use Rattle.ir_model.specs.declared.result.TrapKind.TheVariants as trap
use Rattle.ir_machine.specs.declared.state.Machine.{Machine}
use Rattle.ir_machine.specs.declared.state.Turn.TheVariants as turn
use Rattle.ir_machine.specs.Steps.{Byte, CodeState, bytes, sights, waiting_of, Prints, After, Comes, prints, goes_to, fails}

pub bytes_all : (text : List ℕ) → bytes (map Byte text) ≡ text
bytes_all [] = refl
bytes_all (b ∷ bs) = ap (λ l. b ∷ l) (bytes_all bs)

pub none_seen : (text : List ℕ) → sights (map Byte text) ≡ []
none_seen [] = refl
none_seen (b ∷ bs) = none_seen bs

module _ (m n : Machine) (text : List ℕ) (top : n.top ≡ m.top) (callers : n.callers.items ≡ m.callers.items) (memory : n.memory ≡ m.memory) where
  abbrev longer : CodeState
  longer = record {
    frames = m.top ∷ waiting_of m;
    shared = record { memory = m.memory; output = length m.printed.items + length text };
  }

  pub put_fits : Prints text m.printed.items true n.printed.items → Comes m (λ fr rest sh. prints fr rest sh text) turn.Goes n
  put_fits p =
      let count : length n.printed.items ≡ length m.printed.items + length text =
      ap length p.1 ∙ length-append m.printed.items text in
      let P : Bool → Type 0 = λ b. After (cond b (goes_to (m.top ∷ waiting_of m) longer.shared (map Byte text)) (fails trap.Output)) m.printed.items turn.Goes n in
      subst P p.0 (refl, sym (none_seen text), λ i. record { frames = top i ∷ reverse (callers i); shared = record { memory = memory i; output = count i } }, p.1 ∙ ap (λ l. m.printed.items ++ l) (sym (bytes_all text)))

  pub put_trap : Prints text m.printed.items false n.printed.items → Comes m (λ fr rest sh. prints fr rest sh text) (turn.Traps trap.Output) n
  put_trap p =
      let P : Bool → Type 0 = λ b. After (cond b (goes_to (m.top ∷ waiting_of m) longer.shared (map Byte text)) (fails trap.Output)) m.printed.items (turn.Traps trap.Output) n in
      subst P p.0 (refl, refl, p.1 ∙ sym (append-nil m.printed.items))
