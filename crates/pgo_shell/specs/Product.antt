-- A product of the code as what a command made.
use Rattle.std.specs.Prelude.{ℕ, List, Vec, map, ⊤}
use Rattle.std.specs.Option.{option_map}
use Rattle.std.specs.declared.alloc.Global.{Global}
use Rattle.pgo_shell.specs.Judgement.{Judgement, Made}
use Rattle.pgo_shell.specs.declared.command.Refusal.{Refusal}
use Rattle.pgo_shell.specs.declared.command.Refusal.TheVariants as refusal
use Rattle.pgo_shell.specs.declared.command.Product.{Product}

abbrev pub bytes_of : Vec ℕ Global → List ℕ
bytes_of v = v.items

abbrev pub bytes_of_all : List (Vec ℕ Global) → List (List ℕ)
bytes_of_all vs = map bytes_of vs

abbrev pub made_of : Product → Made
made_of product = record {
  halted = option_map bytes_of product.halted;
  output = product.output.items;
  written = bytes_of_all product.files.items;
}

-- the texts are refused with the line of the refusal; want of memory says nothing of them
abbrev pub RefusedBy : {V K : Type 0} {key : V → K} → Judgement V K key → Refusal → Type 0
RefusedBy judgement (refusal.Text line) = judgement.refuses line.items
RefusedBy judgement refusal.NoMemory = ⊤
