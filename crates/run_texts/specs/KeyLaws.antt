-- A key of a row names the function whose address it is.
use Rattle.std.proofs.Common.{◌≡◌, ℕ, ◌-◌, ◌/◌, ◌<◌, ◌^◌, List, Some, ap, ◌∙◌, arith}
use Rattle.std.specs.Prelude.{slice_get}
use Rattle.ir_tree.specs.declared.types.Function.{Function}
use Rattle.counted_call.specs.Marks.{key_of}
use Rattle.run_texts.specs.RunProfile.{key_name, name_if_any}

pub key_has_name : (functions : List Function) (k : ℕ) (f : Function) → k < 2 ^ 32 → slice_get functions k ≡ Some f → key_name functions (key_of k) ≡ f.name
key_has_name functions k f few here =
    ap (λ n. name_if_any (slice_get functions n)) (number few) ∙ ap name_if_any here
  where
    number : k < 2 ^ 32 → key_of k / 16 - 1 ≡ k
    number few = omega arith
