use Rattle.std.proofs.Common.{◌≡◌, drop, take}
use Rattle.check_names.specs.Seen.{HasSeen}
use Rattle.ir_rules.specs.Initialisers.{initialisers, unit_texts}
use Rattle.ir_rules.specs.Parts.{place, unless}
use Rattle.spec_lists.specs.Each.{each, first_of}
use Rattle.check_names.proofs.initialised.ill_initialised.Given as goal

abbrev pub invariant-loop-n : goal.invariant-loop-n
invariant-loop-n l = HasSeen l.texts (unit_texts (take l.n l.module.globals)) × (first_of (each (λ n g. unless ((initialisers l.module).global n g) (place 0 0 n)) l.n (drop l.n l.module.globals)) ≡ first_of (each (λ n g. unless ((initialisers l.module).global n g) (place 0 0 n)) 0 l.module.globals))
