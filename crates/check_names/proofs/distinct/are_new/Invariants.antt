use Rattle.std.proofs.Common.{◌≡◌, [], drop, map, take}
use Rattle.check_names.proofs.Names.{param_name}
use Rattle.check_names.specs.Seen.{HasSeen}
use Rattle.ir_rules.specs.Lists.{are_new}
use Rattle.check_names.proofs.distinct.are_new.Given as goal

abbrev pub invariant-loop-param : goal.invariant-loop-param
invariant-loop-param l = HasSeen l.seen (map param_name (take l.param-index l.f.params)) × (are_new (map param_name (take l.param-index l.f.params)) (map param_name (drop l.param-index l.f.params)) ≡ are_new [] (map param_name l.f.params))
