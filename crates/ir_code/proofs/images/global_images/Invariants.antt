use Rattle.std.proofs.Common.{◌≡◌, ◌++◌, map, drop}
use Rattle.ir_model.specs.Values.{objects}
use Rattle.ir_code.specs.Found.{value_in}
use Rattle.ir_code.specs.Images.{image_of}
use Rattle.ir_code.proofs.images.global_images.Given as goal

abbrev pub invariant-loop-global : goal.invariant-loop-global
invariant-loop-global l =
    l.images.items ++ map (image_of (value_in l.symbols)) (objects (drop l.global-index l.globals)) ≡ map (image_of (value_in l.symbols)) (objects l.globals)
