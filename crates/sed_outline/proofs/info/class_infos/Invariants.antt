use Rattle.std.proofs.Common.{◌≡◌, take}
use Rattle.std.specs.List.{filter_map}
use Rattle.std.specs.Option.{option_map}
use Rattle.sed_classes.specs.Declarations.{class_at}
use Rattle.sed_classes.specs.Schema.{class_info}
use Rattle.sed_outline.proofs.info.class_infos.Given as goal

-- the classes so far
abbrev pub invariant-loop-number : goal.invariant-loop-number
invariant-loop-number l =
    l.all.items ≡ filter_map (λ class. option_map (class_info l.measured class) (class_at l.measured class)) (take l.number l.order)
