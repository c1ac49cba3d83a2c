use Rattle.std.proofs.Common.{◌≡◌, ◌+◌, ◌-◌, length}
use Rattle.std.specs.Option.{option_map}
use Rattle.sed_value.specs.declared.id.Id.{Id}
use Rattle.sed_typed.specs.Classes.{reached}
use Rattle.comp_tree.specs.Held.{parent_in}
use Rattle.comp_tree.proofs.joining.depth.Given as goal

-- as many stand above as were passed, and those that are reached from here
abbrev pub invariant-loop-depth : goal.invariant-loop-depth
invariant-loop-depth l =
    l.depth + length (reached (parent_in l.nodes) (17 - l.depth) (option_map (λ (up : Id). up.0) l.at)) ≡ length (reached (parent_in l.nodes) 17 (option_map (λ (up : Id). up.0) l.initial.at))
