use Rattle.std.proofs.Common.{◌≡◌, map}
use Rattle.std.specs.List.{range_with_len}
use Rattle.sed_classes.specs.LimitRules.{statics_before}
use Rattle.sed_outline.specs.Rounds.{capped}
use Rattle.sed_first_fault.proofs.statics.statics_before.Given as goal

-- the classes so far, and what they come to
abbrev pub invariant-loop-class : goal.invariant-loop-class
invariant-loop-class l = record {
  sum : l.before ≡ capped (statics_before l.measured l.class);
  so_far : l.all.items ≡ map (λ class. capped (statics_before l.measured class)) (range_with_len 0 l.class);
}
