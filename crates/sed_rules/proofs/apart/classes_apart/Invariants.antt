use Rattle.std.proofs.Common.{◌≡◌, length}
use Rattle.sed_rules.specs.Settled.{AreApartIn}
use Rattle.sed_rules.proofs.apart.classes_apart.Given as goal

-- the classes so far
abbrev pub invariant-loop-class : goal.invariant-loop-class
invariant-loop-class l = record {
  count : length l.all.items ≡ l.class;
  apart : AreApartIn l.classes l.all.items;
}
