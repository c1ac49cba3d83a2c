use Rattle.std.proofs.Common.{◌≡◌, ◌+◌, ◌-◌, length}
use Rattle.scode_code.specs.CodeRules.{fault_from}
use Rattle.scode_verify.specs.Words.{IsWatched, Passed, kinds_of, whole_walk}
use Rattle.scode_verify.proofs.walk.along.Given as goal

-- what is left of the walk finds what the whole walk does, and what is known of entries is so
abbrev pub invariant-loop : goal.invariant-loop
invariant-loop l = record {
  rest : fault_from (length l.code + 1 - l.counter) l.image l.places.method.now l.place (kinds_of l.kinds)
      ≡ whole_walk l.image l.places.method.now;
  passed : Passed l.entries l.passed l.place;
  watched : IsWatched l.image l.places.method.now l.kinds;
}
