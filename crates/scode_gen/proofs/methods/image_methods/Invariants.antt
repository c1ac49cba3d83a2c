use Rattle.std.proofs.Common.{◌≡◌, ◌++◌, drop, map, take}
use Rattle.std.specs.Prelude.{All}
use Rattle.scode_entries.specs.Method.{image_method}
use Rattle.scode_gen.specs.Generated.{IsShort, image_layout}
use Rattle.scode_gen.proofs.methods.image_methods.Given as goal

abbrev pub invariant-loop-number : goal.invariant-loop-number
invariant-loop-number l = record {
  made : l.made.items ++ map (image_method l.rows.program.now (image_layout l.rows.program.now)) (drop l.number l.all)
      ≡ map (image_method l.rows.program.now (image_layout l.rows.program.now)) l.all;
  short : All (IsShort l.rows.program.now) (take l.number l.all);
}
