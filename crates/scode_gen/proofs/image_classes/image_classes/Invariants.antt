use Rattle.std.proofs.Common.{◌≡◌, ℕ, ◌++◌, drop, map}
use Rattle.std.specs.List.{enumerate_from}
use Rattle.sed_typed.specs.declared.schema.ClassInfo.{ClassInfo}
use Rattle.scode_gen.specs.Classes.{image_class, image_classes}
use Rattle.scode_gen.proofs.image_classes.image_classes.Given as goal

abbrev pub invariant-loop-class : goal.invariant-loop-class
invariant-loop-class l =
    l.made.items ++ map (λ (at : ℕ × ClassInfo). image_class l.rows.program.now at.0 at.1) (enumerate_from l.class (drop l.class l.all))
    ≡ image_classes l.rows.program.now l.all
