use Rattle.std.proofs.Common.{List, ◌≤◌, length, subst, sym}
use Rattle.sed_typed.specs.declared.schema.ClassInfo.{ClassInfo}
use Rattle.sed_layout.proofs.OffsetLists.{no_data}
use Rattle.sed_layout.proofs.widths.size_of_class.Goals as goal

pub returns-in-None : goal.returns-in-None
returns-in-None c =
    sym (no_data c.args.program.now c.requires c.args.class
    (subst (λ (all : List ClassInfo). length all ≤ c.args.class) c.as_slice.ensures c.in-None.ensures.lookup.3))
