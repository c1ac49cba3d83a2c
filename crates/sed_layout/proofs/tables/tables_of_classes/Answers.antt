use Rattle.sed_layout.specs.MethodTables.{table_of}
use Rattle.sed_layout.proofs.BaseRows.{row_more}
use Rattle.sed_layout.proofs.tables.tables_of_classes.Goals as goal

pub loop-class-preserved : goal.loop-class-preserved
loop-class-preserved c =
    row_more (table_of c.args.program.now) c.loop-class.class c.loop-class.all.items c.push.new.self.items c.in_ok-table_of_class.field-0
    c.loop-class.invariant c.in_ok-table_of_class.ensures c.in_ok-push.ensures.items
