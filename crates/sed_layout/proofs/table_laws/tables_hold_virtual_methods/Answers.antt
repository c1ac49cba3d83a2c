use Rattle.sed_layout.proofs.FoundMethods.{virtual_stand}
use Rattle.sed_layout.proofs.table_laws.tables_hold_virtual_methods.Goals as goal

pub returns : goal.returns
returns c = virtual_stand
