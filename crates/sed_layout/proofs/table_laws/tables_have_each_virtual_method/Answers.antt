use Rattle.sed_typed.specs.Virtual.{virtual_names}
use Rattle.sed_layout.proofs.FoundMethods.{all_found, names_stand, whole_table}
use Rattle.sed_layout.proofs.table_laws.tables_have_each_virtual_method.Goals as goal

pub returns-clause-nearest : goal.returns-clause-nearest
returns-clause-nearest c = whole_table

pub returns-clause-names : goal.returns-clause-names
returns-clause-names c = λ program typed class.
    names_stand program class (virtual_names program class) (all_found program typed class)
