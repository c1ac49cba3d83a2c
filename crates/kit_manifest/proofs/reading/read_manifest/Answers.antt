use Rattle.toml.specs.View.{table_view}
use Rattle.kit_manifest.proofs.Exact.{manifest_comes, wrong_type_where, bad_name_where}
use Rattle.kit_manifest.proofs.reading.read_manifest.Goals as goal

pub returns-clause-comes : goal.returns-clause-comes
returns-clause-comes c = manifest_comes c.args.text.now (table_view c.in_ok-table.table) c.manifest_in.result c.in_ok-table.ensures c.manifest_in.ensures

pub returns-clause-wrong_type : goal.returns-clause-wrong_type
returns-clause-wrong_type c = wrong_type_where c.args.text.now (table_view c.in_ok-table.table) c.manifest_in.result c.in_ok-table.ensures c.manifest_in.ensures

pub returns-clause-bad_name : goal.returns-clause-bad_name
returns-clause-bad_name c = bad_name_where c.args.text.now (table_view c.in_ok-table.table) c.manifest_in.result c.in_ok-table.ensures c.manifest_in.ensures
