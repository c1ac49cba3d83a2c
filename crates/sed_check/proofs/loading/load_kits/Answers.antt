use Rattle.kit_sources.specs.Sources.{names_of}
use Rattle.sed_check.specs.Loading.{KitsLoaded}
use Rattle.sed_check.proofs.Ends.{Ends, comes, fault_rose, fault_comes}
use Rattle.sed_check.proofs.loading.load_kits.Goals as goal

pub returns-clause-comes : goal.returns-clause-comes
returns-clause-comes g c =
    let step = KitsLoaded (names_of c.args.names.now) in
    let ends : Ends step = record { one = c.loads_agree.ensures.kits (names_of c.args.names.now); failed = c.failed_loads_are_told.ensures.kits (names_of c.args.names.now) } in
    comes g.F.Files c.args.files.now c.read_and_checked.new.files step ends c.read_and_checked.result c.read_and_checked.ensures.loaded

pub returns-clause-file_fault : goal.returns-clause-file_fault
returns-clause-file_fault g c =
    let step = KitsLoaded (names_of c.args.names.now) in
    let ends : Ends step = record { one = c.loads_agree.ensures.kits (names_of c.args.names.now); failed = c.failed_loads_are_told.ensures.kits (names_of c.args.names.now) } in
    fault_rose g.F.Files c.args.files.now c.read_and_checked.new.files step ends c.read_and_checked.result c.read_and_checked.ensures.loaded

pub returns-clause-file_fault_comes : goal.returns-clause-file_fault_comes
returns-clause-file_fault_comes g c =
    let step = KitsLoaded (names_of c.args.names.now) in
    let ends : Ends step = record { one = c.loads_agree.ensures.kits (names_of c.args.names.now); failed = c.failed_loads_are_told.ensures.kits (names_of c.args.names.now) } in
    fault_comes g.F.Files c.args.files.now c.read_and_checked.new.files step ends c.read_and_checked.result c.read_and_checked.ensures.loaded
