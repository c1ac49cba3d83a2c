use Rattle.input_files.specs.Inputs.{CodeRead}
use Rattle.input_files.proofs.Ends.{Ends, comes, fault_rose, fault_comes}
use Rattle.input_files.proofs.codes.read_code.Goals as goal

pub returns-clause-comes : goal.returns-clause-comes
returns-clause-comes g c =
    let step = CodeRead c.args.name.now in
    let ends : Ends step = record { one = c.inputs_agree.ensures.of_code c.args.name.now; failed = c.failed_inputs_are_told.ensures.of_code c.args.name.now } in
    comes g.F.Files c.args.files.now c.code_in.new.files step ends c.code_in.result c.code_in.ensures

pub returns-clause-file_fault : goal.returns-clause-file_fault
returns-clause-file_fault g c =
    let step = CodeRead c.args.name.now in
    let ends : Ends step = record { one = c.inputs_agree.ensures.of_code c.args.name.now; failed = c.failed_inputs_are_told.ensures.of_code c.args.name.now } in
    fault_rose g.F.Files c.args.files.now c.code_in.new.files step ends c.code_in.result c.code_in.ensures

pub returns-clause-file_fault_comes : goal.returns-clause-file_fault_comes
returns-clause-file_fault_comes g c =
    let step = CodeRead c.args.name.now in
    let ends : Ends step = record { one = c.inputs_agree.ensures.of_code c.args.name.now; failed = c.failed_inputs_are_told.ensures.of_code c.args.name.now } in
    fault_comes g.F.Files c.args.files.now c.code_in.new.files step ends c.code_in.result c.code_in.ensures
