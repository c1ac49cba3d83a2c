use Rattle.input_files.specs.Inputs.{UsersRead}
use Rattle.input_files.proofs.Ends.{Ends, comes, fault_rose, fault_comes}
use Rattle.input_files.proofs.users.read_users.Goals as goal

pub returns-clause-comes : goal.returns-clause-comes
returns-clause-comes g c =
    let step = UsersRead c.args.name.now in
    let ends : Ends step = record { one = c.inputs_agree.ensures.of_users c.args.name.now; failed = c.failed_inputs_are_told.ensures.of_users c.args.name.now } in
    comes g.F.Files c.args.files.now c.users_in.new.files step ends c.users_in.result c.users_in.ensures

pub returns-clause-file_fault : goal.returns-clause-file_fault
returns-clause-file_fault g c =
    let step = UsersRead c.args.name.now in
    let ends : Ends step = record { one = c.inputs_agree.ensures.of_users c.args.name.now; failed = c.failed_inputs_are_told.ensures.of_users c.args.name.now } in
    fault_rose g.F.Files c.args.files.now c.users_in.new.files step ends c.users_in.result c.users_in.ensures

pub returns-clause-file_fault_comes : goal.returns-clause-file_fault_comes
returns-clause-file_fault_comes g c =
    let step = UsersRead c.args.name.now in
    let ends : Ends step = record { one = c.inputs_agree.ensures.of_users c.args.name.now; failed = c.failed_inputs_are_told.ensures.of_users c.args.name.now } in
    fault_comes g.F.Files c.args.files.now c.users_in.new.files step ends c.users_in.result c.users_in.ensures
