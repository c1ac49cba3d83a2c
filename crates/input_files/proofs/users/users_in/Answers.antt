use Rattle.input_files.specs.Inputs.{AreUsersOf, UsersRead}
use Rattle.input_files.proofs.Reading.{input_read, input_stops}
use Rattle.input_files.proofs.users.users_in.Goals as goal

pub returns-in-Ok : goal.returns-in-Ok
unfolding UsersRead
returns-in-Ok g c =
    input_read g.F.Files c.args.files.now c.text_in.new.files AreUsersOf c.args.name.now c.in-Ok.text _ _ c.in-Ok.ensures c.as_slice.ensures c.users_of.ensures

pub returns-in-Err : goal.returns-in-Err
unfolding UsersRead
returns-in-Err g c =
    input_stops g.F.Files c.args.files.now c.text_in.new.files AreUsersOf c.args.name.now c.in-Err.refusal c.in-Err.ensures
