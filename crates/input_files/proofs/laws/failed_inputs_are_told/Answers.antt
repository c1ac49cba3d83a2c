use Rattle.input_files.specs.Inputs.{AreUsersOf, IsSecretOf, IsRecordOf, IsCodeOf, UsersRead, SecretRead, RecordRead, CodeRead}
use Rattle.input_files.proofs.One.{users_failed, secret_failed, record_failed, code_failed, input_failed}
use Rattle.input_files.proofs.laws.failed_inputs_are_told.Goals as goal

pub returns-clause-of_users : goal.returns-clause-of_users
unfolding UsersRead
returns-clause-of_users c = λ name reads end is. input_failed AreUsersOf users_failed name reads end is

pub returns-clause-of_secret : goal.returns-clause-of_secret
unfolding SecretRead
returns-clause-of_secret c = λ name reads end is. input_failed IsSecretOf secret_failed name reads end is

pub returns-clause-of_record : goal.returns-clause-of_record
unfolding RecordRead
returns-clause-of_record c = λ name reads end is. input_failed IsRecordOf record_failed name reads end is

pub returns-clause-of_code : goal.returns-clause-of_code
unfolding CodeRead
returns-clause-of_code c = λ name reads end is. input_failed IsCodeOf code_failed name reads end is
