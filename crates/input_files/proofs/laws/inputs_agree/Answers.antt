use Rattle.input_files.specs.Inputs.{AreUsersOf, IsSecretOf, IsRecordOf, IsCodeOf, UsersRead, SecretRead, RecordRead, CodeRead}
use Rattle.input_files.proofs.One.{Imaging, Refusing, users_one, secret_one, record_one, code_one, input_one}
use Rattle.input_files.proofs.laws.inputs_agree.Goals as goal

pub returns-clause-of_users : goal.returns-clause-of_users
unfolding UsersRead
returns-clause-of_users c = λ name reads others end other h k agree.
    input_one AreUsersOf (users_one c.users_files_are_one.ensures) name reads others end other h k agree

pub returns-clause-of_secret : goal.returns-clause-of_secret
unfolding SecretRead
returns-clause-of_secret c = λ name reads others end other h k agree.
    input_one IsSecretOf secret_one name reads others end other h k agree

pub returns-clause-of_record : goal.returns-clause-of_record
unfolding RecordRead
returns-clause-of_record c = λ name reads others end other h k agree.
    let law : Refusing = record { place = c.refusals_are_one.ensures.place; apart = c.refusals_are_one.ensures.apart } in
    input_one IsRecordOf (record_one law) name reads others end other h k agree

pub returns-clause-of_code : goal.returns-clause-of_code
unfolding CodeRead
returns-clause-of_code c = λ name reads others end other h k agree.
    let law : Imaging = record {
      image = c.images_have_one_text.ensures.image;
      apart = c.bytes_are_an_image_or_fault.ensures.never_both;
      place = c.bytes_are_an_image_or_fault.ensures.one;
      first = c.first_broken_is_least.ensures;
    } in
    input_one IsCodeOf (code_one law) name reads others end other h k agree
