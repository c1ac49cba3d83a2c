use Rattle.app_reader.proofs.Reading.{formed_by, is_told}
use Rattle.app_reader.proofs.told_laws.files_that_tell_are_formed.Goals as goal

pub returns-clause-formed : goal.returns-clause-formed
returns-clause-formed c =
    λ m limit bytes f a are tells.
    formed_by m limit bytes f a are tells (c.rows_tell_of_applications.ensures.agree m limit bytes) (c.rows_tell_of_applications.ensures.told m limit bytes)

pub returns-clause-told : goal.returns-clause-told
returns-clause-told c =
    λ m limit bytes f a are tells.
    is_told m limit bytes f a are tells (c.rows_tell_of_applications.ensures.agree m limit bytes) (c.rows_tell_of_applications.ensures.told m limit bytes)
