use Rattle.app_reader.proofs.Forming.{tells}
use Rattle.app_reader.proofs.told_laws.formed_files_tell.Goals as goal

pub returns : goal.returns
returns c =
    λ m limit bytes f children whole are is.
    tells m whole (λ o slot v object may. c.what_is_kept_fits.ensures.stored m o slot v whole object may) (λ class creatable. c.what_is_kept_fits.ensures.new m class whole creatable) bytes f are children is
    (c.rows_tell_of_applications.ensures.rows m) (c.rows_tell_of_applications.ensures.text m) limit
