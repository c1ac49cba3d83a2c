use Rattle.app_file.proofs.Visits.{whole_into}
use Rattle.app_file.proofs.cycles.copies_keep_whole.Goals as goal

pub returns : goal.returns
returns c = λ m a id turns traps moment code whole.
    whole_into m code (λ o slot v. c.what_is_kept_fits.ensures.stored m o slot v code) a.links turns moment (record { left = a.components; traps = traps }) id whole
