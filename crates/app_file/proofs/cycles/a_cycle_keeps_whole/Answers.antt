use Rattle.app_file.proofs.Visits.{whole_begin, whole_cycle}
use Rattle.app_file.proofs.cycles.a_cycle_keeps_whole.Goals as goal

pub returns-clause-cycle : goal.returns-clause-cycle
returns-clause-cycle c = λ m a turns moment code whole. whole_cycle m code (λ o slot v. c.what_is_kept_fits.ensures.stored m o slot v code) a turns moment whole

pub returns-clause-begin : goal.returns-clause-begin
returns-clause-begin c = λ m a turns moment code whole. whole_begin m code (λ o slot v. c.what_is_kept_fits.ensures.stored m o slot v code) a turns moment whole
