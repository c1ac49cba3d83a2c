use Rattle.app_file.proofs.KeptApplications.{kept_is_file, text_same}
use Rattle.app_file.proofs.kept.texts_are_files_of_what_is_kept.Goals as goal

pub returns-clause-file : goal.returns-clause-file
returns-clause-file c = λ m a code whole.
    kept_is_file m code (λ o slot v. c.what_is_kept_fits.ensures.stored m o slot v code) (λ class. c.what_is_kept_fits.ensures.new m class code) a whole

pub returns-clause-text : goal.returns-clause-text
returns-clause-text c = λ m a code whole.
    text_same m code (λ o slot v. c.what_is_kept_fits.ensures.stored m o slot v code) (λ class. c.what_is_kept_fits.ensures.new m class code) a whole
