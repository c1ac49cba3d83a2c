use Rattle.app_file.proofs.FirstWhole.{whole_first}
use Rattle.app_file.proofs.first.the_app_alone_is_whole.Goals as goal

pub returns : goal.returns
returns c = λ m statics limit code fit room least most. whole_first m code (λ class. c.what_is_kept_fits.ensures.new m class code) statics limit fit room least most
