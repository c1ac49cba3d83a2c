use Rattle.sed_layout.proofs.Apart.{ends_before}
use Rattle.sed_layout.proofs.offset_laws.statics_do_not_overlap.Goals as goal

pub returns : goal.returns
returns c program first second f is less = ends_before program program.statics first second f is less
