use Rattle.sed_layout.proofs.Apart.{ends_within}
use Rattle.sed_layout.proofs.offset_laws.statics_lie_within.Goals as goal

pub returns : goal.returns
returns c program number f is = ends_within program program.statics number f is
