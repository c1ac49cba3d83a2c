use Rattle.sed_engine.specs.Program.{code_of}
use Rattle.scode_sim.proofs.WholeRoots.{roots_same}
use Rattle.scode_sim.proofs.laws.compiled_roots_are_the_same.Goals as goal

pub returns : goal.returns
returns c program layout image q typed made may same over =
    roots_same program typed layout image made c.instructions_stand_where_they_start.ensures.stands q ((c.what_may_be_asked.ensures (code_of program) q).0 may) same over
