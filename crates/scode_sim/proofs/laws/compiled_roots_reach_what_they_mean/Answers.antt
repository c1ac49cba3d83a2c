use Rattle.sed_engine.specs.Program.{code_of}
use Rattle.scode_sim.proofs.Roots.{root_reaches}
use Rattle.scode_sim.proofs.laws.compiled_roots_reach_what_they_mean.Goals as goal

pub returns : goal.returns
returns c program layout image q number value typed made may method argument =
    root_reaches program typed layout image made c.instructions_stand_where_they_start.ensures.stands q ((c.what_may_be_asked.ensures (code_of program) q).0 may) number value method argument
