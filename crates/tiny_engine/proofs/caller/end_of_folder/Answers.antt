use Rattle.tiny_engine.proofs.CallerLemmas.{few_live}
use Rattle.tiny_engine.proofs.caller.end_of_folder.Goals as goal

pub make_with-requires-clause-few : goal.make_with-requires-clause-few
make_with-requires-clause-few c = few_live c.in-Ok.engine.one c.in-Ok.ensures.empty
