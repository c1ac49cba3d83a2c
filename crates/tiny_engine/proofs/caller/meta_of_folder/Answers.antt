use Rattle.std.proofs.Common.{◌≡◌, ap, Err}
use Rattle.sed_engine.specs.declared.call.AddRefusal.TheVariants.{DataFull}
use Rattle.tiny_engine.proofs.CallerLemmas.{few_live, below_folder}
use Rattle.tiny_engine.proofs.caller.meta_of_folder.Goals as goal

pub make_with-requires-clause-few : goal.make_with-requires-clause-few
make_with-requires-clause-few c = few_live c.in-Ok.engine.one c.in-Ok.ensures.empty

pub returns-clause-full : goal.returns-clause-full
returns-clause-full c e =
    let same : c.in-Err-make_with.refusal ≡ DataFull = cc in
    below_folder c.in-Ok.engine c.args.limit c.in-Ok.ensures.empty c.in-Ok.ensures.limit (c.in-Err-make_with.ensures.full.0 (ap Err same))
