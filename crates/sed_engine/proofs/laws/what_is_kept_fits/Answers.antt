use Rattle.sed_engine.proofs.KeptObjects.{new_is_object, called_is_object, stored_is_object}
use Rattle.sed_engine.proofs.laws.what_is_kept_fits.Goals as goal

pub returns-clause-new : goal.returns-clause-new
returns-clause-new c m class whole may = new_is_object m whole class may

pub returns-clause-called : goal.returns-clause-called
returns-clause-called c m o statics which argument turns moment whole is fit = (called_is_object m whole o is statics fit which argument turns moment).0

pub returns-clause-statics : goal.returns-clause-statics
returns-clause-statics c m o statics which argument turns moment whole is fit = (called_is_object m whole o is statics fit which argument turns moment).1

pub returns-clause-stored : goal.returns-clause-stored
returns-clause-stored c m o slot v whole is may = stored_is_object c.low_bits_are_exact.ensures.fit m whole o is slot v may
