-- The root call that a machine makes.
use Rattle.scode_engine.specs.declared.root_call.RootCall.{RootCall}
use Rattle.scode_engine.specs.AtWork.{Rooted}

abbrev pub rooted : RootCall → Rooted
rooted c = record { image = c.image.now; class = c.class; place = c.place; moment = c.moment }
