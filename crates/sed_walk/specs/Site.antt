-- Where a body runs, and how values and states are seen there.
use Rattle.std.specs.Prelude.{List, Result}
use Rattle.sed_engine.specs.Expressions.{Setting}
use Rattle.sed_engine.specs.Places as target
use Rattle.sed_engine.specs.State.{Shared, State, End}
use Rattle.sed_engine.specs.Stops as stops
use Rattle.sed_engine.specs.Values.{Val}
use Rattle.walk_steps.specs.declared.targets.Target.{Target}
use Rattle.walk_steps.specs.declared.word.Stop.{Stop}
use Rattle.walk_steps.specs.declared.word.Word.{Word}
use Rattle.walk_steps.specs.Seen.{seen, ends, framed}
use Rattle.walk_steps.specs.Stored.{Stored, shared_of, state_of, ended}
use Rattle.walk_steps.specs.Targets.{setting_of, targets}
use Rattle.sed_walk.specs.declared.site.Site.{Site}

-- what an evaluation stands in
abbrev pub setting_at : Site → Setting
setting_at site = setting_of site.plan.now site.class site.frames

-- a value
abbrev pub seen_at : Site → Word → Val
seen_at site = seen site.plan.now site.class

-- how a step ends: with a value, with what may be assigned to, or with a frame that it leaves
abbrev pub ends_at : Site → Result Word Stop → Result Val stops.Stop
ends_at site = ends site.plan.now site.class

abbrev pub targets_at : Site → Result Target Stop → Result target.Target stops.Stop
targets_at site = targets site.plan.now site.class

abbrev pub framed_at : Site → Result (Unit {0}) Stop → List Word → Result (List Val) stops.Stop
framed_at site = framed site.plan.now site.class

-- what a store stands for, and what it and locals stand for
abbrev pub shared_at : Site → Stored → Shared
shared_at site = shared_of site.plan.now site.class

abbrev pub state_at : Site → Stored → List Word → State
state_at site = state_of site.plan.now site.class

-- how a step ends, and in which state
abbrev pub ended_at : {A : Type 0} → Site → Result A stops.Stop → Stored → List Word → End A
ended_at site = ended site.plan.now site.class
