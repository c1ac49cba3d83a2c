-- How the ends of statements and of rounds are seen.
use Rattle.std.specs.Prelude.{ℕ, ◌<◌, Result, Ok, Err}
use Rattle.sed_engine.specs.Stops as stops
use Rattle.sed_engine.specs.Statements as flow
use Rattle.sed_cells.specs.Places.{Plan}
use Rattle.walk_steps.specs.declared.word.Stop.{Stop}
use Rattle.sed_engine.specs.Expressions.{Called}
use Rattle.walk_steps.specs.declared.word.Word.{Word}
use Rattle.walk_steps.specs.Seen.{seen, stop_seen, ends}
use Rattle.walk_steps.specs.Stored.{Stored, shared_of}
use Rattle.sed_walk.specs.declared.ends.Flow.{Flow}
use Rattle.sed_walk.specs.declared.ends.Flow.TheVariants.{Next, Break, Continue, Return}
use Rattle.sed_walk.specs.declared.ends.Round.{Round}
use Rattle.sed_walk.specs.declared.ends.Round.TheVariants.{Again, Over, Answer}
use Rattle.sed_walk.specs.declared.site.Site.{Site}

abbrev pub flow_seen : Plan → ℕ → Flow → flow.Flow
flow_seen plan class Next = flow.Next
flow_seen plan class Break = flow.Break
flow_seen plan class Continue = flow.Continue
flow_seen plan class (Return v) = flow.Return (seen plan class v)

-- how a statement ends
abbrev pub flows_at : Site → Result Flow Stop → Result flow.Flow stops.Stop
flows_at site (Ok f) = Ok (flow_seen site.plan.now site.class f)
flows_at site (Err stop) = Err (stop_seen stop)

abbrev pub round_seen : Plan → ℕ → Round → flow.Round
round_seen plan class Again = flow.Again
round_seen plan class Over = flow.Over
round_seen plan class (Answer v) = flow.Answer (seen plan class v)

-- how a round ends
abbrev pub rounds_at : Site → Result Round Stop → Result flow.Round stops.Stop
rounds_at site (Ok r) = Ok (round_seen site.plan.now site.class r)
rounds_at site (Err stop) = Err (stop_seen stop)

-- a round that goes on leaves fewer turns
abbrev pub LeavesFewer : Result Round Stop → ℕ → ℕ → Type 0
LeavesFewer (Ok Again) left before = left < before
LeavesFewer r left before = Unit {0}

-- what a call came to
abbrev pub came_to : Plan → ℕ → Result Word Stop → Stored → Called
came_to plan class r s = record { result = ends plan class r; shared = shared_of plan class s }

abbrev pub came_at : Site → Result Word Stop → Stored → Called
came_at site = came_to site.plan.now site.class
