-- What is heard gives bytes alone.
use Rattle.std.specs.Prelude.{List, [], ◌∷◌, Option, Some, None, ⊤}
use Rattle.app_file.specs.Bytes.{GivesBytes}
use Rattle.sox_serve.specs.Answer.{command_of}
use Rattle.node_events.specs.Heard.{Heard, Wish, asks, is_refused}
use Rattle.node_events.specs.Running.{Event, comes, passes}

-- what is refused gives nothing
abbrev pub WishGivesBytes : Wish → Type 0
WishGivesBytes (asks command) = GivesBytes (command_of command)
WishGivesBytes (is_refused refusal) = ⊤

abbrev pub HeardGivesBytes : Option Heard → Type 0
HeardGivesBytes None = ⊤
HeardGivesBytes (Some heard) = WishGivesBytes heard.wish

abbrev pub EventGivesBytes : Event → Type 0
EventGivesBytes (comes from heard mishap) = HeardGivesBytes heard
EventGivesBytes (passes moment) = ⊤

abbrev pub AllGiveBytes : List Event → Type 0
AllGiveBytes [] = ⊤
AllGiveBytes (event ∷ events) = EventGivesBytes event × AllGiveBytes events
