-- What is asked of the subscriptions.
use Rattle.std.specs.Prelude.{◌<◌, ⊤}
use Rattle.sox_serve.specs.declared.served.Served.{Served}
use Rattle.sox_serve.specs.declared.served.Served.TheVariants.{Replied, SaveAsked, Subscribe, Unsubscribe, Deleted}

-- the id and the mask are such as can be subscribed
abbrev pub IsSmall : Served → Type 0
IsSmall Replied = ⊤
IsSmall SaveAsked = ⊤
IsSmall (Subscribe id mask) = (id.0 < 4096) × (mask < 16)
IsSmall (Unsubscribe id mask) = (id.0 < 4096) × (mask < 16)
IsSmall Deleted = ⊤
