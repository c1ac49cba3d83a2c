-- The bytes of a reply.
use Rattle.std.specs.Prelude.{ℕ, List, [], Option, Some, None}
use Rattle.sox_msg.specs.Answered.{Answered, answered_text}

-- nothing where a reply is still to come
abbrev pub reply_bytes : ℕ → Option Answered → List ℕ
reply_bytes number None = []
reply_bytes number (Some answered) = answered_text number answered
