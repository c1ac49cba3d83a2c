-- What happens in a generated record, and the entries that it leaves.
use Rattle.std.specs.Prelude.{◌≡◌, ℕ, ◌+◌, ◌%◌, pos, None, List, [], ◌∷◌, ⊤}
use Rattle.dasp_msg.specs.Numbers.{number_before}
use Rattle.dasp_msg.specs.OfKind as of_kind
use Rattle.dasp_msg.specs.OfKind.{authenticate, hello}
use Rattle.dasp_msg.specs.Sending.{IsSentAs}
use Rattle.dasp_msg.specs.Shown.{Message}
use Rattle.sox_msg.specs.Command.{Asked, body_of, letter_of}
use Rattle.replay_log.specs.declared.making.Next.{Next}
use Rattle.replay_log.specs.declared.session.Session.{Session}
use Rattle.replay_log.specs.declared.session.Session.TheVariants.{A, B}
use Rattle.replay_log.specs.Entry.{Entry, datagram, tick}
use Rattle.replay_log.specs.Session.{address_of, node_id_of, remote_id_of}

-- ---- messages

-- The message of this number with a payload. It says that all messages below its own number came.
abbrev pub carrying : ℕ → ℕ → List ℕ → Message
carrying node_id number payload = of_kind.datagram node_id (number_before number) None number payload

-- a command as a request that is numbered like its message
abbrev pub request_text : ℕ → Asked → List ℕ
request_text number command = letter_of command ∷ number % 256 ∷ body_of command

-- ---- steps

-- a session sends a message, or a tick comes at a moment
pub data Step : Type 0 where
  sends : Session → Message → Step
  ticks : ℕ → Step

-- a session says hello and who it is
abbrev pub greeting : Session → List ℕ → List ℕ → List Step
greeting who user digest =
    sends who (hello (remote_id_of who)) ∷ sends who (authenticate (node_id_of who) user digest) ∷ []

-- a session asks for something, or a tick comes
pub data Act : Type 0 where
  asks : Session → Asked → Act
  waits : ℕ → Act

abbrev pub number_of_next : Session → Next → ℕ
number_of_next A next = next.a
number_of_next B next = next.b

-- the numbers once a session sent one message more: behind 65,535 comes 0
abbrev pub one_more : Session → Next → Next
one_more A next = record next { a = (next.a + 1) % 65536 }
one_more B next = record next { b = (next.b + 1) % 65536 }

abbrev pub asking : Session → Next → Asked → Step
asking who next command =
    let number = number_of_next who next in
    sends who (carrying (node_id_of who) number (request_text number command))

-- what is asked for is the session's next message
abbrev pub steps_of : Next → List Act → List Step
steps_of next [] = []
steps_of next (asks who command ∷ behind) = asking who next command ∷ steps_of (one_more who next) behind
steps_of next (waits moment ∷ behind) = ticks moment ∷ steps_of next behind

-- the numbers of the next messages once the acts are done
abbrev pub next_after : Next → List Act → Next
next_after next [] = next
next_after next (asks who command ∷ behind) = next_after (one_more who next) behind
next_after next (waits moment ∷ behind) = next_after next behind

-- ---- entries

-- a message comes from its session's address, as the text that it is sent as
abbrev pub Leaves : Step → Entry → Type 0
Leaves (sends who message) (datagram sender bytes) = (sender ≡ address_of who) × IsSentAs message bytes
Leaves (sends who message) (tick moment) = ⊥
Leaves (ticks moment) (datagram sender bytes) = ⊥
Leaves (ticks moment) (tick number) = number ≡ pos moment

-- each step leaves one entry
abbrev pub AreLeft : List Step → List Entry → Type 0
AreLeft [] [] = ⊤
AreLeft (step ∷ steps) (entry ∷ entries) = Leaves step entry × AreLeft steps entries
AreLeft [] (entry ∷ entries) = ⊥
AreLeft (step ∷ steps) [] = ⊥
