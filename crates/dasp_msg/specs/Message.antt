-- Which bytes are a message, and which.
use Rattle.std.specs.Prelude.{◌≡◌, ℕ, List, [], ◌++◌, length, IsSome, ⊤}
use Rattle.dasp_msg.specs.declared.header.Header.{Header}
use Rattle.dasp_msg.specs.declared.kind.MsgKind.{MsgKind}
use Rattle.dasp_msg.specs.declared.kind.MsgKind.TheVariants.{Hello, Authenticate, Datagram}
use Rattle.dasp_msg.specs.Field.{Part, SpellsFields}
use Rattle.dasp_msg.specs.Header.{SpellsHeader}
use Rattle.dasp_msg.specs.Shown.{Message, shown_by}

abbrev pub SpellsSoMany : ℕ → List Part → List ℕ → Type 0
SpellsSoMany count fields bytes = (length fields ≡ count) × SpellsFields fields bytes

-- a header, as many fields as it says, and what is behind them
pub record SpellsDatagram (header : Header) (fields : List Part) (payload bytes : List ℕ) : Type 0 where
  pub head : List ℕ
  pub body : List ℕ
  pub head_spelled : SpellsHeader header head
  pub body_spelled : SpellsSoMany header.count fields body
  pub whole : bytes ≡ head ++ (body ++ payload)

-- only a datagram has something behind its fields
abbrev pub MayFollow : MsgKind → List ℕ → Type 0
MayFollow Datagram payload = ⊤
MayFollow kind payload = payload ≡ []

-- a hello has a version and a remote id, and goes to 65,535; an authenticate has a user's name and a digest
abbrev pub HasNeeded : MsgKind → Message → Type 0
HasNeeded Hello message = IsSome message.version × IsSome message.remote_id × (message.to ≡ 65535)
HasNeeded Authenticate message = IsSome message.username × IsSome message.digest
HasNeeded kind message = ⊤

pub record IsMessage (bytes : List ℕ) (message : Message) : Type 0 where
  pub header : Header
  pub fields : List Part
  pub payload : List ℕ
  pub spelled : SpellsDatagram header fields payload bytes
  pub shown : message ≡ shown_by header fields payload
  pub follows : MayFollow header.kind payload
  pub needed : HasNeeded header.kind message

-- no message has these bytes
abbrev pub IsMalformed : List ℕ → Type 0
IsMalformed bytes = (message : Message) → IsMessage bytes message → ⊥
