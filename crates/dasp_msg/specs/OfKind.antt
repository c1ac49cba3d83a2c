-- The messages of each kind, with the fields that they are sent with.
use Rattle.std.specs.Prelude.{ℕ, Option, Some, List, codes}
use Rattle.dasp_msg.specs.declared.kind.MsgKind.{MsgKind}
use Rattle.dasp_msg.specs.declared.kind.MsgKind.TheVariants.{Hello, Challenge, Authenticate, Welcome, KeepAlive}
use Rattle.dasp_msg.specs.declared.kind.MsgKind.TheVariants.{Datagram, Close}
use Rattle.dasp_msg.specs.Shown.{Message, without_fields}

-- to an id of a session, without fields and payload; a message that carries nothing has no number but 65,535
abbrev pub bare : ℕ → MsgKind → Message
bare to kind = without_fields to 65535 kind

-- ---- a client's

-- version 0x0100, and the client's id of the session
abbrev pub hello : ℕ → Message
hello remote_id = record (bare 65535 Hello) { version = Some 256; remote_id = Some remote_id }

-- a user's name, and a digest
abbrev pub authenticate : ℕ → List ℕ → List ℕ → Message
authenticate to user digest = record (bare to Authenticate) { username = Some user; digest = Some digest }

-- ---- a node's

-- the node's id of the session, and what the client's digest is made of
abbrev pub challenge : ℕ → ℕ → List ℕ → Message
challenge to id nonce = record (bare to Challenge) {
  remote_id = Some id;
  algorithm = Some (codes "SHA-1");
  nonce = Some nonce;
}

abbrev pub welcome : ℕ → Message
welcome to = bare to Welcome

-- ---- either's

-- a node's says why the session is closed, and a client's says no cause
abbrev pub close : ℕ → Option ℕ → Message
close to code = record (bare to Close) { error_code = code }

-- the number of the last message below the first gap, and bytes that say which came above it
abbrev pub with_acks : ℕ → Option (List ℕ) → Message → Message
with_acks ack more message = record message { ack = Some ack; ack_more = more }

abbrev pub carrying : ℕ → List ℕ → Message → Message
carrying number payload message = record message { sequence = number; payload = payload }

abbrev pub keep_alive : ℕ → ℕ → Option (List ℕ) → Message
keep_alive to ack more = with_acks ack more (bare to KeepAlive)

-- the message of this number with a payload
abbrev pub datagram : ℕ → ℕ → Option (List ℕ) → ℕ → List ℕ → Message
datagram to ack more number payload = carrying number payload (with_acks ack more (bare to Datagram))
