-- The two sessions of a generated record.
use Rattle.std.specs.Prelude.{ℕ, ◌%◌, ◌==◌, if◌then◌else◌, [], ◌∷◌}
use Rattle.sed_outside.specs.declared.addr.Addr.{Addr}
use Rattle.replay_log.specs.declared.session.Session.{Session}
use Rattle.replay_log.specs.declared.session.Session.TheVariants.{A, B}

-- 127.0.0.1:2001 and 127.0.0.1:2002
abbrev pub address_of : Session → Addr
address_of A = record { ip = 127 ∷ 0 ∷ 0 ∷ 1 ∷ []; port = 2001 }
address_of B = record { ip = 127 ∷ 0 ∷ 0 ∷ 1 ∷ []; port = 2002 }

-- the client's id of the session
abbrev pub remote_id_of : Session → ℕ
remote_id_of A = 1
remote_id_of B = 2

-- the node's id of the session
abbrev pub node_id_of : Session → ℕ
node_id_of A = 0
node_id_of B = 17

-- the sessions take turns: A has the even numbers
abbrev pub in_turn : ℕ → Session
in_turn n = if n % 2 == 0 then A else B
