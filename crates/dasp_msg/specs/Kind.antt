-- The numbers of the kinds.
use Rattle.std.specs.Prelude.{ℕ}
use Rattle.dasp_msg.specs.declared.kind.MsgKind.{MsgKind}
use Rattle.dasp_msg.specs.declared.kind.MsgKind.TheVariants.{Hello, Challenge, Authenticate, Welcome, KeepAlive}
use Rattle.dasp_msg.specs.declared.kind.MsgKind.TheVariants.{Datagram, Close}

abbrev pub number_of_kind : MsgKind → ℕ
number_of_kind Hello = 1
number_of_kind Challenge = 2
number_of_kind Authenticate = 3
number_of_kind Welcome = 4
number_of_kind KeepAlive = 5
number_of_kind Datagram = 6
number_of_kind Close = 7
