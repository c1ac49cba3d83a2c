-- Why a node closes a session.
use Rattle.std.specs.Prelude.{ℕ}

abbrev pub other_version : ℕ
other_version = 0xe1

-- all places are taken, or all numbers of sessions
abbrev pub too_many : ℕ
too_many = 0xe2

abbrev pub other_digest : ℕ
other_digest = 0xe3

abbrev pub not_known : ℕ
not_known = 0xe4

abbrev pub timed_out : ℕ
timed_out = 0xe5
