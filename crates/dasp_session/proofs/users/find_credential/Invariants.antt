use Rattle.std.proofs.Common.{◌≡◌, drop}
use Rattle.dasp_session.specs.UsersFile.{credential_of}
use Rattle.dasp_session.proofs.users.find_credential.Given as goal

abbrev pub invariant-loop-known : goal.invariant-loop-known
invariant-loop-known l = credential_of (drop l.known-index l.users) l.user ≡ credential_of l.users l.user
