-- A users file, and who is in it.
use Rattle.std.specs.Prelude.{◌≡◌, ◌≢◌, ℕ, ◌≤◌, nat_eq, Option, Some, None, List, [], ◌∷◌, ◌++◌, length, All, AllPairs}
use Rattle.std.specs.Prelude.{if◌then◌else◌}
use Rattle.std.specs.Cmp.Lexicographic.{pointwise}
use Rattle.dasp_session.specs.declared.user.User.{User}
use Rattle.dasp_session.specs.Line.{IsUser, line_of}

abbrev pub text_of : List User → List ℕ
text_of [] = []
text_of (user ∷ later) = line_of user ++ text_of later

-- at most 64 users, no two of one name
pub record AreUsers (users : List User) : Type 0 where
  pub few : length users ≤ 64
  pub each : All IsUser users
  pub differ : AllPairs (λ (one other : User). one.name ≢ other.name) users

-- the text is the lines of these users
pub record IsUsersFile (users : List User) (text : List ℕ) : Type 0 where
  pub are : AreUsers users
  pub lines : text ≡ text_of users

-- the credential of the user of this name
abbrev pub credential_of : List User → List ℕ → Option (List ℕ)
credential_of [] name = None
credential_of (user ∷ later) name = if pointwise nat_eq user.name name
    then Some user.credential else credential_of later name
