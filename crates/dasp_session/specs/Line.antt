-- A user, and its line of a users file.
use Rattle.std.specs.Prelude.{◌≡◌, ℕ, List, [], ◌∷◌, ◌++◌, length, IsTrue}
use Rattle.hex.specs.Hex.{encode_lower, IsBytes}
use Rattle.dasp_msg.specs.UserName.{is_user_name}
use Rattle.dasp_session.specs.declared.user.User.{User}

-- what may be a user
pub record IsUser (user : User) : Type 0 where
  pub name : IsTrue (is_user_name user.name)
  pub credential : length user.credential ≡ 20
  pub bytes : IsBytes user.credential

-- the name, a colon, 40 lower-case hexadecimal digits, and the end of the line
abbrev pub line_of : User → List ℕ
line_of user = user.name ++ 58 ∷ (encode_lower user.credential ++ 10 ∷ [])
