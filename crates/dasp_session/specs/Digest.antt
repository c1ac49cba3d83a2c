-- What a client shows that it knows a user's password by.
use Rattle.std.specs.Prelude.{ℕ, List, ◌∷◌, ◌++◌, take}
use Rattle.std.specs.Int.{w32, to_be_bytes}
use Rattle.sha1.specs.Sha1.{sha1}

-- the first ten bytes of the hash of the node's secret, with the number of sessions made before behind it
abbrev pub nonce_of : List ℕ → ℕ → List ℕ
nonce_of secret made = take 10 (sha1 (secret ++ to_be_bytes w32 made))

-- the hash of a user's name, a colon and its password
abbrev pub credential_made_of : List ℕ → List ℕ → List ℕ
credential_made_of user password = sha1 (user ++ 58 ∷ password)

-- the hash of a user's credential, with the session's nonce behind it
abbrev pub digest_of : List ℕ → List ℕ → List ℕ
digest_of credential nonce = sha1 (credential ++ nonce)
