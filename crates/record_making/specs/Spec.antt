-- What a record is generated of, for a code.
use Rattle.std.specs.Prelude.{ℕ, List, [], ◌∷◌, Option, IsSomeAnd}
use Rattle.std.specs.Option.{option_map}
use Rattle.sed_engine.specs.Code.{Meaning}
use Rattle.dasp_session.specs.declared.user.User.{User}
use Rattle.dasp_session.specs.Digest.{nonce_of, digest_of}
use Rattle.dasp_session.specs.UsersFile.{credential_of}
use Rattle.replay_log.specs.declared.asked.GenAsked.{GenAsked}
use Rattle.replay_log.specs.declared.gen_spec.GenSpec.{GenSpec}
use Rattle.replay_log.specs.declared.gen_spec.GenType.{GenType}
use Rattle.replay_log.specs.Generated.{IsGenerated}
use Rattle.record_making.specs.Types.{drawn_types}

-- the digest that a node with a secret wants of the user with a credential, in the session before which so many were
-- made
abbrev pub wanted_digest : List ℕ → List ℕ → ℕ → List ℕ
wanted_digest secret credential made = digest_of credential (nonce_of secret made)

-- those of the first and of the second session that the node makes
abbrev pub wanted_digests : List ℕ → List ℕ → List (List ℕ)
wanted_digests secret credential = wanted_digest secret credential 0 ∷ wanted_digest secret credential 1 ∷ []

-- what is asked, with a user, digests and types
abbrev pub spec_with : GenAsked → List ℕ → List (List ℕ) → List GenType → GenSpec
spec_with asked user digests types = record {
  seed = asked.seed;
  components = asked.components;
  links = asked.links;
  ticks = asked.ticks;
  user = user;
  digests = digests;
  types = types;
}

-- what the record is generated of: the types are the code's, and there is none for a user who is not among the users
abbrev pub spec_of : Meaning → List User → List ℕ → List ℕ → GenAsked → Option GenSpec
spec_of m users user secret asked =
    option_map (λ credential. spec_with asked user (wanted_digests secret credential) (drawn_types m))
    (credential_of users user)

-- the bytes are the record that is generated for a code, as a user
abbrev pub IsRecordOf : Meaning → List User → List ℕ → List ℕ → GenAsked → List ℕ → Type 0
IsRecordOf m users user secret asked bytes =
    IsSomeAnd (spec_of m users user secret asked) (λ spec. IsGenerated spec bytes)
