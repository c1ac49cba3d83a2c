-- What a node is run from beside its store, as what its code means and what its files hold.
use Rattle.std.specs.Prelude.{ℕ, List, Result, Ok, Err}
use Rattle.dasp_session.specs.declared.user.User.{User}
use Rattle.sed_engine.specs.Code.{Meaning}
use Rattle.scode_code.specs.Image.{meaning_of}
use Rattle.sedona_cli.specs.declared.inputs.Inputs.{Inputs}
use Rattle.sedona_cli.specs.declared.inputs.NodeInputs.{NodeInputs}
use Rattle.sedona_cli.specs.declared.refusal.Refusal.{Refusal}

-- what `run` and `boot` are given: a code, users and a secret
pub record Given : Type 0 where
  pub code : Meaning
  pub users : List User
  pub secret : List ℕ

-- what `replay` is given: besides, the bytes of a record
pub record GivenRecord : Type 0 where
  pub code : Meaning
  pub users : List User
  pub secret : List ℕ
  pub text : List ℕ

abbrev pub given_of : NodeInputs → Given
given_of inputs = record { code = meaning_of inputs.code; users = inputs.users; secret = inputs.secret }

abbrev pub given_record : Inputs → GivenRecord
given_record inputs = record {
  code = meaning_of inputs.code;
  users = inputs.users;
  secret = inputs.secret;
  text = inputs.text;
}

-- how a step ended, told of its value by this
abbrev pub ended_as : {X Y : Type 0} → (X → Y) → Result X Refusal → Result Y Refusal
ended_as f (Ok x) = Ok (f x)
ended_as f (Err refusal) = Err refusal
