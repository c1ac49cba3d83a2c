-- What is asked may be generated.
use Rattle.std.proofs.Common.{◌≡◌, ℕ, Bool, true, false, List, [], ◌∷◌, refl, subst, arith}
use Rattle.std.specs.Prelude.{Option, Some, None, IsTrue, All, nat_eq, if◌then◌else◌}
use Rattle.std.specs.Cmp.Lexicographic.{pointwise, bytes_decides}
use Rattle.std.proofs.lemmas.List.Elements.{All-tail}
use Rattle.sed_engine.specs.Code.{Meaning}
use Rattle.sed_engine.specs.Whole.{HasTables}
use Rattle.dasp_session.specs.declared.user.User.{User}
use Rattle.dasp_msg.specs.UserName.{is_user_name}
use Rattle.dasp_session.specs.Line.{IsUser}
use Rattle.dasp_session.specs.UsersFile.{AreUsers, credential_of}
use Rattle.replay_log.specs.declared.asked.GenAsked.{GenAsked}
use Rattle.replay_log.specs.Bounds.{IsAllowed}
use Rattle.replay_log.specs.Generated.{MayGenerate}
use Rattle.record_making.specs.Spec.{spec_with}
use Rattle.record_making.specs.Types.{drawn_types}
use Rattle.record_making.proofs.TypeLemmas.{types_are_few, types_are_some}

-- who is among users has a user's form
known_form : (users : List User) → All IsUser users → (user credential : List ℕ) → credential_of users user ≡ Some credential → IsTrue (is_user_name user)
known_form [] each user credential found = absurd (let no : ◌≡◌ {A = Option (List ℕ)} None (Some credential) = found in cc)
known_form (known ∷ others) each user credential found =
    by (pointwise nat_eq known.name user) refl (known_form others (All-tail IsUser known others each) user credential) found
  where
    first : IsUser known
    first = each 0 known (omega arith)

    by : (b : Bool) → pointwise nat_eq known.name user ≡ b → (credential_of others user ≡ Some credential → IsTrue (is_user_name user))
        → (if b then Some known.credential else credential_of others user) ≡ Some credential → IsTrue (is_user_name user)
    by true same rest found = subst (λ name. IsTrue (is_user_name name)) ((bytes_decides known.name user).0 same) first.name
    by false same rest found = rest found

-- ---- the whole

pub may_generate : (m : Meaning) → HasTables m → (asked : GenAsked) → IsAllowed asked → (users : List User) → AreUsers users
    → (user credential : List ℕ) → credential_of users user ≡ Some credential → (digests : List (List ℕ)) → MayGenerate (spec_with asked user digests (drawn_types m))
may_generate m tables asked allowed users are user credential found digests = record {
  numbers = allowed;
  user = known_form users are.each user credential found;
  typed = types_are_some m tables;
  config = types_are_few m tables;
}
