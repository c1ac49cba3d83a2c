-- What is read of an input file is one, and which reads failed.
use Rattle.std.proofs.Common.{◌≡◌, ℕ, List, [], Result, Ok, Err, Some, inl, inr, refl, sym, ap, subst, ◌∙◌, arith}
use Rattle.std.specs.Prelude.{◌↔◌}
use Rattle.sed_outside.specs.Steps.{Read, Decides}
use Rattle.sed_outside.specs.Reads.{TextOf, failed_names}
use Rattle.sed_outside.proofs.One.{IsOne, one_then, one_decides, one_text}
use Rattle.sed_outside.proofs.Failing.{end_names, Fails, fails_then, fails_decides, fails_text}
use Rattle.dasp_session.specs.declared.user.User.{User}
use Rattle.dasp_session.specs.UsersFile.{IsUsersFile}
use Rattle.replay_log.specs.Entry.{Entry}
use Rattle.replay_log.specs.Record.{IsRecord, IsRefusedAt}
use Rattle.scode_image.specs.declared.image.Image.{Image}
use Rattle.scode_image.specs.Grammar.{FaultsAt, IsImage}
use Rattle.scode_code.specs.Breaks.{IsFirstBroken}
use Rattle.scode_code.specs.Faults.{Broken, first_broken}
use Rattle.input_files.specs.declared.refusal.InputRefusal.{InputRefusal}
use Rattle.input_files.specs.declared.refusal.InputRefusal.TheVariants.{FileFault, BadRecord, BadImage, BrokenRule}
use Rattle.input_files.specs.Refusals.{failed_of, failed_in}
use Rattle.input_files.specs.Inputs.{InputRead, AreUsersOf, IsSecretOf, IsRecordOf, IsChecked, IsCodeOf, IsNoImage, IsOfImage}

-- ---- what a text decides is one

pub users_one : ((users others : List User) (text : List ℕ) → IsUsersFile users text → IsUsersFile others text → users ≡ others)
    → (text : List ℕ) (end other : Result (List User) InputRefusal) → AreUsersOf text end → AreUsersOf text other → end ≡ other
users_one one text (Ok users) (Ok others) h k = ap Ok (one users others text h k)
users_one one text (Ok users) (Err refusal) h k = absurd (k.1 users h)
users_one one text (Err refusal) (Ok users) h k = absurd (h.1 users k)
users_one one text (Err refusal) (Err other) h k = ap Err (h.0 ∙ sym k.0)

pub secret_one : (text : List ℕ) (end other : Result (List ℕ) InputRefusal) → IsSecretOf text end → IsSecretOf text other → end ≡ other
secret_one text (Ok secret) (Ok other) h k = ap Ok (h.1 ∙ sym k.1)
secret_one text (Ok secret) (Err refusal) h k = absurd (omega (arith, h.0, k.1))
secret_one text (Err refusal) (Ok secret) h k = absurd (omega (arith, h.1, k.0))
secret_one text (Err refusal) (Err other) h k = ap Err (h.0 ∙ sym k.0)

-- what the laws of records give
pub record Refusing : Type 0 where
  pub place : (bytes : List ℕ) (place other : ℕ) → IsRefusedAt bytes place → IsRefusedAt bytes other → place ≡ other
  pub apart : (bytes : List ℕ) (entries : List Entry) (place : ℕ) → IsRecord bytes entries → IsRefusedAt bytes place → ⊥

pub record_one : Refusing → (text : List ℕ) (end other : Result (List ℕ) InputRefusal) → IsRecordOf text end → IsRecordOf text other → end ≡ other
record_one law text (Ok bytes) (Ok other) h k = ap Ok (h.0 ∙ sym k.0)
record_one law text (Ok bytes) (Err refusal) (is, (entries, holds)) (at, told, refused) = absurd (law.apart text entries at holds refused)
record_one law text (Err refusal) (Ok bytes) (at, told, refused) (is, (entries, holds)) = absurd (law.apart text entries at holds refused)
record_one law text (Err refusal) (Err other) (at, told, refused) (there, also, refuses) =
    ap Err (told ∙ ap BadRecord (law.place text at there refused refuses) ∙ sym also)

-- what the laws of images and of the rules give
pub record Imaging : Type 0 where
  pub image : (bytes : List ℕ) (a b : Image) → IsImage bytes a → IsImage bytes b → a ≡ b
  pub apart : (bytes : List ℕ) (image : Image) (at : ℕ) → IsImage bytes image → FaultsAt bytes at → ⊥
  pub place : (bytes : List ℕ) (a b : ℕ) → FaultsAt bytes a → FaultsAt bytes b → a ≡ b
  pub first : (image : Image) (b : Broken) → (first_broken image ≡ Some b) ↔ IsFirstBroken image b

same_broken : (a b : Broken) → Some a ≡ Some b → a ≡ b
same_broken a b same = cc

checked_one : Imaging → (image : Image) (end other : Result Image InputRefusal) → IsChecked image end → IsChecked image other → end ≡ other
checked_one law image (Ok code) (Ok other) h k = ap Ok (h.0 ∙ sym k.0)
checked_one law image (Ok code) (Err refusal) h (broken, first, is) = absurd (h.1 broken.method broken.at broken.rule first.broken)
checked_one law image (Err refusal) (Ok code) (broken, first, is) k = absurd (k.1 broken.method broken.at broken.rule first.broken)
checked_one law image (Err refusal) (Err other) (broken, first, is) (rule, least, are) =
    let same : broken ≡ rule = same_broken broken rule (sym ((law.first image broken).1 first) ∙ (law.first image rule).1 least) in
    ap Err (is ∙ ap (λ (b : Broken). BrokenRule b.method b.at b.rule) same ∙ sym are)

of_image_one : Imaging → (text : List ℕ) (end other : Result Image InputRefusal) → IsOfImage text end → IsOfImage text other → end ≡ other
of_image_one law text end other (image, is, checked) (also, are, holds) =
    checked_one law image end other checked (subst (λ (i : Image). IsChecked i other) (sym (law.image text image also is are)) holds)

of_no_image : Imaging → (text : List ℕ) (refusal : InputRefusal) (end : Result Image InputRefusal) → IsNoImage text refusal → IsOfImage text end → ⊥
of_no_image law text refusal end (at, fault, is) (image, text_is, checked) = law.apart text image at text_is fault

pub code_one : Imaging → (text : List ℕ) (end other : Result Image InputRefusal) → IsCodeOf text end → IsCodeOf text other → end ≡ other
code_one law text (Ok code) (Ok other) h k = of_image_one law text (Ok code) (Ok other) h k
code_one law text (Ok code) (Err refusal) h (inl k) = absurd (of_no_image law text refusal (Ok code) k h)
code_one law text (Ok code) (Err refusal) h (inr k) = of_image_one law text (Ok code) (Err refusal) h k
code_one law text (Err refusal) (Ok code) (inl h) k = absurd (of_no_image law text refusal (Ok code) h k)
code_one law text (Err refusal) (Ok code) (inr h) k = of_image_one law text (Err refusal) (Ok code) h k
code_one law text (Err refusal) (Err other) (inl (at, fault, is)) (inl (there, faults, are)) =
    ap Err (is ∙ ap BadImage (law.place text at there fault faults) ∙ sym are)
code_one law text (Err refusal) (Err other) (inl h) (inr k) = absurd (of_no_image law text refusal (Err other) h k)
code_one law text (Err refusal) (Err other) (inr h) (inl k) = absurd (of_no_image law text other (Err refusal) k h)
code_one law text (Err refusal) (Err other) (inr h) (inr k) = of_image_one law text (Err refusal) (Err other) h k

pub input_one : {X : Type 0} (Holds : List ℕ → Result X InputRefusal → Type 0)
    → ((text : List ℕ) (end other : Result X InputRefusal) → Holds text end → Holds text other → end ≡ other) → (name : List ℕ) → IsOne (InputRead Holds name)
input_one Holds one name =
    one_then (TextOf name (FileFault name)) (λ text. Decides (Holds text)) (one_text name (FileFault name)) (λ text. one_decides (Holds text) (one text))

-- ---- what a text decides is no failed read

pub users_failed : (text : List ℕ) (end : Result (List User) InputRefusal) → AreUsersOf text end → end_names failed_of end ≡ []
users_failed text (Ok users) h = refl
users_failed text (Err refusal) h = ap failed_of h.0

pub secret_failed : (text : List ℕ) (end : Result (List ℕ) InputRefusal) → IsSecretOf text end → end_names failed_of end ≡ []
secret_failed text (Ok secret) h = refl
secret_failed text (Err refusal) h = ap failed_of h.0

pub record_failed : (text : List ℕ) (end : Result (List ℕ) InputRefusal) → IsRecordOf text end → end_names failed_of end ≡ []
record_failed text (Ok bytes) h = refl
record_failed text (Err refusal) (at, told, refused) = ap failed_of told

pub code_failed : (text : List ℕ) (end : Result Image InputRefusal) → IsCodeOf text end → end_names failed_of end ≡ []
code_failed text (Ok code) h = refl
code_failed text (Err refusal) (inl (at, fault, is)) = ap failed_of is
code_failed text (Err refusal) (inr (image, is, (broken, first, told))) = ap failed_of told

same_names : {X : Type 0} (end : Result X InputRefusal) → end_names failed_of end ≡ failed_in end
same_names (Ok value) = refl
same_names (Err refusal) = refl

pub input_failed : {X : Type 0} (Holds : List ℕ → Result X InputRefusal → Type 0)
    → ((text : List ℕ) (end : Result X InputRefusal) → Holds text end → end_names failed_of end ≡ [])
    → (name : List ℕ) (reads : List Read) (end : Result X InputRefusal) → InputRead Holds name reads end → failed_names reads ≡ failed_in end
input_failed {X} Holds none name reads end is = fails reads end is ∙ same_names end where
  fails : Fails failed_of (InputRead Holds name)
  fails =
      fails_then failed_of (TextOf name (FileFault name)) (λ text. Decides (Holds text)) (fails_text failed_of name (FileFault name) refl)
      (λ text. fails_decides failed_of (Holds text) (none text))
