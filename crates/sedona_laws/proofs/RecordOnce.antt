-- `gen` comes to one end, tells the calls that failed, and asks files alone.
use Rattle.std.proofs.Common.{◌≡◌, ℕ, true, false, List, ◌++◌, Option, Some, None, Result, Ok, Err, sym, ap, subst, ◌∙◌}
use Rattle.std.specs.Prelude.{IsSome}
use Rattle.std.specs.List.{list_all}
use Rattle.sed_typed.specs.declared.program.Program.{Program}
use Rattle.dasp_session.specs.declared.user.User.{User}
use Rattle.dasp_session.specs.UsersFile.{credential_of}
use Rattle.sed_outside.specs.Steps.{Decides}
use Rattle.sed_outside.specs.Reads.{failed_names}
use Rattle.input_files.specs.Inputs.{SecretRead, UsersRead}
use Rattle.sed_check.specs.Refusals.{AreAlike}
use Rattle.sedona_cli.specs.declared.generating.RecordInputs.{RecordInputs}
use Rattle.sedona_cli.specs.declared.refusal.Refusal.{Refusal}
use Rattle.sedona_laws.specs.Agree.{failed_by}
use Rattle.sedona_words.specs.Command.{RecordAsked}
use Rattle.sedona_cli.specs.Gen.{GenComes, IsAmong, IsRecordFrom, RecordInputsRead, UsersWith}
use Rattle.sedona_cli.specs.Outside.{Ask, is_of_files, reads_in}
use Rattle.sedona_cli.specs.Refusals.{failed_of, is_of_store, of_inputs}
use Rattle.sedona_cli.specs.Steps.{KitsGenerated}
use Rattle.sedona_laws.specs.Files.{unwritten_in}
use Rattle.sedona_laws.proofs.Alike.{EndsAlike, decides_alike, files_alike, reads_alike, then_alike}
use Rattle.sedona_cli.proofs.Ends.{err_ok}
use Rattle.sedona_laws.proofs.InputsOnce.{HasOneEnd, InputOne, InputTells, LoadTells, LoadsOne, input_one}
use Rattle.sedona_laws.proofs.ReplayEnds.{Tells, files_tell, gives_tells, input_tells, reads_tell, then_tells}
use Rattle.sedona_laws.proofs.WritingOnce.{written_early, written_of_files, written_once, written_tells}
use Rattle.sedona_cli.proofs.Recording.{record_alone}

-- ---- one end

none_some : {X : Type 0} (o : Option X) → o ≡ None → IsSome o → ⊥
none_some None is some = absurd (cc)
none_some (Some x) is some = absurd (cc)

-- the same users have a user or have not
among_alike : (user : List ℕ) (us vs : List User) → us ≡ vs → EndsAlike (Decides (IsAmong user us)) (Decides (IsAmong user vs)) (λ (u v : List User). u ≡ v)
among_alike user us vs same =
    decides_alike (IsAmong user us) (IsAmong user vs) (λ (u v : List User). u ≡ v) (λ r s h k. h.0 ∙ sym k.0)
    (λ r y h k. none_some (credential_of us user) h.1 (subst (λ (l : List User). IsSome (credential_of l user)) (sym same) k.1))
    (λ x s h k. none_some (credential_of us user) (ap (λ (l : List User). credential_of l user) same ∙ k.1) h.1)
    (λ x y h k. h.0 ∙ same ∙ sym k.0)

users_alike : (file user : List ℕ) → InputOne {X = List User} (UsersRead file) → EndsAlike (UsersWith file user) (UsersWith file user) (λ (u v : List User). u ≡ v)
users_alike file user users =
    then_alike _ _ (λ (u v : List User). u ≡ v) _ _ (λ (u v : List User). u ≡ v) (files_alike of_inputs (UsersRead file) (λ (u v : List User). u ≡ v) (input_one (UsersRead file) users))
    (λ (u v : List User) same. among_alike user u v same)

-- of what a record is generated from nothing is asked behind it
abbrev Any : RecordInputs → RecordInputs → Type 0
Any i j = Unit {0}

gives_any : (i j : RecordInputs) → EndsAlike (Decides (λ (end : Result RecordInputs Refusal). end ≡ Ok i)) (Decides (λ (end : Result RecordInputs Refusal). end ≡ Ok j)) Any
gives_any i j =
    decides_alike (λ end. end ≡ Ok i) (λ end. end ≡ Ok j) Any (λ r s h k. absurd (err_ok r i h)) (λ r y h k. err_ok r i h) (λ x s h k. err_ok s j k) (λ x y h k. tt)

inputs_alike : (g : RecordAsked) → LoadsOne (KitsGenerated g.kits) → InputOne {X = List User} (UsersRead g.users) → InputOne {X = List ℕ} (SecretRead g.secret)
    → EndsAlike (RecordInputsRead g) (RecordInputsRead g) Any
inputs_alike g kits users secret =
    then_alike _ _ AreAlike _ _ Any (reads_alike (KitsGenerated g.kits) AreAlike kits)
    (λ (p q : Program) same_kits. then_alike _ _ (λ (u v : List User). u ≡ v) _ _ Any (users_alike g.users g.user users)
    (λ (u v : List User) same_users. then_alike _ _ (λ (s t : List ℕ). s ≡ t) _ _ Any (files_alike of_inputs (SecretRead g.secret) (λ (s t : List ℕ). s ≡ t) (input_one (SecretRead g.secret) secret))
    (λ (s t : List ℕ) same_secret. gives_any _ _)))

pub gen_one_end : (g : RecordAsked) → LoadsOne (KitsGenerated g.kits) → InputOne {X = List User} (UsersRead g.users) → InputOne {X = List ℕ} (SecretRead g.secret) → HasOneEnd (GenComes g)
gen_one_end g kits users secret = written_once g.out (IsRecordFrom g) (RecordInputsRead g) Any (inputs_alike g kits users secret)

pub gen_of_files : (g : RecordAsked) (asks : List Ask) (end : Result (List ℕ) Refusal) → GenComes g asks end → list_all is_of_files asks ≡ true
gen_of_files g = written_of_files g.out (IsRecordFrom g) (RecordInputsRead g) (record_alone g)

pub gen_early : (g : RecordAsked) (asks : List Ask) (r : Refusal) → GenComes g asks (Err r) → is_of_store r ≡ false
gen_early g = written_early g.out (IsRecordFrom g) (RecordInputsRead g) (record_alone g)

-- ---- the calls that failed

users_tell : (file user : List ℕ) → InputTells {X = List User} (UsersRead file) → Tells (UsersWith file user)
users_tell file user users =
    then_tells _ _ (files_tell of_inputs (UsersRead file) (input_tells (UsersRead file) users))
    (λ (us : List User). among_tells us)
  where
    among_tells : (us : List User) → Tells (Decides (IsAmong user us))
    among_tells us asks (Ok vs) h = ap (λ (l : List Ask). failed_names (reads_in l)) h.none
    among_tells us asks (Err r) h = ap (λ (l : List Ask). failed_names (reads_in l)) h.none ∙ sym (ap failed_of h.holds.0)

inputs_tell : (g : RecordAsked) → LoadTells (KitsGenerated g.kits) → InputTells {X = List User} (UsersRead g.users) → InputTells {X = List ℕ} (SecretRead g.secret) → Tells (RecordInputsRead g)
inputs_tell g kits users secret =
    then_tells _ _ (reads_tell (KitsGenerated g.kits) kits)
    (λ (p : Program). then_tells _ _ (users_tell g.users g.user users)
    (λ (u : List User). then_tells _ _ (files_tell of_inputs (SecretRead g.secret) (input_tells (SecretRead g.secret) secret)) (λ (s : List ℕ). gives_tells _)))

pub gen_tells : (g : RecordAsked) → LoadTells (KitsGenerated g.kits) → InputTells {X = List User} (UsersRead g.users) → InputTells {X = List ℕ} (SecretRead g.secret) → (asks : List Ask) (end : Result (List ℕ) Refusal) → GenComes g asks end
    → failed_names (reads_in asks) ++ unwritten_in asks ≡ failed_by end
gen_tells g kits users secret = written_tells g.out (IsRecordFrom g) (RecordInputsRead g) (record_alone g) (inputs_tell g kits users secret)
