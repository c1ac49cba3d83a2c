-- The steps of `gen`, put together from what its calls did.
use Rattle.std.proofs.Common.{◌≡◌, ℕ, Bool, true, false, List, [], None, Result, Ok, Err, refl, sym, subst}
use Rattle.std.specs.Prelude.{IfOk, IsSome, MatchBool, OnOk}
use Rattle.sed_outside.specs.Files.{WritesFile}
use Rattle.sed_outside.specs.declared.files.Files.{Ghosts as FileGhosts}
use Rattle.sed_typed.specs.declared.program.Program.{Program}
use Rattle.dasp_session.specs.declared.user.User.{User}
use Rattle.dasp_session.specs.UsersFile.{AreUsers, credential_of}
use Rattle.sed_outside.specs.Steps.{Read, AndThen, Decides, stops, goes_on, UnlessFree}
use Rattle.sed_outside.specs.Reads.{HasReads}
use Rattle.sed_outside.proofs.Joining.{no_reads, same_reads}
use Rattle.input_files.specs.Inputs.{UsersRead}
use Rattle.input_files.specs.declared.refusal.InputRefusal.{InputRefusal}
use Rattle.sedona_cli.specs.declared.generating.RecordInputs.{RecordInputs}
use Rattle.sedona_cli.specs.declared.refusal.Refusal.{Refusal}
use Rattle.sedona_cli.specs.declared.refusal.Refusal.TheVariants.{Memory}
use Rattle.sedona_words.specs.Command.{Gen, RecordAsked}
use Rattle.sedona_cli.specs.Gen.{IsAmong, IsRecordFrom, LeavesRecord, RecordInputsRead, UsersWith}
use Rattle.sedona_cli.specs.Outside.{Ask, of_reads}
use Rattle.sedona_cli.specs.Program.{ComesOrWants, OrWants}
use Rattle.sedona_cli.specs.Refusals.{is_want}
use Rattle.sedona_cli.specs.Steps.{AfterKits, AfterSecret, AfterUsers, FileWritten}
use Rattle.sedona_cli.specs.Writing.{HasOutput, HasWrite}
use Rattle.sedona_cli.proofs.ReplaySteps.{reads_end, reads_go, reads_stop}
use Rattle.sedona_cli.proofs.WriteSteps.{unread_output, wanted_output, written_output}

-- ---- the users

always : (b : Bool) (P : Type 0) → P → MatchBool b (Unit {0}) P
always true P p = tt
always false P p = p

decided : {X : Type 0} (Holds : Result X Refusal → Type 0) (end : Result X Refusal) → Holds end → UnlessFree is_want (Decides {A = Ask} Holds []) end
decided Holds (Ok x) held = record { none = refl; holds = held }
decided Holds (Err r) held = always (is_want r) _ (record { none = refl; holds = held })

pub users_found : {T : Type 0} (F : FileGhosts T) (a b : T) (file user : List ℕ) (r : Result (List User) Refusal) (us : List User) (end : Result (List User) Refusal) → r ≡ Ok us
    → HasReads F a b (λ reads. UnlessFree is_want (AfterUsers file (of_reads reads)) r) → IsAmong user us end → HasReads F a b (λ reads. UnlessFree is_want (UsersWith file user (of_reads reads)) end)
users_found F a b file user r us end is has held =
    reads_go F a b b (AfterUsers file) (λ (u : List User). Decides (IsAmong user u)) r us end is has
    (no_reads F b (λ reads. UnlessFree is_want (Decides (IsAmong user us) (of_reads reads)) end) (decided (IsAmong user us) end held))

pub users_refused : {T : Type 0} (F : FileGhosts T) (a b : T) (file user : List ℕ) (r : Result (List User) Refusal) (refusal : Refusal) → r ≡ Err refusal
    → HasReads F a b (λ reads. UnlessFree is_want (AfterUsers file (of_reads reads)) r) → HasReads F a b (λ reads. UnlessFree is_want (UsersWith file user (of_reads reads)) (Err refusal))
users_refused F a b file user r refusal is has = reads_stop F a b (AfterUsers file) (λ (u : List User). Decides (IsAmong user u)) r refusal is has

no_users : (us : List User) (e : InputRefusal) → ◌≡◌ {A = Result (List User) InputRefusal} (Ok us) (Err e) → ⊥
no_users us e same = cc

are_read : (file : List ℕ) (reads : List Read) (us : List User) → UsersRead file reads (Ok us) → AreUsers us
unfolding UsersRead
are_read file reads us (stops r h e) = absurd (no_users us r e)
are_read file reads us (goes_on f b text parts h n) = n.holds.are

pub users_are : {T : Type 0} (F : FileGhosts T) (a b : T) (file user : List ℕ) (r : Result (List User) Refusal) (us : List User) (end : Result (List User) Refusal) → r ≡ Ok us
    → HasReads F a b (λ reads. UnlessFree is_want (AfterUsers file (of_reads reads)) r) → IsAmong user us end → IfOk end AreUsers
users_are F a b file user r us (Err e) is has held = tt
users_are F a b file user r us (Ok found) is has held =
    let read = subst (λ (e : Result (List User) Refusal). UnlessFree is_want (AfterUsers file (of_reads has.reads)) e) is has.holds in
    subst (λ (l : List User). AreUsers l) (sym held.0) (are_read file read.0 us read.2)

pub user_is : (user : List ℕ) (us : List User) (end : Result (List User) Refusal) → IsAmong user us end → IfOk end (λ users. IsSome (credential_of users user))
user_is user us (Err e) held = tt
user_is user us (Ok found) held = subst (λ (l : List User). IsSome (credential_of l user)) (sym held.0) held.1

-- ---- all that is read

abbrev OfSecret : Program → List User → List ℕ → List Ask → Result RecordInputs Refusal → Type 0
OfSecret p u s = Decides (λ end. end ≡ Ok (record { program = p; users = u; secret = s }))

abbrev OfUsers : RecordAsked → Program → List User → List Ask → Result RecordInputs Refusal → Type 0
OfUsers g p u = AndThen (AfterSecret g.secret) (OfSecret p u)

abbrev OfKits : RecordAsked → Program → List Ask → Result RecordInputs Refusal → Type 0
OfKits g p = AndThen (UsersWith g.users g.user) (OfUsers g p)

module _ {T : Type 0} (F : FileGhosts T) (g : RecordAsked) (x0 x1 : T) (kits : Result Program Refusal) (read_kits : HasReads F x0 x1 (λ reads. UnlessFree is_want (AfterKits g.kits (of_reads reads)) kits)) where
  pub kits_stop : (r : Refusal) → kits ≡ Err r → HasReads F x0 x1 (λ reads. UnlessFree is_want (RecordInputsRead g (of_reads reads)) (Err r))
  kits_stop r is = reads_stop F x0 x1 (AfterKits g.kits) (OfKits g) kits r is read_kits

  module _ (p : Program) (is_kits : kits ≡ Ok p) (x2 : T) (users : Result (List User) Refusal) (read_users : HasReads F x1 x2 (λ reads. UnlessFree is_want (UsersWith g.users g.user (of_reads reads)) users)) where
    pub users_stop : (r : Refusal) → users ≡ Err r → HasReads F x0 x2 (λ reads. UnlessFree is_want (RecordInputsRead g (of_reads reads)) (Err r))
    users_stop r is =
        reads_go F x0 x1 x2 (AfterKits g.kits) (OfKits g) kits p (Err r) is_kits read_kits
        (reads_stop F x1 x2 (UsersWith g.users g.user) (OfUsers g p) users r is read_users)

    module _ (u : List User) (is_users : users ≡ Ok u) (x3 : T) (secret : Result (List ℕ) Refusal) (read_secret : HasReads F x2 x3 (λ reads. UnlessFree is_want (AfterSecret g.secret (of_reads reads)) secret)) where
      pub secret_stops : (r : Refusal) → secret ≡ Err r → HasReads F x0 x3 (λ reads. UnlessFree is_want (RecordInputsRead g (of_reads reads)) (Err r))
      secret_stops r is =
          reads_go F x0 x1 x3 (AfterKits g.kits) (OfKits g) kits p (Err r) is_kits read_kits
          (reads_go F x1 x2 x3 (UsersWith g.users g.user) (OfUsers g p) users u (Err r) is_users read_users
          (reads_stop F x2 x3 (AfterSecret g.secret) (OfSecret p u) secret r is read_secret))

      pub all_given : (s : List ℕ) → secret ≡ Ok s → HasReads F x0 x3 (λ reads. UnlessFree is_want (RecordInputsRead g (of_reads reads)) (Ok (record { program = p; users = u; secret = s })))
      all_given s is =
          reads_go F x0 x1 x3 (AfterKits g.kits) (OfKits g) kits p (Ok given) is_kits read_kits
          (reads_go F x1 x2 x3 (UsersWith g.users g.user) (OfUsers g p) users u (Ok given) is_users read_users
          (reads_go F x2 x3 x3 (AfterSecret g.secret) (OfSecret p u) secret s (Ok given) is read_secret (reads_end F x3 given)))
        where
          given : RecordInputs
          given = record { program = p; users = u; secret = s }

-- ---- all of it

-- it is refused as its files are read
pub gen_refused : {T : Type 0} (F : FileGhosts T) (a b : T) (g : RecordAsked) (r : Result RecordInputs Refusal) (refusal : Refusal) → r ≡ Err refusal
    → HasReads F a b (λ reads. UnlessFree is_want (RecordInputsRead g (of_reads reads)) r) → HasOutput F g.out a b (λ asks. ComesOrWants (Gen g) asks (Err refusal))
gen_refused F a b g = unread_output F a b g.out (IsRecordFrom g) (RecordInputsRead g)

-- memory is wanted behind that
pub gen_wanted : {T : Type 0} (F : FileGhosts T) (a b : T) (g : RecordAsked) (P : List Read → Type 0) (refusal : Refusal) → refusal ≡ Memory → HasReads F a b P
    → HasOutput F g.out a b (λ asks. ComesOrWants (Gen g) asks (Err refusal))
gen_wanted F a b g = wanted_output F a b g.out (IsRecordFrom g) (RecordInputsRead g)

-- the record is written, or the write fails
pub gen_written : {T : Type 0} (F : FileGhosts T) (a b c : T) (g : RecordAsked) (r : Result RecordInputs Refusal) (i : RecordInputs) (bytes : List ℕ) (end : Result (List ℕ) Refusal) → r ≡ Ok i
    → HasReads F a b (λ reads. UnlessFree is_want (RecordInputsRead g (of_reads reads)) r) → IsRecordFrom g i bytes → HasWrite F g.out b c (λ asks. OrWants None (FileWritten g.out bytes) asks end)
    → HasOutput F g.out a c (λ asks. ComesOrWants (Gen g) asks end)
gen_written F a b c g = written_output F a b c g.out (IsRecordFrom g) (RecordInputsRead g)

pub gen_leaves : {T : Type 0} (F : FileGhosts T) (a b c : T) (g : RecordAsked) (r : Result RecordInputs Refusal) (i : RecordInputs) (bytes : List ℕ) (end : Result (List ℕ) Refusal) → r ≡ Ok i
    → HasReads F a b (λ reads. UnlessFree is_want (RecordInputsRead g (of_reads reads)) r) → IsRecordFrom g i bytes → OnOk end (WritesFile (F.known c) g.out bytes) → OnOk end (LeavesRecord F g a c)
gen_leaves F a b c g r i bytes (Err e) is has made put = tt
gen_leaves F a b c g r i bytes (Ok text) is has made put = (
  b,
  same_reads F a b (λ reads. UnlessFree is_want (RecordInputsRead g (of_reads reads)) r) _
      (λ reads held. (i, subst (λ (e : Result RecordInputs Refusal). UnlessFree is_want (RecordInputsRead g (of_reads reads)) e) is held, (bytes, made, put))) has,
)
