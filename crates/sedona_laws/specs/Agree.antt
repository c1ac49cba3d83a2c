-- Answers that agree.
use Rattle.std.specs.Prelude.{◌≡◌, ℕ, ℤ, List, [], ◌∷◌, ◌++◌, Option, Some, None, Result, Ok, Err}
use Rattle.sed_outside.specs.Steps.{Agree}
use Rattle.sedona_cli.specs.declared.refusal.Refusal.{Refusal}
use Rattle.sed_outside.specs.Reads.{failed_names}
use Rattle.comp_tree.specs.Application.{Application}
use Rattle.dasp_session.specs.declared.user.User.{User}
use Rattle.node_events.specs.Node.{opened}
use Rattle.sedona_cli.specs.Outside.{Ask, Writes, Attaches, Makes, Opens, Binds, Ran, Runs, Opened, Found, NotAStore}
use Rattle.sedona_cli.specs.Outside.{Unread, Unheld, Wrote, Written, Unwritten, Withheld, reads_in}
use Rattle.sedona_cli.specs.Refusals.{failed_of}
use Rattle.sedona_laws.specs.Files.{unwritten_in}

-- the names of the calls that failed, by how it ends
abbrev pub failed_by : Result (List ℕ) Refusal → List (List ℕ)
failed_by (Ok text) = []
failed_by (Err refusal) = failed_of refusal

-- the names of the calls that failed: of a command that writes no file the reads, and else the writes too
abbrev pub failed_calls : Option (List ℕ) → List Ask → List (List ℕ)
failed_calls None asks = failed_names (reads_in asks)
failed_calls (Some out) asks = failed_names (reads_in asks) ++ unwritten_in asks

-- Two openings end alike; of one for which memory was wanted nothing is said.
abbrev pub OpensAs : Opened → Opened → Type 0
OpensAs (Found payload) other = Found payload ≡ other
OpensAs NotAStore other = NotAStore ≡ other
OpensAs Unread other = Unread ≡ other
OpensAs Unheld other = Unit {0}

-- Two writes of a file end alike; of one for which memory was wanted nothing is said.
abbrev pub WritesAs : Wrote → Wrote → Type 0
WritesAs Written other = Written ≡ other
WritesAs Unwritten other = Unwritten ≡ other
WritesAs Withheld other = Unit {0}

-- Two that are asked the same are answered the same. Reads have an agreement of their own; of a
-- write the name alone counts.
abbrev pub AgreesOn : Ask → Ask → Type 0
AgreesOn (Writes name bytes how) (Writes other more ended) = name ≡ other → WritesAs how ended
AgreesOn (Attaches name done) (Attaches other how) = name ≡ other → done ≡ how
AgreesOn (Makes slot payload how) (Makes other bytes ended) = slot ≡ other → payload ≡ bytes → how ≡ ended
AgreesOn (Opens how) (Opens ended) = OpensAs how ended
AgreesOn (Binds port done) (Binds other how) = port ≡ other → done ≡ how
AgreesOn ask other = Unit {0}

-- as long as the same is asked and answered
abbrev pub Pointwise : List Ask → List Ask → Type 0
Pointwise (ask ∷ asks) (other ∷ others) = AgreesOn ask other × (ask ≡ other → Pointwise asks others)
Pointwise asks others = Unit {0}

-- Two rows answer the same wherever they ask the same at one place: reads each by itself, all else as long as all
-- before was the same.
pub record AgreeOn (asks others : List Ask) : Type 0 where
  pub reads : Agree (reads_in asks) (reads_in others)
  pub rest : Pointwise asks others

-- Two runs begin alike: over one code, with as many turns for each root call, from one application, for the same users
-- and with the same secret. At which moment each begins, and how large the slots of its store are, the outside told.
pub record BeginAlike (ran other : Ran) : Type 0 where
  pub application : Application
  pub users : List User
  pub secret : List ℕ
  pub moment : ℤ
  pub other_moment : ℤ
  pub code : ran.code ≡ other.code
  pub turns : ran.setup.turns ≡ other.setup.turns
  pub start : ran.start ≡ opened ran.code ran.setup application users secret moment
  pub other_start : other.start ≡ opened other.code other.setup application users secret other_moment

-- The same of all that is asked, the runs of nodes too: two that begin alike are one run, with one setup, one moment,
-- and the same entries and events.
abbrev pub AgreesOnAll : Ask → Ask → Type 0
AgreesOnAll (Runs ran) (Runs other) = BeginAlike ran other → ran ≡ other
AgreesOnAll ask other = AgreesOn ask other

abbrev pub PointwiseAll : List Ask → List Ask → Type 0
PointwiseAll (ask ∷ asks) (other ∷ others) = AgreesOnAll ask other × (ask ≡ other → PointwiseAll asks others)
PointwiseAll asks others = Unit {0}

-- Two rows answer the same wherever they ask the same at one place, and run the same wherever they begin a run alike.
pub record AgreeOnAll (asks others : List Ask) : Type 0 where
  pub reads : Agree (reads_in asks) (reads_in others)
  pub rest : PointwiseAll asks others
