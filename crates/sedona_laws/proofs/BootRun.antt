-- `boot` of the image of kits, as `run` over the kits.
use Rattle.std.proofs.Common.{◌≡◌, ◌⊎◌, ℕ, List, [], ◌∷◌, ◌++◌, Option, Some, None, Result, Ok, Err, refl, sym, ap, subst, ◌∙◌, inl, inr, arith}
use Rattle.std.specs.Prelude.{Contains, IfSome, IsSomeAnd}
use Rattle.sed_engine.specs.Code.{Meaning as Code}
use Rattle.sed_engine.specs.Program.{meaning_of}
use Rattle.sed_typed.specs.declared.program.Program.{Program}
use Rattle.sed_outside.specs.Cause.{Rose}
use Rattle.sed_outside.specs.Files.{Contents}
use Rattle.sed_outside.specs.Reads.{AreGiven, HasReads, failed_names}
use Rattle.sed_outside.specs.Steps.{Read, AndThen}
use Rattle.sed_outside.proofs.Joining.{same_reads}
use Rattle.sed_outside.specs.declared.files.Files.{Ghosts as FileGhosts}
use Rattle.sed_outside.specs.declared.clock.Clock.{Ghosts as ClockGhosts}
use Rattle.sed_outside.specs.declared.link.Link.{Ghosts as LinkGhosts}
use Rattle.sed_outside.specs.declared.sink.Sink.{Ghosts as SinkGhosts}
use Rattle.disk_model.specs.declared.disk.Disk.{Ghosts as DiskGhosts}
use Rattle.scode_image.specs.Grammar.{IsImage}
use Rattle.scode_code.specs.Image as made
use Rattle.scode_compile.specs.Compiled.{IsImageOf}
use Rattle.sedona_words.specs.Command.{CodeAsked, OfImage, Run, RunAsked}
use Rattle.sedona_cli.specs.declared.refusal.Refusal.{Refusal}
use Rattle.sedona_cli.specs.declared.refusal.Refusal.TheVariants.{FileFault}
use Rattle.sedona_cli.specs.Compile.{LeavesImage}
use Rattle.sedona_cli.specs.Does.{Does}
use Rattle.sedona_cli.specs.Given.{Given}
use Rattle.sedona_cli.specs.Lines.{line_of}
use Rattle.sedona_cli.specs.Outside.{Ask, Reads, reads_in, of_reads, AreAsked, HasAsks}
use Rattle.sedona_cli.specs.Program.{IsAnswer, done, unput, stopped, refused, wanted}
use Rattle.sedona_cli.specs.Puts.{Puts}
use Rattle.sedona_cli.specs.Run.{RanBy, RunComes, RunInputsRead, RunsKept}
use Rattle.sedona_cli.specs.Steps.{AfterCode, KitsGenerated}
use Rattle.sedona_cli.specs.World.{World}
use Rattle.sedona_cli.proofs.Asking.{reads_of_reads}
use Rattle.sedona_cli.proofs.Ends.{ok_err, one_refusal}
use Rattle.sedona_cli.proofs.ReplayAsked.{of_both}
use Rattle.sedona_cli.proofs.StoreAsked.{of_refusal}
use Rattle.sedona_laws.specs.Booting.{IsUnread, ReadsKits, RunsProgram, SameFile, over_kits}
use Rattle.sedona_laws.proofs.ImageRead.{ImageLaws, ImageRow, broken, came, unread, holds_still, image_row, never_refused, reading, same_text}
use Rattle.sedona_laws.proofs.Joined.{first_apart}
use Rattle.sedona_laws.proofs.NotSix.{rest_not_six}
use Rattle.sedona_laws.proofs.OverKits.{RestComes, RestOpened, RestRead, asked_over, given_code, has_over, inputs_over, kept_over, live_as, reads_over, run_over}

-- what the rows of `compile` and of the files tell: the text of an image of the program, which the file holds
pub record Held (known : Option Contents) (out : List ℕ) (program : Program) : Type 0 where
  pub bytes : List ℕ
  pub is_image : IsImageOf program bytes
  pub holds : IsSomeAnd known (λ files. files out ≡ Some bytes)

-- the program of the kits that `compile` read, with its image in the file as it is later
pub of_kits : {S : Type 0} (F : FileGhosts S) (out : List ℕ) (names : List (List ℕ)) (x y z : S) (Holds : List Read → Program → Type 0) → LeavesImage F out names x y → SameFile F out y z
    → ((kit_reads : List Read) (program : Program) → KitsGenerated names kit_reads (Ok program) → Held (F.known z) out program → Holds kit_reads program) → ReadsKits F names x Holds
of_kits F out names x y z Holds left same map = (
  left.0,
  same_reads F x left.0 _ _ (λ reads made_of. (
    made_of.0,
    made_of.1,
    map reads made_of.0 made_of.1 (record {
      bytes = made_of.2.0;
      is_image = made_of.2.1;
      holds = holds_still (F.known y) (F.known z) out made_of.2.0 same made_of.2.2;
    }),
  )) left.1,
)

-- The image could not be read; or its text was, and behind it goes on what the program means.
data BootRow {X : Type 0} (out bytes : List ℕ) (program : Program) (next : Code → List Ask → Result X Refusal → Type 0) (asks : List Ask) (end : Result X Refusal) : Type 0 where
  is_unread : asks ≡ Reads (reading out None) ∷ [] → end ≡ Err (FileFault out) → BootRow out bytes program next asks end
  goes : (text : List ℕ) (rest : List Ask) → asks ≡ Reads (reading out (Some text)) ∷ rest → bytes ≡ text → next (meaning_of program) rest end → BootRow out bytes program next asks end

module _ (laws : ImageLaws) (known : Option Contents) (out : List ℕ) (program : Program) (held : Held known out program) where
  -- what was read of the image
  its_text : (text : List ℕ) (rest : List Read) → AreGiven known (reading out (Some text) ∷ rest) → held.bytes ≡ text
  its_text text rest given = same_text known out held.bytes text held.holds given.0.told

  its_image : (text : List ℕ) (rest : List Read) → AreGiven known (reading out (Some text) ∷ rest) → IsImageOf program text
  its_image text rest given = subst (λ (t : List ℕ). IsImageOf program t) (its_text text rest given) held.is_image

  by_row : {X : Type 0} (next : Code → List Ask → Result X Refusal → Type 0) (asks : List Ask) (end : Result X Refusal) → AreGiven known (reads_in asks) → ImageRow out next asks end → BootRow out held.bytes program next asks end
  by_row next asks end given (unread one ends) = is_unread one ends
  by_row next asks end given (broken text why one holds ends) =
      let these : AreGiven known (reading out (Some text) ∷ []) = subst (λ (l : List Ask). AreGiven known (reads_in l)) one given in
      absurd (never_refused laws program text why (its_image text [] these) holds)
  by_row next asks end given (came text image rest one is_image n) =
      let these : AreGiven known (reading out (Some text) ∷ reads_in rest) = subst (λ (l : List Ask). AreGiven known (reads_in l)) one given in
      let means : made.meaning_of image ≡ meaning_of program = (laws.read_back program text image (its_image text (reads_in rest) these) is_image).1 in
      goes text rest one (its_text text (reads_in rest) these) (subst (λ (c : Code). next c rest end) means n)

  module _ (asked : RunAsked) (is : asked.node.code ≡ OfImage out) where
    inputs_row : (asks : List Ask) (given : Given) → AreGiven known (reads_in asks) → RunInputsRead asked.node asks (Ok given) → BootRow out held.bytes program (RestRead asked.node) asks (Ok given)
    inputs_row asks given reads read =
        by_row (RestRead asked.node) asks (Ok given) reads
        (image_row out (RestRead asked.node) asks (Ok given) (subst (λ (code : CodeAsked). AndThen (AfterCode code) (RestRead asked.node) asks (Ok given)) is read))

    comes_row : (asks : List Ask) (end : Result (List ℕ) Refusal) → AreGiven known (reads_in asks) → RunComes asked asks end → BootRow out held.bytes program (RestComes asked) asks end
    comes_row asks end reads comes =
        let apart : AndThen (AfterCode asked.node.code) (RestComes asked) asks end = first_apart (AfterCode asked.node.code) (RestRead asked.node) (RestOpened asked) asks end comes in
        by_row (RestComes asked) asks end reads (image_row out (RestComes asked) asks end (subst (λ (code : CodeAsked). AndThen (AfterCode code) (RestComes asked) asks end) is apart))

-- ---- reads alone

-- what stands behind the first of reads
record Parted (reads : List Read) (one : Read) (rest : List Ask) : Type 0 where
  others : List Read
  reads_are : reads ≡ one ∷ others
  rest_is : rest ≡ of_reads others

parted : (reads : List Read) (one : Read) (rest : List Ask) → of_reads reads ≡ Reads one ∷ rest → Parted reads one rest
parted [] one rest is = absurd (none rest is)
  where
    none : (rest : List Ask) → [] ≡ Reads one ∷ rest → ⊥
    none rest same = cc
parted (read ∷ reads) one rest is = record {
  others = reads;
  reads_are = ap (λ (r : Read). r ∷ reads) (same_read read one (of_reads reads) rest is);
  rest_is = sym (same_rest (Reads read) (Reads one) (of_reads reads) rest is);
}
  where
    same_read : (a b : Read) (xs ys : List Ask) → Reads a ∷ xs ≡ Reads b ∷ ys → a ≡ b
    same_read a b xs ys same = cc

    same_rest : (a b : Ask) (xs ys : List Ask) → a ∷ xs ≡ b ∷ ys → xs ≡ ys
    same_rest a b xs ys same = cc

-- ---- a run of the program

module _ {S U V T W : Type 0} (F : FileGhosts S) (L : LinkGhosts U) (C : ClockGhosts V) (D : DiskGhosts T) (O : SinkGhosts W) (laws : ImageLaws) (out : List ℕ) (names : List (List ℕ)) (kit_reads : List Read) (program : Program) (made_of : KitsGenerated names kit_reads (Ok program))
    (asked : RunAsked) (is : asked.node.code ≡ OfImage out) (old new : World S U V T W) (status : ℕ) (held : Held (F.known old.files) out program) where
  abbrev Kept : Given → Type 0
  Kept given = RunsKept D L C asked given (O.text old.sink) (O.text new.sink) status old.link new.link old.clock new.clock old.disk new.disk

  abbrev Runs : List Read → Type 0
  Runs reads = RunsProgram L C D O out names asked kit_reads program reads old.sink new.sink status old.link new.link old.clock new.clock old.disk new.disk

  runs_by : (reads : List Read) (given : Given) → RunInputsRead asked.node (of_reads reads) (Ok given) → Kept given → AreGiven (F.known old.files) reads → BootRow out held.bytes program (RestRead asked.node) (of_reads reads) (Ok given) → Runs reads
  runs_by reads given read kept texts (is_unread one ends) = absurd (ok_err given (FileFault out) ends)
  runs_by reads given read kept texts (goes text rest one same n) =
      let by : Parted reads (reading out (Some text)) rest = parted reads (reading out (Some text)) rest one in
      let inputs : RunInputsRead (over_kits names asked).node (of_reads kit_reads ++ rest) (Ok given) = inputs_over names asked kit_reads program rest given made_of n in
      record {
        text = text;
        is_image = subst (λ (t : List ℕ). IsImageOf program t) same held.is_image;
        others = by.others;
        reads_are = by.reads_are;
        given = given;
        code = given_code asked.node (meaning_of program) rest given n;
        booted = read;
        as_run = subst (λ (l : List Ask). RunInputsRead (over_kits names asked).node l (Ok given))
            (ap (λ (l : List Ask). of_reads kit_reads ++ l) by.rest_is ∙ sym (of_both kit_reads by.others)) inputs;
        runs = kept_over names asked D L C (O.text old.sink) (O.text new.sink) status old.link new.link old.clock new.clock given old.disk new.disk kept;
      }

  -- by what `run` and `boot` leave
  runs_of : (has : RanBy F D L C asked old.files new.files old.link new.link old.clock new.clock old.disk new.disk (O.text old.sink) (O.text new.sink) status) → Runs has.reads
  runs_of has =
      runs_by has.reads has.holds.0 has.holds.1 has.holds.2 has.given
      (inputs_row laws (F.known old.files) out program held asked is (of_reads has.reads) has.holds.0
      (subst (λ (l : List Read). AreGiven (F.known old.files) l) (sym (reads_of_reads has.reads)) has.given) has.holds.1)

  pub boots : RanBy F D L C asked old.files new.files old.link new.link old.clock new.clock old.disk new.disk (O.text old.sink) (O.text new.sink) status → HasReads F old.files new.files Runs
  boots has = record {
    reads = has.reads;
    given = has.given;
    counts = has.counts;
    holds = runs_of has;
    files = has.files;
    writes = has.writes;
  }

  -- ---- not refused

  six_not : (asks : List Ask) (r : Refusal) → of_refusal r ≡ 6 → BootRow out held.bytes program (RestComes asked) asks (Err r) → ⊥
  six_not asks r six (is_unread one ends) = (let three : 3 ≡ 6 = sym (ap of_refusal (one_refusal {X = List ℕ} r (FileFault out) ends)) ∙ six in omega (arith, three))
  six_not asks r six (goes text rest one same n) = rest_not_six asked (meaning_of program) rest r n six

  never_six : (asks : List Ask) (before after : Option (List ℕ)) (fb fa : ℕ) → AreGiven (F.known old.files) (reads_in asks) → status ≡ 6 → IsAnswer (Run asked) asks before after fb fa status → ⊥
  never_six asks before after fb fa given six (done text row nought put same) = omega (arith, nought, six)
  never_six asks before after fb fa given six (unput text row at_once eight rose front) = omega (arith, eight, six)
  never_six asks before after fb fa given six (stopped put last until eight rose front) = until
  never_six asks before after fb fa given six (wanted spared seven puts) = omega (arith, seven, six)
  never_six asks before after fb fa given six (refused refusal row number puts) =
      six_not asks refusal (sym number ∙ six) (comes_row laws (F.known old.files) out program held asked is asks (Err refusal) given row)

  pub not_refused : Does F L C D O (Run asked) old new status → status ≡ 6 → ⊥
  not_refused does six =
      let has = does.answered in
      never_six has.holds.0 (O.text old.sink) (O.text new.sink) (O.faults old.sink) (O.faults new.sink)
      (subst (λ (l : List Read). AreGiven (F.known old.files) l) (sym has.holds.1) has.given) six has.holds.3

  -- ---- as `run` over the kits

  module _ (none_failed : failed_names kit_reads ≡ []) (kits_given : AreGiven (F.known old.files) kit_reads) where
    abbrev Answer : List Ask → Type 0
    Answer asks = IsAnswer (Run (over_kits names asked)) asks (O.text old.sink) (O.text new.sink) (O.faults old.sink) (O.faults new.sink) status

    abbrev Asks : List Read → Type 0
    Asks reads = (asks : List Ask) × (reads_in asks ≡ reads) × AreAsked D asks old.disk new.disk × Answer asks

    -- what was asked, with the kits in the place of the image
    asks_over : (P : List Read → Type 0) (has : HasReads F old.files new.files P) (asks rest : List Ask) (text : List ℕ) → reads_in asks ≡ has.reads → AreAsked D asks old.disk new.disk
        → asks ≡ Reads (reading out (Some text)) ∷ rest → Answer (of_reads kit_reads ++ rest) → HasReads F old.files new.files Asks
    asks_over P has asks rest text reads asked_so one answer =
        has_over F old.files new.files out text kit_reads (reads_in rest) P Asks has (sym reads ∙ ap reads_in one) kits_given none_failed (
          of_reads kit_reads ++ rest,
          reads_over kit_reads rest,
          asked_over D (reading out (Some text)) kit_reads asks rest old.disk new.disk one asked_so,
          answer,
        )

    -- what was left, too
    ran_over : RanBy F D L C asked old.files new.files old.link new.link old.clock new.clock old.disk new.disk (O.text old.sink) (O.text new.sink) status
        → RanBy F D L C (over_kits names asked) old.files new.files old.link new.link old.clock new.clock old.disk new.disk (O.text old.sink) (O.text new.sink) status
    ran_over has =
        let ran : Runs has.reads = runs_of has in
        has_over F old.files new.files out ran.text kit_reads ran.others _ _ has ran.reads_are kits_given none_failed (ran.given, ran.as_run, ran.runs)

    does_over : Does F L C D O (Run asked) old new status → HasReads F old.files new.files Asks → Does F L C D O (Run (over_kits names asked)) old new status
    does_over does answered = record {
      answered = answered;
      leaves = λ at. tt;
      live = live_as L C asked.port status old.link new.link old.clock new.clock _ _ ran_over does.live;
    }

    -- the first read of what failed is that of the image
    rose_there : (P : List Read → Type 0) (has : HasReads F old.files new.files P) → has.reads ≡ reading out None ∷ [] → Rose (F.failed_reads old.files out) (F.failed_reads new.files out)
    rose_there P has are = has.counts.rose out (subst (λ (l : List Read). Contains (failed_names l) out) (sym are) (0, omega arith, refl))

    abbrev Ends : Type 0
    Ends = IsUnread F O out old.files new.files old.sink new.sink status ⊎ Does F L C D O (Run (over_kits names asked)) old new status

    module _ (does : Does F L C D O (Run asked) old new status) where
      by_done : (text : List ℕ) → BootRow out held.bytes program (RestComes asked) does.answered.holds.0 (Ok text) → ((rest : List Ask) → RunComes (over_kits names asked) (of_reads kit_reads ++ rest) (Ok text) → Answer (of_reads kit_reads ++ rest)) → Ends
      by_done text (is_unread one ends) so = absurd (ok_err text (FileFault out) ends)
      by_done text (goes image rest one same n) so =
          let has = does.answered in
          inr (does_over does (asks_over _ has has.holds.0 rest image has.holds.1 has.holds.2 one (so rest (run_over names asked kit_reads program rest (Ok text) made_of n))))

      by_refused : (r : Refusal) → status ≡ of_refusal r → Puts (O.text old.sink) (O.text new.sink) (O.faults old.sink) (O.faults new.sink) (line_of r) → BootRow out held.bytes program (RestComes asked) does.answered.holds.0 (Err r) → Ends
      by_refused r number puts (is_unread one ends) =
          let has = does.answered in
          let fault : r ≡ FileFault out = one_refusal {X = List ℕ} r (FileFault out) ends in
          inl (record {
            number = number ∙ ap of_refusal fault;
            rose = rose_there _ has (sym has.holds.1 ∙ ap reads_in one);
            line = subst (λ (x : Refusal). Puts (O.text old.sink) (O.text new.sink) (O.faults old.sink) (O.faults new.sink) (line_of x)) fault puts;
          })
      by_refused r number puts (goes image rest one same n) =
          let has = does.answered in
          inr (does_over does (asks_over _ has has.holds.0 rest image has.holds.1 has.holds.2 one (refused r (run_over names asked kit_reads program rest (Err r) made_of n) number puts)))

      row : (end : Result (List ℕ) Refusal) → RunComes asked does.answered.holds.0 end → BootRow out held.bytes program (RestComes asked) does.answered.holds.0 end
      row end comes =
          comes_row laws (F.known old.files) out program held asked is does.answered.holds.0 end
          (subst (λ (l : List Read). AreGiven (F.known old.files) l) (sym does.answered.holds.1) does.answered.given) comes

      by_answer : IsAnswer (Run asked) does.answered.holds.0 (O.text old.sink) (O.text new.sink) (O.faults old.sink) (O.faults new.sink) status → Ends
      by_answer (done text comes nought put same) = by_done text (row (Ok text) comes) (λ rest over. done text over nought put same)
      by_answer (unput text comes at_once eight rose front) = by_done text (row (Ok text) comes) (λ rest over. unput text over at_once eight rose front)
      by_answer (stopped put last until eight rose front) = absurd until
      by_answer (refused r comes number puts) = by_refused r number puts (row (Err r) comes)
      by_answer (wanted spared seven puts) =
          let has = does.answered in
          inr (does_over does (record {
            reads = has.reads;
            given = has.given;
            counts = has.counts;
            holds = (has.holds.0, has.holds.1, has.holds.2, wanted spared seven puts);
            files = has.files;
            writes = has.writes;
          }))

      pub ends_as_run : Ends
      ends_as_run = by_answer does.answered.holds.3
