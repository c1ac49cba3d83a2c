-- What a call that attaches a store or makes one asks of the disk.
use Rattle.std.proofs.Common.{◌≡◌, ◌≢◌, ◌+◌, ◌*◌, ◌≤◌, ℕ, true, false, List, [], ◌∷◌, length, Result, Ok, Err, refl, inl, inr}
use Rattle.std.specs.Prelude.{IsTrue, IsErr, IsErrOf, OnOk, OnErr}
use Rattle.sed_outside.specs.Cause.{HasCause}
use Rattle.disk_model.specs.declared.disk.Disk.{Ghosts as DiskGhosts}
use Rattle.disk_model.specs.declared.disk.DiskFault.{DiskFault}
use Rattle.disk_model.specs.Disk.{Meaning, Attaches as IsAttach, Elapses, During, Keeps, MarksUp, SyncsUp}
use Rattle.sed_outside.specs.Counts.{one_more}
use Rattle.app_save.specs.declared.refusal.SaveRefusal.{SaveRefusal}
use Rattle.app_save.specs.declared.refusal.SaveRefusal.TheVariants.{Device, NotEmpty as FileNotEmpty}
use Rattle.app_save.specs.Making.{NoneLonger}
use Rattle.app_save.specs.Saving.{AllOpen}
use Rattle.sedona_cli.specs.declared.refusal.Refusal.{Refusal}
use Rattle.sedona_cli.specs.declared.refusal.Refusal.TheVariants.{DeviceFault, StoreExists}
use Rattle.sedona_cli.specs.Outside.{Attaches, Makes, Whole, NotEmpty, Failed, AsksDisk}
use Rattle.sedona_cli.specs.Store.{StoreAttached, StoreMade}
use Rattle.sedona_cli.proofs.Asking.{cause_as}

-- ---- attaching

abbrev pub attach_answer : Result (Unit {0}) DiskFault → Result (Unit {0}) Refusal
attach_answer (Ok u) = Ok tt
attach_answer (Err fault) = Err DeviceFault

pub attach_asked : {T : Type 0} (D : DiskGhosts T) (d e : T) (name : List ℕ) (r : Result (Unit {0}) DiskFault) → Elapses (D.meaning d) (D.meaning e)
    → IsAttach (D.meaning d).calls (D.meaning d).attached (D.meaning e).attached name → (IsTrue (D.meaning d).tells → Keeps (D.meaning d) (D.meaning e)) → MarksUp (D.meaning d) (D.meaning e) 0
    → SyncsUp (D.meaning d) (D.meaning e) 0 → HasCause (D.meaning d).faults (D.meaning e).faults (IsErr r) → (D.meaning e).calls ≡ one_more (D.meaning d).calls → AsksDisk D d e (λ asks. StoreAttached name asks (attach_answer r))
attach_asked D d e name (Ok u) time attached keeps marks syncs cause calls = record {
  asks = Attaches name true ∷ [];
  unread = refl;
  asked = (
    e,
    record {
      time = time;
      attached = attached;
      keeps = keeps;
      marks = marks;
      syncs = syncs;
      cause = cause_as _ _ (IsErr {T = Unit {0}} {E = DiskFault} (Ok u)) (true ≡ false) (λ (failed : IsErr {T = Unit {0}} {E = DiskFault} (Ok u)). absurd (cc)) (λ (same : true ≡ false). absurd (cc)) cause;
      calls = calls;
    },
    refl,
  );
  holds = refl;
}
attach_asked D d e name (Err fault) time attached keeps marks syncs cause calls = record {
  asks = Attaches name false ∷ [];
  unread = refl;
  asked = (
    e,
    record {
      time = time;
      attached = attached;
      keeps = keeps;
      marks = marks;
      syncs = syncs;
      cause = cause_as _ _ (IsErr {T = Unit {0}} {E = DiskFault} (Err fault)) (false ≡ false) (λ (failed : IsErr {T = Unit {0}} {E = DiskFault} (Err fault)). refl) (λ (same : false ≡ false). refl) cause;
      calls = calls;
    },
    refl,
  );
  holds = (refl, refl);
}

-- ---- making

-- the clauses of a call that makes a store
pub record Makings {X : Type 0} (S : ℕ) (payload : List ℕ) (r : Result X SaveRefusal) (d e : Meaning) : Type 0 where
  pub time : Elapses d e
  pub attached : e.attached ≡ d.attached
  pub made : IsTrue d.tells → OnOk r (AllOpen S payload e)
  pub bound : IsTrue d.tells → NoneLonger 0 d → During d e (λ c. length c ≤ 2 * (S + 6))
  pub mark : OnOk r (MarksUp d e 1)
  pub no_mark : OnErr r (MarksUp d e 0)
  pub empty : IsTrue d.tells → OnOk r (length d.content ≡ 0)
  pub not_empty : IsTrue d.tells → IsErrOf r FileNotEmpty → length d.content ≢ 0
  pub kept : IsTrue d.tells → length d.content ≢ 0 → Keeps d e
  pub cause : HasCause d.faults e.faults (IsErrOf r Device)

pub asked_made : {T X : Type 0} (D : DiskGhosts T) (d e : T) (S : ℕ) (payload : List ℕ) (x : X) → Makings S payload (Ok x) (D.meaning d) (D.meaning e) → AsksDisk D d e (λ asks. StoreMade S payload asks (Ok tt))
asked_made {T} {X} D d e S payload x m = record {
  asks = Makes S payload Whole ∷ [];
  unread = refl;
  asked = (
    e,
    record {
      time = m.time;
      attached = m.attached;
      marks = m.mark;
      cause = cause_as _ _ (IsErrOf {T = X} (Ok x) Device) (Whole ≡ Failed) (λ (failed : IsErrOf {T = X} (Ok x) Device). absurd (cc)) (λ (same : Whole ≡ Failed). absurd (cc)) m.cause;
      opens = λ same told. m.made told;
      empty = λ same told. m.empty told;
      exists = λ same told. absurd (cc);
      kept = m.kept;
      bound = m.bound;
    },
    refl,
  );
  holds = refl;
}

pub asked_found : {T X : Type 0} (D : DiskGhosts T) (d e : T) (S : ℕ) (payload : List ℕ) → Makings {X = X} S payload (Err FileNotEmpty) (D.meaning d) (D.meaning e) → AsksDisk D d e (λ asks. StoreMade S payload asks (Err StoreExists))
asked_found {T} {X} D d e S payload m = record {
  asks = Makes S payload NotEmpty ∷ [];
  unread = refl;
  asked = (
    e,
    record {
      time = m.time;
      attached = m.attached;
      marks = m.no_mark;
      cause = cause_as _ _ (IsErrOf {T = X} (Err FileNotEmpty) Device) (NotEmpty ≡ Failed) (λ (failed : IsErrOf {T = X} (Err FileNotEmpty) Device). absurd (cc)) (λ (same : NotEmpty ≡ Failed). absurd (cc)) m.cause;
      opens = λ same told. absurd (cc);
      empty = λ same told. absurd (cc);
      exists = λ same told. m.not_empty told refl;
      kept = m.kept;
      bound = m.bound;
    },
    refl,
  );
  holds = inl (refl, refl);
}

pub asked_failed : {T X : Type 0} (D : DiskGhosts T) (d e : T) (S : ℕ) (payload : List ℕ) → Makings {X = X} S payload (Err Device) (D.meaning d) (D.meaning e) → AsksDisk D d e (λ asks. StoreMade S payload asks (Err DeviceFault))
asked_failed {T} {X} D d e S payload m = record {
  asks = Makes S payload Failed ∷ [];
  unread = refl;
  asked = (
    e,
    record {
      time = m.time;
      attached = m.attached;
      marks = m.no_mark;
      cause = cause_as _ _ (IsErrOf {T = X} (Err Device) Device) (Failed ≡ Failed) (λ (failed : IsErrOf {T = X} (Err Device) Device). refl) (λ (same : Failed ≡ Failed). refl) m.cause;
      opens = λ same told. absurd (cc);
      empty = λ same told. absurd (cc);
      exists = λ same told. absurd (cc);
      kept = m.kept;
      bound = m.bound;
    },
    refl,
  );
  holds = inr (refl, refl);
}
