-- What a call that opens a store asks of the disk.
use Rattle.std.proofs.Common.{◌≡◌, ◌+◌, ◌≤◌, ℕ, List, [], ◌∷◌, Result, Ok, Err, refl, subst, inl, inr}
use Rattle.std.specs.Prelude.{IfOk, IsTrue, IsErrOf}
use Rattle.sed_outside.specs.Cause.{HasCause}
use Rattle.disk_model.specs.declared.disk.Disk.{Ghosts as DiskGhosts}
use Rattle.disk_model.specs.Disk.{Meaning, Elapses, During, MarksUp}
use Rattle.app_save.specs.declared.refusal.SaveRefusal.{SaveRefusal}
use Rattle.app_save.specs.declared.refusal.SaveRefusal.TheVariants.{Device, NotAStore as NoWholeStore, Memory as NoMemory}
use Rattle.app_save.specs.Saving.{AllOpen, SinceSync, SyncsOnce}
use Rattle.app_save.specs.Store.{IsStore, Opens as IsOpen}
use Rattle.sedona_cli.specs.declared.refusal.Refusal.TheVariants.{DeviceFault, NoStore, Memory}
use Rattle.sedona_cli.specs.Outside.{Opens, Found, NotAStore, Unread, Unheld, AsksDisk}
use Rattle.sedona_cli.specs.Store.{OpenedOrWants}
use Rattle.sedona_cli.proofs.Asking.{cause_as}

-- the clauses of a call that opens a store
pub record Openings (payload : List ℕ) (r : Result ℕ SaveRefusal) (d e : Meaning) : Type 0 where
  pub opens : IsTrue d.tells → IfOk r (λ S. IsOpen S d.content payload)
  pub moments : IsTrue d.tells → During d e (d.leaves d.now)
  pub since : IsTrue d.tells → IsTrue d.tells_syncs → SinceSync d e (λ c. c ≡ d.content)
  pub opened : IsTrue d.tells → IfOk r (λ S. AllOpen S payload e)
  pub content : IsTrue d.tells → (IsErrOf r Device → ⊥) → e.content ≡ d.content
  pub time : Elapses d e
  pub marks : MarksUp d e 0
  pub syncs : (IsErrOf r Device → ⊥) → SyncsOnce d e
  pub attached : e.attached ≡ d.attached
  pub not_a_store : IsTrue d.tells → IsErrOf r NoWholeStore → (S : ℕ) → IsStore S d.content → ⊥
  pub cause : HasCause d.faults e.faults (IsErrOf r Device)
  pub calls : e.calls ≤ d.calls + 5

found_of : (payload bytes : List ℕ) → Found payload ≡ Found bytes → payload ≡ bytes
found_of payload bytes same = cc

pub asked_opened : {T : Type 0} (D : DiskGhosts T) (d e : T) (payload : List ℕ) (S : ℕ) → Openings payload (Ok S) (D.meaning d) (D.meaning e) → AsksDisk D d e (λ asks. OpenedOrWants asks (Ok payload))
asked_opened D d e payload S o = record {
  asks = Opens (Found payload) ∷ [];
  unread = refl;
  asked = (
    e,
    record {
      time = o.time;
      attached = o.attached;
      marks = o.marks;
      syncs = λ not. o.syncs (λ (failed : IsErrOf {T = ℕ} (Ok S) Device). absurd (cc));
      cause = cause_as _ _ (IsErrOf {T = ℕ} (Ok S) Device) (Found payload ≡ Unread) (λ (failed : IsErrOf {T = ℕ} (Ok S) Device). absurd (cc)) (λ (same : Found payload ≡ Unread). absurd (cc)) o.cause;
      calls = o.calls;
      moments = o.moments;
      since = o.since;
      content = λ told not. o.content told (λ (failed : IsErrOf {T = ℕ} (Ok S) Device). absurd (cc));
      found = λ bytes same told.
          (S, subst (λ (p : List ℕ). IsOpen S (D.meaning d).content p) (found_of payload bytes same) (o.opens told), subst (λ (p : List ℕ). AllOpen S p (D.meaning e)) (found_of payload bytes same) (o.opened told));
      no_store = λ same told. absurd (cc);
    },
    refl,
  );
  holds = refl;
}

pub asked_none : {T : Type 0} (D : DiskGhosts T) (d e : T) (payload : List ℕ) → Openings payload (Err NoWholeStore) (D.meaning d) (D.meaning e) → AsksDisk D d e (λ asks. OpenedOrWants asks (Err NoStore))
asked_none D d e payload o = record {
  asks = Opens NotAStore ∷ [];
  unread = refl;
  asked = (
    e,
    record {
      time = o.time;
      attached = o.attached;
      marks = o.marks;
      syncs = λ not. o.syncs (λ (failed : IsErrOf {T = ℕ} (Err NoWholeStore) Device). absurd (cc));
      cause = cause_as _ _ (IsErrOf {T = ℕ} (Err NoWholeStore) Device) (NotAStore ≡ Unread) (λ (failed : IsErrOf {T = ℕ} (Err NoWholeStore) Device). absurd (cc)) (λ (same : NotAStore ≡ Unread). absurd (cc)) o.cause;
      calls = o.calls;
      moments = o.moments;
      since = o.since;
      content = λ told not. o.content told (λ (failed : IsErrOf {T = ℕ} (Err NoWholeStore) Device). absurd (cc));
      found = λ bytes same told. absurd (cc);
      no_store = λ same told. o.not_a_store told refl;
    },
    refl,
  );
  holds = inl (refl, refl);
}

pub asked_unread : {T : Type 0} (D : DiskGhosts T) (d e : T) (payload : List ℕ) → Openings payload (Err Device) (D.meaning d) (D.meaning e) → AsksDisk D d e (λ asks. OpenedOrWants asks (Err DeviceFault))
asked_unread D d e payload o = record {
  asks = Opens Unread ∷ [];
  unread = refl;
  asked = (
    e,
    record {
      time = o.time;
      attached = o.attached;
      marks = o.marks;
      syncs = λ not. absurd (not refl);
      cause = cause_as _ _ (IsErrOf {T = ℕ} (Err Device) Device) (Unread ≡ Unread) (λ (failed : IsErrOf {T = ℕ} (Err Device) Device). refl) (λ (same : Unread ≡ Unread). refl) o.cause;
      calls = o.calls;
      moments = o.moments;
      since = o.since;
      content = λ told not. absurd (not refl);
      found = λ bytes same told. absurd (cc);
      no_store = λ same told. absurd (cc);
    },
    refl,
  );
  holds = inr (refl, refl);
}

pub asked_unheld : {T : Type 0} (D : DiskGhosts T) (d e : T) (payload : List ℕ) → Openings payload (Err NoMemory) (D.meaning d) (D.meaning e) → AsksDisk D d e (λ asks. OpenedOrWants asks (Err Memory))
asked_unheld D d e payload o = record {
  asks = Opens Unheld ∷ [];
  unread = refl;
  asked = (
    e,
    record {
      time = o.time;
      attached = o.attached;
      marks = o.marks;
      syncs = λ not. o.syncs (λ (failed : IsErrOf {T = ℕ} (Err NoMemory) Device). absurd (cc));
      cause = cause_as _ _ (IsErrOf {T = ℕ} (Err NoMemory) Device) (Unheld ≡ Unread) (λ (failed : IsErrOf {T = ℕ} (Err NoMemory) Device). absurd (cc)) (λ (same : Unheld ≡ Unread). absurd (cc)) o.cause;
      calls = o.calls;
      moments = o.moments;
      since = o.since;
      content = λ told not. o.content told (λ (failed : IsErrOf {T = ℕ} (Err NoMemory) Device). absurd (cc));
      found = λ bytes same told. absurd (cc);
      no_store = λ same told. absurd (cc);
    },
    refl,
  );
  holds = refl;
}
