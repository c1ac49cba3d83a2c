-- What a call leaves, by the parts of the disk before and after it.
use Rattle.std.proofs.Common.{◌≡◌, ℕ, Bool, true, false, IsTrue, IsErr, not, ◌&&◌, List, [], ◌∷◌, ◌++◌, length, drop, sum_by, refl, sym, ◌∙◌, ap, subst, inl, inr, Result, Ok, Err, OnOk, is_ok, if◌then◌else◌}
use Rattle.std.specs.Bool.{OnTrue, OnFalse}
use Rattle.sed_outside.specs.Cause.{HasCause}
use Rattle.sed_outside.specs.Counts.{one_more}
use Rattle.sed_outside.specs.Failing.{Plan, FailsNow, after_call}
use Rattle.disk_model.specs.Disk.{Image, Meaning, Elapses, MarksUp, SyncsUp, Attached, Writes, Syncs, Keeps}
use Rattle.disk_model.specs.Held.{Held}
use Rattle.disk_model.specs.Written.{written}
use Rattle.disk_model.specs.Calls.{IsCall}
use Rattle.disk_model.specs.Replay.{Call, wrote, synced, other, marked, InMemory, HasRoom, HasBytes, replayed}
use Rattle.disk_model.specs.Recorded.{Tape, with_entry, with_mark, HasEntry, Tries, FitsLog, call_of, calls_of, size_of, IsRecord}
use Rattle.disk_model.specs.Records.{Records, RecordsMark}
use Rattle.disk_model.specs.declared.journal.Entry.{Entry}
use Rattle.disk_model.specs.declared.journal.Entry.TheVariants.{Wrote, Synced, Other, Marked}
use Rattle.disk_model.proofs.Entries.{calls_push, calls_write, IsTried, tried, tried_record, quiet_entry, synced_is_quiet, write_entry, unwritten}
use Rattle.disk_model.proofs.Fits.{has_room, room_is, has_bytes, bytes_fit}
use Rattle.disk_model.proofs.Steps.{Idle, idle_call, idle_none, call_time, call_keeps, call_marks, call_syncs, call_durable, call_writes, failed_sync, failed_write}

-- a disk by its parts
abbrev pub disk : Image → Held → Tape → Plan → Attached → ℕ → ℕ → InMemory
disk first log tape plan attached faults made = record {
  history = record {
    first = first;
    calls = calls_of log.bytes tape.entries;
    is_marked = tape.is_marked;
    attached = attached;
    faults = faults;
    made = made;
  };
  plan = plan;
  bounds = record { room = log.room; limit = tape.limit };
}

pub record Has (first : Image) (log : Held) (tape : Tape) (plan : Plan) (d : InMemory) : Type 0 where
  pub first_is : d.history.first ≡ first
  pub calls_are : d.history.calls ≡ calls_of log.bytes tape.entries
  pub mark_is : d.history.is_marked ≡ tape.is_marked
  pub plan_is : d.plan ≡ plan
  pub room_are : d.bounds.room ≡ log.room
  pub limit_is : d.bounds.limit ≡ tape.limit
  pub bounds_are : d.bounds ≡ (disk first log tape plan d.history.attached 0 0).bounds

pub has : (first : Image) (log : Held) (tape : Tape) (plan : Plan) {attached : Attached} {faults made : ℕ} {d : InMemory} → disk first log tape plan attached faults made ≡ d → Has first log tape plan d
has first log tape plan is = record {
  first_is = sym (ap (λ (d : InMemory). d.history.first) is);
  calls_are = sym (ap (λ (d : InMemory). d.history.calls) is);
  mark_is = sym (ap (λ (d : InMemory). d.history.is_marked) is);
  plan_is = sym (ap (λ (d : InMemory). d.plan) is);
  room_are = sym (ap (λ (d : InMemory). d.bounds.room) is);
  limit_is = sym (ap (λ (d : InMemory). d.bounds.limit) is);
  bounds_are = sym (ap (λ (d : InMemory). d.bounds) is);
}

-- what is known of a call, whether it is done or not
pub record Counts (plan plan_now : Plan) (log log_now : Held) (before now : Tape) (done : Bool) : Type 0 where
  pub counted : plan_now ≡ after_call plan
  pub room : log_now.room ≡ log.room
  pub limit : now.limit ≡ before.limit
  pub planned : FailsNow plan → done ≡ false
  pub full : IsTrue done → HasEntry before

-- time goes on, with no mark and so many syncs
pub record Goes (by : ℕ) (old new : Meaning) : Type 0 where
  pub time : Elapses old new
  pub marks : MarksUp old new 0
  pub syncs : SyncsUp old new by

pub goes_idle : {old new : Meaning} → Idle old new → Goes 0 old new
goes_idle idle = record { time = idle.time; marks = idle.marks; syncs = idle.syncs }

there : {first : Image} {log : Held} {before : Tape} {plan : Plan} {old : InMemory} → Has first log before plan old → HasRoom old → HasEntry before
there {log = log} {before = before} {old = old} was = has_room old log.bytes before.entries (sym was.calls_are) before.limit (sym was.limit_is)

module _ {first : Image} {log log_now : Held} {before now : Tape} {plan plan_now : Plan} {old new : InMemory} (was : Has first log before plan old) (is : Has first log_now now plan_now new) where
  kept : new.history.first ≡ old.history.first
  kept = is.first_is ∙ sym was.first_is

  room : HasRoom old → HasEntry before
  room = there was

  entry : HasEntry before → HasRoom old
  entry = room_is old log.bytes before.entries (sym was.calls_are) before.limit (sym was.limit_is)

  -- the log is as it was
  calls_now : log_now ≡ log → new.history.calls ≡ calls_of log.bytes now.entries
  calls_now same = is.calls_are ∙ ap (λ (h : Held). calls_of h.bytes now.entries) same

  calls_same : log_now ≡ log → now ≡ before → new.history.calls ≡ old.history.calls
  calls_same log_is same = calls_now log_is ∙ ap (λ (t : Tape). calls_of log.bytes t.entries) same ∙ sym was.calls_are

  calls_more : (e : Entry) (call : Call) → ((l : List ℕ) → call_of l e ≡ call) → log_now ≡ log → now ≡ with_entry before e → new.history.calls ≡ old.history.calls ++ call ∷ []
  calls_more e call is_call log_is added =
      calls_now log_is ∙ ap (λ (t : Tape). calls_of log.bytes t.entries) added ∙ calls_push log.bytes before.entries e
      ∙ ap (λ (l : List Call). l ++ call_of (drop (sum_by size_of before.entries) log.bytes) e ∷ []) (sym was.calls_are)
      ∙ ap (λ (k : Call). old.history.calls ++ k ∷ []) (is_call (drop (sum_by size_of before.entries) log.bytes))

  calls_written : (at : ℕ) (bytes : List ℕ) → length log.bytes ≡ sum_by size_of before.entries → log_now ≡ record { bytes = log.bytes ++ bytes; room = log.room } → now ≡ with_entry before (Wrote at (length bytes)) → new.history.calls ≡ old.history.calls ++ wrote at bytes ∷ []
  calls_written at bytes size log_is added =
      is.calls_are ∙ ap (λ (h : Held). calls_of h.bytes now.entries) log_is ∙ ap (λ (t : Tape). calls_of (log.bytes ++ bytes) t.entries) added
      ∙ calls_write log.bytes bytes before.entries at size ∙ ap (λ (l : List Call). l ++ wrote at bytes ∷ []) (sym was.calls_are)

  pub idle : log_now ≡ log → IsTried before now Other → Idle (replayed old.history) (replayed new.history)
  idle log_is (inl added) = idle_call old.history new.history kept (calls_more Other other (λ l. refl) log_is added)
  idle log_is (inr same) = idle_none old.history new.history kept (calls_same log_is same)

  -- what is said of each call
  pub is_call : {Failed : Type 0} {by : ℕ} {done : Bool} → Goes by (replayed old.history) (replayed new.history) → Counts plan plan_now log log_now before now done → (done ≡ false → Failed)
      → HasCause old.history.faults new.history.faults Failed → new.history.made ≡ one_more old.history.made → IsCall Failed by old new
  is_call {Failed = Failed} {done = done} goes counts failed cause made = record {
    time = goes.time;
    marks = goes.marks;
    syncs = goes.syncs;
    cause = cause;
    calls = made;
    plan = is.plan_is ∙ counts.counted ∙ ap after_call (sym was.plan_is);
    bounds = is.bounds_are ∙ ap (λ (n : ℕ). (disk first (record { bytes = []; room = n }) now plan old.history.attached 0 0).bounds) counts.room
        ∙ ap (λ (n : ℕ). (disk first log (record { entries = []; is_marked = false; limit = n }) plan old.history.attached 0 0).bounds) counts.limit ∙ sym was.bounds_are;
    planned = λ fails. failed (counts.planned (subst FailsNow was.plan_is fails));
    full = λ full. fails_full done counts.full failed full;
  }
    where
      fails_full : (b : Bool) → (IsTrue b → HasEntry before) → (b ≡ false → Failed) → (HasRoom old → ⊥) → Failed
      fails_full true there fails full = absurd (full (entry (there refl)))
      fails_full false there fails full = fails refl

  -- what is added to the record
  pub added_call : (call : Call) → HasEntry before → new.history.calls ≡ old.history.calls ++ call ∷ [] → now.is_marked ≡ false → Records old new call
  added_call call there added off = record {
    first = kept;
    added = λ _. added;
    unmarked = λ _. is.mark_is ∙ off;
    full = λ full. absurd (full (entry there));
    still = λ full. absurd (full (entry there));
  }

  pub full_call : (call : Call) → (HasEntry before → ⊥) → log_now ≡ log → now ≡ before → Records old new call
  full_call call full log_is same = record {
    first = kept;
    added = λ there. absurd (full (room there));
    unmarked = λ there. absurd (full (room there));
    full = λ _. calls_same log_is same;
    still = λ _. is.mark_is ∙ ap (λ (t : Tape). t.is_marked) same ∙ sym was.mark_is;
  }

  pub tried_call : (e : Entry) (call : Call) → ((l : List ℕ) → call_of l e ≡ call) → log_now ≡ log → Tries before now e → Records old new call
  tried_call e call is_call log_is tries = record {
    first = kept;
    added = λ there. calls_more e call is_call log_is (tries.added (room there));
    unmarked = λ there. is.mark_is ∙ ap (λ (t : Tape). t.is_marked) (tries.added (room there));
    full = λ full. calls_same log_is (same full);
    still = λ full. is.mark_is ∙ ap (λ (t : Tape). t.is_marked) (same full) ∙ sym was.mark_is;
  }
    where
      same : (HasRoom old → ⊥) → now ≡ before
      same full = tries.full (λ there. full (entry there))

-- a call that is recorded as this entry where it is done
pub record Adds (e : Entry) (plan : Plan) (before now : Tape) (done : Bool) : Type 0 where
  pub added : OnTrue done (now ≡ with_entry before e)
  pub failed : OnFalse done (Tries before now Other)
  pub planned : FailsNow plan → done ≡ false
  pub fits : (FailsNow plan → ⊥) → HasEntry before → IsTrue done
  pub full : IsTrue done → HasEntry before

module _ {first : Image} {log : Held} {before now : Tape} {plan plan_now : Plan} {old new : InMemory} (was : Has first log before plan old) (is : Has first log now plan_now new) where
  -- one that only asks
  pub asked : (done : Bool) → Adds Other plan before now done → Idle (replayed old.history) (replayed new.history)
  asked true adds = idle was is refl (inl adds.added)
  asked false adds = idle was is refl (tried adds.failed)

  pub asked_records : (done : Bool) → Adds Other plan before now done → Records old new other
  asked_records true adds = tried_call was is Other other (λ l. refl) refl (record { added = λ _. adds.added; full = λ full. absurd (full (adds.full refl)) })
  asked_records false adds = tried_call was is Other other (λ l. refl) refl adds.failed

  -- a sync
  more : now ≡ with_entry before Synced → new.history.calls ≡ old.history.calls ++ synced ∷ []
  more = calls_more was is Synced synced (λ l. refl) refl

  pub goes_synced : (done : Bool) {T E : Type 0} (r : Result T E) → is_ok r ≡ done → Adds Synced plan before now done → Goes (if is_ok r then 1 else 0) (replayed old.history) (replayed new.history)
  goes_synced true (Ok x) is_done adds = record {
    time = call_time old.history new.history synced (kept was is) (more adds.added);
    marks = call_marks old.history new.history synced (kept was is) (more adds.added);
    syncs = call_syncs old.history new.history synced (kept was is) (more adds.added);
  }
  goes_synced true (Err e) is_done adds = absurd (cc is_done)
  goes_synced false (Ok x) is_done adds = absurd (cc is_done)
  goes_synced false (Err e) is_done adds = goes_idle (idle was is refl (tried adds.failed))

  pub synced_durable : (done : Bool) {T E : Type 0} (r : Result T E) → is_ok r ≡ done → Adds Synced plan before now done → Syncs r (replayed old.history) (replayed new.history)
  synced_durable true r is_done adds = call_durable old.history new.history synced (kept was is) (more adds.added) r refl
  synced_durable false (Ok x) is_done adds = absurd (cc is_done)
  synced_durable false (Err e) is_done adds = failed_sync e (idle was is refl (tried adds.failed)).keeps

  pub synced_records : (done : Bool) → Adds Synced plan before now done → (FailsNow old.plan → ⊥) → Records old new synced
  synced_records true adds free = added_call was is synced (adds.full refl) (more adds.added) (ap (λ (t : Tape). t.is_marked) adds.added)
  synced_records false adds free = full_call was is synced full refl (adds.failed.full full)
    where
      full : HasEntry before → ⊥
      full there = let done = adds.fits (subst (λ (p : Plan). FailsNow p → ⊥) was.plan_is free) there in cc done

  pub synced_undone : (done : Bool) → Adds Synced plan before now done → FailsNow old.plan → Records old new other
  synced_undone true adds fails = absurd (cc (adds.planned (subst FailsNow was.plan_is fails)))
  synced_undone false adds fails = tried_call was is Other other (λ l. refl) refl adds.failed

pub fits : {first : Image} {log : Held} {before now : Tape} {plan : Plan} {old : InMemory} → Has first log before plan old → {done : Bool} {e : Entry} → Adds e plan before now done → (FailsNow old.plan → ⊥) → HasRoom old → IsTrue done
fits was adds free room = adds.fits (subst (λ (p : Plan). FailsNow p → ⊥) was.plan_is free) (there was room)

-- no mark was made since
pub unmarked : (before now : Tape) (e : Entry) (done : Bool) {T E : Type 0} (r : Result T E) → is_ok r ≡ done → OnTrue done (now ≡ with_entry before e) → OnOk r (now.is_marked ≡ false)
unmarked before now e true (Ok x) is_done added = ap (λ (t : Tape). t.is_marked) added
unmarked before now e true (Err x) is_done added = tt
unmarked before now e false (Ok x) is_done added = absurd (cc is_done)
unmarked before now e false (Err x) is_done added = tt

pub tried_other : (done : Bool) {plan : Plan} {before now : Tape} → Adds Other plan before now done → IsTried before now Other
tried_other true adds = inl adds.added
tried_other false adds = tried adds.failed

pub counts_call : {e : Entry} {plan plan_now : Plan} {log : Held} {before now : Tape} {done : Bool} → Adds e plan before now done → plan_now ≡ after_call plan → now.limit ≡ before.limit → Counts plan plan_now log log before now done
counts_call adds counted limit = record { counted = counted; room = refl; limit = limit; planned = adds.planned; full = adds.full }

pub recorded_sync : (done : Bool) {plan : Plan} {before now : Tape} {first : Image} {file log name : Held} → Adds Synced plan before now done → IsRecord first file log name before.entries → IsRecord first file log name now.entries
recorded_sync true {before = before} {now = now} {first = first} {file = file} {log = log} {name = name} adds = quiet_entry first file log name before now Synced synced_is_quiet adds.added
recorded_sync false {before = before} {now = now} {first = first} {file = file} {log = log} {name = name} adds = tried_record first file log name before now (tried adds.failed)

-- a write
pub record Enters (at : ℕ) (bytes : List ℕ) (log log_now : Held) (before now : Tape) (written : Bool) : Type 0 where
  pub added : OnTrue written (now ≡ with_entry before (Wrote at (length bytes)))
  pub logged : OnTrue written (log_now ≡ record { bytes = log.bytes ++ bytes; room = log.room })
  pub failed : OnFalse written (Tries before now Other)
  pub same : OnFalse written (log_now ≡ log)
  pub fits : FitsLog log at (length bytes) → HasEntry before → IsTrue written
  pub past : IsTrue written → FitsLog log at (length bytes)
  pub full : IsTrue written → HasEntry before
  pub size : length log.bytes ≡ sum_by size_of before.entries

module _ {first : Image} {log log_now : Held} {before now : Tape} {plan : Plan} {old : InMemory} (was : Has first log before plan old) (at : ℕ) (bytes : List ℕ) where
  holds : Enters at bytes log log_now before now true → HasBytes old at (length bytes)
  holds enters = bytes_fit old log.bytes before.entries (sym was.calls_are) log (sym was.room_are) refl enters.size at (length bytes) (enters.past refl)

  enough : {b : Bool} → Enters at bytes log log_now before now b → HasBytes old at (length bytes) → FitsLog log at (length bytes)
  enough enters = has_bytes old log.bytes before.entries (sym was.calls_are) log (sym was.room_are) refl enters.size at (length bytes)

  pub written_fits : (b fails : Bool) → Enters at bytes log log_now before now b → fails ≡ false → HasRoom old → HasBytes old at (length bytes) → (b && not fails) ≡ true
  written_fits b fails enters off room fit = let done = enters.fits (enough enters fit) (there was room) in rw (done, off)

  pub written_past : (b fails : Bool) → Enters at bytes log log_now before now b → (HasBytes old at (length bytes) → ⊥) → (b && not fails) ≡ false
  written_past true fails enters none = absurd (none (holds enters))
  written_past false fails enters none = refl

module _ {first : Image} {log log_now : Held} {before now : Tape} {plan plan_now : Plan} {old new : InMemory} (was : Has first log before plan old) (is : Has first log_now now plan_now new)
    (at : ℕ) (bytes : List ℕ) where
  lengthened : Enters at bytes log log_now before now true → new.history.calls ≡ old.history.calls ++ wrote at bytes ∷ []
  lengthened enters = calls_written was is at bytes enters.size enters.logged enters.added

  nothing : Enters at bytes log log_now before now false → Idle (replayed old.history) (replayed new.history)
  nothing enters = idle was is enters.same (tried enters.failed)

  pub goes_written : (b : Bool) → Enters at bytes log log_now before now b → Goes 0 (replayed old.history) (replayed new.history)
  goes_written true enters = record {
    time = call_time old.history new.history (wrote at bytes) (kept was is) (lengthened enters);
    marks = call_marks old.history new.history (wrote at bytes) (kept was is) (lengthened enters);
    syncs = call_syncs old.history new.history (wrote at bytes) (kept was is) (lengthened enters);
  }
  goes_written false enters = goes_idle (nothing enters)

  pub writes : (b fails : Bool) {T E : Type 0} (r : Result T E) → is_ok r ≡ (b && not fails) → Enters at bytes log log_now before now b → Writes at bytes r (replayed old.history) (replayed new.history)
  writes true fails r is_done enters = call_writes old.history new.history (wrote at bytes) (kept was is) (lengthened enters) r at bytes refl
  writes false fails (Ok x) is_done enters = absurd (cc is_done)
  writes false fails (Err e) is_done enters = failed_write at bytes e (nothing enters).keeps

  pub written_records : (b : Bool) → Enters at bytes log log_now before now b → HasBytes old at (length bytes) → Records old new (wrote at bytes)
  written_records true enters there = added_call was is (wrote at bytes) (enters.full refl) (lengthened enters) (ap (λ (t : Tape). t.is_marked) enters.added)
  written_records false enters there = full_call was is (wrote at bytes) full enters.same (enters.failed.full full)
    where
      full : HasEntry before → ⊥
      full entry = let done = enters.fits (enough was at bytes enters there) entry in cc done

  pub written_undone : (b : Bool) → Enters at bytes log log_now before now b → (HasBytes old at (length bytes) → ⊥) → Records old new other
  written_undone true enters none = absurd (none (holds was at bytes enters))
  written_undone false enters none = tried_call was is Other other (λ l. refl) enters.same enters.failed

pub log_same : (file file_now log log_now : Held) (b : Bool) → OnFalse b ((file_now ≡ file) × (log_now ≡ log)) → OnFalse b (log_now ≡ log)
log_same file file_now log log_now true same = tt
log_same file file_now log log_now false same = same.1

pub recorded_write : (first : Image) (file log name file_now log_now : Held) (before now : Tape) (at : ℕ) (bytes : List ℕ) (b : Bool) → OnTrue b (now ≡ with_entry before (Wrote at (length bytes)))
    → OnTrue b (file_now ≡ record { bytes = written file.bytes at bytes; room = file.room }) → OnTrue b (log_now ≡ record { bytes = log.bytes ++ bytes; room = log.room })
    → OnFalse b (Tries before now Other) → OnFalse b ((file_now ≡ file) × (log_now ≡ log)) → IsRecord first file log name before.entries → IsRecord first file_now log_now name now.entries
recorded_write first file log name file_now log_now before now at bytes true added file_is log_is failed same is = write_entry first file log name file_now log_now before now at bytes added file_is log_is is
recorded_write first file log name file_now log_now before now at bytes false added file_is log_is failed same is = unwritten first file log name file_now log_now before now (tried failed) same is

-- a write is counted
pub counts_write : {plan plan_now : Plan} {log log_now : Held} {before now : Tape} (b fails : Bool) → plan_now ≡ after_call plan → log_now.room ≡ log.room → now.limit ≡ before.limit → (FailsNow plan → IsTrue fails) → (IsTrue b → HasEntry before)
    → Counts plan plan_now log log_now before now (b && not fails)
counts_write b fails counted room limit failing full = record {
  counted = counted;
  room = room;
  limit = limit;
  planned = λ now. unless b fails (failing now);
  full = λ done. full (worked b fails done);
}
  where
    unless : (b fails : Bool) → fails ≡ true → (b && not fails) ≡ false
    unless true true e = refl
    unless true false e = absurd (cc e)
    unless false fails e = refl

    worked : (b fails : Bool) → IsTrue (b && not fails) → IsTrue b
    worked true fails e = refl
    worked false fails e = absurd (cc e)

-- no mark was made since a write
pub unmarked_write : (before now : Tape) (e : Entry) (b fails : Bool) {T E : Type 0} (r : Result T E) → is_ok r ≡ (b && not fails) → OnTrue b (now ≡ with_entry before e) → OnOk r (now.is_marked ≡ false)
unmarked_write before now e true fails (Ok x) is_done added = ap (λ (t : Tape). t.is_marked) added
unmarked_write before now e false fails (Ok x) is_done added = absurd (cc is_done)
unmarked_write before now e b fails (Err x) is_done added = tt

pub free_of : (fails : Bool) {P : Type 0} → (IsTrue fails → P) → (P → ⊥) → fails ≡ false
free_of true now none = absurd (none (now refl))
free_of false now none = refl

-- a result by whether it is done
pub failed_of : {T E : Type 0} (r : Result T E) {done : Bool} → is_ok r ≡ done → done ≡ false → IsErr r
failed_of (Ok x) is_done off = absurd (let e : true ≡ false = is_done ∙ off in cc)
failed_of (Err e) is_done off = refl

-- a mark
pub marks_more : {first : Image} {log : Held} {before now : Tape} {plan plan_now : Plan} {old new : InMemory} → Has first log before plan old → Has first log now plan_now new
    → now ≡ with_mark before → new.history.calls ≡ old.history.calls ++ marked ∷ []
marks_more {log = log} {before = before} {old = old} was is added =
    calls_now was is refl ∙ ap (λ (t : Tape). calls_of log.bytes t.entries) added ∙ calls_push log.bytes before.entries Marked ∙ ap (λ (l : List Call). l ++ marked ∷ []) (sym was.calls_are)

pub mark_added : {first : Image} {log : Held} {before now : Tape} {plan plan_now : Plan} {old new : InMemory} → Has first log before plan old → Has first log now plan_now new
    → (IsTrue before.is_marked → now ≡ before) → (before.is_marked ≡ false → now ≡ with_mark before) → RecordsMark old new
mark_added was is again fresh = record {
  first = kept was is;
  again = λ marked_before. calls_same was is refl (again (sym was.mark_is ∙ marked_before));
  added = λ off. marks_more was is (fresh (sym was.mark_is ∙ off));
}

pub record Marks (old new : Meaning) (was_marked : Bool) : Type 0 where
  pub time : Elapses old new
  pub keeps : Keeps old new
  pub marks : MarksUp old new (if was_marked then 0 else 1)
  pub syncs : SyncsUp old new 0

pub marks_made : {first : Image} {log : Held} {before now : Tape} {plan plan_now : Plan} {old new : InMemory} → Has first log before plan old → Has first log now plan_now new
    → (IsTrue before.is_marked → now ≡ before) → (before.is_marked ≡ false → now ≡ with_mark before) → Marks (replayed old.history) (replayed new.history) old.history.is_marked
marks_made {old = old} {new = new} was is again fresh = by_mark old.history.is_marked refl
  where
    by_mark : (b : Bool) → old.history.is_marked ≡ b → Marks (replayed old.history) (replayed new.history) b
    by_mark true on =
        let idle = idle_none old.history new.history (kept was is) (calls_same was is refl (again (sym was.mark_is ∙ on))) in
        record { time = idle.time; keeps = idle.keeps; marks = idle.marks; syncs = idle.syncs }
    by_mark false off =
        let more = marks_more was is (fresh (sym was.mark_is ∙ off)) in
        record {
          time = call_time old.history new.history marked (kept was is) more;
          keeps = call_keeps old.history new.history marked (kept was is) more refl;
          marks = call_marks old.history new.history marked (kept was is) more;
          syncs = call_syncs old.history new.history marked (kept was is) more;
        }

-- what a call leaves of a disk, whatever name was attached before it
module _ (first : Image) (log : Held) (tape : Tape) (plan : Plan) (attached other : Attached) (faults made : ℕ) {old : InMemory} (was : disk first log tape plan attached faults made ≡ old) where
  pub named_call : {new : InMemory} {Failed : Type 0} {by : ℕ} → IsCall Failed by (disk first log tape plan other faults made) new → IsCall Failed by old new
  named_call {new = new} {Failed = Failed} {by = by} call = subst (λ (d : InMemory). IsCall Failed by d new) was (record {
    time = let time = call.time in record {
      later = time.later;
      told = time.told;
      told_marks = time.told_marks;
      told_syncs = time.told_syncs;
      past = time.past;
      past_marks = time.past_marks;
      past_syncs = time.past_syncs;
    };
    marks = call.marks;
    syncs = call.syncs;
    cause = call.cause;
    calls = call.calls;
    plan = call.plan;
    bounds = call.bounds;
    planned = call.planned;
    full = call.full;
  })

  pub named_keeps : {now : Meaning} → Keeps (replayed (disk first log tape plan other faults made).history) now → Keeps (replayed old.history) now
  named_keeps {now = now} keeps = subst (λ (d : InMemory). Keeps (replayed d.history) now) was (record { content = keeps.content; during = keeps.during })

  pub named_records : {new : InMemory} {call : Call} → Records (disk first log tape plan other faults made) new call → Records old new call
  named_records {new = new} {call = call} records = subst (λ (d : InMemory). Records d new call) was (record {
    first = records.first;
    added = records.added;
    unmarked = records.unmarked;
    full = records.full;
    still = records.still;
  })
