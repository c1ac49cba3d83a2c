-- The calls that entries are, when there is one entry more.
use Rattle.std.proofs.Common.{◌≡◌, ◌⊎◌, inl, inr, ◌+◌, ◌-◌, ◌≤◌, ℕ, Bool, true, false, IsTrue, List, [], ◌∷◌, ◌++◌, length, take, drop, sum_by, refl, sym, ◌∙◌, ap, subst, arith, length-drop}
use Rattle.std.proofs.lemmas.Bool.{cases_lt}
use Rattle.std.proofs.lemmas.List.{take-append-le, take_all, drop-append-le, drop_at, drop-drop}
use Rattle.std.proofs.lemmas.List.Sums.{sum_by-append, sum_by-cons}
use Rattle.disk_model.specs.Disk.{Image}
use Rattle.disk_model.specs.Held.{Held}
use Rattle.disk_model.specs.Written.{written}
use Rattle.disk_model.specs.Replay.{Call, wrote, calls_by, State, begun, after, after_all}
use Rattle.disk_model.specs.Recorded.{Tape, with_entry, with_mark, Tries, call_of, bytes_behind, calls_of, size_of, is_call, IsRecord}
use Rattle.disk_model.specs.declared.journal.Entry.{Entry}
use Rattle.disk_model.specs.declared.journal.Entry.TheVariants.{Wrote, Synced, Other, Marked}
use Rattle.disk_model.proofs.Steps.{after_push}

pub behind_is : (log : List ℕ) (e : Entry) → bytes_behind log e ≡ drop (size_of e) log
behind_is log (Wrote at len) = refl
behind_is log Synced = refl
behind_is log Other = refl
behind_is log Marked = refl

-- the bytes of the last entry's write are behind those of the others
pub calls_push : (log : List ℕ) (entries : List Entry) (e : Entry) → calls_of log (entries ++ e ∷ []) ≡ calls_of log entries ++ call_of (drop (sum_by size_of entries) log) e ∷ []
calls_push log [] e = refl
calls_push log (d ∷ entries) e =
    let on = calls_push (bytes_behind log d) entries e in
    let skipped : drop (sum_by size_of entries) (bytes_behind log d) ≡ drop (size_of d + sum_by size_of entries) log = ap (drop (sum_by size_of entries)) (behind_is log d) ∙ drop-drop (sum_by size_of entries) (size_of d) log in
    ap (λ (l : List Call). call_of log d ∷ l) (on ∙ ap (λ (b : List ℕ). calls_of (bytes_behind log d) entries ++ call_of b e ∷ []) (skipped ∙ ap (λ (n : ℕ). drop n log) (sym (sum_by-cons size_of d entries))))

call_same : (log more : List ℕ) (e : Entry) → size_of e ≤ length log → call_of (log ++ more) e ≡ call_of log e
call_same log more (Wrote at len) le = ap (wrote at) (take-append-le len log more le)
call_same log more Synced le = refl
call_same log more Other le = refl
call_same log more Marked le = refl

-- more bytes in the log leave what is recorded
pub calls_kept : (log more : List ℕ) (entries : List Entry) → sum_by size_of entries ≤ length log → calls_of (log ++ more) entries ≡ calls_of log entries
calls_kept log more [] le = refl
calls_kept log more (d ∷ entries) le =
    let whole = sum_by-cons size_of d entries in
    let first : size_of d ≤ length log = omega (arith, le, whole) in
    let rest : sum_by size_of entries ≤ length (bytes_behind log d) = let size = ap length (behind_is log d) ∙ length-drop (size_of d) log in omega (arith, le, size, whole) in
    let behind : bytes_behind (log ++ more) d ≡ bytes_behind log d ++ more = behind_is (log ++ more) d ∙ drop-append-le (size_of d) log more first ∙ ap (λ (l : List ℕ). l ++ more) (sym (behind_is log d)) in
    ap (λ (c : Call). c ∷ calls_of (bytes_behind (log ++ more) d) entries) (call_same log more d first)
    ∙ ap (λ (l : List Call). call_of log d ∷ l) (ap (λ (b : List ℕ). calls_of b entries) behind ∙ calls_kept (bytes_behind log d) more entries rest)

-- a write is recorded with its bytes
pub calls_write : (log bytes : List ℕ) (entries : List Entry) (at : ℕ) → length log ≡ sum_by size_of entries → calls_of (log ++ bytes) (entries ++ (Wrote at (length bytes)) ∷ []) ≡ calls_of log entries ++ wrote at bytes ∷ []
calls_write log bytes entries at size =
    calls_push (log ++ bytes) entries (Wrote at (length bytes))
    ∙ ap (λ (b : List ℕ). calls_of (log ++ bytes) entries ++ wrote at b ∷ []) (ap (take (length bytes)) (drop_at log bytes (sum_by size_of entries) size) ∙ take_all (length bytes) bytes (omega arith))
    ∙ ap (λ (l : List Call). l ++ wrote at bytes ∷ []) (calls_kept log bytes entries (omega (arith, size)))

counted_call : (log : List ℕ) (e : Entry) → calls_by (call_of log e) ≡ is_call e
counted_call log (Wrote at len) = refl
counted_call log Synced = refl
counted_call log Other = refl
counted_call log Marked = refl

pub counted_calls : (log : List ℕ) (entries : List Entry) → sum_by calls_by (calls_of log entries) ≡ sum_by is_call entries
counted_calls log [] = refl
counted_calls log (e ∷ entries) =
    let rest = counted_calls (bytes_behind log e) entries in
    let first = counted_call log e in
    let left = sum_by-cons calls_by (call_of log e) (calls_of (bytes_behind log e) entries) in
    let right = sum_by-cons is_call e entries in
    omega (arith, rest, first, left, right)

-- an entry that writes nothing
pub record IsQuiet (e : Entry) : Type 0 where
  pub size : size_of e ≡ 0
  pub same : (log : List ℕ) (s : State) → (after s (call_of log e)).content ≡ s.content

pub other_is_quiet : IsQuiet Other
other_is_quiet = record { size = refl; same = λ log s. refl }

pub synced_is_quiet : IsQuiet Synced
synced_is_quiet = record { size = refl; same = λ log s. refl }

pub marked_is_quiet : IsQuiet Marked
marked_is_quiet = record { size = refl; same = λ log s. refl }

pub quiet_record : (first : Image) (file log name : Held) (entries : List Entry) (e : Entry) → IsQuiet e → IsRecord first file log name entries → IsRecord first file log name (entries ++ e ∷ [])
quiet_record first file log name entries e quiet is = record {
  kept =
      let calls = calls_of log.bytes entries in
      let last = call_of (drop (sum_by size_of entries) log.bytes) e in
      is.kept ∙ sym (quiet.same (drop (sum_by size_of entries) log.bytes) (after_all (begun first) calls))
      ∙ ap (λ (s : State). s.content) (sym (after_push (begun first) calls last))
      ∙ ap (λ (l : List Call). (after_all (begun first) l).content) (sym (calls_push log.bytes entries e));
  logged = let size = sum_by-append size_of entries (e ∷ []) in let none = quiet.size in let so_far = is.logged in omega (arith, so_far, size, none);
  rooms = is.rooms;
  name_room = is.name_room;
}

-- a call that was tried is recorded, or the record is as it was
abbrev pub IsTried : Tape → Tape → Entry → Type 0
IsTried old new entry = (new ≡ with_entry old entry) ⊎ (new ≡ old)

pub tried : {old new : Tape} {e : Entry} → Tries old new e → IsTried old new e
tried {old = old} tries = elim (cases_lt (sum_by is_call old.entries) old.limit) [
  | inl room ↦ inl (tries.added room)
  | inr full ↦ inr (tries.full (λ room. omega (arith, room, full)))
]

pub tried_record : (first : Image) (file log name : Held) (before now : Tape) → IsTried before now Other → IsRecord first file log name before.entries → IsRecord first file log name now.entries
tried_record first file log name before now (inl is) record_is = subst (λ (t : Tape). IsRecord first file log name t.entries) (sym is) (quiet_record first file log name before.entries Other other_is_quiet record_is)
tried_record first file log name before now (inr is) record_is = subst (λ (t : Tape). IsRecord first file log name t.entries) (sym is) record_is

pub write_record : (first : Image) (file log name : Held) (entries : List Entry) (at : ℕ) (bytes : List ℕ) (file_now log_now : Held) → file_now ≡ record { bytes = written file.bytes at bytes; room = file.room } → log_now ≡ record { bytes = log.bytes ++ bytes; room = log.room }
    → IsRecord first file log name entries → IsRecord first file_now log_now name (entries ++ (Wrote at (length bytes)) ∷ [])
write_record first file log name entries at bytes file_now log_now file_is log_is is = record {
  kept =
      ap (λ (h : Held). h.bytes) file_is
      ∙ ap (λ (i : Image). written i at bytes) is.kept
      ∙ ap (λ (s : State). s.content) (sym (after_push (begun first) (calls_of log.bytes entries) (wrote at bytes)))
      ∙ ap (λ (l : List Call). (after_all (begun first) l).content) (sym (calls_write log.bytes bytes entries at is.logged) ∙ ap (λ (h : Held). calls_of h.bytes (entries ++ (Wrote at (length bytes)) ∷ [])) (sym log_is));
  logged =
      let size = sum_by-append size_of entries ((Wrote at (length bytes)) ∷ []) in
      let so_far = is.logged in
      let long = ap (λ (h : Held). length h.bytes) log_is ∙ Rattle.std.proofs.Common.length-append log.bytes bytes in
      omega (arith, so_far, size, long);
  rooms = let a = ap (λ (h : Held). h.room) file_is in let b = ap (λ (h : Held). h.room) log_is in let r = is.rooms in omega (arith, a, b, r);
  name_room = is.name_room;
}

pub quiet_entry : (first : Image) (file log name : Held) (before now : Tape) (e : Entry) → IsQuiet e → now ≡ with_entry before e → IsRecord first file log name before.entries → IsRecord first file log name now.entries
quiet_entry first file log name before now e quiet is record_is = subst (λ (t : Tape). IsRecord first file log name t.entries) (sym is) (quiet_record first file log name before.entries e quiet record_is)

-- another name in the same room
pub renamed : (first : Image) (file log name other_name : Held) (bytes : List ℕ) (entries : List Entry) → other_name ≡ record { bytes = bytes; room = name.room } → IsRecord first file log name entries → IsRecord first file log other_name entries
renamed first file log name other_name bytes entries is record_is = record {
  kept = record_is.kept;
  logged = record_is.logged;
  rooms = record_is.rooms;
  name_room = let room = ap (λ (h : Held). h.room) is in let was = record_is.name_room in omega (arith, room, was);
}

pub unwritten : (first : Image) (file log name file_now log_now : Held) (before now : Tape) → IsTried before now Other → (file_now ≡ file) × (log_now ≡ log) → IsRecord first file log name before.entries → IsRecord first file_now log_now name now.entries
unwritten first file log name file_now log_now before now tried same is =
    subst (λ (h : Held). IsRecord first h log_now name now.entries) (sym same.0) (subst (λ (h : Held). IsRecord first file h name now.entries) (sym same.1) (tried_record first file log name before now tried is))

pub write_entry : (first : Image) (file log name file_now log_now : Held) (before now : Tape) (at : ℕ) (bytes : List ℕ) → now ≡ with_entry before (Wrote at (length bytes)) → file_now ≡ record { bytes = written file.bytes at bytes; room = file.room } → log_now ≡ record { bytes = log.bytes ++ bytes; room = log.room }
    → IsRecord first file log name before.entries → IsRecord first file_now log_now name now.entries
write_entry first file log name file_now log_now before now at bytes is file_is log_is record_is =
    subst (λ (t : Tape). IsRecord first file_now log_now name t.entries) (sym is) (write_record first file log name before.entries at bytes file_now log_now file_is log_is record_is)

mark_entry : (first : Image) (file log name : Held) (before now : Tape) (b : Bool) → before.is_marked ≡ b → (IsTrue before.is_marked → now ≡ before) → (before.is_marked ≡ false → now ≡ with_mark before)
    → IsRecord first file log name before.entries → IsRecord first file log name now.entries
mark_entry first file log name before now true b again fresh is = subst (λ (t : Tape). IsRecord first file log name t.entries) (sym (again b)) is
mark_entry first file log name before now false b again fresh is = subst (λ (t : Tape). IsRecord first file log name t.entries) (sym (fresh b)) (quiet_record first file log name before.entries Marked marked_is_quiet is)

pub marked_record : (first : Image) (file log name : Held) (before now : Tape) → (IsTrue before.is_marked → now ≡ before) → (before.is_marked ≡ false → now ≡ with_mark before) → IsRecord first file log name before.entries → IsRecord first file log name now.entries
marked_record first file log name before now = mark_entry first file log name before now before.is_marked (Rattle.std.proofs.Common.refl)
