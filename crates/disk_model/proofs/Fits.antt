-- Room in a record, by its entries and by the calls that they are.
use Rattle.std.proofs.Common.{◌≡◌, ◌<◌, ◌≤◌, ℕ, List, [], ◌∷◌, length, sum_by, refl, ◌∙◌, ap, arith, length-drop}
use Rattle.std.proofs.lemmas.List.{length-take-le}
use Rattle.std.proofs.lemmas.List.Sums.{sum_by-cons}
use Rattle.disk_model.specs.Replay.{calls_by, bytes_by, InMemory, HasRoom, HasBytes}
use Rattle.disk_model.specs.Held.{Held}
use Rattle.disk_model.specs.Recorded.{call_of, bytes_behind, calls_of, size_of, is_call, FitsLog}
use Rattle.disk_model.specs.declared.journal.Entry.{Entry}
use Rattle.disk_model.specs.declared.journal.Entry.TheVariants.{Wrote, Synced, Other, Marked}
use Rattle.disk_model.proofs.Entries.{counted_calls, behind_is}

bytes_call : (log : List ℕ) (e : Entry) → size_of e ≤ length log → bytes_by (call_of log e) ≡ size_of e
bytes_call log (Wrote at len) le = length-take-le len log le
bytes_call log Synced le = refl
bytes_call log Other le = refl
bytes_call log Marked le = refl

bytes_calls : (log : List ℕ) (entries : List Entry) → sum_by size_of entries ≤ length log → sum_by bytes_by (calls_of log entries) ≡ sum_by size_of entries
bytes_calls log [] le = refl
bytes_calls log (e ∷ entries) le =
    let whole = sum_by-cons size_of e entries in
    let calls = sum_by-cons bytes_by (call_of log e) (calls_of (bytes_behind log e) entries) in
    let size = ap length (behind_is log e) ∙ length-drop (size_of e) log in
    let first = bytes_call log e (omega (arith, le, whole)) in
    let rest = bytes_calls (bytes_behind log e) entries (omega (arith, le, whole, size)) in
    omega (arith, whole, calls, first, rest)

module _ (d : InMemory) (log : List ℕ) (entries : List Entry) (is : calls_of log entries ≡ d.history.calls) where
  module _ (limit : ℕ) (same : limit ≡ d.bounds.limit) where
    count : sum_by is_call entries ≡ sum_by calls_by d.history.calls
    count = let counted = counted_calls log entries in let calls = ap (sum_by calls_by) is in omega (arith, counted, calls)

    pub has_room : HasRoom d → sum_by is_call entries < limit
    has_room room = omega (arith, count, same, room)

    pub room_is : sum_by is_call entries < limit → HasRoom d
    room_is room = omega (arith, count, same, room)

  module _ (held : Held) (same : held.room ≡ d.bounds.room) (bytes_are : held.bytes ≡ log) (size : length log ≡ sum_by size_of entries) (at n : ℕ) where
    bytes : length held.bytes ≡ sum_by bytes_by d.history.calls
    bytes = let all = bytes_calls log entries (omega (arith, size)) in let calls = ap (sum_by bytes_by) is in let held_is = ap length bytes_are in omega (arith, all, calls, size, held_is)

    pub has_bytes : HasBytes d at n → FitsLog held at n
    has_bytes fits = record { file = let f = fits.file in omega (arith, f, same); all = let a = fits.all in omega (arith, a, same, bytes) }

    pub bytes_fit : FitsLog held at n → HasBytes d at n
    bytes_fit fits = record { file = let f = fits.file in omega (arith, f, same); all = let a = fits.all in omega (arith, a, same, bytes) }
