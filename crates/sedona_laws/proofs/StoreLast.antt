-- What a command with a store has asked when it ends, and what that did to the disk.
use Rattle.std.proofs.Common.{◌≡◌, ◌≢◌, ◌≤◌, ℕ, Bool, false, List, [], ◌∷◌, ◌++◌, length, Option, Some, refl, sym, ap, subst, ◌∙◌, inl, inr, arith}
use Rattle.std.specs.Prelude.{IsTrue}
use Rattle.sed_outside.specs.Cause.{Rose}
use Rattle.disk_model.specs.Disk.{Image, Attaches as IsAttach}
use Rattle.disk_model.specs.declared.disk.Disk.{Ghosts as DiskGhosts}
use Rattle.sed_outside.specs.Steps.{Read}
use Rattle.sedona_cli.specs.declared.refusal.Refusal.{Refusal}
use Rattle.sedona_cli.specs.declared.refusal.Refusal.TheVariants.{DeviceFault, StoreExists, NoStore}
use Rattle.sedona_cli.specs.Outside.{Ask, Reads, Writes, Attaches, Makes, Opens, Binds, Runs, Whole, NotEmpty, Failed, Found, NotAStore, Unread, Unheld, of_reads, AreAsked, IsAttached}
use Rattle.sedona_cli.specs.Program.{SparesDisk}
use Rattle.sedona_cli.proofs.Asking.{asked_behind}
use Rattle.sedona_cli.proofs.Ends.{some_refusal, no_refusal}
use Rattle.sedona_cli.proofs.StoreAsked.{of_refusal, EndsBy, Last, then_spares, opened_disk, found_disk}

-- ---- what that did to the disk

-- one thing behind reads
pub one_behind : {T : Type 0} (D : DiskGhosts T) (store : List ℕ) (done : Bool) (asks : List Ask) (reads : List Read) (d e : T) → asks ≡ of_reads reads ++ Attaches store done ∷ [] → AreAsked D asks d e
    → IsAttached store done (D.meaning d) (D.meaning e)
one_behind D store done asks reads d e is asked =
    let rest = asked_behind D reads (Attaches store done ∷ []) d e (subst (λ (a : List Ask). AreAsked D a d e) is asked) in
    subst (λ t. IsAttached store done (D.meaning d) (D.meaning t)) (sym rest.2) rest.1

then_rose : (a b c : ℕ) → a ≤ b → Rose b c → Rose a c
then_rose a b c later rose = omega arith

-- the name is attached
pub attach_last : {T : Type 0} (D : DiskGhosts T) (store : List ℕ) (ask : Ask) (end : Option Refusal) (d e : T) → EndsBy ask end → Last D store ask d e → IsAttach (D.meaning d).calls (D.meaning d).attached (D.meaning e).attached store
attach_last D store (Reads read) end d e ends last = absurd ends
attach_last D store (Writes name bytes how) end d e ends last = absurd ends
attach_last D store (Attaches name done) end d e ends last = absurd ends
attach_last D store (Makes slot text how) end d e ends last = subst (λ now. IsAttach (D.meaning d).calls (D.meaning d).attached now store) (sym last.asked.attached) last.attached.attached
attach_last D store (Opens how) end d e ends last = subst (λ now. IsAttach (D.meaning d).calls (D.meaning d).attached now store) (sym last.asked.attached) last.attached.attached
attach_last D store (Binds port done) end d e ends last = absurd ends
attach_last D store (Runs ran) end d e ends last = absurd ends

pub attach_one : {T : Type 0} (D : DiskGhosts T) (store : List ℕ) (asks : List Ask) (reads : List Read) (d e : T) → asks ≡ of_reads reads ++ Attaches store false ∷ [] → AreAsked D asks d e
    → IsAttach (D.meaning d).calls (D.meaning d).attached (D.meaning e).attached store
attach_one D store asks reads d e is asked = (one_behind D store false asks reads d e is asked).attached

-- the disk failed
not_four : (r s : Refusal) → ◌≡◌ {A = Option Refusal} (Some r) (Some s) → of_refusal s ≡ 5 → of_refusal r ≡ 4 → ⊥
not_four r s same five four = let five_is_four = sym (ap of_refusal (some_refusal r s same) ∙ five) ∙ four in omega (arith, five_is_four)

pub rose_last : {T : Type 0} (D : DiskGhosts T) (store : List ℕ) (ask : Ask) (r : Refusal) (d e : T) → EndsBy ask (Some r) → of_refusal r ≡ 4 → Last D store ask d e
    → Rose (D.meaning d).faults (D.meaning e).faults
rose_last D store (Reads read) r d e ends four last = absurd ends
rose_last D store (Writes name bytes how) r d e ends four last = absurd ends
rose_last D store (Attaches name done) r d e ends four last = absurd ends
rose_last D store (Makes slot text Whole) r d e ends four last = absurd (no_refusal r ends)
rose_last D store (Makes slot text NotEmpty) r d e ends four last = absurd (not_four r StoreExists ends refl four)
rose_last D store (Makes slot text Failed) r d e ends four last = then_rose _ _ _ last.attached.cause.later (last.asked.cause.failed refl)
rose_last D store (Opens (Found payload)) r d e (inl none) four last = absurd (no_refusal r none)
rose_last D store (Opens (Found payload)) r d e (inr (s, same, five)) four last = absurd (not_four r s same five four)
rose_last D store (Opens NotAStore) r d e ends four last = absurd (not_four r NoStore ends refl four)
rose_last D store (Opens Unread) r d e ends four last = then_rose _ _ _ last.attached.cause.later (last.asked.cause.failed refl)
rose_last D store (Opens Unheld) r d e ends four last = absurd ends
rose_last D store (Binds port done) r d e ends four last = absurd ends
rose_last D store (Runs ran) r d e ends four last = absurd ends

pub rose_unattached : {T : Type 0} (D : DiskGhosts T) (store : List ℕ) (asks : List Ask) (reads : List Read) (d e : T) → asks ≡ of_reads reads ++ Attaches store false ∷ [] → AreAsked D asks d e
    → Rose (D.meaning d).faults (D.meaning e).faults
rose_unattached D store asks reads d e is asked = (one_behind D store false asks reads d e is asked).cause.failed refl

not_unread : NotAStore ≢ Unread
not_unread same = cc

pub spared_last : {T : Type 0} (D : DiskGhosts T) (store : List ℕ) (ask : Ask) (r : Refusal) (d e : T) → EndsBy ask (Some r) → (of_refusal r ≡ 4 → ⊥) → Last D store ask d e → SparesDisk (D.meaning d) (D.meaning e)
spared_last D store (Reads read) r d e ends not last = absurd ends
spared_last D store (Writes name bytes how) r d e ends not last = absurd ends
spared_last D store (Attaches name done) r d e ends not last = absurd ends
spared_last D store (Makes slot text Whole) r d e ends not last = absurd (no_refusal r ends)
spared_last D store (Makes slot text NotEmpty) r d e ends not last =
    then_spares store (D.meaning d) (D.meaning last.between) (D.meaning e) last.attached last.asked.time
    (record { keeps = λ told. last.asked.kept told (last.asked.exists refl told); marks = last.asked.marks })
spared_last D store (Makes slot text Failed) r d e ends not last = absurd (not (ap of_refusal (some_refusal r DeviceFault ends)))
spared_last D store (Opens (Found payload)) r d e ends not last = found_disk D store payload d e last
spared_last D store (Opens NotAStore) r d e ends not last =
    then_spares store (D.meaning d) (D.meaning last.between) (D.meaning e) last.attached last.asked.time
    (opened_disk NotAStore (D.meaning last.between) (D.meaning e) not_unread last.asked)
spared_last D store (Opens Unread) r d e ends not last = absurd (not (ap of_refusal (some_refusal r DeviceFault ends)))
spared_last D store (Opens Unheld) r d e ends not last = absurd ends
spared_last D store (Binds port done) r d e ends not last = absurd ends
spared_last D store (Runs ran) r d e ends not last = absurd ends

-- ---- what `new` left

pub content_found : {T : Type 0} (D : DiskGhosts T) (store : List ℕ) (slot : ℕ) (text : List ℕ) (d e : T) → Last D store (Makes slot text NotEmpty) d e → IsTrue (D.meaning d).tells → length (D.meaning d).content ≢ 0
content_found D store slot text d e last told =
    let there = last.asked.exists refl (last.attached.time.told ∙ told) in
    subst (λ (i : Image). length i ≢ 0) (last.attached.keeps told).content there
