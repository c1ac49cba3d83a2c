-- What a run of a node leaves of its store.
use Rattle.std.proofs.Common.{◌≡◌, ◌≤◌, ◌<◌, ◌+◌, ◌-◌, ℕ, true, List, [], ◌∷◌, refl, sym, ap, subst, ◌∙◌, inl, inr, arith}
use Rattle.std.specs.Prelude.{IsTrue}
use Rattle.std.proofs.lemmas.Bool.{cases_lt}
use Rattle.disk_model.specs.Disk.{Image, IsDisk, Meaning}
use Rattle.disk_model.specs.declared.disk.Disk.{Ghosts as DiskGhosts}
use Rattle.app_save.specs.Run.{IsRun}
use Rattle.app_save.specs.Saving.{AllOpen, AllStores}
use Rattle.app_save.specs.Store.{IsStore, Opens as IsOpen}
use Rattle.app_file.specs.Opens.{Opens as OpensTo}
use Rattle.app_file.specs.Reading.{IsFile}
use Rattle.comp_tree.specs.Application.{Application}
use Rattle.node_events.specs.Saving.{Save}
use Rattle.sed_engine.specs.Code.{Meaning as Code}
use Rattle.sed_node.specs.Handling.{AreSaved}
use Rattle.sed_node.specs.Running.{ComesTo, IsSince, OpensSince, acknowledged_in}
use Rattle.sedona_cli.specs.Nodes.{LeavesStore}
use Rattle.sedona_cli.specs.Outside.{Ran, reached, saves_in, HoldsPayload}
use Rattle.sedona_cli.specs.Program.{SparesDisk}
use Rattle.sedona_cli.proofs.ReplayAsked.{RanOn}
use Rattle.sedona_cli.proofs.ShowSteps.{behind_sync}
use Rattle.sedona_cli.proofs.StoreAsked.{found_disk}

-- a store opens to one payload
pub record OpensOnce : Type 0 where
  pub slot : (S T : ℕ) (image : Image) → IsStore S image → IsStore T image → S ≡ T
  pub payload : (S : ℕ) (image : Image) (p q : List ℕ) → IsOpen S image p → IsOpen S image q → p ≡ q

-- what a read gives is one of the images that a crash now may leave
abbrev pub IsLawful : {T : Type 0} → DiskGhosts T → Type 0
IsLawful {T} D = (x : T) → IsDisk (D.meaning x)

-- ---- what a crash leaves

-- the store that is opened begins a run of saves
begins : OpensOnce → (slot S : ℕ) (payload : List ℕ) (m : Meaning) → AllOpen S payload m → AllStores slot m → IsRun slot payload [] m m
begins once slot S payload m opens stores = record {
  later = omega arith;
  made = omega arith;
  each = λ u c from to left.
      let same : u ≡ m.now = omega (arith, from, to) in
      let now : m.leaves m.now c = subst (λ (n : ℕ). m.leaves n c) same left in
      let sizes : S ≡ slot = once.slot S slot c (opens c now).store (stores c now) in
      record {
        payload = payload;
        opens = subst (λ (n : ℕ). IsOpen n c payload) sizes (opens c now);
        is_entry = record { k = 0; there = omega arith; not_before = (let none = ap m.marks same in omega (arith, none)); is = refl };
      };
}

-- what was opened counts as acknowledged
first_since : (a : Application) (ran : Ran) (marks : ℕ) → marks ≡ 0 → IsSince (saves_in a ran) marks a
first_since a ran marks none = record {
  before = [];
  save = record { application = a; acknowledged = true };
  later = (reached ran).saves;
  parted = refl;
  is = refl;
  not_before = omega (arith, none);
}

-- saves make a mark each where they are acknowledged, and else none
saves_mark : {T : Type 0} (meaning : T → Meaning) (m : Code) (slot : ℕ) (saves : List Save) (d e : T) → AreSaved meaning m slot saves d e → IsTrue (meaning d).tells_marks
    → (meaning e).marks (meaning e).now ≡ (meaning d).marks (meaning d).now + acknowledged_in saves
saves_mark meaning m slot [] d e same told = let here : (meaning e).marks (meaning e).now ≡ (meaning d).marks (meaning d).now = ap (λ x. (meaning x).marks (meaning x).now) same in omega (arith, here)
saves_mark meaning m slot (save ∷ saves) d e are told =
    let first = (are.1.marks told).at_end in
    let later = saves_mark meaning m slot saves are.0 e are.3 (are.2.told_marks ∙ told) in
    omega (arith, first, later)

-- the application of a payload, whatever its limit is said by
own_limit : (m : Code) (limit : ℕ) (payload : List ℕ) (a : Application) → IsFile m limit payload a → IsFile m a.components.limit payload a
own_limit m limit payload a is = subst (λ (n : ℕ). IsFile m n payload a) (sym is.under) is

-- a run on a store that was attached and opened, whose payload is the file of an application
pub record HeldRun {T : Type 0} (D : DiskGhosts T) (store : List ℕ) (limit : ℕ) (a : Application) (ran : Ran) (d e : T) : Type 0 where
  pub payload : List ℕ
  pub is_file : IsFile ran.code limit payload a
  pub on : RanOn D store payload ran d e

module _ {T : Type 0} (once : OpensOnce) (D : DiskGhosts T) (law : IsLawful D) (store : List ℕ) (limit : ℕ) (a : Application) (ran : Ran) (d e : T) (held : HeldRun D store limit a ran d e) where
  -- the disks between
  abbrev b : Meaning
  b = D.meaning held.on.last.between

  abbrev c : Meaning
  c = D.meaning held.on.middle

  holds : IsTrue (D.meaning d).tells → HoldsPayload held.payload b c
  holds told = held.on.last.asked.found held.payload refl (held.on.last.attached.time.told ∙ told)

  opens_at_first : IsTrue (D.meaning d).tells → OpensTo ran.code limit (D.meaning d).content a
  opens_at_first told =
      let h = holds told in
      record { size = h.0; payload = held.payload; store = subst (λ (i : Image). IsOpen h.0 i held.payload) (held.on.last.attached.keeps told).content h.1; file = held.is_file }

  spared : SparesDisk (D.meaning d) c
  spared = found_disk D store held.payload d held.on.middle held.on.last

  told_c : IsTrue (D.meaning d).tells → IsTrue c.tells
  told_c told = held.on.last.asked.time.told ∙ held.on.last.attached.time.told ∙ told

  marks_c : IsTrue (D.meaning d).tells_marks → IsTrue c.tells_marks
  marks_c told = held.on.last.asked.time.told_marks ∙ held.on.last.attached.time.told_marks ∙ told

  syncs_c : IsTrue (D.meaning d).tells_syncs → IsTrue c.tells_syncs
  syncs_c told = held.on.last.asked.time.told_syncs ∙ held.on.last.attached.time.told_syncs ∙ told

  crashes_open : IsTrue (D.meaning d).tells → IsTrue (D.meaning d).tells_marks → IsTrue (D.meaning d).tells_syncs
      → (moment : ℕ) (image : Image) → moment ≤ (D.meaning e).now → (D.meaning d).syncs (D.meaning d).now < (D.meaning e).syncs moment
      → (D.meaning d).now ≤ moment → (D.meaning e).leaves moment image
      → OpensSince ran.code (saves_in a ran) ((D.meaning e).marks moment - (D.meaning d).marks (D.meaning d).now) image
  crashes_open told told_marks told_syncs moment image to later from left = elim (cases_lt moment c.now) [
    | inl in_first ↦
        let here : c.leaves moment image = (held.on.run.time.past (told_c told) moment image (omega (arith, in_first))).0 left in
        let syncs = held.on.run.time.past_syncs (syncs_c told_syncs) moment (omega (arith, in_first)) in
        let is = behind_sync D store held.payload d held.on.middle held.on.last told told_syncs moment image from (omega (arith, in_first)) (omega (arith, later, syncs)) here in
        let marks = held.on.run.time.past_marks (marks_c told_marks) moment (omega (arith, in_first)) in
        let none = (spared.marks told_marks).until moment from in_first in
        let h = holds told in
        record {
          application = a;
          since = first_since a ran _ (omega (arith, marks, none));
          opens = record { size = h.0; payload = held.payload; store = subst (λ (i : Image). IsOpen h.0 i held.payload) (sym is) h.1; file = own_limit ran.code limit held.payload a held.is_file };
        }
    | inr in_second ↦
        let h = holds told in
        let start = begins once ran.setup.slot h.0 held.payload c h.2 (held.on.run.slots (told_c told)) in
        let none = (spared.marks told_marks).at_end in
        let same : c.marks c.now ≡ (D.meaning d).marks (D.meaning d).now = omega (arith, none) in
        subst (λ (n : ℕ). OpensSince ran.code (saves_in a ran) ((D.meaning e).marks moment - n) image) same
        (held.on.run.crashes (told_c told) (marks_c told_marks) held.on.middle a held.payload (own_limit ran.code limit held.payload a held.is_file) start moment image in_second to left)
  ]

  -- the count of the disk's faults stays while the store is attached and opened
  comes_from_first : ComesTo true ran.entries (D.meaning d).faults (D.meaning e).faults ran.events
  comes_from_first =
      subst (λ (n : ℕ). ComesTo true ran.entries n (D.meaning e).faults ran.events)
      (held.on.last.asked.cause.steady (λ same. cc) ∙ held.on.last.attached.cause.steady (λ same. cc)) held.on.run.comes

  -- what is opened stands in slots of the run's size
  slots_of : IsTrue (D.meaning d).tells → IsStore ran.setup.slot (D.meaning d).content
  slots_of told =
      let same : c.content ≡ (D.meaning d).content = held.on.last.asked.content (held.on.last.attached.time.told ∙ told) (λ e. cc) ∙ (held.on.last.attached.keeps told).content in
      subst (λ (i : Image). IsStore ran.setup.slot i) same (held.on.run.slots (told_c told) c.content (law held.on.middle (told_c told)))

  -- the marks that were made are those of the saves
  marks_made : IsTrue (D.meaning d).tells_marks
      → (D.meaning e).marks (D.meaning e).now + 1 ≡ (D.meaning d).marks (D.meaning d).now + acknowledged_in (saves_in a ran)
  marks_made told =
      let first = (spared.marks told).at_end in
      let later = saves_mark D.meaning ran.code ran.setup.slot (reached ran).saves held.on.middle e held.on.run.saved (marks_c told) in
      omega (arith, first, later)

  pub leaves_store : LeavesStore limit a ran (D.meaning d) (D.meaning e)
  leaves_store = record { comes = comes_from_first; slots = slots_of; opens = opens_at_first; made = marks_made; crashes = crashes_open }
