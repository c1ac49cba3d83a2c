-- The App's `save`.
use Rattle.std.proofs.Common.{◌≡◌, ◌<◌, ℕ, Bool, true, false, List, length, refl, ◌∙◌, ap, arith}
use Rattle.std.specs.Prelude.{◌↔◌, nat_lt, not, Option, Some, None, if◌then◌else◌}
use Rattle.std.proofs.lemmas.Bool.Decides.{nat_tests}
use Rattle.sed_value.specs.declared.refusal.Refusal.{Refusal}
use Rattle.sed_value.specs.declared.refusal.Refusal.TheVariants.{OutOfMemory, SaveDevice, StoreFull}
use Rattle.sed_engine.specs.Code.{Meaning}
use Rattle.comp_tree.specs.Application.{Application}
use Rattle.comp_tree.specs.Edit.{is_save}
use Rattle.comp_tree.specs.Parts.{Kept}
use Rattle.comp_tree.specs.Refusals.{first_refusal, refusals_of_invoke}
use Rattle.app_file.specs.Text.{app_text}
use Rattle.sox_msg.specs.Answered.{Answered, refused}
use Rattle.sox_msg.specs.Answered as told
use Rattle.sox_msg.specs.Command.{Asked, add, read_part, delete, invoke, link, unlink, rename, reorder, read_slot, subscribe, unsubscribe, version, write, clear}
use Rattle.sox_serve.specs.Answer.{Answer, answer, asks_for_save, refused_by}
use Rattle.sox_serve.specs.Table.{refusals_of}
use Rattle.node_events.specs.Heard.{asks}
use Rattle.node_events.specs.Mishap.{Mishap, is_disk_failed, nothing_wrong, no_memory, disk_failed}
use Rattle.node_events.specs.Node.{Node, Setup}
use Rattle.node_events.specs.Saving.{answer_to_save, save_of}
use Rattle.node_events.specs.Serving.{Serving, by_save, done_by, lacks_memory, served}

no_true : false ≡ true → ⊥
no_true is = cc

module _ (m : Meaning) (s : Setup) (n : Node) (place : ℕ) where
  lacks_none : (id slot : ℕ) (argument : List ℕ) (mishap : Mishap) → lacks_memory m s n (invoke id slot argument) mishap ≡ false
  lacks_none id slot argument nothing_wrong = refl
  lacks_none id slot argument no_memory = refl
  lacks_none id slot argument disk_failed = refl

  -- the reply of an invoke that no row refuses
  no_reply : (id slot : ℕ) (argument : List ℕ) → is_save id slot ≡ true
      → first_refusal (refusals_of_invoke m n.application.components.by_id id slot argument) ≡ None
      → (answer m n.application (invoke id slot argument) s.turns n.sessions.moment).reply ≡ None
  no_reply id slot argument save none = rw (none, save) refl

  abbrev answered : ℕ → ℕ → List ℕ → Answer
  answered id slot argument = answer m n.application (invoke id slot argument) s.turns n.sessions.moment

  abbrev served_if : ℕ → ℕ → List ℕ → Mishap → Bool → Serving
  served_if id slot argument mishap b =
      done_by m s n place mishap (if b then refused_by n.application OutOfMemory else answered id slot argument)
      (if b then refused_by n.application OutOfMemory else answered id slot argument).reply

  saved_by : (id slot : ℕ) (argument : List ℕ) (mishap : Mishap) → is_save id slot ≡ true
      → first_refusal (refusals_of_invoke m n.application.components.by_id id slot argument) ≡ None
      → served m s n place (asks (invoke id slot argument)) mishap ≡ by_save n (save_of m s.slot n.application mishap)
  saved_by id slot argument mishap save none =
      ap (served_if id slot argument mishap) (lacks_none id slot argument mishap)
      ∙ ap (λ (reply : Option Answered). done_by m s n place mishap (answered id slot argument) reply) (no_reply id slot argument save none)

  pub save_served : (asked : Asked) (mishap : Mishap) → asks_for_save asked ≡ true → first_refusal (refusals_of m n.application asked) ≡ None
      → served m s n place (asks asked) mishap ≡ by_save n (save_of m s.slot n.application mishap)
  save_served (add parent kit kind name config) mishap save none = absurd (no_true save)
  save_served (read_part id part) mishap save none = absurd (no_true save)
  save_served (delete id) mishap save none = absurd (no_true save)
  save_served (invoke id slot argument) mishap save none = saved_by id slot argument mishap save none
  save_served (link source from_slot target to_slot) mishap save none = absurd (no_true save)
  save_served (unlink source from_slot target to_slot) mishap save none = absurd (no_true save)
  save_served (rename id name) mishap save none = absurd (no_true save)
  save_served (reorder id children) mishap save none = absurd (no_true save)
  save_served (read_slot id slot) mishap save none = absurd (no_true save)
  save_served (subscribe id mask) mishap save none = absurd (no_true save)
  save_served (unsubscribe id mask) mishap save none = absurd (no_true save)
  save_served version mishap save none = absurd (no_true save)
  save_served (write id slot value) mishap save none = absurd (no_true save)
  save_served (clear id) mishap save none = absurd (no_true save)

-- ---- too long

module _ (m : Meaning) (slot : ℕ) (a : Application) (mishap : Mishap) where
  abbrev size : ℕ
  size = length (app_text m (Kept m a))

  is_longer : nat_lt slot size ≡ true → slot < size
  is_longer is = grind (arith, nat_tests)

  longer_is : slot < size → nat_lt slot size ≡ true
  longer_is lt = grind (arith, nat_tests)

  not_full : (b : Bool) → (if b then told.done 73 else refused SaveDevice) ≡ refused StoreFull → ⊥
  not_full true is = no is
    where
      no : ◌≡◌ {A = Answered} (told.done 73) (refused StoreFull) → ⊥
      no is = cc
  not_full false is = no is
    where
      same : (x y : Refusal) → ◌≡◌ {A = Answered} (refused x) (refused y) → x ≡ y
      same x y is = cc

      no : ◌≡◌ {A = Answered} (refused SaveDevice) (refused StoreFull) → ⊥
      no is = let apart : SaveDevice ≡ StoreFull = same SaveDevice StoreFull is in cc

  by_size : (b : Bool) → answer_to_save (if b then None else Some (record { application = Kept m a; acknowledged = not (is_disk_failed mishap) })) ≡ refused StoreFull → b ≡ true
  by_size true is = refl
  by_size false is = absurd (not_full (not (is_disk_failed mishap)) is)

  pub full_is : (answer_to_save (save_of m slot a mishap) ≡ refused StoreFull) ↔ (slot < size)
  full_is = (
    λ is. is_longer (by_size (nat_lt slot size) is),
    λ lt. ap (λ (b : Bool). answer_to_save (if b then None else Some (record { application = Kept m a; acknowledged = not (is_disk_failed mishap) }))) (longer_is lt),
  )
