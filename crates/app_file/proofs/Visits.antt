-- What a cycle and a begin leave of a whole application.
use Rattle.std.proofs.Common.{ℕ, ℤ, Bool, true, false}
use Rattle.std.specs.Prelude.{IsTrue, List, [], ◌∷◌, ◌==◌, if◌then◌else◌}
use Rattle.std.specs.List.{All, fold}
use Rattle.std.proofs.lemmas.List.Elements.{All-filter, All-head, All-tail}
use Rattle.sed_value.specs.declared.value.Value.{Value}
use Rattle.sed_value.specs.declared.value.Value.TheVariants.{Nothing}
use Rattle.sed_engine.specs.declared.call.Callback.{Callback as CallbackKind}
use Rattle.sed_engine.specs.declared.call.Callback.TheVariants.{Changed, Start}
use Rattle.sed_engine.specs.declared.call.Root.TheVariants.{Callback, Execute}
use Rattle.sed_engine.specs.Code.{Meaning, Object, may_store, with_slot}
use Rattle.sed_engine.specs.Whole.{IsObject, IsWhole}
use Rattle.sub_table.specs.Link.{Link}
use Rattle.comp_tree.specs.Application.{Application, Components}
use Rattle.comp_tree.specs.Calls.{Call, Counted, callback_argument, then_run}
use Rattle.comp_tree.specs.Cycle.{Begin, Cycle, visit}
use Rattle.comp_tree.specs.Links.{copy, copy_along, copy_into, has_changed, links_into}
use Rattle.comp_tree.specs.Order.{depth_first}
use Rattle.comp_tree.specs.Whole.{IsLink, Whole}
use Rattle.app_file.proofs.RootCalls.{whole_copy, whole_run}

module _ (m : Meaning) (code : IsWhole m) (stored : (o : Object) (slot : ℕ) (v : Value) → IsObject m o → IsTrue (may_store m o.class slot v) → IsObject m (with_slot m o slot v))
    (links : List Link) (turns : ℕ) (moment : ℤ) where
  abbrev with : Components → Application
  with components = record { components = components; links = links }

  whole_along : (s : Counted) (l : Link) → Whole m (with s.left) → IsLink m s.left.by_id l → Whole m (with (copy_along m turns moment s l).left)
  whole_along s l whole is = by_test (has_changed m s.left (copy m s.left l) l.to l.to_slot)
    where
      copied : Whole m (with (copy m s.left l))
      copied = whole_copy m code (with s.left) whole stored l is

      by_test : (b : Bool) → Whole m (with (if b then then_run (record { left = copy m s.left l; traps = s.traps }) (λ a. Call m a l.to Changed l.to_slot turns moment) else record { left = copy m s.left l; traps = s.traps }).left)
      by_test true = whole_run m code (with (copy m s.left l)) copied l.to (Callback Changed) (callback_argument Changed l.to_slot) turns moment
      by_test false = copied

  whole_copies : (some : List Link) → ((P : Link → Type 0) → All P links → All P some) → (s : Counted) → Whole m (with s.left) → Whole m (with (fold (copy_along m turns moment) s some).left)
  whole_copies [] among s whole = whole
  whole_copies (l ∷ some) among s whole =
      whole_copies some (λ P all. All-tail P l some (among P all)) (copy_along m turns moment s l)
      (whole_along s l whole (All-head (IsLink m s.left.by_id) l some (among (IsLink m s.left.by_id) whole.formed.links)))

  pub whole_into : (s : Counted) (id : ℕ) → Whole m (with s.left) → Whole m (with (copy_into m links turns moment s id).left)
  whole_into s id = whole_copies (links_into id links) (λ P all. All-filter (λ (l : Link). l.to == id) P links all) s

  whole_visit : (s : Counted) (id : ℕ) → Whole m (with s.left) → Whole m (with (visit m links turns moment s id).left)
  whole_visit s id whole =
      whole_run m code (with (copy_into m links turns moment s id).left) (whole_into s id whole) id Execute Nothing turns moment

  whole_visits : (ids : List ℕ) (s : Counted) → Whole m (with s.left) → Whole m (with (fold (visit m links turns moment) s ids).left)
  whole_visits [] s whole = whole
  whole_visits (id ∷ ids) s whole = whole_visits ids (visit m links turns moment s id) (whole_visit s id whole)

-- a callback of one component after another
module _ (m : Meaning) (code : IsWhole m) (links : List Link) (c : CallbackKind) (turns : ℕ) (moment : ℤ) where
  pub whole_calls : (ids : List ℕ) (s : Counted) → Whole m (record { components = s.left; links = links })
      → Whole m (record { components = (fold (λ (s : Counted) (id : ℕ). then_run s (λ a. Call m a id c 0 turns moment)) s ids).left; links = links })
  whole_calls [] s whole = whole
  whole_calls (id ∷ ids) s whole =
      whole_calls ids (then_run s (λ a. Call m a id c 0 turns moment))
      (whole_run m code (record { components = s.left; links = links }) whole id (Callback c) (callback_argument c 0) turns moment)

module _ (m : Meaning) (code : IsWhole m) (stored : (o : Object) (slot : ℕ) (v : Value) → IsObject m o → IsTrue (may_store m o.class slot v) → IsObject m (with_slot m o slot v))
    (a : Application) (turns : ℕ) (moment : ℤ) (whole : Whole m a) where
  pub whole_cycle : Whole m (Cycle m a turns moment).application
  whole_cycle = whole_visits m code stored a.links turns moment (depth_first a.components.by_id) (record { left = a.components; traps = 0 }) whole

  pub whole_begin : Whole m (Begin m a turns moment).application
  whole_begin = whole_calls m code a.links Start turns moment (depth_first a.components.by_id) (record { left = a.components; traps = 0 }) whole
