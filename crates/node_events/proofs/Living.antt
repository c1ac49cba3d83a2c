-- What is live after a command or a cycle. What neither has added was live before.
use Rattle.std.proofs.Common.{◌≡◌, ℕ, inl, inr, Bool, true, false, List, [], ◌∷◌, refl, sym, ◌∙◌, ap}
use Rattle.std.specs.Prelude.{ℤ, Option, Some, None, is_some, if◌then◌else◌}
use Rattle.std.specs.FinMap as map
use Rattle.std.specs.List.{fold}
use Rattle.std.specs.Option.{option_map_or}
use Rattle.std.proofs.lemmas.Bool.{cases_eq}
use Rattle.sed_value.specs.declared.value.Value.{Value}
use Rattle.sed_value.specs.declared.value.Value.TheVariants.{Nothing}
use Rattle.sed_engine.specs.declared.call.Callback.TheVariants.{Changed}
use Rattle.sed_engine.specs.declared.call.Root.{Root}
use Rattle.sed_engine.specs.declared.call.Root.TheVariants.{Callback, Execute}
use Rattle.sed_engine.specs.Code.{Meaning}
use Rattle.comp_tree.specs.Application.{Application, ById, Component, Components, Link, change_at, is_live}
use Rattle.comp_tree.specs.Calls.{Call, Counted, callback_argument, run_at, then_run}
use Rattle.comp_tree.specs.Cycle.{Cycle, visit}
use Rattle.comp_tree.specs.Links.{copy, copy_along, copy_into, has_changed, links_into}
use Rattle.comp_tree.specs.Order.{depth_first}
use Rattle.comp_tree.proofs.MapLemmas.{get_beside, get_put}
use Rattle.comp_tree.proofs.RunLemmas.{run_alike}

-- what is not live after was not live before
abbrev pub Stays : ById → ById → Type 0
Stays before after = (q : ℕ) → is_live after q ≡ false → is_live before q ≡ false

pub put_stays : (all : ById) (id : ℕ) (c : Component) → Stays all (map.insert all id c)
put_stays all id c q dead = elim (cases_eq q id) [
  | inl e ↦
      absurd (
      let live : is_live (map.insert all id c) q ≡ true = ap (is_live (map.insert all id c)) e ∙ ap is_some (get_put all id c) in
      let no : true ≡ false = sym live ∙ dead in
      cc)
  | inr ne ↦ sym (ap is_some (get_beside all id c q ne)) ∙ dead
]

pub change_stays : (all : ById) (id : ℕ) (change : Component → Component) → Stays all (change_at all id change)
change_stays all id change = by_component (map.get all id)
  where
    by_component : (r : Option Component) → Stays all (option_map_or (λ (c : Component). map.insert all id (change c)) r all)
    by_component None = λ q dead. dead
    by_component (Some c) = put_stays all id (change c)

pub run_stays : (m : Meaning) (a : Components) (id : ℕ) (which : Root) (argument : Value) (turns : ℕ) (moment : ℤ)
    → Stays a.by_id (run_at m a id which argument turns moment).left.by_id
run_stays m a id which argument turns moment q dead = sym (run_alike is_some (λ k e. refl) m a id which argument turns moment q) ∙ dead

-- ---- a cycle

module _ (m : Meaning) (links : List Link) (turns : ℕ) (moment : ℤ) where
  along_stays : (s : Counted) (l : Link) → Stays s.left.by_id (copy_along m turns moment s l).left.by_id
  along_stays s l = by_test (has_changed m s.left (copy m s.left l) l.to l.to_slot)
    where
      copied : Stays s.left.by_id (copy m s.left l).by_id
      copied = change_stays s.left.by_id l.to _

      by_test : (b : Bool) → Stays s.left.by_id (if b then then_run (record { left = copy m s.left l; traps = s.traps }) (λ a. Call m a l.to Changed l.to_slot turns moment) else record { left = copy m s.left l; traps = s.traps }).left.by_id
      by_test true = λ q dead. copied q (run_stays m (copy m s.left l) l.to (Callback Changed) (callback_argument Changed l.to_slot) turns moment q dead)
      by_test false = copied

  copies_stay : (some : List Link) (s : Counted) → Stays s.left.by_id (fold (copy_along m turns moment) s some).left.by_id
  copies_stay [] s = λ q dead. dead
  copies_stay (l ∷ some) s = λ q dead. along_stays s l q (copies_stay some (copy_along m turns moment s l) q dead)

  visit_stays : (s : Counted) (id : ℕ) → Stays s.left.by_id (visit m links turns moment s id).left.by_id
  visit_stays s id = λ q dead.
      copies_stay (links_into id links) s q (run_stays m (copy_into m links turns moment s id).left id Execute Nothing turns moment q dead)

  visits_stay : (ids : List ℕ) (s : Counted) → Stays s.left.by_id (fold (visit m links turns moment) s ids).left.by_id
  visits_stay [] s = λ q dead. dead
  visits_stay (id ∷ ids) s = λ q dead. visit_stays s id q (visits_stay ids (visit m links turns moment s id) q dead)

pub cycle_stays : (m : Meaning) (a : Application) (turns : ℕ) (moment : ℤ) → Stays a.components.by_id (Cycle m a turns moment).application.components.by_id
cycle_stays m a turns moment = visits_stay m a.links turns moment (depth_first a.components.by_id) (record { left = a.components; traps = 0 })
