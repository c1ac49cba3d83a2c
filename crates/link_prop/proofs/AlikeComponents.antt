-- What leaves each component of its class leaves the links as good as they were.
use Rattle.std.proofs.Common.{ℕ, ℤ, ◌≡◌, ◌≢◌, Bool, true, false, inl, inr, refl, sym, ◌∙◌, ap, subst}
use Rattle.std.specs.Prelude.{Option, Some, None, Result, Ok, Err, IfOk, OnOk, OnErr, IsTrue, is_some, List, ◌==◌, if◌then◌else◌}
use Rattle.std.specs.Option.{option_map, option_and_then, option_map_or}
use Rattle.std.specs.FinMap as map
use Rattle.std.proofs.lemmas.Bool.{cases_eq}
use Rattle.sed_value.specs.declared.id.Id.{Id}
use Rattle.sed_value.specs.declared.refusal.Refusal.{Refusal}
use Rattle.sed_value.specs.declared.value.Value.{Value}
use Rattle.sed_value.specs.declared.value.Value.TheVariants.{Nothing}
use Rattle.sed_typed.specs.declared.number.SlotNo.{SlotNo}
use Rattle.sed_engine.specs.declared.call.Callback.{Callback as CallbackKind}
use Rattle.sed_engine.specs.declared.call.Callback.TheVariants.{Changed, Start}
use Rattle.sed_engine.specs.declared.call.Root.{Root}
use Rattle.sed_engine.specs.declared.call.Root.TheVariants.{Execute, Action, Callback}
use Rattle.sed_engine.specs.Code.{Meaning, slot_form, property_type, root_of}
use Rattle.sub_table.specs.Link.{Link}
use Rattle.comp_tree.specs.Application.{ById, Component, Components, change_at, is_live, object_of, type_at, with_components}
use Rattle.comp_tree.specs.Calls.{Call, callback_argument, ended, execute_at, not_run, run_at}
use Rattle.comp_tree.specs.Edits.{added, after_add, after_clear, after_invoke, after_rename, after_reorder, after_write, first_of, with_child, with_name, without_fault}
use Rattle.comp_tree.specs.Links.{has_changed, store, with_value}
use Rattle.comp_tree.specs.Order.{least_free}
use Rattle.comp_tree.specs.Refusals.{config_types, invoke_types, write_types}
use Rattle.comp_tree.specs.Values.{taken}
use Rattle.comp_tree.specs.Whole.{IsLink}
use Rattle.link_prop.specs.Linked.{AreLinked}
use Rattle.sed_value.proofs.Orders.{put_at, put_beside}

-- the class of a component
abbrev pub class_at : ById → ℕ → Option ℕ
class_at all id = option_map (λ (c : Component). c.class) (map.get all id)

-- the same components are live, each of the class that it was
abbrev pub AreAlike : ById → ById → Type 0
AreAlike before after = (id : ℕ) → class_at after id ≡ class_at before id

-- what was live stays so, of the class that it was
abbrev pub KeepsClasses : ById → ById → Type 0
KeepsClasses before after = (id k : ℕ) → class_at before id ≡ Some k → class_at after id ≡ Some k

-- ---- what follows

form_by_class : (m : Meaning) (o : Option Component) (slot : ℕ) → option_and_then (λ (c : Component). slot_form m c.class slot) o ≡ option_and_then (λ k. slot_form m k slot) (option_map (λ (c : Component). c.class) o)
form_by_class m None slot = refl
form_by_class m (Some c) slot = refl

there_by_class : (o : Option Component) → is_some o ≡ is_some (option_map (λ (c : Component). c.class) o)
there_by_class None = refl
there_by_class (Some c) = refl

class_there : (o : Option Component) → IsTrue (is_some o) → (k : ℕ) × (option_map (λ (c : Component). c.class) o ≡ Some k)
class_there None h = absurd (let k : false ≡ true = h in cc)
class_there (Some c) h = (c.class, refl)

-- a link whose two ends are of the classes that they were
module _ (m : Meaning) (before after : ById) where
  type_stays : (id slot : ℕ) → class_at after id ≡ class_at before id → type_at m after id slot ≡ type_at m before id slot
  type_stays id slot same =
      ap property_type
      (form_by_class m (map.get after id) slot ∙ ap (option_and_then (λ k. slot_form m k slot)) same
      ∙ sym (form_by_class m (map.get before id) slot))

  pub live_with_class : (id : ℕ) → class_at after id ≡ class_at before id → IsTrue (is_live before id) → IsTrue (is_live after id)
  live_with_class id same live =
      there_by_class (map.get after id) ∙ ap is_some same ∙ sym (there_by_class (map.get before id)) ∙ live

  pub link_with_classes : (l : Link) → class_at after l.from ≡ class_at before l.from → class_at after l.to ≡ class_at before l.to → IsLink m before l → IsLink m after l
  link_with_classes l from to is = record {
    from = live_with_class l.from from is.from;
    to = live_with_class l.to to is.to;
    typed = rw (type_stays l.from l.from_slot from, type_stays l.to l.to_slot to) is.typed;
  }

module _ (m : Meaning) (before after : ById) (keeps : KeepsClasses before after) where
  stays_at : (id : ℕ) → IsTrue (is_live before id) → class_at after id ≡ class_at before id
  stays_at id live =
      let k : (k : ℕ) × (class_at before id ≡ Some k) = class_there (map.get before id) live in
      keeps id k.0 k.1 ∙ sym k.1

  pub live_stays : (id : ℕ) → IsTrue (is_live before id) → IsTrue (is_live after id)
  live_stays id live = live_with_class m before after id (stays_at id live) live

  pub link_stays : (l : Link) → IsLink m before l → IsLink m after l
  link_stays l is = link_with_classes m before after l (stays_at l.from is.from) (stays_at l.to is.to) is

  pub links_stay : (links : List Link) → AreLinked m before links → AreLinked m after links
  links_stay links are = record { typed = λ k d lt. link_stays _ (are.typed k d lt); at_each = are.at_each }

-- ---- each change

pub alike_same : (all : ById) → AreAlike all all
alike_same all id = refl

pub alike_more : (a b c : ById) → AreAlike a b → AreAlike b c → AreAlike a c
alike_more a b c first next id = next id ∙ first id

pub alike_put : (all : ById) (id : ℕ) (c d : Component) → map.get all id ≡ Some c → d.class ≡ c.class → AreAlike all (map.insert all id d)
alike_put all id c d there same q = elim (cases_eq q id) [
  | inl is ↦
      ap (class_at (map.insert all id d)) is ∙ ap (option_map (λ (c : Component). c.class)) (put_at all id d)
      ∙ ap Some same ∙ ap (option_map (λ (c : Component). c.class)) (sym there) ∙ ap (class_at all) (sym is)
  | inr ne ↦ ap (option_map (λ (c : Component). c.class)) (put_beside all id d q ne)
]

module _ (all : ById) (id : ℕ) (change : Component → Component) (keeps : (c : Component) → (change c).class ≡ c.class) where
  changed : (o : Option Component) → map.get all id ≡ o → AreAlike all (option_map_or (λ (c : Component). map.insert all id (change c)) o all)
  changed None there = alike_same all
  changed (Some c) there = alike_put all id c (change c) there (keeps c)

  pub alike_change : AreAlike all (change_at all id change)
  alike_change = changed (map.get all id) refl

module _ (m : Meaning) (a : Components) (id : ℕ) (which : Root) (argument : Value) (turns : ℕ) (moment : ℤ) where
  ran : (c : Component) → map.get a.by_id id ≡ Some c → (b : Bool) → AreAlike a.by_id (if b then ended a id c (root_of m (object_of c) a.statics which argument turns moment) else not_run a turns).left.by_id
  ran c there true = alike_put a.by_id id c _ there refl
  ran c there false = alike_same a.by_id

  ran_if : (o : Option Component) → map.get a.by_id id ≡ o → AreAlike a.by_id (option_map_or (λ (c : Component). if c.fault == 0 then ended a id c (root_of m (object_of c) a.statics which argument turns moment) else not_run a turns) o (not_run a turns)).left.by_id
  ran_if None there = alike_same a.by_id
  ran_if (Some c) there = ran c there (c.fault == 0)

  pub alike_run : AreAlike a.by_id (run_at m a id which argument turns moment).left.by_id
  alike_run = ran_if (map.get a.by_id id) refl

pub alike_write : (m : Meaning) (a : Components) (id slot : ℕ) (value : List ℕ) (turns : ℕ) (moment : ℤ) → AreAlike a.by_id (after_write m a id slot value turns moment).by_id
alike_write m a id slot value turns moment = after (has_changed m a stored id slot)
  where
    stored : Components
    stored = store m a id slot (first_of (taken (write_types m a.by_id id slot) value))

    alike_stored : AreAlike a.by_id stored.by_id
    alike_stored = alike_change a.by_id id (with_value m slot (first_of (taken (write_types m a.by_id id slot) value))) (λ c. refl)

    after : (b : Bool) → AreAlike a.by_id (if b then (Call m stored id Changed slot turns moment).left else stored).by_id
    after true = alike_more a.by_id stored.by_id _ alike_stored (alike_run m stored id (Callback Changed) (callback_argument Changed slot) turns moment)
    after false = alike_stored

-- a new component takes an id that was free; its parent is of its class as before
module _ (m : Meaning) (a : Components) (id parent class : ℕ) (name : List ℕ) (values : List Value) (free : map.get a.by_id id ≡ None) where
  not_free : (q k : ℕ) → class_at a.by_id q ≡ Some k → q ≢ id
  not_free q k e is =
      let gone : class_at a.by_id q ≡ None = ap (class_at a.by_id) is ∙ ap (option_map (λ (c : Component). c.class)) free in
      absurd (let no : ◌≡◌ {A = Option ℕ} (Some k) None = sym e ∙ gone in cc)

  pub kept_added : KeepsClasses a.by_id (added m a.by_id id parent class name values)
  kept_added q k e =
      ap (option_map (λ (c : Component). c.class)) (put_beside (change_at a.by_id parent (with_child id)) id _ q (not_free q k e))
      ∙ alike_change a.by_id parent (with_child id) (λ c. refl) q ∙ e

  pub kept_after_add : (turns : ℕ) (moment : ℤ) → KeepsClasses a.by_id (Call m (with_components a (added m a.by_id id parent class name values)) id Start 0 turns moment).left.by_id
  kept_after_add turns moment q k e =
      alike_run m (with_components a (added m a.by_id id parent class name values)) id (Callback Start) (callback_argument Start 0) turns moment q
      ∙ kept_added q k e

-- ---- the links after each call

module _ (m n : Meaning) (a b : Components) (links : List Link) (was : AreLinked m a.by_id links) (same : n ≡ m) where
  pub linked_where : (after : Components) → b ≡ after → KeepsClasses a.by_id after.by_id → AreLinked n b.by_id links
  linked_where after is keeps =
      subst (λ m. AreLinked m b.by_id links) (sym same)
      (subst (λ (c : Components). AreLinked m c.by_id links) (sym is) (links_stay m a.by_id after.by_id keeps links was))

  pub linked_if : (after : Components) → b ≡ after → AreAlike a.by_id after.by_id → AreLinked n b.by_id links
  linked_if after is alike = linked_where after is (λ id k e. alike id ∙ e)

  pub linked_same : b ≡ a → AreLinked n b.by_id links
  linked_same is = linked_if a is (alike_same a.by_id)

  pub linked_after_rename : (id : ℕ) (name : List ℕ) → b ≡ after_rename a id name → AreLinked n b.by_id links
  linked_after_rename id name is = linked_if _ is (alike_change a.by_id id (with_name name) (λ c. refl))

  pub linked_after_reorder : (id : ℕ) (children : List ℕ) → b ≡ after_reorder a id children → AreLinked n b.by_id links
  linked_after_reorder id children is = linked_if _ is (alike_change a.by_id id _ (λ c. refl))

  pub linked_after_clear : (id : ℕ) → b ≡ after_clear a id → AreLinked n b.by_id links
  linked_after_clear id is = linked_if _ is (alike_change a.by_id id without_fault (λ c. refl))

  pub linked_after_write : (id slot : ℕ) (value : List ℕ) (turns : ℕ) (moment : ℤ) → b ≡ after_write m a id slot value turns moment → AreLinked n b.by_id links
  linked_after_write id slot value turns moment is = linked_if _ is (alike_write m a id slot value turns moment)

  pub linked_after_invoke : (id : ℕ) (slot : SlotNo) (argument : List ℕ) (turns : ℕ) (moment : ℤ) → b ≡ (after_invoke m a id slot argument turns moment).left → AreLinked n b.by_id links
  linked_after_invoke id slot argument turns moment is =
      linked_if _ is (alike_run m a id (Action slot) (first_of (taken (invoke_types m a.by_id id slot.0) argument)) turns moment)

  pub linked_after_execute : (id turns : ℕ) (moment : ℤ) → b ≡ (execute_at m a id turns moment).left → AreLinked n b.by_id links
  linked_after_execute id turns moment is = linked_if _ is (alike_run m a id Execute Nothing turns moment)

  pub linked_after_callback : (id : ℕ) (c : CallbackKind) (slot turns : ℕ) (moment : ℤ) → b ≡ (Call m a id c slot turns moment).left → AreLinked n b.by_id links
  linked_after_callback id c slot turns moment is = linked_if _ is (alike_run m a id (Callback c) (callback_argument c slot) turns moment)

  pub linked_after_add : (parent class : ℕ) (name config : List ℕ) (turns : ℕ) (moment : ℤ) → map.get a.by_id (least_free a.by_id) ≡ None
      → b ≡ (after_add m a parent class name config turns moment).left → AreLinked n b.by_id links
  linked_after_add parent class name config turns moment free is =
      linked_where _ is
      (kept_after_add m a (least_free a.by_id) parent class name (taken (config_types m class) config) free turns moment)

-- ---- what is said of a result, whichever it is

pub after_result : {T X P Q R : Type 0} (r : Result T X) → OnOk r P → OnErr r Q → (P → R) → (Q → R) → R
after_result (Ok x) p q f g = f p
after_result (Err e) p q f g = g q

-- a new component's id is the least free one, and free
pub after_added : {P Q R : Type 0} (all : ById) (least : ℕ) (r : Result Id Refusal) → IfOk r (λ id. id.0 ≡ least)
    → IfOk r (λ id. map.get all id.0 ≡ None) → OnOk r P → OnErr r Q → (map.get all least ≡ None → P → R) → (Q → R) → R
after_added all least (Ok id) same free p q f g = f (subst (λ id. map.get all id ≡ None) same free) p
after_added all least (Err e) same free p q f g = g q
