-- What is found in a tree, and what its calls come to.
use Rattle.std.proofs.Common.{ℕ, ◌≡◌, ◌≢◌, true, false, not, refl, sym, ◌∙◌, ap, subst, List, [], ◌∷◌, length, map as map_list, arith}
use Rattle.std.specs.Prelude.{Option, Some, None, is_some, is_none, IfSome, IsSomeAnd, IsTrue, if◌then◌else◌, slice_get, sum_by, codes}
use Rattle.std.specs.Option.{option_and_then, option_map, option_map_or}
use Rattle.std.specs.FinMap as map
use Rattle.std.specs.Ordering.{nat_cmp}
use Rattle.std.specs.Cmp.{nat_cmp_total}
use Rattle.sed_value.specs.declared.id.Id.{Id}
use Rattle.sed_value.specs.declared.refusal.Refusal.{Refusal}
use Rattle.sed_value.specs.declared.refusal.Refusal.TheVariants.{NoComponent, NoSlot, WrongKindOfSlot}
use Rattle.sed_value.specs.declared.slot_type.SlotType.{SlotType}
use Rattle.sed_typed.specs.declared.schema.SlotForm.{SlotForm}
use Rattle.sed_typed.specs.declared.schema.SlotForm.TheVariants.{Prop, Action}
use Rattle.sed_typed.specs.Schemas.{type_at as class_numbered}
use Rattle.sed_typed.specs.SysTypes.{app_type}
use Rattle.sed_engine.specs.Code.{Meaning, Object, Places, data_of, is_property, property_type, slot_form}
use Rattle.comp_tree.specs.declared.entry.Entry.{Entry}
use Rattle.node_table.specs.declared.node.Node.{Node}
use Rattle.comp_tree.specs.Application.{ById, Component, children_of, data_size_of, object_of}
use Rattle.comp_tree.specs.Edits.{app_class, app_component}
use Rattle.comp_tree.specs.Held.{Nodes, IsPlaced, by_id_of, component_of, contents_at}
use Rattle.comp_tree.specs.Refusals.{first_refusal, refusals_of_read}
use Rattle.comp_tree.specs.Told.{IsEntry}
use Rattle.comp_tree.proofs.HeldLemmas.{get-by_id, by_id-put, component_with, placed_add}

at_some : {A : Type 0} (r : Option A) (x : A) (P : A → Type 0) → r ≡ Some x → P x → IsSomeAnd r P
at_some {A} r x P e h = subst (λ (y : Option A). IsSomeAnd y P) (sym e) h

of_some : {A : Type 0} (r : Option A) (x : A) (P : A → Type 0) → r ≡ Some x → IfSome r P → P x
of_some {A} r x P e h = subst (λ (y : Option A). IfSome y P) e h

-- ---- no component

pub no_component : (live : Places) (nodes : Nodes) (id : ℕ) → map.get nodes id ≡ None → map.get (by_id_of live nodes) id ≡ None
no_component live nodes id none = get-by_id live nodes id ∙ ap (option_map (component_of live)) none

-- the first refusal of a read, by the component that is there
first_of_form : Option SlotForm → Option Refusal
first_of_form form = if is_none form then Some NoSlot else if is_none (property_type form) then Some WrongKindOfSlot else None

read_refusal : Meaning → ℕ → Option Component → Option Refusal
read_refusal m slot r =
    first_refusal ((not (is_some r), NoComponent)
    ∷ (is_none (option_and_then (λ (c : Component). slot_form m c.class slot) r), NoSlot)
    ∷ (is_none (property_type (option_and_then (λ (c : Component). slot_form m c.class slot) r)), WrongKindOfSlot) ∷ [])

read_refusal_is : (m : Meaning) (all : ById) (id slot : ℕ) → first_refusal (refusals_of_read m all id slot) ≡ read_refusal m slot (map.get all id)
unfolding read_refusal
read_refusal_is m all id slot = refl

pub refused_no_component : (m : Meaning) (live : Places) (nodes : Nodes) (id slot : ℕ) → map.get nodes id ≡ None → first_refusal (refusals_of_read m (by_id_of live nodes) id slot) ≡ Some NoComponent
unfolding read_refusal
refused_no_component m live nodes id slot none =
    read_refusal_is m (by_id_of live nodes) id slot ∙ ap (read_refusal m slot) (no_component live nodes id none)

-- ---- a component

module _ (m : Meaning) (live : Places) (nodes : Nodes) (id : ℕ) (n : Node) (found : map.get nodes id ≡ Some n) where
  pub component_is : map.get (by_id_of live nodes) id ≡ Some (component_of live n)
  component_is = get-by_id live nodes id ∙ ap (option_map (component_of live)) found

  pub children_are : (k : ℕ) → slice_get (children_of (by_id_of live nodes) id) k ≡ slice_get n.children k
  children_are k = ap (λ r. slice_get (option_map_or (λ (c : Component). c.children) r []) k) component_is

  refused_by_form : (slot : ℕ) (form : Option SlotForm) → slot_form m n.kind.0 slot ≡ form → first_refusal (refusals_of_read m (by_id_of live nodes) id slot) ≡ first_of_form form
  unfolding read_refusal first_of_form
  refused_by_form slot form is = read_refusal_is m (by_id_of live nodes) id slot ∙ ap (read_refusal m slot) component_is ∙ ap first_of_form is

  pub refused_no_slot : (slot : ℕ) → slot_form m n.kind.0 slot ≡ None → first_refusal (refusals_of_read m (by_id_of live nodes) id slot) ≡ Some NoSlot
  unfolding first_of_form
  refused_no_slot slot is = refused_by_form slot None is

  pub refused_action : (slot : ℕ) (a : _) → slot_form m n.kind.0 slot ≡ Some (Action a) → first_refusal (refusals_of_read m (by_id_of live nodes) id slot) ≡ Some WrongKindOfSlot
  unfolding first_of_form
  refused_action slot a is = refused_by_form slot (Some (Action a)) is

  pub allowed_property : (slot : ℕ) (t : SlotType) → slot_form m n.kind.0 slot ≡ Some (Prop t) → first_refusal (refusals_of_read m (by_id_of live nodes) id slot) ≡ None
  unfolding first_of_form
  allowed_property slot t is = refused_by_form slot (Some (Prop t)) is

pub no_children : (live : Places) (nodes : Nodes) (id k : ℕ) → map.get nodes id ≡ None → slice_get (children_of (by_id_of live nodes) id) k ≡ None
no_children live nodes id k none = ap (λ r. slice_get (option_map_or (λ (c : Component). c.children) r []) k) (no_component live nodes id none)

module _ (m : Meaning) (live : Places) (nodes : Nodes) (was : IsPlaced m live nodes) (id : ℕ) (n : Node) (found : map.get nodes id ≡ Some n) where
  object_is : (o : Object) → map.get live n.place.0 ≡ Some o → o.class ≡ n.kind.0 → object_of (component_of live n) ≡ o
  object_is o at class =
      let contents : contents_at live n.place.0 ≡ o.contents = ap (λ r. option_map_or (λ (x : Object). x.contents) r []) at in
      λ i. record { class = (sym class) i; contents = contents i }

  pub kept_here : map.get live n.place.0 ≡ Some (object_of (component_of live n))
  kept_here = let here = was.placed id n found in here.1 ∙ ap Some (sym (object_is here.0 here.1 here.2))

  pub entry_is : (e : Entry) → e.kind ≡ n.kind → e.name ≡ n.name → e.parent ≡ n.parent → e.children ≡ length n.children → e.fault ≡ n.fault → e.place ≡ n.place →
      IsSomeAnd (map.get (by_id_of live nodes) id) (IsEntry live e)
  entry_is e kind name parent children fault place =
      at_some (map.get (by_id_of live nodes) id) (component_of live n) (IsEntry live e) (component_is m live nodes id n found) (record {
        kind = ap (λ k. k.0) kind;
        name = name;
        parent = ap (option_map (λ (i : Id). i.0)) parent;
        children = children;
        fault = fault;
        place = ap (λ p. map.get live p.0) place ∙ kept_here;
      })

  pub property_is : (slot : ℕ) (t : SlotType) → slot_form m n.kind.0 slot ≡ Some (Prop t) → IsSomeAnd (map.get live n.place.0) (λ o. IsTrue (is_property m o.class slot))
  property_is slot t is =
      at_some (map.get live n.place.0) (object_of (component_of live n)) (λ o. IsTrue (is_property m o.class slot)) kept_here
      (ap (λ form. option_map_or (λ (x : SlotType). true) (property_type form) false) is)

  pub component_there : IsSomeAnd (map.get live n.place.0) (λ o. option_map object_of (map.get (by_id_of live nodes) id) ≡ Some o)
  component_there =
      at_some (map.get live n.place.0) (object_of (component_of live n)) (λ o. option_map object_of (map.get (by_id_of live nodes) id) ≡ Some o) kept_here
      (ap (option_map object_of) (component_is m live nodes id n found))

-- ---- the App

pub app_class_is : (m : Meaning) (class : ℕ) → class_numbered m.schema.classes 0 app_type ≡ Some class → app_class m ≡ class
app_class_is m class is = ap (λ r. option_map_or (λ (c : ℕ). c) r 0) is

no_node : (nodes : Nodes) → nodes ≡ map.empty → (q : ℕ) (n : Node) → map.get nodes q ≡ Some n → ⊥
no_node nodes none q n found = let no : ◌≡◌ {A = Option Node} None (Some n) = sym (map.get-empty nat_cmp q) ∙ ap (λ k. map.get k q) (sym none) ∙ found in cc

no_entries : {A : Type 0} (es : List (ℕ × A)) → length es ≡ 0 → es ≡ []
no_entries [] e = refl
no_entries (x ∷ es) e = absurd (omega arith)

-- an engine without live places has no data
pub no_data : (m : Meaning) (live : Places) → live ≡ map.empty → data_of m live ≡ 0
no_data m live none =
    let entries : map.entries live ≡ [] = no_entries (map.entries live) (sym (map.len-entries live) ∙ ap map.len none ∙ map.len-empty nat_cmp Object) in
    ap (λ (es : List (ℕ × Object)). sum_by (λ (o : Object). m.data_size o.class) (map_list (λ e. e.1) es)) entries

pub no_size : (m : Meaning) (all : ById) → all ≡ map.empty → data_size_of m all ≡ 0
no_size m all none =
    let entries : map.entries all ≡ [] = no_entries (map.entries all) (sym (map.len-entries all) ∙ ap map.len none ∙ map.len-empty nat_cmp Component) in
    ap (λ (es : List (ℕ × Component)). sum_by (λ (c : Component). m.data_size c.class) (map_list (λ e. e.1) es)) entries

module _ (m : Meaning) (live : Places) (nodes : Nodes) (none : live ≡ map.empty) (no : nodes ≡ map.empty) where
  pub by_id_none : by_id_of live nodes ≡ map.empty
  by_id_none = map.same_map nat_cmp_total map.nat_cmp-IsAntisymmetric _ _ (λ q.
      get-by_id live nodes q ∙ ap (option_map (component_of live)) (ap (λ k. map.get k q) no ∙ map.get-empty nat_cmp q) ∙ sym (map.get-empty nat_cmp q))

  pub placed_none : IsPlaced m live nodes
  placed_none = record {
    placed = λ q n found. absurd (no_node nodes no q n found);
    apart = λ q r n k found other same. absurd (no_node nodes no q n found);
    count = ap map.len none ∙ map.len-empty nat_cmp Object ∙ sym (ap map.len no ∙ map.len-empty nat_cmp Node);
    sizes = no_data m live none ∙ sym (no_size m (by_id_of live nodes) by_id_none);
  }

  pub place_free : (place : ℕ) → map.get live place ≡ None
  place_free place = ap (λ l. map.get l place) none ∙ map.get-empty nat_cmp place

-- the first node and its object
module _ (m : Meaning) (live left : Places) (nodes after : Nodes) (none : live ≡ map.empty) (no : nodes ≡ map.empty) (n : Node) (o : Object) (class : o.class ≡ n.kind.0) (live_is : left ≡ map.insert live n.place.0 o) (nodes_is : after ≡ map.insert nodes 0 n) where
  nobody : (q : ℕ) (k : Node) → q ≢ 0 → map.get nodes q ≡ Some k → k.place.0 ≢ n.place.0
  nobody q k ne found = absurd (no_node nodes no q k found)

  pub placed_first : IsPlaced m left after
  placed_first =
      subst (λ (l : Places). IsPlaced m l after) (sym live_is) (subst (IsPlaced m (map.insert live n.place.0 o)) (sym nodes_is)
      (placed_add m live nodes (placed_none m live nodes none no) 0 n o class nobody (ap (λ k. map.get k 0) no ∙ map.get-empty nat_cmp 0) (place_free m live nodes none no n.place.0)))

  pub first_by_id : by_id_of left after ≡ map.insert map.empty 0 (component_with n o.contents)
  first_by_id =
      ap (λ l. by_id_of l after) live_is ∙ ap (by_id_of (map.insert live n.place.0 o)) nodes_is ∙ by_id-put live nodes 0 n o nobody
      ∙ ap (λ a. map.insert a 0 (component_with n o.contents)) (by_id_none m live nodes none no)

  pub app_first : n.name ≡ codes "app" → n.parent ≡ None → n.children ≡ [] → n.fault ≡ 0 → o.contents ≡ m.initial n.kind.0 → app_class m ≡ n.kind.0 →
      by_id_of left after ≡ map.insert map.empty 0 (app_component m)
  app_first name parent children fault contents app =
      let same : component_with n o.contents ≡ app_component m = λ i. record {
        class = (sym app) i;
        name = name i;
        parent = (ap (option_map (λ (id : Id). id.0)) parent) i;
        children = children i;
        contents = (contents ∙ ap m.initial (sym app)) i;
        fault = fault i;
      } in
      first_by_id ∙ ap (map.insert map.empty 0) same
