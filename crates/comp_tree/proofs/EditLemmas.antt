-- What is changed of a component that is live, and when a name, an order, a value or an argument is refused.
use Rattle.std.proofs.Common.{ℕ, ◌≡◌, ◌≢◌, Bool, true, false, not, List, [], ◌∷◌, ◌++◌, length, ◌≤◌, ◌<◌, refl, sym, ◌∙◌, ap, subst, arith}
use Rattle.std.specs.Prelude.{Option, Some, None, IfSome, IsSome, IsSomeAnd, IsTrue, is_some, is_none, ◌==◌, ◌&&◌, if◌then◌else◌}
use Rattle.std.specs.Option.{option_and_then, option_map, option_map_or, option_to_list}
use Rattle.std.specs.List.{list_any}
use Rattle.std.specs.Str.{bytes_eq}
use Rattle.std.specs.FinMap as map
use Rattle.std.proofs.lemmas.Bool.Decides.{nat_tests}
use Rattle.sed_value.specs.Names.{is_name}
use Rattle.sed_value.specs.Value.{goes_to}
use Rattle.sed_value.specs.declared.id.Id.{Id}
use Rattle.sed_value.specs.declared.refusal.Refusal.{Refusal}
use Rattle.sed_value.specs.declared.refusal.Refusal.TheVariants.{AppItself, BadName, BadValue, BufferTooLong, Faulted, NameTaken, NoComponent, NoSlot, NotTheChildren, WrongKindOfSlot}
use Rattle.sed_value.specs.declared.slot_type.SlotType.{SlotType}
use Rattle.sed_value.specs.declared.value.Value.{Value}
use Rattle.sed_value.specs.declared.value.Value.TheVariants.{Nothing}
use Rattle.sed_typed.specs.declared.schema.ActionArg.{ActionArg}
use Rattle.sed_typed.specs.declared.schema.SlotForm.{SlotForm}
use Rattle.sed_typed.specs.declared.schema.SlotForm.TheVariants.{Prop, Action}
use Rattle.sed_engine.specs.declared.call.Root.TheVariants.{Action as ActionRoot}
use Rattle.sed_engine.specs.declared.engine.Engine.{Ghosts}
use Rattle.sed_engine.specs.Code.{Meaning, Object, Places, action_takes, is_argument, is_property, may_call, may_store, property_type, slot_form, slot_type, slot_value, with_slot}
use Rattle.node_table.specs.declared.node.Node.{Node}
use Rattle.comp_tree.specs.Application.{ById, Component, Components, change_at, children_of, name_of, object_of, parent_of, value_at, with_components}
use Rattle.comp_tree.specs.Held.{Held, IsHeld, IsTreeOf, Nodes, IsPlaced, by_id_of, children_in, component_of, components_of, contents_at, name_in}
use Rattle.comp_tree.specs.Links.{has_changed, store, with_value}
use Rattle.node_table.specs.Read.{AreTaken, IsRefusedValue}
use Rattle.comp_tree.specs.Refusals.{action_argument, invoke_types, are_each_once, argument_types, first_refusal, ids_of, is_other_child_named, refusals_of_invoke, refusals_of_read, refusals_of_rename, refusals_of_reorder, refusals_of_write, write_types}
use Rattle.node_table.specs.Same.{is_same_value}
use Rattle.comp_tree.specs.Told.{IsGreatest}
use Rattle.comp_tree.specs.Values.{are_bad_values, have_long_buffer, taken}
use Rattle.comp_tree.proofs.HeldLemmas.{get-by_id, component_with}
use Rattle.comp_tree.proofs.MapLemmas.{get_put, put_same}
use Rattle.comp_tree.proofs.NodeTrees.{tree_alike, tree_order}
use Rattle.comp_tree.proofs.RunLemmas.{by_id_after, by_id_node, placed_after, placed_node}
use Rattle.comp_tree.proofs.TreeLemmas.{component_is, kept_here, no_component}

-- ---- a node with one part changed

pub of_found : {A : Type 0} (r : Option A) (x : A) (P : A → Type 0) → r ≡ Some x → IfSome r P → P x
of_found {A} r x P e h = subst (λ (y : Option A). IfSome y P) e h

module _ {E : Type 0} (g : Ghosts E) (h : Held E) (was : IsPlaced (g.meaning h.engine) (g.live h.engine) h.nodes) (id : ℕ) (n : Node) (found : map.get h.nodes id ≡ Some n)
    (change : Node → Node) (kind : (change n).kind ≡ n.kind) (place : (change n).place ≡ n.place)
    (after : Nodes) (nodes_are : IfSome (map.get h.nodes id) (λ k. after ≡ map.insert h.nodes id (change k))) where
  nodes_changed : after ≡ map.insert h.nodes id (change n)
  nodes_changed = of_found _ n (λ k. after ≡ map.insert h.nodes id (change k)) found nodes_are

  pub placed_changed : IsPlaced (g.meaning h.engine) (g.live h.engine) after
  placed_changed = placed_node (g.meaning h.engine) (g.live h.engine) h.nodes was id n found after (change n) kind place nodes_changed

  pub held_changed : (change n).parent ≡ n.parent → (change n).children ≡ n.children → IsTreeOf h.nodes → IsHeld (g.meaning h.engine) (g.live h.engine) after
  held_changed parent children tree = record {
    placed = placed_changed;
    tree = subst IsTreeOf (sym nodes_changed) (tree_alike h.nodes id n (change n) found parent children tree);
  }

  pub held_ordered : (change n).parent ≡ n.parent → are_each_once n.children (change n).children ≡ true → IsTreeOf h.nodes → IsHeld (g.meaning h.engine) (g.live h.engine) after
  held_ordered parent each tree = record {
    placed = placed_changed;
    tree = subst IsTreeOf (sym nodes_changed) (tree_order h.nodes id n (change n) found parent each tree);
  }

  pub changed_is : (with : Component → Component) → component_with (change n) (contents_at (g.live h.engine) n.place.0) ≡ with (component_of (g.live h.engine) n)
      → components_of g (record { engine = h.engine; nodes = after }) ≡ with_components (components_of g h) (change_at (components_of g h).by_id id with)
  changed_is with is =
      let same = by_id_node (g.meaning h.engine) (g.live h.engine) h.nodes was id n found after (change n) kind place nodes_changed
      ∙ ap (map.insert (by_id_of (g.live h.engine) h.nodes) id) is
      ∙ sym (ap (λ r. option_map_or (λ (c : Component). map.insert (by_id_of (g.live h.engine) h.nodes) id (with c)) r (by_id_of (g.live h.engine) h.nodes)) (component_is (g.meaning h.engine) (g.live h.engine) h.nodes id n found)) in
      λ i. record { by_id = same i; statics = g.statics h.engine; limit = g.limit h.engine }

-- ---- what is live

pub live_same : (live : Places) (nodes : Nodes) (id : ℕ) → is_some (map.get (by_id_of live nodes) id) ≡ is_some (map.get nodes id)
live_same live nodes id = ap is_some (get-by_id live nodes id) ∙ by_node (map.get nodes id)
  where
    by_node : (r : Option Node) → is_some (option_map (component_of live) r) ≡ is_some r
    by_node None = refl
    by_node (Some n) = refl

pub greatest_is : (live : Places) (nodes : Nodes) (id : ℕ) → IsSome (map.get nodes id) → ((other : ℕ) → IsSome (map.get nodes other) → other ≤ id) → IsGreatest (by_id_of live nodes) id
greatest_is live nodes id there above = record {
  live = live_same live nodes id ∙ there;
  greatest = λ other live_other. above other (sym (live_same live nodes other) ∙ live_other);
}

-- ---- names

pub node_is : (live : Places) (nodes : Nodes) (id : ℕ) (n : Node) → map.get nodes id ≡ Some n → map.get (by_id_of live nodes) id ≡ Some (component_of live n)
node_is live nodes id n found = get-by_id live nodes id ∙ ap (option_map (component_of live)) found

pub mapped_or : {A B C : Type 0} (f : A → B) (k : B → C) (d : C) (r : Option A) → option_map_or k (option_map f r) d ≡ option_map_or (λ x. k (f x)) r d
mapped_or f k d None = refl
mapped_or f k d (Some x) = refl

pub name_is : (live : Places) (nodes : Nodes) (id : ℕ) → name_of (by_id_of live nodes) id ≡ name_in nodes id
name_is live nodes id =
    ap (λ r. option_map_or (λ (c : Component). c.name) r []) (get-by_id live nodes id) ∙ mapped_or (component_of live) (λ (c : Component). c.name) [] (map.get nodes id)

pub children_is : (live : Places) (nodes : Nodes) (id : ℕ) → children_of (by_id_of live nodes) id ≡ children_in nodes id
children_is live nodes id =
    ap (λ r. option_map_or (λ (c : Component). c.children) r []) (get-by_id live nodes id) ∙ mapped_or (component_of live) (λ (c : Component). c.children) [] (map.get nodes id)

pub no_name : (name : List ℕ) → ◌≡◌ {A = Option (List ℕ)} None (if is_name name then Some name else None) → is_name name ≡ false
no_name name e = by_test (is_name name) e
  where
    by_test : (b : Bool) → ◌≡◌ {A = Option (List ℕ)} None (if b then Some name else None) → b ≡ false
    by_test true e = absurd (let never = e in cc)
    by_test false e = refl

pub name_read : (name new : List ℕ) → ◌≡◌ {A = Option (List ℕ)} (Some new) (if is_name name then Some name else None) → is_name name ≡ true
name_read name new e = by_test (is_name name) e
  where
    by_test : (b : Bool) → ◌≡◌ {A = Option (List ℕ)} (Some new) (if b then Some name else None) → b ≡ true
    by_test true e = refl
    by_test false e = absurd (let never = e in cc)

pub name_same : (name new : List ℕ) → ◌≡◌ {A = Option (List ℕ)} (Some new) (if is_name name then Some name else None) → new ≡ name
name_same name new e = by_test (is_name name) e
  where
    by_test : (b : Bool) → ◌≡◌ {A = Option (List ℕ)} (Some new) (if b then Some name else None) → new ≡ name
    by_test true e = cc
    by_test false e = absurd (let never = e in cc)

taken_by : (ℕ → List ℕ) → (ℕ → List ℕ) → ℕ → List ℕ → Option ℕ → Bool
taken_by names children id name parent =
    option_map_or (λ up. list_any (λ child. not (child == id) && bytes_eq (names child) name) (children up)) parent false

rename_by : Bool → List ℕ → ℕ → Option Component → Option Refusal
rename_by other name id r = first_refusal ((not (is_some r), NoComponent) ∷ (not (is_name name), BadName) ∷ (other, NameTaken) ∷ (id == 0, AppItself) ∷ [])

module _ (live : Places) (nodes : Nodes) (id : ℕ) (name : List ℕ) where
  pub rename_no_component : map.get nodes id ≡ None → first_refusal (refusals_of_rename (by_id_of live nodes) id name) ≡ Some NoComponent
  unfolding rename_by
  rename_no_component none = ap (rename_by (is_other_child_named (by_id_of live nodes) id name) name id) (no_component live nodes id none)

  module _ (n : Node) (found : map.get nodes id ≡ Some n) where
    other_is : is_other_child_named (by_id_of live nodes) id name
        ≡ option_map_or (λ (up : Id). list_any (λ child. not (child == id) && bytes_eq (name_in nodes child) name) (children_in nodes up.0)) n.parent false
    unfolding taken_by
    other_is =
        let names : name_of (by_id_of live nodes) ≡ name_in nodes = λ i child. name_is live nodes child i in
        let children : children_of (by_id_of live nodes) ≡ children_in nodes = λ i up. children_is live nodes up i in
        let up : parent_of (by_id_of live nodes) id ≡ option_map (λ (i : Id). i.0) n.parent = ap (option_and_then (λ (c : Component). c.parent)) (node_is live nodes id n found) in
        ap (taken_by (name_of (by_id_of live nodes)) (children_of (by_id_of live nodes)) id name) up
        ∙ ap (λ names. taken_by names (children_of (by_id_of live nodes)) id name (option_map (λ (i : Id). i.0) n.parent)) names
        ∙ ap (λ children. taken_by (name_in nodes) children id name (option_map (λ (i : Id). i.0) n.parent)) children
        ∙ mapped_or (λ (i : Id). i.0) (λ up. list_any (λ child. not (child == id) && bytes_eq (name_in nodes child) name) (children_in nodes up)) false n.parent

    rename_of : (other : Bool) → other ≡ option_map_or (λ (up : Id). list_any (λ child. not (child == id) && bytes_eq (name_in nodes child) name) (children_in nodes up.0)) n.parent false
        → first_refusal (refusals_of_rename (by_id_of live nodes) id name) ≡ first_refusal ((not (is_name name), BadName) ∷ (other, NameTaken) ∷ (id == 0, AppItself) ∷ [])
    unfolding rename_by
    rename_of other is =
        ap (rename_by (is_other_child_named (by_id_of live nodes) id name) name id) (node_is live nodes id n found)
        ∙ ap (λ (b : Bool). first_refusal ((not (is_name name), BadName) ∷ (b, NameTaken) ∷ (id == 0, AppItself) ∷ [])) (other_is ∙ sym is)

    pub rename_bad_name : is_name name ≡ false → first_refusal (refusals_of_rename (by_id_of live nodes) id name) ≡ Some BadName
    rename_bad_name bad = rename_of _ refl ∙ rw bad refl

    pub rename_taken : (other : Bool) → other ≡ option_map_or (λ (up : Id). list_any (λ child. not (child == id) && bytes_eq (name_in nodes child) name) (children_in nodes up.0)) n.parent false
        → is_name name ≡ true → other ≡ true → first_refusal (refusals_of_rename (by_id_of live nodes) id name) ≡ Some NameTaken
    rename_taken other is good so = rename_of other is ∙ rw (good, so) refl

    pub rename_app : (other : Bool) → other ≡ option_map_or (λ (up : Id). list_any (λ child. not (child == id) && bytes_eq (name_in nodes child) name) (children_in nodes up.0)) n.parent false
        → is_name name ≡ true → other ≡ false → id ≡ 0 → first_refusal (refusals_of_rename (by_id_of live nodes) id name) ≡ Some AppItself
    rename_app other is good out zero = let app : (id == 0) ≡ true = grind (arith, nat_tests) in rename_of other is ∙ rw (good, out, app) refl

    pub rename_allowed : (other : Bool) → other ≡ option_map_or (λ (up : Id). list_any (λ child. not (child == id) && bytes_eq (name_in nodes child) name) (children_in nodes up.0)) n.parent false
        → is_name name ≡ true → other ≡ false → id ≢ 0 → first_refusal (refusals_of_rename (by_id_of live nodes) id name) ≡ None
    rename_allowed other is good out some = let app : (id == 0) ≡ false = grind (arith, nat_tests) in rename_of other is ∙ rw (good, out, app) refl

-- ---- orders

reorder_by : List ℕ → Option (List ℕ) → Option Component → Option Refusal
reorder_by bytes ids r =
    first_refusal ((not (is_some r), NoComponent)
    ∷ (not (option_map_or (are_each_once (option_map_or (λ (c : Component). c.children) r [])) ids false), NotTheChildren) ∷ [])

module _ (live : Places) (nodes : Nodes) (id : ℕ) (bytes : List ℕ) where
  pub reorder_no_component : map.get nodes id ≡ None → first_refusal (refusals_of_reorder (by_id_of live nodes) id bytes) ≡ Some NoComponent
  unfolding reorder_by
  reorder_no_component none = ap (reorder_by bytes (ids_of bytes)) (no_component live nodes id none)

  module _ (n : Node) (found : map.get nodes id ≡ Some n) where
    reorder_of : (ids : Option (List ℕ)) → ids_of bytes ≡ ids → first_refusal (refusals_of_reorder (by_id_of live nodes) id bytes) ≡ first_refusal ((not (option_map_or (are_each_once n.children) ids false), NotTheChildren) ∷ [])
    unfolding reorder_by
    reorder_of ids is =
        ap (reorder_by bytes (ids_of bytes)) (node_is live nodes id n found)
        ∙ ap (λ ids. first_refusal ((not (option_map_or (are_each_once n.children) ids false), NotTheChildren) ∷ [])) is

    many_are_not : (ids : Option (List ℕ)) (k : ℕ) → length n.children ≤ k → ((some : List ℕ) → ids ≡ Some some → k < length some) → option_map_or (are_each_once n.children) ids false ≡ false
    many_are_not None k few many = refl
    many_are_not (Some some) k few many =
        let more : k < length some = many some refl in
        let no : (length some == length n.children) ≡ false = grind (arith, nat_tests) in
        rw no refl

    pub reorder_too_many : (k : ℕ) → length n.children ≤ k → ((some : List ℕ) → ids_of bytes ≡ Some some → k < length some) → first_refusal (refusals_of_reorder (by_id_of live nodes) id bytes) ≡ Some NotTheChildren
    reorder_too_many k few many = reorder_of (ids_of bytes) refl ∙ rw (many_are_not (ids_of bytes) k few many) refl

    pub reorder_others : (ids : List ℕ) → ids_of bytes ≡ Some ids → are_each_once n.children ids ≡ false → first_refusal (refusals_of_reorder (by_id_of live nodes) id bytes) ≡ Some NotTheChildren
    reorder_others ids is out = reorder_of (Some ids) is ∙ ap (λ (b : Bool). first_refusal ((not b, NotTheChildren) ∷ [])) out

    pub reorder_allowed : (ids : List ℕ) → ids_of bytes ≡ Some ids → are_each_once n.children ids ≡ true → first_refusal (refusals_of_reorder (by_id_of live nodes) id bytes) ≡ None
    reorder_allowed ids is so = reorder_of (Some ids) is ∙ ap (λ (b : Bool). first_refusal ((not b, NotTheChildren) ∷ [])) so

-- ---- values that are written

unfoldable pub or_else : Option Refusal → Option Refusal → Option Refusal
or_else (Some r) y = Some r
or_else None y = y

or_cond : (b : Bool) (x : Refusal) (r y : Option Refusal) → (if b then Some x else or_else r y) ≡ or_else (if b then Some x else r) y
unfolding or_else
or_cond true x r y = refl
or_cond false x r y = refl

pub first_refusal-append : (rows more : List (Bool × Refusal)) → first_refusal (rows ++ more) ≡ or_else (first_refusal rows) (first_refusal more)
unfolding or_else
first_refusal-append [] more = refl
first_refusal-append (row ∷ rows) more =
    ap (λ r. if row.0 then Some row.1 else r) (first_refusal-append rows more) ∙ or_cond row.0 row.1 (first_refusal rows) (first_refusal more)

type_there : (m : Meaning) (slot : ℕ) (t : SlotType) (r : Option Component) → IsSomeAnd r (λ c. slot_type m c.class slot ≡ Some t)
    → property_type (option_and_then (λ (c : Component). slot_form m c.class slot) r) ≡ Some t
type_there m slot t None never = absurd never
type_there m slot t (Some c) is = is

-- the type of a component's property
pub type_found : (m : Meaning) (live : Places) (nodes : Nodes) (id : ℕ) (n : Node) → map.get nodes id ≡ Some n → (slot : ℕ) (t : SlotType) → slot_form m n.kind.0 slot ≡ Some (Prop t)
    → IsSomeAnd (map.get (by_id_of live nodes) id) (λ c. slot_type m c.class slot ≡ Some t)
type_found m live nodes id n found slot t is = subst (λ (r : Option Component). IsSomeAnd r (λ c. slot_type m c.class slot ≡ Some t)) (sym (node_is live nodes id n found)) (ap property_type is)

module _ (m : Meaning) (all : ById) (id slot : ℕ) (bytes : List ℕ) where
  value_rows : List SlotType → List (Bool × Refusal)
  value_rows types = (are_bad_values types bytes, BadValue) ∷ (have_long_buffer types bytes, BufferTooLong) ∷ []

  write_is : first_refusal (refusals_of_write m all id slot bytes) ≡ or_else (first_refusal (refusals_of_read m all id slot)) (first_refusal (value_rows (write_types m all id slot)))
  unfolding value_rows
  write_is = first_refusal-append (refusals_of_read m all id slot) (value_rows (write_types m all id slot))

  pub write_unread : (refusal : Refusal) → first_refusal (refusals_of_read m all id slot) ≡ Some refusal → first_refusal (refusals_of_write m all id slot bytes) ≡ Some refusal
  unfolding or_else
  write_unread refusal e = write_is ∙ ap (λ r. or_else r (first_refusal (value_rows (write_types m all id slot)))) e

  module _ (t : SlotType) (there : IsSomeAnd (map.get all id) (λ c. slot_type m c.class slot ≡ Some t)) where
    types_are : write_types m all id slot ≡ t ∷ []
    types_are = ap option_to_list (type_there m slot t (map.get all id) there)

    write_of : first_refusal (refusals_of_read m all id slot) ≡ None → first_refusal (refusals_of_write m all id slot bytes) ≡ first_refusal (value_rows (t ∷ []))
    unfolding or_else
    write_of e = write_is ∙ ap (λ r. or_else r (first_refusal (value_rows (write_types m all id slot)))) e ∙ ap (λ types. first_refusal (value_rows types)) types_are

    pub write_refused : (refusal : Refusal) → first_refusal (refusals_of_read m all id slot) ≡ None → IsRefusedValue (t ∷ []) bytes refusal → first_refusal (refusals_of_write m all id slot bytes) ≡ Some refusal
    unfolding value_rows
    write_refused refusal e is = write_of e ∙ is

    pub write_allowed : (values : List Value) → first_refusal (refusals_of_read m all id slot) ≡ None → AreTaken (t ∷ []) bytes values → first_refusal (refusals_of_write m all id slot bytes) ≡ None
    unfolding value_rows
    write_allowed values e is =
        write_of e ∙ ap (λ (b : Bool). first_refusal ((b, BadValue) ∷ (have_long_buffer (t ∷ []) bytes, BufferTooLong) ∷ [])) is.good
        ∙ ap (λ (b : Bool). first_refusal ((b, BufferTooLong) ∷ [])) is.short

    pub write_takes : (values : List Value) → AreTaken (t ∷ []) bytes values → taken (write_types m all id slot) bytes ≡ values
    write_takes values is = ap (λ types. taken types bytes) types_are ∙ is.are

  pub write_may : (t : SlotType) (v : Value) (r : Option Component) → IsSomeAnd r (λ c. slot_type m c.class slot ≡ Some t) → IsTrue (goes_to t v)
      → IsSomeAnd r (λ c. IsTrue (may_store m c.class slot v))
  write_may t v None there goes = there
  write_may t v (Some c) there goes = ap (λ r. option_map_or (λ t. goes_to t v) r false) there ∙ goes

-- ---- arguments

invoke_by : List ℕ → ℕ → Option SlotForm → Option Refusal
invoke_by bytes fault form =
    first_refusal ((is_none form, NoSlot) ∷ (is_none (action_argument form), WrongKindOfSlot)
    ∷ (are_bad_values (option_map_or argument_types (action_argument form) []) bytes, BadValue) ∷ (not (fault == 0), Faulted) ∷ [])

invoke_of_component : Meaning → ℕ → List ℕ → Option Component → Option Refusal
invoke_of_component m slot bytes r =
    let form = option_and_then (λ (c : Component). slot_form m c.class slot) r in
    first_refusal ((not (is_some r), NoComponent) ∷ (is_none form, NoSlot) ∷ (is_none (action_argument form), WrongKindOfSlot)
    ∷ (are_bad_values (option_map_or argument_types (action_argument form) []) bytes, BadValue) ∷ (not (option_map_or (λ (c : Component). c.fault) r 0 == 0), Faulted) ∷ [])

module _ (m : Meaning) (live : Places) (nodes : Nodes) (id slot : ℕ) (bytes : List ℕ) where
  pub invoke_no_component : map.get nodes id ≡ None → first_refusal (refusals_of_invoke m (by_id_of live nodes) id slot bytes) ≡ Some NoComponent
  unfolding invoke_of_component
  invoke_no_component none = ap (invoke_of_component m slot bytes) (no_component live nodes id none)

  module _ (n : Node) (found : map.get nodes id ≡ Some n) where
    invoke_of : (form : Option SlotForm) → slot_form m n.kind.0 slot ≡ form → first_refusal (refusals_of_invoke m (by_id_of live nodes) id slot bytes) ≡ invoke_by bytes n.fault form
    unfolding invoke_of_component invoke_by
    invoke_of form is = ap (invoke_of_component m slot bytes) (component_is m live nodes id n found) ∙ ap (invoke_by bytes n.fault) is

    pub invoke_no_slot : slot_form m n.kind.0 slot ≡ None → first_refusal (refusals_of_invoke m (by_id_of live nodes) id slot bytes) ≡ Some NoSlot
    unfolding invoke_by
    invoke_no_slot is = invoke_of None is

    pub invoke_property : (t : SlotType) → slot_form m n.kind.0 slot ≡ Some (Prop t) → first_refusal (refusals_of_invoke m (by_id_of live nodes) id slot bytes) ≡ Some WrongKindOfSlot
    unfolding invoke_by
    invoke_property t is = invoke_of (Some (Prop t)) is

    module _ (a : ActionArg) (is : slot_form m n.kind.0 slot ≡ Some (Action a)) where
      pub invoke_bad : (refusal : Refusal) → refusal ≡ BadValue → are_bad_values (argument_types a) bytes ≡ true → first_refusal (refusals_of_invoke m (by_id_of live nodes) id slot bytes) ≡ Some refusal
      unfolding invoke_by
      invoke_bad refusal same bad =
          invoke_of (Some (Action a)) is ∙ ap (λ (b : Bool). first_refusal ((b, BadValue) ∷ (not (n.fault == 0), Faulted) ∷ [])) bad ∙ ap Some (sym same)

      pub invoke_faulted : are_bad_values (argument_types a) bytes ≡ false → n.fault ≢ 0 → first_refusal (refusals_of_invoke m (by_id_of live nodes) id slot bytes) ≡ Some Faulted
      unfolding invoke_by
      invoke_faulted good some =
          let faulted : (n.fault == 0) ≡ false = grind (arith, nat_tests) in
          invoke_of (Some (Action a)) is ∙ ap (λ (b : Bool). first_refusal ((b, BadValue) ∷ (not (n.fault == 0), Faulted) ∷ [])) good
          ∙ ap (λ (b : Bool). first_refusal ((not b, Faulted) ∷ [])) faulted

      pub invoke_allowed : are_bad_values (argument_types a) bytes ≡ false → n.fault ≡ 0 → first_refusal (refusals_of_invoke m (by_id_of live nodes) id slot bytes) ≡ None
      unfolding invoke_by
      invoke_allowed good none =
          let whole : (n.fault == 0) ≡ true = grind (arith, nat_tests) in
          invoke_of (Some (Action a)) is ∙ ap (λ (b : Bool). first_refusal ((b, BadValue) ∷ (not (n.fault == 0), Faulted) ∷ [])) good
          ∙ ap (λ (b : Bool). first_refusal ((not b, Faulted) ∷ [])) whole

-- the argument of an action, by its component
module _ (m : Meaning) (live : Places) (nodes : Nodes) (id slot : ℕ) (bytes : List ℕ) (n : Node) (found : map.get nodes id ≡ Some n) (a : ActionArg) (is : slot_form m n.kind.0 slot ≡ Some (Action a)) where
  pub invoke_takes : taken (invoke_types m (by_id_of live nodes) id slot) bytes ≡ taken (argument_types a) bytes
  invoke_takes =
      ap (λ r. taken (option_map_or argument_types (action_argument (option_and_then (λ (c : Component). slot_form m c.class slot) r)) []) bytes) (node_is live nodes id n found)
      ∙ ap (λ form. taken (option_map_or argument_types (action_argument form) []) bytes) is

  pub invoke_may : (v : Value) → IsTrue (is_argument a v) → IsSomeAnd (map.get (by_id_of live nodes) id) (λ c. IsTrue (may_call m c.class (ActionRoot (record { 0 = slot })) v))
  invoke_may v fits =
      subst (λ (r : Option Component). IsSomeAnd r (λ c. IsTrue (may_call m c.class (ActionRoot (record { 0 = slot })) v))) (sym (node_is live nodes id n found))
      (ap (λ form. action_takes form v) is ∙ fits)

-- ---- stores

module _ (m : Meaning) (class slot : ℕ) (v : Value) where
  property_by : (r : Option SlotType) → IsTrue (option_map_or (λ t. goes_to t v) r false) → IsTrue (option_map_or (λ (_ : SlotType). true) r false)
  property_by None never = never
  property_by (Some t) may = refl

  -- what may be stored in a slot is stored in a property
  pub stores_in_property : IsTrue (may_store m class slot v) → IsTrue (is_property m class slot)
  stores_in_property may = property_by (slot_type m class slot) may

pub property_here : (m : Meaning) (slot : ℕ) (v : Value) (r : Option Object) → IsSomeAnd r (λ o. IsTrue (may_store m o.class slot v)) → IsSomeAnd r (λ o. IsTrue (is_property m o.class slot))
property_here m slot v None never = never
property_here m slot v (Some o) may = stores_in_property m o.class slot v may

pub none_there : {A : Type 0} (r : Option A) (P : A → Type 0) → r ≡ None → IsSomeAnd r P → ⊥
none_there {A} r P none some = subst (λ (x : Option A). IsSomeAnd x P) none some

pub some_of : {A : Type 0} (r : Option A) → IsSome r → (x : A) × (r ≡ Some x)
some_of None never = absurd (let no = never in cc)
some_of (Some x) there = (x, refl)

-- a component that is stored in stays live
pub store_live : (m : Meaning) (a : Components) (id slot : ℕ) (v : Value) (P : Component → Type 0) → IsSomeAnd (map.get a.by_id id) P → IsSome (map.get (store m a id slot v).by_id id)
store_live m a id slot v P there = by_component (map.get a.by_id id) refl there
  where
    by_component : (r : Option Component) → map.get a.by_id id ≡ r → IsSomeAnd r P → IsSome (map.get (store m a id slot v).by_id id)
    by_component None e never = absurd never
    by_component (Some c) e some =
        ap (λ all. is_some (map.get all id)) (ap (λ r. option_map_or (λ (c : Component). map.insert a.by_id id (with_value m slot v c)) r a.by_id) e)
        ∙ ap is_some (get_put a.by_id id (with_value m slot v c))

pub each_of : (r : Option Node) (n : Node) (ids : List ℕ) → r ≡ Some n → IfSome r (λ k. IsTrue (are_each_once k.children ids)) → are_each_once n.children ids ≡ true
each_of r n ids e each = of_found r n (λ k. IsTrue (are_each_once k.children ids)) e each

module _ {E : Type 0} (g : Ghosts E) (h : Held E) (was : IsPlaced (g.meaning h.engine) (g.live h.engine) h.nodes) (id slot : ℕ) (v : Value) (n : Node) (found : map.get h.nodes id ≡ Some n)
    (engine : E) (set_is : IfSome (map.get (g.live h.engine) n.place.0) (λ o. g.live engine ≡ map.insert (g.live h.engine) n.place.0 (with_slot (g.meaning h.engine) o slot v)))
    (meaning : g.meaning engine ≡ g.meaning h.engine) (statics : g.statics engine ≡ g.statics h.engine) (limit : g.limit engine ≡ g.limit h.engine) where
  here : map.get (g.live h.engine) n.place.0 ≡ Some (object_of (component_of (g.live h.engine) n))
  here = kept_here (g.meaning h.engine) (g.live h.engine) h.nodes was id n found

  live_set : g.live engine ≡ map.insert (g.live h.engine) n.place.0 (with_slot (g.meaning h.engine) (object_of (component_of (g.live h.engine) n)) slot v)
  live_set = of_found _ (object_of (component_of (g.live h.engine) n)) (λ o. g.live engine ≡ map.insert (g.live h.engine) n.place.0 (with_slot (g.meaning h.engine) o slot v)) here set_is

  pub placed_store : IsPlaced (g.meaning engine) (g.live engine) h.nodes
  placed_store =
      subst (λ m. IsPlaced m (g.live engine) h.nodes) (sym meaning)
      (placed_after (g.meaning h.engine) (g.live h.engine) h.nodes was id n found (g.live engine) h.nodes n
      (with_slot (g.meaning h.engine) (object_of (component_of (g.live h.engine) n)) slot v) refl refl refl live_set (sym (put_same h.nodes id n found)))

  by_id_store : by_id_of (g.live engine) h.nodes ≡ map.insert (by_id_of (g.live h.engine) h.nodes) id (with_value (g.meaning h.engine) slot v (component_of (g.live h.engine) n))
  by_id_store =
      by_id_after (g.meaning h.engine) (g.live h.engine) h.nodes was id n found (g.live engine) h.nodes n
      (with_slot (g.meaning h.engine) (object_of (component_of (g.live h.engine) n)) slot v) refl refl refl live_set (sym (put_same h.nodes id n found))

  changed_all : change_at (by_id_of (g.live h.engine) h.nodes) id (with_value (g.meaning h.engine) slot v) ≡ map.insert (by_id_of (g.live h.engine) h.nodes) id (with_value (g.meaning h.engine) slot v (component_of (g.live h.engine) n))
  changed_all =
      ap (λ r. option_map_or (λ (c : Component). map.insert (by_id_of (g.live h.engine) h.nodes) id (with_value (g.meaning h.engine) slot v c)) r (by_id_of (g.live h.engine) h.nodes))
      (component_is (g.meaning h.engine) (g.live h.engine) h.nodes id n found)

  pub store_is : components_of g (record { engine = engine; nodes = h.nodes }) ≡ store (g.meaning h.engine) (components_of g h) id slot v
  store_is = let same = by_id_store ∙ sym changed_all in λ i. record { by_id = same i; statics = statics i; limit = limit i }

  module _ (before after : Value) (got : IfSome (map.get (g.live h.engine) n.place.0) (λ o. before ≡ slot_value (g.meaning h.engine) o slot))
      (got_after : IfSome (map.get (g.live engine) n.place.0) (λ o. after ≡ slot_value (g.meaning engine) o slot)) where
    before_is : before ≡ value_at (g.meaning h.engine) (components_of g h).by_id id slot
    before_is =
        of_found _ (object_of (component_of (g.live h.engine) n)) (λ o. before ≡ slot_value (g.meaning h.engine) o slot) here got
        ∙ sym (ap (λ r. option_map_or (λ (c : Component). slot_value (g.meaning h.engine) (object_of c) slot) r Nothing) (component_is (g.meaning h.engine) (g.live h.engine) h.nodes id n found))

    there : map.get (g.live engine) n.place.0 ≡ Some (with_slot (g.meaning h.engine) (object_of (component_of (g.live h.engine) n)) slot v)
    there = ap (λ live. map.get live n.place.0) live_set ∙ get_put (g.live h.engine) n.place.0 (with_slot (g.meaning h.engine) (object_of (component_of (g.live h.engine) n)) slot v)

    after_is : after ≡ value_at (g.meaning h.engine) (store (g.meaning h.engine) (components_of g h) id slot v).by_id id slot
    after_is =
        of_found _ (with_slot (g.meaning h.engine) (object_of (component_of (g.live h.engine) n)) slot v) (λ o. after ≡ slot_value (g.meaning engine) o slot) there got_after
        ∙ ap (λ m. slot_value m (with_slot (g.meaning h.engine) (object_of (component_of (g.live h.engine) n)) slot v) slot) meaning
        ∙ sym (ap (λ all. option_map_or (λ (c : Component). slot_value (g.meaning h.engine) (object_of c) slot) (map.get all id) Nothing) changed_all
        ∙ ap (λ r. option_map_or (λ (c : Component). slot_value (g.meaning h.engine) (object_of c) slot) r Nothing)
        (get_put (by_id_of (g.live h.engine) h.nodes) id (with_value (g.meaning h.engine) slot v (component_of (g.live h.engine) n))))

    pub change_is : not (is_same_value before after) ≡ has_changed (g.meaning h.engine) (components_of g h) (store (g.meaning h.engine) (components_of g h) id slot v) id slot
    change_is = ap (λ x. not (is_same_value x after)) before_is ∙ ap (λ y. not (is_same_value (value_at (g.meaning h.engine) (components_of g h).by_id id slot) y)) after_is

  -- the property may be read again
  pub reads_again : IsSomeAnd (map.get (g.live h.engine) n.place.0) (λ o. IsTrue (may_store (g.meaning h.engine) o.class slot v)) → IsSomeAnd (map.get (g.live engine) n.place.0) (λ o. IsTrue (is_property (g.meaning engine) o.class slot))
  reads_again may =
      let may_here : IsTrue (may_store (g.meaning h.engine) n.kind.0 slot v) = subst (λ (r : Option Object). IsSomeAnd r (λ o. IsTrue (may_store (g.meaning h.engine) o.class slot v))) here may in
      let there : map.get (g.live engine) n.place.0 ≡ Some (with_slot (g.meaning h.engine) (object_of (component_of (g.live h.engine) n)) slot v) =
      ap (λ live. map.get live n.place.0) live_set ∙ get_put (g.live h.engine) n.place.0 (with_slot (g.meaning h.engine) (object_of (component_of (g.live h.engine) n)) slot v) in
      subst (λ (r : Option Object). IsSomeAnd r (λ o. IsTrue (is_property (g.meaning engine) o.class slot))) (sym there)
      (subst (λ m. IsTrue (is_property m n.kind.0 slot)) (sym meaning) (stores_in_property (g.meaning h.engine) n.kind.0 slot v may_here))
