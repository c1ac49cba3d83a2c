-- What a slot holds is of its type, and may be stored where the types go together.
use Rattle.std.proofs.Common.{ℕ, ◌≡◌, Bool, true, false, refl, sym, subst}
use Rattle.std.specs.Prelude.{Option, Some, None, IsTrue, IsSomeAnd, IfSome, ◌&&◌, ◌||◌}
use Rattle.std.specs.Option.{option_and_then, option_map, option_map_or}
use Rattle.std.specs.FinMap as finite
use Rattle.std.proofs.lemmas.Bool.{eqb-true}
use Rattle.sed_value.specs.SlotType.{goes_with, is_read_as_int, primitive_goes_with}
use Rattle.sed_value.specs.Value.{goes_to, is_of_type, reads_as_int}
use Rattle.sed_value.specs.declared.slot_type.Primitive.{Primitive}
use Rattle.sed_value.specs.declared.slot_type.Primitive.TheVariants.{Bool as BoolType, Byte as ByteType, Short as ShortType, Int as IntType, Long as LongType}
use Rattle.sed_value.specs.declared.slot_type.SlotType.{SlotType}
use Rattle.sed_value.specs.declared.slot_type.SlotType.TheVariants.{Prim, Buf}
use Rattle.sed_value.specs.declared.value.Value.{Value}
use Rattle.sed_value.specs.declared.value.Value.TheVariants.{Nothing}
use Rattle.sed_engine.specs.Code.{Meaning, Object, Places, may_store, property_type, slot_form, slot_type, slot_value}
use Rattle.sed_engine.specs.Whole.{HasTables, IsObject}
use Rattle.sed_engine.proofs.KeptSlots.{property_is_of_type}
use Rattle.node_table.specs.declared.node.Node.{Node}
use Rattle.comp_tree.specs.Application.{ById, Component, object_of, type_at, value_at as component_value}
use Rattle.comp_tree.specs.Held.{IsPlaced, Nodes, by_id_of, component_of}
use Rattle.comp_tree.proofs.MapLemmas.{get-map_values}
use Rattle.comp_tree.proofs.TreeLemmas.{kept_here}
use Rattle.comp_tree.specs.Links.{go_together_if_there}
pub use Rattle.sed_value.proofs.Options.{some_and}

-- ---- types that go together

left_or : (a b : Bool) → IsTrue a → IsTrue (a || b)
left_or true b h = refl
left_or false b h = absurd (let no : false ≡ true = h in cc)

right_or : (a b : Bool) → IsTrue b → IsTrue (a || b)
right_or true b h = refl
right_or false b h = h

first_of_three : (a b c : Bool) → IsTrue a → IsTrue (a || b || c)
first_of_three true b c h = refl
first_of_three false b c h = absurd (let no : false ≡ true = h in cc)

second_of_three : (a b c : Bool) → IsTrue b → IsTrue (a || b || c)
second_of_three true b c h = refl
second_of_three false true c h = refl
second_of_three false false c h = absurd (let no : false ≡ true = h in cc)

third_of_three : (a b c : Bool) → IsTrue c → IsTrue (a || b || c)
third_of_three true b c h = refl
third_of_three false true c h = refl
third_of_three false false c h = h

-- what is of a type that reads as an int goes where ints go
reads : (p : Primitive) (v : Value) → IsTrue (is_read_as_int p) → IsTrue (is_of_type (Prim p) v) → IsTrue (reads_as_int v)
reads ByteType v go is = first_of_three (is_of_type (Prim ByteType) v) (is_of_type (Prim ShortType) v) (is_of_type (Prim IntType) v) is
reads ShortType v go is = second_of_three (is_of_type (Prim ByteType) v) (is_of_type (Prim ShortType) v) (is_of_type (Prim IntType) v) is
reads IntType v go is = third_of_three (is_of_type (Prim ByteType) v) (is_of_type (Prim ShortType) v) (is_of_type (Prim IntType) v) is
reads BoolType v go is = absurd (let no : false ≡ true = go in cc)
reads LongType v go is = absurd (let no : false ≡ true = go in cc)

goes_int : (to : Primitive) (v : Value) → IsTrue (is_read_as_int to) → IsTrue (reads_as_int v) → IsTrue (goes_to (Prim to) v)
goes_int ByteType v go is = is
goes_int ShortType v go is = is
goes_int IntType v go is = is
goes_int BoolType v go is = absurd (let no : false ≡ true = go in cc)
goes_int LongType v go is = absurd (let no : false ≡ true = go in cc)

both : (a b : Bool) → IsTrue (a && b) → IsTrue a × IsTrue b
both true b h = (refl, h)
both false b h = absurd (let no : false ≡ true = h in cc)

goes_prim : (from to : Primitive) (v : Value) → IsTrue (primitive_goes_with from to) → IsTrue (is_of_type (Prim from) v) → IsTrue (goes_to (Prim to) v)
goes_prim BoolType BoolType v go is = is
goes_prim LongType LongType v go is = right_or (reads_as_int v) _ is
goes_prim BoolType ByteType v go is = absurd (let no : false ≡ true = go in cc)
goes_prim BoolType ShortType v go is = absurd (let no : false ≡ true = go in cc)
goes_prim BoolType IntType v go is = absurd (let no : false ≡ true = go in cc)
goes_prim BoolType LongType v go is = absurd (let no : false ≡ true = go in cc)
goes_prim LongType BoolType v go is = absurd (let no : false ≡ true = go in cc)
goes_prim LongType ByteType v go is = absurd (let no : false ≡ true = go in cc)
goes_prim LongType ShortType v go is = absurd (let no : false ≡ true = go in cc)
goes_prim LongType IntType v go is = absurd (let no : false ≡ true = go in cc)
goes_prim ByteType to v go is = goes_int to v go (reads ByteType v refl is)
goes_prim ShortType to v go is = goes_int to v go (reads ShortType v refl is)
goes_prim IntType to v go is = goes_int to v go (reads IntType v refl is)

goes_where : (from to : SlotType) (v : Value) → IsTrue (goes_with from to) → IsTrue (is_of_type from v) → IsTrue (goes_to to v)
goes_where (Prim p) (Prim q) v go is = goes_prim p q v go is
goes_where (Buf n) (Buf k) v go is = subst (λ k. IsTrue (is_of_type (Buf k) v)) (eqb-true n k go) is
goes_where (Prim p) (Buf k) v go is = absurd (let no : false ≡ true = go in cc)
goes_where (Buf n) (Prim q) v go is = absurd (let no : false ≡ true = go in cc)

-- the value in one slot may be stored in another whose type goes with its own
pub slot_may_be_stored : (m : Meaning) (o : Object) (slot class other : ℕ) → HasTables m → IsObject m o
    → IsTrue (go_together_if_there (slot_type m o.class slot) (slot_type m class other))
    → IsTrue (may_store m class other (slot_value m o slot))
slot_may_be_stored m o slot class other tables object go = by_types (slot_type m o.class slot) refl (slot_type m class other) refl go
  where
    by_types : (s : Option SlotType) → slot_type m o.class slot ≡ s → (t : Option SlotType) → slot_type m class other ≡ t
        → IsTrue (go_together_if_there s t) → IsTrue (may_store m class other (slot_value m o slot))
    by_types (Some s) is (Some t) to go =
        subst (λ (t : Option SlotType). IsTrue (option_map_or (λ t. goes_to t (slot_value m o slot)) t false)) (sym to)
        (goes_where s t (slot_value m o slot) go (property_is_of_type m o slot s tables object.fits is))
    by_types (Some s) is None to go = absurd (let no : false ≡ true = go in cc)
    by_types None is t to go = absurd (let no : false ≡ true = go in cc)

-- ---- what is read

-- the value that a component has in a property is of the property's type
pub read_is_of_type : (m : Meaning) (all : ById) (live : Places) (id slot place : ℕ) (out : Value) → HasTables m → ((p : ℕ) → IfSome (finite.get live p) (IsObject m))
    → IsSomeAnd (finite.get live place) (λ (o : Object). option_map object_of (finite.get all id) ≡ Some o)
    → IfSome (finite.get live place) (λ (o : Object). out ≡ slot_value m o slot) → IfSome (type_at m all id slot) (λ t. IsTrue (is_of_type t out))
read_is_of_type m all live id slot place out tables objects there value =
    let here = some_and (finite.get live place) there in
    by_component here.0 (subst (λ (r : Option Object). IfSome r (IsObject m)) here.1 (objects place))
    (subst (λ (r : Option Object). IfSome r (λ (o : Object). out ≡ slot_value m o slot)) here.1 value) (finite.get all id) here.2
  where
    by_type : (c : Component) → IsObject m (object_of c) → (s : Option SlotType) → slot_type m c.class slot ≡ s → (v : Value) → v ≡ slot_value m (object_of c) slot
        → IfSome s (λ t. IsTrue (is_of_type t v))
    by_type c object None type v e = tt {0}
    by_type c object (Some t) type v e = subst (λ (v : Value). IsTrue (is_of_type t v)) (sym e) (property_is_of_type m (object_of c) slot t tables object.fits type)

    by_component : (o : Object) → IsObject m o → out ≡ slot_value m o slot → (r : Option Component) → option_map object_of r ≡ Some o
        → IfSome (property_type (option_and_then (λ (c : Component). slot_form m c.class slot) r)) (λ t. IsTrue (is_of_type t out))
    by_component o object e None at = tt {0}
    by_component o object e (Some c) at =
        let same : o ≡ object_of c = cc in
        by_type c (subst (IsObject m) same object) (slot_type m c.class slot) refl out (subst (λ (o : Object). out ≡ slot_value m o slot) same e)

-- ---- what is copied

module _ (m : Meaning) (all : ById) (tables : HasTables m) (objects : (id : ℕ) → IfSome (finite.get all id) (λ (c : Component). IsObject m (object_of c))) where
  pub may_be_copied : (from from_slot to to_slot : ℕ) → IsTrue (go_together_if_there (type_at m all from from_slot) (type_at m all to to_slot))
      → IsSomeAnd (finite.get all to) (λ (c : Component). IsTrue (may_store m c.class to_slot (component_value m all from from_slot)))
  may_be_copied from from_slot to to_slot go = by_components (finite.get all from) (objects from) (finite.get all to) go
    where
      by_components : (f : Option Component) → IfSome f (λ (c : Component). IsObject m (object_of c)) → (t : Option Component)
          → IsTrue (go_together_if_there (property_type (option_and_then (λ (c : Component). slot_form m c.class from_slot) f)) (property_type (option_and_then (λ (c : Component). slot_form m c.class to_slot) t)))
          → IsSomeAnd t (λ (c : Component). IsTrue (may_store m c.class to_slot (option_map_or (λ (c : Component). slot_value m (object_of c) from_slot) f Nothing)))
      by_components None is t go = absurd (let no : false ≡ true = go in cc)
      by_components (Some c) is (Some d) go = slot_may_be_stored m (object_of c) from_slot d.class to_slot tables is go
      by_components (Some c) is None go = absurd (no_type (property_type (slot_form m c.class from_slot)) go)
        where
          no_type : (s : Option SlotType) → IsTrue (go_together_if_there s None) → ⊥
          no_type None go = let no : false ≡ true = go in cc
          no_type (Some s) go = let no : false ≡ true = go in cc

module _ (m : Meaning) (live : Places) (nodes : Nodes) (was : IsPlaced m live nodes) (objects : (p : ℕ) → IfSome (finite.get live p) (IsObject m)) where
  pub components_fit : (id : ℕ) → IfSome (finite.get (by_id_of live nodes) id) (λ (c : Component). IsObject m (object_of c))
  components_fit id = subst (λ (o : Option Component). IfSome o (λ (c : Component). IsObject m (object_of c))) (sym (get-map_values (component_of live) nodes id)) (by_node (finite.get nodes id) refl)
    where
      by_node : (n : Option Node) → finite.get nodes id ≡ n → IfSome (option_map (component_of live) n) (λ (c : Component). IsObject m (object_of c))
      by_node None there = tt {0}
      by_node (Some n) there =
          subst (λ (o : Option Object). IfSome o (IsObject m)) (kept_here m live nodes was id n there) (objects n.place.0)
