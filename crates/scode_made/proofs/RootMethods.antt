-- What a root call of the image runs is what the program runs.
use Rattle.std.proofs.Common.{◌≡◌, ℕ, ◌<◌, ◌≤◌, ◌==◌, ◌&&◌, Bool, true, false, not, cond, List, [], length, codes, Option, Some, None, Result, Ok, refl, ap, sym, subst, ◌∙◌}
use Rattle.std.specs.Prelude.{IfSome, IsSomeAnd, IsTrue, is_some, position, slice_get, unwrap_or}
use Rattle.std.specs.Str.{bytes_eq}
use Rattle.std.specs.Option.{option_and_then, option_map, option_map_or}
use Rattle.std.proofs.lemmas.Bool.{and_parts}
use Rattle.std.proofs.lemmas.List.{length-map}
use Rattle.std.proofs.lemmas.Option.{slice_get_within}
use Rattle.sed_value.specs.declared.value.Value.{Value}
use Rattle.sed_typed.specs.declared.number.SlotNo.{SlotNo}
use Rattle.sed_typed.specs.declared.program.Method.{Method}
use Rattle.sed_typed.specs.declared.program.Program.{Program}
use Rattle.sed_typed.specs.declared.schema.ActionArg.{ActionArg}
use Rattle.sed_typed.specs.declared.schema.ClassInfo.{ClassInfo}
use Rattle.sed_typed.specs.declared.schema.Schema.{Schema}
use Rattle.sed_typed.specs.declared.schema.SlotForm.{SlotForm}
use Rattle.sed_typed.specs.declared.schema.SlotForm.TheVariants.{Prop, Action}
use Rattle.sed_typed.specs.declared.schema.SlotInfo.{SlotInfo}
use Rattle.sed_typed.specs.Classes.{find, method_name, slot_name, slots as slots_of}
use Rattle.sed_typed.specs.Schemas.{type_at}
use Rattle.sed_typed.specs.SysMembers.{component_names}
use Rattle.sed_typed.specs.SysTypes.{component_type}
use Rattle.sed_typed.specs.Typed.{Typed}
use Rattle.sed_typed.specs.TypedSchema.{HasSlot, HasSlots, IsAction, IsClass, is_below_sys}
use Rattle.sed_typed.specs.Virtual.{virtual_names}
use Rattle.sed_typed.proofs.SystemMethods.{begins_at}
use Rattle.sed_engine.specs.declared.call.Callback.{Callback as Callback-type}
use Rattle.sed_engine.specs.declared.call.Callback.TheVariants as callback
use Rattle.sed_engine.specs.declared.call.Root.{Root as Root-type}
use Rattle.sed_engine.specs.declared.call.Root.TheVariants.{Execute, Action as OnAction, Callback}
use Rattle.sed_engine.specs.Asked.{Asked}
use Rattle.sed_engine.specs.Code.{Question, action_takes, is_creatable, may_call, slot_form}
use Rattle.sed_engine.specs.Program.{code_of}
use Rattle.sed_engine.specs.Root as language
use Rattle.sed_engine.specs.Stops.{Stop, and_then, map_ok, there as there_of}
use Rattle.sed_layout.specs.MethodTables.{HasSystemMethods, place_of, table_of}
use Rattle.scode_image.specs.declared.image.ImageClass.{ImageClass}
use Rattle.scode_image.specs.declared.image.ImageSlot.{ImageSlot}
use Rattle.scode_code.specs.Root as machine
use Rattle.scode_gen.specs.Generated.{image_of}
use Rattle.scode_gen.specs.ImageSlots.{image_slot, image_slots, slot_place}
use Rattle.scode_made.specs.Laid.{IsTabled}
use Rattle.scode_made.proofs.MadeSchema.{schema_back}
use Rattle.scode_made.proofs.MadeTables.{in_table, placed}
use Rattle.scode_made.proofs.Places.{numbered}
use Rattle.scode_made.proofs.Rows.{class_at}

some_and : {X : Type 0} {P : X → Type 0} (o : Option X) → IsSomeAnd o P → (x : X) × (o ≡ Some x) × P x
some_and None h = absurd h
some_and (Some x) h = (x, refl, h)

module _ (program : Program) (typed : Typed program) (few : length program.schema.classes ≤ 1024) (tabled : IsTabled program) where
  -- ---- methods by their names

  -- what stands at the place of a name
  record IsAt (class place : ℕ) (name : List ℕ) : Type 0 where
    number : ℕ
    found : find program class name ≡ Some number
    stands : slice_get (table_of program class) place ≡ Some number

  is_at : (class place : ℕ) (name : List ℕ) → place_of program class name ≡ Some place → IsAt class place name
  is_at class place name e =
      let is = some_and {P = λ (n : ℕ). find program class name ≡ Some n} (slice_get (table_of program class) place) (tabled.at_place class place name e) in
      record { number = is.0; found = is.2; stands = is.1 }

  method_same : (class place : ℕ) (name : List ℕ) → class < length program.schema.classes → place_of program class name ≡ Some place →
      machine.method_at (image_of program) class place ≡ language.method_at program class name
  method_same class place name h e =
      let is = is_at class place name e in
      ap (λ (o : Option ℕ). map_ok (λ (m : ℕ). Some m) (there_of o)) (in_table program class place is.number h is.stands ∙ sym is.found)

  -- ---- actions

  -- the slot that an action is called by
  record IsActed (info : ClassInfo) (slot : ℕ) : Type 0 where
    taken : SlotInfo
    argument : ActionArg
    there_is : slice_get info.slots slot ≡ Some taken
    form : taken.form ≡ Action argument

  is_acted : (info : ClassInfo) (slot : ℕ) (v : Value) → IsTrue (action_takes (option_map (λ s. s.form) (slice_get info.slots slot)) v) → IsActed info slot
  is_acted info slot v h = by_slot (slice_get info.slots slot) refl h
    where
      by_form : (s : SlotInfo) (f : SlotForm) → slice_get info.slots slot ≡ Some s → s.form ≡ f → IsTrue (action_takes (Some f) v) → IsActed info slot
      by_form s (Prop t) is form h = let never : ⊥ = cc in absurd never
      by_form s (Action a) is form h = record { taken = s; argument = a; there_is = is; form = form }

      by_slot : (o : Option SlotInfo) → slice_get info.slots slot ≡ o → IsTrue (action_takes (option_map (λ s. s.form) o) v) → IsActed info slot
      by_slot None is h = let never : ⊥ = cc in absurd never
      by_slot (Some s) is h = by_form s s.form is refl h

  -- the place of an action's method in the table of the class
  action_placed : (class slot : ℕ) (info : ClassInfo) → slice_get program.schema.classes class ≡ Some info → (acted : IsActed info slot) →
      (place : ℕ) × (place_of program class acted.taken.name ≡ Some place)
  action_placed class slot info there acted =
      let s = acted.taken in
      let slots : HasSlots program class info = subst (λ (o : Option ClassInfo). IfSome o (HasSlots program class)) there (typed.slots class) in
      let known : HasSlot program class slot s s.form = subst (λ (o : Option SlotInfo). IfSome o (λ x. HasSlot program class slot x x.form)) acted.there_is (slots.each slot) in
      let action : HasSlot program class slot s (Action acted.argument) = subst (HasSlot program class slot s) acted.form known in
      let found = some_and {P = λ (m : ℕ). IsSomeAnd (slice_get program.methods m) (IsAction acted.argument)} (find program class s.name) action.1 in
      let method = some_and {P = IsAction acted.argument} (slice_get program.methods found.0) found.2 in
      placed program tabled class found.0 s.name (ap (λ (o : Option Method). option_map_or (λ x. x.is_virtual) o false) method.1 ∙ method.2.1) found.1

  action_same : (class : ℕ) (slot : SlotNo) (v : Value) (info : ClassInfo) → slice_get program.schema.classes class ≡ Some info →
      IsTrue (action_takes (slot_form (code_of program) class slot.0) v) →
      machine.root_method (image_of program) class (OnAction slot) ≡ language.root_method program class (OnAction slot)
  action_same class slot v info there h =
      let own : slots_of program.schema.classes class ≡ info.slots = ap (λ (o : Option ClassInfo). option_map_or (λ x. x.slots) o []) there in
      let acted = is_acted info slot.0 v (ap (λ (all : List SlotInfo). action_takes (option_map (λ s. s.form) (slice_get all slot.0)) v) (sym own) ∙ h) in
      let s = acted.taken in
      let at = action_placed class slot.0 info there acted in
      let within : class < length program.schema.classes = slice_get_within program.schema.classes class info there in
      let in_slots : slice_get (image_slots program class info.slots) slot.0 ≡ Some (image_slot program class slot.0 s) =
      numbered (image_slot program class) slot.0 info.slots ∙ ap (option_map (image_slot program class slot.0)) acted.there_is in
      let place_is : slot_place program class slot.0 s.name s.form ≡ at.0 =
      ap (slot_place program class slot.0 s.name) acted.form ∙ ap (λ (o : Option ℕ). unwrap_or o 0) at.1 in
      let said : machine.action_place (image_of program) class slot.0 ≡ Some at.0 =
      ap (λ (o : Option ImageClass). option_and_then (λ (c : ImageClass). option_and_then (λ (x : ImageSlot). Some x.place) (slice_get c.slots slot.0)) o) (class_at program class info there)
      ∙ ap (λ (o : Option ImageSlot). option_and_then (λ (x : ImageSlot). Some x.place) o) in_slots
      ∙ ap Some place_is in
      let name_is : slot_name program.schema.classes class slot.0 ≡ s.name =
      ap (λ (all : List SlotInfo). option_map_or (λ x. x.name) (slice_get all slot.0) []) own ∙ ap (λ (o : Option SlotInfo). option_map_or (λ x. x.name) o []) acted.there_is in
      ap (λ (o : Option ℕ). and_then (there_of o) (λ (place : ℕ). machine.method_at (image_of program) class place)) said
      ∙ method_same class at.0 s.name within at.1
      ∙ ap (language.method_at program class) (sym name_is)

  -- ---- callbacks

  component_there : (component : ℕ) × (type_at program.schema.classes 0 component_type ≡ Some component) × ((info : ClassInfo) × (slice_get program.schema.classes component ≡ Some info))
  component_there =
      let at = some_and (type_at program.schema.classes 0 component_type) typed.kits.sys_types.component in
      let info = some_and (slice_get program.schema.classes at.0) at.2 in
      (at.0, at.1, (info.0, info.1))

  abbrev component : ℕ
  component = component_there.0

  names_are : virtual_names program component ≡ component_names
  names_are = begins_at program typed component component_there.1

  four_places : length (table_of program component) ≡ 4
  four_places = sym (length-map (table_of program component) (method_name program)) ∙ ap length (tabled.names component) ∙ ap length names_are

  places_are : machine.component_places (image_of program) ≡ Ok 4
  places_are =
      ap (λ (s : Schema). there_of (option_and_then places (type_at s.classes 0 component_type))) (schema_back program typed few)
      ∙ ap (λ (o : Option ℕ). there_of (option_and_then places o)) component_there.1
      ∙ ap (λ (o : Option ImageClass). there_of (option_and_then (λ (c : ImageClass). Some (length c.table)) o)) (class_at program component component_there.2.0 component_there.2.1)
      ∙ ap (λ (n : ℕ). Ok n) four_places
    where
      places : ℕ → Option ℕ
      places class = option_and_then (λ (c : ImageClass). Some (length c.table)) (slice_get (image_of program).classes class)

  first_names : (c : Callback-type) → position (λ (other : List ℕ). bytes_eq other (language.callback_name c)) component_names ≡ Some (machine.callback_place c)
  first_names callback.Start = refl
  first_names callback.Stop = refl
  first_names callback.Changed = refl

  component_has : (c : Callback-type) → is_some (find program component (language.callback_name c)) ≡ true
  component_has c =
      let name = language.callback_name c in
      let at : place_of program component name ≡ Some (machine.callback_place c) = ap (position (λ (other : List ℕ). bytes_eq other name)) names_are ∙ first_names c in
      ap is_some (is_at component (machine.callback_place c) name at).found

  callback_placed : (class : ℕ) → HasSystemMethods program class → (c : Callback-type) → place_of program class (language.callback_name c) ≡ Some (machine.callback_place c)
  callback_placed class has callback.Start = has.start
  callback_placed class has callback.Stop = has.stop
  callback_placed class has callback.Changed = has.changed

  callback_same : (class : ℕ) → class < length program.schema.classes → HasSystemMethods program class → (c : Callback-type) →
      machine.root_method (image_of program) class (Callback c) ≡ language.root_method program class (Callback c)
  callback_same class within has c =
      let name = language.callback_name c in
      let found : Result (Option ℕ) Stop = language.method_at program class name in
      ap (λ (r : Result ℕ Stop). and_then r (λ (count : ℕ). cond (count == 4) (machine.method_at (image_of program) class (machine.callback_place c)) (Ok None))) places_are
      ∙ method_same class (machine.callback_place c) name within (callback_placed class has c)
      ∙ sym (ap (λ (b : Bool). cond b found (Ok None)) (component_has c))
      ∙ sym (ap (λ (o : Option ℕ). and_then (there_of o) (λ (at : ℕ). cond (is_some (find program at name)) found (Ok None))) component_there.1)

  -- ---- all three

  creatable : (class : ℕ) → IsTrue (is_creatable (code_of program) class) → (info : ClassInfo) × (slice_get program.schema.classes class ≡ Some info) × (info.is_component ≡ true)
  creatable class h = by_info (slice_get program.schema.classes class) refl h
    where
      by_info : (o : Option ClassInfo) → slice_get program.schema.classes class ≡ o → IsTrue (option_map_or (λ c. c.is_component && not c.is_abstract) o false) →
          (info : ClassInfo) × (slice_get program.schema.classes class ≡ Some info) × (info.is_component ≡ true)
      by_info None is h = let never : ⊥ = cc in absurd never
      by_info (Some info) is h = (info, is, (and_parts info.is_component (not info.is_abstract) h).0)

  pub method_run : ((class : ℕ) → IsTrue (is_below_sys program.schema.classes component_type class) → HasSystemMethods program class) → (q : Question) → Asked (code_of program) q →
      machine.root_method (image_of program) q.class q.which ≡ language.root_method program q.class q.which
  method_run systems q asked =
      let is = creatable q.class asked.creatable in
      let known : IsClass program q.class is.0 = subst (λ (o : Option ClassInfo). IfSome o (IsClass program q.class)) is.1 (typed.classes q.class) in
      let has : HasSystemMethods program q.class = systems q.class (sym known.component ∙ is.2) in
      let within : q.class < length program.schema.classes = slice_get_within program.schema.classes q.class is.0 is.1 in
      by_root is.0 is.1 has within q.which asked.argument
    where
      by_root : (info : ClassInfo) → slice_get program.schema.classes q.class ≡ Some info → HasSystemMethods program q.class → q.class < length program.schema.classes →
          (which : Root-type) → IsTrue (may_call (code_of program) q.class which q.argument) →
          machine.root_method (image_of program) q.class which ≡ language.root_method program q.class which
      by_root info is has within Execute h = method_same q.class 0 (codes "execute") within has.execute
      by_root info is has within (OnAction slot) h = action_same q.class slot q.argument info is h
      by_root info is has within (Callback c) h = callback_same q.class within has c
