-- What a root call of a verified image runs, and how it begins.
use Rattle.std.proofs.Common.{◌≡◌, ◌==◌, ◌&&◌, ◌||◌, not, nat_le, ℕ, Bool, true, false, if◌then◌else◌, List, [], ◌∷◌, ◌++◌, length, Option, Some, None, Result, Ok, refl, sym, ap, subst, ◌∙◌}
use Rattle.std.specs.Prelude.{slice_get}
use Rattle.std.specs.Option.{option_and_then, option_map, option_map_or}
use Rattle.std.proofs.lemmas.Bool.{and_parts}
use Rattle.std.proofs.lemmas.Option.{slice_get-map}
use Rattle.sed_value.specs.Characters.{is_between}
use Rattle.sed_value.specs.declared.value.Value.{Value}
use Rattle.sed_value.specs.declared.value.Value.TheVariants as kept
use Rattle.sed_value.specs.declared.slot_type.SlotType.{SlotType}
use Rattle.sed_value.specs.declared.slot_type.SlotType.TheVariants as slot
use Rattle.sed_typed.specs.declared.number.SlotNo.{SlotNo}
use Rattle.sed_typed.specs.declared.schema.ActionArg.{ActionArg}
use Rattle.sed_typed.specs.declared.schema.ActionArg.TheVariants as argument
use Rattle.sed_typed.specs.declared.schema.ClassInfo.{ClassInfo}
use Rattle.sed_typed.specs.declared.schema.SlotForm.TheVariants.{Prop, Action}
use Rattle.sed_typed.specs.declared.schema.SlotInfo.{SlotInfo}
use Rattle.sed_typed.specs.Classes.{slots}
use Rattle.sed_typed.specs.Schemas.{type_at}
use Rattle.sed_engine.specs.declared.call.Callback.{Callback as AnyCallback}
use Rattle.sed_engine.specs.declared.call.Callback.TheVariants as callback
use Rattle.sed_engine.specs.declared.call.Root.{Root as AnyRoot}
use Rattle.sed_engine.specs.declared.call.Root.TheVariants as root
use Rattle.sed_engine.specs.Code.{Question, action_takes, is_argument, may_call}
use Rattle.sed_engine.specs.Root.{argument_of}
use Rattle.sed_engine.specs.Stops.{Stop, there as is_there, map_ok, and_then}
use Rattle.sed_engine.specs.Values.{Val, Nothing, Truth, Int, Long, At, Component}
use Rattle.sed_engine.proofs.Below.{Below, below_of}
use Rattle.scode_image.specs.declared.image.Image.{Image}
use Rattle.scode_image.specs.declared.image.ImageClass.{ImageClass}
use Rattle.scode_image.specs.declared.image.ImageKind.{ImageKind}
use Rattle.scode_image.specs.declared.image.ImageMethod.{ImageMethod}
use Rattle.scode_image.specs.declared.image.ImageSlot.{ImageSlot}
use Rattle.scode_image.specs.Grammar.{is_slot_form}
use Rattle.scode_code.specs.Calls.{is_instance, table_method}
use Rattle.scode_code.specs.CodeRules.{is_abstract}
use Rattle.scode_code.specs.Fields.{Setting}
use Rattle.scode_code.specs.Image.{code_of}
use Rattle.scode_code.specs.Kinds.{bool, int, is_at_or_above, long, object, same_kind, void}
use Rattle.scode_code.specs.Machine.{pushed}
use Rattle.scode_code.specs.Root.{action_place, callback_place, component_places, method_at, root_arguments, root_method}
use Rattle.scode_code.specs.TableRules as rule
use Rattle.scode_code.specs.Tables.{class_of, primitive_of, schema_of, slot_form, slot_of}
use Rattle.scode_whole.proofs.Bases.{slots_at}
use Rattle.scode_whole.proofs.Rule.{ClassAgrees, class_agrees}
use Rattle.scode_whole.proofs.Truths.{four, no_truth, of_mapped, passes, there, through, is_not}
use Rattle.scode_sound.specs.Cells.{Concrete, Fit, HasKind}
use Rattle.scode_sound.specs.Over.{setting_of}
use Rattle.scode_sound.proofs.Rules.{Tables}
use Rattle.scode_sound.proofs.Cells.{an_object, classes_of}
use Rattle.scode_sound.proofs.Members.{InTable, Received, all_same, has_code, received, table_at, table_below}
use Rattle.scode_sound.proofs.Arguments.{kinds_of}
use Rattle.scode_sound.proofs.Booleans.{not_first, second}

-- ---- a class of which components are made

pub record IsComponentClass (image : Image) (class : ℕ) : Type 0 where
  pub known : Concrete image class
  pub component : rule.is_component known.info ≡ true

pub component_class : (image : Image) (class : ℕ)
    → option_map_or (λ (c : ClassInfo). c.is_component && not c.is_abstract) (slice_get (schema_of image).classes class)
    false ≡ true
    → IsComponentClass image class
component_class image class h =
    let t = there (λ (c : ClassInfo). c.is_component && not c.is_abstract)
    (slice_get (schema_of image).classes class) h in
    let m = of_mapped class_of image.classes class t.0 t.1 in
    let p = and_parts t.0.is_component (not t.0.is_abstract) t.2 in
    record {
      known = record {
        info = m.0;
        stands = m.1;
        concrete = sym (ap (λ (c : ClassInfo). c.is_abstract) m.2) ∙ is_not t.0.is_abstract p.1;
      };
      component = sym (ap (λ (c : ClassInfo). c.is_component) m.2) ∙ p.0;
    }

are_same : (a b : Bool) → a ≡ true → rule.are_equal a b ≡ true → b ≡ true
are_same true b e h = h
are_same false b e h = no_truth e

-- `Component`, its class and its table
pub record TheComponent (image : Image) : Type 0 where
  pub number : ℕ
  pub found : type_at (schema_of image).classes 0 2 ≡ Some number
  pub info : ImageClass
  pub stands : slice_get image.classes number ≡ Some info
  pub table : rule.component_table_is image info.table ≡ true

pub the_component : (image : Image) → Tables image → TheComponent image
the_component image is =
    let t = there (λ (c : ImageClass). rule.component_table_is image c.table)
    (option_and_then (λ (class : ℕ). slice_get image.classes class) (type_at (schema_of image).classes 0 2))
    is.component in
    let n = through (λ (class : ℕ). slice_get image.classes class) (type_at (schema_of image).classes 0 2) t.0 t.1 in
    record { number = n.0; found = n.1; info = t.0; stands = n.2; table = t.2 }

pub component_above : (image : Image) → Tables image → (class : ℕ) → IsComponentClass image class
    → (c : TheComponent image) → Below (classes_of image) c.number class
component_above image is class own c =
    let a : ClassAgrees image class own.known.info = class_agrees image is.whole class own.known.info own.known.stands
    in
    let marked : rule.are_equal (rule.is_component own.known.info) (is_at_or_above image c.number class) ≡ true =
    sym (ap (λ (o : Option ℕ). option_map_or
    (λ (component : ℕ). rule.are_equal (rule.is_component own.known.info) (is_at_or_above image component class)) o
    false) c.found) ∙ a.marked in
    below_of (classes_of image) c.number class
    (are_same (rule.is_component own.known.info) (is_at_or_above image c.number class) own.component marked)

-- ---- methods by their signatures

record HasSignature (image : Image) (params : List ImageKind) (number : ℕ) : Type 0 where
  method : ImageMethod
  stands : slice_get image.methods number ≡ Some method
  params_are : method.params ≡ params

signature_of : (image : Image) (params : List ImageKind) (number : ℕ)
    → rule.has_signature image params void number ≡ true → HasSignature image params number
signature_of image params number h =
    let t = there (λ (m : ImageMethod). rule.same_kinds m.params params && same_kind m.result void)
    (slice_get image.methods number) h in
    record {
      method = t.0;
      stands = t.1;
      params_are = all_same t.0.params params
          (and_parts (rule.same_kinds t.0.params params) (same_kind t.0.result void) t.2).0;
    }

-- a method of a table that may be run on a component, with these parameters
pub record RunsAt (image : Image) (class place : ℕ) (params : List ImageKind) : Type 0 where
  pub number : ℕ
  pub method : ImageMethod
  pub found : table_method image class place ≡ Some number
  pub stands : slice_get image.methods number ≡ Some method
  pub params_are : method.params ≡ params
  pub instance : is_instance method ≡ true
  pub above : Below (classes_of image) method.class class
  pub code : is_abstract method ≡ false

runs_at : (image : Image) → Tables image → (class place number : ℕ) (m : ImageMethod) (params : List ImageKind)
    → Concrete image class → table_method image class place ≡ Some number → slice_get image.methods number ≡ Some m
    → m.params ≡ params → RunsAt image class place params
runs_at image is class place number m params known found s e =
    let r : Received image class m = received image is class place number m found s in
    record {
      number = number;
      method = m;
      found = found;
      stands = s;
      params_are = e;
      instance = r.instance;
      above = r.above;
      code = has_code image is class place number m known found s;
    }

-- of `Component`'s table, at classes below it
below_component : (image : Image) → Tables image → (class place number : ℕ) (params : List ImageKind)
    → IsComponentClass image class → (c : TheComponent image) → slice_get c.info.table place ≡ Some number
    → rule.has_signature image params void number ≡ true → RunsAt image class place params
below_component image is class place number params own c at h =
    let s = signature_of image params number h in
    let f : InTable image class place s.method =
    table_below image is c.number class place number s.method (component_above image is class own c)
    (table_at image c.number place c.info c.stands ∙ at) s.stands in
    runs_at image is class place f.number f.method params own.known f.found f.stands (f.same.params ∙ s.params_are)

execute_at : (image : Image) (table : List ℕ) → rule.component_table_is image table ≡ true
    → (n : ℕ) × (slice_get table 0 ≡ Some n) × (rule.has_signature image [] void n ≡ true)
execute_at image [] h = no_truth h
execute_at image (e ∷ []) h = (e, refl, h)
execute_at image (e ∷ s ∷ []) h = no_truth h
execute_at image (e ∷ s ∷ t ∷ []) h = no_truth h
execute_at image (e ∷ s ∷ t ∷ c ∷ []) h =
    let p = four (rule.has_signature image [] void e) (rule.has_signature image [] void s)
    (rule.has_signature image [] void t) (rule.has_signature image (int ∷ []) void c) h in
    (e, refl, p.0)
execute_at image (e ∷ s ∷ t ∷ c ∷ x ∷ more) h = no_truth h

-- the callbacks that stand behind `execute`
record CallbacksAt (image : Image) (table : List ℕ) : Type 0 where
  start : ℕ
  stop : ℕ
  changed : ℕ
  start_at : slice_get table 1 ≡ Some start
  stop_at : slice_get table 2 ≡ Some stop
  changed_at : slice_get table 3 ≡ Some changed
  start_is : rule.has_signature image [] void start ≡ true
  stop_is : rule.has_signature image [] void stop ≡ true
  changed_is : rule.has_signature image (int ∷ []) void changed ≡ true

callbacks_at : (image : Image) (table : List ℕ) → rule.component_table_is image table ≡ true
    → (length table == 4) ≡ true → CallbacksAt image table
callbacks_at image [] h four_long = no_truth h
callbacks_at image (e ∷ []) h four_long = no_truth four_long
callbacks_at image (e ∷ s ∷ []) h four_long = no_truth h
callbacks_at image (e ∷ s ∷ t ∷ []) h four_long = no_truth h
callbacks_at image (e ∷ s ∷ t ∷ c ∷ []) h four_long =
    let p = four (rule.has_signature image [] void e) (rule.has_signature image [] void s)
    (rule.has_signature image [] void t) (rule.has_signature image (int ∷ []) void c) h in
    record {
      start = s;
      stop = t;
      changed = c;
      start_at = refl;
      stop_at = refl;
      changed_at = refl;
      start_is = p.1;
      stop_is = p.2;
      changed_is = p.3;
    }
callbacks_at image (e ∷ s ∷ t ∷ c ∷ x ∷ more) h four_long = no_truth h

-- ---- arguments

-- the parameters of an action
abbrev kinds_for : ActionArg → List ImageKind
kinds_for argument.Void = []
kinds_for argument.Bool = bool ∷ []
kinds_for argument.Int = int ∷ []
kinds_for argument.Long = long ∷ []

-- what is given fits the parameters
record Given (w : Setting) (params : List ImageKind) (v : Value) : Type 0 where
  value : Val
  given : argument_of v ≡ Ok value
  fits : Fit w params (pushed value [])

argument_fits : (w : Setting) (a : ActionArg) (v : Value) → is_argument a v ≡ true → Given w (kinds_for a) v
argument_fits w argument.Void kept.Nothing h = record { value = Nothing; given = refl; fits = tt }
argument_fits w argument.Void v h = no_truth h
argument_fits w argument.Bool (kept.Bool t) h = record { value = Truth t; given = refl; fits = ((refl, h), tt) }
argument_fits w argument.Bool v h = no_truth h
argument_fits w argument.Int (kept.Int n) h = record { value = Int n; given = refl; fits = ((refl, h), tt) }
argument_fits w argument.Int v h = no_truth h
argument_fits w argument.Long (kept.Long n) h = record { value = Long n; given = refl; fits = ((refl, h), tt) }
argument_fits w argument.Long v h = no_truth h

-- an action by its number
action_argument : (w : Setting) (a b c d e : Bool) (p q : SlotType) (v : Value)
    → action_takes (Some (if a then Prop p else if b then Prop q else if c then Action argument.Void
    else if d then Action argument.Bool else if e then Action argument.Int else Action argument.Long)) v ≡ true
    → Given w (if c then [] else if d then bool ∷ [] else if e then int ∷ [] else long ∷ []) v
action_argument w true b c d e p q v h = no_truth h
action_argument w false true c d e p q v h = no_truth h
action_argument w false false true d e p q v h = argument_fits w argument.Void v h
action_argument w false false false true e p q v h = argument_fits w argument.Bool v h
action_argument w false false false false true p q v h = argument_fits w argument.Int v h
action_argument w false false false false false p q v h = argument_fits w argument.Long v h

no_between : (f : ℕ) → nat_le f 5 ≡ false → is_between 1 5 f ≡ false
no_between f e = by_test (is_between 1 5 f) refl
  where
    by_test : (b : Bool) → is_between 1 5 f ≡ b → b ≡ false
    by_test false is = refl
    by_test true is = no_truth (sym e ∙ (and_parts (nat_le 1 f) (nat_le f 5) is).1)

slot_is_action : (s : ImageSlot) (v : Value) → is_slot_form s.form ≡ true → action_takes (Some (slot_form s)) v ≡ true
    → rule.is_action s ≡ true
slot_is_action s v known h = by_test (nat_le s.form 5) (s.form == 7) refl refl h
  where
    by_test : (a b : Bool) → nat_le s.form 5 ≡ a → (s.form == 7) ≡ b
        → action_takes (Some (if a then Prop (slot.Prim (primitive_of s.form)) else if b then Prop (slot.Buf s.n)
        else if s.form == 0x10 then Action argument.Void else if s.form == 0x11 then Action argument.Bool
        else if s.form == 0x12 then Action argument.Int else Action argument.Long)) v ≡ true
        → nat_le 0x10 s.form ≡ true
    by_test true b ea eb h = no_truth h
    by_test false true ea eb h = no_truth h
    by_test false false ea eb h =
        let more : is_between 0x10 0x13 s.form ≡ true =
        not_first (is_between 1 5 s.form || (s.form == 7)) (is_between 0x10 0x13 s.form)
        (both_false (is_between 1 5 s.form) (s.form == 7) (no_between s.form ea) eb) known in
        (and_parts (nat_le 0x10 s.form) (nat_le s.form 0x13) more).0
      where
        both_false : (a b : Bool) → a ≡ false → b ≡ false → (a || b) ≡ false
        both_false true b x y = x
        both_false false b x y = y

-- ---- what may be asked

-- a root call runs a method with what fits its parameters, or nothing
pub data Asks (image : Image) (q : Question) : Type 0 where
  Runs : (number : ℕ) (m : ImageMethod) (value : Val) → root_method image q.class q.which ≡ Ok (Some number)
      → argument_of q.argument ≡ Ok value → slice_get image.methods number ≡ Some m → is_abstract m ≡ false
      → Fit (setting_of image q) (kinds_of m.class m) (root_arguments value) → Asks image q
  Rests : (value : Val) → root_method image q.class q.which ≡ Ok None → argument_of q.argument ≡ Ok value
      → Asks image q

runs : (image : Image) → Tables image → (q : Question) (place : ℕ) (params : List ImageKind) → Concrete image q.class
    → RunsAt image q.class place params → root_method image q.class q.which ≡ method_at image q.class place
    → Given (setting_of image q) params q.argument → Asks image q
runs image is q place params known r which g =
    let at : method_at image q.class place ≡ Ok (Some r.number) =
    ap (λ (o : Option ℕ). map_ok (λ (m : ℕ). Some m) (is_there o)) r.found in
    let fits : Fit (setting_of image q) r.method.params (pushed g.value []) =
    subst (λ (ks : List ImageKind). Fit (setting_of image q) ks (pushed g.value [])) (sym r.params_are) g.fits in
    let receiver : HasKind (setting_of image q) (object r.method.class) (At (record { base = Component; path = [] })) =
    an_object (setting_of image q) is (object r.method.class) (record { base = Component; path = [] }) refl q.class refl
    known r.above in
    Runs r.number r.method g.value (which ∙ at) g.given r.stands r.code
    (subst (λ (b : Bool). Fit (setting_of image q) ((if b then object r.method.class ∷ [] else []) ++ r.method.params)
    (root_arguments g.value)) (sym r.instance) (receiver, fits))

module _ (image : Image) (is : Tables image) (q : Question) (own : IsComponentClass image q.class) where
  asks_execute : q.which ≡ root.Execute → is_argument argument.Void q.argument ≡ true → Asks image q
  asks_execute e h =
      let c = the_component image is in
      let n = execute_at image c.info.table c.table in
      runs image is q 0 [] own.known (below_component image is q.class 0 n.0 [] own c n.1 n.2)
      (ap (root_method image q.class) e) (argument_fits (setting_of image q) argument.Void q.argument h)

  places_are : (c : TheComponent image) → component_places image ≡ Ok (length c.info.table)
  places_are c =
      ap (λ (o : Option ℕ). is_there (option_and_then
      (λ (class : ℕ). option_and_then (λ (x : ImageClass). Some (length x.table)) (slice_get image.classes class)) o))
      c.found
      ∙ ap (λ (o : Option ImageClass). is_there (option_and_then
      (λ (x : ImageClass). Some (length x.table)) o)) c.stands

  asks_callback : (cb : AnyCallback) (a : ActionArg) → q.which ≡ root.Callback cb → is_argument a q.argument ≡ true
      → ((c : TheComponent image) → CallbacksAt image c.info.table → RunsAt image q.class (callback_place cb)
      (kinds_for a))
      → Asks image q
  asks_callback cb a e h at =
      let c = the_component image is in
      let g = argument_fits (setting_of image q) a q.argument h in
      let which : root_method image q.class q.which
      ≡ (if length c.info.table == 4 then method_at image q.class (callback_place cb) else Ok None) =
      ap (root_method image q.class) e
      ∙ ap (λ (r : Result ℕ Stop). and_then r
      (λ (count : ℕ). if count == 4 then method_at image q.class (callback_place cb) else Ok None)) (places_are c) in
      by_length c g (length c.info.table == 4) refl which
    where
      by_length : (c : TheComponent image) → Given (setting_of image q) (kinds_for a) q.argument → (b : Bool)
          → (length c.info.table == 4) ≡ b
          → root_method image q.class q.which
          ≡ (if b then method_at image q.class (callback_place cb) else Ok None)
          → Asks image q
      by_length c g true long which =
          runs image is q (callback_place cb) (kinds_for a) own.known
          (at c (callbacks_at image c.info.table c.table long)) which g
      by_length c g false short which = Rests g.value which g.given

  asks_start : q.which ≡ root.Callback callback.Start → is_argument argument.Void q.argument ≡ true → Asks image q
  asks_start e h =
      asks_callback callback.Start argument.Void e h
      (λ c x. below_component image is q.class 1 x.start [] own c x.start_at x.start_is)

  asks_stop : q.which ≡ root.Callback callback.Stop → is_argument argument.Void q.argument ≡ true → Asks image q
  asks_stop e h =
      asks_callback callback.Stop argument.Void e h
      (λ c x. below_component image is q.class 2 x.stop [] own c x.stop_at x.stop_is)

  asks_changed : q.which ≡ root.Callback callback.Changed → is_argument argument.Int q.argument ≡ true → Asks image q
  asks_changed e h =
      asks_callback callback.Changed argument.Int e h
      (λ c x. below_component image is q.class 3 x.changed (int ∷ []) own c x.changed_at x.changed_is)

  -- an action of a slot
  action_runs : (c : ImageClass) (n : ℕ) (s : ImageSlot) → slice_get image.classes q.class ≡ Some c
      → slice_get c.slots n ≡ Some s → rule.is_action s ≡ true
      → RunsAt image q.class s.place (rule.action_params s.form)
  action_runs c n s at e action =
      let a : ClassAgrees image q.class c = class_agrees image is.whole q.class c at in
      let p = and_parts (rule.property_has_field c s) (rule.action_has_method image c s)
      (passes (λ (t : ImageSlot). rule.property_has_field c t && rule.action_has_method image c t) c.slots n s a.slots
      e) in
      let t = there (rule.has_signature image (rule.action_params s.form) void) (slice_get c.table s.place)
      (second (rule.is_action s) (option_map_or (rule.has_signature image (rule.action_params s.form) void)
      (slice_get c.table s.place) false) action p.1) in
      let m = signature_of image (rule.action_params s.form) t.0 t.2 in
      runs_at image is q.class s.place t.0 m.method (rule.action_params s.form) own.known
      (table_at image q.class s.place c at ∙ t.1) m.stands m.params_are

  asks_action : (number : SlotNo) → q.which ≡ root.Action number
      → action_takes (option_map (λ (s : SlotInfo). s.form)
      (slice_get (slots (schema_of image).classes q.class) number.0)) q.argument ≡ true
      → Asks image q
  asks_action number e h = by_slot (slice_get own.known.info.slots number.0) refl takes
    where
      same : slice_get (slots (schema_of image).classes q.class) number.0
          ≡ option_map slot_of (slice_get own.known.info.slots number.0)
      same =
          ap (λ (all : List SlotInfo). slice_get all number.0) (slots_at image q.class own.known.info own.known.stands)
          ∙ slice_get-map slot_of own.known.info.slots number.0

      takes : action_takes (option_map (λ (s : SlotInfo). s.form)
          (option_map slot_of (slice_get own.known.info.slots number.0))) q.argument ≡ true
      takes =
          sym (ap (λ (o : Option SlotInfo). action_takes (option_map (λ (s : SlotInfo). s.form) o) q.argument) same) ∙ h

      by_slot : (o : Option ImageSlot) → slice_get own.known.info.slots number.0 ≡ o
          → action_takes (option_map (λ (s : SlotInfo). s.form) (option_map slot_of o)) q.argument ≡ true
          → Asks image q
      by_slot None at h = no_truth h
      by_slot (Some s) at h =
          let a : ClassAgrees image q.class own.known.info =
          class_agrees image is.whole q.class own.known.info own.known.stands in
          let known = and_parts (is_slot_form s.form) (nat_le s.config 1)
          (passes (λ (t : ImageSlot). is_slot_form t.form && nat_le t.config 1) own.known.info.slots number.0 s
          a.slot_forms at) in
          let place_is : action_place image q.class number.0 ≡ Some s.place =
          ap (λ (o : Option ImageClass). option_and_then (λ (x : ImageClass).
          option_and_then (λ (y : ImageSlot). Some y.place) (slice_get x.slots number.0)) o) own.known.stands
          ∙ ap (λ (o : Option ImageSlot). option_and_then (λ (y : ImageSlot). Some y.place) o) at in
          let which : root_method image q.class q.which ≡ method_at image q.class s.place =
          ap (root_method image q.class) e
          ∙ ap (λ (o : Option ℕ). and_then (is_there o) (λ (place : ℕ). method_at image q.class place)) place_is in
          runs image is q s.place (rule.action_params s.form) own.known
          (action_runs own.known.info number.0 s own.known.stands at (slot_is_action s q.argument known.0 h)) which
          (action_argument (setting_of image q) (nat_le s.form 5) (s.form == 7) (s.form == 0x10) (s.form == 0x11)
          (s.form == 0x12) (slot.Prim (primitive_of s.form)) (slot.Buf s.n) q.argument h)

  pub asks : (which : AnyRoot) → q.which ≡ which → may_call (code_of image) q.class which q.argument ≡ true
      → Asks image q
  asks root.Execute e h = asks_execute e h
  asks (root.Action slot) e h = asks_action slot e h
  asks (root.Callback callback.Start) e h = asks_start e h
  asks (root.Callback callback.Stop) e h = asks_stop e h
  asks (root.Callback callback.Changed) e h = asks_changed e h
