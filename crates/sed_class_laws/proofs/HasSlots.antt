-- The slots of each class of a program.
use Rattle.std.proofs.Common.{◌≡◌, ◌<◌, ◌≤◌, ◌+◌, ◌-◌, ◌==◌, ◌&&◌, ◌||◌, ℕ, zero, suc, Bool, true, false, not, nat_lt, if◌then◌else◌, List, [], ◌∷◌, ◌++◌, drop, filter, get_or, length, map, slice_get, All, IfSome, IsSome, IsSomeAnd, Option, Some, None, refl, sym, ap, ◌∙◌, subst, arith}
use Rattle.std.specs.List.{filter_map, flat_map, list_any}
use Rattle.std.specs.List.Sorted.{IsStrictlyIncreasing}
use Rattle.std.specs.Option.{option_map_or}
use Rattle.std.proofs.lemmas.Option.{slice_get-get_or, slice_get_within}
use Rattle.std.proofs.lemmas.Bool.Decides.{nat_tests}
use Rattle.sed_units.specs.declared.classes.Member.{Member}
use Rattle.sed_typed.specs.declared.number.SlotNo.{SlotNo}
use Rattle.sed_typed.specs.declared.program.Field.{Field}
use Rattle.sed_typed.specs.declared.program.Method.{Method}
use Rattle.sed_typed.specs.declared.program.Program.{Program}
use Rattle.sed_typed.specs.declared.schema.ActionArg.{ActionArg}
use Rattle.sed_typed.specs.declared.schema.ClassInfo.{ClassInfo}
use Rattle.sed_typed.specs.declared.schema.Schema.{Schema}
use Rattle.sed_typed.specs.declared.schema.SlotForm.{SlotForm}
use Rattle.sed_typed.specs.declared.schema.SlotForm.TheVariants.{Prop, Action}
use Rattle.sed_typed.specs.declared.schema.SlotInfo.{SlotInfo}
use Rattle.sed_typed.specs.Classes as typed
use Rattle.sed_typed.specs.TypedSchema.{HasMembers, HasSlot, HasSlots, IsAction, IsAdded, IsNewMethod, added_slots, property_slots, in_slot}
use Rattle.sed_classes.specs.declared.kit_units.KitUnits.{KitUnits}
use Rattle.sed_classes.specs.Declarations.{Declaration, all_classes, class_at}
use Rattle.sed_classes.specs.Bases.{base_of, bases, lineage}
use Rattle.sed_classes.specs.Members.{declares, form_params, is_action, is_method, kit_of, members_of}
use Rattle.sed_classes.specs.Schema.{class_info, class_infos, schema_of}
use Rattle.sed_classes.specs.Slots.{action_argument, own_slots, slot_of, slots}
use Rattle.sed_program.specs.Types.{place_of}
use Rattle.sed_program.specs.Fields.{fields_of, own_fields, field_of}
use Rattle.sed_outline.specs.Fits.{Unbroken}
use Rattle.sed_program.proofs.OrderFields.{declared_in_class, fields_at, own_typed}
use Rattle.sed_program.proofs.Infos.{info_of, infos_len, class_there}
use Rattle.sed_program.proofs.Leads.{Leads}
use Rattle.sed_program.proofs.Lineages.{bases_cons, bases_lead, climb, lineage_cons, lineage_first, lineage_one, places}
use Rattle.sed_program.proofs.Order.{number, number_at, number_in, place_in, place_is}
use Rattle.sed_program.proofs.Typed.{base_none, base_some, lineage_at}
use Rattle.sed_program.proofs.Within.{base_within}
use Rattle.sed_class_laws.specs.Heads.{HasHead, HasHeads}
use Rattle.sed_class_laws.proofs.Actions.{action_is, action_kept, overriding}
use Rattle.sed_class_laws.proofs.Class.{below_sys, slots_at, slots_begin}
use Rattle.sed_class_laws.specs.Free.{AllFree}
use Rattle.sed_class_laws.proofs.Entry.{Entry, property, action, plain}
use Rattle.sed_class_laws.proofs.Rows.{InStep, Rising, SlotFrom, Slotted}
use Rattle.sed_class_laws.proofs.Slots.{AddedBy, Declares, added_by, declares_at, entries, get_left, get_right, laid, names_once, own_in_step, own_new_name, slots_below, slots_one, up_fields}
use Rattle.std.specs.Prelude.{slice_index_or}

-- ---- finding a method

found_first : (look : ℕ → Option ℕ) (c : ℕ) (cs : List ℕ) (n : ℕ) → look c ≡ Some n →
    typed.first_found look (c ∷ cs) ≡ Some n
found_first look c cs n e = rw e

found_later : (look : ℕ → Option ℕ) (c : ℕ) (cs : List ℕ) → look c ≡ None →
    typed.first_found look (c ∷ cs) ≡ typed.first_found look cs
found_later look c cs e = rw e

-- the base's lineage is behind the class
module _ (units : List KitUnits) (u : Unbroken units) (program : Program) (s : program.schema
    ≡ schema_of units) (f : program.fields ≡ fields_of units) where
  classes_are : program.schema.classes ≡ class_infos units
  classes_are = ap (λ (x : Schema). x.classes) s

  abbrev look : List ℕ → ℕ → Option ℕ
  look name k = typed.declared_method program.methods name k

  find_is : (k class : ℕ) (name : List ℕ) → place_of units k ≡ Some class →
      typed.find program k name ≡ typed.first_found (look name) (map (number units) (lineage units class))
  find_is k class name e =
      ap (typed.first_found (look name)) (ap (λ cs. typed.lineage cs k) classes_are ∙ lineage_at units u k class e)

  find_class : (class : ℕ) (name : List ℕ) → class < places units →
      typed.find program (number units class) name ≡ typed.first_found (look name) (map (number units)
      (lineage units class))
  find_class class name h = find_is (number units class) class name (place_is units u class h)

  find_here : (class : ℕ) (name : List ℕ) (n : ℕ) → class < places units → look name (number units class) ≡ Some n →
      typed.find program (number units class) name ≡ Some n
  find_here class name n h e =
      find_class class name h
      ∙ ap (λ xs. typed.first_found (look name) (map (number units) xs)) (lineage_first units u class)
      ∙ found_first (look name) (number units class) (map (number units) (bases units class)) n e

  find_base : (class base : ℕ) (name : List ℕ) → class < places units → base_of units class ≡ Some base →
      look name (number units class) ≡ None →
      typed.find program (number units class) name ≡ typed.find program (number units base) name
  find_base class base name h b e =
      find_class class name h
      ∙ ap (λ xs. typed.first_found (look name) (map (number units) xs)) (lineage_cons units u class base b)
      ∙ found_later (look name) (number units class) (map (number units) (lineage units base)) e
      ∙ sym (find_class base name (base_within units class base b))

  -- where no class declares a name, there is none
  none_found : HasHeads units program → (name : List ℕ) (o : Option ℕ) (xs : List ℕ) → ((c : ℕ) → o ≡ Some c →
      c < places units) → Leads (base_of units) o xs →
      list_any (declares units name) xs ≡ false → typed.first_found (look name) (map (number units) xs) ≡ None
  none_found heads name o [] w l e = refl
  none_found heads name o (x ∷ xs) w l e =
      let both = apart (declares units name x) (list_any (declares units name) xs) e in
      found_later (look name) (number units x) (map (number units) xs) (heads.lacking x name (w x l.0) both.0)
      ∙ none_found heads name (base_of units x) xs (base_within units x) l.1 both.1
    where
      apart : (a b : Bool) → (a || b) ≡ false → (a ≡ false) × (b ≡ false)
      apart false b p = (refl, p)
      apart true b p = cc

  -- ---- the methods of actions

  abbrev Runs : ℕ → List ℕ → ActionArg → Type 0
  Runs k name a = IsSomeAnd (typed.find program k name) (λ m. IsSomeAnd (slice_get program.methods m) (IsAction a))

  runs_from : (k : ℕ) (name : List ℕ) (a : ActionArg) (n : ℕ) (x : Method) → typed.find program k name ≡ Some n →
      slice_get program.methods n ≡ Some x → IsAction a x → Runs k name a
  runs_from k name a n x e g i =
      subst
      (λ o. IsSomeAnd o (λ m. IsSomeAnd (slice_get program.methods m) (IsAction a)))
      (sym e)
      (subst (λ o. IsSomeAnd o (IsAction a)) (sym g) i)

  runs_parts : (k : ℕ) (name : List ℕ) (a : ActionArg) → Runs k name a →
      (n : ℕ) × (x : Method) × (typed.find program k name ≡ Some n) × (slice_get program.methods n
      ≡ Some x) × IsAction a x
  runs_parts k name a r = by_find (typed.find program k name) refl r
    where
      by_method : (n : ℕ) (o : Option Method) → typed.find program k name ≡ Some n → slice_get program.methods n ≡ o →
          IsSomeAnd o (IsAction a) →
          (n : ℕ) × (x : Method) × (typed.find program k name ≡ Some n) × (slice_get program.methods n
          ≡ Some x) × IsAction a x
      by_method n None e g q = absurd q
      by_method n (Some x) e g q = (n, x, e, g, q)

      by_find : (o : Option ℕ) → typed.find program k name ≡ o →
          IsSomeAnd o (λ m. IsSomeAnd (slice_get program.methods m) (IsAction a)) →
          (n : ℕ) × (x : Method) × (typed.find program k name ≡ Some n) × (slice_get program.methods n
          ≡ Some x) × IsAction a x
      by_find None e q = absurd q
      by_find (Some n) e q = by_method n (slice_get program.methods n) e refl q

  module _ (free : AllFree units) (heads : HasHeads units program) (members : (k : ℕ) →
      k < length program.schema.classes → HasMembers program k) where
    -- a slot that is an action's, of the class that adds it
    own_action : (class i : ℕ) (x : SlotInfo) (a : ActionArg) → class < places units →
        slice_get (own_slots units class) i ≡ Some x → x.form ≡ Action a →
        (n : ℕ) × (y : Method) × (look x.name (number units class) ≡ Some n) × (slice_get program.methods n
        ≡ Some y) × IsAction a y × (x.config ≡ false)
    own_action class i x a h e form =
        let by : AddedBy units class x = added_by units free class i x e in
        by_entry by (entries units free (number units class) class by.place by.member by.at)
      where
        by_entry : (by : AddedBy units class x) → Entry units (number units class) class by.member →
            (n : ℕ) × (y : Method) × (look x.name (number units class) ≡ Some n) × (slice_get program.methods n
            ≡ Some y) × IsAction a y × (x.config ≡ false)
        by_entry by (property y t fd slot yform name field is place p) =
            let some : Some y ≡ Some x = sym slot ∙ by.slot in
            let same : y ≡ x = cc in
            let forms : Prop t ≡ Action a = sym yform ∙ ap (λ (z : SlotInfo). z.form) same ∙ form in
            cc
        by_entry by (plain none other) = let no_slot : None ≡ Some x = sym none ∙ by.slot in cc
        by_entry by (action y slot yform name config no_field method acts) =
            let some : Some y ≡ Some x = sym slot ∙ by.slot in
            let same : y ≡ x = cc in
            let forms : Action (action_argument units (kit_of units class) (form_params by.member.form)) ≡ Action a =
            sym yform ∙ ap (λ (z : SlotInfo). z.form) same ∙ form in
            let argument : action_argument units (kit_of units class) (form_params by.member.form) ≡ a = cc in
            let r = declares_at units class by.place by.member by.at in
            let head : HasHead units program class by.member = heads.declared class by.place by.member h by.at method in (
              head.place,
              head.method,
              ap (λ n. look n (number units class)) by.named ∙ head.named,
              head.at,
              subst
                  (λ q. IsAction q head.method)
                  argument
                  (action_is units class r.declared (free class r.declared r.there) r.kit by.place by.member r.at acts method (number units class) head.method head.head),
              sym (ap (λ (z : SlotInfo). z.config) same) ∙ config,
            )

    abbrev AllRun : ℕ → Type 0
    AllRun class = class < places units → (n : ℕ) (x : SlotInfo) (a : ActionArg) →
        slice_get (slots units class) n ≡ Some x → x.form ≡ Action a →
        Runs (number units class) x.name a × (x.config ≡ false)

    own_run : (class i : ℕ) (x : SlotInfo) (a : ActionArg) → class < places units →
        slice_get (own_slots units class) i ≡ Some x → x.form ≡ Action a →
        Runs (number units class) x.name a × (x.config ≡ false)
    own_run class i x a h e form =
        let own = own_action class i x a h e form in
        (runs_from (number units class) x.name a own.0 own.1 (find_here class x.name own.0 h own.2) own.3 own.4, own.5)

    -- inherited, or overridden
    base_run : (class base : ℕ) (x : SlotInfo) (a : ActionArg) → class < places units →
        base_of units class ≡ Some base → Runs (number units base) x.name a → Runs (number units class) x.name a
    base_run class base x a h b r = by_look (look x.name (number units class)) refl
      where
        below : (n : ℕ) × (y : Method) × (typed.find program (number units base) x.name
            ≡ Some n) × (slice_get program.methods n ≡ Some y) × IsAction a y
        below = runs_parts (number units base) x.name a r

        by_look : (o : Option ℕ) → look x.name (number units class) ≡ o → Runs (number units class) x.name a
        by_look None e =
            runs_from (number units class) x.name a below.0 below.1 (find_base class base x.name h b e
            ∙ below.2) below.3 below.4
        by_look (Some n) e =
            let over = overriding
            program
            (number units class)
            (number units base)
            (members (number units class) (omega (arith, number_in units u class h, ap length classes_are, infos_len units u)))
            (ap (λ cs. typed.base_of cs (number units class)) classes_are
            ∙ base_some units u (number units class) class base (place_is units u class h) b)
            x.name
            n
            below.0
            below.1
            e
            below.2
            below.3 in
            runs_from (number units class) x.name a n over.0 (find_here class x.name n h e) over.1
            (action_kept a over.0 below.1 over.2 below.4)

    all_run : (class : ℕ) → AllRun class
    all_run class =
        climb
        AllRun
        units
        u
        (λ c e h n x a g form. own_run c n x a h (sym (ap (λ xs. slice_get xs n) (slots_one units u c e)) ∙ g) form)
        (λ c b e p h n x a g form. step c b e p h n x a g form (nat_lt n (length (slots units b))) refl)
        class
      where
        step : (c b : ℕ) → base_of units c ≡ Some b → AllRun b → c < places units →
            (n : ℕ) (x : SlotInfo) (a : ActionArg) → slice_get (slots units c) n ≡ Some x → x.form ≡ Action a →
            (t : Bool) → nat_lt n (length (slots units b)) ≡ t → Runs (number units c) x.name a × (x.config ≡ false)
        step c b e p h n x a g form true t =
            let l : n < length (slots units b) = grind (arith, nat_tests) in
            let at : slice_get (slots units b) n ≡ Some x =
            sym (get_left (slots units b) (own_slots units c) n l)
            ∙ sym (ap (λ xs. slice_get xs n) (slots_begin units u c b e)) ∙ g in
            let r = p (base_within units c b e) n x a at form in
            (base_run c b x a h e r.0, r.1)
        step c b e p h n x a g form false t =
            let le : length (slots units b) ≤ n = grind (arith, nat_tests) in
            let at : n ≡ length (slots units b) + (n - length (slots units b)) = omega (arith, le) in
            let found : slice_get (own_slots units c) (n - length (slots units b)) ≡ Some x =
            sym (get_right (slots units b) (own_slots units c) (n - length (slots units b)))
            ∙ ap (slice_get (slots units b ++ own_slots units c)) (sym at)
            ∙ sym (ap (λ xs. slice_get xs n) (slots_begin units u c b e))
            ∙ g in
            own_run c (n - length (slots units b)) x a h found form

    -- ---- the slots of one class

    module _ (k class : ℕ) (d : Declaration) (e : place_of units k ≡ Some class) (there : class_at units class
        ≡ Some d) where
      within : class < places units
      within = (place_in units u k class e).1

      numbered : number units class ≡ k
      numbered = number_at units u k class e

      fields_are : typed.fields program k ≡ up_fields units class
      fields_are = fields_at units u program s f k class e

      a_slot : (n : ℕ) (x : SlotInfo) (form : SlotForm) → slice_get (slots units class) n ≡ Some x → x.form ≡ form →
          Slotted (up_fields units class) n x form → HasSlot program k n x form
      a_slot n x (Prop t) g same h = (h.0, ap (filter (in_slot n)) fields_are ∙ h.1, h.2)
      a_slot n x (Action a) g same h =
          let r = all_run class within n x a g same in
          (ap (filter (in_slot n)) fields_are ∙ h, subst (λ j. Runs j x.name a) numbered r.0, r.1)

      each : (n : ℕ) → IfSome (slice_get (slots units class) n) (λ x. HasSlot program k n x x.form)
      each n = by_slot (slice_get (slots units class) n) refl
        where
          by_slot : (o : Option SlotInfo) → slice_get (slots units class) n ≡ o →
              IfSome o (λ x. HasSlot program k n x x.form)
          by_slot None g = tt
          by_slot (Some x) g = a_slot n x x.form g refl ((laid units u free class).each n x g)

      -- what the class adds
      added_are : added_slots program.schema.classes k ≡ own_slots units class
      added_are =
          ap (λ cs. added_slots cs k) classes_are
          ∙ by_base (base_of units class) refl
        where
          dropped : {X : Type 0} (xs ys : List X) → drop (length xs) (xs ++ ys) ≡ ys
          dropped [] ys = refl
          dropped (x ∷ xs) ys = dropped xs ys

          by_base : (o : Option ℕ) → base_of units class ≡ o → added_slots (class_infos units) k ≡ own_slots units class
          by_base None b =
              ap (λ q. drop (option_map_or (λ base. length (typed.slots (class_infos units) base)) q 0) (typed.slots
              (class_infos units) k)) (base_none units u k class e b)
              ∙ slots_at units u k class d e there
              ∙ slots_one units u class b
          by_base (Some base) b =
              let found = class_there units base (base_within units class base b) in
              ap (λ q. drop (option_map_or (λ c. length (typed.slots (class_infos units) c)) q 0) (typed.slots
              (class_infos units) k)) (base_some units u k class base e b)
              ∙ ap (λ xs. drop (length (typed.slots (class_infos units) (number units base))) xs)
              (slots_at units u k class d e there ∙ slots_begin units u class base b)
              ∙ ap (λ xs. drop (length xs) (slots units base
              ++ own_slots units class)) (slots_at units u (number units base) base found.0 (place_is units u base
              (base_within units class base b)) found.1)
              ∙ dropped (slots units base) (own_slots units class)

      new_method : (i : ℕ) (x : SlotInfo) (a : ActionArg) → slice_get (own_slots units class) i ≡ Some x →
          x.form ≡ Action a → IsNewMethod program k x.name
      new_method i x a g form =
          let own = own_action class i x a within g form in (
            subst IsSome (sym (ap (look x.name) (sym numbered) ∙ own.2)) refl,
            by_base (base_of units class) refl,
          )
        where
          by_base : (o : Option ℕ) → base_of units class ≡ o →
              IfSome (typed.base_of program.schema.classes k) (λ base. typed.find program base x.name ≡ None)
          by_base None b =
              subst (λ o. IfSome o (λ base. typed.find program base x.name
              ≡ None)) (sym (ap (λ cs. typed.base_of cs k) classes_are ∙ base_none units u k class e b)) tt
          by_base (Some base) b =
              let h : base < places units = base_within units class base b in
              let none : list_any (declares units x.name) (lineage units base) ≡ false =
              ap (list_any (declares units x.name)) (sym (bases_cons units u class base b))
              ∙ own_new_name units free class i x g in
              subst
              (λ o. IfSome o (λ c. typed.find program c x.name ≡ None))
              (sym (ap (λ cs. typed.base_of cs k) classes_are ∙ base_some units u k class base e b))
              (find_class base x.name h
              ∙ none_found
              heads
              x.name
              (Some base)
              (lineage units base)
              (λ c q. let same : base ≡ c = cc in omega (arith, same, h))
              (subst (Leads (base_of units) (Some base)) (sym (lineage_first units u base))
              (refl, bases_lead units u base))
              none)

      is_added : (i : ℕ) (x : SlotInfo) (form : SlotForm) → slice_get (own_slots units class) i ≡ Some x →
          x.form ≡ form → IsAdded program k x form
      is_added i x (Prop t) g same = tt
      is_added i x (Action a) g same = new_method i x a g same

      added : All (λ (x : SlotInfo). IsAdded program k x x.form) (added_slots program.schema.classes k)
      added =
          subst
          (All (λ (x : SlotInfo). IsAdded program k x x.form))
          (sym added_are)
          (λ i x h.
          is_added
          i
          (get_or (own_slots units class) i x)
          (get_or (own_slots units class) i x).form
          (slice_get-get_or (own_slots units class) i x h)
          refl)

      -- the class's own slots rise
      own_step : (low : ℕ) × InStep low (own_slots units class) (own_typed units class)
      own_step = by_base (base_of units class) refl
        where
          by_base : (o : Option ℕ) → base_of units class ≡ o →
              (low : ℕ) × InStep low (own_slots units class) (own_typed units class)
          by_base None b = (0, own_in_step units u free class [] (slots_one units u class b))
          by_base (Some base) b = (
            length (slots units base),
            own_in_step units u free class (slots units base)
                (slots_begin units u class base b),
          )

      rising_at : (low : ℕ) (xs : List ℕ) → Rising low xs → (i : ℕ) → i + 1 < length xs →
          get_or xs i 0 < get_or xs (i + 1) 0
      rising_at low [] r i h = absurd (omega (arith, h))
      rising_at low (x ∷ []) r i h = absurd (omega (arith, h))
      rising_at low (x ∷ y ∷ ys) r zero h = let le : suc x ≤ y = r.1.0 in omega (arith, le)
      rising_at low (x ∷ y ∷ ys) r (suc i) h =
          let same : suc i + 1 ≡ suc (i + 1) = omega arith in
          subst (λ j. get_or (y ∷ ys) i 0 < get_or (x ∷ y ∷ ys) j 0) (sym same) (rising_at (suc x) (y ∷ ys) r.1 i
          (omega (arith, h)))

      own_fields_are : typed.declared_fields program.fields k ≡ own_typed units class
      own_fields_are =
          ap (λ fs. typed.declared_fields fs k) f
          ∙ declared_in_class units (own_fields units) k class e
          ∙ ap (λ j. filter_map (field_of units j class) (own_fields units class)) (sym numbered)

      in_order : IsStrictlyIncreasing (property_slots (typed.declared_fields program.fields k))
      in_order =
          subst
          (λ fs. IsStrictlyIncreasing (property_slots fs))
          (sym own_fields_are)
          (rising_at own_step.0 (property_slots (own_typed units class)) own_step.1.rising)

      low_only : (high : ℕ) (o : Option SlotNo) → IfSome o (λ (x : SlotNo). (0 ≤ x.0) × (x.0 < high)) →
          IfSome o (λ (x : SlotNo). x.0 < high)
      low_only high None h = tt
      low_only high (Some x) h = h.1

      pub slots_are : HasSlots program k (class_info units class d)
      slots_are = record {
        each = each;
        names = names_once units u free class;
        added = added;
        in_order = in_order;
        components = λ h. slots_below units u free class h;
        within =
            subst
            (All (λ (x : Field). IfSome x.slot (λ (y : SlotNo). y.0 < length (slots units class))))
            (sym fields_are)
            (λ i x h. low_only (length (slots units class)) (slice_index_or (up_fields units class) i x).slot
            ((laid units u free class).within i x h));
      }

    pub has_slots : (k : ℕ) → IfSome (slice_get program.schema.classes k) (HasSlots program k)
    has_slots k =
        subst
        (λ cs. IfSome (slice_get cs k) (HasSlots program k))
        (sym classes_are)
        (by_info (slice_get (class_infos units) k) refl)
      where
        by_info : (o : Option ClassInfo) → slice_get (class_infos units) k ≡ o → IfSome o (HasSlots program k)
        by_info None g = tt
        by_info (Some info) g =
            let at = info_of units u k info g in
            subst (HasSlots program k) (sym at.is) (slots_are k at.class at.declared at.place at.there)
