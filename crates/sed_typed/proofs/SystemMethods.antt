-- The virtual methods of a class are those of its base and then its own, and those of components begin with what `Component` declares.
use Rattle.std.proofs.Common.{◌≡◌, ℕ, ◌<◌, ◌==◌, Bool, true, false, List, [], ◌∷◌, ◌++◌, length, map, reverse, get_or, cond, Option, Some, None, refl, sym, ap, subst, ◌∙◌, arith, append_assoc}
use Rattle.std.specs.Prelude.{IfSome, IsSomeAnd, IsTrue, ◌&&◌, ◌^◌, nat_lt, slice_get, filter, position}
use Rattle.std.specs.List.{flat_map, position_or_len}
use Rattle.std.specs.Option.{option_and_then, option_map, option_map_or}
use Rattle.std.specs.Str.{bytes_eq}
use Rattle.std.proofs.lemmas.Grind.{reverse_onto, flat_map-append}
use Rattle.std.proofs.lemmas.List.{append-nil}
use Rattle.std.proofs.lemmas.List.Concat.{flat_map-cons}
use Rattle.std.proofs.lemmas.List.Quantifiers.{position-Some}
use Rattle.std.proofs.lemmas.Option.{slice_get_within, get_or_from_slice_get, same_Some}
use Rattle.std.proofs.lemmas.Bool.{and_parts, eqb-true}
use Rattle.sed_typed.specs.declared.program.Method.{Method}
use Rattle.sed_typed.specs.declared.program.Program.{Program}
use Rattle.sed_typed.specs.declared.schema.ActionArg.{ActionArg}
use Rattle.sed_typed.specs.declared.schema.ClassInfo.{ClassInfo}
use Rattle.sed_typed.specs.declared.schema.SlotInfo.{SlotInfo}
use Rattle.sed_typed.specs.Classes.{base_of, lineage, declared_method, declared_methods, find, first_found}
use Rattle.sed_typed.specs.Schemas.{numbered, type_at}
use Rattle.sed_typed.specs.SysMembers.{AreSysMethods, HasSysMembers, component_names, component_methods, sys_methods}
use Rattle.sed_typed.specs.SysTypes.{IsSysType, HasSysType, component_type}
use Rattle.sed_typed.specs.Typed.{Typed}
use Rattle.sed_typed.specs.TypedSchema.{Begins, is_below, is_below_sys}
use Rattle.sed_typed.specs.Virtual.{new_virtual_names, virtual_names}
use Rattle.sed_typed.proofs.Lineages.{going_down, lineage_of_base, lineage_alone}

-- ---- by the base

one : (program : Program) (class : ℕ) → flat_map (new_virtual_names program) (class ∷ []) ≡ new_virtual_names program class
one program class = flat_map-cons (new_virtual_names program) class [] ∙ append-nil (new_virtual_names program class)

pub goes_on : (program : Program) → Typed program → (class base : ℕ) → base_of program.schema.classes class ≡ Some base →
    virtual_names program class ≡ virtual_names program base ++ new_virtual_names program class
goes_on program typed class base e =
    let line : List ℕ = lineage program.schema.classes base in
    ap (λ (all : List ℕ). flat_map (new_virtual_names program) (reverse all)) (lineage_of_base program typed class base e)
    ∙ ap (flat_map (new_virtual_names program)) (reverse_onto line class [])
    ∙ flat_map-append (new_virtual_names program) (reverse line) (class ∷ [])
    ∙ ap (λ (own : List (List ℕ)). virtual_names program base ++ own) (one program class)

-- those of a class stand at the same places in each class below
pub keep_places : (program : Program) → Typed program → (above class : ℕ) → is_below program.schema.classes above class ≡ true → Begins (virtual_names program above) (virtual_names program class)
keep_places program typed above class is =
    going_down program.schema.classes (λ c. Begins (virtual_names program above) (virtual_names program c)) above ([], sym (append-nil (virtual_names program above)))
    (λ c base e front. (
      front.0 ++ new_virtual_names program c,
      goes_on program typed c base e
          ∙ ap (λ (names : List (List ℕ)). names ++ new_virtual_names program c) front.1
          ∙ append_assoc (virtual_names program above) front.0 (new_virtual_names program c),
    )) class is

pub alone : (program : Program) (class : ℕ) → 0 < length program.schema.classes → base_of program.schema.classes class ≡ None →
    virtual_names program class ≡ new_virtual_names program class
alone program class h e =
    ap (λ (all : List ℕ). flat_map (new_virtual_names program) (reverse all)) (lineage_alone program.schema.classes class h e) ∙ one program class

-- ---- filters

both : (p q : Method → Bool) (ms : List Method) → filter (λ m. p m && q m) ms ≡ filter q (filter p ms)
both p q [] = refl
both p q (m ∷ ms) = step (p m) (filter (λ x. p x && q x) ms) (filter p ms) (both p q ms)
  where
    step : (b : Bool) (f g : List Method) → f ≡ filter q g → cond (b && q m) (m ∷ f) f ≡ filter q (cond b (m ∷ g) g)
    step true f g e = ap (λ (l : List Method). cond (q m) (m ∷ l) l) e
    step false f g e = e

-- no place passes where a filter keeps nothing
no_place : (p : Method → Bool) (ms : List Method) → filter p ms ≡ [] → position_or_len p ms ≡ length ms
no_place p [] e = refl
no_place p (m ∷ ms) e = by_test (no_place p ms) (p m) refl e
  where
    by_test : (filter p ms ≡ [] → position_or_len p ms ≡ length ms) → (b : Bool) → p m ≡ b → cond b (m ∷ filter p ms) (filter p ms) ≡ [] → position_or_len p (m ∷ ms) ≡ length (m ∷ ms)
    by_test later true t e = cc
    by_test later false t e = rw t (let rest = later e in omega (arith, rest))

no_position : (p : Method → Bool) (ms : List Method) → filter p ms ≡ [] → position p ms ≡ None
no_position p ms e =
    ap (λ (n : ℕ). cond (nat_lt n (length ms)) (Some n) None) (no_place p ms e) ∙ ap (λ (b : Bool). cond b (Some (length ms)) None) (not_below (length ms))
  where
    not_below : (n : ℕ) → nat_lt n n ≡ false
    not_below n = grind arith

-- ---- the types of the kit

some_and : {A : Type 0} (o : Option A) (P : A → Type 0) → IsSomeAnd o P → (x : A) × (o ≡ Some x) × P x
some_and None P h = absurd h
some_and (Some x) P h = (x, refl, h)

-- a type of the kit is of it and has its number
is_of : (classes : List ClassInfo) (kit number class : ℕ) (info : ClassInfo) → type_at classes kit number ≡ Some class → slice_get classes class ≡ Some info →
    (info.kit ≡ kit) × (info.number ≡ number)
is_of classes kit number class info at is = by_place (position test classes) refl at
  where
    test : ClassInfo → Bool
    test c = (c.kit == kit) && (c.number == number)

    by_test : (i : ℕ) (b : Bool) → position test classes ≡ Some i → cond b (Some i) None ≡ Some class → (info.kit ≡ kit) × (info.number ≡ number)
    by_test i false found e = let never : ⊥ = cc in absurd never
    by_test i true found e =
        let same : i ≡ class = cc in
        let passes : test (get_or classes i info) ≡ true = (position-Some test classes i info found).1 in
        let here : get_or classes i info ≡ info = ap (λ (k : ℕ). get_or classes k info) same ∙ get_or_from_slice_get classes class info info is in
        let parts = and_parts (info.kit == kit) (info.number == number) (ap test (sym here) ∙ passes) in
        (eqb-true info.kit kit parts.0, eqb-true info.number number parts.1)

    by_place : (o : Option ℕ) → position test classes ≡ o → option_and_then numbered o ≡ Some class → (info.kit ≡ kit) × (info.number ≡ number)
    by_place None found e = let never : ⊥ = cc in absurd never
    by_place (Some i) found e = by_test i (nat_lt i (2 ^ 16)) found e

-- a type of the kit, with its base and its methods
record SysClass (program : Program) (number : ℕ) (base : Option ℕ) : Type 0 where
  class : ℕ
  at : type_at program.schema.classes 0 number ≡ Some class
  within : class < length program.schema.classes
  based : base_of program.schema.classes class ≡ option_and_then (λ n. type_at program.schema.classes 0 n) base
  methods : AreSysMethods (sys_methods number) (declared_methods program.methods class)

sys_class : (program : Program) → Typed program → (number : ℕ) (name : List ℕ) (base : Option ℕ) (abstract component : Bool) (size : ℕ) (all : List SlotInfo) →
    HasSysType program.schema.classes number (IsSysType program.schema.classes name base abstract component size all) → SysClass program number base
sys_class program typed number name base abstract component size all h =
    let found = some_and (type_at program.schema.classes 0 number) (λ class. IsSomeAnd (slice_get program.schema.classes class) (IsSysType program.schema.classes name base abstract component size all)) h in
    let there = some_and (slice_get program.schema.classes found.0) (IsSysType program.schema.classes name base abstract component size all) found.2 in
    let is = is_of program.schema.classes 0 number found.0 there.0 found.1 there.1 in
    let members : there.0.kit ≡ 0 → HasSysMembers program found.0 there.0 =
    subst (λ (o : Option ClassInfo). IfSome o (λ info. info.kit ≡ 0 → HasSysMembers program found.0 info)) there.1 (typed.sys found.0) in
    record {
      class = found.0;
      at = found.1;
      within = slice_get_within program.schema.classes found.0 there.0 there.1;
      based = ap (option_and_then (λ (info : ClassInfo). option_map (λ b. b.0) info.base)) there.1 ∙ there.2.base_is;
      methods = subst (λ (n : ℕ). AreSysMethods (sys_methods n) (declared_methods program.methods found.0)) is.1 (members is.0).methods;
    }

-- ---- classes with no methods

no_methods : (ms : List Method) → AreSysMethods [] ms → ms ≡ []
no_methods [] h = refl
no_methods (m ∷ ms) h = absurd h

begins_none : (program : Program) (class : ℕ) → declared_methods program.methods class ≡ [] → new_virtual_names program class ≡ []
begins_none program class e =
    let above : Method → Bool = λ m. option_map_or (λ _. false) (option_and_then (λ base. find program base m.name) (base_of program.schema.classes class)) true in
    ap (map (λ (m : Method). m.name))
    (both (λ m. (m.class.0 == class) && m.is_virtual) above program.methods
    ∙ ap (filter above) (both (λ m. m.class.0 == class) (λ m. m.is_virtual) program.methods ∙ ap (filter (λ m. m.is_virtual)) e))

declares_none : (program : Program) (class : ℕ) → declared_methods program.methods class ≡ [] → (name : List ℕ) → declared_method program.methods name class ≡ None
declares_none program class e name =
    no_position (λ m. (m.class.0 == class) && bytes_eq m.name name) program.methods
    (both (λ m. m.class.0 == class) (λ m. bytes_eq m.name name) program.methods ∙ ap (filter (λ m. bytes_eq m.name name)) e)

first_of_two : (look : ℕ → Option ℕ) (a b : ℕ) → look a ≡ None → look b ≡ None → first_found look (a ∷ b ∷ []) ≡ None
first_of_two look a b e f = rw e (rw f refl)

-- ---- `Component`

-- the virtual methods among those that the type declares are all of them
all_begin : (above : Method → Bool) → ((m : Method) → above m ≡ true) → (wants : List (List ℕ × ActionArg)) (ms : List Method) → AreSysMethods wants ms →
    map (λ (m : Method). m.name) (filter above (filter (λ m. m.is_virtual) ms)) ≡ map (λ (want : List ℕ × ActionArg). want.0) wants
all_begin above new [] [] h = refl
all_begin above new [] (m ∷ ms) h = absurd h
all_begin above new (want ∷ wants) [] h = absurd h
all_begin above new (want ∷ wants) (m ∷ ms) h =
    let virtual : m.is_virtual ≡ true = h.0.form.1 in
    let rest : List Method = filter (λ x. x.is_virtual) ms in
    let kept : List Method = filter above rest in
    let names : List Method → List (List ℕ) = map (λ (x : Method). x.name) in
    ap (λ (b : Bool). names (filter above (cond b (m ∷ rest) rest))) virtual
    ∙ ap (λ (b : Bool). names (cond b (m ∷ kept) kept)) (new m)
    ∙ ap (λ (name : List ℕ). name ∷ names kept) h.0.name_is
    ∙ ap (λ (more : List (List ℕ)). want.0 ∷ more) (all_begin above new wants ms h.1)

module _ (program : Program) (typed : Typed program) where
  object : SysClass program 0 None
  object = sys_class program typed 0 _ None _ _ _ _ typed.kits.sys_types.object

  virtual : SysClass program 1 (Some 0)
  virtual = sys_class program typed 1 _ (Some 0) _ _ _ _ typed.kits.sys_types.virtual

  component : SysClass program 2 (Some 1)
  component = sys_class program typed 2 _ (Some 1) _ _ _ _ typed.kits.sys_types.component

  object_alone : base_of program.schema.classes object.class ≡ None
  object_alone = object.based

  virtual_based : base_of program.schema.classes virtual.class ≡ Some object.class
  virtual_based = virtual.based ∙ object.at

  component_based : base_of program.schema.classes component.class ≡ Some virtual.class
  component_based = component.based ∙ virtual.at

  object_none : declared_methods program.methods object.class ≡ []
  object_none = no_methods (declared_methods program.methods object.class) object.methods

  virtual_none : declared_methods program.methods virtual.class ≡ []
  virtual_none = no_methods (declared_methods program.methods virtual.class) virtual.methods

  none_above : (name : List ℕ) → find program virtual.class name ≡ None
  none_above name =
      ap (first_found (declared_method program.methods name))
      (lineage_of_base program typed virtual.class object.class virtual_based
      ∙ ap (λ (rest : List ℕ). virtual.class ∷ rest) (lineage_alone program.schema.classes object.class (omega (arith, object.within)) object_alone))
      ∙ first_of_two (declared_method program.methods name) virtual.class object.class (declares_none program virtual.class virtual_none name) (declares_none program object.class object_none name)

  virtual_has_none : virtual_names program virtual.class ≡ []
  virtual_has_none =
      goes_on program typed virtual.class object.class virtual_based
      ∙ ap (λ (names : List (List ℕ)). names ++ new_virtual_names program virtual.class) (alone program object.class (omega (arith, object.within)) object_alone ∙ begins_none program object.class object_none)
      ∙ begins_none program virtual.class virtual_none

  component_begins : new_virtual_names program component.class ≡ component_names
  component_begins =
      let above : Method → Bool = λ m. option_map_or (λ _. false) (option_and_then (λ base. find program base m.name) (base_of program.schema.classes component.class)) true in
      ap (map (λ (m : Method). m.name))
      (both (λ m. (m.class.0 == component.class) && m.is_virtual) above program.methods
      ∙ ap (filter above) (both (λ m. m.class.0 == component.class) (λ m. m.is_virtual) program.methods))
      ∙ all_begin above
      (λ m. ap (λ (o : Option ℕ). option_map_or (λ _. false) (option_and_then (λ base. find program base m.name) o) true) component_based
      ∙ ap (λ (o : Option ℕ). option_map_or (λ _. false) o true) (none_above m.name))
      component_methods (declared_methods program.methods component.class) component.methods

  component_has : virtual_names program component.class ≡ component_names
  component_has =
      goes_on program typed component.class virtual.class component_based
      ∙ ap (λ (names : List (List ℕ)). names ++ new_virtual_names program component.class) virtual_has_none
      ∙ component_begins

  -- ---- and the classes below it

  pub begin : (class : ℕ) → IsTrue (is_below_sys program.schema.classes component_type class) → Begins component_names (virtual_names program class)
  begin class is =
      subst (λ (front : List (List ℕ)). Begins front (virtual_names program class)) component_has
      (keep_places program typed component.class class
      (ap (λ (o : Option ℕ). option_map_or (λ above. is_below program.schema.classes above class) o false) (sym component.at) ∙ is))

  pub begins_at : (class : ℕ) → type_at program.schema.classes 0 component_type ≡ Some class → virtual_names program class ≡ component_names
  begins_at class is = ap (virtual_names program) (let same : class ≡ component.class = same_Some class component.class (sym is ∙ component.at) in same) ∙ component_has

  pub some_classes : 0 < length program.schema.classes
  some_classes = omega (arith, component.within)
