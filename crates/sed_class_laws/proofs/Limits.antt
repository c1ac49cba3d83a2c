-- Sums over the members that a class declares or inherits stay within their limits.
use Rattle.std.proofs.Common.{◌≡◌, ◌<◌, ◌≤◌, ◌+◌, ◌==◌, ℕ, zero, suc, Bool, true, false, not, if◌then◌else◌, List, [], ◌∷◌, ◌++◌, filter, length, get_or, reverse, slice_get, take, Option, Some, None, refl, sym, ap, ◌∙◌, subst, arith}
use Rattle.std.specs.List.{filter_map, flat_map, sum_by}
use Rattle.std.specs.Option.{option_map_or}
use Rattle.std.proofs.lemmas.List.Sums.{sum_by-cons}
use Rattle.std.proofs.lemmas.Option.{slice_get-get_or}
use Rattle.sed_units.specs.declared.classes.Member.{Member}
use Rattle.sed_typed.specs.declared.schema.SlotForm.{SlotForm}
use Rattle.sed_typed.specs.declared.schema.SlotInfo.{SlotInfo}
use Rattle.sed_typed.specs.Sizes.{config_size, runtime_size, value_size}
use Rattle.sed_faults.specs.declared.fault.Fault.{Fault}
use Rattle.sed_faults.specs.Faults.{broken_if, said_from}
use Rattle.sed_classes.specs.declared.kit_units.KitUnits.{KitUnits}
use Rattle.sed_classes.specs.Declarations.{Declaration, all_classes, class_at}
use Rattle.sed_classes.specs.Bases.{base_of, bases, lineage}
use Rattle.sed_classes.specs.Members.{kit_of, members_of}
use Rattle.sed_classes.specs.LimitRules.{config_of, own_sum, passes, passes_at, runtime_of, slot_count}
use Rattle.sed_classes.specs.Slots.{own_slots, shape_of, slot_of, slots, with_name}
use Rattle.sed_classes.specs.Faults.{declaration_faults}
use Rattle.sed_outline.proofs.Rounds.{base_behind, members_behind}
use Rattle.sed_outline.specs.Fits.{Unbroken}
use Rattle.sed_outline.proofs.Bounds.{base_app, base_component, base_folder, base_obj, base_virtual, grown}
use Rattle.sed_outline.proofs.Fitting.{everywhere}
use Rattle.sed_outline.proofs.Unbroken.{not_broken}
use Rattle.sed_program.proofs.Infos.{found_sum, sum_same}
use Rattle.sed_program.proofs.Lineages.{bases_cons, bases_none, climb, lineage_cons, lineage_first, lineage_one, places}
use Rattle.sed_class_laws.proofs.Rules.{config_small, none_numbered, runtime_small, slots_few}
use Rattle.sed_class_laws.proofs.Sizes.{sum_filter, sum_up}

-- what a class comes to, with all that it inherits
abbrev pub comes_to : (ℕ → Member → ℕ) → List KitUnits → ℕ → ℕ
comes_to count units class = sum_by (own_sum count units) (lineage units class)

-- no member of a class that the units declare passes a limit
abbrev pub NonePasses : ℕ → (ℕ → Member → ℕ) → List KitUnits → Type 0
NonePasses most count units = (class : ℕ) (d : Declaration) → declaration_faults units class d ≡ [] →
    (i : ℕ) (m : Member) →
    slice_get d.class.members i ≡ Some m → passes_at most count units class d i m ≡ false

-- and the types of `sys` are within it
pub record SysWithin (most : ℕ) (count : ℕ → Member → ℕ) (units : List KitUnits) : Type 0 where
  pub app : own_sum count units 0 + own_sum count units 1 + own_sum count units 2 + own_sum count units 3 ≤ most
  pub folder : own_sum count units 0 + own_sum count units 1 + own_sum count units 2 + own_sum count units 4 ≤ most

module _ (most : ℕ) (count : ℕ → Member → ℕ) (units : List KitUnits) (u : Unbroken units) where
  alone : (class : ℕ) → base_of units class ≡ None → comes_to count units class ≡ own_sum count units class
  alone class e =
      ap (sum_by (own_sum count units)) (lineage_one units u class e)
      ∙ omega (arith, sum_by-cons (own_sum count units) class [])

  with_base : (class base : ℕ) → base_of units class ≡ Some base →
      comes_to count units class ≡ own_sum count units class + comes_to count units base
  with_base class base e =
      ap (sum_by (own_sum count units)) (lineage_cons units u class base e)
      ∙ sum_by-cons (own_sum count units) class (lineage units base)

  own_is : (class : ℕ) (d : Declaration) → class_at units class ≡ Some d →
      own_sum count units class ≡ sum_by (count d.kit) d.class.members
  own_is class d e =
      ap
      (λ (o : Option Declaration). sum_by (count (option_map_or (λ (x : Declaration). x.kit) o 0)) (option_map_or (λ
      (x : Declaration). x.class.members) o []))
      e

  -- within the limit with what a class declares, if its bases are
  abbrev Grows : ℕ → Type 0
  Grows class = sum_by (own_sum count units) (bases units class) ≤ most → comes_to count units class ≤ most

  parted : (class : ℕ) → comes_to count units class ≡ own_sum count units class + sum_by (own_sum count units)
      (bases units class)
  parted class = ap (sum_by (own_sum count units)) (lineage_first units u class)
      ∙ sum_by-cons (own_sum count units) class (bases units class)

  declared : NonePasses most count units → (class : ℕ) (d : Declaration) → class_at units class ≡ Some d →
      declaration_faults units class d ≡ [] → Grows class
  declared none class d at free le =
      omega (
        arith,
        parted class,
        own_is class d at,
        grown
            most
            (sum_by (own_sum count units) (bases units class))
            (count d.kit)
            d.class.members
            (λ i m h. none class d free i (get_or d.class.members i m) (slice_get-get_or d.class.members i m h))
            le,
      )

  limited : NonePasses most count units → SysWithin most count units → (class : ℕ) → comes_to count units class ≤ most
  limited none sys class =
      climb
      (λ c. comes_to count units c ≤ most)
      units
      u
      (λ c e. grows c (omega (arith, ap (sum_by (own_sum count units)) (bases_none units u c e))))
      (λ c b e p. grows c (omega (arith, ap (sum_by (own_sum count units)) (bases_cons units u c b e), p)))
      class
    where
      obj : comes_to count units 0 ≡ own_sum count units 0
      obj = alone 0 (base_obj units)

      virtual : comes_to count units 1 ≡ own_sum count units 1 + comes_to count units 0
      virtual = with_base 1 0 (base_virtual units)

      component : comes_to count units 2 ≡ own_sum count units 2 + comes_to count units 1
      component = with_base 2 1 (base_component units)

      grows : (c : ℕ) → Grows c
      grows c =
          everywhere
          Grows
          units
          (λ h. omega (arith, obj, sys.app))
          (λ h. omega (arith, obj, virtual, sys.app))
          (λ h. omega (arith, obj, virtual, component, sys.app))
          (λ h. omega (arith, obj, virtual, component, with_base 3 2 (base_app units), sys.app))
          (λ h. omega (arith, obj, virtual, component, with_base 4 2 (base_folder units), sys.folder))
          (λ c d l at free. declared none c d at free)
          (λ c le h. omega (
            arith,
            alone c (base_behind units c le),
            ap (sum_by (count (kit_of units c)))
                (members_behind units c le),
          ))
          u.faultless
          c

-- ---- slots

abbrev sloted : List KitUnits → (Option (Bool × SlotForm) → ℕ) → ℕ → Member → ℕ
sloted units count kit m = count (shape_of units kit m)

slots_sum : (units : List KitUnits) (w : SlotInfo → ℕ) (count : Option (Bool × SlotForm) → ℕ) →
    ((name : List ℕ) (o : Option (Bool × SlotForm)) → option_map_or w (with_name name o) 0 ≡ count o) → (class : ℕ) →
    sum_by w (slots units class) ≡ comes_to (sloted units count) units class
slots_sum units w count h class =
    sum_up (own_slots units) w (lineage units class)
    ∙ sum_same
    (λ b. sum_by w (own_slots units b))
    (own_sum (sloted units count) units)
    (λ b.
    found_sum (slot_of units (kit_of units b)) w (members_of units b)
    ∙ sum_same
    (λ m. option_map_or w (slot_of units (kit_of units b) m) 0)
    (sloted units count (kit_of units b))
    (λ (m : Member). h m.name.bytes (shape_of units (kit_of units b) m))
    (members_of units b))
    (lineage units class)

ones : {X : Type 0} (xs : List X) → sum_by (λ (x : X). 1) xs ≡ length xs
ones [] = refl
ones {X} (x ∷ xs) = omega (arith, sum_by-cons (λ (y : X). 1) x xs, ones xs)

sys_slots : (units : List KitUnits) → SysWithin 64 (sloted units slot_count) units
unfolding all_classes
sys_slots units = record { app = omega arith; folder = omega arith }

sys_config : (units : List KitUnits) → SysWithin 400 (sloted units config_of) units
unfolding all_classes
sys_config units = record { app = omega arith; folder = omega arith }

sys_runtime : (units : List KitUnits) → SysWithin 400 (sloted units runtime_of) units
unfolding all_classes
sys_runtime units = record { app = omega arith; folder = omega arith }

pub slots_most : (units : List KitUnits) → Unbroken units → (class : ℕ) → length (slots units class) ≤ 64
slots_most units u class =
    omega (
      arith,
      ones (slots units class),
      slots_sum units (λ (s : SlotInfo). 1) slot_count counted class,
      limited 64 (sloted units slot_count) units u none (sys_slots units) class,
    )
  where
    counted : (name : List ℕ) (o : Option (Bool × SlotForm)) →
        option_map_or (λ (s : SlotInfo). 1) (with_name name o) 0 ≡ slot_count o
    counted name None = refl
    counted name (Some s) = refl

    none : NonePasses 64 (sloted units slot_count) units
    none c d free i m at =
        not_broken
        (passes_at 64 (sloted units slot_count) units c d i m)
        22
        m.at
        (none_numbered (λ j (n : Member). broken_if (passes_at 64
        (sloted units slot_count) units c d j n) 22 n.at) d.class.members i m (slots_few units c d free) at)

pub config_most : (units : List KitUnits) → Unbroken units → (class : ℕ) → config_size (slots units class) ≤ 400
config_most units u class =
    omega (
      arith,
      sum_filter (λ (s : SlotInfo). s.config) (λ (s : SlotInfo). value_size s.form) (slots units class),
      slots_sum units (λ (s : SlotInfo). if s.config then value_size s.form else 0) config_of counted class,
      limited 400 (sloted units config_of) units u none (sys_config units) class,
    )
  where
    counted : (name : List ℕ) (o : Option (Bool × SlotForm)) →
        option_map_or (λ (s : SlotInfo). if s.config then value_size s.form else 0) (with_name name o) 0 ≡ config_of o
    counted name None = refl
    counted name (Some s) = refl

    none : NonePasses 400 (sloted units config_of) units
    none c d free i m at =
        not_broken
        (passes_at 400 (sloted units config_of) units c d i m)
        22
        m.at
        (none_numbered (λ j (n : Member). broken_if (passes_at 400
        (sloted units config_of) units c d j n) 22 n.at) d.class.members i m (config_small units c d free) at)

pub runtime_most : (units : List KitUnits) → Unbroken units → (class : ℕ) → runtime_size (slots units class) ≤ 400
runtime_most units u class =
    omega (
      arith,
      sum_filter (λ (s : SlotInfo). not s.config) (λ (s : SlotInfo). value_size s.form) (slots units class),
      slots_sum units (λ (s : SlotInfo). if not s.config then value_size s.form else 0) runtime_of counted class,
      limited 400 (sloted units runtime_of) units u none (sys_runtime units) class,
    )
  where
    other : (b : Bool) (n : ℕ) → (if not b then n else 0) ≡ (if b then 0 else n)
    other true n = refl
    other false n = refl

    counted : (name : List ℕ) (o : Option (Bool × SlotForm)) →
        option_map_or (λ (s : SlotInfo). if not s.config then value_size s.form else 0) (with_name name o) 0
        ≡ runtime_of o
    counted name None = refl
    counted name (Some s) = other s.0 (value_size s.1)

    none : NonePasses 400 (sloted units runtime_of) units
    none c d free i m at =
        not_broken
        (passes_at 400 (sloted units runtime_of) units c d i m)
        22
        m.at
        (none_numbered (λ j (n : Member). broken_if (passes_at 400
        (sloted units runtime_of) units c d j n) 22 n.at) d.class.members i m (runtime_small units c d free) at)
