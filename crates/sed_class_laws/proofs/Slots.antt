-- The slots of a class beside its fields.
use Rattle.std.proofs.Common.{◌≡◌, ◌<◌, ◌≤◌, ◌+◌, ◌-◌, ◌==◌, ℕ, zero, suc, Bool, true, false, nat_lt, List, [], ◌∷◌, ◌++◌, filter, length, reverse, slice_get, take, All, IfSome, Option, Some, None, refl, sym, ap, ◌∙◌, subst, arith}
use Rattle.std.specs.List.{cons_option, count_by, filter_map, flat_map, list_any}
use Rattle.std.specs.Option.{option_map_or}
use Rattle.std.specs.Str.{bytes_eq}
use Rattle.std.proofs.lemmas.List.{append-nil, length-append}
use Rattle.std.proofs.lemmas.List.Elements.{All-append, filter-append}
use Rattle.std.proofs.lemmas.List.Sums.{sum_by-append}
use Rattle.std.proofs.lemmas.Bool.Decides.{nat_tests}
use Rattle.sed_units.specs.declared.classes.Member.{Member}
use Rattle.sed_typed.specs.declared.number.SlotNo.{SlotNo}
use Rattle.sed_typed.specs.declared.program.Field.{Field}
use Rattle.sed_typed.specs.declared.schema.SlotForm.{SlotForm}
use Rattle.sed_typed.specs.declared.schema.SlotForm.TheVariants.{Prop, Action}
use Rattle.sed_typed.specs.declared.schema.SlotInfo.{SlotInfo}
use Rattle.sed_typed.specs.TypedSchema.{in_slot}
use Rattle.sed_classes.specs.declared.kit_units.KitUnits.{KitUnits}
use Rattle.sed_classes.specs.Declarations.{Declaration, class_at}
use Rattle.sed_classes.specs.Bases.{base_of, bases, is_below, lineage}
use Rattle.sed_classes.specs.SysSource.{component_class}
use Rattle.sed_classes.specs.Members.{declares, has_name, kit_of, members_of}
use Rattle.sed_classes.specs.Slots.{own_slots, slot_of, slots}
use Rattle.sed_outline.specs.Fits.{Unbroken}
use Rattle.sed_outline.proofs.Unbroken.{not_broken}
use Rattle.sed_program.proofs.OrderFields.{own_typed}
use Rattle.sed_program.proofs.Lineages.{bases_cons, climb, lineage_cons, lineage_one}
use Rattle.sed_program.proofs.OrderLists.{count_cons, count_there, counted, weight}
use Rattle.sed_program.proofs.Order.{number}
use Rattle.sed_program.proofs.Upward.{up_cons}
use Rattle.sed_class_laws.proofs.Class.{slots_begin}
use Rattle.sed_class_laws.specs.Free.{AllFree}
use Rattle.sed_class_laws.proofs.Entry.{Adds, Entry, adding, entry}
use Rattle.sed_class_laws.proofs.Has.{or_left, or_right}
use Rattle.sed_class_laws.proofs.Named.{NoTwo, any_front, at_most_one, bytes_itself, bytes_same}
use Rattle.sed_class_laws.proofs.Rows.{InStep, NamesOnce, SlotFrom, Slotted, in_step_from, none_above, none_below}
use Rattle.sed_class_laws.proofs.Rules.{name_new}
use Rattle.std.specs.Prelude.{slice_index_or}

-- ---- a class and its members

-- the class that declares members
pub record Declares (units : List KitUnits) (class : ℕ) (i : ℕ) (m : Member) : Type 0 where
  pub declared : Declaration
  pub there : class_at units class ≡ Some declared
  pub kit : kit_of units class ≡ declared.kit
  pub at : slice_get declared.class.members i ≡ Some m

pub declares_at : (units : List KitUnits) (class i : ℕ) (m : Member) → slice_get (members_of units class) i ≡ Some m →
    Declares units class i m
declares_at units class i m e = by_class (class_at units class) refl e
  where
    by_class : (o : Option Declaration) → class_at units class ≡ o →
        slice_get (option_map_or (λ (d : Declaration). d.class.members) o []) i ≡ Some m → Declares units class i m
    by_class None s f = cc
    by_class (Some d) s f = record {
      declared = d;
      there = s;
      kit = ap (λ (o : Option Declaration). option_map_or (λ
          (x : Declaration). x.kit) o 0) s;
      at = f;
    }

pub entries : (units : List KitUnits) → AllFree units → (n class i : ℕ) (m : Member) →
    slice_get (members_of units class) i ≡ Some m → Entry units n class m
entries units free n class i m e =
    let r = declares_at units class i m e in
    entry units class r.declared (free class r.declared r.there) r.kit i m r.at n

-- a slot that a class adds comes of a member
pub record AddedBy (units : List KitUnits) (class : ℕ) (s : SlotInfo) : Type 0 where
  pub place : ℕ
  pub member : Member
  pub at : slice_get (members_of units class) place ≡ Some member
  pub slot : slot_of units (kit_of units class) member ≡ Some s
  pub adds : Adds units class member
  pub named : s.name ≡ member.name.bytes

found_in : {X Y : Type 0} (f : X → Option Y) (xs : List X) (k : ℕ) (y : Y) → slice_get (filter_map f xs) k ≡ Some y →
    (i : ℕ) × (x : X) × (slice_get xs i ≡ Some x) × (f x ≡ Some y)
found_in f [] k y e = cc
found_in {X} {Y} f (x ∷ xs) k y e = by_found (f x) refl k e (λ j g. found_in f xs j y g)
  where
    by_found : (o : Option Y) → f x ≡ o → (j : ℕ) → slice_get (cons_option o (filter_map f xs)) j ≡ Some y →
        ((j : ℕ) → slice_get (filter_map f xs) j ≡ Some y →
        (i : ℕ) × (z : X) × (slice_get xs i ≡ Some z) × (f z ≡ Some y)) →
        (i : ℕ) × (z : X) × (slice_get (x ∷ xs) i ≡ Some z) × (f z ≡ Some y)
    by_found None s j g rest = let found = rest j g in (suc found.0, found.1, found.2, found.3)
    by_found (Some z) s zero g rest = let same : z ≡ y = cc in (0, x, refl, s ∙ ap Some same)
    by_found (Some z) s (suc j) g rest = let found = rest j g in (suc found.0, found.1, found.2, found.3)

pub added_by : (units : List KitUnits) → AllFree units → (class k : ℕ) (s : SlotInfo) →
    slice_get (own_slots units class) k ≡ Some s → AddedBy units class s
added_by units free class k s e =
    let found = found_in (slot_of units (kit_of units class)) (members_of units class) k s e in
    let r = declares_at units class found.0 found.1 found.2 in
    let add = adding units class r.declared (free class r.declared r.there) r.kit found.0 found.1 r.at s found.3 in
    record { place = found.0; member = found.1; at = found.2; slot = found.3; adds = add.0; named = add.1 }

-- ---- names of slots

no_two_members : (units : List KitUnits) → AllFree units → (class : ℕ) (name : List ℕ) →
    NoTwo (has_name name) (members_of units class)
unfolding NoTwo
no_two_members units free class name i j x y l e f s t =
    let r = declares_at units class j y f in
    let q = declares_at units class i x e in
    let members : members_of units class ≡ r.declared.class.members =
    ap (λ (o : Option Declaration). option_map_or (λ (z : Declaration). z.class.members) o []) r.there in
    let first : slice_get r.declared.class.members i ≡ Some x = sym (ap (λ ms. slice_get ms i) members) ∙ e in
    let same : x.name.bytes ≡ y.name.bytes = bytes_same x.name.bytes name s ∙ sym (bytes_same y.name.bytes name t) in
    let so : has_name y.name.bytes x ≡ true = ap (λ b. bytes_eq b y.name.bytes) same ∙ bytes_itself y.name.bytes in
    let before : list_any (has_name y.name.bytes) (take j r.declared.class.members) ≡ true =
    any_front (has_name y.name.bytes) r.declared.class.members i j x l first so in
    let none : list_any (has_name y.name.bytes) (take j r.declared.class.members) ≡ false =
    not_broken
    (list_any (has_name y.name.bytes) (take j r.declared.class.members))
    4
    y.at
    (name_new units class r.declared (free class r.declared r.there) j y r.at) in
    cc

-- no more slots than members have a name
slots_counted : (units : List KitUnits) (kit : ℕ) (name : List ℕ) (ms : List Member) →
    ((i : ℕ) (m : Member) (s : SlotInfo) → slice_get ms i ≡ Some m → slot_of units kit m ≡ Some s →
    s.name ≡ m.name.bytes) →
    count_by (λ s. bytes_eq s.name name) (filter_map (slot_of units kit) ms) ≤ count_by (has_name name) ms
slots_counted units kit name [] h = omega arith
slots_counted units kit name (m ∷ ms) h =
    by_slot (slot_of units kit m) refl (slots_counted units kit name ms (λ i x s e f. h (suc i) x s e f))
  where
    by_slot : (o : Option SlotInfo) → slot_of units kit m ≡ o →
        count_by (λ s. bytes_eq s.name name) (filter_map (slot_of units kit) ms) ≤ count_by (has_name name) ms →
        count_by (λ s. bytes_eq s.name name) (cons_option o (filter_map (slot_of units kit) ms)) ≤ count_by
        (has_name name) (m ∷ ms)
    by_slot None e rest = omega (arith, rest, count_cons (has_name name) m ms)
    by_slot (Some s) e rest =
        omega (
          arith,
          rest,
          count_cons (has_name name) m ms,
          count_cons (λ x. bytes_eq x.name name) s (filter_map (slot_of units kit) ms),
          ap (λ n. weight (bytes_eq n name)) (h 0 m s refl e),
        )

own_once : (units : List KitUnits) → AllFree units → (class : ℕ) (name : List ℕ) →
    count_by (λ s. bytes_eq s.name name) (own_slots units class) ≤ 1
own_once units free class name =
    omega (
      arith,
      slots_counted units (kit_of units class) name (members_of units class) (λ i m s e f.
          let r = declares_at units class i m e in
          (adding units class r.declared (free class r.declared r.there) r.kit i m r.at s f).1),
      at_most_one (has_name name) (members_of units class) (no_two_members units free class name),
    )

-- a slot's name is one that a class declares
own_declared : (units : List KitUnits) → AllFree units → (class : ℕ) (name : List ℕ) →
    1 ≤ count_by (λ s. bytes_eq s.name name) (own_slots units class) →
    declares units name class ≡ true
own_declared units free class name n =
    let found = counted (λ s. bytes_eq s.name name) (own_slots units class) n in
    let by = added_by units free class found.0 found.1 found.2 in
    let same : by.member.name.bytes ≡ name = sym by.named ∙ bytes_same found.1.name name found.3 in
    any_at (has_name name) (members_of units class) by.place by.member by.at (ap (λ b. bytes_eq b name) same
    ∙ bytes_itself name)
  where
    any_at : {X : Type 0} (p : X → Bool) (xs : List X) (i : ℕ) (x : X) → slice_get xs i ≡ Some x → p x ≡ true →
        list_any p xs ≡ true
    any_at p [] i x e t = cc
    any_at p (y ∷ ys) zero x e t = let is : y ≡ x = cc in or_left (p y) (list_any p ys) (ap p is ∙ t)
    any_at p (y ∷ ys) (suc i) x e t = or_right (p y) (list_any p ys) (any_at p ys i x e t)

counted_or_not : (n : ℕ) (P : Type 0) → (1 ≤ n → P) → (n ≡ 0 → P) → P
counted_or_not zero P f g = g refl
counted_or_not (suc n) P f g = f (omega arith)

up_declared : (units : List KitUnits) → AllFree units → (name : List ℕ) (xs : List ℕ) →
    1 ≤ count_by (λ s. bytes_eq s.name name) (flat_map (own_slots units) (reverse xs)) →
    list_any (declares units name) xs ≡ true
up_declared units free name [] n = absurd (omega (arith, n))
up_declared units free name (x ∷ xs) n =
    let whole : count_by (λ s. bytes_eq s.name name) (flat_map (own_slots units) (reverse (x ∷ xs)))
    ≡ count_by (λ s. bytes_eq s.name name) (flat_map (own_slots units) (reverse xs)) + count_by
    (λ s. bytes_eq s.name name) (own_slots units x) =
    ap (count_by (λ s. bytes_eq s.name name)) (up_cons (own_slots units) x xs)
    ∙ sum_by-append (λ s. weight (bytes_eq s.name name)) (flat_map (own_slots units) (reverse xs))
    (own_slots units x) in
    counted_or_not
    (count_by (λ s. bytes_eq s.name name) (own_slots units x))
    (list_any (declares units name) (x ∷ xs) ≡ true)
    (λ k. or_left (declares units name x) (list_any (declares units name) xs) (own_declared units free x name k))
    (λ k. or_right (declares units name x) (list_any (declares units name) xs) (up_declared units free name xs (omega
    (arith, whole, n, k))))

-- what a class adds, no base has
own_new : (units : List KitUnits) → AllFree units → (class : ℕ) (name : List ℕ) →
    1 ≤ count_by (λ s. bytes_eq s.name name) (own_slots units class) →
    list_any (declares units name) (bases units class) ≡ false
own_new units free class name n =
    let found = counted (λ s. bytes_eq s.name name) (own_slots units class) n in
    let by = added_by units free class found.0 found.1 found.2 in
    let same : by.member.name.bytes ≡ name = sym by.named ∙ bytes_same found.1.name name found.3 in
    ap (λ b. list_any (declares units b) (bases units class)) (sym same) ∙ by.adds.new_name

pub own_new_name : (units : List KitUnits) → AllFree units → (class i : ℕ) (x : SlotInfo) →
    slice_get (own_slots units class) i ≡ Some x →
    list_any (declares units x.name) (bases units class) ≡ false
own_new_name units free class i x e =
    own_new units free class x.name (count_there (λ s. bytes_eq s.name x.name) (own_slots units class) i x e
    (bytes_itself x.name))

pub slots_one : (units : List KitUnits) → Unbroken units → (class : ℕ) → base_of units class ≡ None →
    slots units class ≡ own_slots units class
slots_one units u class e =
    ap (λ xs. flat_map (own_slots units) (reverse xs)) (lineage_one units u class e)
    ∙ append-nil (own_slots units class)

pub names_once : (units : List KitUnits) → Unbroken units → AllFree units → (class : ℕ) → NamesOnce (slots units class)
names_once units u free class =
    climb
    (λ c. NamesOnce (slots units c))
    units
    u
    (λ c e name. omega (
      arith,
      ap (count_by (λ s. bytes_eq s.name name))
          (slots_one units u c e),
      own_once units free c name,
    ))
    (λ c b e p name. step c b e name (p name))
    class
  where
    step : (c b : ℕ) → base_of units c ≡ Some b → (name : List ℕ) →
        count_by (λ s. bytes_eq s.name name) (slots units b) ≤ 1 →
        count_by (λ s. bytes_eq s.name name) (slots units c) ≤ 1
    step c b e name p =
        let whole : count_by (λ s. bytes_eq s.name name) (slots units c)
        ≡ count_by (λ s. bytes_eq s.name name) (slots units b) + count_by (λ s. bytes_eq s.name name)
        (own_slots units c) =
        ap (count_by (λ s. bytes_eq s.name name)) (slots_begin units u c b e)
        ∙ sum_by-append (λ s. weight (bytes_eq s.name name)) (slots units b) (own_slots units c) in
        counted_or_not
        (count_by (λ s. bytes_eq s.name name) (own_slots units c))
        (count_by (λ s. bytes_eq s.name name) (slots units c) ≤ 1)
        (λ n.
        counted_or_not
        (count_by (λ s. bytes_eq s.name name) (slots units b))
        (count_by (λ s. bytes_eq s.name name) (slots units c) ≤ 1)
        (λ k.
        let above : list_any (declares units name) (lineage units b)
        ≡ true = up_declared units free name (lineage units b) k in
        let none : list_any (declares units name) (lineage units b) ≡ false =
        ap (list_any (declares units name)) (sym (bases_cons units u c b e)) ∙ own_new units free c name n in
        let no : false ≡ true = sym none ∙ above in
        absurd (cc))
        (λ k. omega (arith, whole, k, own_once units free c name)))
        (λ n. omega (arith, whole, n, p))

-- ---- slots and fields, all that a class has

-- all fields that a class has
abbrev pub up_fields : List KitUnits → ℕ → List Field
up_fields units class = flat_map (own_typed units) (reverse (lineage units class))

pub record Laid (units : List KitUnits) (class : ℕ) : Type 0 where
  pub each : (n : ℕ) (s : SlotInfo) → slice_get (slots units class) n ≡ Some s →
      Slotted (up_fields units class) n s s.form
  pub within : All (SlotFrom 0 (length (slots units class))) (up_fields units class)

pub own_in_step : (units : List KitUnits) → Unbroken units → AllFree units → (class : ℕ) (front : List SlotInfo) →
    slots units class ≡ front ++ own_slots units class →
    InStep (length front) (own_slots units class) (own_typed units class)
own_in_step units u free class front e =
    in_step_from units (number units class) class front (members_of units class) (entries units free
    (number units class) class) e (names_once units u free class)

fields_cons : (units : List KitUnits) → Unbroken units → (class base : ℕ) → base_of units class ≡ Some base →
    up_fields units class ≡ up_fields units base ++ own_typed units class
fields_cons units u class base e =
    ap (λ xs. flat_map (own_typed units) (reverse xs)) (lineage_cons units u class base e)
    ∙ up_cons (own_typed units) class (lineage units base)

fields_one : (units : List KitUnits) → Unbroken units → (class : ℕ) → base_of units class ≡ None →
    up_fields units class ≡ own_typed units class
fields_one units u class e =
    ap (λ xs. flat_map (own_typed units) (reverse xs)) (lineage_one units u class e)
    ∙ append-nil (own_typed units class)

widened : (low high above : ℕ) (fields : List Field) → high ≤ above → All (SlotFrom low high) fields →
    All (SlotFrom 0 above) fields
widened low high above fields le h i d k = one (slice_index_or fields i d).slot (h i d k)
  where
    one : (o : Option SlotNo) → IfSome o (λ (x : SlotNo). (low ≤ x.0) × (x.0 < high)) →
        IfSome o (λ (x : SlotNo). (0 ≤ x.0) × (x.0 < above))
    one None g = tt
    one (Some x) g = let lt : x.0 < high = g.1 in (omega arith, omega (arith, lt, le))

-- one of both lists has it, and the other nothing
slotted_front : (xs ys : List Field) (n : ℕ) (s : SlotInfo) (x : SlotForm) → filter (in_slot n) ys ≡ [] →
    Slotted xs n s x → Slotted (xs ++ ys) n s x
slotted_front xs ys n s (Prop t) e h = (
  h.0,
  filter-append (in_slot n) xs ys ∙ ap (λ r. filter (in_slot n) xs
      ++ r) e ∙ append-nil (filter (in_slot n) xs) ∙ h.1,
  h.2,
)
slotted_front xs ys n s (Action a) e h =
    filter-append (in_slot n) xs ys ∙ ap (λ r. filter (in_slot n) xs ++ r) e ∙ append-nil (filter (in_slot n) xs) ∙ h

slotted_back : (xs ys : List Field) (n : ℕ) (s : SlotInfo) (x : SlotForm) → filter (in_slot n) xs ≡ [] →
    Slotted ys n s x → Slotted (xs ++ ys) n s x
slotted_back xs ys n s (Prop t) e h = (
  h.0,
  filter-append (in_slot n) xs ys ∙ ap (λ r. r
      ++ filter (in_slot n) ys) e ∙ h.1,
  h.2,
)
slotted_back xs ys n s (Action a) e h = filter-append (in_slot n) xs ys ∙ ap (λ r. r ++ filter (in_slot n) ys) e ∙ h

pub get_left : {X : Type 0} (xs ys : List X) (k : ℕ) → k < length xs → slice_get (xs ++ ys) k ≡ slice_get xs k
get_left [] ys k h = absurd (omega (arith, h))
get_left (z ∷ zs) ys zero h = refl
get_left (z ∷ zs) ys (suc k) h = get_left zs ys k (omega (arith, h))

pub get_right : {X : Type 0} (xs ys : List X) (i : ℕ) → slice_get (xs ++ ys) (length xs + i) ≡ slice_get ys i
get_right [] ys i = let e : 0 + i ≡ i = omega arith in ap (slice_get ys) e
get_right (x ∷ xs) ys i =
    let e : suc (length xs) + i ≡ suc (length xs + i) = omega arith in
    ap (slice_get (x ∷ (xs ++ ys))) e ∙ get_right xs ys i

laid_one : (units : List KitUnits) → Unbroken units → AllFree units → (class : ℕ) → base_of units class ≡ None →
    Laid units class
laid_one units u free class e =
    let own : InStep 0 (own_slots units class) (own_typed units class) = own_in_step units u free class []
    (slots_one units u class e) in
    let same : 0 + length (own_slots units class) ≡ length (slots units class) = omega (
      arith,
      ap length
          (slots_one units u class e),
    ) in
    record {
      each = λ n s g.
          let zeroth : 0 + n ≡ n = omega arith in
          subst
          (λ fs. Slotted fs n s s.form)
          (sym (fields_one units u class e))
          (subst
          (λ k. Slotted (own_typed units class) k s s.form)
          zeroth
          (own.each n s (sym (ap (λ xs. slice_get xs n) (slots_one units u class e)) ∙ g)));
      within =
          subst
          (All (SlotFrom 0 (length (slots units class))))
          (sym (fields_one units u class e))
          (widened 0 (0 + length (own_slots units class)) (length (slots units class)) (own_typed units class) (omega
          (arith, same)) own.within);
    }

laid_cons : (units : List KitUnits) → Unbroken units → AllFree units → (class base : ℕ) →
    base_of units class ≡ Some base → Laid units base → Laid units class
laid_cons units u free class base e below = record {
  each = λ n s g. by_test n s g (nat_lt n (length (slots units base))) refl;
  within =
      subst
      (All (SlotFrom 0 (length (slots units class))))
      (sym (fields_cons units u class base e))
      (All-append
      (SlotFrom 0 (length (slots units class)))
      (up_fields units base)
      (own_typed units class)
      (widened 0 (length (slots units base)) (length (slots units class)) (up_fields units base) (omega
      (arith, len)) below.within)
      (widened
      (length (slots units base))
      (length (slots units base) + length (own_slots units class))
      (length (slots units class))
      (own_typed units class)
      (omega (arith, len))
      own.within));
}
  where
    whole : slots units class ≡ slots units base ++ own_slots units class
    whole = slots_begin units u class base e

    len : length (slots units class) ≡ length (slots units base) + length (own_slots units class)
    len = ap length whole ∙ length-append (slots units base) (own_slots units class)

    own : InStep (length (slots units base)) (own_slots units class) (own_typed units class)
    own = own_in_step units u free class (slots units base) whole

    by_test : (n : ℕ) (s : SlotInfo) → slice_get (slots units class) n ≡ Some s → (b : Bool) →
        nat_lt n (length (slots units base)) ≡ b →
        Slotted (up_fields units class) n s s.form
    by_test n s g true t =
        let l : n < length (slots units base) = grind (arith, nat_tests) in
        subst
        (λ fs. Slotted fs n s s.form)
        (sym (fields_cons units u class base e))
        (slotted_front
        (up_fields units base)
        (own_typed units class)
        n
        s
        s.form
        (none_below n (length (slots units base)) (length (slots units base) + length (own_slots units class))
        (own_typed units class) l own.within)
        (below.each n s (sym (get_left (slots units base) (own_slots units class) n l)
        ∙ sym (ap (λ xs. slice_get xs n) whole) ∙ g)))
    by_test n s g false t =
        let le : length (slots units base) ≤ n = grind (arith, nat_tests) in
        let at : n ≡ length (slots units base) + (n - length (slots units base)) = omega (arith, le) in
        let found : slice_get (own_slots units class) (n - length (slots units base)) ≡ Some s =
        sym (get_right (slots units base) (own_slots units class) (n - length (slots units base)))
        ∙ ap (slice_get (slots units base ++ own_slots units class)) (sym at)
        ∙ sym (ap (λ xs. slice_get xs n) whole)
        ∙ g in
        subst
        (λ fs. Slotted fs n s s.form)
        (sym (fields_cons units u class base e))
        (slotted_back
        (up_fields units base)
        (own_typed units class)
        n
        s
        s.form
        (none_above n 0 (length (slots units base)) (up_fields units base) le below.within)
        (subst (λ k. Slotted (own_typed units class) k s s.form) (sym at) (own.each (n - length
        (slots units base)) s found)))

pub laid : (units : List KitUnits) → Unbroken units → AllFree units → (class : ℕ) → Laid units class
laid units u free class =
    climb
    (Laid units)
    units
    u
    (λ c e. laid_one units u free c e)
    (λ c b e p. laid_cons units u free c b e p)
    class

-- ---- components

pub slots_below : (units : List KitUnits) → Unbroken units → AllFree units → (class : ℕ) →
    0 < length (slots units class) → is_below units component_class class ≡ true
slots_below units u free class =
    climb
    (λ c. 0 < length (slots units c) → is_below units component_class c ≡ true)
    units
    u
    (λ c e n. own c (omega (arith, n, ap length (slots_one units u c e))))
    (λ c b e p n. step c b e p n)
    class
  where
    own : (c : ℕ) → 0 < length (own_slots units c) → is_below units component_class c ≡ true
    own c n = by_slots (own_slots units c) refl n
      where
        by_slots : (xs : List SlotInfo) → own_slots units c ≡ xs → 0 < length xs →
            is_below units component_class c ≡ true
        by_slots [] s k = absurd (omega (arith, k))
        by_slots (x ∷ xs) s k = (added_by units free c 0 x (ap (λ ys. slice_get ys 0) s)).adds.component

    step : (c b : ℕ) → base_of units c ≡ Some b → (0 < length (slots units b) →
        is_below units component_class b ≡ true) → 0 < length (slots units c) →
        is_below units component_class c ≡ true
    step c b e p n =
        let len : length (slots units c) ≡ length (slots units b) + length (own_slots units c) =
        ap length (slots_begin units u c b e) ∙ length-append (slots units b) (own_slots units c) in
        counted_or_not
        (length (own_slots units c))
        (is_below units component_class c ≡ true)
        (λ k. own c k)
        (λ k.
        ap (list_any (λ x. x == component_class)) (lineage_cons units u c b e)
        ∙ or_right (c == component_class) (list_any (λ x. x == component_class) (lineage units b)) (p (omega
        (arith, len, n, k))))
