-- Units that break no rule: what follows of names and numbers.
use Rattle.std.proofs.Common.{◌≡◌, ◌<◌, ◌+◌, ◌==◌, ◌&&◌, ℕ, zero, suc, Bool, true, false, nat_le, nat_lt, IsTrue, List, [], ◌∷◌, ◌++◌, map, length, get_or, All, refl, sym, ap, ◌∙◌, arith}
use Rattle.std.proofs.lemmas.Bool.Decides.{nat_tests}
use Rattle.sed_value.specs.Names.{is_identifier, is_word}
use Rattle.sed_units.specs.declared.classes.Member.{Member}
use Rattle.sed_faults.specs.declared.fault.Fault.{Fault}
use Rattle.sed_faults.specs.Faults.{broken_if, said_from}
use Rattle.sed_classes.specs.declared.kit_units.KitUnits.{KitUnits}
use Rattle.sed_classes.specs.Declarations.{Declaration}
use Rattle.sed_classes.specs.NameRules.{base_without_class, base_not_fit, class_name_not_free}
use Rattle.sed_classes.specs.Members.{form_value}
use Rattle.sed_classes.specs.MemberRules.{class_not_runnable, method_not_runnable, slot_not_fit}
use Rattle.sed_classes.specs.FieldRules.{member_not_fit}
use Rattle.sed_classes.specs.LimitRules.{too_long_in_base, too_long_in_class, too_long_in_facets, too_long_in_init, too_long_in_member, too_long_in_type, too_long_name, too_many_types}
use Rattle.sed_classes.specs.Faults.{class_form_faults, class_name_faults, count_faults, declaration_faults, faults_from, form_faults, member_form_faults, member_name_faults, member_word_faults, params_faults, placed_in, value_faults}

-- ---- lists without items

pub none_left : {X : Type 0} (xs ys : List X) → xs ++ ys ≡ [] → xs ≡ []
none_left [] ys e = refl
none_left (x ∷ xs) ys e = cc

pub none_right : {X : Type 0} (xs ys : List X) → xs ++ ys ≡ [] → ys ≡ []
none_right [] ys e = e
none_right (x ∷ xs) ys e = cc

none_map : {X Y : Type 0} (f : X → Y) (xs : List X) → map f xs ≡ [] → xs ≡ []
none_map f [] e = refl
none_map f (x ∷ xs) e = cc

pub not_broken : (test : Bool) (rule at : ℕ) → broken_if test rule at ≡ [] → test ≡ false
not_broken true rule at e = cc
not_broken false rule at e = refl

-- of a row nothing is said, so nothing of one of its items
pub none_said : {X : Type 0} (said : ℕ → X → List Fault) (a : ℕ) (xs : List X) (i : ℕ) (d : X) →
    said_from said a xs ≡ [] → i < length xs → said (a + i) (get_or xs i d) ≡ []
none_said said a [] i d e h = absurd (omega (arith, h))
none_said said a (x ∷ xs) zero d e h =
    let at : a + 0 ≡ a = omega arith in
    ap (λ n. said n x) at ∙ none_left (said a x) (said_from said (a + 1) xs) e
none_said said a (x ∷ xs) (suc i) d e h =
    let at : a + suc i ≡ a + 1 + i = omega arith in
    ap (λ n. said n (get_or xs i d)) at
    ∙ none_said said (a + 1) xs i d (none_right (said a x) (said_from said (a + 1) xs) e) (omega (arith, h))

-- ---- the faults of one class

pub none_from : (units : List KitUnits) (class : ℕ) (ds : List Declaration) (i : ℕ) (d : Declaration) →
    faults_from units class ds ≡ [] → i < length ds → declaration_faults units (class + i) (get_or ds i d) ≡ []
none_from units class [] i d e h = absurd (omega (arith, h))
none_from units class (x ∷ xs) zero d e h =
    let at : class + 0 ≡ class = omega arith in
    ap (λ n. declaration_faults units n x) at
    ∙ none_map
    (placed_in x)
    (declaration_faults units class x)
    (none_left (map (placed_in x) (declaration_faults units class x)) (faults_from units (class + 1) xs) e)
none_from units class (x ∷ xs) (suc i) d e h =
    let at : class + suc i ≡ class + 1 + i = omega arith in
    ap (λ n. declaration_faults units n (get_or xs i d)) at
    ∙ none_from
    units
    (class + 1)
    xs
    i
    d
    (none_right
    (map (placed_in x) (declaration_faults units class x))
    (faults_from units (class + 1) xs)
    e)
    (omega (arith, h))

form_none : (units : List KitUnits) (class : ℕ) (d : Declaration) → declaration_faults units class d ≡ [] → form_faults units class d ≡ []
form_none units class d e =
    none_left
    (form_faults units class d)
    (count_faults units class d)
    (none_left (form_faults units class d ++ count_faults units class d) (value_faults units class d) e)

class_form : (units : List KitUnits) (class : ℕ) (d : Declaration) → declaration_faults units class d ≡ [] → class_form_faults units class d ≡ []
class_form units class d e =
    none_left
    (class_form_faults units class d)
    (said_from (member_form_faults units class d) 0 d.class.members)
    (form_none units class d e)

names_and_number : (units : List KitUnits) (class : ℕ) (d : Declaration) → declaration_faults units class d ≡ [] →
    class_name_faults units class d ++ class_not_runnable units class d ++ too_many_types d ≡ []
names_and_number units class d e =
    none_left
    (class_name_faults units class d ++ class_not_runnable units class d ++ too_many_types d)
    (too_long_in_class d.class)
    (class_form units class d e)

pub number_free : (units : List KitUnits) (class : ℕ) (d : Declaration) → declaration_faults units class d ≡ [] → (d.number == 64) ≡ false
number_free units class d e =
    not_broken
    (d.number == 64)
    22
    d.class.at
    (none_right
    (class_name_faults units class d ++ class_not_runnable units class d)
    (too_many_types d)
    (names_and_number units class d e))

pub base_free : (units : List KitUnits) (class : ℕ) (d : Declaration) → declaration_faults units class d ≡ [] → base_not_fit units class d ≡ []
base_free units class d e =
    none_right
    (base_without_class units d.kit d.class.base ++ class_name_not_free units class d)
    (base_not_fit units class d)
    (none_left
    (class_name_faults units class d)
    (class_not_runnable units class d)
    (none_left
    (class_name_faults units class d ++ class_not_runnable units class d)
    (too_many_types d)
    (names_and_number units class d e)))

-- a name that is an identifier and not too long is a word
word_is : (bytes : List ℕ) → IsTrue (is_identifier bytes) → nat_lt 31 (length bytes) ≡ false → IsTrue (is_word bytes)
word_is bytes identifier short =
    ap (λ b. b && nat_le (length bytes) 31) identifier ∙ within (length bytes) short
  where
    within : (n : ℕ) → nat_lt 31 n ≡ false → nat_le n 31 ≡ true
    within n e = grind (arith, nat_tests)

pub class_word : (units : List KitUnits) (class : ℕ) (d : Declaration) → declaration_faults units class d ≡ [] →
    IsTrue (is_identifier d.class.name.bytes) → IsTrue (is_word d.class.name.bytes)
class_word units class d e identifier =
    word_is
    d.class.name.bytes
    identifier
    (not_broken
    (nat_lt 31 (length d.class.name.bytes))
    22
    d.class.name.at
    (none_right
    (too_long_in_facets d.class.facets)
    (too_long_name d.class.name)
    (none_left
    (too_long_in_facets d.class.facets ++ too_long_name d.class.name)
    (too_long_in_base d.class.base)
    (none_right
    (class_name_faults units class d ++ class_not_runnable units class d ++ too_many_types d)
    (too_long_in_class d.class)
    (class_form units class d e)))))

-- ---- the faults of one member

member_none : (units : List KitUnits) (class : ℕ) (d : Declaration) → declaration_faults units class d ≡ [] →
    (i : ℕ) (m : Member) → i < length d.class.members → member_form_faults units class d i (get_or d.class.members i m) ≡ []
member_none units class d e i m h =
    let at : 0 + i ≡ i = omega arith in
    sym (ap (λ n. member_form_faults units class d n (get_or d.class.members i m)) at)
    ∙ none_said
    (member_form_faults units class d)
    0
    d.class.members
    i
    m
    (none_right
    (class_form_faults units class d)
    (said_from (member_form_faults units class d) 0 d.class.members)
    (form_none units class d e))
    h

long_none : (units : List KitUnits) (class : ℕ) (d : Declaration) (i : ℕ) (m : Member) → member_form_faults units class d i m ≡ [] →
    too_long_in_member m ≡ []
long_none units class d i m e =
    none_right
    (method_not_runnable units class d m ++ slot_not_fit units class d.kit m ++ member_not_fit units d.kit m)
    (too_long_in_member m)
    (none_right
    (member_name_faults units class d i m)
    (member_word_faults units class d m)
    (none_left (member_name_faults units class d i m ++ member_word_faults units class d m) (params_faults units d.kit m) e))

member_short : (m : Member) → too_long_in_member m ≡ [] → nat_lt 31 (length m.name.bytes) ≡ false
member_short m e =
    not_broken
    (nat_lt 31 (length m.name.bytes))
    22
    m.name.at
    (none_right
    (too_long_in_facets m.facets ++ too_long_in_type m.kind)
    (too_long_name m.name)
    (none_left
    (too_long_in_facets m.facets ++ too_long_in_type m.kind ++ too_long_name m.name)
    (too_long_in_init (form_value m.form))
    e))

pub member_word : (units : List KitUnits) (class : ℕ) (d : Declaration) → declaration_faults units class d ≡ [] →
    All (λ (m : Member). IsTrue (is_identifier m.name.bytes)) d.class.members →
    All (λ (m : Member). IsTrue (is_word m.name.bytes)) d.class.members
member_word units class d e identifiers i m h =
    let found : Member = get_or d.class.members i m in
    word_is
    found.name.bytes
    (identifiers i m h)
    (member_short found (long_none units class d i found (member_none units class d e i m h)))
