-- What is left of each member where it is read and breaks no rule on integers, and of the members of kit `sys`.
use Rattle.std.proofs.Common.{◌≡◌, ℕ, zero, suc, false, List, [], ◌∷◌, ◌++◌, get_or, map, slice_get, codes, Option, Some, None, All, refl, arith}
use Rattle.std.specs.List.{flat_map}
use Rattle.std.specs.Option.{is_none, option_map_or, IsSome}
use Rattle.std.proofs.lemmas.List.Elements.{All-nil, All-append}
use Rattle.std.proofs.lemmas.Option.{slice_get-get_or}
use Rattle.sed_lexer.specs.declared.numbers.Number.{Number}
use Rattle.sed_units.specs.declared.leaves.Init.{Init}
use Rattle.sed_units.specs.declared.leaves.InitValue.{InitValue}
use Rattle.sed_units.specs.declared.leaves.InitValue.TheVariants as init
use Rattle.sed_units.specs.declared.leaves.Literal.{Literal}
use Rattle.sed_units.specs.declared.leaves.LiteralKind.{LiteralKind}
use Rattle.sed_units.specs.declared.leaves.LiteralKind.TheVariants as literal
use Rattle.sed_units.specs.declared.leaves.ModifierWord.{ModifierWord}
use Rattle.sed_units.specs.declared.leaves.ModifierWord.TheVariants as word
use Rattle.sed_units.specs.declared.leaves.Param.{Param}
use Rattle.sed_units.specs.declared.classes.Class.{Class}
use Rattle.sed_units.specs.declared.classes.Member.{Member}
use Rattle.sed_names.specs.Spelled.{integer_of}
use Rattle.sed_body_laws.specs.NestedBodies.{IsShallowForm}
use Rattle.sed_classes.specs.declared.kit_units.KitUnits.{KitUnits}
use Rattle.sed_classes.specs.declared.source_type.PlacedFault.{PlacedFault}
use Rattle.sed_classes.specs.Bodies.{texts_of}
use Rattle.sed_classes.specs.Declarations.{Declaration, all_classes, class_at, declared_in, sys_declares}
use Rattle.sed_classes.specs.Faults.{faults_of, placed_in}
use Rattle.sed_classes.specs.Members.{form_params, form_value, members_of}
use Rattle.sed_classes.specs.SysSource.{component_members, empty_method, meta, slot_param}
use Rattle.sed_first_fault.specs.Integers.{is_above_bound, too_large, too_large_in_class, too_large_in_facets, too_large_in_init, too_large_in_member, too_large_in_params, too_large_in_type, too_large_in_value}
use Rattle.sed_first_fault.specs.Nodes.{spelled_faults}
use Rattle.sed_member_laws.specs.Literals.{AreSpelled, HasSpelled, IsSpelled, IsValueSpelled, SpellsOne}
use Rattle.sed_member_laws.proofs.Empty.{none_left, none_listed, none_right, not_broken}
use Rattle.sed_outline.proofs.Infos.{all_at}
use Rattle.sed_first_fault.specs.Faults.{declared_faults, spelled_faults_of, spelled_in}
use Rattle.sed_check.specs.Read.{AreRead, IsLexed, IsLexedInit, IsLexedValue, IsReadMember, SpellsCharacter}
use Rattle.sed_check.proofs.AsRead.{FromText, classes_read}

-- a member whose literals are spelled and whose body is shallow
pub record IsKept (m : Member) : Type 0 where
  pub value : IsValueSpelled (form_value m.form)
  pub texts : All IsLexed (texts_of m)
  pub shallow : IsShallowForm m.form

-- ---- integers

some_number : (n : Option Number) → is_none n ≡ false → IsSome n
some_number None e = cc
some_number (Some x) e = refl

spells_one : (k : LiteralKind) (bytes : List ℕ) → SpellsCharacter k bytes → is_above_bound k bytes ≡ false →
    SpellsOne k bytes
spells_one literal.Integer bytes c e = some_number (integer_of bytes) e
spells_one literal.Character bytes c e = c
spells_one literal.Text bytes c e = tt
spells_one literal.True bytes c e = tt
spells_one literal.False bytes c e = tt
spells_one literal.Null bytes c e = tt

literal_spelled : (l : Literal) → IsLexed l → too_large l ≡ [] → IsSpelled l
literal_spelled l h e = record {
  one = spells_one l.kind l.bytes h.character (not_broken (is_above_bound l.kind l.bytes) 21 l.at e);
  bytes = h.bytes;
}

value_spelled : (v : InitValue) → IsLexedValue v → too_large_in_value v ≡ [] → HasSpelled v
value_spelled (init.Literal l) h e = literal_spelled l h e
value_spelled (init.Minus l) h e = literal_spelled l h e
value_spelled (init.Name id) h e = tt

init_spelled : (i : Option Init) → IsLexedInit i → too_large_in_init i ≡ [] → IsValueSpelled i
init_spelled None h e = tt
init_spelled (Some i) h e = value_spelled i.value h e

-- ---- members that are read

read_kept : (m : Member) → IsReadMember m → IsShallowForm m.form → too_large_in_member m ≡ [] → IsKept m
read_kept m r s e = record {
  value = init_spelled (form_value m.form) r.value (none_right
      (too_large_in_facets m.facets ++ too_large_in_type m.kind)
      (too_large_in_init (form_value m.form))
      (none_left (too_large_in_facets m.facets ++ too_large_in_type m.kind ++ too_large_in_init (form_value m.form))
      (too_large_in_params (form_params m.form)) e));
  texts = r.texts;
  shallow = s;
}

class_kept : (c : Class) → FromText c → too_large_in_class c ≡ [] → All IsKept c.members
class_kept c r e i m h =
    read_kept
    (get_or c.members i m)
    (r.read.members i m h)
    (r.shallow i m h)
    (none_listed too_large_in_member c.members i (get_or c.members i m)
    (none_right (too_large_in_facets c.facets) (flat_map too_large_in_member c.members) e)
    (slice_get-get_or c.members i m h))

none_mapped : {X Y : Type 0} (f : X → Y) (xs : List X) → map f xs ≡ [] → xs ≡ []
none_mapped f [] e = refl
none_mapped f (x ∷ xs) e = cc

-- the rule on integers holds in what a class declares
none_too_large : (units : List KitUnits) → declared_faults units ≡ [] → (i : ℕ) (d : Declaration) →
    slice_get (declared_in units) i ≡ Some d → too_large_in_class d.class ≡ []
none_too_large units e i d h =
    none_left
    (too_large_in_class d.class)
    (flat_map spelled_faults d.class.members)
    (none_mapped (placed_in d) (spelled_in d)
    (none_listed {Y = PlacedFault} (λ (x : Declaration). map (placed_in x) (spelled_in x)) (declared_in units) i d
    (none_right (faults_of units) (spelled_faults_of units) e) h))

declared_kept : (units : List KitUnits) → AreRead units → declared_faults units ≡ [] →
    All (λ (d : Declaration). All IsKept d.class.members) (declared_in units)
declared_kept units r e i d h =
    class_kept
    (get_or (declared_in units) i d).class
    (classes_read units r i d h)
    (none_too_large units e i (get_or (declared_in units) i d) (slice_get-get_or (declared_in units) i d h))

-- ---- members of `sys`

empty_kept : (w : ModifierWord) (name : List ℕ) (ps : List Param) → IsKept (empty_method w name ps)
empty_kept w name ps = record {
  value = tt;
  texts = All-nil IsLexed;
  shallow = record { nesting = omega arith; levels = omega arith };
}

meta_kept : IsKept meta
meta_kept = record { value = tt; texts = All-nil IsLexed; shallow = tt }

component_kept : All IsKept component_members
component_kept zero d h = meta_kept
component_kept (suc zero) d h = empty_kept word.Virtual (codes "execute") []
component_kept (suc (suc zero)) d h = empty_kept word.Virtual (codes "start") []
component_kept (suc (suc (suc zero))) d h = empty_kept word.Virtual (codes "stop") []
component_kept (suc (suc (suc (suc zero)))) d h = empty_kept word.Virtual (codes "changed") (slot_param ∷ [])
component_kept (suc (suc (suc (suc (suc i))))) d h = absurd (omega (arith, h))

app_kept : All IsKept (empty_method word.Action (codes "save") [] ∷ [])
app_kept zero d h = empty_kept word.Action (codes "save") []
app_kept (suc i) d h = absurd (omega (arith, h))

sys_kept : All (λ (d : Declaration). All IsKept d.class.members) sys_declares
sys_kept zero d h = All-nil IsKept
sys_kept (suc zero) d h = All-nil IsKept
sys_kept (suc (suc zero)) d h = component_kept
sys_kept (suc (suc (suc zero))) d h = app_kept
sys_kept (suc (suc (suc (suc zero)))) d h = All-nil IsKept
sys_kept (suc (suc (suc (suc (suc i))))) d h = absurd (omega (arith, h))

-- ---- the members of all classes

pub all_kept : (units : List KitUnits) → AreRead units → declared_faults units ≡ [] →
    All (λ (d : Declaration). All IsKept d.class.members) (all_classes units)
unfolding all_classes
all_kept units r e =
    All-append
    (λ (d : Declaration). All IsKept d.class.members)
    sys_declares
    (declared_in units)
    sys_kept
    (declared_kept units r e)

pub member_kept : (units : List KitUnits) → AreRead units → declared_faults units ≡ [] → (class i : ℕ) (m : Member) →
    slice_get (members_of units class) i ≡ Some m → IsKept m
member_kept units r e class i m h = by_class (class_at units class) refl h
  where
    by_class : (o : Option Declaration) → class_at units class ≡ o →
        slice_get (option_map_or (λ (d : Declaration). d.class.members) o []) i ≡ Some m → IsKept m
    by_class None s g = cc
    by_class (Some d) s g =
        all_at IsKept d.class.members i m g (all_at (λ (x : Declaration). All IsKept x.class.members)
        (all_classes units) class d s (all_kept units r e))

pub values_spelled : (units : List KitUnits) → AreRead units → declared_faults units ≡ [] → AreSpelled units
values_spelled units r e = record { values = λ class i m h. (member_kept units r e class i m h).value }
