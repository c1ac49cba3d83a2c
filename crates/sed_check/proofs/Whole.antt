-- All that a typed program asks, put together.
use Rattle.std.proofs.Common.{◌≡◌, ◌<◌, ◌≤◌, ◌+◌, ℕ, Bool, true, false, not, List, length, filter, slice_get, position, All, IfSome, Some, None, sym, subst, arith}
use Rattle.std.specs.List.{count_by, find, flat_map}
use Rattle.std.specs.Str.{bytes_eq}
use Rattle.sed_typed.specs.declared.program.Method.{Method}
use Rattle.sed_typed.specs.declared.program.Program.{Program}
use Rattle.sed_typed.specs.Classes.{declared_method}
use Rattle.sed_typed.specs.Typed.{IsBody, IsMethod, IsText, Typed}
use Rattle.sed_typed.specs.TypedSchema.{HasKits}
use Rattle.sed_typed.specs.Virtual.{AreCounted}
use Rattle.sed_units.specs.declared.classes.Member.{Member}
use Rattle.sed_classes.specs.declared.kit_units.KitUnits.{KitUnits}
use Rattle.sed_classes.specs.Declarations.{all_classes}
use Rattle.sed_classes.specs.Members.{declares, has_name, is_method, members_of}
use Rattle.sed_outline.specs.Fits.{Unbroken}
use Rattle.sed_program.specs.Methods.{method_number, own_methods}
use Rattle.sed_program.specs.Outlined.{IsOutlined}
use Rattle.sed_program.specs.Texts.{literals_of}
use Rattle.sed_program.specs.Ordered.{IsOrdered, number, places}
use Rattle.sed_program.proofs.OrderedClasses.{by_class, ordered}
use Rattle.sed_class_laws.specs.Depth.{depth_of}
use Rattle.sed_class_laws.proofs.Deeper.{deeper}
use Rattle.sed_class_laws.specs.Kits.{KitsNamed}
use Rattle.sed_class_laws.specs.Texts.{SpellBytes}
use Rattle.sed_class_laws.proofs.Class.{classes}
use Rattle.sed_class_laws.proofs.Kits.{has_kits}
use Rattle.sed_class_laws.proofs.Statics.{statics_most}
use Rattle.sed_class_laws.proofs.Texts.{texts_are, texts_kept}
use Rattle.sed_class_laws.specs.Empty.{EmptyStays}
use Rattle.sed_class_laws.specs.Heads.{HasHead, HasHeads}
use Rattle.sed_class_laws.proofs.HasSlots.{has_slots}
use Rattle.sed_class_laws.proofs.SysMembers.{has_sys_members}
use Rattle.sed_member_laws.specs.Faultless.{AreFree}
use Rattle.sed_member_laws.proofs.Flat.{any_counted, count_parts, found_filtered}
use Rattle.sed_member_laws.specs.Literals.{AreSpelled}
use Rattle.sed_member_laws.proofs.Declaring.{declared_at}
use Rattle.sed_member_laws.proofs.Found.{none_declared}
use Rattle.sed_member_laws.proofs.Numbers.{declared_is}
use Rattle.sed_member_laws.proofs.Whole.{are_free}
use Rattle.sed_member_laws.specs.TypedHeads.{IsTypedHead}
use Rattle.sed_member_laws.proofs.FieldsTyped.{fields_typed, statics_apart, statics_typed}
use Rattle.sed_member_laws.proofs.MembersApart.{first_named, has_members}
use Rattle.sed_member_laws.proofs.MethodsTyped.{has_bodies, methods_typed}

-- the methods of the program by their names
head : (units : List KitUnits) (program : Program) → AreFree units → IsOrdered units program →
    IsOutlined units program → (class i : ℕ) (m : Member) → class < places units →
    slice_get (members_of units class) i ≡ Some m → is_method m ≡ true → HasHead units program class m
head units program f o p class i m h e is =
    let first : find (has_name m.name.bytes) (members_of units class) ≡ Some m = first_named units f class i m e in
    let own = found_filtered (has_name m.name.bytes) is_method (members_of units class) m first is in
    let found = declared_at units program f o p class i m e is first in
    record {
      place = method_number units class m.name.bytes;
      method = found.0;
      named = declared_is units program f o p class own.0 m h own.2 own.1;
      at = found.1;
      head = found.2;
    }

heads : (units : List KitUnits) (program : Program) → AreFree units → IsOrdered units program →
    IsOutlined units program → HasHeads units program
heads units program f o p = record {
  declared = λ class i m h e is. head units program f o p class i m h e is;
  lacking = λ class name h e.
      let none : count_by (has_name name) (members_of units class) ≡ 0 =
      any_counted (has_name name) (members_of units class) e in
      let parts : count_by (has_name name) (own_methods units class)
      + count_by (has_name name) (filter (λ x. not (is_method x)) (members_of units class))
      ≡ count_by (has_name name) (members_of units class) =
      count_parts (has_name name) is_method (members_of units class) in
      none_declared units program o p class name h (omega arith);
}

pub typed : AreCounted → (units : List KitUnits) (program : Program) → Unbroken units → KitsNamed units → AreSpelled units →
    SpellBytes (flat_map literals_of (all_classes units)) → IsOutlined units program → EmptyStays units program →
    All (λ (m : Method). IfSome m.body (IsBody program m)) program.methods → Typed program
typed counted units program u named spelled bytes p empty bodied =
    let o : IsOrdered units program = ordered units u program p.schema p.fields in
    let f : AreFree units = are_free units program u o in
    let methods : All (IsTypedHead program) program.methods = methods_typed units program f o p in
    record {
      kits = subst HasKits (sym p.schema) (has_kits units u named);
      classes = λ class. classes units u program p.schema p.fields class;
      slots = λ class.
          has_slots
          units
          u
          program
          p.schema
          p.fields
          f.free
          (heads units program f o p)
          (has_members counted units program f o p)
          class;
      members = has_members counted units program f o p;
      sys = λ class. has_sys_members units u program p.fields p.statics p.methods empty p.schema class;
      fields = fields_typed units program f spelled o p;
      fields_by_class = by_class units u program p.schema p.fields;
      statics = statics_typed units program f spelled o p;
      statics_apart = statics_apart units program f p;
      texts_once = λ text.
          subst (λ ts. count_by (λ t. bytes_eq t text) ts ≤ 1) (sym p.texts) ((texts_kept units).once text);
      depth = depth_of units;
      deeper = λ class. deeper units u program p.schema p.fields class;
      methods = λ i d h. record {
        class = (methods i d h).class;
        params = (methods i d h).params;
        params_most = (methods i d h).params_most;
        result = (methods i d h).result;
        virtual = (methods i d h).virtual;
        no_body = (methods i d h).no_body;
        body = bodied i d h;
      };
      bodies = has_bodies units program f o p;
      statics_most = statics_most units u program p.schema p.fields p.statics;
      texts = subst (All IsText) (sym p.texts) (texts_are units bytes);
      texts_most = subst (λ ts. length ts ≤ 4096) (sym p.texts) (texts_kept units).few;
    }
