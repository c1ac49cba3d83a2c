-- Of the class of a row components are made.
use Rattle.std.proofs.Common.{◌≡◌, ℕ, Bool, true, false, refl}
use Rattle.std.specs.Prelude.{Option, Some, None, IsTrue, ◌&&◌, not, slice_get}
use Rattle.std.specs.Option.{option_map_or}
use Rattle.sed_typed.specs.SysTypes.{app_type, component_type}
use Rattle.sed_typed.specs.declared.schema.ClassInfo.{ClassInfo}
use Rattle.sed_engine.specs.Code.{Meaning, is_creatable}
use Rattle.comp_tree.specs.Refusals.{is_abstract_class, is_for_components, is_sys_type}
pub use Rattle.app_reader.proofs.Objects.{app_creatable}

front_of : (a b c : Bool) → IsTrue (a && b && c) → IsTrue a
front_of true b c is = refl
front_of false true c is = absurd (let no : false ≡ true = is in cc)
front_of false false c is = absurd (let no : false ≡ true = is in cc)

both_are : (a b : Bool) → IsTrue a → IsTrue b → IsTrue (a && b)
both_are true b is rest = rest
both_are false b is rest = absurd (let no : false ≡ true = is in cc)

pub other_creatable : (m : Meaning) (class : ℕ) → IsTrue (is_for_components m class) → IsTrue (not (is_abstract_class m class)) → IsTrue (is_creatable m class)
other_creatable m class component concrete = by_info (slice_get m.schema.classes class) component concrete
  where
    by_info : (r : Option ClassInfo)
        → IsTrue (option_map_or (λ (c : ClassInfo). c.is_component) r false && not (is_sys_type m component_type class) && not (is_sys_type m app_type class))
        → IsTrue (not (option_map_or (λ (c : ClassInfo). c.is_abstract) r false)) → IsTrue (option_map_or (λ c. c.is_component && not c.is_abstract) r false)
    by_info None is not_abstract = absurd (let no : false ≡ true = is in cc)
    by_info (Some c) is not_abstract =
        both_are c.is_component (not c.is_abstract) (front_of c.is_component (not (is_sys_type m component_type class)) (not (is_sys_type m app_type class)) is) not_abstract
