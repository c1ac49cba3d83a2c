-- Of no kits the schema is that of `sys`: its types are as a typed program has them, and its canonical text is the
-- one that the documents print.
use Rattle.std.proofs.Common.{◌≡◌, List, [], ◌∷◌, ◌++◌, refl}
use Rattle.std.specs.Prelude.{codes}
use Rattle.sed_typed.specs.SysTypes.{HasSysTypes, IsSysType}
use Rattle.sed_classes.specs.Canonical.{line_end, type_text, types_text, canonical_text}
use Rattle.sed_classes.specs.Declarations.{all_classes}
use Rattle.sed_classes.specs.Schema.{class_infos, outline}

has_sys_types : HasSysTypes (class_infos [])
unfolding all_classes
has_sys_types = record {
  five = refl;
  object = record { name_is = refl; base_is = refl; is_abstract = refl; is_component = refl; size_is = refl; slots = refl };
  virtual = record { name_is = refl; base_is = refl; is_abstract = refl; is_component = refl; size_is = refl; slots = refl };
  component = record { name_is = refl; base_is = refl; is_abstract = refl; is_component = refl; size_is = refl; slots = refl };
  app = record { name_is = refl; base_is = refl; is_abstract = refl; is_component = refl; size_is = refl; slots = refl };
  folder = record { name_is = refl; base_is = refl; is_abstract = refl; is_component = refl; size_is = refl; slots = refl };
}

sys_text : canonical_text (outline []) 0 ≡
    (codes "kit sys" ++ line_end)
    ++ (codes "class Obj - abstract" ++ line_end)
    ++ (codes "class Virtual sys::Obj abstract" ++ line_end)
    ++ (codes "class Component sys::Virtual abstract" ++ line_end)
    ++ (codes "prop meta int config" ++ line_end)
    ++ (codes "class App sys::Component concrete" ++ line_end)
    ++ (codes "action save void" ++ line_end)
    ++ (codes "class Folder sys::Component concrete" ++ line_end)
unfolding types_text type_text all_classes
sys_text = refl
