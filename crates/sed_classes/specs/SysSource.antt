-- Kit `sys` as a source would declare it. The places in this text are all 0, and nobody sees them: no rule is broken
-- in it.
use Rattle.std.specs.Prelude.{ℕ, Bool, true, false, List, [], ◌∷◌, map, Option, Some, None, codes}
use Rattle.sed_value.specs.declared.slot_type.Primitive.TheVariants as prim
use Rattle.sed_units.specs.declared.leaves.Ident.{Ident}
use Rattle.sed_units.specs.declared.leaves.Facet.{Facet}
use Rattle.sed_units.specs.declared.leaves.Modifier.{Modifier}
use Rattle.sed_units.specs.declared.leaves.ModifierWord.{ModifierWord}
use Rattle.sed_units.specs.declared.leaves.ModifierWord.TheVariants as word
use Rattle.sed_units.specs.declared.leaves.Base.{Base}
use Rattle.sed_units.specs.declared.leaves.Base.TheVariants as type
use Rattle.sed_units.specs.declared.leaves.Param.{Param}
use Rattle.sed_units.specs.declared.leaves.TypeName.{TypeName}
use Rattle.sed_units.specs.declared.leaves.TypeRef.{TypeRef}
use Rattle.sed_units.specs.declared.classes.Class.{Class}
use Rattle.sed_units.specs.declared.classes.Member.{Member}
use Rattle.sed_units.specs.declared.classes.MemberForm.{MemberForm}
use Rattle.sed_units.specs.declared.classes.MemberForm.TheVariants as form

abbrev pub named : List ℕ → Ident
named name = record { at = 0; bytes = name }

abbrev pub words : List ModifierWord → List Modifier
words all = map a_word all
  where
    a_word : ModifierWord → Modifier
    a_word w = record { at = 0; word = w }

abbrev pub of_base : Base → TypeRef
of_base base = record { at = 0; base = base; size = None }

-- `abstract class NAME extends BASE`, and the like
abbrev pub a_class : List ModifierWord → List ℕ → Option (List ℕ) → List Member → Class
a_class modifiers name base members = record {
  at = 0;
  facets = [];
  modifiers = words modifiers;
  name = named name;
  base = base_named base;
  members = members;
}
  where
    base_named : Option (List ℕ) → Option TypeName
    base_named None = None
    base_named (Some b) = Some (record { at = 0; kit = None; id = named b })

-- `@config property int meta`
abbrev pub meta : Member
meta = record {
  at = 0;
  facets = record { at = 0; name = named (codes "config"); value = None } ∷ [];
  modifiers = words (word.Property ∷ []);
  kind = of_base (type.Primitive prim.Int);
  name = named (codes "meta");
  form = form.Field None;
}

-- `virtual void NAME(..) {}`, and the like
abbrev pub empty_method : ModifierWord → List ℕ → List Param → Member
empty_method modifier name params = record {
  at = 0;
  facets = [];
  modifiers = words (modifier ∷ []);
  kind = of_base type.Void;
  name = named name;
  form = form.Method params (Some []);
}

-- `int slot`
abbrev pub slot_param : Param
slot_param = record { at = 0; kind = of_base (type.Primitive prim.Int); name = named (codes "slot") }

-- the property of every component, what a root call runs, and the callbacks
abbrev pub component_members : List Member
component_members =
    meta
    ∷ empty_method word.Virtual (codes "execute") []
    ∷ empty_method word.Virtual (codes "start") []
    ∷ empty_method word.Virtual (codes "stop") []
    ∷ empty_method word.Virtual (codes "changed") (slot_param ∷ [])
    ∷ []

-- The five types, by their numbers. `Obj` alone has no base.
abbrev pub sys_classes : List Class
sys_classes =
    a_class (word.Abstract ∷ []) (codes "Obj") None []
    ∷ a_class (word.Abstract ∷ []) (codes "Virtual") (Some (codes "Obj")) []
    ∷ a_class (word.Abstract ∷ []) (codes "Component") (Some (codes "Virtual")) component_members
    ∷ a_class [] (codes "App") (Some (codes "Component")) (empty_method word.Action (codes "save") [] ∷ [])
    ∷ a_class [] (codes "Folder") (Some (codes "Component")) []
    ∷ []

-- their places
abbrev pub object_class : ℕ
object_class = 0

abbrev pub virtual_class : ℕ
virtual_class = 1

abbrev pub component_class : ℕ
component_class = 2

abbrev pub app_class : ℕ
app_class = 3
