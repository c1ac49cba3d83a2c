-- The code of `sys` alone, and what the tiny engine keeps.
use Rattle.std.specs.Prelude.{ℕ, ◌≡◌, ◌==◌, ◌||◌, ◌&&◌, ℤ, pos, nat_lt, Bool, IsTrue, if◌then◌else◌, List, [], ◌∷◌}
use Rattle.std.specs.Prelude.{Option, Some, None}
use Rattle.std.specs.FinMap as map
use Rattle.std.specs.Int.{w32}
use Rattle.sed_value.specs.Value.{is_signed}
use Rattle.sed_value.specs.declared.value.Value.{Value}
use Rattle.sed_value.specs.declared.value.Value.TheVariants as kept
use Rattle.sed_value.specs.declared.slot_type.Primitive.TheVariants as prim
use Rattle.sed_typed.specs.declared.program.FieldForm.TheVariants as form
use Rattle.sed_typed.specs.declared.schema.Schema.{Schema}
use Rattle.sed_typed.specs.Contents.{Contents, Shape}
use Rattle.sed_engine.specs.declared.call.CallEnd.TheVariants.{Done}
use Rattle.sed_engine.specs.Asked.{masked}
use Rattle.sed_engine.specs.Code.{Meaning, Object, Places}
use Rattle.tiny_engine.specs.Sys.{sys_classes, sys_kits}

-- the field behind `meta`
abbrev pub meta_shape : Shape
meta_shape = record { form = form.Prim prim.Int }

abbrev pub meta_is : ℤ → Contents
meta_is n = (0 ∷ [], kept.Int n) ∷ []

-- Obj and Virtual have nothing; the other three have `meta`
abbrev pub has_meta : ℕ → Bool
has_meta class = nat_lt 1 class && nat_lt class 5

abbrev pub sys_fields : ℕ → List Shape
sys_fields class = if has_meta class then meta_shape ∷ [] else []

-- `meta` is slot 0
abbrev pub sys_slot_field : ℕ → ℕ → Option ℕ
sys_slot_field class slot = if has_meta class && (slot == 0) then Some 0 else None

abbrev pub sys_initial : ℕ → Contents
sys_initial class = if has_meta class then meta_is (pos 0) else []

-- every root call does nothing: the methods of `sys` have empty bodies
abbrev pub code_of : Schema → Meaning
code_of schema = record {
  schema = schema;
  fields = sys_fields;
  slot_field = sys_slot_field;
  static_fields = [];
  initial = sys_initial;
  initial_statics = [];
  data_size = λ class. if has_meta class then 4 else 0;
  root = λ q. record { contents = q.contents; statics = q.statics; end = Done q.turns };
}

abbrev pub meaning_of : Schema → Meaning
meaning_of schema = masked (code_of schema)

-- the one component: its class, and its `meta`
pub record One : Type 0 where
  pub class : ℕ
  pub meta : ℤ

pub record Held : Type 0 where
  pub schema : Schema
  pub limit : ℕ
  pub one : Option One

abbrev pub object_of : One → Object
object_of o = record { class = o.class; contents = meta_is o.meta }

-- the component stands at place 0
abbrev pub live_of : Option One → Places
live_of None = map.empty
live_of (Some o) = map.insert map.empty 0 (object_of o)

-- App or Folder
abbrev pub IsCreated : Option One → Type 0
IsCreated None = Unit {0}
IsCreated (Some o) = IsTrue ((o.class == 3) || (o.class == 4))

-- `meta` is an int
abbrev pub KeepsInt : Option One → Type 0
KeepsInt None = Unit {0}
KeepsInt (Some o) = IsTrue (is_signed w32 o.meta)

-- a schema of kit `sys` alone
pub record IsSys (schema : Schema) : Type 0 where
  pub classes : schema.classes ≡ sys_classes
  pub kits : schema.kits ≡ sys_kits

-- the int that a value is, or else another
abbrev pub int_or : ℤ → Value → ℤ
int_or other (kept.Int n) = n
int_or other v = other
