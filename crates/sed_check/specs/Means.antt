-- What names mean is what a program has: all that a body asks of its names and its program, but for its class and its
-- locals.
use Rattle.std.specs.Prelude.{◌≡◌, ℕ, ◌<◌, true, IfSome, IsSomeAnd, List, length, slice_get, Some}
use Rattle.std.specs.Option.{option_map, option_and_then}
use Rattle.sed_typed.specs.declared.kind.Kind.{Kind}
use Rattle.sed_typed.specs.Classes.{base_of}
use Rattle.sed_typed.specs.TypedExpr.{Context, IsKindOf, field_form, static_form, part_kind}
use Rattle.sed_typed.specs.TypedSchema.{is_below}
use Rattle.sed_names.specs.Names.{Names}
use Rattle.sed_units.specs.declared.classes.Member.{Member}
use Rattle.sed_bodies.specs.Inside.{IsConstant, IsMember, IsMethod}
use Rattle.sed_classes.specs.declared.kit_units.KitUnits.{KitUnits}
use Rattle.sed_classes.specs.Members.{is_define, kit_of, members_of, owned}
use Rattle.sed_program.specs.Meaning.{define_constant}

pub record Means (c : Context) (n : Names) : Type 0 where
  pub results : (m : ℕ) → IfSome (slice_get c.program.methods m) (λ x. IsKindOf c.program x.result)
  pub fields : (x : Kind) (i : ℕ) (k : Kind) → option_and_then part_kind (field_form c.program x i) ≡ Some k →
      IsKindOf c.program k
  pub statics : (i : ℕ) (k : Kind) → option_and_then part_kind (static_form c.program i) ≡ Some k → IsKindOf c.program k
  pub below : (above class : ℕ) → n.below above class ≡ is_below c.program.schema.classes above class
  pub base : (class : ℕ) → option_map (λ t. t.0) (n.base class) ≡ base_of c.program.schema.classes class
  pub members : (class : ℕ) (name : List ℕ) → IfSome (n.member class name) (IsMember c class)
  pub methods : (class : ℕ) (name : List ℕ) →
      IfSome (n.method class name) (λ s. IsSomeAnd (slice_get c.program.methods s.number) (IsMethod c class s))
  pub texts : (literal : List ℕ) → IfSome (n.text literal) (λ i. i < length c.program.texts)

-- defines have values
pub record HaveDefines (units : List KitUnits) : Type 0 where
  pub value : (c i : ℕ) (m : Member) → slice_get (members_of units c) i ≡ Some m → is_define m ≡ true →
      IsSomeAnd (define_constant units (owned c (kit_of units c) m)) IsConstant
