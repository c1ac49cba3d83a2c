-- The kinds of locals are ones that a method of the program may have.
use Rattle.std.proofs.Common.{◌≡◌, ◌<◌, ℕ, Bool, true, false, if◌then◌else◌, List, [], ◌∷◌, map, length, Option, Some, None, IfSome, All, slice_get, unwrap_or, sym, subst}
use Rattle.std.specs.Str.{bytes_eq}
use Rattle.std.specs.Prelude.{codes}
use Rattle.std.proofs.lemmas.List.Elements.{All-nil, All-cons, All-head, All-tail, All-weaker, All-get_or}
use Rattle.std.proofs.lemmas.Option.{slice_get_within, get_or_from_slice_get}
use Rattle.sed_value.specs.declared.slot_type.Primitive.TheVariants as prim
use Rattle.sed_units.specs.declared.leaves.Base.{Base}
use Rattle.sed_units.specs.declared.leaves.Base.TheVariants as base
use Rattle.sed_units.specs.declared.leaves.Ident.{Ident}
use Rattle.sed_units.specs.declared.leaves.Size.{Size}
use Rattle.sed_units.specs.declared.leaves.TypeRef.{TypeRef}
use Rattle.sed_typed.specs.declared.kind.Kind.{Kind}
use Rattle.sed_typed.specs.declared.kind.Kind.TheVariants as kind
use Rattle.sed_typed.specs.declared.number.TypeNo.{TypeNo}
use Rattle.sed_typed.specs.declared.program.Program.{Program}
use Rattle.sed_typed.specs.Typed.{IsStorable}
use Rattle.sed_typed.specs.TypedExpr.{IsKindOf}
use Rattle.sed_names.specs.Names.{Names}
use Rattle.sed_body_rules.specs.declared.local.TypeMeaning.{TypeMeaning}
use Rattle.sed_body_rules.specs.declared.local.TypeMeaning.TheVariants.{Outside}
use Rattle.sed_body_rules.specs.LocalTypes.{without_size, class_type, plain_type, named_type, based_type, kind_of_meaning, local_kind}
use Rattle.sed_body_laws.proofs.Slots.{kind_or}

-- what names of classes lead to is there
pub record HasClasses (program : Program) (n : Names) : Type 0 where
  pub classes : (name : List ℕ) → IfSome (n.class name) (λ t. t.0 < length program.schema.classes)
  pub classes_in : (kit name : List ℕ) → IfSome (n.class_in kit name) (λ t. t.0 < length program.schema.classes)

abbrev Storable : Program → TypeMeaning → Type 0
Storable program t = IfSome (kind_of_meaning t) (IsStorable program)

sized : (program : Program) (k : Kind) (size : Option Size) → IsStorable program k →
    Storable program (without_size k size)
sized program k None h = h
sized program k (Some size) h = tt

of_class : (program : Program) (at : ℕ) (o : Option TypeNo) (size : Option Size) →
    IfSome o (λ t. t.0 < length program.schema.classes) →
    Storable program (class_type at o size)
of_class program at (Some class) size h = sized program (kind.Object class) size h
of_class program at None size h = tt

plain : (program : Program) (n : Names) → HasClasses program n → (at : ℕ) (name : List ℕ) (size : Option Size) →
    Storable program (plain_type n at name size)
plain program n h at name size = by_tests (bytes_eq name (codes "Str")) (bytes_eq name (codes "Buf"))
  where
    by_tests : (a b : Bool) → Storable program
        (if a then without_size kind.Text size else if b then Outside else class_type at (n.class name) size)
    by_tests true b = sized program kind.Text size tt
    by_tests false true = tt
    by_tests false false = of_class program at (n.class name) size (h.classes name)

named : (program : Program) (n : Names) → HasClasses program n →
    (at : ℕ) (kit : Option Ident) (name : List ℕ) (size : Option Size) →
    Storable program (named_type n at kit name size)
named program n h at None name size = plain program n h at name size
named program n h at (Some kit) name size = of_class program at (n.class_in kit.bytes name) size
    (h.classes_in kit.bytes name)

based : (program : Program) (n : Names) → HasClasses program n → (b : Base) (size : Option Size) →
    Storable program (based_type n b size)
based program n h (base.Primitive prim.Bool) size = sized program kind.Bool size tt
based program n h (base.Primitive prim.Int) size = sized program kind.Int size tt
based program n h (base.Primitive prim.Long) size = sized program kind.Long size tt
based program n h (base.Primitive p) size = tt
based program n h base.Void size = tt
based program n h (base.Named t) size = named program n h t.at t.kit t.id.bytes size

pub local_storable : (program : Program) (n : Names) → HasClasses program n → (t : TypeRef) →
    IfSome (local_kind n t) (IsStorable program)
local_storable program n h t = based program n h t.base t.size

-- ---- lists of kinds

known : (program : Program) (o : Option Kind) (k : Kind) → Some k ≡ o → IfSome o (IsStorable program) →
    IsStorable program k
known program o k e h = let g : IfSome (Some k) (IsStorable program) = subst (λ (x : Option Kind). IfSome x
    (IsStorable program)) (sym e) h in g

pub first_same : {A : Type 0} (x y : A) (xs ys : List A) → x ∷ xs ≡ y ∷ ys → x ≡ y
first_same x y xs ys e = cc

pub rest_same : {A : Type 0} (x y : A) (xs ys : List A) → x ∷ xs ≡ y ∷ ys → xs ≡ ys
rest_same x y xs ys e = cc

pub kinds_storable : (program : Program) (ks : List Kind) (os : List (Option Kind)) → map (λ k. Some k) ks ≡ os →
    All (λ o. IfSome o (IsStorable program)) os → All (IsStorable program) ks
kinds_storable program [] os e h = All-nil (IsStorable program)
kinds_storable program (k ∷ ks) [] e h = absurd (cc)
kinds_storable program (k ∷ ks) (o ∷ os) e h =
    All-cons (IsStorable program) k ks
    (known program o k (first_same (Some k) o (map (λ x. Some x) ks) os e) (All-head (λ x. IfSome x
    (IsStorable program)) o os h))
    (kinds_storable program ks os (rest_same (Some k) o (map (λ x. Some x) ks) os e) (All-tail (λ x. IfSome x
    (IsStorable program)) o os h))

pub types_storable : (program : Program) (n : Names) → HasClasses program n → (ts : List TypeRef) →
    All (λ o. IfSome o (IsStorable program)) (map (local_kind n) ts)
types_storable program n h [] = All-nil (λ o. IfSome o (IsStorable program))
types_storable program n h (t ∷ ts) =
    All-cons (λ o. IfSome o (IsStorable program)) (local_kind n t) (map (local_kind n) ts)
    (local_storable program n h t) (types_storable program n h ts)

-- ---- kinds of a program

pub storable_is_kind : (program : Program) (k : Kind) → IsStorable program k → IsKindOf program k
storable_is_kind program kind.Void h = absurd h
storable_is_kind program kind.Bool h = h
storable_is_kind program kind.Int h = h
storable_is_kind program kind.Long h = h
storable_is_kind program kind.Text h = h
storable_is_kind program (kind.Object class) h = h

kind_or_is_kind : (program : Program) (o : Option Kind) → IfSome o (IsStorable program) →
    IsKindOf program (unwrap_or o kind.Void)
kind_or_is_kind program None h = tt
kind_or_is_kind program (Some k) h = storable_is_kind program k h

pub types_are_kinds : (program : Program) (n : Names) → HasClasses program n → (ts : List TypeRef) →
    All (IsKindOf program) (map (kind_or n) ts)
types_are_kinds program n h [] = All-nil (IsKindOf program)
types_are_kinds program n h (t ∷ ts) =
    All-cons (IsKindOf program) (kind_or n t) (map (kind_or n) ts) (kind_or_is_kind program (local_kind n t)
    (local_storable program n h t)) (types_are_kinds program n h ts)

pub all_kinds : (program : Program) (ks : List Kind) → All (IsStorable program) ks → All (IsKindOf program) ks
all_kinds program ks h = All-weaker (IsStorable program) (IsKindOf program) (λ k g. storable_is_kind program k g) ks h

pub at_place : (program : Program) (ks : List Kind) → All (IsKindOf program) ks → (i : ℕ) (k : Kind) →
    slice_get ks i ≡ Some k → IsKindOf program k
at_place program ks h i k e =
    subst (λ (x : Kind). IsKindOf program x) (get_or_from_slice_get ks i k k e) (All-get_or (IsKindOf program) ks i k
    (slice_get_within ks i k e) h)
