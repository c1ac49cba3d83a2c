-- How deep objects stand in objects.
use Rattle.std.proofs.Common.{◌≡◌, ◌<◌, ◌≤◌, ◌+◌, ◌-◌, ◌==◌, ◌&&◌, ◌||◌, ℕ, zero, suc, Bool, true, false, not, eqb, nat_le, if◌then◌else◌, List, [], ◌∷◌, length, Option, Some, None, refl, sym, ap, ◌∙◌, arith}
use Rattle.std.specs.Prelude.{max}
use Rattle.std.specs.List.{AllByRecursion, IsDistinct, list_any}
use Rattle.std.proofs.lemmas.Map.Keys.{IsDistinct-cons}
use Rattle.std.proofs.lemmas.Map.Steps.{length-le_from_distinct_below}
use Rattle.std.proofs.lemmas.Bool.Decides.{nat_tests}
use Rattle.sed_units.specs.declared.leaves.Base.{Base}
use Rattle.sed_units.specs.declared.leaves.Base.TheVariants as base
use Rattle.sed_units.specs.declared.leaves.Size.{Size}
use Rattle.sed_units.specs.declared.leaves.Size.TheVariants.{Parens, Brackets}
use Rattle.sed_units.specs.declared.leaves.TypeName.{TypeName}
use Rattle.sed_units.specs.declared.leaves.TypeRef.{TypeRef}
use Rattle.sed_units.specs.declared.classes.Member.{Member}
use Rattle.sed_value.specs.declared.slot_type.Primitive.{Primitive}
use Rattle.sed_classes.specs.declared.kit_units.KitUnits.{KitUnits}
use Rattle.sed_classes.specs.declared.source_type.SourceType.{SourceType}
use Rattle.sed_classes.specs.declared.source_type.SourceType.TheVariants as type
use Rattle.std.specs.Option.{option_map_or}
use Rattle.sed_classes.specs.Bases.{lineage}
use Rattle.sed_classes.specs.Names.{class_of_name, is_buffer_name, is_text_name}
use Rattle.sed_classes.specs.Types.{based_type, buffer_type, named_type, object_type, primitive_type, size_within, text_type, type_of, void_type}
use Rattle.sed_classes.specs.Members.{is_instance_field, is_method, kit_of, members_of}
use Rattle.sed_classes.specs.Objects.{holds_itself, holds_within, is_inline, object_in}
use Rattle.sed_outline.specs.Rounds.{inline_in, inline_of, inline_own}
use Rattle.sed_outline.specs.Fits.{Unbroken}
use Rattle.sed_program.proofs.OrderLists.{is_itself, is_same}
use Rattle.sed_program.proofs.Lineages.{places}
use Rattle.sed_program.proofs.Within.{Within, name_within}
use Rattle.sed_class_laws.specs.Depth.{deepest, most}
use Rattle.sed_class_laws.proofs.Has.{Has, either, has_flat, has_map, or_left, or_right}
use Rattle.sed_class_laws.proofs.Inline.{holds_first, holds_most, none_in_itself}

-- ---- the class of an object is there

none_object : (units : List KitUnits) (o : Option ℕ) → o ≡ None → Within units o
none_object units o e c s = let f : None ≡ Some c = sym e ∙ s in cc

outside_or : (f : ℕ → SourceType) (o : Option ℕ) → ((n : ℕ) → object_in (f n) ≡ None) →
    object_in (option_map_or f o type.Outside) ≡ None
outside_or f None h = refl
outside_or f (Some n) h = h n

no_primitive : (p : Primitive) (size : Option Size) → object_in (primitive_type p size) ≡ None
no_primitive p None = refl
no_primitive p (Some (Brackets l)) = outside_or (type.Array p) (size_within 65535 l) (λ n. refl)
no_primitive p (Some (Parens l)) = refl

no_void : (size : Option Size) → object_in (void_type size) ≡ None
no_void None = refl
no_void (Some s) = refl

no_text : (size : Option Size) → object_in (text_type size) ≡ None
no_text None = refl
no_text (Some (Parens l)) = outside_or type.SizedText (size_within 255 l) (λ n. refl)
no_text (Some (Brackets l)) = refl

no_buffer : (size : Option Size) → object_in (buffer_type size) ≡ None
no_buffer None = refl
no_buffer (Some (Parens l)) = outside_or type.Buf (size_within 128 l) (λ n. refl)
no_buffer (Some (Brackets l)) = refl

an_object : (units : List KitUnits) (o : Option ℕ) (size : Option Size) → Within units o →
    Within units (object_in (object_type o size))
an_object units None size w = none_object units (object_in (object_type None size)) refl
an_object units (Some c) None w = w
an_object units (Some c) (Some s) w = none_object units (object_in (object_type (Some c) (Some s))) refl

named_object : (units : List KitUnits) (kit : ℕ) (name : TypeName) (size : Option Size) →
    Within units (object_in (named_type units kit name size))
named_object units kit name size = by_tests (is_text_name name) (is_buffer_name name)
  where
    by_tests : (a b : Bool) → Within units (object_in (if a then text_type size else if b then buffer_type size
        else object_type (class_of_name units kit name) size))
    by_tests true b = none_object units (object_in (text_type size)) (no_text size)
    by_tests false true = none_object units (object_in (buffer_type size)) (no_buffer size)
    by_tests false false = an_object units (class_of_name units kit name) size (name_within units kit name)

pub type_within : (units : List KitUnits) (kit : ℕ) (t : TypeRef) → Within units (object_in (type_of units kit t))
type_within units kit t = by_base t.base
  where
    by_base : (b : Base) → Within units (object_in (based_type units kit b t.size))
    by_base (base.Primitive p) = none_object units (object_in (primitive_type p t.size)) (no_primitive p t.size)
    by_base base.Void = none_object units (object_in (void_type t.size)) (no_void t.size)
    by_base (base.Named name) = named_object units kit name t.size

inline_there : (units : List KitUnits) (kit : ℕ) (m : Member) → Within units (inline_of units kit m)
inline_there units kit m = by_tests (is_instance_field m) (not (is_method m) && is_inline m)
  where
    by_tests : (a b : Bool) → Within units (if a then (if b then object_in (type_of units kit m.kind) else None)
        else None)
    by_tests true true = type_within units kit m.kind
    by_tests true false = none_object units None refl
    by_tests false b = none_object units None refl

pub inline_within : (units : List KitUnits) (class h : ℕ) → Has (inline_in units class) h → h < places units
inline_within units class h i =
    let found = has_flat (inline_own units) (lineage units class) h i in
    let member = has_map (inline_of units (kit_of units found.0)) (members_of units found.0) h found.2 in
    inline_there units (kit_of units found.0) member.1 h member.3

-- ---- chains of objects

-- each of these stands in the one before
abbrev Chain : List KitUnits → ℕ → List ℕ → Type 0
Chain units class [] = Unit {0}
Chain units class (h ∷ hs) = Has (inline_in units class) h × Chain units h hs

chain_holds : (units : List KitUnits) (class x : ℕ) (hs : List ℕ) → Chain units class hs → Has hs x →
    holds_within units (length hs) x class ≡ true
chain_holds units class x [] c i = cc
chain_holds units class x (h ∷ hs) c i =
    holds_first
    units
    (length hs)
    x
    class
    h
    c.0
    (either
    (h == x)
    (list_any (λ y. y == x) hs)
    i
    (((h == x) || holds_within units (length hs) x h) ≡ true)
    (λ s. or_left (h == x) (holds_within units (length hs) x h) s)
    (λ s. or_right (h == x) (holds_within units (length hs) x h) (chain_holds units h x hs c.1 s)))

no_repeat : (units : List KitUnits) → Unbroken units → (class : ℕ) (hs : List ℕ) → Chain units class hs →
    length hs ≤ places units →
    list_any (λ y. y == class) hs ≡ false
no_repeat units u class hs c le = by_test (list_any (λ y. y == class) hs) refl
  where
    again : list_any (λ y. y == class) hs ≡ true → holds_itself units class ≡ true
    again e =
        let whole : places units ≡ (places units - length hs) + length hs = omega (arith, le) in
        ap (λ n. holds_within units n class class) whole
        ∙ holds_most units (length hs) (places units - length hs) class class (chain_holds units class class hs c e)

    by_test : (b : Bool) → list_any (λ y. y == class) hs ≡ b → list_any (λ y. y == class) hs ≡ false
    by_test false e = e
    by_test true e = let itself : holds_itself units class ≡ true = again e in let none : holds_itself units class
        ≡ false = none_in_itself units u class in cc

apart : (class : ℕ) (hs : List ℕ) → list_any (λ y. y == class) hs ≡ false → AllByRecursion (λ y. eqb class y ≡ false) hs
apart class [] e = tt
apart class (h ∷ hs) e = (
  turned (h == class) refl (first (h == class) (list_any
      (λ y. y == class) hs) e),
  apart class hs (last (h == class) (list_any (λ y. y == class) hs) e),
)
  where
    first : (a b : Bool) → (a || b) ≡ false → a ≡ false
    first false b f = refl
    first true b f = cc

    last : (a b : Bool) → (a || b) ≡ false → b ≡ false
    last false b f = f
    last true b f = cc

    turned : (a : Bool) → (h == class) ≡ a → a ≡ false → eqb class h ≡ false
    turned a s f = let other : (h == class) ≡ false = s ∙ f in grind (arith, nat_tests)

chain_distinct : (units : List KitUnits) → Unbroken units → (class : ℕ) (hs : List ℕ) → Chain units class hs →
    length hs ≤ places units →
    IsDistinct eqb (class ∷ hs)
unfolding IsDistinct
chain_distinct units u class [] c le = IsDistinct-cons eqb class [] tt tt
chain_distinct units u class (h ∷ hs) c le =
    IsDistinct-cons
    eqb
    class
    (h ∷ hs)
    (apart class (h ∷ hs) (no_repeat units u class (h ∷ hs) c le))
    (chain_distinct units u h hs c.1 (omega (arith, le)))

chain_within : (units : List KitUnits) (q class : ℕ) (hs : List ℕ) → class < places units → Chain units class hs →
    list_any (eqb q) (class ∷ hs) ≡ true → q < places units
chain_within units q class hs h c e =
    either
    (eqb q class)
    (list_any (eqb q) hs)
    e
    (q < places units)
    (λ s. let same : q ≡ class = grind (arith, nat_tests, s) in omega (arith, same, h))
    (λ s. later hs c s)
  where
    later : (xs : List ℕ) → Chain units class xs → list_any (eqb q) xs ≡ true → q < places units
    later = inner class
      where
        inner : (at : ℕ) (xs : List ℕ) → Chain units at xs → list_any (eqb q) xs ≡ true → q < places units
        inner at [] d f = cc
        inner at (x ∷ xs) d f =
            either
            (eqb q x)
            (list_any (eqb q) xs)
            f
            (q < places units)
            (λ s. let same : q ≡ x = grind (arith, nat_tests, s) in omega (arith, same, inline_within units at x d.0))
            (λ s. inner x xs d.1 s)

chain_short : (units : List KitUnits) → Unbroken units → (class : ℕ) (hs : List ℕ) → class < places units →
    Chain units class hs →
    length hs ≤ places units → suc (length hs) ≤ places units
chain_short units u class hs h c le =
    length-le_from_distinct_below
    (class ∷ hs)
    (places units)
    (chain_distinct units u class hs c le)
    (λ q e. chain_within units q class hs h c e)

-- ---- the longest chain

most_has : (f : ℕ → ℕ) (xs : List ℕ) (x : ℕ) → Has xs x → f x ≤ most f xs
most_has f [] x i = cc
most_has f (y ∷ ys) x i =
    either
    (y == x)
    (list_any (λ z. z == x) ys)
    i
    (f x ≤ max (f y) (most f ys))
    (λ s. omega (arith, ap f (is_same y x s)))
    (λ s. omega (arith, most_has f ys x s))

data FromMost (f : ℕ → ℕ) (xs : List ℕ) : Type 0 where
  nothing : most f xs ≡ 0 → FromMost f xs
  comes : (x : ℕ) → Has xs x → f x ≡ most f xs → FromMost f xs

most_from : (f : ℕ → ℕ) (xs : List ℕ) → FromMost f xs
most_from f [] = nothing refl
most_from f (y ∷ ys) = by_order (nat_le (most f ys) (f y)) refl (most_from f ys)
  where
    by_order : (b : Bool) → nat_le (most f ys) (f y) ≡ b → FromMost f ys → FromMost f (y ∷ ys)
    by_order true t rest =
        let le : most f ys ≤ f y = grind (arith, nat_tests) in
        comes y (or_left (y == y) (list_any (λ z. z == y) ys) (is_itself y)) (omega (arith, le))
    by_order false t (nothing e) = let lt : f y < most f ys = grind (arith, nat_tests) in absurd (omega (arith, lt, e))
    by_order false t (comes x i e) =
        let lt : f y < most f ys = grind (arith, nat_tests) in
        comes x (or_right (y == x) (list_any (λ z. z == x) ys) i) (omega (arith, lt, e))

abbrev Longest : List KitUnits → ℕ → ℕ → Type 0
Longest units k class = (hs : List ℕ) × Chain units class hs × (length hs ≡ deepest units k class) × (length hs ≤ k)

longest : (units : List KitUnits) (k class : ℕ) → Longest units k class
unfolding deepest
longest units zero class = ([], tt, refl, omega arith)
longest units (suc k) class = by_most (λ h. longest units k h) (most_from (λ h. suc (deepest units k h))
    (inline_in units class))
  where
    by_most : ((h : ℕ) → Longest units k h) → FromMost (λ h. suc (deepest units k h)) (inline_in units class) →
        Longest units (suc k) class
    by_most again (nothing e) = ([], tt, sym e, omega arith)
    by_most again (comes h i e) =
        let rest = again h in
        (h ∷ rest.0, (i, rest.1), ap suc rest.2 ∙ e, omega (arith, rest.3))

covers : (units : List KitUnits) (k class : ℕ) (hs : List ℕ) → Chain units class hs → length hs ≤ k →
    length hs ≤ deepest units k class
unfolding deepest
covers units k class [] c le = omega arith
covers units zero class (h ∷ hs) c le = absurd (omega (arith, le))
covers units (suc k) class (h ∷ hs) c le =
    omega (
      arith,
      covers units k h hs c.1 (omega (arith, le)),
      most_has (λ x. suc (deepest units k x)) (inline_in units class) h c.0,
    )

-- what stands in an object is less deep
pub less_deep : (units : List KitUnits) → Unbroken units → (class h : ℕ) → Has (inline_in units class) h →
    deepest units (places units) h < deepest units (places units) class
less_deep units u class h i =
    let long = longest units (places units) h in
    let fits : suc (length long.0) ≤ places units = chain_short units u h long.0
    (inline_within units class h i) long.1 long.3 in
    omega (arith, long.2, covers units (places units) class (h ∷ long.0) (i, long.1) fits)
