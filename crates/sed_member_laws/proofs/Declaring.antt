-- The methods of a program that members declare: their parameters, their bodies and where they stand.
use Rattle.std.proofs.Common.{◌≡◌, ◌&&◌, ◌||◌, ℕ, Bool, true, false, not, is_some, List, map, slice_get, Option, Some, None, IsSomeAnd, refl, sym, ap, ◌∙◌, subst}
use Rattle.std.specs.List.{find}
use Rattle.std.specs.Option.{option_map}
use Rattle.std.proofs.lemmas.Option.{slice_get-map}
use Rattle.sed_typed.specs.declared.kind.Kind.{Kind}
use Rattle.sed_typed.specs.declared.program.Method.{Method}
use Rattle.sed_typed.specs.declared.program.Program.{Program}
use Rattle.sed_typed.specs.Typed.{IsStorable}
use Rattle.sed_units.specs.declared.leaves.ModifierWord.TheVariants as word
use Rattle.sed_units.specs.declared.classes.Member.{Member}
use Rattle.sed_classes.specs.declared.kit_units.KitUnits.{KitUnits}
use Rattle.sed_classes.specs.Faults.{param_faults}
use Rattle.sed_classes.specs.Members.{form_body, form_params, has_name, has_word, is_method, kit_of, members_of, owned}
use Rattle.sed_classes.specs.MemberRules.{is_abstract_elsewhere, is_virtual_elsewhere, same_truth}
use Rattle.sed_program.specs.Methods.{method_number, methods_of}
use Rattle.sed_program.specs.Outlined.{IsHead, IsOutlined, is_there}
use Rattle.sed_program.specs.Types.{param_kind, place_of}
use Rattle.sed_program.specs.Ordered.{IsOrdered, number}
use Rattle.sed_member_laws.specs.Faultless.{AreFree, Keeps}
use Rattle.sed_member_laws.proofs.Empty.{none_said_first}
use Rattle.sed_member_laws.proofs.Fit.{param_stored}
use Rattle.sed_member_laws.proofs.Flat.{found_filtered, some_is}
use Rattle.sed_member_laws.proofs.Own.{member_kept}
use Rattle.sed_member_laws.proofs.FieldsAt.{there_in}
use Rattle.sed_member_laws.proofs.Heads.{head_at}
use Rattle.sed_member_laws.proofs.Numbers.{method_at}

-- ---- parameters

pub mapped_in : {X Y : Type 0} (f : X → Y) (xs : List X) (i : ℕ) (y : Y) → slice_get (map f xs) i ≡ Some y →
    (x : X) × (slice_get xs i ≡ Some x) × (f x ≡ y)
mapped_in {X} {Y} f xs i y e = by_found (slice_get xs i) refl (sym (slice_get-map f xs i) ∙ e)
  where
    by_found : (o : Option X) → slice_get xs i ≡ o → option_map f o ≡ Some y →
        (x : X) × (slice_get xs i ≡ Some x) × (f x ≡ y)
    by_found None s h = cc
    by_found (Some x) s h = (x, s, some_is (f x) y h)

-- the kinds of a method's parameters are those of its member's
pub params_there : (units : List KitUnits) (program : Program) → AreFree units → IsOrdered units program →
    (a n : ℕ) (m : Member) →
    slice_get (members_of units a) n ≡ Some m → (ks : List Kind) →
    map (λ k. Some k) ks ≡ map (param_kind units (kit_of units a)) (form_params m.form) →
    (i : ℕ) (k : Kind) → slice_get ks i ≡ Some k → IsStorable program k
params_there units program f o a n m at ks same i k e =
    let kept = member_kept units f a n m at in
    let keeps : Keeps units a kept.0 n m = kept.3 in
    let one : slice_get (map (λ (x : Kind). Some x) ks) i
    ≡ Some (Some k) = slice_get-map (λ (x : Kind). Some x) ks i ∙ ap (option_map (λ (x : Kind). Some x)) e in
    let p = mapped_in (param_kind units (kit_of units a)) (form_params m.form) i (Some k) (sym (ap
    (λ l. slice_get l i) same) ∙ one) in
    let stored = param_stored units program o kept.0.kit i p.0 (none_said_first (param_faults units kept.0.kit)
    (form_params m.form) i p.0 keeps.params p.1) in
    let is : stored.0 ≡ k = some_is stored.0 k (sym stored.1 ∙ sym (ap (λ kit. param_kind units kit p.0) kept.2)
    ∙ p.2) in
    subst (IsStorable program) is stored.2

-- ---- bodies

pub body_there : (units : List KitUnits) (program : Program) → AreFree units → (a n : ℕ) (m : Member) →
    slice_get (members_of units a) n ≡ Some m →
    is_method m ≡ true → is_some (form_body m.form) ≡ not (has_word word.Abstract m.modifiers)
body_there units program f a n m at is =
    let kept = member_kept units f a n m at in
    let keeps : Keeps units a kept.0 n m = kept.3 in
    by_tests
    (is_method m)
    (is_virtual_elsewhere units a m || is_abstract_elsewhere kept.0.class m)
    (is_some (form_body m.form))
    (has_word word.Abstract m.modifiers)
    is
    keeps.runnable
  where
    by_tests : (a b s w : Bool) → a ≡ true → (a && (b || same_truth s w)) ≡ false → s ≡ not w
    by_tests false b s w e h = cc
    by_tests true true s w e h = cc
    by_tests true false true true e h = cc
    by_tests true false true false e h = refl
    by_tests true false false true e h = refl
    by_tests true false false false e h = cc

there_is_some : {X : Type 0} (o : Option X) → is_there o ≡ is_some o
there_is_some None = refl
there_is_some (Some x) = refl

pub no_body : {X : Type 0} (o : Option X) → is_some o ≡ true → o ≡ None → ⊥
no_body None s e = cc
no_body (Some x) s e = cc

-- ---- methods

pub some_and : {X : Type 0} (P : X → Type 0) (o : Option X) (x : X) → o ≡ Some x → P x → IsSomeAnd o P
some_and P o x e p = subst (λ r. IsSomeAnd r P) (sym e) p

-- a number and the place of its class
pub number_there : (units : List KitUnits) (program : Program) → IsOrdered units program → (k c : ℕ) →
    place_of units k ≡ Some c → number units c ≡ k
number_there units program o k c e =
    some_is (number units c) k (sym (o.number_is c (o.place_in k c e).1) ∙ (o.place_in k c e).2)

-- the method of a program that a member declares
pub declared_at : (units : List KitUnits) (program : Program) → AreFree units → IsOrdered units program →
    IsOutlined units program → (a n : ℕ) (m : Member) →
    slice_get (members_of units a) n ≡ Some m → is_method m ≡ true →
    find (has_name m.name.bytes) (members_of units a) ≡ Some m →
    (x : Method) × (slice_get program.methods (method_number units a m.name.bytes) ≡ Some x)
    × IsHead units (record { class = number units a; owned = owned a (kit_of units a) m }) x
declared_at units program f o p a n m at is found =
    let own = found_filtered (has_name m.name.bytes) is_method (members_of units a) m found is in
    head_at
    units
    (methods_of units)
    program.methods
    p.methods
    (method_number units a m.name.bytes)
    (record { class = number units a; owned = owned a (kit_of units a) m })
    (method_at units program o a own.0 m (there_in units a n m at) own.2 own.1)
