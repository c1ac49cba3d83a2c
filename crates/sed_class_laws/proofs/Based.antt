-- `Obj` alone has no base, and no base is `App`.
use Rattle.std.proofs.Common.{◌≡◌, ◌<◌, ◌≤◌, ◌+◌, ◌==◌, ◌&&◌, ◌||◌, ℕ, zero, suc, Bool, true, false, not, if◌then◌else◌, List, [], ◌∷◌, length, slice_get, is_some, Option, Some, None, refl, sym, ap, ◌∙◌, subst, arith}
use Rattle.std.specs.Option.{option_and_then, option_map_or}
use Rattle.std.proofs.lemmas.Bool.Decides.{nat_tests}
use Rattle.sed_units.specs.declared.leaves.TypeName.{TypeName}
use Rattle.sed_classes.specs.declared.kit_units.KitUnits.{KitUnits}
use Rattle.sed_classes.specs.Declarations.{Declaration, all_classes, class_at}
use Rattle.sed_classes.specs.Bases.{base_named, base_of, base_unnamed, base_written, leads_back}
use Rattle.sed_classes.specs.Names.{class_of_name, is_buffer_name, is_text_name}
use Rattle.sed_classes.specs.NameRules.{base_unfit, base_without_class, is_app, is_no_base, is_without_class}
use Rattle.sed_classes.specs.Faults.{declaration_faults}
use Rattle.sed_outline.proofs.Rounds.{base_behind}
use Rattle.sed_outline.specs.Fits.{Unbroken}
use Rattle.sed_outline.proofs.Bounds.{base_app, base_component, base_folder, base_obj, base_virtual}
use Rattle.sed_outline.proofs.Fitting.{everywhere}
use Rattle.sed_outline.proofs.Unbroken.{not_broken}
use Rattle.sed_program.proofs.Lineages.{places}
use Rattle.sed_class_laws.proofs.Rules.{base_fit, base_known}
use Rattle.std.proofs.lemmas.Bool.{or_parts as either_not}

-- what a class keeps of its base
pub record Rooted (units : List KitUnits) (class : ℕ) : Type 0 where
  pub root : base_of units class ≡ None → class < places units → class ≡ 0
  pub no_app : (base : ℕ) → base_of units class ≡ Some base → (base == 3) ≡ false

-- by a base that is known
known : (units : List KitUnits) (class base : ℕ) → base_of units class ≡ Some base → (base == 3) ≡ false →
    Rooted units class
known units class base e f = record {
  root = λ none h. let no : None ≡ Some base = sym none ∙ e in cc;
  no_app = λ other s. let some : Some base ≡ Some other = sym e ∙ s in let same : base
      ≡ other = cc in sym (ap (λ b. b == 3) same) ∙ f;
}

named_base : (units : List KitUnits) (class kit : ℕ) (name : TypeName) →
    base_of units class ≡ base_named units kit name →
    is_without_class units kit name ≡ false → is_no_base units class kit name ≡ false → Rooted units class
named_base units class kit name e f g =
    let a = either_not (is_text_name name || is_buffer_name name || is_app (base_named units kit name))
    (leads_back units class) g in
    let b = either_not (is_text_name name || is_buffer_name name) (is_app (base_named units kit name)) a.0 in
    let c = either_not (is_text_name name) (is_buffer_name name) b.0 in
    let plain : base_named units kit name ≡ class_of_name units kit name =
    ap (λ t. if t then None else class_of_name units kit name) b.0 in
    let there : is_some (class_of_name units kit name) ≡ true = some_is (is_text_name name) (is_buffer_name name)
    (is_some (class_of_name units kit name)) c.0 c.1 f in
    by_class (class_of_name units kit name) refl (e ∙ plain) there (sym (ap is_app plain) ∙ b.1)
  where
    some_is : (p q r : Bool) → p ≡ false → q ≡ false → (not p && not q && not r) ≡ false → r ≡ true
    some_is false false true x y z = refl
    some_is false false false x y z = cc
    some_is true q r x y z = cc
    some_is false true r x y z = cc

    by_class : (o : Option ℕ) → class_of_name units kit name ≡ o → base_of units class ≡ class_of_name units kit name →
        is_some (class_of_name units kit name) ≡ true →
        is_app (class_of_name units kit name) ≡ false → Rooted units class
    by_class None s h t n = let no : false ≡ true = sym (ap is_some s) ∙ t in cc
    by_class (Some base) s h t n = known units class base (h ∙ s) (sym (ap is_app s) ∙ n)

declared_rooted : (units : List KitUnits) (class : ℕ) (d : Declaration) → 5 ≤ class → class_at units class ≡ Some d →
    declaration_faults units class d ≡ [] → Rooted units class
declared_rooted units class d l at free = by_base d.class.base refl (base_known units class d free)
    (base_fit units class d free)
  where
    written : base_of units class ≡ base_written units class d.kit d.class.base
    written = ap (option_and_then (λ (x : Declaration). base_written units class x.kit x.class.base)) at

    by_base : (b : Option TypeName) → d.class.base ≡ b → base_without_class units d.kit b ≡ [] →
        base_unfit units class d.kit b ≡ [] → Rooted units class
    by_base None s f g =
        let other : (class == 0) ≡ false = grind (arith, nat_tests) in
        known
        units
        class
        0
        (written ∙ ap (base_written units class d.kit) s ∙ ap (λ t. if t then None else Some 0) other)
        refl
    by_base (Some name) s f g =
        named_base
        units
        class
        d.kit
        name
        (written ∙ ap (base_written units class d.kit) s)
        (not_broken (is_without_class units d.kit name) 1 name.at f)
        (not_broken (is_no_base units class d.kit name) 3 name.at g)

pub rooted : (units : List KitUnits) → Unbroken units → (class : ℕ) → Rooted units class
rooted units u class =
    everywhere
    (Rooted units)
    units
    (record { root = λ e h. refl; no_app = λ b e. let no : None ≡ Some b = sym (base_obj units) ∙ e in cc })
    (known units 1 0 (base_virtual units) refl)
    (known units 2 1 (base_component units) refl)
    (known units 3 2 (base_app units) refl)
    (known units 4 2 (base_folder units) refl)
    (λ c d l at free. declared_rooted units c d l at free)
    (λ c le. record {
      root = λ e h. absurd (omega (arith, le, h));
      no_app = λ b e. let no : None ≡ Some b = sym (base_behind units c le) ∙ e in cc;
    })
    u.faultless
    class
