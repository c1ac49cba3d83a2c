-- What the schema says of bases, by numbers, is what the units say of them, by places.
use Rattle.std.proofs.Common.{◌≡◌, ◌<◌, ◌==◌, ◌||◌, ℕ, suc, Bool, true, false, List, [], ◌∷◌, length, map, Option, Some, None, refl, sym, ap, ◌∙◌, subst, arith}
use Rattle.std.specs.List.{list_any}
use Rattle.std.specs.Option.{option_and_then, option_map}
use Rattle.sed_typed.specs.declared.number.TypeNo.{TypeNo}
use Rattle.sed_typed.specs.declared.schema.ClassInfo.{ClassInfo}
use Rattle.sed_typed.specs.Classes as typed
use Rattle.sed_typed.specs.TypedSchema as typed_schema
use Rattle.sed_classes.specs.declared.kit_units.KitUnits.{KitUnits}
use Rattle.sed_classes.specs.Bases.{base_of, bases, is_below, lineage}
use Rattle.sed_classes.specs.Schema.{class_infos, type_number}
use Rattle.sed_program.specs.Types.{place_of, type_no}
use Rattle.sed_outline.specs.Fits.{Unbroken}
use Rattle.sed_program.proofs.Leads.{Leads, leads_map, leads_reach}
use Rattle.sed_program.proofs.OrderLists.{is_other, is_same}
use Rattle.sed_program.proofs.Within.{base_within}
use Rattle.sed_program.proofs.Lineages.{bases_few, bases_lead, lineage_first, places}
use Rattle.sed_program.proofs.Order.{number, number_apart, number_at, number_is, place_in, place_is}
use Rattle.sed_program.proofs.Infos.{class_there, info_at, infos_len}

unnumbered : (o : Option ℕ) → option_map (λ (t : TypeNo). t.0) (option_map type_no o) ≡ o
unnumbered None = refl
unnumbered (Some n) = refl

pub base_at : (units : List KitUnits) → Unbroken units → (k class : ℕ) → place_of units k ≡ Some class →
    typed.base_of (class_infos units) k ≡ option_and_then (type_number units) (base_of units class)
base_at units u k class e =
    let d = class_there units class (place_in units u k class e).1 in
    ap (option_and_then (λ (info : ClassInfo). option_map (λ base. base.0) info.base))
    (info_at units u k class d.0 e d.1)
    ∙ unnumbered (option_and_then (type_number units) (base_of units class))

pub base_some : (units : List KitUnits) → Unbroken units → (k class base : ℕ) → place_of units k ≡ Some class →
    base_of units class ≡ Some base →
    typed.base_of (class_infos units) k ≡ Some (number units base)
base_some units u k class base e f =
    base_at units u k class e
    ∙ ap (option_and_then (type_number units)) f
    ∙ number_is units u base (base_within units class base f)

pub base_none : (units : List KitUnits) → Unbroken units → (k class : ℕ) → place_of units k ≡ Some class →
    base_of units class ≡ None →
    typed.base_of (class_infos units) k ≡ None
base_none units u k class e f = base_at units u k class e ∙ ap (option_and_then (type_number units)) f

map_length : {X Y : Type 0} (f : X → Y) (xs : List X) → length (map f xs) ≡ length xs
map_length f [] = refl
map_length f (x ∷ xs) = ap suc (map_length f xs)

pub lineage_at : (units : List KitUnits) → Unbroken units → (k class : ℕ) → place_of units k ≡ Some class →
    typed.lineage (class_infos units) k ≡ map (number units) (lineage units class)
lineage_at units u k class e =
    let h : class < places units = (place_in units u k class e).1 in
    let same : k ≡ number units class = sym (number_at units u k class e) in
    let climbs : Leads (typed.base_of (class_infos units)) (typed.base_of (class_infos units) (number units class))
    (map (number units) (bases units class)) =
    leads_map
    (base_of units)
    (typed.base_of (class_infos units))
    (number units)
    (λ c. c < places units)
    (λ c l f. base_none units u (number units c) c (place_is units u c l) f)
    (λ c b l f. (base_within units c b f, base_some units u (number units c) c b (place_is units u c l) f))
    class
    (bases units class)
    h
    (bases_lead units u class) in
    leads_reach
    (typed.base_of (class_infos units))
    (length (class_infos units))
    (Some k)
    (number units class ∷ map (number units) (bases units class))
    (ap Some same, climbs)
    (omega (arith, infos_len units u, bases_few units u class h, map_length (number units) (bases units class)))
    ∙ sym (ap (map (number units)) (lineage_first units u class))

-- ---- below

beneath : (units : List KitUnits) → Unbroken units → (above : ℕ) → above < places units → (o : Option ℕ) (xs : List ℕ) →
    ((c : ℕ) → o ≡ Some c → c < places units) → Leads (base_of units) o xs →
    list_any (λ c. c == number units above) (map (number units) xs) ≡ list_any (λ c. c == above) xs
beneath units u above h o [] w p = refl
beneath units u above h o (x ∷ xs) w p =
    ap (λ b. b || list_any (λ c. c == number units above) (map (number units) xs)) (alike
    (number units x == number units above) (x == above) refl refl)
    ∙ ap (λ b. (x == above) || b) (beneath units u above h (base_of units x) xs (base_within units x) p.1)
  where
    alike : (a b : Bool) → (number units x == number units above) ≡ a → (x == above) ≡ b →
        (number units x == number units above) ≡ (x == above)
    alike true true s t = s ∙ sym t
    alike false false s t = s ∙ sym t
    alike true false s t =
        absurd (is_other x above t (number_apart units u x above (w x p.0) h (is_same (number units x)
        (number units above) s)))
    alike false true s t =
        absurd (is_other (number units x) (number units above) s (ap (number units) (is_same x above t)))

pub below_at : (units : List KitUnits) → Unbroken units → (a k above class : ℕ) → place_of units a ≡ Some above →
    place_of units k ≡ Some class →
    typed_schema.is_below (class_infos units) a k ≡ is_below units above class
below_at units u a k above class e f =
    let h : class < places units = (place_in units u k class f).1 in
    let same : a ≡ number units above = sym (number_at units u a above e) in
    let climb : Leads (base_of units) (Some class) (lineage units class) =
    subst (Leads (base_of units) (Some class)) (sym (lineage_first units u class)) (refl, bases_lead units u class) in
    ap (list_any (λ c. c == a)) (lineage_at units u k class f)
    ∙ ap (λ n. list_any (λ c. c == n) (map (number units) (lineage units class))) same
    ∙ beneath
    units
    u
    above
    (place_in units u a above e).1
    (Some class)
    (lineage units class)
    (λ c s. let is : class ≡ c = cc in omega (arith, is, h))
    climb
