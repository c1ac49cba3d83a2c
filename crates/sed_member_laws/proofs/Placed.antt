-- The classes of a program by their numbers: which are below which, and on which they are based.
use Rattle.std.proofs.Common.{◌≡◌, ◌<◌, ◌≤◌, ◌==◌, ◌||◌, ℕ, zero, suc, Bool, true, false, nat_lt, List, [], ◌∷◌, length, map, Option, Some, None, refl, sym, ap, ◌∙◌, arith}
use Rattle.std.specs.List.{list_any}
use Rattle.std.specs.Option.{option_and_then, option_map}
use Rattle.std.proofs.lemmas.List.{length-append}
use Rattle.std.proofs.lemmas.Option.{slice_get_past}
use Rattle.std.proofs.lemmas.Bool.Decides.{nat_tests}
use Rattle.sed_typed.specs.declared.number.TypeNo.{TypeNo}
use Rattle.sed_typed.specs.declared.schema.ClassInfo.{ClassInfo}
use Rattle.sed_typed.specs.declared.program.Program.{Program}
use Rattle.sed_typed.specs.Classes as typed
use Rattle.sed_typed.specs.TypedSchema as schemas
use Rattle.sed_classes.specs.declared.kit_units.KitUnits.{KitUnits}
use Rattle.sed_classes.specs.Declarations.{all_classes, declared_in, sys_declares}
use Rattle.sed_classes.specs.Bases.{base_of, is_below, lineage}
use Rattle.sed_classes.specs.Schema.{type_number}
use Rattle.sed_program.specs.Meaning.{base_number, below_number, below_place}
use Rattle.sed_program.specs.Types.{number_of, place_of, type_no}
use Rattle.sed_program.specs.Ordered.{IsOrdered, number, places}
use Rattle.sed_member_laws.proofs.Climbing.{climb}

-- there are classes, those of `sys`
pub some_places : (units : List KitUnits) → 5 ≤ places units
unfolding all_classes
some_places units = omega (arith, length-append sys_declares (declared_in units))

-- a number without a class is behind all
pub no_place : (units : List KitUnits) (program : Program) → IsOrdered units program → (k : ℕ) →
    place_of units k ≡ None →
    length program.schema.classes ≤ k
no_place units program o k e = by_test (nat_lt k (places units)) refl
  where
    clash : (c : ℕ) → place_of units k ≡ Some c → length program.schema.classes ≤ k
    clash c s = cc

    by_test : (b : Bool) → nat_lt k (places units) ≡ b → length program.schema.classes ≤ k
    by_test true h = let found = o.placed k (grind (arith, nat_tests)) in clash found.0 found.1
    by_test false h = let past : places units ≤ k = grind (arith, nat_tests) in omega (arith, past, o.infos_len)

pub base_past : (classes : List ClassInfo) (k : ℕ) → length classes ≤ k → typed.base_of classes k ≡ None
base_past classes k le = ap (option_and_then (λ (info : ClassInfo). option_map (λ (b : TypeNo). b.0) info.base))
    (slice_get_past classes k le)

-- ---- bases

pub base_agrees : (units : List KitUnits) (program : Program) → IsOrdered units program → (k : ℕ) →
    option_map (λ (t : TypeNo). t.0) (base_number units k) ≡ typed.base_of program.schema.classes k
base_agrees units program o k = by_place (place_of units k) refl
  where
    plain : (n : Option ℕ) → option_map (λ (t : TypeNo). t.0) (option_map type_no n) ≡ n
    plain None = refl
    plain (Some n) = refl

    based : (b : Option ℕ) → option_map (λ (t : TypeNo). t.0) (option_and_then (number_of units) b)
        ≡ option_and_then (type_number units) b
    based None = refl
    based (Some b) = plain (type_number units b)

    by_place : (p : Option ℕ) → place_of units k ≡ p →
        option_map (λ (t : TypeNo). t.0) (option_and_then (λ c. option_and_then (number_of units) (base_of units c)) p)
        ≡ typed.base_of program.schema.classes k
    by_place None e = sym (base_past program.schema.classes k (no_place units program o k e))
    by_place (Some c) e = based (base_of units c) ∙ sym (o.base_at k c e)

-- ---- below

-- each class is first in its own lineage
reached_first : (next : ℕ → Option ℕ) (n k : ℕ) → 1 ≤ n → (rest : List ℕ) × (typed.reached next n (Some k) ≡ k ∷ rest)
reached_first next zero k h = absurd (omega (arith, h))
reached_first next (suc n) k h = (typed.reached next n (next k), refl)

below_itself : (units : List KitUnits) (program : Program) → IsOrdered units program → (above k : ℕ) →
    (above == k) ≡ true →
    schemas.is_below program.schema.classes above k ≡ true
below_itself units program o above k e =
    let first = reached_first (typed.base_of program.schema.classes) (length program.schema.classes) k (omega
    (arith, o.infos_len, some_places units)) in
    let turned : (k == above) ≡ true = grind (arith, nat_tests) in
    ap (list_any (λ c. c == above)) first.1 ∙ ap (λ b. b || list_any (λ c. c == above) first.0) turned

reached_alone : (next : ℕ → Option ℕ) (n k : ℕ) → 1 ≤ n → next k ≡ None → typed.reached next n (Some k) ≡ k ∷ []
reached_alone next zero k h e = absurd (omega (arith, h))
reached_alone next (suc n) k h e = ap (λ o. k ∷ typed.reached next n o) e ∙ by_steps n
  where
    by_steps : (n : ℕ) → k ∷ typed.reached next n None ≡ k ∷ []
    by_steps zero = refl
    by_steps (suc n) = refl

below_past : (units : List KitUnits) (program : Program) → IsOrdered units program → (above k : ℕ) →
    place_of units k ≡ None → (above == k) ≡ false →
    schemas.is_below program.schema.classes above k ≡ false
below_past units program o above k e n =
    let turned : (k == above) ≡ false = grind (arith, nat_tests) in
    ap
    (list_any (λ c. c == above))
    (reached_alone
    (typed.base_of program.schema.classes)
    (length program.schema.classes)
    k
    (omega (arith, o.infos_len, some_places units))
    (base_past program.schema.classes k (no_place units program o k e)))
    ∙ ap (λ b. b || false) turned

-- no class of a lineage has a number without a class
apart : (units : List KitUnits) (program : Program) → IsOrdered units program → (above b : ℕ) →
    place_of units above ≡ None → b < places units →
    (number units b == above) ≡ false
apart units program o above b e h = by_test (number units b == above) refl
  where
    by_test : (t : Bool) → (number units b == above) ≡ t → (number units b == above) ≡ false
    by_test true t =
        let same : number units b ≡ above = grind (arith, nat_tests) in
        let clash : Some b ≡ None = sym (o.place_is b h) ∙ ap (place_of units) same ∙ e in
        cc
    by_test false t = t

below_none : (units : List KitUnits) (program : Program) → IsOrdered units program → (above : ℕ) →
    place_of units above ≡ None → (c : ℕ) → c < places units →
    list_any (λ k. k == above) (map (number units) (lineage units c)) ≡ false
below_none units program o above e c =
    climb
    units
    program
    o
    (λ b. b < places units → list_any (λ k. k == above) (map (number units) (lineage units b)) ≡ false)
    (λ b s h.
    ap (λ cs. list_any (λ k. k == above) (map (number units) cs)) (o.lineage_one b s)
    ∙ ap (λ t. t || false) (apart units program o above b e h))
    (λ b a s later h.
    ap (λ cs. list_any (λ k. k == above) (map (number units) cs)) (o.lineage_cons b a s)
    ∙ ap (λ t. t || list_any (λ k. k == above) (map (number units) (lineage units a)))
    (apart units program o above b e h)
    ∙ later (o.base_in b a s))
    c

pub below_agrees : (units : List KitUnits) (program : Program) → IsOrdered units program → (above k : ℕ) →
    below_number units above k ≡ schemas.is_below program.schema.classes above k
below_agrees units program o above k = by_test (above == k) refl
  where
    by_places : (p q : Option ℕ) → place_of units above ≡ p → place_of units k ≡ q → (above == k) ≡ false →
        below_place units p q ≡ schemas.is_below program.schema.classes above k
    by_places (Some a) (Some c) s t n = sym (o.below_at above a k c s t)
    by_places None (Some c) s t n =
        sym (ap (list_any (λ b. b == above)) (o.lineage_at k c t)
        ∙ below_none units program o above s c (o.place_in k c t).1)
    by_places (Some a) None s t n = sym (below_past units program o above k t n)
    by_places None None s t n = sym (below_past units program o above k t n)

    by_test : (b : Bool) → (above == k) ≡ b → (b || below_place units (place_of units above) (place_of units k))
        ≡ schemas.is_below program.schema.classes above k
    by_test true e = sym (below_itself units program o above k e)
    by_test false e = by_places (place_of units above) (place_of units k) refl refl e
