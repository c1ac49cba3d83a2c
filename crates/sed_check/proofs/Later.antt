-- A fault of what is declared is the first of all, where no fault of a body comes before it.
use Rattle.std.proofs.Common.{◌≡◌, ◌<◌, ◌≤◌, ◌+◌, ◌-◌, ◌==◌, ◌&&◌, ◌||◌, ℕ, zero, suc, Bool, true, false, nat_lt, if◌then◌else◌, List, [], ◌∷◌, ◌++◌, filter, length, map, get_or, Option, Some, None, IfSome, refl, sym, ap, ◌∙◌, subst, arith}
use Rattle.std.specs.List.{enumerate_from, flat_map, list_all, range_with_len}
use Rattle.std.specs.Option.{option_map_or}
use Rattle.std.proofs.lemmas.Bool.Decides.{nat_tests}
use Rattle.std.proofs.lemmas.List.Concat.{flat_map-append}
use Rattle.std.proofs.lemmas.List.FromFn.{get_or-range_with_len, length-range_with_len}
use Rattle.std.proofs.lemmas.List.Sums.{AllPass-from_list_all}
use Rattle.std.proofs.lemmas.Option.{slice_get_within}
use Rattle.sed_units.specs.Tree.{Tree}
use Rattle.sed_units.specs.declared.classes.Member.{Member}
use Rattle.sed_faults.specs.declared.fault.Fault.{Fault}
use Rattle.sed_terms.specs.Faults.{all_faults}
use Rattle.sed_classes.specs.declared.kit_units.KitUnits.{KitUnits}
use Rattle.sed_classes.specs.declared.source_type.PlacedFault.{PlacedFault}
use Rattle.sed_classes.specs.Declarations.{Declaration, all_classes, class_at}
use Rattle.sed_classes.specs.Faults.{by, first_of, is_before, placed_in}
use Rattle.sed_classes.specs.Members.{form_body, form_params, is_method, members_of}
use Rattle.sed_classes.specs.Schema.{class_order}
use Rattle.sed_first_fault.specs.Faults.{cycle_faults, declared_faults}
use Rattle.sed_first_fault.specs.Parts.{lesser}
use Rattle.sed_first_fault.proofs.Together.{together}
use Rattle.sed_program.specs.Meaning.{names_of}
use Rattle.sed_program.specs.Methods.{MethodAt, methods_in, methods_of}
use Rattle.sed_statements.specs.Methods.{judge_method, judge_params}
use Rattle.sed_member_laws.proofs.Flat.{some_is}
use Rattle.sed_check.specs.Bodies.{body_faults, enclosing_of, faults_in, faults_of_form, method_faults}
use Rattle.sed_check.specs.Checked.{first_fault}
use Rattle.sed_check.specs.Judgements.{method_at}
use Rattle.sed_check.specs.Settled.{is_bare, is_behind, is_blank, is_silent, is_silent_at, settles}
use Rattle.sed_check.proofs.Kept.{Each}

both : (a b : Bool) → (a && b) ≡ true → (a ≡ true) × (b ≡ true)
both true b e = (refl, e)
both false b e = cc

-- ---- what stands in a later text comes later

-- the one fault is before the other, and not the other way round
abbrev Follows : PlacedFault → PlacedFault → Type 0
Follows f g = (is_before g f ≡ false) × (is_before f g ≡ true)

later_by : (a b : ℕ) (n m : Bool) → nat_lt a b ≡ true → (by b a n ≡ false) × (by a b m ≡ true)
later_by a b n m h =
    let back : nat_lt b a ≡ false = grind (arith, nat_tests) in
    let other : (b == a) ≡ false = grind (arith, nat_tests) in
    (ap (λ t. t || ((b == a) && n)) back ∙ ap (λ t. t && n) other, ap (λ t. t || ((a == b) && m)) h)

same_by : (a b : ℕ) (n m : Bool) → (a == b) ≡ true → n ≡ false → m ≡ true → (by b a n ≡ false) × (by a b m ≡ true)
same_by a b true m h p q = cc
same_by a b false false h p q = cc
same_by a b false true h p q = (grind (arith, nat_tests), grind (arith, nat_tests))

-- by place and rule, and by text before them
abbrev places : PlacedFault → PlacedFault → Bool
places a b = by a.at b.at (nat_lt a.rule b.rule)

abbrev texts : PlacedFault → PlacedFault → Bool
texts a b = by a.text b.text (places a b)

follows : (f : PlacedFault) (d : Declaration) (x : Fault) → is_behind f d ≡ true → Follows f (placed_in d x)
follows f d x h = by_kit (nat_lt f.kit d.kit) refl h
  where
    by_kit : (b : Bool) → nat_lt f.kit d.kit ≡ b → (b || ((f.kit == d.kit) && nat_lt f.text d.text)) ≡ true →
        Follows f (placed_in d x)
    by_kit true e t = later_by f.kit d.kit (texts (placed_in d x) f) (texts f (placed_in d x)) e
    by_kit false e t =
        let parts = both (f.kit == d.kit) (nat_lt f.text d.text) t in
        let inner = later_by f.text d.text (places (placed_in d x) f) (places f (placed_in d x)) parts.1 in
        same_by f.kit d.kit (texts (placed_in d x) f) (texts f (placed_in d x)) parts.0 inner.0 inner.1

-- each of a row of faults comes later
abbrev Quiet : PlacedFault → List PlacedFault → Type 0
Quiet f [] = Unit {0}
Quiet f (g ∷ gs) = Follows f g × Quiet f gs

quiet_both : (f : PlacedFault) (xs ys : List PlacedFault) → Quiet f xs → Quiet f ys → Quiet f (xs ++ ys)
quiet_both f [] ys h k = k
quiet_both f (x ∷ xs) ys h k = (h.0, quiet_both f xs ys h.1 k)

quiet_later : (f : PlacedFault) (d : Declaration) → is_behind f d ≡ true → (xs : List Fault) →
    Quiet f (map (placed_in d) xs)
quiet_later f d h [] = tt
quiet_later f d h (x ∷ xs) = (follows f d x h, quiet_later f d h xs)

-- ---- a method without parameters in whose body nothing stands

empty : {X : Type 0} (xs : List X) → (length xs == 0) ≡ true → xs ≡ []
empty [] e = refl
empty (x ∷ xs) e = let some : (suc (length xs) == 0) ≡ false = grind arith in cc

faultless : (units : List KitUnits) (e : MethodAt) (body : Option (List Tree)) → is_blank body ≡ true →
    form_params e.owned.member.form ≡ [] → faults_of_form units e body ≡ []
faultless units e None t p =
    ap (λ ps. faults_in (judge_params all_faults (names_of units e.owned.kit) (enclosing_of units e) ps)) p
faultless units e (Some all) t p =
    ap (λ ps. faults_in (judge_method all_faults (names_of units e.owned.kit) (enclosing_of units e) ps all)) p
    ∙ ap (λ ts. faults_in (judge_method all_faults (names_of units e.owned.kit) (enclosing_of units e) [] ts))
    (empty all t)

bare_faultless : (units : List KitUnits) (e : MethodAt) → is_bare e.owned.member ≡ true →
    faults_of_form units e (form_body e.owned.member.form) ≡ []
bare_faultless units e t =
    let parts = both (length (form_params e.owned.member.form) == 0) (is_blank (form_body e.owned.member.form)) t in
    faultless
    units
    e
    (form_body e.owned.member.form)
    parts.1
    (empty (form_params e.owned.member.form) parts.0)

-- ---- the methods of a class

-- the faults of one of them come later
abbrev QuietMethod : List KitUnits → PlacedFault → ℕ → ℕ → Member → Type 0
QuietMethod units f n c m = Quiet f (method_faults units (method_at units n c m))

-- and those of all methods among some members
abbrev faults_among : List KitUnits → ℕ → ℕ → List Member → List PlacedFault
faults_among units n c ms = flat_map (method_faults units) (map (method_at units n c) (filter is_method ms))

among : (units : List KitUnits) (f : PlacedFault) (n c : ℕ) (ms : List Member) → Each (QuietMethod units f n c) ms →
    Quiet f (faults_among units n c ms)
among units f n c [] h = tt
among units f n c (m ∷ ms) h = by_kind (is_method m) (among units f n c ms h.1)
  where
    by_kind : (b : Bool) → Quiet f (faults_among units n c ms) →
        Quiet f (flat_map (method_faults units) (map (method_at units n c) (if b then m ∷ filter is_method ms
        else filter is_method ms)))
    by_kind false rest = rest
    by_kind true rest =
        quiet_both f (method_faults units (method_at units n c m)) (faults_among units n c ms) h.0 rest

placed : (units : List KitUnits) (n c : ℕ) (d : Declaration) (m : Member) → class_at units c ≡ Some d →
    method_faults units (method_at units n c m)
    ≡ map (placed_in d) (faults_of_form units (method_at units n c m) (form_body m.form))
placed units n c d m e =
    ap
    (λ (o : Option Declaration). option_map_or (λ (x : Declaration). map (placed_in x) (faults_of_form units
    (method_at units n c m) (form_body m.form))) o [])
    e

all_later : (units : List KitUnits) (f : PlacedFault) (n c : ℕ) (d : Declaration) → class_at units c ≡ Some d →
    is_behind f d ≡ true → (ms : List Member) → Each (QuietMethod units f n c) ms
all_later units f n c d e h [] = tt
all_later units f n c d e h (m ∷ ms) = (
  subst (Quiet f) (sym (placed units n c d m e)) (quiet_later f d h (faults_of_form units (method_at units n c m)
      (form_body m.form))),
  all_later units f n c d e h ms,
)

all_bare : (units : List KitUnits) (f : PlacedFault) (n c : ℕ) (d : Declaration) → class_at units c ≡ Some d →
    (ms : List Member) → list_all is_bare ms ≡ true → Each (QuietMethod units f n c) ms
all_bare units f n c d e [] t = tt
all_bare units f n c d e (m ∷ ms) t =
    let parts = both (is_bare m) (list_all is_bare ms) t in (
      subst (Quiet f) (sym (placed units n c d m e ∙ ap (map (placed_in d)) (bare_faultless units
          (method_at units n c m) parts.0))) tt,
      all_bare units f n c d e ms parts.1,
    )

silent : (units : List KitUnits) (f : PlacedFault) (n c : ℕ) (d : Declaration) → class_at units c ≡ Some d →
    is_silent f d ≡ true → Quiet f (faults_among units n c d.class.members)
silent units f n c d e t = among units f n c d.class.members (by_test (is_behind f d) refl t)
  where
    by_test : (b : Bool) → is_behind f d ≡ b → (b || list_all is_bare d.class.members) ≡ true →
        Each (QuietMethod units f n c) d.class.members
    by_test true s t = all_later units f n c d e s d.class.members
    by_test false s t = all_bare units f n c d e d.class.members t

-- ---- all classes

silent_there : (units : List KitUnits) (f : PlacedFault) → settles units f ≡ true → (c : ℕ) (d : Declaration) →
    5 ≤ c → class_at units c ≡ Some d → is_silent f d ≡ true
silent_there units f h c d le e =
    let within : c < length (all_classes units) = slice_get_within (all_classes units) c d e in
    let inside : c - 5 < length (all_classes units) - 5 = omega (arith, within, le) in
    let there : c - 5 < length (range_with_len 5 (length (all_classes units) - 5)) =
    omega (arith, inside, length-range_with_len 5 (length (all_classes units) - 5)) in
    let passed : is_silent_at units f (get_or (range_with_len 5 (length (all_classes units) - 5)) (c - 5) 0) ≡ true =
    AllPass-from_list_all
    (is_silent_at units f)
    (range_with_len 5 (length (all_classes units) - 5))
    h
    (c - 5)
    0
    there in
    let back : 5 + (c - 5) ≡ c = omega (arith, le) in
    let at : get_or (range_with_len 5 (length (all_classes units) - 5)) (c - 5) 0 ≡ c =
    get_or-range_with_len 5 (length (all_classes units) - 5) (c - 5) 0 inside ∙ back in
    sym (ap (λ (o : Option Declaration). option_map_or (is_silent f) o true) e)
    ∙ sym (ap (is_silent_at units f) at)
    ∙ passed

declared : (units : List KitUnits) (f : PlacedFault) → settles units f ≡ true → (n c : ℕ) → 5 ≤ c →
    Quiet f (faults_among units n c (members_of units c))
declared units f h n c le = by_class (class_at units c) refl
  where
    by_class : (o : Option Declaration) → class_at units c ≡ o → Quiet f (faults_among units n c (members_of units c))
    by_class None e =
        subst
        (λ ms. Quiet f (faults_among units n c ms))
        (sym (ap (λ (o : Option Declaration). option_map_or (λ (d : Declaration). d.class.members) o []) e))
        tt
    by_class (Some d) e =
        subst
        (λ ms. Quiet f (faults_among units n c ms))
        (sym (ap (λ (o : Option Declaration). option_map_or (λ (d : Declaration). d.class.members) o []) e))
        (silent units f n c d e (silent_there units f h c d le e))

-- those of `sys` have no faults
quiet_class : (units : List KitUnits) (f : PlacedFault) → settles units f ≡ true → (n c : ℕ) →
    Quiet f (faults_among units n c (members_of units c))
unfolding all_classes
quiet_class units f h n zero = tt
quiet_class units f h n (suc zero) = tt
quiet_class units f h n (suc (suc zero)) = tt
quiet_class units f h n (suc (suc (suc zero))) = tt
quiet_class units f h n (suc (suc (suc (suc zero)))) = tt
quiet_class units f h n (suc (suc (suc (suc (suc i))))) =
    let same : 5 + i ≡ suc (suc (suc (suc (suc i)))) = omega arith in
    subst
    (λ c. Quiet f (faults_among units n c (members_of units c)))
    same
    (declared units f h n (5 + i) (omega arith))

quiet_rows : (units : List KitUnits) (f : PlacedFault) → settles units f ≡ true → (ps : List (ℕ × ℕ)) →
    Quiet f (flat_map (method_faults units) (flat_map (methods_in units) ps))
quiet_rows units f h [] = tt
quiet_rows units f h (p ∷ ps) =
    subst
    (Quiet f)
    (sym (flat_map-append (method_faults units) (methods_in units p) (flat_map (methods_in units) ps)))
    (quiet_both
    f
    (flat_map (method_faults units) (methods_in units p))
    (flat_map (method_faults units) (flat_map (methods_in units) ps))
    (quiet_class units f h p.0 p.1)
    (quiet_rows units f h ps))

quiet_bodies : (units : List KitUnits) (f : PlacedFault) → settles units f ≡ true → Quiet f (body_faults units)
quiet_bodies units f h = quiet_rows units f h (enumerate_from 0 (class_order units))

-- ---- the first of all

lesser_follows : (f x : PlacedFault) (o : Option PlacedFault) → Follows f x → IfSome o (Follows f) →
    IfSome (lesser (Some x) o) (Follows f)
lesser_follows f x None h k = h
lesser_follows f x (Some g) h k = by_test (is_before g x)
  where
    by_test : (b : Bool) → Follows f (if b then g else x)
    by_test true = k
    by_test false = h

first_follows : (f : PlacedFault) (xs : List PlacedFault) → Quiet f xs → IfSome (first_of xs) (Follows f)
first_follows f [] h = tt
first_follows f (x ∷ xs) h =
    subst
    (λ o. IfSome o (Follows f))
    (sym (together (x ∷ []) xs))
    (lesser_follows f x (first_of xs) h.0 (first_follows f xs h.1))

-- between two that may be there stands what comes behind the lesser one
between : (a b c : Option PlacedFault) (f : PlacedFault) → lesser a c ≡ Some f → IfSome b (Follows f) →
    lesser (lesser a b) c ≡ Some f
between None None c f e h = e
between None (Some g) None f e h = cc
between None (Some g) (Some k) f e h =
    let same : k ≡ f = some_is k f e in
    ap (λ t. Some (if t then k else g)) (ap (λ z. is_before z g) same ∙ h.1) ∙ e
between (Some x) None c f e h = e
between (Some x) (Some g) None f e h =
    let same : x ≡ f = some_is x f e in
    ap (λ t. Some (if t then g else x)) (ap (is_before g) same ∙ h.0) ∙ e
between (Some x) (Some g) (Some k) f e h = by_tests (is_before k x) (is_before g x) refl refl e
  where
    by_tests : (s t : Bool) → is_before k x ≡ s → is_before g x ≡ t → Some (if s then k else x) ≡ Some f →
        lesser (Some (if t then g else x)) (Some k) ≡ Some f
    by_tests true true p q e =
        let same : k ≡ f = some_is k f e in
        ap (λ u. Some (if u then k else g)) (ap (λ z. is_before z g) same ∙ h.1) ∙ e
    by_tests true false p q e = ap (λ u. Some (if u then k else x)) p ∙ e
    by_tests false true p q e =
        let same : x ≡ f = some_is x f e in
        let clash : true ≡ false = sym q ∙ ap (is_before g) same ∙ h.0 in
        cc
    by_tests false false p q e = ap (λ u. Some (if u then k else x)) p ∙ e

pub settled_first : (units : List KitUnits) (cycles : Bool) (f : PlacedFault) →
    first_of (declared_faults units ++ cycle_faults units cycles) ≡ Some f → settles units f ≡ true →
    first_fault units cycles ≡ Some f
settled_first units cycles f e h =
    together (declared_faults units ++ body_faults units) (cycle_faults units cycles)
    ∙ ap (λ o. lesser o (first_of (cycle_faults units cycles))) (together (declared_faults units) (body_faults units))
    ∙ between
    (first_of (declared_faults units))
    (first_of (body_faults units))
    (first_of (cycle_faults units cycles))
    f
    (sym (together (declared_faults units) (cycle_faults units cycles)) ∙ e)
    (first_follows f (body_faults units) (quiet_bodies units f h))
