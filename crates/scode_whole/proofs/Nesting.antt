-- Objects stand inside one another at most as deep as there are classes.
use Rattle.std.proofs.Common.{◌≡◌, ◌<◌, ◌≤◌, ◌+◌, ◌==◌, ◌&&◌, ◌||◌, not, ℕ, zero, suc, Bool, true, false, List, [], ◌∷◌, length, Option, Some, None, refl, sym, ap, subst, ◌∙◌, arith, eqb}
use Rattle.std.specs.Prelude.{slice_get}
use Rattle.std.specs.List.{list_any, AllByRecursion, IsDistinct}
use Rattle.std.specs.Option.{option_map_or}
use Rattle.std.proofs.lemmas.Bool.{eqb-true, ltb-true}
use Rattle.std.proofs.lemmas.Bool.Decides.{nat_tests}
use Rattle.std.proofs.lemmas.Map.Steps.{length-le_from_distinct_below}
use Rattle.scode_image.specs.declared.image.Image.{Image}
use Rattle.scode_image.specs.declared.image.ImageClass.{ImageClass}
use Rattle.scode_image.specs.declared.image.ImageField.{ImageField}
use Rattle.scode_code.specs.TableRules as rule
use Rattle.scode_code.specs.Tables.{class_fields}
use Rattle.scode_whole.proofs.Bases.{fields_at}
use Rattle.scode_whole.proofs.Rule.{Agrees, class_agrees}
use Rattle.scode_whole.proofs.Truths.{no_truth, no_value, same_value, passes}

pub equal : (a b : ℕ) → a ≡ b → (a == b) ≡ true
equal a b e = grind (arith, nat_tests, e)

or_right : (a b : Bool) → b ≡ true → (a || b) ≡ true
or_right true b h = refl
or_right false b h = h

-- an object of the one class holds one of the other in a field
pub record Holds (image : Image) (class held : ℕ) : Type 0 where
  pub place : ℕ
  pub field : ImageField
  pub stands : slice_get (class_fields image class) place ≡ Some field
  pub object : (field.form == 8) ≡ true
  pub is : field.n ≡ held

-- through so many fields
abbrev pub Reaches : Image → ℕ → ℕ → ℕ → Type 0
Reaches image zero from to = from ≡ to
Reaches image (suc n) from to = (next : ℕ) × Holds image from next × Reaches image n next to

pub reaches_on : (image : Image) (n from to further : ℕ) → Reaches image n from to → Holds image to further
    → Reaches image (suc n) from further
reaches_on image zero from to further r h = (further, subst (λ (k : ℕ). Holds image k further) (sym r) h, refl)
reaches_on image (suc n) from to further r h = (r.0, r.1, reaches_on image n r.0 to further r.2 h)

any_there : (test : ImageField → Bool) (all : List ImageField) (i : ℕ) (f : ImageField) → slice_get all i ≡ Some f
    → test f ≡ true → list_any test all ≡ true
any_there test [] i f e h = no_value f e
any_there test (g ∷ gs) zero f e h =
    ap (λ (b : Bool). b || list_any test gs) (ap test (same_value g f e) ∙ h)
any_there test (g ∷ gs) (suc i) f e h = or_right (test g) (list_any test gs) (any_there test gs i f e h)

or_first : (a b c : Bool) → a ≡ true → ((a || b) || c) ≡ true
or_first true b c h = refl
or_first false b c h = no_truth h

or_second : (a b c : Bool) → b ≡ true → ((a || b) || c) ≡ true
or_second true b c h = refl
or_second false true c h = refl
or_second false false c h = no_truth h

reaches_leads : (image : Image) (n k from to : ℕ) → n ≤ k → Reaches image n from to
    → rule.leads_within k image to from ≡ true
reaches_leads image zero zero from to h r = equal from to r
reaches_leads image zero (suc k) from to h r =
    or_first (from == to)
    (list_any (λ (f : ImageField). (f.form == 8) && rule.leads_within k image to f.n) (class_fields image from))
    (option_map_or (λ (c : ImageClass). rule.leads_within k image to c.base) (slice_get image.classes from) false)
    (equal from to r)
reaches_leads image (suc n) zero from to h r = absurd (omega (arith, h))
reaches_leads image (suc n) (suc k) from to h r =
    let rest : rule.leads_within k image to r.0 ≡ true = reaches_leads image n k r.0 to (omega (arith, h)) r.2 in
    let one = r.1 in
    let there : rule.leads_within k image to one.field.n ≡ true =
    subst (λ (c : ℕ). rule.leads_within k image to c ≡ true) (sym one.is) rest in
    or_second (from == to)
    (list_any (λ (f : ImageField). (f.form == 8) && rule.leads_within k image to f.n) (class_fields image from))
    (option_map_or (λ (c : ImageClass). rule.leads_within k image to c.base) (slice_get image.classes from) false)
    (any_there (λ (f : ImageField). (f.form == 8) && rule.leads_within k image to f.n) (class_fields image from)
    one.place one.field one.stands (ap (λ (b : Bool). b && rule.leads_within k image to one.field.n) one.object ∙
    there))

-- no class reaches itself
pub not_itself : (image : Image) → Agrees image → (class n : ℕ) → n ≤ length image.classes
    → Reaches image (suc n) class class → ⊥
not_itself image is class n few r = by_class (slice_get image.classes class) refl
  where
    by_class : (o : Option ImageClass) → slice_get image.classes class ≡ o → ⊥
    by_class None e =
        no_value r.1.field
        (sym (ap (λ (p : Option ImageClass). slice_get (option_map_or (λ (d : ImageClass). d.fields) p []) r.1.place) e)
        ∙ r.1.stands)
    by_class (Some c) e =
        let at : slice_get c.fields r.1.place ≡ Some r.1.field =
        sym (ap (λ (all : List ImageField). slice_get all r.1.place) (fields_at image class c e)) ∙ r.1.stands in
        let test : (not (r.1.field.form == 8) || not (rule.leads_to image r.1.field.n class)) ≡ true =
        passes (λ (f : ImageField). not (f.form == 8) || not (rule.leads_to image f.n class)) c.fields r.1.place
        r.1.field (class_agrees image is class c e).holders at in
        let leads : rule.leads_to image r.1.field.n class ≡ true =
        subst (λ (k : ℕ). rule.leads_to image k class ≡ true) (sym r.1.is)
        (reaches_leads image n (length image.classes) r.0 class few r.2) in
        never (r.1.field.form == 8) (rule.leads_to image r.1.field.n class) r.1.object leads test
      where
        never : (a b : Bool) → a ≡ true → b ≡ true → (not a || not b) ≡ true → ⊥
        never true true x y h = no_truth h
        never true false x y h = no_truth y
        never false b x y h = no_truth x

-- ---- a chain of classes, each of which holds the one before it in the list

abbrev pub Chain : Image → ℕ → ℕ → List ℕ → Type 0
Chain image n class [] = Unit {0}
Chain image n class (c ∷ cs) = Reaches image (suc n) c class × Chain image (suc n) class cs

chain_on : (image : Image) (n class held : ℕ) (cs : List ℕ) → Chain image n class cs → Holds image class held
    → Chain image (suc n) held cs
chain_on image n class held [] h g = tt
chain_on image n class held (c ∷ cs) h g =
    (reaches_on image (suc n) c class held h.0 g, chain_on image (suc n) class held cs h.1 g)

chain_next : (image : Image) (class held : ℕ) (cs : List ℕ) → Chain image 0 class cs → Holds image class held
    → Chain image 0 held (class ∷ cs)
chain_next image class held cs h g = ((held, g, refl), chain_on image 0 class held cs h g)

-- a class is none of those before it
chain_fresh : (image : Image) → Agrees image → (n class : ℕ) (cs : List ℕ) → n + length cs ≤ suc (length image.classes)
    → Chain image n class cs → AllByRecursion (λ c. eqb class c ≡ false) cs
chain_fresh image is n class [] few h = tt
chain_fresh image is n class (c ∷ cs) few h =
    (by_test (eqb class c) refl, chain_fresh image is (suc n) class cs (omega (arith, few)) h.1)
  where
    by_test : (b : Bool) → eqb class c ≡ b → b ≡ false
    by_test false e = refl
    by_test true e =
        let same : class ≡ c = eqb-true class c e in
        absurd (not_itself image is c n (omega (arith, few))
        (subst (λ (k : ℕ). Reaches image (suc n) c k) same h.0))

-- objects stand in one of this class at most so deep
abbrev pub Nested : Image → ℕ → ℕ → Type 0
Nested image zero class = ⊥
Nested image (suc n) class = (held : ℕ) → Holds image class held → Nested image n held

held_there : (image : Image) → Agrees image → (class held : ℕ) → Holds image class held → held < length image.classes
held_there image is class held g = by_class (slice_get image.classes class) refl
  where
    asked : (a b : Bool) → a ≡ true → (not a || b) ≡ true → b ≡ true
    asked true b e h = h
    asked false b e h = no_truth e

    by_class : (o : Option ImageClass) → slice_get image.classes class ≡ o → held < length image.classes
    by_class None e =
        no_value g.field
        (sym (ap (λ (p : Option ImageClass). slice_get (option_map_or (λ (d : ImageClass). d.fields) p []) g.place) e)
        ∙ g.stands)
    by_class (Some c) e =
        let at : slice_get c.fields g.place ≡ Some g.field =
        sym (ap (λ (all : List ImageField). slice_get all g.place) (fields_at image class c e)) ∙ g.stands in
        let test : (not (g.field.form == 8) || rule.has_class image g.field.n) ≡ true =
        passes (λ (f : ImageField). not (f.form == 8) || rule.has_class image f.n) c.fields g.place g.field
        (class_agrees image is class c e).fields.are_there at in
        let known : g.field.n < length image.classes =
        ltb-true g.field.n (length image.classes)
        (asked (g.field.form == 8) (rule.has_class image g.field.n) g.object test) in
        subst (λ (k : ℕ). k < length image.classes) g.is known

-- those of a list are below a number
abbrev AllBelow : ℕ → List ℕ → Type 0
AllBelow n [] = Unit {0}
AllBelow n (c ∷ cs) = (c < n) × AllBelow n cs

below_each : (n : ℕ) (cs : List ℕ) → AllBelow n cs → (q : ℕ) → list_any (eqb q) cs ≡ true → q < n
below_each n [] h q e = no_truth e
below_each n (c ∷ cs) h q e = by_test (eqb q c) refl (below_each n cs h.1 q) e
  where
    by_test : (b : Bool) → eqb q c ≡ b → (list_any (eqb q) cs ≡ true → q < n) → (b || list_any (eqb q) cs) ≡ true
        → q < n
    by_test true is later e = let same : q ≡ c = eqb-true q c is in let low : c < n = h.0 in omega (arith, same, low)
    by_test false is later e = later e

nested : (image : Image) → Agrees image → (n class : ℕ) (cs : List ℕ) → n + length cs ≡ length image.classes
    → Chain image 0 class cs → IsDistinct eqb (class ∷ cs) → AllBelow (length image.classes) (class ∷ cs)
    → Nested image n class
unfolding IsDistinct
nested image is zero class cs all chain apart low =
    let few = length-le_from_distinct_below (class ∷ cs) (length image.classes) apart
    (below_each (length image.classes) (class ∷ cs) low) in
    omega (arith, few, all)
nested image is (suc n) class cs all chain apart low =
    λ held g.
    let more : Chain image 0 held (class ∷ cs) = chain_next image class held cs chain g in
    nested image is n held (class ∷ cs) (omega (arith, all)) more
    (chain_fresh image is 0 held (class ∷ cs) (omega (arith, all)) more, apart)
    (held_there image is class held g, low)

pub all_nested : (image : Image) → Agrees image → (class : ℕ) → class < length image.classes
    → Nested image (length image.classes) class
unfolding IsDistinct
all_nested image is class low =
    nested image is (length image.classes) class [] (omega arith) tt (tt, tt) (low, tt)
