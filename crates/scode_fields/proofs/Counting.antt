-- How many methods a class declares, and how many classes there are at most.
use Rattle.std.proofs.Common.{◌≡◌, ℕ, zero, suc, ◌+◌, ◌*◌, ◌<◌, ◌≤◌, ◌==◌, nat_le, nat_lt, Bool, true, false, cond, List, [], ◌∷◌, ◌++◌, length, get_or, take, set, filter, refl, ap, sym, ◌∙◌, arith, ◌⊎◌, inl, inr}
use Rattle.std.specs.List.{list_all}
use Rattle.std.proofs.Math.ListN.{length-set}
use Rattle.std.proofs.lemmas.Bool.{and_parts, cases_Bool, cases_eq, cases_lt, cases_order, eq-eqb, le-ltb, leb-true, lt-ltb, ne_eqb}
use Rattle.std.proofs.lemmas.List.{get_or-set_other, get_or-set_same, get_or_past, length-map, length-take, take_more}
use Rattle.scode_image.specs.declared.image.Image.{Image}
use Rattle.scode_image.specs.declared.image.ImageClass.{ImageClass}
use Rattle.scode_image.specs.declared.image.ImageMethod.{ImageMethod}
use Rattle.scode_code.specs.TableRules.{keeps_limits, numbers_in_kit}
use Rattle.scode_fields.specs.Stages.{kits_are_there}
use Rattle.scode_fields.proofs.Apart.{free_at}

one_kept : {A : Type 0} (b : Bool) (x : A) (xs : List A) → length (cond b (x ∷ xs) xs) ≡ cond {A = ℕ} b 1 0 + length xs
one_kept true x xs = omega arith
one_kept false x xs = omega arith

kept_push : {A : Type 0} (p : A → Bool) (xs : List A) (x : A)
    → length (filter p (xs ++ x ∷ [])) ≡ length (filter p xs) + cond {A = ℕ} (p x) 1 0
kept_push p [] x = one_kept (p x) x [] ∙ (let w : cond {A = ℕ} (p x) 1 0 + 0 ≡ 0 + cond {A = ℕ}
    (p x) 1 0 = omega arith in w)
kept_push p (y ∷ ys) x =
    let e = kept_push p ys x in
    let a = one_kept (p y) y (filter p (ys ++ x ∷ [])) in
    let b = one_kept (p y) y (filter p ys) in
    omega (arith, e, a, b)

kept_few : {A : Type 0} (p : A → Bool) (xs : List A) → length (filter p xs) ≤ length xs
kept_few p [] = omega arith
kept_few p (x ∷ xs) =
    let a = one_kept (p x) x (filter p xs) in
    let few = kept_few p xs in
    elim (cases_Bool (p x)) [
      | inl is ↦ (let one : ◌≡◌ {A = ℕ} (cond (p x) 1 0) 1 = ap (λ (b : Bool). cond {A = ℕ} b 1 0) is in omega
          (arith, a, one, few))
      | inr is ↦ (let none : ◌≡◌ {A = ℕ} (cond (p x) 1 0) 0 = ap (λ (b : Bool). cond {A = ℕ} b 1 0) is in omega
          (arith, a, none, few))
    ]

-- ---- methods

-- how many of the first so many methods a class declares
abbrev pub declared_by : List ImageMethod → ℕ → ℕ → ℕ
declared_by methods k class = length (filter (λ m. m.class == class) (take k methods))

pub record CountedTo (counts : List ℕ) (methods : List ImageMethod) (classes k : ℕ) : Type 0 where
  pub long : length counts ≡ classes
  pub is : (class : ℕ) → class < classes → get_or counts class 0 ≡ declared_by methods k class

declared_few : (methods : List ImageMethod) (k class : ℕ) → declared_by methods k class ≤ k
declared_few methods k class =
    let few = kept_few (λ (m : ImageMethod). m.class == class) (take k methods) in
    let front = length-take k methods in
    omega (arith, few, front)

pub counted_small : (counts : List ℕ) (methods : List ImageMethod) (classes k class : ℕ)
    → CountedTo counts methods classes k
    → get_or counts class 0 ≤ k
counted_small counts methods classes k class counted =
    let h : ((class < classes) ⊎ (classes ≤ class)) = cases_lt class classes in
    elim h [
      | inl here ↦ (let is = counted.is class here in let few = declared_few methods k class in omega (arith, is, few))
      | inr past ↦ (let long = counted.long in let none = get_or_past counts class 0 (omega arith) in omega
          (arith, none))
    ]

pub counted_more : (counts next : List ℕ) (methods : List ImageMethod) (classes k : ℕ) (m : ImageMethod)
    → k < length methods
    → m ≡ get_or methods k m → next ≡ set counts m.class (get_or counts m.class 0 + 1)
    → CountedTo counts methods classes k
    → CountedTo next methods classes (k + 1)
counted_more counts next methods classes k m within is set_to counted = record {
  long = ap length set_to ∙ length-set counts m.class (get_or counts m.class 0 + 1) ∙ counted.long;
  is = λ class here. (
      let long = counted.long in
      let before = counted.is class here in
      let push : declared_by methods (k + 1) class ≡ declared_by methods k class + cond {A = ℕ} (m.class == class) 1 0 =
      ap (λ (ms : List ImageMethod). length (filter (λ m. m.class == class) ms)) (take_more methods k m within)
      ∙ ap (λ (x : ImageMethod). length (filter (λ m. m.class == class) (take k methods ++ x ∷ []))) (sym is)
      ∙ kept_push (λ (x : ImageMethod). x.class == class) (take k methods) m in
      let h : ((class ≡ m.class) ⊎ (class ≡ m.class → ⊥)) = cases_eq class m.class in
      elim h [
        | inl same ↦ (let one : ◌≡◌ {A = ℕ} (cond (m.class == class) 1 0) 1 =
            ap (λ (b : Bool). cond {A = ℕ} b 1 0) (eq-eqb m.class class (sym same)) in
            let at : get_or next class 0 ≡ get_or counts class 0 + 1 =
            ap (λ (xs : List ℕ). get_or xs class 0) set_to
            ∙ ap (λ (n : ℕ). get_or (set counts n (get_or counts n 0 + 1)) class 0) (sym same)
            ∙ get_or-set_same counts class (get_or counts class 0 + 1) 0 (omega arith) in
            omega (arith, at, before, push, one))
        | inr other ↦ (let none : ◌≡◌ {A = ℕ} (cond (m.class == class) 1 0) 0 =
            ap (λ (b : Bool). cond {A = ℕ} b 1 0) (ne_eqb m.class class (λ e. other (sym e))) in
            let at : get_or next class 0 ≡ get_or counts class 0 =
            ap (λ (xs : List ℕ). get_or xs class 0) set_to
            ∙ get_or-set_other counts m.class class (get_or counts m.class 0 + 1) 0 other in
            omega (arith, at, before, push, none))
      ]);
}

-- ---- classes

kit_split : (kit k : ℕ) → cond {A = ℕ} (nat_lt kit (k + 1)) 1 0 ≡ cond {A = ℕ} (nat_lt kit k) 1 0 + cond {A = ℕ}
    (kit == k) 1 0
kit_split kit k =
    let pick = λ (a b : Bool). ◌+◌ (cond {A = ℕ} a 1 0) (cond {A = ℕ} b 1 0) in
    elim (cases_order kit k) [
      | inl same ↦ ap (λ (b : Bool). cond {A = ℕ} b 1 0) (lt-ltb kit (k + 1) (omega arith))
          ∙ sym (ap (λ (a : Bool). pick a (kit == k)) (le-ltb kit k (omega arith))
          ∙ ap (λ (b : Bool). pick false b) (eq-eqb kit k same))
      | inr other ↦ elim other [
        | inl under ↦ ap (λ (b : Bool). cond {A = ℕ} b 1 0) (lt-ltb kit (k + 1) (omega arith))
            ∙ sym (ap (λ (a : Bool). pick a (kit == k)) (lt-ltb kit k under)
            ∙ ap (λ (b : Bool). pick true b) (ne_eqb kit k (λ e. omega arith)))
        | inr over ↦ ap (λ (b : Bool). cond {A = ℕ} b 1 0) (le-ltb kit (k + 1) (omega arith))
            ∙ sym (ap (λ (a : Bool). pick a (kit == k)) (le-ltb kit k (omega arith))
            ∙ ap (λ (b : Bool). pick false b) (ne_eqb kit k (λ e. omega arith)))
      ]
    ]

below_kit : (cs : List ImageClass) (k : ℕ) → length (filter (λ (c : ImageClass). nat_lt c.kit (k + 1)) cs)
    ≡ length (filter (λ (c : ImageClass). nat_lt c.kit k) cs) + length (filter (λ (c : ImageClass). c.kit == k) cs)
below_kit [] k = omega arith
below_kit (c ∷ cs) k =
    let rest = below_kit cs k in
    let a = one_kept (nat_lt c.kit (k + 1)) c (filter (λ (c : ImageClass). nat_lt c.kit (k + 1)) cs) in
    let b = one_kept (nat_lt c.kit k) c (filter (λ (c : ImageClass). nat_lt c.kit k) cs) in
    let d = one_kept (c.kit == k) c (filter (λ (c : ImageClass). c.kit == k) cs) in
    let split = kit_split c.kit k in
    omega (arith, rest, a, b, d, split)

below_none : (cs : List ImageClass) → length (filter (λ (c : ImageClass). nat_lt c.kit 0) cs) ≡ 0
below_none [] = refl
below_none (c ∷ cs) = ap (λ (b : Bool). length (cond b (c ∷ filter (λ (c : ImageClass). nat_lt c.kit 0) cs) (filter
    (λ (c : ImageClass). nat_lt c.kit 0) cs)))
    (le-ltb c.kit 0 (omega arith)) ∙ below_none cs

below_few : (cs : List ImageClass) (kits : ℕ)
    → ((kit : ℕ) → kit < kits → length (filter (λ (c : ImageClass). c.kit == kit) cs) ≤ 64) → (k : ℕ) → k ≤ kits
    → length (filter (λ (c : ImageClass). nat_lt c.kit k) cs) ≤ 64 * k
below_few cs kits each zero within = let none = below_none cs in omega (arith, none)
below_few cs kits each (suc k) within =
    let one : k + 1 ≡ suc k = omega arith in
    let more : length (filter (λ (c : ImageClass). nat_lt c.kit (suc k)) cs) ≡ length (filter (λ
    (c : ImageClass). nat_lt c.kit (k + 1)) cs) =
    ap (λ (n : ℕ). length (filter (λ (c : ImageClass). nat_lt c.kit n) cs)) (sym one) in
    let split = below_kit cs k in
    let few = below_few cs kits each k (omega arith) in
    let here = each k (omega arith) in
    omega (arith, more, split, few, here)

all_below : (cs : List ImageClass) (kits : ℕ) → list_all (λ (c : ImageClass). nat_lt c.kit kits) cs ≡ true
    → length (filter (λ (c : ImageClass). nat_lt c.kit kits) cs) ≡ length cs
all_below [] kits all = refl
all_below (c ∷ cs) kits all =
    let parts = and_parts (nat_lt c.kit kits) (list_all (λ (c : ImageClass). nat_lt c.kit kits) cs) all in
    ap (λ (b : Bool). length (cond b (c ∷ filter (λ (c : ImageClass). nat_lt c.kit kits) cs) (filter (λ
    (c : ImageClass). nat_lt c.kit kits) cs)))
    parts.0 ∙ ap suc (all_below cs kits parts.1)

-- 64 to a kit, and 16 kits
pub classes_few : (image : Image) → kits_are_there image ≡ true → keeps_limits image ≡ true
    → length image.classes ≤ 1024
classes_few image there limits =
    let a = (and_parts _ _ (and_parts _ _ (and_parts _ _ limits).0).0).0 in
    let b = (and_parts _ _ (and_parts _ _ a).0).0 in
    let kits = and_parts _ _ b in
    let sixteen = leb-true (length image.kits) 16 kits.0 in
    let each = λ (kit : ℕ) (within : kit < length image.kits). leb-true (length (numbers_in_kit image kit)) 64
    (free_at (λ kit. nat_le (length (numbers_in_kit image kit)) 64) 0 (length image.kits) kits.1 kit (omega arith)
    (omega arith)) in
    let few = below_few image.classes (length image.kits)
    (λ kit within. let e = each kit within in
    let m = length-map (filter (λ (c : ImageClass). c.kit == kit) image.classes) (λ
    (c : ImageClass). c.number) in omega (arith, e, m))
    (length image.kits) (omega arith) in
    let all = all_below image.classes (length image.kits) there in
    omega (arith, few, all, sixteen)
