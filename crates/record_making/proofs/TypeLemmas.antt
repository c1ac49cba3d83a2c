-- The types that are drawn.
use Rattle.std.proofs.Common.{◌≡◌, ℕ, zero, suc, ◌+◌, ◌≤◌, ◌<◌, Bool, true, false, List, [], ◌∷◌, ◌++◌, length, refl, sym, ◌∙◌, ap, subst, add-one, append_assoc, arith}
use Rattle.std.specs.Prelude.{Option, Some, None, IsTrue, slice_get, ◌&&◌, not, if◌then◌else◌}
use Rattle.std.specs.List.{list_all}
use Rattle.std.specs.Option.{option_and_then, option_map_or}
use Rattle.std.proofs.lemmas.Bool.Decides.{nat_tests}
use Rattle.sed_typed.specs.declared.schema.ClassInfo.{ClassInfo}
use Rattle.sed_typed.specs.declared.schema.Schema.{Schema}
use Rattle.sed_typed.specs.Schemas.{type_at}
use Rattle.sed_typed.specs.TypedSchema.{types_of}
use Rattle.sed_engine.specs.Code.{Meaning, is_creatable}
use Rattle.sed_engine.specs.Whole.{HasTables}
use Rattle.replay_log.specs.declared.gen_spec.GenType.{GenType}
use Rattle.replay_log.specs.Generated.{for_each, has_few}
use Rattle.record_making.specs.Types.{drawn_class, drawn_types, folder_alone, folder_type, is_app_or_folder, is_concrete, type_if, types_in_kit, types_in_kits, types_or}
use Rattle.record_making.proofs.ValueLemmas.{config_is_short, some_and}

-- ---- one behind the other

one_more_put : {A : Type 0} (old before after : List A) (n : ℕ) (made : ℕ → List A)
    → before ≡ old ++ for_each n made → after ≡ before ++ made n → after ≡ old ++ for_each (n + 1) made
one_more_put old before after n made first more =
    more ∙ ap (λ t. t ++ made n) first ∙ append_assoc old (for_each n made) (made n) ∙ ap (λ k. old ++ for_each k made) (sym (add-one n))

-- what a kit has no more of than 64
pub few_types : (m : Meaning) (schema : Schema) (classes : List ClassInfo) (kit count number : ℕ) → HasTables m → schema ≡ m.schema → classes ≡ schema.classes
    → count ≡ types_of classes kit → number < count → number < 64
few_types m schema classes kit count number tables same of_schema counted below =
    let few = tables.limits.types kit in
    let are : count ≡ types_of m.schema.classes kit =
    counted ∙ ap (λ (cs : List ClassInfo). types_of cs kit) of_schema ∙ ap (λ (s : Schema). types_of s.classes kit) same in
    omega (arith, few, are, below)

abbrev pub types_at : Meaning → ℕ → ℕ → List GenType
types_at m kit number = type_if m kit number (drawn_class m.schema.classes kit number)

-- one type, or those of one kit, behind the others
pub one_type_more : (m n : Meaning) (kit : ℕ) (old before after : List GenType) (number : ℕ) → n ≡ m → before ≡ old ++ for_each number (types_at m kit)
    → after ≡ before ++ types_at n kit number → after ≡ old ++ for_each (number + 1) (types_at m kit)
one_type_more m n kit old before after number same first more =
    one_more_put old before after number (types_at m kit) first (more ∙ ap (λ (m : Meaning). before ++ types_at m kit number) same)

pub one_kit_more : (m n : Meaning) (old before after : List GenType) (kit : ℕ) → n ≡ m → before ≡ old ++ for_each kit (types_in_kit m)
    → after ≡ before ++ types_in_kit n kit → after ≡ old ++ for_each (kit + 1) (types_in_kit m)
one_kit_more m n old before after kit same first more =
    one_more_put old before after kit (types_in_kit m) first (more ∙ ap (λ (m : Meaning). before ++ types_in_kit m kit) same)

-- ---- their classes

-- a class that is drawn is one of which components are made
pub drawn_is_creatable : (m : Meaning) (kit number class : ℕ) → drawn_class m.schema.classes kit number ≡ Some class → IsTrue (is_creatable m class)
drawn_is_creatable m kit number class drawn = by_place (is_app_or_folder kit number) drawn
  where
    by_test : (c : ℕ) (b : Bool) → is_concrete m.schema.classes c ≡ b → (if b then Some c else None) ≡ Some class → IsTrue (is_creatable m class)
    by_test c true is e = let same : c ≡ class = cc in subst (λ c. IsTrue (is_creatable m c)) same is
    by_test c false is e = absurd (let no : ◌≡◌ {A = Option ℕ} None (Some class) = e in cc)

    by_type : (r : Option ℕ) → option_and_then (λ c. if is_concrete m.schema.classes c then Some c else None) r ≡ Some class → IsTrue (is_creatable m class)
    by_type None e = absurd (let no : ◌≡◌ {A = Option ℕ} None (Some class) = e in cc)
    by_type (Some c) e = by_test c (is_concrete m.schema.classes c) refl e

    by_place : (b : Bool) → (if b then None else option_and_then (λ c. if is_concrete m.schema.classes c then Some c else None) (type_at m.schema.classes kit number)) ≡ Some class
        → IsTrue (is_creatable m class)
    by_place true e = absurd (let no : ◌≡◌ {A = Option ℕ} None (Some class) = e in cc)
    by_place false e = by_type (type_at m.schema.classes kit number) e

-- `Folder` is there, and components of it are made
pub folder_there : (m : Meaning) → HasTables m → (class : ℕ) × (type_at m.schema.classes 0 folder_type ≡ Some class) × IsTrue (is_creatable m class)
folder_there m tables =
    let found = some_and (type_at m.schema.classes 0 folder_type) tables.names.types.folder in
    let info = some_and (slice_get m.schema.classes found.0) found.2 in
    let component : info.0.is_component ≡ true = info.2.is_component in
    let concrete : info.0.is_abstract ≡ false = info.2.is_abstract in
    let creatable : is_creatable m found.0 ≡ true =
    ap (λ r. option_map_or (λ (c : ClassInfo). c.is_component && not c.is_abstract) r false) info.1
    ∙ ap (λ b. b && not info.0.is_abstract) component ∙ ap (λ b. true && not b) concrete in
    (found.0, found.1, creatable)

-- ---- what may be generated of them

all_both : {A : Type 0} (p : A → Bool) (xs ys : List A) → IsTrue (list_all p xs) → IsTrue (list_all p ys) → IsTrue (list_all p (xs ++ ys))
all_both p [] ys first more = more
all_both p (x ∷ xs) ys first more = by (p x) (λ all. all_both p xs ys all more) first
  where
    by : (b : Bool) → (IsTrue (list_all p xs) → IsTrue (list_all p (xs ++ ys))) → IsTrue (b && list_all p xs) → IsTrue (b && list_all p (xs ++ ys))
    by true rest first = rest first
    by false rest first = absurd (let no : false ≡ true = first in cc)

all_made : {A : Type 0} (p : A → Bool) (n : ℕ) (made : ℕ → List A) → ((k : ℕ) → IsTrue (list_all p (made k))) → IsTrue (list_all p (for_each n made))
all_made p zero made each = refl
all_made p (suc n) made each = all_both p (for_each n made) (made n) (all_made p n made each) (each n)

few_if : (m : Meaning) (kit number : ℕ) (class : Option ℕ) → HasTables m → ((c : ℕ) → class ≡ Some c → IsTrue (is_creatable m c)) → IsTrue (list_all has_few (type_if m kit number class))
few_if m kit number None tables is = refl
few_if m kit number (Some c) tables is = by (slice_get m.schema.classes c) refl (is c refl)
  where
    by : (r : Option ClassInfo) → slice_get m.schema.classes c ≡ r → option_map_or (λ (c : ClassInfo). c.is_component && not c.is_abstract) r false ≡ true
        → IsTrue (list_all has_few (type_if m kit number (Some c)))
    by None at made = absurd (let no : false ≡ true = made in cc)
    by (Some info) at made = let short = config_is_short m c info tables at in grind (arith, nat_tests)

few_in_kits : (m : Meaning) → HasTables m → IsTrue (list_all has_few (types_in_kits m))
few_in_kits m tables =
    all_made has_few (length m.schema.kits) (types_in_kit m) (λ kit.
    all_made has_few (types_of m.schema.classes kit) (λ number. type_if m kit number (drawn_class m.schema.classes kit number)) (λ number.
    few_if m kit number (drawn_class m.schema.classes kit number) tables (drawn_is_creatable m kit number)))

folder_is : (m : Meaning) → (tables : HasTables m) → folder_alone m ≡ type_if m 0 folder_type (Some (folder_there m tables).0)
folder_is m tables = ap (type_if m 0 folder_type) (folder_there m tables).1

few_folder : (m : Meaning) → HasTables m → IsTrue (list_all has_few (folder_alone m))
few_folder m tables =
    let there = folder_there m tables in
    few_if m 0 folder_type (type_at m.schema.classes 0 folder_type) tables
    (λ c at. let same : there.0 ≡ c = some_is (sym there.1 ∙ at) in subst (λ c. IsTrue (is_creatable m c)) same there.2)
  where
    some_is : {a b : ℕ} → ◌≡◌ {A = Option ℕ} (Some a) (Some b) → a ≡ b
    some_is e = cc

-- each has at most 400 bytes of values
pub types_are_few : (m : Meaning) → HasTables m → IsTrue (list_all has_few (drawn_types m))
types_are_few m tables = by (types_in_kits m) (few_in_kits m tables)
  where
    by : (kinds : List GenType) → IsTrue (list_all has_few kinds) → IsTrue (list_all has_few (types_or kinds (folder_alone m)))
    by [] few = few_folder m tables
    by (kind ∷ kinds) few = few

-- and there is at least one
pub types_are_some : (m : Meaning) → HasTables m → 1 ≤ length (drawn_types m)
types_are_some m tables = by (types_in_kits m)
  where
    by : (kinds : List GenType) → 1 ≤ length (types_or kinds (folder_alone m))
    by [] = let one : length (folder_alone m) ≡ 1 = ap length (folder_is m tables) in omega (arith, one)
    by (kind ∷ kinds) = omega arith
