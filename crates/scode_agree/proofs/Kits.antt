-- The types of each kit are numbered from 0, each once.
use Rattle.std.proofs.Common.{◌≡◌, ℕ, suc, ◌<◌, ◌≤◌, ◌==◌, ◌&&◌, Bool, true, false, cond, List, [], ◌∷◌, length, map}
use Rattle.std.proofs.Common.{filter, refl, ap, ◌∙◌, arith}
use Rattle.std.proofs.lemmas.Bool.{eq-eqb}
use Rattle.std.proofs.lemmas.List.{length-map}
use Rattle.std.proofs.lemmas.List.Sums.{length-filter}
use Rattle.sed_typed.specs.declared.program.Program.{Program}
use Rattle.sed_typed.specs.declared.schema.ClassInfo.{ClassInfo}
use Rattle.sed_typed.specs.declared.schema.Schema.{Schema}
use Rattle.sed_typed.specs.Typed.{Typed}
use Rattle.sed_typed.specs.TypedSchema.{types_at, types_of}
use Rattle.scode_image.specs.declared.image.ImageClass.{ImageClass}
use Rattle.scode_code.specs.TableRules.{each_once, numbers_in_kit, types_are_numbered}
use Rattle.scode_code.specs.Tables.{class_of}
use Rattle.scode_gen.specs.Generated.{image_of}
use Rattle.scode_made.proofs.MadeSchema.{schema_back}
use Rattle.scode_agree.proofs.Tests.{range_passes}

-- the numbers of the classes of a kit
abbrev pub numbers_of : ℕ → List ClassInfo → List ℕ
numbers_of kit all = map (λ (c : ClassInfo). c.number) (filter (λ (c : ClassInfo). c.kit == kit) all)

numbers_told : (kit : ℕ) (all : List ImageClass) →
    map (λ (c : ImageClass). c.number) (filter (λ (c : ImageClass). c.kit == kit) all) ≡ numbers_of kit
    (map class_of all)
numbers_told kit [] = refl
numbers_told kit (c ∷ cs) = by_test (c.kit == kit) (numbers_told kit cs)
  where
    own : List ImageClass
    own = filter (λ (x : ImageClass). x.kit == kit) cs

    told : List ClassInfo
    told = filter (λ (x : ClassInfo). x.kit == kit) (map class_of cs)

    by_test : (b : Bool) → map (λ (x : ImageClass). x.number) own ≡ map (λ (x : ClassInfo). x.number) told →
        map (λ (x : ImageClass). x.number) (cond b (c ∷ own) own) ≡ map (λ (x : ClassInfo). x.number)
        (cond b (class_of c ∷ told) told)
    by_test true again = ap (λ (ns : List ℕ). c.number ∷ ns) again
    by_test false again = again

pub numbers_are : (program : Program) → Typed program → length program.schema.classes ≤ 1024 → (kit : ℕ) →
    numbers_in_kit (image_of program) kit ≡ numbers_of kit program.schema.classes
numbers_are program typed few kit =
    numbers_told kit (image_of program).classes
    ∙ ap (λ (s : Schema). numbers_of kit s.classes) (schema_back program typed few)

pub as_many_types : (kit : ℕ) (all : List ClassInfo) → length (numbers_of kit all) ≡ types_of all kit
as_many_types kit all =
    length-map (filter (λ (c : ClassInfo). c.kit == kit) all) (λ (c : ClassInfo). c.number)
    ∙ length-filter (λ (c : ClassInfo). c.kit == kit) all

-- a number stands among them as often as a class of the kit has it
as_often : (kit i : ℕ) (all : List ClassInfo) →
    length (filter (λ (n : ℕ). n == i) (numbers_of kit all)) ≡ length
    (filter (λ (c : ClassInfo). (c.kit == kit) && (c.number == i)) all)
as_often kit i [] = refl
as_often kit i (c ∷ cs) = by_kit (c.kit == kit) (as_often kit i cs)
  where
    is : ℕ → Bool
    is n = n == i

    own : List ClassInfo
    own = filter (λ (x : ClassInfo). x.kit == kit) cs

    both : List ClassInfo
    both = filter (λ (x : ClassInfo). (x.kit == kit) && (x.number == i)) cs

    numbers : List ℕ
    numbers = map (λ (x : ClassInfo). x.number) own

    by_number : (b : Bool) → length (filter is numbers) ≡ length both →
        length (cond b (c.number ∷ filter is numbers) (filter is numbers)) ≡ length (cond b (c ∷ both) both)
    by_number true again = ap suc again
    by_number false again = again

    by_kit : (b : Bool) → length (filter is numbers) ≡ length both →
        length (filter is (map (λ (x : ClassInfo). x.number) (cond b (c ∷ own) own))) ≡ length
        (cond (b && (c.number == i)) (c ∷ both) both)
    by_kit true again = by_number (c.number == i) again
    by_kit false again = again

numbered_once : (kit : ℕ) (all : List ClassInfo)
    → ((number : ℕ) → number < types_of all kit → types_at all kit number ≡ 1) → each_once (numbers_of kit all) ≡ true
numbered_once kit all numbered =
    range_passes (λ (i : ℕ). length (filter (λ (n : ℕ). n == i) (numbers_of kit all)) == 1) 0
    (length (numbers_of kit all))
    (λ i lt.
    let less : i < types_of all kit = omega (arith, lt, as_many_types kit all) in
    eq-eqb (length (filter (λ (n : ℕ). n == i) (numbers_of kit all))) 1
    (as_often kit i all ∙ length-filter (λ (c : ClassInfo). (c.kit == kit) && (c.number == i)) all ∙ numbered i less))

pub types_numbered : (program : Program) → Typed program → length program.schema.classes ≤ 1024
    → types_are_numbered (image_of program) ≡ true
types_numbered program typed few =
    range_passes (λ (kit : ℕ). each_once (numbers_in_kit (image_of program) kit)) 0 (length (image_of program).kits)
    (λ kit lt. ap each_once (numbers_are program typed few kit)
    ∙ numbered_once kit program.schema.classes (typed.kits.numbered kit))
