-- The kits and the types that an image has whose tables agree.
use Rattle.std.proofs.Common.{◌≡◌, inl, inr, ℕ, ◌*◌, ◌<◌, ◌≤◌, ◌==◌, ◌||◌, not, nat_le, nat_lt, true, false, length, Option, Some, sym, ap, subst, ◌∙◌, arith}
use Rattle.std.specs.Prelude.{All, IsSomeAnd, slice_get, codes, filter}
use Rattle.std.specs.List.{list_all}
use Rattle.std.specs.Option.{option_map, option_map_or}
use Rattle.std.specs.Str.{bytes_eq}
use Rattle.std.proofs.lemmas.Bool.{cases_lt, eqb-true, leb-true, ltb-true, ne_eqb}
use Rattle.std.proofs.lemmas.List.{length-map}
use Rattle.std.proofs.lemmas.Option.{slice_get-map}
use Rattle.std.proofs.lemmas.Slice.Eq.{bytes_eq-Decides}
use Rattle.sed_value.specs.declared.kit.KitRef.{KitRef}
use Rattle.sed_typed.specs.declared.schema.ClassInfo.{ClassInfo}
use Rattle.sed_typed.specs.TypedSchema.{types_at, types_of}
use Rattle.sed_engine.proofs.Numbering.{at_most_one}
use Rattle.scode_image.specs.declared.image.Image.{Image}
use Rattle.scode_image.specs.declared.image.ImageClass.{ImageClass}
use Rattle.scode_image.specs.declared.image.ImageKit.{ImageKit}
use Rattle.scode_image.specs.declared.image.ImageSlot.{ImageSlot}
use Rattle.scode_code.specs.Tables.{class_of, kit_of, schema_of}
use Rattle.scode_code.specs.TableRules as rule
use Rattle.scode_whole.proofs.Truths.{all_mapped, four, in_all, there}
use Rattle.scode_whole.proofs.Rule.{Agrees, ClassAgrees, class_agrees, limits_of}
use Rattle.scode_whole.proofs.Counts.{all_most, none_of, numbers_of, of_kit, of_number}

-- the numbers of a class are of what is there
pub record NumbersThere (image : Image) (c : ImageClass) : Type 0 where
  pub kit : nat_lt c.kit (length image.kits) ≡ true
  pub base : (c.base == 0xffff) || rule.has_class image c.base ≡ true

pub numbers_there : (image : Image) (class : ℕ) (c : ImageClass) → ClassAgrees image class c → NumbersThere image c
numbers_there image class c is =
    let p = four (nat_lt c.kit (length image.kits)) ((c.base == 0xffff) || rule.has_class image c.base)
    (list_all (rule.has_method image) c.table)
    (list_all (λ (s : ImageSlot). not (rule.is_action s) || nat_lt s.place (length c.table)) c.slots) is.numbers in
    record { kit = p.0; base = p.1 }

module _ (image : Image) (is : Agrees image) where
  kit_there : (k : ℕ) (c : ImageClass) → slice_get image.classes k ≡ Some c → nat_lt c.kit (length image.kits) ≡ true
  kit_there k c e = (numbers_there image k c (class_agrees image is k c e)).kit

  pub kits_known : All (λ (c : ClassInfo). c.kit < length (schema_of image).kits) (schema_of image).classes
  kits_known =
      all_mapped class_of (λ (c : ClassInfo). c.kit < length (schema_of image).kits) image.classes
      (λ k c e. subst (λ (n : ℕ). c.kit < n) (sym (length-map image.kits kit_of))
      (ltb-true c.kit (length image.kits) (kit_there k c e)))

  no_kit : (kit : ℕ) → length image.kits ≤ kit → types_of (schema_of image).classes kit ≡ 0
  no_kit kit past =
      none_of kit image.classes
      (λ k c e. let low : c.kit < length image.kits = ltb-true c.kit (length image.kits) (kit_there k c e) in
      ne_eqb c.kit kit (λ same. omega (arith, low, past, same)))

  pub types_most : (kit : ℕ) → types_of (schema_of image).classes kit ≤ 64
  types_most kit = elim (cases_lt kit (length image.kits)) [
    | inl known ↦
        let few : length (numbers_of kit image.classes) ≤ 64 =
        leb-true (length (numbers_of kit image.classes)) 64
        (in_all (λ (k : ℕ). nat_le (length (rule.numbers_in_kit image k)) 64) (length image.kits) kit
        (limits_of image is).types known) in
        let same : types_of (schema_of image).classes kit ≡ length
        (numbers_of kit image.classes) = of_kit kit image.classes in
        omega (arith, few, same)
    | inr past ↦ let none : types_of (schema_of image).classes kit ≡ 0 = no_kit kit past in omega (arith, none)
  ]

  numbered : (kit n : ℕ) → n < types_of (schema_of image).classes kit → types_at (schema_of image).classes kit n ≡ 1
  numbered kit n h = elim (cases_lt kit (length image.kits)) [
    | inl known ↦
        let same : types_of (schema_of image).classes kit ≡ length
        (numbers_of kit image.classes) = of_kit kit image.classes in
        let each : rule.each_once (rule.numbers_in_kit image kit) ≡ true =
        in_all (λ (k : ℕ). rule.each_once (rule.numbers_in_kit image k)) (length image.kits) kit is.numbered known in
        let once : (length (filter (λ (m : ℕ). m == n) (numbers_of kit image.classes)) == 1) ≡ true =
        in_all (λ (i : ℕ). length (filter (λ (m : ℕ). m == i) (numbers_of kit image.classes)) == 1)
        (length (numbers_of kit image.classes)) n each (omega (arith, h, same)) in
        of_number kit n image.classes
        ∙ eqb-true (length (filter (λ (m : ℕ). m == n) (numbers_of kit image.classes))) 1 once
    | inr past ↦
        let none : types_of (schema_of image).classes kit ≡ 0 = no_kit kit past in
        absurd (omega (arith, none, h))
  ]

  pub types_once : (kit number : ℕ) → types_at (schema_of image).classes kit number ≤ 1
  types_once kit number = at_most_one (schema_of image).classes kit number (numbered kit)

  -- there are at most 64 classes in each of at most 16 kits
  pub classes_most : length image.classes ≤ 1024
  classes_most =
      let kits : length image.kits ≤ 16 = leb-true (length image.kits) 16 (limits_of image is).kits in
      let all : length image.classes ≤ length image.kits * 64 =
      all_most image.classes (length image.kits) 64 kit_there types_most in
      omega (arith, kits, all)

-- kit 0, where it is named so
pub kit_named : (image : Image) → option_map_or (λ (k : ImageKit). bytes_eq k.name (codes "sys"))
    (slice_get image.kits 0) false ≡ true
    → IsSomeAnd (slice_get (schema_of image).kits 0) (λ (k : KitRef). k.name ≡ codes "sys")
kit_named image h =
    let k = there (λ (k : ImageKit). bytes_eq k.name (codes "sys")) (slice_get image.kits 0) h in
    subst (λ (o : Option KitRef). IsSomeAnd o (λ (r : KitRef). r.name ≡ codes "sys"))
    (sym (slice_get-map kit_of image.kits 0 ∙ ap (λ (o : Option ImageKit). option_map kit_of o) k.1))
    ((bytes_eq-Decides k.0.name (codes "sys")).0 k.2)
