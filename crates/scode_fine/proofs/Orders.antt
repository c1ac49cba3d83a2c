-- The classes of an image whose tables agree, and whose schema is that of a typed program: those above others, and what
-- these have of them.
use Rattle.std.proofs.Common.{◌≡◌, ◌<◌, ◌≤◌, ℕ, zero, suc, ◌==◌, ◌&&◌, Bool, true, false, if◌then◌else◌, List, ◌++◌, length, Option, Some, None, refl, sym, ap, subst, ◌∙◌, arith}
use Rattle.std.specs.Prelude.{is_some, position, slice_get}
use Rattle.std.specs.List.{list_any}
use Rattle.std.proofs.lemmas.Bool.{eq-eqb, eqb-true, or_left, or_right}
use Rattle.sed_typed.specs.declared.program.Program.{Program}
use Rattle.sed_typed.specs.declared.schema.ClassInfo.{ClassInfo}
use Rattle.sed_typed.specs.declared.schema.Schema.{Schema}
use Rattle.sed_typed.specs.Classes.{base_of, lineage, reached}
use Rattle.sed_typed.specs.Typed.{Typed}
use Rattle.sed_typed.specs.TypedSchema.{is_below}
use Rattle.sed_typed.proofs.Lineages.{going_down, has_base, has_info, lineage_of_base}
use Rattle.sed_engine.proofs.Below.{Below, Itself, Based, below_of}
use Rattle.sed_engine.proofs.Positions.{found_before}
use Rattle.scode_image.specs.declared.image.Image.{Image}
use Rattle.scode_image.specs.declared.image.ImageField.{ImageField}
use Rattle.scode_code.specs.CodeRules.{fields_of_kind}
use Rattle.scode_code.specs.Kinds.{is_at_or_above, object}
use Rattle.scode_code.specs.Tables.{class_fields, is_field, schema_of}
use Rattle.scode_whole.proofs.Truths.{no_truth}
use Rattle.scode_sound.proofs.Members.{fields_grow}
use Rattle.scode_sound.proofs.Rules.{Tables}
use Rattle.scode_fine.proofs.Goings.{Ordered}

abbrev pub classes_of : Program → List ClassInfo
classes_of program = program.schema.classes

-- ---- classes of a typed program

pub below_through : (program : Program) → Typed program → (a b c : ℕ) → is_below (classes_of program) a b ≡ true →
    is_below (classes_of program) b c ≡ true → is_below (classes_of program) a c ≡ true
below_through program typed a b c h g =
    going_down (classes_of program) (λ (x : ℕ). is_below (classes_of program) a x ≡ true) b h
    (λ class base e p.
    subst (λ (line : List ℕ). list_any (λ (x : ℕ). x == a) line ≡ true) (sym (lineage_of_base program typed class base e))
    (or_right (class == a) (list_any (λ x. x == a) (lineage (classes_of program) base)) p)) c g

itself_reached : (next : ℕ → Option ℕ) (n class : ℕ) → 0 < n → list_any (λ x. x == class) (reached next n (Some class)) ≡ true
itself_reached next zero class h = absurd (omega (arith, h))
itself_reached next (suc n) class h = or_left (class == class) (list_any (λ x. x == class) (reached next n (next class))) (eq-eqb class class refl)

-- a class is at or above itself, where there are classes
pub below_itself : (program : Program) (class : ℕ) → 0 < length (classes_of program) → is_below (classes_of program) class class ≡ true
below_itself program class some = itself_reached (base_of (classes_of program)) (length (classes_of program)) class some

pub below_is : (program : Program) → Typed program → (above class : ℕ) → 0 < length (classes_of program) → Below (classes_of program) above class →
    is_below (classes_of program) above class ≡ true
below_is program typed above class some Itself = below_itself program class some
below_is program typed above class some (Based base low e rest) =
    subst (λ (line : List ℕ). list_any (λ x. x == above) line ≡ true) (sym (lineage_of_base program typed class base e))
    (or_right (class == above) (list_any (λ x. x == above) (lineage (classes_of program) base))
    (below_is program typed above base some rest))

-- 0xffff is no class
alone : (program : Program) → Typed program → length (classes_of program) ≤ 1024 → (above class : ℕ) → Below (classes_of program) above class →
    above ≡ 0xffff → class ≡ 0xffff
alone program typed few above class Itself e = e
alone program typed few above class (Based base low b rest) e =
    let here = alone program typed few above base rest e in
    let less : base < class = (has_base program typed class base b).before in
    let inside : class < length (classes_of program) =
    has_info (classes_of program) class base (slice_get (classes_of program) class) refl b in
    absurd (omega (arith, here, less, inside, few))

-- and it is at or above none but itself
apart : (program : Program) → Typed program → length (classes_of program) ≤ 1024 → (above class : ℕ) → Below (classes_of program) above class →
    class ≡ 0xffff → above ≡ 0xffff
apart program typed few above class Itself e = e
apart program typed few above class (Based base low b rest) e =
    let inside : class < length (classes_of program) =
    has_info (classes_of program) class base (slice_get (classes_of program) class) refl b in
    absurd (omega (arith, e, inside, few))

-- ---- the image

-- what is found in the front is found in the whole
kept_front : (test : ImageField → Bool) (xs ys all : List ImageField) → all ≡ xs ++ ys → is_some (position test xs) ≡ true →
    is_some (position test all) ≡ true
kept_front test xs ys all e h = by_place (position test xs) refl h
  where
    by_place : (o : Option ℕ) → position test xs ≡ o → is_some o ≡ true → is_some (position test all) ≡ true
    by_place None is h = no_truth h
    by_place (Some i) is h =
        ap (λ (fs : List ImageField). is_some (position test fs)) e
        ∙ ap (λ (o : Option ℕ). is_some o) (found_before test xs ys i is)

module _ (program : Program) (typed : Typed program) (few : length (classes_of program) ≤ 1024) (image : Image)
    (schema : schema_of image ≡ program.schema) (tables : Tables image) where
  in_program : (above class : ℕ) → is_at_or_above image above class ≡ true → is_below (classes_of program) above class ≡ true
  in_program above class h = subst (λ (s : Schema). is_below s.classes above class ≡ true) schema h

  pub in_image : (above class : ℕ) → is_below (classes_of program) above class ≡ true → is_at_or_above image above class ≡ true
  in_image above class h = subst (λ (s : Schema). is_below s.classes above class ≡ true) (sym schema) h

  -- the fields of objects of a class, where each class has those of the ones above it
  found_below : (test : ImageField → Bool) (above class : ℕ) → is_at_or_above image above class ≡ true →
      is_some (position test (fields_of_kind image (object above))) ≡ true →
      is_some (position test (fields_of_kind image (object class))) ≡ true
  found_below test above class h f =
      by_tests (above == 0xffff) (class == 0xffff) refl refl f
    where
      below : Below (classes_of program) above class
      below = below_of (classes_of program) above class (in_program above class h)

      grown : (rest : List ImageField) × (class_fields image class ≡ class_fields image above ++ rest)
      grown = fields_grow image tables above class (below_of (schema_of image).classes above class h)

      by_tests : (a b : Bool) → (above == 0xffff) ≡ a → (class == 0xffff) ≡ b →
          is_some (position test (if a then image.static_fields else class_fields image above)) ≡ true →
          is_some (position test (if b then image.static_fields else class_fields image class)) ≡ true
      by_tests true true x y f = f
      by_tests true false x y f =
          no_truth (sym y ∙ eq-eqb class 0xffff (alone program typed few above class below (eqb-true above 0xffff x)))
      by_tests false true x y f =
          no_truth (sym x ∙ eq-eqb above 0xffff (apart program typed few above class below (eqb-true class 0xffff y)))
      by_tests false false x y f =
          kept_front test (class_fields image above) grown.0 (class_fields image class) grown.1 f

  pub ordered : Ordered image
  ordered = record {
    through = λ a b c h k. in_image a c (below_through program typed a b c (in_program a b h) (in_program b c k));
    statics = λ class h.
        alone program typed few 0xffff class (below_of (classes_of program) 0xffff class (in_program 0xffff class h)) refl;
    fields = λ above class form offset n h f. found_below (is_field form offset n) above class h f;
    bufs = λ above class offset h f. found_below (λ (x : ImageField). (x.form == 7) && (x.offset == offset)) above class h f;
  }
