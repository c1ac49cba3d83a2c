-- Fronts of files, as their form spells them and as they are defined.
use Rattle.std.proofs.Common.{◌≡◌, ℕ, ◌<◌, ◌^◌, ◌⊎◌, inl, inr, Bool, true, false, IsTrue, List, [], ◌∷◌, ◌++◌, length, refl, ◌∙◌, ap, ap₂, arith}
use Rattle.std.specs.Prelude.{◌==◌, ◌||◌}
use Rattle.std.specs.List.{AllByRecursion}
use Rattle.std.specs.Int.{w32}
use Rattle.std.proofs.lemmas.Bool.Decides.{nat_tests}
use Rattle.std.proofs.lemmas.List.Elements.{All-from_recursion, recursion_from_All}
use Rattle.sed_value.specs.Names.{is_kit_name}
use Rattle.sed_value.specs.Value.{is_signed}
use Rattle.sed_value.specs.declared.kit.KitRef.{KitRef}
use Rattle.sed_wire.specs.FormReading.{Found}
use Rattle.sed_wire.specs.Leaves as leaf
use Rattle.sed_wire.specs.Number.{u4}
use Rattle.sed_wire.specs.Row.{counted}
use Rattle.comp_tree.specs.Edit.{kit_bytes}
use Rattle.comp_tree.specs.Parts.{text}
use Rattle.app_file.specs.Reading.{IsFront}
use Rattle.app_file.specs.Text.{file_mark, front_text, kits_text}
use Rattle.app_front.specs.Form as form
use Rattle.app_front.specs.declared.front.Front.{Front}
use Rattle.app_front.proofs.Texts.{Texts, name_is_text, number_texts, only_texts, same_texts, signed_texts, text_texts, then_texts, times_said, times_spelled}

-- ---- a kit

abbrev IsKit : KitRef → Type 0
IsKit kit = IsTrue (is_kit_name kit.name) × IsTrue (is_signed w32 kit.checksum)

name_texts : Texts form.kit_name.spells (λ n. IsTrue (is_kit_name n)) text
unfolding form.kit_name
name_texts = same_texts (λ n. IsTrue (is_kit_name n)) (λ n is. is.1) (λ n is. (name_is_text n is, is)) (only_texts is_kit_name text_texts)

kit_texts : Texts form.kit.spells IsKit kit_bytes
unfolding form.kit
kit_texts =
    let both = then_texts name_texts signed_texts in
    record { said = λ kit bytes is. both.said (kit.name, kit.checksum) bytes is; spelled = λ kit is. both.spelled (kit.name, kit.checksum) is }

-- ---- kits behind their number

abbrev AreKits : List KitRef → Type 0
AreKits kits = (length kits < 256) × AllByRecursion IsKit kits

kits_texts : Texts (counted leaf.u1 form.kit).spells AreKits kits_text
unfolding leaf.u1
kits_texts = record {
  said = λ kits bytes is.
      let count = (number_texts 1).said (length kits) is.0 is.2 in
      let each = times_said form.kit IsKit kit_bytes kit_texts (length kits) kits is.1 is.3 in
      ((count.0, each.0.1), is.4 ∙ ap₂ (λ (x y : List ℕ). x ++ y) count.1 each.1);
  spelled = λ kits is.
      (_, _, (number_texts 1).spelled (length kits) is.0, times_spelled form.kit IsKit kit_bytes kit_texts kits is.1, refl);
}

-- ---- the mark and the version

abbrev IsVersion : ℕ → Type 0
IsVersion version = (version ≡ 4) ⊎ (version ≡ 3)

version_of : (n : ℕ) → (n < 256 ^ 4) × IsTrue (form.is_version n) → IsVersion n
version_of n is = by (n == 4) refl is.1
  where
    by : (b : Bool) → (n == 4) ≡ b → (b || (n == 3)) ≡ true → IsVersion n
    by true four is = inl (grind (arith, nat_tests))
    by false four is = inr (grind (arith, nat_tests))

number_of_version : (n : ℕ) → IsVersion n → (n < 256 ^ 4) × IsTrue (form.is_version n)
number_of_version n (inl is) = (omega (arith, is), grind (arith, nat_tests))
number_of_version n (inr is) = (omega (arith, is), grind (arith, nat_tests))

version_texts : Texts form.version.spells IsVersion u4
unfolding form.version leaf.u4
version_texts = same_texts IsVersion version_of number_of_version (only_texts form.is_version (number_texts 4))

mark_below : file_mark < 256 ^ 4
mark_below = omega arith

head_texts : Texts form.head.spells (λ (u : Unit {0}). Unit {0}) (λ u. u4 file_mark)
unfolding form.head
head_texts = record {
  said = λ u bytes is. (tt, ((number_texts 4).said file_mark bytes is.0).1);
  spelled = λ u is. ((number_texts 4).spelled file_mark mark_below, refl);
}

-- ---- the whole

abbrev IsAnyFront : Front → Type 0
IsAnyFront f = IsVersion f.version × AreKits f.kits

front_texts : Texts form.front.spells IsAnyFront (λ f. front_text f.version f.kits)
unfolding form.front
front_texts =
    let all = then_texts head_texts (then_texts version_texts kits_texts) in
    record {
      said = λ f bytes is. let one = all.said (tt, (f.version, f.kits)) bytes is in (one.0.1, one.1);
      spelled = λ f is. all.spelled (tt, (f.version, f.kits)) (tt, is);
    }

names_of : (kits : List KitRef) → AllByRecursion IsKit kits → AllByRecursion (λ kit. IsTrue (is_kit_name kit.name)) kits
names_of [] each = tt
names_of (kit ∷ kits) each = (each.0.0, names_of kits each.1)

sums_of : (kits : List KitRef) → AllByRecursion IsKit kits → AllByRecursion (λ kit. IsTrue (is_signed w32 kit.checksum)) kits
sums_of [] each = tt
sums_of (kit ∷ kits) each = (each.0.1, sums_of kits each.1)

are_of : (kits : List KitRef) → AllByRecursion (λ kit. IsTrue (is_kit_name kit.name)) kits → AllByRecursion (λ kit. IsTrue (is_signed w32 kit.checksum)) kits → AllByRecursion IsKit kits
are_of [] names sums = tt
are_of (kit ∷ kits) names sums = ((names.0, sums.0), are_of kits names.1 sums.1)

abbrev pub front_of : ℕ → List KitRef → Front
front_of version kits = record { version = version; kits = kits }

pub front-read : (f : Front) (bytes rest : List ℕ) → form.front.reads bytes ≡ Found f rest → IsFront f.version f.kits bytes rest
front-read f bytes rest e =
    let begun = form.front.sound bytes f rest e in
    let told = front_texts.said f begun.0 begun.1 in
    record {
      known = told.0.0;
      few = told.0.1.0;
      names = All-from_recursion _ f.kits (names_of f.kits told.0.1.1);
      checksums = All-from_recursion _ f.kits (sums_of f.kits told.0.1.1);
      front = begun.2 ∙ ap (λ (s : List ℕ). s ++ rest) told.1;
    }

pub front-whole : (version : ℕ) (kits : List KitRef) (bytes rest : List ℕ) → IsFront version kits bytes rest → form.front.reads bytes ≡ Found (front_of version kits) rest
front-whole version kits bytes rest is =
    let each = are_of kits (recursion_from_All _ kits is.names) (recursion_from_All _ kits is.checksums) in
    ap form.front.reads is.front
    ∙ form.front.whole (front_of version kits) (front_text version kits) rest (front_texts.spelled (front_of version kits) (is.known, (is.few, each)))

pub few_kits : (f : Front) (bytes rest : List ℕ) → form.front.reads bytes ≡ Found f rest → length f.kits < 256
few_kits f bytes rest e = (front-read f bytes rest e).few
