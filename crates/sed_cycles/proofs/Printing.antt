-- The lines of a class's slots, and how many of them there are.
use Rattle.std.proofs.Common.{◌≡◌, ℕ, ◌≤◌, List, [], length, Option, Some, None, refl, sym, ap, subst, ◌∙◌, arith}
use Rattle.std.specs.Prelude.{All, slice_get}
use Rattle.std.specs.List.{enumerate_from, flat_map}
use Rattle.std.specs.Option.{option_map_or}
use Rattle.std.proofs.lemmas.List.Elements.{All-get_or}
use Rattle.std.proofs.lemmas.Option.{get_or_from_slice_get, slice_get_within}
use Rattle.sed_typed.specs.declared.schema.ClassInfo.{ClassInfo}
use Rattle.sed_typed.specs.declared.schema.Schema.{Schema}
use Rattle.sed_typed.specs.declared.schema.SlotInfo.{SlotInfo}
use Rattle.sed_typed.specs.Classes.{slots}
use Rattle.sed_engine.specs.Code.{Meaning}
use Rattle.sed_engine.specs.Whole.{IsWhole}

-- the lines of the slots that a schema gives a class are those of the slots that its meaning has
pub same_lines : (f : ℕ × SlotInfo → List ℕ) (m : Meaning) (schema : Schema) (all : List SlotInfo) (class own : ℕ) →
    all ≡ slots schema.classes class → schema ≡ m.schema → own ≡ class →
    flat_map f (enumerate_from 0 all) ≡ flat_map f (enumerate_from 0 (slots m.schema.classes own))
same_lines f m schema all class own is same of_class =
    ap (λ (xs : List SlotInfo). flat_map f (enumerate_from 0 xs))
    (is ∙ ap (λ (s : Schema). slots s.classes class) same ∙ ap (slots m.schema.classes) (sym of_class))

slots_few : (xs : List ClassInfo) (class : ℕ) → All (λ (c : ClassInfo). length c.slots ≤ 64) xs → length (slots xs class) ≤ 64
slots_few xs class h = at (slice_get xs class) refl
  where
    at : (o : Option ClassInfo) → slice_get xs class ≡ o → length (option_map_or (λ (info : ClassInfo). info.slots) o []) ≤ 64
    at (Some c) e =
        subst (λ (x : ClassInfo). length x.slots ≤ 64) (get_or_from_slice_get xs class c c e)
        (All-get_or (λ (x : ClassInfo). length x.slots ≤ 64) xs class c (slice_get_within xs class c e) h)
    at None e = grind arith

pub few_of : (m : Meaning) (class : ℕ) (schema : Schema) (all : List SlotInfo) → IsWhole m → schema ≡ m.schema → all ≡ slots schema.classes class →
    length all ≤ 64
few_of m class schema all whole same is =
    subst (λ (l : List SlotInfo). length l ≤ 64) (sym (is ∙ ap (λ (s : Schema). slots s.classes class) same)) (slots_few m.schema.classes class whole.tables.limits.slots)
