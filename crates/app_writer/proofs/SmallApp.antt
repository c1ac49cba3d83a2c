-- The App's data is small.
use Rattle.std.proofs.Common.{◌≡◌, ◌<◌, ℕ, zero, suc, List, [], ◌∷◌, length, Option, Some, None, refl, subst, arith, inl, inr}
use Rattle.std.specs.Prelude.{IfSome, slice_get}
use Rattle.std.proofs.lemmas.Bool.{cases_lt}
use Rattle.std.proofs.lemmas.Option.{slice_get_within, get_or_from_slice_get}
use Rattle.std.proofs.lemmas.List.Elements.{All-get_or}
use Rattle.sed_typed.specs.declared.schema.ClassInfo.{ClassInfo}
use Rattle.sed_engine.specs.Code.{Meaning}
use Rattle.sed_engine.specs.Whole.{HasTables, IsWhole}
use Rattle.app_writer.specs.Alone.{data_alone}
use Rattle.comp_tree.specs.Edits.{app_class}

no_class : {X : Type 0} (xs : List X) (i : ℕ) → i < length xs → slice_get xs i ≡ None → ⊥
no_class [] i lt none = omega (arith, lt)
no_class (x ∷ xs) zero lt none = cc
no_class (x ∷ xs) (suc i) lt none = no_class xs i (omega (arith, lt)) none

by_class : (m : Meaning) (class : ℕ) (o : Option ClassInfo) → slice_get m.schema.classes class ≡ o → HasTables m → m.data_size class < 65536
by_class m class (Some c) is tables =
    let size : m.data_size class ≡ c.size = subst (λ (o : Option ClassInfo). IfSome o (λ (c : ClassInfo). m.data_size class ≡ c.size)) is (tables.sizes class) in
    let here = All-get_or (λ (c : ClassInfo). c.size < 65536) m.schema.classes class c (slice_get_within m.schema.classes class c is) tables.limits.sizes in
    let small : c.size < 65536 = subst (λ (k : ClassInfo). k.size < 65536) (get_or_from_slice_get m.schema.classes class c c is) here in
    omega (arith, size, small)
by_class m class None is tables = elim (cases_lt class (length m.schema.classes)) [
  | inl lt ↦ absurd (no_class m.schema.classes class lt is)
  | inr le ↦ (let none = (tables.beyond class le).size in omega (arith, none))
]

pub small : (m : Meaning) → IsWhole m → data_alone m < 65536
small m whole = by_class m (app_class m) (slice_get m.schema.classes (app_class m)) refl whole.tables
