-- The numbers of a typed program's layout fit the operands of instructions.
use Rattle.std.proofs.Common.{◌≡◌, ℕ, ◌^◌, ◌<◌, ◌==◌, inl, inr, List, min, Option, Some, None, refl, ap, sym, subst, ◌∙◌, arith}
use Rattle.std.specs.Prelude.{IfSome, position, slice_get}
use Rattle.std.specs.Option.{option_map, option_map_or}
use Rattle.std.proofs.lemmas.Option.{slice_get_cases}
use Rattle.sed_typed.specs.declared.program.Field.{Field}
use Rattle.sed_typed.specs.declared.program.FieldForm.{FieldForm}
use Rattle.sed_typed.specs.declared.program.FieldForm.TheVariants as form
use Rattle.sed_typed.specs.declared.program.Program.{Program}
use Rattle.sed_typed.specs.declared.schema.ClassInfo.{ClassInfo}
use Rattle.sed_typed.specs.Classes.{fields}
use Rattle.sed_typed.specs.Spelled.{HasSmallForm, IsSpelledField, IsSpelledOut}
use Rattle.sed_typed.specs.Typed.{Typed}
use Rattle.sed_typed.specs.TypedSchema.{IsClass}
use Rattle.sed_layout.specs.MethodTables.{table_of}
use Rattle.sed_layout.specs.Offsets.{of_classes, offset_of, static_offset_of}
use Rattle.sed_layout.proofs.Inherited.{of_fields}
use Rattle.scode_image.specs.declared.image.ImageField.{ImageField}
use Rattle.scode_emit.specs.Rows.{row_of}
use Rattle.scode_entries.specs.Small.{HasSmallNumbers}
use Rattle.scode_gen.specs.Generated.{image_layout}
use Rattle.scode_gen.specs.ImageFields.{class_fields, fields_placed, image_field}
use Rattle.scode_sim.specs.Made.{room_of_form}
use Rattle.scode_made.specs.Laid.{IsLaid}
use Rattle.scode_made.proofs.MadeFields.{offset_there, room_there}
use Rattle.scode_made.proofs.Places.{all_at}
use Rattle.scode_made.proofs.PlacedFields.{placed_at}
use Rattle.scode_made.proofs.Rows.{row_at, row_beyond}

-- what holds of 0, and of what is said of each field that is there, holds of all
by_field : (P : ℕ → Type 0) (said : ImageField → ℕ) (offset : ℕ → ℕ) (all : List Field) (number : ℕ) → P 0 →
    ((f : Field) → slice_get all number ≡ Some f → P (option_map_or said (slice_get (fields_placed offset all) number) 0)) →
    P (option_map_or said (slice_get (fields_placed offset all) number) 0)
by_field P said offset all number none some = by_there (slice_get all number) refl
  where
    by_there : (o : Option Field) → slice_get all number ≡ o → P (option_map_or said (slice_get (fields_placed offset all) number) 0)
    by_there None is =
        let gone : slice_get (fields_placed offset all) number ≡ None =
        placed_at offset number all ∙ ap (option_map (λ (f : Field). image_field (offset number) f.form)) is in
        subst P (sym (ap (λ (o : Option ImageField). option_map_or said o 0) gone)) none
    by_there (Some f) is = some f is

-- what holds of 0, and of what is said of each field of a class, holds where the layout says it of any class
by_class : (P : ℕ → Type 0) (program : Program) (said : ImageField → ℕ) (class number : ℕ) → P 0 →
    ((info : ClassInfo) (f : Field) → slice_get program.schema.classes class ≡ Some info → slice_get (fields program class) number ≡ Some f →
    P (option_map_or said (slice_get (class_fields program class) number) 0)) →
    P (option_map_or said (slice_get (row_of (of_classes program (class_fields program)) class) number) 0)
by_class P program said class number none some = elim (slice_get_cases program.schema.classes class).1 [
  | inl (info, within, there, same) ↦
      subst (λ (row : List ImageField). P (option_map_or said (slice_get row number) 0)) (sym (row_at program (class_fields program) class within))
      (by_field P said (offset_of program class) (fields program class) number none (λ f at. some info f there at))
  | inr (past, absent) ↦
      subst (λ (row : List ImageField). P (option_map_or said (slice_get row number) 0)) (sym (row_beyond program (class_fields program) class past)) none
]

zero_small : 0 < 2 ^ 16
zero_small = omega arith

-- ---- offsets

offsets_small : (program : Program) → Typed program → IsLaid program → (class number : ℕ) → (image_layout program).offset class number < 2 ^ 16
offsets_small program typed laid class number =
    by_class (λ (n : ℕ). n < 2 ^ 16) program (λ x. x.offset) class number zero_small
    (λ info f there at.
    let known : IsClass program class info = subst (λ (o : Option ClassInfo). IfSome o (IsClass program class)) there (typed.classes class) in
    let inside = laid.within class number f at in
    let here = offset_there (offset_of program class) (fields program class) number f at in
    omega (arith, inside, here, known.size, known.size_most))

static_offsets_small : (program : Program) → Typed program → IsLaid program → (number : ℕ) → (image_layout program).static_offset number < 2 ^ 16
static_offsets_small program typed laid number =
    by_field (λ (n : ℕ). n < 2 ^ 16) (λ x. x.offset) (static_offset_of program) program.statics number zero_small
    (λ f at.
    let inside = laid.statics_within number f at in
    let here = offset_there (static_offset_of program) program.statics number f at in
    omega (arith, inside, here, typed.statics_most))

-- ---- rooms

room_fits : (f : FieldForm) → HasSmallForm f → room_of_form f < 2 ^ 16
room_fits (form.Prim p) h = zero_small
room_fits (form.Str n) h = let small : n < 2 ^ 8 = h in omega (arith, small)
room_fits (form.Buf n) h = let small : n < 2 ^ 8 = h in omega (arith, small)
room_fits (form.Object class) h = h
room_fits (form.Array p n) h = h

rooms_small : (program : Program) → IsSpelledOut program → (class number : ℕ) → (image_layout program).room class number < 2 ^ 16
rooms_small program spelled class number =
    by_class (λ (n : ℕ). n < 2 ^ 16) program (λ x. x.n) class number zero_small
    (λ info f there at.
    let known : IsSpelledField f = all_at IsSpelledField (fields program class) number f at (of_fields IsSpelledField program spelled.fields class) in
    let here = room_there (offset_of program class) (fields program class) number f at in
    subst (λ (n : ℕ). n < 2 ^ 16) (sym here) (room_fits f.form known.form))

static_rooms_small : (program : Program) → IsSpelledOut program → (number : ℕ) → (image_layout program).static_room number < 2 ^ 16
static_rooms_small program spelled number =
    by_field (λ (n : ℕ). n < 2 ^ 16) (λ x. x.n) (static_offset_of program) program.statics number zero_small
    (λ f at.
    let known : IsSpelledField f = all_at IsSpelledField program.statics number f at spelled.statics in
    let here = room_there (static_offset_of program) program.statics number f at in
    subst (λ (n : ℕ). n < 2 ^ 16) (sym here) (room_fits f.form known.form))

-- ---- places

place_small : (o : Option ℕ) → option_map_or (λ (place : ℕ). min place 255) o 0 < 2 ^ 8
place_small None = omega arith
place_small (Some place) = omega arith

pub numbers_small : (program : Program) → Typed program → IsSpelledOut program → IsLaid program → HasSmallNumbers program (image_layout program)
numbers_small program typed spelled laid = record {
  spelled = spelled;
  classes = (let few = laid.few_classes in omega (arith, few));
  methods = (let few = laid.few_methods in omega (arith, few));
  texts = (let few = typed.texts_most in omega (arith, few));
  offset = offsets_small program typed laid;
  room = rooms_small program spelled;
  static_offset = static_offsets_small program typed laid;
  static_room = static_rooms_small program spelled;
  table_place = λ class m. place_small (position (λ (other : ℕ). other == m) (row_of (of_classes program (table_of program)) class));
}
