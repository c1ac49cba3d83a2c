-- What a typed program's code keeps.
use Rattle.std.proofs.Common.{◌≡◌, ℕ, zero, suc, ◌≤◌, List, [], ◌∷◌, map, length, Option, Some, None, refl, sym, ap, ◌∙◌}
use Rattle.std.specs.Prelude.{All, IfSome, slice_get, sum_by}
use Rattle.std.specs.List.{flat_map}
use Rattle.std.proofs.lemmas.List.{map-append}
use Rattle.sed_typed.specs.declared.schema.ClassInfo.{ClassInfo}
use Rattle.sed_typed.specs.declared.program.Program.{Program}
use Rattle.sed_typed.specs.declared.program.Field.{Field}
use Rattle.sed_typed.specs.Classes.{base_of, declared_fields, fields}
use Rattle.sed_typed.specs.Initial.{object_begun, fields_begun}
use Rattle.sed_typed.specs.Sizes.{data_size, data_within, form_size}
use Rattle.sed_typed.specs.Typed.{Typed}
use Rattle.sed_typed.specs.TypedSchema.{IsClass, IsField, HasBase}
use Rattle.sed_engine.specs.Asked.{MayAsk}
use Rattle.sed_engine.specs.Code.{Question}
use Rattle.sed_engine.specs.Program.{shape_of, code_of, meaning_of}
use Rattle.sed_engine.specs.Whole.{AnswersWell, HasTables, IsWhole, FollowsBase, SaysNothing}
use Rattle.sed_engine.proofs.Asking.{Asked, may_from}
use Rattle.sed_engine.proofs.FieldLists.{has_base, fields_of_base}
use Rattle.sed_engine.proofs.FirstFits.{BeginWell, initial_kept, statics_kept}
use Rattle.sed_engine.proofs.FirstValues.{values_of}
use Rattle.sed_engine.proofs.MaskedCodes.{masked_whole}
use Rattle.sed_engine.proofs.RootsFit.{roots_fit}
use Rattle.sed_engine.proofs.SchemaTables.{limits_of, names_of, components_of}
use Rattle.sed_engine.proofs.SlotFields.{base_slot_fields, fields_beyond, no_fields_of, slot_fields_of}
use Rattle.sed_engine.proofs.TypedRoots.{roots_end}

size_if : (program : Program) (class : ℕ) (r : Option ClassInfo) → IfSome r (IsClass program class) → IfSome r (λ c. data_size program class ≡ c.size)
size_if program class None h = tt
size_if program class (Some c) h = sym h.size

base_follows : (program : Program) → Typed program → (class base : ℕ) → base_of program.schema.classes class ≡ Some base → FollowsBase (code_of program) class base
base_follows program typed class base e =
    let based : HasBase program class base = has_base program typed class base e in
    record {
      before = based.before;
      slots = based.slots;
      fields = (
        map shape_of (flat_map (declared_fields program.fields) (class ∷ [])),
        ap (map shape_of) (fields_of_base program typed class base e) ∙ map-append shape_of (fields program base) (flat_map (declared_fields program.fields) (class ∷ [])),
      );
      slot_fields = base_slot_fields program typed class base e;
    }

begin_well : (program : Program) (all : List Field) → All (IsField program) all → BeginWell all
begin_well program all h k d within = (h k d within).initial

-- ---- beyond the classes

begun_beyond : (program : Program) (depth class : ℕ) → fields program class ≡ [] → object_begun program depth class [] ≡ []
begun_beyond program zero class e = refl
begun_beyond program (suc depth) class e = ap (λ (all : List Field). fields_begun (object_begun program depth) [] all) e

size_beyond : (program : Program) (depth class : ℕ) → fields program class ≡ [] → data_within program depth class ≡ 0
size_beyond program zero class e = refl
size_beyond program (suc depth) class e = ap (λ (all : List Field). sum_by (λ f. form_size (data_within program depth) f.form) all) e

nothing_beyond : (program : Program) → Typed program → (class : ℕ) → length program.schema.classes ≤ class → SaysNothing (code_of program) class
nothing_beyond program typed class h =
    let none : fields program class ≡ [] = fields_beyond program typed class h in
    record {
      fields = ap (map shape_of) none;
      initial = begun_beyond program (length program.schema.classes) class none;
      size = size_beyond program (length program.schema.classes) class none;
    }

-- ---- the whole code

pub tables_of : (program : Program) → Typed program → HasTables (code_of program)
tables_of program typed = record {
  limits = limits_of program typed;
  names = names_of program typed;
  components = components_of program typed;
  bases = base_follows program typed;
  sizes = λ class. size_if program class (slice_get program.schema.classes class) (typed.classes class);
  slot_fields = slot_fields_of program typed;
  no_fields = no_fields_of program typed;
  values = values_of program typed;
  first = λ class known. record { paths = refl; values = initial_kept program (begin_well program program.fields typed.fields) class };
  first_statics = record {
    paths = refl;
    values = statics_kept program (begin_well program program.fields typed.fields) (begin_well program program.statics typed.statics);
  };
  beyond = nothing_beyond program typed;
}

pub answers_of : (program : Program) → Typed program → (q : Question) → MayAsk (code_of program) q → AnswersWell (code_of program) q
answers_of program typed q h =
    let a : Asked (code_of program) q = may_from (code_of program) q h in
    let left = roots_fit program q a.contents a.statics in
    record { contents = left.0; statics = left.1; end = roots_end program typed q a.creatable a.contents a.statics a.argument a.moment }

-- the code of a typed program is whole
pub whole_of : (program : Program) → Typed program → IsWhole (meaning_of program)
whole_of program typed = masked_whole (code_of program) (answers_of program typed) (tables_of program typed)
