-- The classes of a program that units spell stand in order.
use Rattle.std.proofs.Common.{◌≡◌, List, length, slice_get, sym, ap, ◌∙◌}
use Rattle.std.specs.List.{flat_map, range_with_len}
use Rattle.sed_typed.specs.declared.program.Program.{Program}
use Rattle.sed_typed.specs.declared.schema.Schema.{Schema}
use Rattle.sed_typed.specs.Classes as typed
use Rattle.sed_typed.specs.Schemas as numbers
use Rattle.sed_typed.specs.TypedSchema as typed_schema
use Rattle.sed_classes.specs.declared.kit_units.KitUnits.{KitUnits}
use Rattle.sed_classes.specs.Schema.{class_infos, schema_of}
use Rattle.sed_program.specs.Fields.{fields_of}
use Rattle.sed_outline.specs.Fits.{Unbroken}
use Rattle.sed_program.specs.Ordered.{IsOrdered}
use Rattle.sed_program.proofs.Infos.{info_at, infos_len}
use Rattle.sed_program.proofs.Lineages.{lineage_cons, lineage_one, places}
use Rattle.sed_program.proofs.Order.{number_in, number_is, place_in, place_is, placed}
use Rattle.sed_program.proofs.Typed.{base_at, below_at, lineage_at}
use Rattle.sed_program.proofs.OrderTypes.{type_at_is}
use Rattle.sed_program.proofs.OrderFields.{fields_at, fields_in_order}
use Rattle.sed_program.proofs.Within.{base_within}

pub ordered : (units : List KitUnits) → Unbroken units → (program : Program) → program.schema ≡ schema_of units →
    program.fields ≡ fields_of units →
    IsOrdered units program
ordered units u program s f =
    let classes : program.schema.classes ≡ class_infos units = ap (λ (x : Schema). x.classes) s in
    record {
      number_is = number_is units u;
      number_in = number_in units u;
      place_is = place_is units u;
      place_in = place_in units u;
      placed = placed units u;
      infos_len = ap (λ (x : Schema). length x.classes) s ∙ infos_len units u;
      info_at = λ k c d e g. ap (λ cs. slice_get cs k) classes ∙ info_at units u k c d e g;
      base_in = λ c b e. base_within units c b e;
      base_at = λ k c e. ap (λ cs. typed.base_of cs k) classes ∙ base_at units u k c e;
      lineage_at = λ k c e. ap (λ cs. typed.lineage cs k) classes ∙ lineage_at units u k c e;
      lineage_cons = lineage_cons units u;
      lineage_one = lineage_one units u;
      below_at = λ a above k c e g. ap (λ cs. typed_schema.is_below cs a k) classes ∙ below_at units u a k above c e g;
      type_at_is = λ c d e. ap (λ cs. numbers.type_at cs d.kit d.number) classes ∙ type_at_is units u c d e;
      fields_at = λ k c e. fields_at units u program s f k c e;
    }

-- the fields stand together by their classes
pub by_class : (units : List KitUnits) → Unbroken units → (program : Program) → program.schema ≡ schema_of units →
    program.fields ≡ fields_of units →
    flat_map (typed.declared_fields program.fields) (range_with_len 0 (length program.schema.classes)) ≡ program.fields
by_class units u program s f =
    let len : length program.schema.classes ≡ places units =
    ap (λ (x : Schema). length x.classes) s ∙ infos_len units u in
    ap (λ n. flat_map (typed.declared_fields program.fields) (range_with_len 0 n)) len
    ∙ ap (λ fs. flat_map (typed.declared_fields fs) (range_with_len 0 (places units))) f
    ∙ fields_in_order units u
    ∙ sym f
