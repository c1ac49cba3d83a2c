-- The kits and classes of an image, and its static block, have a spelling.
use Rattle.std.proofs.Common.{◌≡◌, ℕ, ◌+◌, ◌^◌, ◌<◌, ◌≤◌, Bool, true, false, if◌then◌else◌, List, length, map, get_or, Option, Some, None, refl, ap, sym, subst, ◌∙◌, arith}
use Rattle.std.specs.Prelude.{IfSome, IsSomeAnd, IsTrue, slice_get}
use Rattle.std.specs.Int.{w32}
use Rattle.std.specs.List.{sum_by}
use Rattle.std.specs.Option.{option_map_or}
use Rattle.std.proofs.lemmas.List.{length-map}
use Rattle.std.proofs.lemmas.List.Elements.{All-map, All-weaker}
use Rattle.std.proofs.lemmas.Option.{slice_get_within}
use Rattle.sed_value.proofs.Lists.{at_place}
use Rattle.sed_value.specs.Names.{is_kit_name}
use Rattle.sed_value.specs.Value.{is_signed}
use Rattle.sed_value.specs.declared.kit.KitRef.{KitRef}
use Rattle.sed_typed.specs.declared.number.TypeNo.{TypeNo}
use Rattle.sed_typed.specs.declared.program.Field.{Field}
use Rattle.sed_typed.specs.declared.program.Program.{Program}
use Rattle.sed_typed.specs.declared.schema.ClassInfo.{ClassInfo}
use Rattle.sed_typed.specs.Classes.{fields, method_name}
use Rattle.sed_typed.specs.Sizes.{data_size}
use Rattle.sed_typed.specs.Spelled.{IsSpelledClass, IsSpelledField, IsSpelledOut, IsSpelledSchema}
use Rattle.sed_typed.specs.Typed.{Typed, statics_size}
use Rattle.sed_typed.specs.TypedSchema.{HasKits, IsClass, IsField, is_initial}
use Rattle.sed_typed.specs.Virtual.{virtual_names}
use Rattle.sed_engine.proofs.Below.{of_some}
use Rattle.sed_layout.specs.MethodTables.{MayStand, table_of}
use Rattle.sed_layout.specs.Offsets.{field_width, offset_of, static_offset_of}
use Rattle.sed_layout.proofs.Inherited.{of_fields}
use Rattle.sed_wire.specs.Leaves.{u1, u2}
use Rattle.sed_wire.specs.Row.{counted}
use Rattle.scode_image.specs.Grammar.{class, kit, statics}
use Rattle.scode_gen.specs.Classes.{image_class, image_classes, image_kit}
use Rattle.scode_gen.specs.FirstBytes.{first_bytes, object_bytes, static_bytes}
use Rattle.scode_gen.specs.ImageFields.{static_fields}
use Rattle.scode_made.proofs.FirstBytes.{fields_many, first_many, objects_many}
use Rattle.scode_text.proofs.Counted.{IsCounted}
use Rattle.scode_text.proofs.Fields.{before_small, fields_told, slots_told}
use Rattle.scode_text.proofs.Forms.{HasBytes, counted_bytes, i4_bytes, text_bytes, u1_bytes, u2_bytes}
use Rattle.scode_text.proofs.Lists.{each_numbered, few_of, many_numbered}
use Rattle.scode_text.proofs.Names.{kit_name_is_text, word_is_text}
use Rattle.scode_text.proofs.Parts.{IsToldClass, block_told, class_told, kit_told}

-- ---- kits

each_kit : (k : KitRef) → IsTrue (is_kit_name k.name) → IsTrue (is_signed w32 k.checksum) → HasBytes kit (image_kit k)
each_kit k name checksum = kit_told (image_kit k) (text_bytes k.name (kit_name_is_text k.name name)) (i4_bytes k.checksum checksum)

pub kits_told : (program : Program) → HasKits program.schema → IsSpelledSchema program.schema → HasBytes (counted u1 kit) (map image_kit program.schema.kits)
kits_told program known spelled =
    let all : List KitRef = program.schema.kits in
    counted_bytes u1 kit (map image_kit all) (u1_bytes (length (map image_kit all)) (omega (arith, known.most, length-map all image_kit)))
    (All-map (HasBytes kit) image_kit all (λ i d lt. each_kit (get_or all i d) (spelled.told.names i d lt) (spelled.told.checksums i d lt)))

-- ---- classes

base_small : (b : Option TypeNo) → IfSome b (λ base. base.0 < 2 ^ 16) → option_map_or (λ base. base.0) b 0xffff ≤ 65535
base_small None h = omega arith
base_small (Some base) h = let small : base.0 < 2 ^ 16 = h in omega (arith, small)

flags_small : (abstract component : Bool) → (if abstract then 1 else 0) + (if component then 2 else 0) ≤ 3
flags_small true true = omega arith
flags_small true false = omega arith
flags_small false true = omega arith
flags_small false false = omega arith

module _ (program : Program) (typed : Typed program) (spelled : IsSpelledOut program) (counts : IsCounted program) where
  number_small : (class n : ℕ) → IsSomeAnd (slice_get program.methods n) (MayStand program class) → HasBytes u2 n
  number_small class n h =
      let x = of_some {P = MayStand program class} (slice_get program.methods n) h in
      let within : n < length program.methods = slice_get_within program.methods n x.0 x.1 in
      u2_bytes n (omega (arith, within, counts.few_methods))

  table_told : (class : ℕ) → length (virtual_names program class) ≤ 255 → HasBytes (counted u1 u2) (table_of program class)
  table_told class few =
      let as_many : length (table_of program class) ≡ length (virtual_names program class) = sym (length-map (table_of program class) (method_name program)) ∙ ap length (counts.names class) in
      counted_bytes u1 u2 (table_of program class) (u1_bytes (length (table_of program class)) (omega (arith, as_many, few)))
      (All-weaker (λ n. IsSomeAnd (slice_get program.methods n) (MayStand program class)) (HasBytes u2) (number_small class) (table_of program class) (counts.stand class))

  is_told : (number : ℕ) (info : ClassInfo) → slice_get program.schema.classes number ≡ Some info → IsToldClass (image_class program number info)
  is_told number info there =
      let known : IsClass program number info = subst (λ (o : Option ClassInfo). IfSome o (IsClass program number)) there (typed.classes number) in
      let named : IsSpelledClass info = at_place IsSpelledClass program.schema.classes number info spelled.schema.classes there in
      let within : number < length program.schema.classes = slice_get_within program.schema.classes number info there in
      let few : length (virtual_names program number) ≤ 255 = (typed.members number within).virtual_most in
      let bytes : sum_by (field_width program) (fields program number) ≤ 65535 = omega (arith, counts.sums number, known.size, known.size_most) in
      let offsets : (i : ℕ) → offset_of program number i ≤ 65535 = before_small program (fields program number) bytes in
      let few_fields : length (fields program number) ≤ 65535 = omega (arith, few_of (field_width program) (fields program number) (counts.wide number), bytes) in
      let many : length (first_bytes program number) ≤ 65535 = omega (arith, first_many program typed number, known.size, known.size_most) in
      let small_kit : info.kit ≤ 255 = omega (arith, named.kit) in
      let small_number : info.number ≤ 255 = omega (arith, named.number) in
      record {
        kit = small_kit;
        number = small_number;
        name = word_is_text info.name named.name;
        base = base_small info.base named.base;
        flags = flags_small info.is_abstract info.is_component;
        size = many;
        fields = fields_told (offset_of program number) (fields program number) offsets few_fields (of_fields IsSpelledField program spelled.fields number);
        slots = slots_told program number offsets few info.slots known.slots_most named.slots;
        table = table_told number few;
      }

  pub classes_told : HasBytes (counted u2 class) (image_classes program program.schema.classes)
  classes_told =
      let all : List ClassInfo = program.schema.classes in
      let many : length (image_classes program all) ≡ length all = many_numbered (image_class program) all in
      counted_bytes u2 class (image_classes program all) (u2_bytes (length (image_classes program all)) (omega (arith, many, counts.few_classes)))
      (each_numbered (HasBytes class) (image_class program) all (λ i info there. class_told (image_class program i info) (is_told i info there)))

  -- ---- the static block

  statics_many : length (static_bytes program) ≡ statics_size program
  statics_many =
      let levels : ℕ = length program.schema.classes in
      fields_many (data_size program) (object_bytes program levels) (objects_many program typed levels) program.statics
      (All-weaker (IsField program) (λ (f : Field). IsTrue (is_initial f.form f.initial)) (λ f is. is.initial) program.statics typed.statics)

  pub statics_told : HasBytes statics (static_fields program, static_bytes program)
  statics_told =
      let all : List Field = program.statics in
      let same : sum_by (field_width program) all ≡ statics_size program = refl in
      let bytes : sum_by (field_width program) all ≤ 65535 = omega (arith, same, typed.statics_most) in
      let few : length all ≤ 65535 = omega (arith, few_of (field_width program) all counts.statics_wide, bytes) in
      let offsets : (i : ℕ) → static_offset_of program i ≤ 65535 = before_small program all bytes in
      block_told (static_fields program) (static_bytes program) (omega (arith, statics_many, typed.statics_most))
      (fields_told (static_offset_of program) all offsets few spelled.statics)
