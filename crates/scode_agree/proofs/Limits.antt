-- The image keeps the limits.
use Rattle.std.proofs.Common.{◌≡◌, ℕ, suc, ◌+◌, ◌<◌, ◌≤◌, ◌==◌, Bool, true, false, cond, nat_le, List, [], ◌∷◌, ◌++◌}
use Rattle.std.proofs.Common.{length, map, filter, Option, Some, None, refl, ap, ◌∙◌, arith}
use Rattle.std.specs.Prelude.{IfSome, count_by, slice_get}
use Rattle.std.specs.List.{list_all, range_with_len}
use Rattle.std.specs.Option.{option_map_or}
use Rattle.std.proofs.lemmas.Bool.{le-leb}
use Rattle.std.proofs.lemmas.List.{length-append, length-map}
use Rattle.std.proofs.lemmas.List.Sums.{length-filter}
use Rattle.std.proofs.lemmas.Option.{slice_get_within}
use Rattle.sed_typed.specs.declared.kind.Kind.{Kind}
use Rattle.sed_typed.specs.declared.kind.Kind.TheVariants as kind
use Rattle.sed_typed.specs.declared.program.Method.{Method}
use Rattle.sed_typed.specs.declared.program.Program.{Program}
use Rattle.sed_typed.specs.declared.schema.ClassInfo.{ClassInfo}
use Rattle.sed_typed.specs.declared.schema.SlotInfo.{SlotInfo}
use Rattle.sed_typed.specs.declared.statement.Stmt.{Stmt}
use Rattle.sed_typed.specs.Classes.{method_name}
use Rattle.sed_typed.specs.Locals.{Declared, declared_in}
use Rattle.sed_typed.specs.Sizes.{config_size, runtime_size}
use Rattle.sed_typed.specs.Typed.{IsBody, IsMethod, declared_by, locals_of, receiver_of, statics_size}
use Rattle.sed_typed.specs.TypedSchema.{HasMembers, IsClass, types_of}
use Rattle.sed_typed.specs.Virtual.{virtual_names}
use Rattle.sed_layout.specs.MethodTables.{table_of}
use Rattle.scode_image.specs.declared.image.ImageMethod.{ImageMethod}
use Rattle.scode_image.specs.declared.image.ImageSlot.{ImageSlot}
use Rattle.scode_code.specs.TableRules.{all_classes, class_keeps_limits, keeps_limits, method_keeps_limits}
use Rattle.scode_code.specs.TableRules.{numbers_in_kit}
use Rattle.scode_code.specs.Tables.{slot_of}
use Rattle.scode_emit.specs.Code.{bytes_of}
use Rattle.scode_emit.specs.Method.{code_of, size_of}
use Rattle.scode_entries.specs.Entries.{cell_of}
use Rattle.scode_entries.specs.Method.{image_method, local_kinds, waiting_kinds}
use Rattle.scode_gen.specs.Classes.{image_class, image_kit}
use Rattle.scode_gen.specs.FirstBytes.{first_bytes, static_bytes}
use Rattle.scode_gen.specs.Generated.{IsShort, image_layout, image_of}
use Rattle.scode_gen.specs.ImageSlots.{image_slots}
use Rattle.scode_made.proofs.FirstBytes.{first_many}
use Rattle.scode_made.proofs.Places.{all_at}
use Rattle.scode_agree.proofs.Classes.{as_many_methods}
use Rattle.scode_agree.proofs.Fields.{statics_many}
use Rattle.scode_agree.proofs.Given.{IsGiven}
use Rattle.scode_agree.proofs.Infos.{class_known, classes_pass, told_back}
use Rattle.scode_agree.proofs.Kits.{as_many_types, numbers_are}
use Rattle.scode_agree.proofs.Tests.{mapped_pass, range_passes, seven, six, three}

-- ---- methods

receiver_few : (b : Bool) (k : Kind) → length (cond b [] (k ∷ [])) ≤ 1
receiver_few true k = omega arith
receiver_few false k = omega arith

-- the parameters and the declared locals are 64 at most
module _ (program : Program) (m : Method) (known : IsMethod program m) where
  declared_few : length m.params + length (declared_by m) ≤ 64
  declared_few = by_body m.body refl known.body
    where
      by_body : (o : Option Stmt) → m.body ≡ o → IfSome o (IsBody program m)
          → length m.params + length (declared_by m) ≤ 64
      by_body None none h =
          let declared : length (declared_by m) ≡ 0 =
          ap (λ (o : Option Stmt). length (option_map_or declared_in o [])) none in
          let params = known.params_most in
          omega (arith, declared, params)
      by_body (Some body) there h = h.most_locals

  pub locals_few : length (local_kinds m) ≤ 255
  locals_few =
      let declared : List Kind = map (λ (d : Declared). d.kind) (declared_by m) in
      let all : length (local_kinds m) ≡ length (map cell_of (locals_of m)) + 4 =
      length-append (map cell_of (locals_of m)) waiting_kinds in
      let made : length (map cell_of (locals_of m)) ≡ length (locals_of m) = length-map (locals_of m) cell_of in
      let behind : length (locals_of m) ≡ length (receiver_of m ++ m.params) + length declared =
      length-append (receiver_of m ++ m.params) declared in
      let front : length (receiver_of m ++ m.params) ≡ length (receiver_of m) + length m.params =
      length-append (receiver_of m) m.params in
      let own : length declared ≡ length (declared_by m) = length-map (declared_by m) (λ (d : Declared). d.kind) in
      let one : length (receiver_of m) ≤ 1 = receiver_few m.is_static (kind.Object m.class) in
      let most = declared_few in
      omega (arith, all, made, behind, front, own, one, most)

method_limited : (program : Program) → IsGiven program → (m : Method) → IsMethod program m → IsShort program m →
    method_keeps_limits (image_method program (image_layout program) m) ≡ true
method_limited program is m known short =
    let params : length (map cell_of m.params) ≡ length m.params = length-map m.params cell_of in
    let few = known.params_most in
    let code : List ℕ = bytes_of (code_of program (image_layout program) m) in
    let size : length code ≡ size_of program (image_layout program) m = is.sized m in
    let least : size_of program (image_layout program) m ≤ 65535 = short in
    three (nat_le (length (map cell_of m.params)) 8) (nat_le (length (local_kinds m)) 255) (nat_le (length code) 65535)
    (le-leb (length (map cell_of m.params)) 8 (omega (arith, params, few)))
    (le-leb (length (local_kinds m)) 255 (locals_few program m known))
    (le-leb (length code) 65535 (omega (arith, size, least)))

-- ---- classes

-- as many methods of the image are of a class as of the program
of_class : (program : Program) (class : ℕ) (ms : List Method) →
    length (filter (λ (x : ImageMethod). x.class == class)
    (map (image_method program (image_layout program)) ms)) ≡ length (filter (λ (m : Method). m.class.0 == class) ms)
of_class program class [] = refl
of_class program class (m ∷ ms) = by_test (m.class.0 == class) (of_class program class ms)
  where
    made : List ImageMethod
    made = filter (λ (x : ImageMethod). x.class == class) (map (image_method program (image_layout program)) ms)

    own : List Method
    own = filter (λ (x : Method). x.class.0 == class) ms

    by_test : (b : Bool) → length made ≡ length own
        → length (cond b (image_method program (image_layout program) m ∷ made) made) ≡ length (cond b (m ∷ own) own)
    by_test true again = ap suc again
    by_test false again = again

class_limited : (program : Program) → IsGiven program → (class : ℕ) (info : ClassInfo)
    → slice_get program.schema.classes class ≡ Some info →
    class_keeps_limits (image_of program) class (image_class program class info) ≡ true
class_limited program is class info there =
    six (nat_le (length (first_bytes program class)) 65535) (nat_le (length slots) 64)
    (nat_le (length (table_of program class)) 255)
    (nat_le (length own_methods) 60) (nat_le (config_size (map slot_of slots)) 400)
    (nat_le (runtime_size (map slot_of slots)) 400)
    (let many = first_many program is.typed class in let size = known.size in let most = known.size_most in
    le-leb (length (first_bytes program class)) 65535 (omega (arith, many, size, most)))
    (let many : length (map slot_of slots) ≡ length slots = length-map slots slot_of in
    let same : length (map slot_of slots) ≡ length info.slots = ap length slots_back in
    let most = known.slots_most in
    le-leb (length slots) 64 (omega (arith, many, same, most)))
    (let many : length (map (method_name program) (table_of program class)) ≡ length (table_of program class) =
    length-map (table_of program class) (method_name program) in
    let same : length (map (method_name program) (table_of program class)) ≡ length (virtual_names program class) =
    ap length (is.tabled.names class) in
    let most = members.virtual_most in
    le-leb (length (table_of program class)) 255 (omega (arith, many, same, most)))
    (let many : length own_methods ≡ count_by (λ (m : Method). m.class.0 == class) program.methods =
    of_class program class program.methods ∙ length-filter (λ (m : Method). m.class.0 == class) program.methods in
    let most : count_by (λ (m : Method). m.class.0 == class) program.methods ≤ 60 = members.methods_most in
    le-leb (length own_methods) 60 (omega (arith, many, most)))
    (ap (λ (ss : List SlotInfo). nat_le (config_size ss) 400) slots_back
    ∙ le-leb (config_size info.slots) 400 known.config_most)
    (ap (λ (ss : List SlotInfo). nat_le (runtime_size ss) 400) slots_back
    ∙ le-leb (runtime_size info.slots) 400 known.runtime_most)
  where
    slots : List ImageSlot
    slots = image_slots program class info.slots

    own_methods : List ImageMethod
    own_methods = filter (λ (x : ImageMethod). x.class == class) (image_of program).methods

    known : IsClass program class info
    known = class_known program is.typed class info there

    members : HasMembers program class
    members = is.typed.members class (slice_get_within program.schema.classes class info there)

    slots_back : map slot_of slots ≡ info.slots
    slots_back = ap (λ (x : ClassInfo). x.slots) (told_back program is.typed is.laid.few_classes class info there)

-- ---- all limits

pub limits_kept : (program : Program) → IsGiven program → keeps_limits (image_of program) ≡ true
limits_kept program is =
    seven (nat_le (length (image_of program).kits) 16)
    (list_all (λ (kit : ℕ). nat_le (length (numbers_in_kit (image_of program) kit)) 64)
    (range_with_len 0 (length (image_of program).kits)))
    (nat_le (length program.texts) 4096) (nat_le (length (static_bytes program)) 65535)
    (all_classes (image_of program) (class_keeps_limits (image_of program)))
    (list_all method_keeps_limits (image_of program).methods) (nat_le (length (image_of program).methods) 65535)
    (let many : length (image_of program).kits ≡ length program.schema.kits =
    length-map program.schema.kits image_kit in
    let most = is.typed.kits.most in
    le-leb (length (image_of program).kits) 16 (omega (arith, many, most)))
    (range_passes (λ (kit : ℕ). nat_le (length (numbers_in_kit (image_of program) kit)) 64) 0
    (length (image_of program).kits)
    (λ kit lt.
    let many : length (numbers_in_kit (image_of program) kit) ≡ types_of program.schema.classes kit =
    ap length (numbers_are program is.typed is.laid.few_classes kit) ∙ as_many_types kit program.schema.classes in
    let most : types_of program.schema.classes kit ≤ 64 = is.typed.kits.types kit in
    le-leb (length (numbers_in_kit (image_of program) kit)) 64 (omega (arith, many, most))))
    (le-leb (length program.texts) 4096 is.typed.texts_most)
    (let many = statics_many program is.typed in
    let most : statics_size program < 65536 = is.typed.statics_most in
    le-leb (length (static_bytes program)) 65535 (omega (arith, many, most)))
    (classes_pass program (class_keeps_limits (image_of program)) (class_limited program is))
    (mapped_pass (image_method program (image_layout program)) method_keeps_limits program.methods
    (λ i m at.
    method_limited program is m (all_at (IsMethod program) program.methods i m at is.typed.methods)
    (all_at (IsShort program) program.methods i m at is.short)))
    (let many = as_many_methods program in
    let most = is.laid.few_methods in
    le-leb (length (image_of program).methods) 65535 (omega (arith, many, most)))
