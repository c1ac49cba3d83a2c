-- The methods of an image have a spelling.
use Rattle.std.proofs.Common.{◌≡◌, ◌+◌, ◌≤◌, Bool, true, false, if◌then◌else◌, List, length, map, get_or, refl, arith}
use Rattle.std.specs.Prelude.{All, is_none}
use Rattle.std.specs.List.Sorted.{IsStrictlyIncreasing}
use Rattle.std.proofs.lemmas.List.{length-append, length-map}
use Rattle.std.proofs.lemmas.List.Elements.{All-append, All-map}
use Rattle.sed_typed.specs.declared.program.Method.{Method}
use Rattle.sed_typed.specs.declared.program.Program.{Program}
use Rattle.sed_typed.specs.Typed.{IsMethod, Typed, locals_of}
use Rattle.sed_wire.specs.Leaves.{u2}
use Rattle.sed_wire.specs.Row.{counted}
use Rattle.scode_image.specs.declared.image.ImageEntry.{ImageEntry}
use Rattle.scode_image.specs.declared.image.ImageKind.{ImageKind}
use Rattle.scode_image.specs.Grammar.{method}
use Rattle.scode_emit.specs.Site.{Layout}
use Rattle.scode_emit.specs.Code.{bytes_of}
use Rattle.scode_emit.specs.Method.{code_of, size_of}
use Rattle.scode_entries.specs.Entries.{cell_of}
use Rattle.scode_entries.specs.Method.{entries_of, image_method, local_kinds, waiting_kinds}
use Rattle.scode_entries.specs.Stack.{body_stack}
use Rattle.scode_entries.proofs.Exists.{locals_fit}
use Rattle.scode_made.proofs.MadeMethods.{storable}
use Rattle.scode_text.proofs.Entries.{AreToldEntries, by_body}
use Rattle.scode_text.proofs.Forms.{HasBytes, counted_bytes, u2_bytes}
use Rattle.scode_text.proofs.ToldKinds.{IsToldKind, cell_told, cells_told, storable_are_kinds, waiting_told}
use Rattle.scode_text.proofs.Parts.{IsToldMethod, method_told}

-- what the laws of code and of entries say of a method
pub record IsCompiled (program : Program) (layout : Layout) (m : Method) : Type 0 where
  pub short : size_of program layout m ≤ 65535
  pub bytes : length (bytes_of (code_of program layout m)) ≡ size_of program layout m
  pub stack : body_stack m.body ≤ size_of program layout m
  pub ascend : IsStrictlyIncreasing (map (λ (e : ImageEntry). e.place) (entries_of program layout m))

flags_small : (static abstract : Bool) → (if static then 0 else 1) + (if abstract then 2 else 0) ≤ 3
flags_small true true = omega arith
flags_small true false = omega arith
flags_small false true = omega arith
flags_small false false = omega arith

module _ (program : Program) (layout : Layout) (typed : Typed program) (few : length program.schema.classes ≤ 1024) where
  locals_told : (m : Method) → IsMethod program m → All IsToldKind (local_kinds m)
  locals_told m is =
      All-append IsToldKind (map cell_of (locals_of m)) waiting_kinds
      (cells_told program few (locals_of m) (storable_are_kinds program (locals_of m) (storable program m is))) waiting_told

  is_told : (m : Method) → IsMethod program m → IsCompiled program layout m → IsToldMethod (image_method program layout m)
  is_told m is made =
      let locals : List ImageKind = local_kinds m in
      let entries : AreToldEntries locals (entries_of program layout m) =
      by_body program layout m typed is few locals (locals_told m is) m.body is.body made.short made.ascend in
      let small_class : m.class.0 ≤ 65535 = omega (arith, is.class, few) in
      let few_params : length (map cell_of m.params) ≤ 255 = omega (arith, is.params_most, length-map m.params cell_of) in
      let four : length waiting_kinds ≡ 4 = refl in
      let few_locals : length (local_kinds m) ≤ 255 =
      omega (arith, locals_fit program m is, length-append (map cell_of (locals_of m)) waiting_kinds, length-map (locals_of m) cell_of, four) in
      let small_stack : body_stack m.body ≤ 65535 = omega (arith, made.stack, made.short) in
      let few_bytes : length (bytes_of (code_of program layout m)) ≤ 65535 = omega (arith, made.bytes, made.short) in
      record {
        class = small_class;
        flags = flags_small m.is_static (is_none m.body);
        few_params = few_params;
        params = cells_told program few m.params (storable_are_kinds program m.params is.params);
        result = cell_told program few m.result is.result;
        few_locals = few_locals;
        locals = locals_told m is;
        stack = small_stack;
        short = few_bytes;
        few_entries = entries.few;
        entries = entries.told;
      }

  pub methods_told : length program.methods ≤ 61440 → ((m : Method) → size_of program layout m ≤ 65535 → IsCompiled program layout m) →
      All (λ m. size_of program layout m ≤ 65535) program.methods → HasBytes (counted u2 method) (map (image_method program layout) program.methods)
  methods_told few_methods made short =
      let all : List Method = program.methods in
      counted_bytes u2 method (map (image_method program layout) all) (u2_bytes (length (map (image_method program layout) all)) (omega (arith, few_methods, length-map all (image_method program layout))))
      (All-map (HasBytes method) (image_method program layout) all
      (λ i d lt. method_told (image_method program layout (get_or all i d)) (is_told (get_or all i d) (typed.methods i d lt) (made (get_or all i d) (short i d lt)))))
