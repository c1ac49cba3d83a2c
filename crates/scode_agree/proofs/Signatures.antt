-- The methods of the image have the signatures of those of the program.
use Rattle.std.proofs.Common.{◌≡◌, ℕ, ◌&&◌, Bool, true, false, List, Option, Some, refl, ap, ◌∙◌}
use Rattle.std.specs.Prelude.{IsSomeAnd, slice_get}
use Rattle.std.specs.Option.{option_map, option_map_or}
use Rattle.std.proofs.lemmas.Bool.{and_from}
use Rattle.std.proofs.lemmas.Option.{slice_get-map}
use Rattle.sed_typed.specs.declared.kind.Kind.{Kind}
use Rattle.sed_typed.specs.declared.program.Method.{Method}
use Rattle.sed_typed.specs.declared.program.Program.{Program}
use Rattle.sed_typed.specs.declared.schema.ActionArg.{ActionArg}
use Rattle.sed_typed.specs.declared.schema.ActionArg.TheVariants as argument
use Rattle.sed_typed.specs.TypedSchema.{IsAction, argument_kinds}
use Rattle.sed_engine.proofs.Below.{of_some}
use Rattle.scode_image.specs.declared.image.ImageKind.{ImageKind}
use Rattle.scode_image.specs.declared.image.ImageMethod.{ImageMethod}
use Rattle.scode_code.specs.Kinds.{same_kind, void}
use Rattle.scode_code.specs.TableRules.{action_params, has_signature, same_kinds}
use Rattle.scode_entries.specs.Entries.{cell_of}
use Rattle.scode_entries.specs.Method.{image_method}
use Rattle.scode_gen.specs.Generated.{image_layout, image_of}
use Rattle.scode_gen.specs.ImageSlots.{action_number}
use Rattle.std.proofs.Common.{map}

-- what the image has of a method
pub method_there : (program : Program) (number : ℕ) (m : Method) → slice_get program.methods number ≡ Some m →
    slice_get (image_of program).methods number ≡ Some (image_method program (image_layout program) m)
method_there program number m at =
    slice_get-map (image_method program (image_layout program)) program.methods number
    ∙ ap (option_map (image_method program (image_layout program))) at

params_are : (a : ActionArg) → same_kinds (map cell_of (argument_kinds a)) (action_params (action_number a)) ≡ true
params_are argument.Void = refl
params_are argument.Bool = refl
params_are argument.Int = refl
params_are argument.Long = refl

-- a method of an action has the signature that its argument says
pub action_signed : (program : Program) (number : ℕ) (a : ActionArg)
    → IsSomeAnd (slice_get program.methods number) (IsAction a) →
    has_signature (image_of program) (action_params (action_number a)) void number ≡ true
action_signed program number a h =
    let found = of_some {P = IsAction a} (slice_get program.methods number) h in
    let m : Method = found.0 in
    let wanted : List ImageKind = action_params (action_number a) in
    let signed : ImageMethod → Bool = λ x. same_kinds x.params wanted && same_kind x.result void in
    ap (λ (o : Option ImageMethod). option_map_or signed o false) (method_there program number m found.1)
    ∙ and_from (same_kinds (map cell_of m.params) wanted) (same_kind (cell_of m.result) void)
    (ap (λ (ks : List Kind). same_kinds (map cell_of ks) wanted) found.2.3 ∙ params_are a)
    (ap (λ (k : Kind). same_kind (cell_of k) void) found.2.2)
