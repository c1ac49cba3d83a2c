use Rattle.std.specs.Option.{option_map_or}
use Rattle.std.proofs.Common.{◌≡◌, ◌∙◌, ℕ, List, [], ◌∷◌, Option, position, sym, ap}
use Rattle.sed_typed.specs.declared.program.Field.{Field}
use Rattle.sed_typed.specs.TypedSchema.{in_slot}
use Rattle.sed_engine.specs.Code.{slot_path}
use Rattle.sed_engine.specs.Program.{meaning_of}
use Rattle.sed_walker.proofs.Behind.{whole-place, path-found, path-nothing}
use Rattle.sed_walker.proofs.table.place_of.Goals as goal

pub returns-in-Some-clause-found : goal.returns-in-Some-clause-found
returns-in-Some-clause-found c =
    let plan = c.args.plan.now in
    let path = slot_path (meaning_of plan.program) c.args.class c.args.slot in
    let is : path ≡ c.in-Some.field ∷ [] =
    ap (λ (fs : List Field). option_map_or (λ i. i ∷ []) (position (in_slot c.args.slot) fs) []) (sym c.requires.fields)
    ∙ ap (λ (o : Option ℕ). option_map_or (λ i. i ∷ []) o []) (sym c.in-Some.ensures) in
    path-found plan c.args.class c.in-Some.field path is c.inside.result c.inside.ensures.found

pub returns-in-Some-clause-nothing : goal.returns-in-Some-clause-nothing
returns-in-Some-clause-nothing c =
    let plan = c.args.plan.now in
    let path = slot_path (meaning_of plan.program) c.args.class c.args.slot in
    let is : path ≡ c.in-Some.field ∷ [] =
    ap (λ (fs : List Field). option_map_or (λ i. i ∷ []) (position (in_slot c.args.slot) fs) []) (sym c.requires.fields)
    ∙ ap (λ (o : Option ℕ). option_map_or (λ i. i ∷ []) o []) (sym c.in-Some.ensures) in
    path-nothing plan c.args.class c.in-Some.field path is c.inside.result c.inside.ensures.nothing

pub returns-in-None-clause-found : goal.returns-in-None-clause-found
returns-in-None-clause-found c =
    whole-place c.args.plan.now c.args.class
    ∙ ap (λ (o : Option ℕ). option_map_or (λ i. i ∷ []) o []) c.in-None.ensures
    ∙ ap (λ (fs : List Field). option_map_or (λ i. i ∷ []) (position (in_slot c.args.slot) fs) []) c.requires.fields
