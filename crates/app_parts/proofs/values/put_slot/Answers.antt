use Rattle.std.proofs.Common.{◌≡◌, true, false, length, sym, ap, subst, arith}
use Rattle.std.specs.Prelude.{slice_get}
use Rattle.std.specs.Option.{option_map_or}
use Rattle.sed_typed.specs.declared.schema.Schema.{Schema}
use Rattle.sed_typed.specs.Classes.{slots}
use Rattle.sed_value.specs.declared.value.Value.{Value}
use Rattle.comp_tree.specs.Held.{components_of}
use Rattle.comp_tree.specs.Values.{spelling_of}
use Rattle.app_parts.specs.Values.{is_told}
use Rattle.app_parts.proofs.ValueLemmas.{told-size, told_bytes}
use Rattle.app_parts.proofs.values.put_slot.Goals as goal

pub put_value-requires : goal.put_value-requires
put_value-requires g c =
    let m = g.E.Engine.meaning c.args.tree.now.engine in
    let all = (components_of g.E.Engine c.args.tree.now).by_id in
    let told = subst (λ (s : Schema). option_map_or (is_told c.args.which) (slice_get (slots s.classes c.args.kind.0) c.args.slot) false ≡ true) c.schema.ensures.same (sym c.if-not-is_told_slot.ensures) in
    let size = told-size m all c.args.id.0 c.args.kind.0 c.args.slot c.args.which c.get.new.out told c.requires.class c.in-Ok.ensures.of_type in
    let same = ap (λ (v : Value). length (spelling_of v)) c.value.ensures in
    let room = c.requires.room in
    omega (arith, size, same, room)

pub returns-clause-short : goal.returns-clause-short
returns-clause-short g c =
    let m = g.E.Engine.meaning c.args.tree.now.engine in
    let all = (components_of g.E.Engine c.args.tree.now).by_id in
    let told = subst (λ (s : Schema). option_map_or (is_told c.args.which) (slice_get (slots s.classes c.args.kind.0) c.args.slot) false ≡ true) c.schema.ensures.same (sym c.if-not-is_told_slot.ensures) in
    let size = told-size m all c.args.id.0 c.args.kind.0 c.args.slot c.args.which c.get.new.out told c.requires.class c.in-Ok.ensures.of_type in
    let same = ap (λ (v : Value). length (spelling_of v)) c.in-Ok.ensures.value in
    let whole = ap length (told_bytes m all c.args.id.0 c.args.kind.0 c.args.slot c.args.which told) in
    omega (arith, size, same, whole)
