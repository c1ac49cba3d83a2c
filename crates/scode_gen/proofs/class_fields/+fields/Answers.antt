use Rattle.std.proofs.Common.{◌≡◌, ◌∙◌, ℕ, List, [], ◌++◌, Option, Some, None, ap, sym, subst}
use Rattle.std.specs.Prelude.{OnOk}
use Rattle.std.specs.Option.{option_map_or}
use Rattle.std.proofs.lemmas.List.{append-nil}
use Rattle.sed_typed.specs.declared.schema.ClassInfo.{ClassInfo}
use Rattle.sed_typed.specs.Classes.{base_of, declared_fields, fields}
use Rattle.scode_gen.proofs.ClassRows.{behind_base, row_is}
use Rattle.scode_gen.proofs.class_fields.+fields.Goals as goal

pub push_inherited-returns-in-Some : goal.push_inherited-returns-in-Some
push_inherited-returns-in-Some t c =
    let program = c.args.program.now in
    let found : base_of program.schema.classes c.args.class ≡ Some c.in-Some.base =
    ap (λ (all : List ClassInfo). base_of all c.args.class) (sym c.as_slice.ensures) ∙ sym c.base_of.ensures ∙ c.in-Some.is in
    subst (λ (o : Option ℕ). OnOk c.push_fields.result (c.push_fields.new.all.items ≡ c.args.all.now.items ++ option_map_or (fields program) o []))
    (sym found) c.push_fields.ensures

pub push_inherited-returns-in-None : goal.push_inherited-returns-in-None
push_inherited-returns-in-None t c =
    let program = c.args.program.now in
    let found : base_of program.schema.classes c.args.class ≡ None =
    ap (λ (all : List ClassInfo). base_of all c.args.class) (sym c.as_slice.ensures) ∙ sym c.base_of.ensures ∙ c.in-None.is in
    sym (ap (λ (o : Option ℕ). c.args.all.now.items ++ option_map_or (fields program) o []) found ∙ append-nil c.args.all.now.items)

pub push_fields-returns : goal.push_fields-returns
push_fields-returns t c =
    let program = c.args.program.now in
    let laws = c.fields_go_by_bases.ensures in
    behind_base program c.args.class c.args.all.now.items c.push_inherited.new.all.items c.extend_from_slice.new.self.items c.row_at.result.now
    (laws.base program c.requires.typed c.args.class) (laws.alone program c.args.class c.requires.class)
    c.in_ok-push_inherited.ensures
    (c.row_at.ensures ∙ row_is program (declared_fields program.fields) c.args.own.now c.args.class c.requires.own c.requires.class)
    c.in_ok-extend_from_slice.ensures.items
