use Rattle.std.proofs.Common.{◌∙◌, ℕ, List, ◌++◌, ap, sym, arith}
use Rattle.std.specs.List.{sum_by}
use Rattle.sed_typed.specs.declared.program.Field.{Field}
use Rattle.sed_typed.specs.Classes.{base_of}
use Rattle.sed_layout.specs.Offsets.{field_width, offsets_behind}
use Rattle.sed_layout.proofs.OffsetLists.{by_bases, offsets_above, own_fit, size_above}
use Rattle.sed_layout.proofs.offsets.offsets_of_class.Goals as goal

pub push_offsets-requires-clause-fits : goal.push_offsets-requires-clause-fits
push_offsets-requires-clause-fits c =
    let fit = own_fit c.args.program.now c.requires.typed c.args.class c.requires.class in
    let same = ap (sum_by (field_width c.args.program.now)) c.requires.own in
    omega (arith, fit, same, c.inherited_size.ensures)

pub returns : goal.returns
returns c =
    let program = c.args.program.now in
    let class = c.args.class in
    let typed = c.requires.typed in
    let base = base_of program.schema.classes class in
    let above : List ℕ = offsets_above program typed class c.requires.class base in
    let size : ℕ = size_above program typed class c.requires.class base in
    c.new.ensures
    ∙ c.in_ok-push_offsets.ensures
    ∙ ap (λ (xs : List ℕ). xs ++ offsets_behind program c.inherited_size.result c.args.own.now) c.in_ok-offsets.ensures
    ∙ ap (λ (n : ℕ). above ++ offsets_behind program n c.args.own.now) c.inherited_size.ensures
    ∙ ap (λ (own : List Field). above ++ offsets_behind program size own) c.requires.own
    ∙ sym (by_bases program typed class c.requires.class)
