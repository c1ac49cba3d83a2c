use Rattle.std.proofs.Common.{◌≡◌, ℕ, Bool, List, length, get_or, refl, ap, sym, ◌∙◌, subst, arith, Some, slice_get}
use Rattle.std.proofs.lemmas.Option.{slice_get_read}
use Rattle.scode_image.specs.declared.image.ImageClass.{ImageClass}
use Rattle.scode_fields.specs.Fitting.{Fitted}
use Rattle.scode_fields.specs.Rows.{HasRow}
use Rattle.scode_fields.proofs.Fits.{all_fit, all_rows, fit_more, fit_told, held_rows}
use Rattle.scode_fields.proofs.bytes.first_bytes_fit.Goals as goal

pub fit_class-requires-clause-rows : goal.fit_class-requires-clause-rows
fit_class-requires-clause-rows c =
    let image = c.args.image.now in
    let order = c.args.order.now in
    let k = c.loop-class.class-index in
    let class = get_or order k 0 in
    let there = c.requires.order.in_order.there k c.loop-class-test.true in
    let is : slice_get image.classes class ≡ Some c.index-classes-class.result =
    slice_get_read image.classes (length image.classes) class c.index-classes-class.result (omega arith) there
    (c.index-classes-class.is ∙ ap (λ (cs : List ImageClass). get_or cs class c.index-classes-class.result)
    c.as_slice-classes.ensures) in
    held_rows image order c.loop-class.rows.items c.loop-class.places.items k class c.index-classes-class.result
    c.requires.order
    c.requires.laid c.loop-class-test.true refl is c.loop-class.invariant.has

pub loop-class-preserved : goal.loop-class-preserved
loop-class-preserved c =
    let image = c.args.image.now in
    let order = c.args.order.now in
    let class = get_or order c.loop-class.class-index 0 in
    fit_more image order c.loop-class.rows.items c.fit_class.new.rows.items c.loop-class.places.items
    c.fit_class.new.places.items
    c.loop-class.class-index c.loop-class.invariant
    (subst (λ (b : Bool). Fitted image c.loop-class.rows.items c.loop-class.places.items c.fit_class.new.rows.items
    c.fit_class.new.places.items class b) c.if-not-branch.false c.in_ok-fit_class.ensures)

pub statics_fit-requires-clause-rows : goal.statics_fit-requires-clause-rows
statics_fit-requires-clause-rows c = λ class there.
    let image = c.args.image.now in
    subst (λ (ps : List ℕ). HasRow image c.as_slice.result.now ps class) (sym c.as_slice-2.ensures.value)
    (subst (λ (rs : List (List ℕ)). HasRow image rs c.loop-class.places.items class) (sym c.as_slice.ensures.value)
    (all_rows image c.args.order.now c.loop-class.rows.items c.loop-class.places.items c.requires.order
    (λ j within. c.loop-class.invariant.has j (omega arith)) class there))

pub returns : goal.returns
returns c =
    fit_told c.args.image.now c.statics_fit.result
    (all_fit c.args.image.now c.args.order.now c.requires.order (λ k d within is. c.loop-class.invariant.fit k d
    (omega arith) is))
    c.statics_fit.ensures
