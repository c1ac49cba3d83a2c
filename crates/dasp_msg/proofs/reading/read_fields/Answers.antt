use Rattle.std.proofs.Common.{◌∙◌, [], ◌∷◌, ◌++◌, refl, ap, arith, length-append}
use Rattle.dasp_msg.specs.Noting.{noted}
use Rattle.dasp_msg.specs.Shown.{Message}
use Rattle.dasp_msg.specs.View.{part_of}
use Rattle.dasp_msg.proofs.FieldLemmas.{read-none, read-push, so_many, too_few}
use Rattle.dasp_msg.proofs.ReaderLemmas.{is_where_err}
use Rattle.dasp_msg.proofs.ShownLemmas.{shown-push}
use Rattle.dasp_msg.proofs.reading.read_fields.Goals as goal

pub returns-in_err-field : goal.returns-in_err-field
returns-in_err-field c =
    let read = c.loop.invariant in
    is_where_err _ _ _ c.from_residual.ensures.0
    (too_few read.0 _ _ _ (omega (arith, read.1, c.loop-test.true)) read.3 c.in_err-field.ensures)

pub loop-init : goal.loop-init
loop-init c = ([], refl, omega arith, read-none _, c.bare-msg.ensures)

pub loop-preserved : goal.loop-preserved
loop-preserved c =
    let read = c.loop.invariant in
    let part = part_of c.in_ok-field.field in (
      read.0 ++ part ∷ [],
      omega (arith, read.1, length-append read.0 (part ∷ [])),
      omega (arith, c.loop-test.true),
      read-push read.0 part _ _ _ read.3 c.in_ok-field.ensures,
      c.noting-msg.ensures ∙ ap (λ (m : Message). noted m part) read.4
          ∙ shown-push c.args.header.now read.0 part read.3.spelling read.3.spelled,
    )

pub returns : goal.returns
returns c =
    let read = c.loop.invariant in
    (read.0, so_many read.0 _ _ _ (omega (arith, read.1, read.2, c.loop-test.false)) read.3, read.4)
