use Rattle.std.proofs.Common.{◌∙◌, IsTrue, refl, subst, arith}
use Rattle.sed_value.specs.declared.slot_type.SlotType.TheVariants.{Buf as BufSlot}
use Rattle.sed_value.specs.declared.value.Value.{Value}
use Rattle.sed_value.specs.declared.value.Value.TheVariants.{Buf}
use Rattle.sed_value.specs.Value.{is_of_type}
use Rattle.sed_wire.proofs.ReadingLemmas.{contents-read, contents-short, contents-too_long}
use Rattle.sed_wire.proofs.reader.Reader.contents.Goals as goal

pub returns-in_default : goal.returns-in_default
returns-in_default c =
    let fewer = c.in_default.ensures.short.0 in
    (contents-short _ _ _ c.in_ok-count.ensures.found (omega (arith, fewer refl, c.from.ensures)), c.self.view_is)

pub returns-then-contents-from : goal.returns-then-contents-from
returns-then-contents-from c =
    let taken = c.in-Ok.ensures.found in
    contents-too_long _ _ _ _ _ _ c.in_ok-count.ensures.found (taken.0
    ∙ c.from.ensures) taken.1 (omega (arith, c.from-2.ensures, c.if-contents-from.true))

pub returns : goal.returns
returns c =
    let taken = c.in-Ok.ensures.found in
    let value = c.held_in.ensures in
    let IsOfType : Value → Type 0 = λ v. IsTrue (is_of_type (BufSlot c.args.most) v) in
    let of_type : IsOfType (Buf c.in-Ok.contents.now) = subst IsOfType value.is value.of_type in
    let read = contents-read _ _ _ _ _ _ c.in_ok-count.ensures.found (taken.0 ∙ c.from.ensures) taken.1 of_type in
    rw value.is read
