use Rattle.std.proofs.Common.{ℕ, List, ap, sym, ◌∙◌, Option, None, slice_get}
use Rattle.std.specs.Option.{option_and_then}
use Rattle.std.proofs.lemmas.List.{get_or_default}
use Rattle.scode_image.specs.declared.image.ImageEntry.{ImageEntry}
use Rattle.scode_verify.proofs.Numbers.{entry_is}
use Rattle.scode_verify.proofs.entries.entry_at.Goals as goal

pub returns-in-Some : goal.returns-in-Some
returns-in-Some c =
    let es = c.args.method.now.entries in
    let told = c.requires.is c.args.place c.if-place-numbers.false in
    let number = sym told ∙ get_or_default c.args.numbers.now c.args.place None _ c.if-place-numbers.false ∙ c.in-Some.is in
    c.entry_numbered.ensures
    ∙ ap (λ (xs : List ImageEntry). slice_get xs c.in-Some.number) c.as_slice-entries.ensures
    ∙ sym (entry_is es c.args.place ∙ ap (λ (o : Option ℕ). option_and_then (λ i. slice_get es i) o) number)

pub returns-in-None : goal.returns-in-None
returns-in-None c =
    let es = c.args.method.now.entries in
    let told = c.requires.is c.args.place c.if-place-numbers.false in
    let number = sym told ∙ get_or_default c.args.numbers.now c.args.place None _ c.if-place-numbers.false ∙ c.in-None.is in
    sym (entry_is es c.args.place ∙ ap (λ (o : Option ℕ). option_and_then (λ i. slice_get es i) o) number)
