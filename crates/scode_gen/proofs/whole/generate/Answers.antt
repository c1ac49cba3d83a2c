use Rattle.std.proofs.Common.{◌≡◌, ◌∙◌, List, Err, map, ap, subst}
use Rattle.std.specs.Prelude.{All}
use Rattle.sed_typed.specs.declared.program.Method.{Method}
use Rattle.sed_typed.specs.declared.program.Program.{Program}
use Rattle.scode_entries.specs.Method.{image_method}
use Rattle.scode_gen.specs.Generated.{IsFirstTooLong, IsShort, image_layout}
use Rattle.scode_gen.specs.declared.refusal.GenRefusal.TheVariants.{MethodTooLong}
use Rattle.scode_gen.proofs.whole.generate.Goals as goal

pub image_with-requires-clause-methods : goal.image_with-requires-clause-methods
image_with-requires-clause-methods c =
    let program = c.args.program.now in
    let all = c.as_slice-all.result.now in
    c.in-Ok.ensures.made
    ∙ ap (λ (p : Program). map (image_method p (image_layout p)) all) c.rows_of-rows.ensures.program
    ∙ ap (λ (xs : List Method). map (image_method program (image_layout program)) xs) c.as_slice-all.ensures

pub returns-in-Ok-clause-short : goal.returns-in-Ok-clause-short
returns-in-Ok-clause-short c =
    let program = c.args.program.now in
    let all = c.as_slice-all.result.now in
    subst (λ (xs : List Method). All (IsShort program) xs) c.as_slice-all.ensures
    (subst (λ (p : Program). All (IsShort p) all) c.rows_of-rows.ensures.program c.in-Ok.ensures.short)

pub returns-clause-too_long : goal.returns-clause-too_long
returns-clause-too_long c = λ n h.
    let same : c.in-Err.refusal ≡ MethodTooLong n = cc in
    subst (λ (p : Program). IsFirstTooLong p n) c.rows_of-rows.ensures.program (c.in-Err.ensures.too_long n (ap Err same))
