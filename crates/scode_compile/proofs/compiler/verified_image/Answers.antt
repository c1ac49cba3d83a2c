use Rattle.std.proofs.Common.{◌≡◌, ◌∙◌, ℕ, Result, Ok, Err, ap, sym, subst, inl}
use Rattle.std.specs.Prelude.{IfOk}
use Rattle.sed_typed.specs.declared.program.Program.{Program}
use Rattle.sed_engine.specs.Carries.{Carries}
use Rattle.sed_engine.specs.Program.{code_of, meaning_of}
use Rattle.scode_image.specs.declared.image.Image.{Image}
use Rattle.scode_code.specs.Image as made
use Rattle.scode_gen.specs.Generated.{IsFirstTooLong, image_of}
use Rattle.scode_compile.specs.declared.refusal.CompileRefusal.TheVariants.{MethodTooLong}
use Rattle.scode_compile.specs.Right.{HasRightImage}
use Rattle.scode_compile.proofs.FirstTooLong.{none_too_long, one_first}
use Rattle.scode_compile.proofs.compiler.verified_image.Goals as goal

-- what the image of the program has, that has which is given
given_has : {E : Type 0} (P : Image → Type 0) (image own : Image) (r : Result Image E) → IfOk r (λ (given : Image). given ≡ image) → image ≡ own → P own → IfOk r P
given_has P image own (Ok given) is same p = subst P (sym (is ∙ same)) p
given_has P image own (Err refusal) is same p = tt

pub returns-in-Ok-clause-carries : goal.returns-in-Ok-clause-carries
returns-in-Ok-clause-carries c =
    let program : Program = c.args.program.now in
    let right : HasRightImage program = c.image_is_right.ensures c.in-Ok.ensures.short in
    given_has (λ (image : Image). Carries (made.code_of image) (code_of program)) c.in-Ok.image (image_of program) c.verified.result c.verified.ensures.ok c.in-Ok.ensures.made right.carries

pub returns-in-Ok-clause-means : goal.returns-in-Ok-clause-means
returns-in-Ok-clause-means c =
    let program : Program = c.args.program.now in
    let right : HasRightImage program = c.image_is_right.ensures c.in-Ok.ensures.short in
    given_has (λ (image : Image). made.meaning_of image ≡ meaning_of program) c.in-Ok.image (image_of program) c.verified.result c.verified.ensures.ok c.in-Ok.ensures.made right.means

pub returns-in-Ok-clause-named : goal.returns-in-Ok-clause-named
returns-in-Ok-clause-named c n first = absurd (none_too_long c.args.program.now n c.in-Ok.ensures.short first)

pub returns-in-Err-MethodTooLong-clause-too_long : goal.returns-in-Err-MethodTooLong-clause-too_long
returns-in-Err-MethodTooLong-clause-too_long c n e =
    let refused = c.in-Err-MethodTooLong in
    let first : IsFirstTooLong c.args.program.now refused.number =
    refused.ensures.too_long refused.number (ap Err refused.field-0-is) in
    let given : c.from.result ≡ refused.number = c.from.ensures ∙ refused.number-is in
    let same : refused.number ≡ n = cc in
    subst (IsFirstTooLong c.args.program.now) same first

pub returns-in-Err-MethodTooLong-clause-named : goal.returns-in-Err-MethodTooLong-clause-named
returns-in-Err-MethodTooLong-clause-named c n other =
    let refused = c.in-Err-MethodTooLong in
    let first : IsFirstTooLong c.args.program.now refused.number =
    refused.ensures.too_long refused.number (ap Err refused.field-0-is) in
    let given : c.from.result ≡ refused.number = c.from.ensures ∙ refused.number-is in
    inl (ap (λ (k : ℕ). Err (MethodTooLong k)) (given ∙ one_first c.args.program.now refused.number n first other))

pub returns-in-Err-MethodTooLong-clause-no_other : goal.returns-in-Err-MethodTooLong-clause-no_other
returns-in-Err-MethodTooLong-clause-no_other c short =
    let refused = c.in-Err-MethodTooLong in
    let first : IsFirstTooLong c.args.program.now refused.number =
    refused.ensures.too_long refused.number (ap Err refused.field-0-is) in
    absurd (none_too_long c.args.program.now refused.number short first)
