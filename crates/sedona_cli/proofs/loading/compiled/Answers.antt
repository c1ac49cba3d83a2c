use Rattle.std.proofs.Common.{◌≡◌, ℕ, Result, Err, refl, sym, subst}
use Rattle.sed_typed.specs.declared.program.Program.{Program}
use Rattle.scode_gen.specs.Generated.{IsFirstTooLong}
use Rattle.scode_compile.specs.declared.refusal.CompileRefusal.{CompileRefusal}
use Rattle.scode_compile.specs.declared.refusal.CompileRefusal.TheVariants as compile
use Rattle.sed_outside.specs.Steps.{UnlessFree}
use Rattle.sedona_cli.specs.declared.refusal.Refusal.{Refusal}
use Rattle.sedona_cli.specs.Refusals.{is_want, of_compiling}
use Rattle.sedona_cli.specs.Steps.{IsGenerated}
use Rattle.sedona_cli.proofs.loading.compiled.Goals as goal

-- a program is refused for the first method that is too long, or memory was wanted
refused : {X : Type 0} (program : Program) (r : Result X CompileRefusal) (refusal : CompileRefusal) (end : Refusal) → end ≡ of_compiling refusal → r ≡ Err refusal
    → ((n : ℕ) → r ≡ Err (compile.MethodTooLong n) → IsFirstTooLong program n) → UnlessFree is_want (IsGenerated program) (Err end)
refused program r (compile.MethodTooLong n) end same is first =
    subst (λ (e : Refusal). UnlessFree is_want (IsGenerated program) (Err e)) (sym same) (n, first n is, refl)
refused program r compile.Memory end same is first = subst (λ (e : Refusal). UnlessFree is_want (IsGenerated program) (Err e)) (sym same) tt

pub returns-in-Err-clause-generated : goal.returns-in-Err-clause-generated
returns-in-Err-clause-generated c =
    refused c.args.program c.compile.result c.in-Err.refusal c.of_compiling.result c.of_compiling.ensures c.in-Err.is c.compile.ensures.too_long
