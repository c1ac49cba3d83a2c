use Rattle.std.proofs.Common.{◌≡◌, Err, ap}
use Rattle.scode_compile.specs.declared.refusal.CompileRefusal.TheVariants.{MethodTooLong}
use Rattle.scode_compile.proofs.compiled.compile.Goals as goal

pub returns-in-Err-clause-too_long : goal.returns-in-Err-clause-too_long
returns-in-Err-clause-too_long c n e =
    c.in-Err.ensures.too_long n (ap Err (let same : c.in-Err.refusal ≡ MethodTooLong n = cc in same))
