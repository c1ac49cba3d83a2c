use Rattle.std.proofs.Common.{◌∙◌}
use Rattle.scode_emit.specs.Code.{expr_code, stmt_code}
use Rattle.scode_emit.specs.Method.{site_of, code_of}
use Rattle.scode_emit.proofs.Counts.{count-bytes}
use Rattle.scode_emit.proofs.Sized.{expr_sized, stmt_sized, body_sized}
use Rattle.scode_emit.proofs.laws.code_has_its_size.Goals as goal

pub returns-clause-expressions : goal.returns-clause-expressions
returns-clause-expressions c w at e = count-bytes (expr_code w at e) ∙ expr_sized w at e

pub returns-clause-statements : goal.returns-clause-statements
returns-clause-statements c w at out on s = count-bytes (stmt_code w at out on s) ∙ stmt_sized w at out on s

pub returns-clause-methods : goal.returns-clause-methods
returns-clause-methods c program layout m =
    count-bytes (code_of program layout m) ∙ body_sized (site_of program layout m) m.result m.body
