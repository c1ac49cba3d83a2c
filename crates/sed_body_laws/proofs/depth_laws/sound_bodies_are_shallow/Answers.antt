use Rattle.std.proofs.Common.{◌≡◌, arith}
use Rattle.sed_typed.specs.Depth.{body_depth}
use Rattle.sed_terms.specs.Seen.{stmt_term}
use Rattle.sed_terms.specs.TermDepth.{body_term_depth}
use Rattle.sed_body_laws.proofs.DeepBodies.{body_of}
use Rattle.sed_body_laws.proofs.depth_laws.sound_bodies_are_shallow.Goals as goal

pub returns-clause-depth : goal.returns-clause-depth
returns-clause-depth g c = λ m n e ps all body is shallow.
    let b = body_of m n e ps all (stmt_term body) is in
    let d : body_depth body ≡ body_term_depth (stmt_term body) = c.trees_nest_as_their_terms.ensures.body body in
    omega (arith, b.0, d, shallow.nesting)

pub returns-clause-height : goal.returns-clause-height
returns-clause-height g c = λ m n e ps all body is shallow low.
    let b = body_of m n e ps all (stmt_term body) is in
    omega (arith, b.1, low, shallow.levels)
