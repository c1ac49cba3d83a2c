use Rattle.std.proofs.Common.{◌+◌, ◌≤◌, sym, subst, ◌∙◌, arith}
use Rattle.std.proofs.lemmas.Option.{same_Some}
use Rattle.scode_ops.specs.declared.op.Op.{Op}
use Rattle.scode_ops.specs.Decoding.{size_of}
use Rattle.scode_engine.proofs.Fetching.{ends_within}
use Rattle.scode_engine.proofs.rows.decoded.Goals as goal

pub returns-in-Some : goal.returns-in-Some
returns-in-Some c =
    let code = c.args.code.now in
    let at = c.args.at in
    let op : Op = c.in-Some.found.0 in
    let stands = c.in-Some.ensures.found.0 in
    let found = c.instructions_are_found.ensures.found code at op stands in
    let within = ends_within code at op stands in
    let short = c.requires in
    record {
      op = λ i e. same_Some op i (sym found ∙ e);
      fits = λ i e. subst (λ (o : Op). at + size_of o ≤ 65535) (same_Some op i (sym found ∙ e))
          (omega (arith, within, short));
    }

pub returns-in-None : goal.returns-in-None
returns-in-None c =
    let stands =
    λ (i : Op). c.instructions_are_found.ensures.stands c.args.code.now c.args.at i
    (λ k. omega (arith, c.type_inv.code k)) in
    record {
      op = λ i e. absurd (c.in-None.ensures.none i (stands i e));
      fits = λ i e. absurd (c.in-None.ensures.none i (stands i e));
    }
