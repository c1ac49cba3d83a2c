use Rattle.std.proofs.Common.{◌≡◌, ◌∙◌, ap, sym, subst, List, map, Result, Ok, Err}
use Rattle.std.specs.Prelude.{OnErr}
use Rattle.sed_engine.specs.Values.{Val}
use Rattle.walk_steps.specs.declared.word.Stop.{Stop}
use Rattle.walk_steps.specs.declared.word.Word.{Word}
use Rattle.walk_steps.specs.Seen.{seen, stop_seen, framed}
use Rattle.walk_steps.specs.Stored.{shared_of, ended}
use Rattle.walk_steps.proofs.Reaches.{local-put, local-not-put}
use Rattle.walk_steps.proofs.locals.put.Goals as goal

pub returns-in-Ok : goal.returns-in-Ok
returns-in-Ok c = λ plan class store.
    local-put (shared_of plan class store) (map (seen plan class) c.args.locals.now) (map (seen plan class) c.write.new.locals) c.args.number (seen plan class c.args.value)
    (ap (λ (r : Result (Unit {0}) Stop). framed plan class r c.write.new.locals) (sym c.in-Ok.is) ∙ c.write.ensures.end plan class)

pub returns-in-Err : goal.returns-in-Err
returns-in-Err c = λ plan class store.
    let kept : c.write.new.locals ≡ c.args.locals.now = subst (λ (r : Result (Unit {0}) Stop). OnErr r (c.write.new.locals ≡ c.args.locals.now)) c.in-Err.is c.write.ensures.kept in
    ap (λ (words : List Word). ended {A = Val} plan class (Err (stop_seen c.in-Err.stop)) store words) kept
    ∙ local-not-put (shared_of plan class store) (map (seen plan class) c.args.locals.now) c.args.number (seen plan class c.args.value) (stop_seen c.in-Err.stop)
    (ap (λ (r : Result (Unit {0}) Stop). framed plan class r c.write.new.locals) (sym c.in-Err.is) ∙ c.write.ensures.end plan class)
