use Rattle.std.proofs.Common.{◌≡◌, ℤ, Option, subst, sym, ◌∙◌}
use Rattle.std.specs.Prelude.{IfSome, IsSomeAnd}
use Rattle.std.specs.FinMap as finite
use Rattle.std.specs.Int.{w64}
use Rattle.std.proofs.lemmas.Int.{to_z-of_z}
use Rattle.sed_engine.specs.Code.{Object, called, root_of}
use Rattle.scode_code.specs.Image.{meaning_of}
use Rattle.scode_cells.specs.Frames.{Frames}
use Rattle.scode_engine.specs.Loaded.{live_of, statics_of}
use Rattle.scode_engine.specs.Kept.{HaveRoom}
use Rattle.scode_engine.proofs.calls.call.Goals as goal

pub call_on-end-requires-clause-cells : goal.call_on-end-requires-clause-cells
call_on-end-requires-clause-cells c =
    subst (λ (o : Option Frames). IsSomeAnd o (HaveRoom c.args.code.now.image.now)) (sym c.take.ensures.value ∙ c.in-Some.is)
    c.requires.cells

pub unreachable-requires : goal.unreachable-requires
unreachable-requires c =
    subst (λ (o : Option Frames). IsSomeAnd o (HaveRoom c.args.code.now.image.now)) (sym c.take.ensures.value ∙ c.in-None.is)
    c.requires.cells

pub returns-clause-end : goal.returns-clause-end
returns-clause-end c =
    subst (λ (z : ℤ). IfSome (finite.get (live_of c.args.code.now.image.now c.args.pool.now) c.args.asked.now.place.0) (λ (o : Object).
    c.call_on-end.result ≡ (root_of (meaning_of c.args.code.now.image.now) o (statics_of c.args.code.now.image.now c.args.pool.now)
    c.args.asked.now.which c.args.asked.now.argument.now c.args.asked.now.turns z).end))
    (to_z-of_z w64 c.args.moment c.ranges.moment) c.call_on-end.ensures.end

pub returns-clause-left : goal.returns-clause-left
returns-clause-left c =
    subst (λ (z : ℤ). IfSome (finite.get (live_of c.args.code.now.image.now c.args.pool.now) c.args.asked.now.place.0) (λ (o : Object).
    live_of c.args.code.now.image.now c.call_on-end.new.pool
    ≡ finite.insert (live_of c.args.code.now.image.now c.args.pool.now) c.args.asked.now.place.0 (called o
    (root_of (meaning_of c.args.code.now.image.now) o (statics_of c.args.code.now.image.now c.args.pool.now) c.args.asked.now.which
    c.args.asked.now.argument.now c.args.asked.now.turns z))))
    (to_z-of_z w64 c.args.moment c.ranges.moment) c.call_on-end.ensures.left

pub returns-clause-statics : goal.returns-clause-statics
returns-clause-statics c =
    subst (λ (z : ℤ). IfSome (finite.get (live_of c.args.code.now.image.now c.args.pool.now) c.args.asked.now.place.0) (λ (o : Object).
    statics_of c.args.code.now.image.now c.call_on-end.new.pool
    ≡ (root_of (meaning_of c.args.code.now.image.now) o (statics_of c.args.code.now.image.now c.args.pool.now) c.args.asked.now.which
    c.args.asked.now.argument.now c.args.asked.now.turns z).statics))
    (to_z-of_z w64 c.args.moment c.ranges.moment) c.call_on-end.ensures.statics
