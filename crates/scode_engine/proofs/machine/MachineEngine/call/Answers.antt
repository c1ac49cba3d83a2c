use Rattle.std.proofs.Common.{◌≡◌, ℤ, ap, of_z, to_z}
use Rattle.std.specs.Prelude.{IfSome}
use Rattle.std.specs.FinMap as map
use Rattle.std.specs.Int.{w64}
use Rattle.std.proofs.lemmas.Int.{to_z-of_z}
use Rattle.sed_value.specs.declared.value.Value.{Value}
use Rattle.sed_engine.specs.Code.{Object, called, root_of}
use Rattle.scode_image.specs.declared.image.Image.{Image}
use Rattle.scode_code.specs.Image.{meaning_of}
use Rattle.scode_engine.specs.Loaded.{live_of, statics_of}
use Rattle.scode_engine.specs.Kept.{Loaded}
use Rattle.scode_engine.proofs.Moved.{moved}
use Rattle.scode_engine.proofs.machine.MachineEngine.call.Goals as goal

pub returns-clause-end : goal.returns-clause-end
returns-clause-end c =
    moved (λ (i : Image) (m : Loaded) (a : Value) (z : ℤ). IfSome (map.get (live_of m.image m.blocks) c.args.p.0)
    (λ (o : Object). c.call.result
    ≡ (root_of (meaning_of m.image) o (statics_of m.image m.blocks) c.args.r a c.args.turns z).end))
    c.image.result.now c.self.inside.code c.image.ensures.image c.self.inside.pool c.args.self.now c.self.view_is
    c.value.result.now c.args.arg.now c.value.ensures (to_z w64 (of_z w64 c.args.ticks)) c.args.ticks
    (to_z-of_z w64 c.args.ticks c.ranges.ticks) c.call.ensures.end

pub returns-clause-left : goal.returns-clause-left
returns-clause-left c =
    moved (λ (i : Image) (m : Loaded) (a : Value) (z : ℤ). IfSome (map.get (live_of m.image m.blocks) c.args.p.0)
    (λ (o : Object). live_of i c.call.new.pool
    ≡ map.insert (live_of m.image m.blocks) c.args.p.0 (called o
    (root_of (meaning_of m.image) o (statics_of m.image m.blocks) c.args.r a c.args.turns z))))
    c.image.result.now c.self.inside.code c.image.ensures.image c.self.inside.pool c.args.self.now c.self.view_is
    c.value.result.now c.args.arg.now c.value.ensures (to_z w64 (of_z w64 c.args.ticks)) c.args.ticks
    (to_z-of_z w64 c.args.ticks c.ranges.ticks) c.call.ensures.left

pub returns-clause-statics : goal.returns-clause-statics
returns-clause-statics c =
    moved (λ (i : Image) (m : Loaded) (a : Value) (z : ℤ). IfSome (map.get (live_of m.image m.blocks) c.args.p.0)
    (λ (o : Object). statics_of i c.call.new.pool
    ≡ (root_of (meaning_of m.image) o (statics_of m.image m.blocks) c.args.r a c.args.turns z).statics))
    c.image.result.now c.self.inside.code c.image.ensures.image c.self.inside.pool c.args.self.now c.self.view_is
    c.value.result.now c.args.arg.now c.value.ensures (to_z w64 (of_z w64 c.args.ticks)) c.args.ticks
    (to_z-of_z w64 c.args.ticks c.ranges.ticks) c.call.ensures.statics

pub returns-clause-meaning : goal.returns-clause-meaning
returns-clause-meaning c = ap (λ (m : Loaded). meaning_of m.image) c.self.view_is
