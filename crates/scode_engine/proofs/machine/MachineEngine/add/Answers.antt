use Rattle.std.proofs.Common.{◌≡◌, ◌+◌, ◌<◌, ◌∙◌, Err, ap, subst}
use Rattle.std.specs.Prelude.{◌↔◌}
use Rattle.sed_engine.specs.declared.call.AddRefusal.TheVariants.{DataFull}
use Rattle.sed_engine.specs.Code.{data_of}
use Rattle.scode_image.specs.declared.image.Image.{Image}
use Rattle.scode_code.specs.Image.{meaning_of}
use Rattle.scode_engine.specs.Loaded.{live_of, statics_of}
use Rattle.scode_engine.specs.Kept.{Loaded}
use Rattle.scode_engine.proofs.machine.MachineEngine.add.Goals as goal

pub returns-clause-full : goal.returns-clause-full
returns-clause-full c =
    subst (λ (m : Loaded). (c.add_object.result ≡ Err DataFull) ↔ (m.blocks.limit
    < data_of (meaning_of m.image) (live_of m.image m.blocks) + (meaning_of m.image).data_size c.args.t.0)) c.self.view_is
    (subst (λ (i : Image). (c.add_object.result ≡ Err DataFull) ↔ (c.self.inside.pool.limit
    < data_of (meaning_of i) (live_of i c.self.inside.pool) + (meaning_of i).data_size c.args.t.0)) c.image.ensures.image
    c.add_object.ensures.full)

pub returns-clause-meaning : goal.returns-clause-meaning
returns-clause-meaning c = ap (λ (m : Loaded). meaning_of m.image) c.self.view_is

pub returns-clause-statics : goal.returns-clause-statics
returns-clause-statics c =
    subst (λ (i : Image). statics_of i c.add_object.new.pool ≡ statics_of i c.self.inside.pool) c.image.ensures.image
    c.add_object.ensures.statics
    ∙ ap (λ (m : Loaded). statics_of m.image m.blocks) c.self.view_is
