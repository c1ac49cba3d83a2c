use Rattle.std.proofs.Common.{◌≡◌, ◌∙◌, ap, subst}
use Rattle.scode_image.specs.declared.image.Image.{Image}
use Rattle.scode_code.specs.Image.{meaning_of}
use Rattle.scode_engine.specs.Loaded.{statics_of}
use Rattle.scode_engine.specs.Kept.{Loaded}
use Rattle.scode_engine.proofs.machine.MachineEngine.remove.Goals as goal

pub returns-clause-meaning : goal.returns-clause-meaning
returns-clause-meaning c = ap (λ (m : Loaded). meaning_of m.image) c.self.view_is

pub returns-clause-statics : goal.returns-clause-statics
returns-clause-statics c =
    subst (λ (i : Image). statics_of i c.remove_object.new.pool ≡ statics_of i c.self.inside.pool) c.image.ensures.image
    c.remove_object.ensures.statics
    ∙ ap (λ (m : Loaded). statics_of m.image m.blocks) c.self.view_is
