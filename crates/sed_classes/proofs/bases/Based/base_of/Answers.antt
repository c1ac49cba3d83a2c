use Rattle.std.proofs.Common.{◌≡◌, ◌∙◌}
use Rattle.sed_classes.specs.Bases.{base_of}
use Rattle.sed_classes.proofs.Places.{base_seen}
use Rattle.sed_classes.proofs.bases.Based.base_of.Goals as goal

pub returns : goal.returns
returns c =
    let found : c.item_at.result ≡ base_of c.self.inside.classes c.args.class =
    base_seen c.self.inside.classes c.args.class c.deref.result.now c.item_at.result (c.deref.ensures.value ∙ c.self.invariant.0) c.item_at.ensures in
    cc
