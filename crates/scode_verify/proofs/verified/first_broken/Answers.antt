use Rattle.std.proofs.Common.{subst, sym, ◌∙◌}
use Rattle.scode_image.specs.declared.image.Image.{Image}
use Rattle.scode_verify.specs.Words.{AreSound}
use Rattle.scode_verify.proofs.Sounds.{sound}
use Rattle.scode_verify.proofs.verified.first_broken.Goals as goal

pub methods_broken-requires : goal.methods_broken-requires
methods_broken-requires c =
    subst (λ (i : Image). AreSound i) (sym c.in_ok-indexed.ensures)
    (sound c.args.image.now (sym c.in_ok-agree.ensures ∙ c.if-not-agree.false))
