use Rattle.std.proofs.Common.{◌∙◌, ap}
use Rattle.scode_code.specs.Image as made
use Rattle.scode_compile.specs.Right.{HasRightImage}
use Rattle.scode_compile.proofs.compiled.Compiled.of.Goals as goal

pub invariant_of-result : goal.invariant_of-result
invariant_of-result c =
    let right : HasRightImage c.args.program = c.image_is_right.ensures c.requires.short in
    record {
      typed = c.requires.typed;
      short = c.requires.short;
      image_is = c.requires.image;
      means = ap made.meaning_of c.requires.image ∙ right.means;
    }
