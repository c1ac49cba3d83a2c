use Rattle.std.proofs.Common.{ℕ, List, ◌++◌, ap, ◌∙◌}
use Rattle.scode_image.proofs.Putting.{text_puts}
use Rattle.scode_image.proofs.put.put_text.Goals as goal

pub returns : goal.returns
returns c =
    text_puts c.args.characters.now _ _ _ (c.in_ok-extend_from_slice.ensures.items ∙ ap (λ (s : List ℕ). c.args.into.now.items ++ s) c.as_slice.ensures) c.in_ok-push.ensures.items
