use Rattle.std.proofs.Common.{◌∙◌, ◌++◌, ℕ, List, length, ap, drop}
use Rattle.std.proofs.lemmas.List.{take-replicate, drop-replicate}
use Rattle.sed_engine.proofs.strs.with_zeros.Goals as goal

pub returns : goal.returns
returns c =
    let bytes = c.args.bytes.now in
    let size = c.args.size in
    c.new.ensures
    ∙ c.copy_front.ensures
    ∙ ap (λ (zeros : List ℕ). bytes ++ drop (length bytes) zeros) (take-replicate size 255 0 c.requires.most)
    ∙ ap (λ (zeros : List ℕ). bytes ++ zeros) (drop-replicate (length bytes) size 0)
