use Rattle.std.proofs.Common.{◌∙◌, ℕ, drop, take, sym, ap}
use Rattle.std.proofs.Math.Seq.{take-length}
use Rattle.std.proofs.lemmas.List.{length-drop}
use Rattle.sed_node.proofs.kept.rest_of.Goals as goal

pub returns : goal.returns
returns c = ap (λ (k : ℕ). take k (drop c.args.at c.args.bytes.now)) (sym (length-drop c.args.at c.args.bytes.now))
    ∙ take-length (drop c.args.at c.args.bytes.now)
