use Rattle.std.proofs.Common.{ℕ, ◌*◌, ◌/◌, ◌%◌, ◌^◌, ap, ◌∙◌}
use Rattle.std.proofs.Math.ListN.{set, get_or}
use Rattle.std.specs.Int.RustNames.{bit_or}
use Rattle.node_table.specs.Taken.{is_taken}
use Rattle.node_table.proofs.TakenLemmas.{take_same, take_others}
use Rattle.node_table.proofs.taken.Taken.take.Goals as goal

pub returns-clause-same : goal.returns-clause-same
returns-clause-same c =
    let after = λ (w b : ℕ). is_taken (set c.self.inside.words (w / 64) (bit_or (get_or c.self.inside.words (w / 64) 0) (1 * 2 ^ (b % 64) % 18446744073709551616))) c.args.id in
    ap (λ (w : ℕ). after w c.from-bit.result) c.from-word.ensures ∙ ap (after c.args.id) c.from-bit.ensures
    ∙ take_same c.self.inside.words c.args.id c.self.told c.requires

pub returns-clause-others : goal.returns-clause-others
returns-clause-others c = λ other ne.
    let after = λ (w b : ℕ). is_taken (set c.self.inside.words (w / 64) (bit_or (get_or c.self.inside.words (w / 64) 0) (1 * 2 ^ (b % 64) % 18446744073709551616))) other in
    ap (λ (w : ℕ). after w c.from-bit.result) c.from-word.ensures ∙ ap (after c.args.id) c.from-bit.ensures
    ∙ take_others c.self.inside.words c.args.id c.self.told c.requires other ne
    ∙ ap (λ words. is_taken words other) c.self.view_is
