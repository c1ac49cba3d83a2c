use Rattle.std.proofs.Common.{ℕ, ◌*◌, ◌/◌, ◌%◌, ◌^◌, ap, ◌∙◌}
use Rattle.std.proofs.Math.ListN.{set, get_or}
use Rattle.std.specs.Prelude.{bit_and}
use Rattle.std.specs.Int.{w64, bit_not}
use Rattle.node_table.specs.Taken.{is_taken}
use Rattle.node_table.proofs.TakenLemmas.{free_same, free_others}
use Rattle.node_table.proofs.taken.Taken.free.Goals as goal

pub returns-clause-same : goal.returns-clause-same
returns-clause-same c =
    let after = λ (w b : ℕ). is_taken (set c.self.inside.words (w / 64) (bit_and (get_or c.self.inside.words (w / 64) 0) (bit_not w64 (1 * 2 ^ (b % 64) % 18446744073709551616)))) c.args.id in
    ap (λ (w : ℕ). after w c.from-bit.result) c.from-word.ensures ∙ ap (after c.args.id) c.from-bit.ensures
    ∙ free_same c.self.inside.words c.args.id c.self.told c.requires

pub returns-clause-others : goal.returns-clause-others
returns-clause-others c = λ other ne.
    let after = λ (w b : ℕ). is_taken (set c.self.inside.words (w / 64) (bit_and (get_or c.self.inside.words (w / 64) 0) (bit_not w64 (1 * 2 ^ (b % 64) % 18446744073709551616)))) other in
    ap (λ (w : ℕ). after w c.from-bit.result) c.from-word.ensures ∙ ap (after c.args.id) c.from-bit.ensures
    ∙ free_others c.self.inside.words c.args.id c.self.told c.requires other ne
    ∙ ap (λ words. is_taken words other) c.self.view_is
