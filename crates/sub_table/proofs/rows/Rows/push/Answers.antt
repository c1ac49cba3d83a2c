use Rattle.std.proofs.Common.{ℕ, ◌<◌, ◌+◌, ◌-◌, List, [], ◌∷◌, ◌++◌, Option, None, length, replicate, sym, ◌∙◌, ap, subst}
use Rattle.sub_table.specs.Rows.{Texts, text_at}
use Rattle.sub_table.proofs.RowLemmas.{push_others}
use Rattle.sub_table.proofs.rows.Rows.push.Goals as goal

pub returns-clause-others : goal.returns-clause-others
returns-clause-others c = λ row within.
    let t : Texts = record { lengths = c.self.inside.lengths.items; bytes = c.self.inside.bytes.items; width = c.self.inside.width } in
    let inside : row < length t.lengths = subst (λ (q : Texts). row < length q.lengths) (sym c.self.view_is) within in
    ap (λ (lengths : List (Option ℕ)). text_at (record { lengths = lengths; bytes = c.fill.new.bytes.items; width = t.width }) row) c.push_reserved.ensures.items
    ∙ ap (λ (bytes : List ℕ). text_at (record { lengths = t.lengths ++ None ∷ []; bytes = bytes; width = t.width }) row) c.fill.ensures.items
    ∙ push_others t c.self.inside.lengths.cap c.self.inside.bytes.cap c.self.invariant (replicate (c.len.result + c.from.result - c.self.inside.bytes.len) 0) row inside
    ∙ ap (λ (q : Texts). text_at q row) c.self.view_is
