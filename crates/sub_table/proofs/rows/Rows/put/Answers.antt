use Rattle.std.proofs.Common.{ℕ, ◌≡◌, ◌<◌, ◌≤◌, ◌*◌, List, Some, length, sym, ◌∙◌, ap, subst, arith}
use Rattle.std.proofs.Math.ListN.{set}
use Rattle.std.proofs.lemmas.List.{with_items_is}
use Rattle.sub_table.specs.Rows.{Texts, text_at}
use Rattle.sub_table.proofs.RowLemmas.{field, length-put_at, put_at, put_others}
use Rattle.sub_table.proofs.rows.Rows.put.Goals as goal

pub returns-clause-others : goal.returns-clause-others
returns-clause-others c = λ other ne.
    let event = c.args.event.now in
    let row = c.args.row in
    let t : Texts = record { lengths = c.self.inside.lengths.items; bytes = c.self.inside.bytes.items; width = c.self.inside.width } in
    let inside : row < length t.lengths = subst (λ (q : Texts). row < length q.lengths) (sym c.self.view_is) c.requires.few in
    let short : length event ≤ t.width = subst (λ (q : Texts). length event ≤ q.width) (sym c.self.view_is) c.requires.short in
    let fits = field t c.self.inside.lengths.cap c.self.inside.bytes.cap c.self.invariant row inside in
    let is : c.put_at.new.into ≡ put_at t.bytes (row * t.width) event =
    c.put_at.ensures
    ∙ ap (λ (b : List ℕ). put_at b (row * c.from.result) event) c.deref_mut.ensures.value
    ∙ ap (λ (w : ℕ). put_at t.bytes (row * w) event) c.from.ensures in
    let long : length c.put_at.new.into ≡ c.self.inside.bytes.len =
    ap length is ∙ length-put_at t.bytes event (row * t.width) (omega arith) ∙ sym c.self.inside.bytes.ok.0 in
    ap (λ (bytes : List ℕ). text_at (record { lengths = set t.lengths row (Some (length event)); bytes = bytes; width = t.width }) other)
    (with_items_is c.self.inside.bytes c.put_at.new.into long ∙ is)
    ∙ put_others t c.self.inside.lengths.cap c.self.inside.bytes.cap c.self.invariant row event inside short other ne
    ∙ ap (λ (q : Texts). text_at q other) c.self.view_is
