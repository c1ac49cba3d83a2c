use Rattle.std.proofs.Common.{ℕ, ◌≡◌, ◌≢◌, ◌<◌, ◌≤◌, ◌+◌, ◌-◌, ◌*◌, List, None, length, take, drop, sym, ◌∙◌, ap, subst, arith}
use Rattle.std.proofs.Math.ListN.{get_or}
use Rattle.std.proofs.lemmas.List.{with_items_is}
use Rattle.std.specs.Prelude.{◌==◌, if◌then◌else◌}
use Rattle.sub_table.specs.Rows.{Texts, text_at}
use Rattle.sub_table.proofs.RowLemmas.{field, last_field, length-put_at, move_to, move_to_is, put_at, remove_moves, reserved_remove}
use Rattle.sub_table.proofs.rows.Rows.remove.Goals as goal

abbrev texts : goal.After-truncate → Texts
texts c = record { lengths = c.self.inside.lengths.items; bytes = c.self.inside.bytes.items; width = c.self.inside.width }

abbrev end : goal.After-truncate → ℕ
end c = c.len.result - c.from-width.result

within : (c : goal.After-truncate) → c.args.row < length (texts c).lengths
within c = subst (λ (q : Texts). c.args.row < length q.lengths) (sym c.self.view_is) c.requires

end_is : (c : goal.After-truncate) → end c + (texts c).width ≡ length (texts c).bytes
end_is c =
    let row : c.args.row * (texts c).width + (texts c).width ≤ length (texts c).bytes = field (texts c) c.self.inside.lengths.cap c.self.inside.bytes.cap c.self.invariant c.args.row (within c) in
    let width : c.from-width.result ≡ (texts c).width = c.from-width.ensures in
    let len : c.len.result ≡ length (texts c).bytes = c.len.ensures ∙ c.self.inside.bytes.ok.0 in
    omega arith

fewer : (c : goal.After-truncate) → length c.swap_remove-removed.new.self.items + 1 ≡ length (texts c).lengths
fewer c =
    let new = c.swap_remove-removed.new.self.ok.0 in
    let old = c.self.inside.lengths.ok.0 in
    let len = c.swap_remove-removed.ensures.len in
    omega arith

here : (c : goal.After-truncate) → c.args.row + 1 < length (texts c).lengths → get_or c.swap_remove-removed.new.self.items c.args.row None ≡ get_or (texts c).lengths (length (texts c).lengths - 1) None
here c inner =
    let old = c.self.inside.lengths.ok.0 in
    c.swap_remove-removed.ensures.by_index.0 None (omega arith) ∙ ap (λ (n : ℕ). get_or (texts c).lengths (n - 1) None) old

elsewhere : (c : goal.After-truncate) → (k : ℕ) → k ≢ c.args.row → k + 1 < length (texts c).lengths → get_or c.swap_remove-removed.new.self.items k None ≡ get_or (texts c).lengths k None
elsewhere c k ne inner = let old = c.self.inside.lengths.ok.0 in c.swap_remove-removed.ensures.by_index.1 k None ne (omega arith)

pub invariant_of-self : goal.invariant_of-self
invariant_of-self c =
    let long : length c.truncate.new.self.items ≡ end c =
    (let new = c.truncate.new.self.ok.0 in let len = c.truncate.ensures.len in let old = c.self.inside.bytes.ok.0 in let e = end_is c in omega arith) in
    reserved_remove (texts c) c.self.inside.lengths.cap c.self.inside.bytes.cap c.self.invariant c.args.row (end c) c.swap_remove-removed.new.self.items
    (within c) (end_is c) (fewer c) (here c) (elsewhere c) c.truncate.new.self.items c.swap_remove-removed.new.self.cap c.truncate.new.self.cap long
    (let same = c.swap_remove-removed.ensures.capacity in omega arith) (let same = c.truncate.ensures.capacity in omega arith)

pub returns-clause-moved : goal.returns-clause-moved
returns-clause-moved c = λ other inner.
    let row = c.args.row in
    let t : Texts = texts c in
    let inside : other + 1 < length t.lengths = subst (λ (q : Texts). other + 1 < length q.lengths) (sym c.self.view_is) inner in
    let last : length (take t.width (drop (end c) t.bytes)) ≡ t.width =
    last_field t c.self.inside.lengths.cap c.self.inside.bytes.cap c.self.invariant row (end c) c.swap_remove-removed.new.self.items (within c) (end_is c) (fewer c) (here c) (elsewhere c) in
    let is : c.move_to.new.bytes ≡ put_at t.bytes (row * t.width) (take t.width (drop (end c) t.bytes)) =
    c.move_to.ensures
    ∙ ap (λ (b : List ℕ). move_to b (end c) (row * c.from-width.result) c.from-width.result) c.deref_mut.ensures.value
    ∙ ap (λ (w : ℕ). move_to t.bytes (end c) (row * w) w) c.from-width.ensures
    ∙ move_to_is t.bytes (end c) (row * t.width) t.width last in
    let fits = field t c.self.inside.lengths.cap c.self.inside.bytes.cap c.self.invariant row (within c) in
    let long : length c.move_to.new.bytes ≡ c.self.inside.bytes.len =
    ap length is ∙ length-put_at t.bytes (take t.width (drop (end c) t.bytes)) (row * t.width) (omega arith) ∙ sym c.self.inside.bytes.ok.0 in
    ap (λ (bytes : List ℕ). text_at (record { lengths = c.swap_remove-removed.new.self.items; bytes = bytes; width = t.width }) other)
    (c.truncate.ensures.items ∙ ap (take (end c)) (with_items_is c.self.inside.bytes c.move_to.new.bytes long ∙ is))
    ∙ remove_moves t c.self.inside.lengths.cap c.self.inside.bytes.cap c.self.invariant row (end c) c.swap_remove-removed.new.self.items (within c) (end_is c) (fewer c) (here c) (elsewhere c) other inside
    ∙ ap (λ (q : Texts). text_at q (if other == row then length q.lengths - 1 else other)) c.self.view_is
