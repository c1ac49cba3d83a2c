use Rattle.std.proofs.Common.{ℕ, ◌≡◌, ◌-◌, true, length, sym, ◌∙◌, ap, subst, arith}
use Rattle.std.proofs.Math.ListN.{set, get_or}
use Rattle.std.proofs.lemmas.Grind.{get_or_default_zero}
use Rattle.sub_table.specs.Holders.{Held, AreInverse, IsMoved, is_member}
use Rattle.sub_table.proofs.HolderLemmas.{inverse_remove, moved_to}
use Rattle.sub_table.proofs.holders.Holders.remove.Goals as goal

there : (c : goal.After-from-3) → is_member c.self.inside.subscribed c.args.number ≡ true
there c = ap (λ (h : Held). is_member h.words c.args.number) c.self.view_is ∙ c.requires.subscribed

row_is : (c : goal.After-from-3) → c.index-row.result.now ≡ get_or c.self.inside.rows.items c.args.number 0
row_is c =
    c.index-row.ensures
    ∙ get_or_default_zero c.self.inside.rows.items c.args.number c.index-row.result.now (let many = c.self.invariant.many in let few = c.requires.few in omega arith)

mover_is : (c : goal.After-from-3) → c.index-last.result.now ≡ get_or c.self.inside.numbers.items (length c.self.inside.numbers.items - 1) 0
mover_is c =
    let len : c.len.result ≡ length c.self.inside.numbers.items = c.len.ensures ∙ c.self.inside.numbers.ok.0 in
    let some = c.self.invariant.bound c.args.number (there c) in
    c.index-last.ensures
    ∙ get_or_default_zero c.self.inside.numbers.items (c.len.result - 1) c.index-last.result.now (omega arith)
    ∙ ap (λ (n : ℕ). get_or c.self.inside.numbers.items (n - 1) 0) len

pub invariant_of-self : goal.invariant_of-self
invariant_of-self c =
    let numbers = c.self.inside.numbers.items in
    let row = c.index-row.result.now in
    let mover = c.index-last.result.now in
    let old : c.self.inside.numbers.len ≡ length numbers = c.self.inside.numbers.ok.0 in
    let new : c.swap_remove-removed.new.self.len ≡ length c.swap_remove-removed.new.self.items = c.swap_remove-removed.new.self.ok.0 in
    let at : c.from-2.result ≡ row = c.from-2.ensures in
    let inverse =
    inverse_remove c.self.inside.subscribed c.self.inside.rows.items numbers c.self.inside.numbers.cap c.self.invariant
    c.args.number row mover (there c) (row_is c) (mover_is c)
    c.remove.new.self c.swap_remove-removed.new.self.items c.swap_remove-removed.new.self.cap (let same = c.swap_remove-removed.ensures.capacity in omega arith)
    c.remove.ensures.same c.remove.ensures.others (let len = c.swap_remove-removed.ensures.len in omega arith)
    (λ inner.
    ap (λ (k : ℕ). get_or c.swap_remove-removed.new.self.items k 0) (sym at)
    ∙ c.swap_remove-removed.ensures.by_index.0 0 (omega arith)
    ∙ ap (λ (n : ℕ). get_or numbers (n - 1) 0) old
    ∙ sym (mover_is c))
    (λ k ne inner. c.swap_remove-removed.ensures.by_index.1 k 0 (λ e. ne (e ∙ at)) (omega arith)) in
    subst (λ (n : ℕ). AreInverse c.remove.new.self (set c.self.inside.rows.items n row) c.swap_remove-removed.new.self.items c.swap_remove-removed.new.self.cap) (sym c.from.ensures) inverse

pub returns-clause-moved : goal.returns-clause-moved
returns-clause-moved c = λ other ne member.
    let rows = c.self.inside.rows.items in
    let row = c.index-row.result.now in
    let mover = c.index-last.result.now in
    let was : is_member c.self.inside.subscribed other ≡ true = ap (λ (h : Held). is_member h.words other) c.self.view_is ∙ member in
    let moved = moved_to c.self.inside.subscribed rows c.self.inside.numbers.items c.self.inside.numbers.cap c.self.invariant c.args.number row mover (there c) (row_is c) (mover_is c) other ne was in
    let viewed = subst (λ (h : Held). IsMoved row h.count (get_or h.rows other 0) (get_or (set rows mover row) other 0)) c.self.view_is moved in
    let turned = subst (λ (n : ℕ). IsMoved row c.args.self.now.count (get_or c.args.self.now.rows other 0) (get_or (set rows n row) other 0)) (sym c.from.ensures) viewed in
    subst (λ (r : ℕ). IsMoved r c.args.self.now.count (get_or c.args.self.now.rows other 0) (get_or (set rows c.from.result row) other 0)) (sym c.from-3.ensures) turned
