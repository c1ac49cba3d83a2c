use Rattle.std.proofs.Common.{rules, ℕ, ◌≡◌, ◌<◌, false, List, length, sym, ◌∙◌, ap, subst, arith}
use Rattle.std.proofs.Math.ListN.{set}
use Rattle.sub_table.specs.Holders.{Held, AreInverse, is_member}
use Rattle.sub_table.proofs.HolderLemmas.{is_room, inverse_insert}
use Rattle.sub_table.proofs.holders.Holders.insert.Goals as goal

pub overflow_cast-len : goal.overflow_cast-len
overflow_cast-len c =
    let fresh : is_member c.self.inside.subscribed c.args.number ≡ false = ap (λ (h : Held). is_member h.words c.args.number) c.self.view_is ∙ c.requires.fresh in
    let room = is_room c.self.inside.subscribed c.self.inside.rows.items c.self.inside.numbers.items c.self.inside.numbers.cap c.self.invariant c.args.number c.requires.few fresh in
    let len : c.len.result ≡ length c.self.inside.numbers.items = c.len.ensures ∙ c.self.inside.numbers.ok.0 in
    let fits : c.len.result < 65536 = omega arith in
    search rules

pub push_reserved-requires : goal.push_reserved-requires
push_reserved-requires c =
    let fresh : is_member c.self.inside.subscribed c.args.number ≡ false = ap (λ (h : Held). is_member h.words c.args.number) c.self.view_is ∙ c.requires.fresh in
    let room = is_room c.self.inside.subscribed c.self.inside.rows.items c.self.inside.numbers.items c.self.inside.numbers.cap c.self.invariant c.args.number c.requires.few fresh in
    let len = c.self.inside.numbers.ok.0 in
    let reserved = c.self.invariant.reserved in
    omega arith

pub invariant_of-self : goal.invariant_of-self
invariant_of-self c =
    let fresh : is_member c.self.inside.subscribed c.args.number ≡ false = ap (λ (h : Held). is_member h.words c.args.number) c.self.view_is ∙ c.requires.fresh in
    let len : c.len.result ≡ length c.self.inside.numbers.items = c.len.ensures ∙ c.self.inside.numbers.ok.0 in
    let inverse = inverse_insert c.self.inside.subscribed c.self.inside.rows.items c.self.inside.numbers.items c.self.inside.numbers.cap c.self.invariant c.args.number c.requires.few fresh
    c.insert.new.self c.push_reserved.new.self.cap (let same = c.push_reserved.ensures.capacity in omega arith) c.insert.ensures.same c.insert.ensures.others in
    subst (λ (row : ℕ). AreInverse c.insert.new.self (set c.self.inside.rows.items c.args.number row) c.push_reserved.new.self.items c.push_reserved.new.self.cap) (sym len)
    (subst (λ (numbers : List ℕ). AreInverse c.insert.new.self (set c.self.inside.rows.items c.args.number (length c.self.inside.numbers.items)) numbers c.push_reserved.new.self.cap) (sym c.push_reserved.ensures.items) inverse)

pub returns-clause-room : goal.returns-clause-room
returns-clause-room c =
    let fresh : is_member c.self.inside.subscribed c.args.number ≡ false = ap (λ (h : Held). is_member h.words c.args.number) c.self.view_is ∙ c.requires.fresh in
    let room = is_room c.self.inside.subscribed c.self.inside.rows.items c.self.inside.numbers.items c.self.inside.numbers.cap c.self.invariant c.args.number c.requires.few fresh in
    subst (λ (h : Held). h.count < 65536) c.self.view_is room
