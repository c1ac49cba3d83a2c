use Rattle.std.proofs.Common.{◌<◌, ℕ, List, length, take, get_or, sym, ◌∙◌, ap, subst, arith}
use Rattle.std.proofs.lemmas.List.{get_or-take, get_or_default, length-take}
use Rattle.dasp_session.specs.Outbox.{Datagram}
use Rattle.dasp_session.proofs.outbox.Outbox.get.Goals as goal

within : (kept : List Datagram) (len place : ℕ) → place < length (take len kept) → (place < len) × (place < length kept)
within kept len place less = (omega (arith, length-take len kept), omega (arith, length-take len kept))

pub index-requires : goal.index-requires
index-requires c =
    let less = within c.self.inside.datagrams.items c.self.inside.len c.args.place
    (subst (λ (out : List Datagram). c.args.place < length out) (sym c.self.view_is) c.requires) in
    omega (arith, less.1)

pub returns-clause-is : goal.returns-clause-is
returns-clause-is c = λ other.
    let less = within c.self.inside.datagrams.items c.self.inside.len c.args.place
    (subst (λ (out : List Datagram). c.args.place < length out) (sym c.self.view_is) c.requires) in
    ap (λ (out : List Datagram). get_or out c.args.place other) (sym c.self.view_is)
    ∙ get_or-take c.self.inside.len c.self.inside.datagrams.items c.args.place other less.0
    ∙ get_or_default c.self.inside.datagrams.items c.args.place other c.index.result.now less.1
    ∙ sym c.index.ensures ∙ c.parts.ensures.is
