use Rattle.std.proofs.Common.{◌<◌, List, [], ◌∷◌, ◌++◌, length, take, sym, ◌∙◌, ap, subst, arith, length-append}
use Rattle.dasp_session.specs.Outbox.{Datagram}
use Rattle.dasp_session.proofs.OutboxLemmas.{one-more, room-left, Sends-one}
use Rattle.dasp_session.proofs.outbox.Outbox.send.Goals as goal

pub index_mut-requires : goal.index_mut-requires
index_mut-requires c =
    let room : length (take c.self.inside.len c.self.inside.datagrams.items) < 512 = subst (λ (out : List Datagram). length out < 512) (sym c.self.view_is) c.requires.room in
    let left = room-left c.self.inside.datagrams.items c.self.inside.len c.self.invariant.0 c.self.invariant.1 room in
    omega (arith, c.self.invariant.0)

pub returns : goal.returns
returns c =
    let room : length (take c.self.inside.len c.self.inside.datagrams.items) < 512 = subst (λ (out : List Datagram). length out < 512) (sym c.self.view_is) c.requires.room in
    let behind =
    one-more c.self.inside.datagrams.items c.self.inside.len c.write.new.self c.self.invariant.0 room
    ∙ ap (λ (out : List Datagram). out ++ c.write.new.self ∷ []) c.self.view_is in
    record {
      sends = Sends-one _ c.write.new.self _ _ c.write.ensures.to c.write.ensures.bytes behind;
      count = ap length behind ∙ length-append c.args.self.now (c.write.new.self ∷ []);
    }
