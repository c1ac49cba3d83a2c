use Rattle.std.proofs.Common.{ℕ, List, ◌++◌, ◌∙◌, ap}
use Rattle.sed_outside.specs.declared.addr.Addr.{Addr}
use Rattle.std.specs.Int.{bytes_high_first}
use Rattle.replay_log.proofs.MessageLemmas.{datagram-put}
use Rattle.replay_log.proofs.making.put_datagram.Goals as goal

pub returns : goal.returns
returns c =
    datagram-put c.args.who c.args.bytes.now _ _ _ _ _ _ c.requires c.in_ok-push.ensures.items
    (c.in_ok-extend_from_slice.ensures.items
    ∙ ap (λ (s : Addr). c.push.new.self.items ++ s.ip) c.address-from.ensures)
    (c.in_ok-extend_from_slice-2.ensures.items
    ∙ ap (λ (t : List ℕ). c.extend_from_slice.new.self.items ++ t)
    (c.to_be_bytes.ensures ∙ ap (λ (s : Addr). bytes_high_first 2 s.port) c.address-from.ensures))
    (c.in_ok-extend_from_slice-3.ensures.items
    ∙ ap (λ (t : List ℕ). c.extend_from_slice-2.new.self.items ++ t) c.to_be_bytes-2.ensures)
    c.in_ok-extend_from_slice-4.ensures.items
