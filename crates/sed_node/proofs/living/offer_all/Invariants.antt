use Rattle.std.proofs.Common.{◌≡◌, ◌≤◌, length, take}
use Rattle.std.specs.Prelude.{map}
use Rattle.sed_outside.specs.Told.{AddsWhereTold}
use Rattle.sed_node.specs.Living.{offered_at}
use Rattle.sed_node.proofs.living.offer_all.Given as goal

-- the datagrams before this place were offered
abbrev pub invariant-offers : goal.invariant-offers
invariant-offers g l = record {
  within : l.place ≤ length l.fn.outbox;
  offered : AddsWhereTold (g.L.Link.offered l.fn.link) (g.L.Link.offered l.link)
      (map (offered_at (g.L.Link.polled l.fn.link)) (take l.place l.fn.outbox));
  polls : g.L.Link.polls l.link ≡ g.L.Link.polls l.fn.link;
  polled : g.L.Link.polled l.link ≡ g.L.Link.polled l.fn.link;
  bound : g.L.Link.bound l.link ≡ g.L.Link.bound l.fn.link;
}
