use Rattle.sed_node.proofs.node.Node.datagram.Goals as goal

pub datagram-requires-clause-stands : goal.datagram-requires-clause-stands
datagram-requires-clause-stands g c = c.self.invariant

pub datagram-requires-clause-stores : goal.datagram-requires-clause-stores
datagram-requires-clause-stores g c = rw c.self.view_is c.requires.stores

pub invariant_of-self : goal.invariant_of-self
invariant_of-self g c =
    let stands = c.self.invariant in
    let heard = c.datagram.ensures.heard in
    (_, (c.datagram.ensures.delivers stands.0 heard.0 stands.1 heard.1).stands)

pub returns-clause-delivers : goal.returns-clause-delivers
returns-clause-delivers g c = rw (← c.self.view_is) c.datagram.ensures.delivers

pub returns-clause-stores : goal.returns-clause-stores
returns-clause-stores g c = rw (← c.self.view_is) c.datagram.ensures.stores
