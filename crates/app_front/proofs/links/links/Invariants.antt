use Rattle.std.proofs.Common.{◌-◌}
use Rattle.app_front.specs.LinkForm as form
use Rattle.app_front.proofs.EndedRows.{LeftTo}
use Rattle.app_front.proofs.links.links.Given as goal

-- what was read so far and what is still read make all of it
abbrev pub invariant-loop : goal.invariant-loop
invariant-loop l =
    LeftTo (λ k. k.from) form.link_behind form.links_begin l.items.items (l.most - l.counter) l.reader ((form.links l.most).reads l.initial.reader)
