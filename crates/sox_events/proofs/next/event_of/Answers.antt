use Rattle.std.proofs.Common.{rules, ◌≡◌, true, false, is_some, refl, sym, ◌∙◌}
use Rattle.sub_table.specs.declared.part.Part.TheVariants.{Tree, Config, Runtime, Links}
use Rattle.sub_table.specs.Table.{at}
use Rattle.sox_events.specs.Due.{lives}
use Rattle.sox_events.proofs.AllIds.{not_false, not_true, passes_dead}
use Rattle.sox_events.proofs.FourParts.{first_stage, given_here, last_here, passed_here, stage_more}
use Rattle.sox_events.proofs.Counting.{counts_next, counts_none}
use Rattle.sox_events.proofs.Rooms.{room_kept}
use Rattle.sox_events.proofs.Passing.{lives_on}
use Rattle.sox_events.proofs.next.event_of.Goals as goal

pub event_of_part-tree-requires-clause-live : goal.event_of_part-tree-requires-clause-live
event_of_part-tree-requires-clause-live g c =
    let alive : c.is_dead.result ≡ false = search rules in
    not_false (lives g.E.Engine c.args.app.now c.args.id.0) (sym c.is_dead.ensures ∙ alive)

pub event_of_part-config-requires-clause-live : goal.event_of_part-config-requires-clause-live
event_of_part-config-requires-clause-live g c =
    let alive : c.is_dead.result ≡ false = search rules in
    let lives_there = not_false (lives g.E.Engine c.args.app.now c.args.id.0) (sym c.is_dead.ensures ∙ alive) in
    let passed : is_some c.event_of_part-tree.result ≡ false = search rules in
    lives_on g.E.Engine c.args.app.now c.event_of_part-tree.new.app
    ((passed_here g.E.Engine c.args.place _ _ c.event_of_part-tree.result passed c.event_of_part-tree.ensures.event).0.stays) c.args.id.0 ∙ lives_there

pub event_of_part-runtime-requires-clause-live : goal.event_of_part-runtime-requires-clause-live
event_of_part-runtime-requires-clause-live g c =
    let alive : c.is_dead.result ≡ false = search rules in
    let lives_there = not_false (lives g.E.Engine c.args.app.now c.args.id.0) (sym c.is_dead.ensures ∙ alive) in
    let passed : is_some c.event_of_part-tree.result ≡ false = search rules in
    let passed_2 : is_some c.event_of_part-config.result ≡ false = search rules in
    lives_on g.E.Engine c.args.app.now c.event_of_part-config.new.app
    ((passed_here g.E.Engine c.args.place _ _ c.event_of_part-config.result passed_2 c.event_of_part-config.ensures.event).0.stays
    ∙ (passed_here g.E.Engine c.args.place _ _ c.event_of_part-tree.result passed c.event_of_part-tree.ensures.event).0.stays) c.args.id.0 ∙ lives_there

pub event_of_part-requires-clause-live : goal.event_of_part-requires-clause-live
event_of_part-requires-clause-live g c =
    let alive : c.is_dead.result ≡ false = search rules in
    let lives_there = not_false (lives g.E.Engine c.args.app.now c.args.id.0) (sym c.is_dead.ensures ∙ alive) in
    let passed : is_some c.event_of_part-tree.result ≡ false = search rules in
    let passed_2 : is_some c.event_of_part-config.result ≡ false = search rules in
    let passed_3 : is_some c.event_of_part-runtime.result ≡ false = search rules in
    lives_on g.E.Engine c.args.app.now c.event_of_part-runtime.new.app
    ((passed_here g.E.Engine c.args.place _ _ c.event_of_part-runtime.result passed_3 c.event_of_part-runtime.ensures.event).0.stays
    ∙ (passed_here g.E.Engine c.args.place _ _ c.event_of_part-config.result passed_2 c.event_of_part-config.ensures.event).0.stays
    ∙ (passed_here g.E.Engine c.args.place _ _ c.event_of_part-tree.result passed c.event_of_part-tree.ensures.event).0.stays) c.args.id.0 ∙ lives_there

pub returns-then-is_dead-clause-event : goal.returns-then-is_dead-clause-event
returns-then-is_dead-clause-event g c =
    let dead : c.is_dead.result ≡ true = search rules in (
      passes_dead g.E.Engine c.args.app.now (at c.args.table.now) c.args.place c.args.id.0
          (not_true (lives g.E.Engine c.args.app.now c.args.id.0) (sym c.is_dead.ensures ∙ dead)),
      refl,
      refl,
    )

pub returns-then-is_dead-clause-compared : goal.returns-then-is_dead-clause-compared
returns-then-is_dead-clause-compared g c = counts_none c.args.place c.args.app.now (at c.args.table.now) c.args.compared.now

pub event_of_part-tree-requires-clause-room : goal.event_of_part-tree-requires-clause-room
event_of_part-tree-requires-clause-room g c = c.requires.room Tree

pub event_of_part-config-requires-clause-room : goal.event_of_part-config-requires-clause-room
event_of_part-config-requires-clause-room g c =
    room_kept g.E.Engine c.args.app.now c.event_of_part-tree.new.app c.args.table.now c.event_of_part-tree.new.table Config
    c.event_of_part-tree.ensures.meaning (c.event_of_part-tree.ensures.room Config) (c.requires.room Config)

pub event_of_part-runtime-requires-clause-room : goal.event_of_part-runtime-requires-clause-room
event_of_part-runtime-requires-clause-room g c =
    room_kept g.E.Engine c.args.app.now c.event_of_part-config.new.app c.args.table.now c.event_of_part-config.new.table Runtime
    (c.event_of_part-config.ensures.meaning ∙ c.event_of_part-tree.ensures.meaning)
    (c.event_of_part-config.ensures.room Runtime ∙ c.event_of_part-tree.ensures.room Runtime) (c.requires.room Runtime)

pub event_of_part-requires-clause-room : goal.event_of_part-requires-clause-room
event_of_part-requires-clause-room g c =
    room_kept g.E.Engine c.args.app.now c.event_of_part-runtime.new.app c.args.table.now c.event_of_part-runtime.new.table Links
    (c.event_of_part-runtime.ensures.meaning ∙ c.event_of_part-config.ensures.meaning ∙ c.event_of_part-tree.ensures.meaning)
    (c.event_of_part-runtime.ensures.room Links ∙ c.event_of_part-config.ensures.room Links ∙ c.event_of_part-tree.ensures.room Links) (c.requires.room Links)

pub returns-then-is_some-clause-event : goal.returns-then-is_some-clause-event
returns-then-is_some-clause-event g c =
    let some : is_some c.event_of_part-tree.result ≡ true = search rules in
    given_here g.E.Engine c.args.place c.args.id.0 Tree c.args.app.now c.args.app.now c.event_of_part-tree.new.app c.args.table.now c.args.table.now c.event_of_part-tree.new.table
    c.args.into.now c.args.into.now c.event_of_part-tree.new.into c.event_of_part-tree.result some
    (first_stage g.E.Engine c.args.place c.args.id.0 c.args.app.now c.args.table.now c.args.into.now) c.event_of_part-tree.ensures.event

pub returns-then-is_some-2-clause-event : goal.returns-then-is_some-2-clause-event
returns-then-is_some-2-clause-event g c =
    let passed : is_some c.event_of_part-tree.result ≡ false = search rules in
    let some : is_some c.event_of_part-config.result ≡ true = search rules in
    given_here g.E.Engine c.args.place c.args.id.0 Config c.args.app.now c.event_of_part-tree.new.app c.event_of_part-config.new.app c.args.table.now
    c.event_of_part-tree.new.table c.event_of_part-config.new.table c.args.into.now c.event_of_part-tree.new.into c.event_of_part-config.new.into c.event_of_part-config.result some
    (stage_more g.E.Engine c.args.place c.args.id.0 Tree c.args.app.now c.args.app.now c.event_of_part-tree.new.app c.args.table.now c.args.table.now
    c.event_of_part-tree.new.table c.args.into.now c.args.into.now c.event_of_part-tree.new.into
    (first_stage g.E.Engine c.args.place c.args.id.0 c.args.app.now c.args.table.now c.args.into.now)
    (passed_here g.E.Engine c.args.place _ _ c.event_of_part-tree.result passed c.event_of_part-tree.ensures.event))
    c.event_of_part-config.ensures.event

pub returns-then-is_some-3-clause-event : goal.returns-then-is_some-3-clause-event
returns-then-is_some-3-clause-event g c =
    let passed : is_some c.event_of_part-tree.result ≡ false = search rules in
    let passed_2 : is_some c.event_of_part-config.result ≡ false = search rules in
    let some : is_some c.event_of_part-runtime.result ≡ true = search rules in
    given_here g.E.Engine c.args.place c.args.id.0 Runtime c.args.app.now c.event_of_part-config.new.app c.event_of_part-runtime.new.app c.args.table.now
    c.event_of_part-config.new.table c.event_of_part-runtime.new.table c.args.into.now c.event_of_part-config.new.into c.event_of_part-runtime.new.into c.event_of_part-runtime.result some
    (stage_more g.E.Engine c.args.place c.args.id.0 Config c.args.app.now c.event_of_part-tree.new.app c.event_of_part-config.new.app c.args.table.now
    c.event_of_part-tree.new.table c.event_of_part-config.new.table c.args.into.now c.event_of_part-tree.new.into c.event_of_part-config.new.into
    (stage_more g.E.Engine c.args.place c.args.id.0 Tree c.args.app.now c.args.app.now c.event_of_part-tree.new.app c.args.table.now c.args.table.now
    c.event_of_part-tree.new.table c.args.into.now c.args.into.now c.event_of_part-tree.new.into
    (first_stage g.E.Engine c.args.place c.args.id.0 c.args.app.now c.args.table.now c.args.into.now)
    (passed_here g.E.Engine c.args.place _ _ c.event_of_part-tree.result passed c.event_of_part-tree.ensures.event))
    (passed_here g.E.Engine c.args.place _ _ c.event_of_part-config.result passed_2 c.event_of_part-config.ensures.event))
    c.event_of_part-runtime.ensures.event

pub returns-clause-event : goal.returns-clause-event
returns-clause-event g c =
    let passed : is_some c.event_of_part-tree.result ≡ false = search rules in
    let passed_2 : is_some c.event_of_part-config.result ≡ false = search rules in
    let passed_3 : is_some c.event_of_part-runtime.result ≡ false = search rules in
    last_here g.E.Engine c.args.place c.args.id.0 c.args.app.now c.event_of_part-runtime.new.app c.event_of_part.new.app c.args.table.now
    c.event_of_part-runtime.new.table c.event_of_part.new.table c.args.into.now c.event_of_part-runtime.new.into c.event_of_part.new.into c.event_of_part.result
    (stage_more g.E.Engine c.args.place c.args.id.0 Runtime c.args.app.now c.event_of_part-config.new.app c.event_of_part-runtime.new.app c.args.table.now
    c.event_of_part-config.new.table c.event_of_part-runtime.new.table c.args.into.now c.event_of_part-config.new.into c.event_of_part-runtime.new.into
    (stage_more g.E.Engine c.args.place c.args.id.0 Config c.args.app.now c.event_of_part-tree.new.app c.event_of_part-config.new.app c.args.table.now
    c.event_of_part-tree.new.table c.event_of_part-config.new.table c.args.into.now c.event_of_part-tree.new.into c.event_of_part-config.new.into
    (stage_more g.E.Engine c.args.place c.args.id.0 Tree c.args.app.now c.args.app.now c.event_of_part-tree.new.app c.args.table.now c.args.table.now
    c.event_of_part-tree.new.table c.args.into.now c.args.into.now c.event_of_part-tree.new.into
    (first_stage g.E.Engine c.args.place c.args.id.0 c.args.app.now c.args.table.now c.args.into.now)
    (passed_here g.E.Engine c.args.place _ _ c.event_of_part-tree.result passed c.event_of_part-tree.ensures.event))
    (passed_here g.E.Engine c.args.place _ _ c.event_of_part-config.result passed_2 c.event_of_part-config.ensures.event))
    (passed_here g.E.Engine c.args.place _ _ c.event_of_part-runtime.result passed_3 c.event_of_part-runtime.ensures.event))
    c.event_of_part.ensures.event

pub returns-then-is_some-2-clause-compared : goal.returns-then-is_some-2-clause-compared
returns-then-is_some-2-clause-compared g c =
    let passed : is_some c.event_of_part-tree.result ≡ false = search rules in
    counts_next c.args.place c.args.app.now c.event_of_part-tree.new.app c.event_of_part-config.new.app c.args.table.now c.event_of_part-tree.new.table c.args.compared.now c.event_of_part-tree.new.compared c.event_of_part-config.new.compared
    (passed_here g.E.Engine c.args.place _ _ c.event_of_part-tree.result passed c.event_of_part-tree.ensures.event).1
    c.event_of_part-tree.ensures.compared c.event_of_part-config.ensures.compared

pub returns-then-is_some-3-clause-compared : goal.returns-then-is_some-3-clause-compared
returns-then-is_some-3-clause-compared g c =
    let passed : is_some c.event_of_part-tree.result ≡ false = search rules in
    let passed_2 : is_some c.event_of_part-config.result ≡ false = search rules in
    counts_next c.args.place c.args.app.now c.event_of_part-config.new.app c.event_of_part-runtime.new.app c.args.table.now c.event_of_part-config.new.table c.args.compared.now c.event_of_part-config.new.compared c.event_of_part-runtime.new.compared
    ((passed_here g.E.Engine c.args.place _ _ c.event_of_part-config.result passed_2 c.event_of_part-config.ensures.event).1 ∙ (passed_here g.E.Engine c.args.place _ _ c.event_of_part-tree.result passed c.event_of_part-tree.ensures.event).1)
    (counts_next c.args.place c.args.app.now c.event_of_part-tree.new.app c.event_of_part-config.new.app c.args.table.now c.event_of_part-tree.new.table c.args.compared.now c.event_of_part-tree.new.compared c.event_of_part-config.new.compared
    (passed_here g.E.Engine c.args.place _ _ c.event_of_part-tree.result passed c.event_of_part-tree.ensures.event).1
    c.event_of_part-tree.ensures.compared c.event_of_part-config.ensures.compared) c.event_of_part-runtime.ensures.compared

pub returns-clause-compared : goal.returns-clause-compared
returns-clause-compared g c =
    let passed : is_some c.event_of_part-tree.result ≡ false = search rules in
    let passed_2 : is_some c.event_of_part-config.result ≡ false = search rules in
    let passed_3 : is_some c.event_of_part-runtime.result ≡ false = search rules in
    counts_next c.args.place c.args.app.now c.event_of_part-runtime.new.app c.event_of_part.new.app c.args.table.now c.event_of_part-runtime.new.table c.args.compared.now c.event_of_part-runtime.new.compared c.event_of_part.new.compared
    ((passed_here g.E.Engine c.args.place _ _ c.event_of_part-runtime.result passed_3 c.event_of_part-runtime.ensures.event).1 ∙ (passed_here g.E.Engine c.args.place _ _ c.event_of_part-config.result passed_2 c.event_of_part-config.ensures.event).1 ∙ (passed_here g.E.Engine c.args.place _ _ c.event_of_part-tree.result passed c.event_of_part-tree.ensures.event).1)
    (counts_next c.args.place c.args.app.now c.event_of_part-config.new.app c.event_of_part-runtime.new.app c.args.table.now c.event_of_part-config.new.table c.args.compared.now c.event_of_part-config.new.compared c.event_of_part-runtime.new.compared
    ((passed_here g.E.Engine c.args.place _ _ c.event_of_part-config.result passed_2 c.event_of_part-config.ensures.event).1 ∙ (passed_here g.E.Engine c.args.place _ _ c.event_of_part-tree.result passed c.event_of_part-tree.ensures.event).1)
    (counts_next c.args.place c.args.app.now c.event_of_part-tree.new.app c.event_of_part-config.new.app c.args.table.now c.event_of_part-tree.new.table c.args.compared.now c.event_of_part-tree.new.compared c.event_of_part-config.new.compared
    (passed_here g.E.Engine c.args.place _ _ c.event_of_part-tree.result passed c.event_of_part-tree.ensures.event).1
    c.event_of_part-tree.ensures.compared c.event_of_part-config.ensures.compared) c.event_of_part-runtime.ensures.compared) c.event_of_part.ensures.compared
