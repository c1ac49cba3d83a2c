use Rattle.std.proofs.Common.{◌≡◌, ◌+◌, ◌∙◌, ap, length, arith}
use Rattle.scode_mem.proofs.Places.{every_place, place_more}
use Rattle.scode_mem.proofs.start.all_places.Goals as goal

pub loop-place-preserved : goal.loop-place-preserved
loop-place-preserved c =
    let was = c.loop-place.invariant in
    let long : length c.loop-place.places.items ≡ c.loop-place.place = (let many = was.as_many in omega arith) in
    record {
      as_many = (c.push_reserved.ensures.len ∙ ap (λ n. n + 1) was.as_many);
      room = (c.push_reserved.ensures.capacity ∙ was.room);
      each = place_more c.loop-place.places.items c.push_reserved.new.self.items c.loop-place.place long c.push_reserved.ensures.items was.each;
    }

pub returns-clause-places : goal.returns-clause-places
returns-clause-places c =
    let was = c.loop-place.invariant in
    let ended = c.loop-place-test.false in
    let within = c.loop-place.auto.place-end in
    every_place c.loop-place.places.items (let many = was.as_many in omega arith) (λ k lt. was.each k (omega arith))
