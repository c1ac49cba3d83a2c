use Rattle.std.proofs.Common.{◌≡◌, ℕ, length, refl, subst, arith, to_z-of_z}
use Rattle.std.specs.Prelude.{None, replicate}
use Rattle.dasp_session.specs.Keeping.{AllHold}
use Rattle.dasp_session.proofs.PlaceLemmas.{all-free}
use Rattle.dasp_session.proofs.sessions.Sessions.new.Goals as goal

pub returns : goal.returns
returns c =
    let sixteen : length c.loop.places.items ≡ 16 = omega (arith, c.loop.invariant.1, c.loop.invariant.3) in
    record {
      users = refl;
      secret = refl;
      made = refl;
      moment = to_z-of_z c.ranges.moment;
      places = subst (λ (n : ℕ). AllHold 0 c.loop.places.items (replicate n None)) sixteen (all-free 0 c.loop.places.items c.loop.invariant.0);
    }
