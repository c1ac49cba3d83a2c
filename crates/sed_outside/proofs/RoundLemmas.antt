-- What one poll of a round leaves.
use Rattle.std.proofs.Common.{◌≡◌, ℕ, zero, suc, ◌-◌, ◌<◌, List, [], ◌∷◌, take, Option, Some, None, IfSome, refl, sym, ap, arith, sub-one}
use Rattle.std.specs.Option.{option_map}
use Rattle.sed_outside.specs.declared.addr.Addr.{Addr}
use Rattle.sed_outside.specs.declared.polling.Polling.{Polling}
use Rattle.sed_outside.specs.declared.polling.Polling.TheVariants.{Got, Nothing, Failed}
use Rattle.sed_outside.specs.declared.link.Polled.{Polled}
use Rattle.sed_outside.specs.declared.link.Polled.TheVariants as polled
use Rattle.sed_outside.specs.Link.{next_poll, later_polls, answered}
use Rattle.sed_outside.specs.Rounds.{heard, unheard, if_got, Hears, HearsNone, HearsWhereTold}

-- none is left
hears_end : (polls : List Polling) → HearsNone 0 polls polls
unfolding heard unheard
hears_end polls = record { none = refl; rest = refl }

-- a datagram came
hears_one : (left : ℕ) (polls : List Polling) (peer : Addr) (bytes : List ℕ) → 0 < left → Got peer bytes ≡ next_poll polls
    → Hears left polls peer bytes (left - 1) (later_polls polls)
unfolding heard unheard
hears_one zero polls peer bytes some came = absurd (omega (arith, some))
hears_one (suc left) polls peer bytes some came = rw (sub-one) record {
  next = ap (λ poll. if_got poll (λ datagram. datagram ∷ heard left (later_polls polls)) []) (sym came);
  rest = ap (λ poll. if_got poll (λ datagram. unheard left (later_polls polls)) (later_polls polls)) (sym came);
}

-- none came
hears_nothing : (left : ℕ) (polls : List Polling) → 0 < left → Nothing ≡ next_poll polls → HearsNone left polls (later_polls polls)
unfolding heard unheard
hears_nothing zero polls some came = absurd (omega (arith, some))
hears_nothing (suc left) polls some came = record {
  none = ap (λ poll. if_got poll (λ datagram. datagram ∷ heard left (later_polls polls)) []) (sym came);
  rest = ap (λ poll. if_got poll (λ datagram. unheard left (later_polls polls)) (later_polls polls)) (sym came);
}

-- the poll failed
hears_failed : (left : ℕ) (polls : List Polling) → 0 < left → Failed ≡ next_poll polls → HearsNone left polls (later_polls polls)
unfolding heard unheard
hears_failed zero polls some came = absurd (omega (arith, some))
hears_failed (suc left) polls some came = record {
  none = ap (λ poll. if_got poll (λ datagram. datagram ∷ heard left (later_polls polls)) []) (sym came);
  rest = ap (λ poll. if_got poll (λ datagram. unheard left (later_polls polls)) (later_polls polls)) (sym came);
}

-- the same, where the polls may not be told
pub next_at_end : (told : Option (List Polling)) (bytes : List ℕ) → HearsWhereTold 0 told None bytes 0 told
next_at_end None bytes = tt
next_at_end (Some polls) bytes = hears_end polls

pub next_got : (left : ℕ) (told told' : Option (List Polling)) (answer : Polled) (peer : Addr) (len : ℕ) (bytes : List ℕ)
    → 0 < left → answer ≡ polled.Got peer len → IfSome told (λ polls. answered answer bytes ≡ next_poll polls) → told' ≡ option_map later_polls told
    → HearsWhereTold left told (Some (peer, len)) bytes (left - 1) told'
next_got left None told' answer peer len bytes some is given later = rw later tt
next_got left (Some polls) told' answer peer len bytes some is given later =
    rw later (hears_one left polls peer (take len bytes) some (rw is at given))

pub next_nothing : (left : ℕ) (told told' : Option (List Polling)) (answer : Polled) (bytes : List ℕ)
    → 0 < left → answer ≡ polled.Nothing → IfSome told (λ polls. answered answer bytes ≡ next_poll polls) → told' ≡ option_map later_polls told
    → HearsWhereTold left told None bytes 0 told'
next_nothing left None told' answer bytes some is given later = rw later tt
next_nothing left (Some polls) told' answer bytes some is given later = rw later (hears_nothing left polls some (rw is at given))

pub next_failed : (left : ℕ) (told told' : Option (List Polling)) (answer : Polled) (bytes : List ℕ)
    → 0 < left → answer ≡ polled.Failed → IfSome told (λ polls. answered answer bytes ≡ next_poll polls) → told' ≡ option_map later_polls told
    → HearsWhereTold left told None bytes 0 told'
next_failed left None told' answer bytes some is given later = rw later tt
next_failed left (Some polls) told' answer bytes some is given later = rw later (hears_failed left polls some (rw is at given))

pub ruleset next_ones = (next_at_end, next_got, next_nothing, next_failed)
