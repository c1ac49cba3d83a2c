-- The cycles of a run over a link and a clock, in its course: what is heard and when, whatever these tell.
use Rattle.std.proofs.Common.{◌≡◌, ◌∙◌, ◌+◌, ℕ, ℤ, zero, suc, List, [], ◌∷◌, ◌++◌, length, take, refl, sym, ap}
use Rattle.std.proofs.Common.{subst, append_assoc, arith}
use Rattle.std.specs.Prelude.{map, Option, Some, None, IfSome, ⊤}
use Rattle.std.specs.List.{All, flat_map}
use Rattle.std.specs.Option.{option_map}
use Rattle.std.proofs.lemmas.List.{append-nil, length-append, map-append}
use Rattle.std.proofs.lemmas.List.Concat.{flat_map-cons}
use Rattle.std.proofs.lemmas.List.Elements.{All-nil, All-push}
use Rattle.std.proofs.lemmas.Grind.{flat_map-append}
use Rattle.sed_outside.specs.declared.addr.Addr.{Addr}
use Rattle.sed_outside.specs.declared.datagram.Datagram.{Datagram}
use Rattle.sed_outside.specs.declared.polling.Polling.{Polling}
use Rattle.sed_outside.specs.Clock.{Moments, later_moments, next_moment}
use Rattle.sed_outside.specs.Rounds.{HearsWhereTold, LiveCycle, heard, heard_in, most_polls, tick_moments, unheard}
use Rattle.replay_log.specs.Entry.{Entry, datagram, tick}
use Rattle.node_events.specs.LiveEvents.{entries_in, heard_as}
use Rattle.sed_node.specs.Living.{AreRounds, HasFew}

-- ---- the datagrams

abbrev pub datagrams_of : List LiveCycle → List (List Datagram)
datagrams_of rounds = map (λ (cycle : LiveCycle). cycle.datagrams) rounds

-- of so many cycles, where so many polls are left of the first one, which has begun with these
pub to_hear : ℕ → List Datagram → List Polling → ℕ → List (List Datagram)
to_hear left begun polls zero = []
to_hear left begun polls (suc n) = (begun ++ heard left polls) ∷ heard_in n (unheard left polls)

hears_begin : (n : ℕ) (polls : List Polling) → heard_in n polls ≡ to_hear most_polls [] polls n
unfolding heard_in to_hear
hears_begin zero polls = refl
hears_begin (suc n) polls = refl

-- those of the cycles that are done, and those that are to come, are those of all
pub AreHeard : Option (List Polling) → ℕ → List LiveCycle → List Datagram → ℕ → Option (List Polling) → ℕ → Type 0
AreHeard None cycles rounds begun left polls_now n = ⊤
AreHeard (Some polls) cycles rounds begun left None n = ⊥
AreHeard (Some polls) cycles rounds begun left (Some now) n =
    heard_in cycles polls ≡ datagrams_of rounds ++ to_hear left begun now n

hears_first : (polls : Option (List Polling)) (cycles : ℕ) → AreHeard polls cycles [] [] most_polls polls cycles
unfolding AreHeard
hears_first None cycles = tt {0}
hears_first (Some polls) cycles = hears_begin cycles polls

hears_datagram : (polls : Option (List Polling)) (cycles : ℕ) (rounds : List LiveCycle) (begun : List Datagram)
    (left left' : ℕ) (polls_now polls_then : Option (List Polling)) (n : ℕ) (from : Addr) (len : ℕ) (bytes : List ℕ)
    → AreHeard polls cycles rounds begun left polls_now (suc n)
    → HearsWhereTold left polls_now (Some (from, len)) bytes left' polls_then
    → AreHeard polls cycles rounds (begun ++ record { peer = from; bytes = take len bytes } ∷ []) left' polls_then (suc n)
unfolding AreHeard to_hear
hears_datagram None cycles rounds begun left left' polls_now polls_then n from len bytes are hears = tt {0}
hears_datagram (Some polls) cycles rounds begun left left' None polls_then n from len bytes are hears = absurd are
hears_datagram (Some polls) cycles rounds begun left left' (Some now) None n from len bytes are hears = absurd hears
hears_datagram (Some polls) cycles rounds begun left left' (Some now) (Some later) n from len bytes are hears =
    let came : Datagram = record { peer = from; bytes = take len bytes } in
    let rest = heard_in n (unheard left now) in
    are ∙ ap (λ (all : List Datagram). datagrams_of rounds ++ (begun ++ all) ∷ rest) hears.next
    ∙ ap (λ (all : List Datagram). datagrams_of rounds ++ all ∷ rest)
    (sym (append_assoc begun (came ∷ []) (heard left' later)))
    ∙ ap (λ (to_come : List Polling). datagrams_of rounds
    ++ ((begun ++ came ∷ []) ++ heard left' later) ∷ heard_in n to_come) hears.rest

hears_tick : (polls : Option (List Polling)) (cycles : ℕ) (rounds : List LiveCycle) (begun : List Datagram)
    (left left' : ℕ) (polls_now polls_then : Option (List Polling)) (n : ℕ) (bytes : List ℕ) (moment : ℤ)
    → AreHeard polls cycles rounds begun left polls_now (suc n)
    → HearsWhereTold left polls_now None bytes left' polls_then
    → AreHeard polls cycles (rounds ++ record { datagrams = begun; moment = moment } ∷ []) [] most_polls polls_then n
unfolding AreHeard to_hear
hears_tick None cycles rounds begun left left' polls_now polls_then n bytes moment are hears = tt {0}
hears_tick (Some polls) cycles rounds begun left left' None polls_then n bytes moment are hears = absurd are
hears_tick (Some polls) cycles rounds begun left left' (Some now) None n bytes moment are hears = absurd hears
hears_tick (Some polls) cycles rounds begun left left' (Some now) (Some later) n bytes moment are hears =
    let cycle : LiveCycle = record { datagrams = begun; moment = moment } in
    let rest = heard_in n (unheard left now) in
    are ∙ ap (λ (all : List Datagram). datagrams_of rounds ++ (begun ++ all) ∷ rest) hears.none
    ∙ ap (λ (all : List Datagram). datagrams_of rounds ++ all ∷ rest) (append-nil begun)
    ∙ ap (λ (to_come : List Polling). datagrams_of rounds ++ begun ∷ heard_in n to_come) hears.rest
    ∙ sym (append_assoc (datagrams_of rounds) (begun ∷ []) (heard_in n later))
    ∙ ap (λ (all : List (List Datagram)). all ++ heard_in n later)
    (sym (map-append (λ (cycle : LiveCycle). cycle.datagrams) rounds (cycle ∷ [])))
    ∙ ap (λ (all : List (List Datagram)). datagrams_of (rounds ++ cycle ∷ []) ++ all) (hears_begin n later)

hears_all : (polls : Option (List Polling)) (cycles : ℕ) (rounds : List LiveCycle) (begun : List Datagram) (left : ℕ)
    (polls_now : Option (List Polling)) → AreHeard polls cycles rounds begun left polls_now 0
    → IfSome polls (λ to_come. datagrams_of rounds ≡ heard_in cycles to_come)
unfolding AreHeard to_hear
hears_all None cycles rounds begun left polls_now are = tt {0}
hears_all (Some polls) cycles rounds begun left None are = absurd are
hears_all (Some polls) cycles rounds begun left (Some now) are = sym (are ∙ append-nil (datagrams_of rounds))

-- ---- the moments

abbrev pub moments_of : List LiveCycle → List ℤ
moments_of rounds = map (λ (cycle : LiveCycle). cycle.moment) rounds

pub AreGiven : Option Moments → ℕ → List LiveCycle → Option Moments → ℕ → Type 0
AreGiven None cycles rounds moments_now n = ⊤
AreGiven (Some moments) cycles rounds None n = ⊥
AreGiven (Some moments) cycles rounds (Some now) n =
    tick_moments cycles moments ≡ moments_of rounds ++ tick_moments n now

gives_first : (moments : Option Moments) (cycles : ℕ) → AreGiven moments cycles [] moments cycles
unfolding AreGiven
gives_first None cycles = tt {0}
gives_first (Some moments) cycles = refl

gives_tick : (moments : Option Moments) (cycles : ℕ) (rounds : List LiveCycle) (begun : List Datagram)
    (moments_now moments_then : Option Moments) (n : ℕ) (ticks : ℤ) → AreGiven moments cycles rounds moments_now (suc n)
    → IfSome moments_now (λ to_come. ticks ≡ next_moment to_come)
    → moments_then ≡ option_map later_moments moments_now
    → AreGiven moments cycles (rounds ++ record { datagrams = begun; moment = ticks } ∷ []) moments_then n
unfolding AreGiven tick_moments
gives_tick None cycles rounds begun moments_now moments_then n ticks are told later = tt {0}
gives_tick (Some moments) cycles rounds begun None moments_then n ticks are told later = absurd are
gives_tick (Some moments) cycles rounds begun (Some now) moments_then n ticks are told later =
    let cycle : LiveCycle = record { datagrams = begun; moment = ticks } in
    let rest = tick_moments n (later_moments now) in
    subst (λ (then : Option Moments). AreGiven (Some moments) cycles (rounds ++ cycle ∷ []) then n) (sym later)
    (are ∙ ap (λ (moment : ℤ). moments_of rounds ++ moment ∷ rest) (sym told)
    ∙ sym (append_assoc (moments_of rounds) (ticks ∷ []) rest)
    ∙ ap (λ (all : List ℤ). all ++ rest)
    (sym (map-append (λ (cycle : LiveCycle). cycle.moment) rounds (cycle ∷ []))))

gives_all : (moments : Option Moments) (cycles : ℕ) (rounds : List LiveCycle) (moments_now : Option Moments)
    → AreGiven moments cycles rounds moments_now 0
    → IfSome moments (λ to_come. moments_of rounds ≡ tick_moments cycles to_come)
unfolding AreGiven tick_moments
gives_all None cycles rounds moments_now are = tt {0}
gives_all (Some moments) cycles rounds None are = absurd are
gives_all (Some moments) cycles rounds (Some now) are = sym (are ∙ append-nil (moments_of rounds))

-- ---- all of it

-- So many cycles are to do: these are done, and of the one that has begun these are the datagrams, and so many polls are
-- left.
pub record InRounds (polls : Option (List Polling)) (moments : Option Moments) (cycles left : ℕ)
    (polls_now : Option (List Polling)) (moments_now : Option Moments) (to_do : ℕ) (rounds : List LiveCycle)
    (begun : List Datagram) (entries : List Entry) : Type 0 where
  pub as_many : length rounds + to_do ≡ cycles
  pub few : All HasFew rounds
  pub room : length begun + left ≡ most_polls
  pub over : to_do ≡ 0 → begun ≡ []
  pub heard_are : AreHeard polls cycles rounds begun left polls_now to_do
  pub moments_are : AreGiven moments cycles rounds moments_now to_do
  pub entries_are : entries ≡ flat_map entries_in rounds ++ map heard_as begun

pub rounds_none : (polls : Option (List Polling)) (moments : Option Moments) (cycles : ℕ)
    → InRounds polls moments cycles most_polls polls moments cycles [] [] []
rounds_none polls moments cycles = record {
  as_many = omega arith;
  few = All-nil HasFew;
  room = omega arith;
  over = λ none. refl;
  heard_are = hears_first polls cycles;
  moments_are = gives_first moments cycles;
  entries_are = refl;
}

pub rounds_datagram : (polls : Option (List Polling)) (moments : Option Moments) (cycles left left' : ℕ)
    (polls_now polls_then : Option (List Polling)) (moments_now : Option Moments) (n : ℕ) (rounds : List LiveCycle)
    (begun : List Datagram) (entries : List Entry) (from : Addr) (len : ℕ) (bytes : List ℕ) → left ≡ left' + 1
    → InRounds polls moments cycles left polls_now moments_now (suc n) rounds begun entries
    → HearsWhereTold left polls_now (Some (from, len)) bytes left' polls_then
    → InRounds polls moments cycles left' polls_then moments_now (suc n) rounds
    (begun ++ record { peer = from; bytes = take len bytes } ∷ []) (entries ++ datagram from (take len bytes) ∷ [])
rounds_datagram polls moments cycles left left' polls_now polls_then moments_now n rounds begun entries from len bytes
    less so_far hears =
    let room = so_far.room in
    let came : Datagram = record { peer = from; bytes = take len bytes } in
    record {
      as_many = so_far.as_many;
      few = so_far.few;
      room = omega (arith, less, room, length-append begun (came ∷ []));
      over = λ none. absurd (omega (arith, none));
      heard_are = hears_datagram polls cycles rounds begun left left' polls_now polls_then n from len bytes
          so_far.heard_are hears;
      moments_are = so_far.moments_are;
      entries_are = ap (λ (all : List Entry). all ++ datagram from (take len bytes) ∷ []) so_far.entries_are
          ∙ append_assoc (flat_map entries_in rounds) (map heard_as begun) (datagram from (take len bytes) ∷ [])
          ∙ ap (λ (all : List Entry). flat_map entries_in rounds ++ all)
          (sym (map-append heard_as begun (came ∷ [])));
    }

-- the entries of one more cycle
one_round : (rounds : List LiveCycle) (cycle : LiveCycle) → flat_map entries_in (rounds ++ cycle ∷ [])
    ≡ flat_map entries_in rounds ++ entries_in cycle
one_round rounds cycle =
    flat_map-append entries_in rounds (cycle ∷ [])
    ∙ ap (λ (all : List Entry). flat_map entries_in rounds ++ all)
    (flat_map-cons entries_in cycle [] ∙ append-nil (entries_in cycle))

pub rounds_tick : (polls : Option (List Polling)) (moments : Option Moments) (cycles left left' : ℕ)
    (polls_now polls_then : Option (List Polling)) (moments_now moments_then : Option Moments) (n : ℕ)
    (rounds : List LiveCycle) (begun : List Datagram) (entries : List Entry) (bytes : List ℕ) (ticks : ℤ)
    → InRounds polls moments cycles left polls_now moments_now (suc n) rounds begun entries
    → HearsWhereTold left polls_now None bytes left' polls_then
    → IfSome moments_now (λ to_come. ticks ≡ next_moment to_come)
    → moments_then ≡ option_map later_moments moments_now
    → InRounds polls moments cycles most_polls polls_then moments_then n
    (rounds ++ record { datagrams = begun; moment = ticks } ∷ []) [] (entries ++ tick ticks ∷ [])
rounds_tick polls moments cycles left left' polls_now polls_then moments_now moments_then n rounds begun entries bytes
    ticks so_far hears told later =
    let cycle : LiveCycle = record { datagrams = begun; moment = ticks } in
    let room = so_far.room in
    let as_many = so_far.as_many in
    record {
      as_many = omega (arith, as_many, length-append rounds (cycle ∷ []));
      few = All-push HasFew rounds cycle so_far.few (omega (arith, room));
      room = omega arith;
      over = λ none. refl;
      heard_are = hears_tick polls cycles rounds begun left left' polls_now polls_then n bytes ticks so_far.heard_are
          hears;
      moments_are = gives_tick moments cycles rounds begun moments_now moments_then n ticks so_far.moments_are told
          later;
      entries_are = ap (λ (all : List Entry). all ++ tick ticks ∷ []) so_far.entries_are
          ∙ append_assoc (flat_map entries_in rounds) (map heard_as begun) (tick ticks ∷ [])
          ∙ sym (one_round rounds cycle)
          ∙ sym (append-nil (flat_map entries_in (rounds ++ cycle ∷ [])));
    }

pub rounds_all : (polls : Option (List Polling)) (moments : Option Moments) (cycles left : ℕ)
    (polls_now : Option (List Polling)) (moments_now : Option Moments) (n : ℕ) (rounds : List LiveCycle)
    (begun : List Datagram) (entries : List Entry) → n ≡ 0
    → InRounds polls moments cycles left polls_now moments_now n rounds begun entries
    → AreRounds polls moments cycles rounds entries
rounds_all polls moments cycles left polls_now moments_now n rounds begun entries none so_far =
    let as_many = so_far.as_many in
    record {
      as_many = omega (arith, as_many, none);
      few = so_far.few;
      heard_are = hears_all polls cycles rounds begun left polls_now
          (subst (λ (k : ℕ). AreHeard polls cycles rounds begun left polls_now k) none so_far.heard_are);
      moments_are = gives_all moments cycles rounds moments_now
          (subst (λ (k : ℕ). AreGiven moments cycles rounds moments_now k) none so_far.moments_are);
      entries_are = so_far.entries_are
          ∙ ap (λ (begun : List Datagram). flat_map entries_in rounds ++ map heard_as begun) (so_far.over none)
          ∙ append-nil (flat_map entries_in rounds);
    }
