-- How many polls had been made, and what was offered then, in the course of a run over a link and a clock.
use Rattle.std.proofs.Common.{◌≡◌, ◌∙◌, ◌≤◌, ◌+◌, ℕ, ℤ, zero, suc, List, [], ◌∷◌, ◌++◌, length, refl, sym, ap}
use Rattle.std.proofs.Common.{append_assoc, arith}
use Rattle.std.specs.Prelude.{map}
use Rattle.std.proofs.lemmas.List.{append-nil, flat_map_more, length-append}
use Rattle.sed_outside.specs.declared.datagram.Datagram.{Datagram as Heard}
use Rattle.sed_outside.specs.declared.offer.Offer.{Offer}
use Rattle.sed_outside.specs.Counts.{counted, counts_behind, one_more}
use Rattle.sed_outside.specs.Rounds.{LiveCycle, most_polls, polls_at, polls_of}
use Rattle.sed_engine.specs.Code.{Meaning}
use Rattle.dasp_session.specs.Letters.{Letter}
use Rattle.dasp_session.specs.Outbox.{AreTexts, Datagram}
use Rattle.node_events.specs.Node.{Node, Setup}
use Rattle.node_events.specs.Running.{Event, one_event, run, sent_by}
use Rattle.sed_node.specs.Living.{AreTextsByEvent, all_sent, offered_at, offers}

-- ---- a count

-- a count that has gone on by so many
pub record GoesOn (count by now : ℕ) : Type 0 where
  pub same : by ≡ 0 → now ≡ count
  pub more : 1 ≤ by → now ≡ counted (count + by)

pub goes_none : (count : ℕ) → GoesOn count 0 count
goes_none count = record { same = λ none. refl; more = λ some. absurd (omega (arith, some)) }

pub goes_one : (count by now then : ℕ) → GoesOn count by now → then ≡ one_more now → GoesOn count (suc by) then
goes_one count zero now then goes is = record {
  same = λ none. absurd (omega (arith, none));
  more = λ some. is ∙ ap one_more (goes.same refl);
}
goes_one count (suc by) now then goes is =
    let before : now ≡ counted (count + suc by) = goes.more (omega arith) in
    record {
      same = λ none. absurd (omega (arith, none));
      more = λ some. let e : then ≡ counted (count + suc (suc by)) = omega (arith, is, before) in e;
    }

pub goes_as : (count by other now : ℕ) → by ≡ other → GoesOn count by now → GoesOn count other now
goes_as count by other now is goes = record {
  same = λ none. goes.same (is ∙ none);
  more = λ some. goes.more (omega (arith, some, is)) ∙ ap (λ (k : ℕ). counted (count + k)) is;
}

-- ---- the polls

abbrev pub polls_in : List LiveCycle → ℕ
polls_in [] = 0
polls_in (cycle ∷ rounds) = polls_of cycle + polls_in rounds

-- of these cycles, and of one that has begun with these
abbrev pub polls_so_far : List LiveCycle → List Heard → ℕ
polls_so_far rounds begun = polls_in rounds + length begun

polls_in_more : (rounds : List LiveCycle) (cycle : LiveCycle) → polls_in (rounds ++ cycle ∷ [])
    ≡ polls_in rounds + polls_of cycle
polls_in_more [] cycle = omega arith
polls_in_more (first ∷ rounds) cycle = let more = polls_in_more rounds cycle in omega (arith, more)

pub goes_datagram : (polled now then : ℕ) (rounds : List LiveCycle) (begun : List Heard) (came : Heard)
    → GoesOn polled (polls_so_far rounds begun) now → then ≡ one_more now
    → GoesOn polled (polls_so_far rounds (begun ++ came ∷ [])) then
goes_datagram polled now then rounds begun came goes is =
    goes_as polled (suc (polls_so_far rounds begun)) (polls_so_far rounds (begun ++ came ∷ [])) then
    (let all = length-append begun (came ∷ []) in omega (arith, all))
    (goes_one polled (polls_so_far rounds begun) now then goes is)

-- of the cycle that has begun none is left, or one more was made
goes_round : (polled now then left : ℕ) (rounds : List LiveCycle) (begun : List Heard) (moment : ℤ)
    → GoesOn polled (polls_so_far rounds begun) now → length begun + left ≡ most_polls
    → (1 ≤ left → then ≡ one_more now) → (left ≡ 0 → then ≡ now)
    → GoesOn polled (polls_in rounds + polls_of (record { datagrams = begun; moment = moment })) then
goes_round polled now then zero rounds begun moment goes room some none =
    goes_as polled (polls_so_far rounds begun)
    (polls_in rounds + polls_of (record { datagrams = begun; moment = moment })) then (omega (arith, room))
    (record { same = λ e. none refl ∙ goes.same e; more = λ e. none refl ∙ goes.more e })
goes_round polled now then (suc left) rounds begun moment goes room some none =
    goes_as polled (suc (polls_so_far rounds begun))
    (polls_in rounds + polls_of (record { datagrams = begun; moment = moment })) then (omega (arith, room))
    (goes_one polled (polls_so_far rounds begun) now then goes (some (omega arith)))

pub goes_tick : (polled now then left : ℕ) (rounds : List LiveCycle) (begun : List Heard) (moment : ℤ)
    → GoesOn polled (polls_so_far rounds begun) now → length begun + left ≡ most_polls
    → (1 ≤ left → then ≡ one_more now) → (left ≡ 0 → then ≡ now)
    → GoesOn polled (polls_so_far (rounds ++ record { datagrams = begun; moment = moment } ∷ []) []) then
goes_tick polled now then left rounds begun moment goes room some none =
    let cycle : LiveCycle = record { datagrams = begun; moment = moment } in
    let all = polls_in_more rounds cycle in
    goes_as polled (polls_in rounds + polls_of cycle) (polls_so_far (rounds ++ cycle ∷ []) []) then (omega (arith, all))
    (goes_round polled now then left rounds begun moment goes room some none)

-- there is one behind each
pub some_begun : (rounds : List LiveCycle) (begun : List Heard) (came : Heard)
    → 1 ≤ polls_so_far rounds (begun ++ came ∷ [])
some_begun rounds begun came = let all = length-append begun (came ∷ []) in omega (arith, all)

pub some_done : (rounds : List LiveCycle) (cycle : LiveCycle) → 1 ≤ polls_so_far (rounds ++ cycle ∷ []) []
some_done rounds cycle = let all = polls_in_more rounds cycle in omega (arith, all)

-- ---- at which counts

abbrev pub counts_so_far : ℕ → List LiveCycle → List Heard → List ℕ
counts_so_far polled rounds begun =
    polls_at polled rounds ++ counts_behind (polled + polls_in rounds) (length begun)

behind_more : (count n : ℕ) → counts_behind count (suc n) ≡ counts_behind count n ++ counted (count + suc n) ∷ []
behind_more count zero = refl
behind_more count (suc n) =
    ap (λ (all : List ℕ). one_more count ∷ all)
    (behind_more (count + 1) n
    ∙ ap (λ (k : ℕ). counts_behind (count + 1) n ++ counted k ∷ [])
    (let e : (count + 1) + suc n ≡ count + suc (suc n) = omega arith in e))

abbrev counts_of : ℕ → LiveCycle → List ℕ
counts_of polled cycle = counts_behind polled (length cycle.datagrams) ++ counted (polled + polls_of cycle) ∷ []

polls_more : (polled : ℕ) (rounds : List LiveCycle) (cycle : LiveCycle)
    → polls_at polled (rounds ++ cycle ∷ []) ≡ polls_at polled rounds ++ counts_of (polled + polls_in rounds) cycle
unfolding polls_at
polls_more polled [] cycle =
    ap (λ (k : ℕ). counts_of k cycle) (let e : polled ≡ polled + 0 = omega arith in e)
polls_more polled (first ∷ rounds) cycle =
    let here = counts_behind polled (length first.datagrams) in
    let at = counted (polled + polls_of first) in
    let next = polled + polls_of first in
    ap (λ (all : List ℕ). here ++ at ∷ all) (polls_more next rounds cycle)
    ∙ sym (append_assoc here (at ∷ polls_at next rounds) (counts_of (next + polls_in rounds) cycle))
    ∙ ap (λ (k : ℕ). (here ++ at ∷ polls_at next rounds) ++ counts_of k cycle)
    (let e : (polled + polls_of first) + polls_in rounds ≡ polled + (polls_of first + polls_in rounds) = omega arith in
    e)

pub counts_datagram : (polled : ℕ) (rounds : List LiveCycle) (begun : List Heard) (came : Heard)
    → counts_so_far polled rounds (begun ++ came ∷ [])
    ≡ counts_so_far polled rounds begun ++ counted (polled + polls_so_far rounds (begun ++ came ∷ [])) ∷ []
counts_datagram polled rounds begun came =
    let all = polls_at polled rounds in
    let from = polled + polls_in rounds in
    let size : length (begun ++ came ∷ []) ≡ suc (length begun) = (let both =
    length-append begun (came ∷ []) in omega (arith, both)) in
    ap (λ (k : ℕ). all ++ counts_behind from k) size
    ∙ ap (λ (more : List ℕ). all ++ more) (behind_more from (length begun))
    ∙ sym (append_assoc all (counts_behind from (length begun)) (counted (from + suc (length begun)) ∷ []))
    ∙ ap (λ (k : ℕ). (all ++ counts_behind from (length begun)) ++ counted k ∷ [])
    (let e : from + suc (length begun) ≡ polled + polls_so_far rounds (begun ++ came ∷ []) = omega (arith, size) in e)

pub counts_tick : (polled : ℕ) (rounds : List LiveCycle) (begun : List Heard) (moment : ℤ)
    → counts_so_far polled (rounds ++ record { datagrams = begun; moment = moment } ∷ []) []
    ≡ counts_so_far polled rounds begun
    ++ counted (polled + polls_so_far (rounds ++ record { datagrams = begun; moment = moment } ∷ []) []) ∷ []
counts_tick polled rounds begun moment =
    let cycle : LiveCycle = record { datagrams = begun; moment = moment } in
    let from = polled + polls_in rounds in
    let both = polls_in_more rounds cycle in
    append-nil (polls_at polled (rounds ++ cycle ∷ [])) ∙ polls_more polled rounds cycle
    ∙ sym (append_assoc (polls_at polled rounds) (counts_behind from (length begun))
    (counted (from + polls_of cycle) ∷ []))
    ∙ ap (λ (k : ℕ). (polls_at polled rounds ++ counts_behind from (length begun)) ++ counted k ∷ [])
    (let e : from + polls_of cycle ≡ polled + polls_so_far (rounds ++ cycle ∷ []) [] = omega (arith, both) in e)

-- ---- what is offered then

pub offers_more : (counts : List ℕ) (sents : List (List Datagram)) (count : ℕ) (sent : List Datagram)
    → length counts ≡ length sents
    → offers (counts ++ count ∷ []) (sents ++ sent ∷ []) ≡ offers counts sents ++ map (offered_at count) sent
offers_more [] [] count sent same = append-nil (map (offered_at count) sent)
offers_more [] (other ∷ sents) count sent same = absurd (omega (arith, same))
offers_more (first ∷ counts) [] count sent same = absurd (omega (arith, same))
offers_more (first ∷ counts) (other ∷ sents) count sent same =
    ap (λ (all : List Offer). map (offered_at first) other ++ all)
    (offers_more counts sents count sent (let e : length counts ≡ length sents = omega (arith, same) in e))
    ∙ sym (append_assoc (map (offered_at first) other) (offers counts sents) (map (offered_at count) sent))

-- ---- what each event sent

pub sent_more : (m : Meaning) (s : Setup) (n : Node) (events : List Event) (event : Event)
    → sent_by m s n (events ++ event ∷ [])
    ≡ sent_by m s n events ++ (one_event m s (run m s n events).node event).sent ∷ []
sent_more m s n [] event = refl
sent_more m s n (first ∷ events) event =
    ap (λ (all : List (List Letter)). (one_event m s n first).sent ∷ all)
    (sent_more m s (one_event m s n first).node events event)

pub texts_by_event_more : (letters : List (List Letter)) (sents : List (List Datagram)) (more : List Letter)
    (sent : List Datagram) → AreTextsByEvent letters sents → AreTexts more sent
    → AreTextsByEvent (letters ++ more ∷ []) (sents ++ sent ∷ [])
texts_by_event_more [] [] more sent all one = (one, tt {0})
texts_by_event_more [] (other ∷ sents) more sent all one = absurd all
texts_by_event_more (first ∷ letters) [] more sent all one = absurd all
texts_by_event_more (first ∷ letters) (other ∷ sents) more sent all one =
    (all.0, texts_by_event_more letters sents more sent all.1 one)

pub all_sent_more : (sents : List (List Datagram)) (sent : List Datagram)
    → all_sent sents ++ sent ≡ all_sent (sents ++ sent ∷ [])
all_sent_more sents sent = flat_map_more (λ (sent : List Datagram). sent) [] sents sent
