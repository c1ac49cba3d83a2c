-- Reading an entry finds exactly what stands there.
use Rattle.std.proofs.Common.{◌≡◌, ℕ, ◌≤◌, ℤ, inl, inr, ◌==◌, Some, None, List, [], ◌∷◌, ◌++◌, length, refl, sym, subst, ◌∙◌, ap, arith, append_assoc}
use Rattle.std.proofs.lemmas.Bool.{eqb-true}
use Rattle.sed_wire.specs.Number.{SpellsNumber}
use Rattle.sed_wire.specs.Reading.{Reads}
use Rattle.replay_log.specs.Entry.{Entry, datagram, tick, SpellsDatagram, SpellsEntry, SpellsTick}
use Rattle.replay_log.specs.Reading.{number_at, moment_at, bytes_at, datagram_at, tick_at, entry_at}
use Rattle.replay_log.specs.Record.{BeginsNoEntry}
use Rattle.replay_log.proofs.NumberLemmas.{some_eq, split, step_found, number_at-complete, number_at-sound, moment_at-complete, moment_at-sound, bytes_at-complete, bytes_at-sound}

-- ---- what stands there is found

datagram-complete : (a b c d : ℕ) (port : ℕ) (bytes port_text count_text rest : List ℕ) → SpellsNumber 2 port port_text
    → SpellsNumber 2 (length bytes) count_text → length bytes ≤ 512
    → datagram_at (a ∷ b ∷ c ∷ d ∷ (port_text ++ (count_text ++ (bytes ++ rest))))
    ≡ Some (datagram (record { ip = a ∷ b ∷ c ∷ d ∷ []; port = port }) bytes, rest)
unfolding datagram_at
datagram-complete a b c d port bytes port_text count_text rest of_port of_count few =
    rw (
      number_at-complete 2 port port_text (count_text ++ (bytes ++ rest)) of_port,
      number_at-complete 2 (length bytes) count_text (bytes ++ rest) of_count,
      bytes_at-complete (length bytes) bytes rest refl few,
    ) refl

-- a datagram's text with what follows it, part by part
datagram-parts : (ip port count bytes rest : List ℕ) → (ip ++ (port ++ (count ++ bytes))) ++ rest
    ≡ ip ++ (port ++ (count ++ (bytes ++ rest)))
datagram-parts ip port count bytes rest = simp append_assoc

datagram_entry : (ip : List ℕ) (port : ℕ) (bytes text rest : List ℕ)
    → SpellsDatagram (record { ip = ip; port = port }) bytes text
    → entry_at (text ++ rest) ≡ Some (datagram (record { ip = ip; port = port }) bytes, rest)
unfolding entry_at
datagram_entry [] port bytes text rest spells = absurd (omega (arith, spells.four))
datagram_entry (a ∷ []) port bytes text rest spells = absurd (omega (arith, spells.four))
datagram_entry (a ∷ b ∷ []) port bytes text rest spells = absurd (omega (arith, spells.four))
datagram_entry (a ∷ b ∷ c ∷ []) port bytes text rest spells = absurd (omega (arith, spells.four))
datagram_entry (a ∷ b ∷ c ∷ d ∷ e ∷ more) port bytes text rest spells = absurd (omega (arith, spells.four))
datagram_entry (a ∷ b ∷ c ∷ d ∷ []) port bytes text rest spells =
    ap (λ (t : List ℕ). entry_at (t ++ rest)) spells.whole
    ∙ ap datagram_at (datagram-parts (a ∷ b ∷ c ∷ d ∷ []) spells.port spells.count bytes rest)
    ∙ datagram-complete a b c d port bytes spells.port spells.count rest spells.port_spelled spells.count_spelled
    spells.few

tick_entry : (moment : ℤ) (text rest : List ℕ) → SpellsTick moment text
    → entry_at (text ++ rest) ≡ Some (tick moment, rest)
unfolding entry_at tick_at
tick_entry moment text rest spells =
    ap (λ (t : List ℕ). entry_at (t ++ rest)) spells.whole
    ∙ rw (moment_at-complete moment spells.number rest spells.spelled) refl

pub entry_at-complete : (entry : Entry) (text rest : List ℕ) → SpellsEntry entry text
    → entry_at (text ++ rest) ≡ Some (entry, rest)
entry_at-complete (datagram sender bytes) text rest spells = datagram_entry sender.ip sender.port bytes text rest spells
entry_at-complete (tick moment) text rest spells = tick_entry moment text rest spells

-- ---- what is found stands there

datagram-sound : (bytes : List ℕ) (entry : Entry) (rest : List ℕ) → datagram_at bytes ≡ Some (entry, rest)
    → Reads SpellsEntry entry (100 ∷ bytes) rest
unfolding datagram_at
datagram-sound [] entry rest e = absurd cc
datagram-sound (a ∷ []) entry rest e = absurd cc
datagram-sound (a ∷ b ∷ []) entry rest e = absurd cc
datagram-sound (a ∷ b ∷ c ∷ []) entry rest e = absurd cc
datagram-sound (a ∷ b ∷ c ∷ d ∷ bytes) entry rest e =
    let port = step_found (number_at 2 bytes) _ (entry, rest) e in
    let count = step_found (number_at 2 port.0.1) _ (entry, rest) port.2 in
    let read = step_found (bytes_at count.0.0 count.0.1) _ (entry, rest) count.2 in
    let of_port = number_at-sound 2 bytes port.0.0 port.0.1 port.1 in
    let of_count = number_at-sound 2 port.0.1 count.0.0 count.0.1 count.1 in
    let next = bytes_at-sound count.0.0 count.0.1 read.0.0 read.0.1 read.1 in
    let ip : List ℕ = a ∷ b ∷ c ∷ d ∷ [] in
    let text : List ℕ = 100 ∷ (ip ++ (of_port.spelling ++ (of_count.spelling ++ read.0.0))) in
    let P : Entry × List ℕ → Type 0 = λ p. Reads SpellsEntry p.0 (100 ∷ a ∷ b ∷ c ∷ d ∷ bytes) p.1 in
    subst P (some_eq _ _ read.2)
    (record {
      spelling = text;
      spelled = record {
        port = of_port.spelling;
        count = of_count.spelling;
        port_spelled = of_port.spelled;
        count_spelled = subst (λ (n : ℕ). SpellsNumber 2 n of_count.spelling) (sym next.counted) of_count.spelled;
        four = refl;
        few = omega (arith, next.counted, next.few);
        whole = refl;
      };
      front = ap (λ (t : List ℕ). 100 ∷ (ip ++ t))
          (of_port.front ∙ ap (λ (t : List ℕ). of_port.spelling ++ t)
          (of_count.front ∙ ap (λ (t : List ℕ). of_count.spelling ++ t) next.front))
          ∙ sym (ap (λ (t : List ℕ). 100 ∷ t) (datagram-parts ip of_port.spelling of_count.spelling read.0.0 read.0.1));
    })

tick-sound : (bytes : List ℕ) (entry : Entry) (rest : List ℕ) → tick_at bytes ≡ Some (entry, rest)
    → Reads SpellsEntry entry (116 ∷ bytes) rest
unfolding tick_at
tick-sound bytes entry rest e =
    let read = step_found (moment_at bytes) _ (entry, rest) e in
    let found = moment_at-sound bytes read.0.0 read.0.1 read.1 in
    let P : Entry × List ℕ → Type 0 = λ p. Reads SpellsEntry p.0 (116 ∷ bytes) p.1 in
    subst P (some_eq _ _ read.2)
    (record {
      spelling = 116 ∷ found.spelling;
      spelled = record { number = found.spelling; spelled = found.spelled; whole = refl };
      front = ap (λ (t : List ℕ). 116 ∷ t) found.front;
    })

pub entry_at-sound : (bytes : List ℕ) (entry : Entry) (rest : List ℕ) → entry_at bytes ≡ Some (entry, rest)
    → Reads SpellsEntry entry bytes rest
unfolding entry_at
entry_at-sound [] entry rest e = absurd cc
entry_at-sound (letter ∷ bytes) entry rest e =
    elim (split (letter == 100) (datagram_at bytes) _ (Some (entry, rest)) e) [
      | inl is ↦
          let letter_is : letter ≡ 100 = eqb-true letter 100 is.0 in
          subst (λ (n : ℕ). Reads SpellsEntry entry (n ∷ bytes) rest) (sym letter_is)
          (datagram-sound bytes entry rest is.1)
      | inr other ↦ elim (split (letter == 116) (tick_at bytes) None (Some (entry, rest)) other.1) [
        | inl is ↦
            let letter_is : letter ≡ 116 = eqb-true letter 116 is.0 in
            subst (λ (n : ℕ). Reads SpellsEntry entry (n ∷ bytes) rest) (sym letter_is) (tick-sound bytes entry rest is.1)
        | inr none ↦ absurd (let n : None ≡ Some (entry, rest) = none.1 in cc)
      ]
    ]

-- where nothing is found no entry begins
pub entry_at-none : (bytes : List ℕ) → entry_at bytes ≡ None → BeginsNoEntry bytes
entry_at-none bytes none entry text follows spells front =
    let e : entry_at (text ++ follows) ≡ None = ap entry_at (sym front) ∙ none in
    let found = entry_at-complete entry text follows spells in
    absurd cc
