-- Pieces of a generated record, one behind the other.
use Rattle.std.proofs.Common.{◌≡◌, ℕ, ℤ, pos, List, [], ◌∷◌, ◌++◌, refl, sym, subst, ◌∙◌, ap, append_assoc}
use Rattle.std.proofs.lemmas.List.{append-nil}
use Rattle.dasp_msg.specs.Shown.{Message}
use Rattle.dasp_msg.specs.Sending.{IsSentAs}
use Rattle.replay_log.specs.declared.making.Making.{Making}
use Rattle.replay_log.specs.declared.making.Next.{Next}
use Rattle.replay_log.specs.declared.session.Session.{Session}
use Rattle.replay_log.specs.Entry.{Entry, datagram, tick}
use Rattle.replay_log.specs.Making.{Does, PutsEntry, PutsSteps}
use Rattle.replay_log.specs.Session.{address_of}
use Rattle.replay_log.specs.Step.{Act, asks, waits, AreLeft, Step, sends, ticks, asking, next_after, one_more, steps_of}
use Rattle.replay_log.proofs.RecordLemmas.{entries-join, entry_alone}

steps-append : (next : Next) (xs ys : List Act)
    → steps_of next (xs ++ ys) ≡ steps_of next xs ++ steps_of (next_after next xs) ys
steps-append next [] ys = refl
steps-append next (asks who command ∷ xs) ys =
    ap (λ (ss : List Step). asking who next command ∷ ss) (steps-append (one_more who next) xs ys)
steps-append next (waits moment ∷ xs) ys = ap (λ (ss : List Step). ticks moment ∷ ss) (steps-append next xs ys)

next-append : (next : Next) (xs ys : List Act) → next_after next (xs ++ ys) ≡ next_after (next_after next xs) ys
next-append next [] ys = refl
next-append next (asks who command ∷ xs) ys = next-append (one_more who next) xs ys
next-append next (waits moment ∷ xs) ys = next-append next xs ys

left-join : (ss ts : List Step) (es fs : List Entry) → AreLeft ss es → AreLeft ts fs → AreLeft (ss ++ ts) (es ++ fs)
left-join [] ts [] fs first second = second
left-join [] ts (e ∷ es) fs first second = absurd first
left-join (s ∷ ss) ts [] fs first second = absurd first
left-join (s ∷ ss) ts (e ∷ es) fs first second = (first.0, left-join ss ts es fs first.1 second)

-- ---- steps

pub puts-none : (old : List ℕ) → PutsSteps [] old old
puts-none old = record { entries = []; text = []; left = tt; spelled = refl; behind = sym (append-nil old) }

pub puts-then : (ss ts : List Step) (a b c : List ℕ) → PutsSteps ss a b → PutsSteps ts b c → PutsSteps (ss ++ ts) a c
puts-then ss ts a b c first second = record {
  entries = first.entries ++ second.entries;
  text = first.text ++ second.text;
  left = left-join ss ts first.entries second.entries first.left second.left;
  spelled = entries-join first.entries second.entries first.text second.text first.spelled second.spelled;
  behind = second.behind ∙ ap (λ (t : List ℕ). t ++ second.text) first.behind ∙ append_assoc a first.text second.text;
}

pub puts-tick : (moment : ℕ) (number : ℤ) (a b : List ℕ) → number ≡ pos moment → PutsEntry (tick number) a b
    → PutsSteps (ticks moment ∷ []) a b
puts-tick moment number a b is put = record {
  entries = tick number ∷ [];
  text = put.text;
  left = (is, tt);
  spelled = entry_alone (tick number) put.text put.spelled;
  behind = put.behind;
}

pub puts-message : (who : Session) (message : Message) (bytes a b : List ℕ) → IsSentAs message bytes
    → PutsEntry (datagram (address_of who) bytes) a b → PutsSteps (sends who message ∷ []) a b
puts-message who message bytes a b sent put = record {
  entries = datagram (address_of who) bytes ∷ [];
  text = put.text;
  left = ((refl, sent), tt);
  spelled = entry_alone (datagram (address_of who) bytes) put.text put.spelled;
  behind = put.behind;
}

-- ---- acts

pub does-none : (making : Making) → Does [] making making
does-none making = record { puts = puts-none making.text.items; counted = refl }

pub does-then : (xs ys : List Act) (a b c : Making) → Does xs a b → Does ys b c → Does (xs ++ ys) a c
does-then xs ys a b c first second =
    let behind : PutsSteps (steps_of (next_after a.next xs) ys) b.text.items c.text.items =
    subst (λ (n : Next). PutsSteps (steps_of n ys) b.text.items c.text.items) first.counted second.puts in
    record {
      puts = subst (λ (ss : List Step). PutsSteps ss a.text.items c.text.items) (sym (steps-append a.next xs ys))
          (puts-then (steps_of a.next xs) (steps_of (next_after a.next xs) ys) a.text.items b.text.items c.text.items
          first.puts behind);
      counted = second.counted ∙ ap (λ (n : Next). next_after n ys) first.counted ∙ sym (next-append a.next xs ys);
    }
