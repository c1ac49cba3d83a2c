-- Lines that are put one after another, and counts that go on.
use Rattle.std.proofs.Common.{◌≡◌, ◌∙◌, ◌<◌, ◌+◌, ℕ, inl, inr, List, [], ◌++◌, length, take}
use Rattle.std.proofs.Common.{sym, ap}
use Rattle.std.proofs.Common.{append_assoc, arith}
use Rattle.std.specs.Prelude.{Option, drop, min, slice_index_or}
use Rattle.std.proofs.lemmas.Bool.{cases_lt}
use Rattle.std.proofs.lemmas.Grind.{flat_map-append}
use Rattle.std.proofs.lemmas.List.{flat_map_more, take-append-drop, take_more}
use Rattle.std.proofs.Math.Nat.{min-eq_left, min-eq_right}
use Rattle.sed_outside.specs.Counts.{counted}
use Rattle.sed_outside.specs.Sink.{PutsFront, with_text}
use Rattle.printed_app.proofs.Sequence.{front}
pub use Rattle.printed_app.proofs.Sequence.{with_more, with_none}
use Rattle.dasp_session.specs.Outbox.{Datagram}
use Rattle.sed_node.specs.Running.{line_of, lines_of}

-- ---- text

pub puts_front : (text middle now : Option (List ℕ)) (first part rest all : List ℕ) → middle ≡ with_text text first
    → PutsFront middle now part → all ≡ first ++ (part ++ rest) → PutsFront text now all
puts_front text middle now first part rest all before put whole =
    let f = front put.0 first part rest in (
      f.0,
      put.1 ∙ ap (λ (t : Option (List ℕ)). with_text t (take put.0 part)) before
          ∙ with_more text first (take put.0 part) ∙ ap (with_text text) (f.1 ∙ ap (take f.0) (sym whole)),
    )

-- ---- lines

pub lines_more : (first later : List Datagram) → lines_of (first ++ later) ≡ lines_of first ++ lines_of later
lines_more first later = flat_map-append line_of first later

pub one_line_more : (sent : List Datagram) (place : ℕ) (other : Datagram) → place < length sent
    → lines_of (take (place + 1) sent) ≡ lines_of (take place sent) ++ line_of (slice_index_or sent place other)
one_line_more sent place other within =
    ap lines_of (take_more sent place other within)
    ∙ sym (flat_map_more line_of [] (take place sent) (slice_index_or sent place other))

pub lines_parted : (sent : List Datagram) (place : ℕ) (other : Datagram) → place < length sent
    → lines_of sent
    ≡ lines_of (take place sent)
    ++ (line_of (slice_index_or sent place other) ++ lines_of (drop (place + 1) sent))
lines_parted sent place other within =
    ap lines_of (sym (take-append-drop (place + 1) sent))
    ∙ lines_more (take (place + 1) sent) (drop (place + 1) sent)
    ∙ ap (λ (xs : List ℕ). xs ++ lines_of (drop (place + 1) sent)) (one_line_more sent place other within)
    ∙ append_assoc (lines_of (take place sent)) (line_of (slice_index_or sent place other))
    (lines_of (drop (place + 1) sent))

-- ---- counts

up_to : (most a b : ℕ) → min (min a most + b) most ≡ min (a + b) most
up_to most a b = elim (cases_lt most a) [
  | inl less ↦ ap (λ (n : ℕ). min (n + b) most) (min-eq_right (omega (arith, less)))
      ∙ min-eq_right (omega arith) ∙ sym (min-eq_right (omega (arith, less)))
  | inr le ↦ ap (λ (n : ℕ). min (n + b) most) (min-eq_left le)
]

-- what is counted beyond its end stays there
pub counted_more : (a b : ℕ) → counted (counted a + b) ≡ counted (a + b)
counted_more a b = up_to _ a b

-- a datagram that stands for none
pub nothing : Datagram
nothing = record { to = record { ip = []; port = 0 }; bytes = [] }
