-- Runs, one behind the other.
use Rattle.std.proofs.Common.{◌≡◌, ℕ, List, [], ◌∷◌, ◌++◌, sym, ◌∙◌, ap, arith}
use Rattle.std.proofs.lemmas.List.{append_assoc}
use Rattle.sed_engine.specs.Code.{Meaning}
use Rattle.dasp_session.specs.Letters.{Letter}
use Rattle.node_events.specs.Node.{Node, Setup}
use Rattle.node_events.specs.Running.{Counts, Event, Reached, count_both, followed_by, nothing_yet, one_event, run}
use Rattle.node_events.specs.Saving.{Save}

abbrev counted : ℕ → ℕ → ℕ → Counts
counted ticks taken traps = record { ticks = ticks; taken = taken; traps = traps }

same_counts : (x y : Counts) → x.ticks ≡ y.ticks → x.taken ≡ y.taken → x.traps ≡ y.traps → x ≡ y
same_counts x y ticks taken traps =
    ap (λ (k : ℕ). counted k x.taken x.traps) ticks ∙ ap (λ (k : ℕ). counted y.ticks k x.traps) taken
    ∙ ap (λ (k : ℕ). counted y.ticks y.taken k) traps

abbrev reached : Node → List Letter → List Save → Counts → Reached
reached n sent saves counts = record { node = n; sent = sent; saves = saves; counts = counts }

behind_nothing : (n : Node) (r : Reached) → followed_by (nothing_yet n) r ≡ r
behind_nothing n r =
    ap (λ (counts : Counts). reached r.node r.sent r.saves counts)
    (same_counts (count_both (counted 0 0 0) r.counts) r.counts (omega arith) (omega arith) (omega arith))

grouped : (x y z : Reached) → followed_by x (followed_by y z) ≡ followed_by (followed_by x y) z
grouped x y z =
    ap (λ (sent : List Letter). reached z.node sent (x.saves ++ (y.saves ++ z.saves)) (count_both x.counts (count_both y.counts z.counts)))
    (sym (append_assoc x.sent y.sent z.sent))
    ∙ ap (λ (saves : List Save). reached z.node (x.sent ++ y.sent ++ z.sent) saves (count_both x.counts (count_both y.counts z.counts)))
    (sym (append_assoc x.saves y.saves z.saves))
    ∙ ap (λ (counts : Counts). reached z.node (x.sent ++ y.sent ++ z.sent) (x.saves ++ y.saves ++ z.saves) counts)
    (same_counts (count_both x.counts (count_both y.counts z.counts)) (count_both (count_both x.counts y.counts) z.counts) (omega arith) (omega arith) (omega arith))

pub run_both : (m : Meaning) (s : Setup) (n : Node) (first later : List Event)
    → run m s n (first ++ later) ≡ followed_by (run m s n first) (run m s (run m s n first).node later)
run_both m s n [] later = sym (behind_nothing n (run m s n later))
run_both m s n (event ∷ first) later =
    ap (followed_by (one_event m s n event)) (run_both m s (one_event m s n event).node first later)
    ∙ grouped (one_event m s n event) (run m s (one_event m s n event).node first)
    (run m s (run m s (one_event m s n event).node first).node later)
