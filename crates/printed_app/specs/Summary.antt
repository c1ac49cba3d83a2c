-- The printed form of what a run came to.
use Rattle.std.specs.Prelude.{ℕ, List, ◌++◌, codes}
use Rattle.std.specs.Fmt.{decimal}
use Rattle.printed_app.specs.Printed.{line_end}
use Rattle.printed_app.specs.declared.summary.Summary.{Summary}

-- `NAME N`
abbrev pub count_line : List ℕ → ℕ → List ℕ
count_line name count = name ++ (codes " " ++ (decimal count ++ line_end))

abbrev pub summary_text : Summary → List ℕ
summary_text s =
    count_line (codes "cycles") s.cycles
    ++ (count_line (codes "in") s.taken
    ++ (count_line (codes "out") s.offered
    ++ (count_line (codes "traps") s.traps
    ++ count_line (codes "sessions") s.sessions)))
