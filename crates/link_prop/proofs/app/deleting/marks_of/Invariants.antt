use Rattle.std.proofs.Common.{◌≡◌, ◌==◌, ℕ, false, length, get_or, take}
use Rattle.std.specs.List.{list_any}
use Rattle.link_prop.proofs.app.deleting.marks_of.Given as goal

-- the ids before this one are marked, and no others
abbrev pub invariant-loop-id : goal.invariant-loop-id
invariant-loop-id l = record {
  size : length l.marks ≡ 4096;
  marked : (q : ℕ) → list_any (λ other. q == other) (take l.id-index l.ids) ≡ get_or l.marks q false;
}
