-- Calls that fail by number.
use Rattle.std.specs.Prelude.{ℕ, ◌+◌, ◌-◌, ◌^◌, min, List, Contains}

-- The numbers of the calls that fail, and the number of the next call.
pub record Plan : Type 0 where
  pub numbers : List ℕ
  pub next : ℕ

-- The first call comes next.
abbrev pub begins_with : List ℕ → Plan
begins_with numbers = record { numbers = numbers; next = 0 }

-- The next call is one of those that fail.
abbrev pub FailsNow : Plan → Type 0
FailsNow plan = Contains plan.numbers plan.next

-- The plan once that call was counted. A number of 64 bits stands still at its end.
abbrev pub after_call : Plan → Plan
after_call plan = record { numbers = plan.numbers; next = min (plan.next + 1) (2 ^ 64 - 1) }
