-- A cycle of an application, and its begin.
use Rattle.std.specs.Prelude.{ℕ, ℤ, List}
use Rattle.std.specs.List.{fold}
use Rattle.sed_engine.specs.declared.call.Callback.TheVariants.{Start}
use Rattle.sed_engine.specs.Code.{Meaning}
use Rattle.comp_tree.specs.Application.{Application, Link}
use Rattle.comp_tree.specs.Calls.{Counted, call_each, execute_at, then_run}
use Rattle.comp_tree.specs.Links.{copy_into}
use Rattle.comp_tree.specs.Order.{depth_first}

-- an application, and how many root calls have trapped on the way to it
pub record Cycled : Type 0 where
  pub application : Application
  pub traps : ℕ

abbrev pub with_links : List Link → Counted → Cycled
with_links links s = record { application = record { components = s.left; links = links }; traps = s.traps }

-- what happens at a component: the links into it are copied, and then it is executed
abbrev pub visit : Meaning → List Link → ℕ → ℤ → Counted → ℕ → Counted
visit m links turns moment s id = then_run (copy_into m links turns moment s id) (λ a. execute_at m a id turns moment)

-- a cycle visits the components depth first
abbrev pub Cycle : Meaning → Application → ℕ → ℤ → Cycled
Cycle m a turns moment =
    with_links a.links
    (fold (visit m a.links turns moment) (record { left = a.components; traps = 0 }) (depth_first a.components.by_id))

-- `start` of each component, depth first
abbrev pub Begin : Meaning → Application → ℕ → ℤ → Cycled
Begin m a turns moment =
    with_links a.links (call_each m Start turns moment a.components (depth_first a.components.by_id))
