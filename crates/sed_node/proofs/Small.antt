-- What is asked of the subscriptions is of a live component, and of known parts.
use Rattle.std.proofs.Common.{◌≡◌, ◌<◌, ℕ, ℤ, Bool, true, false, inl, inr, List, [], ◌∷◌, refl, sym, ap, subst}
use Rattle.std.specs.Prelude.{not, is_ok, is_some, if◌then◌else◌, IfSome, Option, Some, None, Result, Ok, Err}
use Rattle.std.specs.FinMap as map
use Rattle.sed_value.specs.declared.refusal.Refusal.{Refusal}
use Rattle.sed_value.specs.declared.refusal.Refusal.TheVariants.{NoComponent}
use Rattle.sed_engine.specs.declared.engine.Engine.{Ghosts}
use Rattle.sed_engine.specs.Code.{Meaning}
use Rattle.comp_tree.specs.Application.{Application, Component, is_live, most_components}
use Rattle.comp_tree.specs.Edit.{Edit, Edited, done, unless_refused}
use Rattle.comp_tree.specs.Refusals.{first_refusal, refusals_of_clear}
use Rattle.comp_tree.specs.Whole.{Whole}
use Rattle.link_prop.specs.Linked.{Linked, application_of}
use Rattle.sox_msg.specs.Command.{Asked, CanBeAsked, add, read_part, delete, invoke, link, unlink, rename, reorder}
use Rattle.sox_msg.specs.Command.{read_slot, subscribe, unsubscribe, version, write, clear}
use Rattle.sox_serve.specs.Answer.{Answer, answer, answer_by, asks_for_save, command_of, served_by}
use Rattle.sox_serve.specs.declared.served.Served.{Served}
use Rattle.sox_serve.specs.declared.served.Served.TheVariants.{Replied, SaveAsked}
use Rattle.sox_serve.specs.Serves.{Serves}
use Rattle.sed_node.specs.Subscribing.{IsSmall}

module _ (m : Meaning) (a : Application) (whole : Whole m a) where
  -- an id of a live component is small
  live_small : (id : ℕ) → is_live a.components.by_id id ≡ true → id < 4096
  live_small id live = by_found (map.get a.components.by_id id) live (whole.ids id)
    where
      by_found : (o : Option Component) → is_some o ≡ true → IfSome o (λ (c : Component). id < most_components)
          → id < 4096
      by_found None live small = absurd (let no : false ≡ true = live in cc)
      by_found (Some c) live small = small

  -- what is not refused is of a live component
  allowed_small : (id : ℕ) (e : Edited) → unless_refused (first_refusal (refusals_of_clear a.components.by_id id))
      (done a) ≡ Ok e → id < 4096
  allowed_small id e is = by_live (is_live a.components.by_id id) refl is
    where
      by_live : (b : Bool) → is_live a.components.by_id id ≡ b
          → unless_refused (first_refusal ((not b, NoComponent) ∷ [])) (done a) ≡ Ok e → id < 4096
      by_live true live is = live_small id live
      by_live false dead is = absurd (let no : false ≡ true = ap is_ok is in cc)

  plain : (b : Bool) → IsSmall (if b then SaveAsked else Replied)
  plain true = tt {0}
  plain false = tt {0}

  done_small : (asked : Asked) (turns : ℕ) (moment : ℤ) (e : Edited) → CanBeAsked asked
      → Edit m a (command_of asked) turns moment ≡ Ok e → IsSmall (served_by asked)
  done_small (add parent kit kind name config) turns moment e can is = tt {0}
  done_small (read_part id part) turns moment e can is = tt {0}
  done_small (delete id) turns moment e can is = tt {0}
  done_small (invoke id slot argument) turns moment e can is = plain (asks_for_save (invoke id slot argument))
  done_small (link source from_slot target to_slot) turns moment e can is = tt {0}
  done_small (unlink source from_slot target to_slot) turns moment e can is = tt {0}
  done_small (rename id name) turns moment e can is = tt {0}
  done_small (reorder id children) turns moment e can is = tt {0}
  done_small (read_slot id slot) turns moment e can is = tt {0}
  done_small (subscribe id mask) turns moment e can is = (allowed_small id e is, can.1)
  done_small (unsubscribe id mask) turns moment e can is = (allowed_small id e is, can.1)
  done_small version turns moment e can is = tt {0}
  done_small (write id slot value) turns moment e can is = tt {0}
  done_small (clear id) turns moment e can is = tt {0}

  pub answer_small : (asked : Asked) (turns : ℕ) (moment : ℤ) → CanBeAsked asked
      → IsSmall (answer m a asked turns moment).served
  answer_small asked turns moment can = by_edit (Edit m a (command_of asked) turns moment) refl
    where
      by_edit : (r : Result Edited Refusal) → Edit m a (command_of asked) turns moment ≡ r
          → IsSmall (answer_by a asked r).served
      by_edit (Ok e) is = done_small asked turns moment e can is
      by_edit (Err number) is = tt {0}

-- what a request asks once it was served
pub served_small : {E : Type 0} (g : Ghosts E) (old new : Linked E) (asked : Asked) (number turns : ℕ) (moment : ℤ)
    (served_as : Served) (bytes : List ℕ)
    → Whole (g.meaning old.tree.engine) (application_of g old) → CanBeAsked asked
    → Serves g old new asked number turns moment served_as bytes → IsSmall served_as
served_small g old new asked number turns moment served_as bytes whole can serves =
    subst IsSmall (sym serves.gives.served) (elim serves.is [
      | inl is ↦ subst (λ (x : Answer). IsSmall x.served) (sym is)
          (answer_small (g.meaning old.tree.engine) (application_of g old) whole asked turns moment can)
      | inr lacks ↦ subst (λ (x : Answer). IsSmall x.served) (sym lacks.wants.given_is) (tt {0})
    ])
