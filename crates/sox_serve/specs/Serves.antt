-- What a request leaves: the application, what is asked of the node, and the bytes of the reply.
use Rattle.std.specs.Prelude.{ℕ, ℤ, ◌≡◌, ◌⊎◌, Bool, true, false, IsTrue, List}
use Rattle.sed_engine.specs.declared.engine.Engine.{Ghosts}
use Rattle.comp_tree.specs.declared.new_component.NewComponent.{NewComponent}
use Rattle.link_prop.specs.Linked.{Linked, application_of}
use Rattle.link_prop.specs.Marks.{Tells}
use Rattle.sox_msg.specs.Command.{Asked, add, invoke, write}
use Rattle.sox_serve.specs.Answer.{Answer, WantsMemory, answer}
use Rattle.sox_serve.specs.Replies.{reply_bytes}
use Rattle.sox_serve.specs.declared.served.Served.{Served}
use Rattle.sox_serve.specs.declared.values.SlotInput.{SlotInput}

-- what a command to an application over an engine comes to, with so many turns for each root call, at a moment
abbrev pub answer_over : {E : Type 0} → Ghosts E → Linked E → Asked → ℕ → ℤ → Answer
answer_over g h asked turns moment = answer (g.meaning h.tree.engine) (application_of g h) asked turns moment

-- an answer is done: the application is the one after it, it is asked what the answer asks, and the reply to the
-- request of this number has these bytes. The code is the same, and whether the engine is fixed; and the marks tell
-- what has changed.
pub record Gives {E : Type 0} (g : Ghosts E) (old new : Linked E) (asks : Served)
    (bytes : List ℕ) (number : ℕ) (given : Answer) : Type 0 where
  pub application : application_of g new ≡ given.application
  pub served : asks ≡ given.served
  pub reply : bytes ≡ reply_bytes number given.reply
  pub meaning : g.meaning new.tree.engine ≡ g.meaning old.tree.engine
  pub steady : g.fixed new.tree.engine ≡ g.fixed old.tree.engine
  pub tells : Tells g old new

-- a new component that is asked for, without where its bytes lie in memory
abbrev pub added_as : NewComponent → Asked
added_as new = add new.parent.0 new.kit new.number new.name.now new.config.now

-- a value that is given for a property, and an argument that is given for an action, likewise
abbrev pub written_as : SlotInput → Asked
written_as input = write input.id.0 input.slot input.bytes.now

abbrev pub invoked_as : SlotInput → Asked
invoked_as input = invoke input.id.0 input.slot input.bytes.now

-- a new component
abbrev pub is_add : Asked → Bool
is_add (add parent kit kind name config) = true
is_add asked = false

-- want of memory in the place of an answer: an add alone wants some, since the room for all links is taken with the
-- application, and that only where the engine is not fixed
pub record LacksMemory {E : Type 0} (g : Ghosts E) (h : Linked E) (asked : Asked)
    (turns : ℕ) (moment : ℤ) (given : Answer) : Type 0 where
  pub add : IsTrue (is_add asked)
  pub not_fixed : g.fixed h.tree.engine ≡ false
  pub wants : WantsMemory (g.meaning h.tree.engine) (application_of g h) asked turns moment given

-- what a request is given: the answer of its command, or want of memory
abbrev pub IsAnswered : {E : Type 0} → Ghosts E → Linked E → Asked → ℕ → ℤ → Answer → Type 0
IsAnswered g h asked turns moment given = (given ≡ answer_over g h asked turns moment)
    ⊎ LacksMemory g h asked turns moment given

-- a request with this command and number is served: what it is given is done
pub record Serves {E : Type 0} (g : Ghosts E) (old new : Linked E)
    (asked : Asked) (number turns : ℕ) (moment : ℤ) (asks : Served) (bytes : List ℕ) : Type 0 where
  pub given : Answer
  pub is : IsAnswered g old asked turns moment given
  pub gives : Gives g old new asks bytes number given
