-- A save is asked for where the App's `save` is invoked and nothing refuses it, and nowhere else.
use Rattle.std.proofs.Common.{◌≡◌, ℕ, List, [], Bool, true, false, inl, inr, refl, sym, ◌∙◌, ap, subst}
use Rattle.std.specs.Prelude.{ℤ, ◌↔◌, ◌&&◌, if◌then◌else◌, IsOk, IsTrue, Option, Some, None, Result, Ok, Err}
use Rattle.sed_value.specs.declared.refusal.Refusal.{Refusal}
use Rattle.sed_engine.specs.declared.engine.Engine.{Ghosts}
use Rattle.sed_engine.specs.Code.{Meaning}
use Rattle.comp_tree.specs.Application.{Application}
use Rattle.comp_tree.specs.Edit.{Edit, Edited, is_save}
use Rattle.comp_tree.specs.Refusals.{first_refusal}
use Rattle.link_prop.specs.Linked.{Linked, application_of}
use Rattle.sox_msg.specs.Answered.{Answered}
use Rattle.sox_msg.specs.Command.{Asked, add, read_part, delete, invoke, link, unlink, rename, reorder, read_slot, subscribe, unsubscribe, version, write, clear}
use Rattle.sox_serve.specs.Answer.{Answer, answer, answer_by, asks_for_save, command_of, may_want_memory, served_by}
use Rattle.sox_serve.specs.Replies.{reply_bytes}
use Rattle.sox_serve.specs.Table.{refusals_of}
use Rattle.sox_serve.specs.declared.served.Served.{Served}
use Rattle.sox_serve.specs.declared.served.Served.TheVariants.{Replied, SaveAsked, Subscribe, Unsubscribe, Deleted}
use Rattle.sox_serve.proofs.ByRow.{done_else, refused_first}
use Rattle.sox_serve.specs.Serves.{IsAnswered, Serves}

abbrev is_save_asked : Served → Bool
is_save_asked Replied = false
is_save_asked SaveAsked = true
is_save_asked (Subscribe id mask) = false
is_save_asked (Unsubscribe id mask) = false
is_save_asked Deleted = false

save_asked : (asks : Served) → is_save_asked asks ≡ true → asks ≡ SaveAsked
save_asked Replied is = absurd (cc)
save_asked SaveAsked is = refl
save_asked (Subscribe id mask) is = absurd (cc)
save_asked (Unsubscribe id mask) is = absurd (cc)
save_asked Deleted is = absurd (cc)

asked_or_not : (save : Bool) → is_save_asked (if save then SaveAsked else Replied) ≡ save
asked_or_not true = refl
asked_or_not false = refl

-- of what is done
done_asks : (asked : Asked) → is_save_asked (served_by asked) ≡ asks_for_save asked
done_asks (add parent kit kind name config) = refl
done_asks (read_part id part) = refl
done_asks (delete id) = refl
done_asks (invoke id slot argument) = asked_or_not (is_save id slot)
done_asks (link source from_slot target to_slot) = refl
done_asks (unlink source from_slot target to_slot) = refl
done_asks (rename id name) = refl
done_asks (reorder id children) = refl
done_asks (read_slot id slot) = refl
done_asks (subscribe id mask) = refl
done_asks (unsubscribe id mask) = refl
done_asks version = refl
done_asks (write id slot value) = refl
done_asks (clear id) = refl

-- a save wants no memory
save_wants_none : (asked : Asked) → (may_want_memory asked && asks_for_save asked) ≡ false
save_wants_none (add parent kit kind name config) = refl
save_wants_none (read_part id part) = refl
save_wants_none (delete id) = refl
save_wants_none (invoke id slot argument) = refl
save_wants_none (link source from_slot target to_slot) = refl
save_wants_none (unlink source from_slot target to_slot) = refl
save_wants_none (rename id name) = refl
save_wants_none (reorder id children) = refl
save_wants_none (read_slot id slot) = refl
save_wants_none (subscribe id mask) = refl
save_wants_none (unsubscribe id mask) = refl
save_wants_none version = refl
save_wants_none (write id slot value) = refl
save_wants_none (clear id) = refl

-- what is not refused is done
done_end : (a : Application) (asked : Asked) (end : Result Edited Refusal) → IsOk end → (answer_by a asked end).served ≡ served_by asked
done_end a asked (Ok edited) is = refl
done_end a asked (Err n) is = absurd (let no : false ≡ true = is in cc)

module _ (m : Meaning) (a : Application) (asked : Asked) (turns : ℕ) (moment : ℤ) where
  abbrev asks : Served
  asks = (answer m a asked turns moment).served

  done_served : first_refusal (refusals_of m a asked) ≡ None → asks ≡ served_by asked
  done_served none = done_end a asked (Edit m a (command_of asked) turns moment) (done_else m a asked turns moment none)

  refused_served : (refusal : Refusal) → first_refusal (refusals_of m a asked) ≡ Some refusal → asks ≡ Replied
  refused_served refusal is = ap (λ (x : Answer). x.served) (refused_first m a asked turns moment refusal is)

  saves_where : asks ≡ SaveAsked → IsTrue (asks_for_save asked) × (first_refusal (refusals_of m a asked) ≡ None)
  saves_where is = by_first (first_refusal (refusals_of m a asked)) refl
    where
      by_first : (first : Option Refusal) → first_refusal (refusals_of m a asked) ≡ first
          → IsTrue (asks_for_save asked) × (first_refusal (refusals_of m a asked) ≡ None)
      by_first None none = (sym (done_asks asked) ∙ ap is_save_asked (sym (done_served none) ∙ is), none)
      by_first (Some refusal) refused =
          absurd (let no : true ≡ false = ap is_save_asked (sym is ∙ refused_served refusal refused) in cc)

  where_saves : IsTrue (asks_for_save asked) → first_refusal (refusals_of m a asked) ≡ None → asks ≡ SaveAsked
  where_saves save none = done_served none ∙ save_asked (served_by asked) (done_asks asked ∙ save)

module _ {E : Type 0} (g : Ghosts E) (old new : Linked E) (asked : Asked) (number turns : ℕ) (moment : ℤ) (asks : Served) (bytes : List ℕ) (s : Serves g old new asked number turns moment asks bytes) where
  abbrev m : Meaning
  m = g.meaning old.tree.engine

  abbrev a : Application
  a = application_of g old

  -- want of memory asks for nothing
  is_answer : (given : Answer) → IsAnswered g old asked turns moment given → given.served ≡ SaveAsked → given ≡ answer m a asked turns moment
  is_answer given (inl is) asked_for = is
  is_answer given (inr lacks) asked_for =
      absurd (let no : true ≡ false = ap is_save_asked (sym asked_for ∙ ap (λ (x : Answer). x.served) lacks.wants.given_is) in cc)

  is_answer_of_save : (given : Answer) → IsAnswered g old asked turns moment given → IsTrue (asks_for_save asked) → given ≡ answer m a asked turns moment
  is_answer_of_save given (inl is) save = is
  is_answer_of_save given (inr lacks) save =
      absurd (let none : asks_for_save asked ≡ false = subst (λ (b : Bool). (b && asks_for_save asked) ≡ false) lacks.wants.may (save_wants_none asked) in
      let no : true ≡ false = sym save ∙ none in cc)

  pub saves : (asks ≡ SaveAsked) ↔ (IsTrue (asks_for_save asked) × (first_refusal (refusals_of m a asked) ≡ None))
  saves = (
    λ is. let given : s.given.served ≡ SaveAsked = sym s.gives.served ∙ is in
        saves_where m a asked turns moment (ap (λ (x : Answer). x.served) (sym (is_answer s.given s.is given)) ∙ given),
    λ allowed. s.gives.served ∙ ap (λ (x : Answer). x.served) (is_answer_of_save s.given s.is allowed.0) ∙ where_saves m a asked turns moment allowed.0 allowed.1,
  )

  -- and then nothing is changed, and there is no reply
  pub saving : ((answer m a asked turns moment).served ≡ SaveAsked → ((answer m a asked turns moment).application ≡ a) × ((answer m a asked turns moment).reply ≡ None))
      → asks ≡ SaveAsked → (application_of g new ≡ a) × (bytes ≡ [])
  saving law is =
      let given : s.given.served ≡ SaveAsked = sym s.gives.served ∙ is in
      let same : s.given ≡ answer m a asked turns moment = is_answer s.given s.is given in
      let kept = law (ap (λ (x : Answer). x.served) (sym same) ∙ given) in (
        s.gives.application ∙ ap (λ (x : Answer). x.application) same ∙ kept.0,
        s.gives.reply ∙ ap (λ (x : Answer). reply_bytes number x.reply) same ∙ ap (λ (r : Option Answered). reply_bytes number r) kept.1,
      )
