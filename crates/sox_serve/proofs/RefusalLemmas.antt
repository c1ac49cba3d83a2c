-- A reply that is a refusal is that of a command that is refused.
use Rattle.std.proofs.Common.{◌≡◌, ℕ, List, [], ◌∷◌, Bool, true, false, inl, inr, refl, sym, ◌∙◌, ap, subst}
use Rattle.std.specs.Prelude.{ℤ, ◌==◌, if◌then◌else◌, Some, None, Result, Ok, Err}
use Rattle.sed_value.specs.declared.refusal.Refusal.{Refusal}
use Rattle.sed_engine.specs.declared.engine.Engine.{Ghosts}
use Rattle.comp_tree.specs.Application.{Application}
use Rattle.comp_tree.specs.Edit.{Edit, Edited, Reply, Done, Added, Told}
use Rattle.link_prop.specs.Linked.{Linked, application_of}
use Rattle.sox_msg.specs.Answered as told
use Rattle.sox_msg.specs.Answered.{Answered, capital_in}
use Rattle.sox_msg.specs.Command.{Asked, add, read_part, delete, invoke, link, unlink, rename, reorder, read_slot, subscribe, unsubscribe, version, write, clear}
use Rattle.sox_serve.specs.Answer.{Answer, answer_by, answered_by, asks_for_save, command_of, done_with}
use Rattle.sox_serve.specs.Replies.{reply_bytes}
use Rattle.sox_serve.specs.declared.served.Served.{Served}
use Rattle.sox_serve.specs.Serves.{Gives, IsAnswered, Serves, answer_over}

-- no reply to what is done begins as a refusal does
done_is_capital : (asked : Asked) (reply : Reply) → (capital_in (answered_by asked reply) == 33) ≡ false
done_is_capital (add parent kit kind name config) Done = refl
done_is_capital (add parent kit kind name config) (Added id) = refl
done_is_capital (add parent kit kind name config) (Told bytes) = refl
done_is_capital (read_part id part) Done = refl
done_is_capital (read_part id part) (Added other) = refl
done_is_capital (read_part id part) (Told bytes) = refl
done_is_capital (delete id) reply = refl
done_is_capital (invoke id slot argument) reply = refl
done_is_capital (link source from_slot target to_slot) reply = refl
done_is_capital (unlink source from_slot target to_slot) reply = refl
done_is_capital (rename id name) reply = refl
done_is_capital (reorder id children) reply = refl
done_is_capital (read_slot id slot) Done = refl
done_is_capital (read_slot id slot) (Added other) = refl
done_is_capital (read_slot id slot) (Told bytes) = refl
done_is_capital (subscribe id mask) reply = refl
done_is_capital (unsubscribe id mask) reply = refl
done_is_capital version Done = refl
done_is_capital version (Added other) = refl
done_is_capital version (Told bytes) = refl
done_is_capital (write id slot value) reply = refl
done_is_capital (clear id) reply = refl

abbrev pub first_byte : List ℕ → ℕ
first_byte [] = 0
first_byte (byte ∷ behind) = byte

begins_otherwise : (save : Bool) (answered : Answered) (number : ℕ) → (capital_in answered == 33) ≡ false
    → (first_byte (reply_bytes number (if save then None else Some answered)) == 33) ≡ false
begins_otherwise true answered number other = refl
begins_otherwise false answered number other = other

-- so where it is one, the command has changed nothing
stays_if_refused : (a : Application) (asked : Asked) (end : Result Edited Refusal) (number : ℕ) (refusal : Refusal)
    → reply_bytes number (answer_by a asked end).reply ≡ reply_bytes number (Some (told.refused refusal))
    → (answer_by a asked end).application ≡ a
stays_if_refused a asked (Err n) number refusal same = refl
stays_if_refused a asked (Ok edited) number refusal same =
    let refused : (first_byte (reply_bytes number (done_with asked edited).reply) == 33) ≡ true = ap (λ (bytes : List ℕ). first_byte bytes == 33) same in
    let other = begins_otherwise (asks_for_save asked) (answered_by asked edited.reply) number (done_is_capital asked edited.reply) in
    absurd (let no : true ≡ false = sym refused ∙ other in cc)

module _ {E : Type 0} (g : Ghosts E) (old new : Linked E) (asked : Asked) (number turns : ℕ) (moment : ℤ) (asks : Served) (bytes : List ℕ) (s : Serves g old new asked number turns moment asks bytes) where
  given_stays : (refusal : Refusal) → (given : Answer) → IsAnswered g old asked turns moment given
      → reply_bytes number given.reply ≡ reply_bytes number (Some (told.refused refusal)) → given.application ≡ application_of g old
  given_stays refusal given (inl is) same =
      ap (λ (x : Answer). x.application) is
      ∙ stays_if_refused (application_of g old) asked (Edit (g.meaning old.tree.engine) (application_of g old) (command_of asked) turns moment) number refusal
      (ap (λ (x : Answer). reply_bytes number x.reply) (sym is) ∙ same)
  given_stays refusal given (inr lacks) same = ap (λ (x : Answer). x.application) lacks.wants.given_is

  pub refused_stays : (refusal : Refusal) → bytes ≡ reply_bytes number (Some (told.refused refusal)) → application_of g new ≡ application_of g old
  refused_stays refusal same = s.gives.application ∙ given_stays refusal s.given s.is (sym s.gives.reply ∙ same)

  -- over a fixed engine it is the answer itself
  exactly : (given : Answer) → IsAnswered g old asked turns moment given → g.fixed old.tree.engine ≡ true → given ≡ answer_over g old asked turns moment
  exactly given (inl is) fixed = is
  exactly given (inr lacks) fixed = absurd (let no : true ≡ false = sym fixed ∙ lacks.not_fixed in cc)

  pub exactly_served : g.fixed old.tree.engine ≡ true → Gives g old new asks bytes number (answer_over g old asked turns moment)
  exactly_served fixed = subst (λ (given : Answer). Gives g old new asks bytes number given) (exactly s.given s.is fixed) s.gives
