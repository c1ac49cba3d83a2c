-- What a call leaves is what the answer of its command says.
use Rattle.std.proofs.Common.{◌≡◌, ◌≢◌, ℕ, List, false, inl, inr, refl, sym, ◌∙◌, ap, subst}
use Rattle.std.specs.Prelude.{ℤ, ◌⊎◌, IsOk, Option, Some, None}
use Rattle.sed_value.specs.declared.refusal.Refusal.{Refusal}
use Rattle.sed_value.specs.declared.refusal.Refusal.TheVariants.{OutOfMemory}
use Rattle.sed_engine.specs.declared.engine.Engine.{Ghosts}
use Rattle.comp_tree.specs.Application.{Application}
use Rattle.comp_tree.specs.Edit.{Edit, Edited, class_or_none, over, unless_refused, Added}
use Rattle.comp_tree.specs.Edits.{after_add}
use Rattle.comp_tree.specs.Held.{components_of}
use Rattle.comp_tree.specs.Order.{least_free}
use Rattle.comp_tree.specs.Refusals.{first_refusal, refusals_of_add}
use Rattle.link_prop.specs.Linked.{Linked, application_of}
use Rattle.link_prop.specs.Marks.{Tells}
use Rattle.sox_msg.specs.Answered as told
use Rattle.sox_msg.specs.Command.{Asked, add}
use Rattle.sox_serve.specs.Answer.{Answer, WantsMemory, answer_by, command_of, done_with, refused_by}
use Rattle.sox_serve.specs.Replies.{reply_bytes}
use Rattle.sox_serve.specs.declared.served.Served.{Served}
use Rattle.sox_serve.specs.declared.served.Served.TheVariants.{Replied}
use Rattle.sox_serve.proofs.ByRow.{refused_first}
use Rattle.sox_serve.specs.Serves.{Gives, Serves, answer_over}

-- the answer itself, and nothing else
pub serves_exactly : {E : Type 0} (g : Ghosts E) (old new : Linked E) (asked : Asked) (number turns : ℕ) (moment : ℤ) (asks : Served) (bytes : List ℕ)
    → Gives g old new asks bytes number (answer_over g old asked turns moment)
    → Serves g old new asked number turns moment asks bytes
serves_exactly g old new asked number turns moment asks bytes gives =
    record { given = answer_over g old asked turns moment; is = inl refl; gives = gives }

done_if_none : (a : Application) (asked : Asked) (first : Option Refusal) (edited : Edited)
    → first ≡ None → answer_by a asked (unless_refused first edited) ≡ done_with asked edited
done_if_none a asked first edited none = ap (λ (r : Option Refusal). answer_by a asked (unless_refused r edited)) none

ok_if_none : (first : Option Refusal) (edited : Edited) → first ≡ None → IsOk (unless_refused first edited)
ok_if_none first edited none = subst (λ (r : Option Refusal). IsOk (unless_refused r edited)) (sym none) refl

-- a refusal is want of memory, or another
wants_or_not : (refusal : Refusal) → (refusal ≡ OutOfMemory) ⊎ (refusal ≢ OutOfMemory)
wants_or_not OutOfMemory = inl refl
wants_or_not refusal = inr (λ same. cc)

-- ---- add

module _ {E : Type 0} (g : Ghosts E) (old new : Linked E) (parent kit kind : ℕ) (name config : List ℕ) (number turns : ℕ) (moment : ℤ) where
  -- what it comes to where nothing refuses it
  abbrev edited_by : Edited
  edited_by =
      let a : Application = application_of g old in record {
        application = over a (after_add (g.meaning old.tree.engine) a.components parent (class_or_none (g.meaning old.tree.engine) kit kind) name config turns moment).left;
        reply = Added (least_free a.components.by_id);
      }

  pub serves_added : (id : ℕ) (bytes : List ℕ)
      → id ≡ least_free (components_of g old.tree).by_id
      → first_refusal (refusals_of_add (g.meaning old.tree.engine) (components_of g old.tree) parent kit kind name config) ≡ None
      → components_of g new.tree ≡ (after_add (g.meaning old.tree.engine) (components_of g old.tree) parent (class_or_none (g.meaning old.tree.engine) kit kind) name config turns moment).left
      → new.links ≡ old.links
      → bytes ≡ reply_bytes number (Some (told.added id))
      → g.meaning new.tree.engine ≡ g.meaning old.tree.engine
      → g.fixed new.tree.engine ≡ g.fixed old.tree.engine
      → Tells g old new
      → Serves g old new (add parent kit kind name config) number turns moment Replied bytes
  serves_added id bytes least none done links reply meaning steady tells =
      let whole : application_of g new ≡ edited_by.application = λ i. record { components = done i; links = links i } in
      let text : bytes ≡ reply_bytes number (Some (told.added (least_free (components_of g old.tree).by_id))) =
      reply ∙ ap (λ (n : ℕ). reply_bytes number (Some (told.added n))) least in
      let is : answer_over g old (add parent kit kind name config) turns moment ≡ done_with (add parent kit kind name config) edited_by =
      done_if_none (application_of g old) (add parent kit kind name config) _ edited_by none in
      let gives : Gives g old new Replied bytes number (done_with (add parent kit kind name config) edited_by) =
      record { application = whole; served = refl; reply = text; meaning = meaning; steady = steady; tells = tells } in
      serves_exactly g old new (add parent kit kind name config) number turns moment Replied bytes
      (subst (λ (given : Answer). Gives g old new Replied bytes number given) (sym is) gives)

  module _ (refusal : Refusal) (bytes : List ℕ)
      (refused : refusal ≢ OutOfMemory → first_refusal (refusals_of_add (g.meaning old.tree.engine) (components_of g old.tree) parent kit kind name config) ≡ Some refusal)
      (memory : refusal ≡ OutOfMemory → (g.fixed old.tree.engine ≡ false) × (first_refusal (refusals_of_add (g.meaning old.tree.engine) (components_of g old.tree) parent kit kind name config) ≡ None))
      (same : components_of g new.tree ≡ components_of g old.tree)
      (links : new.links ≡ old.links)
      (reply : bytes ≡ reply_bytes number (Some (told.refused refusal)))
      (meaning : g.meaning new.tree.engine ≡ g.meaning old.tree.engine)
      (steady : g.fixed new.tree.engine ≡ g.fixed old.tree.engine)
      (tells : Tells g old new) where
    -- nothing is changed
    gives_refused : Gives g old new Replied bytes number (refused_by (application_of g old) refusal)
    gives_refused =
        let whole : application_of g new ≡ application_of g old = λ i. record { components = same i; links = links i } in
        record { application = whole; served = refl; reply = reply; meaning = meaning; steady = steady; tells = tells }

    by_row : refusal ≢ OutOfMemory → Serves g old new (add parent kit kind name config) number turns moment Replied bytes
    by_row other =
        serves_exactly g old new (add parent kit kind name config) number turns moment Replied bytes
        (subst (λ (given : Answer). Gives g old new Replied bytes number given)
        (sym (refused_first (g.meaning old.tree.engine) (application_of g old) (add parent kit kind name config) turns moment refusal (refused other))) gives_refused)

    by_memory : refusal ≡ OutOfMemory → Serves g old new (add parent kit kind name config) number turns moment Replied bytes
    by_memory is =
        let may : IsOk (Edit (g.meaning old.tree.engine) (application_of g old) (command_of (add parent kit kind name config)) turns moment) =
        ok_if_none (first_refusal (refusals_of_add (g.meaning old.tree.engine) (components_of g old.tree) parent kit kind name config)) edited_by (memory is).1 in
        let wants : WantsMemory (g.meaning old.tree.engine) (application_of g old) (add parent kit kind name config) turns moment (refused_by (application_of g old) refusal) =
        record { may = refl; allowed = may; given_is = ap (refused_by (application_of g old)) is } in
        record { given = refused_by (application_of g old) refusal; is = inr (record { add = refl; not_fixed = (memory is).0; wants = wants }); gives = gives_refused }

    pub serves_refused : Serves g old new (add parent kit kind name config) number turns moment Replied bytes
    serves_refused = elim (wants_or_not refusal) [ inl is ↦ by_memory is | inr other ↦ by_row other ]
