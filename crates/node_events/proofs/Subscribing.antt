-- What is subscribed after an event was subscribed before it, or in it.
use Rattle.std.proofs.Common.{◌≡◌, ℕ, inl, inr, Bool, true, false, List, [], ◌∷◌, refl, sym, ◌∙◌, ap, subst}
use Rattle.std.specs.Prelude.{ℤ, ◌⊎◌, ◌==◌, ◌&&◌, not, is_some, Option, Some, None, Result, Ok, Err, if◌then◌else◌}
use Rattle.sed_outside.specs.declared.addr.Addr.{Addr}
use Rattle.sed_value.specs.declared.refusal.Refusal.{Refusal}
use Rattle.sed_value.specs.declared.refusal.Refusal.TheVariants.{NoComponent, OutOfMemory}
use Rattle.sed_engine.specs.Code.{Meaning}
use Rattle.comp_tree.specs.Application.{Application, is_live}
use Rattle.comp_tree.specs.Edit.{Edit, Edited, done, is_save, unless_refused}
use Rattle.comp_tree.specs.Refusals.{first_refusal, refusals_of_clear}
use Rattle.dasp_session.specs.Letters.{Letter}
use Rattle.dasp_session.specs.Looking.{Found}
use Rattle.dasp_session.specs.Receive.{Handing, none, ended_at, payload_at, received}
use Rattle.sub_table.specs.declared.part.Part.{Part}
use Rattle.sub_table.specs.Events.{subscribed}
use Rattle.sub_table.specs.Parts.{is_in}
use Rattle.sub_table.specs.Table.{Subscriptions, is_at}
use Rattle.sox_msg.specs.Answered.{Answered}
use Rattle.sox_msg.specs.Command.{Asked, add, read_part, delete, invoke, link, unlink, rename, reorder, read_slot, subscribe, unsubscribe, version, write, clear}
use Rattle.sox_serve.specs.Answer.{Answer, answer, answer_by, command_of, refused_by, served_by}
use Rattle.sox_serve.specs.declared.served.Served.{Served}
use Rattle.sox_serve.specs.declared.served.Served.TheVariants.{Replied, SaveAsked}
use Rattle.node_events.specs.Delivering.{handed}
use Rattle.node_events.specs.Heard.{Heard, Wish, asks, is_refused}
use Rattle.node_events.specs.Mishap.{Mishap}
use Rattle.node_events.specs.Node.{Node, OnlyOfTheLive, Setup}
use Rattle.node_events.specs.Running.{Event, comes, one_event, passes}
use Rattle.node_events.specs.Serving.{done_by, given, lacks_memory, served, subscribed_after}
use Rattle.node_events.specs.Subscribing.{IsSubscribe}
use Rattle.node_events.proofs.Elsewhere.{ticked_less, without_less}
use Rattle.node_events.proofs.Taking.{Takes, received_fine}
use Rattle.node_events.proofs.Truths.{both_true, no_true, same_number}

live_if_none : (b : Bool) → first_refusal ((not b, NoComponent) ∷ []) ≡ None → b ≡ true
live_if_none true is = refl
live_if_none false is = absurd (no is)
  where
    no : ◌≡◌ {A = Option Refusal} (Some NoComponent) None → ⊥
    no is = cc

-- ---- a command

-- a command of a place is a subscribe of a part
record Subscribes (a : Application) (place : ℕ) (asked : Asked) (p i : ℕ) (part : Part) : Type 0 where
  mask : ℕ
  there : p ≡ place
  is : asked ≡ subscribe i mask
  meant : is_in mask part ≡ true
  live : is_live a.components.by_id i ≡ true

module _ (a : Application) (subs : Subscriptions) (place : ℕ) where
  -- subscribed before it, or by it
  abbrev Was : Asked → Subscriptions → Type 0
  Was asked after =
      (p i : ℕ) (part : Part) → is_some (after p i part) ≡ true → (is_some (subs p i part) ≡ true) ⊎ Subscribes a place asked p i part

  abbrev After : Asked → Answer → Type 0
  After asked x = Was asked (subscribed_after x.served place x.application subs)

  calm_served : (asked : Asked) (b : Bool) (x : Application) → Was asked (subscribed_after (if b then SaveAsked else Replied) place x subs)
  calm_served asked true x p i part is = inl is
  calm_served asked false x p i part is = inl is

  -- a command of which nothing is asked but its reply, or a save
  calm : (asked : Asked) (b : Bool) → served_by asked ≡ (if b then SaveAsked else Replied) → (e : Result Edited Refusal) → After asked (answer_by a asked e)
  calm asked b same (Ok edited) = subst (λ (x : Served). Was asked (subscribed_after x place edited.application subs)) (sym same) (calm_served asked b edited.application)
  calm asked b same (Err number) = λ p i part is. inl is

  deleted : (id : ℕ) (e : Result Edited Refusal) → After (delete id) (answer_by a (delete id) e)
  deleted id (Ok edited) = λ p i part. by_test (is_live edited.application.components.by_id i) p i part
    where
      by_test : (b : Bool) (p i : ℕ) (part : Part) → is_some (if b then subs p i part else None) ≡ true
          → (is_some (subs p i part) ≡ true) ⊎ Subscribes a place (delete id) p i part
      by_test true p i part is = inl is
      by_test false p i part is = absurd (no_true is)
  deleted id (Err number) = λ p i part is. inl is

  unsubscribed : (id mask : ℕ) (e : Result Edited Refusal) → After (unsubscribe id mask) (answer_by a (unsubscribe id mask) e)
  unsubscribed id mask (Ok edited) = λ p i part. by_test (is_at place id p i && is_in mask part) p i part
    where
      by_test : (b : Bool) (p i : ℕ) (part : Part) → is_some (if b then None else subs p i part) ≡ true
          → (is_some (subs p i part) ≡ true) ⊎ Subscribes a place (unsubscribe id mask) p i part
      by_test true p i part is = absurd (no_true is)
      by_test false p i part is = inl is
  unsubscribed id mask (Err number) = λ p i part is. inl is

  subscribes : (id mask : ℕ) (r : Option Refusal) → first_refusal (refusals_of_clear a.components.by_id id) ≡ r
      → After (subscribe id mask) (answer_by a (subscribe id mask) (unless_refused r (done a)))
  subscribes id mask None allowed = λ p i part. by_test (is_at place id p i && is_in mask part) p i part refl
    where
      by_test : (b : Bool) (p i : ℕ) (part : Part) → (is_at place id p i && is_in mask part) ≡ b
          → is_some (if b then subscribed (subs p i part) else subs p i part) ≡ true
          → (is_some (subs p i part) ≡ true) ⊎ Subscribes a place (subscribe id mask) p i part
      by_test true p i part same is =
          let two = both_true (is_at place id p i) (is_in mask part) same in
          let at = both_true (p == place) (i == id) two.0 in
          let of : i ≡ id = same_number i id at.1 in
          inr (record {
            mask = mask;
            there = same_number p place at.0;
            is = ap (λ (k : ℕ). subscribe k mask) (sym of);
            meant = two.1;
            live = ap (is_live a.components.by_id) of ∙ live_if_none (is_live a.components.by_id id) allowed;
          })
      by_test false p i part same is = inl is
  subscribes id mask (Some refusal) row = λ p i part is. inl is

  answered_was : (m : Meaning) (turns : ℕ) (moment : ℤ) (asked : Asked) → After asked (answer m a asked turns moment)
  answered_was m turns moment (add parent kit kind name config) = calm (add parent kit kind name config) false refl _
  answered_was m turns moment (read_part id part) = calm (read_part id part) false refl _
  answered_was m turns moment (delete id) = deleted id _
  answered_was m turns moment (invoke id slot argument) = calm (invoke id slot argument) (is_save id slot) refl _
  answered_was m turns moment (link source from_slot target to_slot) = calm (link source from_slot target to_slot) false refl _
  answered_was m turns moment (unlink source from_slot target to_slot) = calm (unlink source from_slot target to_slot) false refl _
  answered_was m turns moment (rename id name) = calm (rename id name) false refl _
  answered_was m turns moment (reorder id children) = calm (reorder id children) false refl _
  answered_was m turns moment (read_slot id slot) = calm (read_slot id slot) false refl _
  answered_was m turns moment (subscribe id mask) = subscribes id mask (first_refusal (refusals_of_clear a.components.by_id id)) refl
  answered_was m turns moment (unsubscribe id mask) = unsubscribed id mask _
  answered_was m turns moment version = calm version false refl (Edit m a (command_of version) turns moment)
  answered_was m turns moment (write id slot value) = calm (write id slot value) false refl _
  answered_was m turns moment (clear id) = calm (clear id) false refl _

-- ---- a datagram

module _ (m : Meaning) (s : Setup) where
  -- subscribed before, or the wish is a subscribe
  served_was : (n : Node) (place : ℕ) (asked : Asked) (mishap : Mishap)
      → Was n.application n.subscriptions place asked (served m s n place (asks asked) mishap).subscriptions
  served_was n place asked mishap = by_reply (given m s n asked mishap).reply
    where
      given_was : (b : Bool)
          → After n.application n.subscriptions place asked (if b then refused_by n.application OutOfMemory else answer m n.application asked s.turns n.sessions.moment)
      given_was true = λ p i part is. inl is
      given_was false = answered_was n.application n.subscriptions place m s.turns n.sessions.moment asked

      by_reply : (reply : Option Answered) → Was n.application n.subscriptions place asked (done_by m s n place mishap (given m s n asked mishap) reply).subscriptions
      by_reply (Some reply) = given_was (lacks_memory m s n asked mishap)
      by_reply None = λ p i part is. inl is

  -- of the whole event, from the node before it
  abbrev WasIn : Node → Event → Subscriptions → Type 0
  WasIn n event after =
      (place id : ℕ) (part : Part) → is_some (after place id part) ≡ true → (is_some (n.subscriptions place id part) ≡ true) ⊎ IsSubscribe n place id part event

  handed_was : (before n : Node) (from : Addr) (heard : Heard) (mishap : Mishap) (sent : List Letter) (handing : Handing)
      → n.application ≡ before.application → n.subscriptions ≡ before.subscriptions
      → Takes before.sessions from heard.message n.sessions sent handing
      → WasIn before (comes from (Some heard) mishap) (handed m s heard.wish mishap n sent handing).node.subscriptions
  handed_was before n from heard mishap sent none same_a same_s takes place id part is =
      inl (ap (λ (subs : Subscriptions). is_some (subs place id part)) (sym same_s) ∙ is)
  handed_was before n from heard mishap sent (ended_at p) same_a same_s takes place id part is =
      inl (ap (λ (subs : Subscriptions). is_some (subs place id part)) (sym same_s) ∙ without_less p n.subscriptions place id part is)
  handed_was before n from heard mishap sent (payload_at p payload) same_a same_s takes place id part is = by_wish heard.wish refl is
    where
      of_found : (x : Found) → x.place ≡ p → place ≡ p → ◌≡◌ {A = Found} x (record { place = place; session = x.session })
      of_found x there at = ap (λ (k : ℕ). record { place = k; session = x.session }) (there ∙ sym at)

      by_asked : (asked : Asked) → heard.wish ≡ asks asked
          → (is_some (n.subscriptions place id part) ≡ true) ⊎ Subscribes n.application p asked place id part
          → (is_some (before.subscriptions place id part) ≡ true) ⊎ IsSubscribe before place id part (comes from (Some heard) mishap)
      by_asked asked wish (inl is) = inl (ap (λ (subs : Subscriptions). is_some (subs place id part)) (sym same_s) ∙ is)
      by_asked asked wish (inr so) = inr (record {
        from = from;
        heard = heard;
        mishap = mishap;
        session = takes.found.session;
        mask = so.mask;
        comes_so = refl;
        of_session = takes.of_session ∙ ap Some (of_found takes.found takes.there so.there);
        asked = wish ∙ ap asks so.is;
        meant = so.meant;
        live = ap (λ (x : Application). is_live x.components.by_id id) (sym same_a) ∙ so.live;
      })

      by_wish : (wish : Wish) → heard.wish ≡ wish → is_some ((served m s n p wish mishap).subscriptions place id part) ≡ true
          → (is_some (before.subscriptions place id part) ≡ true) ⊎ IsSubscribe before place id part (comes from (Some heard) mishap)
      by_wish (is_refused refusal) wish is = inl (ap (λ (subs : Subscriptions). is_some (subs place id part)) (sym same_s) ∙ is)
      by_wish (asks asked) wish is = by_asked asked wish (served_was n p asked mishap place id part is)

  pub event_was : (n : Node) (event : Event) → WasIn n event (one_event m s n event).node.subscriptions
  event_was n (comes from None mishap) = λ place id part is. inl is
  event_was n (comes from (Some heard) mishap) =
      let outcome = received n.sessions from (Some heard.message) in
      handed_was n (record n { sessions = outcome.state }) from heard mishap outcome.letters outcome.handing refl refl
      (received_fine n.sessions from heard.message heard.message.kind)
  event_was n (passes moment) = λ place id part is. inl (ticked_less m s n moment place id part is)

  -- what isn't live is not subscribed in an event
  pub event_anew : (n : Node) (event : Event) → OnlyOfTheLive n → (place id : ℕ) (part : Part) → is_live n.application.components.by_id id ≡ false
      → (one_event m s n event).node.subscriptions place id part ≡ None
  event_anew n event only place id part dead = by_last ((one_event m s n event).node.subscriptions place id part) (event_was n event place id part)
    where
      never : (is_some (n.subscriptions place id part) ≡ true) ⊎ IsSubscribe n place id part event → ⊥
      never (inl is) = no_true (sym (ap is_some (only place id part dead)) ∙ is)
      never (inr so) = no_true (sym dead ∙ so.live)

      by_last : (o : Option (Option (List ℕ))) → (is_some o ≡ true → (is_some (n.subscriptions place id part) ≡ true) ⊎ IsSubscribe n place id part event) → o ≡ None
      by_last None was = refl
      by_last (Some last) was = absurd (never (was refl))
