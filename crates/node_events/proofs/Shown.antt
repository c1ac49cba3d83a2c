-- A reply shows what went wrong.
use Rattle.std.proofs.Common.{◌≡◌, ℕ, Bool, true, false, List, refl, sym, ◌∙◌, ap}
use Rattle.std.specs.Prelude.{ℤ, ◌&&◌, is_ok, not, Option, Some, None, if◌then◌else◌}
use Rattle.sed_outside.specs.declared.addr.Addr.{Addr}
use Rattle.sed_value.specs.declared.refusal.Refusal.{Refusal}
use Rattle.sed_value.specs.declared.refusal.Refusal.TheVariants.{OutOfMemory, SaveDevice}
use Rattle.sed_engine.specs.Code.{Meaning}
use Rattle.comp_tree.specs.Application.{Application}
use Rattle.comp_tree.specs.Edit.{Edit, Edited, unless_refused}
use Rattle.comp_tree.specs.Parts.{Kept}
use Rattle.comp_tree.specs.Refusals.{first_refusal, refusals_of_add, refusals_of_link}
use Rattle.dasp_session.specs.Letters.{Letter}
use Rattle.dasp_session.specs.Receive.{Handing, none, ended_at, payload_at, received}
use Rattle.sox_msg.specs.Answered.{Answered, added, done, refused}
use Rattle.sox_msg.specs.Command.{Asked, add, read_part, delete, invoke, link, unlink, rename, reorder, read_slot, subscribe, unsubscribe, version, write, clear}
use Rattle.sox_serve.specs.Answer.{Answer, answer, answer_by, command_of, may_want_memory, refused_by}
use Rattle.sox_serve.specs.Table.{link_between}
use Rattle.node_events.specs.Delivering.{delivered, handed, replied}
use Rattle.node_events.specs.Heard.{Heard, Wish, asks, is_refused}
use Rattle.node_events.specs.Mishap.{Mishap, is_disk_failed, is_no_memory}
use Rattle.node_events.specs.Node.{Node, Setup}
use Rattle.node_events.specs.Saving.{Save, answer_to_save, is_too_long, save_of}
use Rattle.node_events.specs.Serving.{Serving, done_by, served}

-- ---- a command for which memory may be wanted is not refused for want of it

some_eq : (x y : Answered) → ◌≡◌ {A = Option Answered} (Some x) (Some y) → x ≡ y
some_eq x y is = cc

added_apart : (id : ℕ) (refusal : Refusal) → added id ≡ refused refusal → ⊥
added_apart id refusal is = cc

done_apart : (letter : ℕ) (refusal : Refusal) → done letter ≡ refused refusal → ⊥
done_apart letter refusal is = cc

module _ (m : Meaning) (a : Application) (turns : ℕ) (moment : ℤ) where
  -- what else would be replied is no refusal
  record IsDone (x : Answer) : Type 0 where
    reply : Answered
    is : x.reply ≡ Some reply
    apart : (refusal : Refusal) → reply ≡ refused refusal → ⊥

  add_done : (asked : Asked) (e : Edited) (r : Option Refusal) → IsDone (answer_by a asked (unless_refused None e))
      → is_ok (unless_refused r e) ≡ true → IsDone (answer_by a asked (unless_refused r e))
  add_done asked e None is ok = is
  add_done asked e (Some refusal) is ok = absurd (let no : false ≡ true = ok in cc)

  is_done : (asked : Asked) → (may_want_memory asked && is_ok (Edit m a (command_of asked) turns moment)) ≡ true → IsDone (answer m a asked turns moment)
  is_done (add parent kit kind name config) ok =
      add_done (add parent kit kind name config) _ (first_refusal (refusals_of_add m a.components parent kit kind name config))
      (record { reply = added _; is = refl; apart = λ refusal is. added_apart _ refusal is }) ok
  is_done (link source from_slot target to_slot) ok =
      add_done (link source from_slot target to_slot) _
      (first_refusal (refusals_of_link m a.components.by_id a.links (link_between source from_slot target to_slot)))
      (record { reply = done 76; is = refl; apart = λ refusal is. done_apart 76 refusal is }) ok
  is_done (read_part id part) ok = absurd (let no : false ≡ true = ok in cc)
  is_done (delete id) ok = absurd (let no : false ≡ true = ok in cc)
  is_done (invoke id slot argument) ok = absurd (let no : false ≡ true = ok in cc)
  is_done (unlink source from_slot target to_slot) ok = absurd (let no : false ≡ true = ok in cc)
  is_done (rename id name) ok = absurd (let no : false ≡ true = ok in cc)
  is_done (reorder id children) ok = absurd (let no : false ≡ true = ok in cc)
  is_done (read_slot id slot) ok = absurd (let no : false ≡ true = ok in cc)
  is_done (subscribe id mask) ok = absurd (let no : false ≡ true = ok in cc)
  is_done (unsubscribe id mask) ok = absurd (let no : false ≡ true = ok in cc)
  is_done version ok = absurd (let no : false ≡ true = ok in cc)
  is_done (write id slot value) ok = absurd (let no : false ≡ true = ok in cc)
  is_done (clear id) ok = absurd (let no : false ≡ true = ok in cc)

-- ---- one payload, twice

module _ (m : Meaning) (s : Setup) (n : Node) (place : ℕ) where
  same_save : (one other : Mishap) → answer_to_save (save_of m s.slot n.application one) ≡ answer_to_save (save_of m s.slot n.application other)
      → save_of m s.slot n.application one ≡ save_of m s.slot n.application other
  same_save one other = by_test (is_too_long m s.slot n.application) (is_disk_failed one) (is_disk_failed other)
    where
      by_test : (long b c : Bool)
          → answer_to_save (if long then None else Some (record { application = Kept m n.application; acknowledged = not b }))
          ≡ answer_to_save (if long then None else Some (record { application = Kept m n.application; acknowledged = not c }))
          → ◌≡◌ {A = Option Save} (if long then None else Some (record { application = Kept m n.application; acknowledged = not b }))
          (if long then None else Some (record { application = Kept m n.application; acknowledged = not c }))
      by_test true b c is = refl
      by_test false true true is = refl
      by_test false false false is = refl
      by_test false true false is = absurd (done_apart 73 SaveDevice (sym is))
      by_test false false true is = absurd (done_apart 73 SaveDevice is)

  same_done : (one other : Mishap) (x : Answer) (reply : Option Answered)
      → (done_by m s n place one x reply).reply ≡ (done_by m s n place other x reply).reply
      → done_by m s n place one x reply ≡ done_by m s n place other x reply
  same_done one other x (Some reply) is = refl
  same_done one other x None is = ap saving (same_save one other is)
    where
      saving : Option Save → Serving
      saving save = record { application = n.application; subscriptions = n.subscriptions; reply = answer_to_save save; save = save }

  -- a command that would be done
  done_reply : (mishap : Mishap) (x : Answer) (reply : Answered) → x.reply ≡ Some reply → (done_by m s n place mishap x x.reply).reply ≡ reply
  done_reply mishap x reply is = ap (λ (r : Option Answered). (done_by m s n place mishap x r).reply) is

  module _ (asked : Asked) where
    abbrev answered : Answer
    answered = answer m n.application asked s.turns n.sessions.moment

    abbrev would_be : Bool → Answer
    would_be lacks = if lacks then refused_by n.application OutOfMemory else answered

    abbrev serving : Bool → Mishap → Serving
    serving lacks mishap = done_by m s n place mishap (would_be lacks) (would_be lacks).reply

    abbrev may : Bool
    may = may_want_memory asked && is_ok (Edit m n.application (command_of asked) s.turns n.sessions.moment)

    apart : (one other : Mishap) → may ≡ true → (serving true one).reply ≡ (serving false other).reply → ⊥
    apart one other is same =
        let so = is_done m n.application s.turns n.sessions.moment asked is in
        so.apart OutOfMemory (sym (done_reply other answered so.reply so.is) ∙ sym same)

    same_serving : (one other : Mishap) (b c l : Bool) → may ≡ l → (serving (b && l) one).reply ≡ (serving (c && l) other).reply
        → serving (b && l) one ≡ serving (c && l) other
    same_serving one other true true l is same = same_done one other (would_be l) (would_be l).reply same
    same_serving one other false false l is same = same_done one other answered answered.reply same
    same_serving one other true false true is same = absurd (apart one other is same)
    same_serving one other true false false is same = same_done one other answered answered.reply same
    same_serving one other false true true is same = absurd (apart other one is (sym same))
    same_serving one other false true false is same = same_done one other answered answered.reply same

  same_served : (wish : Wish) (one other : Mishap) → (served m s n place wish one).reply ≡ (served m s n place wish other).reply
      → served m s n place wish one ≡ served m s n place wish other
  same_served (is_refused refusal) one other same = refl
  same_served (asks asked) one other same = same_serving asked one other (is_no_memory one) (is_no_memory other) (may asked) refl same

module _ (m : Meaning) (s : Setup) where
  same_handed : (n : Node) (wish : Wish) (one other : Mishap) (sent : List Letter) (handing : Handing)
      → (handed m s wish one n sent handing).reply ≡ (handed m s wish other n sent handing).reply
      → handed m s wish one n sent handing ≡ handed m s wish other n sent handing
  same_handed n wish one other sent none same = refl
  same_handed n wish one other sent (ended_at place) same = refl
  same_handed n wish one other sent (payload_at place payload) same =
      ap (λ (serving : Serving). replied place payload n sent serving) (same_served m s n place wish one other (some_eq _ _ same))

  pub same_delivery : (n : Node) (from : Addr) (heard : Option Heard) (one other : Mishap)
      → (delivered m s n from heard one).reply ≡ (delivered m s n from heard other).reply
      → delivered m s n from heard one ≡ delivered m s n from heard other
  same_delivery n from None one other same = refl
  same_delivery n from (Some heard) one other same =
      let outcome = received n.sessions from (Some heard.message) in
      same_handed (record n { sessions = outcome.state }) heard.wish one other outcome.letters outcome.handing same
