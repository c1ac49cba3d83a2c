use Rattle.std.proofs.Common.{rules, ◌≡◌, ◌<◌, ℕ, ℤ, FitsSigned, w64, ap, List, true, false, length, refl, sym, ◌∙◌}
use Rattle.std.proofs.Common.{subst}
use Rattle.std.specs.Prelude.{◌↔◌, IsErrOf}
use Rattle.app_save.specs.declared.refusal.SaveRefusal.TheVariants.{Full}
use Rattle.sed_engine.specs.Whole.{IsWhole}
use Rattle.comp_tree.specs.Whole.{Whole}
use Rattle.link_prop.specs.Linked.{application_of}
use Rattle.app_file.specs.Text.{app_text}
use Rattle.sox_msg.specs.View.{asked_of}
use Rattle.sox_serve.specs.Answer.{command_of}
use Rattle.sox_events.specs.Due.{subscriptions}
use Rattle.sox_serve.specs.Serves.{Serves}
use Rattle.dasp_session.specs.Receive.{post_of}
use Rattle.dasp_session.specs.Standing.{Leaves}
use Rattle.node_events.specs.Heard.{asks}
use Rattle.node_events.specs.Node.{Node, Setup}
use Rattle.sed_node.specs.Doing.{Answers}
use Rattle.sed_node.specs.OnDisk.{OnDisk}
use Rattle.sed_node.specs.Saving.{begun}
use Rattle.sed_node.specs.Standing.{is_fixed, setup_of}
use Rattle.sed_node.specs.declared.kept.Kept.{Kept}
use Rattle.std.proofs.lemmas.Int.{to_z-of_z}
use Rattle.sed_node.proofs.Commanded.{by_held, command_done, node_of, save_done, served_whole}
use Rattle.sed_node.proofs.Keeping.{at_same, kept_by, no_time}
use Rattle.sed_node.proofs.Saved.{begun_is, may_happen}
use Rattle.sed_node.proofs.Small.{served_small}
use Rattle.sed_node.proofs.kept.Kept.command.Goals as goal

pub subscribe_as-requires-clause-small : goal.subscribe_as-requires-clause-small
subscribe_as-requires-clause-small g c =
    served_small g.E.Engine c.args.self.now.app c.serve-asked.new.app (asked_of c.args.request.now.command)
    c.args.request.now.number c.args.self.now.turns _ c.serve-asked.result c.serve-asked.new.reply
    c.requires.is_kept.whole c.requires.can c.serve-asked.ensures.served

pub returns-then-is_save-clause-answers : goal.returns-then-is_save-clause-answers
returns-then-is_save-clause-answers g c = λ n payload holds numbered.
    let m = g.E.Engine.meaning c.args.self.now.app.tree.engine in
    let a = application_of g.E.Engine c.args.self.now.app in
    let asked = asked_of c.args.request.now.command in
    let new : Kept _ = record {
      app = c.serve-asked.new.app;
      sessions = c.post_saved.new.sessions;
      subs = c.args.self.now.subs;
      saver = c.save-saved.new.self;
      turns = c.args.self.now.turns;
    } in
    let saving = c.is_save.ensures.saves c.if-is_save.true in
    let stays : application_of g.E.Engine c.serve-asked.new.app ≡ a = (c.serve-asked.ensures.saving saving).0 in
    let why = c.serve-asked.ensures.saves.0 saving in
    let full : IsErrOf c.save-saved.result Full ↔ (c.args.self.now.saver < length (app_text m a)) =
    at_same (λ m a. IsErrOf c.save-saved.result Full ↔ (c.args.self.now.saver < length (app_text m a))) _ m _ a
    c.serve-asked.ensures.meaning stays c.save-saved.ensures.full in
    let kept = c.requires.is_kept in
    let on_disk = c.save-saved.ensures.disk
    (subst IsWhole (sym c.serve-asked.ensures.meaning) kept.code)
    (at_same Whole m _ a _ (sym c.serve-asked.ensures.meaning) (sym stays) kept.whole) in
    by_held g.E.Engine c.args.self.now
    (λ (n : Node). Answers g.E.Engine g.D.Disk.meaning c.args.self.now new n c.args.place payload (asks asked)
    c.args.out.now c.post_saved.new.out c.args.disk.now c.save-saved.new.disk)
    (λ state stands.
    save_done g.E.Engine g.D.Disk.meaning c.args.self.now new c.args.place c.args.request.now.number asked
    c.args.out.now c.post_saved.new.out
    c.args.disk.now c.save-saved.new.disk state c.save-saved.result
    (λ mishap. c.saves_are_measured.ensures.save m (setup_of c.args.self.now) (node_of g.E.Engine c.args.self.now state)
    c.args.place asked mishap why.0 why.1)
    stays refl
    (begun_is m c.args.self.now.saver a (c.texts_are_files_of_what_is_kept.ensures.text m a kept.code kept.whole)
    c.save-saved.result full)
    (may_happen (is_fixed g.E.Engine c.args.self.now) c.save-saved.result c.save-saved.ensures.answers
    c.save-saved.ensures.cause.failed)
    (at_same (λ m a. OnDisk g.D.Disk.meaning m c.args.self.now.saver (begun m a c.save-saved.result) c.args.disk.now
    c.save-saved.new.disk) _ m _ a
    c.serve-asked.ensures.meaning stays on_disk)
    (c.post_saved.ensures.leaves state stands) payload numbered)
    n holds

pub returns-then-is_save-clause-is_kept : goal.returns-then-is_save-clause-is_kept
returns-then-is_save-clause-is_kept g c =
    let saving = c.is_save.ensures.saves c.if-is_save.true in
    kept_by g.E.Engine c.args.self.now _ c.requires.is_kept c.serve-asked.ensures.meaning
    (subst (Whole (g.E.Engine.meaning c.args.self.now.app.tree.engine)) (sym (c.serve-asked.ensures.saving saving).0)
    c.requires.is_kept.whole)
    (c.agreement_lasts.ensures c.args.self.now.app c.serve-asked.new.app (subscriptions c.args.self.now.subs)
    c.serve-asked.ensures.tells c.requires.is_kept.agree)
    (λ part. refl)

pub returns-then-is_save-clause-same : goal.returns-then-is_save-clause-same
returns-then-is_save-clause-same g c = record {
  code = c.serve-asked.ensures.meaning;
  setup = ap (λ (slot : ℕ). (let s : Setup = record { turns = c.args.self.now.turns; slot = slot } in s))
      c.save-saved.ensures.same;
  fixed = c.serve-asked.ensures.steady;
}

pub returns-clause-answers : goal.returns-clause-answers
returns-clause-answers g c = λ n payload holds numbered.
    let m = g.E.Engine.meaning c.args.self.now.app.tree.engine in
    let a = application_of g.E.Engine c.args.self.now.app in
    let asked = asked_of c.args.request.now.command in
    let fits : FitsSigned w64 c.moment-moment.result = search rules in
    let new : Kept _ = record {
      app = c.serve-asked.new.app;
      sessions = c.post.new.self;
      subs = c.subscribe_as.new.subs;
      saver = c.args.self.now.saver;
      turns = c.args.self.now.turns;
    } in
    by_held g.E.Engine c.args.self.now
    (λ (n : Node). Answers g.E.Engine g.D.Disk.meaning c.args.self.now new n c.args.place payload (asks asked)
    c.args.out.now c.post.new.out c.args.disk.now c.args.disk.now)
    (λ state stands.
    command_done g.E.Engine g.D.Disk.meaning c.args.self.now new c.args.place c.args.request.now.number asked
    c.serve-asked.result c.serve-asked.new.reply
    c.args.out.now c.post.new.out c.args.disk.now state
    (c.refused_commands_change_nothing.ensures.reply m a asked c.args.self.now.turns state.moment)
    (subst (λ (t : ℤ). Serves g.E.Engine c.args.self.now.app c.serve-asked.new.app asked c.args.request.now.number
    c.args.self.now.turns t c.serve-asked.result c.serve-asked.new.reply)
    (to_z-of_z w64 c.moment-moment.result fits ∙ c.moment-moment.ensures state stands) c.serve-asked.ensures.served)
    (λ is. let no : true ≡ false = sym (c.is_save.ensures.others is) ∙ c.if-is_save.false in absurd cc)
    c.subscribe_as.ensures.after
    (subst (λ (bytes : List ℕ). Leaves (post_of state c.args.place bytes) c.post.new.self c.args.out.now c.post.new.out)
    c.bytes.ensures.same (c.post.ensures.leaves state stands))
    payload numbered)
    n holds

pub returns-clause-is_kept : goal.returns-clause-is_kept
returns-clause-is_kept g c =
    let m = g.E.Engine.meaning c.args.self.now.app.tree.engine in
    let a = application_of g.E.Engine c.args.self.now.app in
    let asked = asked_of c.args.request.now.command in
    kept_by g.E.Engine c.args.self.now _ c.requires.is_kept c.serve-asked.ensures.meaning
    (served_whole g.E.Engine c.args.self.now.app c.serve-asked.new.app asked c.args.request.now.number
    c.args.self.now.turns _ c.serve-asked.result c.serve-asked.new.reply c.serve-asked.ensures.served
    (λ e is. c.an_edit_keeps_whole.ensures m a (command_of asked) c.args.self.now.turns _ e c.requires.is_kept.code
    c.requires.is_kept.whole c.requires.given is)
    c.requires.is_kept.whole)
    (c.subscribe_as.ensures.agree
    (c.agreement_lasts.ensures c.args.self.now.app c.serve-asked.new.app (subscriptions c.args.self.now.subs)
    c.serve-asked.ensures.tells c.requires.is_kept.agree))
    c.subscribe_as.ensures.room

pub returns-clause-same : goal.returns-clause-same
returns-clause-same g c =
    record { code = c.serve-asked.ensures.meaning; setup = refl; fixed = c.serve-asked.ensures.steady }

pub returns-clause-time : goal.returns-clause-time
returns-clause-time g c = no_time (g.D.Disk.meaning c.args.disk.now)
