use Rattle.std.proofs.Common.{ℕ, refl, sym, subst}
use Rattle.std.specs.Prelude.{Result}
use Rattle.sed_value.specs.declared.refusal.Refusal.{Refusal}
use Rattle.sox_msg.specs.Answered.{answered_text, refused}
use Rattle.sox_msg.specs.declared.command.Request.{Request}
use Rattle.dasp_session.specs.Receive.{post_of}
use Rattle.dasp_session.specs.Standing.{Leaves}
use Rattle.node_events.specs.Heard.{Wish, is_refused}
use Rattle.node_events.specs.Node.{Node}
use Rattle.sed_node.specs.Doing.{Answers}
use Rattle.sed_node.specs.declared.kept.Kept.{Kept}
use Rattle.sed_node.proofs.Commanded.{by_held, refused_done}
use Rattle.sed_node.proofs.Given.{bytes_fit, of_request}
use Rattle.sed_node.proofs.Keeping.{kept_by, no_time}
use Rattle.sed_node.proofs.Wishes.{IsReadAs, wish_read}
use Rattle.sed_node.proofs.kept.Kept.answer.Goals as goal

pub command-requires-clause-can : goal.command-requires-clause-can
command-requires-clause-can g c = c.in-Ok.ensures.found.can

pub command-requires-clause-given : goal.command-requires-clause-given
command-requires-clause-given g c = of_request c.args.payload.now _ _ _ c.in-Ok.ensures.found.text
    (bytes_fit c.args.payload.now c.type_inv.payload)

pub returns-in-Ok-clause-answers : goal.returns-in-Ok-clause-answers
returns-in-Ok-clause-answers g c = λ n wish holds is.
    let read = subst (λ (r : Result Request Refusal). IsReadAs c.args.payload.now r wish) c.in-Ok.is
    (wish_read c.args.payload.now c.read_request.result c.read_request.ensures.only c.read_request.ensures.malformed
    c.read_request.ensures.unknown wish is) in
    subst (λ (w : Wish). Answers g.E.Engine g.D.Disk.meaning c.args.self.now c.command.new.self n c.args.place
    c.args.payload.now w c.args.out.now c.command.new.out
    c.args.disk.now c.command.new.disk)
    (sym read.0) (c.command.ensures.answers n c.args.payload.now holds read.1)

pub returns-in-Err-clause-answers : goal.returns-in-Err-clause-answers
returns-in-Err-clause-answers g c = λ n wish holds is.
    let read = subst (λ (r : Result Request Refusal). IsReadAs c.args.payload.now r wish) c.in-Err.is
    (wish_read c.args.payload.now c.read_request.result c.read_request.ensures.only c.read_request.ensures.malformed
    c.read_request.ensures.unknown wish is) in
    let wish_is : Wish = is_refused c.in-Err.refusal in
    let new : Kept _ = record c.args.self.now { sessions = c.post_reply.new.sessions } in
    subst (λ (w : Wish). Answers g.E.Engine g.D.Disk.meaning c.args.self.now new n c.args.place c.args.payload.now w
    c.args.out.now c.post_reply.new.out
    c.args.disk.now c.args.disk.now)
    (sym read)
    (by_held g.E.Engine c.args.self.now
    (λ (n : Node). Answers g.E.Engine g.D.Disk.meaning c.args.self.now new n c.args.place c.args.payload.now wish_is
    c.args.out.now c.post_reply.new.out c.args.disk.now c.args.disk.now)
    (λ state stands.
    refused_done g.E.Engine g.D.Disk.meaning c.args.self.now new c.args.place c.args.out.now c.post_reply.new.out
    c.args.disk.now state c.in-Err.refusal refl refl
    c.args.payload.now
    (subst (λ (k : ℕ). Leaves (post_of state c.args.place (answered_text k (refused c.in-Err.refusal)))
    c.post_reply.new.sessions c.args.out.now c.post_reply.new.out)
    c.number_of.ensures (c.post_reply.ensures.leaves state stands)))
    n holds)

pub returns-in-Err-clause-is_kept : goal.returns-in-Err-clause-is_kept
returns-in-Err-clause-is_kept g c =
    kept_by g.E.Engine c.args.self.now _ c.requires.is_kept refl c.requires.is_kept.whole c.requires.is_kept.agree
    (λ part. refl)

pub returns-in-Err-clause-same : goal.returns-in-Err-clause-same
returns-in-Err-clause-same g c = record { code = refl; setup = refl; fixed = refl }

pub returns-in-Err-clause-time : goal.returns-in-Err-clause-time
returns-in-Err-clause-time g c = no_time (g.D.Disk.meaning c.args.disk.now)
