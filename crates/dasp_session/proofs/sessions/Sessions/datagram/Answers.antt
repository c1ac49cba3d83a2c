use Rattle.std.proofs.Common.{◌≡◌, ◌≤◌, ℕ, drop, length, refl, sym, ◌∙◌, ap, subst, rules}
use Rattle.std.specs.Prelude.{Option, Some, None}
use Rattle.dasp_msg.specs.Message.{IsMalformed}
use Rattle.dasp_msg.specs.Shown.{Message}
use Rattle.dasp_msg.specs.View.{message_of}
use Rattle.dasp_session.specs.declared.handed.Handed.TheVariants.{Nothing}
use Rattle.dasp_session.specs.Receive.{received}
use Rattle.dasp_session.specs.Standing.{Leaves, Hands}
use Rattle.dasp_session.proofs.OutboxLemmas.{Sends-none}
use Rattle.dasp_session.proofs.StandLemmas.{leaves-eq, read_some, read_none, hands-at}
use Rattle.dasp_session.proofs.sessions.Sessions.datagram.Goals as goal

pub returns-in-Ok-clause-leaves : goal.returns-in-Ok-clause-leaves
returns-in-Ok-clause-leaves c = λ state read stands is.
    let same : read ≡ Some (message_of c.in-Ok.msg) = read_some c.args.bytes.now (message_of c.in-Ok.msg) read c.in-Ok.ensures.found (λ other of_other. c.in-Ok.ensures.only other of_other) is in
    leaves-eq _ _ _ c.args.out.now c.receive.new.out (ap (received state c.args.from) same) (c.receive.ensures.leaves state stands)

pub returns-in-Ok-clause-hands : goal.returns-in-Ok-clause-hands
returns-in-Ok-clause-hands c = λ state read stands is.
    let same : read ≡ Some (message_of c.in-Ok.msg) = read_some c.args.bytes.now (message_of c.in-Ok.msg) read c.in-Ok.ensures.found (λ other of_other. c.in-Ok.ensures.only other of_other) is in
    subst (λ (read : Option Message). Hands c.args.bytes.now (received state c.args.from read).handing c.receive.result) (sym same)
    (hands-at c.args.bytes.now c.in-Ok.msg.payload.now c.start_of.result _ c.receive.result c.start_of.ensures.within c.start_of.ensures.behind (c.receive.ensures.hands state stands))

pub returns-in-Err-clause-leaves : goal.returns-in-Err-clause-leaves
returns-in-Err-clause-leaves c = λ state read stands is.
    let bad : IsMalformed c.args.bytes.now = c.in-Err.ensures.malformed.0 (search rules) in
    let same : read ≡ None = read_none c.args.bytes.now read bad is in
    subst (λ (read : Option Message). Leaves (received state c.args.from read) c.args.self.now c.args.out.now c.args.out.now) (sym same)
    (record { state = stands; sent = Sends-none c.args.out.now })

pub returns-in-Err-clause-hands : goal.returns-in-Err-clause-hands
returns-in-Err-clause-hands c = λ state read stands is.
    let bad : IsMalformed c.args.bytes.now = c.in-Err.ensures.malformed.0 (search rules) in
    let same : read ≡ None = read_none c.args.bytes.now read bad is in
    subst (λ (read : Option Message). Hands c.args.bytes.now (received state c.args.from read).handing Nothing) (sym same) refl

pub returns-in-Ok-clause-own : goal.returns-in-Ok-clause-own
returns-in-Ok-clause-own c = λ message place at is gives.
    let same : message_of c.in-Ok.msg ≡ message = c.in-Ok.ensures.only message is in
    ap (λ (n : ℕ). drop n c.args.bytes.now) (c.receive.ensures.at_is place at gives) ∙ c.start_of.ensures.behind
    ∙ ap (λ (m : Message). m.payload) same

pub returns-in-Ok-clause-within : goal.returns-in-Ok-clause-within
returns-in-Ok-clause-within c = λ place at gives.
    subst (λ (n : ℕ). n ≤ length c.args.bytes.now) (sym (c.receive.ensures.at_is place at gives)) c.start_of.ensures.within
