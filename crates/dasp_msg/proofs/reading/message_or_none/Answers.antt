use Rattle.std.proofs.Common.{ℕ, List, ap, subst, ◌∙◌}
use Rattle.dasp_msg.specs.Message.{IsMalformed, IsMessage, MayFollow}
use Rattle.dasp_msg.specs.Shown.{Message, shown_by}
use Rattle.dasp_msg.specs.View.{message_of}
use Rattle.dasp_msg.proofs.MessageLemmas.{cannot_follow, is_made, lacks_needed, needed_of, no_fields, no_header}
use Rattle.dasp_msg.proofs.ReaderLemmas.{is_where_err}
use Rattle.dasp_msg.proofs.reading.message_or_none.Goals as goal

pub returns-in_err-header : goal.returns-in_err-header
returns-in_err-header c =
    is_where_err _ _ _ c.from_residual.ensures.0
    (subst IsMalformed c.new-reader.ensures (no_header _ c.in_err-header.ensures))

pub returns-in_err-msg : goal.returns-in_err-msg
returns-in_err-msg c =
    is_where_err _ _ _ c.from_residual-in_err-msg.ensures.0
    (subst IsMalformed c.new-reader.ensures
    (no_fields c.in_ok-header.header _ _ c.in_ok-header.ensures c.in_err-msg.ensures))

pub returns-then-not-may_follow : goal.returns-then-not-may_follow
returns-then-not-may_follow c =
    let header = c.in_ok-header.header in
    let read = c.in_ok-msg.ensures in
    let payload = ap (λ (m : Message). m.payload) c.with_payload-msg.ensures ∙ c.rest.ensures in
    subst IsMalformed c.new-reader.ensures
    (cannot_follow header read.0 _ _ _ _ c.in_ok-header.ensures read.1 payload
    (λ may. let is = c.may_follow.ensures.1 may in let not = c.if-not-may_follow.true in absurd cc))

pub returns-then-not-has_needed : goal.returns-then-not-has_needed
returns-then-not-has_needed c =
    let header = c.in_ok-header.header in
    let read = c.in_ok-msg.ensures in
    let left = c.rest.result.now in
    let shown = c.with_payload-msg.ensures ∙ ap (λ (m : Message). record m { payload = left }) read.2
    ∙ ap (λ (t : List ℕ). shown_by header read.0 t) c.rest.ensures in
    subst IsMalformed c.new-reader.ensures
    (lacks_needed header read.0 _ _ _ _ c.in_ok-header.ensures read.1 shown
    (λ has. let is = c.has_needed.ensures.1 has in let not = c.if-not-has_needed.true in absurd cc))

pub returns : goal.returns
returns c =
    let header = c.in_ok-header.header in
    let read = c.in_ok-msg.ensures in
    let left = c.rest.result.now in
    let shown = c.with_payload-msg.ensures ∙ ap (λ (m : Message). record m { payload = left }) read.2
    ∙ ap (λ (t : List ℕ). shown_by header read.0 t) c.rest.ensures in
    let payload = ap (λ (m : Message). m.payload) c.with_payload-msg.ensures ∙ c.rest.ensures in
    let follows = subst (λ (t : List ℕ). MayFollow header.kind t) payload
    (c.may_follow.ensures.0 c.if-not-may_follow.false) in
    let needed = needed_of header read.0 _ _ shown (c.has_needed.ensures.0 c.if-not-has_needed.false) in
    let made = is_made header read.0 _ _ _ _ c.in_ok-header.ensures read.1
    (record { shown = shown; follows = follows; needed = needed }) in
    subst (λ (t : List ℕ). IsMessage t (message_of c.with_payload-msg.result)) c.new-reader.ensures made
