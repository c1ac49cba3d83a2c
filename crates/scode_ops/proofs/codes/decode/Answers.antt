use Rattle.std.proofs.Common.{◌≡◌, true, sym, ◌∙◌, ap, arith}
use Rattle.std.specs.Prelude.{Some}
use Rattle.std.proofs.lemmas.Bool.{both_ways}
use Rattle.scode_ops.specs.Codes.{is_spelled}
use Rattle.scode_ops.specs.Reading.{read}
use Rattle.scode_ops.proofs.CodeLemmas.{none_of_number, none_of_operands, Found, found, begins_there, one_stands, rest_behind}
use Rattle.scode_ops.proofs.codes.decode.Goals as goal

pub returns-in_default-clause-none : goal.returns-in_default-clause-none
returns-in_default-clause-none c = λ op stands.
    none_of_number c.args.bytes.now c.args.at op (omega arith) (sym c.form_of.ensures ∙ c.in_default.is) stands

pub returns-in_default-read-clause-none : goal.returns-in_default-read-clause-none
returns-in_default-read-clause-none c = λ op stands.
    none_of_operands c.args.bytes.now c.args.at c.in-Some.form op (omega arith) (sym c.form_of.ensures ∙ c.in-Some.is)
    (ap (read c.in-Some.form) (sym (rest_behind c.args.bytes.now c.args.at)) ∙ sym c.read.ensures ∙ c.in_default-read.is) stands

pub instruction-op-requires : goal.instruction-op-requires
instruction-op-requires c =
    let here : Found c.args.bytes.now c.args.at c.in-Some.form c.in-Some-read.operands =
    found c.args.bytes.now c.args.at c.in-Some.form c.in-Some-read.operands (λ i. (c.type_inv.bytes i).fits)
    (ap (read c.in-Some.form) (sym (rest_behind c.args.bytes.now c.args.at)) ∙ sym c.read.ensures ∙ c.in-Some-read.is) in
    sym c.form_of.ensures ∙ c.in-Some.is ∙ ap Some (sym here.kind)

pub returns-then-not-is_allowed-clause-none : goal.returns-then-not-is_allowed-clause-none
returns-then-not-is_allowed-clause-none c = λ op stands.
    let here : Found c.args.bytes.now c.args.at c.in-Some.form c.in-Some-read.operands =
    found c.args.bytes.now c.args.at c.in-Some.form c.in-Some-read.operands (λ i. (c.type_inv.bytes i).fits)
    (ap (read c.in-Some.form) (sym (rest_behind c.args.bytes.now c.args.at)) ∙ sym c.read.ensures ∙ c.in-Some-read.is) in
    let there = begins_there c.args.bytes.now c.args.at c.in-Some.form c.in-Some-read.operands c.instruction-op.result (omega arith) here c.instruction-op.ensures.number c.instruction-op.ensures.operands in
    let same : c.instruction-op.result ≡ op = one_stands c.args.bytes.now c.args.at c.instruction-op.result op there.2 stands.is.fits there.0 stands.begins in
    let spelled : is_spelled c.instruction-op.result ≡ true = ap is_spelled same ∙ stands.is.spelled in
    both_ways (is_spelled c.instruction-op.result) (sym c.is_allowed.ensures ∙ c.if-not-is_allowed.true) spelled

pub returns-clause-found : goal.returns-clause-found
returns-clause-found c =
    let here : Found c.args.bytes.now c.args.at c.in-Some.form c.in-Some-read.operands =
    found c.args.bytes.now c.args.at c.in-Some.form c.in-Some-read.operands (λ i. (c.type_inv.bytes i).fits)
    (ap (read c.in-Some.form) (sym (rest_behind c.args.bytes.now c.args.at)) ∙ sym c.read.ensures ∙ c.in-Some-read.is) in
    let there = begins_there c.args.bytes.now c.args.at c.in-Some.form c.in-Some-read.operands c.instruction-op.result (omega arith) here c.instruction-op.ensures.number c.instruction-op.ensures.operands in
    let spelled : is_spelled c.instruction-op.result ≡ true = sym c.is_allowed.ensures ∙ c.if-not-is_allowed.false in
    (record { is = record { spelled = spelled; fits = there.2 }; begins = there.0 }, omega (arith, there.1, c.width.ensures))
