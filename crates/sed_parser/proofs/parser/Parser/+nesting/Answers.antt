use Rattle.std.proofs.Common.{◌-◌, ◌<◌, sym, arith}
use Rattle.std.proofs.lemmas.Result.{err_from_is_err_and}
use Rattle.sed_parser.specs.Statements.{inner, next_statement, case_of, next_case}
use Rattle.sed_parser.proofs.Repeats.{one_more, refused, last, too_many}
use Rattle.sed_parser.proofs.Nesting.{no_room, room, statements_are, cases_are}
use Rattle.sed_parser.proofs.parser.Parser.+nesting.Goals as goal

pub inner-returns-then-room-eq0 : goal.inner-returns-then-room-eq0
inner-returns-then-room-eq0 t c = rw c.if-room-eq0.true (no_room c.args.self.now)

pub inner-returns : goal.inner-returns
inner-returns t c =
    let some : 0 < c.args.room = omega arith in
    rw (room c.args.room c.args.self.now some) c.statement.ensures

pub inner_statements-returns-then-not-is_statement : goal.inner_statements-returns-then-not-is_statement
inner_statements-returns-then-not-is_statement t c =
    rw (c.new.ensures, statements_are)
    (last next_statement (inner c.args.room).reads c.loop.all.items (c.left-most.result - c.loop.counter)
    c.loop.self _ (sym c.if-not-is_statement.ensures) c.loop.invariant)

pub inner_statements-returns-in_err-next : goal.inner_statements-returns-in_err-next
inner_statements-returns-in_err-next t c =
    let p = err_from_is_err_and c.from_residual.result c.from_residual.ensures.1 in
    rw (p.1, p.2, statements_are)
    (refused next_statement (inner c.args.room).reads c.in_err-next.field-0.0 _ c.loop.all.items c.left-most.result
    c.loop.counter c.loop.self _ c.loop-test.true (sym c.if-not-is_statement.ensures) c.in_err-next.ensures
    c.loop.invariant)

pub inner_statements-loop-preserved : goal.inner_statements-loop-preserved
inner_statements-loop-preserved t c =
    rw c.in_ok-push.ensures.items
    (one_more next_statement (inner c.args.room).reads c.loop.all.items c.left-most.result c.loop.counter
    c.loop.self c.in_ok-next.next c.inner.new.self _ c.loop-test.true (sym c.if-not-is_statement.ensures)
    c.in_ok-next.ensures c.loop.invariant)

pub inner_statements-returns-then-not-is_statement-2 : goal.inner_statements-returns-then-not-is_statement-2
inner_statements-returns-then-not-is_statement-2 t c =
    rw (c.new-then-not-is_statement-2.ensures, statements_are)
    (last next_statement (inner c.args.room).reads c.loop.all.items (c.left-most.result - c.loop.counter)
    c.loop.self _ (sym c.if-not-is_statement-2.ensures) c.loop.invariant)

pub inner_statements-returns : goal.inner_statements-returns
inner_statements-returns t c =
    rw statements_are (too_many next_statement (inner c.args.room).reads c.loop.all.items c.left-most.result
    c.loop.counter c.loop.self _ c.loop-test.false (sym c.if-not-is_statement-2.ensures) c.loop.invariant)

pub cases-returns-then-not-is_case : goal.cases-returns-then-not-is_case
cases-returns-then-not-is_case t c =
    rw (c.new.ensures, cases_are)
    (last next_case (case_of c.args.room (inner c.args.room)).reads c.loop.all.items
    (c.left-most.result - c.loop.counter) c.loop.self _ (sym c.if-not-is_case.ensures) c.loop.invariant)

pub cases-returns-in_err-next : goal.cases-returns-in_err-next
cases-returns-in_err-next t c =
    let p = err_from_is_err_and c.from_residual.result c.from_residual.ensures.1 in
    rw (p.1, p.2, cases_are)
    (refused next_case (case_of c.args.room (inner c.args.room)).reads c.in_err-next.field-0.0 _ c.loop.all.items
    c.left-most.result c.loop.counter c.loop.self _ c.loop-test.true (sym c.if-not-is_case.ensures)
    c.in_err-next.ensures c.loop.invariant)

pub cases-loop-preserved : goal.cases-loop-preserved
cases-loop-preserved t c =
    rw c.in_ok-push.ensures.items
    (one_more next_case (case_of c.args.room (inner c.args.room)).reads c.loop.all.items c.left-most.result
    c.loop.counter c.loop.self c.in_ok-next.next c.case_of.new.self _ c.loop-test.true
    (sym c.if-not-is_case.ensures) c.in_ok-next.ensures c.loop.invariant)

pub cases-returns-then-not-is_case-2 : goal.cases-returns-then-not-is_case-2
cases-returns-then-not-is_case-2 t c =
    rw (c.new-then-not-is_case-2.ensures, cases_are)
    (last next_case (case_of c.args.room (inner c.args.room)).reads c.loop.all.items
    (c.left-most.result - c.loop.counter) c.loop.self _ (sym c.if-not-is_case-2.ensures) c.loop.invariant)

pub cases-returns : goal.cases-returns
cases-returns t c =
    rw cases_are (too_many next_case (case_of c.args.room (inner c.args.room)).reads c.loop.all.items c.left-most.result
    c.loop.counter c.loop.self _ c.loop-test.false (sym c.if-not-is_case-2.ensures) c.loop.invariant)
