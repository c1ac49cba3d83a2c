use Rattle.std.proofs.Common.{◌≡◌, ◌-◌, ◌<◌, [], ◌∷◌, sym, codes, arith}
use Rattle.std.proofs.lemmas.Result.{err_from_is_err_and}
use Rattle.sed_parser.specs.Next.{next_mark}
use Rattle.sed_parser.specs.Expressions.{deeper, expression, access, next_access, operand, next_operand, next_argument}
use Rattle.sed_parser.proofs.Repeats.{one_more, refused, last, too_many, begun}
use Rattle.sed_parser.proofs.Levels.{lowest, whole_level, conditional_level, prefix_level, operand_level, no_room, room, access_links_are, operand_links_are, more_arguments_are}
use Rattle.sed_parser.proofs.parser.Parser.+parsing.Goals as goal

pub deeper-returns-then-room-eq0 : goal.deeper-returns-then-room-eq0
deeper-returns-then-room-eq0 t c = rw c.if-room-eq0.true (no_room c.args.level c.args.inside c.args.self.now)

pub deeper-returns : goal.deeper-returns
deeper-returns t c =
    let some : 0 < c.args.room = omega arith in
    rw (room c.args.room c.args.level c.args.inside c.args.self.now some) c.expression.ensures

pub expression-returns-then-level-eq0 : goal.expression-returns-then-level-eq0
expression-returns-then-level-eq0 t c = rw (c.if-level-eq0.true, lowest) c.postfix.ensures

pub expression-returns-then-level-eq-WHOLE : goal.expression-returns-then-level-eq-WHOLE
expression-returns-then-level-eq-WHOLE t c = rw (c.if-level-eq-WHOLE.true, whole_level) c.assigned.ensures

pub expression-returns-then-level-eq-CONDITIONAL : goal.expression-returns-then-level-eq-CONDITIONAL
expression-returns-then-level-eq-CONDITIONAL t c =
    rw (c.if-level-eq-CONDITIONAL.true, conditional_level) c.conditional.ensures

pub expression-returns-then-level-eq-PREFIX : goal.expression-returns-then-level-eq-PREFIX
expression-returns-then-level-eq-PREFIX t c = rw (c.if-level-eq-PREFIX.true, prefix_level) c.prefixed.ensures

pub expression-returns : goal.expression-returns
expression-returns t c =
    let above : 1 < c.args.level = omega arith in
    let below : c.args.level < 12 = omega arith in
    rw (operand_level (deeper c.args.room) c.args.level c.args.inside c.args.self.now above below) c.operands.ensures

pub access_links-returns-then-not-is_access : goal.access_links-returns-then-not-is_access
access_links-returns-then-not-is_access t c =
    rw (c.new.ensures, access_links_are)
    (last (next_access c.args.inside) (access (deeper c.args.room) c.args.inside).reads c.loop.links.items
    (c.left-most.result - c.loop.counter) c.loop.self _ (sym c.if-not-is_access.ensures) c.loop.invariant)

pub access_links-returns-in_err-next : goal.access_links-returns-in_err-next
access_links-returns-in_err-next t c =
    let p = err_from_is_err_and c.from_residual.result c.from_residual.ensures.1 in
    rw (p.1, p.2, access_links_are)
    (refused (next_access c.args.inside) (access (deeper c.args.room) c.args.inside).reads c.in_err-next.field-0.0 _
    c.loop.links.items c.left-most.result c.loop.counter c.loop.self _ c.loop-test.true
    (sym c.if-not-is_access.ensures) c.in_err-next.ensures c.loop.invariant)

pub access_links-loop-preserved : goal.access_links-loop-preserved
access_links-loop-preserved t c =
    rw c.in_ok-push.ensures.items
    (one_more (next_access c.args.inside) (access (deeper c.args.room) c.args.inside).reads c.loop.links.items
    c.left-most.result c.loop.counter c.loop.self c.in_ok-next.next c.access.new.self _ c.loop-test.true
    (sym c.if-not-is_access.ensures) c.in_ok-next.ensures c.loop.invariant)

pub access_links-returns-then-not-is_access-2 : goal.access_links-returns-then-not-is_access-2
access_links-returns-then-not-is_access-2 t c =
    rw (c.new-then-not-is_access-2.ensures, access_links_are)
    (last (next_access c.args.inside) (access (deeper c.args.room) c.args.inside).reads c.loop.links.items
    (c.left-most.result - c.loop.counter) c.loop.self _ (sym c.if-not-is_access-2.ensures) c.loop.invariant)

pub access_links-returns : goal.access_links-returns
access_links-returns t c =
    rw access_links_are (too_many (next_access c.args.inside) (access (deeper c.args.room) c.args.inside).reads
    c.loop.links.items c.left-most.result c.loop.counter c.loop.self _ c.loop-test.false
    (sym c.if-not-is_access-2.ensures) c.loop.invariant)

pub operand_links-returns-then-not-is_operand : goal.operand_links-returns-then-not-is_operand
operand_links-returns-then-not-is_operand t c =
    rw (c.new.ensures, operand_links_are)
    (last (next_operand c.args.inside c.args.level)
    (operand c.args.level (expression c.args.room (c.args.level - 1) c.args.inside)).reads c.loop.links.items
    (c.left-most.result - c.loop.counter) c.loop.self _ (sym c.if-not-is_operand.ensures) c.loop.invariant)

pub operand_links-returns-in_err-next : goal.operand_links-returns-in_err-next
operand_links-returns-in_err-next t c =
    let p = err_from_is_err_and c.from_residual.result c.from_residual.ensures.1 in
    rw (p.1, p.2, operand_links_are)
    (refused (next_operand c.args.inside c.args.level)
    (operand c.args.level (expression c.args.room (c.args.level - 1) c.args.inside)).reads c.in_err-next.field-0.0 _
    c.loop.links.items c.left-most.result c.loop.counter c.loop.self _ c.loop-test.true
    (sym c.if-not-is_operand.ensures) c.in_err-next.ensures c.loop.invariant)

pub operand_links-loop-preserved : goal.operand_links-loop-preserved
operand_links-loop-preserved t c =
    rw c.in_ok-push.ensures.items
    (one_more (next_operand c.args.inside c.args.level)
    (operand c.args.level (expression c.args.room (c.args.level - 1) c.args.inside)).reads c.loop.links.items
    c.left-most.result c.loop.counter c.loop.self c.in_ok-next.next c.operand.new.self _ c.loop-test.true
    (sym c.if-not-is_operand.ensures) c.in_ok-next.ensures c.loop.invariant)

pub operand_links-returns-then-not-is_operand-2 : goal.operand_links-returns-then-not-is_operand-2
operand_links-returns-then-not-is_operand-2 t c =
    rw (c.new-then-not-is_operand-2.ensures, operand_links_are)
    (last (next_operand c.args.inside c.args.level)
    (operand c.args.level (expression c.args.room (c.args.level - 1) c.args.inside)).reads c.loop.links.items
    (c.left-most.result - c.loop.counter) c.loop.self _ (sym c.if-not-is_operand-2.ensures) c.loop.invariant)

pub operand_links-returns : goal.operand_links-returns
operand_links-returns t c =
    rw operand_links_are (too_many (next_operand c.args.inside c.args.level)
    (operand c.args.level (expression c.args.room (c.args.level - 1) c.args.inside)).reads c.loop.links.items
    c.left-most.result c.loop.counter c.loop.self _ c.loop-test.false (sym c.if-not-is_operand-2.ensures)
    c.loop.invariant)

pub more_arguments-returns-then-not-is_mark : goal.more_arguments-returns-then-not-is_mark
more_arguments-returns-then-not-is_mark t c =
    let first : c.push.new.items.items ≡ c.args.first ∷ [] =
    rw c.new-args.ensures.items at c.in_ok-push.ensures.items in
    rw (c.new.ensures, more_arguments_are)
    (last (next_mark (codes ",")) (next_argument (deeper c.args.room)).reads c.loop.args.items
    (c.left-most.result - c.loop.counter) c.loop.self _ (sym c.if-not-is_mark.ensures)
    (begun _ _ _ _ first c.loop.invariant))

pub more_arguments-returns-in_err-next : goal.more_arguments-returns-in_err-next
more_arguments-returns-in_err-next t c =
    let first : c.push.new.items.items ≡ c.args.first ∷ [] =
    rw c.new-args.ensures.items at c.in_ok-push.ensures.items in
    let p = err_from_is_err_and c.from_residual-in_err-next.result c.from_residual-in_err-next.ensures.1 in
    rw (p.1, p.2, more_arguments_are)
    (refused (next_mark (codes ",")) (next_argument (deeper c.args.room)).reads c.in_err-next.field-0.0 _
    c.loop.args.items c.left-most.result c.loop.counter c.loop.self _ c.loop-test.true
    (sym c.if-not-is_mark.ensures) c.in_err-next.ensures (begun _ _ _ _ first c.loop.invariant))

pub more_arguments-loop-preserved : goal.more_arguments-loop-preserved
more_arguments-loop-preserved t c =
    rw c.in_ok-push-2.ensures.items
    (one_more (next_mark (codes ",")) (next_argument (deeper c.args.room)).reads c.loop.args.items
    c.left-most.result c.loop.counter c.loop.self c.in_ok-next.next c.next_argument.new.self _ c.loop-test.true
    (sym c.if-not-is_mark.ensures) c.in_ok-next.ensures c.loop.invariant)

pub more_arguments-returns-then-not-is_mark-2 : goal.more_arguments-returns-then-not-is_mark-2
more_arguments-returns-then-not-is_mark-2 t c =
    let first : c.push.new.items.items ≡ c.args.first ∷ [] =
    rw c.new-args.ensures.items at c.in_ok-push.ensures.items in
    rw (c.new-then-not-is_mark-2.ensures, more_arguments_are)
    (last (next_mark (codes ",")) (next_argument (deeper c.args.room)).reads c.loop.args.items
    (c.left-most.result - c.loop.counter) c.loop.self _ (sym c.if-not-is_mark-2.ensures)
    (begun _ _ _ _ first c.loop.invariant))

pub more_arguments-returns : goal.more_arguments-returns
more_arguments-returns t c =
    let first : c.push.new.items.items ≡ c.args.first ∷ [] =
    rw c.new-args.ensures.items at c.in_ok-push.ensures.items in
    rw more_arguments_are
    (too_many (next_mark (codes ",")) (next_argument (deeper c.args.room)).reads c.loop.args.items
    c.left-most.result c.loop.counter c.loop.self _ c.loop-test.false (sym c.if-not-is_mark-2.ensures)
    (begun _ _ _ _ first c.loop.invariant))
