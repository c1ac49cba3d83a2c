use Rattle.std.proofs.Common.{◌≡◌, ◌≤◌, ◌<◌, ℕ, ◌+◌, ◌-◌, ◌*◌, map, drop}
use Rattle.std.specs.Prelude.{max}
use Rattle.sed_typed.specs.Height.{height_of, place_height, link_height, stmt_height, height_or}
use Rattle.sed_engine.specs.Expressions.{eval as eval_of, meaning as link_of, put_all, in_chain}
use Rattle.sed_engine.specs.Statements.{exec as exec_of, in_order, rounds, loop}
use Rattle.sed_walk.specs.Forms.{asks_of, rest_of_round, round_with}
use Rattle.sed_walk.specs.Heights.{heights, link_heights, stmt_heights, body_height, left_at}
use Rattle.sed_walk.specs.Site.{setting_at, seen_at, state_at}
use Rattle.sed_walk.proofs.+walk.Given as goal

abbrev pub decreases-calls::call : goal.decreases-calls::call
decreases-calls::call l = left_at l.site.now

abbrev pub decreases-calls::eval_args : goal.decreases-calls::eval_args
decreases-calls::eval_args l = left_at l.site.now + (8 * heights l.args.now + 1)

abbrev pub decreases-calls::eval_call : goal.decreases-calls::eval_call
decreases-calls::eval_call l = left_at l.site.now + (8 * heights l.args.now + 2)

abbrev pub decreases-calls::eval_static : goal.decreases-calls::eval_static
decreases-calls::eval_static l = left_at l.site.now + (8 * heights l.args.now + 3)

abbrev pub decreases-calls::eval_super : goal.decreases-calls::eval_super
decreases-calls::eval_super l = left_at l.site.now + (8 * heights l.args.now + 3)

abbrev pub decreases-calls::eval_invoke : goal.decreases-calls::eval_invoke
decreases-calls::eval_invoke l = left_at l.site.now + (8 * heights l.args.now + 2)

abbrev pub decreases-calls::run : goal.decreases-calls::run
decreases-calls::run l = left_at l.site.now + (8 * body_height l.method.now + 1)

abbrev pub decreases-expressions::eval : goal.decreases-expressions::eval
decreases-expressions::eval l = left_at l.site.now + 8 * height_of l.e.now

abbrev pub decreases-expressions::eval_chain : goal.decreases-expressions::eval_chain
decreases-expressions::eval_chain l = left_at l.site.now + (8 * max (height_of l.head.now) (link_heights l.links.now) + 5)

abbrev pub decreases-expressions::eval_choice : goal.decreases-expressions::eval_choice
decreases-expressions::eval_choice l = left_at l.site.now + (8 * max (height_of l.test.now) (max (height_of l.met.now) (height_of l.unmet.now)) + 1)

abbrev pub decreases-expressions::eval_set : goal.decreases-expressions::eval_set
decreases-expressions::eval_set l = left_at l.site.now + (8 * max (place_height l.place.now) (height_of l.value.now) + 4)

abbrev pub decreases-expressions::eval_static_element : goal.decreases-expressions::eval_static_element
decreases-expressions::eval_static_element l = left_at l.site.now + (8 * height_of l.index.now + 1)

abbrev pub decreases-expressions::eval_unary : goal.decreases-expressions::eval_unary
decreases-expressions::eval_unary l = left_at l.site.now + (8 * height_of l.operand.now + 1)

abbrev pub decreases-expressions::set_field : goal.decreases-expressions::set_field
decreases-expressions::set_field l = left_at l.site.now + (8 * max (height_of l.object.now) (height_of l.value.now) + 3)

abbrev pub decreases-expressions::set_local : goal.decreases-expressions::set_local
decreases-expressions::set_local l = left_at l.site.now + (8 * height_of l.value.now + 3)

abbrev pub decreases-expressions::set_place : goal.decreases-expressions::set_place
decreases-expressions::set_place l = left_at l.site.now + (8 * max (place_height l.place.now) (height_of l.value.now) + 3)

abbrev pub decreases-expressions::update_local : goal.decreases-expressions::update_local
decreases-expressions::update_local l = left_at l.site.now + (8 * height_of l.operand.now + 3)

abbrev pub decreases-expressions::update_place : goal.decreases-expressions::update_place
decreases-expressions::update_place l = left_at l.site.now + (8 * max (place_height l.place.now) (height_of l.operand.now) + 3)

abbrev pub decreases-expressions::eval_operand : goal.decreases-expressions::eval_operand
decreases-expressions::eval_operand l = left_at l.site.now + (8 * height_of l.e.now + 1)

abbrev pub decreases-expressions::eval_or : goal.decreases-expressions::eval_or
decreases-expressions::eval_or l = left_at l.site.now + (8 * height_or l.e.now + 1)

abbrev pub decreases-expressions::eval_update : goal.decreases-expressions::eval_update
decreases-expressions::eval_update l = left_at l.site.now + (8 * max (place_height l.place.now) (height_of l.operand.now) + 4)

abbrev pub decreases-expressions::locate : goal.decreases-expressions::locate
decreases-expressions::locate l = left_at l.site.now + (8 * place_height l.place.now + 2)

abbrev pub decreases-links::eval_link : goal.decreases-links::eval_link
decreases-links::eval_link l = left_at l.site.now + (8 * link_height l.link.now + 3)

abbrev pub decreases-links::eval_links : goal.decreases-links::eval_links
decreases-links::eval_links l = left_at l.site.now + (8 * link_heights l.links.now + 4)

abbrev pub decreases-links::eval_binary : goal.decreases-links::eval_binary
decreases-links::eval_binary l = left_at l.site.now + (8 * height_of l.operand.now + 2)

abbrev pub decreases-links::eval_and : goal.decreases-links::eval_and
decreases-links::eval_and l = left_at l.site.now + (8 * height_of l.operand.now + 2)

abbrev pub decreases-links::eval_either : goal.decreases-links::eval_either
decreases-links::eval_either l = left_at l.site.now + (8 * height_of l.operand.now + 2)

abbrev pub decreases-links::eval_element : goal.decreases-links::eval_element
decreases-links::eval_element l = left_at l.site.now + (8 * height_of l.index.now + 2)

abbrev pub decreases-links::eval_byte : goal.decreases-links::eval_byte
decreases-links::eval_byte l = left_at l.site.now + (8 * height_of l.index.now + 2)

abbrev pub decreases-links::eval_text_call : goal.decreases-links::eval_text_call
decreases-links::eval_text_call l = left_at l.site.now + (8 * heights l.args.now + 2)

abbrev pub decreases-loops::ask : goal.decreases-loops::ask
decreases-loops::ask l = left_at l.site.now + (8 * (stmt_height l.s.now - 1) + 2)

abbrev pub decreases-loops::end_round : goal.decreases-loops::end_round
decreases-loops::end_round l = left_at l.site.now + (8 * (stmt_height l.s.now - 1) + 2)

abbrev pub decreases-loops::run_round : goal.decreases-loops::run_round
decreases-loops::run_round l = left_at l.site.now + (8 * max (stmt_height l.s.now - 1) (stmt_height l.body.now) + 3)

abbrev pub decreases-loops::run_rounds : goal.decreases-loops::run_rounds
decreases-loops::run_rounds l = left_at l.site.now + (8 * max (stmt_height l.s.now - 1) (stmt_height l.body.now) + 4)

abbrev pub decreases-statements::exec : goal.decreases-statements::exec
decreases-statements::exec l = left_at l.site.now + 8 * stmt_height l.s.now

abbrev pub decreases-statements::exec_all : goal.decreases-statements::exec_all
decreases-statements::exec_all l = left_at l.site.now + (8 * stmt_heights l.all.now + 1)

abbrev pub decreases-statements::run_switch : goal.decreases-statements::run_switch
decreases-statements::run_switch l = left_at l.site.now + (8 * max (height_of l.e.now) (stmt_heights l.all.now) + 2)

abbrev pub invariant-calls::eval_args-loop-at : goal.invariant-calls::eval_args-loop-at
invariant-calls::eval_args-loop-at l =
    let w = setting_at l.site in
    (put_all (l.first + l.at) (map (eval_of w) (drop l.at l.args)) (map (seen_at l.site) l.frame) (state_at l.site l.store l.locals)
    ≡ put_all l.first (map (eval_of w) l.args) (map (seen_at l.site) l.fn.frame) (state_at l.site l.fn.store l.fn.locals))
    × (l.store.turns ≤ l.fn.store.turns)

abbrev pub invariant-links::eval_links-loop-link : goal.invariant-links::eval_links-loop-link
invariant-links::eval_links-loop-link l =
    let w = setting_at l.site in
    (in_chain (map (link_of w) (drop l.link-index l.links)) (seen_at l.site l.value) (state_at l.site l.store l.locals)
    ≡ in_chain (map (link_of w) l.links) (seen_at l.site l.fn.start) (state_at l.site l.fn.store l.fn.locals))
    × (l.store.turns ≤ l.fn.store.turns)

abbrev pub invariant-statements::exec_all-loop-s : goal.invariant-statements::exec_all-loop-s
invariant-statements::exec_all-loop-s l =
    let w = setting_at l.site in
    (in_order (map (exec_of w) (drop l.s-index l.all)) (state_at l.site l.store l.locals)
    ≡ in_order (map (exec_of w) l.all) (state_at l.site l.fn.store l.fn.locals))
    × (l.store.turns ≤ l.fn.store.turns)

abbrev pub invariant-loops::run_rounds-rounds : goal.invariant-loops::run_rounds-rounds
invariant-loops::run_rounds-rounds l =
    let w = setting_at l.site in
    let one = round_with (asks_of w l.s) (exec_of w l.body) (rest_of_round w l.s) in
    (n : ℕ) × (l.store.turns < n)
    × (loop one n (state_at l.site l.store l.locals) ≡ rounds one (state_at l.site l.fn.store l.fn.locals))
    × (l.store.turns ≤ l.fn.store.turns)

abbrev pub decreases-loops::run_rounds-rounds : goal.decreases-loops::run_rounds-rounds
decreases-loops::run_rounds-rounds l = l.store.turns
