-- The code of typed statements is walked along, from an empty stack to an empty one.
use Rattle.std.proofs.Common.{◌≡◌, ◌≤◌, ◌<◌, inl, ℕ, ◌+◌, ◌==◌, max, true, List, [], ◌∷◌, ◌++◌, length, drop, Option, Some, None, refl, ap, subst, arith}
use mathlib.Core.Former.{Count}
use Rattle.sed_value.specs.declared.slot_type.Primitive.TheVariants as prim
use Rattle.sed_typed.specs.declared.kind.Kind.{Kind}
use Rattle.sed_typed.specs.declared.kind.Kind.TheVariants as kind
use Rattle.sed_typed.specs.declared.statement.Label.{Label}
use Rattle.sed_typed.specs.declared.statement.Label.TheVariants.{Case, Default}
use Rattle.sed_typed.specs.declared.statement.Stmt.{Stmt, Row_of-Stmt, end_of-Stmt, more_of-Stmt}
use Rattle.sed_typed.specs.declared.statement.Stmt.TheVariants as stmt
use Rattle.sed_typed.specs.Kinds.{kind_of}
use Rattle.sed_typed.specs.TypedExpr.{Context}
use Rattle.sed_typed.specs.TypedStmt.{AreStmts, Around, IsStmt, in_loop, in_switch}
use Rattle.scode_image.specs.declared.image.ImageKind.{ImageKind}
use Rattle.scode_code.specs.Kinds.{bool, int}
use Rattle.scode_emit.specs.Code.{begins, default_place, expr_code, first_of, last_code, stmt_code, stmts_code, test_code, tests_code}
use Rattle.scode_emit.specs.Sizes.{expr_size, last_size, over_size, stmt_size, stmts_size, test_size, tests_size}
use Rattle.scode_emit.specs.Site.{Site, waiting}
use Rattle.scode_emit.proofs.Sized.{expr_sized, last_sized, stmt_sized, test_sized, tests_sized}
use Rattle.scode_entries.specs.declared.marks.Mark.{Mark}
use Rattle.scode_entries.specs.Entries.{above, cell_of, expr_marks, labelled_marks, last_marks, mark, part_marks, stmt_marks, stmts_marks}
use Rattle.scode_entries.specs.Stack.{stmt_stack, stmts_stack}
use Rattle.scode_entries.proofs.Admits.{Each}
use Rattle.scode_sim.proofs.Callees.{goes_solid}
use Rattle.scode_sim.proofs.Frames.{IsSolid}
use Rattle.scode_fine.proofs.Builds.{answer_does, if_does, jump_does, return_does, unless_does}
use Rattle.scode_fine.proofs.Exprs.{Tells, behind, expr_walks}
use Rattle.scode_fine.proofs.Facts.{Facts, solid_above}
use Rattle.scode_fine.proofs.Has.{each_back, each_front}
use Rattle.scode_fine.proofs.Parts.{back_walks, begun_walks, drop_walks, last_walks, over_walks, test_walks}
use Rattle.scode_fine.proofs.PlainOps.{equal_does, int_does, turn_does}
use Rattle.scode_fine.proofs.Storages.{wait_int, waited_int}
use Rattle.scode_fine.proofs.Walks.{Enters, Ground, Joins, Runs, Stack, Stops, Turns, Walks, both, ended, runs, to_stack}

-- the places of the turns of a statement
abbrev mutual
  pub turns_of : Site → ℕ → Stmt → List ℕ
  turns_of w at (stmt.Block' shape all) = all_turns w at all
  turns_of w at (stmt.If' t p a q b) =
      turns_of w (at + expr_size w t + 3) a
      ++ turns_of w (at + expr_size w t + 3 + stmt_size w a + over_size (stmt_size w b)) b
  turns_of w at (stmt.While' t p body) = (at + 3) ∷ (turns_of w (at + 4) body ++ [])
  turns_of w at (stmt.DoWhile' p body t) = at ∷ (turns_of w (at + 1) body ++ [])
  turns_of w at (stmt.For' p first t last q body) =
      turns_of w at first
      ++ (at + stmt_size w first + 3) ∷ (turns_of w (at + stmt_size w first + 4) body ++ [])
  turns_of w at (stmt.Switch' e labels shape all) =
      all_turns w (at + expr_size w e + 2 + tests_size labels.items + 3) all
  turns_of w at s = []

  pub all_turns : {n : _} → Site → ℕ → Row_of-Stmt n → List ℕ
  all_turns w at end_of-Stmt = []
  all_turns w at (more_of-Stmt s ss) = turns_of w at s ++ all_turns w (at + stmt_size w s) ss

-- where `break` and `continue` go, if they may: forward, to an empty stack
pub record Exits (g : Ground) (ar : Around) (end out on : ℕ) : Type 0 where
  pub breaks : ar.breaks ≡ true → g.Told out [] × (end ≤ out)
  pub continues : ar.continues ≡ true → g.Told on [] × (end ≤ on)

closer : (g : Ground) (ar : Around) (low end out on : ℕ) → low ≤ end → Exits g ar end out on → Exits g ar low out on
closer g ar low end out on le x = record {
  breaks = λ e. let b = x.breaks e in let far = b.1 in (b.0, omega (arith, le, far));
  continues = λ e. let b = x.continues e in let far = b.1 in (b.0, omega (arith, le, far));
}

pub solid_result : (k : Kind) → (k ≡ kind.Void → ⊥) → IsSolid k
solid_result kind.Void h = h refl
solid_result kind.Bool h = tt
solid_result kind.Int h = tt
solid_result kind.Long h = tt
solid_result kind.Text h = tt
solid_result (kind.Object class) h = tt

-- ---- labels

-- a place that is told with an empty stack, at or behind another
abbrev pub Ahead : Ground → ℕ → ℕ → Type 0
Ahead g limit place = g.Told place [] × (limit ≤ place)

first_ahead : (g : Ground) (limit end : ℕ) (places : List ℕ) → Ahead g limit end → Each (Ahead g limit) places →
    Ahead g limit (first_of end places)
first_ahead g limit end [] e h = e
first_ahead g limit end (p ∷ places) e h = h.0

rest_ahead : (g : Ground) (limit : ℕ) (places : List ℕ) → Each (Ahead g limit) places → Each (Ahead g limit) (drop 1 places)
rest_ahead g limit [] h = tt
rest_ahead g limit (p ∷ places) h = h.1

default_ahead : (g : Ground) (limit end : ℕ) (labels : List Label) (places : List ℕ) → Ahead g limit end → Each (Ahead g limit) places →
    Ahead g limit (default_place end labels places)
default_ahead g limit end [] places e h = first_ahead g limit end places e h
default_ahead g limit end (Case n ∷ labels) places e h =
    default_ahead g limit end labels (drop 1 places) e (rest_ahead g limit places h)
default_ahead g limit end (Default ∷ labels) places e h = first_ahead g limit end places e h

module _ (g : Ground) (c : Context) (w : Site) (f : Facts g c w) where
  abbrev pub Told_all : List Mark → Type 0
  Told_all ms = Each (Tells g c w f) ms

  begins_ahead : {n : Count} (limit at : ℕ) (ss : Row_of-Stmt n) → limit ≤ at → Told_all (labelled_marks w at ss) →
      Each (Ahead g limit) (begins w at ss)
  begins_ahead limit at end_of-Stmt le t = tt
  begins_ahead limit at (more_of-Stmt s ss) le t = (
    (t.0, le),
    begins_ahead limit (at + stmt_size w s) ss (omega (arith, le))
        (each_back (Tells g c w f) (stmt_marks w at s) (labelled_marks w (at + stmt_size w s) ss) t.1),
  )

  end_told : {n : Count} (at : ℕ) (ss : Row_of-Stmt n) → Told_all (labelled_marks w at ss) → g.Told (at + stmts_size w ss) []
  end_told at end_of-Stmt t =
      let same : at ≡ at + 0 = omega arith in subst (λ (p : ℕ). g.Told p []) same t.0
  end_told at (more_of-Stmt s ss) t =
      let same : at + stmt_size w s + stmts_size w ss ≡ at + (stmt_size w s + stmts_size w ss) = omega arith in
      subst (λ (p : ℕ). g.Told p []) same
      (end_told (at + stmt_size w s) ss (each_back (Tells g c w f) (stmt_marks w at s) (labelled_marks w (at + stmt_size w s) ss) t.1))

  tests_walks : (limit at end : ℕ) (labels : List Label) (places : List ℕ) → at + tests_size labels ≤ limit →
      Ahead g limit end → Each (Ahead g limit) places → 2 ≤ g.m.stack →
      Walks g at (Some []) (tests_code (waiting w prim.Int) end labels places) [] [] (Some [])
  tests_walks limit at end [] places le e h low = Stops
  tests_walks limit at end (Case n ∷ labels) places le e h low =
      let to = first_ahead g limit end places e h in
      let far = to.1 in
      let zero_low : length {A = ImageKind} [] ≤ g.m.stack = omega arith in
      let one_low : length (int ∷ []) ≤ g.m.stack = omega (arith, low) in
      let two_low : length (int ∷ int ∷ []) ≤ g.m.stack = low in
      let less : at + 2 + 5 + 1 < first_of end places = omega (arith, le, far) in
      let step : at + 11 ≡ at + 2 + 5 + 1 + 3 = omega arith in
      runs (waited_int g c w f [] at zero_low one_low)
      (runs (int_does g n (int ∷ []) (at + 2) one_low two_low)
      (runs (equal_does g [] (at + 2 + 5) two_low one_low)
      (Runs {to = at + 11} (if_does g (at + 2 + 5 + 1) (first_of end places) [] to.0 (inl less) one_low) step
      (tests_walks limit (at + 11) end labels (drop 1 places) (omega (arith, le)) e (rest_ahead g limit places h) low))))
  tests_walks limit at end (Default ∷ labels) places le e h low =
      tests_walks limit at end labels (drop 1 places) le e (rest_ahead g limit places h) low

  mutual
    pub stmt_walks : (ar : Around) (at out on : ℕ) (s : Stmt) → IsStmt c ar s → Told_all (stmt_marks w at s) →
        Each g.Turned (turns_of w at s) → max 1 (stmt_stack s) ≤ g.m.stack → Exits g ar (at + stmt_size w s) out on →
        Walks g at (Some []) (stmt_code w at out on s) (stmt_marks w at s) (turns_of w at s) (Some [])
    stmt_walks ar at out on stmt.Empty h t u le x = Stops
    stmt_walks ar at out on (stmt.Do e) h t u le x = drop_walks g c w f at e h t (omega (arith, le))
    stmt_walks ar at out on (stmt.Local k i e) h t u le x = begun_walks g c w f at k i e h.0 h.1 t (omega (arith, le))
    stmt_walks ar at out on (stmt.Block' shape all) h t u le x = stmts_walks ar at out on all h t u le x
    stmt_walks ar at out on (stmt.If' test p a q b) h t u le x =
        let mid = at + expr_size w test in
        let first = mid + 3 in
        let met = first + stmt_size w a in
        let second = met + over_size (stmt_size w b) in
        let last = second + stmt_size w b in
        let ends = mark last [] ∷ [] in
        let others = mark second [] ∷ (stmt_marks w second b ++ ends) in
        let of_test = each_front (Tells g c w f) (expr_marks w [] at test) (stmt_marks w first a ++ others) t in
        let behind_test = each_back (Tells g c w f) (expr_marks w [] at test) (stmt_marks w first a ++ others) t in
        let of_a = each_front (Tells g c w f) (stmt_marks w first a) others behind_test in
        let of_others = each_back (Tells g c w f) (stmt_marks w first a) others behind_test in
        let of_b = each_front (Tells g c w f) (stmt_marks w second b) ends of_others.1 in
        let of_end = each_back (Tells g c w f) (stmt_marks w second b) ends of_others.1 in
        let turns_a = each_front g.Turned (turns_of w first a) (turns_of w second b) u in
        let turns_b = each_back g.Turned (turns_of w first a) (turns_of w second b) u in
        let low_one : length (bool ∷ []) ≤ g.m.stack = omega (arith, le) in
        both (to_stack (ap (λ (k : Kind). above k []) h.0.1) (expr_walks g c w f [] at test h.0.0 of_test (omega (arith, le))))
        (behind at (expr_size w test) (expr_code w at test) (expr_sized w at test))
        (Runs {to = first} (unless_does g mid second [] of_others.0 (omega arith) low_one) refl
        (both (stmt_walks ar first out on a h.1 of_a turns_a (omega (arith, le)) (closer g ar met (at + stmt_size w (stmt.If' test p a q b)) out on (omega arith) x))
        (behind first (stmt_size w a) (stmt_code w first out on a) (stmt_sized w first out on a))
        (over_walks g c w f (stmt_size w b == 0) met second last refl (omega arith) of_end.0
        (ended (mark last []) (stmt_walks ar second out on b h.2 of_b turns_b (omega (arith, le)) (closer g ar last (at + stmt_size w (stmt.If' test p a q b)) out on (omega arith) x))
        (behind second (stmt_size w b) (stmt_code w second out on b) (stmt_sized w second out on b)) refl))))
    stmt_walks ar at out on (stmt.While' test p body) h t u le x =
        let first = at + 4 in
        let check = first + stmt_size w body in
        let last = check + expr_size w test + 3 in
        let tests = expr_marks w [] check test ++ mark last [] ∷ [] in
        let of_body = each_front (Tells g c w f) (stmt_marks w first body) (mark check [] ∷ tests) t.1 in
        let of_tests = each_back (Tells g c w f) (stmt_marks w first body) (mark check [] ∷ tests) t.1 in
        let of_test = each_front (Tells g c w f) (expr_marks w [] check test) (mark last [] ∷ []) of_tests.1 in
        let of_last = each_back (Tells g c w f) (expr_marks w [] check test) (mark last [] ∷ []) of_tests.1 in
        let none : length {A = ImageKind} [] ≤ g.m.stack = omega arith in
        let exits : Exits g in_loop check last check = record { breaks = λ e. (of_last.0, omega arith); continues = λ e. (of_tests.0, omega arith) } in
        Runs {to = at + 3} (jump_does g at check [] of_tests.0 (omega arith) none) refl
        (Enters (mark (at + 3) []) refl tt
        (Turns {to = first} (turn_does g [] (at + 3) none none) (omega arith)
        (both (stmt_walks in_loop first last check body h.1 of_body (each_front g.Turned (turns_of w first body) [] u.1) (omega (arith, le)) exits)
        (behind first (stmt_size w body) (stmt_code w first last check body) (stmt_sized w first last check body))
        (Enters (mark check []) refl refl
        (back_walks g c w f check (expr_size w test) (at + 3) (expr_code w check test) (expr_marks w [] check test)
        (to_stack (ap (λ (k : Kind). above k []) h.0.1) (expr_walks g c w f [] check test h.0.0 of_test (omega (arith, le))))
        (expr_sized w check test) t.0 u.0 (omega (arith, le)))))))
    stmt_walks ar at out on (stmt.DoWhile' p body test) h t u le x =
        let first = at + 1 in
        let check = first + stmt_size w body in
        let last = check + expr_size w test + 3 in
        let tests = expr_marks w [] check test ++ mark last [] ∷ [] in
        let of_body = each_front (Tells g c w f) (stmt_marks w first body) (mark check [] ∷ tests) t.1 in
        let of_tests = each_back (Tells g c w f) (stmt_marks w first body) (mark check [] ∷ tests) t.1 in
        let of_test = each_front (Tells g c w f) (expr_marks w [] check test) (mark last [] ∷ []) of_tests.1 in
        let of_last = each_back (Tells g c w f) (expr_marks w [] check test) (mark last [] ∷ []) of_tests.1 in
        let none : length {A = ImageKind} [] ≤ g.m.stack = omega arith in
        let exits : Exits g in_loop check last check = record { breaks = λ e. (of_last.0, omega arith); continues = λ e. (of_tests.0, omega arith) } in
        Enters (mark at []) refl refl
        (Turns {to = first} (turn_does g [] at none none) refl
        (both (stmt_walks in_loop first last check body h.0 of_body (each_front g.Turned (turns_of w first body) [] u.1) (omega (arith, le)) exits)
        (behind first (stmt_size w body) (stmt_code w first last check body) (stmt_sized w first last check body))
        (Enters (mark check []) refl refl
        (back_walks g c w f check (expr_size w test) at (expr_code w check test) (expr_marks w [] check test)
        (to_stack (ap (λ (k : Kind). above k []) h.1.1) (expr_walks g c w f [] check test h.1.0 of_test (omega (arith, le))))
        (expr_sized w check test) t.0 u.0 (omega (arith, le))))))
    stmt_walks ar at out on (stmt.For' p init test last q body) h t u le x =
        let start = at + stmt_size w init in
        let first = start + 4 in
        let step = first + stmt_size w body in
        let check = step + last_size w last in
        let end = check + test_size w test + 3 in
        let tests = part_marks w check test ++ mark end [] ∷ [] in
        let lasts = last_marks w step last ++ mark check [] ∷ tests in
        let loop = mark (start + 3) [] ∷ (stmt_marks w first body ++ mark step [] ∷ lasts) in
        let of_init = each_front (Tells g c w f) (stmt_marks w at init) loop t in
        let of_loop = each_back (Tells g c w f) (stmt_marks w at init) loop t in
        let of_body = each_front (Tells g c w f) (stmt_marks w first body) (mark step [] ∷ lasts) of_loop.1 in
        let of_step = each_back (Tells g c w f) (stmt_marks w first body) (mark step [] ∷ lasts) of_loop.1 in
        let of_last = each_front (Tells g c w f) (last_marks w step last) (mark check [] ∷ tests) of_step.1 in
        let of_check = each_back (Tells g c w f) (last_marks w step last) (mark check [] ∷ tests) of_step.1 in
        let of_test = each_front (Tells g c w f) (part_marks w check test) (mark end [] ∷ []) of_check.1 in
        let of_end = each_back (Tells g c w f) (part_marks w check test) (mark end [] ∷ []) of_check.1 in
        let turns_init = each_front g.Turned (turns_of w at init) ((start + 3) ∷ (turns_of w first body ++ [])) u in
        let turns_loop = each_back g.Turned (turns_of w at init) ((start + 3) ∷ (turns_of w first body ++ [])) u in
        let none : length {A = ImageKind} [] ≤ g.m.stack = omega arith in
        let exits : Exits g in_loop step end step = record { breaks = λ e. (of_end.0, omega arith); continues = λ e. (of_step.0, omega arith) } in
        both (stmt_walks ar at out on init h.1 of_init turns_init (omega (arith, le)) (closer g ar start (at + stmt_size w (stmt.For' p init test last q body)) out on (omega arith) x))
        (behind at (stmt_size w init) (stmt_code w at out on init) (stmt_sized w at out on init))
        (Runs {to = start + 3} (jump_does g start check [] of_check.0 (omega arith) none) refl
        (Enters (mark (start + 3) []) refl tt
        (Turns {to = first} (turn_does g [] (start + 3) none none) (omega arith)
        (both (stmt_walks in_loop first end step body h.4 of_body (each_front g.Turned (turns_of w first body) [] turns_loop.1) (omega (arith, le)) exits)
        (behind first (stmt_size w body) (stmt_code w first end step body) (stmt_sized w first end step body))
        (Enters (mark step []) refl refl
        (both (last_walks g c w f step last h.3 of_last (omega (arith, le)))
        (behind step (last_size w last) (last_code w step last) (last_sized w step last))
        (Enters (mark check []) refl refl
        (back_walks g c w f check (test_size w test) (start + 3) (test_code w check test) (part_marks w check test)
        (test_walks g c w f check test h.2 of_test (omega (arith, le))) (test_sized w check test) of_loop.0 turns_loop.0 (omega (arith, le))))))))))
    stmt_walks ar at out on (stmt.Switch' e labels shape all) h t u le x =
        let local = waiting w prim.Int in
        let next = at + expr_size w e in
        let tested = next + 2 in
        let jump = tested + tests_size labels.items in
        let first = jump + 3 in
        let stop = first + stmts_size w all in
        let places = begins w first all in
        let of_e = each_front (Tells g c w f) (expr_marks w [] at e) (labelled_marks w first all) t in
        let of_all = each_back (Tells g c w f) (expr_marks w [] at e) (labelled_marks w first all) t in
        let stop_ahead : Ahead g first stop = (end_told first all of_all, omega arith) in
        let all_ahead = begins_ahead first first all (omega arith) of_all in
        let else_ahead = default_ahead g first stop labels.items places stop_ahead all_ahead in
        let far = else_ahead.1 in
        let none : length {A = ImageKind} [] ≤ g.m.stack = omega arith in
        let low_one : length (int ∷ []) ≤ g.m.stack = omega (arith, le) in
        let less : jump < default_place stop labels.items places = omega (arith, far) in
        let exits : Exits g (in_switch ar) stop stop on = record {
          breaks = λ b. (stop_ahead.0, omega arith);
          continues = λ b. let old = x.continues b in let past = old.1 in (old.0, omega (arith, past));
        } in
        both (to_stack (ap (λ (k : Kind). above k []) h.1) (expr_walks g c w f [] at e h.0 of_e (omega (arith, le))))
        (behind at (expr_size w e) (expr_code w at e) (expr_sized w at e))
        (Runs {to = tested} (wait_int g c w f [] next low_one none) refl
        (both (tests_walks first tested stop labels.items places (omega arith) stop_ahead all_ahead (omega (arith, le)))
        (behind tested (tests_size labels.items) (tests_code local stop labels.items places) (tests_sized local stop labels.items places))
        (Runs {to = first} (jump_does g jump (default_place stop labels.items places) [] else_ahead.0 less none) refl
        (labelled_walks (in_switch ar) None first stop on all tt h.4 of_all u (omega (arith, le)) exits))))
    stmt_walks ar at out on stmt.Break h t u le x =
        let to = x.breaks h in
        let far = to.1 in
        let none : length {A = ImageKind} [] ≤ g.m.stack = omega arith in
        Runs {to = at + 3} (jump_does g at out [] to.0 (omega (arith, far)) none) refl (Enters (mark (at + 3) []) refl tt Stops)
    stmt_walks ar at out on stmt.Continue h t u le x =
        let to = x.continues h in
        let far = to.1 in
        let none : length {A = ImageKind} [] ≤ g.m.stack = omega arith in
        Runs {to = at + 3} (jump_does g at on [] to.0 (omega (arith, far)) none) refl (Enters (mark (at + 3) []) refl tt Stops)
    stmt_walks ar at out on (stmt.Return None) h t u le x =
        let none : length {A = ImageKind} [] ≤ g.m.stack = omega arith in
        Runs {to = at + 1} (return_does g at [] (f.returns [] h) none) refl (Enters (mark (at + 1) []) refl tt Stops)
    stmt_walks ar at out on (stmt.Return (Some e)) h t u le x =
        let next = at + expr_size w e in
        let ends = mark (next + 1) [] ∷ [] in
        let low_one : length (cell_of (kind_of e) ∷ []) ≤ g.m.stack = omega (arith, le) in
        let solid = goes_solid c.program (kind_of e) c.result h.1 (solid_result c.result h.2) in
        both (to_stack (solid_above (kind_of e) [] solid) (expr_walks g c w f [] at e h.0 (each_front (Tells g c w f) (expr_marks w [] at e) ends t) (omega (arith, le))))
        (behind at (expr_size w e) (expr_code w at e) (expr_sized w at e))
        (Runs {to = next + 1} (answer_does g next (cell_of (kind_of e)) [] (f.answers (kind_of e) [] h.2 h.1) low_one) refl
        (Enters (mark (next + 1) []) refl tt Stops))

    pub stmts_walks : {n : Count} (ar : Around) (at out on : ℕ) (ss : Row_of-Stmt n) → AreStmts c ar ss → Told_all (stmts_marks w at ss) →
        Each g.Turned (all_turns w at ss) → max 1 (stmts_stack ss) ≤ g.m.stack → Exits g ar (at + stmts_size w ss) out on →
        Walks g at (Some []) (stmts_code w at out on ss) (stmts_marks w at ss) (all_turns w at ss) (Some [])
    stmts_walks ar at out on end_of-Stmt h t u le x = Stops
    stmts_walks ar at out on (more_of-Stmt s ss) h t u le x =
        let next = at + stmt_size w s in
        both (stmt_walks ar at out on s h.0 (each_front (Tells g c w f) (stmt_marks w at s) (stmts_marks w next ss) t)
        (each_front g.Turned (turns_of w at s) (all_turns w next ss) u) (omega (arith, le))
        (closer g ar next (at + stmts_size w (more_of-Stmt s ss)) out on (omega arith) x))
        (behind at (stmt_size w s) (stmt_code w at out on s) (stmt_sized w at out on s))
        (stmts_walks ar next out on ss h.1 (each_back (Tells g c w f) (stmt_marks w at s) (stmts_marks w next ss) t)
        (each_back g.Turned (turns_of w at s) (all_turns w next ss) u) (omega (arith, le))
        (closer g ar (next + stmts_size w ss) (at + stmts_size w (more_of-Stmt s ss)) out on (omega arith) x))

    labelled_walks : {n : Count} (ar : Around) (now : Option Stack) (at out on : ℕ) (ss : Row_of-Stmt n) → Joins now [] → AreStmts c ar ss →
        Told_all (labelled_marks w at ss) → Each g.Turned (all_turns w at ss) → max 1 (stmts_stack ss) ≤ g.m.stack →
        Exits g ar (at + stmts_size w ss) out on →
        Walks g at now (stmts_code w at out on ss) (labelled_marks w at ss) (all_turns w at ss) (Some [])
    labelled_walks ar now at out on end_of-Stmt j h t u le x = Enters (mark at []) refl j Stops
    labelled_walks ar now at out on (more_of-Stmt s ss) j h t u le x =
        let next = at + stmt_size w s in
        Enters (mark at []) refl j
        (both (stmt_walks ar at out on s h.0 (each_front (Tells g c w f) (stmt_marks w at s) (labelled_marks w next ss) t.1)
        (each_front g.Turned (turns_of w at s) (all_turns w next ss) u) (omega (arith, le))
        (closer g ar next (at + stmts_size w (more_of-Stmt s ss)) out on (omega arith) x))
        (behind at (stmt_size w s) (stmt_code w at out on s) (stmt_sized w at out on s))
        (labelled_walks ar (Some []) next out on ss refl h.1 (each_back (Tells g c w f) (stmt_marks w at s) (labelled_marks w next ss) t.1)
        (each_back g.Turned (turns_of w at s) (all_turns w next ss) u) (omega (arith, le))
        (closer g ar (next + stmts_size w ss) (at + stmts_size w (more_of-Stmt s ss)) out on (omega arith) x)))
