-- Each mark of a tree stands where an instruction of its code starts, or behind it all.
use Rattle.std.proofs.Common.{◌≡◌, ◌≤◌, ◌<◌, ℕ, ◌+◌, ◌==◌, Bool, true, false, if◌then◌else◌, List, [], ◌∷◌, ◌++◌, Option, Some, None, refl, sym, ap, ◌∙◌, arith, append_assoc}
use Rattle.std.proofs.lemmas.List.{append-nil}
use mathlib.Core.Former.{Count}
use Rattle.sed_value.specs.declared.slot_type.Primitive.TheVariants as prim
use Rattle.sed_typed.specs.declared.kind.Kind.{Kind}
use Rattle.sed_typed.specs.declared.operators.Gives.TheVariants.{New}
use Rattle.sed_typed.specs.declared.statement.Stmt.{Stmt, Row_of-Stmt, end_of-Stmt, more_of-Stmt}
use Rattle.sed_typed.specs.declared.statement.Stmt.TheVariants as stmt
use Rattle.sed_typed.specs.declared.tree.Place.{Place}
use Rattle.sed_typed.specs.declared.tree.Place.TheVariants as place
use Rattle.sed_typed.specs.declared.tree.Expr.{Expr, Row_of-Expr, end_of-Expr, more_of-Expr, Row_of-Link, end_of-Link, more_of-Link}
use Rattle.sed_typed.specs.declared.tree.Expr.TheVariants as expr
use Rattle.sed_typed.specs.declared.tree.Link.{Link}
use Rattle.sed_typed.specs.declared.tree.Link.TheVariants as link
use Rattle.sed_typed.specs.Kinds.{kind_of, link_kind}
use Rattle.scode_image.specs.declared.image.ImageKind.{ImageKind}
use Rattle.scode_code.specs.Kinds.{bool, object, statics}
use Rattle.scode_ops.specs.declared.op.Op.{Op}
use Rattle.scode_ops.specs.declared.op.Op.TheVariants as op
use Rattle.scode_entries.specs.declared.marks.Mark.{Mark}
use Rattle.scode_emit.specs.Site.{Site, waiting, offset_in, room_in}
use Rattle.scode_emit.specs.Instructions.{arithmetic_op, binary_op, unary_code, text_op, pop_code, pop_size, get_element_op, invoke_op, storage, put_code, keep_code, fetch_code, fetch_size, before_code, before_size, behind_code}
use Rattle.scode_emit.specs.Sizes.{expr_size, place_size, link_size, exprs_size, links_size, test_size, last_size, over_size, tests_size, stmt_size, stmts_size}
use Rattle.scode_emit.specs.Code.{expr_code, place_code, link_code, exprs_code, links_code, drop_code, begin_code, test_code, last_code, over_code, begins, tests_code, default_place, stmt_code, stmts_code}
use Rattle.scode_entries.specs.Entries.{mark, above, with_place, with_old, expr_marks, place_marks, link_marks, exprs_marks, links_marks, drop_marks, part_marks, last_marks, stmt_marks, stmts_marks, labelled_marks}
use Rattle.scode_entries.proofs.Admits.{Each, each-append}
use Rattle.scode_emit.proofs.Counts.{count, count-append, pop_sized, fetch_sized, before_sized}
use Rattle.scode_emit.proofs.Sized.{expr_sized, place_sized, link_sized, exprs_sized, drop_sized, begin_sized, test_sized, last_sized, over_sized, tests_sized, stmt_sized}

-- a place of code that begins here, with the instructions before it and those behind it
pub record Cut (at : ℕ) (ops : List Op) (spot : ℕ) : Type 0 where
  pub before : List Op
  pub after : List Op
  pub whole : ops ≡ before ++ after
  pub stands : spot ≡ at + count before

abbrev pub Cuts : ℕ → List Op → List Mark → Type 0
Cuts at ops ms = Each (λ (m : Mark). Cut at ops m.place) ms

each_map : (P Q : Mark → Type 0) → ((m : Mark) → P m → Q m) → (ms : List Mark) → Each P ms → Each Q ms
each_map P Q f [] h = tt
each_map P Q f (m ∷ ms) h = (f m h.0, each_map P Q f ms h.1)

-- the start of code, and its end
start : (at : ℕ) (ops : List Op) → Cut at ops at
start at ops = record { before = []; after = ops; whole = refl; stands = omega arith }

end : (at spot : ℕ) (ops : List Op) → spot ≡ at + count ops → Cut at ops spot
end at spot ops h = record { before = ops; after = []; whole = sym (append-nil ops); stands = h }

-- a place of what stands in front, and one of what stands behind
front : (at : ℕ) (xs ys : List Op) (ms : List Mark) → Cuts at xs ms → Cuts at (xs ++ ys) ms
front at xs ys ms h =
    each_map (λ (m : Mark). Cut at xs m.place) (λ (m : Mark). Cut at (xs ++ ys) m.place)
    (λ m c. record {
      before = c.before;
      after = c.after ++ ys;
      whole = ap (λ (ops : List Op). ops ++ ys) c.whole ∙ append_assoc c.before c.after ys;
      stands = c.stands;
    }) ms h

back_one : (at next spot : ℕ) (xs ys : List Op) → next ≡ at + count xs → Cut next ys spot → Cut at (xs ++ ys) spot
back_one at next spot xs ys e c = record {
  before = xs ++ c.before;
  after = c.after;
  whole = ap (λ (ops : List Op). xs ++ ops) c.whole ∙ sym (append_assoc xs c.before c.after);
  stands = let n = count-append xs c.before in let s = c.stands in omega (arith, n, s, e);
}

back : (at next : ℕ) (xs ys : List Op) (ms : List Mark) → next ≡ at + count xs → Cuts next ys ms → Cuts at (xs ++ ys) ms
back at next xs ys ms e h =
    each_map (λ (m : Mark). Cut next ys m.place) (λ (m : Mark). Cut at (xs ++ ys) m.place) (λ m c. back_one at next m.place xs ys e c) ms h

-- the marks of two parts that stand one behind the other
both : (at next : ℕ) (xs ys : List Op) (ms ns : List Mark) → next ≡ at + count xs → Cuts at xs ms → Cuts next ys ns → Cuts at (xs ++ ys) (ms ++ ns)
both at next xs ys ms ns e h g =
    each-append (λ (m : Mark). Cut at (xs ++ ys) m.place) ms ns (front at xs ys ms h) (back at next xs ys ns e g)

-- one instruction further on
on : (at next : ℕ) (i : Op) (ys : List Op) (ms : List Mark) → next ≡ at + count (i ∷ []) → Cuts next ys ms → Cuts at (i ∷ ys) ms
on at next i ys ms e h = back at next (i ∷ []) ys ms e h

-- ---- expressions

-- a bool that is met or not, and then the other one, where the marks of the operand are cuts
truth_cuts : (w : Site) (below : List ImageKind) (at other : ℕ) (e : Expr) (i : Op) → count (i ∷ []) ≡ 2 → other ≡ at + expr_size w e + 5 →
    Cuts at (expr_code w at e) (expr_marks w below at e) →
    Cuts at (expr_code w at e ++ op.Not ∷ op.Not ∷ op.Jump (other + 2) ∷ i ∷ []) (expr_marks w below at e ++ mark other below ∷ mark (other + 2) (bool ∷ below) ∷ [])
truth_cuts w below at other e i two is h =
    let last = op.Not ∷ op.Not ∷ op.Jump (other + 2) ∷ i ∷ [] in
    let next = at + expr_size w e in
    let ends = mark other below ∷ mark (other + 2) (bool ∷ below) ∷ [] in
    both at next (expr_code w at e) last (expr_marks w below at e) ends (ap (λ (n : ℕ). at + n) (sym (expr_sized w at e))) h (
      record { before = op.Not ∷ op.Not ∷ op.Jump (other + 2) ∷ []; after = i ∷ []; whole = refl; stands = is },
      (end next (other + 2) last (omega (arith, two, is)), tt),
    )

mutual
  pub expr_cuts : (w : Site) (below : List ImageKind) (at : ℕ) (e : Expr) → Cuts at (expr_code w at e) (expr_marks w below at e)
  expr_cuts w below at (expr.Int n) = tt
  expr_cuts w below at (expr.Long n) = tt
  expr_cuts w below at (expr.Bool t) = tt
  expr_cuts w below at (expr.Null k) = tt
  expr_cuts w below at (expr.Text n) = tt
  expr_cuts w below at (expr.This class) = tt
  expr_cuts w below at (expr.Local k i) = tt
  expr_cuts w below at (expr.Static p i) = tt
  expr_cuts w below at (expr.StaticPart k i) = tt
  expr_cuts w below at (expr.StaticElement' p n i q e) =
      let get = get_element_op p (w.layout.static_offset i) n in
      let ms = expr_marks w (statics ∷ below) (at + 1) e in
      on at (at + 1) op.Statics (expr_code w (at + 1) e ++ get ∷ []) ms refl
      (front (at + 1) (expr_code w (at + 1) e) (get ∷ []) ms (expr_cuts w (statics ∷ below) (at + 1) e))
  expr_cuts w below at expr.Ticks = tt
  expr_cuts w below at (expr.Unary' u p e) = front at (expr_code w at e) (unary_code u) (expr_marks w below at e) (expr_cuts w below at e)
  expr_cuts w below at (expr.Choose' p t q a r b) =
      let first = at + expr_size w t + 3 in
      let second = first + expr_size w a + 3 in
      let last = second + expr_size w b in
      let other = expr_code w second b in
      let met = expr_code w first a ++ op.Jump last ∷ other in
      let ends = mark last (above (kind_of a) below) ∷ [] in
      let others = mark second below ∷ (expr_marks w below second b ++ ends) in
      both at (at + expr_size w t) (expr_code w at t) (op.JumpFalse second ∷ met) (expr_marks w below at t) (expr_marks w below first a ++ others)
      (ap (λ (n : ℕ). at + n) (sym (expr_sized w at t))) (expr_cuts w below at t)
      (on (at + expr_size w t) first (op.JumpFalse second) met (expr_marks w below first a ++ others) refl
      (both first (first + expr_size w a) (expr_code w first a) (op.Jump last ∷ other) (expr_marks w below first a) others
      (ap (λ (n : ℕ). first + n) (sym (expr_sized w first a))) (expr_cuts w below first a)
      (on (first + expr_size w a) second (op.Jump last) other others refl (
        start second other,
        each-append (λ (m : Mark). Cut second other m.place) (expr_marks w below second b) ends (expr_cuts w below second b)
            (end second last other (ap (λ (n : ℕ). second + n) (sym (expr_sized w second b))), tt),
      ))))
  expr_cuts w below at (expr.Set' target p e) =
      let next = at + place_size w target in
      let keep = keep_code w (storage w target) in
      let ms = expr_marks w (with_place target below) next e in
      both at next (place_code w at target) (expr_code w next e ++ keep) (place_marks w below at target) ms
      (ap (λ (n : ℕ). at + n) (sym (place_sized w at target))) (place_cuts w below at target)
      (front next (expr_code w next e) keep ms (expr_cuts w (with_place target below) next e))
  expr_cuts w below at (expr.Update' u target p e) =
      let s = storage w target in
      let mid = at + place_size w target in
      let next = mid + before_size u.gives s in
      let last = arithmetic_op u.arithmetic u.width ∷ behind_code w u.gives s in
      let ms = expr_marks w (with_old u.gives target below) next e in
      both at mid (place_code w at target) (before_code w u.gives s ++ (expr_code w next e ++ last)) (place_marks w below at target) ms
      (ap (λ (n : ℕ). at + n) (sym (place_sized w at target))) (place_cuts w below at target)
      (back mid next (before_code w u.gives s) (expr_code w next e ++ last) ms (ap (λ (n : ℕ). mid + n) (sym (before_sized w u.gives s)))
      (front next (expr_code w next e) last ms (expr_cuts w (with_old u.gives target below) next e)))
  expr_cuts w below at (expr.Call' k m shape args) = front at (exprs_code w at args) (op.Call m ∷ []) (exprs_marks w below at args) (exprs_cuts w below at args)
  expr_cuts w below at (expr.Super' k m shape args) =
      let ms = exprs_marks w (object w.class ∷ below) (at + 2) args in
      on at (at + 2) (op.Load 0) (exprs_code w (at + 2) args ++ op.Call m ∷ []) ms refl
      (front (at + 2) (exprs_code w (at + 2) args) (op.Call m ∷ []) ms (exprs_cuts w (object w.class ∷ below) (at + 2) args))
  expr_cuts w below at (expr.Chain' p e shape links) =
      let next = at + expr_size w e in
      both at next (expr_code w at e) (links_code w next (kind_of e) links) (expr_marks w below at e) (links_marks w below next (kind_of e) links)
      (ap (λ (n : ℕ). at + n) (sym (expr_sized w at e))) (expr_cuts w below at e) (links_cut w below next (kind_of e) links)

  pub place_cuts : (w : Site) (below : List ImageKind) (at : ℕ) (target : Place) → Cuts at (place_code w at target) (place_marks w below at target)
  place_cuts w below at (place.Local k i) = tt
  place_cuts w below at (place.Static p i) = tt
  place_cuts w below at (place.Field' p q e i) = expr_cuts w below at e
  place_cuts w below at (place.Element' p n q e f r i) =
      let next = at + expr_size w e in
      both at next (expr_code w at e) (expr_code w next i) (expr_marks w below at e) (expr_marks w (above (kind_of e) below) next i)
      (ap (λ (n : ℕ). at + n) (sym (expr_sized w at e))) (expr_cuts w below at e) (expr_cuts w (above (kind_of e) below) next i)
  place_cuts w below at (place.StaticElement' p n i q e) =
      on at (at + 1) op.Statics (expr_code w (at + 1) e) (expr_marks w (statics ∷ below) (at + 1) e) refl (expr_cuts w (statics ∷ below) (at + 1) e)

  pub link_cuts : (w : Site) (below : List ImageKind) (at : ℕ) (k : Kind) (l : Link) → Cuts at (link_code w at k l) (link_marks w below at k l)
  link_cuts w below at k (link.Binary b e) =
      front at (expr_code w at e) (binary_op b ∷ []) (expr_marks w (above k below) at e) (expr_cuts w (above k below) at e)
  link_cuts w below at k (link.And e) =
      let unmet = at + 3 + expr_size w e + 5 in
      on at (at + 3) (op.JumpFalse unmet) (expr_code w (at + 3) e ++ op.Not ∷ op.Not ∷ op.Jump (unmet + 2) ∷ op.Bool 0 ∷ [])
      (expr_marks w below (at + 3) e ++ mark unmet below ∷ mark (unmet + 2) (bool ∷ below) ∷ []) refl (truth_cuts w below (at + 3) unmet e (op.Bool 0) refl refl (expr_cuts w below (at + 3) e))
  link_cuts w below at k (link.Or e) =
      let met = at + 3 + expr_size w e + 5 in
      on at (at + 3) (op.JumpTrue met) (expr_code w (at + 3) e ++ op.Not ∷ op.Not ∷ op.Jump (met + 2) ∷ op.Bool 1 ∷ [])
      (expr_marks w below (at + 3) e ++ mark met below ∷ mark (met + 2) (bool ∷ below) ∷ []) refl (truth_cuts w below (at + 3) met e (op.Bool 1) refl refl (expr_cuts w below (at + 3) e))
  link_cuts w below at k (link.Field p i) = tt
  link_cuts w below at k (link.Part part i) = tt
  link_cuts w below at k (link.Element p n i e) =
      front at (expr_code w at e) (get_element_op p (offset_in w k i) n ∷ []) (expr_marks w (above k below) at e) (expr_cuts w (above k below) at e)
  link_cuts w below at k (link.Size i) = tt
  link_cuts w below at k (link.Byte i e) =
      front at (expr_code w at e) (op.BufGet (offset_in w k i) (room_in w k i) ∷ []) (expr_marks w (above k below) at e) (expr_cuts w (above k below) at e)
  link_cuts w below at k (link.Invoke' result m shape args) =
      front at (exprs_code w at args) (invoke_op w k m ∷ []) (exprs_marks w (above k below) at args) (exprs_cuts w (above k below) at args)
  link_cuts w below at k (link.TextCall' call shape args) =
      front at (exprs_code w at args) (text_op call ∷ []) (exprs_marks w (above k below) at args) (exprs_cuts w (above k below) at args)
  link_cuts w below at k (link.After e) =
      let next = at + pop_size k in
      back at next (pop_code k) (expr_code w next e) (expr_marks w below next e) (ap (λ (n : ℕ). at + n) (sym (pop_sized k))) (expr_cuts w below next e)

  pub exprs_cuts : {n : Count} (w : Site) (below : List ImageKind) (at : ℕ) (es : Row_of-Expr n) → Cuts at (exprs_code w at es) (exprs_marks w below at es)
  exprs_cuts w below at end_of-Expr = tt
  exprs_cuts w below at (more_of-Expr e es) =
      let next = at + expr_size w e in
      both at next (expr_code w at e) (exprs_code w next es) (expr_marks w below at e) (exprs_marks w (above (kind_of e) below) next es)
      (ap (λ (n : ℕ). at + n) (sym (expr_sized w at e))) (expr_cuts w below at e) (exprs_cuts w (above (kind_of e) below) next es)

  pub links_cut : {n : Count} (w : Site) (below : List ImageKind) (at : ℕ) (k : Kind) (ls : Row_of-Link n) → Cuts at (links_code w at k ls) (links_marks w below at k ls)
  links_cut w below at k end_of-Link = tt
  links_cut w below at k (more_of-Link l ls) =
      let next = at + link_size w k l in
      both at next (link_code w at k l) (links_code w next (link_kind l) ls) (link_marks w below at k l) (links_marks w below next (link_kind l) ls)
      (ap (λ (n : ℕ). at + n) (sym (link_sized w at k l))) (link_cuts w below at k l) (links_cut w below next (link_kind l) ls)

-- ---- parts of statements

taken_cuts : (w : Site) (at : ℕ) (e : Expr) → Cuts at (expr_code w at e ++ pop_code (kind_of e)) (expr_marks w [] at e)
taken_cuts w at e = front at (expr_code w at e) (pop_code (kind_of e)) (expr_marks w [] at e) (expr_cuts w [] at e)

drop_cuts : (w : Site) (at : ℕ) (e : Expr) → Cuts at (drop_code w at e) (drop_marks w at e)
drop_cuts w at (expr.Set' target p e) =
    let next = at + place_size w target in
    let put = put_code (storage w target) in
    let ms = expr_marks w (with_place target []) next e in
    both at next (place_code w at target) (expr_code w next e ++ put) (place_marks w [] at target) ms
    (ap (λ (n : ℕ). at + n) (sym (place_sized w at target))) (place_cuts w [] at target)
    (front next (expr_code w next e) put ms (expr_cuts w (with_place target []) next e))
drop_cuts w at (expr.Update' u target p e) =
    let s = storage w target in
    let mid = at + place_size w target in
    let next = mid + fetch_size s in
    let last = arithmetic_op u.arithmetic u.width ∷ put_code s in
    let ms = expr_marks w (with_old New target []) next e in
    both at mid (place_code w at target) (fetch_code w s ++ (expr_code w next e ++ last)) (place_marks w [] at target) ms
    (ap (λ (n : ℕ). at + n) (sym (place_sized w at target))) (place_cuts w [] at target)
    (back mid next (fetch_code w s) (expr_code w next e ++ last) ms (ap (λ (n : ℕ). mid + n) (sym (fetch_sized w s)))
    (front next (expr_code w next e) last ms (expr_cuts w (with_old New target []) next e)))
drop_cuts w at e = taken_cuts w at e

begin_cuts : (w : Site) (at : ℕ) (k : Kind) (e : Option Expr) → Cuts at (begin_code w at k e) (part_marks w at e)
begin_cuts w at k None = tt
begin_cuts w at k (Some e) = expr_cuts w [] at e

test_cuts : (w : Site) (at : ℕ) (e : Option Expr) → Cuts at (test_code w at e) (part_marks w at e)
test_cuts w at None = tt
test_cuts w at (Some e) = expr_cuts w [] at e

last_cuts : (w : Site) (at : ℕ) (e : Option Expr) → Cuts at (last_code w at e) (last_marks w at e)
last_cuts w at None = tt
last_cuts w at (Some e) = drop_cuts w at e

-- a condition that jumps back, with the marks before it and behind it
back_cuts : (at size : ℕ) (ops : List Op) (ms : List Mark) (i : Op) → count ops ≡ size → count (i ∷ []) ≡ 3 → Cuts at ops ms →
    Cuts at (ops ++ i ∷ []) (mark at [] ∷ (ms ++ mark (at + size + 3) [] ∷ []))
back_cuts at size ops ms i sized three h = (
  start at (ops ++ i ∷ []),
  each-append (λ (m : Mark). Cut at (ops ++ i ∷ []) m.place) ms (mark (at + size + 3) [] ∷ []) (front at ops (i ∷ []) ms h)
      (end at (at + size + 3) (ops ++ i ∷ []) (let n = count-append ops (i ∷ []) in omega (arith, n, sized, three)), tt),
)

-- ---- statements

mutual
  pub stmt_cuts : (w : Site) (at out to : ℕ) (s : Stmt) → Cuts at (stmt_code w at out to s) (stmt_marks w at s)
  stmt_cuts w at out to stmt.Empty = tt
  stmt_cuts w at out to (stmt.Do e) = drop_cuts w at e
  stmt_cuts w at out to (stmt.Local k i e) = front at (begin_code w at k e) (op.Store i ∷ []) (part_marks w at e) (begin_cuts w at k e)
  stmt_cuts w at out to (stmt.Block' shape all) = stmts_cut w at out to all
  stmt_cuts w at out to (stmt.If' t p a q b) =
      let test = at + expr_size w t in
      let first = test + 3 in
      let met = first + stmt_size w a in
      let second = met + over_size (stmt_size w b) in
      let last = second + stmt_size w b in
      let over = over_code (stmt_size w b) last in
      let other = stmt_code w second out to b in
      let ends = mark last [] ∷ [] in
      let others = mark second [] ∷ (stmt_marks w second b ++ ends) in
      let all = stmt_code w first out to a ++ (over ++ other) in
      both at test (expr_code w at t) (op.JumpFalse second ∷ all) (expr_marks w [] at t) (stmt_marks w first a ++ others)
      (ap (λ (n : ℕ). at + n) (sym (expr_sized w at t))) (expr_cuts w [] at t)
      (on test first (op.JumpFalse second) all (stmt_marks w first a ++ others) refl
      (both first met (stmt_code w first out to a) (over ++ other) (stmt_marks w first a) others
      (ap (λ (n : ℕ). first + n) (sym (stmt_sized w first out to a))) (stmt_cuts w first out to a)
      (back met second over other others (ap (λ (n : ℕ). met + n) (sym (over_sized (stmt_size w b) last))) (
        start second other,
        each-append (λ (m : Mark). Cut second other m.place) (stmt_marks w second b) ends (stmt_cuts w second out to b)
            (end second last other (ap (λ (n : ℕ). second + n) (sym (stmt_sized w second out to b))), tt),
      ))))
  stmt_cuts w at out to (stmt.While' t p body) =
      let turn = at + 3 in
      let first = at + 4 in
      let test = first + stmt_size w body in
      let last = test + expr_size w t + 3 in
      let again = op.JumpTrue turn in
      let rest = stmt_code w first last test body ++ (expr_code w test t ++ again ∷ []) in
      let tests = mark test [] ∷ (expr_marks w [] test t ++ mark last [] ∷ []) in
      let ms = stmt_marks w first body ++ tests in
      on at turn (op.Jump test) (op.Turn ∷ rest) (mark turn [] ∷ ms) refl (
        start turn (op.Turn ∷ rest),
        on turn first op.Turn rest ms (omega arith)
            (both first test (stmt_code w first last test body) (expr_code w test t ++ again ∷ []) (stmt_marks w first body) tests
            (ap (λ (n : ℕ). first + n) (sym (stmt_sized w first last test body))) (stmt_cuts w first last test body)
            (back_cuts test (expr_size w t) (expr_code w test t) (expr_marks w [] test t) again (expr_sized w test t) refl (expr_cuts w [] test t))),
      )
  stmt_cuts w at out to (stmt.DoWhile' p body t) =
      let first = at + 1 in
      let test = first + stmt_size w body in
      let last = test + expr_size w t + 3 in
      let again = op.JumpTrue at in
      let rest = stmt_code w first last test body ++ (expr_code w test t ++ again ∷ []) in
      let tests = mark test [] ∷ (expr_marks w [] test t ++ mark last [] ∷ []) in
      let ms = stmt_marks w first body ++ tests in (
        start at (op.Turn ∷ rest),
        on at first op.Turn rest ms refl
            (both first test (stmt_code w first last test body) (expr_code w test t ++ again ∷ []) (stmt_marks w first body) tests
            (ap (λ (n : ℕ). first + n) (sym (stmt_sized w first last test body))) (stmt_cuts w first last test body)
            (back_cuts test (expr_size w t) (expr_code w test t) (expr_marks w [] test t) again (expr_sized w test t) refl (expr_cuts w [] test t))),
      )
  stmt_cuts w at out to (stmt.For' p init t last q body) =
      let from = at + stmt_size w init in
      let turn = from + 3 in
      let first = from + 4 in
      let step = first + stmt_size w body in
      let test = step + last_size w last in
      let stop = test + test_size w t + 3 in
      let again = op.JumpTrue turn in
      let tested = test_code w test t ++ again ∷ [] in
      let stepped = last_code w step last ++ tested in
      let rest = stmt_code w first stop step body ++ stepped in
      let tests = mark test [] ∷ (part_marks w test t ++ mark stop [] ∷ []) in
      let steps = mark step [] ∷ (last_marks w step last ++ tests) in
      let ms = stmt_marks w first body ++ steps in
      both at from (stmt_code w at out to init) (op.Jump test ∷ op.Turn ∷ rest) (stmt_marks w at init) (mark turn [] ∷ ms)
      (ap (λ (n : ℕ). at + n) (sym (stmt_sized w at out to init))) (stmt_cuts w at out to init)
      (on from turn (op.Jump test) (op.Turn ∷ rest) (mark turn [] ∷ ms) refl (
        start turn (op.Turn ∷ rest),
        on turn first op.Turn rest ms (omega arith)
            (both first step (stmt_code w first stop step body) stepped (stmt_marks w first body) steps
            (ap (λ (n : ℕ). first + n) (sym (stmt_sized w first stop step body))) (stmt_cuts w first stop step body) (
              start step stepped,
              both step test (last_code w step last) tested (last_marks w step last) tests
                  (ap (λ (n : ℕ). step + n) (sym (last_sized w step last))) (last_cuts w step last)
                  (back_cuts test (test_size w t) (test_code w test t) (part_marks w test t) again (test_sized w test t) refl (test_cuts w test t)),
            )),
      ))
  stmt_cuts w at out to (stmt.Switch' e labels shape all) =
      let local = waiting w prim.Int in
      let next = at + expr_size w e in
      let tested = next + 2 in
      let jump = tested + tests_size labels.items in
      let first = jump + 3 in
      let stop = first + stmts_size w all in
      let tests = tests_code local stop labels.items (begins w first all) in
      let leave = op.Jump (default_place stop labels.items (begins w first all)) in
      let cases = stmts_code w first stop to all in
      let ms = labelled_marks w first all in
      both at next (expr_code w at e) (op.Store local ∷ (tests ++ leave ∷ cases)) (expr_marks w [] at e) ms
      (ap (λ (n : ℕ). at + n) (sym (expr_sized w at e))) (expr_cuts w [] at e)
      (on next tested (op.Store local) (tests ++ leave ∷ cases) ms refl
      (back tested jump tests (leave ∷ cases) ms (ap (λ (n : ℕ). tested + n) (sym (tests_sized local stop labels.items (begins w first all))))
      (on jump first leave cases ms refl (labelled_cuts w first stop to all))))
  stmt_cuts w at out to stmt.Break = (end at (at + 3) (op.Jump out ∷ []) refl, tt)
  stmt_cuts w at out to stmt.Continue = (end at (at + 3) (op.Jump to ∷ []) refl, tt)
  stmt_cuts w at out to (stmt.Return None) = (end at (at + 1) (op.Return ∷ []) refl, tt)
  stmt_cuts w at out to (stmt.Return (Some e)) =
      let ops = expr_code w at e ++ op.ReturnValue ∷ [] in
      each-append (λ (m : Mark). Cut at ops m.place) (expr_marks w [] at e) (mark (at + expr_size w e + 1) [] ∷ [])
      (front at (expr_code w at e) (op.ReturnValue ∷ []) (expr_marks w [] at e) (expr_cuts w [] at e))
      (end at (at + expr_size w e + 1) ops (let n = count-append (expr_code w at e) (op.ReturnValue ∷ []) in let s = expr_sized w at e in omega (arith, n, s)), tt)

  pub stmts_cut : {n : Count} (w : Site) (at out to : ℕ) (ss : Row_of-Stmt n) → Cuts at (stmts_code w at out to ss) (stmts_marks w at ss)
  stmts_cut w at out to end_of-Stmt = tt
  stmts_cut w at out to (more_of-Stmt s ss) =
      let next = at + stmt_size w s in
      both at next (stmt_code w at out to s) (stmts_code w next out to ss) (stmt_marks w at s) (stmts_marks w next ss)
      (ap (λ (n : ℕ). at + n) (sym (stmt_sized w at out to s))) (stmt_cuts w at out to s) (stmts_cut w next out to ss)

  pub labelled_cuts : {n : Count} (w : Site) (at out to : ℕ) (ss : Row_of-Stmt n) → Cuts at (stmts_code w at out to ss) (labelled_marks w at ss)
  labelled_cuts w at out to end_of-Stmt = (start at [], tt)
  labelled_cuts w at out to (more_of-Stmt s ss) =
      let next = at + stmt_size w s in (
        start at (stmt_code w at out to s ++ stmts_code w next out to ss),
        both at next (stmt_code w at out to s) (stmts_code w next out to ss) (stmt_marks w at s) (labelled_marks w next ss)
            (ap (λ (n : ℕ). at + n) (sym (stmt_sized w at out to s))) (stmt_cuts w at out to s) (labelled_cuts w next out to ss),
      )
