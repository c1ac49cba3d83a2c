-- What a statement comes to nests at most as its source does, and has at most its levels.
use Rattle.std.proofs.Common.{◌≤◌, ℕ, suc, ◌+◌, max, List, [], Option, Some, None, option_map, arith}
use Rattle.sed_units.specs.declared.label.Label.TheVariants as label
use Rattle.sed_units.specs.declared.leaves.TypeRef.{TypeRef}
use Rattle.sed_units.specs.Tree.{Tree, Absent as NoTree, Part}
use Rattle.sed_typed.specs.declared.kind.Kind.{Kind}
use Rattle.sed_typed.specs.declared.kind.Kind.TheVariants as kind
use Rattle.sed_typed.specs.declared.statement.Label.{Label}
use Rattle.sed_names.specs.Names.{Names}
use Rattle.sed_body_rules.specs.Scope.{Scope, past, behind, behind_case}
use Rattle.sed_terms.specs.declared.judged.Judged.{Judged}
use Rattle.sed_terms.specs.declared.judged.Judged.TheVariants.{Sound}
use Rattle.sed_terms.specs.declared.sign.Sign.TheVariants as sign
use Rattle.sed_terms.specs.Faults.{Marks, IfSound, broken, paired}
use Rattle.sed_terms.specs.Forms.{evaluated_after, discarded, evaluating}
use Rattle.sed_terms.specs.Term.{Term, Absent, Node, leaf, optional, appended, with_item}
use Rattle.sed_terms.specs.TermDepth.{term_depth, stmt_term_depth, stmts_term_depth, block_term_depth, cases_term_depth}
use Rattle.sed_body_rules.specs.Conversions.{placed, is_int}
use Rattle.sed_body_rules.specs.Wants.{wants, truth}
use Rattle.sed_body_rules.specs.Stores.{going}
use Rattle.sed_bodies.specs.Expressions.{judge}
use Rattle.sed_bodies.specs.Places.{place_of}
use Rattle.sed_statements.specs.declared.leaving.Around.{Around}
use Rattle.sed_statements.specs.Declarations.{declared, begun_bare, begun}
use Rattle.sed_statements.specs.Labels.{with_case, with_label, switched}
use Rattle.sed_statements.specs.Leaving.{in_loop, in_switch, broken_off, continued}
use Rattle.sed_statements.specs.Loops.{conditional, repeated, done_while, repeated_for}
use Rattle.sed_statements.specs.Returns.{returned_nothing, has_result, answering, returned}
use Rattle.sed_statements.specs.Rows.{evaluated, followed, blocked}
use Rattle.sed_statements.specs.declared.enclosing.Enclosing.{Enclosing}
use Rattle.sed_statements.specs.Parts.{is_expression}
use Rattle.sed_statements.specs.Statements.{judge_local, judge_return, judge_first_local, judge_first, judge_test, judge_last, judge_label, judge_stmt, judge_stmts, judge_case, judge_cases}
use Rattle.sed_body_laws.specs.Nesting.{nesting, each_within, most_of}
use Rattle.sed_body_laws.specs.Levels.{levels, highest}
use Rattle.sed_body_laws.specs.TermHeight.{term_height}
use Rattle.sed_body_laws.proofs.Sounds.{after_sound, joined_sound, paired_sound, unless_sound, some_sound, any_sound, weaker, either_sound}
use Rattle.sed_body_laws.proofs.Terms.{slack, deep, deep_above, Fits, fits_more, run_near}
use Rattle.sed_body_laws.proofs.Widths.{Goes, placed_goes}
use Rattle.sed_body_laws.proofs.Operands.{Tested, wants_sound, truth_fits}
use Rattle.sed_body_laws.proofs.Stores.{going_goes}
use Rattle.sed_body_laws.proofs.DeepExpressions.{judged_fits}

-- a statement
pub record Stands (n h : ℕ) (t : Term) : Type 0 where
  pub depth : stmt_term_depth t ≤ n
  pub height : term_height t ≤ h

-- an expression in one
pub record Piece (n h : ℕ) (t : Term) : Type 0 where
  pub depth : term_depth t ≤ n
  pub height : term_height t ≤ h

piece_of : (n h : ℕ) (t : Term) → Fits n h t → Piece n h t
piece_of n h t f = record { depth = f.depth; height = omega (arith, f.height) }

-- ---- an expression as a statement

discarded_piece : (t : Term) → (term_depth (discarded t) ≤ deep t) × (term_height (discarded t) ≤ term_height t)
discarded_piece (Node sign.Nothing a b) = (omega arith, omega arith)
discarded_piece (Node (sign.Array p n i) e b) = let r = run_near e in (omega arith, omega (arith, r))
discarded_piece (Node (sign.StaticArray p n i) a b) = (omega arith, omega arith)
discarded_piece (Node (sign.Buf i) e b) = let r = run_near e in (omega arith, omega (arith, r))
discarded_piece (Node (sign.Bytes i) e b) = let r = run_near e in (omega arith, omega (arith, r))
discarded_piece (Node sign.After e t) = let q = discarded_piece t in at (discarded t) q.0 q.1
  where
    at : (u : Term) → term_depth u ≤ deep t → term_height u ≤ term_height t
        → (term_depth (evaluated_after e u) ≤ max (term_depth e) (deep t))
        × (term_height (evaluated_after e u) ≤ term_height (Node sign.After e t))
    at Absent d l = let r = run_near e in (omega arith, omega (arith, r))
    at (Node s a b) d l = (omega (arith, d), omega (arith, l))
discarded_piece t = (deep_above t, omega arith)

pub discarded_is : (n h : ℕ) (t : Term) → Fits n h t → Piece n h (discarded t)
discarded_is n h t f = let q = discarded_piece t in record {
  depth = omega (arith, q.0, f.opened);
  height = omega
      (arith, q.1, f.height);
}

evaluating_stands : (n h : ℕ) (t : Term) → Piece n h t → Stands n (suc h) (evaluating t)
evaluating_stands n h Absent p = record { depth = omega arith; height = omega arith }
evaluating_stands n h (Node s a b) p =
    let d : term_depth (Node s a b) ≤ n = p.depth in
    let l : term_height (Node s a b) ≤ h = p.height in
    record { depth = d; height = omega (arith, l) }

evaluated_stands : {F : Type 0} (n h : ℕ) (x : Judged Term F) → IfSound x (Fits n h) →
    IfSound (evaluated x) (Stands n (suc h))
evaluated_stands n h x f = after_sound (Fits n h) (Stands n (suc h)) x _ f (λ t p. evaluating_stands n h (discarded t)
    (discarded_is n h t p))

-- ---- locals and `return`

goes_piece : (n h : ℕ) (to : Kind) (t : Term) → Goes n h to t → Piece n h t
goes_piece n h to t g = record { depth = g.depth; height = omega (arith, g.height) }

begun_stands : {F : Type 0} (m : Marks F) (k : Names) (l : Judged (Kind × ℕ) F) (at n h : ℕ) (x : Judged Term F) →
    IfSound x (Fits n h) → IfSound (begun m k l at x) (Stands n (suc h))
begun_stands m k l at n h x f =
    joined_sound {A = Kind × ℕ} m (λ _. Unit {0}) (Fits n h) (Stands n (suc h)) l x _ (any_sound l) f
    (λ p t u q. after_sound (Goes n h p.0) (Stands n (suc h)) (going m k.below p.0 at t) _
    (going_goes m k.below n h p.0 at t q)
    (λ v g. let r = goes_piece n h p.0 v g in record { depth = r.depth; height = omega (arith, r.height) }))

bare_stands : {F : Type 0} (n h : ℕ) (l : Judged (Kind × ℕ) F) → 1 ≤ h → IfSound (begun_bare l) (Stands n h)
bare_stands n h l big = after_sound {A = Kind × ℕ} (λ _. Unit {0}) (Stands n h) l _ (any_sound l)
    (λ p u. record { depth = omega arith; height = omega (arith, big) })

local_stands : {F : Type 0} (m : Marks F) (k : Names) (c : Enclosing) (s : Scope) (at : ℕ) (type : TypeRef)
    (name : List ℕ) (value : Tree)
    → IfSound (judge_local m k c s at type name value) (Stands (nesting value) (suc (levels value)))
local_stands m k c s at type name value =
    either_sound (Stands (nesting value) (suc (levels value))) (is_expression value) _ _
    (λ _. begun_stands m k (declared m k s at type name) (place_of value) (nesting value) (levels value)
    (judge m k c.body s value) (judged_fits m k c.body s value))
    (λ _. bare_stands (nesting value) (suc (levels value)) (declared m k s at type name) (omega arith))

nothing_stands : {F : Type 0} (m : Marks F) (r : Option Kind) (at n h : ℕ) → 1 ≤ h →
    IfSound (returned_nothing m r at) (Stands n h)
nothing_stands m (Some kind.Void) at n h big = record { depth = omega arith; height = omega (arith, big) }
nothing_stands m (Some k) at n h big = tt
nothing_stands m None at n h big = tt

returned_stands : {F : Type 0} (m : Marks F) (k : Names) (r : Option Kind) (at n h : ℕ) (x : Judged Term F) →
    IfSound x (Fits n h) → IfSound (returned m k r at x) (Stands n (suc h))
returned_stands m k r at n h x f =
    joined_sound m (λ _. Unit {0}) (Fits n h) (Stands n (suc h)) (has_result m r at) x _ (any_sound _) f
    (λ to t u q. after_sound (Goes n h to) (Stands n (suc h)) (answering m k to at t) _
    (some_sound m (Goes n h to) (broken 19 at) (placed k.below to t) (placed_goes k.below n h to t q))
    (λ v g. let p = goes_piece n h to v g in record { depth = p.depth; height = omega (arith, p.height) }))

return_stands : {F : Type 0} (m : Marks F) (k : Names) (c : Enclosing) (s : Scope) (at : ℕ) (value : Tree) →
    IfSound (judge_return m k c s at value) (Stands (nesting value) (suc (levels value)))
return_stands m k c s at value =
    either_sound (Stands (nesting value) (suc (levels value))) (is_expression value) _ _
    (λ _. returned_stands m k c.result (place_of value) (nesting value) (levels value) (judge m k c.body s value)
    (judged_fits m k c.body s value))
    (λ _. nothing_stands m c.result at (nesting value) (suc (levels value)) (omega arith))

-- ---- rows

-- statements one after another
pub record Row (n h : ℕ) (t : Term) : Type 0 where
  pub depth : stmts_term_depth t ≤ n
  pub height : term_height t ≤ h

-- every item of a row stands behind `More`
followed_depth : (ts t : Term) → stmts_term_depth (with_item ts t) ≤ max (stmts_term_depth ts) (stmt_term_depth t)
followed_depth Absent t = omega arith
followed_depth (Node sign.More x rest) t = let q = followed_depth rest t in omega (arith, q)
followed_depth ts t = omega arith

abbrev pub IsRow : Term → Type 0
IsRow Absent = Unit {0}
IsRow (Node sign.More t rest) = IsRow rest
IsRow t = ⊥

followed_height : (ts t : Term) → IsRow ts → (term_height (with_item ts t) ≤ max (term_height ts) (term_height t))
    × IsRow (with_item ts t)
followed_height Absent t r = (omega arith, tt)
followed_height (Node sign.More x rest) t r = let q = followed_height rest t r in (omega (arith, q.0), q.1)
followed_height ts t r = absurd r

abbrev pub Following : ℕ → ℕ → Term → Type 0
Following n h t = Row n h t × IsRow t

followed_stands : {F : Type 0} (m : Marks F) (n h : ℕ) (xs x : Judged Term F) → IfSound xs (Following n h) →
    IfSound x (Stands n h) → IfSound (followed m xs x) (Following n h)
followed_stands m n h xs x r f =
    joined_sound m (Following n h) (Stands n h) (Following n h) xs x _ r f
    (λ ts t p q.
    let a = followed_depth ts t in
    let b = followed_height ts t p.1 in
    let d : stmts_term_depth ts ≤ n = p.0.depth in
    let l : term_height ts ≤ h = p.0.height in
    (record { depth = omega (arith, a, d, q.depth); height = omega (arith, b.0, l, q.height) }, b.1))

-- labels, each with the block behind it
pub record Cases (n h : ℕ) (t : Term) : Type 0 where
  pub depth : suc (cases_term_depth t) ≤ n
  pub height : term_height t ≤ h

abbrev AreCases : Term → Type 0
AreCases Absent = Unit {0}
AreCases (Node (sign.Label l) (Node sign.Block all b) rest) = AreCases rest
AreCases t = ⊥

case_added : (l : Label) (xs all : Term) → AreCases xs
    → (cases_term_depth (appended xs (Node (sign.Label l) (Node sign.Block all Absent) Absent)) ≤ max
    (cases_term_depth xs) (stmts_term_depth all))
    × (term_height (appended xs (Node (sign.Label l) (Node sign.Block all Absent) Absent)) ≤ max (term_height xs) (suc
    (term_height all)))
    × AreCases (appended xs (Node (sign.Label l) (Node sign.Block all Absent) Absent))
case_added l Absent all a = (omega arith, omega arith, tt)
case_added l (Node (sign.Label k) (Node sign.Block ss b) rest) all a =
    let q = case_added l rest all a in (omega (arith, q.0), omega (arith, q.1), q.2)
case_added l xs all a = absurd a

abbrev Labelled : ℕ → ℕ → Term → Type 0
Labelled n h t = Cases n h t × AreCases t

with_case_stands : {F : Type 0} (m : Marks F) (n k h g : ℕ) (xs : Judged Term F) (l : Judged Label F)
    (all : Judged Term F) → suc k ≤ n → suc g ≤ h → IfSound xs (Labelled n h) → IfSound all (Row k g)
    → IfSound (with_case m xs l all) (Labelled n h)
with_case_stands m n k h g xs l all deeps high r f =
    joined_sound {B = Label × Term} m (Labelled n h) (λ (p : Label × Term). Unit {0}
    × Row k g p.1) (Labelled n h) xs (paired m l all) _ r
    (paired_sound m (λ _. Unit {0}) (Row k g) l all (any_sound l) f)
    (λ ts p a b.
    let q = case_added p.0 ts p.1 a.1 in
    let d : suc (cases_term_depth ts) ≤ n = a.0.depth in
    let e : term_height ts ≤ h = a.0.height in
    let u : stmts_term_depth p.1 ≤ k = b.1.depth in
    let v : term_height p.1 ≤ g = b.1.height in
    (record { depth = omega (arith, q.0, d, u, deeps); height = omega (arith, q.1, e, v, high) }, q.2))

-- ---- the forms, by their parts

conditional_stands : {F : Type 0} (m : Marks F) (at n h : ℕ) (t x y : Judged Term F) → IfSound t (Fits n h) →
    IfSound x (Stands n h) → IfSound y (Stands n h)
    → IfSound (conditional m at t x y) (Stands (suc n) (suc h))
conditional_stands m at n h t x y f a b =
    joined_sound {B = Term × Term} m (Fits n h) (λ (p : Term × Term). Stands n h p.0
    × Stands n h p.1) (Stands (suc n) (suc h)) (truth m at t) (paired m x y) _ (truth_fits m n h at t f)
    (paired_sound m (Stands n h) (Stands n h) x y a b)
    (λ c p q r.
    let d0 : stmt_term_depth p.0 ≤ n = r.0.depth in
    let h0 : term_height p.0 ≤ h = r.0.height in
    let d1 : stmt_term_depth p.1 ≤ n = r.1.depth in
    let h1 : term_height p.1 ≤ h = r.1.height in
    record { depth = omega (arith, q.depth, d0, d1); height = omega (arith, q.height, h0, h1) })

repeated_stands : {F : Type 0} (m : Marks F) (at n h : ℕ) (t x : Judged Term F) → IfSound t (Fits n h) →
    IfSound x (Stands n h) → IfSound (repeated m at t x) (Stands (suc n) (suc h))
repeated_stands m at n h t x f a =
    joined_sound m (Fits n h) (Stands n h) (Stands (suc n) (suc h)) (truth m at t) x _ (truth_fits m n h at t f) a
    (λ c u p q. record { depth = omega (arith, p.depth, q.depth); height = omega (arith, p.height, q.height) })

done_while_stands : {F : Type 0} (m : Marks F) (at n h : ℕ) (x t : Judged Term F) → IfSound t (Fits n h) →
    IfSound x (Stands n h) → IfSound (done_while m x at t) (Stands (suc n) (suc h))
done_while_stands m at n h x t f a =
    joined_sound m (Stands n h) (Fits n h) (Stands (suc n) (suc h)) x (truth m at t) _ a (truth_fits m n h at t f)
    (λ u c p q. record { depth = omega (arith, p.depth, q.depth); height = omega (arith, p.height, q.height) })

-- a part that may be missing
abbrev Perhaps : ℕ → ℕ → Option Term → Type 0
Perhaps n h o = Piece n h (optional o)

test_stands : {F : Type 0} (m : Marks F) (k : Names) (c : Enclosing) (s : Scope) (t : Tree) (n h : ℕ) → nesting t ≤ n →
    levels t ≤ h → IfSound (judge_test m k c s t) (Perhaps n h)
test_stands m k c s t n h a b =
    either_sound (Perhaps n h) (is_expression t) _ _
    (λ _. after_sound (Fits (nesting t) (levels t)) (Perhaps n h) (truth m (place_of t) (judge m k c.body s t)) _
    (truth_fits m (nesting t) (levels t) (place_of t) (judge m k c.body s t) (judged_fits m k c.body s t))
    (λ u p. record { depth = omega (arith, p.depth, a); height = omega (arith, p.height, b) }))
    (λ _. record { depth = omega arith; height = omega arith })

-- the last part, whose value is not used
abbrev Dropped : ℕ → ℕ → Option Term → Type 0
Dropped n h o = Piece n h (optional (option_map discarded o))

last_stands : {F : Type 0} (m : Marks F) (k : Names) (c : Enclosing) (s : Scope) (t : Tree) (n h : ℕ) → nesting t ≤ n →
    levels t ≤ h → IfSound (judge_last m k c s t) (Dropped n h)
last_stands m k c s t n h a b =
    either_sound (Dropped n h) (is_expression t) _ _
    (λ _. after_sound (Fits (nesting t) (levels t)) (Dropped n h) (judge m k c.body s t) _ (judged_fits m k c.body s t)
    (λ u p. let q = discarded_is (nesting t) (levels t) u p in record {
      depth = omega
          (arith, q.depth, a);
      height = omega (arith, q.height, b);
    }))
    (λ _. record { depth = omega arith; height = omega arith })

stands_more : {F : Type 0} (n d h g : ℕ) (x : Judged Term F) → n ≤ d → h ≤ g → IfSound x (Stands n h) →
    IfSound x (Stands d g)
stands_more n d h g x a b f = weaker (Stands n h) (Stands d g) x (λ t p. record {
  depth = omega
      (arith, p.depth, a);
  height = omega (arith, p.height, b);
}) f

first_local_stands : {F : Type 0} (m : Marks F) (k : Names) (c : Enclosing) (s : Scope) (t : Tree) →
    IfSound (judge_first_local m k c s t) (Stands (nesting t) (suc (levels t)))
first_local_stands m k c s (Part (label.Local at type name) value y) =
    stands_more (nesting value) (nesting value) (suc (levels value)) (suc (suc (levels value))) _ (omega arith)
    (omega arith) (local_stands m k c s at type name.bytes value)
first_local_stands m k c s NoTree = record { depth = omega arith; height = omega arith }
first_local_stands m k c s t = tt

for_stands : {F : Type 0} (m : Marks F) (n h : ℕ) (first : Judged Term F) (test last : Judged (Option Term) F)
    (x : Judged Term F)
    → IfSound first (Stands n h) → IfSound test (Perhaps n h) → IfSound last (Dropped n h) → IfSound x (Stands n h) →
    IfSound (repeated_for m first test last x) (Stands (suc n) (suc h))
for_stands m n h first test last x a b c d =
    joined_sound {A = Term × (Option Term × Option Term)} m (λ (p : Term × (Option Term × Option Term)). Stands n h p.0
    × (Perhaps n h p.1.0 × Dropped n h p.1.1)) (Stands n h) (Stands (suc n) (suc h)) _ x _
    (paired_sound {B = Option Term × Option Term} m (Stands n h) (λ (p : Option Term × Option Term). Perhaps n h p.0
    × Dropped n h p.1) first _ a
    (paired_sound m (Perhaps n h) (Dropped n h) test last b c)) d
    (λ p u q r.
    let d0 : stmt_term_depth p.0 ≤ n = q.0.depth in
    let h0 : term_height p.0 ≤ h = q.0.height in
    let t : Piece n h (optional p.1.0) = q.1.0 in
    let l : Piece n h (optional (option_map discarded p.1.1)) = q.1.1 in
    record {
      depth = omega (arith, d0, t.depth, l.depth, r.depth);
      height = omega
          (arith, h0, t.height, l.height, r.height);
    })

switched_stands : {F : Type 0} (m : Marks F) (at n h k : ℕ) (x cases : Judged Term F) → suc k ≤ n →
    IfSound x (Fits k h) → IfSound cases (Labelled n h) → IfSound (switched m at x cases) (Stands n (suc h))
switched_stands m at n h k x cases nests f r =
    joined_sound m (Tested (Fits k h) is_int) (Labelled n h) (Stands n (suc h)) (wants m is_int at x) cases _
    (wants_sound m (Fits k h) is_int at x f) r
    (λ v cs p q.
    let a : term_depth v ≤ k = p.0.depth in
    let b : term_height v + slack _ ≤ h = p.0.height in
    let c : suc (cases_term_depth cs) ≤ n = q.0.depth in
    let d : term_height cs ≤ h = q.0.height in
    record { depth = omega (arith, a, c, nests); height = omega (arith, b, d) })

-- a block of these statements, of which there are none where the row of their source is empty
block_depth : (u : Term) → block_term_depth u ≤ suc (stmts_term_depth u)
block_depth (Node sign.More x rest) = omega arith
block_depth u = omega arith

block_stands : {F : Type 0} (n h : ℕ) (xs : Judged Term F) → IfSound xs (Following n h) →
    IfSound (blocked xs) (Stands (suc n) (suc h))
block_stands n h xs f = after_sound (Following n h) (Stands (suc n) (suc h)) xs _ f
    (λ ts p. let b = block_depth ts in let d : stmts_term_depth ts ≤ n = p.0.depth in let l : term_height ts ≤ h = p.0.height in
    record { depth = omega (arith, b, d); height = omega (arith, l) })

within_above : (l : _) (t rest : Tree) → suc (most_of (Part l t rest)) ≤ each_within (Part l t rest)
within_above l t NoTree = omega arith
within_above l t (Part k u rest) = let q = within_above k u rest in omega (arith, q)

fits_up : {F : Type 0} (n m h k : ℕ) (x : Judged Term F) → n ≤ m → h ≤ k → IfSound x (Fits n h) → IfSound x (Fits m k)
fits_up n m h k x p q f = weaker (Fits n h) (Fits m k) x (λ t g. fits_more n m h k t p q g) f

same : (n : ℕ) → n ≤ n
same n = omega arith

-- the first part of a `for`
in_first : {F : Type 0} (m : Marks F) (k : Names) (c : Enclosing) (s : Scope) (t : Tree) (n h : ℕ) → nesting t ≤ n →
    suc (levels t) ≤ h → IfSound (judge_first m k c s t) (Stands n h)
in_first m k c s t n h a b =
    either_sound (Stands n h) (is_expression t) _ _
    (λ _. stands_more (nesting t) n (suc (levels t)) h _ a b (evaluated_stands (nesting t) (levels t)
    (judge m k c.body s t) (judged_fits m k c.body s t)))
    (λ _. stands_more (nesting t) n (suc (levels t)) h _ a b (first_local_stands m k c s t))

-- ---- each form, with its parts as deep and as high as their own sources

if_stands : {F : Type 0} (m : Marks F) (at a b c d e f : ℕ) (t x y : Judged Term F) → IfSound t (Fits a b) →
    IfSound x (Stands c d) → IfSound y (Stands e f)
    → IfSound (conditional m at t x y) (Stands (suc (max a (max c e))) (suc (max b (max d f))))
if_stands m at a b c d e f t x y p q r =
    let n = max a (max c e) in
    let h = max b (max d f) in
    conditional_stands m at n h t x y (fits_up a n b h t (omega arith) (omega arith) p) (stands_more c n d h x
    (omega arith) (omega arith) q) (stands_more e n f h y (omega arith) (omega arith) r)

while_stands : {F : Type 0} (m : Marks F) (at a b c d : ℕ) (t x : Judged Term F) → IfSound t (Fits a b) →
    IfSound x (Stands c d) → IfSound (repeated m at t x) (Stands (suc (max a c)) (suc (max b d)))
while_stands m at a b c d t x p q =
    let n = max a c in
    let h = max b d in
    repeated_stands m at n h t x (fits_up a n b h t (omega arith) (omega arith) p) (stands_more c n d h x (omega arith)
    (omega arith) q)

do_stands : {F : Type 0} (m : Marks F) (at a b c d : ℕ) (x t : Judged Term F) → IfSound x (Stands a b) →
    IfSound t (Fits c d) → IfSound (done_while m x at t) (Stands (suc (max a c)) (suc (max b d)))
do_stands m at a b c d x t p q =
    let n = max a c in
    let h = max b d in
    done_while_stands m at n h x t (fits_up c n d h t (omega arith) (omega arith) q) (stands_more a n b h x
    (omega arith) (omega arith) p)

for_form : {F : Type 0} (m : Marks F) (k : Names) (c : Enclosing) (s z : Scope) (first t last : Tree) (a b : ℕ)
    (x : Judged Term F) → IfSound x (Stands a b)
    → IfSound (repeated_for m (judge_first m k c s first) (judge_test m k c z t) (judge_last m k c z last) x)
    (Stands (suc (max (max (nesting first) (max (nesting t) (nesting last))) a)) (suc (max (max (suc (levels first))
    (max (levels t) (levels last))) b)))
for_form m k c s z first t last a b x p =
    let n = max (max (nesting first) (max (nesting t) (nesting last))) a in
    let h = max (max (suc (levels first)) (max (levels t) (levels last))) b in
    for_stands m n h (judge_first m k c s first) (judge_test m k c z t) (judge_last m k c z last) x
    (in_first m k c s first n h (omega arith) (omega arith))
    (test_stands m k c z t n h (omega arith) (omega arith))
    (last_stands m k c z last n h (omega arith) (omega arith))
    (stands_more a n b h x (omega arith) (omega arith) p)

switch_stands : {F : Type 0} (m : Marks F) (at a b c d : ℕ) (x cases : Judged Term F) → IfSound x (Fits a b) →
    IfSound cases (Labelled (max (suc a) c) (max b d))
    → IfSound (switched m at x cases) (Stands (max (suc a) c) (suc (max b d)))
switch_stands m at a b c d x cases p r = switched_stands m at (max (suc a) c) (max b d) a x cases (omega arith)
    (fits_up a a b (max b d) x (omega arith) (omega arith) p) r

pub nothing_yet : (n h : ℕ) → Following n h Absent
nothing_yet n h = (record { depth = omega arith; height = omega arith }, tt)

no_label_yet : (n h : ℕ) → 1 ≤ n → Labelled n h Absent
no_label_yet n h some = (record { depth = omega (arith, some); height = omega arith }, tt)

-- the first of a row, and the rest
first_most : (n a b : ℕ) → max a b ≤ n → a ≤ n
first_most n a b p = omega (arith, p)

rest_most : (n a b : ℕ) → max a b ≤ n → b ≤ n
rest_most n a b p = omega (arith, p)

follows : {F : Type 0} (m : Marks F) (n h a b : ℕ) (xs x : Judged Term F) → a ≤ n → b ≤ h →
    IfSound xs (Following n h) → IfSound x (Stands a b) → IfSound (followed m xs x) (Following n h)
follows m n h a b xs x p q r f = followed_stands m n h xs x r (stands_more a n b h x p q f)

block_of : {F : Type 0} (n h w : ℕ) (xs : Judged Term F) → suc n ≤ w → IfSound xs (Following n h) →
    IfSound (blocked xs) (Stands w (suc h))
block_of n h w xs p f = stands_more (suc n) w (suc h) (suc h) (blocked xs) p (omega arith) (block_stands n h xs f)

case_of_row : {F : Type 0} (m : Marks F) (n h k g w : ℕ) (xs : Judged Term F) (l : Judged Label F)
    (all : Judged Term F) → suc k ≤ w → w ≤ n → suc g ≤ h → IfSound xs (Labelled n h) → IfSound all (Following k g)
    → IfSound (with_case m xs l all) (Labelled n h)
case_of_row m n h k g w xs l all a b c r f = with_case_stands m n k h g xs l all (omega (arith, a, b)) c r (weaker
    (Following k g) (Row k g) all (λ u q. q.0) f)

case_of_none : {F : Type 0} (m : Marks F) (n h : ℕ) (xs : Judged Term F) (l : Judged Label F) → 1 ≤ n → 1 ≤ h →
    IfSound xs (Labelled n h) → IfSound (with_case m xs l (Sound Absent)) (Labelled n h)
case_of_none m n h xs l a c r = with_case_stands m n 0 h 0 xs l (Sound Absent) a c r
    (record { depth = omega arith; height = omega arith })

left_of : (m n : ℕ) → m ≤ max m n
left_of m n = omega arith

right_of : (m n : ℕ) → n ≤ max m n
right_of m n = omega arith

some_in : (a c : ℕ) → 1 ≤ max (suc a) c
some_in a c = omega arith

empty_stands : (n : ℕ) → Stands n 4 (leaf sign.Empty)
empty_stands n = record { depth = omega arith; height = omega arith }

empty_block : Stands 0 1 (Node sign.Block Absent Absent)
empty_block = record { depth = omega arith; height = omega arith }

break_stands : {F : Type 0} (m : Marks F) (around : Around) (at : ℕ) → IfSound (broken_off m around at) (Stands 0 4)
break_stands m around at = unless_sound m (Stands 0 4) around.breaks (broken 18 at) (leaf sign.Break)
    (λ _. record { depth = omega arith; height = omega arith })

continue_stands : {F : Type 0} (m : Marks F) (around : Around) (at : ℕ) → IfSound (continued m around at) (Stands 0 4)
continue_stands m around at = unless_sound m (Stands 0 4) around.continues (broken 18 at) (leaf sign.Continue)
    (λ _. record { depth = omega arith; height = omega arith })

-- a block of a row of statements
block_at : {F : Type 0} (m : Marks F) (k : Names) (c : Enclosing) (around : Around) (s : Scope) (all : Tree)
    → IfSound (judge_stmts m k c around s (Sound Absent) all) (Following (most_of all) (highest all))
    → IfSound (blocked (judge_stmts m k c around s (Sound Absent) all)) (Stands (each_within all) (suc (highest all)))
block_at m k c around s NoTree f = empty_block
block_at m k c around s (Part l t rest) f =
    block_of (most_of (Part l t rest)) (highest (Part l t rest)) (each_within (Part l t rest))
    (judge_stmts m k c around s (Sound Absent) (Part l t rest)) (within_above l t rest) f

-- a label with a row of statements behind it
label_at : {F : Type 0} (m : Marks F) (k : Names) (c : Enclosing) (around : Around) (s : Scope) (xs : Judged Term F)
    (l : Judged Label F) (all : Tree) (n h : ℕ) → 1 ≤ n → each_within all ≤ n → suc (highest all) ≤ h
    → IfSound xs (Labelled n h) → IfSound (judge_stmts m k c around s (Sound Absent) all) (Following (most_of all)
    (highest all))
    → IfSound (with_case m xs l (judge_stmts m k c around s (Sound Absent) all)) (Labelled n h)
label_at m k c around s xs l NoTree n h some p q r f = case_of_none m n h xs l some q r
label_at m k c around s xs l (Part j t rest) n h some p q r f =
    case_of_row m n h (most_of (Part j t rest)) (highest (Part j t rest)) (each_within (Part j t rest)) xs l
    (judge_stmts m k c around s (Sound Absent) (Part j t rest)) (within_above j t rest) p q r f

mutual
  pub judged_stands : {F : Type 0} (m : Marks F) (k : Names) (c : Enclosing) (around : Around) (s : Scope) (t : Tree) →
      IfSound (judge_stmt m k c around s t) (Stands (nesting t) (levels t))
  judged_stands m k c around s NoTree = empty_stands 0
  judged_stands m k c around s (Part (label.Empty at) x y) = empty_stands 0
  judged_stands m k c around s (Part (label.Evaluate at) e y) = evaluated_stands (nesting e) (levels e)
      (judge m k c.body s e) (judged_fits m k c.body s e)
  judged_stands m k c around s (Part (label.Local at type name) value y) = local_stands m k c s at type name.bytes value
  judged_stands m k c around s (Part (label.Block at) all y) =
      block_at m k c around s all (judged_row m k c around s (Sound Absent) all (most_of all) (highest all) (same
      (most_of all)) (same (highest all)) (nothing_yet (most_of all) (highest all)))
  judged_stands m k c around s (Part (label.If at) t (Part label.Both x y)) =
      if_stands m (place_of t) (nesting t) (levels t) (nesting x) (levels x) (nesting y) (levels y)
      (judge m k c.body s t) (judge_stmt m k c around s x) (judge_stmt m k c around (past s x) y)
      (judged_fits m k c.body s t) (judged_stands m k c around s x) (judged_stands m k c around (past s x) y)
  judged_stands m k c around s (Part (label.While at) t x) =
      while_stands m (place_of t) (nesting t) (levels t) (nesting x) (levels x) (judge m k c.body s t)
      (judge_stmt m k c in_loop s x)
      (judged_fits m k c.body s t) (judged_stands m k c in_loop s x)
  judged_stands m k c around s (Part (label.Do at) x t) =
      do_stands m (place_of t) (nesting x) (levels x) (nesting t) (levels t) (judge_stmt m k c in_loop s x)
      (judge m k c.body (past s x) t)
      (judged_stands m k c in_loop s x) (judged_fits m k c.body (past s x) t)
  judged_stands m k c around s (Part (label.For at) (Part label.Both first t) (Part label.Both last x)) =
      for_form m k c s (behind k s first) first t last (nesting x) (levels x) (judge_stmt m k c in_loop
      (behind k s first) x) (judged_stands m k c in_loop (behind k s first) x)
  judged_stands m k c around s (Part (label.Switch at) e cases) =
      switch_stands m (place_of e) (nesting e) (levels e) (most_of cases) (highest cases) (judge m k c.body s e)
      (judge_cases m k c (in_switch around) s [] (Sound Absent) cases)
      (judged_fits m k c.body s e)
      (judged_cases m k c (in_switch around) s [] (Sound Absent) cases (max (suc (nesting e)) (most_of cases)) (max
      (levels e) (highest cases)) (some_in (nesting e) (most_of cases))
      (right_of (suc (nesting e)) (most_of cases)) (right_of (levels e) (highest cases)) (no_label_yet (max (suc
      (nesting e)) (most_of cases)) (max (levels e) (highest cases)) (some_in (nesting e) (most_of cases))))
  judged_stands m k c around s (Part (label.Break at) x y) = break_stands m around at
  judged_stands m k c around s (Part (label.Continue at) x y) = continue_stands m around at
  judged_stands m k c around s (Part (label.Return at) value y) = return_stands m k c s at value
  judged_stands m k c around s t = tt

  pub judged_row : {F : Type 0} (m : Marks F) (k : Names) (c : Enclosing) (around : Around) (s : Scope)
      (xs : Judged Term F) (t : Tree) (n h : ℕ) → most_of t ≤ n → highest t ≤ h
      → IfSound xs (Following n h) → IfSound (judge_stmts m k c around s xs t) (Following n h)
  judged_row m k c around s xs (Part label.More t rest) n h p q r =
      judged_row m k c around (behind k s t) (followed m xs (judge_stmt m k c around s t)) rest n h (rest_most n
      (nesting t) (most_of rest) p) (rest_most h (levels t) (highest rest) q)
      (follows m n h (nesting t) (levels t) xs (judge_stmt m k c around s t) (first_most n (nesting t)
      (most_of rest) p) (first_most h (levels t) (highest rest) q) r (judged_stands m k c around s t))
  judged_row m k c around s xs NoTree n h p q r = r
  judged_row m k c around s xs t n h p q r = tt

  judged_case : {F : Type 0} (m : Marks F) (k : Names) (c : Enclosing) (around : Around) (s : Scope)
      (labels : List Label) (xs : Judged Term F) (t : Tree) (n h : ℕ) → 1 ≤ n → nesting t ≤ n → levels t ≤ h
      → IfSound xs (Labelled n h) → IfSound (judge_case m k c around s labels xs t) (Labelled n h)
  judged_case m k c around s labels xs (Part (label.Case at) e all) n h some p q r =
      label_at m k c around s xs (judge_label m k c s labels (Part (label.Case at) e all)) all n h some (rest_most n
      (nesting e) (each_within all) p) q r
      (judged_row m k c around s (Sound Absent) all (most_of all) (highest all) (same (most_of all)) (same
      (highest all)) (nothing_yet (most_of all) (highest all)))
  judged_case m k c around s labels xs (Part (label.Default at) all y) n h some p q r =
      label_at m k c around s xs (judge_label m k c s labels (Part (label.Default at) all y)) all n h some p q r
      (judged_row m k c around s (Sound Absent) all (most_of all) (highest all) (same (most_of all)) (same
      (highest all)) (nothing_yet (most_of all) (highest all)))
  judged_case m k c around s labels xs t n h some p q r = tt

  judged_cases : {F : Type 0} (m : Marks F) (k : Names) (c : Enclosing) (around : Around) (s : Scope)
      (labels : List Label) (xs : Judged Term F) (t : Tree) (n h : ℕ) → 1 ≤ n → most_of t ≤ n → highest t ≤ h
      → IfSound xs (Labelled n h) → IfSound (judge_cases m k c around s labels xs t) (Labelled n h)
  judged_cases m k c around s labels xs (Part label.More t rest) n h some p q r =
      judged_cases m k c around (behind_case k s t) (with_label labels (judge_label m k c s labels t))
      (judge_case m k c around s labels xs t) rest n h some
      (rest_most n (nesting t) (most_of rest) p) (rest_most h (levels t) (highest rest) q)
      (judged_case m k c around s labels xs t n h some (first_most n (nesting t) (most_of rest) p) (first_most h
      (levels t) (highest rest) q) r)
  judged_cases m k c around s labels xs NoTree n h some p q r = r
  judged_cases m k c around s labels xs t n h some p q r = tt
