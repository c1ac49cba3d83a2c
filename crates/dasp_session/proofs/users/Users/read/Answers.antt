use Rattle.std.proofs.Common.{◌≡◌, ℕ, ◌<◌, Bool, true, false, eqb, List, [], ◌∷◌, ◌≤◌, refl, length, sym, ◌∙◌, ap, subst, arith, eqb-true}
use Rattle.std.specs.Prelude.{nat_eq}
use Rattle.std.specs.List.{list_any}
use Rattle.std.specs.Cmp.Lexicographic.{pointwise}
use Rattle.std.proofs.lemmas.Bool.{both_ways}
use Rattle.dasp_session.specs.declared.user.User.{User}
use Rattle.dasp_session.proofs.FileLemmas.{ReadSoFar, read_all, read_only, no_line, too_many, known_twice, one_more}
use Rattle.dasp_session.proofs.users.Users.read.Goals as goal

some : (left : List ℕ) (empty : Bool) → empty ≡ eqb (length left) 0 → empty ≡ false → left ≡ [] → ⊥
some left empty is not none = both_ways empty not (is ∙ ap (λ (xs : List ℕ). eqb (length xs) 0) none)

none_of : (left : List ℕ) → length left ≡ 0 → left ≡ []
none_of [] e = refl
none_of (byte ∷ left) e = absurd (omega arith)

none : (left : List ℕ) (empty : Bool) → empty ≡ eqb (length left) 0 → empty ≡ true → left ≡ []
none left empty is bare = none_of left (eqb-true (length left) 0 (sym is ∙ bare))

-- whether a name is among users, as the call says it
among : (users given : List User) (name asked : List ℕ) (answer : Bool) → answer ≡ list_any (λ known. pointwise nat_eq known.name asked) given → given ≡ users → asked ≡ name
    → list_any (λ known. pointwise nat_eq known.name name) users ≡ answer
among users given name asked answer is same named =
    sym (is ∙ ap (λ (us : List User). list_any (λ (known : User). pointwise nat_eq known.name asked) us) same
    ∙ ap (λ (n : List ℕ). list_any (λ (known : User). pointwise nat_eq known.name n) users) named)

pub returns-in-None-clause-bad : goal.returns-in-None-clause-bad
returns-in-None-clause-bad c = λ e all is.
    no_line c.loop-left.all.items c.loop-left.left.now c.args.text.now c.loop-left.invariant.0
    (some c.loop-left.left.now c.is_empty.result c.is_empty.ensures c.loop-left-test.true) c.in-None.ensures all is

pub returns-then-len-eq-MOST_USERS-clause-bad : goal.returns-then-len-eq-MOST_USERS-clause-bad
returns-then-len-eq-MOST_USERS-clause-bad c = λ e all is.
    too_many c.loop-left.all.items c.loop-left.left.now c.args.text.now c.loop-left.invariant.0
    (some c.loop-left.left.now c.is_empty.result c.is_empty.ensures c.loop-left-test.true) (omega arith) all is

pub returns-then-is_among-clause-bad : goal.returns-then-is_among-clause-bad
returns-then-is_among-clause-bad c = λ e all is.
    known_twice c.loop-left.all.items c.loop-left.left.now c.args.text.now c.loop-left.invariant.0
    c.in-Some.line.user c.in-Some.line.behind.now c.in-Some.ensures.0 c.in-Some.ensures.1
    (among c.loop-left.all.items _ c.in-Some.line.user.name _ c.is_among.result c.is_among.ensures c.deref.ensures.value c.as_bytes.ensures.same ∙ c.if-is_among.true) all is

pub loop-left-preserved : goal.loop-left-preserved
loop-left-preserved c =
    let few : length c.loop-left.all.items ≤ 64 = c.loop-left.invariant.0.are.few in
    let fewer : length c.loop-left.all.items < 64 = omega arith in (
      subst (λ (users : List User). ReadSoFar users c.in-Some.line.behind.now c.args.text.now) (sym c.push_reserved.ensures.items)
          (one_more c.loop-left.all.items c.loop-left.left.now c.args.text.now c.loop-left.invariant.0
          c.in-Some.line.user c.in-Some.line.behind.now c.in-Some.ensures.0 c.in-Some.ensures.1 fewer
          (among c.loop-left.all.items _ c.in-Some.line.user.name _ c.is_among.result c.is_among.ensures c.deref.ensures.value c.as_bytes.ensures.same ∙ c.if-is_among.false)),
      c.push_reserved.ensures.capacity ∙ c.loop-left.invariant.1,
    )

pub returns-clause-found : goal.returns-clause-found
returns-clause-found c =
    read_all c.loop-left.all.items c.args.text.now
    (subst (λ (left : List ℕ). ReadSoFar c.loop-left.all.items left c.args.text.now)
    (none c.loop-left.left.now c.is_empty.result c.is_empty.ensures c.loop-left-test.false) c.loop-left.invariant.0)

pub returns-clause-only : goal.returns-clause-only
returns-clause-only c = λ all is.
    read_only c.loop-left.all.items c.args.text.now
    (subst (λ (left : List ℕ). ReadSoFar c.loop-left.all.items left c.args.text.now)
    (none c.loop-left.left.now c.is_empty.result c.is_empty.ensures c.loop-left-test.false) c.loop-left.invariant.0) all is
