-- The bodies of a unit that tokens derive are shallow.
use Rattle.std.proofs.Common.{◌≤◌, ℕ, ◌+◌, ◌*◌, All, IfSome, List, [], ◌∷◌, Option, arith, subst, inl, inr}
use Rattle.std.proofs.lemmas.List.Elements.{All-nil, All-cons}
use Rattle.sed_lexer.specs.Token.{Token}
use Rattle.sed_units.specs.declared.classes.Class.{Class}
use Rattle.sed_units.specs.declared.classes.Member.{Member}
use Rattle.sed_units.specs.declared.classes.MemberForm.{MemberForm}
use Rattle.sed_units.specs.declared.classes.Unit.{Unit as TheUnit}
use Rattle.sed_units.specs.Tree.{Tree}
use Rattle.sed_parser.specs.Statements.{next_statement, statement, statements}
use Rattle.sed_parser.specs.Classes.{own_statements, body, method, member_form, member, next_member, members, class, next_class, classes}
use Rattle.sed_parser.specs.Derives.{Derives}
use Rattle.sed_body_laws.specs.Nesting.{nesting, body_nesting}
use Rattle.sed_body_laws.specs.Levels.{levels, highest_of}
use Rattle.sed_body_laws.specs.NestedBodies.{IsShallow, IsShallowForm, HasShallowBodies}
use Rattle.sed_body_laws.proofs.Rooms.{Each, each_of_many, InRoom}
use Rattle.sed_body_laws.proofs.NestedStatements.{in_statement}

all_of : {A : Type 0} (P : A → Type 0) (xs : List A) → Each P xs → All P xs
all_of P [] h = All-nil P
all_of P (x ∷ xs) h = All-cons P x xs h.0 (all_of P xs h.1)

rows_of : (room m : ℕ) (ts : List Tree) → Each (InRoom room m) ts →
    (body_nesting ts ≤ room) × (highest_of ts ≤ 22 * room + m)
rows_of room m [] h = (omega arith, omega arith)
rows_of room m (t ∷ ts) h =
    let r = rows_of room m ts h.1 in
    let n : nesting t ≤ room = h.0.0 in
    let l : levels t ≤ 22 * room + m = h.0.1 in
    (omega (arith, n, r.0), omega (arith, l, r.1))

is_shallow : (ts : List Tree) → Each (InRoom 64 23) ts → IsShallow ts
is_shallow ts h = let r = rows_of 64 23 ts h in record { nesting = r.0; levels = omega (arith, r.1) }

own_are : (tokens rest : List Token) (ts : List Tree) → own_statements.holds ts tokens rest → Each (InRoom 64 23) ts
unfolding own_statements statements
own_are tokens rest ts are =
    each_of_many (InRoom 64 23) next_statement (statement 64).holds
    (λ a from to x. in_statement 64 from to a x) ts tokens rest are

body_is : (tokens rest : List Token) (b : Option (List Tree)) → body.holds b tokens rest → IfSome b IsShallow
unfolding body
body_is tokens rest b (inl (e, (u, m1, opens, (ss, m2, are, (v, m3, close, (same, end)))))) =
    subst (λ o. IfSome o IsShallow) same (is_shallow ss (own_are m1 m2 ss are))
body_is tokens rest b (inr (e, (u, m1, stop, (same, end)))) = subst (λ o. IfSome o IsShallow) same tt

form_is : (tokens rest : List Token) (f : MemberForm) → member_form.holds f tokens rest → IsShallowForm f
unfolding member_form method
form_is tokens rest f (inl (e, (ps, m1, x, (b, m2, is, (same, end))))) = subst IsShallowForm same (body_is m1 m2 b is)
form_is tokens rest f (inr (e, (v, m1, x, (u, m2, stop, (same, end))))) = subst IsShallowForm same tt

abbrev MemberIs : Member → Type 0
MemberIs m = IsShallowForm m.form

member_is : (tokens rest : List Token) (m : Member) → member.holds m tokens rest → MemberIs m
unfolding member
member_is tokens rest m (
  at,
  m0,
  place,
  (
    fs,
    m1,
    facets,
    (
      ms,
      m2,
      words,
      (
        kind,
        m3,
        type,
        (
          name,
          m4,
          id,
          (
            f,
            m5,
            is,
            (same, end),
          ),
        ),
      ),
    ),
  ),
) =
    subst MemberIs same (form_is m4 m5 f is)

members_are : (tokens rest : List Token) (ms : List Member) → members.holds ms tokens rest → Each MemberIs ms
unfolding members
members_are tokens rest ms are = each_of_many MemberIs next_member member.holds
    (λ a from to x. member_is from to a x) ms tokens rest are

abbrev ClassIs : Class → Type 0
ClassIs c = All MemberIs c.members

class_is : (tokens rest : List Token) (c : Class) → class.holds c tokens rest → ClassIs c
unfolding class
class_is tokens rest c (
  at,
  m0,
  place,
  (
    fs,
    m1,
    facets,
    (
      ms,
      m2,
      words,
      (
        u,
        m3,
        key,
        (
          name,
          m4,
          id,
          (
            b,
            m5,
            base,
            (v, m6, opens, (xs, m7, are, (w, m8, close, (same, end)))),
          ),
        ),
      ),
    ),
  ),
) =
    subst ClassIs same (all_of MemberIs xs (members_are m6 m7 xs are))

pub bodies_are : (tokens : List Token) (u : TheUnit) → Derives tokens u → HasShallowBodies u
unfolding classes
bodies_are tokens u are = all_of ClassIs u.classes (each_of_many ClassIs next_class class.holds
    (λ a from to x. class_is from to a x) u.classes tokens [] are)
