-- What the grammar derives as a statement is within its room.
use Rattle.std.proofs.Common.{◌≤◌, ℕ, zero, suc, ◌+◌, ◌*◌, Bool, true, false, IfSome, List, [], ◌∷◌, Option, Some, None, codes, arith, subst, inl, inr}
use Rattle.sed_lexer.specs.Token.{Token}
use Rattle.sed_units.specs.declared.statements.Local.{Local}
use Rattle.sed_units.specs.declared.statements.ForHead.{ForHead}
use Rattle.sed_units.specs.declared.statements.ForFirst.{ForFirst}
use Rattle.sed_units.specs.Tree.{Tree, row, optional}
use Rattle.sed_units.specs.StatementTree.{first_tree, case_tree}
use Rattle.sed_parser.specs.Rule.{Rule}
use Rattle.sed_parser.specs.Expressions.{expression, deeper}
use Rattle.sed_parser.specs.Statements.{local_value, local, return_value, local_statement, expression_statement, return_statement, valued, plain, condition, next_statement, statements, block, other, if_else, while_do, do_while, for_local, for_evaluate, for_first, for_start, perhaps, for_part, for_head, for_do, case_label, case_of, next_case, cases, switch, looped, statement_of, inner, statement}
use Rattle.sed_body_laws.specs.Nesting.{nesting, each_within}
use Rattle.sed_body_laws.specs.Levels.{levels, highest}
use Rattle.sed_body_laws.proofs.Rooms.{Each, each_of_many, InRoom, Within, rows_beside}
use Rattle.sed_body_laws.proofs.NestedExpressions.{Derived, in_expression, inside_deeper}

-- an expression with all that is opened in it, and one construct deeper
an_expression : (room : ℕ) (inside : Bool) → Derived (expression room 13 inside) (InRoom room 22)
an_expression room inside tokens rest t is = in_expression room (deeper room)
    (inside_deeper room) 13 inside tokens rest t is

one_deeper : (room : ℕ) (inside : Bool) → Derived (deeper room 13 inside) (Within room 22)
one_deeper room inside tokens rest t is = inside_deeper room 13 inside tokens rest t is

-- a part that may be missing
optional_in : (room : ℕ) (e : Option Tree) → IfSome e (InRoom room 22) → InRoom room 22 (optional e)
optional_in room None h = (omega arith, omega arith)
optional_in room (Some t) h = h

in_local_value : (P : Tree → Type 0) (value : Rule Tree) → Derived value P
    → (tokens rest : List Token) (e : Option Tree) → (local_value value).holds e tokens rest → IfSome e P
unfolding local_value
in_local_value P value p tokens rest e (inl (f, (u, m1, mark, (x, m2, is, (same, end))))) = subst
    (λ o. IfSome o P) same (p m1 m2 x is)
in_local_value P value p tokens rest e (inr (f, (same, end))) = subst (λ o. IfSome o P) same tt

in_local : (P : Tree → Type 0) (value : Rule Tree) → Derived value P
    → (tokens rest : List Token) (l : Local) → (local value).holds l tokens rest → IfSome l.value P
unfolding local
in_local P value p tokens rest l (
  at,
  m1,
  place,
  (
    kind,
    m2,
    type,
    (
      u,
      m3,
      on,
      (
        name,
        m4,
        id,
        (
          e,
          m5,
          is,
          (same, end),
        ),
      ),
    ),
  ),
) =
    subst (λ (o : Local). IfSome o.value P) same (in_local_value P value p m4 m5 e is)

-- ---- statements with no other one within them

in_return_value : (room : ℕ) (tokens rest : List Token) (e : Option Tree) → (return_value room).holds e tokens rest →
    IfSome e (InRoom room 22)
unfolding return_value
in_return_value room tokens rest e (inl (f, (same, end))) = subst (λ o. IfSome o (InRoom room 22)) same tt
in_return_value room tokens rest e (inr (f, (x, m1, is, (same, end)))) = subst (λ o. IfSome o (InRoom room 22)) same
    (an_expression room false tokens m1 x is)

in_local_statement : (room : ℕ) → Derived (local_statement room) (InRoom room 23)
unfolding local_statement
in_local_statement room tokens rest t (l, m1, is, (u, m2, stop, (same, end))) =
    let v : InRoom room 22 (optional l.value) = optional_in room l.value (in_local (InRoom room 22)
    (expression room 13 false) (an_expression room false) tokens m1 l is) in
    subst (InRoom room 23) same (v.0, omega (arith, v.1))

in_expression_statement : (room : ℕ) → Derived (expression_statement room) (InRoom room 23)
unfolding expression_statement
in_expression_statement room tokens rest t (at, m0, place, (e, m1, is, (u, m2, stop, (same, end)))) =
    let v : InRoom room 22 e = an_expression room false m0 m1 e is in
    subst (InRoom room 23) same (v.0, omega (arith, v.1))

in_return_statement : (room : ℕ) → Derived (return_statement room) (InRoom room 23)
unfolding return_statement
in_return_statement room tokens rest t (at, m0, place, (u, m1, key, (e, m2, is, (v, m3, stop, (same, end))))) =
    let v : InRoom room 22 (optional e) = optional_in room e (in_return_value room m1 m2 e is) in
    subst (InRoom room 23) same (v.0, omega (arith, v.1))

in_valued : (room : ℕ) → Derived (valued room) (InRoom room 23)
unfolding valued
in_valued room tokens rest t (inl (e, is)) = in_return_statement room tokens rest t is
in_valued room tokens rest t (inr (e, inl (f, is))) = in_local_statement room tokens rest t is
in_valued room tokens rest t (inr (e, inr (f, is))) = in_expression_statement room tokens rest t is

in_plain : (room : ℕ) → Derived (plain room) (InRoom room 23)
unfolding plain
in_plain room tokens rest t (at, m0, place, inl (e, (u, m1, mark, (same, end)))) = subst (InRoom room 23) same
    (omega arith, omega arith)
in_plain room tokens rest t (at, m0, place, inr (e, inl (f, (u, m1, key, (v, m2, stop, (same, end)))))) = subst
    (InRoom room 23) same (omega arith, omega arith)
in_plain room tokens rest t (
  at,
  m0,
  place,
  inr (
    e,
    inr (
      f,
      inl (
        g,
        (
          u,
          m1,
          key,
          (
            v,
            m2,
            stop,
            (same, end),
          ),
        ),
      ),
    ),
  ),
) = subst (InRoom room 23) same (omega arith, omega arith)
in_plain room tokens rest t (at, m0, place, inr (e, inr (f, inr (g, is)))) = in_valued room m0 rest t is

-- ---- statements with others within them

-- what stands in another statement
abbrev Inner : ℕ → Rule Tree → Type 0
Inner room within = Derived within (Within room 23)

in_condition : (room : ℕ) → Derived (condition room) (Within room 22)
unfolding condition
in_condition room tokens rest t (u, m1, opens, (e, m2, is, (v, m3, close, (same, end)))) = subst (Within room 22) same
    (one_deeper room true m1 m2 e is)

in_statements : (room : ℕ) (within : Rule Tree) → Inner room within
    → (tokens rest : List Token) (ts : List Tree) → (statements within).holds ts tokens rest → Each (Within room 23) ts
unfolding statements
in_statements room within p tokens rest ts are =
    each_of_many (Within room 23) next_statement within.holds (λ a from to x. p from to a x) ts tokens rest are

rows_of : (room : ℕ) (ts : List Tree) → Each (Within room 23) ts →
    (each_within (row ts) ≤ room) × (highest (row ts) ≤ 22 * room + 1)
rows_of room [] h = (omega arith, omega arith)
rows_of room (t ∷ ts) h =
    let r = rows_of room ts h.1 in
    let n : suc (nesting t) ≤ room = h.0.0 in
    let l : levels t + 22 ≤ 22 * room + 23 = h.0.1 in
    (omega (arith, n, r.0), omega (arith, l, r.1))

in_block : (room : ℕ) (within : Rule Tree) → Inner room within → Derived (block within) (InRoom room 23)
unfolding block
in_block room within p tokens rest t (at, m0, place, (u, m1, opens, (ss, m2, are, (v, m3, close, (same, end))))) =
    let r = rows_of room ss (in_statements room within p m1 m2 ss are) in
    subst (InRoom room 23) same (r.0, omega (arith, r.1))

in_other : (room : ℕ) (within : Rule Tree) → Inner room within
    → (tokens rest : List Token) (e : Option Tree) → (other within).holds e tokens rest → IfSome e (Within room 23)
unfolding other
in_other room within p tokens rest e (inl (f, (u, m1, key, (s, m2, is, (same, end))))) = subst (λ o. IfSome o
    (Within room 23)) same (p m1 m2 s is)
in_other room within p tokens rest e (inr (f, (same, end))) = subst (λ o. IfSome o (Within room 23)) same tt

-- nothing, or what is one construct deeper, where there is room for it
optional_within : (room m : ℕ) (e : Option Tree) → 1 ≤ room → 4 ≤ m → IfSome e (Within room m) →
    Within room m (optional e)
optional_within room m None some big h = (omega (arith, some), omega (arith, some, big))
optional_within room m (Some t) some big h = h

in_if : (room : ℕ) (within : Rule Tree) → Inner room within → Derived (if_else room within) (InRoom room 23)
unfolding if_else
in_if room within p tokens rest t (at, m0, place, (u, m1, key, (c, m2, is, (s, m3, x, (e, m4, y, (same, end)))))) =
    let a : Within room 22 c = in_condition room m1 m2 c is in
    let b : Within room 23 s = p m2 m3 s x in
    let some : 1 ≤ room = omega (arith, a.0) in
    let d : Within room 23 (optional e) = optional_within room 23 e some (omega arith)
    (in_other room within p m3 m4 e y) in
    subst (InRoom room 23) same (omega (arith, a.0, b.0, d.0), omega (arith, a.1, b.1, d.1))

in_while : (room : ℕ) (within : Rule Tree) → Inner room within → Derived (while_do room within) (InRoom room 23)
unfolding while_do
in_while room within p tokens rest t (at, m0, place, (u, m1, key, (c, m2, is, (s, m3, x, (same, end))))) =
    let a : Within room 22 c = in_condition room m1 m2 c is in
    let b : Within room 23 s = p m2 m3 s x in
    subst (InRoom room 23) same (omega (arith, a.0, b.0), omega (arith, a.1, b.1))

in_do : (room : ℕ) (within : Rule Tree) → Inner room within → Derived (do_while room within) (InRoom room 23)
unfolding do_while
in_do room within p tokens rest t (
  at,
  m0,
  place,
  (
    u,
    m1,
    key,
    (
      s,
      m2,
      x,
      (
        v,
        m3,
        again,
        (
          c,
          m4,
          is,
          (
            o,
            m5,
            stop,
            (same, end),
          ),
        ),
      ),
    ),
  ),
) =
    let a : Within room 22 c = in_condition room m3 m4 c is in
    let b : Within room 23 s = p m1 m2 s x in
    subst (InRoom room 23) same (omega (arith, a.0, b.0), omega (arith, a.1, b.1))

-- ---- `for`

in_for_local : (room : ℕ) (tokens rest : List Token) (f : ForFirst) → (for_local room).holds f tokens rest → 1 ≤ room →
    Within room 23 (first_tree f)
unfolding for_local
in_for_local room tokens rest f (l, m1, is, (u, m2, mark, (same, end))) some =
    let v : Within room 22 (optional l.value) = optional_within room 22 l.value some (omega arith)
    (in_local (Within room 22) (deeper room 13 true) (one_deeper room true) tokens m1 l is) in
    subst (λ (g : ForFirst). Within room 23 (first_tree g)) same (v.0, omega (arith, v.1))

in_for_evaluate : (room : ℕ) (tokens rest : List Token) (f : ForFirst) → (for_evaluate room).holds f tokens rest →
    Within room 23 (first_tree f)
unfolding for_evaluate
in_for_evaluate room tokens rest f (e, m1, is, (u, m2, mark, (same, end))) =
    let v : Within room 22 e = one_deeper room true tokens m1 e is in
    subst (λ (g : ForFirst). Within room 23 (first_tree g)) same (v.0, omega (arith, v.1))

in_for_first : (room : ℕ) (tokens rest : List Token) (f : ForFirst) → (for_first room).holds f tokens rest → 1 ≤ room →
    Within room 23 (first_tree f)
unfolding for_first
in_for_first room tokens rest f (inl (e, (u, m1, mark, (same, end)))) some =
    subst (λ (g : ForFirst). Within room 23 (first_tree g)) same (omega (arith, some), omega (arith, some))
in_for_first room tokens rest f (inr (e, inl (g, is))) some = in_for_local room tokens rest f is some
in_for_first room tokens rest f (inr (e, inr (g, is))) some = in_for_evaluate room tokens rest f is

in_for_start : (room : ℕ) (tokens rest : List Token) (f : ForFirst) → (for_start room).holds f tokens rest → 1 ≤ room →
    Within room 23 (first_tree f)
unfolding for_start
in_for_start room tokens rest f (u, m1, key, (v, m2, opens, is)) some = in_for_first room m2 rest f is some

in_perhaps : (room : ℕ) (stop : List ℕ) (tokens rest : List Token) (e : Option Tree) →
    (perhaps room stop).holds e tokens rest → IfSome e (Within room 22)
unfolding perhaps
in_perhaps room stop tokens rest e (inl (f, (same, end))) = subst (λ o. IfSome o (Within room 22)) same tt
in_perhaps room stop tokens rest e (inr (f, (x, m1, is, (same, end)))) = subst (λ o. IfSome o (Within room 22)) same
    (one_deeper room true tokens m1 x is)

in_for_part : (room : ℕ) (stop : List ℕ) (tokens rest : List Token) (e : Option Tree) →
    (for_part room stop).holds e tokens rest → IfSome e (Within room 22)
unfolding for_part
in_for_part room stop tokens rest e (x, m1, is, (u, m2, mark, (same, end))) = subst (λ o. IfSome o
    (Within room 22)) same (in_perhaps room stop tokens m1 x is)

pub record IsHead (room : ℕ) (head : ForHead) : Type 0 where
  pub first : 1 ≤ room → Within room 23 (first_tree head.first)
  pub condition : IfSome head.condition (Within room 22)
  pub last : IfSome head.last (Within room 22)

in_for_head : (room : ℕ) (tokens rest : List Token) (head : ForHead) → (for_head room).holds head tokens rest →
    IsHead room head
unfolding for_head
in_for_head room tokens rest head (f, m1, x, (c, m2, y, (n, m3, z, (same, end)))) =
    subst (IsHead room) same
    (record {
      first = in_for_start room tokens m1 f x;
      condition = in_for_part room (codes ";") m1 m2 c y;
      last = in_for_part room (codes ")") m2 m3 n z;
    })

in_for : (room : ℕ) (within : Rule Tree) → Inner room within → Derived (for_do room within) (InRoom room 23)
unfolding for_do
in_for room within p tokens rest t (at, m0, place, (head, m1, is, (s, m2, x, (same, end)))) =
    let h : IsHead room head = in_for_head room m0 m1 head is in
    let b : Within room 23 s = p m1 m2 s x in
    let some : 1 ≤ room = omega (arith, b.0) in
    let f : Within room 23 (first_tree head.first) = h.first some in
    let c : Within room 22 (optional head.condition) = optional_within room 22 head.condition some
    (omega arith) h.condition in
    let n : Within room 22 (optional head.last) = optional_within room 22 head.last some (omega arith) h.last in
    subst (InRoom room 23) same (omega (arith, f.0, c.0, n.0, b.0), omega (arith, f.1, c.1, n.1, b.1))

-- ---- `switch`

in_case_label : (room : ℕ) (tokens rest : List Token) (e : Option Tree) → (case_label room).holds e tokens rest →
    IfSome e (InRoom room 22)
unfolding case_label
in_case_label room tokens rest e (inl (f, (u, m1, key, (x, m2, is, (same, end))))) = subst (λ o. IfSome o
    (InRoom room 22)) same (an_expression room false m1 m2 x is)
in_case_label room tokens rest e (inr (f, (u, m1, key, (same, end)))) = subst (λ o. IfSome o (InRoom room 22)) same tt

in_case_tree : (room at : ℕ) (e : Option Tree) (body : List Tree) → IfSome e (InRoom room 22) →
    Each (Within room 23) body → InRoom room 2 (case_tree at e body)
in_case_tree room at None body h hs = let r = rows_of room body hs in (r.0, omega (arith, r.1))
in_case_tree room at (Some x) body h hs = let r = rows_of room body hs in (omega (arith, h.0, r.0), omega (arith, r.1))

in_case : (room : ℕ) (within : Rule Tree) → Inner room within → Derived (case_of room within) (InRoom room 2)
unfolding case_of
in_case room within p tokens rest t (at, m0, place, (e, m1, x, (u, m2, colon, (body, m3, are, (same, end))))) =
    subst (InRoom room 2) same (in_case_tree room at e body (in_case_label room m0 m1 e x)
    (in_statements room within p m2 m3 body are))

in_cases : (room : ℕ) (within : Rule Tree) → Inner room within
    → (tokens rest : List Token) (ts : List Tree) → (cases room within).holds ts tokens rest → Each (InRoom room 2) ts
unfolding cases
in_cases room within p tokens rest ts are =
    each_of_many (InRoom room 2) next_case (case_of room within).holds
    (λ a from to x. in_case room within p from to a x) ts tokens rest are

in_switch : (room : ℕ) (within : Rule Tree) → Inner room within → Derived (switch room within) (InRoom room 23)
unfolding switch
in_switch room within p tokens rest t (
  at,
  m0,
  place,
  (
    u,
    m1,
    key,
    (
      e,
      m2,
      is,
      (
        v,
        m3,
        opens,
        (
          cs,
          m4,
          are,
          (w, m5, close, (same, end)),
        ),
      ),
    ),
  ),
) =
    let a : Within room 22 e = in_condition room m1 m2 e is in
    let r = rows_beside room 2 cs (in_cases room within p m3 m4 cs are) in
    subst (InRoom room 23) same (omega (arith, a.0, r.0), omega (arith, a.1, r.1))

-- ---- all statements

in_looped : (room : ℕ) (within : Rule Tree) → Inner room within → Derived (looped room within) (InRoom room 23)
unfolding looped
in_looped room within p tokens rest t (inl (e, is)) = in_while room within p tokens rest t is
in_looped room within p tokens rest t (inr (e, inl (f, is))) = in_do room within p tokens rest t is
in_looped room within p tokens rest t (inr (e, inr (f, inl (g, is)))) = in_for room within p tokens rest t is
in_looped room within p tokens rest t (inr (
  e,
  inr (
    f,
    inr (
      g,
      inl
          (h, is),
    ),
  ),
)) = in_switch room within p tokens rest t is
in_looped room within p tokens rest t (inr (e, inr (f, inr (g, inr (h, is))))) = in_plain room tokens rest t is

in_statement_of : (room : ℕ) (within : Rule Tree) → Inner room within →
    Derived (statement_of room within) (InRoom room 23)
unfolding statement_of
in_statement_of room within p tokens rest t (inl (e, is)) = in_block room within p tokens rest t is
in_statement_of room within p tokens rest t (inr (e, inl (f, is))) = in_if room within p tokens rest t is
in_statement_of room within p tokens rest t (inr (e, inr (f, is))) = in_looped room within p tokens rest t is

in_inner : (room : ℕ) → Inner room (inner room)
unfolding inner
in_inner zero tokens rest t is = absurd is
in_inner (suc room) tokens rest t is =
    let r : InRoom room 23 t = in_statement_of room (inner room) (in_inner room) tokens rest t is in
    (omega (arith, r.0), omega (arith, r.1))

pub in_statement : (room : ℕ) → Derived (statement room) (InRoom room 23)
in_statement room tokens rest t is = in_statement_of room (inner room) (in_inner room) tokens rest t is
