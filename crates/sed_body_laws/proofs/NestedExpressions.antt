-- What the grammar derives as an expression is within its room.
use Rattle.std.proofs.Common.{◌≡◌, ◌≤◌, ℕ, zero, suc, ◌+◌, Bool, true, false, nat_lt, if◌then◌else◌, List, codes, arith, subst, inl, inr, refl}
use Rattle.sed_lexer.specs.Token.{Token}
use Rattle.sed_units.specs.Tree.{Tree}
use Rattle.sed_parser.specs.Rule.{Rule}
use Rattle.sed_parser.specs.Next.{next_mark}
use Rattle.sed_parser.specs.Expressions.{Inner, leaf, arguments, more_arguments, next_argument, named, primary, access, access_links, next_access, postfix, prefixed, operand, operand_links, next_operand, operands, conditional, assigned, of_level, expression_in, deeper, chain}
use Rattle.sed_body_laws.proofs.Rooms.{Each, each_of_many, InRoom, Within, more, rows_within, chain_in_room}
use Rattle.std.proofs.lemmas.Bool.{eqb-true as level_is}

-- how many levels an expression of a level makes at most, but for what is opened in it
abbrev pub own : ℕ → ℕ
own level = if nat_lt level 12 then level + 7 else level + 9

abbrev pub Derived : Rule Tree → (Tree → Type 0) → Type 0
Derived p P = (tokens rest : List Token) (t : Tree) → p.holds t tokens rest → P t

-- expressions that stand one construct deeper
abbrev pub Inside : ℕ → Inner → Type 0
Inside room inner = (level : ℕ) (inside : Bool) → Derived (inner level inside) (Within room (own level))

in_leaf : (room : ℕ) → Derived leaf (InRoom room 4)
unfolding leaf
in_leaf room tokens rest t (inl (e, (l, middle, is, (same, end)))) = subst (InRoom room 4) same
    (omega arith, omega arith)
in_leaf room tokens rest t (inr (e, (at, middle, is, (u, next, key, (same, end))))) = subst (InRoom room 4) same
    (omega arith, omega arith)

in_next_argument : (room : ℕ) (inner : Inner) → Inside room inner → Derived (next_argument inner) (Within room 22)
unfolding next_argument
in_next_argument room inner h tokens rest t (u, middle, mark, is) = h 13 true middle rest t is

in_more_arguments : (room : ℕ) (inner : Inner) → Inside room inner → (first : Tree) → Within room 22 first
    → (tokens rest : List Token) (ts : List Tree) → (more_arguments inner first).holds ts tokens rest →
    Each (Within room 22) ts
unfolding more_arguments
in_more_arguments room inner h first hf tokens rest ts (others, middle, is, (same, end)) =
    subst (Each (Within room 22)) same (
      hf,
      each_of_many (Within room 22) (next_mark (codes ",")) (next_argument inner).holds
          (λ a from to x. in_next_argument room inner h from to a x) others tokens middle is,
    )

in_arguments : (room : ℕ) (inner : Inner) → Inside room inner
    → (tokens rest : List Token) (ts : List Tree) → (arguments inner).holds ts tokens rest → Each (Within room 22) ts
unfolding arguments
in_arguments room inner h tokens rest ts (u, middle, mark, inl (e, (v, next, close, (same, end)))) = subst (Each
    (Within room 22)) same tt
in_arguments room inner h tokens rest ts (
  u,
  middle,
  mark,
  inr (
    e,
    (
      first,
      m1,
      is,
      (
        all,
        m2,
        are,
        (
          v,
          m3,
          close,
          (same, end),
        ),
      ),
    ),
  ),
) =
    subst (Each (Within room 22)) same (in_more_arguments room inner h first
    (h 13 true middle m1 first is) m1 m2 all are)

in_named : (room : ℕ) (inner : Inner) (inside : Bool) → Inside room inner → Derived (named inner inside) (InRoom room 4)
unfolding named
in_named room inner inside h tokens rest t (
  first,
  m1,
  is,
  inl (
    e,
    (
      u,
      m2,
      mark,
      (
        v,
        m3,
        on,
        (
          second,
          m4,
          id,
          (same, end),
        ),
      ),
    ),
  ),
) =
    subst (InRoom room 4) same (omega arith, omega arith)
in_named room inner inside h tokens rest t (first, m1, is, inr (e, inl (f, (args, m2, are, (same, end))))) =
    let r = rows_within room args (in_arguments room inner h m1 m2 args are) in
    subst (InRoom room 4) same (r.0, omega (arith, r.1))
in_named room inner inside h tokens rest t (first, m1, is, inr (e, inr (f, (same, end)))) =
    subst (InRoom room 4) same (omega arith, omega arith)

in_primary : (room : ℕ) (inner : Inner) (inside : Bool) → Inside room inner →
    Derived (primary inner inside) (InRoom room 4)
unfolding primary
in_primary room inner inside h tokens rest t (at, m1, place, inl (e, is)) = in_leaf room m1 rest t is
in_primary room inner inside h tokens rest t (
  at,
  m1,
  place,
  inr (
    e,
    inl (
      f,
      (
        u,
        m2,
        opens,
        (
          x,
          m3,
          is,
          (
            v,
            m4,
            close,
            (same, end),
          ),
        ),
      ),
    ),
  ),
) =
    let w : Within room 22 x = h 13 true m2 m3 x is in
    subst (InRoom room 4) same (w.0, omega (arith, w.1))
in_primary room inner inside h tokens rest t (
  at,
  m1,
  place,
  inr (
    e,
    inr (
      f,
      inl (
        g,
        (
          name,
          m2,
          is,
          (
            args,
            m3,
            are,
            (same, end),
          ),
        ),
      ),
    ),
  ),
) =
    let r = rows_within room args (in_arguments room inner h m2 m3 args are) in
    subst (InRoom room 4) same (r.0, omega (arith, r.1))
in_primary room inner inside h tokens rest t (
  at,
  m1,
  place,
  inr (
    e,
    inr (
      f,
      inr
          (g, is),
    ),
  ),
) = in_named room inner inside h m1 rest t is

in_access : (room : ℕ) (inner : Inner) (inside : Bool) → Inside room inner →
    Derived (access inner inside) (InRoom room 4)
unfolding access
in_access room inner inside h tokens rest t (
  at,
  m1,
  place,
  inl (
    e,
    (
      u,
      m2,
      dot,
      (
        v,
        m3,
        on,
        (
          name,
          m4,
          id,
          inl (
            f,
            (args, m5, are, (same, end)),
          ),
        ),
      ),
    ),
  ),
) =
    let r = rows_within room args (in_arguments room inner h m4 m5 args are) in
    subst (InRoom room 4) same (r.0, omega (arith, r.1))
in_access room inner inside h tokens rest t (
  at,
  m1,
  place,
  inl (
    e,
    (
      u,
      m2,
      dot,
      (
        v,
        m3,
        on,
        (
          name,
          m4,
          id,
          inr (
            f,
            (same, end),
          ),
        ),
      ),
    ),
  ),
) =
    subst (InRoom room 4) same (omega arith, omega arith)
in_access room inner inside h tokens rest t (
  at,
  m1,
  place,
  inr (
    e,
    (
      u,
      m2,
      opens,
      (
        x,
        m3,
        is,
        (
          v,
          m4,
          close,
          (same, end),
        ),
      ),
    ),
  ),
) =
    let w : Within room 22 x = h 13 true m2 m3 x is in
    subst (InRoom room 4) same (w.0, omega (arith, w.1))

in_access_links : (room : ℕ) (inner : Inner) (inside : Bool) → Inside room inner
    → (tokens rest : List Token) (ts : List Tree) → (access_links inner inside).holds ts tokens rest →
    Each (InRoom room 4) ts
unfolding access_links
in_access_links room inner inside h tokens rest ts are =
    each_of_many (InRoom room 4) (next_access inside) (access inner inside).holds
    (λ a from to x. in_access room inner inside h from to a x) ts tokens rest are

in_postfix : (room : ℕ) (inner : Inner) (inside : Bool) → Inside room inner →
    Derived (postfix inner inside) (InRoom room 7)
unfolding postfix
in_postfix room inner inside h tokens rest t (
  at,
  m1,
  place,
  (
    first,
    m2,
    is,
    (
      links,
      m3,
      are,
      inl (
        e,
        (
          op,
          m4,
          mark,
          (same, end),
        ),
      ),
    ),
  ),
) =
    let c : InRoom room 5 (chain at first links) = chain_in_room room 4 at first links
    (in_primary room inner inside h m1 m2 first is)
    (in_access_links room inner inside h m2 m3 links are) in
    subst (InRoom room 7) same (c.0, omega (arith, c.1))
in_postfix room inner inside h tokens rest t (at, m1, place, (first, m2, is, (links, m3, are, inr (e, (same, end))))) =
    let c : InRoom room 5 (chain at first links) = chain_in_room room 4 at first links
    (in_primary room inner inside h m1 m2 first is)
    (in_access_links room inner inside h m2 m3 links are) in
    subst (InRoom room 7) same (more room 5 7 (chain at first links) (omega arith) c)

in_prefixed : (room : ℕ) (inner : Inner) (inside : Bool) (tighter : Rule Tree) → Inside room inner →
    Derived tighter (InRoom room 7)
    → Derived (prefixed inner inside tighter) (InRoom room 8)
unfolding prefixed
in_prefixed room inner inside tighter h p tokens rest t (
  at,
  m1,
  place,
  inl (
    e,
    (
      op,
      m2,
      mark,
      (
        u,
        m3,
        on,
        (
          x,
          m4,
          is,
          (same, end),
        ),
      ),
    ),
  ),
) =
    let w : Within room 8 x = h 1 inside m3 m4 x is in
    subst (InRoom room 8) same (w.0, omega (arith, w.1))
in_prefixed room inner inside tighter h p tokens rest t (
  at,
  m1,
  place,
  inr (
    e,
    inl (
      f,
      (
        u,
        m2,
        opens,
        (
          kind,
          m3,
          prim,
          (
            v,
            m4,
            close,
            (
              o,
              m5,
              on,
              (
                x,
                m6,
                is,
                (same, end),
              ),
            ),
          ),
        ),
      ),
    ),
  ),
) =
    let w : Within room 8 x = h 1 inside m5 m6 x is in
    subst (InRoom room 8) same (w.0, omega (arith, w.1))
in_prefixed room inner inside tighter h p tokens rest t (at, m1, place, inr (e, inr (f, is))) =
    more room 7 8 t (omega arith) (p m1 rest t is)

in_operand : (room m level : ℕ) (tighter : Rule Tree) → Derived tighter (InRoom room m) →
    Derived (operand level tighter) (InRoom room m)
unfolding operand
in_operand room m level tighter p tokens rest t (at, m1, place, (op, m2, mark, (x, m3, is, (same, end)))) =
    let w : InRoom room m x = p m2 m3 x is in
    subst (InRoom room m) same (w.0, w.1)

in_operand_links : (room m level : ℕ) (inside : Bool) (tighter : Rule Tree) → Derived tighter (InRoom room m)
    → (tokens rest : List Token) (ts : List Tree) → (operand_links level inside tighter).holds ts tokens rest →
    Each (InRoom room m) ts
unfolding operand_links
in_operand_links room m level inside tighter p tokens rest ts are =
    each_of_many (InRoom room m) (next_operand inside level) (operand level tighter).holds
    (λ a from to x. in_operand room m level tighter p from to a x) ts tokens rest are

in_operands : (room m level : ℕ) (inside : Bool) (tighter : Rule Tree) → Derived tighter (InRoom room m)
    → Derived (operands level inside tighter) (InRoom room (suc m))
unfolding operands
in_operands room m level inside tighter p tokens rest t (
  at,
  m1,
  place,
  (
    first,
    m2,
    is,
    (
      links,
      m3,
      are,
      (same, end),
    ),
  ),
) =
    subst (InRoom room (suc m)) same (chain_in_room room m at first links (p m1 m2 first is)
    (in_operand_links room m level inside tighter p m2 m3 links are))

in_conditional : (room : ℕ) (inner : Inner) (inside : Bool) (tighter : Rule Tree) → Inside room inner →
    Derived tighter (InRoom room 18)
    → Derived (conditional inner inside tighter) (InRoom room 21)
unfolding conditional
in_conditional room inner inside tighter h p tokens rest t (
  at,
  m1,
  place,
  (
    first,
    m2,
    is,
    inl (
      e,
      (
        u,
        m3,
        ask,
        (
          second,
          m4,
          x,
          (
            v,
            m5,
            colon,
            (
              third,
              m6,
              y,
              (same, end),
            ),
          ),
        ),
      ),
    ),
  ),
) =
    let a : InRoom room 18 first = p m1 m2 first is in
    let b : Within room 22 second = h 13 inside m3 m4 second x in
    let c : Within room 21 third = h 12 inside m5 m6 third y in
    subst (InRoom room 21) same (omega (arith, a.0, b.0, c.0), omega (arith, a.1, b.1, c.1))
in_conditional room inner inside tighter h p tokens rest t (at, m1, place, (first, m2, is, inr (e, (same, end)))) =
    subst (InRoom room 21) same (more room 18 21 first (omega arith) (p m1 m2 first is))

in_assigned : (room : ℕ) (inner : Inner) (inside : Bool) (tighter : Rule Tree) → Inside room inner →
    Derived tighter (InRoom room 21)
    → Derived (assigned inner inside tighter) (InRoom room 22)
unfolding assigned
in_assigned room inner inside tighter h p tokens rest t
    (at, m1, place, (target, m2, is, inl (e, (op, m3, mark, (value, m4, x, (same, end)))))) =
    let a : InRoom room 21 target = p m1 m2 target is in
    let b : Within room 22 value = h 13 inside m3 m4 value x in
    subst (InRoom room 22) same (omega (arith, a.0, b.0), omega (arith, a.1, b.1))
in_assigned room inner inside tighter h p tokens rest t (at, m1, place, (target, m2, is, inr (e, (same, end)))) =
    subst (InRoom room 22) same (more room 21 22 target (omega arith) (p m1 m2 target is))

-- each level of the operators makes one more
one_more : (level : ℕ) → suc (own level) ≤ own (suc level)
one_more level = at (nat_lt level 12) (nat_lt (suc level) 12) (λ e f. grind (arith, e, f))
  where
    at : (a b : Bool) → (a ≡ false → b ≡ true → ⊥) → suc (if a then level + 7
        else level + 9) ≤ (if b then suc level + 7 else suc level + 9)
    at true true h = omega arith
    at true false h = omega arith
    at false true h = absurd (h refl refl)
    at false false h = omega arith

in_level : (room : ℕ) (inner : Inner) (level : ℕ) (inside : Bool) (tighter : Rule Tree) → Inside room inner
    → Derived tighter (InRoom room (own level)) → Derived (of_level inner (suc level) inside tighter) (InRoom room (own
    (suc level)))
in_level room inner level inside tighter h p tokens rest t (inl (e, is)) =
    let q : level ≡ 12 = let q : suc level ≡ 13 = level_is (suc level) 13 e in omega (arith, q) in
    let r : Derived tighter (InRoom room 21) = subst (λ n. Derived tighter (InRoom room (own n))) q p in
    let s : InRoom room 22 t = in_assigned room inner inside tighter h r tokens rest t is in
    rw q s
in_level room inner level inside tighter h p tokens rest t (inr (d, inl (e, is))) =
    let q : level ≡ 11 = let q : suc level ≡ 12 = level_is (suc level) 12 e in omega (arith, q) in
    let r : Derived tighter (InRoom room 18) = subst (λ n. Derived tighter (InRoom room (own n))) q p in
    let s : InRoom room 21 t = in_conditional room inner inside tighter h r tokens rest t is in
    rw q s
in_level room inner level inside tighter h p tokens rest t (inr (d, inr (f, inl (e, is)))) =
    let q : level ≡ 0 = let q : suc level ≡ 1 = level_is (suc level) 1 e in omega (arith, q) in
    let r : Derived tighter (InRoom room 7) = subst (λ n. Derived tighter (InRoom room (own n))) q p in
    let s : InRoom room 8 t = in_prefixed room inner inside tighter h r tokens rest t is in
    rw q s
in_level room inner level inside tighter h p tokens rest t (inr (d, inr (f, inr (g, is)))) =
    more room (suc (own level)) (own (suc level)) t (one_more level) (in_operands room (own level)
    (suc level) inside tighter p tokens rest t is)

pub in_expression : (room : ℕ) (inner : Inner) → Inside room inner → (level : ℕ) (inside : Bool)
    → Derived (expression_in inner level inside) (InRoom room (own level))
unfolding expression_in
in_expression room inner h zero inside tokens rest t is = in_postfix room inner inside h tokens rest t is
in_expression room inner h (suc level) inside tokens rest t is =
    in_level room inner level inside (expression_in inner level inside) h
    (in_expression room inner h level inside) tokens rest t is

pub inside_deeper : (room : ℕ) → Inside room (deeper room)
unfolding deeper
inside_deeper zero level inside tokens rest t is = absurd is
inside_deeper (suc room) level inside tokens rest t is =
    let r : InRoom room (own level) t = in_expression room (deeper room)
    (inside_deeper room) level inside tokens rest t is in
    (omega (arith, r.0), omega (arith, r.1))
