-- What keeps the shape of a tree: another order of children, one more, and what stands below one taken away.
use Rattle.std.proofs.Common.{ℕ, zero, suc, ◌+◌, ◌<◌, ◌≤◌, ◌≡◌, ◌≢◌, ◌⊎◌, inl, inr, Bool, true, false, not, cond, IsTrue, List, [], ◌∷◌, ◌++◌, length, refl, sym, ◌∙◌, ap, subst, arith}
use Rattle.std.specs.Prelude.{Option, Some, None, nat_eq, ◌==◌, ◌&&◌, count_by, filter}
use Rattle.std.specs.List.{IsDistinct, list_all}
use Rattle.std.specs.Option.{option_and_then}
use Rattle.std.proofs.lemmas.Bool.{cases_eq}
use Rattle.std.proofs.lemmas.Bool.Decides.{nat_tests}
use Rattle.std.proofs.lemmas.List.Sums.{sum_by-cons}
use Rattle.comp_tree.specs.Shape.{IsTree, down_by, up_by}
use Rattle.comp_tree.proofs.ShapeLemmas.{In, Once, below_up, child_in, in_cases, in_child, in_from, in_left, in_right, in_to, once_append, once_from, once_to, up_below, up_more, up_once}

-- ---- more on steps up

module _ (live : ℕ → Bool) (parent : ℕ → Option ℕ) (children : ℕ → List ℕ) (tree : IsTree live parent children) where
  -- what comes up to the App is live
  pub rooted_live : (n id : ℕ) → up_by parent n id ≡ Some 0 → IsTrue (live id)
  rooted_live zero id e = let same : id ≡ 0 = cc in ap live same ∙ tree.app
  rooted_live (suc n) id e = at (parent id) refl e
    where
      at : (r : Option ℕ) → parent id ≡ r → option_and_then (up_by parent n) r ≡ Some 0 → IsTrue (live id)
      at None is e = absurd (let no = e in cc)
      at (Some above) is e = tree.known id above is

  -- so many steps from one's parent
  pub from_parent : (id above : ℕ) → parent id ≡ Some above → (n : ℕ) × (suc n ≤ 16) × (up_by parent n above ≡ Some 0)
  from_parent id above is = let w = tree.within id (tree.known id above is) in go w.0 w.1 w.2
    where
      go : (n : ℕ) → n ≤ 16 → up_by parent n id ≡ Some 0 → (k : ℕ) × (suc k ≤ 16) × (up_by parent k above ≡ Some 0)
      go zero le e =
          let same : id ≡ 0 = cc in
          absurd (let no : ◌≡◌ {A = Option ℕ} None (Some above) = sym tree.root ∙ ap parent (sym same) ∙ is in cc)
      go (suc n) le e = (n, le, sym (ap (option_and_then (up_by parent n)) is) ∙ e)

  pub parent_live : (id above : ℕ) → parent id ≡ Some above → IsTrue (live above)
  parent_live id above is = let w = from_parent id above is in rooted_live w.0 above w.2

-- ---- another order

-- how often a number stands in a list
times : ℕ → List ℕ → ℕ
times x xs = count_by (λ y. y == x) xs

times_next : (x y : ℕ) (ys : List ℕ) → times x (y ∷ ys) ≡ cond (y == x) 1 0 + times x ys
unfolding times
times_next x y ys = sum_by-cons (λ z. cond (z == x) 1 0) y ys

never_in : (x : ℕ) (xs : List ℕ) → times x xs ≡ 0 → In x xs → ⊥
never_in x [] e never = never
never_in x (y ∷ xs) e (inl same) =
    let one : (y == x) ≡ true = grind (arith, nat_tests) in
    let count : times x (y ∷ xs) ≡ 1 + times x xs = times_next x y xs ∙ ap (λ b. cond b 1 0 + times x xs) one in
    omega arith
never_in x (y ∷ xs) e (inr h) =
    let count = times_next x y xs in
    never_in x xs (omega arith) h

-- a list in which a number stands once, parted there
record Parted (x : ℕ) (xs : List ℕ) : Type 0 where
  before : List ℕ
  behind : List ℕ
  is : xs ≡ before ++ x ∷ behind
  out : In x (before ++ behind) → ⊥

parted : (x : ℕ) (xs : List ℕ) → times x xs ≡ 1 → Parted x xs
unfolding times
parted x [] e = absurd (let no : 0 ≡ 1 = e in omega arith)
parted x (y ∷ xs) e = elim (cases_eq y x) [
  | inl same ↦
      let one : (y == x) ≡ true = grind (arith, nat_tests) in
      let count : times x (y ∷ xs) ≡ 1 + times x xs = times_next x y xs ∙ ap (λ b. cond b 1 0 + times x xs) one in
      record { before = []; behind = xs; is = ap (λ (z : ℕ). z ∷ xs) same; out = λ h. never_in x xs (omega arith) h }
  | inr ne ↦
      let none : (y == x) ≡ false = grind (arith, nat_tests) in
      let count : times x (y ∷ xs) ≡ 0 + times x xs = times_next x y xs ∙ ap (λ b. cond b 1 0 + times x xs) none in
      let r = parted x xs (omega arith) in
      record {
        before = y ∷ r.before;
        behind = r.behind;
        is = ap (λ (zs : List ℕ). y ∷ zs) r.is;
        out = λ h. elim h [ inl same ↦ ne (sym same) | inr later ↦ r.out later ];
      }
]

times_append : (x : ℕ) (xs ys : List ℕ) → times x (xs ++ ys) ≡ times x xs + times x ys
unfolding times
times_append x [] ys = omega arith
times_append x (y ∷ xs) ys = times_next x y (xs ++ ys) ∙ (let rest = times_append x xs ys in let here = times_next x y xs in omega arith)

times_other : (x y : ℕ) (before behind : List ℕ) → y ≢ x → times x (before ++ y ∷ behind) ≡ times x (before ++ behind)
times_other x y before behind ne =
    let none : (y == x) ≡ false = grind (arith, nat_tests) in
    let count : times x (y ∷ behind) ≡ 0 + times x behind = times_next x y behind ∙ ap (λ b. cond b 1 0 + times x behind) none in
    times_append x before (y ∷ behind) ∙ (let other = times_append x before behind in omega arith)

length_parted : (x : ℕ) (before behind : List ℕ) → length (before ++ x ∷ behind) ≡ suc (length (before ++ behind))
length_parted x [] behind = omega arith
length_parted x (y ∷ before) behind = let rest = length_parted x before behind in omega arith

once_put : (x : ℕ) (before behind : List ℕ) → Once (before ++ behind) → (In x (before ++ behind) → ⊥) → Once (before ++ x ∷ behind)
once_put x [] behind once out = (out, once)
once_put x (y ∷ before) behind once out = (
  λ h. elim (in_cases y before (x ∷ behind) h) [
    | inl l ↦ once.0 (in_left y before behind l)
    | inr r ↦ elim r [ inl same ↦ out (inl (sym same)) | inr later ↦ once.0 (in_right y before behind later) ]
  ],
  once_put x before behind once.1 (λ h. out (inr h)),
)

in_put : (x z : ℕ) (before behind : List ℕ) → In z (before ++ x ∷ behind) → (z ≡ x) ⊎ In z (before ++ behind)
in_put x z before behind h = elim (in_cases z before (x ∷ behind) h) [
  | inl l ↦ inr (in_left z before behind l)
  | inr r ↦ elim r [ inl same ↦ inl same | inr later ↦ inr (in_right z before behind later) ]
]

put_in : (x z : ℕ) (before behind : List ℕ) → (z ≡ x) ⊎ In z (before ++ behind) → In z (before ++ x ∷ behind)
put_in x z before behind (inl same) = in_right z before (x ∷ behind) (inl same)
put_in x z before behind (inr h) = elim (in_cases z before behind h) [
  | inl l ↦ in_left z before (x ∷ behind) l
  | inr r ↦ in_right z before (x ∷ behind) (inr r)
]

-- another order of the same
pub record Reordered (olds news : List ℕ) : Type 0 where
  pub once : Once news
  pub old : (x : ℕ) → In x olds → In x news
  pub new : (x : ℕ) → In x news → In x olds

reordered_by : (olds news : List ℕ) → Once olds → length news ≡ length olds → ((x : ℕ) → In x olds → times x news ≡ 1) → Reordered olds news
reordered_by [] [] once long each = record { once = tt; old = λ x h. h; new = λ x h. h }
reordered_by [] (y ∷ news) once long each = absurd (omega arith)
reordered_by (x ∷ olds) news once long each =
    let p = parted x news (each x (inl refl)) in
    let size : length news ≡ suc (length (p.before ++ p.behind)) = ap length p.is ∙ length_parted x p.before p.behind in
    let rest : Reordered olds (p.before ++ p.behind) =
    reordered_by olds (p.before ++ p.behind) once.1 (omega arith) (λ z h.
    let ne : x ≢ z = λ same. once.0 (subst (λ (k : ℕ). In k olds) (sym same) h) in
    sym (times_other z x p.before p.behind ne) ∙ ap (times z) (sym p.is) ∙ each z (inr h))
    in
    record {
      once = subst Once (sym p.is) (once_put x p.before p.behind rest.once p.out);
      old = λ z h. subst (In z) (sym p.is) (put_in x z p.before p.behind (elim h [ inl same ↦ inl same | inr later ↦ inr (rest.old z later) ]));
      new = λ z h. elim (in_put x z p.before p.behind (subst (In z) p.is h)) [ inl same ↦ inl same | inr later ↦ inr (rest.new z later) ];
    }

counted_each : (news olds : List ℕ) → list_all (λ child. count_by (λ id. id == child) news == 1) olds ≡ true → (x : ℕ) → In x olds → times x news ≡ 1
unfolding times
counted_each news [] all x never = absurd never
counted_each news (y ∷ olds) all x (inl same) =
    let one : (count_by (λ id. id == y) news == 1) ≡ true = grind (arith, nat_tests) in
    let is : count_by (λ id. id == y) news ≡ 1 = grind (arith, nat_tests) in
    ap (λ (k : ℕ). count_by (λ id. id == k) news) same ∙ is
counted_each news (y ∷ olds) all x (inr h) =
    let rest : list_all (λ child. count_by (λ id. id == child) news == 1) olds ≡ true = grind (arith, nat_tests) in
    counted_each news olds rest x h

-- each of these once, and as many
pub reordered : (olds news : List ℕ) → Once olds → ((length news == length olds) && list_all (λ child. count_by (λ id. id == child) news == 1) olds) ≡ true → Reordered olds news
reordered olds news once all =
    let long : length news ≡ length olds = grind (arith, nat_tests) in
    let each : list_all (λ child. count_by (λ id. id == child) news == 1) olds ≡ true = grind (arith, nat_tests) in
    reordered_by olds news once long (counted_each news olds each)

-- ---- what keeps a tree

module _ (live : ℕ → Bool) (parent : ℕ → Option ℕ) (children : ℕ → List ℕ) (tree : IsTree live parent children) where
  -- the children of one in another order
  module _ (children' : ℕ → List ℕ) (at : ℕ) (again : Reordered (children at) (children' at)) (others : (x : ℕ) → x ≢ at → children' x ≡ children x) where
    old_in : (x above : ℕ) → In x (children above) → In x (children' above)
    old_in x above h = elim (cases_eq above at) [
      | inl same ↦ subst (λ (k : ℕ). In x (children' k)) (sym same) (again.old x (subst (λ (k : ℕ). In x (children k)) same h))
      | inr ne ↦ subst (In x) (sym (others above ne)) h
    ]

    new_in : (x above : ℕ) → In x (children' above) → In x (children above)
    new_in x above h = elim (cases_eq above at) [
      | inl same ↦ subst (λ (k : ℕ). In x (children k)) (sym same) (again.new x (subst (λ (k : ℕ). In x (children' k)) same h))
      | inr ne ↦ subst (In x) (others above ne) h
    ]

    pub tree_reordered : IsTree live parent children'
    tree_reordered = record {
      app = tree.app;
      root = tree.root;
      up = λ x above e. in_to (children' above) x (old_in x above (child_in live parent children tree x above e));
      down = λ x above h. in_child live parent children tree x above (new_in x above (in_from (children' above) x h));
      once = λ above. elim (cases_eq above at) [
        | inl same ↦ subst (λ (k : ℕ). IsDistinct nat_eq (children' k)) (sym same) (once_to (children' at) again.once)
        | inr ne ↦ subst (IsDistinct nat_eq) (sym (others above ne)) (tree.once above)
      ];
      known = tree.known;
      within = tree.within;
    }

  -- one more, the last child of its parent
  module _ (live' : ℕ → Bool) (parent' : ℕ → Option ℕ) (children' : ℕ → List ℕ) (new at : ℕ) (free : live new ≡ false)
      (steps : ℕ) (few : suc steps ≤ 16) (rooted : up_by parent steps at ≡ Some 0)
      (live_new : live' new ≡ true) (live_others : (x : ℕ) → x ≢ new → live' x ≡ live x)
      (parent_new : parent' new ≡ Some at) (parent_others : (x : ℕ) → x ≢ new → parent' x ≡ parent x)
      (children_at : children' at ≡ children at ++ new ∷ []) (children_new : children' new ≡ []) (children_others : (x : ℕ) → x ≢ at → x ≢ new → children' x ≡ children x) where
    old_apart : (x : ℕ) → IsTrue (live x) → x ≢ new
    old_apart x is same = let no : true ≡ false = sym is ∙ ap live same ∙ free in cc

    new_out : (above : ℕ) → In new (children above) → ⊥
    new_out above h = old_apart new (tree.known new above (in_child live parent children tree new above h)) refl

    steps_kept : (n x : ℕ) → up_by parent n x ≡ Some 0 → up_by parent' n x ≡ Some 0
    steps_kept zero x e = e
    steps_kept (suc n) x e = go (λ y. steps_kept n y) (parent x) refl e
      where
        go : ((y : ℕ) → up_by parent n y ≡ Some 0 → up_by parent' n y ≡ Some 0) → (r : Option ℕ) → parent x ≡ r → option_and_then (up_by parent n) r ≡ Some 0 → up_by parent' (suc n) x ≡ Some 0
        go more None is e = absurd (let no = e in cc)
        go more (Some y) is e =
            ap (option_and_then (up_by parent' n)) (parent_others x (old_apart x (tree.known x y is)) ∙ is) ∙ more y e

    in_new : (x above : ℕ) → In x (children above) → In x (children' above)
    in_new x above h = elim (cases_eq above at) [
      | inl same ↦ subst (λ (k : ℕ). In x (children' k)) (sym same) (subst (In x) (sym children_at) (in_left x (children at) (new ∷ []) (subst (λ (k : ℕ). In x (children k)) same h)))
      | inr ne ↦ subst (In x) (sym (children_others above ne (old_apart above (parent_live live parent children tree x above (in_child live parent children tree x above h))))) h
    ]

    in_old : (x above : ℕ) → In x (children' above) → ((x ≡ new) × (above ≡ at)) ⊎ In x (children above)
    in_old x above h = elim (cases_eq above at) [
      | inl same ↦ elim (in_cases x (children at) (new ∷ []) (subst (In x) children_at (subst (λ (k : ℕ). In x (children' k)) same h))) [
        | inl l ↦ inr (subst (λ (k : ℕ). In x (children k)) (sym same) l)
        | inr r ↦ elim r [ inl is ↦ inl (is, same) | inr never ↦ absurd never ]
      ]
      | inr ne ↦ elim (cases_eq above new) [
        | inl is ↦ absurd (subst (In x) (ap children' is ∙ children_new) h)
        | inr apart ↦ inr (subst (In x) (children_others above ne apart) h)
      ]
    ]

    pub tree_more : IsTree live' parent' children'
    tree_more = record {
      app = live_others 0 (old_apart 0 tree.app) ∙ tree.app;
      root = parent_others 0 (old_apart 0 tree.app) ∙ tree.root;
      up = λ x above e. elim (cases_eq x new) [
        | inl same ↦
            let is : at ≡ above = let both : ◌≡◌ {A = Option ℕ} (Some at) (Some above) = sym parent_new ∙ ap parent' (sym same) ∙ e in cc in
            in_to (children' above) x (subst (λ (k : ℕ). In x (children' k)) is (subst (In x) (sym children_at) (in_right x (children at) (new ∷ []) (inl same))))
        | inr ne ↦ in_to (children' above) x (in_new x above (child_in live parent children tree x above (sym (parent_others x ne) ∙ e)))
      ];
      down = λ x above h. elim (in_old x above (in_from (children' above) x h)) [
        | inl is ↦ ap parent' is.0 ∙ parent_new ∙ ap Some (sym is.1)
        | inr old ↦ let e = in_child live parent children tree x above old in parent_others x (old_apart x (tree.known x above e)) ∙ e
      ];
      once = λ above. elim (cases_eq above at) [
        | inl same ↦ subst (λ (k : ℕ). IsDistinct nat_eq (children' k)) (sym same) (subst (IsDistinct nat_eq) (sym children_at)
            (once_to (children at ++ new ∷ []) (once_append (children at) (new ∷ []) (once_from (children at) (tree.once at)) ((λ never. never), tt)
            (λ x h k. elim k [ inl is ↦ new_out at (subst (λ (z : ℕ). In z (children at)) is h) | inr never ↦ never ]))))
        | inr ne ↦ elim (cases_eq above new) [
          | inl is ↦ subst (IsDistinct nat_eq) (sym (ap children' is ∙ children_new)) (once_to [] tt)
          | inr apart ↦ subst (IsDistinct nat_eq) (sym (children_others above ne apart)) (tree.once above)
        ]
      ];
      known = λ x above e. elim (cases_eq x new) [
        | inl same ↦ ap live' same ∙ live_new
        | inr ne ↦ live_others x ne ∙ tree.known x above (sym (parent_others x ne) ∙ e)
      ];
      within = λ x h. elim (cases_eq x new) [
        | inl same ↦ (suc steps, few, ap (λ (k : ℕ). up_by parent' (suc steps) k) same ∙ ap (option_and_then (up_by parent' steps)) parent_new ∙ steps_kept steps at rooted)
        | inr ne ↦ let w = tree.within x (sym (live_others x ne) ∙ h) in (w.0, w.1, steps_kept w.0 x w.2)
      ];
    }

  -- what stands at and below one that has a parent
  module _ (id at : ℕ) (is_child : parent id ≡ Some at) where
    -- what is below one that goes goes too
    closed : (x y : ℕ) → In x (down_by children 17 id) → parent y ≡ Some x → In y (down_by children 17 id)
    closed x y h e =
        let n = below_up live parent children tree 17 id x h in
        let up : up_by parent (suc n.0) y ≡ Some id = ap (option_and_then (up_by parent n.0)) e ∙ n.2 in
        let w = tree.within y (tree.known y x e) in
        let r = from_parent live parent children tree id at is_child in
        let root : up_by parent (suc r.0) id ≡ Some 0 = ap (option_and_then (up_by parent r.0)) is_child ∙ r.2 in
        let all = up_more parent (suc n.0) (suc r.0) y id 0 up root in
        let same : suc n.0 + suc r.0 ≡ w.0 = up_once parent (suc n.0 + suc r.0) w.0 y tree.root all w.2 in
        let le : w.0 ≤ 16 = w.1 in
        up_below live parent children tree (suc n.0) 17 id y (omega arith) up

    -- what goes is the one or a child of one that goes
    above_gone : (x above : ℕ) → In x (down_by children 17 id) → parent x ≡ Some above → (x ≡ id) ⊎ In above (down_by children 17 id)
    above_gone x above h e = let n = below_up live parent children tree 17 id x h in go n.0 n.1 n.2
      where
        go : (n : ℕ) → n < 17 → up_by parent n x ≡ Some id → (x ≡ id) ⊎ In above (down_by children 17 id)
        go zero lt up = inl (let same : x ≡ id = cc in same)
        go (suc n) lt up = inr (up_below live parent children tree n 17 id above (omega arith) (sym (ap (option_and_then (up_by parent n)) e) ∙ up))

    first_gone : In id (down_by children 17 id)
    first_gone = up_below live parent children tree zero 17 id id (omega arith) refl

    pub at_stays : In at (down_by children 17 id) → ⊥
    at_stays h =
        let n = below_up live parent children tree 17 id at h in
        let up : up_by parent (suc n.0) id ≡ Some id = ap (option_and_then (up_by parent n.0)) is_child ∙ n.2 in
        let r = from_parent live parent children tree id at is_child in
        let root : up_by parent (suc r.0) id ≡ Some 0 = ap (option_and_then (up_by parent r.0)) is_child ∙ r.2 in
        let all = up_more parent (suc n.0) (suc r.0) id id 0 up root in
        let same : suc n.0 + suc r.0 ≡ suc r.0 = up_once parent (suc n.0 + suc r.0) (suc r.0) id tree.root all root in
        omega arith

    root_stays : In 0 (down_by children 17 id) → ⊥
    root_stays h = let n = below_up live parent children tree 17 id 0 h in go n.0 n.2
      where
        go : (n : ℕ) → up_by parent n 0 ≡ Some id → ⊥
        go zero up = let same : 0 ≡ id = cc in let no : ◌≡◌ {A = Option ℕ} None (Some at) = sym tree.root ∙ ap parent same ∙ is_child in cc
        go (suc n) up = let no : ◌≡◌ {A = Option ℕ} None (Some id) = sym (ap (option_and_then (up_by parent n)) tree.root) ∙ up in cc

  -- without one and what stands below it
  module _ (live' : ℕ → Bool) (parent' : ℕ → Option ℕ) (children' : ℕ → List ℕ) (id at : ℕ) (is_child : parent id ≡ Some at)
      (live_gone : (x : ℕ) → In x (down_by children 17 id) → live' x ≡ false) (live_others : (x : ℕ) → (In x (down_by children 17 id) → ⊥) → live' x ≡ live x)
      (parent_gone : (x : ℕ) → In x (down_by children 17 id) → parent' x ≡ None) (parent_others : (x : ℕ) → (In x (down_by children 17 id) → ⊥) → parent' x ≡ parent x)
      (children_gone : (x : ℕ) → In x (down_by children 17 id) → children' x ≡ [])
      (children_at : children' at ≡ filter (λ child. not (child == id)) (children at))
      (children_others : (x : ℕ) → (In x (down_by children 17 id) → ⊥) → x ≢ at → children' x ≡ children x)
      (decide : (x : ℕ) → In x (down_by children 17 id) ⊎ (In x (down_by children 17 id) → ⊥)) where
    filter_in : (x : ℕ) (xs : List ℕ) → In x xs → x ≢ id → In x (filter (λ child. not (child == id)) xs)
    filter_in x [] never ne = absurd never
    filter_in x (y ∷ xs) h ne = kept (y == id) refl h (λ k. filter_in x xs k ne)
      where
        kept : (b : Bool) → (y == id) ≡ b → In x (y ∷ xs) → (In x xs → In x (filter (λ child. not (child == id)) xs)) → In x (cond (not b) (y ∷ filter (λ child. not (child == id)) xs) (filter (λ child. not (child == id)) xs))
        kept true is (inl same) more = absurd (ne (same ∙ (let yes : y ≡ id = grind (arith, nat_tests) in yes)))
        kept true is (inr k) more = more k
        kept false is (inl same) more = inl same
        kept false is (inr k) more = inr (more k)

    in_filter : (x : ℕ) (xs : List ℕ) → In x (filter (λ child. not (child == id)) xs) → In x xs × (x ≢ id)
    in_filter x [] never = absurd never
    in_filter x (y ∷ xs) h = kept (y == id) refl h (in_filter x xs)
      where
        kept : (b : Bool) → (y == id) ≡ b → In x (cond (not b) (y ∷ filter (λ child. not (child == id)) xs) (filter (λ child. not (child == id)) xs))
            → (In x (filter (λ child. not (child == id)) xs) → In x xs × (x ≢ id)) → In x (y ∷ xs) × (x ≢ id)
        kept true is k more = let r = more k in (inr r.0, r.1)
        kept false is (inl same) more = (inl same, λ e. let yes : (y == id) ≡ true = grind (arith, nat_tests) in let no : true ≡ false = sym yes ∙ is in cc)
        kept false is (inr k) more = let r = more k in (inr r.0, r.1)

    once_filter : (xs : List ℕ) → Once xs → Once (filter (λ child. not (child == id)) xs)
    once_filter [] once = tt
    once_filter (y ∷ xs) once = kept (y == id) (once_filter xs once.1) (λ h. once.0 (in_filter y xs h).0)
      where
        kept : (b : Bool) → Once (filter (λ child. not (child == id)) xs) → (In y (filter (λ child. not (child == id)) xs) → ⊥) → Once (cond (not b) (y ∷ filter (λ child. not (child == id)) xs) (filter (λ child. not (child == id)) xs))
        kept true rest out = rest
        kept false rest out = (out, rest)

    -- a child that stays
    in_stays : (x above : ℕ) → In x (children above) → (In x (down_by children 17 id) → ⊥) → In x (children' above)
    in_stays x above h stays =
        let e = in_child live parent children tree x above h in
        let above_stays : In above (down_by children 17 id) → ⊥ = λ gone. stays (closed id at is_child above x gone e) in
        elim (cases_eq above at) [
          | inl same ↦
              let ne : x ≢ id = λ is. stays (subst (λ (k : ℕ). In k (down_by children 17 id)) (sym is) (first_gone id at is_child)) in
              subst (λ (k : ℕ). In x (children' k)) (sym same) (subst (In x) (sym children_at) (filter_in x (children at) (subst (λ (k : ℕ). In x (children k)) same h) ne))
          | inr ne ↦ subst (In x) (sym (children_others above above_stays ne)) h
        ]

    stays_in : (x above : ℕ) → In x (children' above) → In x (children above) × (In x (down_by children 17 id) → ⊥)
    stays_in x above h = elim (decide above) [
      | inl gone ↦ absurd (subst (In x) (children_gone above gone) h)
      | inr above_stays ↦ elim (cases_eq above at) [
        | inl same ↦
            let r = in_filter x (children at) (subst (In x) children_at (subst (λ (k : ℕ). In x (children' k)) same h)) in
            let old : In x (children above) = subst (λ (k : ℕ). In x (children k)) (sym same) r.0 in
            (old, λ gone. elim (above_gone id at is_child x above gone (in_child live parent children tree x above old)) [ inl is ↦ r.1 is | inr up ↦ above_stays up ])
        | inr ne ↦
            let old : In x (children above) = subst (In x) (children_others above above_stays ne) h in
            let e = in_child live parent children tree x above old in (
              old,
              λ gone. elim (above_gone id at is_child x above gone e) [
                | inl is ↦ ne (let both : ◌≡◌ {A = Option ℕ} (Some above) (Some at) = sym e ∙ ap parent is ∙ is_child in cc)
                | inr up ↦ above_stays up
              ],
            )
      ]
    ]

    steps_stay : (n x : ℕ) → (In x (down_by children 17 id) → ⊥) → up_by parent n x ≡ Some 0 → up_by parent' n x ≡ Some 0
    steps_stay zero x stays e = e
    steps_stay (suc n) x stays e = go (λ y. steps_stay n y) (parent x) refl e
      where
        go : ((y : ℕ) → (In y (down_by children 17 id) → ⊥) → up_by parent n y ≡ Some 0 → up_by parent' n y ≡ Some 0)
            → (r : Option ℕ) → parent x ≡ r → option_and_then (up_by parent n) r ≡ Some 0 → up_by parent' (suc n) x ≡ Some 0
        go more None is e = absurd (let no = e in cc)
        go more (Some y) is e = ap (option_and_then (up_by parent' n)) (parent_others x stays ∙ is) ∙ more y (λ gone. stays (closed id at is_child y x gone is)) e

    pub tree_less : IsTree live' parent' children'
    tree_less = record {
      app = live_others 0 (root_stays id at is_child) ∙ tree.app;
      root = parent_others 0 (root_stays id at is_child) ∙ tree.root;
      up = λ x above e. elim (decide x) [
        | inl gone ↦ absurd (let no : ◌≡◌ {A = Option ℕ} None (Some above) = sym (parent_gone x gone) ∙ e in cc)
        | inr stays ↦ in_to (children' above) x (in_stays x above (child_in live parent children tree x above (sym (parent_others x stays) ∙ e)) stays)
      ];
      down = λ x above h. let r = stays_in x above (in_from (children' above) x h) in parent_others x r.1 ∙ in_child live parent children tree x above r.0;
      once = λ above. elim (decide above) [
        | inl gone ↦ subst (IsDistinct nat_eq) (sym (children_gone above gone)) (once_to [] tt)
        | inr stays ↦ elim (cases_eq above at) [
          | inl same ↦ subst (λ (k : ℕ). IsDistinct nat_eq (children' k)) (sym same) (subst (IsDistinct nat_eq) (sym children_at)
              (once_to (filter (λ child. not (child == id)) (children at)) (once_filter (children at) (once_from (children at) (tree.once at)))))
          | inr ne ↦ subst (IsDistinct nat_eq) (sym (children_others above stays ne)) (tree.once above)
        ]
      ];
      known = λ x above e. elim (decide x) [
        | inl gone ↦ absurd (let no : ◌≡◌ {A = Option ℕ} None (Some above) = sym (parent_gone x gone) ∙ e in cc)
        | inr stays ↦ live_others x stays ∙ tree.known x above (sym (parent_others x stays) ∙ e)
      ];
      within = λ x h. elim (decide x) [
        | inl gone ↦ absurd (let no : false ≡ true = sym (live_gone x gone) ∙ h in cc)
        | inr stays ↦ let w = tree.within x (sym (live_others x stays) ∙ h) in (w.0, w.1, steps_stay w.0 x stays w.2)
      ];
    }
