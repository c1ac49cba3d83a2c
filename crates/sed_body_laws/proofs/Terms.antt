-- Terms: how deep and how high they are, with what an int may still gain.
use Rattle.std.proofs.Common.{◌≡◌, ◌≤◌, ℕ, suc, ◌+◌, max, Bool, true, false, if◌then◌else◌, refl, arith}
use Rattle.sed_typed.specs.declared.kind.Kind.TheVariants as kind
use Rattle.sed_terms.specs.declared.sign.Sign.TheVariants as sign
use Rattle.sed_terms.specs.declared.sort.Sort.{Sort}
use Rattle.sed_terms.specs.declared.sort.Sort.TheVariants.{Of}
use Rattle.sed_terms.specs.Forms.{is_alone}
use Rattle.sed_terms.specs.Sorts.{term_kind, sort_of}
use Rattle.sed_terms.specs.Term.{Term, Absent, Node}
use Rattle.sed_terms.specs.TermDepth.{term_depth}
use Rattle.sed_body_laws.specs.TermHeight.{is_link, is_row, own_level, run_level, term_height, run_height}

levels_near : (link own : Bool) → (if link then 0 else (if own then 0 else 1)) ≤ (if own then 0 else 1)
levels_near true true = omega arith
levels_near true false = omega arith
levels_near false true = omega arith
levels_near false false = omega arith

levels_nearer : (link own : Bool) → (if own then 0 else 1) ≤ suc (if link then 0 else (if own then 0 else 1))
levels_nearer true true = omega arith
levels_nearer true false = omega arith
levels_nearer false true = omega arith
levels_nearer false false = omega arith

-- a run and one level more
pub run_below : (t : Term) → run_height t ≤ term_height t
run_below Absent = omega arith
run_below (Node s a b) =
    let l : run_level s ≤ own_level s = levels_near (is_link s) (is_row s) in
    omega (arith, l)

pub run_near : (t : Term) → term_height t ≤ suc (run_height t)
run_near Absent = omega arith
run_near (Node s a b) =
    let l : own_level s ≤ suc (run_level s) = levels_nearer (is_link s) (is_row s) in
    omega (arith, l)

-- An int, and what a link makes one, may become a long, which makes two levels more of a run. A long and a bool stay.
abbrev pub slack : Sort → ℕ
slack (Of kind.Long) = 0
slack (Of kind.Bool) = 0
slack s = 2

pub slack_most : (s : Sort) → slack s ≤ 2
slack_most (Of kind.Long) = omega arith
slack_most (Of kind.Bool) = omega arith
slack_most s = omega arith

pub slack_of_kind : (t : Term) → slack (Of (term_kind t)) ≡ slack (sort_of t)
slack_of_kind (Node sign.After a b) = slack_of_kind b
slack_of_kind t = refl

-- a static through an instance is that instance and what names the static alone
abbrev pub single : Term → Bool
single (Node sign.After a b) = is_alone b
single t = true

pub alone_single : (t : Term) → is_alone t ≡ true → single t ≡ true
alone_single (Node sign.After a b) h = absurd (let k : false ≡ true = h in cc)
alone_single t h = refl

-- how deep it is with what a link behind it keeps: an array and a Buf are no values, and their object is
abbrev pub deep : Term → ℕ
deep (Node (sign.Array p n i) e b) = term_depth e
deep (Node (sign.Buf i) e b) = term_depth e
deep (Node (sign.Bytes i) e b) = term_depth e
deep (Node sign.After e t) = max (term_depth e) (deep t)
deep t = term_depth t

pub deep_above : (t : Term) → term_depth t ≤ deep t
deep_above (Node (sign.Array p n i) e b) = omega arith
deep_above (Node (sign.Buf i) e b) = omega arith
deep_above (Node (sign.Bytes i) e b) = omega arith
deep_above (Node sign.After e t) = let r = deep_above t in omega (arith, r)
deep_above t = omega arith

-- what an expression comes to: so deep and so high
pub record Fits (n h : ℕ) (t : Term) : Type 0 where
  pub depth : term_depth t ≤ n
  pub opened : deep t ≤ n
  pub height : term_height t + slack (sort_of t) ≤ h
  pub single : single t ≡ true
  pub big : 3 ≤ h

-- what the first links of a chain come to
pub record Runs (n h : ℕ) (t : Term) : Type 0 where
  pub depth : term_depth t ≤ n
  pub opened : deep t ≤ n
  pub run : run_height t + slack (sort_of t) ≤ h
  pub single : single t ≡ true
  pub big : 3 ≤ h

-- a row of arguments, each so deep and so high
abbrev pub Rows : ℕ → ℕ → Term → Type 0
Rows n h Absent = Unit {0}
Rows n h (Node sign.More t rest) = (suc (term_depth t) ≤ n) × (term_height t ≤ h) × Rows n h rest
Rows n h t = ⊥

pub rows_are : (n h : ℕ) (t : Term) → Rows n h t → (term_depth t ≤ n) × (term_height t ≤ h)
rows_are n h Absent r = (omega arith, omega arith)
rows_are n h (Node sign.More t rest) r = let q = rows_are n h rest r.2 in (
  omega (arith, r.0, q.0),
  omega
      (arith, r.1, q.1),
)
rows_are n h t r = absurd r

pub fits_runs : (n h : ℕ) (t : Term) → Fits n h t → Runs n h t
fits_runs n h t f = let r = run_below t in record {
  depth = f.depth;
  opened = f.opened;
  run = omega
      (arith, f.height, r);
  single = f.single;
  big = f.big;
}

pub runs_fit : (n h : ℕ) (t : Term) → Runs n h t → Fits n (suc h) t
runs_fit n h t f = let r = run_near t in record {
  depth = f.depth;
  opened = f.opened;
  height = omega
      (arith, f.run, r);
  single = f.single;
  big = omega (arith, f.big);
}

pub fits_more : (n m h k : ℕ) (t : Term) → n ≤ m → h ≤ k → Fits n h t → Fits m k t
fits_more n m h k t p q f = record {
  depth = omega (arith, f.depth, p);
  opened = omega
      (arith, f.opened, p);
  height = omega (arith, f.height, q);
  single = f.single;
  big = omega (arith, f.big, q);
}

pub runs_more : (n m h k : ℕ) (t : Term) → n ≤ m → h ≤ k → Runs n h t → Runs m k t
runs_more n m h k t p q f = record {
  depth = omega (arith, f.depth, p);
  opened = omega
      (arith, f.opened, p);
  run = omega (arith, f.run, q);
  single = f.single;
  big = omega (arith, f.big, q);
}
