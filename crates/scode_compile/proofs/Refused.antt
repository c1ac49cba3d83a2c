-- Programs with the same methods, wherever their bodies lie, have methods of the same sizes, and so the same first one
-- that is too long.
use Rattle.std.proofs.Common.{◌≡◌, ◌∙◌, ℕ, ◌+◌, ◌<◌, ◌≤◌, Bool, List, length, map, take, min, Option, Some, None, inl, inr, ap, refl, sym, subst, arith}
use Rattle.std.specs.Prelude.{All, slice_get, false, ◌⊎◌}
use Rattle.std.proofs.Math.Seq.{take-length}
use Rattle.std.proofs.lemmas.List.{get_or-take, length-take}
use Rattle.sed_value.proofs.Options.{some_and}
use Rattle.std.specs.Option.{option_map, option_map_or}
use Rattle.std.proofs.lemmas.Bool.{cases_lt}
use Rattle.std.proofs.lemmas.Option.{slice_get-map, slice_get_within, get_or_from_slice_get}
use Rattle.sed_typed.specs.declared.kind.Kind.{Kind}
use Rattle.sed_typed.specs.declared.program.Method.{Method}
use Rattle.sed_typed.specs.declared.program.Program.{Program}
use Rattle.sed_typed.specs.declared.statement.Stmt.{Stmt}
use Rattle.sed_typed.specs.Bare.{BareStmt, bare_stmt}
use Rattle.scode_emit.specs.Method.{site_of, size_of}
use Rattle.scode_emit.specs.Site.{Site, is_virtual}
use Rattle.scode_emit.specs.Sizes.{body_size, end_size}
use Rattle.scode_gen.specs.Generated.{IsFirstTooLong, IsShort, image_layout}
use Rattle.scode_compile.specs.Alike.{HaveSameMethods}
use Rattle.scode_compile.proofs.BareSizes.{stmt_alike}

-- what a list has at a place, as another list has it there
at_place : {A B : Type 0} (f : A → B) (xs ys : List A) (k : ℕ) → map f xs ≡ map f ys → option_map f (slice_get xs k) ≡ option_map f (slice_get ys k)
at_place f xs ys k same = sym (slice_get-map f xs k) ∙ ap (λ zs. slice_get zs k) same ∙ slice_get-map f ys k

some_eq : {A : Type 0} (x y : A) → ◌≡◌ {A = Option A} (Some x) (Some y) → x ≡ y
some_eq x y same = cc

some_none : {A : Type 0} (x : A) → ◌≡◌ {A = Option A} (Some x) None → ⊥
some_none x same = cc

is_some : {A B : Type 0} (f : A → B) (x : A) (o : Option A) → Some (f x) ≡ option_map f o → (y : A) × (◌≡◌ {A = Option A} o (Some y)) × (f x ≡ f y)
is_some f x None same = absurd (some_none (f x) same)
is_some f x (Some y) same = (y, refl, some_eq (f x) (f y) same)

body_alike : (w v : Site) (k : Kind) (a b : Option Stmt) → ((m : ℕ) → is_virtual w m ≡ is_virtual v m) → option_map bare_stmt a ≡ option_map bare_stmt b → body_size w k a ≡ body_size v k b
body_alike w v k None None virtual same = refl
body_alike w v k (Some s) (Some t) virtual same = λ i. stmt_alike w v s t virtual (some_eq (bare_stmt s) (bare_stmt t) same) i + end_size k
body_alike w v k None (Some t) virtual same = absurd (some_none (bare_stmt t) (sym same))
body_alike w v k (Some s) None virtual same = absurd (some_none (bare_stmt s) same)

mapped_or : (o : Option Method) → option_map_or (λ (x : Method). x.is_virtual) o false ≡ option_map_or (λ (b : Bool). b) (option_map (λ (x : Method). x.is_virtual) o) false
mapped_or None = refl
mapped_or (Some m) = refl

-- what is short among the first ones is so at each of their places
short_at : (P : Method → Type 0) (xs : List Method) (n m : ℕ) (b : Method) → All P (take m xs) → n < m → slice_get xs n ≡ Some b → P b
short_at P xs n m b each before at =
    let within : n < length xs = slice_get_within xs n b at in
    let many : length (take m xs) ≡ min m (length xs) = length-take m xs in
    subst P (get_or-take m xs n b before ∙ get_or_from_slice_get xs n b b at) (each n b (omega (arith, many, within, before)))

module _ (p q : Program) (same : HaveSameMethods p q) where
  virtual_alike : (a b : Method) (m : ℕ) → is_virtual (site_of p (image_layout p) a) m ≡ is_virtual (site_of q (image_layout q) b) m
  virtual_alike a b m =
      mapped_or (slice_get p.methods m)
      ∙ ap (λ (o : Option Bool). option_map_or (λ (b : Bool). b) o false) (at_place (λ (x : Method). x.is_virtual) p.methods q.methods m same.virtual)
      ∙ sym (mapped_or (slice_get q.methods m))

  -- the method at a place of one is at that place of the other, and has the same size
  there_too : (k : ℕ) (a : Method) → slice_get p.methods k ≡ Some a
      → (b : Method) × (slice_get q.methods k ≡ Some b) × (size_of p (image_layout p) a ≡ size_of q (image_layout q) b)
  there_too k a at =
      let body_of : Method → Option BareStmt = λ m. option_map bare_stmt m.body in
      let bodies = ap (λ (o : Option Method). option_map (λ (m : Method). option_map bare_stmt m.body) o) (sym at) ∙ at_place (λ (m : Method). option_map bare_stmt m.body) p.methods q.methods k same.bodies in
      let found = is_some (λ (m : Method). option_map bare_stmt m.body) a (slice_get q.methods k) bodies in
      let b = found.0 in
      let results : a.result ≡ b.result =
      some_eq a.result b.result
      (ap (λ (o : Option Method). option_map (λ (m : Method). m.result) o) (sym at)
      ∙ at_place (λ (m : Method). m.result) p.methods q.methods k same.results
      ∙ ap (λ (o : Option Method). option_map (λ (m : Method). m.result) o) found.1) in (
        b,
        found.1,
        body_alike (site_of p (image_layout p) a) (site_of q (image_layout q) b) a.result a.body b.body (virtual_alike a b) found.2
            ∙ ap (λ (k : Kind). body_size (site_of q (image_layout q) b) k b.body) results,
      )

  -- what is too long in one is not short in the other
  not_short : (n m : ℕ) → IsFirstTooLong p n → n < m → All (IsShort q) (take m q.methods) → ⊥
  not_short n m first before short =
      let here = some_and (slice_get p.methods n) first.too_long in
      let there = there_too n here.0 here.1 in
      let is_short = short_at (IsShort q) q.methods n m there.0 short before there.1 in
      let long = here.2 in
      let size = there.2 in
      omega (arith, is_short, long, size)

  not_all_short : (n : ℕ) → IsFirstTooLong p n → All (IsShort q) q.methods → ⊥
  not_all_short n first short =
      let here = some_and (slice_get p.methods n) first.too_long in
      let there = there_too n here.0 here.1 in
      let within = slice_get_within q.methods n there.0 there.1 in
      not_short n (length q.methods) first within (subst (λ (ms : List Method). All (IsShort q) ms) (sym (take-length q.methods)) short)

back : (p q : Program) → HaveSameMethods p q → HaveSameMethods q p
back p q same = record { bodies = sym same.bodies; results = sym same.results; virtual = sym same.virtual }

pub one_refused : (p q : Program) (n m : ℕ) → HaveSameMethods p q → IsFirstTooLong p n → IsFirstTooLong q m → n ≡ m
one_refused p q n m same first other = by (cases_lt n m) (cases_lt m n)
  where
    by : (n < m) ⊎ (m ≤ n) → (m < n) ⊎ (n ≤ m) → n ≡ m
    by (inl before) h = absurd (not_short p q same n m first before other.before)
    by (inr le) (inl after) = absurd (not_short q p (back p q same) m n other after first.before)
    by (inr le) (inr ge) = omega arith

pub none_refused : (p q : Program) (n : ℕ) → HaveSameMethods p q → All (IsShort p) p.methods → IsFirstTooLong q n → ⊥
none_refused p q n same short first = not_all_short q p (back p q same) n first short
