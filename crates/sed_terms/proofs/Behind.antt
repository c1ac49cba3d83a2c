-- What is made of a term behind an instance is made behind it.
use Rattle.std.proofs.Common.{◌≡◌, true, false, Option, Some, None, refl, ap}
use Rattle.std.specs.Global.{Box}
use Rattle.sed_typed.specs.declared.operators.Update.{Update}
use Rattle.sed_typed.specs.declared.tree.Expr.{Expr}
use Rattle.sed_terms.specs.declared.open.Open.{Open}
use Rattle.sed_terms.specs.declared.open.Open.TheVariants as held
use Rattle.sed_terms.specs.declared.sign.Sign.TheVariants as sign
use Rattle.sed_terms.specs.Term.{Term, Node}
use Rattle.sed_terms.specs.Forms.{indexed, bytes_of, size_of, stored, updated}
use Rattle.sed_terms.specs.OpenTerm.{open_term, is_open, behind}
use Rattle.sed_terms.specs.Seen.{term_of}
use Rattle.sed_terms.specs.Sorts.{term_kind}

pub kind_behind : (b : Option (Box Expr)) (t : Term) → term_kind (behind b t) ≡ term_kind t
kind_behind None t = refl
kind_behind (Some e) t = refl

pub indexed_behind : (b : Option (Box Expr)) (t x : Term) → indexed (behind b t) x ≡ behind b (indexed t x)
indexed_behind None t x = refl
indexed_behind (Some e) t x = refl

pub bytes_behind : (b : Option (Box Expr)) (t : Term) → bytes_of (behind b t) ≡ behind b (bytes_of t)
bytes_behind None t = refl
bytes_behind (Some e) t = refl

pub size_behind : (b : Option (Box Expr)) (t : Term) → size_of (behind b t) ≡ behind b (size_of t)
size_behind None t = refl
size_behind (Some e) t = refl

-- a store is put to a place that is held back, behind what is evaluated before it

stored_here : (o : Open) (v : Term) → is_open o ≡ true → stored (open_term o) v ≡ Node sign.Set (open_term o) v
stored_here (held.Local k i) v h = refl
stored_here (held.Static p i) v h = refl
stored_here (held.StaticElement p n i e) v h = refl
stored_here (held.Field p e i) v h = refl
stored_here (held.Element p n e i x) v h = refl
stored_here o v h = absurd (let k : false ≡ true = h in cc)

pub stored_open : (b : Option (Box Expr)) (o : Open) (v : Term) → is_open o ≡ true → stored (behind b (open_term o)) v ≡ behind b (Node sign.Set (open_term o) v)
stored_open None o v h = stored_here o v h
stored_open (Some e) o v h = ap (λ t. Node sign.After (term_of e.value) t) (stored_here o v h)

updated_here : (u : Update) (o : Open) (v : Term) → is_open o ≡ true → updated u (open_term o) v ≡ Node (sign.Update u) (open_term o) v
updated_here u (held.Local k i) v h = refl
updated_here u (held.Static p i) v h = refl
updated_here u (held.StaticElement p n i e) v h = refl
updated_here u (held.Field p e i) v h = refl
updated_here u (held.Element p n e i x) v h = refl
updated_here u o v h = absurd (let k : false ≡ true = h in cc)

pub updated_open : (u : Update) (b : Option (Box Expr)) (o : Open) (v : Term) → is_open o ≡ true →
    updated u (behind b (open_term o)) v ≡ behind b (Node (sign.Update u) (open_term o) v)
updated_open u None o v h = updated_here u o v h
updated_open u (Some e) o v h = ap (λ t. Node sign.After (term_of e.value) t) (updated_here u o v h)
