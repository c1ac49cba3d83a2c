-- What follows for phrases and readings that are put together; the rules of the grammar carry it.
use Rattle.std.specs.Prelude.{◌≡◌, ◌⊎◌, Bool, true, false, cond, nat_lt, List, [], ◌∷◌, ◌++◌, length, Option, Some}
use Rattle.std.specs.Prelude.{None, refl}
use Rattle.std.proofs.Common.{inl, inr, ap, sym, subst, ◌∙◌}
use Rattle.std.proofs.lemmas.List.{append_assoc}
use Rattle.sed_lexer.specs.Token.{Token}
use Rattle.sed_parser.specs.Phrase.{Phrase, IsLeft, of_token}
use Rattle.sed_parser.specs.Reading.{Reading, Found, Stuck, Reads, is_found, further, as_far, token_reading, read_token}
use Rattle.sed_parser.specs.Reading.{read_on, by_head}

pub none_taken : (tokens rest : List Token) → tokens ≡ rest → IsLeft tokens rest
none_taken tokens rest same = ([], same)

pub both_taken : (tokens middle rest : List Token) → IsLeft tokens middle → IsLeft middle rest → IsLeft tokens rest
both_taken tokens middle rest (front, first) (back, second) =
    (front ++ back, first ∙ ap (λ (ts : List Token). front ++ ts) second ∙ sym (append_assoc front back rest))

pub found_eq : {A : Type 0} (a : A) (tokens : List Token) (b : A) (rest : List Token) → Found a tokens ≡ Found b rest
    → (a ≡ b) × (tokens ≡ rest)
found_eq a tokens b rest e = (cc, cc)

pub found_again : {A : Type 0} (a : A) (tokens : List Token) (b : A) (rest : List Token) → (a ≡ b) × (tokens ≡ rest)
    → Found a tokens ≡ Found b rest
found_again {A} a tokens b rest h = both a b tokens rest h.0 h.1
  where
    both : (x y : A) (ts us : List Token) → x ≡ y → ts ≡ us → Found x ts ≡ Found y us
    both x y ts us p q = cc

pub stuck_eq : {A : Type 0} (tokens rest : List Token) → ◌≡◌ {A = Reading A} (Stuck tokens) (Stuck rest) → tokens ≡ rest
stuck_eq tokens rest e = cc

pub stuck_again : {A : Type 0} (tokens rest : List Token) → tokens ≡ rest
    → ◌≡◌ {A = Reading A} (Stuck tokens) (Stuck rest)
stuck_again tokens rest e = cc

pub not_found : {A : Type 0} (tokens rest : List Token) (a : A) → Stuck tokens ≡ Found a rest → ⊥
not_found tokens rest a e = cc

pub not_stuck : {A : Type 0} (tokens rest : List Token) (a : A) → Found a tokens ≡ Stuck rest → ⊥
not_stuck tokens rest a e = cc

token_reading_sound : {A : Type 0} (o : Option A) (here behind : List Token) (a : A) (rest : List Token)
    → token_reading o here behind ≡ Found a rest → (o ≡ Some a) × (behind ≡ rest)
token_reading_sound None here behind a rest e = absurd (not_found here rest a e)
token_reading_sound {A} (Some b) here behind a rest e = let g =
    found_eq b behind a rest e in (ap (λ (x : A). Some x) g.0, g.1)

token_reading_stuck : {A : Type 0} (o : Option A) (here behind rest : List Token)
    → token_reading o here behind ≡ Stuck rest
    → here ≡ rest
token_reading_stuck {A} None here behind rest e = stuck_eq {A = A} here rest e
token_reading_stuck (Some b) here behind rest e = absurd (not_stuck behind rest b e)

pub token_sound : {A : Type 0} (f : Token → Option A) (tokens : List Token) (a : A) (rest : List Token)
    → read_token f tokens ≡ Found a rest → of_token f a tokens rest
token_sound f [] a rest e = not_found [] rest a e
token_sound f (t ∷ ts) a rest e = token_reading_sound (f t) (t ∷ ts) ts a rest e

pub token_whole : {A : Type 0} (f : Token → Option A) (tokens : List Token) (a : A) (rest : List Token)
    → of_token f a tokens rest → read_token f tokens ≡ Found a rest
token_whole f [] a rest h = absurd h
token_whole f (t ∷ ts) a rest h = rw (h.0, h.1) refl

pub token_left : {A : Type 0} (f : Token → Option A) (tokens : List Token) (a : A) (rest : List Token)
    → of_token f a tokens rest → IsLeft tokens rest
token_left f [] a rest h = absurd h
token_left f (t ∷ ts) a rest h = (t ∷ [], ap (λ (r : List Token). t ∷ r) h.1)

pub token_stuck : {A : Type 0} (f : Token → Option A) (tokens rest : List Token) → read_token f tokens ≡ Stuck rest
    → IsLeft tokens rest
token_stuck {A} f [] rest e = none_taken [] rest (stuck_eq {A = A} [] rest e)
token_stuck f (t ∷ ts) rest e = none_taken (t ∷ ts) rest (token_reading_stuck (f t) (t ∷ ts) ts rest e)

pub read_on_found : {A B : Type 0} (o : Reading A) (next : A → Reads B) (b : B) (rest : List Token)
    → read_on o next ≡ Found b rest
    → (a : A) × (middle : List Token) × (o ≡ Found a middle) × (next a middle ≡ Found b rest)
read_on_found (Stuck far) next b rest e = absurd (not_found far rest b e)
read_on_found (Found a middle) next b rest e = (a, middle, refl, e)

pub read_on_whole : {A B : Type 0} (o : Reading A) (next : A → Reads B) (a : A) (middle : List Token) (b : B)
    (rest : List Token)
    → o ≡ Found a middle → next a middle ≡ Found b rest → read_on o next ≡ Found b rest
read_on_whole o next a middle b rest p q = rw p q

pub read_on_stuck : {A B : Type 0} (o : Reading A) (next : A → Reads B) (rest : List Token)
    → read_on o next ≡ Stuck rest
    → (o ≡ Stuck rest) ⊎ ((a : A) × (middle : List Token) × (o ≡ Found a middle) × (next a middle ≡ Stuck rest))
read_on_stuck {A} {B} (Stuck far) next rest e = inl (stuck_again {A = A} far rest (stuck_eq {A = B} far rest e))
read_on_stuck (Found a middle) next rest e = inr (a, middle, refl, e)

pub in_order_stuck : {A B : Type 0} (o : Reading A) (next : A → Reads B) (tokens rest : List Token)
    → ((place : List Token) → o ≡ Stuck place → IsLeft tokens place)
    → ((a : A) (middle : List Token) → o ≡ Found a middle → IsLeft tokens middle)
    → ((a : A) (middle : List Token) → next a middle ≡ Stuck rest → IsLeft middle rest)
    → read_on o next ≡ Stuck rest → IsLeft tokens rest
in_order_stuck {A} {B} (Stuck far) next tokens rest first found second e =
    first rest (stuck_again {A = A} far rest (stuck_eq {A = B} far rest e))
in_order_stuck (Found a middle) next tokens rest first found second e =
    both_taken tokens middle rest (found a middle refl) (second a middle e)

pub either_sound : {A : Type 0} (P Q : Phrase) (b : Bool) (o r : Reading A) (a : A) (tokens rest : List Token)
    → (o ≡ Found a rest → P tokens rest) → (r ≡ Found a rest → Q tokens rest)
    → cond b o r ≡ Found a rest → ((b ≡ true) × P tokens rest) ⊎ ((b ≡ false) × Q tokens rest)
either_sound P Q true o r a tokens rest p q e = inl (refl, p e)
either_sound P Q false o r a tokens rest p q e = inr (refl, q e)

pub either_whole : {A : Type 0} (P Q : Phrase) (b : Bool) (o r : Reading A) (a : A) (tokens rest : List Token)
    → (P tokens rest → o ≡ Found a rest) → (Q tokens rest → r ≡ Found a rest)
    → ((b ≡ true) × P tokens rest) ⊎ ((b ≡ false) × Q tokens rest) → cond b o r ≡ Found a rest
either_whole P Q b o r a tokens rest p q (inl h) = rw h.0 (p h.1)
either_whole P Q b o r a tokens rest p q (inr h) = rw h.0 (q h.1)

pub either_left : (P Q : Phrase) (b : Bool) (tokens rest : List Token)
    → (P tokens rest → IsLeft tokens rest) → (Q tokens rest → IsLeft tokens rest)
    → ((b ≡ true) × P tokens rest) ⊎ ((b ≡ false) × Q tokens rest) → IsLeft tokens rest
either_left P Q b tokens rest p q (inl h) = p h.1
either_left P Q b tokens rest p q (inr h) = q h.1

pub either_stuck : {A : Type 0} (b : Bool) (o r : Reading A) (tokens rest : List Token)
    → (o ≡ Stuck rest → IsLeft tokens rest) → (r ≡ Stuck rest → IsLeft tokens rest)
    → cond b o r ≡ Stuck rest → IsLeft tokens rest
either_stuck true o r tokens rest p q e = p e
either_stuck false o r tokens rest p q e = q e

as_far_sound : {A : Type 0} (far : List Token) (o : Reading A) (a : A) (rest : List Token) → as_far far o ≡ Found a rest
    → o ≡ Found a rest
as_far_sound far (Found b behind) a rest e = e
as_far_sound far (Stuck place) a rest e = absurd (not_found (further far place) rest a e)

as_far_whole : {A : Type 0} (far : List Token) (o : Reading A) (a : A) (rest : List Token) → o ≡ Found a rest
    → as_far far o ≡ Found a rest
as_far_whole far o a rest e = rw e refl

as_far_stuck : {A : Type 0} (far : List Token) (o : Reading A) (tokens rest : List Token) → IsLeft tokens far
    → ((place : List Token) → o ≡ Stuck place → IsLeft tokens place) → as_far far o ≡ Stuck rest → IsLeft tokens rest
as_far_stuck far (Found b behind) tokens rest p q e = absurd (not_stuck behind rest b e)
as_far_stuck {A} far (Stuck place) tokens rest p q e =
    by_test (nat_lt (length far) (length place)) (stuck_eq {A = A} (further far place) rest e)
  where
    by_test : (b : Bool) → cond b far place ≡ rest → IsLeft tokens rest
    by_test true same = subst (IsLeft tokens) same p
    by_test false same = subst (IsLeft tokens) same (q place refl)

pub head_sound : {A B : Type 0} (P Q : Phrase) (h : Reading B) (o r : Reading A) (a : A) (tokens rest : List Token)
    → (o ≡ Found a rest → P tokens rest) → (r ≡ Found a rest → Q tokens rest)
    → by_head h o r ≡ Found a rest → ((is_found h ≡ true) × P tokens rest) ⊎ ((is_found h ≡ false) × Q tokens rest)
head_sound P Q (Found b behind) o r a tokens rest p q e = inl (refl, p e)
head_sound P Q (Stuck far) o r a tokens rest p q e = inr (refl, q (as_far_sound far r a rest e))

true_false : true ≡ false → ⊥
true_false e = cc

pub head_whole : {A B : Type 0} (P Q : Phrase) (h : Reading B) (o r : Reading A) (a : A) (tokens rest : List Token)
    → (P tokens rest → o ≡ Found a rest) → (Q tokens rest → r ≡ Found a rest)
    → ((is_found h ≡ true) × P tokens rest) ⊎ ((is_found h ≡ false) × Q tokens rest) → by_head h o r ≡ Found a rest
head_whole P Q (Found b behind) o r a tokens rest p q (inl h) = p h.1
head_whole P Q (Found b behind) o r a tokens rest p q (inr h) = absurd (true_false h.0)
head_whole P Q (Stuck far) o r a tokens rest p q (inl h) = absurd (true_false (sym h.0))
head_whole P Q (Stuck far) o r a tokens rest p q (inr h) = as_far_whole far r a rest (q h.1)

pub head_stuck : {A B : Type 0} (h : Reading B) (o r : Reading A) (tokens rest : List Token)
    → ((place : List Token) → h ≡ Stuck place → IsLeft tokens place)
    → (o ≡ Stuck rest → IsLeft tokens rest) → ((place : List Token) → r ≡ Stuck place → IsLeft tokens place)
    → by_head h o r ≡ Stuck rest → IsLeft tokens rest
head_stuck (Found b behind) o r tokens rest ahead p q e = p e
head_stuck (Stuck far) o r tokens rest ahead p q e = as_far_stuck far r tokens rest (ahead far refl) q e
