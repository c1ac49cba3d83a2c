-- What reads give determines which are made, and how a step ends.
use Rattle.std.proofs.Common.{◌≡◌, ◌<◌, ◌≤◌, ℕ, List, [], ◌∷◌, ◌++◌, length, Option, Some, None, Result, Ok, Err, refl, sym, ap, subst, ◌∙◌, arith}
use Rattle.std.specs.Prelude.{MatchOption}
use Rattle.std.specs.Option.{option_map_or}
use Rattle.std.proofs.lemmas.List.{append-nil}
use Rattle.sed_outside.specs.Files.{Contents, IsUnreadable, largest_file}
use Rattle.sed_outside.specs.Steps.{Read, Decides, AndThen, stops, goes_on, Each, Agree}
use Rattle.sed_outside.specs.Reads.{TextOf, IsGiven, AreGiven, failed_name, failed_names, AreTold}
use Rattle.sed_outside.proofs.Joining.{both_empty}

-- Reads that agree are equal, and so are the ends.
abbrev pub IsOne : {E X : Type 0} → (List Read → Result X E → Type 0) → Type 0
IsOne {E} {X} step = (reads others : List Read) (end other : Result X E) → step reads end → step others other
    → Agree reads others → (reads ≡ others) × (end ≡ other)

pub agree_front : (f k g l : List Read) → Agree (f ++ k) (g ++ l) → Agree f g
agree_front [] k g l agree = tt
agree_front (r ∷ f) k [] l agree = tt
agree_front (r ∷ f) k (s ∷ g) l agree = (agree.0, agree_front f k g l agree.1)

pub agree_back : (f k l : List Read) → Agree (f ++ k) (f ++ l) → Agree k l
agree_back [] k l agree = agree
agree_back (r ∷ f) k l agree = agree_back f k l agree.1

apart : {E X : Type 0} (x : X) (e : E) → ◌≡◌ {A = Result X E} (Ok x) (Err e) → ⊥
apart x e same = cc

same_value : {E X : Type 0} (x y : X) → ◌≡◌ {A = Result X E} (Ok x) (Ok y) → x ≡ y
same_value x y same = cc

same_refusal : {E X : Type 0} (e f : E) → ◌≡◌ {A = Result X E} (Err e) (Err f) → e ≡ f
same_refusal e f same = cc

-- what stopped and what went on
mixed : {E X : Type 0} (first : List Read → Result X E → Type 0) → IsOne first → (reads others front back : List Read) (refusal : E) (value : X)
    → first reads (Err refusal) → first front (Ok value) → others ≡ front ++ back → Agree reads others → ⊥
mixed {E} {X} first one reads others front back refusal value stop done parts agree =
    let split : Agree (reads ++ []) (front ++ back) = subst (λ (r : List Read). Agree r (front ++ back)) (sym (append-nil reads)) (subst (λ (o : List Read). Agree reads o) parts agree) in
    let (same, ends) = one reads front (Err refusal) (Ok value) stop done (agree_front reads [] front back split) in
    apart value refusal (sym ends)

agree_sym : (reads others : List Read) → Agree reads others → Agree others reads
agree_sym [] [] agree = tt
agree_sym [] (s ∷ others) agree = tt
agree_sym (r ∷ reads) [] agree = tt
agree_sym (r ∷ reads) (s ∷ others) agree = (λ same. sym (agree.0 (sym same)), agree_sym reads others agree.1)

pub one_then : {E X Y : Type 0} (first : List Read → Result X E → Type 0) (next : X → List Read → Result Y E → Type 0)
    → IsOne first → ((x : X) → IsOne (next x)) → IsOne (AndThen first next)
one_then {E} {X} {Y} first next one more reads others end other (stops r h e) (stops s k d) agree =
    let (same, ends) = one reads others (Err r) (Err s) h k agree in
    let both : ◌≡◌ {A = Result Y E} (Err r) (Err s) = ap Err (same_refusal r s ends) in
    (same, e ∙ both ∙ sym d)
one_then {E} {X} {Y} first next one more reads others end other (stops r h e) (goes_on f b x parts k n) agree =
    absurd (mixed first one reads others f b r x h k parts agree)
one_then {E} {X} {Y} first next one more reads others end other (goes_on f b x parts k n) (stops r h e) agree =
    absurd (mixed first one others reads f b r x h k parts (agree_sym reads others agree))
one_then {E} {X} {Y} first next one more reads others end other (goes_on f b x parts h n) (goes_on g d y more_parts k m) agree =
    let split : Agree (f ++ b) (g ++ d) = subst (λ (o : List Read). Agree (f ++ b) o) more_parts (subst (λ (r : List Read). Agree r others) parts agree) in
    let (front, ends) = one f g (Ok x) (Ok y) h k (agree_front f b g d split) in
    let value : x ≡ y = same_value x y ends in
    let there : next x d other = subst (λ (z : X). next z d other) (sym value) m in
    let left : Agree b d = agree_back f b d (subst (λ (o : List Read). Agree (f ++ b) (o ++ d)) (sym front) split) in
    let (back, lasts) = more x b d end other n there left in
    (parts ∙ ap (λ (o : List Read). o ++ b) front ∙ ap (λ (o : List Read). g ++ o) back ∙ sym more_parts, lasts)

pub one_decides : {E X : Type 0} (Holds : Result X E → Type 0) → ((end other : Result X E) → Holds end → Holds other → end ≡ other) → IsOne (Decides Holds)
one_decides Holds one reads others end other h k agree = (h.none ∙ sym k.none, one end other h.holds k.holds)

one_value : {E X : Type 0} (x : X) → IsOne (Decides {E = E} (λ end. end ≡ Ok x))
one_value x = one_decides (λ end. end ≡ Ok x) (λ end other h k. h ∙ sym k)

pub one_each : {E X Y : Type 0} (one : X → List Read → Result Y E → Type 0) → ((x : X) → IsOne (one x)) → (xs : List X) → IsOne (Each one xs)
one_each {E} {X} {Y} one each [] = one_value {E = E} []
one_each {E} {X} {Y} one each (x ∷ xs) =
    one_then (one x) (λ y. AndThen (Each one xs) (λ ys. Decides (λ end. end ≡ Ok (y ∷ ys)))) (each x)
    (λ y. one_then (Each one xs) (λ ys. Decides (λ end. end ≡ Ok (y ∷ ys))) (one_each one each xs) (λ ys. one_value {E = E} (y ∷ ys)))

same_gave : (name : List ℕ) (a b : Option (List ℕ)) (reads others : List Read) → reads ≡ (record { name = name; gave = a }) ∷ [] → others ≡ (record { name = name; gave = b }) ∷ []
    → Agree reads others → a ≡ b
same_gave name a b reads others is are agree =
    let both : Agree ((record { name = name; gave = a }) ∷ []) ((record { name = name; gave = b }) ∷ []) =
    subst (λ (o : List Read). Agree ((record { name = name; gave = a }) ∷ []) o) are (subst (λ (r : List Read). Agree r others) is agree) in
    both.0 refl

some_text : (a b : List ℕ) → ◌≡◌ {A = Option (List ℕ)} (Some a) (Some b) → a ≡ b
some_text a b same = cc

none_text : (a : List ℕ) → ◌≡◌ {A = Option (List ℕ)} (Some a) None → ⊥
none_text a same = cc

pub one_text : {E : Type 0} (name : List ℕ) (failed : E) → IsOne (TextOf name failed)
one_text {E} name failed reads others (Ok t) (Ok u) h k agree =
    let same : t ≡ u = some_text t u (same_gave name (Some t) (Some u) reads others h k agree) in
    (h ∙ ap (λ (text : List ℕ). (record { name = name; gave = Some text }) ∷ []) same ∙ sym k, ap Ok same)
one_text {E} name failed reads others (Ok t) (Err r) h k agree = absurd (none_text t (same_gave name (Some t) None reads others h k.0 agree))
one_text {E} name failed reads others (Err r) (Ok t) h k agree = absurd (none_text t (sym (same_gave name None (Some t) reads others h.0 k agree)))
one_text {E} name failed reads others (Err r) (Err s) h k agree = (h.0 ∙ sym k.0, ap Err (h.1 ∙ sym k.1))

-- ---- where the files tell what they hold

unreadable : (held : Option (List ℕ)) (text : List ℕ) → held ≡ Some text → length text ≤ largest_file → IsUnreadable held → ⊥
unreadable None text is small un = absurd (cc)
unreadable (Some t) text is small un =
    let same : t ≡ text = cc in
    let large : largest_file < length text = subst (λ (b : List ℕ). largest_file < length b) same un in
    omega (arith, small, large)

gave_alike : (files : Contents) (name other : List ℕ) (a b : Option (List ℕ)) → MatchOption a (Unit {0}) (IsGiven (Some files) name)
    → option_map_or (λ text. []) a (name ∷ []) ≡ [] → MatchOption b (IsUnreadable (files other)) (λ text. files other ≡ Some text) → name ≡ other → a ≡ b
gave_alike files name other None b given done told same = absurd (cc)
gave_alike files name other (Some t) None given done told same =
    absurd (unreadable (files other) t (ap files (sym same) ∙ given.told) given.small told)
gave_alike files name other (Some t) (Some u) given done told same = sym given.told ∙ ap files same ∙ told

-- Reads that were made and none of which failed agree with those that the files are told to give.
pub told_agree : (files : Contents) (made told : List Read) → AreGiven (Some files) made → failed_names made ≡ [] → AreTold files told → Agree made told
told_agree files [] told given done are = tt
told_agree files (r ∷ made) [] given done are = tt
told_agree files (r ∷ made) (s ∷ told) given done are =
    let (now, later) = both_empty (failed_name r) (failed_names made) done in
    (λ same. gave_alike files r.name s.name r.gave s.gave given.0 now are.0 same, told_agree files made told given.1 later are.1)
