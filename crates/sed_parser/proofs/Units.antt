-- A unit is read from the tokens where they derive one.
use Rattle.std.proofs.Common.{◌≡◌, ◌≤◌, ◌+◌, ◌-◌, ℕ, Bool, false, List, [], ◌∷◌, ◌++◌, length, drop, Result, Err, refl, sym, ap, subst, ◌∙◌, arith}
use Rattle.std.proofs.lemmas.List.{length-append, length-drop}
use Rattle.sed_lexer.specs.Token.{Token}
use Rattle.sed_units.specs.declared.classes.Class.{Class}
use Rattle.sed_units.specs.declared.classes.Unit.{Unit as TheUnit}
use Rattle.sed_parser.specs.Phrase.{Phrase, IsLeft, Many}
use Rattle.sed_parser.specs.Reading.{Found, Stuck}
use Rattle.sed_parser.specs.ReadingFacts.{found_eq, not_found, stuck_eq}
use Rattle.sed_parser.specs.Classes.{classes, next_class}
use Rattle.sed_parser.specs.Derives.{Derives, FaultsAt}
use Rattle.sed_parser.specs.Halts.{Gives}
use Rattle.sed_parser.specs.declared.parsing.ParseRefusal.{ParseRefusal}
use Rattle.sed_parser.specs.declared.parsing.ParseRefusal.TheVariants as refusal
use Rattle.sed_value.specs.declared.halt.Halt.{Halt}
use Rattle.sed_value.specs.declared.halt.Halt.TheVariants.{Fault, Memory}

-- a row ends where no further item is next
many_stops : {A : Type 0} (go : List Token → Bool) (item : A → Phrase) (xs : List A) (tokens rest : List Token)
    → Many go item xs tokens rest → go rest ≡ false
many_stops go item [] tokens rest h = subst (λ (ts : List Token). go ts ≡ false) h.1 h.0
many_stops go item (x ∷ xs) tokens rest (goes, (middle, first, others)) = many_stops go item xs middle rest others

none_left : (ts : List Token) → next_class ts ≡ false → ts ≡ []
none_left [] e = refl
none_left (t ∷ ts) e = cc

classes_end : (tokens : List Token) (cs : List Class) (rest : List Token) → classes.holds cs tokens rest → rest ≡ []
unfolding classes
classes_end tokens cs rest h = none_left rest (many_stops next_class _ cs tokens rest h)

-- what a parser that began at the first token has read
pub derived : (tokens start : List Token) (cs : List Class) (rest : List Token) → start ≡ tokens
    → classes.reads start ≡ Found cs rest → classes.holds cs tokens []
derived tokens start cs rest same e =
    let here : classes.holds cs tokens rest =
    subst (λ (ts : List Token). classes.holds cs ts rest) same (classes.sound start cs rest e) in
    subst (λ (ts : List Token). classes.holds cs tokens ts) (classes_end tokens cs rest here) here

pub no_other : (tokens start : List Token) (cs : List Class) (rest : List Token) → start ≡ tokens
    → classes.reads start ≡ Found cs rest
    → (v : TheUnit) → Derives tokens v → v.classes ≡ cs
no_other tokens start cs rest same e v h =
    let there : classes.holds v.classes start [] =
    subst (λ (ts : List Token). classes.holds v.classes ts []) (sym same) h in
    (found_eq v.classes [] cs rest (sym (classes.whole start v.classes [] there) ∙ e)).0

pub none_derives : (tokens start after : List Token) (halt : Halt) → start ≡ tokens → halt ≡ Fault
    → Gives {X = List Class} (Err halt) after (classes.reads start)
    → (v : TheUnit) → Derives tokens v → ⊥
none_derives tokens start after Fault same is e v h =
    let there : classes.holds v.classes start [] =
    subst (λ (ts : List Token). classes.holds v.classes ts []) (sym same) h in
    not_found after [] v.classes (sym e ∙ classes.whole start v.classes [] there)
none_derives tokens start after Memory same is e v h = cc

pub unit_is_one : (tokens : List Token) (u v : TheUnit) → Derives tokens u → Derives tokens v → u ≡ v
unit_is_one tokens u v h k =
    let same : u.classes ≡ v.classes = no_other tokens tokens v.classes [] refl (classes.whole tokens v.classes [] k) u
    h in
    ap (λ (cs : List Class). record { classes = cs }) same

-- the last ones of the tokens stand behind as many as are not among them
drop_front : (front rest : List Token) → drop (length front) (front ++ rest) ≡ rest
drop_front [] rest = refl
drop_front (t ∷ ts) rest = drop_front ts rest

pub left_few : (tokens rest : List Token) → IsLeft tokens rest → length rest ≤ length tokens
left_few tokens rest (front, same) =
    let all : length tokens ≡ length front + length rest = ap (λ (ts : List Token). length ts) same
    ∙ length-append front rest in
    omega (arith, all)

left_drop : (tokens rest : List Token) → IsLeft tokens rest → drop (length tokens - length rest) tokens ≡ rest
left_drop tokens rest (front, same) =
    let all : length tokens ≡ length front + length rest = ap (λ (ts : List Token). length ts) same
    ∙ length-append front rest in
    let many : length tokens - length rest ≡ length front = omega (arith, all) in
    ap (λ (n : ℕ). drop n tokens) many ∙ ap (λ (ts : List Token). drop (length front) ts) same ∙ drop_front front rest

-- where a parser that began at the first token is stuck
pub stuck_left : (tokens start after : List Token) (halt : Halt) → start ≡ tokens → halt ≡ Fault
    → Gives {X = List Class} (Err halt) after (classes.reads start) → IsLeft tokens after
stuck_left tokens start after Fault same is e =
    subst (λ (ts : List Token). IsLeft ts after) same (classes.stuck start after e)
stuck_left tokens start after Memory same is e = cc

pub faults_there : (tokens start after : List Token) (halt : Halt) → start ≡ tokens → halt ≡ Fault
    → Gives {X = List Class} (Err halt) after (classes.reads start)
    → FaultsAt tokens (length tokens - length after)
unfolding FaultsAt
faults_there tokens start after Fault same is e =
    let behind : drop (length tokens - length after) tokens ≡ after =
    left_drop tokens after (stuck_left tokens start after Fault same is e) in
    (omega arith, ap classes.reads (sym same) ∙ e ∙ ap (λ (ts : List Token). Stuck ts) (sym behind))
faults_there tokens start after Memory same is e = cc

pub fault_is_one : (tokens : List Token) (m n : ℕ) → FaultsAt tokens m → FaultsAt tokens n → m ≡ n
unfolding FaultsAt
fault_is_one tokens m n (few, stuck) (less, there) =
    let same : drop m tokens ≡ drop n tokens =
    stuck_eq {A = List Class} (drop m tokens) (drop n tokens) (sym stuck ∙ there) in
    let lengths : length tokens - m ≡ length tokens - n =
    sym (length-drop m tokens) ∙ ap (λ (ts : List Token). length ts) same ∙ length-drop n tokens in
    omega (arith, few, less, lengths)

pub no_unit_faults : (tokens : List Token) (n : ℕ) (u : TheUnit) → FaultsAt tokens n → Derives tokens u → ⊥
unfolding FaultsAt
no_unit_faults tokens n u (few, stuck) h =
    not_found (drop n tokens) [] u.classes (sym stuck ∙ classes.whole tokens u.classes [] h)

pub fault_eq : (m n : ℕ) → ◌≡◌ {A = Result TheUnit ParseRefusal} (Err (refusal.Fault m)) (Err (refusal.Fault n)) → m ≡ n
fault_eq m n e = cc
