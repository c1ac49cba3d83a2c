-- Characters and bytes of Strs, and what their calls come to.
use Rattle.std.specs.Prelude.{slice_get, slice_index, take_while, not, nat_lt, ◌&&◌, ◌||◌}
use Rattle.sed_value.specs.declared.value.Value.TheVariants as kept
use Rattle.std.proofs.Common.{◌≡◌, ◌==◌, ◌<◌, ◌≤◌, ◌+◌, ◌-◌, ℕ, zero, suc, ℤ, pos, List, [], ◌∷◌, ◌++◌, length, take, drop, get_or, Bool, true, false, if◌then◌else◌, Option, Some, None, Result, Ok, Err, refl, sym, ap, ◌∙◌, arith}
use Rattle.std.specs.Str.{bytes_eq}
use Rattle.std.specs.List.{prefix_len}
use Rattle.std.proofs.lemmas.Bool.Decides.{nat_tests}
use Rattle.sed_typed.specs.declared.operators.TextCall.TheVariants as text
use Rattle.sed_typed.specs.declared.operators.Width.TheVariants as width
use Rattle.sed_engine.specs.declared.trap.Trap.TheVariants.{OutOfRange}
use Rattle.sed_engine.specs.Stops.{Stop, Traps, there, map_ok, and_then}
use Rattle.sed_engine.specs.Values.{Val, Nothing, Truth, Int, Long, Null, At, Literal, Spot, spot_of, bytes_of, whole, truth, are_bytes, are_alike, last_byte}
use Rattle.sed_engine.specs.State.{State, End, gives, answers, after, then_do}
use Rattle.sed_typed.specs.Contents.{value_at}
use Rattle.sed_engine.specs.Steps.{contents_of as contents_in, read_bytes, write_bytes}
use Rattle.std.specs.Borrow.{Bor}
use Rattle.sed_engine.specs.Texts.{index_of, characters, literal_bytes, with_character, filled}
use Rattle.sed_engine.specs.Expressions.{text_bytes, text_call, operand, changeable}
use Rattle.walk_steps.specs.declared.word.Stop.{Stop as Own}
use Rattle.walk_steps.specs.Targets.{lent, text_lent, literal_in, as_text, character_put, put_character, literal_copied, text_copied}
use Rattle.walk_steps.proofs.Reaches.{bytes-at}

chars-cons : (x : ℕ) (xs : List ℕ) → (x == 0) ≡ false → characters (x ∷ xs) ≡ x ∷ characters xs
chars-cons x xs t =
    let one : 1 + prefix_len (λ b. not (b == 0)) xs ≡ suc (prefix_len (λ b. not (b == 0)) xs) = omega arith in
    ap (λ (c : Bool). take (if not c then 1 + prefix_len (λ b. not (b == 0)) xs else 0) (x ∷ xs)) t ∙ ap (λ (n : ℕ). take n (x ∷ xs)) one

chars-zero : (x : ℕ) (xs : List ℕ) → (x == 0) ≡ true → characters (x ∷ xs) ≡ []
chars-zero x xs t = ap (λ (c : Bool). take (if not c then 1 + prefix_len (λ b. not (b == 0)) xs else 0) (x ∷ xs)) t

-- the 0 behind a literal is none of its characters
pub chars-literal : (text : List ℕ) → characters (literal_bytes text) ≡ characters text
chars-literal [] = refl
chars-literal (x ∷ xs) = go (x == 0) refl (chars-literal xs)
  where
    go : (b : Bool) → (x == 0) ≡ b → characters (literal_bytes xs) ≡ characters xs → characters (literal_bytes (x ∷ xs)) ≡ characters (x ∷ xs)
    go true e h = chars-zero x (xs ++ 0 ∷ []) e ∙ sym (chars-zero x xs e)
    go false e h = chars-cons x (xs ++ 0 ∷ []) e ∙ ap (λ (ys : List ℕ). x ∷ ys) h ∙ sym (chars-cons x xs e)

pub byte-literal : (text : List ℕ) (i : ℕ) → slice_index (literal_bytes text) i ≡ slice_index text i
byte-literal [] zero = refl
byte-literal [] (suc i) = refl
byte-literal (x ∷ xs) zero = refl
byte-literal (x ∷ xs) (suc i) = byte-literal xs i

-- a literal's characters, and its bytes up to the last
pub chars-as-text : (v : Val) (bytes : List ℕ) → characters (as_text v bytes) ≡ characters bytes
chars-as-text (Literal n) bytes = chars-literal bytes
chars-as-text Nothing bytes = refl
chars-as-text (Truth t) bytes = refl
chars-as-text (Int n) bytes = refl
chars-as-text (Long n) bytes = refl
chars-as-text Null bytes = refl
chars-as-text (At spot) bytes = refl

pub byte-as-text : (v : Val) (bytes : List ℕ) (i : ℕ) → slice_index (as_text v bytes) i ≡ slice_index bytes i
byte-as-text (Literal n) bytes i = byte-literal bytes i
byte-as-text Nothing bytes i = refl
byte-as-text (Truth t) bytes i = refl
byte-as-text (Int n) bytes i = refl
byte-as-text (Long n) bytes i = refl
byte-as-text Null bytes i = refl
byte-as-text (At spot) bytes i = refl

-- ---- literals and Strs

no-number : {A : Type 0} (n : ℕ) → Some n ≡ None → A
no-number n e = absurd (let no : ⊥ = cc in no)

no-literal : {A : Type 0} (n : ℕ) → None ≡ Some n → A
no-literal n e = absurd (let no : ⊥ = cc in no)

pub text-kept : (texts : List (List ℕ)) (v : Val) (s : State) → literal_in v ≡ None → text_bytes texts v s ≡ then_do (answers (spot_of v) s) (λ spot s1. read_bytes spot s1)
text-kept texts Nothing s h = refl
text-kept texts (Truth t) s h = refl
text-kept texts (Int n) s h = refl
text-kept texts (Long n) s h = refl
text-kept texts Null s h = refl
text-kept texts (At spot) s h = refl
text-kept texts (Literal n) s h = no-number n h

pub lent-kept : (v : Val) (r : Result (Bor (List ℕ)) Own) → literal_in v ≡ None → text_lent v r ≡ lent r
lent-kept v (Err stop) h = refl
lent-kept Nothing (Ok b) h = refl
lent-kept (Truth t) (Ok b) h = refl
lent-kept (Int n) (Ok b) h = refl
lent-kept (Long n) (Ok b) h = refl
lent-kept Null (Ok b) h = refl
lent-kept (At spot) (Ok b) h = refl
lent-kept (Literal n) (Ok b) h = no-number n h

pub text-literal : (texts : List (List ℕ)) (v : Val) (s : State) (n : ℕ) → literal_in v ≡ Some n → text_bytes texts v s ≡ answers (map_ok literal_bytes (there (slice_get texts n))) s
text-literal texts (Literal m) s n h = let same : m ≡ n = cc in ap (λ (k : ℕ). answers (map_ok literal_bytes (there (slice_get texts k))) s) same
text-literal texts Nothing s n h = no-literal n h
text-literal texts (Truth t) s n h = no-literal n h
text-literal texts (Int i) s n h = no-literal n h
text-literal texts (Long i) s n h = no-literal n h
text-literal texts Null s n h = no-literal n h
text-literal texts (At spot) s n h = no-literal n h

pub lent-literal : (v : Val) (r : Result (Bor (List ℕ)) Own) (n : ℕ) → literal_in v ≡ Some n → text_lent v r ≡ map_ok literal_bytes (lent r)
lent-literal v (Err stop) n h = refl
lent-literal (Literal m) (Ok b) n h = refl
lent-literal Nothing (Ok b) n h = no-literal n h
lent-literal (Truth t) (Ok b) n h = no-literal n h
lent-literal (Int i) (Ok b) n h = no-literal n h
lent-literal (Long i) (Ok b) n h = no-literal n h
lent-literal Null (Ok b) n h = no-literal n h
lent-literal (At spot) (Ok b) n h = no-literal n h

pub changeable-kept : (v : Val) → literal_in v ≡ None → changeable v ≡ spot_of v
changeable-kept Nothing h = refl
changeable-kept (Truth t) h = refl
changeable-kept (Int n) h = refl
changeable-kept (Long n) h = refl
changeable-kept Null h = refl
changeable-kept (At spot) h = refl
changeable-kept (Literal n) h = no-number n h

pub changeable-literal : (v : Val) (n : ℕ) → literal_in v ≡ Some n → changeable v ≡ Err (Traps OutOfRange)
changeable-literal (Literal m) n h = refl
changeable-literal Nothing n h = no-literal n h
changeable-literal (Truth t) n h = no-literal n h
changeable-literal (Int i) n h = no-literal n h
changeable-literal (Long i) n h = no-literal n h
changeable-literal Null n h = no-literal n h
changeable-literal (At spot) n h = no-literal n h

-- ---- calls

module _ (texts : List (List ℕ)) (v : Val) (args : List Val) (s : State) where
  pub count-goes : (bytes : List ℕ) → answers (Ok bytes) s ≡ text_bytes texts v s → gives (Int (pos (length (characters bytes)))) s ≡ text_call texts text.Length v args s
  count-goes bytes e = ap (λ (x : End (List ℕ)). then_do x (λ bytes s1. gives (Int (pos (length (characters bytes)))) s1)) e

  pub get-goes : (bytes : List ℕ) (r : Result ℕ Stop) → answers (Ok bytes) s ≡ text_bytes texts v s → r ≡ index_of (length bytes) (operand args 0) →
      answers (map_ok (λ i. Int (pos (slice_index bytes i))) r) s ≡ text_call texts text.Get v args s
  get-goes bytes r e i =
      go r
      ∙ ap (λ (q : Result ℕ Stop). then_do (answers q s) (λ i s2. gives (Int (pos (slice_index bytes i))) s2)) i
      ∙ ap (λ (x : End (List ℕ)). then_do x (λ bytes s1. then_do (answers (index_of (length bytes) (operand args 0)) s1) (λ i s2. gives (Int (pos (slice_index bytes i))) s2))) e
    where
      go : (q : Result ℕ Stop) → answers (map_ok (λ i. Int (pos (slice_index bytes i))) q) s ≡ then_do (answers q s) (λ i s2. gives (Int (pos (slice_index bytes i))) s2)
      go (Ok i) = refl
      go (Err stop) = refl

  pub set-goes : then_do (answers (changeable v) s) (λ spot s1. put_character spot (operand args 0) (operand args 1) s1) ≡ text_call texts text.Set v args s
  set-goes = go (changeable v)
    where
      put : (spot : Spot) (q : Result ℕ Stop) (c : Result ℤ Stop) (bytes : List ℕ) → then_do (answers (and_then q (λ i. map_ok (λ c. with_character bytes i c) c)) s) (λ new s1. write_bytes spot new s1)
          ≡ then_do (answers q s) (λ i s3. then_do (answers c s3) (λ c s4. write_bytes spot (with_character bytes i c) s4))
      put spot (Ok i) (Ok c) bytes = refl
      put spot (Ok i) (Err stop) bytes = refl
      put spot (Err stop) c bytes = refl

      over : (spot : Spot) (r : Result (List ℕ) Stop) →
          then_do (answers r s) (λ bytes s1. then_do (answers (character_put bytes (operand args 0) (operand args 1)) s1) (λ new s2. write_bytes spot new s2))
          ≡ then_do (answers r s) (λ bytes s2. then_do (answers (index_of (length bytes - 1) (operand args 0)) s2) (λ i s3. then_do (answers (whole width.Int (operand args 1)) s3) (λ c s4. write_bytes spot (with_character bytes i c) s4)))
      over spot (Ok bytes) = put spot (index_of (length bytes - 1) (operand args 0)) (whole width.Int (operand args 1)) bytes
      over spot (Err stop) = refl

      go : (q : Result Spot Stop) → then_do (answers q s) (λ spot s1. put_character spot (operand args 0) (operand args 1) s1)
          ≡ then_do (answers q s) (λ spot s1. then_do (read_bytes spot s1) (λ bytes s2. then_do (answers (index_of (length bytes - 1) (operand args 0)) s2) (λ i s3. then_do (answers (whole width.Int (operand args 1)) s3) (λ c s4. write_bytes spot (with_character bytes i c) s4))))
      go (Err stop) = refl
      go (Ok spot) =
          let r = and_then (there (value_at (contents_in spot.base s.shared) spot.path)) bytes_of in
          ap (λ (x : End (List ℕ)). then_do x (λ bytes s1. then_do (answers (character_put bytes (operand args 0) (operand args 1)) s1) (λ new s2. write_bytes spot new s2))) (bytes-at spot s)
          ∙ over spot r
          ∙ ap (λ (x : End (List ℕ)). then_do x (λ bytes s2. then_do (answers (index_of (length bytes - 1) (operand args 0)) s2) (λ i s3. then_do (answers (whole width.Int (operand args 1)) s3) (λ c s4. write_bytes spot (with_character bytes i c) s4)))) (sym (bytes-at spot s))

  pub equals-goes : (a : List ℕ) (r : Result (List ℕ) Stop) → answers (Ok a) s ≡ text_bytes texts v s → answers r s ≡ text_bytes texts (operand args 0) s →
      answers (map_ok (λ b. truth (bytes_eq (characters a) (characters b))) r) s ≡ text_call texts text.Equals v args s
  equals-goes a r e f =
      go r
      ∙ ap (λ (x : End (List ℕ)). then_do x (λ b s2. gives (truth (bytes_eq (characters a) (characters b))) s2)) f
      ∙ ap (λ (x : End (List ℕ)). then_do x (λ a s1. then_do (text_bytes texts (operand args 0) s1) (λ b s2. gives (truth (bytes_eq (characters a) (characters b))) s2))) e
    where
      go : (q : Result (List ℕ) Stop) → answers (map_ok (λ b. truth (bytes_eq (characters a) (characters b))) q) s ≡ then_do (answers q s) (λ b s2. gives (truth (bytes_eq (characters a) (characters b))) s2)
      go (Ok b) = refl
      go (Err stop) = refl

  -- the other text is read before the first is found to be a literal
  pub copy-literal : (n : ℕ) → literal_in v ≡ Some n → literal_copied texts v (operand args 0) s ≡ text_call texts text.Copy v args s
  copy-literal n h =
      ap (λ (q : Result Spot Stop). then_do (text_bytes texts v s) (λ old s1. then_do (text_bytes texts (operand args 0) s1) (λ new s2. then_do (answers q s2) (λ spot s3. write_bytes spot (filled (length old) (characters new)) s3)))) (sym (changeable-literal v n h))

  pub copy-kept : literal_in v ≡ None → then_do (answers (spot_of v) s) (λ spot s1. text_copied texts spot (operand args 0) s1) ≡ text_call texts text.Copy v args s
  copy-kept h =
      go (spot_of v)
      ∙ ap (λ (x : End (List ℕ)). then_do x (λ old s1. then_do (text_bytes texts (operand args 0) s1) (λ new s2. then_do (answers (spot_of v) s2) (λ spot s3. write_bytes spot (filled (length old) (characters new)) s3)))) (sym (text-kept texts v s h))
      ∙ ap (λ (q : Result Spot Stop). then_do (text_bytes texts v s) (λ old s1. then_do (text_bytes texts (operand args 0) s1) (λ new s2. then_do (answers q s2) (λ spot s3. write_bytes spot (filled (length old) (characters new)) s3)))) (sym (changeable-kept v h))
    where
      go : (q : Result Spot Stop) → then_do (answers q s) (λ spot s1. text_copied texts spot (operand args 0) s1)
          ≡ then_do (then_do (answers q s) (λ spot s1. read_bytes spot s1)) (λ old s1. then_do (text_bytes texts (operand args 0) s1) (λ new s2. then_do (answers q s2) (λ spot s3. write_bytes spot (filled (length old) (characters new)) s3)))
      go (Err stop) = refl
      go (Ok spot) = refl

-- ---- bytes that are put in the place of others

-- numbers below 256 are bytes
pub are-bytes : (xs : List ℕ) → ((k : ℕ) → get_or xs k 0 < 256) → are_bytes xs ≡ true
are-bytes [] h = refl
are-bytes (x ∷ xs) h =
    let first : nat_lt x 256 ≡ true = let lt = h 0 in grind (arith, nat_tests) in
    let rest : are_bytes xs ≡ true = are-bytes xs (λ k. h (suc k)) in
    ap (λ (b : Bool). b && are_bytes xs) first ∙ rest

alike-by-end : (a l z y : Bool) → a ≡ true → l ≡ true → z ≡ false → true ≡ (a && l) && (not z || y)
alike-by-end true true false y ea el ez = refl
alike-by-end false l z y ea el ez = absurd (let no : ⊥ = cc in no)
alike-by-end true false z y ea el ez = absurd (let no : ⊥ = cc in no)
alike-by-end true true true y ea el ez = absurd (let no : ⊥ = cc in no)

alike-by-last : (a l z y : Bool) → a ≡ true → l ≡ true → z ≡ true → y ≡ (a && l) && (not z || y)
alike-by-last true true true y ea el ez = refl
alike-by-last false l z y ea el ez = absurd (let no : ⊥ = cc in no)
alike-by-last true false z y ea el ez = absurd (let no : ⊥ = cc in no)
alike-by-last true true false y ea el ez = absurd (let no : ⊥ = cc in no)

pub alike-end : (old new : List ℕ) (r : ℕ) → ((k : ℕ) → get_or new k 0 < 256) → length new ≡ length old → r ≡ last_byte old → (r ≡ 0 → ⊥) → not (r == 0) ≡ are_alike old (kept.Buf new)
alike-end old new r b l e ne =
    let is : (r == 0) ≡ false = grind (arith, nat_tests) in
    let same : (length new == length old) ≡ true = grind (arith, nat_tests) in
    ap (λ (c : Bool). not c) is
    ∙ alike-by-end (are_bytes new) (length new == length old) (last_byte old == 0) (last_byte new == 0) (are-bytes new b) same (ap (λ (n : ℕ). n == 0) (sym e) ∙ is)

pub alike-last : (old new : List ℕ) (r q : ℕ) → ((k : ℕ) → get_or new k 0 < 256) → length new ≡ length old → r ≡ last_byte old → r ≡ 0 → q ≡ last_byte new → (q == 0) ≡ are_alike old (kept.Buf new)
alike-last old new r q b l e z f =
    let is : (last_byte old == 0) ≡ true = ap (λ (n : ℕ). n == 0) (sym e ∙ z) in
    let same : (length new == length old) ≡ true = grind (arith, nat_tests) in
    ap (λ (n : ℕ). n == 0) f
    ∙ alike-by-last (are_bytes new) (length new == length old) (last_byte old == 0) (last_byte new == 0) (are-bytes new b) same is

-- ---- what is made of a Str, and then put there

then-then : {A B C : Type 0} (e : End A) (f : A → State → End B) (g : B → State → End C) → then_do (then_do e f) g ≡ then_do e (λ v s. then_do (f v s) g)
then-then {A = A} {B = B} {C = C} e f g = go e.result
  where
    go : (r : Result A Stop) → then_do (after r e.state f) g ≡ after r e.state (λ v s. then_do (f v s) g)
    go (Ok v) = refl
    go (Err stop) = refl

pub put-made : (s : State) (spot : Spot) (index character : Val) (r : Result (List ℕ) Stop) → answers r s ≡ then_do (read_bytes spot s) (λ bytes s1. answers (character_put bytes index character) s1) →
    then_do (answers r s) (λ new s1. write_bytes spot new s1) ≡ put_character spot index character s
put-made s spot index character r e =
    ap (λ (x : End (List ℕ)). then_do x (λ new s1. write_bytes spot new s1)) e
    ∙ then-then (read_bytes spot s) (λ bytes s1. answers (character_put bytes index character) s1) (λ new s1. write_bytes spot new s1)

copy-over : (texts : List (List ℕ)) (spot : Spot) (other : Val) (q : Result (List ℕ) Stop) (t : State) →
    after q t (λ old s1. then_do (then_do (text_bytes texts other s1) (λ new s2. gives (filled (length old) (characters new)) s2)) (λ new s1. write_bytes spot new s1))
    ≡ after q t (λ old s1. then_do (text_bytes texts other s1) (λ new s2. write_bytes spot (filled (length old) (characters new)) s2))
copy-over texts spot other (Ok old) t = then-then (text_bytes texts other t) (λ new s2. gives (filled (length old) (characters new)) s2) (λ new s1. write_bytes spot new s1)
copy-over texts spot other (Err stop) t = refl

pub copy-made : (texts : List (List ℕ)) (s : State) (spot : Spot) (other : Val) (r : Result (List ℕ) Stop) →
    answers r s ≡ then_do (read_bytes spot s) (λ old s1. then_do (text_bytes texts other s1) (λ new s2. gives (filled (length old) (characters new)) s2)) →
    then_do (answers r s) (λ new s1. write_bytes spot new s1) ≡ text_copied texts spot other s
copy-made texts s spot other r e =
    ap (λ (x : End (List ℕ)). then_do x (λ new s1. write_bytes spot new s1)) e
    ∙ then-then (read_bytes spot s) (λ old s1. then_do (text_bytes texts other s1) (λ new s2. gives (filled (length old) (characters new)) s2)) (λ new s1. write_bytes spot new s1)
    ∙ copy-over texts spot other (read_bytes spot s).result (read_bytes spot s).state

-- the characters of a text are those of its bytes
pub lent-chars : {B : Type 0} (f : List ℕ → B) (v : Val) (r : Result (Bor (List ℕ)) Own) → map_ok (λ b. f (characters b)) (lent r) ≡ map_ok (λ b. f (characters b)) (text_lent v r)
lent-chars f v (Ok b) = ap (λ (cs : List ℕ). Ok (f cs)) (sym (chars-as-text v b.now))
lent-chars f v (Err stop) = refl

pub lent-bytes : (v : Val) (bytes : List ℕ) (r : Result ℕ Stop) → map_ok (λ i. Int (pos (slice_index bytes i))) r ≡ map_ok (λ i. Int (pos (slice_index (as_text v bytes) i))) r
lent-bytes v bytes (Ok i) = ap (λ (n : ℕ). Ok (Int (pos n))) (sym (byte-as-text v bytes i))
lent-bytes v bytes (Err stop) = refl

-- a text that is read and then used
pub made-of : {B : Type 0} (f : List ℕ → B) (e : End (List ℕ)) (r : Result (List ℕ) Stop) (s : State) → answers r s ≡ e → answers (map_ok f r) s ≡ then_do e (λ x s1. gives (f x) s1)
made-of f e r s h = go r ∙ ap (λ (x : End (List ℕ)). then_do x (λ x s1. gives (f x) s1)) h
  where
    go : (q : Result (List ℕ) Stop) → answers (map_ok f q) s ≡ then_do (answers q s) (λ x s1. gives (f x) s1)
    go (Ok x) = refl
    go (Err stop) = refl
