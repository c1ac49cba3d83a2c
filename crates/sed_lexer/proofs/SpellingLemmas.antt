-- The character or text that begins a text.
use Rattle.std.proofs.Common.{◌≡◌, ◌≢◌, ℕ, suc, ◌+◌, ◌<◌, ◌≤◌, Bool, true, false, not, ◌&&◌, ◌==◌, List, [], ◌∷◌, ◌++◌, length, take, drop, Option, Some, refl, sym, ap, subst, ◌∙◌, arith, append_assoc}
use Rattle.std.proofs.Math.Seq.{take-add, take-append-add}
use Rattle.std.proofs.lemmas.Bool.Decides.{Decides-eqb}
use Rattle.std.proofs.lemmas.List.{length-take-le, take-append-drop, length-append, length-drop, drop-drop, append-nil, nil_from_length}
use Rattle.sed_value.specs.Characters.{is_between}
use Rattle.sed_lexer.specs.declared.spellings.Spelled.{Spelled}
use Rattle.sed_lexer.specs.Spellings.{is_plain, escaped, Spells, SpellText, IsTextOf, IsCharacter, IsText}
use Rattle.sed_lexer.specs.Spelled.{BeginsSpelled, NoSpelling, SpellsTo, EndsText, NoTextEnd}
use Rattle.sed_lexer.specs.One.{FindsOne}
use Rattle.sed_lexer.specs.Fronts.{NoFront, IsLongestFront, begins_with}
use Rattle.sed_lexer.proofs.FrontLemmas.{and_left, and_right, not_both}

head_is : (a b : ℕ) (x y : List ℕ) → a ∷ x ≡ b ∷ y → (a ≡ b) × (x ≡ y)
head_is a b x y e = (cc, cc)

not_true : (b : Bool) → not b ≡ true → b ≡ true → ⊥
not_true true h k = cc
not_true false h k = cc

some_is : (a b : ℕ) → ◌≡◌ {A = Option ℕ} (Some a) (Some b) → a ≡ b
some_is a b e = cc

-- a backslash stands for itself nowhere
no_plain_backslash : (quote b : ℕ) → is_plain quote b ≡ true → b ≡ 92 → ⊥
no_plain_backslash quote b plain e =
    not_true (b == 92) (and_right (is_between 32 126 b && not (b == quote)) (not (b == 92)) plain) ((Decides-eqb b 92).1 e)

-- nor a quote between quotes of its kind
no_plain_quote : (quote : ℕ) → is_plain quote quote ≡ true → ⊥
no_plain_quote quote plain =
    not_true (quote == quote) (and_right (is_between 32 126 quote) (not (quote == quote)) (and_left (is_between 32 126 quote && not (quote == quote)) (not (quote == 92)) plain)) ((Decides-eqb quote quote).1 refl)

-- one character is spelled at the start of a text
pub one_spelling : (quote : ℕ) (a b x y : List ℕ) (c d : ℕ) → a ++ x ≡ b ++ y → Spells quote a c → Spells quote b d → (a ≡ b) × (c ≡ d) × (x ≡ y)
one_spelling quote [] b x y c d e is also = absurd is
one_spelling quote (p ∷ []) [] x y c d e is also = absurd also
one_spelling quote (p ∷ []) (q ∷ []) x y c d e (plain, same) (plain', same') =
    let heads = head_is p q x y e in
    let head : p ≡ q = heads.0 in
    (cc, cc, heads.1)
one_spelling quote (p ∷ []) (q ∷ r ∷ []) x y c d e (plain, same) (back, of) =
    absurd (no_plain_backslash quote p plain ((head_is p q x (r ∷ y) e).0 ∙ back))
one_spelling quote (p ∷ []) (q ∷ r ∷ s ∷ bs) x y c d e is also = absurd also
one_spelling quote (p ∷ r ∷ []) [] x y c d e is also = absurd also
one_spelling quote (p ∷ r ∷ []) (q ∷ []) x y c d e (back, of) (plain, same) =
    absurd (no_plain_backslash quote q plain (sym (head_is p q (r ∷ x) y e).0 ∙ back))
one_spelling quote (p ∷ r ∷ []) (q ∷ s ∷ []) x y c d e (back, of) (back', of') =
    let heads = head_is p q (r ∷ x) (s ∷ y) e in
    let seconds = head_is r s x y heads.1 in
    let head : p ≡ q = heads.0 in
    let second : r ≡ s = seconds.0 in
    (cc, some_is c d (sym of ∙ ap escaped second ∙ of'), seconds.1)
one_spelling quote (p ∷ r ∷ []) (q ∷ s ∷ t ∷ bs) x y c d e is also = absurd also
one_spelling quote (p ∷ r ∷ s ∷ as') b x y c d e is also = absurd is

-- no character's spelling begins with the quote
pub no_quote_spelling : (quote : ℕ) (a x y : List ℕ) (c : ℕ) → a ++ x ≡ quote ∷ y → Spells quote a c → (quote ≡ 92 → ⊥) → ⊥
no_quote_spelling quote [] x y c e is other = is
no_quote_spelling quote (p ∷ []) x y c e (plain, same) other =
    no_plain_quote quote (subst (λ (b : ℕ). is_plain quote b ≡ true) (head_is p quote x y e).0 plain)
no_quote_spelling quote (p ∷ r ∷ []) x y c e (back, of) other = other (sym (head_is p quote (r ∷ x) y e).0 ∙ back)
no_quote_spelling quote (p ∷ r ∷ s ∷ as') x y c e is other = is

pub some_spelling : (quote : ℕ) (a : List ℕ) (c : ℕ) → Spells quote a c → 0 < length a
some_spelling quote [] c is = absurd is
some_spelling quote (p ∷ as') c is = omega arith

pub begins_is : (text : List ℕ) (b : ℕ) → begins_with text b ≡ true → text ≡ b ∷ drop 1 text
begins_is [] b h = cc
begins_is (a ∷ as') b h = let same : a ≡ b = (Decides-eqb a b).0 h in cc

pub begins_not : (text : List ℕ) (b : ℕ) (rest : List ℕ) → begins_with text b ≡ false → text ≡ b ∷ rest → ⊥
begins_not [] b rest h e = cc
begins_not (a ∷ as') b rest h e = not_both (a == b) h ((Decides-eqb a b).1 (head_is a b as' rest e).0)

-- a character: one spelling between quotes
character_at : (inner : List ℕ) (one : Spelled) → BeginsSpelled 39 inner one → drop one.len inner ≡ 39 ∷ drop 1 (drop one.len inner)
    → IsLongestFront IsCharacter (39 ∷ inner) (suc (one.len + 1))
character_at inner one spelled closes = record {
  within = omega (arith, length-drop one.len inner, ap length closes);
  has = (one.character, (take one.len inner, ap (λ (x : List ℕ). 39 ∷ x) (take-add one.len 1 inner ∙ ap (λ (x : List ℕ). take one.len inner ++ take 1 x) closes), spelled.spells));
  most = most;
}
  where
    most : (bytes after : List ℕ) → 39 ∷ inner ≡ bytes ++ after → IsCharacter bytes → length bytes ≤ suc (one.len + 1)
    most bytes after e (c, (spelling, is, spells)) =
        let whole : 39 ∷ inner ≡ 39 ∷ ((spelling ++ 39 ∷ []) ++ after) = e ∙ ap (λ (x : List ℕ). x ++ after) is in
        let tail : inner ≡ (spelling ++ 39 ∷ []) ++ after = (head_is 39 39 inner ((spelling ++ 39 ∷ []) ++ after) whole).1 in
        let same = one_spelling 39 (take one.len inner) spelling (drop one.len inner) (39 ∷ after) one.character c
        (take-append-drop one.len inner ∙ tail ∙ append_assoc spelling (39 ∷ []) after) spelled.spells spells in
        omega (arith, ap length is, length-append spelling (39 ∷ []), ap length same.0, length-take-le one.len inner spelled.within)

pub character_found : (text : List ℕ) (one : Spelled) → begins_with text 39 ≡ true → BeginsSpelled 39 (drop 1 text) one
    → begins_with (drop one.len (drop 1 text)) 39 ≡ true → IsLongestFront IsCharacter text (one.len + 2)
character_found text one begins spelled closes =
    let s : one.len + 2 ≡ suc (one.len + 1) = omega arith in
    rw s (subst (λ (x : List ℕ). IsLongestFront IsCharacter x (suc (one.len + 1))) (sym (begins_is text 39 begins))
    (character_at (drop 1 text) one spelled (begins_is (drop one.len (drop 1 text)) 39 closes)))

pub no_character : (text : List ℕ) (one : Spelled) → begins_with text 39 ≡ true → BeginsSpelled 39 (drop 1 text) one
    → begins_with (drop one.len (drop 1 text)) 39 ≡ false → NoFront IsCharacter text
no_character text one begins spelled other bytes after e (c, (spelling, is, spells)) =
    let whole : 39 ∷ drop 1 text ≡ 39 ∷ ((spelling ++ 39 ∷ []) ++ after) = sym (begins_is text 39 begins) ∙ e ∙ ap (λ (x : List ℕ). x ++ after) is in
    let tail : drop 1 text ≡ (spelling ++ 39 ∷ []) ++ after = (head_is 39 39 (drop 1 text) ((spelling ++ 39 ∷ []) ++ after) whole).1 in
    let same = one_spelling 39 (take one.len (drop 1 text)) spelling (drop one.len (drop 1 text)) (39 ∷ after) one.character c
    (take-append-drop one.len (drop 1 text) ∙ tail ∙ append_assoc spelling (39 ∷ []) after) spelled.spells spells in
    begins_not (drop one.len (drop 1 text)) 39 after other same.2

SpellText-append : (a b : List ℕ) (cs : List ℕ) (c : ℕ) → SpellText a cs → Spells 34 b c → c ≢ 0 → SpellText (a ++ b) (cs ++ c ∷ [])
SpellText-append a b [] c is one some = (b, [], rw is (sym (append-nil b)), one, some, refl)
SpellText-append a b (d ∷ ds) c (first, rest, e, spells, other, more) one some =
    (first, rest ++ b, ap (λ (x : List ℕ). x ++ b) e ∙ append_assoc first rest b, spells, other, SpellText-append rest b ds c more one some)

pub spells_none : (inner : List ℕ) → SpellsTo inner 0 []
spells_none inner = record { within = omega arith; so_far = refl; goes_on = λ spelling after cs e is. (spelling, cs, e, is, refl) }

-- one character more
pub spells_more : (inner : List ℕ) (at : ℕ) (characters : List ℕ) (one : Spelled) → SpellsTo inner at characters → BeginsSpelled 34 (drop at inner) one
    → one.character ≢ 0 → SpellsTo inner (at + one.len) (characters ++ one.character ∷ [])
spells_more inner at characters one spelled begins some = record { within = within; so_far = so_far; goes_on = goes_on }
  where
    within : at + one.len ≤ length inner
    within = omega (arith, spelled.within, begins.within, length-drop at inner)

    so_far : SpellText (take (at + one.len) inner) (characters ++ one.character ∷ [])
    so_far = rw (take-add at one.len inner) (SpellText-append (take at inner) (take one.len (drop at inner)) characters one.character spelled.so_far begins.spells some)

    goes_on : (spelling after cs : List ℕ) → inner ≡ spelling ++ 34 ∷ after → SpellText spelling cs
        → (rest : List ℕ) × (more : List ℕ) × (drop (at + one.len) inner ≡ rest ++ 34 ∷ after) × SpellText rest more × (cs ≡ (characters ++ one.character ∷ []) ++ more)
    goes_on spelling after cs e is =
        let before = spelled.goes_on spelling after cs e is in
        behind before.0 before.1 before.2 before.3 before.4
      where
        behind : (rest more : List ℕ) → drop at inner ≡ rest ++ 34 ∷ after → SpellText rest more → cs ≡ characters ++ more
            → (rest' : List ℕ) × (more' : List ℕ) × (drop (at + one.len) inner ≡ rest' ++ 34 ∷ after) × SpellText rest' more' × (cs ≡ (characters ++ one.character ∷ []) ++ more')
        behind rest [] here spells are =
            let quote : take one.len (drop at inner) ++ drop one.len (drop at inner) ≡ 34 ∷ after =
            take-append-drop one.len (drop at inner) ∙ here ∙ ap (λ (x : List ℕ). x ++ 34 ∷ after) spells in
            absurd (no_quote_spelling 34 (take one.len (drop at inner)) (drop one.len (drop at inner)) after one.character quote begins.spells (λ h. omega (arith, h)))
        behind rest (d ∷ ds) here (first, others, front, spells, other, last) are =
            let same = one_spelling 34 (take one.len (drop at inner)) first (drop one.len (drop at inner)) (others ++ 34 ∷ after) one.character d
            (take-append-drop one.len (drop at inner) ∙ here ∙ ap (λ (x : List ℕ). x ++ 34 ∷ after) front ∙ append_assoc first others (34 ∷ after)) begins.spells spells in (
              others,
              ds,
              sym (drop-drop one.len at inner) ∙ same.2,
              last,
              are ∙ ap (λ (c : ℕ). characters ++ c ∷ ds) (sym same.1) ∙ sym (append_assoc characters (one.character ∷ []) ds),
            )

-- a quote ends the text
pub text_ends : (inner : List ℕ) (at : ℕ) (characters : List ℕ) → SpellsTo inner at characters → begins_with (drop at inner) 34 ≡ true → EndsText inner at
text_ends inner at characters spelled quote = record {
  within = omega (arith, ap length begins, length-drop at inner);
  quote = sym (take-append-drop at inner) ∙ ap (λ (x : List ℕ). take at inner ++ x) (begins ∙ ap (λ (x : List ℕ). 34 ∷ x) (drop-drop 1 at inner));
  spells = (characters, spelled.so_far);
  only = only;
}
  where
    begins : drop at inner ≡ 34 ∷ drop 1 (drop at inner)
    begins = begins_is (drop at inner) 34 quote

    behind : (spelling after rest more : List ℕ) → inner ≡ spelling ++ 34 ∷ after → drop at inner ≡ rest ++ 34 ∷ after → SpellText rest more → length spelling ≡ at
    behind spelling after rest [] e here spells =
        omega (arith, ap length e, length-append spelling (34 ∷ after), ap length here, length-append rest (34 ∷ after), ap length spells, length-drop at inner, spelled.within)
    behind spelling after rest (d ∷ ds) e here (first, others, front, spells, other, last) =
        let quoted : first ++ (others ++ 34 ∷ after) ≡ 34 ∷ drop 1 (drop at inner) =
        sym (append_assoc first others (34 ∷ after)) ∙ ap (λ (x : List ℕ). x ++ 34 ∷ after) (sym front) ∙ sym here ∙ begins in
        absurd (no_quote_spelling 34 first (others ++ 34 ∷ after) (drop 1 (drop at inner)) d quoted spells (λ h. omega (arith, h)))

    only : (spelling after cs : List ℕ) → inner ≡ spelling ++ 34 ∷ after → SpellText spelling cs → length spelling ≡ at
    only spelling after cs e is =
        let before = spelled.goes_on spelling after cs e is in
        behind spelling after before.0 before.1 e before.2 before.3

-- no character begins where no quote stands
pub text_stops : (inner : List ℕ) (at : ℕ) (characters : List ℕ) → SpellsTo inner at characters → begins_with (drop at inner) 34 ≡ false → NoSpelling 34 (drop at inner) → NoTextEnd inner
text_stops inner at characters spelled other none spelling after cs e is =
    let before = spelled.goes_on spelling after cs e is in
    behind before.0 before.1 before.2 before.3
  where
    behind : (rest more : List ℕ) → drop at inner ≡ rest ++ 34 ∷ after → SpellText rest more → ⊥
    behind rest [] here spells = begins_not (drop at inner) 34 after other (here ∙ ap (λ (x : List ℕ). x ++ 34 ∷ after) spells)
    behind rest (d ∷ ds) here (first, others, front, spells, some, last) =
        none first (others ++ 34 ∷ after) d (here ∙ ap (λ (x : List ℕ). x ++ 34 ∷ after) front ∙ append_assoc first others (34 ∷ after)) spells

-- the character 0 stands in no text
pub text_has_no_zero : (inner : List ℕ) (at : ℕ) (characters : List ℕ) (one : Spelled) → SpellsTo inner at characters → BeginsSpelled 34 (drop at inner) one → one.character ≡ 0
    → NoTextEnd inner
text_has_no_zero inner at characters one spelled begins zero' spelling after cs e is =
    let before = spelled.goes_on spelling after cs e is in
    behind before.0 before.1 before.2 before.3
  where
    behind : (rest more : List ℕ) → drop at inner ≡ rest ++ 34 ∷ after → SpellText rest more → ⊥
    behind rest [] here spells =
        no_quote_spelling 34 (take one.len (drop at inner)) (drop one.len (drop at inner)) after one.character
        (take-append-drop one.len (drop at inner) ∙ here ∙ ap (λ (x : List ℕ). x ++ 34 ∷ after) spells) begins.spells (λ h. omega (arith, h))
    behind rest (d ∷ ds) here (first, others, front, spells, some, last) =
        let same = one_spelling 34 (take one.len (drop at inner)) first (drop one.len (drop at inner)) (others ++ 34 ∷ after) one.character d
        (take-append-drop one.len (drop at inner) ∙ here ∙ ap (λ (x : List ℕ). x ++ 34 ∷ after) front ∙ append_assoc first others (34 ∷ after)) begins.spells spells in
        some (sym same.1 ∙ zero')

text_at : (inner : List ℕ) (n : ℕ) → EndsText inner n → IsLongestFront IsText (34 ∷ inner) (suc (n + 1))
text_at inner n end = record {
  within = omega (arith, end.within);
  has = (end.spells.0, (take n inner, ap (λ (x : List ℕ). 34 ∷ x) front, end.spells.1));
  most = most;
}
  where
    size : length (take n inner) ≡ n
    size = length-take-le n inner (omega (arith, end.within))

    front : take (n + 1) inner ≡ take n inner ++ 34 ∷ []
    front = ap (take (n + 1)) end.quote ∙ ap (λ (k : ℕ). take (k + 1) (take n inner ++ 34 ∷ drop (n + 1) inner)) (sym size)
        ∙ take-append-add (take n inner) (34 ∷ drop (n + 1) inner) 1

    most : (bytes after : List ℕ) → 34 ∷ inner ≡ bytes ++ after → IsText bytes → length bytes ≤ suc (n + 1)
    most bytes after e (cs, (spelling, is, spells)) =
        let whole : 34 ∷ inner ≡ 34 ∷ ((spelling ++ 34 ∷ []) ++ after) = e ∙ ap (λ (x : List ℕ). x ++ after) is in
        let tail : inner ≡ (spelling ++ 34 ∷ []) ++ after = (head_is 34 34 inner ((spelling ++ 34 ∷ []) ++ after) whole).1 in
        omega (arith, end.only spelling after cs (tail ∙ append_assoc spelling (34 ∷ []) after) spells, ap length is, length-append spelling (34 ∷ []))

-- a text: a spelling between double quotes
pub text_found : (text : List ℕ) (n : ℕ) → begins_with text 34 ≡ true → EndsText (drop 1 text) n → IsLongestFront IsText text (n + 2)
text_found text n begins end =
    let s : n + 2 ≡ suc (n + 1) = omega arith in
    rw s (subst (λ (x : List ℕ). IsLongestFront IsText x (suc (n + 1))) (sym (begins_is text 34 begins)) (text_at (drop 1 text) n end))

pub no_text : (text : List ℕ) → begins_with text 34 ≡ true → NoTextEnd (drop 1 text) → NoFront IsText text
no_text text begins none bytes after e (cs, (spelling, is, spells)) =
    let whole : 34 ∷ drop 1 text ≡ 34 ∷ ((spelling ++ 34 ∷ []) ++ after) = sym (begins_is text 34 begins) ∙ e ∙ ap (λ (x : List ℕ). x ++ after) is in
    let tail : drop 1 text ≡ (spelling ++ 34 ∷ []) ++ after = (head_is 34 34 (drop 1 text) ((spelling ++ 34 ∷ []) ++ after) whole).1 in
    none spelling after cs (tail ∙ append_assoc spelling (34 ∷ []) after) spells

no_text_begun : (bytes : List ℕ) → begins_with bytes 34 ≡ true → NoTextEnd (drop 1 bytes) → (cs : List ℕ) → IsTextOf bytes cs → ⊥
no_text_begun bytes begins none cs (spelling, e, spells) =
    let whole : 34 ∷ drop 1 bytes ≡ 34 ∷ (spelling ++ 34 ∷ []) = sym (begins_is bytes 34 begins) ∙ e in
    none spelling [] cs (head_is 34 34 (drop 1 bytes) (spelling ++ 34 ∷ []) whole).1 spells

-- where no character's spelling goes on, the bytes denote no text
pub no_text_goes_on : (bytes : List ℕ) (at : ℕ) (characters : List ℕ) → begins_with bytes 34 ≡ true → SpellsTo (drop 1 bytes) at characters
    → begins_with (drop at (drop 1 bytes)) 34 ≡ false → NoSpelling 34 (drop at (drop 1 bytes)) → (cs : List ℕ) → IsTextOf bytes cs → ⊥
no_text_goes_on bytes at characters begins spelled other none = no_text_begun bytes begins (text_stops (drop 1 bytes) at characters spelled other none)

pub no_text_with_zero : (bytes : List ℕ) (at : ℕ) (characters : List ℕ) (one : Spelled) → begins_with bytes 34 ≡ true → SpellsTo (drop 1 bytes) at characters
    → BeginsSpelled 34 (drop at (drop 1 bytes)) one → one.character ≡ 0 → (cs : List ℕ) → IsTextOf bytes cs → ⊥
no_text_with_zero bytes at characters one begins spelled more is_zero = no_text_begun bytes begins (text_has_no_zero (drop 1 bytes) at characters one spelled more is_zero)

-- a text ends with its quote
pub no_text_before : (bytes : List ℕ) (at : ℕ) (characters : List ℕ) → begins_with bytes 34 ≡ true → SpellsTo (drop 1 bytes) at characters
    → begins_with (drop at (drop 1 bytes)) 34 ≡ true → length (drop at (drop 1 bytes)) ≢ 1 → (cs : List ℕ) → IsTextOf bytes cs → ⊥
no_text_before bytes at characters begins spelled quote longer cs (spelling, e, spells) =
    let whole : 34 ∷ drop 1 bytes ≡ 34 ∷ (spelling ++ 34 ∷ []) = sym (begins_is bytes 34 begins) ∙ e in
    let inner : drop 1 bytes ≡ spelling ++ 34 ∷ [] = (head_is 34 34 (drop 1 bytes) (spelling ++ 34 ∷ []) whole).1 in
    let size : length spelling ≡ at = (text_ends (drop 1 bytes) at characters spelled quote).only spelling [] cs inner spells in
    longer (omega (arith, length-drop at (drop 1 bytes), ap length inner, length-append spelling (34 ∷ []), size))

nothing_spelled : (rest more : List ℕ) → SpellText rest more → length rest ≡ 0 → more ≡ []
nothing_spelled rest [] spells none = refl
nothing_spelled rest (d ∷ ds) (first, others, e, spells, some, last) none =
    absurd (omega (arith, some_spelling 34 first d spells, ap length e, length-append first others, none))

-- what the characters up to the last quote are is what the bytes denote
pub text_is_one : (bytes : List ℕ) (at : ℕ) (characters : List ℕ) → begins_with bytes 34 ≡ true → SpellsTo (drop 1 bytes) at characters
    → begins_with (drop at (drop 1 bytes)) 34 ≡ true → length (drop at (drop 1 bytes)) ≡ 1 → FindsOne (IsTextOf bytes) (Some characters)
text_is_one bytes at characters begins spelled quote alone = ((take at (drop 1 bytes), here, spelled.so_far), only)
  where
    end : drop at (drop 1 bytes) ≡ 34 ∷ drop 1 (drop at (drop 1 bytes))
    end = begins_is (drop at (drop 1 bytes)) 34 quote

    last : drop at (drop 1 bytes) ≡ 34 ∷ []
    last = end ∙ ap (λ (x : List ℕ). 34 ∷ x) (nil_from_length (drop 1 (drop at (drop 1 bytes))) (omega (arith, ap length end, alone)))

    here : bytes ≡ 34 ∷ (take at (drop 1 bytes) ++ 34 ∷ [])
    here = begins_is bytes 34 begins ∙ ap (λ (x : List ℕ). 34 ∷ x) (sym (take-append-drop at (drop 1 bytes)) ∙ ap (λ (x : List ℕ). take at (drop 1 bytes) ++ x) last)

    only : (cs : List ℕ) → IsTextOf bytes cs → cs ≡ characters
    only cs (spelling, e, spells) =
        let whole : 34 ∷ drop 1 bytes ≡ 34 ∷ (spelling ++ 34 ∷ []) = sym (begins_is bytes 34 begins) ∙ e in
        let before = spelled.goes_on spelling [] cs (head_is 34 34 (drop 1 bytes) (spelling ++ 34 ∷ []) whole).1 spells in
        let none : length before.0 ≡ 0 = omega (arith, ap length before.2, length-append before.0 (34 ∷ []), alone) in
        before.4 ∙ ap (λ (x : List ℕ). characters ++ x) (nothing_spelled before.0 before.1 before.3 none) ∙ append-nil characters
