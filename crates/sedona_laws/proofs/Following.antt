-- How a command is answered.
use Rattle.std.proofs.Common.{◌≡◌, ◌≤◌, ◌<◌, ℕ, List, [], ◌∷◌, length, Option, Some, None, Result, Ok, Err, refl, sym, ap, subst, ◌∙◌, inl, inr, arith}
use Rattle.std.specs.Prelude.{◌⊎◌, MatchOption, Contains}
use Rattle.std.specs.Option.{option_map_or}
use Rattle.std.specs.List.{flat_map}
use Rattle.std.proofs.lemmas.List.Elements.{Contains-append_left, Contains-append_right}
use Rattle.sed_outside.specs.Cause.{Rose}
use Rattle.sed_outside.specs.Files.{Contents, IsUnreadable, largest_file}
use Rattle.sed_outside.specs.Steps.{Read, Agree}
use Rattle.sed_outside.proofs.Joining.{both_empty}
use Rattle.sedona_laws.specs.Files.{unwritten_in}
use Rattle.sed_outside.specs.Reads.{AreGiven, AreKnown, AreTold, IsGiven, failed_name, failed_names}
use Rattle.sedona_cli.specs.declared.refusal.Refusal.{Refusal}
use Rattle.sedona_cli.specs.declared.refusal.Refusal.TheVariants.{FileFault, ImageBroken, ImageRefused, MethodTooLong, Refused, Rule, SlotTooSmall, DeviceFault, StoreExists, NoStore, NoApplication, WrongKits, OverLimit, BadUsers, ShortSecret, BadRecord, LinkFault, Memory}
use Rattle.sedona_laws.specs.Agree.{AgreeOn, failed_by, failed_calls}
use Rattle.sedona_words.specs.Command.{Command, output_of}
use Rattle.sedona_cli.specs.Outside.{Ask, reads_in}
use Rattle.sedona_cli.specs.Status.{number_of, status_of}
use Rattle.sedona_cli.specs.Program.{Comes, ComesUntil, IsAnswer, done, unput, stopped, refused, wanted}
use Rattle.sedona_laws.specs.Told.{DidNotFail, Follows, given_name}
use Rattle.sedona_laws.proofs.CommandEnds.{TellsCalls, until_comes}
use Rattle.sedona_laws.proofs.InputsOnce.{HasOneEnd}
use Rattle.sedona_cli.proofs.Ends.{some_refusal, no_refusal}

-- ---- what must come

pub answer_follows : (command : Command) (made told : List Ask) (before after : Option (List ℕ)) (fb fa n : ℕ) (end : Result (List ℕ) Refusal)
    → HasOneEnd (Comes command) → Comes command told end → AgreeOn made told → IsAnswer command made before after fb fa n → Follows fb fa end n
answer_follows command made told before after fb fa n (Ok text) one comes agree (done t came is put same) = (λ steady. inl is, λ moved. absurd (moved same))
answer_follows command made told before after fb fa n (Ok text) one comes agree (unput t came at_once is rose front) = (λ steady. absurd (steady rose), λ moved. inl is)
answer_follows command made told before after fb fa n (Ok text) one comes agree (stopped put last until is rose front) = (λ steady. absurd (steady rose), λ moved. inl is)
answer_follows command made told before after fb fa n (Ok text) one comes agree (refused refusal came is puts) =
    absurd (no_refusal refusal (one made told (Err refusal) (Ok text) agree came comes))
answer_follows command made told before after fb fa n (Ok text) one comes agree (wanted spared is puts) = (λ steady. inr (inl is), λ moved. inr (inl is))
answer_follows command made told before after fb fa n (Err why) one comes agree (done t came is put same) =
    absurd (no_refusal why (sym (one made told (Ok t) (Err why) agree came comes)))
answer_follows command made told before after fb fa n (Err why) one comes agree (unput t came at_once is rose front) =
    absurd (no_refusal why (sym (one made told (Ok t) (Err why) agree came comes)))
answer_follows command made told before after fb fa n (Err why) one comes agree (stopped put last until is rose front) =
    let start = until_comes command made put last until in
    absurd (no_refusal why (sym (one start.more told (Ok start.text) (Err why) (start.agrees told agree) start.comes comes)))
answer_follows command made told before after fb fa n (Err why) one comes agree (refused refusal came is puts) =
    inl (is ∙ ap (λ (r : Refusal). number_of (status_of r)) (some_refusal refusal why (one made told (Err refusal) (Err why) agree came comes)))
answer_follows command made told before after fb fa n (Err why) one comes agree (wanted spared is puts) = inr (inl is)

-- want of memory may come in the place of each
pub seven_follows : (fb fa n : ℕ) (end : Result (List ℕ) Refusal) → n ≡ 7 → Follows fb fa end n
seven_follows fb fa n (Ok text) seven = (λ steady. inr (inl seven), λ moved. inr (inl seven))
seven_follows fb fa n (Err why) seven = inr (inl seven)

-- ---- the count of a file that moved

-- No count moves where the end of a command tells no call that failed.
pub record Stays (command : Command) (made : List Ask) (old now : List ℕ → ℕ) : Type 0 where
  pub comes : (end : Result (List ℕ) Refusal) → Comes command made end → failed_by end ≡ [] → (name : List ℕ) → now name ≡ old name
  pub until : (put last : List ℕ) → ComesUntil command made put last → (name : List ℕ) → now name ≡ old name

-- the reads that failed tell it
pub reads_stay : (command : Command) (made : List Ask) (old now : List ℕ → ℕ) → TellsCalls command → (failed_names (reads_in made) ≡ [] → (name : List ℕ) → now name ≡ old name) → Stays command made old now
reads_stay command made old now tells steady = record {
  comes = λ end came none. steady (no_reads_failed (output_of command) made (tells made end came ∙ none));
  until = λ put last until.
      let start = until_comes command made put last until in
      steady (ap failed_names (sym start.reads) ∙ no_reads_failed (output_of command) start.more (tells start.more (Ok start.text) start.comes));
}
  where
    no_reads_failed : (out : Option (List ℕ)) (asks : List Ask) → failed_calls out asks ≡ [] → failed_names (reads_in asks) ≡ []
    no_reads_failed None asks none = none
    no_reads_failed (Some name) asks none = (both_empty (failed_names (reads_in asks)) (unwritten_in asks) none).0

-- so do the writes, where a command has an output file
pub writes_stay : (command : Command) (made : List Ask) (old now : List ℕ → ℕ) → TellsCalls command → (output_of command ≡ None → (name : List ℕ) → now name ≡ old name)
    → ((put last : List ℕ) → ComesUntil command made put last → output_of command ≡ None) → (unwritten_in made ≡ [] → (name : List ℕ) → now name ≡ old name) → Stays command made old now
writes_stay command made old now tells none never steady = record {
  comes = λ end came told. by (output_of command) none (tells made end came ∙ told);
  until = λ put last until. none (never put last until);
}
  where
    by : (out : Option (List ℕ)) → (out ≡ None → (name : List ℕ) → now name ≡ old name) → failed_calls out made ≡ [] → (name : List ℕ) → now name ≡ old name
    by None kept told = kept refl
    by (Some name) kept told = steady (both_empty (failed_names (reads_in made)) (unwritten_in made) told).1

pub file_fault : (command : Command) (made : List Ask) (before after : Option (List ℕ)) (fb fa n : ℕ) (old now : List ℕ → ℕ) (name : List ℕ) → Stays command made old now
    → IsAnswer command made before after fb fa n → (now name ≡ old name → ⊥) → (n ≡ 3) ⊎ (n ≡ 7)
file_fault command made before after fb fa n old now name stays (done text came is put same) moved = absurd (moved (stays.comes (Ok text) came refl name))
file_fault command made before after fb fa n old now name stays (unput text came at_once is rose front) moved = absurd (moved (stays.comes (Ok text) came refl name))
file_fault command made before after fb fa n old now name stays (stopped put last until is rose front) moved =
    absurd (moved (stays.until put last until name))
file_fault command made before after fb fa n old now name stays (wanted left is puts) moved = inr is
file_fault command made before after fb fa n old now name stays (refused (FileFault file) came is puts) moved = inl is
file_fault command made before after fb fa n old now name stays (refused (Refused file why) came is puts) moved = absurd (moved (stays.comes (Err (Refused file why)) came refl name))
file_fault command made before after fb fa n old now name stays (refused (Rule file at rule) came is puts) moved = absurd (moved (stays.comes (Err (Rule file at rule)) came refl name))
file_fault command made before after fb fa n old now name stays (refused (MethodTooLong number) came is puts) moved = absurd (moved (stays.comes (Err (MethodTooLong number)) came refl name))
file_fault command made before after fb fa n old now name stays (refused (ImageRefused at) came is puts) moved = absurd (moved (stays.comes (Err (ImageRefused at)) came refl name))
file_fault command made before after fb fa n old now name stays (refused (ImageBroken method at rule) came is puts) moved = absurd (moved (stays.comes (Err (ImageBroken method at rule)) came refl name))
file_fault command made before after fb fa n old now name stays (refused (SlotTooSmall needs has) came is puts) moved =
    absurd (moved (stays.comes (Err (SlotTooSmall needs has)) came refl name))
file_fault command made before after fb fa n old now name stays (refused DeviceFault came is puts) moved = absurd (moved (stays.comes (Err DeviceFault) came refl name))
file_fault command made before after fb fa n old now name stays (refused LinkFault came is puts) moved = absurd (moved (stays.comes (Err LinkFault) came refl name))
file_fault command made before after fb fa n old now name stays (refused StoreExists came is puts) moved = absurd (moved (stays.comes (Err StoreExists) came refl name))
file_fault command made before after fb fa n old now name stays (refused NoStore came is puts) moved = absurd (moved (stays.comes (Err NoStore) came refl name))
file_fault command made before after fb fa n old now name stays (refused NoApplication came is puts) moved = absurd (moved (stays.comes (Err NoApplication) came refl name))
file_fault command made before after fb fa n old now name stays (refused (WrongKits kit in_file in_kits) came is puts) moved = absurd (moved (stays.comes (Err (WrongKits kit in_file in_kits)) came refl name))
file_fault command made before after fb fa n old now name stays (refused (OverLimit which) came is puts) moved = absurd (moved (stays.comes (Err (OverLimit which)) came refl name))
file_fault command made before after fb fa n old now name stays (refused BadUsers came is puts) moved = absurd (moved (stays.comes (Err BadUsers) came refl name))
file_fault command made before after fb fa n old now name stays (refused ShortSecret came is puts) moved = absurd (moved (stays.comes (Err ShortSecret) came refl name))
file_fault command made before after fb fa n old now name stays (refused (BadRecord at) came is puts) moved = absurd (moved (stays.comes (Err (BadRecord at)) came refl name))
file_fault command made before after fb fa n old now name stays (refused Memory came is puts) moved = absurd (moved (stays.comes (Err Memory) came refl name))

-- ---- what is told agrees with what was made

here : (name : List ℕ) → Contains (name ∷ []) name
here name = (0, omega arith, refl)

unreadable : (held : Option (List ℕ)) (text : List ℕ) → held ≡ Some text → length text ≤ largest_file → IsUnreadable held → ⊥
unreadable None text is small un = absurd (cc)
unreadable (Some t) text is small un =
    let same : t ≡ text = cc in
    let large : largest_file < length text = subst (λ (b : List ℕ). largest_file < length b) same un in
    omega (arith, small, large)

alike : (files : Contents) (before now : List ℕ → ℕ) (name other : List ℕ) (a b : Option (List ℕ)) → MatchOption a (Unit {0}) (IsGiven (Some files) name)
    → ((n : List ℕ) → Contains (option_map_or (λ text. []) a (name ∷ [])) n → Rose (before n) (now n))
    → MatchOption b (IsUnreadable (files other)) (λ text. files other ≡ Some text)
    → ((n : List ℕ) → Contains (option_map_or (λ text. other ∷ []) b []) n → Rose (before n) (now n) → ⊥) → name ≡ other → a ≡ b
alike files before now name other None None given rose told unfailed same = refl
alike files before now name other None (Some u) given rose told unfailed same =
    absurd (unfailed other (here other) (subst (λ (n : List ℕ). Rose (before n) (now n)) same (rose name (here name))))
alike files before now name other (Some t) None given rose told unfailed same =
    absurd (unreadable (files other) t (ap files (sym same) ∙ given.told) given.small told)
alike files before now name other (Some t) (Some u) given rose told unfailed same = sym given.told ∙ ap files same ∙ told

made_agree : (files : Contents) (before now : List ℕ → ℕ) (made told : List Read) → AreGiven (Some files) made
    → ((name : List ℕ) → Contains (failed_names made) name → Rose (before name) (now name)) → AreTold files told → DidNotFail before now told → Agree made told
made_agree files before now [] told given rose are unfailed = tt
made_agree files before now (r ∷ made) [] given rose are unfailed = tt
made_agree files before now (r ∷ made) (s ∷ told) given rose are unfailed = (
  λ same. alike files before now r.name s.name r.gave s.gave given.0
      (λ n there. rose n (Contains-append_left (failed_name r) (failed_names made) n there)) are.0
      (λ n there. unfailed n (Contains-append_left (given_name s) (flat_map given_name told) n there)) same,
  made_agree files before now made told given.1 (λ n there. rose n (Contains-append_right (failed_name r) (failed_names made) n there)) are.1
      (λ n there. unfailed n (Contains-append_right (given_name s) (flat_map given_name told) n there)),
)

pub known_agree : (known : Option Contents) (before now : List ℕ → ℕ) (made told : List Read) → AreGiven known made
    → ((name : List ℕ) → Contains (failed_names made) name → Rose (before name) (now name)) → AreKnown known told → DidNotFail before now told → Agree made told
known_agree None before now made told given rose are unfailed = absurd are
known_agree (Some files) before now made told given rose are unfailed = made_agree files before now made told given rose are unfailed
