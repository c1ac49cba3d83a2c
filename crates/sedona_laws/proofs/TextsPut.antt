-- What is put with status 0.
use Rattle.std.proofs.Common.{◌≡◌, ◌∙◌, ℕ, List, Option, Some, None, Result, Ok, Err, refl, sym, ap, arith}
use Rattle.sed_outside.specs.Sink.{with_text}
use Rattle.sed_outside.specs.declared.files.Files.{Ghosts as FileGhosts}
use Rattle.disk_model.specs.declared.disk.Disk.{Ghosts as DiskGhosts}
use Rattle.sedona_words.specs.Command.{Command}
use Rattle.sedona_cli.specs.declared.refusal.Refusal.{Refusal}
use Rattle.sedona_cli.specs.declared.refusal.Refusal.TheVariants.{FileFault, ImageBroken, ImageRefused, MethodTooLong, Refused, Rule, SlotTooSmall, DeviceFault, StoreExists, NoStore, NoApplication, WrongKits, OverLimit, BadUsers, ShortSecret, BadRecord, LinkFault, Memory}
use Rattle.sedona_cli.specs.Outside.{Ask}
use Rattle.sedona_cli.specs.Program.{Comes, IsAnswer, done, unput, stopped, refused, wanted}
use Rattle.sedona_cli.specs.Status.{number_of, status_of}
use Rattle.sedona_cli.specs.Writing.{AsksOf}
use Rattle.sedona_cli.proofs.Asking.{same_asks}
use Rattle.sedona_cli.proofs.WriteSteps.{same_output}
use Rattle.sedona_laws.specs.Agree.{AgreeOnAll}
use Rattle.sedona_laws.specs.Texts.{PutOne}

-- no refusal is told by 0
never_0 : (r : Refusal) → 0 ≡ number_of (status_of r) → ⊥
never_0 (FileFault file) e = omega (arith, e)
never_0 (Refused file why) e = omega (arith, e)
never_0 (Rule file at rule) e = omega (arith, e)
never_0 (MethodTooLong n) e = omega (arith, e)
never_0 (ImageRefused at) e = omega (arith, e)
never_0 (ImageBroken method at rule) e = omega (arith, e)
never_0 (SlotTooSmall needs has) e = omega (arith, e)
never_0 DeviceFault e = omega (arith, e)
never_0 StoreExists e = omega (arith, e)
never_0 NoStore e = omega (arith, e)
never_0 NoApplication e = omega (arith, e)
never_0 (WrongKits kit in_file in_kits) e = omega (arith, e)
never_0 (OverLimit which) e = omega (arith, e)
never_0 BadUsers e = omega (arith, e)
never_0 ShortSecret e = omega (arith, e)
never_0 (BadRecord at) e = omega (arith, e)
never_0 LinkFault e = omega (arith, e)
never_0 Memory e = omega (arith, e)

-- the text that was put with status 0
record PutAll (command : Command) (asks : List Ask) (before after : Option (List ℕ)) : Type 0 where
  text : List ℕ
  comes : Comes command asks (Ok text)
  put : after ≡ with_text before text

put_all : (command : Command) (asks : List Ask) (before after : Option (List ℕ)) (fb fa n : ℕ) → n ≡ 0 → IsAnswer command asks before after fb fa n → PutAll command asks before after
put_all command asks before after fb fa n zeros (done text comes is put same) = record { text = text; comes = comes; put = put }
put_all command asks before after fb fa n zeros (unput text comes at_once is rose front) = absurd (omega (arith, is, zeros))
put_all command asks before after fb fa n zeros (stopped put last until is rose front) = absurd (omega (arith, is, zeros))
put_all command asks before after fb fa n zeros (refused r comes is puts) = absurd (never_0 r (sym zeros ∙ is))
put_all command asks before after fb fa n zeros (wanted spared is puts) = absurd (omega (arith, is, zeros))

one_value : (x y : List ℕ) → ◌≡◌ {A = Result (List ℕ) Refusal} (Ok x) (Ok y) → x ≡ y
one_value x y same = cc

-- a command has one end, its text too
abbrev pub EndsOnce : Type 0
EndsOnce =
    (command : Command) (asks others : List Ask) (end other : Result (List ℕ) Refusal) → AgreeOnAll asks others → Comes command asks end → Comes command others other → end ≡ other

pub put_one : EndsOnce → (command : Command) (asks others : List Ask) (before after earlier later : Option (List ℕ)) (fb fa gb ga : ℕ) → AgreeOnAll asks others
    → IsAnswer command asks before after fb fa 0 → IsAnswer command others earlier later gb ga 0 → PutOne before after earlier later
put_one one command asks others before after earlier later fb fa gb ga agree answer other =
    let here = put_all command asks before after fb fa 0 refl answer in
    let there = put_all command others earlier later gb ga 0 refl other in
    record {
      text = here.text;
      here = here.put;
      there = there.put ∙ ap (with_text earlier) (one_value there.text here.text (sym (one command asks others (Ok here.text) (Ok there.text) agree here.comes there.comes)));
    }

-- what was asked, told by another fact
pub asks_so : {S T : Type 0} (F : FileGhosts S) (D : DiskGhosts T) (out : Option (List ℕ)) (a b : S) (d e : T) (P Q : List Ask → Type 0) → ((asks : List Ask) → P asks → Q asks) → AsksOf F D out a b d e P → AsksOf F D out a b d e Q
asks_so F D None a b d e P Q map has = same_asks F D a b d e P Q map has
asks_so F D (Some name) a b d e P Q map has = (has.0, same_output F name a b P Q map has.1)
