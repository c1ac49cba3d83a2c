-- What is put is a front of one text, whatever the status.
use Rattle.std.proofs.Common.{◌≡◌, ◌∙◌, ℕ, List, ◌++◌, length, inl, inr, Option, Result, Ok, Err, refl, sym, ap, subst}
use Rattle.std.proofs.Math.Seq.{take-length}
use Rattle.sed_outside.specs.Sink.{PutsFront, with_text}
use Rattle.printed_app.proofs.Sequence.{puts_front}
use Rattle.sedona_words.specs.Command.{Command}
use Rattle.sedona_cli.specs.declared.refusal.Refusal.{Refusal}
use Rattle.sedona_cli.specs.Outside.{Ask}
use Rattle.sedona_cli.specs.Program.{IsAnswer, done, unput, stopped, refused, wanted}
use Rattle.sedona_laws.specs.Agree.{AgreeOnAll}
use Rattle.sedona_laws.specs.Texts.{ComesSoFar, PutFronts, PutsText, of_end, of_run, of_want, text_of}
use Rattle.sedona_laws.proofs.SoFar.{so_far, until_so_far}

-- all of a text is a front of it
all_front : (before after : Option (List ℕ)) (text : List ℕ) → after ≡ with_text before text → PutsFront before after text
all_front before after text put = (length text, put ∙ ap (with_text before) (sym (take-length text)))

pub puts_text : (command : Command) (asks : List Ask) (before after : Option (List ℕ)) (fb fa status : ℕ) → IsAnswer command asks before after fb fa status → PutsText command asks before after fb fa status
puts_text command asks before after fb fa status (done text comes is put same) = of_end (Ok text) comes (inl is) (record { front = all_front before after text put; whole = λ none. put })
puts_text command asks before after fb fa status (unput text comes at_once is rose front) = of_end (Ok text) comes (inr (inl is)) (record { front = front; whole = λ none. absurd (none rose) })
puts_text command asks before after fb fa status (stopped put last until is rose front) =
    let far = until_so_far command asks put last until in
    of_run (put ++ (last ++ far.0)) far.1 is (record { front = puts_front before (with_text before put) after put last far.0 refl front; whole = λ none. absurd (none rose) })
puts_text command asks before after fb fa status (refused r comes is puts) = of_end (Err r) comes is puts
puts_text command asks before after fb fa status (wanted spared is puts) = of_want is puts

-- the end of whose text a front was put
record PutsEnd (command : Command) (asks : List Ask) (before after : Option (List ℕ)) : Type 0 where
  end : Result (List ℕ) Refusal
  comes : ComesSoFar command asks end
  front : PutsFront before after (text_of end)

put_end : (command : Command) (asks : List Ask) (before after : Option (List ℕ)) (fb fa status : ℕ) → (status ≡ 7 → ⊥) → PutsText command asks before after fb fa status → PutsEnd command asks before after
put_end command asks before after fb fa status other (of_end end comes told puts) = record { end = end; comes = so_far command asks end comes; front = puts.front }
put_end command asks before after fb fa status other (of_run text comes is puts) = record { end = Ok text; comes = comes; front = puts.front }
put_end command asks before after fb fa status other (of_want is puts) = absurd (other is)

-- a command has one end, as far as it is done
abbrev pub EndsSoFarOnce : Type 0
EndsSoFarOnce =
    (command : Command) (asks others : List Ask) (end other : Result (List ℕ) Refusal) → AgreeOnAll asks others → ComesSoFar command asks end → ComesSoFar command others other → end ≡ other

pub fronts_one : EndsSoFarOnce → (command : Command) (asks others : List Ask) (before after earlier later : Option (List ℕ)) (fb fa gb ga status number : ℕ) → AgreeOnAll asks others
    → IsAnswer command asks before after fb fa status → IsAnswer command others earlier later gb ga number → (status ≡ 7 → ⊥) → (number ≡ 7 → ⊥) → PutFronts command asks before after earlier later
fronts_one one command asks others before after earlier later fb fa gb ga status number agree answer told no_want none_wanted =
    let here = put_end command asks before after fb fa status no_want (puts_text command asks before after fb fa status answer) in
    let there = put_end command others earlier later gb ga number none_wanted (puts_text command others earlier later gb ga number told) in
    let same = one command asks others here.end there.end agree here.comes there.comes in
    record {
      end = here.end;
      comes = here.comes;
      here = here.front;
      there = subst (λ (end : Result (List ℕ) Refusal). PutsFront earlier later (text_of end)) (sym same) there.front;
    }
