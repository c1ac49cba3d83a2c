-- What a command comes to as far as it is done.
use Rattle.std.proofs.Common.{◌≡◌, ◌∙◌, ℕ, List, [], ◌∷◌, ◌++◌, Result, Ok, Err, inl, inr, refl, sym, ap, ap₂, subst, append_assoc}
use Rattle.std.proofs.lemmas.Grind.{flat_map-append}
use Rattle.std.proofs.lemmas.List.{append-nil}
use Rattle.comp_tree.specs.Application.{Application}
use Rattle.replay_log.specs.Entry.{Entry}
use Rattle.replay_log.specs.Record.{IsRecord}
use Rattle.sed_node.specs.Replaying.{end_text}
use Rattle.sed_node.specs.Running.{line_of, lines_of}
use Rattle.sed_outside.specs.Steps.{AndThen, stops, goes_on}
use Rattle.sedona_words.specs.Command.{Command, Cycles, Check, Compile, Gen, New, NodeAsked, Replay, Run, Show}
use Rattle.sedona_cli.specs.declared.refusal.Refusal.{Refusal}
use Rattle.sedona_cli.specs.Given.{GivenRecord}
use Rattle.sedona_cli.specs.Outside.{Ask, reached}
use Rattle.sedona_cli.specs.Program.{Comes, ComesUntil}
use Rattle.sedona_cli.specs.Replay.{FailsAt, InputsRead, OpenedBy, ReplayStops, Replays, Stops}
use Rattle.sedona_cli.proofs.Ends.{err_ok}
use Rattle.sedona_laws.specs.Texts.{ComesSoFar, ReplaysFirst}
use Rattle.sedona_laws.proofs.Alike.{NeverRefused}

-- ---- what is done is done so far

pub as_first : (node : NodeAsked) (given : GivenRecord) (a : Application) (asks : List Ask) (end : Result (List ℕ) Refusal) → Replays node given a asks end → ReplaysFirst node given a asks end
as_first node given a asks end h = record {
  ran = h.ran;
  is_run = h.is_run;
  asks_are = h.asks_are;
  left = [];
  entries = subst (λ (l : List Entry). IsRecord given.text l) (sym (append-nil h.ran.entries)) h.entries;
  sent = h.sent;
  sends = h.sends;
  end_is = h.end_is;
}

pub first_never_refused : (node : NodeAsked) (given : GivenRecord) (a : Application) → NeverRefused (ReplaysFirst node given a)
first_never_refused node given a asks r replays = err_ok r _ replays.end_is

then_as : {X Y : Type 0} (S : List Ask → Result X Refusal → Type 0) (N M : X → List Ask → Result Y Refusal → Type 0) → ((x : X) (asks : List Ask) (end : Result Y Refusal) → N x asks end → M x asks end)
    → (asks : List Ask) (end : Result Y Refusal) → AndThen S N asks end → AndThen S M asks end
then_as S N M weaker asks end (stops r h e) = stops r h e
then_as S N M weaker asks end (goes_on f b x parts h n) = goes_on f b x parts h (weaker x b end n)

pub so_far : (command : Command) (asks : List Ask) (end : Result (List ℕ) Refusal) → Comes command asks end → ComesSoFar command asks end
so_far (Replay node file) asks end comes =
    then_as (InputsRead node file) (λ (given : GivenRecord). AndThen (OpenedBy node given) (Replays node given)) (λ (given : GivenRecord). AndThen (OpenedBy node given) (ReplaysFirst node given))
    (λ (given : GivenRecord) more last. then_as (OpenedBy node given) (Replays node given) (ReplaysFirst node given) (λ (a : Application) few final. as_first node given a few final) more last)
    asks end comes
so_far command asks end comes = comes

-- ---- where the sink failed a replay

-- the text of a run that was stopped: what was put, of what a front was put, and what would end it there
first_of : (node : NodeAsked) (given : GivenRecord) (a : Application) (asks : List Ask) (put last : List ℕ) → Stops node given a asks put last
    → (rest : List ℕ) × ReplaysFirst node given a asks (Ok (put ++ (last ++ rest)))
first_of node given a asks put last s = by s.fails
  where
    by : FailsAt s.ran s.left put last → (rest : List ℕ) × ReplaysFirst node given a asks (Ok (put ++ (last ++ rest)))
    by (inl f) =
        let rest : List ℕ = end_text s.ran.code (reached s.ran) in
        let lines : put ++ last ≡ lines_of (f.sent ++ f.sent_last) = ap₂ (λ (x y : List ℕ). x ++ y) f.put_are f.last_are ∙ sym (flat_map-append line_of f.sent f.sent_last) in (
          rest,
          record {
            ran = s.ran;
            is_run = s.is_run;
            asks_are = s.asks_are;
            left = s.left;
            entries = s.entries;
            sent = f.sent ++ f.sent_last;
            sends = f.sends;
            end_is = ap (λ (t : List ℕ). Ok t) (sym (append_assoc put last rest) ∙ ap (λ (x : List ℕ). x ++ rest) lines);
          },
        )
    by (inr f) = (
      [],
      record {
        ran = s.ran;
        is_run = s.is_run;
        asks_are = s.asks_are;
        left = s.left;
        entries = s.entries;
        sent = f.sent;
        sends = f.sends;
        end_is = ap (λ (t : List ℕ). Ok t) (ap (λ (x : List ℕ). put ++ x) (append-nil last) ∙ ap₂ (λ (x y : List ℕ). x ++ y) f.put_are f.last_are);
      },
    )

replay_until : (node : NodeAsked) (file : List ℕ) (asks : List Ask) (put last : List ℕ) → ReplayStops node file asks put last
    → (rest : List ℕ) × ComesSoFar (Replay node file) asks (Ok (put ++ (last ++ rest)))
replay_until node file asks put last s =
    let f = first_of node s.given s.application s.of_run put last s.stops in (
      f.0,
      goes_on s.of_inputs (s.of_store ++ s.of_run) s.given (s.asks_are ∙ append_assoc s.of_inputs s.of_store s.of_run) s.reads (goes_on s.of_store s.of_run s.application refl s.opens f.1),
    )

pub until_so_far : (command : Command) (asks : List Ask) (put last : List ℕ) → ComesUntil command asks put last → (rest : List ℕ) × ComesSoFar command asks (Ok (put ++ (last ++ rest)))
until_so_far (Cycles file count) asks put last until = absurd until
until_so_far (Check names) asks put last until = absurd until
until_so_far (Compile out names) asks put last until = absurd until
until_so_far (New names store slot) asks put last until = absurd until
until_so_far (Show names store limit) asks put last until = absurd until
until_so_far (Gen g) asks put last until = absurd until
until_so_far (Run r) asks put last until = absurd until
until_so_far (Replay node file) asks put last until = replay_until node file asks put last until
