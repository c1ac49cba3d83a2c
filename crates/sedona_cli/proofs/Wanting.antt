-- Where memory was wanted for the words, nothing was asked of the outside.
use Rattle.std.proofs.Common.{◌≡◌, ℕ, List, [], ◌∷◌, ◌++◌, Option, Some, None, inl, inr, refl, arith}
use Rattle.sed_outside.specs.declared.files.Files.{Ghosts as FileGhosts}
use Rattle.sed_outside.specs.declared.clock.Clock.{Ghosts as ClockGhosts}
use Rattle.sed_outside.specs.declared.link.Link.{Ghosts as LinkGhosts}
use Rattle.sed_outside.specs.declared.sink.Sink.{Ghosts as SinkGhosts}
use Rattle.disk_model.specs.declared.disk.Disk.{Ghosts as DiskGhosts}
use Rattle.sed_outside.proofs.Joining.{no_reads}
use Rattle.sedona_words.specs.Command.{Command, Cycles, Check, Compile, Gen, New, Replay, Run, Show, output_of, store_of}
use Rattle.sedona_cli.specs.Does.{Does}
use Rattle.sedona_cli.specs.Lines.{memory_line}
use Rattle.sedona_cli.specs.Outside.{Ask, of_reads}
use Rattle.sedona_cli.specs.Program.{AsksLiveOf, IsAnswer, wanted}
use Rattle.sedona_cli.specs.Puts.{IsOneOf, Puts}
use Rattle.sedona_cli.specs.Run.{at_link, unasked}
use Rattle.sedona_cli.specs.World.{world}
use Rattle.sedona_cli.specs.Writing.{AsksOf, HasWrite, nothing}
use Rattle.sedona_cli.proofs.Building.{no_asks, nothing_spared}

-- how it is answered
wants_words : (command : Command) (before after : Option (List ℕ)) (fb fa status : ℕ) → status ≡ 7 → Puts before after fb fa memory_line → IsAnswer command [] before after fb fa status
wants_words command before after fb fa status seven puts = wanted (nothing_spared (store_of command)) seven puts

nothing_asked : {S T : Type 0} (F : FileGhosts S) (D : DiskGhosts T) (out : Option (List ℕ)) (x : S) (d : T) (P : List Ask → Type 0) → P [] → AsksOf F D out x x d d P
nothing_asked F D None x d P holds = no_asks F D x d P holds
nothing_asked F D (Some name) x d P holds =
    (refl, (x, no_reads F x (λ reads. HasWrite F name x x (λ writes. P (of_reads reads ++ writes))) (nothing refl holds)))

-- 7 tells neither that all was done nor that a port was asked for
not_done : (status : ℕ) → status ≡ 7 → IsOneOf (0 ∷ 8 ∷ []) status → ⊥
not_done status seven (inl e) = absurd (omega (arith, seven, e))
not_done status seven (inr (inl e)) = absurd (omega (arith, seven, e))
not_done status seven (inr (inr never)) = never

seven_link : (status : ℕ) → status ≡ 7 → IsOneOf at_link status → ⊥
seven_link status seven (inl e) = absurd (omega (arith, seven, e))
seven_link status seven (inr (inl e)) = absurd (omega (arith, seven, e))
seven_link status seven (inr (inr (inl e))) = absurd (omega (arith, seven, e))
seven_link status seven (inr (inr (inr never))) = never

not_live : {S T U V : Type 0} (F : FileGhosts S) (D : DiskGhosts T) (L : LinkGhosts U) (C : ClockGhosts V) (command : Command) (x : S) (link : U) (clock : V) (d : T) (before after : Option (List ℕ)) (status : ℕ) → status ≡ 7
    → AsksLiveOf F D L C command x x link link clock clock d d before after status
not_live F D L C (Cycles file count) x link clock d before after status seven = (refl, refl)
not_live F D L C (Check names) x link clock d before after status seven = (refl, refl)
not_live F D L C (Compile image names) x link clock d before after status seven = (refl, refl)
not_live F D L C (New names store slot) x link clock d before after status seven = (refl, refl)
not_live F D L C (Show names store limit) x link clock d before after status seven = (refl, refl)
not_live F D L C (Replay node file) x link clock d before after status seven = (refl, refl)
not_live F D L C (Run r) x link clock d before after status seven = unasked (seven_link status seven) refl refl
not_live F D L C (Gen g) x link clock d before after status seven = (refl, refl)

pub wanted_words : {S U V T W : Type 0} (F : FileGhosts S) (L : LinkGhosts U) (C : ClockGhosts V) (D : DiskGhosts T) (O : SinkGhosts W) (command : Command) (x : S) (link : U) (clock : V) (d : T) (sink sink_now : W) (status : ℕ)
    → status ≡ 7 → Puts (O.text sink) (O.text sink_now) (O.faults sink) (O.faults sink_now) memory_line → Does F L C D O command (world x link clock d sink) (world x link clock d sink_now) status
wanted_words F L C D O command x link clock d sink sink_now status seven puts = record {
  answered = nothing_asked F D (output_of command) x d _ (wants_words command (O.text sink) (O.text sink_now) (O.faults sink) (O.faults sink_now) status seven puts);
  leaves = λ at. absurd (not_done status seven at);
  live = not_live F D L C command x link clock d (O.text sink) (O.text sink_now) status seven;
}
