-- What a command comes to: one end, the reads that failed, and what is asked until a refusal.
use Rattle.std.proofs.Common.{◌≡◌, ◌⊎◌, ℕ, true, List, ◌++◌, Some, None, Result, Err, sym, ap, subst, ◌∙◌, inl, inr}
use Rattle.std.proofs.lemmas.List.{append-nil}
use Rattle.sed_typed.specs.declared.program.Program.{Program}
use Rattle.sed_engine.specs.Program.{meaning_of}
use Rattle.sed_outside.specs.Steps.{Read, AndThen, stops, goes_on}
use Rattle.sedona_cli.specs.declared.refusal.Refusal.{Refusal}
use Rattle.sedona_words.specs.Command.{Command, Cycles, Check, Compile, Gen, New, Replay, Run, Show, store_of}
use Rattle.sedona_cli.specs.Outside.{Ask, of_reads, Spares}
use Rattle.sedona_cli.specs.Program.{Comes}
use Rattle.sedona_cli.specs.Refusals.{is_worded}
use Rattle.sedona_cli.specs.Steps.{KitsGenerated, OfReads, Prints, TextGenerated, done_text}
use Rattle.sed_cycles.specs.Cycles.{text_after}
use Rattle.sedona_cli.proofs.Asking.{reads_spare}
use Rattle.sedona_cli.proofs.Imaging.{compile_spares}
use Rattle.sedona_cli.proofs.Recording.{gen_spares}
use Rattle.sedona_cli.proofs.Ends.{not_both}
use Rattle.sedona_cli.proofs.LiveAsked.{Unbound, run_asked}
use Rattle.sedona_cli.proofs.ReplayAsked.{replay_asked}
use Rattle.sedona_cli.proofs.StoreAsked.{IsOpening, StoreAsked, new_asked, show_asked, spares_worded}

-- ---- what is asked until a refusal

prints_read : (step : List Read → Result Program Refusal → Type 0) (text : Program → List ℕ) (asks : List Ask) (end : Result (List ℕ) Refusal) → AndThen (OfReads step) (λ p. Prints (text p)) asks end
    → (reads : List Read) × (asks ≡ of_reads reads)
prints_read step text asks end (stops r h e) = (h.0, h.1)
prints_read step text asks end (goes_on f b p parts h n) = (h.0, parts ∙ ap (λ (a : List Ask). a ++ b) h.1 ∙ ap (λ (l : List Ask). of_reads h.0 ++ l) n.none ∙ append-nil (of_reads h.0))

-- these read alone
abbrev pub ReadsAlone : Command → Type 0
ReadsAlone (Cycles file count) = Unit {0}
ReadsAlone (Check names) = Unit {0}
ReadsAlone (Compile out names) = ⊥
ReadsAlone (New names store slot) = ⊥
ReadsAlone (Show names store limit) = ⊥
ReadsAlone (Replay node file) = ⊥
ReadsAlone (Run r) = ⊥
ReadsAlone (Gen g) = ⊥

pub reads_alone : (command : Command) (asks : List Ask) (end : Result (List ℕ) Refusal) → ReadsAlone command → Comes command asks end → (reads : List Read) × (asks ≡ of_reads reads)
reads_alone (Cycles file count) asks end alone comes = prints_read (TextGenerated file) (λ p. text_after (meaning_of p) count) asks end comes
reads_alone (Check names) asks end alone comes = prints_read (KitsGenerated names) (λ p. done_text) asks end comes
reads_alone (Compile out names) asks end alone comes = absurd alone
reads_alone (New names store slot) asks end alone comes = absurd alone
reads_alone (Show names store limit) asks end alone comes = absurd alone
reads_alone (Replay node file) asks end alone comes = absurd alone
reads_alone (Run r) asks end alone comes = absurd alone
reads_alone (Gen g) asks end alone comes = absurd alone

-- the line of a port that is not taken takes none
unworded : (store : List ℕ) (port : ℕ) (asks : List Ask) (refusal : Refusal) → is_worded refusal ≡ true → Unbound store port asks refusal → ⊥
unworded store port asks refusal worded by = not_both (is_worded refusal) worded (ap is_worded by.is_link)

run_spares : (store : List ℕ) (port : ℕ) (asks : List Ask) (refusal : Refusal) → is_worded refusal ≡ true → StoreAsked IsOpening store asks (Some refusal) ⊎ Unbound store port asks refusal → Spares (Some store) asks
run_spares store port asks refusal worded (inl by) = spares_worded _ store asks refusal worded by
run_spares store port asks refusal worded (inr by) = absurd (unworded store port asks refusal worded by)

-- these read alone, and spare all
reads_spared : (command : Command) (asks : List Ask) (end : Result (List ℕ) Refusal) → ReadsAlone command → Comes command asks end → Spares None asks
reads_spared command asks end alone comes =
    let (reads, is) = reads_alone command asks end alone comes in subst (λ (l : List Ask). Spares None l) (sym is) (reads_spare None reads)

-- until a refusal whose line takes memory nothing of the store is written, and no file
pub spares_early : (command : Command) (asks : List Ask) (refusal : Refusal) → is_worded refusal ≡ true → Comes command asks (Err refusal) → Spares (store_of command) asks
spares_early (Cycles file count) asks refusal worded comes = reads_spared (Cycles file count) asks (Err refusal) tt comes
spares_early (Check names) asks refusal worded comes = reads_spared (Check names) asks (Err refusal) tt comes
spares_early (Compile out names) asks refusal worded comes = compile_spares out names asks refusal comes
spares_early (Gen g) asks refusal worded comes = gen_spares g asks refusal comes
spares_early (New names store slot) asks refusal worded comes = spares_worded _ store asks refusal worded (new_asked names store slot asks (Err refusal) comes)
spares_early (Show names store limit) asks refusal worded comes = spares_worded _ store asks refusal worded (show_asked names store limit asks (Err refusal) comes)
spares_early (Replay node file) asks refusal worded comes = spares_worded _ node.store asks refusal worded (replay_asked node file asks refusal comes)
spares_early (Run r) asks refusal worded comes = run_spares r.node.store r.port asks refusal worded (run_asked r asks refusal comes)
