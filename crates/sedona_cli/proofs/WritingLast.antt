-- Commands that read files and then write one, with which they end: where they are refused no file was written.
use Rattle.std.proofs.Common.{◌≡◌, ℕ, true, false, List, [], ◌∷◌, ◌++◌, None, Result, Ok, Err, refl, sym, ap, subst, ◌∙◌, inl}
use Rattle.std.specs.List.{list_all}
use Rattle.std.proofs.lemmas.List.{append-nil}
use Rattle.sed_outside.specs.Steps.{Read, AndThen, stops, goes_on}
use Rattle.sed_outside.specs.Reads.{failed_names}
use Rattle.sedona_cli.specs.declared.refusal.Refusal.{Refusal}
use Rattle.sedona_cli.specs.Outside.{Ask, Writes, Wrote, Written, Unwritten, Spares, is_of_files, of_reads, reads_in}
use Rattle.sedona_cli.specs.Refusals.{failed_of, is_of_store}
use Rattle.sedona_cli.specs.Steps.{FileWritten}
use Rattle.sedona_cli.proofs.Asking.{read_behind, reads_before, reads_of_reads, reads_spare, spares_behind}
use Rattle.sedona_cli.proofs.Ends.{one_refusal}
use Rattle.sedona_cli.proofs.ReplayAsked.{FilesAlone}
use Rattle.sedona_cli.proofs.StoreAsked.{behind}

-- Bytes that stand to what was read as these do are written into the file of this name.
abbrev pub WritesLast : {X : Type 0} → List ℕ → (X → List ℕ → Type 0) → X → List Ask → Result (List ℕ) Refusal → Type 0
WritesLast out P x asks end = (bytes : List ℕ) × P x bytes × FileWritten out bytes asks end

module _ {X : Type 0} (out : List ℕ) (P : X → List ℕ → Type 0) (S : List Ask → Result X Refusal → Type 0) (alone : FilesAlone S) where
  -- where it is refused no file was written
  pub written_spares : (asks : List Ask) (r : Refusal) → AndThen S (WritesLast out P) asks (Err r) → Spares None asks
  written_spares asks r (stops s h e) =
      let all = alone.reads asks (Err s) h in
      subst (λ (l : List Ask). Spares None l) (sym all.1) (reads_spare None all.0)
  written_spares asks r (goes_on f b i parts h n) =
      let all = alone.reads f (Ok i) h in
      subst (λ (l : List Ask). Spares None l) (sym (behind asks f b all.0 (Writes out n.0 Unwritten ∷ []) parts all.1 n.2.0))
      (spares_behind None all.0 (Writes out n.0 Unwritten ∷ []) (record { unwritten = refl; attached = inl refl }))
