-- Commands that read files and then write one, with which they end: they come to one end, tell the calls that failed, and
-- ask files alone.
use Rattle.std.proofs.Common.{◌≡◌, ℕ, true, false, List, [], ◌∷◌, ◌++◌, Result, Ok, Err, refl, sym, ap, subst, ◌∙◌}
use Rattle.std.specs.List.{list_all}
use Rattle.std.proofs.lemmas.List.{append-nil}
use Rattle.sed_outside.specs.Steps.{Read, AndThen, stops, goes_on}
use Rattle.sed_outside.specs.Reads.{failed_names}
use Rattle.sedona_cli.specs.declared.refusal.Refusal.{Refusal}
use Rattle.sedona_laws.specs.Agree.{AgreeOn, Pointwise, failed_by}
use Rattle.sedona_cli.specs.Outside.{Ask, Writes, Wrote, Written, Unwritten, is_of_files, of_reads, reads_in}
use Rattle.sedona_cli.specs.Refusals.{failed_of, is_of_store}
use Rattle.sedona_laws.proofs.Unwritten.{unwritten_behind}
use Rattle.sedona_laws.specs.Files.{unwritten_in}
use Rattle.sedona_laws.proofs.Alike.{EndsAlike, StopsAlike, stops_once, then_stops}
use Rattle.sedona_cli.proofs.Asking.{read_behind, reads_before, reads_of_reads}
use Rattle.sedona_cli.proofs.Ends.{one_refusal}
use Rattle.sedona_laws.proofs.InputsOnce.{HasOneEnd}
use Rattle.sedona_cli.proofs.ReplayAsked.{FilesAlone}
use Rattle.sedona_laws.proofs.ReplayEnds.{Tells}
use Rattle.sedona_cli.proofs.StoreAsked.{behind}
use Rattle.sedona_cli.proofs.WritingLast.{WritesLast}

written_apart : Unwritten ≡ Written → ⊥
written_apart same = cc

-- what one write of a name was answered the other was
one_write : (name bytes more : List ℕ) (how ended : Wrote) (asks others : List Ask) → asks ≡ Writes name bytes how ∷ [] → others ≡ Writes name more ended ∷ [] → AgreeOn asks others
    → Pointwise (Writes name bytes how ∷ []) (Writes name more ended ∷ [])
one_write name bytes more how ended asks others is are agree =
    subst (λ (l : List Ask). Pointwise (Writes name bytes how ∷ []) l) are (subst (λ (l : List Ask). Pointwise l others) is agree.rest)

-- reads, and what asks for no read behind them
calls_behind : (reads : List Read) (one asks : List Ask) → asks ≡ of_reads reads ++ one → reads_in one ≡ [] → failed_names (reads_in asks) ++ unwritten_in asks ≡ failed_names reads ++ unwritten_in one
calls_behind reads one asks is none =
    ap (λ (l : List Read). failed_names l ++ unwritten_in asks) (ap reads_in is ∙ reads_before reads one none)
    ∙ ap (λ (l : List (List ℕ)). failed_names reads ++ l) (ap unwritten_in is ∙ unwritten_behind reads one)

module _ {X : Type 0} (out : List ℕ) (P : X → List ℕ → Type 0) (S : List Ask → Result X Refusal → Type 0) where
  abbrev Whole : List Ask → Result (List ℕ) Refusal → Type 0
  Whole = AndThen S (WritesLast out P)

  writes_alike : (i j : X) → StopsAlike (WritesLast out P i) (WritesLast out P j)
  writes_alike i j = record {
    stop = λ asks others r s h k agree. h.2.1 ∙ sym k.2.1;
    stop_go = λ asks others r y h k agree. written_apart ((one_write out h.0 k.0 Unwritten Written asks others h.2.0 k.2.0 agree).0 refl);
    go_stop = λ asks others x s h k agree. written_apart (sym ((one_write out h.0 k.0 Written Unwritten asks others h.2.0 k.2.0 agree).0 refl));
  }

  pub written_once : (A : X → X → Type 0) → EndsAlike S S A → HasOneEnd (AndThen S (WritesLast out P))
  written_once A alike asks others end other agree h k =
      stops_once Whole Whole (then_stops S S A (WritesLast out P) (WritesLast out P) alike (λ (i j : X) any. writes_alike i j)) asks others end other agree h k

  module _ (alone : FilesAlone S) where
    -- reads, and then the write that ends it
    record IsLast (asks : List Ask) : Type 0 where
      reads : List Read
      bytes : List ℕ
      how : Wrote
      asks_are : asks ≡ of_reads reads ++ Writes out bytes how ∷ []

    written_last : (asks f b : List Ask) (i : X) (end : Result (List ℕ) Refusal) → asks ≡ f ++ b → S f (Ok i) → WritesLast out P i b end → IsLast asks
    written_last asks f b i (Ok text) parts h n =
        let all = alone.reads f (Ok i) h in
        record { reads = all.0; bytes = n.0; how = Written; asks_are = behind asks f b all.0 (Writes out n.0 Written ∷ []) parts all.1 n.2.0 }
    written_last asks f b i (Err r) parts h n =
        let all = alone.reads f (Ok i) h in
        record { reads = all.0; bytes = n.0; how = Unwritten; asks_are = behind asks f b all.0 (Writes out n.0 Unwritten ∷ []) parts all.1 n.2.0 }

    pub written_of_files : (asks : List Ask) (end : Result (List ℕ) Refusal) → AndThen S (WritesLast out P) asks end → list_all is_of_files asks ≡ true
    written_of_files asks end (stops r h e) =
        let all = alone.reads asks (Err r) h in
        ap (list_all is_of_files) (all.1 ∙ sym (append-nil (of_reads all.0))) ∙ read_behind all.0 []
    written_of_files asks end (goes_on f b i parts h n) =
        let last = written_last asks f b i end parts h n in
        ap (list_all is_of_files) last.asks_are ∙ read_behind last.reads (Writes out last.bytes last.how ∷ [])

    pub written_early : (asks : List Ask) (r : Refusal) → AndThen S (WritesLast out P) asks (Err r) → is_of_store r ≡ false
    written_early asks r (stops s h e) = ap is_of_store (one_refusal {X = List ℕ} r s e) ∙ alone.early asks s h
    written_early asks r (goes_on f b i parts h n) = ap is_of_store n.2.1

    pub written_tells : Tells S → (asks : List Ask) (end : Result (List ℕ) Refusal) → AndThen S (WritesLast out P) asks end → failed_names (reads_in asks) ++ unwritten_in asks ≡ failed_by end
    written_tells tells asks end (stops r h e) =
        let all = alone.reads asks (Err r) h in
        let is : asks ≡ of_reads all.0 ++ [] = all.1 ∙ sym (append-nil (of_reads all.0)) in
        calls_behind all.0 [] asks is refl
        ∙ append-nil (failed_names all.0)
        ∙ ap failed_names (sym (reads_of_reads all.0))
        ∙ ap (λ (l : List Ask). failed_names (reads_in l)) (sym all.1)
        ∙ tells asks (Err r) h
        ∙ sym (ap failed_by e)
    written_tells tells asks (Ok text) (goes_on f b i parts h n) =
        let all = alone.reads f (Ok i) h in
        calls_behind all.0 (Writes out n.0 Written ∷ []) asks (behind asks f b all.0 (Writes out n.0 Written ∷ []) parts all.1 n.2.0) refl
        ∙ ap (λ (l : List (List ℕ)). l ++ []) (ap failed_names (sym (reads_of_reads all.0)) ∙ ap (λ (l : List Ask). failed_names (reads_in l)) (sym all.1) ∙ tells f (Ok i) h)
    written_tells tells asks (Err r) (goes_on f b i parts h n) =
        let all = alone.reads f (Ok i) h in
        calls_behind all.0 (Writes out n.0 Unwritten ∷ []) asks (behind asks f b all.0 (Writes out n.0 Unwritten ∷ []) parts all.1 n.2.0) refl
        ∙ ap (λ (l : List (List ℕ)). l ++ out ∷ []) (ap failed_names (sym (reads_of_reads all.0)) ∙ ap (λ (l : List Ask). failed_names (reads_in l)) (sym all.1) ∙ tells f (Ok i) h)
        ∙ sym (ap failed_of n.2.1)
