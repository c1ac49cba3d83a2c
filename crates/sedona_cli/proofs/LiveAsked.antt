-- What `run` has asked when it ends.
use Rattle.std.proofs.Common.{◌≡◌, ◌⊎◌, ℕ, true, false, List, [], ◌∷◌, ◌++◌, Some, Ok, Err, sym, ap, subst, ◌∙◌, inl, inr}
use Rattle.sed_engine.specs.Code.{Meaning as Code}
use Rattle.dasp_session.specs.declared.user.User.{User}
use Rattle.sed_outside.specs.Steps.{Read, stops, goes_on}
use Rattle.input_files.specs.Inputs.{SecretRead, UsersRead}
use Rattle.sedona_cli.specs.declared.refusal.Refusal.{Refusal}
use Rattle.sedona_cli.specs.declared.refusal.Refusal.TheVariants.{LinkFault}
use Rattle.sedona_words.specs.Command.{NodeAsked, RunAsked}
use Rattle.sedona_cli.specs.Nodes.{Opened}
use Rattle.sedona_cli.specs.Outside.{Ask, Attaches, Binds, Opens, Found, of_reads}
use Rattle.sedona_cli.specs.Refusals.{of_inputs}
use Rattle.sedona_cli.specs.Run.{RunComes, RunInputsRead}
use Rattle.sedona_cli.proofs.Ends.{err_ok, one_refusal}
use Rattle.sedona_cli.proofs.ReplayAsked.{FilesAlone, code_alone, early_inputs, files_alone, gives_alone, of_open, opened_to, then_alone}
use Rattle.sedona_cli.proofs.StoreAsked.{IsOpening, StoreAsked, behind, ends_before}

pub run_inputs_alone : (node : NodeAsked) → FilesAlone (RunInputsRead node)
run_inputs_alone node =
    then_alone _ _ (code_alone node.code)
    (λ (code : Code). then_alone _ _ (files_alone of_inputs (UsersRead node.users) early_inputs)
    (λ (u : List User). then_alone _ _ (files_alone of_inputs (SecretRead node.secret) early_inputs) (λ (s : List ℕ). gives_alone _)))

-- ---- it was refused

-- the port was not taken
pub record Unbound (store : List ℕ) (port : ℕ) (asks : List Ask) (r : Refusal) : Type 0 where
  pub reads : List Read
  pub payload : List ℕ
  pub asks_are : asks ≡ of_reads reads ++ Attaches store true ∷ Opens (Found payload) ∷ Binds port false ∷ []
  pub is_link : r ≡ LinkFault

-- what is opened, and then a row more
pub opened_then : (asks front back of_store rest more : List Ask) (reads : List Read) (store payload : List ℕ) → asks ≡ front ++ back → front ≡ of_reads reads → back ≡ of_store ++ rest
    → of_store ≡ Attaches store true ∷ Opens (Found payload) ∷ [] → rest ≡ more → asks ≡ of_reads reads ++ Attaches store true ∷ Opens (Found payload) ∷ more
opened_then asks front back of_store rest more reads store payload parts is more_parts are last =
    behind asks front back reads (Attaches store true ∷ Opens (Found payload) ∷ more) parts is
    (more_parts ∙ ap (λ (l : List Ask). l ++ rest) are ∙ ap (λ (l : List Ask). Attaches store true ∷ Opens (Found payload) ∷ l) last)

pub run_asked : (asked : RunAsked) (asks : List Ask) (r : Refusal) → RunComes asked asks (Err r)
    → StoreAsked IsOpening asked.node.store asks (Some r) ⊎ Unbound asked.node.store asked.port asks r
run_asked asked asks r (stops s read e) =
    let all = (run_inputs_alone asked.node).reads asks (Err s) read in
    inl (ends_before all.0 s all.1 (ap (λ (x : Refusal). Some x) (one_refusal {X = List ℕ} r s e)) ((run_inputs_alone asked.node).early asks s read))
run_asked asked asks r (goes_on front back i parts read (stops s opened e)) =
    let all = (run_inputs_alone asked.node).reads front (Ok i) read in
    inl (of_open asked.node.store asked.node.limit i.code asks front back all.0 r parts all.1
    (subst (λ (x : Refusal). Opened asked.node.store asked.node.limit i.code back (Err x)) (sym (one_refusal {X = List ℕ} r s e)) opened))
run_asked asked asks r (goes_on front back i parts read (goes_on g d a more opened (stops s bound e))) =
    let all = (run_inputs_alone asked.node).reads front (Ok i) read in
    let to = opened_to asked.node.store asked.node.limit i.code g a opened in
    inr (record {
      reads = all.0;
      payload = to.payload;
      asks_are = opened_then asks front back g d (Binds asked.port false ∷ []) all.0 asked.node.store to.payload parts all.1 more to.asks_are bound.0;
      is_link = one_refusal {X = List ℕ} r s e ∙ bound.1;
    })
run_asked asked asks r (goes_on front back i parts read (goes_on g d a more opened (goes_on h k u last bound lives))) = absurd (err_ok r _ lives.end_is)
