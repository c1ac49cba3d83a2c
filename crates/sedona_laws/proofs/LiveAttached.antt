-- What `run` has asked when it ends.
use Rattle.std.proofs.Common.{◌≡◌, ℕ, true, false, List, [], ◌∷◌, ◌++◌, Ok, sym, ap, subst, ◌∙◌}
use Rattle.disk_model.specs.Disk.{Attaches as IsAttach}
use Rattle.disk_model.specs.declared.disk.Disk.{Ghosts as DiskGhosts}
use Rattle.sed_outside.specs.Steps.{Read, stops, goes_on}
use Rattle.sedona_cli.specs.declared.refusal.Refusal.{Refusal}
use Rattle.sedona_words.specs.Command.{RunAsked}
use Rattle.sedona_cli.specs.Outside.{Ask, Attaches, Binds, Opens, Runs, Ran, Found, of_reads, AreAsked}
use Rattle.sedona_cli.specs.Run.{RunComes}
use Rattle.sedona_cli.proofs.Asking.{asked_behind}
use Rattle.sedona_cli.proofs.Ends.{ok_err}
use Rattle.sedona_cli.proofs.ReplayAsked.{opened_to}
use Rattle.sedona_cli.proofs.StoreAsked.{Last}
use Rattle.sedona_cli.proofs.LiveAsked.{run_inputs_alone, Unbound, opened_then}

-- ---- it was run

pub record LiveBehind (store : List ℕ) (port : ℕ) (asks : List Ask) : Type 0 where
  pub reads : List Read
  pub payload : List ℕ
  pub ran : Ran
  pub asks_are : asks ≡ of_reads reads ++ Attaches store true ∷ Opens (Found payload) ∷ Binds port true ∷ Runs ran ∷ []

-- the port, and then the run
port_then : (asks front back : List Ask) (port : ℕ) (ran : Ran) → asks ≡ front ++ back → front ≡ Binds port true ∷ [] → back ≡ Runs ran ∷ [] → asks ≡ Binds port true ∷ Runs ran ∷ []
port_then asks front back port ran parts is last = parts ∙ ap (λ (l : List Ask). l ++ back) is ∙ ap (λ (l : List Ask). Binds port true ∷ l) last

pub live_behind : (asked : RunAsked) (asks : List Ask) (text : List ℕ) → RunComes asked asks (Ok text) → LiveBehind asked.node.store asked.port asks
live_behind asked asks text (stops s read e) = absurd (ok_err text s e)
live_behind asked asks text (goes_on front back i parts read (stops s opened e)) = absurd (ok_err text s e)
live_behind asked asks text (goes_on front back i parts read (goes_on g d a more opened (stops s bound e))) = absurd (ok_err text s e)
live_behind asked asks text (goes_on front back i parts read (goes_on g d a more opened (goes_on h k u last bound lives))) =
    let all = (run_inputs_alone asked.node).reads front (Ok i) read in
    let to = opened_to asked.node.store asked.node.limit i.code g a opened in
    record {
      reads = all.0;
      payload = to.payload;
      ran = lives.ran;
      asks_are = opened_then asks front back g d (Binds asked.port true ∷ Runs lives.ran ∷ []) all.0 asked.node.store to.payload parts all.1 more to.asks_are
          (port_then d h k asked.port lives.ran last bound lives.asks_are);
    }

-- ---- what that did to the disk

-- a name was attached and its store opened, and a port was asked for, which left the disk
pub last_unbound : {T : Type 0} (D : DiskGhosts T) (store : List ℕ) (port : ℕ) (asks : List Ask) (r : Refusal) (d e : T) → (by : Unbound store port asks r) → AreAsked D asks d e → Last D store (Opens (Found by.payload)) d e
last_unbound D store port asks r d e by asked =
    let rest = asked_behind D by.reads (Attaches store true ∷ Opens (Found by.payload) ∷ Binds port false ∷ []) d e (subst (λ (a : List Ask). AreAsked D a d e) by.asks_are asked) in
    subst (λ t. Last D store (Opens (Found by.payload)) d t) (sym (rest.2.2.2 ∙ rest.2.2.1))
    (record { between = rest.0; attached = rest.1; asked = rest.2.1 })

pub unbound_attaches : {T : Type 0} (D : DiskGhosts T) (store : List ℕ) (port : ℕ) (asks : List Ask) (r : Refusal) (d e : T) → Unbound store port asks r → AreAsked D asks d e
    → IsAttach (D.meaning d).calls (D.meaning d).attached (D.meaning e).attached store
unbound_attaches D store port asks r d e by asked =
    let last = last_unbound D store port asks r d e by asked in
    subst (λ now. IsAttach (D.meaning d).calls (D.meaning d).attached now store) (sym last.asked.attached) last.attached.attached

pub live_attaches : {T : Type 0} (D : DiskGhosts T) (store : List ℕ) (port : ℕ) (asks : List Ask) (d e : T) → LiveBehind store port asks → AreAsked D asks d e
    → IsAttach (D.meaning d).calls (D.meaning d).attached (D.meaning e).attached store
live_attaches D store port asks d e by asked =
    let rest = asked_behind D by.reads (Attaches store true ∷ Opens (Found by.payload) ∷ Binds port true ∷ Runs by.ran ∷ []) d e (subst (λ (a : List Ask). AreAsked D a d e) by.asks_are asked) in
    let bound = rest.2.2 in
    let ran = bound.2 in
    subst (λ t. IsAttach (D.meaning d).calls (D.meaning d).attached (D.meaning t).attached store) (sym ran.2)
    (subst (λ now. IsAttach (D.meaning d).calls (D.meaning d).attached now store)
    (sym (ran.1.attached ∙ ap (λ t. (D.meaning t).attached) bound.1 ∙ rest.2.1.attached)) rest.1.attached)
