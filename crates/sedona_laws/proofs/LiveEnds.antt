-- `run` comes to one end, and tells the reads that failed.
use Rattle.std.proofs.Common.{◌≡◌, ℕ, Bool, true, false, List, [], ◌∷◌, ◌++◌, Ok, Err, refl, sym, ap, subst, ◌∙◌}
use Rattle.sed_engine.specs.Code.{Meaning as Code}
use Rattle.comp_tree.specs.Application.{Application}
use Rattle.dasp_session.specs.declared.user.User.{User}
use Rattle.sed_outside.specs.Reads.{failed_names}
use Rattle.input_files.specs.Inputs.{SecretRead, UsersRead}
use Rattle.sedona_cli.specs.Given.{Given}
use Rattle.sedona_laws.specs.Agree.{Pointwise}
use Rattle.sedona_words.specs.Command.{NodeAsked, RunAsked}
use Rattle.sedona_cli.specs.Outside.{Ask, Binds, reads_in}
use Rattle.sedona_cli.specs.Refusals.{failed_of, of_inputs}
use Rattle.sedona_cli.specs.Run.{LinkBound, Lives, RunComes, RunInputsRead}
use Rattle.sedona_cli.specs.Steps.{AfterCode}
use Rattle.sedona_laws.proofs.Alike.{EndsAlike, NeverRefused, ReadsOne, files_alike, gives_alike, never_stops, one_before, rest_agrees, stops_once, then_alike, then_stops, true_false}
use Rattle.sedona_laws.proofs.AlikeFiles.{MeanAlike}
use Rattle.sedona_cli.proofs.Ends.{err_ok}
use Rattle.sedona_laws.proofs.InputsOnce.{HasOneEnd, InputOne, InputTells, TellsFailed, input_one}
use Rattle.sedona_laws.proofs.ReplayEnds.{CodeOne, Tells, as_told, failed_end, files_tell, gives_tells, input_tells, open_tells, opened_ends_alike, then_tells}

-- ---- one end

-- inputs whose codes are alike
abbrev RunAlike : Given → Given → Type 0
RunAlike i j = MeanAlike i.code j.code

inputs_alike : (node : NodeAsked) → CodeOne node.code → InputOne {X = List User} (UsersRead node.users) → InputOne {X = List ℕ} (SecretRead node.secret)
    → EndsAlike (RunInputsRead node) (RunInputsRead node) RunAlike
inputs_alike node code users secret =
    then_alike _ _ MeanAlike _ _ RunAlike code
    (λ (m n : Code) same_code. then_alike _ _ (λ (u v : List User). u ≡ v) _ _ RunAlike (files_alike of_inputs (UsersRead node.users) (λ (u v : List User). u ≡ v) (input_one (UsersRead node.users) users))
    (λ (u v : List User) same_users. then_alike _ _ (λ (s t : List ℕ). s ≡ t) _ _ RunAlike (files_alike of_inputs (SecretRead node.secret) (λ (s t : List ℕ). s ≡ t) (input_one (SecretRead node.secret) secret))
    (λ (s t : List ℕ) same_secret. gives_alike RunAlike _ _ same_code)))

-- a port that is asked for twice is answered alike
bound_alike : (port : ℕ) (a b : Bool) (asks rest back more : List Ask) → asks ≡ Binds port a ∷ back → rest ≡ Binds port b ∷ more → Pointwise asks rest → (a ≡ b) × (a ≡ b → Pointwise back more)
bound_alike port a b asks rest back more is are agree =
    let here = subst (λ (l : List Ask). Pointwise (Binds port a ∷ back) l) are (subst (λ (l : List Ask). Pointwise l rest) is agree) in
    (here.0 refl, λ same. here.1 (ap (λ (x : Bool). Binds port x) same))

bound_ends : (port : ℕ) → EndsAlike (LinkBound port) (LinkBound port) (λ (u v : Unit {0}). Unit {0})
bound_ends port = record {
  stop = λ asks others r s h k agree. h.1 ∙ sym k.1;
  stop_go = λ asks front back r y h k agree.
      true_false (sym (bound_alike port false true asks (front ++ back) [] back h.0 (one_before front back (Binds port true) k) agree.rest).0);
  go_stop = λ front back others x s h k agree.
      true_false (bound_alike port true false (front ++ back) others back [] (one_before front back (Binds port true) h) k.0 agree.rest).0;
  go = λ front back others rest x y h k agree.
      let is = one_before front back (Binds port true) h in
      let are = one_before others rest (Binds port true) k in (
        tt,
        rest_agrees (front ++ back) (others ++ rest) back rest (Binds port true) (Binds port true) refl refl is are
            ((bound_alike port true true (front ++ back) (others ++ rest) back rest is are agree.rest).1 refl) agree,
      );
}

never_refused : (asked : RunAsked) (i : Given) (a : Application) → NeverRefused (Lives asked i a)
never_refused asked i a asks r lives = err_ok r _ lives.end_is

pub run_one_end : ReadsOne → (asked : RunAsked) → CodeOne asked.node.code → InputOne {X = List User} (UsersRead asked.node.users)
    → InputOne {X = List ℕ} (SecretRead asked.node.secret) → HasOneEnd (RunComes asked)
run_one_end one asked code users secret asks others end other agree h k =
    stops_once (RunComes asked) (RunComes asked)
    (then_stops _ _ RunAlike _ _ (inputs_alike asked.node code users secret)
    (λ (i j : Given) same. then_stops _ _ (λ (a b : Application). Unit {0}) _ _ (opened_ends_alike one asked.node.store asked.node.limit i.code j.code same)
    (λ (a b : Application) any. then_stops _ _ (λ (u v : Unit {0}). Unit {0}) _ _ (bound_ends asked.port)
    (λ (u v : Unit {0}) none. never_stops (Lives asked i a) (Lives asked j b) (never_refused asked i a) (never_refused asked j b)))))
    asks others end other agree h k

-- ---- the reads that failed

bound_tells : (port : ℕ) → Tells (LinkBound port)
bound_tells port asks (Ok u) h = ap (λ (l : List Ask). failed_names (reads_in l)) h
bound_tells port asks (Err r) h = ap (λ (l : List Ask). failed_names (reads_in l)) h.0 ∙ sym (ap failed_of h.1)

live_tells : (asked : RunAsked) (i : Given) (a : Application) → Tells (Lives asked i a)
live_tells asked i a asks end lives = ap (λ (l : List Ask). failed_names (reads_in l)) lives.asks_are ∙ sym (ap failed_end lives.end_is)

inputs_tell : (node : NodeAsked) → Tells (AfterCode node.code) → InputTells {X = List User} (UsersRead node.users) → InputTells {X = List ℕ} (SecretRead node.secret) → Tells (RunInputsRead node)
inputs_tell node code users secret =
    then_tells _ _ code
    (λ (m : Code). then_tells _ _ (files_tell of_inputs (UsersRead node.users) (input_tells (UsersRead node.users) users))
    (λ (u : List User). then_tells _ _ (files_tell of_inputs (SecretRead node.secret) (input_tells (SecretRead node.secret) secret)) (λ (s : List ℕ). gives_tells _)))

pub run_tells : (asked : RunAsked) → Tells (AfterCode asked.node.code) → InputTells {X = List User} (UsersRead asked.node.users) → InputTells {X = List ℕ} (SecretRead asked.node.secret) → TellsFailed (RunComes asked)
run_tells asked code users secret asks end h =
    then_tells (RunInputsRead asked.node) _ (inputs_tell asked.node code users secret)
    (λ (i : Given). then_tells _ _ (open_tells asked.node.store asked.node.limit i.code)
    (λ (a : Application). then_tells _ _ (bound_tells asked.port) (λ (u : Unit {0}). live_tells asked i a))) asks end h
    ∙ as_told end
