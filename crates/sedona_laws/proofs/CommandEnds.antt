-- What a command comes to: one end, the reads that failed, and what is asked until a refusal.
use Rattle.std.proofs.Common.{◌≡◌, ℕ, true, false, List, [], ◌∷◌, ◌++◌, length, Some, None, Result, Ok, Err, refl, sym, ap, subst, ◌∙◌, inl, inr, arith}
use Rattle.std.specs.List.{list_all}
use Rattle.sed_typed.specs.declared.program.Program.{Program}
use Rattle.sed_engine.specs.Program.{meaning_of}
use Rattle.comp_tree.specs.Application.{Application}
use Rattle.printed_app.specs.Application.{application_text}
use Rattle.sed_outside.specs.Steps.{Read, AndThen, stops, goes_on, Agree}
use Rattle.sed_outside.specs.Reads.{failed_names}
use Rattle.sed_check.specs.Loading.{KitsLoaded, TextLoaded}
use Rattle.sed_check.specs.Refusals.{AreAlike}
use Rattle.sedona_cli.specs.declared.refusal.Refusal.{Refusal}
use Rattle.sedona_cli.specs.declared.refusal.Refusal.TheVariants.{SlotTooSmall}
use Rattle.sedona_laws.specs.Agree.{AgreeOn, Pointwise, failed_by, failed_calls}
use Rattle.sedona_words.specs.Command.{Command, Cycles, Check, Compile, Gen, New, Replay, Run, Show, output_of, store_of}
use Rattle.sedona_cli.specs.New.{NewOf, text_of}
use Rattle.sedona_cli.specs.Outside.{Ask, Attaches, Makes, Opens, Made, Whole, NotEmpty, Failed, Found, is_of_files, reads_in}
use Rattle.sedona_cli.specs.Program.{Comes, ComesUntil, refusal_by}
use Rattle.sedona_cli.specs.Refusals.{failed_of, is_of_store}
use Rattle.sedona_cli.specs.Steps.{KitsGenerated, OfReads, Prints, TextGenerated, done_text}
use Rattle.sedona_cli.specs.Show.{ShowOf}
use Rattle.sedona_cli.specs.Store.{StoreAttached, StoreMade}
use Rattle.sed_cycles.specs.Cycles.{text_after}
use Rattle.sedona_laws.proofs.Alike.{NeverRefused, ReadsOne, attached_alike, attached_ends, heads, never_stops, opened_ends, read_ends, reads_alike, stops_once, then_stops, true_false}
use Rattle.sedona_laws.proofs.AlikeFiles.{programs_mean_alike}
use Rattle.sedona_laws.proofs.Codes.{code_one}
use Rattle.sedona_cli.proofs.Asking.{read_reads, reads_before}
use Rattle.sedona_cli.proofs.Generated.{generates_early}
use Rattle.sedona_laws.proofs.ImagingOnce.{compile_early, compile_of_files, compile_one_end, compile_tells}
use Rattle.sedona_laws.proofs.RecordOnce.{gen_early, gen_of_files, gen_one_end, gen_tells}
use Rattle.sedona_cli.proofs.Ends.{err_ok, one_refusal}
use Rattle.sedona_laws.proofs.InputsOnce.{HasOneEnd, InputsOne, InputsTell, LoadTells, LoadsOne, TellsFailed}
use Rattle.sedona_cli.proofs.Loadings.{LoadsEarly}
use Rattle.sedona_laws.proofs.LiveEnds.{run_one_end, run_tells}
use Rattle.sedona_laws.specs.Texts.{ComesSoFar, ReplaysFirst}
use Rattle.sedona_laws.proofs.SoFar.{first_never_refused}
use Rattle.sedona_laws.proofs.ReplayEnds.{code_tells, reads_tell, replay_one_end, replay_steps_end, replay_tells, stops_start}
use Rattle.sedona_cli.proofs.StoreAsked.{of_payload}
use Rattle.sedona_cli.proofs.Comings.{reads_alone}

-- ---- one end

-- a loading, and then steps that have one end for programs that are alike
one_loaded : (step : List Read → Result Program Refusal → Type 0) (next : Program → List Ask → Result (List ℕ) Refusal → Type 0) → LoadsOne step
    → ((p q : Program) (asks rest : List Ask) (end other : Result (List ℕ) Refusal) → AreAlike p q → AgreeOn asks rest → next p asks end → next q rest other → refusal_by end ≡ refusal_by other)
    → HasOneEnd (AndThen (OfReads step) next)
one_loaded step next one more asks others end other agree (stops r h e) (stops s k d) =
    ap refusal_by e ∙ ap (λ (x : Refusal). Some x) ((reads_alike step AreAlike one).stop asks others r s h k agree) ∙ sym (ap refusal_by d)
one_loaded step next one more asks others end other agree (stops r h e) (goes_on g d q parts k n) =
    absurd ((reads_alike step AreAlike one).stop_go asks g d r q h k (subst (λ (l : List Ask). AgreeOn asks l) parts agree))
one_loaded step next one more asks others end other agree (goes_on f b p parts h n) (stops s k d) =
    absurd ((reads_alike step AreAlike one).go_stop f b others p s h k (subst (λ (l : List Ask). AgreeOn l others) parts agree))
one_loaded step next one more asks others end other agree (goes_on f b p parts h n) (goes_on g d q others_parts k m) =
    let both = (reads_alike step AreAlike one).go f b g d p q h k
    (subst (λ (l : List Ask). AgreeOn (f ++ b) l) others_parts (subst (λ (l : List Ask). AgreeOn l others) parts agree)) in
    more p q b d end other both.0 both.1 n m

one_print : (text : Program → List ℕ) (p q : Program) (asks rest : List Ask) (end other : Result (List ℕ) Refusal) → Prints (text p) asks end → Prints (text q) rest other → refusal_by end ≡ refusal_by other
one_print text p q asks rest end other n m = ap refusal_by n.holds ∙ sym (ap refusal_by m.holds)

-- ---- behind the loading of `new`

found_made : NotEmpty ≡ Whole → ⊥
found_made same = cc

found_failed : NotEmpty ≡ Failed → ⊥
found_failed same = cc

failed_made : Failed ≡ Whole → ⊥
failed_made same = cc

made_alike : (slot : ℕ) (text words : List ℕ) (a b : Made) (asks rest back more : List Ask) → text ≡ words → asks ≡ Makes slot text a ∷ back → rest ≡ Makes slot words b ∷ more → Pointwise asks rest → a ≡ b
made_alike slot text words a b asks rest back more same is are agree =
    let here = subst (λ (l : List Ask). Pointwise (Makes slot text a ∷ back) l) are (subst (λ (l : List Ask). Pointwise l rest) is agree) in
    here.0 refl same

-- the same programs but for their methods come to the same end
one_new : (store : List ℕ) (slot : ℕ) (p q : Program) → text_of p ≡ text_of q → (asks rest : List Ask) (end other : Result (List ℕ) Refusal) → Pointwise asks rest
    → NewOf store slot p asks end → NewOf store slot q rest other → refusal_by end ≡ refusal_by other
unfolding NewOf
one_new store slot p q same asks rest end other agree (stops r m e) (stops s k d) =
    ap refusal_by e
    ∙ ap (λ (x : Refusal). Some x) (m.holds.0 ∙ ap (λ (n : ℕ). SlotTooSmall n slot) (ap length same) ∙ sym k.holds.0)
    ∙ sym (ap refusal_by d)
one_new store slot p q same asks rest end other agree (stops r m e) (goes_on g d u parts k n) =
    absurd (let sizes = ap length same in omega (arith, m.holds.1, k.holds, sizes))
one_new store slot p q same asks rest end other agree (goes_on f b u parts m n) (stops s k d) =
    absurd (let sizes = ap length same in omega (arith, m.holds, k.holds.1, sizes))
one_new store slot p q same asks rest end other agree (goes_on f b u parts m n) (goes_on g d v others k o) =
    attach_step b d end other
    (subst (λ (l : List Ask). Pointwise b l) (others ∙ ap (λ (l : List Ask). l ++ d) k.none) (subst (λ (l : List Ask). Pointwise l rest) (parts ∙ ap (λ (l : List Ask). l ++ b) m.none) agree)) n o
  where
    make_step : (asks rest : List Ask) (end other : Result (List ℕ) Refusal) → Pointwise asks rest
        → AndThen (StoreMade slot (text_of p)) (λ (w : Unit {0}). Prints done_text) asks end
        → AndThen (StoreMade slot (text_of q)) (λ (w : Unit {0}). Prints done_text) rest other
        → refusal_by end ≡ refusal_by other
    make_step asks rest end other agree (stops r (inl m) e) (stops s (inl k) d) = ap refusal_by e ∙ ap (λ (x : Refusal). Some x) (m.1 ∙ sym k.1) ∙ sym (ap refusal_by d)
    make_step asks rest end other agree (stops r (inr m) e) (stops s (inr k) d) = ap refusal_by e ∙ ap (λ (x : Refusal). Some x) (m.1 ∙ sym k.1) ∙ sym (ap refusal_by d)
    make_step asks rest end other agree (stops r (inl m) e) (stops s (inr k) d) = absurd (found_failed (made_alike slot (text_of p) (text_of q) NotEmpty Failed asks rest [] [] same m.0 k.0 agree))
    make_step asks rest end other agree (stops r (inr m) e) (stops s (inl k) d) = absurd (found_failed (sym (made_alike slot (text_of p) (text_of q) Failed NotEmpty asks rest [] [] same m.0 k.0 agree)))
    make_step asks rest end other agree (stops r (inl m) e) (goes_on g d w parts k o) =
        absurd (found_made (made_alike slot (text_of p) (text_of q) NotEmpty Whole asks rest [] d same m.0 (heads rest (Makes slot (text_of q) Whole) g d parts k) agree))
    make_step asks rest end other agree (stops r (inr m) e) (goes_on g d w parts k o) =
        absurd (failed_made (made_alike slot (text_of p) (text_of q) Failed Whole asks rest [] d same m.0 (heads rest (Makes slot (text_of q) Whole) g d parts k) agree))
    make_step asks rest end other agree (goes_on f b w parts m n) (stops s (inl k) d) =
        absurd (found_made (sym (made_alike slot (text_of p) (text_of q) Whole NotEmpty asks rest b [] same (heads asks (Makes slot (text_of p) Whole) f b parts m) k.0 agree)))
    make_step asks rest end other agree (goes_on f b w parts m n) (stops s (inr k) d) =
        absurd (failed_made (sym (made_alike slot (text_of p) (text_of q) Whole Failed asks rest b [] same (heads asks (Makes slot (text_of p) Whole) f b parts m) k.0 agree)))
    make_step asks rest end other agree (goes_on f b w parts m n) (goes_on g d x others k o) = ap refusal_by n.holds ∙ sym (ap refusal_by o.holds)

    attach_step : (asks rest : List Ask) (end other : Result (List ℕ) Refusal) → Pointwise asks rest
        → AndThen (StoreAttached store) (λ (v : Unit {0}). AndThen (StoreMade slot (text_of p)) (λ (w : Unit {0}). Prints done_text)) asks end
        → AndThen (StoreAttached store) (λ (v : Unit {0}). AndThen (StoreMade slot (text_of q)) (λ (w : Unit {0}). Prints done_text)) rest other
        → refusal_by end ≡ refusal_by other
    attach_step asks rest end other agree (stops r m e) (stops s k d) = ap refusal_by e ∙ ap (λ (x : Refusal). Some x) (m.1 ∙ sym k.1) ∙ sym (ap refusal_by d)
    attach_step asks rest end other agree (stops r m e) (goes_on g d v parts k o) =
        absurd (true_false (sym (attached_alike store false true asks rest [] d m.0 (heads rest (Attaches store true) g d parts k) agree).0))
    attach_step asks rest end other agree (goes_on f b v parts m n) (stops s k d) =
        absurd (true_false (attached_alike store true false asks rest b [] (heads asks (Attaches store true) f b parts m) k.0 agree).0)
    attach_step asks rest end other agree (goes_on f b v parts m n) (goes_on g d w others k o) =
        make_step b d end other
        ((attached_alike store true true asks rest b d (heads asks (Attaches store true) f b parts m) (heads rest (Attaches store true) g d others k) agree).1 refl) n o

-- ---- behind the loading of `show`

-- behind the reads `show` asks for no file, and its refusals name none
pub show_reads : (store : List ℕ) (limit : ℕ) (p : Program) (asks : List Ask) (end : Result (List ℕ) Refusal) → ShowOf store limit p asks end → (reads_in asks ≡ []) × (failed_by end ≡ [])
unfolding ShowOf
show_reads store limit p asks end (stops r h e) = (ap reads_in h.0, ap failed_by e ∙ ap failed_of h.1)
show_reads store limit p asks end (goes_on g d v more h (stops r (inl k) e)) =
    (ap reads_in (more ∙ ap (λ (l : List Ask). l ++ d) h ∙ ap (λ (l : List Ask). Attaches store true ∷ l) k.0), ap failed_by e ∙ ap failed_of k.1)
show_reads store limit p asks end (goes_on g d v more h (stops r (inr k) e)) =
    (ap reads_in (more ∙ ap (λ (l : List Ask). l ++ d) h ∙ ap (λ (l : List Ask). Attaches store true ∷ l) k.0), ap failed_by e ∙ ap failed_of k.1)
show_reads store limit p asks end (goes_on g d v more h (goes_on i j payload next k (stops r n e))) = (
  ap reads_in (more ∙ ap (λ (l : List Ask). l ++ d) h
      ∙ ap (λ (l : List Ask). Attaches store true ∷ l) (next ∙ ap (λ (l : List Ask). l ++ j) k ∙ ap (λ (l : List Ask). Opens (Found payload) ∷ l) n.none)),
  ap failed_by e ∙ (of_payload n.holds.reading r n.holds.end_is).failed,
)
show_reads store limit p asks end (goes_on g d v more h (goes_on i j payload next k (goes_on f b a last n o))) = (
  ap reads_in (more ∙ ap (λ (l : List Ask). l ++ d) h
      ∙ ap (λ (l : List Ask). Attaches store true ∷ l)
      (next ∙ ap (λ (l : List Ask). l ++ j) k ∙ ap (λ (l : List Ask). Opens (Found payload) ∷ l) (last ∙ ap (λ (l : List Ask). l ++ b) n.none ∙ o.none))),
  ap failed_by o.holds,
)

prints_done : (text : List ℕ) → NeverRefused (Prints text)
prints_done text asks r prints = err_ok r text prints.holds

reads_none : (asks rest : List Ask) → reads_in asks ≡ [] → Pointwise asks rest → AgreeOn asks rest
reads_none asks rest none agree = record { reads = subst (λ (l : List Read). Agree l (reads_in rest)) (sym none) tt; rest = agree }

one_show : ReadsOne → (store : List ℕ) (limit : ℕ) (p q : Program) → AreAlike p q → (asks rest : List Ask) (end other : Result (List ℕ) Refusal) → Pointwise asks rest
    → ShowOf store limit p asks end → ShowOf store limit q rest other → refusal_by end ≡ refusal_by other
unfolding ShowOf
one_show one store limit p q alike asks rest end other agree n m =
    stops_once (ShowOf store limit p) (ShowOf store limit q)
    (then_stops _ _ (λ (u v : Unit {0}). Unit {0}) _ _ (attached_ends store)
    (λ (u v : Unit {0}) any. then_stops _ _ (λ (x y : List ℕ). x ≡ y) _ _ opened_ends
    (λ (x y : List ℕ) same. then_stops _ _ (λ (a b : Application). Unit {0}) _ _ (read_ends one (meaning_of p) (meaning_of q) limit x y (programs_mean_alike p q alike) same)
    (λ (a b : Application) any. never_stops (Prints (application_text (meaning_of p) a)) (Prints (application_text (meaning_of q) b)) (prints_done (application_text (meaning_of p) a)) (prints_done (application_text (meaning_of q) b))))))
    asks rest end other (reads_none asks rest (show_reads store limit p asks end n).0 agree) n m

-- what the laws of loadings, of compiling and of input files say
pub record OneEnds : Type 0 where
  pub reads : ReadsOne
  pub kits : (names : List (List ℕ)) → LoadsOne (KitsGenerated names)
  pub text : (file : List ℕ) → LoadsOne (TextGenerated file)
  pub inputs : InputsOne
  pub texts : (p q : Program) → AreAlike p q → text_of p ≡ text_of q

-- every command has one end
pub one_comes : OneEnds → (command : Command) → HasOneEnd (Comes command)
one_comes one (Cycles file count) =
    one_loaded (TextGenerated file) (λ p. Prints (text_after (meaning_of p) count)) (one.text file)
    (λ p q asks rest end other same agree n m. one_print (λ p. text_after (meaning_of p) count) p q asks rest end other n m)
one_comes one (Check names) =
    one_loaded (KitsGenerated names) (λ p. Prints done_text) (one.kits names)
    (λ p q asks rest end other same agree n m. one_print (λ p. done_text) p q asks rest end other n m)
one_comes one (Compile out names) = compile_one_end out names (one.kits names)
one_comes one (New names store slot) =
    one_loaded (KitsGenerated names) (NewOf store slot) (one.kits names)
    (λ p q asks rest end other same agree n m. one_new store slot p q (one.texts p q same) asks rest end other agree.rest n m)
one_comes one (Show names store limit) =
    one_loaded (KitsGenerated names) (ShowOf store limit) (one.kits names)
    (λ p q asks rest end other same agree n m. one_show one.reads store limit p q same asks rest end other agree.rest n m)
one_comes one (Replay node file) = replay_one_end one.reads node file (code_one one.kits one.inputs.code node.code) (one.inputs.users node.users) (one.inputs.secret node.secret) (one.inputs.record_text file)
one_comes one (Run r) = run_one_end one.reads r (code_one one.kits one.inputs.code r.node.code) (one.inputs.users r.node.users) (one.inputs.secret r.node.secret)
one_comes one (Gen g) = gen_one_end g (one.kits g.kits) (one.inputs.users g.users) (one.inputs.secret g.secret)

-- so it has as far as it is done
pub one_so_far : OneEnds → (command : Command) → HasOneEnd (ComesSoFar command)
one_so_far one (Replay node file) =
    replay_steps_end one.reads node file (ReplaysFirst node) (first_never_refused node) (code_one one.kits one.inputs.code node.code) (one.inputs.users node.users) (one.inputs.secret node.secret) (one.inputs.record_text file)
one_so_far one command = one_comes one command

-- ---- the reads that failed

stop_tells : (step : List Read → Result Program Refusal → Type 0) → LoadTells step → (asks : List Ask) (r : Refusal) → OfReads step asks (Err r) → failed_names (reads_in asks) ≡ failed_of r
stop_tells step tells asks r h = reads_tell step tells asks (Err r) h

go_tells : (step : List Read → Result Program Refusal → Type 0) → LoadTells step → (asks front back : List Ask) (p : Program) → asks ≡ front ++ back → OfReads step front (Ok p) → reads_in back ≡ []
    → failed_names (reads_in asks) ≡ []
go_tells step tells asks front back p parts h none =
    ap failed_names (ap reads_in (parts ∙ ap (λ (a : List Ask). a ++ back) h.1) ∙ reads_before h.0 back none) ∙ tells h.0 (Ok p) h.2

tells_prints : (step : List Read → Result Program Refusal → Type 0) (text : Program → List ℕ) → LoadTells step → TellsFailed (AndThen (OfReads step) (λ p. Prints (text p)))
tells_prints step text tells asks end (stops r h e) = stop_tells step tells asks r h ∙ sym (ap failed_by e)
tells_prints step text tells asks end (goes_on f b p parts h n) = go_tells step tells asks f b p parts h (ap reads_in n.none) ∙ sym (ap failed_by n.holds)

-- behind the reads `new` asks for no file, and its refusals name none
new_reads : (store : List ℕ) (slot : ℕ) (p : Program) (asks : List Ask) (end : Result (List ℕ) Refusal) → NewOf store slot p asks end → (reads_in asks ≡ []) × (failed_by end ≡ [])
unfolding NewOf
new_reads store slot p asks end (stops r m e) = (ap reads_in m.none, ap failed_by e ∙ ap failed_of m.holds.0)
new_reads store slot p asks end (goes_on f b u parts m (stops r h e)) = (ap reads_in (parts ∙ ap (λ (l : List Ask). l ++ b) m.none ∙ h.0), ap failed_by e ∙ ap failed_of h.1)
new_reads store slot p asks end (goes_on f b u parts m (goes_on g d v more h (stops r (inl k) e))) =
    (ap reads_in (parts ∙ ap (λ (l : List Ask). l ++ b) m.none ∙ more ∙ ap (λ (l : List Ask). l ++ d) h ∙ ap (λ (l : List Ask). Attaches store true ∷ l) k.0), ap failed_by e ∙ ap failed_of k.1)
new_reads store slot p asks end (goes_on f b u parts m (goes_on g d v more h (stops r (inr k) e))) =
    (ap reads_in (parts ∙ ap (λ (l : List Ask). l ++ b) m.none ∙ more ∙ ap (λ (l : List Ask). l ++ d) h ∙ ap (λ (l : List Ask). Attaches store true ∷ l) k.0), ap failed_by e ∙ ap failed_of k.1)
new_reads store slot p asks end (goes_on f b u parts m (goes_on g d v more h (goes_on i j w last k n))) = (
  ap reads_in (parts ∙ ap (λ (l : List Ask). l ++ b) m.none ∙ more ∙ ap (λ (l : List Ask). l ++ d) h
      ∙ ap (λ (l : List Ask). Attaches store true ∷ l) (last ∙ ap (λ (l : List Ask). l ++ j) k ∙ ap (λ (l : List Ask). Makes slot (text_of p) Whole ∷ l) n.none)),
  ap failed_by n.holds,
)

tells_new : (names : List (List ℕ)) (store : List ℕ) (slot : ℕ) → LoadTells (KitsGenerated names) → TellsFailed (AndThen (OfReads (KitsGenerated names)) (NewOf store slot))
tells_new names store slot tells asks end (stops r h e) = stop_tells (KitsGenerated names) tells asks r h ∙ sym (ap failed_by e)
tells_new names store slot tells asks end (goes_on f b p parts h n) =
    let (none, unnamed) = new_reads store slot p b end n in
    go_tells (KitsGenerated names) tells asks f b p parts h none ∙ sym unnamed

tells_show : (names : List (List ℕ)) (store : List ℕ) (limit : ℕ) → LoadTells (KitsGenerated names) → TellsFailed (AndThen (OfReads (KitsGenerated names)) (ShowOf store limit))
tells_show names store limit tells asks end (stops r h e) = stop_tells (KitsGenerated names) tells asks r h ∙ sym (ap failed_by e)
tells_show names store limit tells asks end (goes_on f b p parts h n) =
    let (none, unnamed) = show_reads store limit p b end n in
    go_tells (KitsGenerated names) tells asks f b p parts h none ∙ sym unnamed

-- the calls that failed are those that its end tells
abbrev pub TellsCalls : Command → Type 0
TellsCalls command = (asks : List Ask) (end : Result (List ℕ) Refusal) → Comes command asks end → failed_calls (output_of command) asks ≡ failed_by end

pub tells_comes : ((names : List (List ℕ)) → LoadTells (KitsGenerated names)) → ((file : List ℕ) → LoadTells (TextGenerated file)) → InputsTell → (command : Command) → TellsCalls command
tells_comes kits text inputs (Cycles file count) = tells_prints (TextGenerated file) (λ p. text_after (meaning_of p) count) (text file)
tells_comes kits text inputs (Check names) = tells_prints (KitsGenerated names) (λ p. done_text) (kits names)
tells_comes kits text inputs (Compile out names) = compile_tells out names (kits names)
tells_comes kits text inputs (New names store slot) = tells_new names store slot (kits names)
tells_comes kits text inputs (Show names store limit) = tells_show names store limit (kits names)
tells_comes kits text inputs (Replay node file) = replay_tells node file (code_tells kits inputs.code node.code) (inputs.users node.users) (inputs.secret node.secret) (inputs.record_text file)
tells_comes kits text inputs (Run r) = run_tells r (code_tells kits inputs.code r.node.code) (inputs.users r.node.users) (inputs.secret r.node.secret)
tells_comes kits text inputs (Gen g) = gen_tells g (kits g.kits) (inputs.users g.users) (inputs.secret g.secret)

-- a command without a store asks files alone
pub of_files_alone : (command : Command) (asks : List Ask) (end : Result (List ℕ) Refusal) → store_of command ≡ None → Comes command asks end → list_all is_of_files asks ≡ true
of_files_alone (Cycles file count) asks end none comes =
    let (reads, is) = reads_alone (Cycles file count) asks end tt comes in ap (list_all is_of_files) is ∙ read_reads reads
of_files_alone (Check names) asks end none comes =
    let (reads, is) = reads_alone (Check names) asks end tt comes in ap (list_all is_of_files) is ∙ read_reads reads
of_files_alone (Compile out names) asks end none comes = compile_of_files out names asks end comes
of_files_alone (New names store slot) asks end none comes = absurd (cc)
of_files_alone (Show names store limit) asks end none comes = absurd (cc)
of_files_alone (Replay node file) asks end none comes = absurd (cc)
of_files_alone (Run r) asks end none comes = absurd (cc)
of_files_alone (Gen g) asks end none comes = gen_of_files g asks end comes

refused_early : (step : List Read → Result Program Refusal → Type 0) (text : Program → List ℕ) → LoadsEarly step → (asks : List Ask) (refusal : Refusal)
    → AndThen (OfReads step) (λ p. Prints (text p)) asks (Err refusal) → is_of_store refusal ≡ false
refused_early step text early asks refusal (stops r h e) = ap is_of_store (one_refusal refusal r e) ∙ early h.0 r h.2
refused_early step text early asks refusal (goes_on f b p parts h n) = absurd (err_ok refusal (text p) n.holds)

-- its refusals are those of the loading
pub early_alone : (command : Command) (asks : List Ask) (refusal : Refusal) → store_of command ≡ None → Comes command asks (Err refusal) → is_of_store refusal ≡ false
early_alone (Cycles file count) asks refusal none comes =
    refused_early (TextGenerated file) (λ p. text_after (meaning_of p) count) (generates_early (TextLoaded file)) asks refusal comes
early_alone (Check names) asks refusal none comes = refused_early (KitsGenerated names) (λ p. done_text) (generates_early (KitsLoaded names)) asks refusal comes
early_alone (Compile out names) asks refusal none comes = compile_early out names asks refusal comes
early_alone (Gen g) asks refusal none comes = gen_early g asks refusal comes
early_alone (New names store slot) asks refusal none comes = absurd (cc)
early_alone (Show names store limit) asks refusal none comes = absurd (cc)
early_alone (Replay node file) asks refusal none comes = absurd (cc)
early_alone (Run r) asks refusal none comes = absurd (cc)

-- ---- what is put piece by piece

-- What a command that was stopped comes to where it is not: what it asks then agrees with what the other agrees with.
pub record ComesOtherwise (command : Command) (asks : List Ask) : Type 0 where
  pub more : List Ask
  pub text : List ℕ
  pub comes : Comes command more (Ok text)
  pub reads : reads_in more ≡ reads_in asks
  pub agrees : (told : List Ask) → AgreeOn asks told → AgreeOn more told

pub until_comes : (command : Command) (asks : List Ask) (put last : List ℕ) → ComesUntil command asks put last → ComesOtherwise command asks
until_comes (Cycles file count) asks put last until = absurd until
until_comes (Check names) asks put last until = absurd until
until_comes (Compile out names) asks put last until = absurd until
until_comes (New names store slot) asks put last until = absurd until
until_comes (Show names store limit) asks put last until = absurd until
until_comes (Gen g) asks put last until = absurd until
until_comes (Run r) asks put last until = absurd until
until_comes (Replay node file) asks put last until =
    let start = stops_start node file asks put last until in
    record { more = start.more; text = start.text; comes = start.comes; reads = start.reads; agrees = start.agrees }
