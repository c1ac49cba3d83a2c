-- What a command comes to with a text is one text, where its answers and its runs agree.
use Rattle.std.proofs.Common.{◌≡◌, ◌∙◌, ℕ, true, pos, List, [], ◌∷◌, ◌++◌, Result, Ok, Err, refl, sym, ap, subst, append_assoc}
use Rattle.std.proofs.lemmas.List.{append-nil}
use Rattle.std.proofs.lemmas.Grind.{flat_map-append}
use Rattle.sed_typed.specs.declared.program.Program.{Program}
use Rattle.sed_engine.specs.Code.{Meaning as Code}
use Rattle.sed_engine.specs.Program as source
use Rattle.scode_code.specs.Image as made
use Rattle.scode_image.specs.declared.image.Image.{Image}
use Rattle.comp_tree.specs.Application.{Application}
use Rattle.printed_app.specs.Application.{application_text}
use Rattle.dasp_msg.specs.Sending.{IsSentAs}
use Rattle.dasp_msg.specs.Shown.{Message}
use Rattle.dasp_session.specs.declared.user.User.{User}
use Rattle.dasp_session.specs.Letters.{Letter}
use Rattle.dasp_session.specs.Outbox.{AreTexts, Datagram}
use Rattle.sed_cycles.specs.Cycles.{text_after}
use Rattle.sed_node.specs.Replaying.{end_text, replay_text}
use Rattle.sed_outside.specs.Steps.{Read, Agree, AndThen, Decides, stops, goes_on}
use Rattle.sed_outside.proofs.One.{agree_back}
use Rattle.input_files.specs.Inputs.{CodeRead, RecordRead, SecretRead, UsersRead}
use Rattle.sed_check.specs.Refusals.{AreAlike}
use Rattle.sedona_words.specs.Command.{Command, Cycles, Check, CodeAsked, Compile, Gen, New, NodeAsked, OfImage, OfKits, Replay, Run, RunAsked, Show}
use Rattle.sedona_cli.specs.declared.refusal.Refusal.{Refusal}
use Rattle.sedona_cli.specs.Given.{Given, GivenRecord}
use Rattle.sedona_cli.specs.New.{NewOf}
use Rattle.scode_compile.specs.Compiled.{IsImageOf}
use Rattle.sedona_cli.specs.Gen.{IsRecordFrom, RecordInputsRead}
use Rattle.sedona_cli.specs.declared.generating.RecordInputs.{RecordInputs}
use Rattle.sedona_cli.specs.Nodes.{Opened}
use Rattle.sedona_cli.specs.Outside.{Ask, Attaches, Binds, Opens, Found, Ran, Runs, of_reads, reached, read_of, reads_in}
use Rattle.sedona_cli.specs.Program.{Comes, refusal_by}
use Rattle.sedona_cli.specs.Refusals.{of_inputs}
use Rattle.sedona_cli.specs.Replay.{InputsRead, Replays}
use Rattle.sedona_cli.specs.Run.{BindsAndLives, LinkBound, Lives, RunInputsRead}
use Rattle.sedona_cli.specs.Show.{ShowOf}
use Rattle.sedona_cli.specs.Steps.{AfterCode, FileWritten, KitsGenerated, Meant, OfFiles, OfReads, Prints, TextGenerated, done_text}
use Rattle.sedona_cli.specs.Store.{AppRead, IsRead, StoreAttached, StoreOpened}
use Rattle.sedona_cli.proofs.Ends.{no_refusal, ok_err, some_refusal}
use Rattle.sedona_laws.specs.Agree.{AgreeOn, AgreeOnAll, AgreesOn, AgreesOnAll, BeginAlike, Pointwise, PointwiseAll}
use Rattle.sedona_laws.proofs.Alike.{FilesOne, ReadsAlike, ReadsOne, agree_fronts, behind_reads, one_before, one_found, same_reading, same_value, told_one}
use Rattle.sedona_laws.proofs.AlikeFiles.{MeanAlike}
use Rattle.sedona_laws.proofs.InputsOnce.{HasOneEnd, InputsOne, LoadsOne, input_one}
use Rattle.sedona_laws.proofs.Meant.{programs_mean_one}
use Rattle.sedona_laws.specs.Texts.{ComesSoFar, ReplaysFirst}
use Rattle.sedona_laws.proofs.SoFar.{as_first}

-- ---- what agrees

weaker : (ask other : Ask) → AgreesOnAll ask other → AgreesOn ask other
weaker (Runs ran) (Runs other) agree = tt
weaker ask other agree = agree

all_pointwise : (asks others : List Ask) → PointwiseAll asks others → Pointwise asks others
all_pointwise [] others agree = tt
all_pointwise (ask ∷ asks) [] agree = tt
all_pointwise (ask ∷ asks) (other ∷ others) agree = (weaker ask other agree.0, λ same. all_pointwise asks others (agree.1 same))

pub all_agree : (asks others : List Ask) → AgreeOnAll asks others → AgreeOn asks others
all_agree asks others agree = record { reads = agree.reads; rest = all_pointwise asks others agree.rest }

pointwise_behind : (front back rest : List Ask) → PointwiseAll (front ++ back) (front ++ rest) → PointwiseAll back rest
pointwise_behind [] back rest agree = agree
pointwise_behind (ask ∷ front) back rest agree = pointwise_behind front back rest (agree.1 refl)

all_behind : (front back rest : List Ask) → AgreeOnAll (front ++ back) (front ++ rest) → AgreeOnAll back rest
all_behind front back rest agree = record {
  reads = agree_back (reads_in front) (reads_in back) (reads_in rest)
      (subst (λ (l : List Read). Agree (reads_in front ++ reads_in back) l) (flat_map-append read_of front rest)
      (subst (λ (l : List Read). Agree l (reads_in (front ++ rest))) (flat_map-append read_of front back) agree.reads));
  rest = pointwise_behind front back rest agree.rest;
}

-- what is asked first, where both begin with one thing
first_agree : (asks others back rest : List Ask) (a b : Ask) → asks ≡ a ∷ back → others ≡ b ∷ rest → AgreeOnAll asks others → AgreesOnAll a b
first_agree asks others back rest a b is are agree =
    (subst (λ (l : List Ask). PointwiseAll (a ∷ back) l) are (subst (λ (l : List Ask). PointwiseAll l others) is agree.rest)).0

-- ---- steps that go on

-- Two steps that go on have asked the same, and their values stand so to each other.
abbrev GoesAlike : {X : Type 0} → (List Ask → Result X Refusal → Type 0) → (List Ask → Result X Refusal → Type 0) → (X → X → Type 0) → Type 0
GoesAlike {X} S T A = (front back others rest : List Ask) (x y : X) → S front (Ok x) → T others (Ok y) → AgreeOnAll (front ++ back) (others ++ rest) → (front ≡ others) × A x y

in_three : (all front back rest : List Ask) → all ≡ front ++ back → all ++ rest ≡ front ++ (back ++ rest)
in_three all front back rest parts = ap (λ (l : List Ask). l ++ rest) parts ∙ append_assoc front back rest

then_goes : {X Y : Type 0} (S T : List Ask → Result X Refusal → Type 0) (A : X → X → Type 0) (N M : X → List Ask → Result Y Refusal → Type 0) (B : Y → Y → Type 0) → GoesAlike S T A
    → ((x y : X) → A x y → GoesAlike (N x) (M y) B) → GoesAlike (AndThen S N) (AndThen T M) B
then_goes S T A N M B one next front back others rest x y (stops q h e) other agree = absurd (ok_err x q e)
then_goes S T A N M B one next front back others rest x y (goes_on f b u parts h n) (stops t k d) agree = absurd (ok_err y t d)
then_goes S T A N M B one next front back others rest x y (goes_on f b u parts h n) (goes_on g d w more k m) agree =
    let here : AgreeOnAll (f ++ (b ++ back)) (g ++ (d ++ rest)) =
    subst (λ (l : List Ask). AgreeOnAll (f ++ (b ++ back)) l) (in_three others g d rest more) (subst (λ (l : List Ask). AgreeOnAll l (others ++ rest)) (in_three front f b back parts) agree)
    in
    let both = one f (b ++ back) g (d ++ rest) u w h k here in
    let behind = all_behind f (b ++ back) (d ++ rest) (subst (λ (l : List Ask). AgreeOnAll (f ++ (b ++ back)) (l ++ (d ++ rest))) (sym both.0) here) in
    let last = next u w both.1 b back d rest x y n m behind in
    (parts ∙ (λ i. both.0 i ++ last.0 i) ∙ sym more, last.1)

reads_go : {X : Type 0} (step : List Read → Result X Refusal → Type 0) (A : X → X → Type 0) → ReadsAlike step A → GoesAlike (OfReads step) (OfReads step) A
reads_go step A one front back others rest x y h k agree =
    let both = one h.0 k.0 (Ok x) (Ok y) h.2 k.2 (agree_fronts h.0 k.0 back rest (front ++ back) (others ++ rest) (behind_reads front back h.0 h.1) (behind_reads others rest k.0 k.1) agree.reads) in
    (h.1 ∙ ap of_reads both.0 ∙ sym k.1, both.1)

files_go : {E X : Type 0} (told : E → Refusal) (step : List Read → Result X E → Type 0) (A : X → X → Type 0) → FilesOne told step A → GoesAlike (OfFiles told step) (OfFiles told step) A
files_go told step A one = reads_go _ A (told_one told step A one)

gives_go : {X : Type 0} (A : X → X → Type 0) (i j : X) → A i j → GoesAlike (Decides (λ (end : Result X Refusal). end ≡ Ok i)) (Decides (λ (end : Result X Refusal). end ≡ Ok j)) A
gives_go {X} A i j same front back others rest x y h k agree =
    (h.none ∙ sym k.none, subst (λ (l : X). A l y) (sym (same_value x i h.holds)) (subst (λ (l : X). A i l) (sym (same_value y j k.holds)) same))

attached_go : (store : List ℕ) → GoesAlike (StoreAttached store) (StoreAttached store) (λ (u v : Unit {0}). Unit {0})
attached_go store front back others rest x y h k agree = (h ∙ sym k, tt)

opened_go : GoesAlike StoreOpened StoreOpened (λ (p q : List ℕ). p ≡ q)
opened_go front back others rest x y h k agree =
    let same = one_found x y (first_agree (front ++ back) (others ++ rest) back rest (Opens (Found x)) (Opens (Found y)) (one_before front back (Opens (Found x)) h) (one_before others rest (Opens (Found y)) k) agree) in
    (h ∙ (λ i. Opens (Found (same i)) ∷ []) ∙ sym k, same)

-- one code reads bytes as one application
read_go : ReadsOne → (limit : ℕ) (m n : Code) → m ≡ n → (p q : List ℕ) → p ≡ q → GoesAlike (AppRead m limit p) (AppRead n limit q) (λ (a b : Application). a ≡ b)
read_go one limit m n code p q payload front back others rest x y h k agree = (
  h.none ∙ sym k.none,
  same_value x y (same_reading one m n limit p (Ok x) (Ok y) (subst (λ (l : Code). MeanAlike m l) code refl) h.holds (subst (λ (l : List ℕ). IsRead n limit l (Ok y)) (sym payload) k.holds)),
)

app_go : ReadsOne → (store : List ℕ) (limit : ℕ) (m n : Code) → m ≡ n → GoesAlike (Opened store limit m) (Opened store limit n) (λ (a b : Application). a ≡ b)
unfolding Opened
app_go one store limit m n code =
    then_goes _ _ (λ (u v : Unit {0}). Unit {0}) _ _ (λ (a b : Application). a ≡ b) (attached_go store)
    (λ u v any. then_goes _ _ (λ (p q : List ℕ). p ≡ q) _ _ (λ (a b : Application). a ≡ b) opened_go
    (λ p q payload. read_go one limit m n code p q payload))

bound_go : (port : ℕ) → GoesAlike (LinkBound port) (LinkBound port) (λ (u v : Unit {0}). Unit {0})
bound_go port front back others rest x y h k agree = (h ∙ sym k, tt)

-- ---- what is run

-- a message has one text
abbrev pub MessagesOnce : Type 0
MessagesOnce = (message : Message) (text other : List ℕ) → IsSentAs message text → IsSentAs message other → text ≡ other

texts_once : MessagesOnce → (letters : List Letter) (a b : List Datagram) → AreTexts letters a → AreTexts letters b → a ≡ b
texts_once one [] [] [] h k = refl
texts_once one [] [] (y ∷ b) h k = absurd k
texts_once one [] (x ∷ a) b h k = absurd h
texts_once one (letter ∷ letters) [] b h k = absurd h
texts_once one (letter ∷ letters) (x ∷ a) [] h k = absurd k
texts_once one (letter ∷ letters) (x ∷ a) (y ∷ b) h k =
    let to = h.0 ∙ sym k.0 in
    let bytes = one letter.message x.bytes y.bytes h.1 k.1 in
    let rest = texts_once one letters a b h.2 k.2 in
    λ i. record { to = to i; bytes = bytes i } ∷ rest i

-- two runs that are asked for alike are one
one_run : (asks others back rest front more : List Ask) (r s : Ran) → front ≡ Runs r ∷ [] → more ≡ Runs s ∷ [] → asks ≡ front ++ back → others ≡ more ++ rest → BeginAlike r s → AgreeOnAll asks others → r ≡ s
one_run asks others back rest front more r s is are parts ends alike agree =
    first_agree asks others back rest (Runs r) (Runs s) (parts ∙ one_before front back (Runs r) is) (ends ∙ one_before more rest (Runs s) are) agree alike

first_go : MessagesOnce → (node : NodeAsked) (given : GivenRecord) (a : Application) → GoesAlike (ReplaysFirst node given a) (ReplaysFirst node given a) (λ (s t : List ℕ). s ≡ t)
first_go one node given a front back others rest x y h k agree =
    let alike : BeginAlike h.ran k.ran = record {
      application = a;
      users = given.users;
      secret = given.secret;
      moment = pos 0;
      other_moment = pos 0;
      code = h.is_run.code ∙ sym k.is_run.code;
      turns = h.is_run.turns ∙ sym k.is_run.turns;
      start = h.is_run.start;
      other_start = k.is_run.start;
    } in
    let same = one_run (front ++ back) (others ++ rest) back rest front others h.ran k.ran h.asks_are k.asks_are refl refl alike agree in
    let sent = texts_once one (reached h.ran).sent h.sent k.sent h.sends (subst (λ (r : Ran). AreTexts (reached r).sent k.sent) (sym same) k.sends) in (
      h.asks_are ∙ (λ i. Runs (same i) ∷ []) ∙ sym k.asks_are,
      same_value x (replay_text h.ran.code h.ran.setup h.ran.start h.ran.events h.sent) h.end_is
          ∙ (λ i. replay_text (same i).code (same i).setup (same i).start (same i).events (sent i))
          ∙ sym (same_value y (replay_text k.ran.code k.ran.setup k.ran.start k.ran.events k.sent) k.end_is),
    )

replays_go : MessagesOnce → (node : NodeAsked) (given : GivenRecord) (a : Application) → GoesAlike (Replays node given a) (Replays node given a) (λ (s t : List ℕ). s ≡ t)
replays_go one node given a front back others rest x y h k agree =
    first_go one node given a front back others rest x y (as_first node given a front (Ok x) h) (as_first node given a others (Ok y) k) agree

lives_go : (asked : RunAsked) (given : Given) (a : Application) → GoesAlike (Lives asked given a) (Lives asked given a) (λ (s t : List ℕ). s ≡ t)
lives_go asked given a front back others rest x y h k agree =
    let alike : BeginAlike h.ran k.ran = record {
      application = a;
      users = given.users;
      secret = given.secret;
      moment = h.moment;
      other_moment = k.moment;
      code = h.is_run.code ∙ sym k.is_run.code;
      turns = h.is_run.turns ∙ sym k.is_run.turns;
      start = h.is_run.start;
      other_start = k.is_run.start;
    } in
    let same = one_run (front ++ back) (others ++ rest) back rest front others h.ran k.ran h.asks_are k.asks_are refl refl alike agree in (
      h.asks_are ∙ (λ i. Runs (same i) ∷ []) ∙ sym k.asks_are,
      same_value x (end_text h.ran.code (reached h.ran)) h.end_is ∙ (λ i. end_text (same i).code (reached (same i))) ∙ sym (same_value y (end_text k.ran.code (reached k.ran)) k.end_is),
    )

-- ---- what is read

code_go : ((names : List (List ℕ)) → LoadsOne (KitsGenerated names)) → InputsOne → (code : CodeAsked) → GoesAlike (AfterCode code) (AfterCode code) (λ (m n : Code). m ≡ n)
code_go kits inputs (OfKits names) =
    then_goes _ _ AreAlike _ _ (λ (m n : Code). m ≡ n) (reads_go (KitsGenerated names) AreAlike (kits names))
    (λ (p q : Program) alike. gives_go (λ (m n : Code). m ≡ n) (source.meaning_of p) (source.meaning_of q) (programs_mean_one p q alike))
code_go kits inputs (OfImage file) =
    then_goes _ _ (λ (a b : Image). a ≡ b) _ _ (λ (m n : Code). m ≡ n) (files_go of_inputs (CodeRead file) (λ (a b : Image). a ≡ b) (input_one (CodeRead file) (inputs.code file)))
    (λ (a b : Image) same. gives_go (λ (m n : Code). m ≡ n) (made.meaning_of a) (made.meaning_of b) (ap made.meaning_of same))

users_go : InputsOne → (file : List ℕ) → GoesAlike (OfFiles of_inputs (UsersRead file)) (OfFiles of_inputs (UsersRead file)) (λ (u v : List User). u ≡ v)
users_go inputs file = files_go of_inputs (UsersRead file) (λ (u v : List User). u ≡ v) (input_one (UsersRead file) (inputs.users file))

secret_go : InputsOne → (file : List ℕ) → GoesAlike (OfFiles of_inputs (SecretRead file)) (OfFiles of_inputs (SecretRead file)) (λ (s t : List ℕ). s ≡ t)
secret_go inputs file = files_go of_inputs (SecretRead file) (λ (s t : List ℕ). s ≡ t) (input_one (SecretRead file) (inputs.secret file))

record_go : InputsOne → (file : List ℕ) → GoesAlike (OfFiles of_inputs (RecordRead file)) (OfFiles of_inputs (RecordRead file)) (λ (s t : List ℕ). s ≡ t)
record_go inputs file = files_go of_inputs (RecordRead file) (λ (s t : List ℕ). s ≡ t) (input_one (RecordRead file) (inputs.record_text file))

replay_inputs_go : ((names : List (List ℕ)) → LoadsOne (KitsGenerated names)) → InputsOne → (node : NodeAsked) (file : List ℕ) → GoesAlike (InputsRead node file) (InputsRead node file) (λ (i j : GivenRecord). i ≡ j)
replay_inputs_go kits inputs node file =
    then_goes _ _ (λ (m n : Code). m ≡ n) _ _ (λ (i j : GivenRecord). i ≡ j) (code_go kits inputs node.code)
    (λ (m n : Code) code. then_goes _ _ (λ (u v : List User). u ≡ v) _ _ (λ (i j : GivenRecord). i ≡ j) (users_go inputs node.users)
    (λ (u v : List User) users. then_goes _ _ (λ (s t : List ℕ). s ≡ t) _ _ (λ (i j : GivenRecord). i ≡ j) (secret_go inputs node.secret)
    (λ (s t : List ℕ) secret. then_goes _ _ (λ (x y : List ℕ). x ≡ y) _ _ (λ (i j : GivenRecord). i ≡ j) (record_go inputs file)
    (λ (x y : List ℕ) text. gives_go (λ (i j : GivenRecord). i ≡ j) (record { code = m; users = u; secret = s; text = x }) (record { code = n; users = v; secret = t; text = y })
    (λ i. record { code = code i; users = users i; secret = secret i; text = text i })))))

run_inputs_go : ((names : List (List ℕ)) → LoadsOne (KitsGenerated names)) → InputsOne → (node : NodeAsked) → GoesAlike (RunInputsRead node) (RunInputsRead node) (λ (i j : Given). i ≡ j)
run_inputs_go kits inputs node =
    then_goes _ _ (λ (m n : Code). m ≡ n) _ _ (λ (i j : Given). i ≡ j) (code_go kits inputs node.code)
    (λ (m n : Code) code. then_goes _ _ (λ (u v : List User). u ≡ v) _ _ (λ (i j : Given). i ≡ j) (users_go inputs node.users)
    (λ (u v : List User) users. then_goes _ _ (λ (s t : List ℕ). s ≡ t) _ _ (λ (i j : Given). i ≡ j) (secret_go inputs node.secret)
    (λ (s t : List ℕ) secret. gives_go (λ (i j : Given). i ≡ j) (record { code = m; users = u; secret = s }) (record { code = n; users = v; secret = t })
    (λ i. record { code = code i; users = users i; secret = secret i }))))

-- ---- commands

-- of agreeing answers a command comes to one text
abbrev pub TextOnce : (List Ask → Result (List ℕ) Refusal → Type 0) → Type 0
TextOnce S = (asks others : List Ask) (text other : List ℕ) → S asks (Ok text) → S others (Ok other) → AgreeOnAll asks others → text ≡ other

once : (S : List Ask → Result (List ℕ) Refusal → Type 0) → GoesAlike S S (λ (s t : List ℕ). s ≡ t) → TextOnce S
once S goes asks others text other h k agree =
    (goes asks [] others [] text other h k
    (subst (λ (l : List Ask). AgreeOnAll (asks ++ []) l) (sym (append-nil others)) (subst (λ (l : List Ask). AgreeOnAll l others) (sym (append-nil asks)) agree))).1

-- a text that is the same whatever was asked
always : (S : List Ask → Result (List ℕ) Refusal → Type 0) (said : List ℕ) → ((asks : List Ask) (text : List ℕ) → S asks (Ok text) → text ≡ said) → TextOnce S
always S said so asks others text other h k agree = so asks text h ∙ sym (so others other k)

-- the commands that write a file say that it is done
written_done : {X : Type 0} (out : List ℕ) (P : X → List ℕ → Type 0) (S : List Ask → Result X Refusal → Type 0) (asks : List Ask) (text : List ℕ)
    → AndThen S (λ x asks end. (bytes : List ℕ) × P x bytes × FileWritten out bytes asks end) asks (Ok text) → text ≡ done_text
written_done out P S asks text (stops r h e) = absurd (ok_err text r e)
written_done out P S asks text (goes_on f b x parts h n) = n.2.1

new_done : (store : List ℕ) (slot : ℕ) (p : Program) (asks : List Ask) (text : List ℕ) → NewOf store slot p asks (Ok text) → text ≡ done_text
unfolding NewOf
new_done store slot p asks text (stops r m e) = absurd (ok_err text r e)
new_done store slot p asks text (goes_on f b u parts m (stops r h e)) = absurd (ok_err text r e)
new_done store slot p asks text (goes_on f b u parts m (goes_on g d v more h (stops r k e))) = absurd (ok_err text r e)
new_done store slot p asks text (goes_on f b u parts m (goes_on g d v more h (goes_on i j w last k n))) = same_value text done_text n.holds

made_done : (store : List ℕ) (slot : ℕ) (S : List Ask → Result Program Refusal → Type 0) (asks : List Ask) (text : List ℕ) → AndThen S (NewOf store slot) asks (Ok text) → text ≡ done_text
made_done store slot S asks text (stops r h e) = absurd (ok_err text r e)
made_done store slot S asks text (goes_on f b p parts h n) = new_done store slot p b text n

shown_go : ReadsOne → (store : List ℕ) (limit : ℕ) (p q : Program) → source.meaning_of p ≡ source.meaning_of q → GoesAlike (ShowOf store limit p) (ShowOf store limit q) (λ (s t : List ℕ). s ≡ t)
unfolding ShowOf
shown_go one store limit p q code =
    then_goes _ _ (λ (u v : Unit {0}). Unit {0}) _ _ (λ (s t : List ℕ). s ≡ t) (attached_go store)
    (λ u v any. then_goes _ _ (λ (x y : List ℕ). x ≡ y) _ _ (λ (s t : List ℕ). s ≡ t) opened_go
    (λ x y payload. then_goes _ _ (λ (a b : Application). a ≡ b) _ _ (λ (s t : List ℕ). s ≡ t) (read_go one limit (source.meaning_of p) (source.meaning_of q) code x y payload)
    (λ a b same. gives_go (λ (s t : List ℕ). s ≡ t) (application_text (source.meaning_of p) a) (application_text (source.meaning_of q) b) (λ i. application_text (code i) (same i)))))

-- what the laws of loadings, of input files and of messages say
pub record OneTexts : Type 0 where
  pub reads : ReadsOne
  pub kits : (names : List (List ℕ)) → LoadsOne (KitsGenerated names)
  pub text : (file : List ℕ) → LoadsOne (TextGenerated file)
  pub inputs : InputsOne
  pub messages : MessagesOnce

-- what is read and opened, and then steps that come to one text
replay_once : OneTexts → (node : NodeAsked) (file : List ℕ) (R : GivenRecord → Application → List Ask → Result (List ℕ) Refusal → Type 0)
    → ((i : GivenRecord) (a : Application) → GoesAlike (R i a) (R i a) (λ (s t : List ℕ). s ≡ t))
    → TextOnce (AndThen (InputsRead node file) (λ (i : GivenRecord). AndThen (Opened node.store node.limit i.code) (R i)))
replay_once one node file R goes =
    once (AndThen (InputsRead node file) (λ (i : GivenRecord). AndThen (Opened node.store node.limit i.code) (R i))) (then_goes (InputsRead node file) (InputsRead node file) (λ (i j : GivenRecord). i ≡ j)
    (λ (i : GivenRecord). AndThen (Opened node.store node.limit i.code) (R i)) (λ (i : GivenRecord). AndThen (Opened node.store node.limit i.code) (R i)) (λ (s t : List ℕ). s ≡ t)
    (replay_inputs_go one.kits one.inputs node file)
    (λ (i j : GivenRecord) given. then_goes (Opened node.store node.limit i.code) (Opened node.store node.limit j.code) (λ (a b : Application). a ≡ b)
    (R i) (R j) (λ (s t : List ℕ). s ≡ t) (app_go one.reads node.store node.limit i.code j.code (λ k. (given k).code))
    (λ (a b : Application) same. subst (λ (l : GivenRecord). GoesAlike (R i a) (R l b) (λ (s t : List ℕ). s ≡ t)) given
    (subst (λ (l : Application). GoesAlike (R i a) (R i l) (λ (s t : List ℕ). s ≡ t)) same (goes i a)))))

text_once : OneTexts → (command : Command) → TextOnce (Comes command)
text_once one (Cycles file count) =
    once (Comes (Cycles file count)) (then_goes (OfReads (TextGenerated file)) (OfReads (TextGenerated file)) AreAlike
    (λ (p : Program). Prints (text_after (source.meaning_of p) count)) (λ (p : Program). Prints (text_after (source.meaning_of p) count)) (λ (s t : List ℕ). s ≡ t)
    (reads_go (TextGenerated file) AreAlike (one.text file))
    (λ (p q : Program) alike. gives_go (λ (s t : List ℕ). s ≡ t) (text_after (source.meaning_of p) count) (text_after (source.meaning_of q) count)
    (λ i. text_after (programs_mean_one p q alike i) count)))
text_once one (Check names) =
    once (Comes (Check names)) (then_goes (OfReads (KitsGenerated names)) (OfReads (KitsGenerated names)) AreAlike
    (λ (p : Program). Prints done_text) (λ (p : Program). Prints done_text) (λ (s t : List ℕ). s ≡ t) (reads_go (KitsGenerated names) AreAlike (one.kits names))
    (λ (p q : Program) alike. gives_go (λ (s t : List ℕ). s ≡ t) done_text done_text refl))
text_once one (Compile out names) =
    always (Comes (Compile out names)) done_text (written_done {X = Program} out (λ (p : Program) (bytes : List ℕ). IsImageOf p bytes) (OfReads (KitsGenerated names)))
text_once one (New names store slot) = always (Comes (New names store slot)) done_text (made_done store slot (OfReads (KitsGenerated names)))
text_once one (Show names store limit) =
    once (Comes (Show names store limit)) (then_goes (OfReads (KitsGenerated names)) (OfReads (KitsGenerated names)) AreAlike
    (ShowOf store limit) (ShowOf store limit) (λ (s t : List ℕ). s ≡ t) (reads_go (KitsGenerated names) AreAlike (one.kits names))
    (λ (p q : Program) alike. shown_go one.reads store limit p q (programs_mean_one p q alike)))
text_once one (Replay node file) = replay_once one node file (Replays node) (replays_go one.messages node)
text_once one (Run r) =
    once (Comes (Run r)) (then_goes (RunInputsRead r.node) (RunInputsRead r.node) (λ (i j : Given). i ≡ j)
    (λ (i : Given). AndThen (Opened r.node.store r.node.limit i.code) (BindsAndLives r i)) (λ (i : Given). AndThen (Opened r.node.store r.node.limit i.code) (BindsAndLives r i)) (λ (s t : List ℕ). s ≡ t)
    (run_inputs_go one.kits one.inputs r.node)
    (λ (i j : Given) given. then_goes (Opened r.node.store r.node.limit i.code) (Opened r.node.store r.node.limit j.code) (λ (a b : Application). a ≡ b)
    (BindsAndLives r i) (BindsAndLives r j) (λ (s t : List ℕ). s ≡ t) (app_go one.reads r.node.store r.node.limit i.code j.code (λ k. (given k).code))
    (λ (a b : Application) same. then_goes (LinkBound r.port) (LinkBound r.port) (λ (u v : Unit {0}). Unit {0})
    (λ (u : Unit {0}). Lives r i a) (λ (u : Unit {0}). Lives r j b) (λ (s t : List ℕ). s ≡ t) (bound_go r.port)
    (λ u v any. subst (λ (l : Given). GoesAlike (Lives r i a) (Lives r l b) (λ (s t : List ℕ). s ≡ t)) given
    (subst (λ (l : Application). GoesAlike (Lives r i a) (Lives r i l) (λ (s t : List ℕ). s ≡ t)) same (lives_go r i a))))))
text_once one (Gen g) = always (Comes (Gen g)) done_text (written_done {X = RecordInputs} g.out (IsRecordFrom g) (RecordInputsRead g))

so_far_once : OneTexts → (command : Command) → TextOnce (ComesSoFar command)
so_far_once one (Replay node file) = replay_once one node file (ReplaysFirst node) (first_go one.messages node)
so_far_once one command = text_once one command

-- with its refusal: it has one end
ends_of : (S : List Ask → Result (List ℕ) Refusal → Type 0) → TextOnce S → HasOneEnd S → (asks others : List Ask) (end other : Result (List ℕ) Refusal) → AgreeOnAll asks others → S asks end → S others other → end ≡ other
ends_of S once ends asks others (Ok text) (Ok words) agree h k = ap (λ (l : List ℕ). Ok l) (once asks others text words h k agree)
ends_of S once ends asks others (Ok text) (Err s) agree h k = absurd (no_refusal s (sym (ends asks others (Ok text) (Err s) (all_agree asks others agree) h k)))
ends_of S once ends asks others (Err r) (Ok words) agree h k = absurd (no_refusal r (ends asks others (Err r) (Ok words) (all_agree asks others agree) h k))
ends_of S once ends asks others (Err r) (Err s) agree h k = ap (λ (l : Refusal). Err l) (some_refusal r s (ends asks others (Err r) (Err s) (all_agree asks others agree) h k))

pub ends_once : OneTexts → (command : Command) → HasOneEnd (Comes command) → (asks others : List Ask) (end other : Result (List ℕ) Refusal) → AgreeOnAll asks others
    → Comes command asks end → Comes command others other → end ≡ other
ends_once one command ends = ends_of (Comes command) (text_once one command) ends

pub so_far_ends_once : OneTexts → (command : Command) → HasOneEnd (ComesSoFar command) → (asks others : List Ask) (end other : Result (List ℕ) Refusal) → AgreeOnAll asks others
    → ComesSoFar command asks end → ComesSoFar command others other → end ≡ other
so_far_ends_once one command ends = ends_of (ComesSoFar command) (so_far_once one command) ends
