-- Steps whose answers agree end alike, and so do steps one behind the other.
use Rattle.std.proofs.Common.{◌≡◌, ℕ, Bool, true, false, List, [], ◌∷◌, ◌++◌, Some, Result, Ok, Err, refl, sym, ap, subst, ◌∙◌, inl, inr, append_assoc}
use Rattle.std.proofs.lemmas.List.{append-nil}
use Rattle.std.proofs.lemmas.Grind.{flat_map-append}
use Rattle.sed_typed.specs.Spelled.{CanBeTold}
use Rattle.sed_engine.specs.Code.{Meaning}
use Rattle.sed_engine.specs.Whole.{HasTables}
use Rattle.comp_tree.specs.Application.{Application}
use Rattle.app_file.specs.Reading.{IsReadAs, Reading}
use Rattle.sed_outside.specs.Steps.{Read, AndThen, Decides, stops, goes_on, Agree}
use Rattle.sed_outside.proofs.One.{agree_back, agree_front}
use Rattle.sed_check.specs.Loading.{Told}
use Rattle.sedona_cli.specs.declared.refusal.Refusal.{Refusal}
use Rattle.sedona_laws.specs.Agree.{AgreeOn, OpensAs, Pointwise}
use Rattle.sedona_cli.specs.Outside.{Ask, Attaches, Opens, Opened, Found, NotAStore, Unread, read_of, reads_in, of_reads}
use Rattle.sedona_cli.specs.Program.{refusal_by}
use Rattle.sedona_cli.specs.Steps.{OfFiles, OfReads}
use Rattle.sedona_cli.specs.Store.{AppRead, IsRead, StoreAttached, StoreOpened, application_in}
use Rattle.sedona_laws.proofs.AlikeFiles.{MeanAlike, codes_read_alike}
use Rattle.sedona_cli.proofs.Asking.{reads_of_reads}
use Rattle.sedona_cli.proofs.Ends.{err_ok, ok_err, one_refusal}

-- ---- what agrees

-- the reads with which a whole row begins
pub agree_fronts : (reads more : List Read) (back rest asks others : List Ask) → asks ≡ of_reads reads ++ back → others ≡ of_reads more ++ rest → Agree (reads_in asks) (reads_in others) → Agree reads more
agree_fronts reads more back rest asks others is are agree =
    agree_front reads (reads_in back) more (reads_in rest)
    (subst (λ (l : List Read). Agree (reads ++ reads_in back) l) (parts more rest others are)
    (subst (λ (l : List Read). Agree l (reads_in others)) (parts reads back asks is) agree))
  where
    parts : (front : List Read) (b a : List Ask) → a ≡ of_reads front ++ b → reads_in a ≡ front ++ reads_in b
    parts front b a same = ap reads_in same ∙ flat_map-append read_of (of_reads front) b ∙ ap (λ (l : List Read). l ++ reads_in b) (reads_of_reads front)

-- a list that begins as another does
pub heads : (asks : List Ask) (one : Ask) (front back : List Ask) → asks ≡ front ++ back → front ≡ one ∷ [] → asks ≡ one ∷ back
heads asks one front back parts is = parts ∙ ap (λ (f : List Ask). f ++ back) is

pub true_false : true ≡ false → ⊥
true_false same = cc

pub attached_alike : (store : List ℕ) (a b : Bool) (asks rest back more : List Ask) → asks ≡ Attaches store a ∷ back → rest ≡ Attaches store b ∷ more → Pointwise asks rest → (a ≡ b) × (a ≡ b → Pointwise back more)
attached_alike store a b asks rest back more is are agree =
    let here = subst (λ (l : List Ask). Pointwise (Attaches store a ∷ back) l) are (subst (λ (l : List Ask). Pointwise l rest) is agree) in
    (here.0 refl, λ same. here.1 (ap (λ (x : Bool). Attaches store x) same))

-- bytes are read as one thing
abbrev pub ReadsOne : Type 0
ReadsOne = (m : Meaning) (limit : ℕ) (bytes : List ℕ) (one other : Reading) → HasTables m → CanBeTold m.schema → IsReadAs m limit bytes one → IsReadAs m limit bytes other → one ≡ other

pub same_reading : ReadsOne → (m n : Meaning) (limit : ℕ) (payload : List ℕ) (end other : Result Application Refusal) → MeanAlike m n → IsRead m limit payload end → IsRead n limit payload other → end ≡ other
same_reading one m n limit payload end other alike is are =
    is.end_is
    ∙ ap application_in (one m limit payload is.reading are.reading is.tables is.told is.is_read (codes_read_alike m n limit payload are.reading alike are.is_read))
    ∙ sym are.end_is

pub opened_alike : (a b : Opened) (asks rest back more : List Ask) → asks ≡ Opens a ∷ back → rest ≡ Opens b ∷ more → Pointwise asks rest → OpensAs a b
opened_alike a b asks rest back more is are agree =
    let here = subst (λ (l : List Ask). Pointwise (Opens a ∷ back) l) are (subst (λ (l : List Ask). Pointwise l rest) is agree) in
    here.0

pub no_found : (payload : List ℕ) → NotAStore ≡ Found payload → ⊥
no_found payload same = cc

pub unread_found : (payload : List ℕ) → Unread ≡ Found payload → ⊥
unread_found payload same = cc

pub no_unread : NotAStore ≡ Unread → ⊥
no_unread same = cc

pub one_found : (a b : List ℕ) → Found a ≡ Found b → a ≡ b
one_found a b same = cc

-- ---- steps

-- Two steps end alike where their answers agree, whatever stands behind them: with one refusal, or with values that are
-- alike, and then what stands behind agrees.
pub record EndsAlike {X : Type 0} (S T : List Ask → Result X Refusal → Type 0) (A : X → X → Type 0) : Type 0 where
  pub stop : (asks others : List Ask) (r s : Refusal) → S asks (Err r) → T others (Err s) → AgreeOn asks others → r ≡ s
  pub stop_go : (asks front back : List Ask) (r : Refusal) (y : X) → S asks (Err r) → T front (Ok y) → AgreeOn asks (front ++ back) → ⊥
  pub go_stop : (front back others : List Ask) (x : X) (s : Refusal) → S front (Ok x) → T others (Err s) → AgreeOn (front ++ back) others → ⊥
  pub go : (front back others rest : List Ask) (x y : X) → S front (Ok x) → T others (Ok y) → AgreeOn (front ++ back) (others ++ rest) → A x y × AgreeOn back rest

-- the first of two parts begins with the first of its own two
in_three : (all front back rest : List Ask) → all ≡ front ++ back → all ++ rest ≡ front ++ (back ++ rest)
in_three all front back rest parts = ap (λ (l : List Ask). l ++ rest) parts ∙ append_assoc front back rest

agree_left : (a b others : List Ask) → a ≡ b → AgreeOn a others → AgreeOn b others
agree_left a b others same agree = subst (λ (l : List Ask). AgreeOn l others) same agree

agree_right : (asks a b : List Ask) → a ≡ b → AgreeOn asks a → AgreeOn asks b
agree_right asks a b same agree = subst (λ (l : List Ask). AgreeOn asks l) same agree

-- one step behind the other
module _ {X Y : Type 0} (S T : List Ask → Result X Refusal → Type 0) (A : X → X → Type 0) (N M : X → List Ask → Result Y Refusal → Type 0) (B : Y → Y → Type 0) (one : EndsAlike S T A)
    (next : (x y : X) → A x y → EndsAlike (N x) (M y) B) where
  both_stop_then : (asks others : List Ask) (r s : Refusal) → AndThen S N asks (Err r) → AndThen T M others (Err s) → AgreeOn asks others → r ≡ s
  both_stop_then asks others r s (stops q h e) (stops t k d) agree = one_refusal {X = Y} r q e ∙ one.stop asks others q t h k agree ∙ sym (one_refusal {X = Y} s t d)
  both_stop_then asks others r s (stops q h e) (goes_on g d y parts k n) agree = absurd (one.stop_go asks g d q y h k (agree_right asks others (g ++ d) parts agree))
  both_stop_then asks others r s (goes_on f b x parts h n) (stops t k d) agree = absurd (one.go_stop f b others x t h k (agree_left asks (f ++ b) others parts agree))
  both_stop_then asks others r s (goes_on f b x parts h n) (goes_on g d y more k m) agree =
      let both = one.go f b g d x y h k (agree_right (f ++ b) others (g ++ d) more (agree_left asks (f ++ b) others parts agree)) in
      (next x y both.0).stop b d r s n m both.1

  stop_go_then : (asks front back : List Ask) (r : Refusal) (y : Y) → AndThen S N asks (Err r) → AndThen T M front (Ok y) → AgreeOn asks (front ++ back) → ⊥
  stop_go_then asks front back r y (stops q h e) (stops t k d) agree = ok_err y t d
  stop_go_then asks front back r y (stops q h e) (goes_on g d w parts k n) agree =
      one.stop_go asks g (d ++ back) q w h k (agree_right asks (front ++ back) (g ++ (d ++ back)) (in_three front g d back parts) agree)
  stop_go_then asks front back r y (goes_on f b x parts h n) (stops t k d) agree = ok_err y t d
  stop_go_then asks front back r y (goes_on f b x parts h n) (goes_on g d w more k m) agree =
      let both = one.go f b g (d ++ back) x w h k (agree_right (f ++ b) (front ++ back) (g ++ (d ++ back)) (in_three front g d back more) (agree_left asks (f ++ b) (front ++ back) parts agree)) in
      (next x w both.0).stop_go b d back r y n m both.1

  go_stop_then : (front back others : List Ask) (x : Y) (s : Refusal) → AndThen S N front (Ok x) → AndThen T M others (Err s) → AgreeOn (front ++ back) others → ⊥
  go_stop_then front back others x s (stops q h e) other agree = ok_err x q e
  go_stop_then front back others x s (goes_on f b u parts h n) (stops t k d) agree =
      one.go_stop f (b ++ back) others u t h k (agree_left (front ++ back) (f ++ (b ++ back)) others (in_three front f b back parts) agree)
  go_stop_then front back others x s (goes_on f b u parts h n) (goes_on g d w more k m) agree =
      let both = one.go f (b ++ back) g d u w h k (agree_right (f ++ (b ++ back)) others (g ++ d) more (agree_left (front ++ back) (f ++ (b ++ back)) others (in_three front f b back parts) agree)) in
      (next u w both.0).go_stop b back d x s n m both.1

  both_go_then : (front back others rest : List Ask) (x y : Y) → AndThen S N front (Ok x) → AndThen T M others (Ok y) → AgreeOn (front ++ back) (others ++ rest) → B x y × AgreeOn back rest
  both_go_then front back others rest x y (stops q h e) other agree = absurd (ok_err x q e)
  both_go_then front back others rest x y (goes_on f b u parts h n) (stops t k d) agree = absurd (ok_err y t d)
  both_go_then front back others rest x y (goes_on f b u parts h n) (goes_on g d w more k m) agree =
      let both = one.go f (b ++ back) g (d ++ rest) u w h k
      (agree_right (f ++ (b ++ back)) (others ++ rest) (g ++ (d ++ rest)) (in_three others g d rest more) (agree_left (front ++ back) (f ++ (b ++ back)) (others ++ rest) (in_three front f b back parts) agree)) in
      (next u w both.0).go b back d rest x y n m both.1

  pub then_alike : EndsAlike (AndThen S N) (AndThen T M) B
  then_alike = record { stop = both_stop_then; stop_go = stop_go_then; go_stop = go_stop_then; go = both_go_then }

-- ---- the last step

-- Two steps behind which nothing stands end alike: with one refusal, or both with a value.
pub record StopsAlike {X : Type 0} (S T : List Ask → Result X Refusal → Type 0) : Type 0 where
  pub stop : (asks others : List Ask) (r s : Refusal) → S asks (Err r) → T others (Err s) → AgreeOn asks others → r ≡ s
  pub stop_go : (asks others : List Ask) (r : Refusal) (y : X) → S asks (Err r) → T others (Ok y) → AgreeOn asks others → ⊥
  pub go_stop : (asks others : List Ask) (x : X) (s : Refusal) → S asks (Ok x) → T others (Err s) → AgreeOn asks others → ⊥

-- a step that is never refused
abbrev pub NeverRefused : {X : Type 0} → (List Ask → Result X Refusal → Type 0) → Type 0
NeverRefused S = (asks : List Ask) (r : Refusal) → S asks (Err r) → ⊥

pub never_stops : {X : Type 0} (S T : List Ask → Result X Refusal → Type 0) → NeverRefused S → NeverRefused T → StopsAlike S T
never_stops S T never not = record {
  stop = λ asks others r s h k agree. absurd (never asks r h);
  stop_go = λ asks others r y h k agree. never asks r h;
  go_stop = λ asks others x s h k agree. not others s k;
}

module _ {X Y : Type 0} (S T : List Ask → Result X Refusal → Type 0) (A : X → X → Type 0) (N M : X → List Ask → Result Y Refusal → Type 0) (one : EndsAlike S T A)
    (next : (x y : X) → A x y → StopsAlike (N x) (M y)) where
  last_stop : (asks others : List Ask) (r s : Refusal) → AndThen S N asks (Err r) → AndThen T M others (Err s) → AgreeOn asks others → r ≡ s
  last_stop asks others r s (stops q h e) (stops t k d) agree = one_refusal {X = Y} r q e ∙ one.stop asks others q t h k agree ∙ sym (one_refusal {X = Y} s t d)
  last_stop asks others r s (stops q h e) (goes_on g d y parts k n) agree = absurd (one.stop_go asks g d q y h k (agree_right asks others (g ++ d) parts agree))
  last_stop asks others r s (goes_on f b x parts h n) (stops t k d) agree = absurd (one.go_stop f b others x t h k (agree_left asks (f ++ b) others parts agree))
  last_stop asks others r s (goes_on f b x parts h n) (goes_on g d y more k m) agree =
      let both = one.go f b g d x y h k (agree_right (f ++ b) others (g ++ d) more (agree_left asks (f ++ b) others parts agree)) in
      (next x y both.0).stop b d r s n m both.1

  last_stop_go : (asks others : List Ask) (r : Refusal) (y : Y) → AndThen S N asks (Err r) → AndThen T M others (Ok y) → AgreeOn asks others → ⊥
  last_stop_go asks others r y (stops q h e) (stops t k d) agree = ok_err y t d
  last_stop_go asks others r y (stops q h e) (goes_on g d w parts k n) agree = one.stop_go asks g d q w h k (agree_right asks others (g ++ d) parts agree)
  last_stop_go asks others r y (goes_on f b x parts h n) (stops t k d) agree = ok_err y t d
  last_stop_go asks others r y (goes_on f b x parts h n) (goes_on g d w more k m) agree =
      let both = one.go f b g d x w h k (agree_right (f ++ b) others (g ++ d) more (agree_left asks (f ++ b) others parts agree)) in
      (next x w both.0).stop_go b d r y n m both.1

  last_go_stop : (asks others : List Ask) (x : Y) (s : Refusal) → AndThen S N asks (Ok x) → AndThen T M others (Err s) → AgreeOn asks others → ⊥
  last_go_stop asks others x s (stops q h e) other agree = ok_err x q e
  last_go_stop asks others x s (goes_on f b u parts h n) (stops t k d) agree = one.go_stop f b others u t h k (agree_left asks (f ++ b) others parts agree)
  last_go_stop asks others x s (goes_on f b u parts h n) (goes_on g d w more k m) agree =
      let both = one.go f b g d u w h k (agree_right (f ++ b) others (g ++ d) more (agree_left asks (f ++ b) others parts agree)) in
      (next u w both.0).go_stop b d x s n m both.1

  pub then_stops : StopsAlike (AndThen S N) (AndThen T M)
  then_stops = record { stop = last_stop; stop_go = last_stop_go; go_stop = last_go_stop }

-- a command whose steps end alike has one end
pub stops_once : (S T : List Ask → Result (List ℕ) Refusal → Type 0) → StopsAlike S T → (asks others : List Ask) (end other : Result (List ℕ) Refusal) → AgreeOn asks others
    → S asks end → T others other → refusal_by end ≡ refusal_by other
stops_once S T alike asks others (Ok x) (Ok y) agree h k = refl
stops_once S T alike asks others (Ok x) (Err s) agree h k = absurd (alike.go_stop asks others x s h k agree)
stops_once S T alike asks others (Err r) (Ok y) agree h k = absurd (alike.stop_go asks others r y h k agree)
stops_once S T alike asks others (Err r) (Err s) agree h k = ap (λ (x : Refusal). Some x) (alike.stop asks others r s h k agree)

-- ---- reading files

-- what two ends of a step of files have in common, the refusals being told so
abbrev pub EndsOne : {E X : Type 0} → (E → Refusal) → (X → X → Type 0) → Result X E → Result X E → Type 0
EndsOne told A (Ok x) (Ok y) = A x y
EndsOne told A (Err a) (Err b) = told a ≡ told b
EndsOne told A (Ok x) (Err b) = ⊥
EndsOne told A (Err a) (Ok y) = ⊥

abbrev pub FilesOne : {E X : Type 0} → (E → Refusal) → (List Read → Result X E → Type 0) → (X → X → Type 0) → Type 0
FilesOne {E} {X} told step A = (reads others : List Read) (end other : Result X E) → step reads end → step others other → Agree reads others → (reads ≡ others) × EndsOne told A end other

-- a row that is reads alone
alone : (asks : List Ask) (reads : List Read) → asks ≡ of_reads reads → asks ≡ of_reads reads ++ []
alone asks reads is = is ∙ sym (append-nil (of_reads reads))

pub behind_reads : (front back : List Ask) (reads : List Read) → front ≡ of_reads reads → front ++ back ≡ of_reads reads ++ back
behind_reads front back reads is = ap (λ (l : List Ask). l ++ back) is

pointwise_back : (reads : List Read) (back rest : List Ask) → Pointwise (of_reads reads ++ back) (of_reads reads ++ rest) → Pointwise back rest
pointwise_back [] back rest agrees = agrees
pointwise_back (read ∷ reads) back rest agrees = pointwise_back reads back rest (agrees.1 refl)

-- what stands behind the same reads agrees where all does
agree_behind : (reads : List Read) (back rest : List Ask) → AgreeOn (of_reads reads ++ back) (of_reads reads ++ rest) → AgreeOn back rest
agree_behind reads back rest agree = record {
  reads = agree_back reads (reads_in back) (reads_in rest)
      (subst (λ (l : List Read). Agree (reads ++ reads_in back) l) (parts rest) (subst (λ (l : List Read). Agree l (reads_in (of_reads reads ++ rest))) (parts back) agree.reads));
  rest = pointwise_back reads back rest agree.rest;
}
  where
    parts : (b : List Ask) → reads_in (of_reads reads ++ b) ≡ reads ++ reads_in b
    parts b = flat_map-append read_of (of_reads reads) b ∙ ap (λ (l : List Read). l ++ reads_in b) (reads_of_reads reads)

-- a step of reads whose refusals are the command's own
abbrev pub ReadsAlike : {X : Type 0} → (List Read → Result X Refusal → Type 0) → (X → X → Type 0) → Type 0
ReadsAlike step A = FilesOne (λ (r : Refusal). r) step A

pub reads_alike : {X : Type 0} (step : List Read → Result X Refusal → Type 0) (A : X → X → Type 0) → ReadsAlike step A → EndsAlike (OfReads step) (OfReads step) A
reads_alike {X} step A one = record {
  stop = λ asks others r s h k agree.
      let agrees = agree_fronts h.0 k.0 [] [] asks others (alone asks h.0 h.1) (alone others k.0 k.1) agree.reads in
      (one h.0 k.0 (Err r) (Err s) h.2 k.2 agrees).1;
  stop_go = λ asks front back r y h k agree.
      (one h.0 k.0 (Err r) (Ok y) h.2 k.2 (agree_fronts h.0 k.0 [] back asks (front ++ back) (alone asks h.0 h.1) (behind_reads front back k.0 k.1) agree.reads)).1;
  go_stop = λ front back others x s h k agree.
      (one h.0 k.0 (Ok x) (Err s) h.2 k.2 (agree_fronts h.0 k.0 back [] (front ++ back) others (behind_reads front back h.0 h.1) (alone others k.0 k.1) agree.reads)).1;
  go = λ front back others rest x y h k agree.
      let is = behind_reads front back h.0 h.1 in
      let are = behind_reads others rest k.0 k.1 in
      let both = one h.0 k.0 (Ok x) (Ok y) h.2 k.2 (agree_fronts h.0 k.0 back rest (front ++ back) (others ++ rest) is are agree.reads) in (
        both.1,
        agree_behind h.0 back rest
            (agree_right (of_reads h.0 ++ back) (others ++ rest) (of_reads h.0 ++ rest) (are ∙ ap (λ (l : List Read). of_reads l ++ rest) (sym both.0))
            (agree_left (front ++ back) (of_reads h.0 ++ back) (others ++ rest) is agree)),
      );
}

-- those of a step of files, as the command tells them
pub told_one : {E X : Type 0} (told : E → Refusal) (step : List Read → Result X E → Type 0) (A : X → X → Type 0) → FilesOne told step A → ReadsAlike (Told told step) A
told_one {E} {X} told step A one reads others (Ok x) (Ok y) h k agree = one reads others (Ok x) (Ok y) h k agree
told_one {E} {X} told step A one reads others (Err r) (Err s) h k agree =
    let same = one reads others (Err h.0) (Err k.0) h.1 k.1 agree in
    (same.0, h.2 ∙ same.1 ∙ sym k.2)
told_one {E} {X} told step A one reads others (Ok x) (Err s) h k agree = absurd (one reads others (Ok x) (Err k.0) h k.1 agree).1
told_one {E} {X} told step A one reads others (Err r) (Ok y) h k agree = absurd (one reads others (Err h.0) (Ok y) h.1 k agree).1

pub files_alike : {E X : Type 0} (told : E → Refusal) (step : List Read → Result X E → Type 0) (A : X → X → Type 0) → FilesOne told step A → EndsAlike (OfFiles told step) (OfFiles told step) A
files_alike told step A one = reads_alike (Told told step) A (told_one told step A one)

-- ---- a store

-- one thing that asks for no file, and what stands behind it
pub one_before : (front back : List Ask) (ask : Ask) → front ≡ ask ∷ [] → front ++ back ≡ ask ∷ back
one_before front back ask is = ap (λ (l : List Ask). l ++ back) is

unread_before : (asks back : List Ask) (ask : Ask) → read_of ask ≡ [] → asks ≡ ask ∷ back → reads_in asks ≡ reads_in back
unread_before asks back ask none is = ap reads_in is ∙ ap (λ (l : List Read). l ++ reads_in back) none

pub rest_agrees : (asks others back rest : List Ask) (a b : Ask) → read_of a ≡ [] → read_of b ≡ [] → asks ≡ a ∷ back → others ≡ b ∷ rest → Pointwise back rest → AgreeOn asks others → AgreeOn back rest
rest_agrees asks others back rest a b none nothing is are pointwise agree = record {
  reads = subst (λ (l : List Read). Agree (reads_in back) l) (unread_before others rest b nothing are) (subst (λ (l : List Read). Agree l (reads_in others)) (unread_before asks back a none is) agree.reads);
  rest = pointwise;
}

pub attached_ends : (store : List ℕ) → EndsAlike (StoreAttached store) (StoreAttached store) (λ (u v : Unit {0}). Unit {0})
attached_ends store = record {
  stop = λ asks others r s h k agree. h.1 ∙ sym k.1;
  stop_go = λ asks front back r y h k agree.
      true_false (sym (attached_alike store false true asks (front ++ back) [] back h.0 (one_before front back (Attaches store true) k) agree.rest).0);
  go_stop = λ front back others x s h k agree.
      true_false (attached_alike store true false (front ++ back) others back [] (one_before front back (Attaches store true) h) k.0 agree.rest).0;
  go = λ front back others rest x y h k agree.
      let is = one_before front back (Attaches store true) h in
      let are = one_before others rest (Attaches store true) k in (
        tt,
        rest_agrees (front ++ back) (others ++ rest) back rest (Attaches store true) (Attaches store true) refl refl is are
            ((attached_alike store true true (front ++ back) (others ++ rest) back rest is are agree.rest).1 refl) agree,
      );
}

both_opened : (a b : Opened) (asks rest back more : List Ask) → asks ≡ Opens a ∷ back → rest ≡ Opens b ∷ more → Pointwise asks rest → a ≡ b → Pointwise back more
both_opened a b asks rest back more is are agree same =
    let here = subst (λ (l : List Ask). Pointwise (Opens a ∷ back) l) are (subst (λ (l : List Ask). Pointwise l rest) is agree) in
    here.1 (ap (λ (o : Opened). Opens o) same)

opened_stops_alike : (asks others : List Ask) (r s : Refusal) → StoreOpened asks (Err r) → StoreOpened others (Err s) → AgreeOn asks others → r ≡ s
opened_stops_alike asks others r s (inl h) (inl k) agree = h.1 ∙ sym k.1
opened_stops_alike asks others r s (inr h) (inr k) agree = h.1 ∙ sym k.1
opened_stops_alike asks others r s (inl h) (inr k) agree = absurd (no_unread (opened_alike NotAStore Unread asks others [] [] h.0 k.0 agree.rest))
opened_stops_alike asks others r s (inr h) (inl k) agree = absurd (no_unread (sym (opened_alike Unread NotAStore asks others [] [] h.0 k.0 agree.rest)))

opened_stop_go : (asks front back : List Ask) (r : Refusal) (payload : List ℕ) → StoreOpened asks (Err r) → StoreOpened front (Ok payload) → AgreeOn asks (front ++ back) → ⊥
opened_stop_go asks front back r payload (inl h) k agree =
    no_found payload (opened_alike NotAStore (Found payload) asks (front ++ back) [] back h.0 (one_before front back (Opens (Found payload)) k) agree.rest)
opened_stop_go asks front back r payload (inr h) k agree =
    unread_found payload (opened_alike Unread (Found payload) asks (front ++ back) [] back h.0 (one_before front back (Opens (Found payload)) k) agree.rest)

opened_go_stop : (front back others : List Ask) (payload : List ℕ) (s : Refusal) → StoreOpened front (Ok payload) → StoreOpened others (Err s) → AgreeOn (front ++ back) others → ⊥
opened_go_stop front back others payload s h (inl k) agree =
    no_found payload (sym (opened_alike (Found payload) NotAStore (front ++ back) others back [] (one_before front back (Opens (Found payload)) h) k.0 agree.rest))
opened_go_stop front back others payload s h (inr k) agree =
    unread_found payload (sym (opened_alike (Found payload) Unread (front ++ back) others back [] (one_before front back (Opens (Found payload)) h) k.0 agree.rest))

pub opened_ends : EndsAlike StoreOpened StoreOpened (λ (p q : List ℕ). p ≡ q)
opened_ends = record {
  stop = opened_stops_alike;
  stop_go = opened_stop_go;
  go_stop = opened_go_stop;
  go = λ front back others rest p q h k agree.
      let is = one_before front back (Opens (Found p)) h in
      let are = one_before others rest (Opens (Found q)) k in
      let found : Found p ≡ Found q = opened_alike (Found p) (Found q) (front ++ back) (others ++ rest) back rest is are agree.rest in (
        one_found p q found,
        rest_agrees (front ++ back) (others ++ rest) back rest (Opens (Found p)) (Opens (Found q)) refl refl is are
            (both_opened (Found p) (Found q) (front ++ back) (others ++ rest) back rest is are agree.rest found) agree,
      );
}

-- ---- what asks for nothing

nothing_before : (front back others rest : List Ask) → front ≡ [] → others ≡ [] → AgreeOn (front ++ back) (others ++ rest) → AgreeOn back rest
nothing_before front back others rest none nothing agree =
    agree_right back (others ++ rest) rest (ap (λ (l : List Ask). l ++ rest) nothing) (agree_left (front ++ back) back (others ++ rest) (ap (λ (l : List Ask). l ++ back) none) agree)

pub decides_alike : {X : Type 0} (H K : Result X Refusal → Type 0) (A : X → X → Type 0) → ((r s : Refusal) → H (Err r) → K (Err s) → r ≡ s) → ((r : Refusal) (y : X) → H (Err r) → K (Ok y) → ⊥)
    → ((x : X) (s : Refusal) → H (Ok x) → K (Err s) → ⊥) → ((x y : X) → H (Ok x) → K (Ok y) → A x y) → EndsAlike (Decides H) (Decides K) A
decides_alike H K A stop stop_go go_stop go = record {
  stop = λ asks others r s h k agree. stop r s h.holds k.holds;
  stop_go = λ asks front back r y h k agree. stop_go r y h.holds k.holds;
  go_stop = λ front back others x s h k agree. go_stop x s h.holds k.holds;
  go = λ front back others rest x y h k agree. (go x y h.holds k.holds, nothing_before front back others rest h.none k.none agree);
}

pub same_value : {X : Type 0} (x y : X) → ◌≡◌ {A = Result X Refusal} (Ok x) (Ok y) → x ≡ y
same_value x y same = cc

-- values that are alike, and nothing more
pub gives_alike : {X : Type 0} (A : X → X → Type 0) (i j : X) → A i j → EndsAlike (Decides (λ (end : Result X Refusal). end ≡ Ok i)) (Decides (λ (end : Result X Refusal). end ≡ Ok j)) A
gives_alike {X} A i j alike =
    decides_alike (λ end. end ≡ Ok i) (λ end. end ≡ Ok j) A (λ r s h k. absurd (err_ok r i h)) (λ r y h k. err_ok r i h) (λ x s h k. err_ok s j k)
    (λ x y h k. subst (λ (l : X). A l y) (sym (same_value x i h)) (subst (λ (l : X). A i l) (sym (same_value y j k)) alike))

-- a payload read over codes that are alike
pub read_ends : ReadsOne → (m n : Meaning) (limit : ℕ) (payload bytes : List ℕ) → MeanAlike m n → payload ≡ bytes → EndsAlike (AppRead m limit payload) (AppRead n limit bytes) (λ (a b : Application). Unit {0})
read_ends one m n limit payload bytes alike same =
    decides_alike (IsRead m limit payload) (IsRead n limit bytes) (λ (a b : Application). Unit {0})
    (λ r s h k. one_refusal r s (ends (Err r) (Err s) h k)) (λ r y h k. err_ok r y (ends (Err r) (Ok y) h k)) (λ x s h k. ok_err x s (ends (Ok x) (Err s) h k)) (λ x y h k. tt)
  where
    ends : (end other : Result Application Refusal) → IsRead m limit payload end → IsRead n limit bytes other → end ≡ other
    ends end other h k = same_reading one m n limit bytes end other alike (subst (λ (t : List ℕ). IsRead m limit t end) same h) k
