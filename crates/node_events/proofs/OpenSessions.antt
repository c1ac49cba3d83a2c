-- Which sessions stay open, and which are open when a payload is handed on.
use Rattle.std.proofs.Common.{◌≡◌, ◌≢◌, ◌<◌, ℕ, zero, suc, ◌-◌, ◌≤◌, inl, inr, Bool, true, false, List, [], ◌∷◌, length, get_or, refl, sym, ◌∙◌, ap, subst, arith}
use Rattle.std.specs.Prelude.{ℤ, ◌==◌, ◌&&◌, not, is_some, Option, Some, None, slice_set, if◌then◌else◌}
use Rattle.std.specs.Option.{option_map_or}
use Rattle.std.proofs.lemmas.Bool.{cases_eq}
use Rattle.std.proofs.lemmas.List.{get_or-set_other, get_or-set_same}
use Rattle.sed_outside.specs.declared.addr.Addr.{Addr}
use Rattle.dasp_msg.specs.declared.kind.MsgKind.{MsgKind}
use Rattle.dasp_msg.specs.declared.kind.MsgKind.TheVariants.{Hello, Challenge, Authenticate, Welcome, KeepAlive, Datagram, Close}
use Rattle.dasp_msg.specs.Shown.{Message}
use Rattle.dasp_session.specs.declared.user.User.{User}
use Rattle.dasp_msg.specs.declared.receiver.Taken.{Taken}
use Rattle.dasp_msg.specs.declared.receiver.Taken.TheVariants.{New, Repeat, Outside}
use Rattle.dasp_msg.specs.Posted.{has_room}
use Rattle.dasp_msg.specs.TakenIndexes.{taken_as}
use Rattle.dasp_session.specs.Closing.{other_digest, other_version, too_many}
use Rattle.dasp_session.specs.Hearing.{Effect, nothing, ended, delivers, Step, answered, authenticated, delivered, ends, hears, in_session, is_authenticated, is_proof, refused, silent, taken_in}
use Rattle.dasp_session.specs.Letters.{close, keep_alive, welcome}
use Rattle.dasp_session.specs.Looking.{Found, found_from, free_from, is_session_of, is_waiting_for, session_at}
use Rattle.dasp_session.specs.Receive.{Handing, Outcome, none, ended_at, payload_at, answers, at_place, challenged, handed_at, hello, in_found, is_sha_1, keep_of, made_at, new_session, post_of, received_as, tick_of}
use Rattle.dasp_session.specs.Session.{Session, State}
use Rattle.dasp_session.specs.Ticking.{is_over, kept_up, posted_in, sent_all, ticked}
use Rattle.node_events.specs.Node.{is_open}

-- ---- lists of sessions

abbrev pub Sessions : Type 0
Sessions = List (Option Session)

pub within : (xs : Sessions) (i : ℕ) (x : Session) → get_or xs i None ≡ Some x → i < length xs
within [] i x is = absurd (let no : ◌≡◌ {A = Option Session} None (Some x) = is in cc)
within (y ∷ xs) zero x is = omega arith
within (y ∷ xs) (suc i) x is = let less = within xs i x is in omega arith

-- ---- one session

-- what was open is open: what is not open after was not open before
abbrev pub Stays : State → State → Type 0
Stays before after = (q : ℕ) → is_open after q ≡ false → is_open before q ≡ false

-- what a step makes of a session: it stays open where it goes on, and is open where it delivers
abbrev Fact : Session → Option Session → Effect → Type 0
Fact x (Some y) nothing = is_authenticated y ≡ false → is_authenticated x ≡ false
Fact x None nothing = ⊥
Fact x o ended = Unit {0}
Fact x (Some y) (delivers bytes) = is_authenticated y ≡ true
Fact x None (delivers bytes) = ⊥

abbrev StepFact : Session → Step → Type 0
StepFact x step = Fact x step.session step.effect

refused_fact : (x : Session) → StepFact x (refused x)
refused_fact x = by_test (is_authenticated x)
  where
    by_test : (b : Bool) → StepFact x (if b then silent x else ends (close x.remote_id (Some 0xe4) ∷ []))
    by_test true = λ closed. closed
    by_test false = tt {0}

authenticated_fact : (users : List User) (message : Message) (x : Session) → StepFact x (authenticated users message x)
authenticated_fact users message x = by_name message.username refl
  where
    by_name : (name : Option (List ℕ)) → message.username ≡ name → StepFact x (authenticated users message x)
    by_name None is = subst (λ (b : Bool). StepFact x (if b then record { session = Some (record x { user = message.username }); says = welcome x.remote_id ∷ []; effect = nothing } else refused x))
        (sym (ap (λ (name : Option (List ℕ)). is_proof users x.nonce name message.digest) is)) (refused_fact x)
    by_name (Some name) is = by_test (is_proof users x.nonce message.username message.digest)
      where
        by_test : (b : Bool) → StepFact x (if b then record { session = Some (record x { user = message.username }); says = welcome x.remote_id ∷ []; effect = nothing } else refused x)
        by_test true = λ closed. absurd (let no : true ≡ false = sym (ap is_some is) ∙ closed in cc)
        by_test false = refused_fact x

taken_fact : (message : Message) (x : Session) (taken : Taken) → is_authenticated x ≡ true → StepFact x (taken_in taken message x)
taken_fact message x New is = is
taken_fact message x Repeat is = λ closed. closed
taken_fact message x Outside is = λ closed. closed

delivered_fact : (message : Message) (x : Session) → StepFact x (delivered message x)
delivered_fact message x = by_tests (is_authenticated x) (has_room x.posted) refl
  where
    by_tests : (b c : Bool) → is_authenticated x ≡ b → StepFact x (if b && c then taken_in (taken_as x.taken message.sequence) message x else silent x)
    by_tests true true is = taken_fact message x (taken_as x.taken message.sequence) is
    by_tests true false is = λ closed. closed
    by_tests false c is = λ closed. closed

answered_fact : (kind : MsgKind) (users : List User) (message : Message) (x : Session) → StepFact x (answered kind users message x)
answered_fact Hello users message x = λ closed. closed
answered_fact Challenge users message x = λ closed. closed
answered_fact Authenticate users message x = authenticated_fact users message x
answered_fact Welcome users message x = λ closed. closed
answered_fact KeepAlive users message x = λ closed. closed
answered_fact Datagram users message x = delivered_fact message x
answered_fact Close users message x = tt {0}

-- hearing leaves the user
heard_fact : (users : List User) (moment : ℤ) (message : Message) (x : Session) → StepFact x (in_session users moment message x)
heard_fact users moment message x = answered_fact message.kind users message (hears moment message x)

-- ---- all sessions

-- what a call leaves, by what it hands on
abbrev pub Leaves : State → State → Handing → Type 0
Leaves before after none = Stays before after
Leaves before after (ended_at place) = (q : ℕ) → q ≢ place → is_open after q ≡ false → is_open before q ≡ false
Leaves before after (payload_at place bytes) = Stays before after × (is_open after place ≡ true)

module _ (state : State) where
  -- one session in the place of another
  abbrev with_session : ℕ → Option Session → State
  with_session place o = record state { sessions = slice_set state.sessions place o }

  beside : (place : ℕ) (o : Option Session) (q : ℕ) → q ≢ place → is_open (with_session place o) q ≡ is_open state q
  beside place o q ne = ap (λ (r : Option Session). option_map_or is_authenticated r false) (get_or-set_other state.sessions place q o None ne)

  here : (place : ℕ) (x : Session) (o : Option Session) → session_at state place ≡ Some x → session_at (with_session place o) place ≡ o
  here place x o is = get_or-set_same state.sessions place o None (within state.sessions place x is)

  step_leaves : (place : ℕ) (x : Session) (o : Option Session) (effect : Effect) → session_at state place ≡ Some x → Fact x o effect
      → Leaves state (with_session place o) (handed_at place effect)
  step_leaves place x None nothing is fact = absurd fact
  step_leaves place x (Some y) nothing is fact = λ q closed. elim (cases_eq q place) [
    | inl e ↦
        let after : is_open (with_session place (Some y)) place ≡ false = ap (is_open (with_session place (Some y))) (sym e) ∙ closed in
        let y_closed : is_authenticated y ≡ false = sym (ap (λ (r : Option Session). option_map_or is_authenticated r false) (here place x (Some y) is)) ∙ after in
        ap (is_open state) e ∙ ap (λ (r : Option Session). option_map_or is_authenticated r false) is ∙ fact y_closed
    | inr ne ↦ sym (beside place (Some y) q ne) ∙ closed
  ]
  step_leaves place x o ended is fact = λ q ne closed. sym (beside place o q ne) ∙ closed
  step_leaves place x None (delivers bytes) is fact = absurd fact
  step_leaves place x (Some y) (delivers bytes) is fact = (
    λ q closed. elim (cases_eq q place) [
      | inl e ↦ absurd (
          let after : is_open (with_session place (Some y)) place ≡ false = ap (is_open (with_session place (Some y))) (sym e) ∙ closed in
          let no : true ≡ false = sym fact ∙ sym (ap (λ (r : Option Session). option_map_or is_authenticated r false) (here place x (Some y) is)) ∙ after in
          cc)
      | inr ne ↦ sym (beside place (Some y) q ne) ∙ closed
    ],
    ap (λ (r : Option Session). option_map_or is_authenticated r false) (here place x (Some y) is) ∙ fact,
  )

-- ---- a hello

abbrev nobody : Option Session
nobody = None

pub free_is : (at place : ℕ) (xs : Sessions) → free_from at xs ≡ Some place → (at ≤ place) × (get_or xs (place - at) None ≡ None)
free_is at place [] is = absurd (let no : ◌≡◌ {A = Option ℕ} None (Some place) = is in cc)
free_is at place (None ∷ xs) is =
    let same : at ≡ place = some_eq at place is in
    (omega arith, ap (λ (k : ℕ). get_or (nobody ∷ xs) k None) (let zero_is : place - at ≡ 0 = omega arith in zero_is))
  where
    some_eq : (a b : ℕ) → ◌≡◌ {A = Option ℕ} (Some a) (Some b) → a ≡ b
    some_eq a b is = cc
free_is at place (Some x ∷ xs) is =
    let rest = free_is (suc at) place xs is in
    let less = rest.0 in
    (omega arith, ap (λ (k : ℕ). get_or (Some x ∷ xs) k None) (let next : place - at ≡ suc (place - suc at) = omega arith in next) ∙ rest.1)

pub found_is : (test : Session → Bool) (at : ℕ) (xs : Sessions) (found : Found) → found_from test at xs ≡ Some found
    → (at ≤ found.place) × (get_or xs (found.place - at) None ≡ Some found.session)
found_is test at [] found is = absurd (let no : ◌≡◌ {A = Option Found} None (Some found) = is in cc)
found_is test at (None ∷ xs) found is =
    let rest = found_is test (suc at) xs found is in
    let less = rest.0 in
    (omega arith, ap (λ (k : ℕ). get_or (nobody ∷ xs) k None) (let next : found.place - at ≡ suc (found.place - suc at) = omega arith in next) ∙ rest.1)
found_is test at (Some x ∷ xs) found is = by_test (test x) (λ later. found_is test (suc at) xs found later) is
  where
    some_eq : (a b : Found) → ◌≡◌ {A = Option Found} (Some a) (Some b) → a ≡ b
    some_eq a b is = cc

    by_test : (b : Bool)
        → (found_from test (suc at) xs ≡ Some found → (suc at ≤ found.place) × (get_or xs (found.place - suc at) None ≡ Some found.session))
        → (if b then Some (record { place = at; session = x }) else found_from test (suc at) xs) ≡ Some found
        → (at ≤ found.place) × (get_or (Some x ∷ xs) (found.place - at) None ≡ Some found.session)
    by_test true later is =
        let same = some_eq (record { place = at; session = x }) found is in
        let place : at ≡ found.place = ap (λ (f : Found). f.place) same in (
          omega arith,
          ap (λ (k : ℕ). get_or (Some x ∷ xs) k None) (let zero_is : found.place - at ≡ 0 = omega arith in zero_is)
              ∙ ap (λ (f : Found). Some f.session) same,
        )
    by_test false later is =
        let rest = later is in
        let less = rest.0 in
        (omega arith, ap (λ (k : ℕ). get_or (Some x ∷ xs) k None) (let next : found.place - at ≡ suc (found.place - suc at) = omega arith in next) ∙ rest.1)

module _ (state : State) (from : Addr) where
  made_leaves : (remote_id : ℕ) (o : Option ℕ) → free_from 0 state.sessions ≡ o → Leaves state (made_at state from remote_id o).state (made_at state from remote_id o).handing
  made_leaves remote_id None is = λ q closed. closed
  made_leaves remote_id (Some place) is = λ q closed. elim (cases_eq q place) [
    | inl e ↦
        let free = (free_is 0 place state.sessions is).1 in
        ap (λ (k : ℕ). option_map_or is_authenticated (get_or state.sessions k None) false) (let same : q ≡ place - 0 = omega arith in same)
        ∙ ap (λ (r : Option Session). option_map_or is_authenticated r false) free
    | inr ne ↦ sym (beside state place (Some (new_session state from remote_id place)) q ne) ∙ closed
  ]

  either : (b : Bool) (x y : Outcome) → Leaves state x.state x.handing → Leaves state y.state y.handing
      → Leaves state (if b then x else y).state (if b then x else y).handing
  either true x y one other = one
  either false x y one other = other

  same : (message : Message) → Leaves state (answers state from message).state (answers state from message).handing
  same message = λ q closed. closed

  challenged_leaves : (remote_id : ℕ) (o : Option Found) → Leaves state (challenged state from remote_id o).state (challenged state from remote_id o).handing
  challenged_leaves remote_id (Some found) = λ q closed. closed
  challenged_leaves remote_id None =
      either (state.made == 4294967295) (answers state from (close remote_id (Some too_many))) (made_at state from remote_id (free_from 0 state.sessions))
      (same (close remote_id (Some too_many))) (made_leaves remote_id (free_from 0 state.sessions) refl)

  hello_leaves : (version remote_id : Option ℕ) (algorithm : Option (List ℕ))
      → Leaves state (hello state from version remote_id algorithm).state (hello state from version remote_id algorithm).handing
  hello_leaves None remote_id algorithm = λ q closed. closed
  hello_leaves (Some version) None algorithm = λ q closed. closed
  hello_leaves (Some version) (Some remote_id) algorithm =
      either (not (version == 0x0100)) (answers state from (close remote_id (Some other_version)))
      (if not (is_sha_1 algorithm) then answers state from (close remote_id (Some other_digest))
      else challenged state from remote_id (found_from (is_waiting_for from remote_id) 0 state.sessions))
      (same (close remote_id (Some other_version)))
      (either (not (is_sha_1 algorithm)) (answers state from (close remote_id (Some other_digest)))
      (challenged state from remote_id (found_from (is_waiting_for from remote_id) 0 state.sessions)) (same (close remote_id (Some other_digest)))
      (challenged_leaves remote_id (found_from (is_waiting_for from remote_id) 0 state.sessions)))

  found_leaves : (message : Message) (o : Option Found) → found_from (is_session_of message.to from) 0 state.sessions ≡ o
      → Leaves state (in_found state message o).state (in_found state message o).handing
  found_leaves message None is = λ q closed. closed
  found_leaves message (Some found) is =
      let there = (found_is (is_session_of message.to from) 0 state.sessions found is).1 in
      let step = in_session state.users state.moment message found.session in
      step_leaves state found.place found.session step.session step.effect
      (ap (λ (k : ℕ). get_or state.sessions k None) (let same : found.place ≡ found.place - 0 = omega arith in same) ∙ there)
      (heard_fact state.users state.moment message found.session)

  pub received_leaves : (kind : MsgKind) (message : Message) → Leaves state (received_as kind state from message).state (received_as kind state from message).handing
  received_leaves Hello message = hello_leaves message.version message.remote_id message.algorithm
  received_leaves Challenge message = found_leaves message (found_from (is_session_of message.to from) 0 state.sessions) refl
  received_leaves Authenticate message = found_leaves message (found_from (is_session_of message.to from) 0 state.sessions) refl
  received_leaves Welcome message = found_leaves message (found_from (is_session_of message.to from) 0 state.sessions) refl
  received_leaves KeepAlive message = found_leaves message (found_from (is_session_of message.to from) 0 state.sessions) refl
  received_leaves Datagram message = found_leaves message (found_from (is_session_of message.to from) 0 state.sessions) refl
  received_leaves Close message = found_leaves message (found_from (is_session_of message.to from) 0 state.sessions) refl

-- ---- the other calls

place_leaves : (state : State) (place : ℕ) (step : Session → Step) → ((x : Session) → StepFact x (step x)) → (o : Option Session)
    → session_at state place ≡ o → Leaves state (at_place state place step o).state (at_place state place step o).handing
place_leaves state place step fact None is = λ q closed. closed
place_leaves state place step fact (Some x) is = step_leaves state place x (step x).session (step x).effect is (fact x)

pub tick_leaves : (state : State) (place : ℕ) → Leaves state (tick_of state place).state (tick_of state place).handing
tick_leaves state place = place_leaves state place (ticked state.moment) fact (session_at state place) refl
  where
    by_test : (x : Session) (b : Bool) → StepFact x (if b then ends (close x.remote_id (Some 0xe5) ∷ []) else sent_all state.moment x)
    by_test x true = tt {0}
    by_test x false = λ closed. closed

    fact : (x : Session) → StepFact x (ticked state.moment x)
    fact x = by_test x (is_over state.moment x)

-- what is handed on by a post and a keepAlive is nothing
pub post_stays : (state : State) (place : ℕ) (bytes : List ℕ) → Stays state (post_of state place bytes).state
post_stays state place bytes = by_session (session_at state place) refl
  where
    by_session : (o : Option Session) → session_at state place ≡ o → Stays state (at_place state place (posted_in state.moment bytes) o).state
    by_session None is = λ q closed. closed
    by_session (Some x) is =
        step_leaves state place x (posted_in state.moment bytes x).session nothing is (λ closed. closed)

pub keep_stays : (state : State) (place : ℕ) → Stays state (keep_of state place).state
keep_stays state place = by_session (session_at state place) refl
  where
    by_session : (o : Option Session) → session_at state place ≡ o → Stays state (at_place state place kept_up o).state
    by_session None is = λ q closed. closed
    by_session (Some x) is = step_leaves state place x (kept_up x).session nothing is (by_test x x.owed)
      where
        by_test : (x : Session) (b : Bool)
            → Fact x (if b then record { session = Some (record x { owed = false }); says = keep_alive x.remote_id x.taken ∷ []; effect = nothing } else silent x).session nothing
        by_test x true = λ closed. closed
        by_test x false = λ closed. closed
