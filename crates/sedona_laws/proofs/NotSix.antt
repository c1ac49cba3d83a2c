-- Behind the code of a node nothing is refused with 6.
use Rattle.std.proofs.Common.{◌≡◌, ◌⊎◌, ℕ, List, Result, Ok, Err, refl, sym, ap, ◌∙◌, inl, inr, arith}
use Rattle.sed_engine.specs.Code.{Meaning as Code}
use Rattle.comp_tree.specs.Application.{Application}
use Rattle.dasp_session.specs.declared.user.User.{User}
use Rattle.sed_outside.specs.Steps.{Read, AndThen, stops, goes_on}
use Rattle.input_files.specs.Inputs.{SecretRead, UsersRead}
use Rattle.input_files.specs.declared.refusal.InputRefusal.{InputRefusal}
use Rattle.input_files.specs.declared.refusal.InputRefusal.TheVariants as inputs
use Rattle.sedona_words.specs.Command.{RunAsked}
use Rattle.sedona_cli.specs.Given.{Given}
use Rattle.sedona_cli.specs.Nodes.{Opened}
use Rattle.sedona_cli.specs.declared.refusal.Refusal.{Refusal}
use Rattle.sedona_cli.specs.declared.refusal.Refusal.TheVariants.{DeviceFault, LinkFault, NoStore}
use Rattle.sedona_cli.specs.Outside.{Ask}
use Rattle.sedona_cli.specs.Refusals.{of_inputs}
use Rattle.sedona_cli.specs.Run.{LinkBound, Lives}
use Rattle.sedona_cli.specs.Steps.{AfterSecret, AfterUsers}
use Rattle.sedona_cli.proofs.Ends.{err_ok, one_refusal}
use Rattle.sedona_cli.proofs.StoreAsked.{of_payload, of_refusal}
use Rattle.sedona_laws.proofs.OverKits.{RestComes, RestRead}

-- ---- the refusals of input files

same_why : {X : Type 0} (r s : InputRefusal) → ◌≡◌ {A = Result X InputRefusal} (Err r) (Err s) → r ≡ s
same_why r s same = cc

users_why : (file : List ℕ) (reads : List Read) (why : InputRefusal) → UsersRead file reads (Err why) → (why ≡ inputs.FileFault file) ⊎ (why ≡ inputs.BadUsers)
unfolding UsersRead
users_why file reads why (stops r h e) = inl (same_why {X = List User} why r e ∙ h.1)
users_why file reads why (goes_on f b text parts h d) = inr d.holds.0

secret_why : (file : List ℕ) (reads : List Read) (why : InputRefusal) → SecretRead file reads (Err why) → (why ≡ inputs.FileFault file) ⊎ (why ≡ inputs.ShortSecret)
unfolding SecretRead
secret_why file reads why (stops r h e) = inl (same_why {X = List ℕ} why r e ∙ h.1)
secret_why file reads why (goes_on f b text parts h d) = inr d.holds.0

-- one of these is not of status 6
fault_not : (file : List ℕ) (why other : InputRefusal) (n : ℕ) → of_refusal (of_inputs other) ≡ n → (n ≡ 6 → ⊥) → (why ≡ inputs.FileFault file) ⊎ (why ≡ other) → of_refusal (of_inputs why) ≡ 6 → ⊥
fault_not file why other n number not_six (inl fault) six = (let three : of_refusal (of_inputs why) ≡ 3 = ap (λ (w : InputRefusal). of_refusal (of_inputs w)) fault in omega (arith, three, six))
fault_not file why other n number not_six (inr bad) six = not_six (sym (ap (λ (w : InputRefusal). of_refusal (of_inputs w)) bad ∙ number) ∙ six)

users_not : (file : List ℕ) (asks : List Ask) (r : Refusal) → AfterUsers file asks (Err r) → of_refusal r ≡ 6 → ⊥
users_not file asks r h six = fault_not file h.2.0 inputs.BadUsers 11 refl (λ e. omega (arith, e)) (users_why file h.0 h.2.0 h.2.1) (sym (ap of_refusal h.2.2) ∙ six)

secret_not : (file : List ℕ) (asks : List Ask) (r : Refusal) → AfterSecret file asks (Err r) → of_refusal r ≡ 6 → ⊥
secret_not file asks r h six = fault_not file h.2.0 inputs.ShortSecret 11 refl (λ e. omega (arith, e)) (secret_why file h.0 h.2.0 h.2.1) (sym (ap of_refusal h.2.2) ∙ six)

-- ---- a refusal that ends a later step is its own

ends_as : {X : Type 0} (r q : Refusal) → ◌≡◌ {A = Result X Refusal} (Err r) (Err q) → of_refusal r ≡ 6 → of_refusal q ≡ 6
ends_as {X} r q e six = sym (ap of_refusal (one_refusal {X = X} r q e)) ∙ six

read_not : (asked : RunAsked) (code : Code) (asks : List Ask) (r : Refusal) → RestRead asked.node code asks (Err r) → of_refusal r ≡ 6 → ⊥
read_not asked code asks r (stops q h e) six = users_not asked.node.users asks q h (ends_as {X = Given} r q e six)
read_not asked code asks r (goes_on f b users parts h (stops q k e)) six = secret_not asked.node.secret b q k (ends_as {X = Given} r q e six)
read_not asked code asks r (goes_on f b users parts h (goes_on g d secret more k last)) six =
    err_ok {X = Given} r (record { code = code; users = users; secret = secret }) last.holds

opened_not : (store : List ℕ) (limit : ℕ) (code : Code) (asks : List Ask) (r : Refusal) → Opened store limit code asks (Err r) → of_refusal r ≡ 6 → ⊥
unfolding Opened
opened_not store limit code asks r (stops q attached e) six =
    (let four : 4 ≡ 6 = sym (ap of_refusal attached.1) ∙ ends_as {X = Application} r q e six in omega (arith, four))
opened_not store limit code asks r (goes_on g d v second attached (stops q (inl opened) e)) six =
    (let five : 5 ≡ 6 = sym (ap of_refusal opened.1) ∙ ends_as {X = Application} r q e six in omega (arith, five))
opened_not store limit code asks r (goes_on g d v second attached (stops q (inr opened) e)) six =
    (let four : 4 ≡ 6 = sym (ap of_refusal opened.1) ∙ ends_as {X = Application} r q e six in omega (arith, four))
opened_not store limit code asks r (goes_on g d v second attached (goes_on h k payload third opened told)) six =
    (let five : of_refusal r ≡ 5 = (of_payload told.holds.reading r told.holds.end_is).five in omega (arith, five, six))

pub rest_not_six : (asked : RunAsked) (code : Code) (asks : List Ask) (r : Refusal) → RestComes asked code asks (Err r) → of_refusal r ≡ 6 → ⊥
rest_not_six asked code asks r (stops q h e) six = read_not asked code asks q h (ends_as {X = List ℕ} r q e six)
rest_not_six asked code asks r (goes_on f b given parts h (stops q opened e)) six = opened_not asked.node.store asked.node.limit given.code b q opened (ends_as {X = List ℕ} r q e six)
rest_not_six asked code asks r (goes_on f b given parts h (goes_on g d a more opened (stops q bound e))) six =
    (let ten : 10 ≡ 6 = sym (ap of_refusal bound.1) ∙ ends_as {X = List ℕ} r q e six in omega (arith, ten))
rest_not_six asked code asks r (goes_on f b given parts h (goes_on g d a more opened (goes_on k l u last bound lives))) six = err_ok r _ lives.end_is
