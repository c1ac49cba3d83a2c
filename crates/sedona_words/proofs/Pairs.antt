-- The words of the table, an option behind the other.
use Rattle.std.proofs.Common.{◌≡◌, true, List, [], ◌∷◌, ◌++◌, Option, Some, None, refl, ◌∙◌}
use Rattle.std.specs.Prelude.{codes}
use Rattle.std.specs.List.{list_all}
use Rattle.clap.specs.Walk.{Row, Text, Walk, settled_rows}
use Rattle.clap.specs.Simple.{filled}
use Rattle.clap.proofs.OnLiterals.{clap_on_literals}
use Rattle.sedona_words.specs.Run.{needed_option, option_or, run_of}
use Rattle.sedona_words.specs.Values.{asked_by, is_plain, needed_pairs, other_pairs}
use Rattle.clap.proofs.WalkLemmas.{both}
use Rattle.sedona_words.proofs.Steps.{Reads, between, given, given_by, pair_reads, rules, then_read}

-- what was found, and the last option with its value
abbrev Found : Type 0
Found = List Row × Option (Text × List Text)

abbrev then_found : Found → Text → Text → Found
then_found before name value = (settled_rows rules before.1 before.0, Some (name, value ∷ []))

abbrev pub at : Found → Walk
at found = between found.0 found.1

abbrev nothing : Found
nothing = ([], None)

abbrev kits_found : Text → Found
kits_found kits = then_found nothing (codes "kits") kits

kits_read : (kits : Text) → is_plain kits ≡ true → Reads (codes "--kits" ∷ kits ∷ []) (at nothing) (at (kits_found kits))
unfolding clap_on_literals
kits_read kits plain = pair_reads (filled (needed_option (codes "kits"))) nothing.0 (kits_found kits).0 nothing.1 (codes "--kits") (codes "kits") kits plain refl refl refl refl refl

abbrev store_found : Text → Text → Found
store_found kits store = then_found (kits_found kits) (codes "store") store

store_read : (kits store : Text) → is_plain store ≡ true → Reads (codes "--store" ∷ store ∷ []) (at (kits_found kits)) (at (store_found kits store))
unfolding clap_on_literals
store_read kits store plain = pair_reads (filled (needed_option (codes "store"))) (kits_found kits).0 (store_found kits store).0 (kits_found kits).1 (codes "--store") (codes "store") store plain refl refl refl refl refl

abbrev users_found : Text → Text → Text → Found
users_found kits store users = then_found (store_found kits store) (codes "users") users

users_read : (kits store users : Text) → is_plain users ≡ true → Reads (codes "--users" ∷ users ∷ []) (at (store_found kits store)) (at (users_found kits store users))
unfolding clap_on_literals
users_read kits store users plain = pair_reads (filled (needed_option (codes "users"))) (store_found kits store).0 (users_found kits store users).0 (store_found kits store).1 (codes "--users") (codes "users") users plain refl refl refl refl refl

abbrev secret_found : Text → Text → Text → Text → Found
secret_found kits store users secret = then_found (users_found kits store users) (codes "secret") secret

secret_read : (kits store users secret : Text) → is_plain secret ≡ true → Reads (codes "--secret" ∷ secret ∷ []) (at (users_found kits store users)) (at (secret_found kits store users secret))
unfolding clap_on_literals
secret_read kits store users secret plain = pair_reads (filled (needed_option (codes "secret"))) (users_found kits store users).0 (secret_found kits store users secret).0 (users_found kits store users).1 (codes "--secret") (codes "secret") secret plain refl refl refl refl refl

abbrev port_found : Text → Text → Text → Text → Text → Found
port_found kits store users secret port = then_found (secret_found kits store users secret) (codes "port") port

port_read : (kits store users secret port : Text) → is_plain port ≡ true → Reads (codes "--port" ∷ port ∷ []) (at (secret_found kits store users secret)) (at (port_found kits store users secret port))
unfolding clap_on_literals
port_read kits store users secret port plain = pair_reads (filled (needed_option (codes "port"))) (secret_found kits store users secret).0 (port_found kits store users secret port).0 (secret_found kits store users secret).1 (codes "--port") (codes "port") port plain refl refl refl refl refl

abbrev cycles_found : Text → Text → Text → Text → Text → Text → Found
cycles_found kits store users secret port cycles = then_found (port_found kits store users secret port) (codes "cycles") cycles

cycles_read : (kits store users secret port cycles : Text) → is_plain cycles ≡ true → Reads (codes "--cycles" ∷ cycles ∷ []) (at (port_found kits store users secret port)) (at (cycles_found kits store users secret port cycles))
unfolding clap_on_literals
cycles_read kits store users secret port cycles plain = pair_reads (filled (needed_option (codes "cycles"))) (port_found kits store users secret port).0 (cycles_found kits store users secret port cycles).0 (port_found kits store users secret port).1 (codes "--cycles") (codes "cycles") cycles plain refl refl refl refl refl

abbrev period_found : Text → Text → Text → Text → Text → Text → Text → Found
period_found kits store users secret port cycles period = then_found (cycles_found kits store users secret port cycles) (codes "period") period

period_read : (kits store users secret port cycles period : Text) → is_plain period ≡ true → Reads (codes "--period" ∷ period ∷ []) (at (cycles_found kits store users secret port cycles)) (at (period_found kits store users secret port cycles period))
unfolding clap_on_literals
period_read kits store users secret port cycles period plain = pair_reads (filled (option_or (codes "period") (codes "100"))) (cycles_found kits store users secret port cycles).0 (period_found kits store users secret port cycles period).0 (cycles_found kits store users secret port cycles).1 (codes "--period") (codes "period") period plain refl refl refl refl refl

abbrev turns_found : Text → Text → Text → Text → Text → Text → Text → Text → Found
turns_found kits store users secret port cycles period turns = then_found (period_found kits store users secret port cycles period) (codes "turns") turns

turns_read : (kits store users secret port cycles period turns : Text) → is_plain turns ≡ true → Reads (codes "--turns" ∷ turns ∷ []) (at (period_found kits store users secret port cycles period)) (at (turns_found kits store users secret port cycles period turns))
unfolding clap_on_literals
turns_read kits store users secret port cycles period turns plain = pair_reads (filled (option_or (codes "turns") (codes "10000"))) (period_found kits store users secret port cycles period).0 (turns_found kits store users secret port cycles period turns).0 (period_found kits store users secret port cycles period).1 (codes "--turns") (codes "turns") turns plain refl refl refl refl refl

abbrev limit_found : Text → Text → Text → Text → Text → Text → Text → Text → Text → Found
limit_found kits store users secret port cycles period turns limit = then_found (turns_found kits store users secret port cycles period turns) (codes "data") limit

limit_read : (kits store users secret port cycles period turns limit : Text) → is_plain limit ≡ true → Reads (codes "--data" ∷ limit ∷ []) (at (turns_found kits store users secret port cycles period turns)) (at (limit_found kits store users secret port cycles period turns limit))
unfolding clap_on_literals
limit_read kits store users secret port cycles period turns limit plain = pair_reads (filled (option_or (codes "data") (codes "4194304"))) (turns_found kits store users secret port cycles period turns).0 (limit_found kits store users secret port cycles period turns limit).0 (turns_found kits store users secret port cycles period turns).1 (codes "--data") (codes "data") limit plain refl refl refl refl refl

-- ---- all of them

needed_read : (kits store users secret port cycles : Text) → list_all is_plain (kits ∷ store ∷ users ∷ secret ∷ port ∷ cycles ∷ []) ≡ true
    → Reads (needed_pairs kits store users secret port cycles) (at nothing) (at (cycles_found kits store users secret port cycles))
needed_read kits store users secret port cycles plain =
    let p0 = both (is_plain kits) (list_all is_plain (store ∷ users ∷ secret ∷ port ∷ cycles ∷ [])) plain in
    let p1 = both (is_plain store) (list_all is_plain (users ∷ secret ∷ port ∷ cycles ∷ [])) p0.1 in
    let p2 = both (is_plain users) (list_all is_plain (secret ∷ port ∷ cycles ∷ [])) p1.1 in
    let p3 = both (is_plain secret) (list_all is_plain (port ∷ cycles ∷ [])) p2.1 in
    let p4 = both (is_plain port) (list_all is_plain (cycles ∷ [])) p3.1 in
    let p5 = both (is_plain cycles) (list_all is_plain ([])) p4.1 in
    (then_read (codes "--kits") kits (codes "--store" ∷ store ∷ codes "--users" ∷ users ∷ codes "--secret" ∷ secret ∷ codes "--port" ∷ port ∷ codes "--cycles" ∷ cycles ∷ []) (at nothing) (at (kits_found kits)) (at (cycles_found kits store users secret port cycles)) (kits_read kits p0.0)
    (then_read (codes "--store") store (codes "--users" ∷ users ∷ codes "--secret" ∷ secret ∷ codes "--port" ∷ port ∷ codes "--cycles" ∷ cycles ∷ []) (at (kits_found kits)) (at (store_found kits store)) (at (cycles_found kits store users secret port cycles)) (store_read kits store p1.0)
    (then_read (codes "--users") users (codes "--secret" ∷ secret ∷ codes "--port" ∷ port ∷ codes "--cycles" ∷ cycles ∷ []) (at (store_found kits store)) (at (users_found kits store users)) (at (cycles_found kits store users secret port cycles)) (users_read kits store users p2.0)
    (then_read (codes "--secret") secret (codes "--port" ∷ port ∷ codes "--cycles" ∷ cycles ∷ []) (at (users_found kits store users)) (at (secret_found kits store users secret)) (at (cycles_found kits store users secret port cycles)) (secret_read kits store users secret p3.0)
    (then_read (codes "--port") port (codes "--cycles" ∷ cycles ∷ []) (at (secret_found kits store users secret)) (at (port_found kits store users secret port)) (at (cycles_found kits store users secret port cycles)) (port_read kits store users secret port p4.0)
    (cycles_read kits store users secret port cycles p5.0))))))

all_read : (kits store users secret port cycles period turns limit : Text) → list_all is_plain (kits ∷ store ∷ users ∷ secret ∷ port ∷ cycles ∷ period ∷ turns ∷ limit ∷ []) ≡ true
    → Reads (needed_pairs kits store users secret port cycles ++ other_pairs period turns limit) (at nothing) (at (limit_found kits store users secret port cycles period turns limit))
all_read kits store users secret port cycles period turns limit plain =
    let p0 = both (is_plain kits) (list_all is_plain (store ∷ users ∷ secret ∷ port ∷ cycles ∷ period ∷ turns ∷ limit ∷ [])) plain in
    let p1 = both (is_plain store) (list_all is_plain (users ∷ secret ∷ port ∷ cycles ∷ period ∷ turns ∷ limit ∷ [])) p0.1 in
    let p2 = both (is_plain users) (list_all is_plain (secret ∷ port ∷ cycles ∷ period ∷ turns ∷ limit ∷ [])) p1.1 in
    let p3 = both (is_plain secret) (list_all is_plain (port ∷ cycles ∷ period ∷ turns ∷ limit ∷ [])) p2.1 in
    let p4 = both (is_plain port) (list_all is_plain (cycles ∷ period ∷ turns ∷ limit ∷ [])) p3.1 in
    let p5 = both (is_plain cycles) (list_all is_plain (period ∷ turns ∷ limit ∷ [])) p4.1 in
    let p6 = both (is_plain period) (list_all is_plain (turns ∷ limit ∷ [])) p5.1 in
    let p7 = both (is_plain turns) (list_all is_plain (limit ∷ [])) p6.1 in
    let p8 = both (is_plain limit) (list_all is_plain ([])) p7.1 in
    (then_read (codes "--kits") kits (codes "--store" ∷ store ∷ codes "--users" ∷ users ∷ codes "--secret" ∷ secret ∷ codes "--port" ∷ port ∷ codes "--cycles" ∷ cycles ∷ codes "--period" ∷ period ∷ codes "--turns" ∷ turns ∷ codes "--data" ∷ limit ∷ []) (at nothing) (at (kits_found kits)) (at (limit_found kits store users secret port cycles period turns limit)) (kits_read kits p0.0)
    (then_read (codes "--store") store (codes "--users" ∷ users ∷ codes "--secret" ∷ secret ∷ codes "--port" ∷ port ∷ codes "--cycles" ∷ cycles ∷ codes "--period" ∷ period ∷ codes "--turns" ∷ turns ∷ codes "--data" ∷ limit ∷ []) (at (kits_found kits)) (at (store_found kits store)) (at (limit_found kits store users secret port cycles period turns limit)) (store_read kits store p1.0)
    (then_read (codes "--users") users (codes "--secret" ∷ secret ∷ codes "--port" ∷ port ∷ codes "--cycles" ∷ cycles ∷ codes "--period" ∷ period ∷ codes "--turns" ∷ turns ∷ codes "--data" ∷ limit ∷ []) (at (store_found kits store)) (at (users_found kits store users)) (at (limit_found kits store users secret port cycles period turns limit)) (users_read kits store users p2.0)
    (then_read (codes "--secret") secret (codes "--port" ∷ port ∷ codes "--cycles" ∷ cycles ∷ codes "--period" ∷ period ∷ codes "--turns" ∷ turns ∷ codes "--data" ∷ limit ∷ []) (at (users_found kits store users)) (at (secret_found kits store users secret)) (at (limit_found kits store users secret port cycles period turns limit)) (secret_read kits store users secret p3.0)
    (then_read (codes "--port") port (codes "--cycles" ∷ cycles ∷ codes "--period" ∷ period ∷ codes "--turns" ∷ turns ∷ codes "--data" ∷ limit ∷ []) (at (secret_found kits store users secret)) (at (port_found kits store users secret port)) (at (limit_found kits store users secret port cycles period turns limit)) (port_read kits store users secret port p4.0)
    (then_read (codes "--cycles") cycles (codes "--period" ∷ period ∷ codes "--turns" ∷ turns ∷ codes "--data" ∷ limit ∷ []) (at (port_found kits store users secret port)) (at (cycles_found kits store users secret port cycles)) (at (limit_found kits store users secret port cycles period turns limit)) (cycles_read kits store users secret port cycles p5.0)
    (then_read (codes "--period") period (codes "--turns" ∷ turns ∷ codes "--data" ∷ limit ∷ []) (at (cycles_found kits store users secret port cycles)) (at (period_found kits store users secret port cycles period)) (at (limit_found kits store users secret port cycles period turns limit)) (period_read kits store users secret port cycles period p6.0)
    (then_read (codes "--turns") turns (codes "--data" ∷ limit ∷ []) (at (period_found kits store users secret port cycles period)) (at (turns_found kits store users secret port cycles period turns)) (at (limit_found kits store users secret port cycles period turns limit)) (turns_read kits store users secret port cycles period turns p7.0)
    (limit_read kits store users secret port cycles period turns limit p8.0)))))))))

needed_given : (kits store users secret port cycles : Text)
    → given_by (at (cycles_found kits store users secret port cycles)) [] ≡ asked_by kits store users secret port cycles (codes "100") (codes "10000") (codes "4194304")
unfolding clap_on_literals
needed_given kits store users secret port cycles = refl

all_given : (kits store users secret port cycles period turns limit : Text) → given_by (at (limit_found kits store users secret port cycles period turns limit)) [] ≡ asked_by kits store users secret port cycles period turns limit
unfolding clap_on_literals
all_given kits store users secret port cycles period turns limit = refl

pub needed_asked : (kits store users secret port cycles : Text) → list_all is_plain (kits ∷ store ∷ users ∷ secret ∷ port ∷ cycles ∷ []) ≡ true
    → run_of (needed_pairs kits store users secret port cycles) ≡ asked_by kits store users secret port cycles (codes "100") (codes "10000") (codes "4194304")
needed_asked kits store users secret port cycles plain =
    given (needed_pairs kits store users secret port cycles) (at (cycles_found kits store users secret port cycles)) (needed_read kits store users secret port cycles plain) refl
    ∙ needed_given kits store users secret port cycles

pub all_asked : (kits store users secret port cycles period turns limit : Text) → list_all is_plain (kits ∷ store ∷ users ∷ secret ∷ port ∷ cycles ∷ period ∷ turns ∷ limit ∷ []) ≡ true
    → run_of (needed_pairs kits store users secret port cycles ++ other_pairs period turns limit) ≡ asked_by kits store users secret port cycles period turns limit
all_asked kits store users secret port cycles period turns limit plain =
    given (needed_pairs kits store users secret port cycles ++ other_pairs period turns limit) (at (limit_found kits store users secret port cycles period turns limit)) (all_read kits store users secret port cycles period turns limit plain) refl
    ∙ all_given kits store users secret port cycles period turns limit
