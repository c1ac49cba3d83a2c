-- What a disk is told to answer agrees with what it answered, where no call of it failed.
use Rattle.std.proofs.Common.{◌≡◌, ◌≢◌, ℕ, true, List, [], ◌∷◌, length, refl, sym, ap, subst, ◌∙◌, arith}
use Rattle.std.specs.Prelude.{Contains, IsTrue}
use Rattle.std.proofs.lemmas.List.Elements.{Contains-append_left, Contains-append_right}
use Rattle.disk_model.specs.Disk.{Image, Meaning}
use Rattle.disk_model.specs.declared.disk.Disk.{Ghosts as DiskGhosts}
use Rattle.app_save.specs.Store.{Opens as IsOpen}
use Rattle.sedona_laws.specs.Agree.{OpensAs, Pointwise, WritesAs}
use Rattle.sedona_cli.specs.Outside.{Ask, Reads, Writes, Attaches, Makes, Opens, Binds, Runs, Made, Whole, NotEmpty, Failed, Opened, Found, NotAStore, Unread, Unheld, Wrote, Written, Unwritten, Withheld, AreAsked, IsMade, IsOpened}
use Rattle.sedona_laws.specs.Told.{AreToldOf, HowMade, HowOpened}
use Rattle.sedona_laws.specs.Files.{unwritten_by, unwritten_in, unwritten_of, written_in, written_of}
use Rattle.sedona_cli.proofs.Ran.{OpensOnce}

empty_row : (asks : List Ask) → Pointwise asks []
empty_row [] = tt
empty_row (ask ∷ asks) = tt

-- a disk as it stands while its content is the same as at first
pub record Stands (m now : Meaning) : Type 0 where
  pub told : now.tells ≡ m.tells
  pub content : IsTrue m.tells → now.content ≡ m.content

made_alike : (m d e : Meaning) (S : ℕ) (payload : List ℕ) (how other : Made) → IsTrue m.tells → Stands m d → IsMade S payload how d e → HowMade m.content other → (how ≡ Failed → ⊥) → how ≡ other
made_alike m d e S payload Whole Whole told stands is told_so not = refl
made_alike m d e S payload Whole NotEmpty told stands is told_so not =
    absurd (told_so (ap (λ (i : Image). length i) (sym (stands.content told)) ∙ is.empty refl (stands.told ∙ told)))
made_alike m d e S payload Whole Failed told stands is told_so not = absurd told_so
made_alike m d e S payload NotEmpty Whole told stands is told_so not =
    absurd (is.exists refl (stands.told ∙ told) (ap (λ (i : Image). length i) (stands.content told) ∙ told_so))
made_alike m d e S payload NotEmpty NotEmpty told stands is told_so not = refl
made_alike m d e S payload NotEmpty Failed told stands is told_so not = absurd told_so
made_alike m d e S payload Failed other told stands is told_so not = absurd (not refl)

pub one_payload : OpensOnce → (S T : ℕ) (image : Image) (p q : List ℕ) → IsOpen S image p → IsOpen T image q → p ≡ q
one_payload once S T image p q is are = once.payload S image p q is (subst (λ (n : ℕ). IsOpen n image q) (sym (once.slot S T image is.store are.store)) are)

opened_alike : OpensOnce → (m d e : Meaning) (how other : Opened) → IsTrue m.tells → Stands m d → IsOpened how d e → HowOpened m.content other → (how ≡ Unread → ⊥) → OpensAs how other
opened_alike once m d e (Found p) (Found q) told stands is told_so not =
    let held = is.found p refl (stands.told ∙ told) in
    ap Found (one_payload once held.0 told_so.0 m.content p q (subst (λ (i : Image). IsOpen held.0 i p) (stands.content told) held.1) told_so.1)
opened_alike once m d e (Found p) NotAStore told stands is told_so not =
    let held = is.found p refl (stands.told ∙ told) in
    absurd (told_so held.0 (subst (λ (i : Image). IsOpen held.0 i p) (stands.content told) held.1).store)
opened_alike once m d e (Found p) Unread told stands is told_so not = absurd told_so
opened_alike once m d e (Found p) Unheld told stands is told_so not = absurd told_so
opened_alike once m d e NotAStore (Found q) told stands is told_so not =
    absurd (is.no_store refl (stands.told ∙ told) told_so.0 (subst (λ (i : Image). IsOpen told_so.0 i q) (sym (stands.content told)) told_so.1).store)
opened_alike once m d e NotAStore NotAStore told stands is told_so not = refl
opened_alike once m d e NotAStore Unread told stands is told_so not = absurd told_so
opened_alike once m d e NotAStore Unheld told stands is told_so not = absurd told_so
opened_alike once m d e Unread other told stands is told_so not = absurd (not refl)
opened_alike once m d e Unheld other told stands is told_so not = tt

-- no write that failed is told to be done
abbrev pub WritesKnown : List Ask → List Ask → Type 0
WritesKnown made told = (name : List ℕ) → Contains (unwritten_in made) name → Contains (written_in told) name → ⊥

known_behind : (one other : Ask) (made told : List Ask) → WritesKnown (one ∷ made) (other ∷ told) → WritesKnown made told
known_behind one other made told known = λ name here there.
    known name (Contains-append_right (unwritten_of one) (unwritten_in made) name here) (Contains-append_right (written_of other) (written_in told) name there)

written_alike : (how ended : Wrote) (name other : List ℕ) → ended ≡ Written → name ≡ other → (Contains (unwritten_by name how) name → Contains (other ∷ []) name → ⊥) → WritesAs how ended
written_alike Written ended name other is same not = sym is
written_alike Unwritten ended name other is same not = absurd (not (0, omega arith, refl) (0, omega arith, sym same))
written_alike Withheld ended name other is same not = tt

-- no call of the disk failed but in a run, and every port that was asked for was taken
abbrev pub NoneFailed : List Ask → Type 0
NoneFailed [] = Unit {0}
NoneFailed (Reads read ∷ asks) = NoneFailed asks
NoneFailed (Writes name bytes how ∷ asks) = NoneFailed asks
NoneFailed (Attaches name done ∷ asks) = (done ≡ true) × NoneFailed asks
NoneFailed (Makes slot payload how ∷ asks) = (how ≢ Failed) × NoneFailed asks
NoneFailed (Opens how ∷ asks) = (how ≢ Unread) × NoneFailed asks
NoneFailed (Binds port done ∷ asks) = (done ≡ true) × NoneFailed asks
NoneFailed (Runs ran ∷ asks) = NoneFailed asks

pub disk_agrees : OpensOnce → {T : Type 0} (D : DiskGhosts T) (m : Meaning) (made told : List Ask) (d e : T) → WritesKnown made told → NoneFailed made → AreAsked D made d e → AreToldOf m told → Stands m (D.meaning d)
    → Pointwise made told
disk_agrees once D m [] told d e known bound asked are stands = tt
disk_agrees once D m (ask ∷ made) [] d e known bound asked are stands = tt
disk_agrees once D m (Reads read ∷ made) (Reads other ∷ told) d e known bound asked are stands = (
  tt,
  λ same. disk_agrees once D m made told asked.0 e (known_behind (Reads read) (Reads other) made told known) bound asked.2 are (subst (λ t. Stands m (D.meaning t)) (sym asked.1) stands),
)
disk_agrees once D m (Reads read ∷ made) (Attaches name done ∷ told) d e known bound asked are stands = (tt, λ same. absurd (cc))
disk_agrees once D m (Reads read ∷ made) (Makes slot payload how ∷ told) d e known bound asked are stands = (tt, λ same. absurd (cc))
disk_agrees once D m (Attaches name done ∷ made) (Reads other ∷ told) d e known bound asked are stands = (tt, λ same. absurd (cc))
disk_agrees once D m (Attaches name done ∷ made) (Attaches other how ∷ told) d e known bound asked are stands = (
  λ named. bound.0 ∙ sym are.0,
  λ same. disk_agrees once D m made told asked.0 e (known_behind (Attaches name done) (Attaches other how) made told known) bound.1 asked.2 are.1
      (record { told = asked.1.time.told ∙ stands.told; content = λ is. (asked.1.keeps (stands.told ∙ is)).content ∙ stands.content is }),
)
disk_agrees once D m (Attaches name done ∷ made) (Makes slot payload how ∷ told) d e known bound asked are stands = (tt, λ same. absurd (cc))
disk_agrees once D m (Makes slot payload how ∷ made) (Reads other ∷ told) d e known bound asked are stands = (tt, λ same. absurd (cc))
disk_agrees once D m (Makes slot payload how ∷ made) (Attaches name done ∷ told) d e known bound asked are stands = (tt, λ same. absurd (cc))
disk_agrees once D m (Makes slot payload how ∷ made) (Makes other bytes ended ∷ told) d e known bound asked are stands = (
  λ sized alike. made_alike m (D.meaning d) (D.meaning asked.0) slot payload how ended are.0 stands asked.1 are.1 bound.0,
  λ same. subst (λ (l : List Ask). Pointwise made l) (sym are.2) (empty_row made),
)
disk_agrees once D m (Reads read ∷ made) (Opens how ∷ told) d e known bound asked are stands = (tt, λ same. absurd (cc))
disk_agrees once D m (Attaches name done ∷ made) (Opens how ∷ told) d e known bound asked are stands = (tt, λ same. absurd (cc))
disk_agrees once D m (Makes slot payload how ∷ made) (Opens other ∷ told) d e known bound asked are stands = (tt, λ same. absurd (cc))
disk_agrees once D m (Reads read ∷ made) (Runs ran ∷ told) d e known bound asked are stands = (tt, λ same. absurd (cc))
disk_agrees once D m (Attaches name done ∷ made) (Runs ran ∷ told) d e known bound asked are stands = (tt, λ same. absurd (cc))
disk_agrees once D m (Makes slot payload how ∷ made) (Runs ran ∷ told) d e known bound asked are stands = (tt, λ same. absurd (cc))
disk_agrees once D m (Opens how ∷ made) (Runs ran ∷ told) d e known bound asked are stands = (tt, λ same. absurd (cc))
disk_agrees once D m (Runs ran ∷ made) (Reads other ∷ told) d e known bound asked are stands = (tt, λ same. absurd (cc))
disk_agrees once D m (Runs ran ∷ made) (Attaches name done ∷ told) d e known bound asked are stands = (tt, λ same. absurd (cc))
disk_agrees once D m (Runs ran ∷ made) (Makes slot payload how ∷ told) d e known bound asked are stands = (tt, λ same. absurd (cc))
disk_agrees once D m (Runs ran ∷ made) (Opens how ∷ told) d e known bound asked are stands = (tt, λ same. absurd (cc))
disk_agrees once D m (Runs ran ∷ made) (Runs other ∷ told) d e known bound asked are stands = (tt, λ same. subst (λ (l : List Ask). Pointwise made l) (sym are) (empty_row made))
disk_agrees once D m (Opens how ∷ made) (Reads other ∷ told) d e known bound asked are stands = (tt, λ same. absurd (cc))
disk_agrees once D m (Opens how ∷ made) (Attaches name done ∷ told) d e known bound asked are stands = (tt, λ same. absurd (cc))
disk_agrees once D m (Opens how ∷ made) (Makes slot payload other ∷ told) d e known bound asked are stands = (tt, λ same. absurd (cc))
disk_agrees once D m (Opens how ∷ made) (Opens other ∷ told) d e known bound asked are stands =
    let done : how ≡ Unread → ⊥ = bound.0 in (
      opened_alike once m (D.meaning d) (D.meaning asked.0) how other are.0 stands asked.1 are.1 done,
      λ same. disk_agrees once D m made told asked.0 e (known_behind (Opens how) (Opens other) made told known) bound.1 asked.2 are.2
          (record { told = asked.1.time.told ∙ stands.told; content = λ is. asked.1.content (stands.told ∙ is) done ∙ stands.content is }),
    )
disk_agrees once D m (Writes name bytes how ∷ made) (Reads read ∷ told) d e known bound asked are stands = (tt, λ same. absurd (cc))
disk_agrees once D m (Reads read ∷ made) (Writes name bytes how ∷ told) d e known bound asked are stands = (tt, λ same. absurd (cc))
disk_agrees once D m (Writes name bytes how ∷ made) (Attaches file done ∷ told) d e known bound asked are stands = (tt, λ same. absurd (cc))
disk_agrees once D m (Attaches file done ∷ made) (Writes name bytes how ∷ told) d e known bound asked are stands = (tt, λ same. absurd (cc))
disk_agrees once D m (Writes name bytes how ∷ made) (Makes slot payload ended ∷ told) d e known bound asked are stands = (tt, λ same. absurd (cc))
disk_agrees once D m (Makes slot payload ended ∷ made) (Writes name bytes how ∷ told) d e known bound asked are stands = (tt, λ same. absurd (cc))
disk_agrees once D m (Writes name bytes how ∷ made) (Opens ended ∷ told) d e known bound asked are stands = (tt, λ same. absurd (cc))
disk_agrees once D m (Opens ended ∷ made) (Writes name bytes how ∷ told) d e known bound asked are stands = (tt, λ same. absurd (cc))
disk_agrees once D m (Writes name bytes how ∷ made) (Runs ran ∷ told) d e known bound asked are stands = (tt, λ same. absurd (cc))
disk_agrees once D m (Runs ran ∷ made) (Writes name bytes how ∷ told) d e known bound asked are stands = (tt, λ same. absurd (cc))
disk_agrees once D m (Writes name bytes how ∷ made) (Writes other more ended ∷ told) d e known bound asked are stands = (
  λ named. written_alike how ended name other are.0 named
      (λ here there. known name (Contains-append_left (unwritten_of (Writes name bytes how)) (unwritten_in made) name here) (Contains-append_left (other ∷ []) (written_in told) name there)),
  λ same. disk_agrees once D m made told asked.0 e (known_behind (Writes name bytes how) (Writes other more ended) made told known) bound asked.2 are.1 (subst (λ t. Stands m (D.meaning t)) (sym asked.1) stands),
)
disk_agrees once D m (Binds port done ∷ made) (Reads read ∷ told) d e known bound asked are stands = (tt, λ same. absurd (cc))
disk_agrees once D m (Reads read ∷ made) (Binds port done ∷ told) d e known bound asked are stands = (tt, λ same. absurd (cc))
disk_agrees once D m (Binds port done ∷ made) (Writes name bytes how ∷ told) d e known bound asked are stands = (tt, λ same. absurd (cc))
disk_agrees once D m (Writes name bytes how ∷ made) (Binds port done ∷ told) d e known bound asked are stands = (tt, λ same. absurd (cc))
disk_agrees once D m (Binds port done ∷ made) (Attaches name ended ∷ told) d e known bound asked are stands = (tt, λ same. absurd (cc))
disk_agrees once D m (Attaches name ended ∷ made) (Binds port done ∷ told) d e known bound asked are stands = (tt, λ same. absurd (cc))
disk_agrees once D m (Binds port done ∷ made) (Makes slot payload how ∷ told) d e known bound asked are stands = (tt, λ same. absurd (cc))
disk_agrees once D m (Makes slot payload how ∷ made) (Binds port done ∷ told) d e known bound asked are stands = (tt, λ same. absurd (cc))
disk_agrees once D m (Binds port done ∷ made) (Opens how ∷ told) d e known bound asked are stands = (tt, λ same. absurd (cc))
disk_agrees once D m (Opens how ∷ made) (Binds port done ∷ told) d e known bound asked are stands = (tt, λ same. absurd (cc))
disk_agrees once D m (Binds port done ∷ made) (Runs ran ∷ told) d e known bound asked are stands = (tt, λ same. absurd (cc))
disk_agrees once D m (Runs ran ∷ made) (Binds port done ∷ told) d e known bound asked are stands = (tt, λ same. absurd (cc))
disk_agrees once D m (Binds port done ∷ made) (Binds other ended ∷ told) d e known bound asked are stands = (
  λ same. bound.0 ∙ sym are.0,
  λ same. disk_agrees once D m made told asked.0 e (known_behind (Binds port done) (Binds other ended) made told known) bound.1 asked.2 are.1 (subst (λ t. Stands m (D.meaning t)) (sym asked.1) stands),
)
