-- Which node of the definitions a node over an engine stands for.
use Rattle.std.specs.Prelude.{◌≡◌, Bool}
use Rattle.sed_engine.specs.declared.engine.Engine.{Ghosts}
use Rattle.sed_engine.specs.Code.{Meaning}
use Rattle.sed_engine.specs.Whole.{IsWhole}
use Rattle.comp_tree.specs.Whole.{Whole}
use Rattle.link_prop.specs.Linked.{application_of}
use Rattle.sox_events.specs.Due.{AllMarksAgree, HasRoom, subscriptions}
use Rattle.dasp_session.specs.Standing.{StandsFor as SessionsStandFor}
use Rattle.node_events.specs.Node.{KeepsWindows, Node, OnlyOfTheOpen, Setup}
use Rattle.sed_node.specs.declared.kept.Kept.{Kept}

-- ---- what no event changes

-- the code of its engine
abbrev pub code_of : {E : Type 0} → Ghosts E → Kept E → Meaning
code_of g kept = g.meaning kept.app.tree.engine

-- whether it never wants memory
abbrev pub is_fixed : {E : Type 0} → Ghosts E → Kept E → Bool
is_fixed g kept = g.fixed kept.app.tree.engine

-- the turns of each root call, and the bytes of a slot
abbrev pub setup_of : {E : Type 0} → Kept E → Setup
setup_of kept = record { turns = kept.turns; slot = kept.saver }

-- ---- what it stands for

-- it holds the node's application and what is subscribed, and its windows stand for the sessions
pub record Holds {E : Type 0} (g : Ghosts E) (kept : Kept E) (n : Node) : Type 0 where
  pub application : application_of g kept.app ≡ n.application
  pub sessions : SessionsStandFor kept.sessions n.sessions
  pub subscribed : subscriptions kept.subs ≡ n.subscriptions

-- what is kept beside: the code and the application are whole, the marks agree with what is subscribed, and there is
-- room for an event of every part
pub record IsKept {E : Type 0} (g : Ghosts E) (kept : Kept E) : Type 0 where
  pub code : IsWhole (code_of g kept)
  pub whole : Whole (code_of g kept) (application_of g kept.app)
  pub agree : AllMarksAgree g kept.app (subscriptions kept.subs)
  pub room : HasRoom (code_of g kept).schema kept.subs

-- a node of which only sessions that live and are authenticated have subscribed anything, and which keeps its windows
pub record StandsFor {E : Type 0} (g : Ghosts E) (kept : Kept E) (n : Node) : Type 0 where
  pub holds : Holds g kept n
  pub is_kept : IsKept g kept
  pub only_open : OnlyOfTheOpen n
  pub windows : KeepsWindows n.sessions

-- the code, what else no event changes, and whether the engine is fixed
pub record SameSetup {E : Type 0} (g : Ghosts E) (old new : Kept E) : Type 0 where
  pub code : code_of g new ≡ code_of g old
  pub setup : setup_of new ≡ setup_of old
  pub fixed : is_fixed g new ≡ is_fixed g old
