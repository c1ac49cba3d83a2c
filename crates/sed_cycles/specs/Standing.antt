-- When a component of an engine is a component alone.
use Rattle.std.specs.Prelude.{◌≡◌, Some}
use Rattle.std.specs.FinMap as map
use Rattle.sed_typed.specs.Contents.{Contents}
use Rattle.sed_engine.specs.Code.{Places}
use Rattle.sed_cycles.specs.declared.component.Component.{Component}
use Rattle.sed_cycles.specs.Alone.{Alone}

-- Where these places are live beside these statics, the component is this one.
pub record StandsFor (live : Places) (statics : Contents) (c : Component) (a : Alone) : Type 0 where
  pub object : map.get live c.place.0 ≡ Some a.object
  pub statics_are : statics ≡ a.statics
  pub class : c.class.0 ≡ a.object.class
  pub fault : c.fault ≡ a.fault
