-- The bases of the types of `sys`.
pub use Rattle.sed_outline.proofs.Bounds.{named, base_obj, base_virtual, base_component, base_app, base_folder}
