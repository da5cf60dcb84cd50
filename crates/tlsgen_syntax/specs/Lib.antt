pub mod Apart
pub mod Comments
pub mod Signs
