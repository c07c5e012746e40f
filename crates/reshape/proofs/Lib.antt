pub mod ReshapeLaws
pub mod WholeLaws
