pub mod Due
