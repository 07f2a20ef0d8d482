pub mod Rule
pub mod Place
