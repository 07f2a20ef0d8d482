pub mod LengthView
pub mod Rule
pub mod Place
