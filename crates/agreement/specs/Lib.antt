pub mod SeatView
pub mod Rule
pub mod Place
