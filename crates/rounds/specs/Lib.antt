-- Known says what is known of a list when a round begins, Search what rounds take and leave.
pub mod Known
pub mod Search
