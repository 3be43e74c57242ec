-- Theory has document 03's statements of groups, splits and cores, Entry those of the calls, Promise what is proved of the calls.
pub mod Theory
pub mod Entry
pub mod Promise
