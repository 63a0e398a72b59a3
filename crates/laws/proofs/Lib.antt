-- Laws that more than one part cites.
pub mod Bools
pub mod Bits
pub mod OneBit
pub mod FirstBits
pub mod Digits
pub mod Lists
pub mod Judged
pub mod Filling
pub mod Folding
pub mod Lending
pub mod Rooms
pub mod OneValue
pub mod Refusals
pub mod LentAfter
